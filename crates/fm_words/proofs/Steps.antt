-- One option more.
use Rattle.std.proofs.Common.{◌≡◌, List, ◌∷◌, refl, ap, ◌∙◌}
use Rattle.std.specs.Prelude.{Option, Some, None, option_and_then}
use Rattle.fm_words.specs.declared.option.Setting.{Setting}
use Rattle.fm_words.specs.Words.{first_and_others}

pub same_answer : {A B : Type 0} (f g : A → Option B) (o : Option A) → ((a : A) → f a ≡ g a) → option_and_then f o ≡ option_and_then g o
same_answer f g (Some a) h = h a
same_answer f g None h = refl

module _ {B : Type 0} (f : List Setting → Option B) (s : Setting) where
  none_first : (others : Option (List Setting)) → ((ss : List Setting) → f (s ∷ ss) ≡ None) → option_and_then f (first_and_others (Some s) others) ≡ None
  none_first (Some ss) h = h ss
  none_first None h = refl

  next_first : (g : List Setting → Option B) (others : Option (List Setting)) → ((ss : List Setting) → f (s ∷ ss) ≡ g ss) → option_and_then f (first_and_others (Some s) others) ≡ option_and_then g others
  next_first g (Some ss) h = h ss
  next_first g None h = refl

  -- an option that can't stand in front of others
  pub refused_first : (all others : Option (List Setting)) → all ≡ first_and_others (Some s) others → ((ss : List Setting) → f (s ∷ ss) ≡ None) → option_and_then f all ≡ None
  refused_first all others e h = ap (option_and_then f) e ∙ none_first others h

  -- an option in front of others that are read by g
  pub taken_first : (g : List Setting → Option B) (all others : Option (List Setting)) → all ≡ first_and_others (Some s) others → ((ss : List Setting) → f (s ∷ ss) ≡ g ss) → option_and_then f all ≡ option_and_then g others
  taken_first g all others e h = ap (option_and_then f) e ∙ next_first g others h
