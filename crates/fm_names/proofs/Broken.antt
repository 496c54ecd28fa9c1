-- The least place of a program whose names break a rule, and the names where none does.
use Rattle.std.proofs.Common.{◌≡◌, ℕ, ◌+◌, ◌<◌, Bool, List, [], ◌∷◌, ◌++◌, map, drop, length, get_or, refl, sym, ap, subst, ◌∙◌, append_assoc}
use Rattle.std.specs.Prelude.{Option, Some, None, Contains}
use Rattle.std.specs.List.{flat_map}
use Rattle.std.proofs.lemmas.List.{drop_more, append-nil}
use Rattle.fm_base.specs.declared.rule.Refusal.{Refusal}
use Rattle.fm_base.specs.Verdict.{IsClean, IsLeast, IsVerdict, LeastLaw, earlier, least, least_from}
use Rattle.fm_base.proofs.Least.{least_from_append}
use Rattle.fm_tree.specs.declared.program_unit.Unit as program
use Rattle.fm_symbols.specs.ByName.{ByName}
use Rattle.fm_symbols.specs.declared.names.UnitNames.{UnitNames}
use Rattle.fm_rules.specs.FunctionTitles.{titles_of}
use Rattle.fm_rules.specs.BrokenNames.{broken_in, broken_names}
use Rattle.fm_names.specs.Layouts.{IsNamed, names_unless}
use Rattle.fm_rules.specs.Names.{unit_names}

-- once something is broken, something stays broken
pub stays_some : (p : Refusal) (qs : List Refusal) → least_from (Some p) qs ≡ None → ⊥
stays_some p [] e = absurd (some-none e)
  where
    some-none : Some p ≡ None → ⊥
    some-none x = cc
stays_some p (q ∷ qs) e = stays_some (earlier p q) qs e

-- the least place so far, and with it the names so far, where there is none
pub record Named (titles : ByName Bool) (best : Option Refusal) (names : List UnitNames) (rest all : List program.Unit) : Type 0 where
  pub least_is : least_from best (flat_map (broken_in titles) rest) ≡ least (flat_map (broken_in titles) all)
  pub all_are : IsNamed best (names ++ map (unit_names titles) rest) (map (unit_names titles) all)

-- one more unit's names
names_more : (titles : ByName Bool) (u : program.Unit) (rest all : List program.Unit) (old new : Option Refusal) (before after : List UnitNames)
    → new ≡ least_from old (broken_in titles u) → after ≡ before ++ names_unless new (unit_names titles u)
    → IsNamed old (before ++ map (unit_names titles) (u ∷ rest)) (map (unit_names titles) all) → IsNamed new (after ++ map (unit_names titles) rest) (map (unit_names titles) all)
names_more titles u rest all old (Some q) before after least made named = tt
names_more titles u rest all (Some p) None before after least made named = absurd (stays_some p (broken_in titles u) (sym least))
names_more titles u rest all None None before after least made named =
    ap (λ l. l ++ map (unit_names titles) rest) made ∙ append_assoc before (unit_names titles u ∷ []) (map (unit_names titles) rest) ∙ named

pub named_more : (titles : ByName Bool) (all : List program.Unit) (i : ℕ) (u : program.Unit) (old new : Option Refusal) (before after : List UnitNames) → i < length all → u ≡ get_or all i u
    → new ≡ least_from old (broken_in titles u) → after ≡ before ++ names_unless new (unit_names titles u)
    → Named titles old before (drop i all) all → Named titles new after (drop (i + 1) all) all
named_more titles all i u old new before after below is least made named =
    let split = drop_more all i u below ∙ ap (λ x. x ∷ drop (i + 1) all) (sym is) in
    record {
      least_is =
          ap (λ x. least_from x (flat_map (broken_in titles) (drop (i + 1) all))) least
          ∙ sym (least_from_append old (broken_in titles u) (flat_map (broken_in titles) (drop (i + 1) all)))
          ∙ ap (λ (l : List program.Unit). least_from old (flat_map (broken_in titles) l)) (sym split) ∙ named.least_is;
      all_are = names_more titles u (drop (i + 1) all) all old new before after least made
          (subst (λ (l : List program.Unit). IsNamed old (before ++ map (unit_names titles) l) (map (unit_names titles) all)) split named.all_are);
    }

no_more : (best : Option Refusal) (names all : List UnitNames) → IsNamed best (names ++ []) all → IsNamed best names all
no_more None names all named = sym (append-nil names) ∙ named
no_more (Some q) names all named = tt

pub all_named : (titles : ByName Bool) (best : Option Refusal) (names : List UnitNames) (all : List program.Unit) → Named titles best names [] all
    → IsNamed best names (map (unit_names titles) all)
all_named titles best names all named = no_more best names (map (unit_names titles) all) named.all_are

pub all_clean : LeastLaw → (qs : List Refusal) (best : Option Refusal) → best ≡ least qs → best ≡ None → IsClean (Contains qs)
all_clean law qs best is none = subst (IsVerdict (Contains qs)) (sym is ∙ none) (law qs)

pub not_some : (best : Option Refusal) → ((q : Refusal) → best ≡ Some q → ⊥) → best ≡ None
not_some None h = refl
not_some (Some q) h = absurd (h q refl)

-- the least place of the whole program
pub least_of : (titles : ByName Bool) (us vs : List program.Unit) (best : Option Refusal) → us ≡ vs → titles ≡ titles_of us → best ≡ least (flat_map (broken_in titles) us) → best ≡ least (broken_names vs)
least_of titles us vs best same known is =
    is ∙ ap (λ (t : ByName Bool). least (flat_map (broken_in t) us)) known ∙ ap (λ (l : List program.Unit). least (broken_names l)) same

pub refused_is : LeastLaw → (qs : List Refusal) (best : Option Refusal) (p : Refusal) → best ≡ least qs → best ≡ Some p → IsLeast (Contains qs) p
refused_is law qs best p is some = subst (IsVerdict (Contains qs)) (sym is ∙ some) (law qs)
