-- The options of words as they are spelled, and what `clap` makes of all the words.
use Rattle.std.proofs.Common.{◌≡◌, ℕ, Bool, true, false, cond, ◌&&◌, List, [], ◌∷◌, ◌++◌, take, drop, length, nat_eq, ◌==◌, refl, ap, sym, subst, ◌∙◌, codes, arith}
use Rattle.std.specs.Prelude.{Option, Some, None, option_map, option_and_then, unwrap_or, fold, if◌then◌else◌}
use Rattle.std.specs.List.{list_all}
use Rattle.std.specs.Char.{is_ascii_digit}
use Rattle.std.specs.Option.{option_map_or}
use Rattle.std.specs.Str.{bytes_eq}
use Rattle.std.specs.Str.Parse.{digits_value}
use Rattle.std.proofs.lemmas.Bool.Decides.{nat_tests}
use Rattle.std.proofs.lemmas.List.{take-append-drop}
use Rattle.std.proofs.lemmas.Option.{none-some}
use Rattle.std.proofs.lemmas.Slice.Eq.{bytes_eq-Decides}
use Rattle.clap.specs.Walk.{Held, Row, Text, Walk, settled, reacted, used, walked}
use Rattle.fm_base.specs.declared.schedule.Plan.{Plan}
use Rattle.fm_base.specs.declared.schedule.Plan.TheVariants.{Cyclic, Block}
use Rattle.fm_words.specs.declared.option.OptionName.{OptionName}
use Rattle.fm_words.specs.declared.option.OptionName.TheVariants as name
use Rattle.fm_words.specs.declared.option.Setting.{Setting}
use Rattle.fm_words.specs.declared.option.Setting.TheVariants.{Turns, Workers, Slice, PlanIs, Vars}
use Rattle.fm_words.specs.Words.{is_numeral, number_of, plan_of, setting_with, name_of, has_front, name_and_value, setting_of, first_and_others, settings_of, settings_behind}
use Rattle.fm_words.proofs.Numerals.{digit, both_true, short}
use Rattle.fm_words.proofs.Walks.{valued, flag, rules_of, id_of, text_of, front_of, at, awaits, IsPlain, filled_with, named, attached, flagged, behind_name}

-- ---- spelled options

pub some_same : {A : Type 0} (a b : A) → Some a ≡ Some b → a ≡ b
some_same {A = A} a b e = ap (λ (o : Option A). unwrap_or o a) e

-- an option with its value, or `--vars`
pub data Spelled : Type 0 where
  pair : OptionName → Text → Spelled
  lone : Spelled

pub data Reads : Spelled → Setting → Type 0 where
  turns : {v : Text} {n : ℕ} → number_of v ≡ Some n → Reads (pair name.Turns v) (Turns n)
  workers : {v : Text} {n : ℕ} → number_of v ≡ Some n → Reads (pair name.Workers v) (Workers n)
  slice : {v : Text} {n : ℕ} → number_of v ≡ Some n → Reads (pair name.Slice v) (Slice n)
  plan : {v : Text} {p : Plan} → plan_of v ≡ Some p → Reads (pair name.Plan v) (PlanIs p)
  vars : Reads lone Vars

pub data ReadAll : List Spelled → List Setting → Type 0 where
  none : ReadAll [] []
  more : {u : Spelled} {s : Setting} {us : List Spelled} {ss : List Setting} → Reads u s → ReadAll us ss → ReadAll (u ∷ us) (s ∷ ss)

reads_as : {A : Type 0} (u : Spelled) (f : A → Setting) (o : Option A) (s : Setting) → ((a : A) → o ≡ Some a → Reads u (f a)) → option_map f o ≡ Some s → Reads u s
reads_as u f (Some a) s h e = subst (λ (t : Setting). Reads u t) (some_same (f a) s e) (h a refl)
reads_as u f None s h e = absurd (none-some s e)

pub reads_of : (n : OptionName) (v : Text) (s : Setting) → setting_with n v ≡ Some s → Reads (pair n v) s
reads_of name.Turns v s e = reads_as (pair name.Turns v) Turns (number_of v) s (λ a h. turns h) e
reads_of name.Workers v s e = reads_as (pair name.Workers v) Workers (number_of v) s (λ a h. workers h) e
reads_of name.Slice v s e = reads_as (pair name.Slice v) Slice (number_of v) s (λ a h. slice h) e
reads_of name.Plan v s e = reads_as (pair name.Plan v) PlanIs (plan_of v) s (λ a h. plan h) e

-- ---- values begin with no hyphen

where_true : {A : Type 0} (b : Bool) (x a : A) → cond b (Some x) None ≡ Some a → b ≡ true
where_true true x a e = refl
where_true false x a e = absurd (none-some a e)

plain_digits : (v : Text) → is_numeral v ≡ true → IsPlain v
plain_digits [] e = record { no_hyphen = refl; no_hyphens = refl }
plain_digits (d ∷ ds) e =
    let q = digit d (both_true (is_ascii_digit d) (list_all is_ascii_digit ds) (short (d ∷ ds) e).digits).0 in
    let other : (d == 45) ≡ false = grind (arith, nat_tests, q.1) in
    let differs : nat_eq d 45 ≡ false = grind (arith, nat_tests, q.1) in
    record {
      no_hyphen = ap (λ (t : Bool). if t then Some ds else None) other;
      no_hyphens = ap (λ (t : Bool). t && bytes_eq ds (45 ∷ [])) differs;
    }

pub plain_number : (v : Text) (n : ℕ) → number_of v ≡ Some n → IsPlain v
plain_number v n e = plain_digits v (where_true (is_numeral v) (digits_value 10 v) n e)

plain_choice : (v : Text) (p : Plan) (b c : Bool) → (b ≡ true → IsPlain v) → (c ≡ true → IsPlain v) → cond b (Some Cyclic) (cond c (Some Block) None) ≡ Some p → IsPlain v
plain_choice v p true c f g e = f refl
plain_choice v p false true f g e = g refl
plain_choice v p false false f g e = absurd (none-some p e)

same_word : (v w : Text) → bytes_eq v w ≡ true → v ≡ w
same_word v w = (bytes_eq-Decides v w).0

plain_plan : (v : Text) (p : Plan) → plan_of v ≡ Some p → IsPlain v
plain_plan v p e = plain_choice v p (bytes_eq v (codes "cyclic")) (bytes_eq v (codes "block"))
    (λ h. subst IsPlain (sym (same_word v (codes "cyclic") h)) (record { no_hyphen = refl; no_hyphens = refl }))
    (λ h. subst IsPlain (sym (same_word v (codes "block") h)) (record { no_hyphen = refl; no_hyphens = refl })) e

plain_where : {A : Type 0} (v : Text) (f : A → Setting) (o : Option A) (s : Setting) → ((a : A) → o ≡ Some a → IsPlain v) → option_map f o ≡ Some s → IsPlain v
plain_where v f (Some a) s h e = h a refl
plain_where v f None s h e = absurd (none-some s e)

plain_value : (n : OptionName) (v : Text) (s : Setting) → setting_with n v ≡ Some s → IsPlain v
plain_value name.Turns v s e = plain_where v Turns (number_of v) s (plain_number v) e
plain_value name.Workers v s e = plain_where v Workers (number_of v) s (plain_number v) e
plain_value name.Slice v s e = plain_where v Slice (number_of v) s (plain_number v) e
plain_value name.Plan v s e = plain_where v PlanIs (plan_of v) s (plain_plan v) e

-- ---- what a word is

first_name : (w : Text) (k n : OptionName) (rest : Option OptionName) (b : Bool) → (b ≡ true → w ≡ text_of k) → (rest ≡ Some n → w ≡ text_of n) → cond b (Some k) rest ≡ Some n → w ≡ text_of n
first_name w k n rest true f g e = f refl ∙ ap text_of (some_same k n e)
first_name w k n rest false f g e = g e

word_of_name : (w : Text) (n : OptionName) → name_of w ≡ Some n → w ≡ text_of n
word_of_name w n =
    first_name w name.Turns n _ (bytes_eq w (codes "--turns")) (same_word w (codes "--turns"))
    (first_name w name.Workers n _ (bytes_eq w (codes "--workers")) (same_word w (codes "--workers"))
    (first_name w name.Slice n _ (bytes_eq w (codes "--slice")) (same_word w (codes "--slice"))
    (first_name w name.Plan n None (bytes_eq w (codes "--plan")) (same_word w (codes "--plan"))
    (λ e. absurd (none-some n e)))))

-- a word that is an option with its value
pub record IsPair (w : Text) (p : OptionName × Text) : Type 0 where
  pub word : w ≡ front_of p.0 ++ p.1

front_stands : (w : Text) (k : OptionName) → bytes_eq (take (length (front_of k)) w) (front_of k) ≡ true → IsPair w (k, drop (length (front_of k)) w)
front_stands w k e = record {
  word = sym (take-append-drop (length (front_of k)) w)
      ∙ ap (λ (f : Text). f ++ drop (length (front_of k)) w) (same_word (take (length (front_of k)) w) (front_of k) e);
}

first_pair : (w : Text) (k p : OptionName × Text) (rest : Option (OptionName × Text)) (b : Bool) → (b ≡ true → IsPair w k) → (rest ≡ Some p → IsPair w p) → cond b (Some k) rest ≡ Some p → IsPair w p
first_pair w k p rest true f g e = subst (IsPair w) (some_same k p e) (f refl)
first_pair w k p rest false f g e = g e

word_of_pair : (w : Text) (p : OptionName × Text) → name_and_value w ≡ Some p → IsPair w p
word_of_pair w p =
    first_pair w (name.Turns, drop 8 w) p _ (has_front (codes "--turns=") w) (front_stands w name.Turns)
    (first_pair w (name.Workers, drop 10 w) p _ (has_front (codes "--workers=") w) (front_stands w name.Workers)
    (first_pair w (name.Slice, drop 8 w) p _ (has_front (codes "--slice=") w) (front_stands w name.Slice)
    (first_pair w (name.Plan, drop 7 w) p None (has_front (codes "--plan=") w) (front_stands w name.Plan)
    (λ e. absurd (none-some p e)))))

-- ---- one option

abbrev pub used_by : List Row → Spelled → List Row
used_by rows (pair n v) = used (valued (id_of n)) (v ∷ []) rows
used_by rows lone = used flag [] rows

abbrev pub rows_at : Bool → Held → List Row
rows_at b h = (settled (rules_of b) h).rows

value_used : (b : Bool) (h : Held) (n : OptionName) (v : Text) → rows_at b (filled_with b n v h) ≡ used_by (rows_at b h) (pair n v)
value_used false h name.Turns v = refl
value_used false h name.Workers v = refl
value_used false h name.Slice v = refl
value_used false h name.Plan v = refl
value_used true h name.Turns v = refl
value_used true h name.Workers v = refl
value_used true h name.Slice v = refl
value_used true h name.Plan v = refl

-- a word that is an option takes the walk to where it was used
pub record IsUsed (b : Bool) (p : ℕ) (start : Walk) (rows : List Row) (w : Text) (s : Setting) : Type 0 where
  pub spelled : Spelled
  pub reads : Reads spelled s
  pub held : Held
  pub ends : walked (rules_of b) [] start w ≡ at p held
  pub rows_are : rows_at b held ≡ used_by rows spelled

vars_word : (b : Bool) (p : ℕ) (h : Held) (w : Text) (s : Setting) → w ≡ codes "--vars" → Vars ≡ s → IsUsed b p (at p h) (rows_at b h) w s
vars_word b p h w s e f = record {
  spelled = lone;
  reads = subst (λ (t : Setting). Reads lone t) f vars;
  held = reacted (rules_of b) flag [] h;
  ends = ap (walked (rules_of b) [] (at p h)) e ∙ flagged b p h;
  rows_are = refl;
}

pair_word : (b : Bool) (p : ℕ) (h : Held) (w : Text) (s : Setting) (q : OptionName × Text) → IsPair w q → setting_with q.0 q.1 ≡ Some s → IsUsed b p (at p h) (rows_at b h) w s
pair_word b p h w s q e f = record {
  spelled = pair q.0 q.1;
  reads = reads_of q.0 q.1 s f;
  held = reacted (rules_of b) (valued (id_of q.0)) (q.1 ∷ []) h;
  ends = ap (walked (rules_of b) [] (at p h)) e.word ∙ attached b p h q.0 q.1;
  rows_are = refl;
}

pair_or_none : (b : Bool) (p : ℕ) (h : Held) (w : Text) (s : Setting) (o : Option (OptionName × Text)) → ((q : OptionName × Text) → o ≡ Some q → IsPair w q)
    → option_and_then (λ q. setting_with q.0 q.1) o ≡ Some s → IsUsed b p (at p h) (rows_at b h) w s
pair_or_none b p h w s (Some q) f e = pair_word b p h w s q (f q refl) e
pair_or_none b p h w s None f e = absurd (none-some s e)

either_word : (b : Bool) (p : ℕ) (h : Held) (w : Text) (s : Setting) (t : Bool) → (t ≡ true → w ≡ codes "--vars")
    → cond t (Some Vars) (option_and_then (λ q. setting_with q.0 q.1) (name_and_value w)) ≡ Some s → IsUsed b p (at p h) (rows_at b h) w s
either_word b p h w s true f e = vars_word b p h w s (f refl) (some_same Vars s e)
either_word b p h w s false f e = pair_or_none b p h w s (name_and_value w) (word_of_pair w) e

one_word : (b : Bool) (p : ℕ) (h : Held) (w : Text) (s : Setting) → setting_of w ≡ Some s → IsUsed b p (at p h) (rows_at b h) w s
one_word b p h w s = either_word b p h w s (bytes_eq w (codes "--vars")) (same_word w (codes "--vars"))

value_word : (b : Bool) (p : ℕ) (h : Held) (n : OptionName) (v : Text) (s : Setting) → setting_with n v ≡ Some s → IsUsed b p (awaits b p n h) (rows_at b h) v s
value_word b p h n v s e = record {
  spelled = pair n v;
  reads = reads_of n v s e;
  held = filled_with b n v h;
  ends = behind_name b p h n v (plain_value n v s e);
  rows_are = value_used b h n v;
}

-- ---- all the words

pub record AreUsed (b : Bool) (p : ℕ) (start : Walk) (rows : List Row) (ws : List Text) (ss : List Setting) : Type 0 where
  pub spelled : List Spelled
  pub reads : ReadAll spelled ss
  pub held : Held
  pub ends : fold (walked (rules_of b) []) start ws ≡ at p held
  pub rows_are : rows_at b held ≡ fold used_by rows spelled

abbrev WordsUsed : Bool → ℕ → List Text → Type 0
WordsUsed b p ws = (ss : List Setting) → settings_of ws ≡ Some ss → (h : Held) → AreUsed b p (at p h) (rows_at b h) ws ss

abbrev BehindUsed : Bool → ℕ → List Text → Type 0
BehindUsed b p ws = (n : OptionName) (ss : List Setting) → settings_behind ws n ≡ Some ss → (h : Held) → AreUsed b p (awaits b p n h) (rows_at b h) ws ss

joined : (b : Bool) (p : ℕ) (start : Walk) (rows : List Row) (w : Text) (ws : List Text) (s : Setting) (ss all : List Setting) → s ∷ ss ≡ all
    → (u : IsUsed b p start rows w s) → AreUsed b p (at p u.held) (rows_at b u.held) ws ss → AreUsed b p start rows (w ∷ ws) all
joined b p start rows w ws s ss all e u us = record {
  spelled = u.spelled ∷ us.spelled;
  reads = subst (ReadAll (u.spelled ∷ us.spelled)) e (more u.reads us.reads);
  held = us.held;
  ends = ap (λ (x : Walk). fold (walked (rules_of b) []) x ws) u.ends ∙ us.ends;
  rows_are = us.rows_are ∙ ap (λ (r : List Row). fold used_by r us.spelled) u.rows_are;
}

-- an option and those behind it
split : (b : Bool) (p : ℕ) (start : Walk) (rows : List Row) (w : Text) (ws : List Text) (first : Option Setting) (others : Option (List Setting)) (all : List Setting)
    → ((s : Setting) → first ≡ Some s → IsUsed b p start rows w s) → ((ss : List Setting) → others ≡ Some ss → (h : Held) → AreUsed b p (at p h) (rows_at b h) ws ss)
    → first_and_others first others ≡ Some all → AreUsed b p start rows (w ∷ ws) all
split b p start rows w ws (Some s) (Some ss) all f g e =
    let u = f s refl in
    joined b p start rows w ws s ss all (some_same (s ∷ ss) all e) u (g ss refl u.held)
split b p start rows w ws (Some s) None all f g e = absurd (none-some all e)
split b p start rows w ws None others all f g e = absurd (none-some all e)

name_word : (b : Bool) (p : ℕ) (h : Held) (w : Text) (ws : List Text) (n : OptionName) (ss : List Setting) → w ≡ text_of n → AreUsed b p (awaits b p n h) (rows_at b h) ws ss → AreUsed b p (at p h) (rows_at b h) (w ∷ ws) ss
name_word b p h w ws n ss e us = record {
  spelled = us.spelled;
  reads = us.reads;
  held = us.held;
  ends = ap (λ (x : Walk). fold (walked (rules_of b) []) x ws) (ap (walked (rules_of b) [] (at p h)) e ∙ named b p h n) ∙ us.ends;
  rows_are = us.rows_are;
}

by_name : (b : Bool) (p : ℕ) (w : Text) (ws : List Text) → WordsUsed b p ws → BehindUsed b p ws → (ss : List Setting) (h : Held) (o : Option OptionName) → ((n : OptionName) → o ≡ Some n → w ≡ text_of n)
    → option_map_or (settings_behind ws) o (first_and_others (setting_of w) (settings_of ws)) ≡ Some ss → AreUsed b p (at p h) (rows_at b h) (w ∷ ws) ss
by_name b p w ws f g ss h (Some n) k e = name_word b p h w ws n ss (k n refl) (g n ss e h)
by_name b p w ws f g ss h None k e = split b p (at p h) (rows_at b h) w ws (setting_of w) (settings_of ws) ss (one_word b p h w) f e

no_words : (b : Bool) (p : ℕ) → WordsUsed b p []
no_words b p ss e h = record {
  spelled = [];
  reads = subst (ReadAll []) (some_same [] ss e) none;
  held = h;
  ends = refl;
  rows_are = refl;
}

mutual
  pub words_used : (b : Bool) (p : ℕ) (ws : List Text) → WordsUsed b p ws
  words_used b p [] = no_words b p
  words_used b p (w ∷ ws) = λ ss e h. by_name b p w ws (words_used b p ws) (behind_used b p ws) ss h (name_of w) (word_of_name w) e

  behind_used : (b : Bool) (p : ℕ) (ws : List Text) → BehindUsed b p ws
  behind_used b p [] = λ n ss e h. absurd (none-some ss e)
  behind_used b p (w ∷ ws) = λ n ss e h. split b p (awaits b p n h) (rows_at b h) w ws (setting_with n w) (settings_of ws) ss (value_word b p h n w) (words_used b p ws) e
