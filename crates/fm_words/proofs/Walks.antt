-- What `clap` makes of each word of options.
use Rattle.std.proofs.Common.{◌≡◌, ℕ, Bool, true, false, List, [], ◌∷◌, ◌++◌, refl, ap, ◌∙◌, codes}
use Rattle.std.specs.Prelude.{Option, Some, None, if◌then◌else◌, option_and_then}
use Rattle.std.specs.Str.{bytes_eq}
use Rattle.clap.specs.Walk.{Held, Rule, Step, Text, Walk, Waiting, idle, option, positional, trailing, walked, after_step, word_met, long_or_other, short_or_plain, plain_word, nothing_held, settled, reacted}
use Rattle.clap.specs.Lexer.{long_of, long_of_rest, short_of_rest, strip_byte}
use Rattle.clap.specs.Simple.{built, new_rule, filled, help_rule, is_simple}
use Rattle.clap.specs.declared.builder.action.ArgAction.TheVariants.{Set, SetTrue}
use Rattle.clap.specs.declared.builder.value_parser.ValueParser.TheVariants as vp
use Rattle.fm_words.specs.declared.option.OptionName.{OptionName}
use Rattle.fm_words.specs.declared.option.OptionName.TheVariants as name
use Rattle.fm_words.specs.Values.{run_app, make_app, numbered_app}

-- ---- the rules of the commands as built

abbrev pub valued : Text → Rule
valued id = record (new_rule id) { long = Some id; action = Some Set; range = Some (record { start_inclusive = 1; end_inclusive = 1 }); parser = Some vp.String }

abbrev pub flag : Rule
flag = record (new_rule (codes "vars")) { long = Some (codes "vars"); action = Some SetTrue; range = Some (record { start_inclusive = 0; end_inclusive = 0 }); parser = Some vp.Bool; defaults = codes "false" ∷ []; missing = codes "true" ∷ [] }

abbrev pub number : Rule
number = record (new_rule (codes "number")) { index = Some 1; action = Some Set; range = Some (record { start_inclusive = 1; end_inclusive = 1 }); parser = Some vp.String }

abbrev pub help : Rule
help = filled help_rule

abbrev pub options : List Rule
options = valued (codes "turns") ∷ valued (codes "workers") ∷ valued (codes "slice") ∷ valued (codes "plan") ∷ flag ∷ help ∷ []

-- the rules of `run`, and of `demo` and `nodes`, which have a number
abbrev pub rules_of : Bool → List Rule
rules_of false = options
rules_of true = number ∷ options

run_is : (built run_app).top.rules ≡ rules_of false
run_is = refl

numbered_is : (built numbered_app).top.rules ≡ rules_of true
numbered_is = refl

make_is : (built make_app).top.rules ≡ number ∷ help ∷ []
make_is = refl

pub run_simple : is_simple run_app ≡ true
run_simple = refl

pub make_simple : is_simple make_app ≡ true
make_simple = refl

pub numbered_simple : is_simple numbered_app ≡ true
numbered_simple = refl

-- ---- texts

abbrev pub id_of : OptionName → Text
id_of name.Turns = codes "turns"
id_of name.Workers = codes "workers"
id_of name.Slice = codes "slice"
id_of name.Plan = codes "plan"

abbrev pub text_of : OptionName → Text
text_of name.Turns = codes "--turns"
text_of name.Workers = codes "--workers"
text_of name.Slice = codes "--slice"
text_of name.Plan = codes "--plan"

abbrev pub front_of : OptionName → Text
front_of name.Turns = codes "--turns="
front_of name.Workers = codes "--workers="
front_of name.Slice = codes "--slice="
front_of name.Plan = codes "--plan="

-- ---- the walk between two options, and behind the name of one

abbrev pub at : ℕ → Held → Walk
at p h = record { held = h; waiting = idle; position = p; is_trailing = false; stopped = None }

abbrev pub awaits : Bool → ℕ → OptionName → Held → Walk
awaits b p n h = record {
  held = record (settled (rules_of b) h) { pending = Some (id_of n, []) };
  waiting = option (id_of n);
  position = p;
  is_trailing = false;
  stopped = None;
}

-- ---- one word

abbrev step : Bool → Walk → Text → Walk
step b = walked (rules_of b) []

pub named : (b : Bool) (p : ℕ) (h : Held) (n : OptionName) → step b (at p h) (text_of n) ≡ awaits b p n h
unfolding walked
named false p h name.Turns = refl
named false p h name.Workers = refl
named false p h name.Slice = refl
named false p h name.Plan = refl
named true p h name.Turns = refl
named true p h name.Workers = refl
named true p h name.Slice = refl
named true p h name.Plan = refl

pub attached : (b : Bool) (p : ℕ) (h : Held) (n : OptionName) (v : Text) → step b (at p h) (front_of n ++ v) ≡ at p (reacted (rules_of b) (valued (id_of n)) (v ∷ []) h)
unfolding walked
attached false p h name.Turns v = refl
attached false p h name.Workers v = refl
attached false p h name.Slice v = refl
attached false p h name.Plan v = refl
attached true p h name.Turns v = refl
attached true p h name.Workers v = refl
attached true p h name.Slice v = refl
attached true p h name.Plan v = refl

pub flagged : (b : Bool) (p : ℕ) (h : Held) → step b (at p h) (codes "--vars") ≡ at p (reacted (rules_of b) flag [] h)
unfolding walked
flagged false p h = refl
flagged true p h = refl

-- no hyphen stands first
pub record IsPlain (v : Text) : Type 0 where
  pub no_hyphen : strip_byte 45 v ≡ None
  pub no_hyphens : bytes_eq v (45 ∷ 45 ∷ []) ≡ false

met_plain : (c : List Rule) (waiting : Waiting) (p : ℕ) (v : Text) (h : Held) → IsPlain v → word_met c [] false waiting p v h ≡ plain_word c waiting v h
met_plain c idle p v h e =
    ap (λ (t : Bool). if t then (h, trailing p) else long_or_other c idle v (long_of v) h) e.no_hyphens
    ∙ ap (λ (t : Option Text). long_or_other c idle v (option_and_then long_of_rest (option_and_then (strip_byte 45) t)) h) e.no_hyphen
    ∙ ap (λ (t : Option Text). short_or_plain c idle v (option_and_then short_of_rest t) h) e.no_hyphen
met_plain c (option id) p v h e =
    ap (λ (t : Bool). if t then (h, trailing p) else long_or_other c (option id) v (long_of v) h) e.no_hyphens
    ∙ ap (λ (t : Option Text). long_or_other c (option id) v (option_and_then long_of_rest (option_and_then (strip_byte 45) t)) h) e.no_hyphen
    ∙ ap (λ (t : Option Text). short_or_plain c (option id) v (option_and_then short_of_rest t) h) e.no_hyphen
met_plain c positional p v h e =
    ap (λ (t : Bool). if t then (h, trailing p) else long_or_other c positional v (long_of v) h) e.no_hyphens
    ∙ ap (λ (t : Option Text). long_or_other c positional v (option_and_then long_of_rest (option_and_then (strip_byte 45) t)) h) e.no_hyphen
    ∙ ap (λ (t : Option Text). short_or_plain c positional v (option_and_then short_of_rest t) h) e.no_hyphen

-- the value behind a name
abbrev pub filled_with : Bool → OptionName → Text → Held → Held
filled_with b n v h = record (settled (rules_of b) h) { pending = Some (id_of n, v ∷ []) }

after_value : (b : Bool) (p : ℕ) (h : Held) (n : OptionName) (v : Text)
    → (let m = plain_word (rules_of b) (option (id_of n)) v (awaits b p n h).held in after_step (rules_of b) v (awaits b p n h) m.0 m.1) ≡ at p (filled_with b n v h)
after_value false p h name.Turns v = refl
after_value false p h name.Workers v = refl
after_value false p h name.Slice v = refl
after_value false p h name.Plan v = refl
after_value true p h name.Turns v = refl
after_value true p h name.Workers v = refl
after_value true p h name.Slice v = refl
after_value true p h name.Plan v = refl

pub behind_name : (b : Bool) (p : ℕ) (h : Held) (n : OptionName) (v : Text) → IsPlain v → step b (awaits b p n h) v ≡ at p (filled_with b n v h)
unfolding walked
behind_name b p h n v e =
    ap (λ (m : Held × Step). after_step (rules_of b) v (awaits b p n h) m.0 m.1) (met_plain (rules_of b) (option (id_of n)) p v (awaits b p n h).held e)
    ∙ after_value b p h n v

-- the number behind `make`, `demo` or `nodes`
abbrev pub number_held : Text → Held
number_held v = record { rows = []; pending = Some (codes "number", v ∷ []); skip = 0 }

pub numbered : (others : List Rule) (v : Text) → IsPlain v → walked (number ∷ others) [] (at 1 nothing_held) v ≡ at 2 (number_held v)
unfolding walked
numbered others v e =
    ap (λ (m : Held × Step). after_step (number ∷ others) v (at 1 nothing_held) m.0 m.1) (met_plain (number ∷ others) idle 1 v nothing_held e)
