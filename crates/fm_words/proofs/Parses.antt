-- The values of accepted words are those of their command.
use Rattle.std.proofs.Common.{◌≡◌, ℕ, Bool, true, false, List, [], ◌∷◌, refl, ap, sym, subst, ◌∙◌, codes}
use Rattle.std.specs.Prelude.{Option, Some, None, is_none, is_some, option_and_then, option_map}
use Rattle.std.proofs.lemmas.Option.{none-some}
use Rattle.clap.specs.Walk.{Row, Text, rows_of}
use Rattle.clap.specs.Matches.{first_value, one_text}
use Rattle.clap.specs.Simple.{matches_of}
use Rattle.clap.specs.declared.parser.matches.Found.{Found}
use Rattle.clap.proofs.WalkLemmas.{first_value-rows, one_text-rows}
use Rattle.fm_words.specs.declared.command.Command.{Command}
use Rattle.fm_words.specs.declared.command.Command.TheVariants as command
use Rattle.fm_words.specs.declared.settings.Settings.{Settings}
use Rattle.fm_words.specs.Words.{number_of, plan_of, options_of, make_of, numbered_of}
use Rattle.fm_words.specs.Values.{run_app, make_app, numbered_app, run_found, make_found, numbered_found}
use Rattle.fm_words.proofs.Spelling.{plain_number}
use Rattle.fm_words.proofs.Rows.{Shows, ShowsNumber, bool_word, true_false, run_rows, make_rows, numbered_rows}

pub run_found_is : (ws : List Text) → matches_of run_app ws ≡ run_found ws
unfolding run_found
run_found_is ws = refl

pub make_found_is : (ws : List Text) → matches_of make_app ws ≡ make_found ws
unfolding make_found
make_found_is ws = refl

pub numbered_found_is : (ws : List Text) → matches_of numbered_app ws ≡ numbered_found ws
unfolding numbered_found
numbered_found_is ws = refl

-- ---- settings

flag_is : (found : Option Text) (b r : Bool) → found ≡ Some (bool_word b) → (found ≡ Some (codes "true") → r ≡ true) → (found ≡ Some (codes "false") → r ≡ false) → r ≡ b
flag_is found true r e f g = f e
flag_is found false r e f g = g e

-- the settings that were taken from what was found
pub record IsTaken (f : Found) (r : Settings) : Type 0 where
  pub turns : r.turns ≡ option_and_then number_of (first_value f (codes "turns"))
  pub workers : r.workers ≡ option_and_then number_of (first_value f (codes "workers"))
  pub slice : r.slice ≡ option_and_then number_of (first_value f (codes "slice"))
  pub plan : r.plan ≡ option_and_then plan_of (first_value f (codes "plan"))
  pub vars : one_text f (codes "vars") ≡ Some (codes "true") → r.vars ≡ true
  pub no_vars : one_text f (codes "vars") ≡ Some (codes "false") → r.vars ≡ false

pub settings_taken : (f : Found) (r s : Settings) → IsTaken f r → Shows (rows_of f) s → r ≡ s
settings_taken f r s t h =
    let turns = t.turns ∙ ap (option_and_then number_of) (first_value-rows f (codes "turns")) ∙ h.turns_are in
    let workers = t.workers ∙ ap (option_and_then number_of) (first_value-rows f (codes "workers")) ∙ h.workers_are in
    let slice = t.slice ∙ ap (option_and_then number_of) (first_value-rows f (codes "slice")) ∙ h.slice_is in
    let plan = t.plan ∙ ap (option_and_then plan_of) (first_value-rows f (codes "plan")) ∙ h.plan_is in
    let vars = flag_is (one_text f (codes "vars")) s.vars r.vars (one_text-rows f (codes "vars") ∙ h.vars_are) t.vars t.no_vars in
    λ i. record { turns = turns i; workers = workers i; slice = slice i; plan = plan i; vars = vars i }

run_taken : (f : Found) (ws : List Text) (r : Settings) (o : Option Settings) → options_of ws ≡ o → is_some o ≡ true → rows_of f ≡ run_found ws → IsTaken f r → o ≡ Some r
run_taken f ws r (Some s) e i rows t =
    let shown = subst (λ (x : List Row). Shows x s) (run_found_is ws ∙ sym rows) (run_rows ws s e) in
    ap (λ (x : Settings). Some x) (sym (settings_taken f r s t shown))
run_taken f ws r None e i rows t = absurd (true_false (sym i))

pub run_parsed : (f : Found) (ws : List Text) (r : Settings) → is_some (options_of ws) ≡ true → rows_of f ≡ run_found ws → IsTaken f r → options_of ws ≡ Some r
run_parsed f ws r i rows t = run_taken f ws r (options_of ws) refl i rows t

-- ---- numbers

number_shown : (f : Found) (w : Text) (n : ℕ) (r : Option ℕ) → number_of w ≡ Some n → ShowsNumber (rows_of f) w → r ≡ option_and_then number_of (first_value f (codes "number")) → r ≡ Some n
number_shown f w n r e h t =
    t ∙ ap (option_and_then number_of) (first_value-rows f (codes "number") ∙ h.number_is) ∙ e

pub record IsMade (ws : List Text) (r : Option ℕ) : Type 0 where
  pub number : ℕ
  pub read : r ≡ Some number
  pub are : make_of ws ≡ Some (command.Make number)

make_taken : (f : Found) (w : Text) (r : Option ℕ) (o : Option ℕ) → number_of w ≡ o → is_some o ≡ true → rows_of f ≡ make_found (w ∷ []) → r ≡ option_and_then number_of (first_value f (codes "number")) → IsMade (w ∷ []) r
make_taken f w r (Some n) e i rows t = record {
  number = n;
  read = number_shown f w n r e (subst (λ (x : List Row). ShowsNumber x w) (make_found_is (w ∷ []) ∙ sym rows) (make_rows w (plain_number w n e))) t;
  are = ap (option_and_then (λ n. Some (command.Make n))) e;
}
make_taken f w r None e i rows t = absurd (true_false (sym i))

some_of : {A B : Type 0} (g : A → B) (o : Option A) → is_some (option_and_then (λ a. Some (g a)) o) ≡ true → is_some o ≡ true
some_of g (Some a) e = refl
some_of g None e = e

abbrev nothing : ℕ → Option Command
nothing n = None

none_of : (o : Option ℕ) → is_some (option_and_then nothing o) ≡ true → ⊥
none_of (Some a) e = true_false (sym e)
none_of None e = true_false (sym e)

pub make_parsed : (f : Found) (ws : List Text) (r : Option ℕ) → is_some (make_of ws) ≡ true → rows_of f ≡ make_found ws → r ≡ option_and_then number_of (first_value f (codes "number")) → IsMade ws r
make_parsed f [] r i rows t = absurd (true_false (sym i))
make_parsed f (w ∷ []) r i rows t = make_taken f w r (number_of w) refl (some_of (λ n. command.Make n) (number_of w) i) rows t
make_parsed f (w ∷ v ∷ ws) r i rows t = absurd (none_of (number_of w) i)

pub record IsNumbered (f : Found) (ws : List Text) (r : Option ℕ) : Type 0 where
  pub number : ℕ
  pub read : r ≡ Some number
  pub settings : Settings
  pub shown : Shows (rows_of f) settings
  pub are : numbered_of ws ≡ Some (number, settings)

-- a number and what its options ask for
abbrev behind : Option Settings → Option ℕ → Option (ℕ × Settings)
behind p o = option_and_then (λ n. option_map (λ s. (n, s)) p) o

abbrev pub both_of : ℕ → Settings → Option (ℕ × Settings)
both_of n s = Some (n, s)

numbered_is : (w : Text) (ws : List Text) (n : ℕ) (s : Settings) → number_of w ≡ Some n → options_of ws ≡ Some s → numbered_of (w ∷ ws) ≡ Some (n, s)
numbered_is w ws n s e q = ap (λ (o : Option ℕ). behind (options_of ws) o) e ∙ ap (λ (p : Option Settings). behind p (Some n)) q

numbered_taken : (f : Found) (w : Text) (ws : List Text) (r : Option ℕ) (o : Option ℕ) (p : Option Settings) → number_of w ≡ o → options_of ws ≡ p → is_some (behind p o) ≡ true
    → rows_of f ≡ numbered_found (w ∷ ws) → r ≡ option_and_then number_of (first_value f (codes "number")) → IsNumbered f (w ∷ ws) r
numbered_taken f w ws r (Some n) (Some s) e q i rows t =
    let are = numbered_found_is (w ∷ ws) ∙ sym rows in
    let both = numbered_rows w ws s (plain_number w n e) q in
    record {
      number = n;
      read = number_shown f w n r e (subst (λ (x : List Row). ShowsNumber x w) are both.1) t;
      settings = s;
      shown = subst (λ (x : List Row). Shows x s) are both.0;
      are = numbered_is w ws n s e q;
    }
numbered_taken f w ws r (Some n) None e q i rows t = absurd (true_false (sym i))
numbered_taken f w ws r None p e q i rows t = absurd (true_false (sym i))

pub numbered_parsed : (f : Found) (ws : List Text) (r : Option ℕ) → is_some (numbered_of ws) ≡ true → rows_of f ≡ numbered_found ws → r ≡ option_and_then number_of (first_value f (codes "number")) → IsNumbered f ws r
numbered_parsed f [] r i rows t = absurd (true_false (sym i))
numbered_parsed f (w ∷ ws) r i rows t = numbered_taken f w ws r (number_of w) (options_of ws) refl refl i rows t

-- options that are a command with a number have a number and options
pub has_numbered : {X : Type 0} (f : ℕ → Settings → Option X) (o : Option (ℕ × Settings)) → is_none (option_and_then (λ p. f p.0 p.1) o) ≡ false → is_some o ≡ true
has_numbered f (Some p) e = refl
has_numbered f None e = absurd (true_false e)

pub not_none : (r : Option ℕ) (n : ℕ) → r ≡ None → r ≡ Some n → ⊥
not_none r n e f = none-some n (sym e ∙ f)
