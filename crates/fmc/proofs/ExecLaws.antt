-- Replies of `exec`, and what they say of a program.
use Rattle.std.proofs.Common.{◌≡◌, ◌⊎◌, inl, inr, ℕ, zero, suc, ◌<◌, ◌≤◌, Bool, true, List, [], ◌∷◌, length, refl, sym, ap, subst, ◌∙◌, arith}
use Rattle.std.specs.Prelude.{◌≢◌, Some, Result, Ok, Err, IfOk, slice_get, take}
use Rattle.std.specs.List.{AllByRecursion}
use Rattle.fm_base.specs.declared.memory.NoMemory.{NoMemory}
use Rattle.fm_base.specs.declared.schedule.Turn.{Turn}
use Rattle.fm_net.specs.Machine.{Place}
use Rattle.fm_object.specs.declared.image.Image.{Image}
use Rattle.fm_object.specs.declared.image.UnitImage.{UnitImage}
use Rattle.fm_object.proofs.MalformedLaws.{no_line_of_an_object, one_first_line, one_object_text}
use Rattle.fm_image_typed.specs.Typed.{IsBad, One, UnitIsTyped, Whole}
use Rattle.fm_gen.specs.Programs.{code_of}
use Rattle.fm_image.specs.ImageOf.{image_of}
use Rattle.fm_image_law.proofs.Laid.{one_of}
use Rattle.fm_execute_image.specs.Executed.{IsExecuted, IsUnverified}
use Rattle.fm_execute_law.proofs.Programs.{object_executes}
use Rattle.fm_execute_image.specs.Play.{image_play}
use Rattle.fm_run.specs.Orders.{places_of}
use Rattle.fm_run.specs.declared.run.Ending.{Ending}
use Rattle.fm_run.specs.declared.run.Ending.TheVariants as ending
use Rattle.fm_run.specs.declared.run.Run as run
use Rattle.fm_run_law.specs.Fair.{IsRunInTurn}
use Rattle.fm_run_law.proofs.OneRun.{one_run}
use Rattle.fm_words.specs.declared.command.Command.TheVariants as command
use Rattle.fmc.specs.declared.answer.Exit.{Exit}
use Rattle.fmc.specs.declared.answer.Exit.TheVariants as exits
use Rattle.fmc.specs.declared.answer.Reply.{Reply}
use Rattle.fmc.specs.Answer.{IsPlayedExit, Says, SaysRun, report_asked}
use Rattle.fmc.specs.Exits.{is_decided}
use Rattle.fmc.specs.Compiled.{ExecRuns, ExecTellsRun}
use Rattle.fmc.specs.Executes.{IsExecutedSo, SaysExec, bad_object_text, object_limit, ran_text, unverified_text}
use Rattle.fmc.specs.OneAnswer.{HasOneAnswer, HaveOneCause, IsOneAnswer}
use Rattle.fmc.specs.Outcomes.{IsUnplayed, exit_in}
use Rattle.fmc.specs.Reply.{IsReply, bytes_of, text_in}
use Rattle.fmc.proofs.AnswerLaws.{not_played, run_played, run_says}
use Rattle.fmc.proofs.Compiled.{IsTextOfSource, compiled_text}
use Rattle.fmc.proofs.ExecSaid.{Finds, found, typed_or_bad}

-- what is told of a run is its report, or that it was spent
same_text : (turns : ℕ) (vars : Bool) (h : List Turn) (ps : List Place) (e : Ending) → text_in (report_asked turns vars []) h ps e ≡ ran_text turns vars e
same_text turns vars h ps (ending.Ended o) = refl
same_text turns vars h ps ending.Spent = refl

-- ---- replies

module _ (turns : ℕ) (vars : Bool) (b : List ℕ) (h : List Turn) (ps : List Place) (t : List ℕ) where
  abbrev so : Exit → Type 0
  so x = IsExecutedSo turns vars x b h ps t

  abbrev says : Exit → Type 0
  says x = SaysExec turns vars b x h ps t

  played_says : (exit : Exit) → IsPlayedExit exit → so exit → says exit
  played_says exit (inl (inl e)) k = subst says (sym e) (subst so e k)
  played_says exit (inl (inr (inl e))) k = subst says (sym e) (subst so e k)
  played_says exit (inl (inr (inr e))) k = subst says (sym e) (subst so e k)
  played_says exit (inr e) k = subst says (sym e) (subst so e k)

executed_says : (turns : ℕ) (vars : Bool) (b : List ℕ) (r : run.Run) → length b ≤ object_limit → IsExecuted b turns r
    → SaysExec turns vars b (exit_in r.ending) r.history.items (places_of r.paths.items) (text_in (report_asked turns vars []) r.history.items (places_of r.paths.items) r.ending)
executed_says turns vars b r le k =
    let h = r.history.items in
    let ps = places_of r.paths.items in
    played_says turns vars b h ps (text_in (report_asked turns vars []) h ps r.ending) (exit_in r.ending) (run_played r.ending)
    (record {
      within = le;
      ran = record { run = r; executed = k; history_is = refl; places_are = refl };
      exit_is = refl;
      text_is = same_text turns vars h ps r.ending;
    })

-- of what ran
pub executed_replies : (turns : ℕ) (vars : Bool) (b : List ℕ) (r : run.Run) (x : Result Reply NoMemory) → length b ≤ object_limit → IsExecuted b turns r
    → IfOk x (λ y. y.ran.exit ≡ exit_in r.ending) → IfOk x (λ y. y.ran.history ≡ r.history) → IfOk x (λ y. y.ran.paths ≡ r.paths)
    → IfOk x (λ y. bytes_of y.text ≡ text_in (report_asked turns vars []) r.history.items (places_of r.paths.items) r.ending) → IfOk x (IsReply (command.Exec turns vars) b)
executed_replies turns vars b r (Ok y) le k exit history paths text = rw (exit, history, paths, text) (executed_says turns vars b r le k)
executed_replies turns vars b r (Err want) le k exit history paths text = tt

-- ---- of a program

ran_of : (turns : ℕ) (vars : Bool) (b : List ℕ) (exit : Exit) (h : List Turn) (ps : List Place) (t : List ℕ) → Finds turns vars b exit h ps t → IsPlayedExit exit → IsExecutedSo turns vars exit b h ps t
ran_of turns vars b exit h ps t (inl k) p = k.1
ran_of turns vars b exit h ps t (inr (inl k)) p = absurd (not_played exits.BadObject exit k.0 (λ e. cc e, λ e. cc e, λ e. cc e, λ e. cc e) p)
ran_of turns vars b exit h ps t (inr (inr (inl k))) p = absurd (not_played exits.Unverified exit k.0 (λ e. cc e, λ e. cc e, λ e. cc e, λ e. cc e) p)
ran_of turns vars b exit h ps t (inr (inr (inr (inl k)))) p = absurd (not_played exits.TooLong exit k.0 (λ e. cc e, λ e. cc e, λ e. cc e, λ e. cc e) p)
ran_of turns vars b exit h ps t (inr (inr (inr (inr k)))) p = absurd (untold exit k.0 p)
  where
    untold : (exit : Exit) → (exit ≡ exits.NoMemory) ⊎ (exit ≡ exits.ReadFault) → IsPlayedExit exit → ⊥
    untold exit (inl e) p = not_played exits.NoMemory exit e (λ e. cc e, λ e. cc e, λ e. cc e, λ e. cc e) p
    untold exit (inr e) p = not_played exits.ReadFault exit e (λ e. cc e, λ e. cc e, λ e. cc e, λ e. cc e) p

module _ (source bytes : List ℕ) (c : IsTextOfSource source bytes) where
  tells_run : (turns : ℕ) (vars : Bool) (exit : Exit) (h : List Turn) (ps : List Place) (t : List ℕ) → IsExecutedSo turns vars exit bytes h ps t → SaysRun (report_asked turns vars []) source exit h ps t
  tells_run turns vars exit h ps t k =
      let r = k.ran.run in
      let told = object_executes c.program bytes c.object turns r k.ran.executed in
      let text : t ≡ text_in (report_asked turns vars []) r.history.items (places_of r.paths.items) r.ending =
      k.text_is ∙ sym (same_text turns vars r.history.items (places_of r.paths.items) r.ending) in
      rw (k.exit_is, k.ran.history_is, k.ran.places_are, text)
      (run_says source (report_asked turns vars []) r c.within (record { program = c.program; lawful = c.lawful; runs = told.runs; fair = λ none spent free. told.fair }))

  abbrev own : Image
  own = image_of c.program (code_of c.program)

  finds_run : (turns : ℕ) (vars : Bool) (exit : Exit) (h : List Turn) (ps : List Place) (t : List ℕ) → Finds turns vars bytes exit h ps t
      → IsPlayedExit exit ⊎ (((exit ≡ exits.TooLong) × (object_limit < length bytes)) ⊎ ((exit ≡ exits.NoMemory) ⊎ (exit ≡ exits.ReadFault)))
  finds_run turns vars exit h ps t (inl k) = inl k.0
  finds_run turns vars exit h ps t (inr (inl k)) = absurd (no_line_of_an_object bytes own c.object k.1.line k.1.malformed)
  finds_run turns vars exit h ps t (inr (inr (inl k))) = absurd (typed_or_bad bytes own c.object c.sense k.1.unit k.1.unverified)
  finds_run turns vars exit h ps t (inr (inr (inr (inl k)))) = inr (inl (k.0, k.1))
  finds_run turns vars exit h ps t (inr (inr (inr (inr k)))) = inr (inr k.0)

pub tells_the_run : (source bytes : List ℕ) (h : List Turn) (ps : List Place) → Says command.Compile source exits.Done h ps bytes → ExecTellsRun source bytes
tells_the_run source bytes h ps compiled = λ turns vars exit i qs t k played.
    tells_run source bytes (compiled_text source h ps bytes compiled) turns vars exit i qs t (ran_of turns vars bytes exit i qs t (found turns vars bytes exit i qs t k) played)

pub runs_what_is_compiled : (source bytes : List ℕ) (h : List Turn) (ps : List Place) → Says command.Compile source exits.Done h ps bytes → ExecRuns bytes
runs_what_is_compiled source bytes h ps compiled = λ turns vars exit i qs t k.
    finds_run source bytes (compiled_text source h ps bytes compiled) turns vars exit i qs t (found turns vars bytes exit i qs t k)

-- ---- one cause

in_front : {X : Type 0} (n m : ℕ) (xs : List X) (x : X) → m < n → slice_get xs m ≡ Some x → slice_get (take n xs) m ≡ Some x
in_front zero m xs x low e = absurd (omega (arith, low))
in_front (suc n) m [] x low e = e
in_front (suc n) zero (y ∷ xs) x low e = e
in_front (suc n) (suc m) (y ∷ xs) x low e = in_front n m xs x (omega (arith, low)) e

-- one number or another is the greater one, or they are the same
abbrev IsBeside : ℕ → ℕ → Type 0
IsBeside n m = (n ≡ m) ⊎ ((n < m) ⊎ (m < n))

beside : (n m : ℕ) → IsBeside n m
beside zero zero = inl refl
beside zero (suc m) = inr (inl (omega arith))
beside (suc n) zero = inr (inr (omega arith))
beside (suc n) (suc m) = go (beside n m)
  where
    go : IsBeside n m → IsBeside (suc n) (suc m)
    go (inl e) = inl (ap suc e)
    go (inr (inl l)) = inr (inl (omega (arith, l)))
    go (inr (inr l)) = inr (inr (omega (arith, l)))

module _ (i : Image) where
  -- the unit that is told makes no sense, and those before another one that is told do
  none_before : (n m : ℕ) (u : UnitImage) → AllByRecursion (UnitIsTyped i) (take n i.units) → m < n → slice_get i.units m ≡ Some u → ¬ UnitIsTyped i u → ⊥
  none_before n m u before low there bad = bad (one_of (UnitIsTyped i) (take n i.units) before m u (in_front n m i.units u low there))

  one_unit : (n m : ℕ) → IsBad i n → IsBad i m → n ≡ m
  one_unit zero zero a b = refl
  one_unit zero (suc m) (Whole none) (One whole k u before there bad) = absurd (none whole)
  one_unit (suc n) zero (One whole k u before there bad) (Whole none) = absurd (none whole)
  one_unit (suc n) (suc m) (One whole k u before there bad) (One other l v early here worse) = go (beside n m)
    where
      go : IsBeside n m → suc n ≡ suc m
      go (inl e) = ap suc e
      go (inr (inl low)) = absurd (none_before m n u early low there bad)
      go (inr (inr low)) = absurd (none_before n m v before low here worse)

one_bad_unit : (b : List ℕ) (n m : ℕ) → IsUnverified b n → IsUnverified b m → n ≡ m
one_bad_unit b n m k l = one_unit l.image n m (subst (λ (i : Image). IsBad i n) (one_object_text b k.image l.image k.object l.object) k.bad) l.bad

-- two answers to the same bytes are both of runs, or one
abbrev AreOne : (x y : Exit) → (h i : List Turn) → (ps qs : List Place) → (t u : List ℕ) → Type 0
AreOne x y h i ps qs t u = (IsPlayedExit x × IsPlayedExit y) ⊎ IsOneAnswer x y h i ps qs t u

-- nothing was played, and the texts are the same
one_unplayed : (x y e : Exit) (h i : List Turn) (ps qs : List Place) (t u told other : List ℕ) → x ≡ e → y ≡ e → IsUnplayed h ps t told → IsUnplayed i qs u other → told ≡ other → IsOneAnswer x y h i ps qs t u
one_unplayed x y e h i ps qs t u told other a b k l same = record {
  exits = a ∙ sym b;
  histories = k.no_turns ∙ sym l.no_turns;
  places = k.no_places ∙ sym l.no_places;
  texts = k.text_is ∙ same ∙ sym l.text_is;
}

-- an answer that the bytes decide isn't want of memory, and the source was read
told_only : (x : Exit) → is_decided x ≡ true → x ≢ exits.NoMemory → (x ≡ exits.NoMemory) ⊎ (x ≡ exits.ReadFault) → ⊥
told_only x d m (inl e) = m e
told_only x d m (inr e) = let read = sym (ap is_decided e) ∙ d in cc read

module _ (b : List ℕ) (turns others : ℕ) (vars shown : Bool) (x y : Exit) (h i : List Turn) (ps qs : List Place) (t u : List ℕ)
    (dx : is_decided x ≡ true) (mx : x ≢ exits.NoMemory) (dy : is_decided y ≡ true) (my : y ≢ exits.NoMemory) where
  one_finding : Finds turns vars b x h ps t → Finds others shown b y i qs u → AreOne x y h i ps qs t u
  one_finding (inl k) (inl l) = inl (k.0, l.0)
  one_finding (inl k) (inr (inl l)) = let is = k.1.ran.executed in absurd (no_line_of_an_object b is.image is.object l.1.line l.1.malformed)
  one_finding (inl k) (inr (inr (inl l))) = let is = k.1.ran.executed in absurd (typed_or_bad b is.image is.object is.typed l.1.unit l.1.unverified)
  one_finding (inl k) (inr (inr (inr (inl l)))) = let within = k.1.within in absurd (omega (arith, l.1, within))
  one_finding (inr (inl k)) (inl l) = let is = l.1.ran.executed in absurd (no_line_of_an_object b is.image is.object k.1.line k.1.malformed)
  one_finding (inr (inl k)) (inr (inl l)) =
      inr (one_unplayed x y exits.BadObject h i ps qs t u _ _ k.0 l.0 k.1.unplayed l.1.unplayed (ap bad_object_text (one_first_line b k.1.line l.1.line k.1.malformed l.1.malformed)))
  one_finding (inr (inl k)) (inr (inr (inl l))) = let is = l.1.unverified in absurd (no_line_of_an_object b is.image is.object k.1.line k.1.malformed)
  one_finding (inr (inl k)) (inr (inr (inr (inl l)))) = let within = k.1.within in absurd (omega (arith, l.1, within))
  one_finding (inr (inr (inl k))) (inl l) = let is = l.1.ran.executed in absurd (typed_or_bad b is.image is.object is.typed k.1.unit k.1.unverified)
  one_finding (inr (inr (inl k))) (inr (inl l)) = let is = k.1.unverified in absurd (no_line_of_an_object b is.image is.object l.1.line l.1.malformed)
  one_finding (inr (inr (inl k))) (inr (inr (inl l))) =
      inr (one_unplayed x y exits.Unverified h i ps qs t u _ _ k.0 l.0 k.1.unplayed l.1.unplayed (ap unverified_text (one_bad_unit b k.1.unit l.1.unit k.1.unverified l.1.unverified)))
  one_finding (inr (inr (inl k))) (inr (inr (inr (inl l)))) = let within = k.1.within in absurd (omega (arith, l.1, within))
  one_finding (inr (inr (inr (inl k)))) (inl l) = let within = l.1.within in absurd (omega (arith, k.1, within))
  one_finding (inr (inr (inr (inl k)))) (inr (inl l)) = let within = l.1.within in absurd (omega (arith, k.1, within))
  one_finding (inr (inr (inr (inl k)))) (inr (inr (inl l))) = let within = l.1.within in absurd (omega (arith, k.1, within))
  one_finding (inr (inr (inr (inl k)))) (inr (inr (inr (inl l)))) = inr (one_unplayed x y exits.TooLong h i ps qs t u _ _ k.0 l.0 k.2 l.2 refl)
  one_finding (inr (inr (inr (inr k)))) l = absurd (told_only x dx mx k.0)
  one_finding (inl k) (inr (inr (inr (inr l)))) = absurd (told_only y dy my l.0)
  one_finding (inr (inl k)) (inr (inr (inr (inr l)))) = absurd (told_only y dy my l.0)
  one_finding (inr (inr (inl k))) (inr (inr (inr (inr l)))) = absurd (told_only y dy my l.0)
  one_finding (inr (inr (inr (inl k)))) (inr (inr (inr (inr l)))) = absurd (told_only y dy my l.0)

  one_cause : SaysExec turns vars b x h ps t → SaysExec others shown b y i qs u → AreOne x y h i ps qs t u
  one_cause k l = one_finding (found turns vars b x h ps t k) (found others shown b y i qs u l)

pub exec_cause : (b : List ℕ) (turns others : ℕ) (vars shown : Bool) → HaveOneCause (Says (command.Exec turns vars) b) (Says (command.Exec others shown) b)
exec_cause b turns others vars shown = λ x y h i ps qs t u dx dy k l. one_cause b turns others vars shown x y h i ps qs t u dx.0 dx.1 dy.0 dy.1 k l

-- ---- one run

module _ (b : List ℕ) (turns : ℕ) (vars : Bool) (x y : Exit) (h i : List Turn) (ps qs : List Place) (t u : List ℕ) where
  -- of one image, under the same turns
  one_played : IsExecutedSo turns vars x b h ps t → IsExecutedSo turns vars y b i qs u → IsOneAnswer x y h i ps qs t u
  one_played k l =
      let own = k.ran.executed in
      let theirs = l.ran.executed in
      let r = k.ran.run in
      let s = l.ran.run in
      let other : IsRunInTurn (image_play own.image) 1000 turns s =
      subst (λ (m : Image). IsRunInTurn (image_play m) 1000 turns s) (one_object_text b theirs.image own.image theirs.object own.object) theirs.of_image in
      let one = one_run (image_play own.image) 1000 [] turns r s own.of_image.runs other.runs own.of_image.in_turn other.in_turn in
      record {
        exits = k.exit_is ∙ ap exit_in one.endings ∙ sym l.exit_is;
        histories = k.ran.history_is ∙ one.histories ∙ sym l.ran.history_is;
        places = k.ran.places_are ∙ one.places ∙ sym l.ran.places_are;
        texts = k.text_is ∙ ap (ran_text turns vars) one.endings ∙ sym l.text_is;
      }

  by_cause : SaysExec turns vars b x h ps t → SaysExec turns vars b y i qs u → AreOne x y h i ps qs t u → IsOneAnswer x y h i ps qs t u
  by_cause k l (inl played) = one_played (ran_of turns vars b x h ps t (found turns vars b x h ps t k) played.0) (ran_of turns vars b y i qs u (found turns vars b y i qs u l) played.1)
  by_cause k l (inr one) = one

pub exec_answer : (b : List ℕ) (turns : ℕ) (vars : Bool) → HasOneAnswer (Says (command.Exec turns vars) b)
exec_answer b turns vars = λ x y h i ps qs t u dx dy k l. by_cause b turns vars x y h i ps qs t u k l (one_cause b turns turns vars vars x y h i ps qs t u dx.0 dx.1 dy.0 dy.1 k l)
