-- Replies from what the parts give.
use Rattle.std.proofs.Common.{◌≡◌, inl, inr, ℕ, ◌<◌, ◌≤◌, Bool, true, false, List, [], ◌∷◌, length, refl, sym, ap, subst, ◌∙◌, arith}
use Rattle.std.specs.Prelude.{◌≢◌, Option, None, IfOk, IfErr, Result, Ok, Err}
use Rattle.std.proofs.lemmas.Bool.{false≢true}
use Rattle.fm_base.specs.declared.schedule.Setup.{Setup}
use Rattle.fm_base.specs.declared.schedule.Turn.{Turn}
use Rattle.fm_base.specs.declared.rule.Refusal.{Refusal}
use Rattle.fm_base.specs.Rules.{refusal_text}
use Rattle.fm_base.specs.Verdict.{IsClean, IsRefusal}
use Rattle.fm_base.specs.declared.rule.CheckFail.{CheckFail}
use Rattle.fm_base.specs.declared.name.Line.{Line}
use Rattle.fm_cards.specs.Cards.{cards_of}
use Rattle.fm_sched.specs.Schedule.{IsEnding, IsLegal, Settles}
use Rattle.fm_tree.specs.declared.program_unit.Placed.{Placed}
use Rattle.fm_tree.specs.declared.program_unit.Unit.{Unit}
use Rattle.fm_symbols.specs.declared.names.UnitNames.{UnitNames}
use Rattle.fm_symbols.specs.Context.{context_of}
use Rattle.fm_rules.specs.Units.{units_of}
use Rattle.fm_rules.specs.Names.{names_of}
use Rattle.fm_rules.specs.Race.{IsRaceVerdict}
use Rattle.fm_net.specs.Machine.{Place}
use Rattle.fm_mean.specs.declared.outcome.FaultAt.{FaultAt}
use Rattle.fm_mean.specs.Determinism.{IsDeterministic}
use Rattle.fm_mean.specs.Steps.{step, first}
use Rattle.fm_mean.proofs.Laws.{settles}
use Rattle.fm_mean.proofs.Telling.{each_told}
use Rattle.fm_mean.specs.Outcome.{outcome_of}
use Rattle.fm_flow_law.specs.Flow.{IsFlowSafe}
use Rattle.fm_flow_law.proofs.Promise.{safe_comes_to_its_end}
use Rattle.fm_rules.specs.declared.program.Program.{Program}
use Rattle.fm_rules.specs.Program.{IsChecked}
use Rattle.fm_gen.specs.Programs.{code_of}
use Rattle.fm_image.specs.ImageOf.{image_of}
use Rattle.fm_compile_law.proofs.Variables.{checked_named}
use Rattle.fm_object.specs.Texts.{object_text}
use Rattle.fm_verdict.specs.Program.{IsCheckedOf}
use Rattle.fm_verdict.specs.Verdict.{IsBroken, IsBrokenForm, AreStatementsOf}
use Rattle.fm_nodes_plain.specs.Lines.{IsPlainVerdict}
use Rattle.fm_nodes_plain.proofs.Declared.{told_program}
use Rattle.fm_run.specs.Orders.{places_of}
use Rattle.fm_run.specs.Programs.{EndsSo, Follows, IsRun, play_of}
use Rattle.fm_run.proofs.Programs.{law_of}
use Rattle.fm_run.specs.declared.run.Ending.{Ending}
use Rattle.fm_run.specs.declared.run.Ending.TheVariants as ending
use Rattle.fm_run.specs.declared.run.Run as run
use Rattle.fm_run_law.specs.Fair.{IsFair}
use Rattle.fm_run_law.proofs.Reached.{run_is_fair}
use Rattle.fm_table.specs.Told.{Told, first_told}
use Rattle.fm_trace.specs.Texts.{IsTraceText, trace_of_history, trace_text}
use Rattle.fm_words.specs.declared.command.Command.TheVariants as command
use Rattle.fmc.specs.declared.answer.Exit.{Exit}
use Rattle.fmc.specs.declared.answer.Exit.TheVariants.{Done, Faulted, Deadlocked, Refused, Spent, Usage, ReadFault, WriteFault, NoMemory, TooLong, Malformed, Illegal, Unfinished, BadObject, Unverified, NotPlain}
use Rattle.fmc.specs.declared.answer.Reply.{Reply}
use Rattle.fmc.specs.Exits.{is_end, is_decided, is_of_reading}
use Rattle.fmc.specs.Listing.{listed_text}
use Rattle.fmc.specs.Outcomes.{IsRefusedFor, IsUnplayed, cost_of, exit_by, exit_of, source_limit, state_after, exit_in}
use Rattle.fmc.specs.Answer.{Asked, Says, SaysRun, SaysTrace, IsListOf, IsFirstRaceOf, determinism_text, flow_text, IsHistoryOf, IsEnded, IsPlayedExit, report_asked, trace_asked}
use Rattle.fmc.specs.Reply.{bytes_of, places_in, IsFlowReply, IsObjectReply, IsReply, IsFairlySpent, IsRunBy, IsRunOf, IsTableOf, is_spent_by, text_in}

pub listed_says : (b : List ℕ) (ss : List Placed) (r : Reply) → length b ≤ source_limit → IsClean (IsBroken b) → AreStatementsOf (cards_of b) ss → r.ran.exit ≡ Done → IsUnplayed r.ran.history.items (places_in r.ran) (bytes_of r.text) (listed_text ss) → IsReply command.List b r
listed_says b ss r le h k e u =
    subst (λ (x : Exit). Says command.List b x r.ran.history.items (places_in r.ran) (bytes_of r.text)) (sym e)
    (record { within = le; clean = h; statements = ss; read = k; told = listed_text ss; tells = refl; unplayed = u })

pub checked_says : (b : List ℕ) (ss : List Placed) (race : Option Line) (r : Reply) → length b ≤ source_limit → IsClean (IsBroken b) → AreStatementsOf (cards_of b) ss → IsFirstRaceOf ss race
    → r.ran.exit ≡ Done → IsUnplayed r.ran.history.items (places_in r.ran) (bytes_of r.text) (determinism_text race) → IsReply command.Check b r
checked_says b ss race r le h k first e u =
    subst (λ (x : Exit). Says command.Check b x r.ran.history.items (places_in r.ran) (bytes_of r.text)) (sym e)
    (record { within = le; clean = h; statements = ss; read = k; told = determinism_text race; tells = (race, first, refl); unplayed = u })

pub flow_says : (b : List ℕ) (ss : List Placed) (p : Program) (r : Reply) → length b ≤ source_limit → IsClean (IsBroken b) → AreStatementsOf (cards_of b) ss → IsChecked ss p.units p.names
    → r.ran.exit ≡ Done → IsFlowReply p r → IsReply command.Flow b r
flow_says b ss p r le h k checked e f =
    subst (λ (x : Exit). Says command.Flow b x r.ran.history.items (places_in r.ran) (bytes_of r.text)) (sym e)
    (record { within = le; clean = h; statements = ss; read = k; told = flow_text f.risk; tells = (f.risk, record { program = p; checked = checked; verdict = f.verdict }, refl); unplayed = f.unplayed })

pub object_says : (b : List ℕ) (ss : List Placed) (p : Program) (r : Reply) → length b ≤ source_limit → IsClean (IsBroken b) → AreStatementsOf (cards_of b) ss → IsChecked ss p.units p.names
    → r.ran.exit ≡ Done → IsObjectReply p r → IsReply command.Compile b r
object_says b ss p r le h k checked e u =
    subst (λ (x : Exit). Says command.Compile b x r.ran.history.items (places_in r.ran) (bytes_of r.text)) (sym e)
    (record {
      within = le;
      clean = h;
      statements = ss;
      read = k;
      told = object_text (image_of p (code_of p));
      tells = record { program = p; checked = checked; object = (u.fits (checked_named b p (record { statements = ss; read = k; clean = h; checked = checked })), refl) };
      unplayed = u.unplayed;
    })

-- the first race of a checked program
pub race_of : (ss : List Placed) (us : List Unit) (ns : List UnitNames) (race : Option Line) → us ≡ units_of ss → ns ≡ names_of (units_of ss) → ∥ IsRaceVerdict us (context_of us ns) race ∥₁ → IsFirstRaceOf ss race
race_of ss us ns race e f h =
    subst (λ (l : List Unit). ∥ IsRaceVerdict l (context_of l (names_of (units_of ss))) race ∥₁) e (subst (λ (l : List UnitNames). ∥ IsRaceVerdict us (context_of us l) race ∥₁) f h)

-- the list of statements that were checked
pub list_is : {V : Type 0} (items : V → List ℕ) (b : List ℕ) (ss : List Placed) (r : Result V CheckFail) → IsClean (IsBrokenForm b) → AreStatementsOf (cards_of b) ss → IfOk r (λ v. items v ≡ listed_text ss)
    → IfOk r (λ _. (source : List ℕ) → AreStatementsOf (cards_of source) ss → IsClean (IsBrokenForm source) → IsClean (IsBroken source)) → IfOk r (λ v. IsListOf b (items v))
list_is items b ss (Ok v) form read text clean = record { clean = clean b read form; statements = ss; read = read; listed = text }
list_is items b ss (Err e) form read text clean = tt

pub list_refused : {V : Type 0} (b : List ℕ) (ss : List Placed) (r : Result V CheckFail) → IsClean (IsBrokenForm b) → AreStatementsOf (cards_of b) ss
    → IfErr r (λ e. (source : List ℕ) → AreStatementsOf (cards_of source) ss → IsClean (IsBrokenForm source) → IsRefusal (IsBroken source) e) → IfErr r (IsRefusal (IsBroken b))
list_refused b ss (Ok v) form read h = tt
list_refused b ss (Err e) form read h = h b read form

pub end_by : (fs : List FaultAt) (b : Bool) → is_end (exit_by fs b) ≡ true
end_by [] true = refl
end_by [] false = refl
end_by (f ∷ fs) b = refl

ended_says : (b : List ℕ) (asked : Asked) (exit : Exit) (h : List Turn) (ps : List Place) (t : List ℕ) → is_end exit ≡ true → IsEnded b asked exit h ps t → SaysRun asked b exit h ps t
ended_says b asked Done h ps t e k = k
ended_says b asked Faulted h ps t e k = k
ended_says b asked Deadlocked h ps t e k = k
ended_says b asked Refused h ps t e k = absurd (false≢true e)
ended_says b asked Spent h ps t e k = absurd (false≢true e)
ended_says b asked Usage h ps t e k = absurd (false≢true e)
ended_says b asked ReadFault h ps t e k = absurd (false≢true e)
ended_says b asked WriteFault h ps t e k = absurd (false≢true e)
ended_says b asked NoMemory h ps t e k = absurd (false≢true e)
ended_says b asked TooLong h ps t e k = absurd (false≢true e)
ended_says b asked Malformed h ps t e k = absurd (false≢true e)
ended_says b asked Illegal h ps t e k = absurd (false≢true e)
ended_says b asked Unfinished h ps t e k = absurd (false≢true e)
ended_says b asked BadObject h ps t e k = absurd (false≢true e)
ended_says b asked Unverified h ps t e k = absurd (false≢true e)
ended_says b asked NotPlain h ps t e k = absurd (false≢true e)

-- a schedule that costs more than the turns: each one that ends costs as much or more
spent_too : (program : Program) (turns : ℕ) (cs others : List Place) → IsLegal (step program) (first program) cs → turns < cost_of program cs → Settles (step program) (first program) others → turns < cost_of program others
spent_too program turns cs others legal over all = omega (arith, over, all.dearest cs legal)

-- where main has ended unless a process faulted, it doesn't wait
not_deadlocked : (fs : List FaultAt) (ended : Bool) → (fs ≡ [] → ended ≡ true) → exit_by fs ended ≢ Deadlocked
not_deadlocked [] true ends is = cc is
not_deadlocked [] false ends is = false≢true (ends refl)
not_deadlocked (f ∷ fs) ended ends is = cc is

-- so a program of which no sentence of the flow check holds doesn't end deadlocked
pub ends_safe : (program : Program) (cs : List Place) (exit : Exit) → IsEnding (step program) (first program) cs → exit ≡ exit_of (outcome_of program (cost_of program cs) (state_after program cs))
    → IsFlowSafe program → exit ≢ Deadlocked
ends_safe program cs exit ends exit_is safe is =
    let o = outcome_of program (cost_of program cs) (state_after program cs) in
    not_deadlocked o.faults o.main_ended (safe_comes_to_its_end program safe cs (cost_of program cs) ends) (sym exit_is ∙ is)

-- what a run says, by how it ended
run_by : (b : List ℕ) (program : Program) (asked : Asked) (history : List Turn) (places cs : List Place) (e : Ending) → length b ≤ source_limit → IsHistoryOf b program asked.turns history places cs → EndsSo program asked.turns cs e
    → (asked.chosen ≡ [] → e ≡ ending.Spent → (IsDeterministic program → ⊥) → IsFair (play_of program) history places) → SaysRun asked b (exit_in e) history places (text_in asked history places e)
run_by b program asked history places cs (ending.Ended o) le kept h fair =
    ended_says b asked (exit_of o) history places (asked.tells history places o) (end_by o.faults o.main_ended)
    (record {
      within = le;
      program = program;
      choices = cs;
      kept = kept;
      ends = (kept.legal, h.0);
      in_turns = h.1;
      exit_is = ap exit_of h.2;
      text_is = ap (asked.tells history places) h.2;
      tells_each = each_told program cs (kept.legal, h.0) (cost_of program cs);
      one_outcome = λ det. settles program det cs (kept.legal, h.0);
      safe = ends_safe program cs (exit_of o) (kept.legal, h.0) (ap exit_of h.2);
    })
run_by b program asked history places cs ending.Spent le kept h fair =
    record {
      within = le;
      program = program;
      choices = cs;
      kept = kept;
      over = h;
      text_is = refl;
      fair = λ none. fair none refl;
      spent_for_all = λ det others ends. spent_too program asked.turns cs others kept.legal h (settles program det others ends);
    }

history_of : (b : List ℕ) (turns : ℕ) (chosen : List ℕ) (r : run.Run) → (k : IsRunOf b turns chosen r) → IsHistoryOf b k.program turns r.history.items (places_of r.paths.items) k.runs.choices
history_of b turns chosen r k = record { lawful = k.lawful; kept = k.runs.kept; starts = k.runs.places; legal = k.runs.legal; some_steps = k.runs.some_steps; front_within = k.runs.front_within }

pub run_says : (b : List ℕ) (asked : Asked) (r : run.Run) → length b ≤ source_limit → IsRunOf b asked.turns asked.chosen r
    → SaysRun asked b (exit_in r.ending) r.history.items (places_of r.paths.items) (text_in asked r.history.items (places_of r.paths.items) r.ending)
run_says b asked r le k =
    run_by b k.program asked r.history.items (places_of r.paths.items) k.runs.choices r.ending le (history_of b asked.turns asked.chosen r k) k.runs.ends k.fair

-- a run by turns is fair where nobody chose
fair_by_turns : (program : Program) (turns slice : ℕ) (chosen : List ℕ) (r : run.Run) → IsRun program turns r → Follows program slice chosen r.history.items → chosen ≡ [] → IsFairlySpent program r
fair_by_turns program turns slice chosen r runs follows none = λ spent free. run_is_fair (play_of program) (law_of program) slice turns r runs (subst (λ (cs : List ℕ). Follows program slice cs r.history.items) none follows)

pub chosen_run : (b : List ℕ) (turns slice : ℕ) (chosen : List ℕ) (r : run.Run) → IsRunBy b turns slice chosen r → IsRunOf b turns chosen r
chosen_run b turns slice chosen r k = record {
  program = k.program;
  lawful = k.lawful;
  runs = k.runs;
  fair = fair_by_turns k.program turns slice chosen r k.runs k.follows;
}

pub turned_fair : (program : Program) (turns slice : ℕ) (r : run.Run) → IsRun program turns r → Follows program slice [] r.history.items → IsFairlySpent program r
turned_fair program turns slice r runs follows = fair_by_turns program turns slice [] r runs follows refl

-- nothing is spent that ended
pub ended_fair : (program : Program) (r : run.Run) (b : Bool) → b ≡ is_spent_by r.ending → b ≡ false → IsFairlySpent program r
ended_fair program r b is ended = λ spent free. absurd (false≢true (sym ended ∙ is ∙ ap is_spent_by spent))

pub free_fair : (program : Program) (r : run.Run) → IsDeterministic program → IsFairlySpent program r
free_fair program r settled = λ spent free. absurd (free settled)

pub first_of : (program : Program) (setup : Setup) (a : Told) → a ≡ first_told program setup → IsTableOf program setup a
first_of program setup a is = (ap (λ (c : Told). c.program) is, ap (λ (c : Told). c.setup) is, ap (λ (c : Told). c.out) is)

-- what `run` and `play_choices` say: the report doesn't depend on the choices
pub told_of_choices : (b : List ℕ) (turns : ℕ) (vars : Bool) (chosen : List ℕ) (r : run.Run) → length b ≤ source_limit → IsRunOf b turns chosen r
    → SaysRun (report_asked turns vars chosen) b (exit_in r.ending) r.history.items (places_of r.paths.items) (text_in (report_asked turns vars []) r.history.items (places_of r.paths.items) r.ending)
told_of_choices b turns vars chosen r le k =
    subst (λ (t : List ℕ). SaysRun (report_asked turns vars chosen) b (exit_in r.ending) r.history.items (places_of r.paths.items) t) (same_report turns vars chosen r.history.items (places_of r.paths.items) r.ending)
    (run_says b (report_asked turns vars chosen) r le k)
  where
    same_report : (turns : ℕ) (vars : Bool) (chosen : List ℕ) (h : List Turn) (ps : List Place) (e : Ending) → text_in (report_asked turns vars chosen) h ps e ≡ text_in (report_asked turns vars []) h ps e
    same_report turns vars chosen h ps (ending.Ended o) = refl
    same_report turns vars chosen h ps ending.Spent = refl

-- a run of a plain program is fair, since no schedule tells
pub hosts_run : (b : List ℕ) (turns : ℕ) (program : Program) (r : run.Run) → IsCheckedOf b program → IsRun program turns r → ∥ IsPlainVerdict program None ∥₁ → IsRunOf b turns [] r
hosts_run b turns program r lawful runs plain = record {
  program = program;
  lawful = lawful;
  runs = runs;
  fair = λ none. free_fair program r (told_program program plain).deterministic;
}

-- what `trace` says: its text is the same however the run ended
pub told_by_trace : (b : List ℕ) (turns : ℕ) (r : run.Run) (text : List ℕ) → length b ≤ source_limit → IsRunOf b turns [] r → text ≡ trace_text (trace_of_history turns r.history.items b)
    → IsTraceText text (trace_of_history turns r.history.items b) → SaysTrace turns b (exit_in r.ending) r.history.items (places_of r.paths.items) text
told_by_trace b turns r text le k e readable = (
  subst (λ (t : List ℕ). SaysRun (trace_asked turns b) b (exit_in r.ending) r.history.items (places_of r.paths.items) t) (one_text turns b r.history.items (places_of r.paths.items) r.ending ∙ sym e)
      (run_says b (trace_asked turns b) r le k),
  λ played. readable,
)
  where
    one_text : (turns : ℕ) (b : List ℕ) (h : List Turn) (ps : List Place) (e : Ending) → text_in (trace_asked turns b) h ps e ≡ trace_text (trace_of_history turns h b)
    one_text turns b h ps (ending.Ended o) = refl
    one_text turns b h ps ending.Spent = refl

played_by : (fs : List FaultAt) (b : Bool) → IsPlayedExit (exit_by fs b)
played_by [] true = inl (inl refl)
played_by [] false = inl (inr (inr refl))
played_by (f ∷ fs) b = inl (inr (inl refl))

pub run_played : (e : Ending) → IsPlayedExit (exit_in e)
run_played (ending.Ended o) = played_by o.faults o.main_ended
run_played ending.Spent = inr refl

-- an exit that isn't one of a run that was played
abbrev IsApart : Exit → Type 0
IsApart x = (x ≢ Done) × (x ≢ Faulted) × (x ≢ Deadlocked) × (x ≢ Spent)

pub not_played : (x exit : Exit) → exit ≡ x → IsApart x → IsPlayedExit exit → ⊥
not_played x exit e apart (inl (inl h)) = apart.0 (sym e ∙ h)
not_played x exit e apart (inl (inr (inl h))) = apart.1 (sym e ∙ h)
not_played x exit e apart (inl (inr (inr h))) = apart.2 (sym e ∙ h)
not_played x exit e apart (inr h) = apart.3 (sym e ∙ h)

pub no_memory_apart : IsApart NoMemory
no_memory_apart = (λ e. cc e, λ e. cc e, λ e. cc e, λ e. cc e)

pub read_fault_apart : IsApart ReadFault
read_fault_apart = (λ e. cc e, λ e. cc e, λ e. cc e, λ e. cc e)

pub too_long_apart : IsApart TooLong
too_long_apart = (λ e. cc e, λ e. cc e, λ e. cc e, λ e. cc e)

refused_apart : IsApart Refused
refused_apart = (λ e. cc e, λ e. cc e, λ e. cc e, λ e. cc e)

pub played_decided : (e : Exit) → IsPlayedExit e → is_decided e ≡ true
played_decided e (inl (inl h)) = ap is_decided h
played_decided e (inl (inr (inl h))) = ap is_decided h
played_decided e (inl (inr (inr h))) = ap is_decided h
played_decided e (inr h) = ap is_decided h

pub played_unread : (e : Exit) → IsPlayedExit e → is_of_reading e ≡ false
played_unread e (inl (inl h)) = ap is_of_reading h
played_unread e (inl (inr (inl h))) = ap is_of_reading h
played_unread e (inl (inr (inr h))) = ap is_of_reading h
played_unread e (inr h) = ap is_of_reading h

-- a source that is refused
pub refused_by_trace : (b : List ℕ) (setup : Setup) (v : Refusal) (r : Reply) → length b ≤ source_limit → IsRefusedFor b v → r.ran.exit ≡ Refused → IsUnplayed r.ran.history.items (places_in r.ran) (bytes_of r.text) (refusal_text v)
    → IsReply (command.Trace setup) b r
refused_by_trace b setup v r le h e u = (
  subst (λ (x : Exit). SaysRun (trace_asked setup.turns b) b x r.ran.history.items (places_in r.ran) (bytes_of r.text)) (sym e) (record { within = le; refusal = v; refused = h; unplayed = u }),
  λ p. absurd (not_played Refused r.ran.exit e refused_apart p),
)

pub both_ok : {T E : Type 0} (r : Result T E) (P Q R : T → Type 0) → ((x : T) → P x → Q x → R x) → IfOk r P → IfOk r Q → IfOk r R
both_ok (Ok x) P Q R f p q = f x p q
both_ok (Err e) P Q R f p q = tt
