-- Replies to a source that hosts play.
use Rattle.std.proofs.Common.{◌≡◌, ℕ, ◌≤◌, Bool, List, [], length, sym, subst}
use Rattle.std.proofs.Math.Logic.{∥∥₁_elim}
use Rattle.std.specs.Prelude.{Option, Some, None, Result, Ok, Err, IfOk}
use Rattle.fm_base.specs.declared.memory.NoMemory.{NoMemory}
use Rattle.fm_base.specs.declared.name.Line.{Line}
use Rattle.fm_base.specs.declared.rule.Refusal.{Refusal}
use Rattle.fm_base.specs.Rules.{refusal_text}
use Rattle.fm_base.specs.declared.schedule.Setup.{Setup}
use Rattle.fm_rules.specs.declared.program.Program.{Program}
use Rattle.fm_verdict.specs.Program.{IsCheckedOf}
use Rattle.fm_nodes_plain.specs.Lines.{IsFirstUnplain, IsPlainVerdict}
use Rattle.fm_run.specs.Orders.{places_of}
use Rattle.fm_run.specs.Programs.{IsRun}
use Rattle.fm_run.specs.declared.run.Run as run
use Rattle.fm_words.specs.declared.command.Command.TheVariants as command
use Rattle.fmc.specs.declared.answer.Exit.{Exit}
use Rattle.fmc.specs.declared.answer.Exit.TheVariants.{NotPlain, Refused}
use Rattle.fmc.specs.declared.answer.Reply.{Reply}
use Rattle.fmc.specs.Answer.{Says, SaysNodes, report_asked}
use Rattle.fmc.specs.Outcomes.{IsRefusedFor, IsUnplayed, source_limit, exit_in}
use Rattle.fmc.specs.Plain.{PlainOrNot, unplain_text}
use Rattle.fmc.specs.Reply.{bytes_of, places_in, IsReply, text_in}
use Rattle.fmc.proofs.AnswerLaws.{hosts_run, run_says}
use Rattle.fmc.proofs.SaidLaws.{said_by_hosts}

-- of a program that hosts played
pub nodes_say_run : (b : List ℕ) (turns : ℕ) (vars : Bool) (program : Program) (r : run.Run) → length b ≤ source_limit → IsCheckedOf b program → IsRun program turns r → ∥ IsPlainVerdict program None ∥₁
    → SaysNodes (report_asked turns vars []) b (exit_in r.ending) r.history.items (places_of r.paths.items) (text_in (report_asked turns vars []) r.history.items (places_of r.paths.items) r.ending)
nodes_say_run b turns vars program r le lawful runs plain =
    let asked = report_asked turns vars [] in
    said_by_hosts asked b (exit_in r.ending) r.history.items (places_of r.paths.items) (text_in asked r.history.items (places_of r.paths.items) r.ending)
    (record { program = program; lawful = lawful; verdict = plain })
    (run_says b asked r le (hosts_run b turns program r lawful runs plain))

-- and its reply
pub run_replies : (number : ℕ) (setup : Setup) (vars : Bool) (shared program : Program) (run : run.Run) (x : Result Reply NoMemory) → shared ≡ program → IsRun shared setup.turns run → ∥ IsPlainVerdict shared None ∥₁
    → IfOk x (λ r. r.ran.exit ≡ exit_in run.ending) → IfOk x (λ r. r.ran.history ≡ run.history) → IfOk x (λ r. r.ran.paths ≡ run.paths)
    → IfOk x (λ r. bytes_of r.text ≡ text_in (report_asked setup.turns vars []) run.history.items (places_of run.paths.items) run.ending)
    → IfOk x (λ r. (source : List ℕ) → length source ≤ source_limit → IsCheckedOf source program → IsReply (command.Nodes number setup vars) source r)
run_replies number setup vars shared program run (Ok r) same runs plain exit history paths text = λ source le lawful.
    rw (exit, history, paths, text) (nodes_say_run source setup.turns vars shared run le (subst (IsCheckedOf source) (sym same) lawful) runs plain)
run_replies number setup vars shared program run (Err want) same runs plain exit history paths text = tt

-- of one that they can't play
pub unplain_says : (b : List ℕ) (number : ℕ) (setup : Setup) (vars : Bool) (program : Program) (line : Line) (r : Reply) → length b ≤ source_limit → IsCheckedOf b program → ∥ IsFirstUnplain program line ∥₁
    → r.ran.exit ≡ NotPlain → IsUnplayed r.ran.history.items (places_in r.ran) (bytes_of r.text) (unplain_text line) → IsReply (command.Nodes number setup vars) b r
unplain_says b number setup vars program line r le lawful unplain e u =
    subst (λ (x : Exit). Says (command.Nodes number setup vars) b x r.ran.history.items (places_in r.ran) (bytes_of r.text)) (sym e)
    (record { within = le; line = line; unplain = record { program = program; lawful = lawful; verdict = unplain }; unplayed = u })

-- of a source that breaks a rule
pub refused_by_hosts : (b : List ℕ) (number : ℕ) (setup : Setup) (vars : Bool) (v : Refusal) (r : Reply) → length b ≤ source_limit → IsRefusedFor b v → r.ran.exit ≡ Refused
    → IsUnplayed r.ran.history.items (places_in r.ran) (bytes_of r.text) (refusal_text v) → IsReply (command.Nodes number setup vars) b r
refused_by_hosts b number setup vars v r le h e u =
    subst (λ (x : Exit). SaysNodes (report_asked setup.turns vars []) b x r.ran.history.items (places_in r.ran) (bytes_of r.text)) (sym e) (record { within = le; refusal = v; refused = h; unplayed = u })

-- a source has one program, and a program one verdict
pub plain_or_not : ((b : List ℕ) (p q : Program) → IsCheckedOf b p → IsCheckedOf b q → p ≡ q) → ((p : Program) (v w : Option Line) → IsPlainVerdict p v → IsPlainVerdict p w → v ≡ w) → PlainOrNot
unfolding PlainOrNot
plain_or_not one verdicts source line plain unplain =
    let p = plain.program in
    let same = one source unplain.program p unplain.lawful plain.lawful in
    let here : ∥ IsPlainVerdict p (Some line) ∥₁ = subst (λ (q : Program). ∥ IsPlainVerdict q (Some line) ∥₁) same unplain.verdict in
    ∥∥₁_elim plain.verdict (λ a b. absurd a) (λ none. ∥∥₁_elim here (λ a b. absurd a) (λ some. none_some line (verdicts p None (Some line) none some)))
  where
    none_some : (line : Line) → None ≡ Some line → ⊥
    none_some line e = cc e
