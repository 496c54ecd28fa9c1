-- What follows from what is said.
use Rattle.std.proofs.Common.{◌≡◌, ◌⊎◌, inl, inr, ℕ, ◌<◌, ◌≤◌, Bool, false, List, [], length, refl, sym, ap, subst, ◌∙◌, arith}
use Rattle.std.specs.Prelude.{Option, Some, None, codes}
use Rattle.std.specs.Str.{bytes_eq}
use Rattle.std.proofs.lemmas.Bool.{false≢true}
use Rattle.fm_base.specs.declared.schedule.Turn.{Turn}
use Rattle.fm_base.specs.declared.rule.Refusal.{Refusal}
use Rattle.fm_base.specs.Verdict.{IsClean}
use Rattle.fm_base.specs.declared.name.Line.{Line}
use Rattle.fm_tree.specs.declared.program_unit.Placed.{Placed}
use Rattle.fm_net.specs.Machine.{Place}
use Rattle.fm_make.specs.Made.{made_text}
use Rattle.fm_flow_law.specs.Flow.{IsFlowSafe, IsFlowVerdict}
use Rattle.fm_rules.specs.declared.program.Program.{Program}
use Rattle.fm_verdict.specs.Program.{IsCheckedOf}
use Rattle.fm_verdict.specs.Verdict.{IsBroken}
use Rattle.fm_trace.specs.Texts.{IsFirstMalformed, IsTraceText}
use Rattle.fm_trace.specs.declared.trace.Trace.{Trace}
use Rattle.fm_trace.proofs.MalformedLaws.{no_line_of_a_trace, one_trace_text}
use Rattle.fm_words.specs.declared.command.Command.{Command}
use Rattle.fm_words.specs.declared.command.Command.TheVariants as command
use Rattle.fmc.specs.declared.answer.Exit.{Exit}
use Rattle.fmc.specs.declared.answer.Exit.TheVariants.{Done, Faulted, Deadlocked, Refused, Spent, Usage, ReadFault, WriteFault, NoMemory, TooLong, Malformed, Illegal, Unfinished, BadObject, Unverified, NotPlain}
use Rattle.fmc.specs.Exits.{is_of_reading}
use Rattle.fmc.specs.Outcomes.{IsAccepted, IsRefusedFor, IsUnplayed, source_limit}
use Rattle.fmc.specs.Plain.{HasPlainVerdict, IsNotPlain, IsPlainSource, PlainOrNot}
use Rattle.fmc.specs.Replay.{IsTooLongTrace, IsTraceOf, SaysReplay, trace_limit}
use Rattle.fmc.specs.Answer.{Asked, Says, SaysRun, SaysMade, SaysNodes, SaysTold, TellsList, TellsDeterminism, flow_text, TellsFlow, TellsObject, SaysOf, IsHistoryIn, IsNoHistory, HasHistory, IsPlayedExit, is_reading, report_asked, summary_asked, trace_asked}
use Rattle.fmc.specs.Decided.{IsBadObjectBy, IsCompleted, IsDecidedBy, IsDue, IsMalformedBy, IsReady, IsRefusedBy, IsTooLongBy, IsUnplainBy, IsUnverifiedBy}
use Rattle.fmc.proofs.ExecSaid.{exec_completed, exec_history, exec_long, exec_malformed, exec_unverified, found}

no_history : (h : List Turn) (ps : List Place) (t u : List ℕ) → IsUnplayed h ps t u → IsNoHistory h ps
no_history h ps t u k = (k.no_turns, k.no_places)

run_history : (asked : Asked) (b : List ℕ) (exit : Exit) (h : List Turn) (ps : List Place) (t : List ℕ) → SaysRun asked b exit h ps t → IsHistoryIn asked.turns b h ps
run_history asked b Done h ps t k = inr (k.program, k.choices, k.kept)
run_history asked b Faulted h ps t k = inr (k.program, k.choices, k.kept)
run_history asked b Deadlocked h ps t k = inr (k.program, k.choices, k.kept)
run_history asked b Refused h ps t k = inl (no_history h ps t _ k.unplayed)
run_history asked b Spent h ps t k = inr (k.program, k.choices, k.kept)
run_history asked b Usage h ps t k = absurd k
run_history asked b ReadFault h ps t k = inl (no_history h ps t _ k)
run_history asked b WriteFault h ps t k = absurd k
run_history asked b NoMemory h ps t k = inl (no_history h ps t _ k)
run_history asked b TooLong h ps t k = inl (no_history h ps t _ k.1)
run_history asked b Malformed h ps t k = absurd k
run_history asked b Illegal h ps t k = absurd k
run_history asked b Unfinished h ps t k = absurd k
run_history asked b BadObject h ps t k = absurd k
run_history asked b Unverified h ps t k = absurd k
run_history asked b NotPlain h ps t k = absurd k

-- hosts say what a run says, or that the program isn't plain
nodes_say : (asked : Asked) (b : List ℕ) (exit : Exit) (h : List Turn) (ps : List Place) (t : List ℕ) → SaysNodes asked b exit h ps t → SaysRun asked b exit h ps t ⊎ IsNotPlain b h ps t
nodes_say asked b Done h ps t k = inl k.1
nodes_say asked b Faulted h ps t k = inl k.1
nodes_say asked b Deadlocked h ps t k = inl k.1
nodes_say asked b Refused h ps t k = inl k
nodes_say asked b Spent h ps t k = inl k.1
nodes_say asked b Usage h ps t k = absurd k
nodes_say asked b ReadFault h ps t k = inl k
nodes_say asked b WriteFault h ps t k = absurd k
nodes_say asked b NoMemory h ps t k = inl k
nodes_say asked b TooLong h ps t k = inl k
nodes_say asked b Malformed h ps t k = absurd k
nodes_say asked b Illegal h ps t k = absurd k
nodes_say asked b Unfinished h ps t k = absurd k
nodes_say asked b BadObject h ps t k = absurd k
nodes_say asked b Unverified h ps t k = absurd k
nodes_say asked b NotPlain h ps t k = inr k

-- of a plain program they say what a run says
pub said_by_hosts : (asked : Asked) (b : List ℕ) (exit : Exit) (h : List Turn) (ps : List Place) (t : List ℕ) → IsPlainSource b → SaysRun asked b exit h ps t → SaysNodes asked b exit h ps t
said_by_hosts asked b Done h ps t plain k = (plain, k)
said_by_hosts asked b Faulted h ps t plain k = (plain, k)
said_by_hosts asked b Deadlocked h ps t plain k = (plain, k)
said_by_hosts asked b Refused h ps t plain k = k
said_by_hosts asked b Spent h ps t plain k = (plain, k)
said_by_hosts asked b Usage h ps t plain k = k
said_by_hosts asked b ReadFault h ps t plain k = k
said_by_hosts asked b WriteFault h ps t plain k = k
said_by_hosts asked b NoMemory h ps t plain k = k
said_by_hosts asked b TooLong h ps t plain k = k
said_by_hosts asked b Malformed h ps t plain k = k
said_by_hosts asked b Illegal h ps t plain k = k
said_by_hosts asked b Unfinished h ps t plain k = k
said_by_hosts asked b BadObject h ps t plain k = absurd k
said_by_hosts asked b Unverified h ps t plain k = absurd k
said_by_hosts asked b NotPlain h ps t plain k = absurd k

nodes_history : (asked : Asked) (b : List ℕ) (exit : Exit) (h : List Turn) (ps : List Place) (t : List ℕ) → SaysRun asked b exit h ps t ⊎ IsNotPlain b h ps t → IsHistoryIn asked.turns b h ps
nodes_history asked b exit h ps t (inl k) = run_history asked b exit h ps t k
nodes_history asked b exit h ps t (inr k) = inl (no_history h ps t _ k.unplayed)

-- of a command that runs nothing
module _ (TellsOf : List Placed → List ℕ → Type 0) (b : List ℕ) where
  told_history : (exit : Exit) (h : List Turn) (ps : List Place) (t : List ℕ) → SaysTold TellsOf b exit h ps t → IsNoHistory h ps
  told_history Done h ps t k = no_history h ps t _ k.unplayed
  told_history Faulted h ps t k = absurd k
  told_history Deadlocked h ps t k = absurd k
  told_history Refused h ps t k = no_history h ps t _ k.unplayed
  told_history Spent h ps t k = absurd k
  told_history Usage h ps t k = absurd k
  told_history ReadFault h ps t k = no_history h ps t _ k
  told_history WriteFault h ps t k = absurd k
  told_history NoMemory h ps t k = no_history h ps t _ k
  told_history TooLong h ps t k = no_history h ps t _ k.1
  told_history Malformed h ps t k = absurd k
  told_history Illegal h ps t k = absurd k
  told_history Unfinished h ps t k = absurd k
  told_history BadObject h ps t k = absurd k
  told_history Unverified h ps t k = absurd k
  told_history NotPlain h ps t k = absurd k

  told_completed : (exit : Exit) (h : List Turn) (ps : List Place) (t : List ℕ) → SaysTold TellsOf b exit h ps t → (exit ≡ ReadFault → ⊥) → length b ≤ source_limit → IsClean (IsBroken b) → (exit ≡ Done) ⊎ (exit ≡ NoMemory)
  told_completed Done h ps t k r le v = inl refl
  told_completed Faulted h ps t k r le v = absurd k
  told_completed Deadlocked h ps t k r le v = absurd k
  told_completed Refused h ps t k r le v = absurd (v k.refusal k.refused.broken)
  told_completed Spent h ps t k r le v = absurd k
  told_completed Usage h ps t k r le v = absurd k
  told_completed ReadFault h ps t k r le v = absurd (r refl)
  told_completed WriteFault h ps t k r le v = absurd k
  told_completed NoMemory h ps t k r le v = inr refl
  told_completed TooLong h ps t k r le v = absurd (omega (arith, k.0))
  told_completed Malformed h ps t k r le v = absurd k
  told_completed Illegal h ps t k r le v = absurd k
  told_completed Unfinished h ps t k r le v = absurd k
  told_completed BadObject h ps t k r le v = absurd k
  told_completed Unverified h ps t k r le v = absurd k
  told_completed NotPlain h ps t k r le v = absurd k

  told_refused : (exit : Exit) (h : List Turn) (ps : List Place) (t : List ℕ) → SaysTold TellsOf b exit h ps t → (exit ≡ ReadFault → ⊥) → length b ≤ source_limit → (v : Refusal) → IsRefusedFor b v → IsDue Refused exit
  told_refused Done h ps t k r le v w = absurd (k.clean v w.broken)
  told_refused Faulted h ps t k r le v w = absurd k
  told_refused Deadlocked h ps t k r le v w = absurd k
  told_refused Refused h ps t k r le v w = inl refl
  told_refused Spent h ps t k r le v w = absurd k
  told_refused Usage h ps t k r le v w = absurd k
  told_refused ReadFault h ps t k r le v w = absurd (r refl)
  told_refused WriteFault h ps t k r le v w = absurd k
  told_refused NoMemory h ps t k r le v w = inr refl
  told_refused TooLong h ps t k r le v w = absurd (omega (arith, k.0))
  told_refused Malformed h ps t k r le v w = absurd k
  told_refused Illegal h ps t k r le v w = absurd k
  told_refused Unfinished h ps t k r le v w = absurd k
  told_refused BadObject h ps t k r le v w = absurd k
  told_refused Unverified h ps t k r le v w = absurd k
  told_refused NotPlain h ps t k r le v w = absurd k

  told_long : (exit : Exit) (h : List Turn) (ps : List Place) (t : List ℕ) → SaysTold TellsOf b exit h ps t → (exit ≡ ReadFault → ⊥) → source_limit < length b → IsDue TooLong exit
  told_long Done h ps t k r l = absurd (omega (arith, k.within))
  told_long Faulted h ps t k r l = absurd k
  told_long Deadlocked h ps t k r l = absurd k
  told_long Refused h ps t k r l = absurd (omega (arith, k.within))
  told_long Spent h ps t k r l = absurd k
  told_long Usage h ps t k r l = absurd k
  told_long ReadFault h ps t k r l = absurd (r refl)
  told_long WriteFault h ps t k r l = absurd k
  told_long NoMemory h ps t k r l = inr refl
  told_long TooLong h ps t k r l = inl refl
  told_long Malformed h ps t k r l = absurd k
  told_long Illegal h ps t k r l = absurd k
  told_long Unfinished h ps t k r l = absurd k
  told_long BadObject h ps t k r l = absurd k
  told_long Unverified h ps t k r l = absurd k
  told_long NotPlain h ps t k r l = absurd k

-- of a replay: bytes are the text of one trace, or malformed
same_trace : (Holds : List ℕ → Type 0) (b : List ℕ) → (k : IsTraceOf Holds b) → (t : Trace) → IsTraceText b t → Holds t.source
same_trace Holds b k t read = subst (λ (u : Trace). Holds u.source) (one_trace_text b k.trace t k.read read) k.holds

not_long : (b : List ℕ) → length b ≤ trace_limit → (t : Trace) → IsTraceText b t → length t.source ≤ source_limit → IsTooLongTrace b → ⊥
not_long b within t read short (inl l) = omega (arith, within, l)
not_long b within t read short (inr l) =
    let same : length t.source ≡ length l.1.source = ap (λ (u : Trace). length u.source) (one_trace_text b t l.1 read l.2) in
    omega (arith, short, same, l.3)

malformed_not_long : (b : List ℕ) → length b ≤ trace_limit → (line : ℕ) → IsFirstMalformed b line → IsTooLongTrace b → ⊥
malformed_not_long b within line malformed (inl l) = omega (arith, within, l)
malformed_not_long b within line malformed (inr l) = no_line_of_a_trace b l.1 l.2 line malformed

replay_history : (vars : Bool) (b : List ℕ) (exit : Exit) (h : List Turn) (ps : List Place) (t : List ℕ) → SaysReplay vars b exit h ps t → IsNoHistory h ps
replay_history vars b Done h ps t k = no_history h ps t _ k.unplayed
replay_history vars b Faulted h ps t k = no_history h ps t _ k.unplayed
replay_history vars b Deadlocked h ps t k = no_history h ps t _ k.unplayed
replay_history vars b Refused h ps t k = no_history h ps t _ k.refused.unplayed
replay_history vars b Spent h ps t k = no_history h ps t _ k.unplayed
replay_history vars b Usage h ps t k = absurd k
replay_history vars b ReadFault h ps t k = no_history h ps t _ k
replay_history vars b WriteFault h ps t k = absurd k
replay_history vars b NoMemory h ps t k = no_history h ps t _ k
replay_history vars b TooLong h ps t k = no_history h ps t _ k.1
replay_history vars b Malformed h ps t k = no_history h ps t _ k.unplayed
replay_history vars b Illegal h ps t k = no_history h ps t _ k.unplayed
replay_history vars b Unfinished h ps t k = no_history h ps t _ k.unplayed
replay_history vars b BadObject h ps t k = absurd k
replay_history vars b Unverified h ps t k = absurd k
replay_history vars b NotPlain h ps t k = absurd k

replay_completed : (vars : Bool) (b : List ℕ) (exit : Exit) (h : List Turn) (ps : List Place) (t : List ℕ) → SaysReplay vars b exit h ps t → (exit ≡ ReadFault → ⊥) → IsTraceOf IsAccepted b → IsPlayedExit exit ⊎ ((exit ≡ Illegal) ⊎ ((exit ≡ Unfinished) ⊎ (exit ≡ NoMemory)))
replay_completed vars b Done h ps t k r v = inl (inl (inl refl))
replay_completed vars b Faulted h ps t k r v = inl (inl (inr (inl refl)))
replay_completed vars b Deadlocked h ps t k r v = inl (inl (inr (inr refl)))
replay_completed vars b Refused h ps t k r v = absurd (same_trace IsAccepted b v k.trace k.read k.refused.refusal k.refused.refused.broken)
replay_completed vars b Spent h ps t k r v = inl (inr refl)
replay_completed vars b Usage h ps t k r v = absurd k
replay_completed vars b ReadFault h ps t k r v = absurd (r refl)
replay_completed vars b WriteFault h ps t k r v = absurd k
replay_completed vars b NoMemory h ps t k r v = inr (inr (inr refl))
replay_completed vars b TooLong h ps t k r v = absurd (not_long b v.within v.trace v.read v.short k.0)
replay_completed vars b Malformed h ps t k r v = absurd (no_line_of_a_trace b v.trace v.read k.line k.malformed)
replay_completed vars b Illegal h ps t k r v = inr (inl refl)
replay_completed vars b Unfinished h ps t k r v = inr (inr (inl refl))
replay_completed vars b BadObject h ps t k r v = absurd k
replay_completed vars b Unverified h ps t k r v = absurd k
replay_completed vars b NotPlain h ps t k r v = absurd k

replay_refused : (vars : Bool) (b : List ℕ) (exit : Exit) (h : List Turn) (ps : List Place) (t : List ℕ) → SaysReplay vars b exit h ps t → (exit ≡ ReadFault → ⊥) → (v : Refusal) → IsTraceOf (λ source. IsRefusedFor source v) b → IsDue Refused exit
replay_refused vars b Done h ps t k r v w = absurd (k.lawful.clean v (same_trace (λ source. IsRefusedFor source v) b w k.trace k.read).broken)
replay_refused vars b Faulted h ps t k r v w = absurd (k.lawful.clean v (same_trace (λ source. IsRefusedFor source v) b w k.trace k.read).broken)
replay_refused vars b Deadlocked h ps t k r v w = absurd (k.lawful.clean v (same_trace (λ source. IsRefusedFor source v) b w k.trace k.read).broken)
replay_refused vars b Refused h ps t k r v w = inl refl
replay_refused vars b Spent h ps t k r v w = absurd (k.lawful.clean v (same_trace (λ source. IsRefusedFor source v) b w k.trace k.read).broken)
replay_refused vars b Usage h ps t k r v w = absurd k
replay_refused vars b ReadFault h ps t k r v w = absurd (r refl)
replay_refused vars b WriteFault h ps t k r v w = absurd k
replay_refused vars b NoMemory h ps t k r v w = inr refl
replay_refused vars b TooLong h ps t k r v w = absurd (not_long b w.within w.trace w.read w.short k.0)
replay_refused vars b Malformed h ps t k r v w = absurd (no_line_of_a_trace b w.trace w.read k.line k.malformed)
replay_refused vars b Illegal h ps t k r v w = absurd (k.lawful.clean v (same_trace (λ source. IsRefusedFor source v) b w k.trace k.read).broken)
replay_refused vars b Unfinished h ps t k r v w = absurd (k.lawful.clean v (same_trace (λ source. IsRefusedFor source v) b w k.trace k.read).broken)
replay_refused vars b BadObject h ps t k r v w = absurd k
replay_refused vars b Unverified h ps t k r v w = absurd k
replay_refused vars b NotPlain h ps t k r v w = absurd k

replay_long : (vars : Bool) (b : List ℕ) (exit : Exit) (h : List Turn) (ps : List Place) (t : List ℕ) → SaysReplay vars b exit h ps t → (exit ≡ ReadFault → ⊥) → IsTooLongTrace b → IsDue TooLong exit
replay_long vars b Done h ps t k r l = absurd (not_long b k.within k.trace k.read k.short l)
replay_long vars b Faulted h ps t k r l = absurd (not_long b k.within k.trace k.read k.short l)
replay_long vars b Deadlocked h ps t k r l = absurd (not_long b k.within k.trace k.read k.short l)
replay_long vars b Refused h ps t k r l = absurd (not_long b k.within k.trace k.read k.refused.within l)
replay_long vars b Spent h ps t k r l = absurd (not_long b k.within k.trace k.read k.short l)
replay_long vars b Usage h ps t k r l = absurd k
replay_long vars b ReadFault h ps t k r l = absurd (r refl)
replay_long vars b WriteFault h ps t k r l = absurd k
replay_long vars b NoMemory h ps t k r l = inr refl
replay_long vars b TooLong h ps t k r l = inl refl
replay_long vars b Malformed h ps t k r l = absurd (malformed_not_long b k.within k.line k.malformed l)
replay_long vars b Illegal h ps t k r l = absurd (not_long b k.within k.trace k.read k.short l)
replay_long vars b Unfinished h ps t k r l = absurd (not_long b k.within k.trace k.read k.short l)
replay_long vars b BadObject h ps t k r l = absurd k
replay_long vars b Unverified h ps t k r l = absurd k
replay_long vars b NotPlain h ps t k r l = absurd k

replay_malformed : (vars : Bool) (b : List ℕ) (exit : Exit) (h : List Turn) (ps : List Place) (t : List ℕ) → SaysReplay vars b exit h ps t → (exit ≡ ReadFault → ⊥) → (length b ≤ trace_limit) × (line : ℕ) × IsFirstMalformed b line → IsDue Malformed exit
replay_malformed vars b Done h ps t k r l = absurd (no_line_of_a_trace b k.trace k.read l.1 l.2)
replay_malformed vars b Faulted h ps t k r l = absurd (no_line_of_a_trace b k.trace k.read l.1 l.2)
replay_malformed vars b Deadlocked h ps t k r l = absurd (no_line_of_a_trace b k.trace k.read l.1 l.2)
replay_malformed vars b Refused h ps t k r l = absurd (no_line_of_a_trace b k.trace k.read l.1 l.2)
replay_malformed vars b Spent h ps t k r l = absurd (no_line_of_a_trace b k.trace k.read l.1 l.2)
replay_malformed vars b Usage h ps t k r l = absurd k
replay_malformed vars b ReadFault h ps t k r l = absurd (r refl)
replay_malformed vars b WriteFault h ps t k r l = absurd k
replay_malformed vars b NoMemory h ps t k r l = inr refl
replay_malformed vars b TooLong h ps t k r l = absurd (malformed_not_long b l.0 l.1 l.2 k.0)
replay_malformed vars b Malformed h ps t k r l = inl refl
replay_malformed vars b Illegal h ps t k r l = absurd (no_line_of_a_trace b k.trace k.read l.1 l.2)
replay_malformed vars b Unfinished h ps t k r l = absurd (no_line_of_a_trace b k.trace k.read l.1 l.2)
replay_malformed vars b BadObject h ps t k r l = absurd k
replay_malformed vars b Unverified h ps t k r l = absurd k
replay_malformed vars b NotPlain h ps t k r l = absurd k

made_history : (number : ℕ) (exit : Exit) (h : List Turn) (ps : List Place) (t : List ℕ) → SaysMade number exit h ps t → IsNoHistory h ps
made_history number exit h ps t (inl k) = no_history h ps t _ k.1
made_history number exit h ps t (inr k) = no_history h ps t _ k.1

pub says_history : (o : Option Command) (b : List ℕ) (exit : Exit) (h : List Turn) (ps : List Place) (t : List ℕ) → SaysOf o b exit h ps t → HasHistory o b h ps
says_history None b exit h ps t k = no_history h ps t _ k.1
says_history (Some (command.Run setup vars)) b exit h ps t k = run_history (report_asked setup.turns vars []) b exit h ps t k
says_history (Some (command.Trace setup)) b exit h ps t k = run_history (trace_asked setup.turns b) b exit h ps t k.0
says_history (Some (command.Replay vars)) b exit h ps t k = replay_history vars b exit h ps t k
says_history (Some command.Check) b exit h ps t k = told_history TellsDeterminism b exit h ps t k
says_history (Some command.List) b exit h ps t k = told_history TellsList b exit h ps t k
says_history (Some command.Flow) b exit h ps t k = told_history TellsFlow b exit h ps t k
says_history (Some command.Compile) b exit h ps t k = told_history TellsObject b exit h ps t k
says_history (Some (command.Exec turns vars)) b exit h ps t k = exec_history turns vars b exit h ps t (found turns vars b exit h ps t k)
says_history (Some (command.Make number)) b exit h ps t k = made_history number exit h ps t k
says_history (Some (command.Demo number setup)) b exit h ps t k = run_history (summary_asked setup.turns) (made_text number) exit h ps t k.1
says_history (Some (command.Nodes number setup vars)) b exit h ps t k = nodes_history (report_asked setup.turns vars []) b exit h ps t (nodes_say (report_asked setup.turns vars []) b exit h ps t k)

run_completed : (asked : Asked) (b : List ℕ) (exit : Exit) (h : List Turn) (ps : List Place) (t : List ℕ) → SaysRun asked b exit h ps t → (exit ≡ ReadFault → ⊥) → length b ≤ source_limit → IsAccepted b → ((exit ≡ Done) ⊎ ((exit ≡ Faulted) ⊎ (exit ≡ Deadlocked))) ⊎ ((exit ≡ Spent) ⊎ (exit ≡ NoMemory))
run_completed asked b Done h ps t k r le v = inl (inl refl)
run_completed asked b Faulted h ps t k r le v = inl (inr (inl refl))
run_completed asked b Deadlocked h ps t k r le v = inl (inr (inr refl))
run_completed asked b Refused h ps t k r le v = absurd (v k.refusal k.refused.broken)
run_completed asked b Spent h ps t k r le v = inr (inl refl)
run_completed asked b Usage h ps t k r le v = absurd k
run_completed asked b ReadFault h ps t k r le v = absurd (r refl)
run_completed asked b WriteFault h ps t k r le v = absurd k
run_completed asked b NoMemory h ps t k r le v = inr (inr refl)
run_completed asked b TooLong h ps t k r le v = absurd (omega (arith, k.0))
run_completed asked b Malformed h ps t k r le v = absurd k
run_completed asked b Illegal h ps t k r le v = absurd k
run_completed asked b Unfinished h ps t k r le v = absurd k
run_completed asked b BadObject h ps t k r le v = absurd k
run_completed asked b Unverified h ps t k r le v = absurd k
run_completed asked b NotPlain h ps t k r le v = absurd k

-- the program of a plain source isn't found not to be plain
nodes_completed : (asked : Asked) (b : List ℕ) (exit : Exit) (h : List Turn) (ps : List Place) (t : List ℕ) → SaysRun asked b exit h ps t ⊎ IsNotPlain b h ps t → (exit ≡ ReadFault → ⊥) → PlainOrNot → length b ≤ source_limit → IsPlainSource b
    → ((exit ≡ Done) ⊎ ((exit ≡ Faulted) ⊎ (exit ≡ Deadlocked))) ⊎ ((exit ≡ Spent) ⊎ (exit ≡ NoMemory))
unfolding PlainOrNot
nodes_completed asked b exit h ps t (inl k) r apart le v = run_completed asked b exit h ps t k r le v.lawful.clean
nodes_completed asked b exit h ps t (inr k) r apart le v = absurd (apart b k.line v k.unplain)

made_completed : (number : ℕ) (exit : Exit) (h : List Turn) (ps : List Place) (t : List ℕ) → SaysMade number exit h ps t → (exit ≡ Done) ⊎ (exit ≡ NoMemory)
made_completed number exit h ps t (inl k) = inl k.0
made_completed number exit h ps t (inr k) = inr k.0

-- a demonstration meets no read fault, and its program isn't too long
demo_reads : (exit : Exit) → is_of_reading exit ≡ false → exit ≡ ReadFault → ⊥
demo_reads exit e f = false≢true (sym e ∙ ap is_of_reading f)

completed : (c : Command) (b : List ℕ) (exit : Exit) (h : List Turn) (ps : List Place) (t : List ℕ) → Says c b exit h ps t → (exit ≡ ReadFault → ⊥) → ((n : ℕ) → length (made_text n) ≤ source_limit) → PlainOrNot → IsReady c b → IsCompleted c exit
completed (command.Run setup vars) b exit h ps t k r short apart v = run_completed (report_asked setup.turns vars []) b exit h ps t k r v.0 v.1
completed (command.Trace setup) b exit h ps t k r short apart v = run_completed (trace_asked setup.turns b) b exit h ps t k.0 r v.0 v.1
completed (command.Replay vars) b exit h ps t k r short apart v = replay_completed vars b exit h ps t k r v
completed command.Check b exit h ps t k r short apart v = told_completed TellsDeterminism b exit h ps t k r v.0 v.1
completed command.List b exit h ps t k r short apart v = told_completed TellsList b exit h ps t k r v.0 v.1
completed command.Flow b exit h ps t k r short apart v = told_completed TellsFlow b exit h ps t k r v.0 v.1
completed command.Compile b exit h ps t k r short apart v = told_completed TellsObject b exit h ps t k r v.0 v.1
completed (command.Exec turns vars) b exit h ps t k r short apart v = exec_completed turns vars b exit h ps t (found turns vars b exit h ps t k) r v
completed (command.Make number) b exit h ps t k r short apart v = made_completed number exit h ps t k
completed (command.Demo number setup) b exit h ps t k r short apart v = run_completed (summary_asked setup.turns) (made_text number) exit h ps t k.1 (demo_reads exit k.0) (short number) v
completed (command.Nodes number setup vars) b exit h ps t k r short apart v = nodes_completed (report_asked setup.turns vars []) b exit h ps t (nodes_say (report_asked setup.turns vars []) b exit h ps t k) r apart v.0 v.1

run_refused : (asked : Asked) (b : List ℕ) (exit : Exit) (h : List Turn) (ps : List Place) (t : List ℕ) → SaysRun asked b exit h ps t → (exit ≡ ReadFault → ⊥) → length b ≤ source_limit → (v : Refusal) → IsRefusedFor b v → IsDue Refused exit
run_refused asked b Done h ps t k r le v w = absurd (k.kept.lawful.clean v w.broken)
run_refused asked b Faulted h ps t k r le v w = absurd (k.kept.lawful.clean v w.broken)
run_refused asked b Deadlocked h ps t k r le v w = absurd (k.kept.lawful.clean v w.broken)
run_refused asked b Refused h ps t k r le v w = inl refl
run_refused asked b Spent h ps t k r le v w = absurd (k.kept.lawful.clean v w.broken)
run_refused asked b Usage h ps t k r le v w = absurd k
run_refused asked b ReadFault h ps t k r le v w = absurd (r refl)
run_refused asked b WriteFault h ps t k r le v w = absurd k
run_refused asked b NoMemory h ps t k r le v w = inr refl
run_refused asked b TooLong h ps t k r le v w = absurd (omega (arith, k.0))
run_refused asked b Malformed h ps t k r le v w = absurd k
run_refused asked b Illegal h ps t k r le v w = absurd k
run_refused asked b Unfinished h ps t k r le v w = absurd k
run_refused asked b BadObject h ps t k r le v w = absurd k
run_refused asked b Unverified h ps t k r le v w = absurd k
run_refused asked b NotPlain h ps t k r le v w = absurd k

nodes_refused : (asked : Asked) (b : List ℕ) (exit : Exit) (h : List Turn) (ps : List Place) (t : List ℕ) → SaysRun asked b exit h ps t ⊎ IsNotPlain b h ps t → (exit ≡ ReadFault → ⊥) → length b ≤ source_limit → (v : Refusal) → IsRefusedFor b v → IsDue Refused exit
nodes_refused asked b exit h ps t (inl k) r le v w = run_refused asked b exit h ps t k r le v w
nodes_refused asked b exit h ps t (inr k) r le v w = absurd (k.unplain.lawful.clean v w.broken)

refused_of : (c : Command) (b : List ℕ) (exit : Exit) (h : List Turn) (ps : List Place) (t : List ℕ) → Says c b exit h ps t → (exit ≡ ReadFault → ⊥) → ((n : ℕ) → length (made_text n) ≤ source_limit) → (v : Refusal) → IsRefusedBy c b v → IsDue Refused exit
refused_of (command.Run setup vars) b exit h ps t k r short v w = run_refused (report_asked setup.turns vars []) b exit h ps t k r w.0 v w.1
refused_of (command.Trace setup) b exit h ps t k r short v w = run_refused (trace_asked setup.turns b) b exit h ps t k.0 r w.0 v w.1
refused_of (command.Replay vars) b exit h ps t k r short v w = replay_refused vars b exit h ps t k r v w
refused_of command.Check b exit h ps t k r short v w = told_refused TellsDeterminism b exit h ps t k r w.0 v w.1
refused_of command.List b exit h ps t k r short v w = told_refused TellsList b exit h ps t k r w.0 v w.1
refused_of command.Flow b exit h ps t k r short v w = told_refused TellsFlow b exit h ps t k r w.0 v w.1
refused_of command.Compile b exit h ps t k r short v w = told_refused TellsObject b exit h ps t k r w.0 v w.1
refused_of (command.Exec turns vars) b exit h ps t k r short v w = absurd w
refused_of (command.Make number) b exit h ps t k r short v w = absurd w
refused_of (command.Demo number setup) b exit h ps t k r short v w = run_refused (summary_asked setup.turns) (made_text number) exit h ps t k.1 (demo_reads exit k.0) (short number) v w
refused_of (command.Nodes number setup vars) b exit h ps t k r short v w = nodes_refused (report_asked setup.turns vars []) b exit h ps t (nodes_say (report_asked setup.turns vars []) b exit h ps t k) r w.0 v w.1

run_long : (asked : Asked) (b : List ℕ) (exit : Exit) (h : List Turn) (ps : List Place) (t : List ℕ) → SaysRun asked b exit h ps t → (exit ≡ ReadFault → ⊥) → source_limit < length b → IsDue TooLong exit
run_long asked b Done h ps t k r l = absurd (omega (arith, k.within))
run_long asked b Faulted h ps t k r l = absurd (omega (arith, k.within))
run_long asked b Deadlocked h ps t k r l = absurd (omega (arith, k.within))
run_long asked b Refused h ps t k r l = absurd (omega (arith, k.within))
run_long asked b Spent h ps t k r l = absurd (omega (arith, k.within))
run_long asked b Usage h ps t k r l = absurd k
run_long asked b ReadFault h ps t k r l = absurd (r refl)
run_long asked b WriteFault h ps t k r l = absurd k
run_long asked b NoMemory h ps t k r l = inr refl
run_long asked b TooLong h ps t k r l = inl refl
run_long asked b Malformed h ps t k r l = absurd k
run_long asked b Illegal h ps t k r l = absurd k
run_long asked b Unfinished h ps t k r l = absurd k
run_long asked b BadObject h ps t k r l = absurd k
run_long asked b Unverified h ps t k r l = absurd k
run_long asked b NotPlain h ps t k r l = absurd k

nodes_long : (asked : Asked) (b : List ℕ) (exit : Exit) (h : List Turn) (ps : List Place) (t : List ℕ) → SaysRun asked b exit h ps t ⊎ IsNotPlain b h ps t → (exit ≡ ReadFault → ⊥) → source_limit < length b → IsDue TooLong exit
nodes_long asked b exit h ps t (inl k) r l = run_long asked b exit h ps t k r l
nodes_long asked b exit h ps t (inr k) r l = absurd (omega (arith, k.within))

-- a program that isn't plain is found to be so
nodes_unplain : (asked : Asked) (b : List ℕ) (exit : Exit) (h : List Turn) (ps : List Place) (t : List ℕ) → SaysNodes asked b exit h ps t → (exit ≡ ReadFault → ⊥) → length b ≤ source_limit → (line : Line) → HasPlainVerdict b (Some line) → (IsPlainSource b → ⊥) → IsDue NotPlain exit
nodes_unplain asked b Done h ps t k r le line v not_plain = absurd (not_plain k.0)
nodes_unplain asked b Faulted h ps t k r le line v not_plain = absurd (not_plain k.0)
nodes_unplain asked b Deadlocked h ps t k r le line v not_plain = absurd (not_plain k.0)
nodes_unplain asked b Refused h ps t k r le line v not_plain = absurd (v.lawful.clean k.refusal k.refused.broken)
nodes_unplain asked b Spent h ps t k r le line v not_plain = absurd (not_plain k.0)
nodes_unplain asked b Usage h ps t k r le line v not_plain = absurd k
nodes_unplain asked b ReadFault h ps t k r le line v not_plain = absurd (r refl)
nodes_unplain asked b WriteFault h ps t k r le line v not_plain = absurd k
nodes_unplain asked b NoMemory h ps t k r le line v not_plain = inr refl
nodes_unplain asked b TooLong h ps t k r le line v not_plain = absurd (omega (arith, k.0))
nodes_unplain asked b Malformed h ps t k r le line v not_plain = absurd k
nodes_unplain asked b Illegal h ps t k r le line v not_plain = absurd k
nodes_unplain asked b Unfinished h ps t k r le line v not_plain = absurd k
nodes_unplain asked b BadObject h ps t k r le line v not_plain = absurd k
nodes_unplain asked b Unverified h ps t k r le line v not_plain = absurd k
nodes_unplain asked b NotPlain h ps t k r le line v not_plain = inl refl

unplain_by : (c : Command) (b : List ℕ) (exit : Exit) (h : List Turn) (ps : List Place) (t : List ℕ) → Says c b exit h ps t → (exit ≡ ReadFault → ⊥) → PlainOrNot → IsUnplainBy c b → IsDue NotPlain exit
unfolding PlainOrNot
unplain_by (command.Run setup vars) b exit h ps t k r apart v = absurd v
unplain_by (command.Trace setup) b exit h ps t k r apart v = absurd v
unplain_by (command.Replay vars) b exit h ps t k r apart v = absurd v
unplain_by command.Check b exit h ps t k r apart v = absurd v
unplain_by command.List b exit h ps t k r apart v = absurd v
unplain_by command.Flow b exit h ps t k r apart v = absurd v
unplain_by command.Compile b exit h ps t k r apart v = absurd v
unplain_by (command.Exec turns vars) b exit h ps t k r apart v = absurd v
unplain_by (command.Make number) b exit h ps t k r apart v = absurd v
unplain_by (command.Demo number setup) b exit h ps t k r apart v = absurd v
unplain_by (command.Nodes number setup vars) b exit h ps t k r apart v = nodes_unplain (report_asked setup.turns vars []) b exit h ps t k r v.0 v.1 v.2 (λ plain. apart b v.1 plain v.2)

too_long_by : (c : Command) (b : List ℕ) (exit : Exit) (h : List Turn) (ps : List Place) (t : List ℕ) → Says c b exit h ps t → (exit ≡ ReadFault → ⊥) → IsTooLongBy c b → IsDue TooLong exit
too_long_by (command.Run setup vars) b exit h ps t k r l = run_long (report_asked setup.turns vars []) b exit h ps t k r l
too_long_by (command.Trace setup) b exit h ps t k r l = run_long (trace_asked setup.turns b) b exit h ps t k.0 r l
too_long_by (command.Replay vars) b exit h ps t k r l = replay_long vars b exit h ps t k r l
too_long_by command.Check b exit h ps t k r l = told_long TellsDeterminism b exit h ps t k r l
too_long_by command.List b exit h ps t k r l = told_long TellsList b exit h ps t k r l
too_long_by command.Flow b exit h ps t k r l = told_long TellsFlow b exit h ps t k r l
too_long_by command.Compile b exit h ps t k r l = told_long TellsObject b exit h ps t k r l
too_long_by (command.Exec turns vars) b exit h ps t k r l = exec_long turns vars b exit h ps t (found turns vars b exit h ps t k) r l
too_long_by (command.Make number) b exit h ps t k r l = absurd l
too_long_by (command.Demo number setup) b exit h ps t k r l = absurd l
too_long_by (command.Nodes number setup vars) b exit h ps t k r l = nodes_long (report_asked setup.turns vars []) b exit h ps t (nodes_say (report_asked setup.turns vars []) b exit h ps t k) r l

malformed_by : (c : Command) (b : List ℕ) (exit : Exit) (h : List Turn) (ps : List Place) (t : List ℕ) → Says c b exit h ps t → (exit ≡ ReadFault → ⊥) → IsMalformedBy c b → IsDue Malformed exit
malformed_by (command.Run setup vars) b exit h ps t k r l = absurd l
malformed_by (command.Trace setup) b exit h ps t k r l = absurd l
malformed_by (command.Replay vars) b exit h ps t k r l = replay_malformed vars b exit h ps t k r l
malformed_by command.Check b exit h ps t k r l = absurd l
malformed_by command.List b exit h ps t k r l = absurd l
malformed_by command.Flow b exit h ps t k r l = absurd l
malformed_by command.Compile b exit h ps t k r l = absurd l
malformed_by (command.Exec turns vars) b exit h ps t k r l = absurd l
malformed_by (command.Make number) b exit h ps t k r l = absurd l
malformed_by (command.Demo number setup) b exit h ps t k r l = absurd l
malformed_by (command.Nodes number setup vars) b exit h ps t k r l = absurd l

bad_object_by : (c : Command) (b : List ℕ) (exit : Exit) (h : List Turn) (ps : List Place) (t : List ℕ) → Says c b exit h ps t → (exit ≡ ReadFault → ⊥) → IsBadObjectBy c b → IsDue BadObject exit
bad_object_by (command.Run setup vars) b exit h ps t k r l = absurd l
bad_object_by (command.Trace setup) b exit h ps t k r l = absurd l
bad_object_by (command.Replay vars) b exit h ps t k r l = absurd l
bad_object_by command.Check b exit h ps t k r l = absurd l
bad_object_by command.List b exit h ps t k r l = absurd l
bad_object_by command.Flow b exit h ps t k r l = absurd l
bad_object_by command.Compile b exit h ps t k r l = absurd l
bad_object_by (command.Exec turns vars) b exit h ps t k r l = exec_malformed turns vars b exit h ps t (found turns vars b exit h ps t k) r l
bad_object_by (command.Make number) b exit h ps t k r l = absurd l
bad_object_by (command.Demo number setup) b exit h ps t k r l = absurd l
bad_object_by (command.Nodes number setup vars) b exit h ps t k r l = absurd l

unverified_by : (c : Command) (b : List ℕ) (exit : Exit) (h : List Turn) (ps : List Place) (t : List ℕ) → Says c b exit h ps t → (exit ≡ ReadFault → ⊥) → IsUnverifiedBy c b → IsDue Unverified exit
unverified_by (command.Run setup vars) b exit h ps t k r l = absurd l
unverified_by (command.Trace setup) b exit h ps t k r l = absurd l
unverified_by (command.Replay vars) b exit h ps t k r l = absurd l
unverified_by command.Check b exit h ps t k r l = absurd l
unverified_by command.List b exit h ps t k r l = absurd l
unverified_by command.Flow b exit h ps t k r l = absurd l
unverified_by command.Compile b exit h ps t k r l = absurd l
unverified_by (command.Exec turns vars) b exit h ps t k r l = exec_unverified turns vars b exit h ps t (found turns vars b exit h ps t k) r l
unverified_by (command.Make number) b exit h ps t k r l = absurd l
unverified_by (command.Demo number setup) b exit h ps t k r l = absurd l
unverified_by (command.Nodes number setup vars) b exit h ps t k r l = absurd l

-- so the exit is decided of which such is said, and which isn't a read fault
pub decided_by : (c : Command) (b : List ℕ) (exit : Exit) (h : List Turn) (ps : List Place) (t : List ℕ) → Says c b exit h ps t → (exit ≡ ReadFault → ⊥) → ((n : ℕ) → length (made_text n) ≤ source_limit) → PlainOrNot → IsDecidedBy c b exit
decided_by c b exit h ps t k r short apart = record {
  complete = λ v. completed c b exit h ps t k r short apart v;
  refused = λ v w. refused_of c b exit h ps t k r short v w;
  too_long = λ l. too_long_by c b exit h ps t k r l;
  malformed = λ l. malformed_by c b exit h ps t k r l;
  bad_object = λ l. bad_object_by c b exit h ps t k r l;
  unverified = λ l. unverified_by c b exit h ps t k r l;
  unplain = λ v. unplain_by c b exit h ps t k r apart v;
}

-- only of a safe program it is told that there is no deadlock
no_risk : (risk : Option Line) → codes "no deadlock\n" ≡ flow_text risk → risk ≡ None
no_risk None e = refl
no_risk (Some line) e = absurd (false≢true (sym (ap (λ (t : List ℕ). bytes_eq t (codes "no deadlock\n")) e)))

module _ (b : List ℕ) (before : List Turn) (starts : List Place) (one : (p q : Program) → IsCheckedOf b p → IsCheckedOf b q → p ≡ q) (k : Says command.Flow b Done before starts (codes "no deadlock\n")) where
  told_safe : (q : Program) → IsCheckedOf b q → IsFlowSafe q
  told_safe q lawful =
      let flow = k.tells in
      let p = flow.1.program in
      let safe : IsFlowSafe p = subst (IsFlowVerdict p) (no_risk flow.0 (k.unplayed.text_is ∙ flow.2)) flow.1.verdict in
      let own : IsCheckedOf b p = record { statements = k.statements; read = k.read; clean = k.clean; checked = flow.1.checked } in
      subst IsFlowSafe (one p q own lawful) safe

  -- and of it no run ends with main waiting
  pub excludes_deadlock : (asked : Asked) (h : List Turn) (ps : List Place) (t : List ℕ) → SaysRun asked b Deadlocked h ps t → ⊥
  excludes_deadlock asked h ps t run = run.safe (told_safe run.program run.kept.lawful) refl

  -- nor a replay of a trace of it
  pub excludes_replayed : (vars : Bool) (bytes : List ℕ) (trace : Trace) → IsTraceText bytes trace → trace.source ≡ b → (h : List Turn) (ps : List Place) (t : List ℕ) → Says (command.Replay vars) bytes Deadlocked h ps t → ⊥
  excludes_replayed vars bytes trace read its h ps t run =
      let source : run.trace.source ≡ b = ap (λ (a : Trace). a.source) (one_trace_text bytes run.trace trace run.read read) ∙ its in
      run.comes.safe (told_safe run.program (subst (λ (s : List ℕ). IsCheckedOf s run.program) source run.lawful)) refl

-- a command that doesn't read meets no read fault
pub no_read_fault : (c : Command) (b : List ℕ) (exit : Exit) (h : List Turn) (ps : List Place) (t : List ℕ) → is_reading c ≡ false → Says c b exit h ps t → exit ≡ ReadFault → ⊥
no_read_fault (command.Run setup vars) b exit h ps t e k f = false≢true (sym e)
no_read_fault (command.Trace setup) b exit h ps t e k f = false≢true (sym e)
no_read_fault (command.Replay vars) b exit h ps t e k f = false≢true (sym e)
no_read_fault command.Check b exit h ps t e k f = false≢true (sym e)
no_read_fault command.List b exit h ps t e k f = false≢true (sym e)
no_read_fault command.Flow b exit h ps t e k f = false≢true (sym e)
no_read_fault command.Compile b exit h ps t e k f = false≢true (sym e)
no_read_fault (command.Exec turns vars) b exit h ps t e k f = false≢true (sym e)
no_read_fault (command.Make number) b exit h ps t e (inl k) f = cc (sym k.0 ∙ f)
no_read_fault (command.Make number) b exit h ps t e (inr k) f = cc (sym k.0 ∙ f)
no_read_fault (command.Demo number setup) b exit h ps t e k f = demo_reads exit k.0 f
no_read_fault (command.Nodes number setup vars) b exit h ps t e k f = false≢true (sym e)
