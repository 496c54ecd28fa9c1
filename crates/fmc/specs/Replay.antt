-- What `replay` answers for the bytes of a trace.
-- Source: this profile.
use Rattle.std.specs.Prelude.{◌≡◌, ◌≢◌, ◌⊎◌, ℕ, ◌+◌, ◌<◌, ◌≤◌, Bool, Option, Some, None, List, [], ◌∷◌, ◌++◌, length, replicate, slice_get, take, codes}
use Rattle.std.specs.Fmt.{decimal}
use Rattle.fm_base.specs.declared.schedule.Setup.{Setup}
use Rattle.fm_base.specs.declared.schedule.Turn.{Turn}
use Rattle.fm_sched.specs.Schedule.{play, IsFinal, IsLegal}
use Rattle.fm_net.specs.Machine.{Place}
use Rattle.fm_net.specs.Starts.{starts_of}
use Rattle.fm_rules.specs.declared.program.Program.{Program}
use Rattle.fm_mean.specs.Outcome.{outcome_of}
use Rattle.fm_mean.specs.Steps.{language, step, first}
use Rattle.fm_flow_law.specs.Flow.{IsFlowSafe}
use Rattle.fm_run_law.specs.Entries.{AreSteps}
use Rattle.fm_report.specs.Report.{report_text, spent_text}
use Rattle.fm_verdict.specs.Program.{IsCheckedOf}
use Rattle.fm_trace.specs.Texts.{IsFirstMalformed, IsTraceText, history_of}
use Rattle.fm_trace.specs.declared.trace.Trace.{Trace}
use Rattle.fm_table.specs.Told.{IsKept, Told, cost_of as told_cost, stand_of, told_at}
use Rattle.fm_table.specs.Turning.{CantStepBehind, MakesSteps}
use Rattle.fmc.specs.declared.answer.Exit.{Exit}
use Rattle.fmc.specs.declared.answer.Exit.TheVariants.{Done, Faulted, Deadlocked, Refused, Spent, Usage, ReadFault, WriteFault, NoMemory, TooLong, Malformed, Illegal, Unfinished, BadObject, Unverified, NotPlain}
use Rattle.fmc.specs.Outcomes.{IsRefused, IsUnplayed, cost_of, exit_of, source_limit, state_after}

-- the most bytes of a trace
abbrev pub trace_limit : ℕ
trace_limit = 100000000

-- ---- what comes of entries

-- the entries end the program within the turns, and exit and text are those of the state in which it ends
pub record EndsProgram (vars : Bool) (exit : Exit) (program : Program) (turns : ℕ) (entries : List Turn) (text : List ℕ) : Type 0 where
  pub choices : List Place
  pub steps : AreSteps program entries choices
  pub final : IsFinal (step program) (state_after program choices)
  pub in_turns : cost_of program choices ≤ turns
  pub exit_is : exit ≡ exit_of (outcome_of program (cost_of program choices) (state_after program choices))
  pub text_is : text ≡ report_text vars (outcome_of program (cost_of program choices) (state_after program choices))
  -- where no sentence of the flow check holds, main has ended, or a process faulted
  pub safe : IsFlowSafe program → exit ≢ Deadlocked

-- the entries up to one of them cost more than the turns
pub record CostsMore (program : Program) (turns : ℕ) (entries : List Turn) (text : List ℕ) : Type 0 where
  pub count : ℕ
  pub counted : count ≤ length entries
  pub choices : List Place
  pub steps : AreSteps program (take count entries) choices
  pub over : turns < cost_of program choices
  pub text_is : text ≡ spent_text turns

-- behind these choices the process of an entry isn't there, or has fewer steps than the entry asks for
pub record LacksSteps (program : Program) (choices : List Place) (t : Turn) : Type 0 where
  pub made : ℕ
  pub few : made < t.steps
  pub lacks : (p : Place) → slice_get (starts_of (language program) (first program) choices) t.number ≡ Some p
      → IsLegal (step program) (state_after program choices) (replicate made p) × (step program (play (step program) (state_after program choices) (replicate made p)) p ≡ None)

-- the entries before one of them are steps that cost at most the turns, and this one asks for a step that its process doesn't have
pub record AsksForMore (program : Program) (turns : ℕ) (entries : List Turn) (text : List ℕ) : Type 0 where
  pub before : ℕ
  pub entry : Turn
  pub at : slice_get entries before ≡ Some entry
  pub choices : List Place
  pub steps : AreSteps program (take before entries) choices
  pub in_turns : cost_of program choices ≤ turns
  pub lacks : LacksSteps program choices entry
  pub text_is : text ≡ codes "illegal turn: entry " ++ decimal (before + 1) ++ 10 ∷ []

-- all entries are steps, which cost at most the turns, and some process has a step more
pub record EndsBefore (program : Program) (turns : ℕ) (entries : List Turn) (text : List ℕ) : Type 0 where
  pub choices : List Place
  pub steps : AreSteps program entries choices
  pub in_turns : cost_of program choices ≤ turns
  pub goes_on : IsFinal (step program) (state_after program choices) → ⊥
  pub text_is : text ≡ codes "unfinished\n"

-- what comes of entries, by the exit
abbrev pub ComesTo : (vars : Bool) → Exit → Program → (turns : ℕ) → List Turn → List ℕ → Type 0
ComesTo vars Done program turns entries text = EndsProgram vars Done program turns entries text
ComesTo vars Faulted program turns entries text = EndsProgram vars Faulted program turns entries text
ComesTo vars Deadlocked program turns entries text = EndsProgram vars Deadlocked program turns entries text
ComesTo vars Refused program turns entries text = ⊥
ComesTo vars Spent program turns entries text = CostsMore program turns entries text
ComesTo vars Usage program turns entries text = ⊥
ComesTo vars ReadFault program turns entries text = ⊥
ComesTo vars WriteFault program turns entries text = ⊥
ComesTo vars NoMemory program turns entries text = ⊥
ComesTo vars TooLong program turns entries text = ⊥
ComesTo vars Malformed program turns entries text = ⊥
ComesTo vars Illegal program turns entries text = AsksForMore program turns entries text
ComesTo vars Unfinished program turns entries text = EndsBefore program turns entries text
ComesTo vars BadObject program turns entries text = ⊥
ComesTo vars Unverified program turns entries text = ⊥
ComesTo vars NotPlain program turns entries text = ⊥

-- ---- what comes of bytes

-- the bytes are a trace, within its limits, whose program is so
pub record IsTraceOf (Holds : List ℕ → Type 0) (b : List ℕ) : Type 0 where
  pub within : length b ≤ trace_limit
  pub trace : Trace
  pub read : IsTraceText b trace
  pub short : length trace.source ≤ source_limit
  pub holds : Holds trace.source

-- the bytes are a trace, within its limits, of a program that breaks no rule, and the exit is what comes of its entries
pub record IsReplayed (vars : Bool) (exit : Exit) (b : List ℕ) (history : List Turn) (places : List Place) (text : List ℕ) : Type 0 where
  pub within : length b ≤ trace_limit
  pub trace : Trace
  pub read : IsTraceText b trace
  pub short : length trace.source ≤ source_limit
  pub program : Program
  pub lawful : IsCheckedOf trace.source program
  pub told : List ℕ
  pub comes : ComesTo vars exit program trace.turns (history_of trace) told
  pub unplayed : IsUnplayed history places text told

-- a trace whose program breaks a rule
pub record IsRefusedTrace (b : List ℕ) (history : List Turn) (places : List Place) (text : List ℕ) : Type 0 where
  pub within : length b ≤ trace_limit
  pub trace : Trace
  pub read : IsTraceText b trace
  pub refused : IsRefused trace.source history places text

-- over the limit in all, or in the program of a trace whose form is whole
abbrev pub IsTooLongTrace : List ℕ → Type 0
IsTooLongTrace b = (trace_limit < length b) ⊎ ((length b ≤ trace_limit) × (trace : Trace) × IsTraceText b trace × (source_limit < length trace.source))

-- the first malformed line is told
pub record IsMalformed (b : List ℕ) (history : List Turn) (places : List Place) (text : List ℕ) : Type 0 where
  pub within : length b ≤ trace_limit
  pub line : ℕ
  pub malformed : IsFirstMalformed b line
  pub unplayed : IsUnplayed history places text (codes "malformed trace: line " ++ decimal line ++ 10 ∷ [])

-- what `replay` says by its exit
abbrev pub SaysReplay : (vars : Bool) → List ℕ → Exit → List Turn → List Place → List ℕ → Type 0
SaysReplay vars b Done h ps t = IsReplayed vars Done b h ps t
SaysReplay vars b Faulted h ps t = IsReplayed vars Faulted b h ps t
SaysReplay vars b Deadlocked h ps t = IsReplayed vars Deadlocked b h ps t
SaysReplay vars b Refused h ps t = IsRefusedTrace b h ps t
SaysReplay vars b Spent h ps t = IsReplayed vars Spent b h ps t
SaysReplay vars b Usage h ps t = ⊥
SaysReplay vars b ReadFault h ps t = IsUnplayed h ps t (codes "read fault\n")
SaysReplay vars b WriteFault h ps t = ⊥
SaysReplay vars b NoMemory h ps t = IsUnplayed h ps t (codes "no memory\n")
SaysReplay vars b TooLong h ps t = IsTooLongTrace b × IsUnplayed h ps t (codes "source too long\n")
SaysReplay vars b Malformed h ps t = IsMalformed b h ps t
SaysReplay vars b Illegal h ps t = IsReplayed vars Illegal b h ps t
SaysReplay vars b Unfinished h ps t = IsReplayed vars Unfinished b h ps t
SaysReplay vars b BadObject h ps t = ⊥
SaysReplay vars b Unverified h ps t = ⊥
SaysReplay vars b NotPlain h ps t = ⊥

-- ---- a table behind entries

-- a program with its setup, behind entries
abbrev pub told_after : Program → Setup → List Turn → Told
told_after program setup entries = told_at program setup entries

-- an entry asks for a step more than there are
pub record IsLacking (a : Told) (t : Turn) : Type 0 where
  pub kept : IsKept a
  pub in_turns : told_cost a ≤ a.setup.turns
  pub made : ℕ
  pub few : made < t.steps
  pub after : Told
  pub can : MakesSteps t.number made a after
  pub cant : CantStepBehind t.number made a

-- what came of the entries, which were played from the first: all were played, or as many as cost more than the turns; or the one at
-- this place asks for a step that isn't there
abbrev pub HasCome : Program → Setup → List Turn → Told → Option ℕ → Type 0
HasCome program setup ts a None = (count : ℕ) × (count ≤ length ts) × (a ≡ told_after program setup (take count ts)) × ((count ≡ length ts) ⊎ (setup.turns < told_cost a))
HasCome program setup ts a (Some place) = (t : Turn) × (slice_get ts place ≡ Some t) × IsLacking (told_after program setup (take place ts)) t

-- what is said of a table, by the exit: whether its schedule costs more than the turns, whether a process has a step, and what it shows
abbrev pub SaysTable : (vars : Bool) → Told → Exit → List ℕ → Type 0
SaysTable vars a exit text =
    ((exit ≡ Spent) × (a.setup.turns < told_cost a) × (text ≡ spent_text a.setup.turns))
    ⊎ (((exit ≡ Unfinished) × (told_cost a ≤ a.setup.turns) × (IsFinal (step a.program) (stand_of a).state → ⊥) × (text ≡ codes "unfinished\n"))
    ⊎ ((exit ≡ exit_of (outcome_of a.program (told_cost a) (stand_of a).state)) × (told_cost a ≤ a.setup.turns) × IsFinal (step a.program) (stand_of a).state
    × (text ≡ report_text vars (outcome_of a.program (told_cost a) (stand_of a).state))))
