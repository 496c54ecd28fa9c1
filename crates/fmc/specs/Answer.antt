-- What a call answers: exit, kept schedule and text, for the bytes of a source.
-- Source: this profile.
use Rattle.std.specs.Prelude.{◌≡◌, ◌≢◌, ◌⊎◌, ℕ, ◌<◌, ◌≤◌, Bool, true, false, List, [], ◌∷◌, ◌++◌, map, length, Option, Some, None, codes}
use Rattle.std.specs.Borrow.{Bor}
use Rattle.std.specs.Fmt.{decimal}
use Rattle.std.specs.Io.KnownBytes.{Appends, IsAtEnd}
use Rattle.fm_base.specs.declared.name.Line.{Line}
use Rattle.fm_base.specs.declared.schedule.Turn.{Turn}
use Rattle.fm_base.specs.Verdict.{IsClean}
use Rattle.fm_cards.specs.Cards.{cards_of}
use Rattle.fm_io.specs.Causes.{Rose}
use Rattle.fm_io.specs.Streams.{WritesFront}
use Rattle.fm_sched.specs.Schedule.{IsLegal, IsEnding, Settles}
use Rattle.fm_tree.specs.declared.program_unit.Placed.{Placed}
use Rattle.fm_net.specs.Machine.{Place}
use Rattle.fm_net.specs.Starts.{starts_of, choices_of}
use Rattle.fm_mean.specs.declared.outcome.FaultAt.{FaultAt}
use Rattle.fm_mean.specs.declared.outcome.Outcome.{Outcome}
use Rattle.fm_mean.specs.Determinism.{IsDeterministic}
use Rattle.fm_mean.specs.Steps.{language, step, first}
use Rattle.fm_mean.specs.Outcome.{outcome_of}
use Rattle.fm_mean.specs.Telling.{TellsEach}
use Rattle.fm_report.specs.Report.{report_text, spent_text}
use Rattle.fm_symbols.specs.Context.{context_of}
use Rattle.fm_rules.specs.Units.{units_of}
use Rattle.fm_rules.specs.Names.{names_of}
use Rattle.fm_rules.specs.Race.{IsRaceVerdict}
use Rattle.fm_rules.specs.declared.program.Program.{Program}
use Rattle.fm_rules.specs.Program.{IsChecked}
use Rattle.fm_gen.specs.Programs.{code_of}
use Rattle.fm_image.specs.ImageOf.{image_of}
use Rattle.fm_object.specs.Texts.{IsObjectText}
use Rattle.fm_flow_law.specs.Flow.{IsFlowSafe, IsFlowVerdict}
use Rattle.fm_verdict.specs.Verdict.{IsBroken, AreStatementsOf}
use Rattle.fm_verdict.specs.Program.{IsCheckedOf}
use Rattle.fm_run.specs.Runs.{HaveSteps}
use Rattle.fm_run.specs.Programs.{Follows, IsFrontWithin, play_of}
use Rattle.fm_run_law.specs.Fair.{IsFair}
use Rattle.fm_trace.specs.Texts.{IsTraceText, trace_of_history, trace_text}
use Rattle.fm_make.specs.Made.{made_text}
use Rattle.fm_words.specs.Words.{command_of}
use Rattle.fm_words.specs.declared.command.Command.{Command}
use Rattle.fm_words.specs.declared.command.Command.TheVariants as command
use Rattle.fmc.specs.declared.answer.Exit.{Exit}
use Rattle.fmc.specs.declared.answer.Exit.TheVariants.{Done, Faulted, Deadlocked, Refused, Spent, Usage, ReadFault, WriteFault, NoMemory, TooLong, Malformed, Illegal, Unfinished, BadObject, Unverified, NotPlain}
use Rattle.fmc.specs.Exits.{is_read, is_of_reading}
use Rattle.fmc.specs.Executes.{IsObjectHistory, SaysExec, object_limit}
use Rattle.fmc.specs.Listing.{listed_text}
use Rattle.fmc.specs.Outcomes.{IsRefused, IsUnplayed, cost_of, exit_of, source_limit, state_after, usage_text}
use Rattle.fmc.specs.Plain.{IsNotPlain, IsPlainSource}
use Rattle.fmc.specs.Replay.{SaysReplay, trace_limit}

-- the kept schedule is one of the checked program of the source under these turns, with its processes in the order of starting
pub record IsHistoryOf (source : List ℕ) (program : Program) (turns : ℕ) (history : List Turn) (places choices : List Place) : Type 0 where
  pub lawful : IsCheckedOf source program
  pub kept : choices_of history places ≡ Some choices
  pub starts : places ≡ starts_of (language program) (first program) choices
  pub legal : IsLegal (step program) (first program) choices
  pub some_steps : HaveSteps history
  pub front_within : IsFrontWithin program turns history places

-- how a run is asked for: its turns, the choices that are handed in, what is told of one that ended, by its schedule, its processes and
-- what it shows, and what is told of one that was spent, by its schedule
pub record Asked : Type 0 where
  pub turns : ℕ
  pub chosen : List ℕ
  pub tells : List Turn → List Place → Outcome → List ℕ
  pub tells_spent : List Turn → List ℕ

-- the kept schedule ends the program within the turns, and exit and text are those of the state in which it ends
pub record IsEnded (source : List ℕ) (asked : Asked) (exit : Exit) (history : List Turn) (places : List Place) (text : List ℕ) : Type 0 where
  pub within : length source ≤ source_limit
  pub program : Program
  pub choices : List Place
  pub kept : IsHistoryOf source program asked.turns history places choices
  pub ends : IsEnding (step program) (first program) choices
  pub in_turns : cost_of program choices ≤ asked.turns
  pub exit_is : exit ≡ exit_of (outcome_of program (cost_of program choices) (state_after program choices))
  pub text_is : text ≡ asked.tells history places (outcome_of program (cost_of program choices) (state_after program choices))
  -- of each process that hasn't ended it is told where it faulted, or where it waits and for what
  pub tells_each : TellsEach program (state_after program choices) (outcome_of program (cost_of program choices) (state_after program choices))
  -- where the program is deterministic, so it is under every other schedule: it goes on to an end, and one that ends gives
  -- the same state at the same cost
  pub one_outcome : IsDeterministic program → Settles (step program) (first program) choices
  -- where no sentence of the flow check holds, main has ended, or a process faulted
  pub safe : IsFlowSafe program → exit ≢ Deadlocked

-- the kept schedule costs more than the turns
pub record IsSpent (source : List ℕ) (asked : Asked) (history : List Turn) (places : List Place) (text : List ℕ) : Type 0 where
  pub within : length source ≤ source_limit
  pub program : Program
  pub choices : List Place
  pub kept : IsHistoryOf source program asked.turns history places choices
  pub over : asked.turns < cost_of program choices
  pub text_is : text ≡ asked.tells_spent history
  -- where nobody chose, and the program isn't deterministic, each process that could step came before as many entries as there are
  -- processes
  pub fair : asked.chosen ≡ [] → (IsDeterministic program → ⊥) → IsFair (play_of program) history places
  -- where the program is deterministic, so does every schedule that ends
  pub spent_for_all : IsDeterministic program → (others : List Place) → IsEnding (step program) (first program) others → asked.turns < cost_of program others

-- `run` writes the report, with the variables where they are asked for
abbrev pub report_asked : (turns : ℕ) → (vars : Bool) → (chosen : List ℕ) → Asked
report_asked turns vars chosen = record { turns = turns; chosen = chosen; tells = λ history places o. report_text vars o; tells_spent = λ history. spent_text turns }

-- `trace` writes the trace
abbrev pub trace_asked : (turns : ℕ) → (source : List ℕ) → Asked
trace_asked turns source = record { turns = turns; chosen = []; tells = λ history places o. trace_text (trace_of_history turns history source); tells_spent = λ history. trace_text (trace_of_history turns history source) }

-- the word of an exit of a run that ended
abbrev pub ended_word : List FaultAt → Bool → List ℕ
ended_word [] true = codes "done\n"
ended_word [] false = codes "deadlocked\n"
ended_word (f ∷ fs) ended = codes "faulted\n"

-- a word and a number on a line
abbrev pub count_line : List ℕ → ℕ → List ℕ
count_line word n = word ++ decimal n ++ 10 ∷ []

-- `demo` writes how many processes there were, the cost, how many lines of output, and how it ended
abbrev pub summary_by : List Place → Outcome → List ℕ
summary_by places o =
    count_line (codes "processes ") (length places)
    ++ (count_line (codes "turns ") o.used
    ++ (count_line (codes "lines ") (length o.lines)
    ++ ended_word o.faults o.main_ended))

abbrev pub summary_asked : (turns : ℕ) → Asked
summary_asked turns = record { turns = turns; chosen = []; tells = λ history places o. summary_by places o; tells_spent = λ history. spent_text turns }

-- what a command tells of the statements of a source that breaks no rule; nothing was played
pub record IsTold (TellsOf : List Placed → List ℕ → Type 0) (source : List ℕ) (history : List Turn) (places : List Place) (text : List ℕ) : Type 0 where
  pub within : length source ≤ source_limit
  pub clean : IsClean (IsBroken source)
  pub statements : List Placed
  pub read : AreStatementsOf (cards_of source) statements
  pub told : List ℕ
  pub tells : TellsOf statements told
  pub unplayed : IsUnplayed history places text told

-- each statement on a line
abbrev pub TellsList : List Placed → List ℕ → Type 0
TellsList statements told = told ≡ listed_text statements

-- the source breaks no rule, and this is the list of its statements
pub record IsListOf (source text : List ℕ) : Type 0 where
  pub clean : IsClean (IsBroken source)
  pub statements : List Placed
  pub read : AreStatementsOf (cards_of source) statements
  pub listed : text ≡ listed_text statements

-- the least line of a PROBE, or of a MERGER that may have several writers, that a process may come to
abbrev pub IsFirstRaceOf : List Placed → Option Line → Type 0
IsFirstRaceOf statements race = ∥ IsRaceVerdict (units_of statements) (context_of (units_of statements) (names_of (units_of statements))) race ∥₁

abbrev pub determinism_text : Option Line → List ℕ
determinism_text None = codes "deterministic\n"
determinism_text (Some line) = codes "not deterministic: line " ++ decimal line.0 ++ 10 ∷ []

-- whether every schedule comes to one outcome
abbrev pub TellsDeterminism : List Placed → List ℕ → Type 0
TellsDeterminism statements told = (race : Option Line) × IsFirstRaceOf statements race × (told ≡ determinism_text race)

-- the least line at which a sentence of the flow check holds of the program of the statements, or none
pub record IsFlowOf (statements : List Placed) (risk : Option Line) : Type 0 where
  pub program : Program
  pub checked : IsChecked statements program.units program.names
  pub verdict : IsFlowVerdict program risk

abbrev pub flow_text : Option Line → List ℕ
flow_text None = codes "no deadlock\n"
flow_text (Some line) = codes "may deadlock: line " ++ decimal line.0 ++ 10 ∷ []

-- whether the program may deadlock
abbrev pub TellsFlow : List Placed → List ℕ → Type 0
TellsFlow statements told = (risk : Option Line) × IsFlowOf statements risk × (told ≡ flow_text risk)

-- the whole text of an object, and nothing else: that of the image of the program of the statements and its code, within its ranges
pub record TellsObject (statements : List Placed) (told : List ℕ) : Type 0 where
  pub program : Program
  pub checked : IsChecked statements program.units program.names
  pub object : IsObjectText told (image_of program (code_of program))

-- nothing was played
abbrev pub IsNoHistory : List Turn → List Place → Type 0
IsNoHistory history places = (history ≡ []) × (places ≡ [])

-- nothing was played, or the schedule that was kept is one of the source's program under these turns
abbrev pub IsHistoryIn : (turns : ℕ) → List ℕ → List Turn → List Place → Type 0
IsHistoryIn turns source history places = IsNoHistory history places ⊎ ((program : Program) × (choices : List Place) × IsHistoryOf source program turns history places choices)

-- the same, of what words ask for: a demonstration plays the program that is made of its number
abbrev pub HasHistory : Option Command → List ℕ → List Turn → List Place → Type 0
HasHistory None source history places = IsNoHistory history places
HasHistory (Some (command.Run setup vars)) source history places = IsHistoryIn setup.turns source history places
HasHistory (Some (command.Trace setup)) source history places = IsHistoryIn setup.turns source history places
HasHistory (Some (command.Replay vars)) source history places = IsNoHistory history places
HasHistory (Some command.Check) source history places = IsNoHistory history places
HasHistory (Some command.List) source history places = IsNoHistory history places
HasHistory (Some command.Flow) source history places = IsNoHistory history places
HasHistory (Some command.Compile) source history places = IsNoHistory history places
HasHistory (Some (command.Exec turns vars)) source history places = IsNoHistory history places ⊎ IsObjectHistory source turns history places
HasHistory (Some (command.Make number)) source history places = IsNoHistory history places
HasHistory (Some (command.Demo number setup)) source history places = IsHistoryIn setup.turns (made_text number) history places
HasHistory (Some (command.Nodes number setup vars)) source history places = IsHistoryIn setup.turns source history places

-- what a run says by its exit
abbrev pub SaysRun : Asked → List ℕ → Exit → List Turn → List Place → List ℕ → Type 0
SaysRun asked b Done h ps t = IsEnded b asked Done h ps t
SaysRun asked b Faulted h ps t = IsEnded b asked Faulted h ps t
SaysRun asked b Deadlocked h ps t = IsEnded b asked Deadlocked h ps t
SaysRun asked b Refused h ps t = IsRefused b h ps t
SaysRun asked b Spent h ps t = IsSpent b asked h ps t
SaysRun asked b Usage h ps t = ⊥
SaysRun asked b ReadFault h ps t = IsUnplayed h ps t (codes "read fault\n")
SaysRun asked b WriteFault h ps t = ⊥
SaysRun asked b NoMemory h ps t = IsUnplayed h ps t (codes "no memory\n")
SaysRun asked b TooLong h ps t = (source_limit < length b) × IsUnplayed h ps t (codes "source too long\n")
SaysRun asked b Malformed h ps t = ⊥
SaysRun asked b Illegal h ps t = ⊥
SaysRun asked b Unfinished h ps t = ⊥
SaysRun asked b BadObject h ps t = ⊥
SaysRun asked b Unverified h ps t = ⊥
SaysRun asked b NotPlain h ps t = ⊥

-- a run that was played to its end, or as far as its turns
abbrev pub IsPlayedExit : Exit → Type 0
IsPlayedExit exit = ((exit ≡ Done) ⊎ ((exit ≡ Faulted) ⊎ (exit ≡ Deadlocked))) ⊎ (exit ≡ Spent)

-- what `nodes` says by its exit: of a plain program what a run says, and of any other one at which line it isn't plain
abbrev pub SaysNodes : Asked → List ℕ → Exit → List Turn → List Place → List ℕ → Type 0
SaysNodes asked b Done h ps t = IsPlainSource b × SaysRun asked b Done h ps t
SaysNodes asked b Faulted h ps t = IsPlainSource b × SaysRun asked b Faulted h ps t
SaysNodes asked b Deadlocked h ps t = IsPlainSource b × SaysRun asked b Deadlocked h ps t
SaysNodes asked b Refused h ps t = SaysRun asked b Refused h ps t
SaysNodes asked b Spent h ps t = IsPlainSource b × SaysRun asked b Spent h ps t
SaysNodes asked b Usage h ps t = ⊥
SaysNodes asked b ReadFault h ps t = SaysRun asked b ReadFault h ps t
SaysNodes asked b WriteFault h ps t = ⊥
SaysNodes asked b NoMemory h ps t = SaysRun asked b NoMemory h ps t
SaysNodes asked b TooLong h ps t = SaysRun asked b TooLong h ps t
SaysNodes asked b Malformed h ps t = ⊥
SaysNodes asked b Illegal h ps t = ⊥
SaysNodes asked b Unfinished h ps t = ⊥
SaysNodes asked b BadObject h ps t = ⊥
SaysNodes asked b Unverified h ps t = ⊥
SaysNodes asked b NotPlain h ps t = IsNotPlain b h ps t

-- what `trace` says by its exit: what a run says, whose text is that of its trace, which `replay` reads
abbrev pub SaysTrace : (turns : ℕ) → List ℕ → Exit → List Turn → List Place → List ℕ → Type 0
SaysTrace turns b exit h ps t = SaysRun (trace_asked turns b) b exit h ps t × (IsPlayedExit exit → IsTraceText t (trace_of_history turns h b))

-- what a command says that runs nothing and tells this of a source
abbrev pub SaysTold : (List Placed → List ℕ → Type 0) → List ℕ → Exit → List Turn → List Place → List ℕ → Type 0
SaysTold TellsOf b Done h ps t = IsTold TellsOf b h ps t
SaysTold TellsOf b Faulted h ps t = ⊥
SaysTold TellsOf b Deadlocked h ps t = ⊥
SaysTold TellsOf b Refused h ps t = IsRefused b h ps t
SaysTold TellsOf b Spent h ps t = ⊥
SaysTold TellsOf b Usage h ps t = ⊥
SaysTold TellsOf b ReadFault h ps t = IsUnplayed h ps t (codes "read fault\n")
SaysTold TellsOf b WriteFault h ps t = ⊥
SaysTold TellsOf b NoMemory h ps t = IsUnplayed h ps t (codes "no memory\n")
SaysTold TellsOf b TooLong h ps t = (source_limit < length b) × IsUnplayed h ps t (codes "source too long\n")
SaysTold TellsOf b Malformed h ps t = ⊥
SaysTold TellsOf b Illegal h ps t = ⊥
SaysTold TellsOf b Unfinished h ps t = ⊥
SaysTold TellsOf b BadObject h ps t = ⊥
SaysTold TellsOf b Unverified h ps t = ⊥
SaysTold TellsOf b NotPlain h ps t = ⊥

-- `make` writes the program of its number
abbrev pub SaysMade : (number : ℕ) → Exit → List Turn → List Place → List ℕ → Type 0
SaysMade number exit h ps t = ((exit ≡ Done) × IsUnplayed h ps t (made_text number)) ⊎ ((exit ≡ NoMemory) × IsUnplayed h ps t (codes "no memory\n"))

-- `demo` runs it; it reads nothing
abbrev pub SaysDemo : (number turns : ℕ) → Exit → List Turn → List Place → List ℕ → Type 0
SaysDemo number turns exit h ps t = (is_of_reading exit ≡ false) × SaysRun (summary_asked turns) (made_text number) exit h ps t

-- the exit, with schedule and text, is one of the command for these bytes
abbrev pub Says : Command → List ℕ → Exit → List Turn → List Place → List ℕ → Type 0
Says (command.Run setup vars) b exit h ps t = SaysRun (report_asked setup.turns vars []) b exit h ps t
Says (command.Trace setup) b exit h ps t = SaysTrace setup.turns b exit h ps t
Says (command.Replay vars) b exit h ps t = SaysReplay vars b exit h ps t
Says command.Check b exit h ps t = SaysTold TellsDeterminism b exit h ps t
Says command.List b exit h ps t = SaysTold TellsList b exit h ps t
Says command.Flow b exit h ps t = SaysTold TellsFlow b exit h ps t
Says command.Compile b exit h ps t = SaysTold TellsObject b exit h ps t
Says (command.Exec turns vars) b exit h ps t = SaysExec turns vars b exit h ps t
Says (command.Make number) b exit h ps t = SaysMade number exit h ps t
Says (command.Demo number setup) b exit h ps t = SaysDemo number setup.turns exit h ps t
Says (command.Nodes number setup vars) b exit h ps t = SaysNodes (report_asked setup.turns vars []) b exit h ps t

-- and of words that are no command
abbrev pub SaysOf : Option Command → List ℕ → Exit → List Turn → List Place → List ℕ → Type 0
SaysOf None b exit h ps t = (exit ≡ Usage) × IsUnplayed h ps t usage_text
SaysOf (Some command) b exit h ps t = Says command b exit h ps t

-- the command that words are, or none
abbrev pub command_in : List (Bor (List ℕ)) → Option Command
command_in words = command_of (map (λ (w : Bor (List ℕ)). w.now) words)

-- a command that reads the source
abbrev pub is_reading : Command → Bool
is_reading (command.Run setup vars) = true
is_reading (command.Trace setup) = true
is_reading (command.Replay vars) = true
is_reading command.Check = true
is_reading command.List = true
is_reading command.Flow = true
is_reading command.Compile = true
is_reading (command.Exec turns vars) = true
is_reading (command.Make number) = false
is_reading (command.Demo number setup) = false
is_reading (command.Nodes number setup vars) = true

abbrev pub are_reading : Option Command → Bool
are_reading None = false
are_reading (Some c) = is_reading c

-- it holds of the bytes of a call: where they are read, of those that the source had left, or of some where it doesn't tell which; where
-- nothing is read, of any
abbrev pub ForBytes : (reads : Bool) → (left : Option (List ℕ)) → (List ℕ → Type 0) → Type 0
ForBytes false left Holds = (b : List ℕ) → Holds b
ForBytes true None Holds = (b : List ℕ) × Holds b
ForBytes true (Some b) Holds = Holds b

-- the most bytes that are read
abbrev pub limit_of : Command → ℕ
limit_of (command.Run setup vars) = source_limit
limit_of (command.Trace setup) = source_limit
limit_of (command.Replay vars) = trace_limit
limit_of command.Check = source_limit
limit_of command.List = source_limit
limit_of command.Flow = source_limit
limit_of command.Compile = source_limit
limit_of (command.Exec turns vars) = object_limit
limit_of (command.Make number) = source_limit
limit_of (command.Demo number setup) = source_limit
limit_of (command.Nodes number setup vars) = source_limit

-- what an exit says of the source is so: that it failed, by its counts of faults before and after, or, where it is read at
-- all, that it was read to its end
pub record HasGround (reads : Bool) (exit : Exit) (before after : ℕ) (left : Option (List ℕ)) : Type 0 where
  pub read_fault : exit ≡ ReadFault → Rose before after
  pub all_read : reads ≡ true → is_read exit ≡ true → IsAtEnd left

-- what a call answers for this command, or for words that are none, and for these bytes, with what it wrote. Of the source: its counts of
-- faults before and after, and what it has left
pub record Answers (o : Option Command) (b : List ℕ) (exit : Exit) (history : List Turn) (places : List Place) (before after : ℕ) (left old new : Option (List ℕ)) : Type 0 where
  -- the kept schedule is one of the source's program, whatever the exit
  pub kept : HasHistory o b history places
  -- the whole text of the exit was written
  pub whole_text : exit ≢ WriteFault → (text : List ℕ) × SaysOf o b exit history places text × Appends old new text
  -- a front of the text of another exit was written, which had its ground
  pub cut_short : exit ≡ WriteFault → (other : Exit) × (text : List ℕ) × SaysOf o b other history places text
      × HasGround (are_reading o) other before after left × WritesFront old new text

-- the kept schedule of the source's program follows the choices, in pieces of at most a slice
abbrev pub FollowsIn : List ℕ → (slice : ℕ) → (choices : List ℕ) → List Turn → Type 0
FollowsIn source slice choices history = (program : Program) × IsCheckedOf source program × Follows program slice choices history
