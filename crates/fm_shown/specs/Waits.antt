-- What a process waits for, by what it asks for.
-- Source: this profile.
use Rattle.std.specs.Prelude.{ℕ, cond, option_map, Option, None, length}
use Rattle.fm_net.specs.Machine.{Place, Procs}
use Rattle.fm_mean.specs.declared.outcome.At.{At}
use Rattle.fm_mean.specs.declared.outcome.At.TheVariants as at
use Rattle.fm_code.specs.declared.ask.Ask.{Ask}
use Rattle.fm_code.specs.declared.ask.Ask.TheVariants as ask
use Rattle.fm_machine_calls.specs.declared.looking.Look.{Look}
use Rattle.fm_machine_calls.specs.declared.looking.Look.TheVariants as look
use Rattle.fm_proc_language.specs.Slots.{Slots, in_slot}
use Rattle.fm_proc_language.specs.Processes.{CodeProc, Phase, Running, Joining, Ended, Faulted}
use Rattle.fm_procs.specs.Waiting.{inport_in, is_join}
use Rattle.fm_shown.specs.Outcome.{awaited}

-- a message of the channel of an inport
abbrev pub received_by : Slots → Ask → Option At
received_by s (ask.Fail line fault) = None
received_by s (ask.LetGo slots) = None
received_by s (ask.Channel inport outport next) = None
received_by s (ask.Merger inport outports next) = None
received_by s (ask.Send slot items next) = None
received_by s (ask.Receive slot items status at_end next) = option_map at.Receive (inport_in (in_slot s slot))
received_by s (ask.Probe slot empty next) = None
received_by s (ask.Begin next) = None
received_by s (ask.Join next) = None
received_by s ask.End = None

-- the end of a child
abbrev pub joined_by : Procs CodeProc → Place → (block count : ℕ) → Ask → Option At
joined_by m q b n a = cond (is_join a) (option_map at.Join (awaited m q b 1 n)) None

abbrev pub asked_by : Procs CodeProc → Place → Phase → Slots → Ask → Option At
asked_by m q Running s a = received_by s a
asked_by m q (Joining block kids) s a = joined_by m q block (length kids) a
asked_by m q Ended s a = None
asked_by m q (Faulted line fault) s a = None

abbrev pub told_by : Procs CodeProc → Place → Phase → Slots → Look → Option At
told_by m q phase s look.Goes = None
told_by m q phase s (look.Asks a) = asked_by m q phase s a
told_by m q phase s look.Stuck = None
