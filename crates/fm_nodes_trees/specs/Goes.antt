-- How a process goes on with the reply to what it asks for.
-- Source: this profile.
use Rattle.std.specs.Prelude.{◌≡◌, ℕ, ℤ, Bool, Option, List}
use Rattle.fm_base.specs.declared.path.ChanName.{ChanName}
use Rattle.fm_base.specs.declared.port.PortValue.{PortValue}
use Rattle.fm_net.specs.Machine.{Place, Need, Children, Reply, Onward, Go, made}
use Rattle.fm_rules.specs.declared.program.Program.{Program}
use Rattle.fm_mean.specs.Process.{Proc}
use Rattle.fm_mean.specs.Steps.{ask}
use Rattle.fm_plain.specs.declared.event.Event.{Event}
use Rattle.fm_plain.specs.declared.event.Event.TheVariants as event
use Rattle.fm_nodes_procs.specs.Asks.{GoesSo, came_with}

-- with the message of these words, or with none
abbrev pub Goes : Program → Place → (before : Proc) → Option (List (List ℤ)) → (exceeds : Bool) → (after : Proc) → (starts : List Proc) → (drops : List PortValue) → (cost : ℕ) → Type 0
Goes p path x message exceeds y starts drops cost =
    (need : Need) (f : ChanName → Reply Proc → Onward Proc) → ask p x ≡ Go need f → ((b n : ℕ) → need ≡ Children b n → ⊥) → GoesSo y starts drops cost (f (made path need) (came_with message exceeds))

-- the entry behind a block that is joined by an event
abbrev pub next_behind : Event → ℕ
next_behind (event.Fail line fault) = 0
next_behind (event.Make places writers cost next) = 0
next_behind (event.Send channel writer items next) = 0
next_behind (event.Receive channel line items iostat at_end next) = 0
next_behind (event.Probe channel empty next) = 0
next_behind event.Begin = 0
next_behind (event.Join block count next) = next
next_behind event.End = 0
