-- Ownership: each open port stands somewhere once, and no other port anywhere. A port is open while its
-- writer is, or its inport lives; it stands where a process holds it, or in a message that waits.
-- Source: the Fortran M report (ports belong to one process), with this profile's rules on discarding.
use Rattle.std.specs.Prelude.{◌≡◌, ℕ, ◌+◌, ◌<◌, ◌≤◌, Option, Some, None, List, [], ◌∷◌, Bool, true, false, cond, ◌==◌, ◌&&◌}
use Rattle.std.specs.Ordering.{eq_by_cmp}
use Rattle.std.specs.FinMap.{empty, get, insert}
use Rattle.fm_base.specs.declared.path.ChanName.{ChanName}
use Rattle.fm_base.specs.declared.port.PortValue.{PortValue}
use Rattle.fm_base.specs.declared.port.PortValue.TheVariants.{Writer, Reader}
use Rattle.fm_base.specs.PathOrder.{channel_cmp}
use Rattle.fm_base.specs.Channels.{Chan, Chans, queue_ports, channel_of}
use Rattle.fm_finmap.specs.Sums.{total, value_or_zero}
use Rattle.fm_net.specs.Machine.{Place, State, child}
use Rattle.fm_net.specs.Language.{Language}

abbrev pub same_channel : ChanName → ChanName → Bool
same_channel = eq_by_cmp channel_cmp

abbrev pub same_port : PortValue → PortValue → Bool
same_port (Writer c w) (Writer d v) = same_channel c d && (w == v)
same_port (Writer c w) (Reader d) = false
same_port (Reader c) (Writer d v) = false
same_port (Reader c) (Reader d) = same_channel c d

-- 1 where the ports are one, else 0
unfoldable pub one : PortValue → PortValue → ℕ
one x y = cond (same_port x y) 1 0

-- how often the port stands in a list
unfoldable pub count : PortValue → List PortValue → ℕ
count x [] = 0
count x (y ∷ ys) = one y x + count x ys

-- how often the port stands in the messages of a channel
abbrev pub queued : PortValue → Chan → ℕ
queued x ch = count x (queue_ports ch.queue)

-- the number is in the list
abbrev pub has : ℕ → List ℕ → Bool
has v [] = false
has v (u ∷ us) = cond (v == u) true (has v us)

-- 1 where the port is open at its channel, else 0
unfoldable pub open_at : PortValue → Option Chan → ℕ
open_at x None = 0
open_at (Writer c w) (Some ch) = cond (has w ch.writers) 1 0
open_at (Reader c) (Some ch) = cond ch.lives 1 0

-- 1 where the port is open, else 0
abbrev pub opened : Chans → PortValue → ℕ
opened m x = open_at x (get m (channel_of x))

-- 1 where there is something, else 0
abbrev pub present : {X : Type 0} → Option X → ℕ
present = value_or_zero (λ x. 1)

-- the name of the channel that the process at this place made with this number
abbrev pub name_of : Place → ℕ → ChanName
name_of p n = record { maker = p; number = n }

-- what each step of a language keeps
pub record IsOwned {Proc : Type 0} (language : Language Proc) (s : State Proc) : Type 0 where
  -- a port stands in processes and in messages as often as it is open: once, or never
  pub stands : (z : PortValue) → total (λ x. count z (language.held x)) s.procs + total (queued z) s.chans ≡ opened s.chans z
  -- a child's block was started by its parent, which now has a later number for the next one
  pub born : (q : Place) (b i : ℕ) → 1 ≤ present (get s.procs (child q b i)) → b < value_or_zero language.next_block (get s.procs q)
  -- and so with a channel and its maker
  pub named : (q : Place) (n : ℕ) → 1 ≤ present (get s.chans (name_of q n)) → n < value_or_zero language.next_channel (get s.procs q)

-- main alone, and no channel
abbrev pub main_alone : {Proc : Type 0} → Proc → State Proc
main_alone x = record { procs = insert empty [] x; chans = empty }

-- no channel has a writer but the first one
abbrev pub HasOneWriter : Chans → Type 0
HasOneWriter m = (c : ChanName) (w : ℕ) → 1 ≤ opened m (Writer c w) → w ≡ 0

-- a channel whose inport is gone has an empty queue
abbrev pub GoneIsEmpty : Chans → Type 0
GoneIsEmpty m = (c : ChanName) (ch : Chan) → get m c ≡ Some ch → ch.lives ≡ false → ch.queue ≡ []
