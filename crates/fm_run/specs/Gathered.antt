-- What a run shows, while it is gathered: the variables by their names, and the holders of outports.
-- Source: this profile.
use Rattle.std.specs.Prelude.{if◌then◌else◌, ℕ, List, [], ◌∷◌}
use Rattle.std.specs.List.{flat_map}
use Rattle.std.specs.FinMap as finite
use Rattle.fm_base.specs.declared.port.PortValue.{PortValue}
use Rattle.fm_net.specs.Machine.{Place}
use Rattle.fm_mean.specs.declared.outcome.Shown.{Shown}
use Rattle.fm_mean.specs.declared.outcome.ShownVariable.{ShownVariable}
use Rattle.fm_mean.specs.declared.outport.Outport.{Outport}
use Rattle.fm_mean.specs.Holders.{holding}
use Rattle.fm_mean.specs.Outports.{outport_cmp}

abbrev pub shown_entry : List ℕ × Shown → ShownVariable
shown_entry e = record { name = e.0; shown = e.1 }

-- the paths of holders, by the outports
abbrev pub Owners : Type 0
Owners = finite.FinMap outport_cmp Place

-- a holder for an outport that has none; an outport that has one keeps it
abbrev pub with_holder : Owners → Outport → Place → Owners
with_holder m outport path = if finite.contains_key m outport then m else finite.insert m outport path

-- the same for each of a list, in order
abbrev pub with_holders : Owners → List (Outport × Place) → Owners
with_holders m [] = m
with_holders m (h ∷ hs) = with_holders (with_holder m h.0 h.1) hs

-- with the process at this path as the holder of the outports among these ports
abbrev pub with_held : Owners → Place → List PortValue → Owners
with_held m path zs = with_holders m (flat_map (holding path) zs)
