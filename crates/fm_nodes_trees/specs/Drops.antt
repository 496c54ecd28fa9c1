-- Ports that a process over trees lets go.
-- Source: this profile.
use Rattle.std.specs.Prelude.{List, ◌++◌}
use Rattle.std.specs.List.{flat_map}
use Rattle.fm_base.specs.declared.port.PortValue.{PortValue}
use Rattle.fm_rules.specs.declared.program.Program.{Program}
use Rattle.fm_plain_frame.specs.LetGo.{let_go_ports}
use Rattle.fm_plain_frame.specs.Leaving.{left_ports}
use Rattle.fm_nodes_trees.specs.declared.drops.Drops.{Drops}

-- in the order in which they are let go
abbrev pub drops_in : Program → Drops → List PortValue
drops_in p d = left_ports p d.at_hand ++ flat_map (let_go_ports p) d.rest.items
