-- The ports that a step lets go, as they stand.
-- Source: this profile.
use Rattle.std.specs.Prelude.{List, ◌++◌}
use Rattle.fm_base.specs.declared.port.PortValue.{PortValue}
use Rattle.fm_rules.specs.declared.program.Program.{Program}
use Rattle.fm_mean.specs.Places.{live}
use Rattle.fm_mean.specs.Process.{frames_ports}
use Rattle.fm_plain_frame.specs.declared.let_go.LetGo.{LetGo}
use Rattle.fm_plain_frame.specs.Frames.{frames_of}

-- in the order in which they are let go
abbrev pub let_go_ports : Program → LetGo → List PortValue
let_go_ports p l = live l.replaced.items ++ frames_ports (frames_of p l.top l.below.items) ++ live l.taken.items
