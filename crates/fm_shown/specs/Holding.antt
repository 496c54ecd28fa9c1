-- The outports among ports, and the ports of frames.
-- Source: this profile.
use Rattle.std.specs.Prelude.{ℤ, Option, Some, None, List, ◌++◌, slice_get}
use Rattle.std.specs.List.{flat_map}
use Rattle.fm_base.specs.declared.port.PortValue.{PortValue}
use Rattle.fm_base.specs.declared.port.PortValue.TheVariants.{Writer, Reader}
use Rattle.fm_mean.specs.declared.outport.Outport.{Outport}
use Rattle.fm_code.specs.declared.body.Frame.{Frame}
use Rattle.fm_code.specs.declared.body.Start.{Start}
use Rattle.fm_code.specs.declared.code.Code.{Code}
use Rattle.fm_code.specs.Passing.{ports_in}
use Rattle.fm_code.specs.Statements.{ports_of}

-- the outport that a port is
abbrev pub outport_in : PortValue → Option Outport
outport_in (Writer c w) = Some (record { channel = c; number = w })
outport_in (Reader c) = None

-- the words of the ports in a frame and in its starts
abbrev pub words_held : Code → Frame → List ℤ
words_held code m = ports_in (ports_of (slice_get code.units m.unit)) m.words ++ flat_map (λ (s : Start). ports_in (ports_of (slice_get code.units s.unit)) s.words) m.starts
