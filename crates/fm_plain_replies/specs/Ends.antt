-- The end of a process, by its own frame.
-- Source: the Fortran M report (END of a PROCESS), with this profile's discarding.
use Rattle.std.specs.Prelude.{List, []}
use Rattle.fm_base.specs.declared.port.PortValue.{PortValue}
use Rattle.fm_rules.specs.declared.program.Program.{Program}
use Rattle.fm_mean.specs.Calls.{kept}
use Rattle.fm_mean.specs.Fits.{variables_of}
use Rattle.fm_mean.specs.Process.{Frame}

-- the own frame of a process that ended
abbrev pub own_end : Program → Frame → Frame
own_end p f = record f { values = (kept (variables_of p f.unit) f.values).0; results = []; starts = [] }

-- the ports of its variables that aren't kept
abbrev pub own_ports : Program → Frame → List PortValue
own_ports p f = (kept (variables_of p f.unit) f.values).1
