-- Of which processes a part of an outcome has something.
-- Source: this profile.
use Rattle.std.specs.Prelude.{Bool, ◌&&◌, ◌==◌, not, is_some, length}
use Rattle.fm_net.specs.Machine.{Place}
use Rattle.fm_proc_language.specs.Processes.{CodeProc, has_ended}
use Rattle.fm_procs.specs.Readings.{Entry, proc_in}
use Rattle.fm_shown.specs.declared.rows.Part.{Part}
use Rattle.fm_shown.specs.declared.rows.Part.TheVariants as part

-- output, faults and waits: not of a process that has ended and has put nothing out; holders: not of a child that was joined
abbrev pub gives : Part → CodeProc → Bool
gives part.Shown y = not ((length y.lines == 0) && has_ended y)
gives part.Held y = is_some y.body

abbrev pub row_gives : Part → Place × Entry → Bool
row_gives p e = gives p (proc_in e.1)
