use Rattle.std.proofs.Common.{◌≡◌, ◌++◌, map, drop}
use Rattle.fm_rules.specs.declared.program.Program.{Program}
use Rattle.fm_mean.specs.Steps.{kid_of as kid_from}
use Rattle.fm_plain_frame.specs.Frames.{kid_of, start_of}
use Rattle.fm_plain_replies.proofs.beginning.kids_of.Given as goal

-- the children so far, and those that the rest makes
abbrev pub invariant-starts : goal.invariant-starts
invariant-starts l = (p : Program) → map kid_of l.kids ++ map kid_from (map (start_of p) (drop l.start-index l.starts)) ≡ map kid_from (map (start_of p) l.starts)
