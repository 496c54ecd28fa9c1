use Rattle.std.proofs.Common.{◌≡◌, ◌+◌, drop, map}
use Rattle.fm_procs.specs.Drafts.{child_in, rooms}
use Rattle.fm_procs.proofs.beginning.rooms.Given as goal

abbrev pub invariant-drafts : goal.invariant-drafts
invariant-drafts l = l.room + rooms (map child_in (drop l.draft-index l.drafts)) ≡ rooms (map child_in l.drafts)
