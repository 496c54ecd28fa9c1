use Rattle.std.proofs.Common.{◌≡◌, ◌+◌, drop}
use Rattle.fm_gen.specs.Units.{loop_count}
use Rattle.fm_gen.proofs.units.loop_count.Given as goal

abbrev pub invariant-entries : goal.invariant-entries
invariant-entries l = l.count + loop_count (drop l.entry-index l.body) ≡ loop_count l.body
