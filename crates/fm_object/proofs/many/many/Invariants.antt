use Rattle.std.proofs.Common.{◌≡◌, ◌-◌}
use Rattle.fm_object.specs.Reading.{many}
use Rattle.fm_object.specs.Shapes.{place_of}
use Rattle.fm_object.proofs.Loop.{with_front}
use Rattle.fm_object.proofs.many.many.Given as goal

-- what was read, in front of what is left, is all
abbrev pub invariant-items : goal.invariant-items
invariant-items g l = with_front l.items.items (many g.P.Part.reads (l.count - l.counter) (place_of l.rest)) ≡ many g.P.Part.reads l.count (place_of l.front)
