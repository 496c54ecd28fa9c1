use Rattle.std.proofs.Common.{◌≡◌, ◌+◌, drop}
use Rattle.fm_plain_passing.specs.Rooms.{all_ports}
use Rattle.fm_plain_passing.proofs.messages.all_ports.Given as goal

abbrev pub invariant-items : goal.invariant-items
invariant-items l = l.ports + all_ports (drop l.item-index l.message) ≡ all_ports l.message
