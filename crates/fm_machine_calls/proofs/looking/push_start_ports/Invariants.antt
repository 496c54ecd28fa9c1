use Rattle.std.proofs.Common.{◌≡◌, ◌++◌, drop, slice_get}
use Rattle.std.specs.List.{flat_map}
use Rattle.fm_code.specs.declared.body.Start.{Start}
use Rattle.fm_code.specs.Passing.{ports_in}
use Rattle.fm_code.specs.Statements.{ports_of}
use Rattle.fm_machine_calls.proofs.looking.push_start_ports.Given as goal

abbrev pub invariant-starts : goal.invariant-starts
invariant-starts l =
    l.ports ++ flat_map (λ (s : Start). ports_in (ports_of (slice_get l.code.units s.unit)) s.words) (drop l.start-index l.starts)
    ≡ l.fn.ports ++ flat_map (λ (s : Start). ports_in (ports_of (slice_get l.code.units s.unit)) s.words) l.starts
