use Rattle.std.proofs.Common.{◌≡◌, ◌++◌, take}
use Rattle.std.specs.List.{flat_map}
use Rattle.fm_report.specs.Report.{wait_line}
use Rattle.fm_wait.specs.Waits.{waits_for}
use Rattle.fm_report.proofs.text.push_waits.Given as goal

abbrev pub invariant-waits : goal.invariant-waits
invariant-waits l = l.out.items ≡ l.initial.out.items ++ flat_map (λ w. wait_line w (waits_for l.outcome w)) (take l.k l.outcome.waits)
