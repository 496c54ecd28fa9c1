use Rattle.std.proofs.Common.{◌≡◌, ◌+◌, ◌++◌, drop}
use Rattle.fm_mean.specs.Evaluate.{refs_in_vars}
use Rattle.fm_plain_frame.specs.Units.{unit_of}
use Rattle.fm_mean.specs.Referring.{names_in}
use Rattle.fm_gen_operands.specs.Places.{targets_code}
use Rattle.fm_gen_operands.proofs.actuals.targets.Given as goal

abbrev pub invariant-vars : goal.invariant-vars
invariant-vars l =
    let p = l.unit.program.now in
    let u = unit_of l.unit in
    record {
      code : l.out ++ targets_code p u (drop l.var-index l.vars) l.next ≡ l.fn.out ++ targets_code p u l.vars l.fn.next;
      next : l.next + refs_in_vars (names_in p u) (drop l.var-index l.vars) ≡ l.fn.next + refs_in_vars (names_in p u) l.vars;
    }
