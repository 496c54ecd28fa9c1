use Rattle.std.proofs.Common.{Option, subst}
use Rattle.fm_verify_unit.specs.Along.{Walked, coded_by}
use Rattle.fm_verify_unit.specs.declared.unit.Marks.{Marks}
use Rattle.fm_verify_unit.proofs.Along.{no_kinds, some_kinds}
use Rattle.fm_verify_unit.proofs.unit.kinded.Goals as goal

pub returns-in_default : goal.returns-in_default
returns-in_default c =
    let ss = c.args.shapes.now in
    let u = c.args.shape.now in
    let loops = c.args.own.loops in
    let code = c.args.code.now in
    no_kinds ss u (coded_by loops c.args.entries.now code)
    (subst (λ (o : Option Marks). Walked ss u loops code o) c.in_default.is c.in_ok-walked.ensures)

pub returns : goal.returns
returns c =
    let ss = c.args.shapes.now in
    let u = c.args.shape.now in
    let loops = c.args.own.loops in
    let code = c.args.code.now in
    let w = c.in-Some.walked in
    let both = subst (λ (o : Option Marks). Walked ss u loops code o) c.in-Some.is c.in_ok-walked.ensures in
    some_kinds ss u (coded_by loops c.args.entries.now code) both.0 w.marks.items w.lefts.items both.1 c.all_fit.result c.all_fit.ensures
