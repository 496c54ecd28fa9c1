use Rattle.std.proofs.Common.{◌≡◌, length, sym, ap, subst, ◌∙◌, arith}
use Rattle.std.specs.Prelude.{slice_get}
use Rattle.fm_code.specs.declared.code.Code.{Code}
use Rattle.fm_gen.specs.Bodies.{KeepsProgram, NeverStuck}
use Rattle.fm_gen.specs.Programs.{code_of, units_of_code}
use Rattle.fm_gen.proofs.BodyLaws.{keeps_program}
use Rattle.fm_gen.proofs.KeptUnits.{keeps_unit}
use Rattle.fm_gen.proofs.NeverStuck.{never_stuck}
use Rattle.fm_gen.proofs.ProgramLaws.{unit_there}
use Rattle.fm_gen.proofs.generating.generate.Goals as goal

pub returns-clause-units : goal.returns-clause-units
returns-clause-units c k u here =
    let p = c.args.program.now in
    let all : length c.units-2.result.now.units ≡ length p.units.units = λ i. length (c.units-2.ensures i).units in
    let count : c.units.number ≡ length p.units.units = omega (arith, c.units-test.false, c.units.auto.number-end, c.in_ok-count.ensures, c.len.ensures, all) in
    ap (λ l. slice_get l k) (c.units.invariant ∙ ap (units_of_code p) count) ∙ unit_there p k u here

pub returns-clause-keeps_units : goal.returns-clause-keeps_units
returns-clause-keeps_units c k u here = keeps_unit c.args.program.now k u here

pub returns-clause-keeps : goal.returns-clause-keeps
returns-clause-keeps c =
    let p = c.args.program.now in
    let all : length c.units-2.result.now.units ≡ length p.units.units = λ i. length (c.units-2.ensures i).units in
    let count : c.units.number ≡ length p.units.units = omega (arith, c.units-test.false, c.units.auto.number-end, c.in_ok-count.ensures, c.len.ensures, all) in
    let code : record { units = c.units.units } ≡ code_of p = λ i. record { units = (c.units.invariant ∙ ap (units_of_code p) count) i } in
    subst (λ (x : Code). KeepsProgram p x) (sym code) (keeps_program p)

pub returns-clause-never_stuck : goal.returns-clause-never_stuck
returns-clause-never_stuck c =
    let p = c.args.program.now in
    let all : length c.units-2.result.now.units ≡ length p.units.units = λ i. length (c.units-2.ensures i).units in
    let count : c.units.number ≡ length p.units.units = omega (arith, c.units-test.false, c.units.auto.number-end, c.in_ok-count.ensures, c.len.ensures, all) in
    let code : record { units = c.units.units } ≡ code_of p = λ i. record { units = (c.units.invariant ∙ ap (units_of_code p) count) i } in
    subst (λ (x : Code). NeverStuck p x) (sym code) (never_stuck p)
