use Rattle.std.proofs.Common.{◌≡◌, ◌∙◌, ◌≤◌, true, Some, length, ap, sym, arith}
use Rattle.fm_tree.specs.Blocks.{head_of, innermost}
use Rattle.fm_tree.specs.Units.{form_at, stands_outside}
use Rattle.fm_unit_structure.proofs.Jumps.{path_outside}
use Rattle.fm_unit_structure.proofs.sheet.Sheet.block_round.Goals as goal

pub returns-then-stands_outside-clause-value : goal.returns-then-stands_outside-clause-value
returns-then-stands_outside-clause-value c =
    let es = c.args.self.now.entries.now in
    let block = c.in-Some.block in
    let l : c.args.k ≤ length es = omega (arith, c.requires) in
    let e : innermost es c.args.k ≡ Some block = sym c.inner_at.ensures.value ∙ c.in-Some.is in
    let s : stands_outside (form_at es c.args.k) block ≡ true
    = sym (c.stands_outside.ensures ∙ ap (λ f. stands_outside f block) c.form_at.ensures) ∙ c.if-stands_outside.true in
    c.inner_at-then-stands_outside.ensures.value ∙ sym (ap head_of (path_outside es c.args.k block l e s))
