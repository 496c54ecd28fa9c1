use Rattle.std.proofs.Common.{◌≡◌, ◌∙◌, ◌≤◌, true, Some, length, ap, sym, arith}
use Rattle.fm_tree.specs.declared.entry_mark.EntryMark.{EntryMark}
use Rattle.fm_tree.specs.Blocks.{head_of, innermost}
use Rattle.fm_tree.specs.Units.{form_at, stands_outside}
use Rattle.fm_unit_structure.proofs.Jumps.{path_outside}
use Rattle.fm_unit.proofs.linking.Body.block_round.Goals as goal

pub returns-then-stands_outside : goal.returns-then-stands_outside
returns-then-stands_outside c =
    let es = c.args.self.now.marks.now in
    let block = c.in-Some.block in
    let l : c.args.place ≤ length es = omega (arith, c.requires) in
    let e : innermost es c.args.place ≡ Some block = sym c.inner_at.ensures.value ∙ c.in-Some.is in
    let s : stands_outside (form_at es c.args.place) block ≡ true
    = sym (c.stands_outside.ensures ∙ ap (λ (m : EntryMark). stands_outside m.form block) c.mark_at.ensures) ∙ c.if-stands_outside.true in
    c.inner_at-then-stands_outside.ensures.value ∙ sym (ap head_of (path_outside es c.args.place block l e s))
