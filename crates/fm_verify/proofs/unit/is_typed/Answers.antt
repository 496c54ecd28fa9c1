use Rattle.std.proofs.Common.{◌≡◌, ◌↔◌, ℕ, Bool, true, false, List, length, map, sym, ap, subst, ◌∙◌}
use Rattle.std.specs.Prelude.{IsTrue}
use Rattle.fm_code.specs.declared.code.Entry.{Entry}
use Rattle.fm_code.specs.declared.instr.Instr.{Instr}
use Rattle.fm_code_kinds.specs.Kinded.{Kinded}
use Rattle.fm_code_kinds.specs.declared.sorts.Shape.{Shape}
use Rattle.fm_code_kinds.specs.Shapes.{words_of}
use Rattle.fm_verify_unit.specs.Along.{coded_by}
use Rattle.fm_object.specs.declared.image.Cell.{Cell}
use Rattle.fm_image_typed.specs.Shapes.{cell_of, loops_of}
use Rattle.fm_image_typed.specs.Typed.{UnitIsTyped}
use Rattle.fm_verify.specs.Tests.{are_cells}
use Rattle.fm_verify.proofs.Units.{its_shape, judged, no_cells, not_plain, shape_there, where_ok}
use Rattle.fm_verify.proofs.unit.is_typed.Goals as goal

-- a test of a list holds of another that is the same
tested : (n m : ℕ) (cs ds : List Cell) (b : Bool) → n ≡ m → cs ≡ ds → are_cells n 0 cs ≡ b → are_cells m 0 ds ≡ b
tested n m cs ds b e f t = cc

pub returns-in_default : goal.returns-in_default
returns-in_default c =
    no_cells c.args.image.now c.args.unit.now
    (tested c.len.result (length c.args.image.now.types) c.as_slice.result.now c.args.unit.now.cells false c.len.ensures c.as_slice.ensures c.in_default.ensures)

pub returns-then-not-branch : goal.returns-then-not-branch
returns-then-not-branch c = not_plain c.args.image.now c.args.unit.now (sym c.in_ok-is_plain.ensures ∙ c.if-not-branch.true)

pub returns-in_default-unit : goal.returns-in_default-unit
returns-in_default-unit c =
    let there = shape_there c.args.image.now c.args.unit.now c.args.number c.args.known.now c.requires.known c.requires.unit in
    absurd (cc (c.in_default-unit.ensures ∙ there))

pub kinded-requires : goal.kinded-requires
kinded-requires c =
    let shape = its_shape c.args.image.now c.args.unit.now c.args.number c.args.known.now c.in-Some-unit.shape.now c.requires.known c.requires.unit c.in-Some-unit.ensures in
    record { frame = c.in-Some.ensures.1 ∙ ap (λ (cs : List Cell). words_of (map cell_of cs)) c.as_slice.ensures ∙ ap (λ (s : Shape). words_of s.cells) (sym shape) }

pub returns : goal.returns
returns c =
    let image = c.args.image.now in
    let unit = c.args.unit.now in
    let known = c.args.known.now in
    let shape = c.in-Some-unit.shape.now in
    let loops = c.loops_of-loops.result in
    let entries = c.as_slice-2.result.now in
    let code = c.as_slice-code.result.now in
    let same = its_shape image unit c.args.number known shape c.requires.known c.requires.unit c.in-Some-unit.ensures in
    let cells = tested c.len.result (length image.types) c.as_slice.result.now unit.cells true c.len.ensures c.as_slice.ensures c.in-Some.ensures.0 in
    where_ok c.kinded.result (λ (b : Bool). IsTrue b ↔ Kinded known shape (coded_by loops entries code)) (λ (b : Bool). IsTrue b ↔ UnitIsTyped image unit)
    (λ b k.
    judged image unit known shape loops b c.requires.known same (c.loops_of-loops.ensures ∙ ap loops_of c.as_slice-code.ensures) cells (sym c.in_ok-is_plain.ensures ∙ c.if-not-branch.false)
    (subst (λ (es : List Entry). IsTrue b ↔ Kinded known shape (coded_by loops es unit.code)) c.as_slice-2.ensures
    (subst (λ (is : List Instr). IsTrue b ↔ Kinded known shape (coded_by loops entries is)) c.as_slice-code.ensures k)))
    c.kinded.ensures
