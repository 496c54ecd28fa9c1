-- A line that is read is the line that was written, and what was written is read again.
use Rattle.std.proofs.Common.{◌≡◌, ℕ, List, ◌++◌, Some, refl, sym, ap, subst, ◌∙◌, append_assoc, arith}
use Rattle.std.specs.Prelude.{codes}
use Rattle.std.specs.Int.{w64}
use Rattle.std.specs.Int.RustNames.{FitsSigned}
use Rattle.fm_code.specs.declared.instr.Instr.{Instr}
use Rattle.fm_code.specs.Parts.{Parts, parts_of, instr_of}
use Rattle.fm_object.specs.declared.image.FieldImage.{FieldImage}
use Rattle.fm_object.specs.declared.image.Cell.{Cell}
use Rattle.fm_code.specs.declared.code.Entry.{Entry}
use Rattle.fm_object.specs.Texts.{word, number, signed, field_text, cell_text, entry_text, parts_text, instr_text, IsShort, FieldFits, CellFits, EntryFits, InstrFits}
use Rattle.fm_object.specs.Words.{◌>>=◌, after, number_at, signed_at, name_at}
use Rattle.fm_object.specs.Reading.{HeadFits, UnitHead, count_line, field_line, cell_line, entry_line, unit_head_line, instr_line}
use Rattle.fm_object.proofs.PartLaws.{parts_told}
use Rattle.fm_object.proofs.WordLaws.{IsEnd, bind_some, some, some_is, after_takes, after_again, number_takes, number_again, signed_takes, signed_again, name_takes, name_again}

end32 : IsEnd 32
end32 = record { low = omega arith }

pub end10 : IsEnd 10
end10 = record { low = omega arith }

-- the line of a unit
abbrev pub head_line_text : UnitHead → List ℕ
head_line_text u = codes "unit " ++ (number u.heading 32 ++ (number u.extents 32 ++ (number u.cells 32 ++ (number u.entries 32 ++ number u.code 10))))

-- ---- a keyword and a number

pub count_takes : (k bs : List ℕ) (n : ℕ) (r : List ℕ) → count_line k bs ≡ Some (n, r) → (bs ≡ (k ++ number n 10) ++ r) × IsShort n
unfolding count_line
count_takes k bs n r is =
    let a = bind_some (after k bs) (λ a. number_at 10 a) (n, r) is in
    let t = number_takes 10 a.0 n r a.2 in
    (after_takes k bs a.0 a.1 ∙ ap (λ (z : List ℕ). k ++ z) t.0 ∙ sym (append_assoc k (number n 10) r), t.1)

pub count_again : (k : List ℕ) (n : ℕ) (r : List ℕ) → IsShort n → count_line k ((k ++ number n 10) ++ r) ≡ Some (n, r)
unfolding count_line
count_again k n r short = ap (count_line k) (append_assoc k (number n 10) r) ∙ rw (after_again k (number n 10 ++ r)) (number_again 10 end10 n r short)

-- ---- instructions

instr_grouped : (p : Parts) (r : List ℕ) → parts_text p ++ r ≡ codes "instr " ++ (number p.0 32 ++ (signed p.1 32 ++ (signed p.2 10 ++ r)))
instr_grouped p r = simp append_assoc

pub instr_made : (i : Instr) (p : Parts) → parts_of i ≡ p → IsShort p.0 → FitsSigned w64 p.1 → FitsSigned w64 p.2 → instr_of p.0 p.1 p.2 ≡ Some i → InstrFits i
instr_made i p e operation first second told = record {
  operation = subst (λ (q : Parts). IsShort q.0) (sym e) operation;
  first = subst (λ (q : Parts). FitsSigned w64 q.1) (sym e) first;
  second = subst (λ (q : Parts). FitsSigned w64 q.2) (sym e) second;
  told = subst (λ (q : Parts). instr_of q.0 q.1 q.2 ≡ Some i) (sym e) told;
}

pub instr_takes : (bs : List ℕ) (x : Instr) (r : List ℕ) → instr_line bs ≡ Some (x, r) → (bs ≡ instr_text x ++ r) × InstrFits x
unfolding instr_line
instr_takes bs x r is =
    let a = bind_some (after (codes "instr ") bs) (λ a. number_at 32 a >>= λ op. signed_at 32 op.1 >>= λ first. signed_at 10 first.1 >>= λ second. instr_of op.0 first.0 second.0 >>= λ instr. Some (instr, second.1)) (x, r) is in
    let b = bind_some (number_at 32 a.0) (λ op. signed_at 32 op.1 >>= λ first. signed_at 10 first.1 >>= λ second. instr_of op.0 first.0 second.0 >>= λ instr. Some (instr, second.1)) (x, r) a.2 in
    let c = bind_some (signed_at 32 b.0.1) (λ first. signed_at 10 first.1 >>= λ second. instr_of b.0.0 first.0 second.0 >>= λ instr. Some (instr, second.1)) (x, r) b.2 in
    let d = bind_some (signed_at 10 c.0.1) (λ second. instr_of b.0.0 c.0.0 second.0 >>= λ instr. Some (instr, second.1)) (x, r) c.2 in
    let e = bind_some (instr_of b.0.0 c.0.0 d.0.0) (λ instr. Some (instr, d.0.1)) (x, r) d.2 in
    let made : Parts = (b.0.0, c.0.0, d.0.0) in
    let parts : parts_of e.0 ≡ made = parts_told b.0.0 c.0.0 d.0.0 e.0 e.1 in
    let t0 = number_takes 32 a.0 b.0.0 b.0.1 b.1 in
    let t1 = signed_takes 32 b.0.1 c.0.0 c.0.1 c.1 in
    let t2 = signed_takes 10 c.0.1 d.0.0 d.0.1 d.1 in
    let whole : bs ≡ parts_text made ++ d.0.1 = after_takes (codes "instr ") bs a.0 a.1 ∙ ap (λ (z : List ℕ). codes "instr " ++ z) (t0.0 ∙ ap (λ (z : List ℕ). number b.0.0 32 ++ z) (t1.0 ∙ ap (λ (z : List ℕ). signed c.0.0 32 ++ z) t2.0)) ∙ sym (instr_grouped made d.0.1) in
    let told : bs ≡ instr_text e.0 ++ d.0.1 = whole ∙ ap (λ (p : Parts). parts_text p ++ d.0.1) (sym parts) in
    subst (λ (y : Instr × List ℕ). (bs ≡ instr_text y.0 ++ y.1) × InstrFits y.0) (some_is {A = Instr × List ℕ} (e.0, d.0.1) (x, r) e.2) (told, instr_made e.0 made parts t0.1 t1.1 t2.1 e.1)

parts_again : (p : Parts) (x : Instr) (r : List ℕ) → IsShort p.0 → FitsSigned w64 p.1 → FitsSigned w64 p.2 → instr_of p.0 p.1 p.2 ≡ Some x → instr_line (parts_text p ++ r) ≡ Some (x, r)
unfolding instr_line after
parts_again p x r operation first second told =
    ap instr_line (instr_grouped p r)
    ∙ rw (number_again 32 end32 p.0 (signed p.1 32 ++ (signed p.2 10 ++ r)) operation, signed_again 32 end32 p.1 (signed p.2 10 ++ r) first, signed_again 10 end10 p.2 r second, told) refl

pub instr_again : (x : Instr) (r : List ℕ) → InstrFits x → instr_line (instr_text x ++ r) ≡ Some (x, r)
instr_again x r fits = parts_again (parts_of x) x r fits.operation fits.first fits.second fits.told

-- ---- lines of numbers

field_grouped : (x : FieldImage) (r : List ℕ) → field_text x ++ r ≡ codes "field " ++ (number x.kind 32 ++ (number x.of 32 ++ (number x.words 32 ++ (number x.size 10 ++ r))))
field_grouped x r = simp append_assoc

field_made : (bs a : List ℕ) (v0 : ℕ) (r0 : List ℕ) (v1 : ℕ) (r1 : List ℕ) (v2 : ℕ) (r2 : List ℕ) (v3 : ℕ) (r3 : List ℕ) → after (codes "field ") bs ≡ Some a → number_at 32 a ≡ Some (v0, r0) → number_at 32 r0 ≡ Some (v1, r1) → number_at 32 r1 ≡ Some (v2, r2) → number_at 10 r2 ≡ Some (v3, r3) → (x : FieldImage) → x ≡ record { kind = v0; of = v1; words = v2; size = v3 } → (bs ≡ field_text x ++ r3) × FieldFits x
field_made bs a v0 r0 v1 r1 v2 r2 v3 r3 ea e0 e1 e2 e3 x x_is =
    let made : FieldImage = record { kind = v0; of = v1; words = v2; size = v3 } in
    let whole : bs ≡ field_text made ++ r3 = after_takes (codes "field ") bs a ea ∙ ap (λ (z : List ℕ). codes "field " ++ z) ((number_takes 32 a v0 r0 e0).0 ∙ ap (λ (z : List ℕ). number v0 32 ++ z) ((number_takes 32 r0 v1 r1 e1).0 ∙ ap (λ (z : List ℕ). number v1 32 ++ z) ((number_takes 32 r1 v2 r2 e2).0 ∙ ap (λ (z : List ℕ). number v2 32 ++ z) ((number_takes 10 r2 v3 r3 e3).0)))) ∙ sym (field_grouped made r3) in
    subst (λ (y : FieldImage). (bs ≡ field_text y ++ r3) × FieldFits y) (sym x_is) (whole, record { kind = (number_takes 32 a v0 r0 e0).1; of = (number_takes 32 r0 v1 r1 e1).1; words = (number_takes 32 r1 v2 r2 e2).1; size = (number_takes 10 r2 v3 r3 e3).1 })

field_step4 : (bs : List ℕ) (x : FieldImage) (r a : List ℕ) (v0 : ℕ) (r0 : List ℕ) (v1 : ℕ) (r1 : List ℕ) (v2 : ℕ) (r2 : List ℕ) (v3 : ℕ) (r3 : List ℕ) → after (codes "field ") bs ≡ Some a → number_at 32 a ≡ Some (v0, r0) → number_at 32 r0 ≡ Some (v1, r1) → number_at 32 r1 ≡ Some (v2, r2) → number_at 10 r2 ≡ Some (v3, r3) → (Some (record { kind = v0; of = v1; words = v2; size = v3 }, r3)) ≡ some {A = FieldImage × List ℕ} (x, r) → (bs ≡ field_text x ++ r) × FieldFits x
field_step4 bs x r a v0 r0 v1 r1 v2 r2 v3 r3 ea e0 e1 e2 e3 is =
    let same : FieldImage × List ℕ = (record { kind = v0; of = v1; words = v2; size = v3 }, r3) in
    let e = some_is {A = FieldImage × List ℕ} (record { kind = v0; of = v1; words = v2; size = v3 }, r3) (x, r) is in
    subst (λ (y : FieldImage × List ℕ). (bs ≡ field_text y.0 ++ y.1) × FieldFits y.0) e (field_made bs a v0 r0 v1 r1 v2 r2 v3 r3 ea e0 e1 e2 e3 (record { kind = v0; of = v1; words = v2; size = v3 }) refl)

field_step3 : (bs : List ℕ) (x : FieldImage) (r a : List ℕ) (v0 : ℕ) (r0 : List ℕ) (v1 : ℕ) (r1 : List ℕ) (v2 : ℕ) (r2 : List ℕ) → after (codes "field ") bs ≡ Some a → number_at 32 a ≡ Some (v0, r0) → number_at 32 r0 ≡ Some (v1, r1) → number_at 32 r1 ≡ Some (v2, r2) → (number_at 10 r2 >>= λ size. Some (record { kind = v0; of = v1; words = v2; size = size.0 }, size.1)) ≡ some {A = FieldImage × List ℕ} (x, r) → (bs ≡ field_text x ++ r) × FieldFits x
field_step3 bs x r a v0 r0 v1 r1 v2 r2 ea e0 e1 e2 is =
    let b = bind_some (number_at 10 r2) (λ size. Some (record { kind = v0; of = v1; words = v2; size = size.0 }, size.1)) (x, r) is in
    field_step4 bs x r a v0 r0 v1 r1 v2 r2 b.0.0 b.0.1 ea e0 e1 e2 b.1 b.2

field_step2 : (bs : List ℕ) (x : FieldImage) (r a : List ℕ) (v0 : ℕ) (r0 : List ℕ) (v1 : ℕ) (r1 : List ℕ) → after (codes "field ") bs ≡ Some a → number_at 32 a ≡ Some (v0, r0) → number_at 32 r0 ≡ Some (v1, r1) → (number_at 32 r1 >>= λ words. number_at 10 words.1 >>= λ size. Some (record { kind = v0; of = v1; words = words.0; size = size.0 }, size.1)) ≡ some {A = FieldImage × List ℕ} (x, r) → (bs ≡ field_text x ++ r) × FieldFits x
field_step2 bs x r a v0 r0 v1 r1 ea e0 e1 is =
    let b = bind_some (number_at 32 r1) (λ words. number_at 10 words.1 >>= λ size. Some (record { kind = v0; of = v1; words = words.0; size = size.0 }, size.1)) (x, r) is in
    field_step3 bs x r a v0 r0 v1 r1 b.0.0 b.0.1 ea e0 e1 b.1 b.2

field_step1 : (bs : List ℕ) (x : FieldImage) (r a : List ℕ) (v0 : ℕ) (r0 : List ℕ) → after (codes "field ") bs ≡ Some a → number_at 32 a ≡ Some (v0, r0) → (number_at 32 r0 >>= λ of. number_at 32 of.1 >>= λ words. number_at 10 words.1 >>= λ size. Some (record { kind = v0; of = of.0; words = words.0; size = size.0 }, size.1)) ≡ some {A = FieldImage × List ℕ} (x, r) → (bs ≡ field_text x ++ r) × FieldFits x
field_step1 bs x r a v0 r0 ea e0 is =
    let b = bind_some (number_at 32 r0) (λ of. number_at 32 of.1 >>= λ words. number_at 10 words.1 >>= λ size. Some (record { kind = v0; of = of.0; words = words.0; size = size.0 }, size.1)) (x, r) is in
    field_step2 bs x r a v0 r0 b.0.0 b.0.1 ea e0 b.1 b.2

field_step0 : (bs : List ℕ) (x : FieldImage) (r a : List ℕ) → after (codes "field ") bs ≡ Some a → (number_at 32 a >>= λ kind. number_at 32 kind.1 >>= λ of. number_at 32 of.1 >>= λ words. number_at 10 words.1 >>= λ size. Some (record { kind = kind.0; of = of.0; words = words.0; size = size.0 }, size.1)) ≡ some {A = FieldImage × List ℕ} (x, r) → (bs ≡ field_text x ++ r) × FieldFits x
field_step0 bs x r a ea is =
    let b = bind_some (number_at 32 a) (λ kind. number_at 32 kind.1 >>= λ of. number_at 32 of.1 >>= λ words. number_at 10 words.1 >>= λ size. Some (record { kind = kind.0; of = of.0; words = words.0; size = size.0 }, size.1)) (x, r) is in
    field_step1 bs x r a b.0.0 b.0.1 ea b.1 b.2

pub field_takes : (bs : List ℕ) (x : FieldImage) (r : List ℕ) → field_line bs ≡ Some (x, r) → (bs ≡ field_text x ++ r) × FieldFits x
unfolding field_line
field_takes bs x r is =
    let a = bind_some (after (codes "field ") bs) (λ a. number_at 32 a >>= λ kind. number_at 32 kind.1 >>= λ of. number_at 32 of.1 >>= λ words. number_at 10 words.1 >>= λ size. Some (record { kind = kind.0; of = of.0; words = words.0; size = size.0 }, size.1)) (x, r) is in
    field_step0 bs x r a.0 a.1 a.2

pub field_again : (x : FieldImage) (r : List ℕ) → FieldFits x → field_line (field_text x ++ r) ≡ Some (x, r)
unfolding field_line after
field_again x r fits = ap field_line (field_grouped x r) ∙ rw (number_again 32 end32 x.kind (number x.of 32 ++ (number x.words 32 ++ (number x.size 10 ++ r))) fits.kind, number_again 32 end32 x.of (number x.words 32 ++ (number x.size 10 ++ r)) fits.of, number_again 32 end32 x.words (number x.size 10 ++ r) fits.words, number_again 10 end10 x.size r fits.size) refl

cell_grouped : (x : Cell) (r : List ℕ) → cell_text x ++ r ≡ codes "cell " ++ (word x.name 32 ++ (number x.kind 32 ++ (number x.of 32 ++ (number x.first 32 ++ (number x.words 32 ++ (number x.formal 32 ++ (number x.back 10 ++ r)))))))
cell_grouped x r = simp append_assoc

cell_made : (bs a : List ℕ) (v0 : List ℕ) (r0 : List ℕ) (v1 : ℕ) (r1 : List ℕ) (v2 : ℕ) (r2 : List ℕ) (v3 : ℕ) (r3 : List ℕ) (v4 : ℕ) (r4 : List ℕ) (v5 : ℕ) (r5 : List ℕ) (v6 : ℕ) (r6 : List ℕ) → after (codes "cell ") bs ≡ Some a → name_at 32 a ≡ Some (v0, r0) → number_at 32 r0 ≡ Some (v1, r1) → number_at 32 r1 ≡ Some (v2, r2) → number_at 32 r2 ≡ Some (v3, r3) → number_at 32 r3 ≡ Some (v4, r4) → number_at 32 r4 ≡ Some (v5, r5) → number_at 10 r5 ≡ Some (v6, r6) → (x : Cell) → x ≡ record { name = v0; kind = v1; of = v2; first = v3; words = v4; formal = v5; back = v6 } → (bs ≡ cell_text x ++ r6) × CellFits x
cell_made bs a v0 r0 v1 r1 v2 r2 v3 r3 v4 r4 v5 r5 v6 r6 ea e0 e1 e2 e3 e4 e5 e6 x x_is =
    let made : Cell = record { name = v0; kind = v1; of = v2; first = v3; words = v4; formal = v5; back = v6 } in
    let whole : bs ≡ cell_text made ++ r6 = after_takes (codes "cell ") bs a ea ∙ ap (λ (z : List ℕ). codes "cell " ++ z) ((name_takes 32 a v0 r0 e0).0 ∙ ap (λ (z : List ℕ). word v0 32 ++ z) ((number_takes 32 r0 v1 r1 e1).0 ∙ ap (λ (z : List ℕ). number v1 32 ++ z) ((number_takes 32 r1 v2 r2 e2).0 ∙ ap (λ (z : List ℕ). number v2 32 ++ z) ((number_takes 32 r2 v3 r3 e3).0 ∙ ap (λ (z : List ℕ). number v3 32 ++ z) ((number_takes 32 r3 v4 r4 e4).0 ∙ ap (λ (z : List ℕ). number v4 32 ++ z) ((number_takes 32 r4 v5 r5 e5).0 ∙ ap (λ (z : List ℕ). number v5 32 ++ z) ((number_takes 10 r5 v6 r6 e6).0))))))) ∙ sym (cell_grouped made r6) in
    subst (λ (y : Cell). (bs ≡ cell_text y ++ r6) × CellFits y) (sym x_is) (whole, record { name = (name_takes 32 a v0 r0 e0).1; kind = (number_takes 32 r0 v1 r1 e1).1; of = (number_takes 32 r1 v2 r2 e2).1; first = (number_takes 32 r2 v3 r3 e3).1; words = (number_takes 32 r3 v4 r4 e4).1; formal = (number_takes 32 r4 v5 r5 e5).1; back = (number_takes 10 r5 v6 r6 e6).1 })

cell_step7 : (bs : List ℕ) (x : Cell) (r a : List ℕ) (v0 : List ℕ) (r0 : List ℕ) (v1 : ℕ) (r1 : List ℕ) (v2 : ℕ) (r2 : List ℕ) (v3 : ℕ) (r3 : List ℕ) (v4 : ℕ) (r4 : List ℕ) (v5 : ℕ) (r5 : List ℕ) (v6 : ℕ) (r6 : List ℕ) → after (codes "cell ") bs ≡ Some a → name_at 32 a ≡ Some (v0, r0) → number_at 32 r0 ≡ Some (v1, r1) → number_at 32 r1 ≡ Some (v2, r2) → number_at 32 r2 ≡ Some (v3, r3) → number_at 32 r3 ≡ Some (v4, r4) → number_at 32 r4 ≡ Some (v5, r5) → number_at 10 r5 ≡ Some (v6, r6) → (Some (record { name = v0; kind = v1; of = v2; first = v3; words = v4; formal = v5; back = v6 }, r6)) ≡ some {A = Cell × List ℕ} (x, r) → (bs ≡ cell_text x ++ r) × CellFits x
cell_step7 bs x r a v0 r0 v1 r1 v2 r2 v3 r3 v4 r4 v5 r5 v6 r6 ea e0 e1 e2 e3 e4 e5 e6 is =
    let same : Cell × List ℕ = (record { name = v0; kind = v1; of = v2; first = v3; words = v4; formal = v5; back = v6 }, r6) in
    let e = some_is {A = Cell × List ℕ} (record { name = v0; kind = v1; of = v2; first = v3; words = v4; formal = v5; back = v6 }, r6) (x, r) is in
    subst (λ (y : Cell × List ℕ). (bs ≡ cell_text y.0 ++ y.1) × CellFits y.0) e (cell_made bs a v0 r0 v1 r1 v2 r2 v3 r3 v4 r4 v5 r5 v6 r6 ea e0 e1 e2 e3 e4 e5 e6 (record { name = v0; kind = v1; of = v2; first = v3; words = v4; formal = v5; back = v6 }) refl)

cell_step6 : (bs : List ℕ) (x : Cell) (r a : List ℕ) (v0 : List ℕ) (r0 : List ℕ) (v1 : ℕ) (r1 : List ℕ) (v2 : ℕ) (r2 : List ℕ) (v3 : ℕ) (r3 : List ℕ) (v4 : ℕ) (r4 : List ℕ) (v5 : ℕ) (r5 : List ℕ) → after (codes "cell ") bs ≡ Some a → name_at 32 a ≡ Some (v0, r0) → number_at 32 r0 ≡ Some (v1, r1) → number_at 32 r1 ≡ Some (v2, r2) → number_at 32 r2 ≡ Some (v3, r3) → number_at 32 r3 ≡ Some (v4, r4) → number_at 32 r4 ≡ Some (v5, r5) → (number_at 10 r5 >>= λ back. Some (record { name = v0; kind = v1; of = v2; first = v3; words = v4; formal = v5; back = back.0 }, back.1)) ≡ some {A = Cell × List ℕ} (x, r) → (bs ≡ cell_text x ++ r) × CellFits x
cell_step6 bs x r a v0 r0 v1 r1 v2 r2 v3 r3 v4 r4 v5 r5 ea e0 e1 e2 e3 e4 e5 is =
    let b = bind_some (number_at 10 r5) (λ back. Some (record { name = v0; kind = v1; of = v2; first = v3; words = v4; formal = v5; back = back.0 }, back.1)) (x, r) is in
    cell_step7 bs x r a v0 r0 v1 r1 v2 r2 v3 r3 v4 r4 v5 r5 b.0.0 b.0.1 ea e0 e1 e2 e3 e4 e5 b.1 b.2

cell_step5 : (bs : List ℕ) (x : Cell) (r a : List ℕ) (v0 : List ℕ) (r0 : List ℕ) (v1 : ℕ) (r1 : List ℕ) (v2 : ℕ) (r2 : List ℕ) (v3 : ℕ) (r3 : List ℕ) (v4 : ℕ) (r4 : List ℕ) → after (codes "cell ") bs ≡ Some a → name_at 32 a ≡ Some (v0, r0) → number_at 32 r0 ≡ Some (v1, r1) → number_at 32 r1 ≡ Some (v2, r2) → number_at 32 r2 ≡ Some (v3, r3) → number_at 32 r3 ≡ Some (v4, r4) → (number_at 32 r4 >>= λ formal. number_at 10 formal.1 >>= λ back. Some (record { name = v0; kind = v1; of = v2; first = v3; words = v4; formal = formal.0; back = back.0 }, back.1)) ≡ some {A = Cell × List ℕ} (x, r) → (bs ≡ cell_text x ++ r) × CellFits x
cell_step5 bs x r a v0 r0 v1 r1 v2 r2 v3 r3 v4 r4 ea e0 e1 e2 e3 e4 is =
    let b = bind_some (number_at 32 r4) (λ formal. number_at 10 formal.1 >>= λ back. Some (record { name = v0; kind = v1; of = v2; first = v3; words = v4; formal = formal.0; back = back.0 }, back.1)) (x, r) is in
    cell_step6 bs x r a v0 r0 v1 r1 v2 r2 v3 r3 v4 r4 b.0.0 b.0.1 ea e0 e1 e2 e3 e4 b.1 b.2

cell_step4 : (bs : List ℕ) (x : Cell) (r a : List ℕ) (v0 : List ℕ) (r0 : List ℕ) (v1 : ℕ) (r1 : List ℕ) (v2 : ℕ) (r2 : List ℕ) (v3 : ℕ) (r3 : List ℕ) → after (codes "cell ") bs ≡ Some a → name_at 32 a ≡ Some (v0, r0) → number_at 32 r0 ≡ Some (v1, r1) → number_at 32 r1 ≡ Some (v2, r2) → number_at 32 r2 ≡ Some (v3, r3) → (number_at 32 r3 >>= λ words. number_at 32 words.1 >>= λ formal. number_at 10 formal.1 >>= λ back. Some (record { name = v0; kind = v1; of = v2; first = v3; words = words.0; formal = formal.0; back = back.0 }, back.1)) ≡ some {A = Cell × List ℕ} (x, r) → (bs ≡ cell_text x ++ r) × CellFits x
cell_step4 bs x r a v0 r0 v1 r1 v2 r2 v3 r3 ea e0 e1 e2 e3 is =
    let b = bind_some (number_at 32 r3) (λ words. number_at 32 words.1 >>= λ formal. number_at 10 formal.1 >>= λ back. Some (record { name = v0; kind = v1; of = v2; first = v3; words = words.0; formal = formal.0; back = back.0 }, back.1)) (x, r) is in
    cell_step5 bs x r a v0 r0 v1 r1 v2 r2 v3 r3 b.0.0 b.0.1 ea e0 e1 e2 e3 b.1 b.2

cell_step3 : (bs : List ℕ) (x : Cell) (r a : List ℕ) (v0 : List ℕ) (r0 : List ℕ) (v1 : ℕ) (r1 : List ℕ) (v2 : ℕ) (r2 : List ℕ) → after (codes "cell ") bs ≡ Some a → name_at 32 a ≡ Some (v0, r0) → number_at 32 r0 ≡ Some (v1, r1) → number_at 32 r1 ≡ Some (v2, r2) → (number_at 32 r2 >>= λ first. number_at 32 first.1 >>= λ words. number_at 32 words.1 >>= λ formal. number_at 10 formal.1 >>= λ back. Some (record { name = v0; kind = v1; of = v2; first = first.0; words = words.0; formal = formal.0; back = back.0 }, back.1)) ≡ some {A = Cell × List ℕ} (x, r) → (bs ≡ cell_text x ++ r) × CellFits x
cell_step3 bs x r a v0 r0 v1 r1 v2 r2 ea e0 e1 e2 is =
    let b = bind_some (number_at 32 r2) (λ first. number_at 32 first.1 >>= λ words. number_at 32 words.1 >>= λ formal. number_at 10 formal.1 >>= λ back. Some (record { name = v0; kind = v1; of = v2; first = first.0; words = words.0; formal = formal.0; back = back.0 }, back.1)) (x, r) is in
    cell_step4 bs x r a v0 r0 v1 r1 v2 r2 b.0.0 b.0.1 ea e0 e1 e2 b.1 b.2

cell_step2 : (bs : List ℕ) (x : Cell) (r a : List ℕ) (v0 : List ℕ) (r0 : List ℕ) (v1 : ℕ) (r1 : List ℕ) → after (codes "cell ") bs ≡ Some a → name_at 32 a ≡ Some (v0, r0) → number_at 32 r0 ≡ Some (v1, r1) → (number_at 32 r1 >>= λ of. number_at 32 of.1 >>= λ first. number_at 32 first.1 >>= λ words. number_at 32 words.1 >>= λ formal. number_at 10 formal.1 >>= λ back. Some (record { name = v0; kind = v1; of = of.0; first = first.0; words = words.0; formal = formal.0; back = back.0 }, back.1)) ≡ some {A = Cell × List ℕ} (x, r) → (bs ≡ cell_text x ++ r) × CellFits x
cell_step2 bs x r a v0 r0 v1 r1 ea e0 e1 is =
    let b = bind_some (number_at 32 r1) (λ of. number_at 32 of.1 >>= λ first. number_at 32 first.1 >>= λ words. number_at 32 words.1 >>= λ formal. number_at 10 formal.1 >>= λ back. Some (record { name = v0; kind = v1; of = of.0; first = first.0; words = words.0; formal = formal.0; back = back.0 }, back.1)) (x, r) is in
    cell_step3 bs x r a v0 r0 v1 r1 b.0.0 b.0.1 ea e0 e1 b.1 b.2

cell_step1 : (bs : List ℕ) (x : Cell) (r a : List ℕ) (v0 : List ℕ) (r0 : List ℕ) → after (codes "cell ") bs ≡ Some a → name_at 32 a ≡ Some (v0, r0) → (number_at 32 r0 >>= λ kind. number_at 32 kind.1 >>= λ of. number_at 32 of.1 >>= λ first. number_at 32 first.1 >>= λ words. number_at 32 words.1 >>= λ formal. number_at 10 formal.1 >>= λ back. Some (record { name = v0; kind = kind.0; of = of.0; first = first.0; words = words.0; formal = formal.0; back = back.0 }, back.1)) ≡ some {A = Cell × List ℕ} (x, r) → (bs ≡ cell_text x ++ r) × CellFits x
cell_step1 bs x r a v0 r0 ea e0 is =
    let b = bind_some (number_at 32 r0) (λ kind. number_at 32 kind.1 >>= λ of. number_at 32 of.1 >>= λ first. number_at 32 first.1 >>= λ words. number_at 32 words.1 >>= λ formal. number_at 10 formal.1 >>= λ back. Some (record { name = v0; kind = kind.0; of = of.0; first = first.0; words = words.0; formal = formal.0; back = back.0 }, back.1)) (x, r) is in
    cell_step2 bs x r a v0 r0 b.0.0 b.0.1 ea e0 b.1 b.2

cell_step0 : (bs : List ℕ) (x : Cell) (r a : List ℕ) → after (codes "cell ") bs ≡ Some a → (name_at 32 a >>= λ name. number_at 32 name.1 >>= λ kind. number_at 32 kind.1 >>= λ of. number_at 32 of.1 >>= λ first. number_at 32 first.1 >>= λ words. number_at 32 words.1 >>= λ formal. number_at 10 formal.1 >>= λ back. Some (record { name = name.0; kind = kind.0; of = of.0; first = first.0; words = words.0; formal = formal.0; back = back.0 }, back.1)) ≡ some {A = Cell × List ℕ} (x, r) → (bs ≡ cell_text x ++ r) × CellFits x
cell_step0 bs x r a ea is =
    let b = bind_some (name_at 32 a) (λ name. number_at 32 name.1 >>= λ kind. number_at 32 kind.1 >>= λ of. number_at 32 of.1 >>= λ first. number_at 32 first.1 >>= λ words. number_at 32 words.1 >>= λ formal. number_at 10 formal.1 >>= λ back. Some (record { name = name.0; kind = kind.0; of = of.0; first = first.0; words = words.0; formal = formal.0; back = back.0 }, back.1)) (x, r) is in
    cell_step1 bs x r a b.0.0 b.0.1 ea b.1 b.2

pub cell_takes : (bs : List ℕ) (x : Cell) (r : List ℕ) → cell_line bs ≡ Some (x, r) → (bs ≡ cell_text x ++ r) × CellFits x
unfolding cell_line
cell_takes bs x r is =
    let a = bind_some (after (codes "cell ") bs) (λ a. name_at 32 a >>= λ name. number_at 32 name.1 >>= λ kind. number_at 32 kind.1 >>= λ of. number_at 32 of.1 >>= λ first. number_at 32 first.1 >>= λ words. number_at 32 words.1 >>= λ formal. number_at 10 formal.1 >>= λ back. Some (record { name = name.0; kind = kind.0; of = of.0; first = first.0; words = words.0; formal = formal.0; back = back.0 }, back.1)) (x, r) is in
    cell_step0 bs x r a.0 a.1 a.2

pub cell_again : (x : Cell) (r : List ℕ) → CellFits x → cell_line (cell_text x ++ r) ≡ Some (x, r)
unfolding cell_line after
cell_again x r fits = ap cell_line (cell_grouped x r) ∙ rw (name_again 32 end32 x.name (number x.kind 32 ++ (number x.of 32 ++ (number x.first 32 ++ (number x.words 32 ++ (number x.formal 32 ++ (number x.back 10 ++ r)))))) fits.name, number_again 32 end32 x.kind (number x.of 32 ++ (number x.first 32 ++ (number x.words 32 ++ (number x.formal 32 ++ (number x.back 10 ++ r))))) fits.kind, number_again 32 end32 x.of (number x.first 32 ++ (number x.words 32 ++ (number x.formal 32 ++ (number x.back 10 ++ r)))) fits.of, number_again 32 end32 x.first (number x.words 32 ++ (number x.formal 32 ++ (number x.back 10 ++ r))) fits.first, number_again 32 end32 x.words (number x.formal 32 ++ (number x.back 10 ++ r)) fits.words, number_again 32 end32 x.formal (number x.back 10 ++ r) fits.formal, number_again 10 end10 x.back r fits.back) refl

entry_grouped : (x : Entry) (r : List ℕ) → entry_text x ++ r ≡ codes "entry " ++ (number x.line.0 32 ++ (number x.address 10 ++ r))
entry_grouped x r = simp append_assoc

entry_made : (bs a : List ℕ) (v0 : ℕ) (r0 : List ℕ) (v1 : ℕ) (r1 : List ℕ) → after (codes "entry ") bs ≡ Some a → number_at 32 a ≡ Some (v0, r0) → number_at 10 r0 ≡ Some (v1, r1) → (x : Entry) → x ≡ record { line = record { 0 = v0 }; address = v1 } → (bs ≡ entry_text x ++ r1) × EntryFits x
entry_made bs a v0 r0 v1 r1 ea e0 e1 x x_is =
    let made : Entry = record { line = record { 0 = v0 }; address = v1 } in
    let whole : bs ≡ entry_text made ++ r1 = after_takes (codes "entry ") bs a ea ∙ ap (λ (z : List ℕ). codes "entry " ++ z) ((number_takes 32 a v0 r0 e0).0 ∙ ap (λ (z : List ℕ). number v0 32 ++ z) ((number_takes 10 r0 v1 r1 e1).0)) ∙ sym (entry_grouped made r1) in
    subst (λ (y : Entry). (bs ≡ entry_text y ++ r1) × EntryFits y) (sym x_is) (whole, record { line = (number_takes 32 a v0 r0 e0).1; address = (number_takes 10 r0 v1 r1 e1).1 })

entry_step2 : (bs : List ℕ) (x : Entry) (r a : List ℕ) (v0 : ℕ) (r0 : List ℕ) (v1 : ℕ) (r1 : List ℕ) → after (codes "entry ") bs ≡ Some a → number_at 32 a ≡ Some (v0, r0) → number_at 10 r0 ≡ Some (v1, r1) → (Some (record { line = record { 0 = v0 }; address = v1 }, r1)) ≡ some {A = Entry × List ℕ} (x, r) → (bs ≡ entry_text x ++ r) × EntryFits x
entry_step2 bs x r a v0 r0 v1 r1 ea e0 e1 is =
    let same : Entry × List ℕ = (record { line = record { 0 = v0 }; address = v1 }, r1) in
    let e = some_is {A = Entry × List ℕ} (record { line = record { 0 = v0 }; address = v1 }, r1) (x, r) is in
    subst (λ (y : Entry × List ℕ). (bs ≡ entry_text y.0 ++ y.1) × EntryFits y.0) e (entry_made bs a v0 r0 v1 r1 ea e0 e1 (record { line = record { 0 = v0 }; address = v1 }) refl)

entry_step1 : (bs : List ℕ) (x : Entry) (r a : List ℕ) (v0 : ℕ) (r0 : List ℕ) → after (codes "entry ") bs ≡ Some a → number_at 32 a ≡ Some (v0, r0) → (number_at 10 r0 >>= λ address. Some (record { line = record { 0 = v0 }; address = address.0 }, address.1)) ≡ some {A = Entry × List ℕ} (x, r) → (bs ≡ entry_text x ++ r) × EntryFits x
entry_step1 bs x r a v0 r0 ea e0 is =
    let b = bind_some (number_at 10 r0) (λ address. Some (record { line = record { 0 = v0 }; address = address.0 }, address.1)) (x, r) is in
    entry_step2 bs x r a v0 r0 b.0.0 b.0.1 ea e0 b.1 b.2

entry_step0 : (bs : List ℕ) (x : Entry) (r a : List ℕ) → after (codes "entry ") bs ≡ Some a → (number_at 32 a >>= λ line. number_at 10 line.1 >>= λ address. Some (record { line = record { 0 = line.0 }; address = address.0 }, address.1)) ≡ some {A = Entry × List ℕ} (x, r) → (bs ≡ entry_text x ++ r) × EntryFits x
entry_step0 bs x r a ea is =
    let b = bind_some (number_at 32 a) (λ line. number_at 10 line.1 >>= λ address. Some (record { line = record { 0 = line.0 }; address = address.0 }, address.1)) (x, r) is in
    entry_step1 bs x r a b.0.0 b.0.1 ea b.1 b.2

pub entry_takes : (bs : List ℕ) (x : Entry) (r : List ℕ) → entry_line bs ≡ Some (x, r) → (bs ≡ entry_text x ++ r) × EntryFits x
unfolding entry_line
entry_takes bs x r is =
    let a = bind_some (after (codes "entry ") bs) (λ a. number_at 32 a >>= λ line. number_at 10 line.1 >>= λ address. Some (record { line = record { 0 = line.0 }; address = address.0 }, address.1)) (x, r) is in
    entry_step0 bs x r a.0 a.1 a.2

pub entry_again : (x : Entry) (r : List ℕ) → EntryFits x → entry_line (entry_text x ++ r) ≡ Some (x, r)
unfolding entry_line after
entry_again x r fits = ap entry_line (entry_grouped x r) ∙ rw (number_again 32 end32 x.line.0 (number x.address 10 ++ r) fits.line, number_again 10 end10 x.address r fits.address) refl

unit_head_grouped : (x : UnitHead) (r : List ℕ) → head_line_text x ++ r ≡ codes "unit " ++ (number x.heading 32 ++ (number x.extents 32 ++ (number x.cells 32 ++ (number x.entries 32 ++ (number x.code 10 ++ r)))))
unit_head_grouped x r = simp append_assoc

unit_head_made : (bs a : List ℕ) (v0 : ℕ) (r0 : List ℕ) (v1 : ℕ) (r1 : List ℕ) (v2 : ℕ) (r2 : List ℕ) (v3 : ℕ) (r3 : List ℕ) (v4 : ℕ) (r4 : List ℕ) → after (codes "unit ") bs ≡ Some a → number_at 32 a ≡ Some (v0, r0) → number_at 32 r0 ≡ Some (v1, r1) → number_at 32 r1 ≡ Some (v2, r2) → number_at 32 r2 ≡ Some (v3, r3) → number_at 10 r3 ≡ Some (v4, r4) → (x : UnitHead) → x ≡ record { heading = v0; extents = v1; cells = v2; entries = v3; code = v4 } → (bs ≡ head_line_text x ++ r4) × HeadFits x
unit_head_made bs a v0 r0 v1 r1 v2 r2 v3 r3 v4 r4 ea e0 e1 e2 e3 e4 x x_is =
    let made : UnitHead = record { heading = v0; extents = v1; cells = v2; entries = v3; code = v4 } in
    let whole : bs ≡ head_line_text made ++ r4 = after_takes (codes "unit ") bs a ea ∙ ap (λ (z : List ℕ). codes "unit " ++ z) ((number_takes 32 a v0 r0 e0).0 ∙ ap (λ (z : List ℕ). number v0 32 ++ z) ((number_takes 32 r0 v1 r1 e1).0 ∙ ap (λ (z : List ℕ). number v1 32 ++ z) ((number_takes 32 r1 v2 r2 e2).0 ∙ ap (λ (z : List ℕ). number v2 32 ++ z) ((number_takes 32 r2 v3 r3 e3).0 ∙ ap (λ (z : List ℕ). number v3 32 ++ z) ((number_takes 10 r3 v4 r4 e4).0))))) ∙ sym (unit_head_grouped made r4) in
    subst (λ (y : UnitHead). (bs ≡ head_line_text y ++ r4) × HeadFits y) (sym x_is) (whole, record { heading = (number_takes 32 a v0 r0 e0).1; extents = (number_takes 32 r0 v1 r1 e1).1; cells = (number_takes 32 r1 v2 r2 e2).1; entries = (number_takes 32 r2 v3 r3 e3).1; code = (number_takes 10 r3 v4 r4 e4).1 })

unit_head_step5 : (bs : List ℕ) (x : UnitHead) (r a : List ℕ) (v0 : ℕ) (r0 : List ℕ) (v1 : ℕ) (r1 : List ℕ) (v2 : ℕ) (r2 : List ℕ) (v3 : ℕ) (r3 : List ℕ) (v4 : ℕ) (r4 : List ℕ) → after (codes "unit ") bs ≡ Some a → number_at 32 a ≡ Some (v0, r0) → number_at 32 r0 ≡ Some (v1, r1) → number_at 32 r1 ≡ Some (v2, r2) → number_at 32 r2 ≡ Some (v3, r3) → number_at 10 r3 ≡ Some (v4, r4) → (Some (record { heading = v0; extents = v1; cells = v2; entries = v3; code = v4 }, r4)) ≡ some {A = UnitHead × List ℕ} (x, r) → (bs ≡ head_line_text x ++ r) × HeadFits x
unit_head_step5 bs x r a v0 r0 v1 r1 v2 r2 v3 r3 v4 r4 ea e0 e1 e2 e3 e4 is =
    let same : UnitHead × List ℕ = (record { heading = v0; extents = v1; cells = v2; entries = v3; code = v4 }, r4) in
    let e = some_is {A = UnitHead × List ℕ} (record { heading = v0; extents = v1; cells = v2; entries = v3; code = v4 }, r4) (x, r) is in
    subst (λ (y : UnitHead × List ℕ). (bs ≡ head_line_text y.0 ++ y.1) × HeadFits y.0) e (unit_head_made bs a v0 r0 v1 r1 v2 r2 v3 r3 v4 r4 ea e0 e1 e2 e3 e4 (record { heading = v0; extents = v1; cells = v2; entries = v3; code = v4 }) refl)

unit_head_step4 : (bs : List ℕ) (x : UnitHead) (r a : List ℕ) (v0 : ℕ) (r0 : List ℕ) (v1 : ℕ) (r1 : List ℕ) (v2 : ℕ) (r2 : List ℕ) (v3 : ℕ) (r3 : List ℕ) → after (codes "unit ") bs ≡ Some a → number_at 32 a ≡ Some (v0, r0) → number_at 32 r0 ≡ Some (v1, r1) → number_at 32 r1 ≡ Some (v2, r2) → number_at 32 r2 ≡ Some (v3, r3) → (number_at 10 r3 >>= λ code. Some (record { heading = v0; extents = v1; cells = v2; entries = v3; code = code.0 }, code.1)) ≡ some {A = UnitHead × List ℕ} (x, r) → (bs ≡ head_line_text x ++ r) × HeadFits x
unit_head_step4 bs x r a v0 r0 v1 r1 v2 r2 v3 r3 ea e0 e1 e2 e3 is =
    let b = bind_some (number_at 10 r3) (λ code. Some (record { heading = v0; extents = v1; cells = v2; entries = v3; code = code.0 }, code.1)) (x, r) is in
    unit_head_step5 bs x r a v0 r0 v1 r1 v2 r2 v3 r3 b.0.0 b.0.1 ea e0 e1 e2 e3 b.1 b.2

unit_head_step3 : (bs : List ℕ) (x : UnitHead) (r a : List ℕ) (v0 : ℕ) (r0 : List ℕ) (v1 : ℕ) (r1 : List ℕ) (v2 : ℕ) (r2 : List ℕ) → after (codes "unit ") bs ≡ Some a → number_at 32 a ≡ Some (v0, r0) → number_at 32 r0 ≡ Some (v1, r1) → number_at 32 r1 ≡ Some (v2, r2) → (number_at 32 r2 >>= λ entries. number_at 10 entries.1 >>= λ code. Some (record { heading = v0; extents = v1; cells = v2; entries = entries.0; code = code.0 }, code.1)) ≡ some {A = UnitHead × List ℕ} (x, r) → (bs ≡ head_line_text x ++ r) × HeadFits x
unit_head_step3 bs x r a v0 r0 v1 r1 v2 r2 ea e0 e1 e2 is =
    let b = bind_some (number_at 32 r2) (λ entries. number_at 10 entries.1 >>= λ code. Some (record { heading = v0; extents = v1; cells = v2; entries = entries.0; code = code.0 }, code.1)) (x, r) is in
    unit_head_step4 bs x r a v0 r0 v1 r1 v2 r2 b.0.0 b.0.1 ea e0 e1 e2 b.1 b.2

unit_head_step2 : (bs : List ℕ) (x : UnitHead) (r a : List ℕ) (v0 : ℕ) (r0 : List ℕ) (v1 : ℕ) (r1 : List ℕ) → after (codes "unit ") bs ≡ Some a → number_at 32 a ≡ Some (v0, r0) → number_at 32 r0 ≡ Some (v1, r1) → (number_at 32 r1 >>= λ cells. number_at 32 cells.1 >>= λ entries. number_at 10 entries.1 >>= λ code. Some (record { heading = v0; extents = v1; cells = cells.0; entries = entries.0; code = code.0 }, code.1)) ≡ some {A = UnitHead × List ℕ} (x, r) → (bs ≡ head_line_text x ++ r) × HeadFits x
unit_head_step2 bs x r a v0 r0 v1 r1 ea e0 e1 is =
    let b = bind_some (number_at 32 r1) (λ cells. number_at 32 cells.1 >>= λ entries. number_at 10 entries.1 >>= λ code. Some (record { heading = v0; extents = v1; cells = cells.0; entries = entries.0; code = code.0 }, code.1)) (x, r) is in
    unit_head_step3 bs x r a v0 r0 v1 r1 b.0.0 b.0.1 ea e0 e1 b.1 b.2

unit_head_step1 : (bs : List ℕ) (x : UnitHead) (r a : List ℕ) (v0 : ℕ) (r0 : List ℕ) → after (codes "unit ") bs ≡ Some a → number_at 32 a ≡ Some (v0, r0) → (number_at 32 r0 >>= λ extents. number_at 32 extents.1 >>= λ cells. number_at 32 cells.1 >>= λ entries. number_at 10 entries.1 >>= λ code. Some (record { heading = v0; extents = extents.0; cells = cells.0; entries = entries.0; code = code.0 }, code.1)) ≡ some {A = UnitHead × List ℕ} (x, r) → (bs ≡ head_line_text x ++ r) × HeadFits x
unit_head_step1 bs x r a v0 r0 ea e0 is =
    let b = bind_some (number_at 32 r0) (λ extents. number_at 32 extents.1 >>= λ cells. number_at 32 cells.1 >>= λ entries. number_at 10 entries.1 >>= λ code. Some (record { heading = v0; extents = extents.0; cells = cells.0; entries = entries.0; code = code.0 }, code.1)) (x, r) is in
    unit_head_step2 bs x r a v0 r0 b.0.0 b.0.1 ea e0 b.1 b.2

unit_head_step0 : (bs : List ℕ) (x : UnitHead) (r a : List ℕ) → after (codes "unit ") bs ≡ Some a → (number_at 32 a >>= λ heading. number_at 32 heading.1 >>= λ extents. number_at 32 extents.1 >>= λ cells. number_at 32 cells.1 >>= λ entries. number_at 10 entries.1 >>= λ code. Some (record { heading = heading.0; extents = extents.0; cells = cells.0; entries = entries.0; code = code.0 }, code.1)) ≡ some {A = UnitHead × List ℕ} (x, r) → (bs ≡ head_line_text x ++ r) × HeadFits x
unit_head_step0 bs x r a ea is =
    let b = bind_some (number_at 32 a) (λ heading. number_at 32 heading.1 >>= λ extents. number_at 32 extents.1 >>= λ cells. number_at 32 cells.1 >>= λ entries. number_at 10 entries.1 >>= λ code. Some (record { heading = heading.0; extents = extents.0; cells = cells.0; entries = entries.0; code = code.0 }, code.1)) (x, r) is in
    unit_head_step1 bs x r a b.0.0 b.0.1 ea b.1 b.2

pub unit_head_takes : (bs : List ℕ) (x : UnitHead) (r : List ℕ) → unit_head_line bs ≡ Some (x, r) → (bs ≡ head_line_text x ++ r) × HeadFits x
unfolding unit_head_line
unit_head_takes bs x r is =
    let a = bind_some (after (codes "unit ") bs) (λ a. number_at 32 a >>= λ heading. number_at 32 heading.1 >>= λ extents. number_at 32 extents.1 >>= λ cells. number_at 32 cells.1 >>= λ entries. number_at 10 entries.1 >>= λ code. Some (record { heading = heading.0; extents = extents.0; cells = cells.0; entries = entries.0; code = code.0 }, code.1)) (x, r) is in
    unit_head_step0 bs x r a.0 a.1 a.2

pub unit_head_again : (x : UnitHead) (r : List ℕ) → HeadFits x → unit_head_line (head_line_text x ++ r) ≡ Some (x, r)
unfolding unit_head_line after
unit_head_again x r fits = ap unit_head_line (unit_head_grouped x r) ∙ rw (number_again 32 end32 x.heading (number x.extents 32 ++ (number x.cells 32 ++ (number x.entries 32 ++ (number x.code 10 ++ r)))) fits.heading, number_again 32 end32 x.extents (number x.cells 32 ++ (number x.entries 32 ++ (number x.code 10 ++ r))) fits.extents, number_again 32 end32 x.cells (number x.entries 32 ++ (number x.code 10 ++ r)) fits.cells, number_again 32 end32 x.entries (number x.code 10 ++ r) fits.entries, number_again 10 end10 x.code r fits.code) refl
