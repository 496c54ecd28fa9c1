use Rattle.std.proofs.Common.{◌≡◌, ℕ, ◌+◌, ◌-◌, ◌<◌, Bool, cond, Option, Some, None, List, length, drop, get_or, ap, ◌∙◌, sym, arith}
use Rattle.std.specs.BTreeMap.{get}
use Rattle.std.specs.Ordering.{nat_cmp}
use Rattle.fm_base.specs.declared.name.Label.{Label}
use Rattle.fm_tree.specs.declared.entry_mark.EntryMark.{EntryMark}
use Rattle.fm_tree.specs.Labels.{first_where}
use Rattle.fm_tree.specs.Layout.{is_this_label}
use Rattle.fm_tree.specs.Units.{blank_mark}
use Rattle.fm_rules.specs.StructureLookups.{wanted_label}
use Rattle.fm_unit_structure.proofs.Firsts.{first_more, is_at_label}
use Rattle.fm_unit_structure.proofs.lookups.first_places.Goals as goal

abbrev has : Bool → ℕ → EntryMark → Bool
has only q e = is_this_label (record { 0 = q }) (wanted_label only e)

-- one entry further back, which has this label
more : (only : Bool) (es : List EntryMark) (k n q : ℕ) (l : Option Label) (d : EntryMark) → k + 1 ≡ n → k < length es → l ≡ wanted_label only (get_or es k d)
    → first_where (has only q) (drop k es) k ≡ cond (is_this_label (record { 0 = q }) l) (Some k) (first_where (has only q) (drop n es) n)
more only es k n q l d e i w =
    first_more (has only q) es k d i
    ∙ ap (λ m. cond (has only q (get_or es k d)) (Some k) (first_where (has only q) (drop m es) m)) e
    ∙ ap (λ o. cond (is_this_label (record { 0 = q }) o) (Some k) (first_where (has only q) (drop n es) n)) (sym w)

pub marks-preserved-in_ok-insert : goal.marks-preserved-in_ok-insert
marks-preserved-in_ok-insert c = λ q.
    let k = c.marks.k - 1 in
    let only = c.args.only_executable in
    let es = c.args.entries.now in
    let up : k + 1 ≡ c.marks.k = omega arith in
    let in' : k < length es = omega arith in
    let m = more only es k c.marks.k q (Some c.in-Some.label) blank_mark up in' (c.in-Some.ensures ∙ ap (wanted_label only) c.mark_at.ensures) in
    c.in_ok-insert.ensures.updates.0 q
    ∙ ap (λ t. cond t (Some k) (get nat_cmp c.marks.places q)) (is_at_label c.in-Some.label q)
    ∙ ap (λ o. cond (is_this_label (record { 0 = q }) (Some c.in-Some.label)) (Some k) o) (c.marks.invariant q) ∙ sym m

pub marks-preserved : goal.marks-preserved
marks-preserved c = λ q.
    let k = c.marks.k - 1 in
    let only = c.args.only_executable in
    let es = c.args.entries.now in
    let up : k + 1 ≡ c.marks.k = omega arith in
    let in' : k < length es = omega arith in
    c.marks.invariant q ∙ sym (more only es k c.marks.k q None blank_mark up in' (c.in_default.ensures ∙ ap (wanted_label only) c.mark_at.ensures))
