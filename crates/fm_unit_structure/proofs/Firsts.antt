-- The first place that passes a test.
use Rattle.std.proofs.Common.{◌≡◌, ℕ, ◌+◌, ◌<◌, ◌≤◌, ⊎_elim, Bool, true, false, ◌&&◌, cond, Option, Some, None, List, [], ◌∷◌, length, drop, get_or, nat_eq, suc, refl, sym, ◌∙◌, ap, arith}
use Rattle.std.specs.Prelude.{if◌then◌else◌}
use Rattle.std.specs.BTreeMap.{is_at}
use Rattle.std.specs.Ordering.{nat_cmp, is_eq}
use Rattle.std.specs.Cmp.{nat_cmp_is}
use Rattle.std.specs.declared.cmp.Ordering.{Ordering}
use Rattle.std.specs.declared.cmp.Ordering.TheVariants.{Less, Equal, Greater}
use Rattle.std.proofs.lemmas.Bool.{cases_eq, cases_lt, eq-eqb, ne_eqb}
use Rattle.std.proofs.lemmas.List.{drop_more}
use Rattle.fm_base.specs.declared.name.Label.{Label}
use Rattle.fm_tree.specs.declared.entry_mark.EntryMark.{EntryMark}
use Rattle.fm_tree.specs.Structure.{is_executable}
use Rattle.fm_tree.specs.Layout.{is_this_label}
use Rattle.fm_tree.specs.Labels.{first_labelled, first_where, target}
use Rattle.fm_rules.specs.StructureLookups.{wanted_label}

within_cond : (b : Bool) (at n t : ℕ) (rest : Option ℕ) → at < n → (rest ≡ Some t → t < n) → cond b (Some at) rest ≡ Some t → t < n
within_cond true at n t rest l h e = let q : at ≡ t = cc in omega arith
within_cond false at n t rest l h e = h e

pub first_within : (test : EntryMark → Bool) (es : List EntryMark) (at t : ℕ) → first_where test es at ≡ Some t → t < at + length es
first_within test [] at t e = absurd (cc)
first_within test (x ∷ es) at t e =
    within_cond (test x) at (at + suc (length es)) t (first_where test es (at + 1)) (omega arith)
    (λ f. let g : t < at + 1 + length es = first_within test es (at + 1) t f in omega arith) e

-- one entry further back
pub first_more : (test : EntryMark → Bool) (es : List EntryMark) (k : ℕ) (d : EntryMark) → k < length es
    → first_where test (drop k es) k ≡ cond (test (get_or es k d)) (Some k) (first_where test (drop (k + 1) es) (k + 1))
first_more test es k d l = ap (λ xs. first_where test xs k) (drop_more es k d l)

is_at_from : (a b : ℕ) (r : Ordering) → r ≡ nat_cmp a b → is_at (nat_cmp a) b ≡ is_eq r
is_at_from a b r e = ap is_eq (sym e)

-- a key of a map with numbers as keys
pub is_at_same : (a b : ℕ) → is_at (nat_cmp a) b ≡ nat_eq a b
is_at_same a b =
    ⊎_elim (λ (e : a ≡ b). is_at_from a b Equal (nat_cmp_is a b Equal e) ∙ sym (eq-eqb a b e))
    (λ (ne : a ≡ b → ⊥). ⊎_elim (λ (l : a < b). is_at_from a b Less (nat_cmp_is a b Less l) ∙ sym (ne_eqb a b ne))
    (λ (g : b ≤ a). is_at_from a b Greater (nat_cmp_is a b Greater (omega arith)) ∙ sym (ne_eqb a b ne)) (cases_lt a b))
    (cases_eq a b)

nat_eq_swap : (a b : ℕ) → nat_eq a b ≡ nat_eq b a
nat_eq_swap a b = ⊎_elim (λ (e : a ≡ b). eq-eqb a b e ∙ sym (eq-eqb b a (sym e))) (λ (ne : a ≡ b → ⊥). ne_eqb a b ne ∙ sym (ne_eqb b a (λ e. ne (sym e)))) (cases_eq a b)

-- what a map has where a label is put, and what the first place is
pub is_at_label : (label : Label) (q : ℕ) → is_at (nat_cmp label.0) q ≡ is_this_label (record { 0 = q }) (Some label)
is_at_label label q = is_at_same label.0 q ∙ nat_eq_swap label.0 q

-- Only executable statements, or all.

wanted_here : (b : Bool) (label : Label) (o : Option Label) → is_this_label label (if b then o else None) ≡ (b && is_this_label label o)
wanted_here true label o = refl
wanted_here false label o = refl

abbrev pub first_wanted : Bool → List EntryMark → ℕ → Option ℕ
first_wanted only es q = first_where (λ e. is_this_label (record { 0 = q }) (wanted_label only e)) es 0

pub wanted_target : (es : List EntryMark) (q : ℕ) → first_wanted true es q ≡ target es (record { 0 = q })
wanted_target es q = λ i. first_where (λ e. wanted_here (is_executable e.form) (record { 0 = q }) e.label i) es 0

pub wanted_labelled : (es : List EntryMark) (q : ℕ) → first_wanted false es q ≡ first_labelled es (record { 0 = q })
wanted_labelled es q = refl
