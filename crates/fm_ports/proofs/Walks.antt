-- Going through the entries of a unit, and through the units.
use Rattle.std.proofs.Common.{◌≡◌, ℕ, suc, ◌+◌, ◌<◌, List, ◌∷◌, length, drop, get_or, ap, sym, ◌∙◌, arith}
use Rattle.std.proofs.Math.Seq.{drop-cons}
use Rattle.std.specs.Prelude.{Option}
use Rattle.std.specs.List.{slice_get}
use Rattle.fm_base.specs.declared.rule.Refusal.{Refusal}
use Rattle.fm_base.specs.Verdict.{least_from}
use Rattle.fm_base.proofs.Least.{least_from_append}
use Rattle.fm_tree.specs.declared.program_unit.Entry.{Entry}
use Rattle.fm_tree.specs.declared.program_unit.Unit as program
use Rattle.fm_symbols.specs.declared.context.Context.{Context}
use Rattle.fm_symbols.specs.declared.context.Scope.{Scope}
use Rattle.fm_symbols.specs.declared.names.UnitNames.{UnitNames}
use Rattle.fm_rules.specs.BrokenPorts.{broken_at, broken_body, broken_from, broken_unit}

-- one more entry
pub entry_next :
    (ns : List UnitNames) (n : UnitNames) (c : Context) (s : Scope) (es : List Entry) (k : ℕ) (e : Entry) (best next all : Option Refusal) → k < length es → e ≡ get_or es k e
    → next ≡ least_from best (broken_at ns n c s e.line.0 e.stmt) → least_from best (broken_body ns n c s (drop k es)) ≡ all
    → least_from next (broken_body ns n c s (drop (k + 1) es)) ≡ all
entry_next ns n c s es k e best next all i d r h =
    let whole : drop k es ≡ e ∷ drop (suc k) es = drop-cons es k e i ∙ ap (λ y. y ∷ drop (suc k) es) (sym d) in
    let one : k + 1 ≡ suc k = omega arith in
    ap (λ m. least_from next (broken_body ns n c s (drop m es))) one
    ∙ ap (λ b. least_from b (broken_body ns n c s (drop (suc k) es))) r
    ∙ sym (least_from_append best (broken_at ns n c s e.line.0 e.stmt) (broken_body ns n c s (drop (suc k) es)))
    ∙ ap (λ l. least_from best (broken_body ns n c s l)) (sym whole)
    ∙ h

-- one more unit
pub unit_next :
    (ns : List UnitNames) (c : Context) (us : List program.Unit) (k : ℕ) (u : program.Unit) (best next all : Option Refusal) → k < length us → u ≡ get_or us k u
    → next ≡ least_from best (broken_unit ns c u (slice_get ns k) (slice_get c.scopes k)) → least_from best (broken_from ns c k (drop k us)) ≡ all
    → least_from next (broken_from ns c (k + 1) (drop (k + 1) us)) ≡ all
unit_next ns c us k u best next all i d r h =
    let whole : drop k us ≡ u ∷ drop (suc k) us = drop-cons us k u i ∙ ap (λ y. y ∷ drop (suc k) us) (sym d) in
    let one : k + 1 ≡ suc k = omega arith in
    ap (λ m. least_from next (broken_from ns c (k + 1) (drop m us))) one
    ∙ ap (λ b. least_from b (broken_from ns c (k + 1) (drop (suc k) us))) r
    ∙ sym (least_from_append best (broken_unit ns c u (slice_get ns k) (slice_get c.scopes k)) (broken_from ns c (k + 1) (drop (suc k) us)))
    ∙ ap (λ l. least_from best (broken_from ns c k l)) (sym whole)
    ∙ h
