-- Going through the statements of a unit, and through the units.
use Rattle.std.proofs.Common.{◌≡◌, ℕ, suc, ◌+◌, ◌<◌, List, [], ◌∷◌, length, drop, get_or, sym, ap, ◌∙◌, add-one}
use Rattle.std.specs.Prelude.{Option}
use Rattle.std.specs.List.{flat_map}
use Rattle.std.proofs.lemmas.List.{drop_more}
use Rattle.fm_base.specs.declared.rule.Refusal.{Refusal}
use Rattle.fm_base.specs.Verdict.{least_from}
use Rattle.fm_base.proofs.Least.{least_from_append}
use Rattle.fm_tree.specs.declared.program_unit.Unit.{Unit}
use Rattle.fm_symbols.specs.declared.names.UnitNames.{UnitNames}
use Rattle.fm_symbols.specs.declared.context.Context.{Context}
use Rattle.fm_rules.specs.declared.flags.Flags.{Flags}
use Rattle.fm_rules.specs.Flags.{both, no_flags}
use Rattle.fm_rules.specs.TypeStatements.{in_any}
use Rattle.fm_rules.specs.BrokenTypes.{broken_at, broken_from}
use Rattle.fm_rules.proofs.FlagLaws.{both_assoc, both_none}

-- one statement more
pub least_more : {X : Type 0} (g : X → List Refusal) (xs : List X) (i : ℕ) (x : X) (best next old : Option Refusal) → i < length xs → x ≡ get_or xs i x → next ≡ least_from best (g x)
    → least_from best (flat_map g (drop i xs)) ≡ old → least_from next (flat_map g (drop (i + 1) xs)) ≡ old
least_more g xs i x best next old l is new h =
    let e : drop i xs ≡ x ∷ drop (i + 1) xs = drop_more xs i x l ∙ ap (λ y. y ∷ drop (i + 1) xs) (sym is) in
    ap (λ b. least_from b (flat_map g (drop (i + 1) xs))) new
    ∙ sym (least_from_append best (g x) (flat_map g (drop (i + 1) xs)))
    ∙ ap (λ y. least_from best (flat_map g y)) (sym e) ∙ h

-- one unit more
pub units_more : (ns : List UnitNames) (c : Context) (us : List Unit) (i : ℕ) (u : Unit) (best next old : Option Refusal) → i < length us → u ≡ get_or us i u → next ≡ least_from best (broken_at ns c i u)
    → least_from best (broken_from ns c i (drop i us)) ≡ old → least_from next (broken_from ns c (i + 1) (drop (i + 1) us)) ≡ old
units_more ns c us i u best next old l is new h =
    let e : drop i us ≡ u ∷ drop (i + 1) us = drop_more us i u l ∙ ap (λ y. y ∷ drop (i + 1) us) (sym is) in
    ap (λ b. least_from b (broken_from ns c (i + 1) (drop (i + 1) us))) new
    ∙ ap (λ n. least_from (least_from best (broken_at ns c i u)) (broken_from ns c n (drop (i + 1) us))) (add-one i)
    ∙ sym (least_from_append best (broken_at ns c i u) (broken_from ns c (suc i) (drop (i + 1) us)))
    ∙ ap (λ y. least_from best (broken_from ns c i y)) (sym e) ∙ h

-- Flags of parts, one after the other.

-- what is broken before or in one of a list
abbrev pub any_from : {X : Type 0} → (X → Flags) → Flags → List X → Flags
any_from g before [] = before
any_from g before (x ∷ xs) = any_from g (both before (g x)) xs

any_from_both : {X : Type 0} (g : X → Flags) (before : Flags) (xs : List X) → any_from g before xs ≡ both before (in_any g xs)
any_from_both g before [] = both_none before
any_from_both g before (x ∷ xs) = any_from_both g (both before (g x)) xs ∙ both_assoc before (g x) (in_any g xs)

-- from flags none of which is set
pub any_from_none : {X : Type 0} (g : X → Flags) (before : Flags) (xs : List X) → before ≡ no_flags → any_from g before xs ≡ in_any g xs
any_from_none g before xs e = ap (λ f. any_from g f xs) e ∙ any_from_both g no_flags xs

-- one part of a statement more
pub flags_more : {X : Type 0} (g : X → Flags) (xs : List X) (i : ℕ) (x : X) (f next old : Flags) → i < length xs → x ≡ get_or xs i x → next ≡ both f (g x) → any_from g f (drop i xs) ≡ old → any_from g next (drop (i + 1) xs) ≡ old
flags_more g xs i x f next old l is new h =
    let e : drop i xs ≡ x ∷ drop (i + 1) xs = drop_more xs i x l ∙ ap (λ y. y ∷ drop (i + 1) xs) (sym is) in
    ap (λ b. any_from g b (drop (i + 1) xs)) new ∙ ap (any_from g f) (sym e) ∙ h
