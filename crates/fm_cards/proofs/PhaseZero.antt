-- What is broken is of phase 0, and two verdicts are one.
use Rattle.std.proofs.Common.{◌≡◌, ℕ, ◌+◌, Bool, true, false, List, [], ◌∷◌, ◌++◌, refl, sym, ◌∙◌, ap, arith, inl, inr, not, take}
use Rattle.std.specs.Prelude.{Contains, nat_le}
use Rattle.std.specs.List.{flat_map, list_any, list_all}
use Rattle.fm_base.specs.declared.rule.Refusal.{Refusal}
use Rattle.fm_base.specs.declared.rule.Rule.TheVariants.{E01, E02, E03, E04, E05}
use Rattle.fm_base.specs.Rules.{phase_of}
use Rattle.fm_base.specs.Positions.{is_inside}
use Rattle.fm_base.specs.Verdict.{place, when}
use Rattle.fm_base.proofs.Least.{in_head_or_behind}
use Rattle.fm_base.proofs.OneVerdict.{verdict_one}
use Rattle.fm_cards.specs.Lines.{Row, is_blank}
use Rattle.fm_cards.specs.Cards.{Group, parts_of, text_of, is_bad_field}
use Rattle.fm_cards.specs.Broken.{is_bad_character, in_initial, in_continuation, in_continuations, in_front, in_group, places_of, IsBroken, AllOfPhaseZero, OneVerdict}

-- Lists of places whose rules are all of phase 0.

abbrev all_zero : List Refusal → Type 0
all_zero [] = Unit {0}
all_zero (q ∷ qs) = (phase_of q.rule ≡ 0) × all_zero qs

record AllZero (qs : List Refusal) : Type 0 where
  each : all_zero qs

all_zero-append : (ps qs : List Refusal) → all_zero ps → all_zero qs → all_zero (ps ++ qs)
all_zero-append [] qs p q = q
all_zero-append (x ∷ ps) qs p q = (p.0, all_zero-append ps qs p.1 q)

AllZero-append : {ps qs : List Refusal} → AllZero ps → AllZero qs → AllZero (ps ++ qs)
AllZero-append {ps = ps} {qs = qs} p q = record { each = all_zero-append ps qs p.each q.each }

AllZero-when : (test : Bool) (q : Refusal) → phase_of q.rule ≡ 0 → AllZero (when test q)
AllZero-when true q e = record { each = (e, tt) }
AllZero-when false q e = record { each = tt }

AllZero-flat_map : {A : Type 0} (f : A → List Refusal) (xs : List A) → ((x : A) → AllZero (f x)) → AllZero (flat_map f xs)
AllZero-flat_map f [] h = record { each = tt }
AllZero-flat_map f (x ∷ xs) h = AllZero-append {ps = f x} {qs = flat_map f xs} (h x) (AllZero-flat_map f xs h)

AllZero-initial : (row : Row) → AllZero (in_initial row)
AllZero-initial row =
    AllZero-append (AllZero-when (list_any is_bad_character row.columns) (place row.line E01) refl)
    (AllZero-when (is_bad_field (take 5 row.columns)) (place row.line E02) refl)

AllZero-continuation : (before : ℕ) (row : Row) → AllZero (in_continuation before row)
AllZero-continuation before row =
    AllZero-append
    (AllZero-append (AllZero-when (list_any is_bad_character row.columns) (place row.line E01) refl) (AllZero-when (not (list_all is_blank (take 5 row.columns))) (place row.line E03) refl))
    (AllZero-when (nat_le 19 before) (place row.line E04) refl)

AllZero-continuations : (before : ℕ) (rows : List Row) → AllZero (in_continuations before rows)
AllZero-continuations before [] = record { each = tt }
AllZero-continuations before (row ∷ more) =
    AllZero-append {ps = in_continuation before row} {qs = in_continuations (before + 1) more} (AllZero-continuation before row) (AllZero-continuations (before + 1) more)

AllZero-group : (group : Group) → AllZero (in_group group)
AllZero-group group =
    AllZero-append (AllZero-append {ps = in_initial group.first} {qs = in_continuations 0 group.more} (AllZero-initial group.first) (AllZero-continuations 0 group.more))
    (AllZero-when (is_inside (text_of group)) (place group.first.line E05) refl)

AllZero-front : (row : Row) → AllZero (in_front row)
AllZero-front row =
    AllZero-append {ps = when (list_any is_bad_character row.columns) (place row.line E01)} {qs = place row.line E03 ∷ []}
    (AllZero-when (list_any is_bad_character row.columns) (place row.line E01) refl) (record { each = (refl, tt) })

AllZero-places : (source : List ℕ) → AllZero (places_of source)
AllZero-places source =
    AllZero-append {ps = flat_map in_front (parts_of source).front} {qs = flat_map in_group (parts_of source).groups}
    (AllZero-flat_map in_front (parts_of source).front AllZero-front) (AllZero-flat_map in_group (parts_of source).groups AllZero-group)

of_phase_zero : (qs : List Refusal) → all_zero qs → (q : Refusal) → Contains qs q → phase_of q.rule ≡ 0
of_phase_zero [] h q c = absurd (omega (arith, c.1))
of_phase_zero (p ∷ ps) h q c =
    elim (in_head_or_behind p q ps c) [ inl e ↦ ap (λ (r : Refusal). phase_of r.rule) (sym e) ∙ h.0 | inr d ↦ of_phase_zero ps h.1 q d ]

pub all_of_phase_zero : AllOfPhaseZero
all_of_phase_zero source = of_phase_zero (places_of source) (AllZero-places source).each

pub one_verdict : OneVerdict
one_verdict source = verdict_one (IsBroken source)
