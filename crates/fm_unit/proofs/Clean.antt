-- A source that breaks no rule: each of its units begins with a heading or a declaration, and is built.
use Rattle.std.proofs.Common.{◌≡◌, ℕ, ◌+◌, Bool, true, false, Option, Some, None, List, [], ◌∷◌, ◌++◌, map, refl, sym, ap, ◌∙◌, subst, arith}
use Rattle.std.specs.Prelude.{if◌then◌else◌, Contains}
use Rattle.std.specs.List.{flat_map}
use Rattle.std.proofs.lemmas.List.Elements.{Contains-append_left, Contains-append_right}
use Rattle.fm_base.specs.declared.rule.Refusal.{Refusal}
use Rattle.fm_base.specs.declared.rule.Rule.TheVariants.{E20, E21, E22, E23, E24, E25, E29}
use Rattle.fm_base.specs.Verdict.{IsClean, IsVerdict, LeastLaw, least, least_from, when}
use Rattle.fm_tree.specs.declared.program_unit.Placed.{Placed}
use Rattle.fm_tree.specs.declared.program_unit.Unit as tree
use Rattle.fm_tree.specs.declared.form.Form.{Form}
use Rattle.fm_tree.specs.declared.form.Form.TheVariants as form
use Rattle.fm_tree.specs.declared.entry_mark.EntryMark.{EntryMark}
use Rattle.fm_tree.specs.Labels.{first_executable}
use Rattle.fm_tree.specs.Structure.{form_of, is_end, is_executable}
use Rattle.fm_tree.specs.Blocks.{innermost}
use Rattle.fm_tree.specs.Layout.{laid_out}
use Rattle.fm_tree.specs.Units.{cut_of, put_first, unit_of}
use Rattle.fm_rules.specs.BrokenUnit.{broken_from, broken_in_unit, place_at}
use Rattle.fm_rules.specs.StructureForms.{misplaced, opener_of}
use Rattle.fm_rules.specs.StructureLookups.{is_before}
use Rattle.fm_rules.specs.StructureRules.{is_badly_ended, is_foreign, is_misplaced, is_unmatched, jumps_into_block, lacks_target, repeats_label}
use Rattle.fm_unit_structure.proofs.Walks.{kept_more}
use Rattle.fm_rules.specs.BrokenStructure.{broken_in_units}
use Rattle.fm_unit.specs.Entries.{built}
use Rattle.fm_unit.proofs.Laying.{IsBegun, laid_begun}

-- an executable statement may not be the first of its unit
first_misplaced : (f : Form) (late : Bool) (heading opener : Form) → is_executable f ≡ true → misplaced f true late heading opener ≡ true
unfolding misplaced
first_misplaced (form.Heading unit) late heading opener e = absurd (cc)
first_misplaced form.Processors late heading opener e = absurd (cc)
first_misplaced form.Declaration late heading opener e = absurd (cc)
first_misplaced form.BlockIf late heading opener e = refl
first_misplaced (form.ElseIf fits) late heading opener e = refl
first_misplaced (form.Else fits) late heading opener e = refl
first_misplaced form.EndIf late heading opener e = refl
first_misplaced (form.Do label) late heading opener e = refl
first_misplaced form.DoWhile late heading opener e = refl
first_misplaced form.EndDo late heading opener e = refl
first_misplaced form.Processes late heading opener e = refl
first_misplaced form.EndProcesses late heading opener e = refl
first_misplaced form.Wrap late heading opener e = refl
first_misplaced form.EndWrap late heading opener e = refl
first_misplaced (form.ProcessDo label) late heading opener e = refl
first_misplaced form.EndProcessDo late heading opener e = refl
first_misplaced form.ProcessCall late heading opener e = refl
first_misplaced form.Test late heading opener e = refl
first_misplaced (form.Goto label) late heading opener e = refl
first_misplaced (form.Receive label) late heading opener e = refl
first_misplaced form.Continue late heading opener e = refl
first_misplaced form.Return late heading opener e = refl
first_misplaced form.Stop late heading opener e = refl
first_misplaced form.End late heading opener e = refl
first_misplaced form.Plain late heading opener e = refl
first_misplaced (form.LoopEnd t) late heading opener e = refl

first_kept : (b : Bool) (q : Refusal) (q2 q3 q4 q5 q6 q7 q8 : List Refusal) → b ≡ true → Contains ((when b q ++ q2 ++ q3 ++ q4 ++ q5 ++ q6 ++ q7) ++ q8) q
first_kept true q q2 q3 q4 q5 q6 q7 q8 e = (0, omega arith, refl)
first_kept false q q2 q3 q4 q5 q6 q7 q8 e = absurd (cc)

begun_broken : (marks : List EntryMark) → IsBegun marks → Contains (broken_in_unit marks) (place_at marks 0 E20)
begun_broken [] h = absurd h
begun_broken (e ∷ es) h =
    let ms : List EntryMark = e ∷ es in
    let b : is_misplaced ms 0 ≡ true = first_misplaced e.form (is_before (first_executable ms) 0) e.form (opener_of (innermost ms 0)) h in
    first_kept (is_misplaced ms 0) (place_at ms 0 E20) (when (is_unmatched ms 0) (place_at ms 0 E21)) (when (repeats_label ms 0) (place_at ms 0 E22)) (when (lacks_target ms 0) (place_at ms 0 E23))
    (when (jumps_into_block ms 0) (place_at ms 0 E24)) (when (is_badly_ended ms 0) (place_at ms 0 E25)) (when (is_foreign ms 0) (place_at ms 0 E29)) (broken_from ms (0 + 1) es) b

-- no unit is empty
abbrev pub AreWhole : List (List Placed) → Type 0
AreWhole [] = Unit {0}
AreWhole ([] ∷ us) = ⊥
AreWhole ((p ∷ ps) ∷ us) = AreWhole us

put_whole : (p : Placed) (us : List (List Placed)) → AreWhole us → AreWhole (put_first p us)
put_whole p [] h = tt
put_whole p ([] ∷ us) h = absurd h
put_whole p ((q ∷ u) ∷ us) h = h

pub cut_whole : (ps : List Placed) → AreWhole (cut_of ps)
cut_whole [] = tt
cut_whole (p ∷ ps) =
    let rest = cut_whole ps in
    elim (is_end (form_of p.stmt)) as (λ (b : Bool). AreWhole (if b then (p ∷ []) ∷ cut_of ps else put_first p (cut_of ps))) [ true ↦ rest | false ↦ put_whole p (cut_of ps) rest ]

one_built : (test : List ℕ → Bool) (p : Placed) (ps : List Placed) → ((q : Refusal) → Contains (broken_in_unit (laid_out (p ∷ ps))) q → ⊥) → built test (p ∷ ps) ≡ unit_of test (p ∷ ps) ∷ []
one_built test p ps clean =
    elim (is_executable (form_of p.stmt)) as (λ (b : Bool). is_executable (form_of p.stmt) ≡ b → (if b then [] else unit_of test (p ∷ ps) ∷ []) ≡ unit_of test (p ∷ ps) ∷ []) [
      | true ↦ λ e. absurd (clean (place_at (laid_out (p ∷ ps)) 0 E20) (begun_broken (laid_out (p ∷ ps)) (laid_begun p ps e)))
      | false ↦ λ e. refl
    ] refl

-- where no unit breaks a rule, all are built
pub all_built : (test : List ℕ → Bool) (us : List (List Placed)) → AreWhole us → ((q : Refusal) → Contains (broken_in_units us) q → ⊥) → flat_map (built test) us ≡ map (unit_of test) us
all_built test [] h clean = refl
all_built test ([] ∷ us) h clean = absurd h
all_built test ((p ∷ ps) ∷ us) h clean =
    let one = one_built test p ps (λ q m. clean q (Contains-append_left (broken_in_unit (laid_out (p ∷ ps))) (broken_in_units us) q m)) in
    let rest = all_built test us h (λ q m. clean q (Contains-append_right (broken_in_unit (laid_out (p ∷ ps))) (broken_in_units us) q m)) in
    ap (λ (xs : List tree.Unit). xs ++ flat_map (built test) us) one ∙ ap (λ (xs : List tree.Unit). unit_of test (p ∷ ps) ∷ xs) rest

-- a part of what isn't broken isn't broken
pub clean_last : (xs ys : List Refusal) → IsClean (Contains (xs ++ ys)) → (q : Refusal) → Contains ys q → ⊥
clean_last xs ys clean q m = clean q (Contains-append_right xs ys q m)

-- four lists of places, one after the other
pub least_four : (b0 b1 b2 b3 : Option Refusal) (p q r s : List Refusal) → b0 ≡ least p → b1 ≡ least_from b0 q → b2 ≡ least_from b1 r → b3 ≡ least_from b2 s → b3 ≡ least (p ++ q ++ r ++ s)
least_four b0 b1 b2 b3 p q r s e f g h = kept_more None b2 b3 (p ++ q ++ r) s (kept_more None b1 b2 (p ++ q) r (kept_more None b0 b1 p q e f) g) h

pub none_broken : LeastLaw → (qs : List Refusal) (best : Option Refusal) → best ≡ least qs → best ≡ None → IsClean (Contains qs)
none_broken law qs best e is = subst (IsVerdict (Contains qs)) (sym e ∙ is) (law qs)

pub not_some : (best : Option Refusal) → ((q : Refusal) → best ≡ Some q → ⊥) → best ≡ None
not_some None h = refl
not_some (Some q) h = absurd (h q refl)
