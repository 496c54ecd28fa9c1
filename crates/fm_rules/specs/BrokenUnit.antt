-- All broken places of the rules of structure in one unit.
-- Source: this profile.
use Rattle.std.specs.Prelude.{ℕ, ◌+◌, List, [], ◌∷◌, ◌++◌}
use Rattle.fm_base.specs.declared.rule.Refusal.{Refusal}
use Rattle.fm_base.specs.declared.rule.Rule.{Rule}
use Rattle.fm_base.specs.declared.rule.Rule.TheVariants.{E20, E21, E22, E23, E24, E25, E29}
use Rattle.fm_base.specs.Verdict.{place, when}
use Rattle.fm_tree.specs.declared.entry_mark.EntryMark.{EntryMark}
use Rattle.fm_rules.specs.StructureLookups.{line_at}
use Rattle.fm_rules.specs.StructureRules.{is_badly_ended, is_foreign, is_misplaced, is_unmatched, jumps_into_block, lacks_target, repeats_label}

-- a rule at the line of the entry at k
abbrev pub place_at : List EntryMark → ℕ → Rule → Refusal
place_at entries k rule = place (line_at entries k).0 rule

-- what the entry at k breaks
abbrev pub broken_at : List EntryMark → ℕ → List Refusal
broken_at entries k =
    when (is_misplaced entries k) (place_at entries k E20)
    ++ when (is_unmatched entries k) (place_at entries k E21)
    ++ when (repeats_label entries k) (place_at entries k E22)
    ++ when (lacks_target entries k) (place_at entries k E23)
    ++ when (jumps_into_block entries k) (place_at entries k E24)
    ++ when (is_badly_ended entries k) (place_at entries k E25)
    ++ when (is_foreign entries k) (place_at entries k E29)

-- what the rest of the entries, the first of which stands at k, breaks
abbrev pub broken_from : List EntryMark → ℕ → List EntryMark → List Refusal
broken_from entries k [] = []
broken_from entries k (e ∷ es) = broken_at entries k ++ broken_from entries (k + 1) es

-- the entries of a unit: the broken places of all rules of structure that one unit can break by itself
abbrev pub broken_in_unit : List EntryMark → List Refusal
broken_in_unit entries = broken_from entries 0 entries
