-- When a rule of structure is broken at the entry at k.
-- Source: ANSI X3.9-1978, sections 3.4 and 3.5 (labels, order of statements), 11.1 (GO TO), 11.6 to 11.10 (block IF, DO) and
-- 15.7.2 (RETURN); the Fortran M report for process blocks; this profile for units that break a rule.
use Rattle.std.specs.Prelude.{ℕ, nat_eq, nat_lt, nat_le, not, ◌&&◌, ◌||◌, Bool, true, Option, Some, None, List, is_none}
use Rattle.fm_tree.specs.declared.entry_mark.EntryMark.{EntryMark}
use Rattle.fm_tree.specs.declared.entry_mark.Open.{Open}
use Rattle.fm_tree.specs.Structure.{is_separator, makes_processes}
use Rattle.fm_tree.specs.Blocks.{branch_end, innermost, mate_of}
use Rattle.fm_tree.specs.Layout.{is_closed_by}
use Rattle.fm_tree.specs.Labels.{first_executable, first_labelled, jump_label, target}
use Rattle.fm_tree.specs.Units.{form_at}
use Rattle.fm_rules.specs.StructureForms.{badly_ended, belongs, misplaced, opener_of, unmatched}
use Rattle.fm_rules.specs.StructureLookups.{block_round, form_or_end, has_end, is_before, label_at, some_passes, target_of}

-- E20: the unit's first statement is no heading; a later one is; a declaration behind an executable statement; RETURN in a
-- PROGRAM; PROCESSORS in another unit than PROGRAM and PROCESS; PROCESSCALL outside a process block
abbrev pub is_misplaced : List EntryMark → ℕ → Bool
is_misplaced entries k =
    misplaced (form_at entries k) (nat_eq k 0) (is_before (first_executable entries) k) (form_at entries 0) (opener_of (innermost entries k))

-- E21: ELSEIF, ELSE or an end where the innermost open block isn't of its kind, or has its ELSE; a block without label that is
-- still open at END, at its opener
abbrev pub is_unmatched : List EntryMark → ℕ → Bool
is_unmatched entries k = unmatched (form_at entries k) (opener_of (innermost entries k)) (has_end entries && is_none (mate_of entries k))

-- E22: an earlier statement has this label
abbrev pub repeats_label : List EntryMark → ℕ → Bool
repeats_label entries k = some_passes (λ label. is_before (first_labelled entries label) k) (label_at entries k)

-- E23: no executable statement has the label that GOTO or END= names
abbrev pub lacks_target : List EntryMark → ℕ → Bool
lacks_target entries k = some_passes (λ label. is_none (target entries label)) (jump_label (form_at entries k))

-- E24: the innermost branch round the target doesn't hold the jump, or the target is ELSE or ELSEIF. By the law on jumps the
-- first is that the target's block path is no prefix of the jump's

abbrev pub is_upto : ℕ → Option ℕ → Bool
is_upto k None = true
is_upto k (Some end) = nat_le k end

-- the branch has started before k and isn't ended before it
abbrev pub holds : List EntryMark → Option Open → ℕ → Bool
holds entries None k = true
holds entries (Some o) k = nat_lt o.start k && is_upto k (branch_end entries o.start)

-- a jump from k to t
abbrev pub jumps_in : List EntryMark → ℕ → ℕ → Bool
jumps_in entries k t = is_separator (form_at entries t) || not (holds entries (block_round entries t) k)

abbrev pub jumps_into_block : List EntryMark → ℕ → Bool
jumps_into_block entries k = some_passes (λ t. jumps_in entries k t) (target_of entries (jump_label (form_at entries k)))

-- E25: a loop with a label that no statement with the label ends, or a statement that may not end such a loop
abbrev pub is_badly_ended : List EntryMark → ℕ → Bool
is_badly_ended entries k = badly_ended (form_at entries k) (form_or_end entries (mate_of entries k))

-- E29: directly in a process block, and no part of one
abbrev pub is_foreign : List EntryMark → ℕ → Bool
is_foreign entries k =
    some_passes (λ o. makes_processes o.form && not (belongs (form_at entries k) (is_closed_by (label_at entries k) o))) (innermost entries k)
