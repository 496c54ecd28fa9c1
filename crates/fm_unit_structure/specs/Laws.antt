-- What a jump into a block is, in the words of block paths.
-- Source: ANSI X3.9-1978, sections 11.1, 11.6.2 and 11.10.8 (transfer of control into IF-blocks and into the range of a DO).
use Rattle.std.specs.Prelude.{ℕ, ◌≡◌, ◌<◌, ◌⊎◌, true, Some, List, length, drop}
use Rattle.fm_base.specs.declared.name.Label.{Label}
use Rattle.fm_tree.specs.declared.entry_mark.EntryMark.{EntryMark}
use Rattle.fm_tree.specs.declared.entry_mark.Open.{Open}
use Rattle.fm_tree.specs.Structure.{is_separator}
use Rattle.fm_tree.specs.Labels.{jump_label}
use Rattle.fm_tree.specs.Units.{block_path, form_at}
use Rattle.fm_rules.specs.StructureRules.{jumps_in}

-- paths are given innermost first: what is left of a path behind some of its innermost blocks is, from the outside, a prefix
abbrev pub IsPrefix : List Open → List Open → Type 0
IsPrefix outer path = (m : ℕ) × (drop m path ≡ outer)

-- the target is ELSE or ELSEIF, or its block path is no prefix of the jump's
abbrev pub IsJumpIn : List EntryMark → ℕ → ℕ → Type 0
IsJumpIn entries k t = (is_separator (form_at entries t) ≡ true) ⊎ (¬ IsPrefix (block_path entries t) (block_path entries k))

-- a jump from k to t is tested rightly
abbrev pub JumpsAgree : Type 0
JumpsAgree =
    (entries : List EntryMark) (k t : ℕ) (label : Label) → k < length entries → t < length entries → jump_label (form_at entries k) ≡ Some label
    → (jumps_in entries k t ≡ true → IsJumpIn entries k t) × (IsJumpIn entries k t → jumps_in entries k t ≡ true)
