-- How many kinds on a list aren't results.
-- Source: this profile.
use Rattle.std.specs.Prelude.{ℕ, suc, List, [], ◌∷◌}
use Rattle.fm_code_kinds.specs.declared.kinds.Kind.{Kind}
use Rattle.fm_code_kinds.specs.declared.kinds.Kind.TheVariants.{Returned, Word, Operand, LoopOf}

abbrev pub others_in : List Kind → ℕ
others_in [] = 0
others_in (Returned ∷ ks) = others_in ks
others_in (Word s ∷ ks) = suc (others_in ks)
others_in (Operand o ∷ ks) = suc (others_in ks)
others_in (LoopOf l ∷ ks) = suc (others_in ks)
