-- What may stand behind the port of a RECEIVE, counted.
use Rattle.std.proofs.Common.{◌≡◌, ◌+◌, List, [], ◌∷◌, length, refl, arith}
use Rattle.fm_tree.specs.Parts.{ends_in, iostats_in}
use Rattle.fm_tree.specs.declared.statement.Extra.{Extra}
use Rattle.fm_tree.specs.declared.statement.Extra.TheVariants as extra

pub ends_and_iostats : (es : List Extra) → ends_in es + iostats_in es ≡ length es
ends_and_iostats [] = refl
ends_and_iostats (extra.End l ∷ es) = omega (arith, ends_and_iostats es)
ends_and_iostats (extra.Iostat v ∷ es) = omega (arith, ends_and_iostats es)
