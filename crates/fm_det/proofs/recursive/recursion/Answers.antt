use Rattle.std.proofs.Common.{refl}
use Rattle.fm_det.proofs.Backs.{recursion_found}
use Rattle.fm_det.proofs.recursive.recursion.Goals as goal

pub returns : goal.returns
returns c =
    recursion_found _ _ _ _ _ _ _ _ _ _ _ _ c.as_slice.ensures c.in_ok-calls.ensures refl c.as_slice-2.ensures c.as_slice-4.ensures c.in_ok-graph.ensures c.as_slice-3.ensures c.in_ok-names.ensures c.deref.ensures.value c.all_back_calls.ensures
