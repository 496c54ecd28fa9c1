use Rattle.std.proofs.Common.{◌∙◌, sym}
use Rattle.fm_nodes_plain.proofs.Found.{carrier_found}
use Rattle.fm_nodes_plain.proofs.carriers.first_carrier.Goals as goal

pub returns : goal.returns
returns c =
    carrier_found _ _ _ _ _ _ _ _ _ _ (sym c.main_of.ensures ∙ c.in-Some.is) c.in_ok-calls.ensures c.as_slice.ensures c.in_ok-graph.ensures c.as_slice-2.ensures c.in_ok-flags.ensures
    c.deref.ensures.value c.carriers_from.ensures
