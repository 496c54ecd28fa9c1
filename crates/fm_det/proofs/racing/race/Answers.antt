use Rattle.std.proofs.Common.{◌∙◌, refl, sym}
use Rattle.fm_det.proofs.Races.{race_found}
use Rattle.fm_det.proofs.racing.race.Goals as goal

pub returns : goal.returns
returns c =
    race_found _ _ _ _ _ _ _ _ _ _ _ _ c.as_slice-units.ensures (sym c.main_of.ensures ∙ c.in-Some.is) c.in_ok-calls.ensures refl c.as_slice.ensures c.in_ok-graph.ensures c.as_slice-2.ensures
    c.in_ok-flags.ensures c.deref.ensures.value c.racy_from.ensures
