use Rattle.fm_finmap.proofs.Maps.{get-map_values, map_values-empty, map_values-insert, map_values-remove}
use Rattle.fm_finmap.proofs.reading.Goals as goal

pub returns : goal.returns
returns g c = record {
  found = λ R f. get-map_values f;
  nothing = λ R f. map_values-empty f;
  inserted = λ R f. map_values-insert f;
  removed = λ R f. map_values-remove f;
}
