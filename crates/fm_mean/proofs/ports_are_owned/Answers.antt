use Rattle.fm_mean.proofs.Lawful.{lawful}
use Rattle.fm_mean.proofs.Laws.{owned_along, empty_along}
use Rattle.fm_mean.proofs.CallsOpen.{always_typed, types_kept}
use Rattle.fm_mean.proofs.ports_are_owned.Goals as goal

pub returns : goal.returns
returns c = record { lawful = lawful; throughout = owned_along; gone = empty_along; typed = always_typed; typed_step = types_kept }
