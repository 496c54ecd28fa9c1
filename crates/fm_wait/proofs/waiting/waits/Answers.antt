use Rattle.std.proofs.Common.{◌∙◌, ap}
use Rattle.fm_base.specs.PathOrder.{path_cmp}
use Rattle.fm_finmap.specs.Map.{map_of}
use Rattle.fm_wait.specs.Places.{places_from}
use Rattle.fm_wait.proofs.Standing.{next_from_on}
use Rattle.fm_wait.proofs.waiting.waits.Goals as goal

pub all_cycles-requires-clause-next : goal.all_cycles-requires-clause-next
all_cycles-requires-clause-next c =
    let o = c.args.outcome.now in
    next_from_on o (map_of path_cmp c.in_ok-places.places) c.deref.result.now c.deref-4.result.now
    (c.in_ok-places.ensures ∙ ap (λ ws. places_from ws 0) c.as_slice.ensures) (c.deref.ensures.value ∙ c.in_ok-on.ensures) (c.deref-4.ensures.value ∙ c.in_ok-next.ensures)
