use Rattle.std.proofs.Common.{refl, sym, ap, ◌∙◌}
use Rattle.std.specs.Option.{option_copied, option_map}
use Rattle.std.specs.Ordering.{nat_cmp}
use Rattle.fm_finmap.specs.Map.{map_of}
use Rattle.fm_finmap.proofs.Keys.{nat_order}
use Rattle.fm_finmap.proofs.Maps.{get_at, get-map_values}
use Rattle.fm_plain_frame.specs.Frames.{trips_of}
use Rattle.fm_plain_frame.proofs.frame.Frame.trips_at.Goals as goal

pub returns : goal.returns
returns c =
    let es = c.args.self.now.loops.entries in
    ap (option_map trips_of) (c.copied.ensures ∙ get_at nat_order es es c.args.opener (option_copied c.get.result) refl c.get.ensures.value)
    ∙ sym (get-map_values trips_of (map_of nat_cmp es) c.args.opener)
