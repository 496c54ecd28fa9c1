use Rattle.std.proofs.Common.{◌≡◌, ◌++◌, List, map, ap, sym, ◌∙◌}
use Rattle.std.specs.Prelude.{option_map, option_to_list, reverse}
use Rattle.std.proofs.lemmas.Grind.{flat_map-append}
use Rattle.std.proofs.lemmas.Result.{on_ok_weaker}
use Rattle.fm_finmap.specs.Map.{map_of}
use Rattle.fm_mean.specs.Outports.{outport_cmp}
use Rattle.fm_mean.specs.Process.{frame_ports, frames_ports}
use Rattle.fm_plain_frame.specs.declared.frame.Frame.{Frame}
use Rattle.fm_plain_frame.specs.Frames.{frame_of}
use Rattle.fm_plain_net.proofs.Holding.{after}
use Rattle.fm_plain_net.proofs.holders.put_held.Goals as goal

pub returns : goal.returns
returns c =
    let frame = frame_of c.args.program.now in
    let tops = option_to_list (option_map frame c.args.process.now.top) in
    let all = c.args.process.now.below.items in
    let below = c.as_slice.result.now in
    let ports : frames_ports (tops ++ reverse (map frame all)) ≡ frames_ports tops ++ frames_ports (reverse (map frame below)) =
    flat_map-append frame_ports tops (reverse (map frame all)) ∙ ap (λ (fs : List Frame). frames_ports tops ++ frames_ports (reverse (map frame fs))) (sym c.as_slice.ensures.value) in
    on_ok_weaker c.put_frames.result
    (λ e. after (map_of outport_cmp c.args.all.now) (map_of outport_cmp c.put_top.new.all) (map_of outport_cmp c.put_frames.new.all) c.args.path.now (frames_ports tops) (frames_ports (reverse (map frame below))) _ ports c.in_ok-put_top.ensures e)
    c.put_frames.ensures
