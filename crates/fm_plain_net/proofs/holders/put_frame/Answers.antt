use Rattle.std.proofs.Common.{◌≡◌, ◌++◌, List, map, ap, ap₂, sym, ◌∙◌}
use Rattle.std.proofs.lemmas.Result.{on_ok_weaker}
use Rattle.fm_base.specs.Channels.{message_ports}
use Rattle.fm_symbols.specs.declared.names.Variable.{Variable}
use Rattle.fm_finmap.specs.Map.{map_of}
use Rattle.fm_mean.specs.Outports.{outport_cmp}
use Rattle.fm_mean.specs.Process.{frame_ports, started_ports}
use Rattle.fm_plain_frame.specs.declared.frame.Start.{Start}
use Rattle.fm_plain_frame.specs.declared.word.Word.{Word}
use Rattle.fm_plain_frame.specs.Frames.{frame_of, start_of}
use Rattle.fm_plain_frame.specs.Memory.{values_of}
use Rattle.fm_plain_net.proofs.Holding.{after}
use Rattle.fm_plain_net.proofs.holders.put_frame.Goals as goal

pub returns : goal.returns
returns c =
    let P = c.args.program.now in
    let all = c.args.frame.now.starts.items in
    let values = message_ports (values_of c.variables_of-variables.result.now c.as_slice.result.now) in
    let starts = started_ports (map (start_of P) c.as_slice-2.result.now) in
    let ports : frame_ports (frame_of P c.args.frame.now) ≡ values ++ starts =
    ap₂ (λ (vs : List Variable) (m : List Word). message_ports (values_of vs m) ++ started_ports (map (start_of P) all)) (sym c.variables_of-variables.ensures.variables) (sym c.as_slice.ensures.value)
    ∙ ap (λ (ss : List Start). values ++ started_ports (map (start_of P) ss)) (sym c.as_slice-2.ensures.value) in
    on_ok_weaker c.put_starts.result
    (λ e. after (map_of outport_cmp c.args.all.now) (map_of outport_cmp c.put_memory.new.all) (map_of outport_cmp c.put_starts.new.all) c.args.path.now values starts (frame_ports (frame_of P c.args.frame.now)) ports c.in_ok-put_memory.ensures e)
    c.put_starts.ensures
