use Rattle.std.proofs.Common.{ap, ◌∙◌}
use Rattle.std.proofs.lemmas.Result.{on_ok_weaker}
use Rattle.fm_finmap.specs.Map.{map_of}
use Rattle.fm_net.specs.Machine.{Place}
use Rattle.fm_mean.specs.Outports.{outport_cmp}
use Rattle.fm_mean.specs.Process.{held}
use Rattle.fm_plain_frame.specs.Frames.{proc_of}
use Rattle.fm_run.specs.Gathered.{with_held}
use Rattle.fm_plain_net.proofs.holders.put_process.Goals as goal

pub returns : goal.returns
returns c =
    let P = c.args.program.now in
    on_ok_weaker c.put_held.result
    (λ e. e ∙ ap (λ (q : Place). with_held (map_of outport_cmp c.args.all.now) q (held (proc_of P c.args.process.now))) (c.in_ok-holder.ensures P)) c.put_held.ensures
