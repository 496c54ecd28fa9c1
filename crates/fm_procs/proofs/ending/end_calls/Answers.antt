use Rattle.std.proofs.Common.{List, refl, sym, ap, ◌∙◌}
use Rattle.fm_chan.specs.Bodies.{chans_of}
use Rattle.fm_chan.proofs.Waking.{wakes_all_then, wakes_nobody}
use Rattle.fm_code.specs.declared.body.Body.{Body}
use Rattle.fm_code.specs.declared.body.Frame.{Frame}
use Rattle.fm_proc_language.specs.Processes.{ended_frame}
use Rattle.fm_procs.proofs.Endings.{frame_first}
use Rattle.fm_procs.proofs.ending.end_calls.Goals as goal

pub frames-init : goal.frames-init
frames-init c = record { frame = refl; gone = refl; body = refl; waking = wakes_nobody c.args.channels.now }

pub frames-preserved : goal.frames-preserved
frames-preserved c =
    let b = c.args.body.now in
    let now = c.frames.body in
    record {
      frame = ap (λ (l : List Frame). (ended_frame b now.frame l).0) (sym c.in-Some.ensures) ∙ c.frames.invariant.frame;
      gone = frame_first b now.code now.frame c.in-Some.frame c.pop.new.self now.below c.frames.slots c.discard_frame.new.slots (chans_of c.frames.channels) (chans_of c.discard_frame.new.channels) _
          (ap (λ (x : Body). x.code) c.frames.invariant.body) c.in-Some.ensures c.discard_frame.ensures.gone c.frames.invariant.gone;
      body = ap (λ (x : Body). record x { frame = c.in-Some.frame; below = c.pop.new.self }) c.frames.invariant.body;
      waking = wakes_all_then c.args.channels.now c.frames.channels c.discard_frame.new.channels c.frames.invariant.waking c.discard_frame.ensures.waking;
    }
