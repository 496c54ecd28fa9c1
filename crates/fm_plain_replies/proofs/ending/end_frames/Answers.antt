use Rattle.std.proofs.Common.{◌<◌, Option, Vec, Global, length, arith, sym, ap, ◌∙◌}
use Rattle.std.proofs.lemmas.Bool.{eqb-false}
use Rattle.std.specs.Vec.{vec_len}
use Rattle.fm_plain_frame.specs.Frames.{frames_of}
use Rattle.fm_plain_frame.specs.declared.frame.Frame.{Frame}
use Rattle.fm_plain_replies.proofs.EndLaws.{own_stays, others_go}
use Rattle.fm_plain_replies.proofs.ending.end_frames.Goals as goal

pub returns-clause-frames : goal.returns-clause-frames
returns-clause-frames c =
    let below = c.args.below.now in
    let some : 0 < length below.items = omega (arith, eqb-false (vec_len below) 0 (sym c.is_empty.ensures ∙ c.if-is_empty.false), below.ok.0) in
    ap (λ (o : Option Frame). frames_of c.args.program.now o c.replace-others.new.dest.items) c.replace-innermost.ensures.after
    ∙ own_stays c.args.program.now c.args.top.now below.items c.replace-others.new.dest.items c.index_mut.result.now c.end_frame.new.frame c.remove-own.result c.index_mut.result.now
    some c.index_mut.ensures.value c.remove-own.ensures.value (ap (λ (v : Vec Frame Global). v.items) c.replace-others.ensures.after ∙ c.new.ensures.items) c.in_ok-lost.ensures.frame

pub returns-clause-drops : goal.returns-clause-drops
returns-clause-drops c =
    let below = c.args.below.now in
    let some : 0 < length below.items = omega (arith, eqb-false (vec_len below) 0 (sym c.is_empty.ensures ∙ c.if-is_empty.false), below.ok.0) in
    others_go c.args.program.now c.args.top.now c.replace-innermost.result below.items c.replace-others.result.items c.index_mut.result.now c.end_frame.new.frame c.index_mut.result.now c.in_ok-lost.lost.ports.items c.in_ok-lost.lost.starts.items _
    some c.index_mut.ensures.value c.replace-innermost.ensures.value (ap (λ (v : Vec Frame Global). v.items) c.replace-others.ensures.value ∙ c.remove-own.ensures.by_index.2) c.in_ok-lost.ensures.ports c.in_ok-lost.ensures.starts (c.let_all_go.ensures c.args.program.now)
