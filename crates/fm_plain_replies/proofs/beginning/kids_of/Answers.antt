use Rattle.std.proofs.Common.{◌≡◌, ◌++◌, map, drop, ◌+◌, List, arith, subst, sym}
use Rattle.fm_mean.specs.Steps.{kid_of as kid_from}
use Rattle.fm_plain_frame.specs.Frames.{kid_of, start_of}
use Rattle.fm_plain_frame.specs.declared.process.Kid.{Kid}
use Rattle.fm_plain_replies.proofs.BeginLaws.{kids_next}
use Rattle.fm_plain_replies.proofs.beginning.kids_of.Goals as goal

pub starts-preserved : goal.starts-preserved
starts-preserved c = λ p.
    let starts = c.args.starts.now in
    let i = c.starts.start-index in
    subst (λ (ks : List Kid). map kid_of ks ++ map kid_from (map (start_of p) (drop (i + 1) starts)) ≡ map kid_from (map (start_of p) starts)) (sym c.in_ok-push.ensures.ok)
    (kids_next p c.starts.kids c.in_ok-kid_of.field-0 starts i c.start-item.result _ (omega arith) c.start-item.is (c.in_ok-kid_of.ensures p) (c.starts.invariant p))
