use Rattle.std.proofs.Common.{◌≡◌, Some, get_or, sym, ◌∙◌, ap, arith}
use Rattle.fm_table.specs.Inside.{outs_of}
use Rattle.fm_table.specs.Told.{is_out}
use Rattle.fm_table.proofs.Outs.{get_or_any, ready_here, ready_none}
use Rattle.fm_table.proofs.outside.ready_at.Goals as goal

pub queue-init : goal.queue-init
queue-init c = omega arith

pub returns : goal.returns
returns c = sym (ready_none (outs_of c.args.out.now) c.args.queue.now.items c.queue.at c.args.place c.queue.before (omega (arith, c.args.queue.now.ok.0)) c.queue.invariant)

pub returns-then-before-eq0 : goal.returns-then-before-eq0
returns-then-before-eq0 c =
    let outs = outs_of c.args.out.now in
    let queue = c.args.queue.now.items in
    let same : c.index-then-before-eq0.result.now ≡ get_or queue c.queue.at c.index.result.now = get_or_any queue c.queue.at c.index-then-before-eq0.result.now c.index.result.now (omega (arith, c.args.queue.now.ok.0)) c.index-then-before-eq0.ensures in
    ap Some same ∙ sym (ready_here outs queue c.queue.at c.index.result.now c.args.place c.queue.before (omega (arith, c.args.queue.now.ok.0)) c.queue.invariant c.if-before-eq0.true (ap (is_out outs) (sym c.index.ensures) ∙ sym c.is_out.ensures ∙ c.if-is_out.false))
