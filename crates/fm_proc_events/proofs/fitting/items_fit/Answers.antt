use Rattle.std.proofs.Common.{◌∷◌, sym, ap, ◌∙◌}
use Rattle.fm_chan.proofs.Fitting.{no_items, one_exceeds, one_less}
use Rattle.fm_proc_language.specs.Processes.{limits_of}
use Rattle.fm_proc_events.proofs.OperandLimits.{no_operands}
use Rattle.fm_proc_events.proofs.fitting.items_fit.Goals as goal

pub returns-in-None : goal.returns-in-None
returns-in-None c = no_operands c.operands.operands.now c.operands.items.now c.in-None.ensures.cases ∙ sym c.operands.invariant

pub returns-in-None-split_first : goal.returns-in-None-split_first
returns-in-None-split_first c = no_items (limits_of c.operands.operands.now) c.operands.items.now c.in-None-split_first.ensures.cases ∙ sym c.operands.invariant

pub returns-then-not-is_within : goal.returns-then-not-is_within
returns-then-not-is_within c =
    let operands = c.in-Some.parts in
    let items = c.in-Some-split_first.parts in
    one_exceeds (limits_of c.operands.operands.now) c.operands.items.now c.limit_of.result (limits_of operands.1.now) items.0.now items.1.now (ap limits_of c.in-Some.ensures.cases.0 ∙ ap (λ l. l ∷ limits_of operands.1.now) (sym c.limit_of.ensures)) c.in-Some-split_first.ensures.cases.0 c.is_within.result c.is_within.ensures c.if-not-is_within.true
    ∙ sym c.operands.invariant

pub operands-smaller : goal.operands-smaller
operands-smaller c = one_less c.operands.operands.now c.in-Some.parts.1.now c.in-Some.ensures.cases.1
