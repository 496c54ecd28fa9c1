use Rattle.std.proofs.Common.{sym, ◌∙◌}
use Rattle.fm_nodes_hosts.proofs.Fitting.{no_limits, no_items, one_exceeds, one_less}
use Rattle.fm_nodes_hosts.proofs.receiving.fits.Goals as goal

pub returns-in-None : goal.returns-in-None
returns-in-None c = no_limits c.limits.limits.now c.limits.items.now c.in-None.ensures.cases ∙ sym c.limits.invariant

pub returns-in-None-split_first : goal.returns-in-None-split_first
returns-in-None-split_first c = no_items c.limits.limits.now c.limits.items.now c.in-None-split_first.ensures.cases ∙ sym c.limits.invariant

pub returns-then-not-is_within : goal.returns-then-not-is_within
returns-then-not-is_within c =
    let limits = c.in-Some.parts in
    let items = c.in-Some-split_first.parts in
    one_exceeds c.limits.limits.now c.limits.items.now limits.0.now limits.1.now items.0.now items.1.now c.in-Some.ensures.cases.0 c.in-Some-split_first.ensures.cases.0 c.is_within.result c.is_within.ensures c.if-not-is_within.true
    ∙ sym c.limits.invariant

pub limits-smaller : goal.limits-smaller
limits-smaller c = one_less c.limits.limits.now c.in-Some.parts.1.now c.in-Some.ensures.cases.1
