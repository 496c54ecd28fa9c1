use Rattle.std.proofs.Common.{◌≡◌, ◌+◌, ◌-◌, ◌<◌, ℕ, false, true, refl, sym, ap, ◌∙◌, arith, rules}
use Rattle.std.proofs.lemmas.Result.{IfOk-weaker}
use Rattle.fm_net.specs.Machine.{child}
use Rattle.fm_mean.specs.Outcome.{awaited}
use Rattle.fm_plain_net.specs.Readings.{order_of, procs_of}
use Rattle.fm_plain_net.proofs.Awaited.{awaited_here, awaited_more}
use Rattle.fm_net_procs.proofs.Families.{child_number}
use Rattle.fm_run.proofs.Awaiting.{ended_there}
use Rattle.std.specs.FinMap.{get}
use Rattle.fm_plain_net.proofs.outcome.awaited.Goals as goal

pub children-preserved : goal.children-preserved
children-preserved c = λ p q b all.
    let m = procs_of p c.args.processes.now in
    let n = c.children.place in
    let low : n < c.args.family.count = omega arith in
    let ps = order_of c.args.processes.now in
    let at = child_number ps ps refl c.args.family.first q b c.args.family.count all n c.in_ok-number.number low c.in_ok-number.ensures in
    let done : c.has_ended.result ≡ true = search rules in
    c.children.invariant p q b all ∙ awaited_more m q b c.args.family.count n low (sym (c.has_ended.ensures p (child q b (n + 1)) at ∙ ended_there (get m (child q b (n + 1)))) ∙ done)

pub returns-then-not-has_ended : goal.returns-then-not-has_ended
returns-then-not-has_ended c = IfOk-weaker c.path_of.result _ _ (λ o told p q b all.
    let m = procs_of p c.args.processes.now in
    let n = c.children.place in
    let low : n < c.args.family.count = omega arith in
    let ps = order_of c.args.processes.now in
    let at = child_number ps ps refl c.args.family.first q b c.args.family.count all n c.in_ok-number.number low c.in_ok-number.ensures in
    let open_yet : c.has_ended.result ≡ false = search rules in
    told ∙ at ∙ sym (c.children.invariant p q b all ∙ awaited_here m q b c.args.family.count n low (sym (c.has_ended.ensures p (child q b (n + 1)) at ∙ ended_there (get m (child q b (n + 1)))) ∙ open_yet))) c.path_of.ensures

pub returns : goal.returns
returns c = λ p q b all.
    let none : c.args.family.count - c.children.place ≡ 0 = omega arith in
    sym (c.children.invariant p q b all ∙ ap (λ (n : ℕ). awaited (procs_of p c.args.processes.now) q b (c.children.place + 1) n) none)
