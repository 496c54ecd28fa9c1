use Rattle.std.proofs.Common.{◌≡◌, ◌+◌, ◌-◌, ◌<◌, ℕ, false, true, refl, sym, ap, ◌∙◌, arith, rules}
use Rattle.std.proofs.lemmas.Result.{IfOk-weaker}
use Rattle.fm_net.specs.Machine.{child}
use Rattle.std.specs.FinMap.{get}
use Rattle.fm_procs.specs.Readings.{order_of, procs_of}
use Rattle.fm_shown.specs.Outcome.{awaited}
use Rattle.fm_net_procs.proofs.Families.{child_number}
use Rattle.fm_shown.proofs.Awaited.{awaited_here, awaited_more, same_ended}
use Rattle.fm_shown.proofs.waits.awaited.Goals as goal

pub children-preserved : goal.children-preserved
children-preserved c = λ q b all.
    let m = procs_of c.args.processes.now in
    let n = c.children.place in
    let low : n < c.args.count = omega arith in
    let at = child_number (order_of c.args.processes.now) (order_of c.args.processes.now) refl c.args.first q b c.args.count all n c.in_ok-number.number low c.in_ok-number.ensures in
    let done : c.has_ended.result ≡ true = search rules in
    let k = child q b (n + 1) in
    c.children.invariant q b all ∙ awaited_more m q b c.args.count n low (sym (same_ended (get m k)) ∙ sym (c.has_ended.ensures tt k at) ∙ done)

pub returns-then-not-has_ended : goal.returns-then-not-has_ended
returns-then-not-has_ended c = IfOk-weaker c.path_of.result _ _ (λ o told q b all.
    let m = procs_of c.args.processes.now in
    let n = c.children.place in
    let low : n < c.args.count = omega arith in
    let at = child_number (order_of c.args.processes.now) (order_of c.args.processes.now) refl c.args.first q b c.args.count all n c.in_ok-number.number low c.in_ok-number.ensures in
    let open_yet : c.has_ended.result ≡ false = search rules in
    let k = child q b (n + 1) in
    told ∙ at ∙ sym (c.children.invariant q b all ∙ awaited_here m q b c.args.count n low (sym (same_ended (get m k)) ∙ sym (c.has_ended.ensures tt k at) ∙ open_yet))) c.path_of.ensures

pub returns : goal.returns
returns c = λ q b all.
    let none : c.args.count - c.children.place ≡ 0 = omega arith in
    sym (c.children.invariant q b all ∙ ap (λ (n : ℕ). awaited (procs_of c.args.processes.now) q b (c.children.place + 1) n) none)
