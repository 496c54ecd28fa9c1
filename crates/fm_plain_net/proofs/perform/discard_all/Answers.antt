use Rattle.std.proofs.Common.{◌∷◌, [], length, ap, sym, subst, ◌∙◌, arith}
use Rattle.fm_base.specs.Channels.{all_shed}
use Rattle.fm_chan.specs.Bodies.{chans_of}
use Rattle.fm_discards.proofs.Order.{all_shed-append}
use Rattle.fm_discards.proofs.Shedding.{all_shed-nil}
use Rattle.fm_net.specs.Owned.{count}
use Rattle.fm_net.proofs.Counts.{count-cons, count-nil}
use Rattle.fm_plain_frame.specs.Leaving.{left_ports}
use Rattle.fm_plain_net.specs.Held.{AreKept, AreOnce}
use Rattle.fm_plain_net.proofs.Loads.{first_kept, nothing_left, rest_kept, rest_once}
use Rattle.fm_chan.proofs.Waking.{wakes_all_then, wakes_nobody}
use Rattle.fm_plain_net.proofs.perform.discard_all.Goals as goal

pub ports-init : goal.ports-init
ports-init c =
    let all = c.new-leaving.ensures c.args.program.now in
    record {
      kept = subst (AreKept c.args.ports.now) (sym all) c.requires.kept;
      once = subst AreOnce (sym all) c.requires.once;
      channels = ap (λ zs. all_shed zs (chans_of c.args.channels.now)) all;
      others = λ z off k. k;
      among = λ z. omega (arith, ap (count z) all);
      waking = wakes_nobody c.args.channels.now;
    }

pub discard_one-requires : goal.discard_one-requires
discard_one-requires c = first_kept c.in-Some.value (left_ports c.args.program.now c.next.new.self) c.ports.ports (subst (AreKept c.ports.ports) c.in-Some.ensures c.ports.invariant.kept)

pub ports-smaller : goal.ports-smaller
ports-smaller c = omega (arith, ap length c.in-Some.ensures)

pub ports-preserved : goal.ports-preserved
ports-preserved c =
    let z = c.in-Some.value in
    let left = left_ports c.args.program.now c.next.new.self in
    let is = c.in-Some.ensures in
    let once = subst AreOnce is c.ports.invariant.once in
    let kept = subst (AreKept c.ports.ports) is c.ports.invariant.kept in
    record {
      kept = rest_kept (z ∷ []) left c.ports.ports c.discard_one.new.ports once kept c.discard_one.ensures.others;
      once = rest_once (z ∷ []) left once;
      channels =
          ap (all_shed left) c.discard_one.ensures.channels ∙ sym (all_shed-append (z ∷ []) left (chans_of c.ports.channels))
          ∙ ap (λ zs. all_shed zs (chans_of c.ports.channels)) (sym is) ∙ c.ports.invariant.channels;
      others = λ y off k. c.discard_one.ensures.others y (omega (arith, off, c.ports.invariant.among y, ap (count y) is, count-cons y z left, count-cons y z [], count-nil y)) (c.ports.invariant.others y off k);
      among = λ y. omega (arith, c.ports.invariant.among y, ap (count y) is, count-cons y z left);
      waking = wakes_all_then c.args.channels.now c.ports.channels c.discard_one.new.channels c.ports.invariant.waking c.discard_one.ensures.waking;
    }

pub returns-clause-channels : goal.returns-clause-channels
returns-clause-channels c =
    let left = nothing_left c.next.result (left_ports c.args.program.now c.ports.leaving) (left_ports c.args.program.now c.next.new.self) c.in_default.not-Some c.next.ensures in
    sym (ap (λ zs. all_shed zs (chans_of c.ports.channels)) left ∙ all_shed-nil (chans_of c.ports.channels)) ∙ c.ports.invariant.channels
