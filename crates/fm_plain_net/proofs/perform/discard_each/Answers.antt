use Rattle.std.proofs.Common.{◌++◌, ap, sym, subst, ◌∙◌, arith}
use Rattle.std.specs.List.{flat_map}
use Rattle.std.specs.Prelude.{option_to_list}
use Rattle.fm_base.specs.Channels.{all_shed}
use Rattle.fm_chan.specs.Bodies.{chans_of}
use Rattle.fm_discards.proofs.Order.{all_shed-append}
use Rattle.fm_net.specs.Owned.{count}
use Rattle.fm_net.proofs.Counts.{count-append}
use Rattle.fm_plain_frame.specs.LetGo.{let_go_ports}
use Rattle.fm_plain_net.specs.Held.{AreKept, AreOnce}
use Rattle.fm_plain_net.proofs.Loads.{part_kept, part_once, rest_kept, rest_once}
use Rattle.fm_chan.proofs.Waking.{wakes_all_then, wakes_nobody}
use Rattle.fm_plain_net.proofs.perform.discard_each.Goals as goal

pub children-init : goal.children-init
children-init c =
    let same = ap (flat_map (let_go_ports c.args.program.now)) c.from_vec-rest.ensures.items in
    record {
      kept = subst (AreKept c.args.ports.now) (sym same) c.requires.kept;
      once = subst AreOnce (sym same) c.requires.once;
      channels = ap (λ zs. all_shed zs (chans_of c.args.channels.now)) same;
      others = λ z off k. k;
      among = λ z. omega (arith, ap (count z) same);
      waking = wakes_nobody c.args.channels.now;
    }

pub discard_all-requires-clause-kept : goal.discard_all-requires-clause-kept
discard_all-requires-clause-kept c =
    let P = c.args.program.now in
    let is = ap (flat_map (let_go_ports P)) (c.pop_front.ensures.items ∙ ap (λ o. option_to_list o ++ c.pop_front.new.self.items) c.in-Some.is) in
    part_kept (let_go_ports P c.in-Some.one) (flat_map (let_go_ports P) c.pop_front.new.self.items) c.children.ports (subst (AreKept c.children.ports) is c.children.invariant.kept)

pub discard_all-requires-clause-once : goal.discard_all-requires-clause-once
discard_all-requires-clause-once c =
    let P = c.args.program.now in
    let is = ap (flat_map (let_go_ports P)) (c.pop_front.ensures.items ∙ ap (λ o. option_to_list o ++ c.pop_front.new.self.items) c.in-Some.is) in
    part_once (let_go_ports P c.in-Some.one) (flat_map (let_go_ports P) c.pop_front.new.self.items) (subst AreOnce is c.children.invariant.once)

pub children-preserved : goal.children-preserved
children-preserved c =
    let P = c.args.program.now in
    let first = let_go_ports P c.in-Some.one in
    let left = flat_map (let_go_ports P) c.pop_front.new.self.items in
    let is = ap (flat_map (let_go_ports P)) (c.pop_front.ensures.items ∙ ap (λ o. option_to_list o ++ c.pop_front.new.self.items) c.in-Some.is) in
    let once = subst AreOnce is c.children.invariant.once in
    let kept = subst (AreKept c.children.ports) is c.children.invariant.kept in
    record {
      kept = rest_kept first left c.children.ports c.discard_all.new.ports once kept c.discard_all.ensures.others;
      once = rest_once first left once;
      channels =
          ap (all_shed left) c.discard_all.ensures.channels ∙ sym (all_shed-append first left (chans_of c.children.channels))
          ∙ ap (λ zs. all_shed zs (chans_of c.children.channels)) (sym is) ∙ c.children.invariant.channels;
      others = λ y off k. c.discard_all.ensures.others y (omega (arith, off, c.children.invariant.among y, ap (count y) is, count-append y first left)) (c.children.invariant.others y off k);
      among = λ y. omega (arith, c.children.invariant.among y, ap (count y) is, count-append y first left);
      waking = wakes_all_then c.args.channels.now c.children.channels c.discard_all.new.channels c.children.invariant.waking c.discard_all.ensures.waking;
    }
