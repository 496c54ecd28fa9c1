use Rattle.std.proofs.Common.{◌++◌, ◌∷◌, [], map, ap, sym, subst, ◌∙◌, append_assoc, arith, ap₂}
use Rattle.std.proofs.lemmas.List.{map-append}
use Rattle.std.specs.Prelude.{option_to_list}
use Rattle.fm_base.specs.Channels.{message_ports}
use Rattle.fm_chan.specs.Items.{plain_item}
use Rattle.fm_net.specs.Owned.{count}
use Rattle.fm_net.proofs.Counts.{count-append}
use Rattle.fm_plain_passing.specs.Items.{item_of, message_of}
use Rattle.fm_plain_net.specs.Held.{AreKept, AreOnce}
use Rattle.fm_plain_net.proofs.Loads.{part_kept, part_once, ports_cons, rest_kept, rest_once}
use Rattle.fm_plain_net.proofs.messages.message_from.Goals as goal

pub items-init : goal.items-init
items-init c =
    let same = ap message_of (c.from_vec-rest.ensures.items ∙ c.into_vec.ensures) in
    record {
      items = ap₂ (λ vs ws. map plain_item vs ++ ws) c.new-all.ensures.items same;
      kept = subst (λ m. AreKept c.args.ports.now (message_ports m)) (sym same) c.requires.kept;
      once = subst (λ m. AreOnce (message_ports m)) (sym same) c.requires.once;
      others = λ z off k. k;
      among = λ z. omega (arith, ap (λ m. count z (message_ports m)) same);
    }

pub take_item-requires-clause-kept : goal.take_item-requires-clause-kept
take_item-requires-clause-kept c =
    let items = ap message_of (c.pop_front.ensures.items ∙ ap (λ o. option_to_list o ++ c.pop_front.new.self.items) c.in-Some.is) in
    let is = ap message_ports items ∙ ports_cons (item_of c.in-Some.item) (message_of c.pop_front.new.self.items) in
    part_kept (message_ports (item_of c.in-Some.item ∷ [])) (message_ports (message_of c.pop_front.new.self.items)) c.items.ports (subst (AreKept c.items.ports) is c.items.invariant.kept)

pub take_item-requires-clause-once : goal.take_item-requires-clause-once
take_item-requires-clause-once c =
    let items = ap message_of (c.pop_front.ensures.items ∙ ap (λ o. option_to_list o ++ c.pop_front.new.self.items) c.in-Some.is) in
    let is = ap message_ports items ∙ ports_cons (item_of c.in-Some.item) (message_of c.pop_front.new.self.items) in
    part_once (message_ports (item_of c.in-Some.item ∷ [])) (message_ports (message_of c.pop_front.new.self.items)) (subst AreOnce is c.items.invariant.once)

pub items-preserved : goal.items-preserved
items-preserved c =
    let i = item_of c.in-Some.item in
    let left = message_of c.pop_front.new.self.items in
    let items = ap message_of (c.pop_front.ensures.items ∙ ap (λ o. option_to_list o ++ c.pop_front.new.self.items) c.in-Some.is) in
    let is = ap message_ports items ∙ ports_cons i left in
    let once = subst AreOnce is c.items.invariant.once in
    let kept = subst (AreKept c.items.ports) is c.items.invariant.kept in
    record {
      items =
          ap (λ vs. map plain_item vs ++ left) c.in_ok-push.ensures.items
          ∙ ap (λ vs. vs ++ left) (map-append plain_item c.items.all.items (c.in_ok-take_item.field-0 ∷ []) ∙ ap (λ j. map plain_item c.items.all.items ++ j ∷ []) c.in_ok-take_item.ensures.item)
          ∙ append_assoc (map plain_item c.items.all.items) (i ∷ []) left
          ∙ ap (λ vs. map plain_item c.items.all.items ++ vs) (sym items) ∙ c.items.invariant.items;
      kept = rest_kept (message_ports (i ∷ [])) (message_ports left) c.items.ports c.take_item.new.ports once kept c.in_ok-take_item.ensures.others;
      once = rest_once (message_ports (i ∷ [])) (message_ports left) once;
      others = λ y off k. c.in_ok-take_item.ensures.others y (omega (arith, off, c.items.invariant.among y, ap (count y) is, count-append y (message_ports (i ∷ [])) (message_ports left))) (c.items.invariant.others y off k);
      among = λ y. omega (arith, c.items.invariant.among y, ap (count y) is, count-append y (message_ports (i ∷ [])) (message_ports left));
    }
