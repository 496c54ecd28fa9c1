use Rattle.std.proofs.Common.{◌++◌, ◌∷◌, [], map, ap, sym, subst, ◌∙◌}
use Rattle.std.proofs.lemmas.List.{map-append}
use Rattle.fm_base.specs.Channels.{message_ports}
use Rattle.fm_chan.specs.Items.{plain_item}
use Rattle.fm_plain_passing.specs.Items.{item_of, message_of}
use Rattle.fm_plain_net.specs.Held.{AreKept}
use Rattle.fm_plain_net.proofs.Loads.{kept_more, kept_none, kept_stay, ports_snoc, stay_on}
use Rattle.fm_plain_net.proofs.messages.unpacked_items.Goals as goal

pub items-init : goal.items-init
items-init c = record { items = ap message_of c.new-all.ensures.items; came = kept_none c.args.ports.now; others = λ z k. k }

pub items-preserved : goal.items-preserved
items-preserved c =
    let new = c.put_item.new.ports in
    let before = map plain_item c.items.yielded in
    let this = plain_item c.in-Some.item in
    record {
      items =
          ap message_of c.in_ok-push.ensures.items ∙ map-append item_of c.items.all.items (c.in_ok-put_item.field-0 ∷ [])
          ∙ ap (λ vs. vs ++ item_of c.in_ok-put_item.field-0 ∷ []) c.items.invariant.items ∙ ap (λ i. before ++ i ∷ []) c.in_ok-put_item.ensures.item ∙ sym (map-append plain_item c.items.yielded (c.in-Some.item ∷ []));
      came =
          subst (λ vs. AreKept new (message_ports vs)) (sym (map-append plain_item c.items.yielded (c.in-Some.item ∷ [])))
          (subst (AreKept new) (sym (ports_snoc before this))
          (kept_more (message_ports before) (message_ports (this ∷ [])) new (kept_stay (message_ports before) c.items.ports new c.in_ok-put_item.ensures.others c.items.invariant.came) c.in_ok-put_item.ensures.came));
      others = stay_on c.args.ports.now c.items.ports new c.items.invariant.others c.in_ok-put_item.ensures.others;
    }
