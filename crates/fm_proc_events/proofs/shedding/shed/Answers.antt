use Rattle.std.proofs.Common.{◌++◌, ◌∷◌, [], ap, sym, ◌∙◌}
use Rattle.std.specs.Prelude.{option_to_list}
use Rattle.fm_base.specs.Channels.{all_shed}
use Rattle.fm_chan.specs.Bodies.{chans_of}
use Rattle.fm_chan.proofs.Waking.{wakes_all, wakes_all_then, wakes_nobody}
use Rattle.fm_discards.proofs.Order.{all_shed-append}
use Rattle.fm_proc_events.proofs.shedding.shed.Goals as goal

pub ports-init : goal.ports-init
ports-init c = record {
  channels = ap (λ zs. all_shed zs (chans_of c.args.channels.now)) c.from_vec-rest.ensures.items;
  waking = wakes_nobody c.args.channels.now;
}

pub ports-preserved : goal.ports-preserved
ports-preserved c =
    let left = c.pop_front.new.self.items in
    let is = c.pop_front.ensures.items ∙ ap (λ o. option_to_list o ++ left) c.in-Some.is in
    record {
      channels =
          ap (all_shed left) c.discard.ensures.channels ∙ sym (all_shed-append (c.in-Some.port ∷ []) left (chans_of c.ports.channels))
          ∙ ap (λ zs. all_shed zs (chans_of c.ports.channels)) (sym is) ∙ c.ports.invariant.channels;
      waking = wakes_all_then c.args.channels.now c.ports.channels c.discard.new.self c.ports.invariant.waking (wakes_all c.ports.channels c.discard.new.self c.discard.ensures.waking);
    }
