use Rattle.std.proofs.Common.{◌++◌, ◌∷◌, [], ap, sym, subst, ◌∙◌}
use Rattle.fm_mean.specs.Places.{live}
use Rattle.fm_plain_net.specs.Held.{AreKept}
use Rattle.fm_plain_net.proofs.Loads.{kept_more, kept_none, kept_stay, live_snoc, stay_on}
use Rattle.fm_plain_net.proofs.messages.put_all.Goals as goal

pub ports-init : goal.ports-init
ports-init c = record { values = c.new-values.ensures.items; came = kept_none c.args.ports.now; others = λ z k. k }

pub ports-preserved : goal.ports-preserved
ports-preserved c =
    let new = c.put_port.new.ports in
    record {
      values = c.in_ok-push.ensures.items ∙ ap (λ vs. vs ++ c.in_ok-put_port.field-0 ∷ []) c.ports.invariant.values ∙ ap (λ o. c.ports.yielded ++ o ∷ []) c.in_ok-put_port.ensures.value;
      came =
          subst (AreKept new) (sym (live_snoc c.ports.yielded c.in-Some.port))
          (kept_more (live c.ports.yielded) (live (c.in-Some.port ∷ [])) new (kept_stay (live c.ports.yielded) c.ports.ports new c.in_ok-put_port.ensures.others c.ports.invariant.came) c.in_ok-put_port.ensures.came);
      others = stay_on c.args.ports.now c.ports.ports new c.ports.invariant.others c.in_ok-put_port.ensures.others;
    }
