use Rattle.std.proofs.Common.{◌++◌, ◌∷◌, [], ap, ap₂, sym, ◌∙◌}
use Rattle.fm_base.specs.declared.port.PortValue.TheVariants.{Reader, Writer}
use Rattle.fm_chan.proofs.Numbers.{outports-more}
use Rattle.fm_plain_net.proofs.perform.values.Goals as goal

pub writers-init : goal.writers-init
writers-init c = c.in_ok-push.ensures.items ∙ ap₂ (λ vs d. vs ++ Reader d ∷ []) c.new-all.ensures.items c.in_ok-copy.ensures

pub writers-preserved : goal.writers-preserved
writers-preserved c =
    c.in_ok-push-2.ensures.items ∙ ap₂ (λ vs d. vs ++ Writer d c.writers.writer ∷ []) c.writers.invariant c.in_ok-copy-2.ensures ∙ ap (λ vs. Reader c.args.name.now ∷ vs) (sym (outports-more c.args.name.now c.writers.writer))
