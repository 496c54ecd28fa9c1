use Rattle.std.proofs.Common.{◌++◌, [], ◌∷◌, ap, sym, arith, ◌∙◌}
use Rattle.fm_base.specs.declared.port.PortValue.TheVariants.{Writer}
use Rattle.fm_chan.specs.Events.{outports}
use Rattle.fm_chan.proofs.Numbers.{outports-more}
use Rattle.fm_chan.proofs.channels.outports.Goals as goal

pub writers-preserved : goal.writers-preserved
writers-preserved c =
    let name = c.args.name.now in
    let n = c.writers.next in (
      c.in_ok-push.ensures.items ∙ ap (λ ps. ps ++ c.new.result ∷ []) c.writers.invariant.0
          ∙ ap (λ x. outports name n ++ x ∷ []) (c.new.ensures ∙ ap (λ k. Writer k n) c.in_ok-copy.ensures)
          ∙ sym (outports-more name n),
      omega (arith, c.writers-test.true),
    )
