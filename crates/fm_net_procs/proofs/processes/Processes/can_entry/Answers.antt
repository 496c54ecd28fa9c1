use Rattle.std.proofs.Common.{sym, ap, subst, ◌∙◌}
use Rattle.std.specs.Prelude.{IfSome}
use Rattle.std.specs.Option.{option_copied}
use Rattle.std.proofs.lemmas.Result.{IfOk-weaker}
use Rattle.fm_net_procs.specs.Readings.{proc_in, state_of}
use Rattle.fm_net_procs.proofs.processes.Processes.can_entry.Goals as goal

pub returns-in-Some : goal.returns-in-Some
returns-in-Some g c =
    IfOk-weaker c.is_served.result _ _ (λ r served p q is family fits told.
    let y = proc_in (g.P.Proc.seen p) c.args.entry.now in
    served p q is family fits (subst (λ o. IfSome o (λ e. g.P.Proc.MeetsIt p y e)) (sym c.event.ensures.event ∙ ap option_copied c.in-Some.is) (c.event.ensures.meets p y told))) c.is_served.ensures

pub returns-in-None : goal.returns-in-None
returns-in-None g c = λ p q is family fits told.
    c.can_go.ensures p c.args.self.now.work (state_of (g.P.Proc.seen p) c.args.self.now) q is fits told (sym c.event.ensures.event ∙ ap option_copied c.in-None.is)
