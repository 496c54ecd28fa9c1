use Rattle.std.proofs.Common.{◌≡◌, ◌+◌, ◌++◌, ◌∷◌, [], List, length, length-append, sym, ap, ◌∙◌, arith, rules}
use Rattle.fm_base.specs.declared.schedule.Turn.{Turn}
use Rattle.fm_run.proofs.Results.{on_err}
use Rattle.fm_run.proofs.history.History.push.Goals as goal

pub returns-in_err-put-clause-err : goal.returns-in_err-put-clause-err
returns-in_err-put-clause-err c = on_err c.from_residual-in_err-put.result (c.in_err-put.ensures.err ∙ c.self.view_is)

pub returns-clause-ok : goal.returns-clause-ok
returns-clause-ok c = c.in_ok-put.ensures.ok ∙ ap (λ (ts : List Turn). ts ++ c.args.turn ∷ []) c.self.view_is

pub invariant_of-self : goal.invariant_of-self
invariant_of-self c = c.self.invariant ∙ ap length (sym c.in_err-put.ensures.err)

pub invariant_of-self-2 : goal.invariant_of-self-2
invariant_of-self-2 c =
    let more : c.in_ok-len.len ≡ c.self.inside.len + 1 = search rules in
    let longer = ap length c.in_ok-put.ensures.ok in
    let whole = c.self.invariant in
    omega (arith, more, whole, longer, length-append {A = Turn})
