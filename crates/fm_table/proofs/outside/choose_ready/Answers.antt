use Rattle.std.proofs.Common.{ℕ, Some, sym, ap, ◌∙◌}
use Rattle.fm_run.specs.Orders.{chosen}
use Rattle.fm_table.specs.Inside.{outs_of}
use Rattle.fm_table.specs.Told.{ready_in}
use Rattle.fm_table.proofs.Outs.{nobody_ready}
use Rattle.fm_table.proofs.Runs.{first_chosen}
use Rattle.fm_table.proofs.outside.choose_ready.Goals as goal

pub returns-then-choice-eq0 : goal.returns-then-choice-eq0
returns-then-choice-eq0 c =
    let ready = ready_in (outs_of c.args.out.now) c.args.queue.now.items in
    c.ready_at.ensures ∙ sym (first_chosen ready) ∙ ap (λ (n : ℕ). chosen (Some n) ready) (sym c.if-choice-eq0.true)

pub returns-then-count-eq0 : goal.returns-then-count-eq0
returns-then-count-eq0 c =
    let ready = ready_in (outs_of c.args.out.now) c.args.queue.now.items in
    sym (ap (chosen (Some c.args.choice)) (nobody_ready ready (sym c.ready_count-count.ensures ∙ c.if-count-eq0.true)))
