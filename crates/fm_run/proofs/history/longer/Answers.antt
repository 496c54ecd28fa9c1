use Rattle.std.proofs.Common.{◌≡◌, ◌+◌, ap, sym, ◌∙◌, ◌++◌, ◌∷◌, [], ℕ, rules}
use Rattle.fm_run.specs.Entries.{turn_of}
use Rattle.fm_run.proofs.EntryLaws.{lengthened_last}
use Rattle.fm_run.proofs.history.longer.Goals as goal

pub returns : goal.returns
returns c = λ front.
    let whole : c.in_ok-sum.sum ≡ c.args.turn.steps + c.args.steps = search rules in
    lengthened_last front c.args.turn c.args.steps ∙ ap (λ (n : ℕ). front ++ turn_of c.args.turn.number n ∷ []) (sym whole)
