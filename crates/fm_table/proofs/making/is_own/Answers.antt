use Rattle.std.proofs.Common.{◌≡◌, Bool, Some, ap, sym, subst, ◌∙◌, rules}
use Rattle.fm_same.specs.Same.{IsSameTest}
use Rattle.fm_table.proofs.making.is_own.Goals as goal

pub returns-in-Some : goal.returns-in-Some
returns-in-Some c = λ e q y at is.
    let same = subst (λ (r : Bool). IsSameTest r c.in-Some.body.now c.deref.result.now) e c.same_body.ensures in
    let whole : c.in-Some.body.now ≡ c.args.done.now.start.value = same ∙ search rules in
    sym (ap Some whole) ∙ c.in-Some.ensures q y at is
