use Rattle.std.proofs.Common.{◌≡◌, ◌<◌, ℕ, length, ap, sym, arith, ◌∙◌}
use Rattle.std.specs.Prelude.{slice_get, Option}
use Rattle.std.proofs.lemmas.Bool.{eqb-false}
use Rattle.std.proofs.lemmas.Option.{slice_get-get_or}
use Rattle.fm_run.specs.Orders.{place_chosen}
use Rattle.fm_run.proofs.Numbers.{place_within}
use Rattle.fm_run.proofs.orders.chosen.Goals as goal
use Rattle.fm_run.proofs.orders.chosen.Goals.{in-Some, in-None}

pub returns : goal.returns
returns c =
    let able = c.args.able.now.items in
    let whole = c.args.able.now.ok.0 in
    let is : c.match-choice.place ≡ place_chosen c.args.choice (length able) = elim c.match-choice.branch [
      | in-Some w ↦ w.place-is ∙ ap (λ (n : ℕ). place_chosen (Option.Some w.in-Some.number) n) (w.len.ensures ∙ whole) ∙ sym (ap (λ (o : Option ℕ). place_chosen o (length able)) w.in-Some.is)
      | in-None w ↦ w.place-is ∙ sym (ap (λ (o : Option ℕ). place_chosen o (length able)) w.in-None.is)
    ] in
    let some : 0 < length able = omega (arith, whole, eqb-false c.args.able.now.len 0 (sym c.is_empty.ensures ∙ c.if-is_empty.false)) in
    let low : place_chosen c.args.choice (length able) < length able = place_within c.args.choice (length able) some in
    sym (ap (slice_get able) (sym is) ∙ slice_get-get_or able c.match-choice.place c.index.result.now (omega (arith, is, low)) ∙ ap (λ (n : ℕ). Option.Some n) (sym c.index.ensures))
