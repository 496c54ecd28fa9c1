use Rattle.std.proofs.Common.{◌≡◌, ◌<◌, ◌+◌, ◌^◌, ◌==◌, ℕ, false, arith, sym}
use Rattle.std.proofs.lemmas.Bool.Decides.{nat_tests}
use Rattle.std.proofs.lemmas.List.Folds.{list_any_none}
use Rattle.std.proofs.lemmas.List.Elements.{All-from_get_or}
use Rattle.fm_io.proofs.piece.is_listed.Goals as goal

differs : (x y : ℕ) → x < 2 ^ 64 → (y < 2 ^ 64 → ⊥) → (x == y) ≡ false
differs x y small large = grind (arith, nat_tests)

pub returns-in-None : goal.returns-in-None
returns-in-None c =
    let none = c.in-None.ensures in
    sym (list_any_none (λ number. number == c.args.calls + 1) c.args.fail_at.now
    (All-from_get_or (λ number. (number == c.args.calls + 1) ≡ false) _ 0 (λ i _. differs _ _ (c.type_inv.fail_at i).fits none)))
