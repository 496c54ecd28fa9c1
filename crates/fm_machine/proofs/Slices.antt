-- A slice makes a step, unless its start asks for something or is stuck.
use Rattle.std.proofs.Common.{◌≡◌, ◌≢◌, ℕ, zero, suc, ◌+◌, ◌++◌, add-one, option_and_then, option_map, ◌≤◌, true, false, Option, Some, None, List, [], ◌∷◌, refl, sym, ap, arith, ◌∙◌}
use Rattle.fm_code.specs.declared.body.Body.{Body}
use Rattle.fm_code.specs.Statements as statements
use Rattle.fm_code.specs.Statements.{Action, Own, Meets, Ran, ran, action_of, ask_in, ask_of, is_stuck_in, is_stuck, run, not_moved, grown, one_more}

stuck_by : (a : Action) → ran a ≡ None → ask_in a ≡ None → is_stuck_in a ≡ true
stuck_by statements.Stuck e f = refl
stuck_by (Own b lines [] cost) e f = absurd (cc)
stuck_by (Own b lines (z ∷ zs) cost) e f = absurd (cc)
stuck_by (Meets a) e f = absurd (cc)

the_body : (r s : Ran) → Some r ≡ Some s → r.body ≡ s.body
the_body r s e =
    let same : r ≡ s = cc in
    ap (λ (t : Ran). t.body) same

pub moves_so : (steps slice : ℕ) (start body : Body) (lines : List (List ℕ)) (cost : ℕ) → run steps start ≡ Some (record { body = body; lines = lines; cost = cost }) → (steps ≢ slice → ran (action_of body) ≡ None) → 1 ≤ slice → ask_of body ≡ None → is_stuck start ≡ false → 1 ≤ steps
moves_so zero slice start body lines cost e f g h i =
    let same : start ≡ body = the_body (not_moved start) (record { body = body; lines = lines; cost = cost }) e in
    let short : zero ≢ slice = omega (arith, g) in
    let stuck : is_stuck start ≡ true = ap is_stuck same ∙ stuck_by (action_of body) (f short) h in
    absurd (cc)
moves_so (suc n) slice start body lines cost e f g h i = omega arith

abbrev pub some_ran : Ran → Option Ran
some_ran r = Some r

-- one statement more
pub one_step : (k : ℕ) (start body body' : Body) (ls ls' more : List (List ℕ)) (c c' m : ℕ) → run k start ≡ Some (record { body = body; lines = ls; cost = c }) → Some (record { body = body'; lines = more; cost = m }) ≡ ran (action_of body) → ls' ≡ ls ++ more → c' ≡ c + m → run (k + 1) start ≡ Some (record { body = body'; lines = ls'; cost = c' })
one_step k start body body' ls ls' more c c' m e f g h =
    let before : Ran = record { body = body; lines = ls; cost = c } in
    ap (λ n. run n start) (add-one k) ∙ (ap (option_and_then one_more) e ∙ (ap (option_map (grown before)) (sym f)
    ∙ (ap (λ l. some_ran (record { body = body'; lines = l; cost = c + m })) (sym g) ∙ ap (λ n. some_ran (record { body = body'; lines = ls'; cost = n })) (sym h))))
