-- What is told of a body, and what it asks for.
use Rattle.std.proofs.Common.{◌≡◌, ℕ, Some, None, List, [], ◌∷◌, refl, ap}
use Rattle.fm_code.specs.declared.ask.Ask.{Ask}
use Rattle.fm_code.specs.declared.body.Body.{Body}
use Rattle.fm_code.specs.Statements as statements
use Rattle.fm_code.specs.Statements.{Action, Own, Meets, ran, ask_in}
use Rattle.fm_machine_calls.specs.declared.looking.Look.TheVariants as look
use Rattle.fm_machine_calls.specs.Looks.{look_in}
use Rattle.fm_machine.specs.Finished.{asked_in, drops_in}

pub asked_look : (a : Action) → asked_in (look_in a) ≡ ask_in a
asked_look statements.Stuck = refl
asked_look (Own b lines [] cost) = refl
asked_look (Own b lines (z ∷ zs) cost) = refl
asked_look (Meets a) = refl

-- a step that lets nothing go
pub goes_run : (a : Action) (b : Body) (cost : ℕ) → look_in a ≡ look.Goes → a ≡ Own b [] (drops_in a) cost → ran a ≡ Some (record { body = b; lines = []; cost = cost })
goes_run statements.Stuck b cost e f = absurd (cc)
goes_run (Own b' lines [] cost') b cost e f = ap ran f
goes_run (Own b' lines (z ∷ zs) cost') b cost e f = absurd (cc)
goes_run (Meets a) b cost e f = absurd (cc)

-- what asks makes no step
pub asks_run : (a : Action) (k : Ask) → look_in a ≡ look.Asks k → ran a ≡ None
asks_run statements.Stuck k e = refl
asks_run (Own b lines [] cost) k e = absurd (cc)
asks_run (Own b lines (z ∷ zs) cost) k e = refl
asks_run (Meets a) k e = refl

pub stuck_run : (a : Action) → look_in a ≡ look.Stuck → ran a ≡ None
stuck_run statements.Stuck e = refl
stuck_run (Own b lines [] cost) e = absurd (cc)
stuck_run (Own b lines (z ∷ zs) cost) e = absurd (cc)
stuck_run (Meets a) e = absurd (cc)

-- what makes a step tells nothing
pub ran_goes : (a : Action) (b : Body) (lines : List (List ℕ)) (cost : ℕ) → ran a ≡ Some (record { body = b; lines = lines; cost = cost }) → look_in a ≡ look.Goes
ran_goes statements.Stuck b lines cost e = absurd (cc)
ran_goes (Own b' lines' [] cost') b lines cost e = refl
ran_goes (Own b' lines' (z ∷ zs) cost') b lines cost e = absurd (cc)
ran_goes (Meets a) b lines cost e = absurd (cc)
