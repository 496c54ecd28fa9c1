-- What a process does whose next statement asks for something.
use Rattle.std.proofs.Common.{◌≡◌, ℕ, ℤ, Bool, true, false, Option, Some, None, List, [], ◌∷◌, sym, ap, ◌∙◌}
use Rattle.fm_code.specs.declared.ask.Ask.{Ask}
use Rattle.fm_code.specs.declared.ask.Ask.TheVariants as ask
use Rattle.fm_code.specs.declared.body.Body.{Body}
use Rattle.fm_code.specs.Statements as statements
use Rattle.fm_code.specs.Statements.{Action, Own, Meets, action_of}
use Rattle.fm_machine_calls.specs.declared.looking.Look.TheVariants as look
use Rattle.fm_machine_calls.specs.Looks.{look_in}
use Rattle.fm_proc_language.specs.Processes.{CodeProc, Kid, Phase, Running, Joining, Ended, Faulted, asks, asks_by, running_by, joining_by, runs_by, joins_by}
use Rattle.fm_proc_events.specs.Told as told
use Rattle.fm_proc_events.specs.Told.{look_by, look_of, is_running}

-- whether it is asked that ports are let go, and nothing else
abbrev pub lets_go : Ask → Bool
lets_go (ask.Fail line fault) = false
lets_go (ask.LetGo slots) = true
lets_go (ask.Channel inport outport next) = false
lets_go (ask.Merger inport outports next) = false
lets_go (ask.Send slot items next) = false
lets_go (ask.Receive slot items status at_end next) = false
lets_go (ask.Probe slot empty next) = false
lets_go (ask.Begin next) = false
lets_go (ask.Join next) = false
lets_go ask.End = false

gone : (k : Ask) (zs : List ℤ) → look.Asks (ask.LetGo zs) ≡ look.Asks k → lets_go k ≡ true
gone k zs e =
    let same : ask.LetGo zs ≡ k = cc in
    sym (ap lets_go same)

-- what asks for something else than ports to be let go
pub meets_so : (a : Action) (k : Ask) → look_in a ≡ look.Asks k → lets_go k ≡ false → a ≡ Meets k
meets_so statements.Stuck k e f = absurd (cc)
meets_so (Own b lines [] cost) k e f = absurd (cc)
meets_so (Own b lines (z ∷ zs) cost) k e f =
    let yes = gone k (z ∷ zs) e in
    absurd (cc)
meets_so (Meets a) k e f = cc

runs_in : (y : CodeProc) (ph : Phase) (o : Option Body) (b : Body) (k : Ask) → look_by ph o ≡ look.Asks k → told.runs_by ph o ≡ true → lets_go k ≡ false → o ≡ Some b → asks_by y ph o ≡ runs_by y b k
runs_in y Running None b k e f g h = absurd (cc)
runs_in y Running (Some b') b k e f g h =
    let same : b' ≡ b = cc in
    ap (running_by y b') (meets_so (action_of b') k e g) ∙ ap (λ x. runs_by y x k) same
runs_in y (Joining block kids) o b k e f g h = absurd (cc)
runs_in y Ended o b k e f g h = absurd (cc)
runs_in y (Faulted line fault) o b k e f g h = absurd (cc)

-- of a process that makes steps of its own
pub asks_running : (y : CodeProc) (b : Body) (k : Ask) → look_of y ≡ look.Asks k → is_running y ≡ true → lets_go k ≡ false → y.body ≡ Some b → asks y ≡ runs_by y b k
asks_running y b k e f g h = runs_in y y.phase y.body b k e f g h

joins_in : (y : CodeProc) (ph : Phase) (o : Option Body) (b : Body) (block : ℕ) (kids : List Kid) (k : Ask) → look_by ph o ≡ look.Asks k → lets_go k ≡ false → o ≡ Some b → ph ≡ Joining block kids → asks_by y ph o ≡ joins_by y b block kids k
joins_in y ph o b block kids k e f g h =
    let looks : look_in (action_of b) ≡ look.Asks k = ap (λ x. look_by x (Some b)) (sym h) ∙ (ap (look_by ph) (sym g) ∙ e) in
    ap (λ x. asks_by y x o) h ∙ (ap (asks_by y (Joining block kids)) g ∙ ap (joining_by y b block kids) (meets_so (action_of b) k looks f))

-- of one that joins
pub asks_joining : (y : CodeProc) (b : Body) (block : ℕ) (kids : List Kid) (k : Ask) → look_of y ≡ look.Asks k → lets_go k ≡ false → y.body ≡ Some b → y.phase ≡ Joining block kids → asks y ≡ joins_by y b block kids k
asks_joining y b block kids k e f g h = joins_in y y.phase y.body b block kids k e f g h
