-- A return, with the ports that it lets go.
use Rattle.std.proofs.Common.{◌≡◌, ◌==◌, ℕ, ℤ, ◌+◌, Bool, true, false, cond, Some, List, [], ◌∷◌, ◌++◌, drop, length, refl, sym, ap, ◌∙◌}
use Rattle.fm_code.specs.declared.body.Body.{Body}
use Rattle.fm_code.specs.declared.body.Frame.{Frame}
use Rattle.fm_code.specs.Passing.{backs_fit, back_words}
use Rattle.fm_code.specs.Statements.{Action, Own, Meets, is_stuck_in, given, gives_back, left_ports, ran, results_in}
use Rattle.fm_code.specs.Statements as statements
use Rattle.fm_machine_calls.specs.declared.looking.Look.TheVariants as look
use Rattle.fm_machine_calls.specs.Looks.{look_by, look_in}
use Rattle.fm_machine.specs.Finished.{drops_in}
use Rattle.fm_machine.proofs.Telling.{goes_run}

fits_by : (fit : Bool) (a : Action) → is_stuck_in (cond fit a statements.Stuck) ≡ false → fit ≡ true
fits_by true a e = refl
fits_by false a e = absurd (cc)

-- what is given back fits
pub returns_fit : (b : Body) (c : Frame) (below below' : List Frame) → below ≡ c ∷ below' → is_stuck_in (gives_back b below) ≡ false → backs_fit (length c.words) (length b.frame.words) b.frame.backs ≡ true
returns_fit b c below below' is e = fits_by (backs_fit (length c.words) (length b.frame.words) b.frame.backs) _ (ap (λ l. is_stuck_in (gives_back b l)) (sym is) ∙ e)

step_so : (fit : Bool) (a : Action) → fit ≡ true → cond fit a statements.Stuck ≡ a
step_so fit a e = rw e refl

owns_drops : (a : Action) (b : Body) (ls : List (List ℕ)) (ds : List ℤ) (cost : ℕ) → a ≡ Own b ls ds cost → a ≡ Own b ls (drops_in a) cost
owns_drops a b ls ds cost e = e ∙ ap (λ l. Own b ls l cost) (sym (ap drops_in e))

-- what the body is then
pub returns_so : (b : Body) (c : Frame) (below below' : List Frame) → below ≡ c ∷ below' → is_stuck_in (gives_back b below) ≡ false → gives_back b below ≡ Own (record b { frame = record c { words = (given b c).mine }; below = below' }) [] (drops_in (gives_back b below)) (1 + back_words b.frame.backs)
returns_so b c below below' is e =
    owns_drops (gives_back b below) _ [] _ _ (ap (gives_back b) is ∙ step_so (backs_fit (length c.words) (length b.frame.words) b.frame.backs) _ (returns_fit b c below below' is e))

pub results_so : (b : Body) (v : ℤ) (c : Frame) (below below' : List Frame) → below ≡ c ∷ below' → results_in b v below ≡ Own (record b { frame = record c { results = c.results ++ v ∷ [] }; below = below' }) [] (drops_in (results_in b v below)) 1
results_so b v c below below' is = owns_drops (results_in b v below) _ [] _ 1 (ap (results_in b v) is)

the_caller : (b : Body) (c c' : Frame) (below' : List Frame) → b.below ≡ c ∷ below' → b.below ≡ c' ∷ drop 1 b.below → c' ≡ c
the_caller b c c' below' is first = cc (sym first ∙ is)

-- a caller that got its words before the frame above it was left
pub returned_whole : (b : Body) (c c' : Frame) (below' : List Frame) (ws : List ℤ) (cost : ℕ) → b.below ≡ c ∷ below' → b.below ≡ c' ∷ drop 1 b.below → is_stuck_in (gives_back b b.below) ≡ false → ws ≡ (given b c').mine → cost ≡ 1 + back_words b.frame.backs
    → gives_back b b.below ≡ Own (record b { frame = record c { words = ws }; below = below' }) [] (drops_in (gives_back b b.below)) cost
returned_whole b c c' below' ws cost is first e words costs =
    let mine : ws ≡ (given b c).mine = words ∙ ap (λ d. (given b d).mine) (the_caller b c c' below' is first) in
    returns_so b c b.below below' is e
    ∙ (ap (λ l. Own (record b { frame = record c { words = l }; below = below' }) [] (drops_in (gives_back b b.below)) (1 + back_words b.frame.backs)) (sym mine)
    ∙ ap (Own (record b { frame = record c { words = ws }; below = below' }) [] (drops_in (gives_back b b.below))) (sym costs))

pub result_whole : (b : Body) (v : ℤ) (c c' : Frame) (below' : List Frame) (rs : List ℤ) → b.below ≡ c ∷ below' → b.below ≡ c' ∷ drop 1 b.below → rs ≡ c'.results ++ v ∷ []
    → results_in b v b.below ≡ Own (record b { frame = record c { results = rs }; below = below' }) [] (drops_in (results_in b v b.below)) 1
result_whole b v c c' below' rs is first results =
    let mine : rs ≡ c.results ++ v ∷ [] = results ∙ ap (λ d. d.results ++ v ∷ []) (the_caller b c c' below' is first) in
    results_so b v c b.below below' is ∙ ap (λ l. Own (record b { frame = record c { results = l }; below = below' }) [] (drops_in (results_in b v b.below)) 1) (sym mine)

goes_unstuck : (a : Action) → look_in a ≡ look.Goes → is_stuck_in a ≡ false
goes_unstuck statements.Stuck e = absurd (cc)
goes_unstuck (Own b lines drops cost) e = refl
goes_unstuck (Meets a) e = refl

-- a return that lets no port go
pub plainly_ran : (b : Body) (c : Frame) (below below' : List Frame) (ws : List ℤ) (cost : ℕ) → below ≡ c ∷ below' → look_in (gives_back b below) ≡ look.Goes → ws ≡ (given b c).mine → cost ≡ 1 + back_words b.frame.backs → ran (gives_back b below) ≡ Some (record { body = record b { frame = record c { words = ws }; below = below' }; lines = []; cost = cost })
plainly_ran b c below below' ws cost is goes words costs =
    goes_run (gives_back b below) _ cost goes
    (returns_so b c below below' is (goes_unstuck (gives_back b below) goes)
    ∙ (ap (λ ws. Own (record b { frame = record c { words = ws }; below = below' }) [] (drops_in (gives_back b below)) (1 + back_words b.frame.backs)) (sym words)
    ∙ ap (Own (record b { frame = record c { words = ws }; below = below' }) [] (drops_in (gives_back b below))) (sym costs)))

-- a result that is left with no port
pub value_goes : (b : Body) (v : ℤ) (below : List Frame) → (length below == 0) ≡ false → ((ws : List ℤ) → left_ports b ws ≡ []) → look_in (results_in b v below) ≡ look.Goes
value_goes b v [] e none = absurd (cc)
value_goes b v (c ∷ below) e none = ap look_by (none b.frame.words)
