-- What a slice did that was made outside, by what its process does next.
use Rattle.std.proofs.Common.{◌≡◌, ◌⊎◌, inl, inr, ◌≤◌, ℕ, zero, suc, ◌+◌, false, option_and_then, option_map, Some, None, [], ◌∷◌, refl, sym, ap, ◌∙◌, arith}
use Rattle.fm_code.specs.declared.ask.Ask.{Ask}
use Rattle.fm_code.specs.declared.body.Body.{Body}
use Rattle.fm_code.specs.Statements as code
use Rattle.fm_code.specs.Statements.{Action, Ran, action_of, ask_in, ask_of, grown, is_stuck_in, not_moved, one_more, ran, run}
use Rattle.fm_machine.specs.declared.done.Done.{Done}
use Rattle.fm_machine.proofs.Telling.{asks_run}
use Rattle.fm_machine_calls.specs.declared.looking.Look.TheVariants as look
use Rattle.fm_machine_calls.specs.Looks.{look_in}
use Rattle.fm_net.specs.Machine.{Place, State}
use Rattle.fm_proc_language.specs.Processes.{CodeProc, Phase, Running, Joining, Ended, Faulted}
use Rattle.fm_proc_events.specs.Told.{look_by, look_of}
use Rattle.fm_net_procs.specs.declared.piece.Piece.{Piece as CodePiece}
use Rattle.fm_procs.specs.Pieces.{Finishes}

goes_asks : (a : Action) → look_in a ≡ look.Goes → ask_in a ≡ None
goes_asks code.Stuck e = absurd (cc e)
goes_asks (code.Own after lines [] cost) e = refl
goes_asks (code.Own after lines (z ∷ zs) cost) e = absurd (cc e)
goes_asks (code.Meets k) e = absurd (cc e)

goes_free : (a : Action) → look_in a ≡ look.Goes → is_stuck_in a ≡ false
goes_free code.Stuck e = absurd (cc e)
goes_free (code.Own after lines drops cost) e = refl
goes_free (code.Meets k) e = absurd (cc e)

the_body : (r s : Ran) → Some r ≡ Some s → r.body ≡ s.body
the_body r s e =
    let same : r ≡ s = cc in
    ap (λ (t : Ran). t.body) same

-- where its start goes on, it did a statement
some_steps : (d : Done) → look_in (action_of d.start.value) ≡ look.Goes → 1 ≤ d.steps
some_steps d goes = go d.steps refl
  where
    go : (n : ℕ) → d.steps ≡ n → 1 ≤ d.steps
    go zero e =
        let stays : d.start.value ≡ d.end.value = the_body (not_moved d.start.value) (record { body = d.end.value; lines = d.lines; cost = d.cost }) (ap (λ n. run n d.start.value) (sym e) ∙ d.ran) in
        d.moves (d.asks ∙ ap ask_of (sym stays) ∙ goes_asks (action_of d.start.value) goes) (goes_free (action_of d.start.value) goes)
    go (suc n) e = omega (arith, e)

runs_none : (k : ℕ) (b : Body) → ran (action_of b) ≡ None → run (suc k) b ≡ None
runs_none zero b e = ap (option_map (grown (not_moved b))) e
runs_none (suc k) b e = ap (option_and_then one_more) (runs_none k b e)

-- where its start asks for something, it did none
no_steps : (d : Done) (k : Ask) → look_in (action_of d.start.value) ≡ look.Asks k → d.steps ≡ 0
no_steps d k asks = go d.steps refl
  where
    go : (n : ℕ) → d.steps ≡ n → d.steps ≡ 0
    go zero e = e
    go (suc n) e = absurd (cc (sym (runs_none n d.start.value (asks_run (action_of d.start.value) k asks)) ∙ ap (λ m. run m d.start.value) (sym e) ∙ d.ran))

told_goes : (phase : Phase) (b : Body) → look_by phase (Some b) ≡ look.Goes → look_in (action_of b) ≡ look.Goes
told_goes Running b e = e
told_goes (Joining block kids) b e = e
told_goes Ended b e = absurd (cc e)
told_goes (Faulted line fault) b e = absurd (cc e)

told_asks : (phase : Phase) (b : Body) (k : Ask) → look_by phase (Some b) ≡ look.Asks k → look_in (action_of b) ≡ look.Asks k
told_asks Running b k e = e
told_asks (Joining block kids) b k e = e
told_asks Ended b k e = absurd (cc e)
told_asks (Faulted line fault) b k e = absurd (cc e)

module _ (y : CodeProc) (d : Done) (own : y.body ≡ Some d.start.value) where
  -- the slice of a process that goes on has a statement
  pub given_some : look_of y ≡ look.Goes → 1 ≤ d.steps
  given_some goes = some_steps d (told_goes y.phase d.start.value (ap (look_by y.phase) (sym own) ∙ goes))

  -- that of one that asks for something has none
  pub given_none : (k : Ask) → look_of y ≡ look.Asks k → d.steps ≡ 0
  given_none k asks = no_steps d k (told_asks y.phase d.start.value k (ap (look_by y.phase) (sym own) ∙ asks))

-- behind so many statements comes one step or none
pub finished_steps : (s : State CodeProc) (p : Place) (steps cost : ℕ) (r : CodePiece) (t : State CodeProc) → Finishes s p steps cost r t → (r.steps ≡ steps) ⊎ (r.steps ≡ steps + 1)
finished_steps s p steps cost r t (inl h) = inr h.1.steps_are
finished_steps s p steps cost r t (inr (inl waits)) = inl (ap (λ (q : CodePiece). q.steps) waits.piece)
finished_steps s p steps cost r t (inr (inr pauses)) = inl (ap (λ (q : CodePiece). q.steps) pauses.piece)
