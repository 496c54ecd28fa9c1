-- Several statements, and those that change nothing but their frame.
use Rattle.std.proofs.Common.{◌≡◌, ℕ, zero, suc, ◌+◌, ◌++◌, option_and_then, option_map, Option, Some, None, List, [], refl, sym, ap, subst, add-one, ◌∙◌, append-nil, append_assoc}
use Rattle.std.proofs.Math.Nat.{add-zero, add-suc, add_assoc}
use Rattle.fm_code.specs.declared.body.Body.{Body}
use Rattle.fm_code.specs.declared.body.Frame.{Frame}
use Rattle.fm_code.specs.Acts as acts
use Rattle.fm_code.specs.declared.fused.Fused.{Fused}
use Rattle.fm_code.specs.declared.instr.Instr.{Instr}
use Rattle.fm_code.specs.Fused.{AreFused}
use Rattle.fm_code.specs.Acts.{statement}
use Rattle.fm_machine.specs.Finished.{RunsFrame}
use Rattle.fm_code.specs.Statements.{Action, Own, Ran, CodeUnit, ran, unit_at, code_in, action_by, action_of, statement_end_of, with_frame, run, not_moved, grown, one_more}
use Rattle.fm_machine_fused.specs.Onward.{gone}
use Rattle.fm_machine_fused.specs.Nexts.{RunsTo}
use Rattle.fm_machine.proofs.Slices.{one_step, some_ran}

grown_none : (r : Ran) → grown r (not_moved r.body) ≡ r
grown_none r = ap (λ l. record { body = r.body; lines = l; cost = r.cost + zero }) (append-nil r.lines) ∙ ap (λ n. record { body = r.body; lines = r.lines; cost = n }) (add-zero r.cost)

grown_grown : (r s t : Ran) → grown (grown r s) t ≡ grown r (grown s t)
grown_grown r s t =
    ap (λ l. record { body = t.body; lines = l; cost = r.cost + s.cost + t.cost }) (append_assoc r.lines s.lines t.lines)
    ∙ ap (λ n. record { body = t.body; lines = r.lines ++ (s.lines ++ t.lines); cost = n }) (add_assoc r.cost s.cost t.cost)

more_by : (r s : Ran) (o : Option Ran) → option_map (grown (grown r s)) o ≡ option_map (grown r) (option_map (grown s) o)
more_by r s None = refl
more_by r s (Some t) = ap some_ran (grown_grown r s t)

more_of : (r : Ran) (o : Option Ran) → option_and_then one_more (option_map (grown r) o) ≡ option_map (grown r) (option_and_then one_more o)
more_of r None = refl
more_of r (Some s) = more_by r s (ran (action_of s.body))

run_many : (n k : ℕ) (start : Body) (r : Ran) → run k start ≡ Some r → run (k + n) start ≡ option_map (grown r) (run n r.body)
run_many zero k start r e = ap (λ n. run n start) (add-zero k) ∙ (e ∙ ap some_ran (sym (grown_none r)))
run_many (suc n) k start r e = ap (λ n. run n start) (add-suc k n) ∙ (ap (option_and_then one_more) (run_many n k start r e) ∙ more_of r (run n r.body))

-- so many statements more, which put nothing out
pub many_steps : (k n : ℕ) (start body body' : Body) (ls : List (List ℕ)) (c c' : ℕ) → run k start ≡ Some (record { body = body; lines = ls; cost = c }) → run n body ≡ Some (record { body = body'; lines = []; cost = n }) → c' ≡ c + n → run (k + n) start ≡ Some (record { body = body'; lines = ls; cost = c' })
many_steps k n start body body' ls c c' e f g =
    let before : Ran = record { body = body; lines = ls; cost = c } in
    run_many n k start before e ∙ (ap (option_map (grown before)) f
    ∙ (ap (λ l. some_ran (record { body = body'; lines = l; cost = c + n })) (append-nil ls) ∙ ap (λ m. some_ran (record { body = body'; lines = ls; cost = m })) (sym g)))

gone_action : (t : acts.StatementEnd) (b : Body) (m : Frame) → gone t ≡ Some m → action_by b t ≡ Own (with_frame b m) [] [] 1
gone_action (acts.Goes to m') b m e = ap (λ o. owns o b) e where
  owns : Option Frame → Body → Action
  owns None b = action_by b (acts.Goes to m')
  owns (Some m) b = Own (with_frame b m) [] [] 1
gone_action (acts.Prints to line) b m e = absurd (cc)
gone_action (acts.Calls unit to os) b m e = absurd (cc)
gone_action (acts.Refers unit to os) b m e = absurd (cc)
gone_action acts.Returns b m e = absurd (cc)
gone_action (acts.ReturnsValue v) b m e = absurd (cc)
gone_action (acts.Starts unit to os place) b m e = absurd (cc)
gone_action (acts.Closes k to) b m e = absurd (cc)
gone_action (acts.Moves from into to) b m e = absurd (cc)
gone_action (acts.Fails fault) b m e = absurd (cc)
gone_action (acts.Asks a) b m e = absurd (cc)
gone_action acts.Stuck b m e = absurd (cc)

-- one statement more that changes nothing but its frame
gone_step : (k : ℕ) (start body : Body) (m : Frame) → run k start ≡ Some (record { body = body; lines = []; cost = k }) → gone (statement_end_of body) ≡ Some m → run (k + 1) start ≡ Some (record { body = with_frame body m; lines = []; cost = k + 1 })
gone_step k start body m e f =
    one_step k start body (with_frame body m) [] [] [] k (k + 1) 1 e (sym (ap ran (gone_action (statement_end_of body) body m f))) refl refl

frame_step : (code : List Instr) (k : ℕ) (old now new : Frame) → RunsFrame code k old now × (now.unit ≡ old.unit) → (gone (statement code now.address now) ≡ Some new) × (new.unit ≡ now.unit) → RunsFrame code (k + 1) old new × (new.unit ≡ old.unit)
frame_step code k old now new e g = (
  (λ b h.
      let here : code ≡ code_in (unit_at b now.unit) = h ∙ ap (λ u. code_in (unit_at b u)) (sym e.1) in
      gone_step k (with_frame b old) (with_frame b now) new (e.0 b h) (ap (λ is. gone (statement is now.address now)) (sym here) ∙ g.0)),
  g.1 ∙ e.1,
)

-- statements of a frame are statements of each body that has it
runs_frame : (code : List Instr) (k : ℕ) (old new : Frame) → RunsTo code k old new → RunsFrame code k old new × (new.unit ≡ old.unit)
runs_frame code zero old new e = subst (λ (m : Frame). RunsFrame code zero old m × (m.unit ≡ old.unit)) (sym e) ((λ b h. refl), refl)
runs_frame code (suc k) old new e =
    subst (λ n. RunsFrame code n old new × (new.unit ≡ old.unit)) (add-one k)
    (frame_step code k old e.0 new (runs_frame code k old e.0 e.1) e.2)

-- the same of a body, whose unit they stand beside
pub of_body : (fs : List Fused) (n : ℕ) (u : CodeUnit) (b : Body) (new : Frame) → ((code : List Instr) → AreFused fs code → RunsTo code n b.frame new) → ((u : CodeUnit) → unit_at b b.frame.unit ≡ Some u → AreFused fs u.code) → unit_at b b.frame.unit ≡ Some u → run n b ≡ Some (record { body = with_frame b new; lines = []; cost = n })
of_body fs n u b new h f e = (runs_frame u.code n b.frame new (h u.code (f u e))).0 b (sym (ap code_in e))

pub many_kept : (k n all : ℕ) (start body body' body'' : Body) (ls : List (List ℕ)) (c c' c'' : ℕ) → run k start ≡ Some (record { body = body; lines = ls; cost = c }) → run n body ≡ Some (record { body = body'; lines = []; cost = n }) → c' ≡ c + n → all ≡ k + n → body'' ≡ body' → c'' ≡ c' → run all start ≡ Some (record { body = body''; lines = ls; cost = c'' })
many_kept k n all start body body' body'' ls c c' c'' e f g h i j =
    ap (λ n. run n start) h ∙ (many_steps k n start body body' ls c c' e f g
    ∙ (ap (λ b. some_ran (record { body = b; lines = ls; cost = c' })) (sym i) ∙ ap (λ m. some_ran (record { body = body''; lines = ls; cost = m })) (sym j)))
