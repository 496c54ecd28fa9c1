-- The children for which a process of stack code waits are those for which that of what is run does, and the same of them have ended; who
-- can step waits for none.
use Rattle.std.proofs.Common.{◌≡◌, ◌⊎◌, inl, inr, ℕ, ◌+◌, ◌<◌, Bool, true, false, Option, Some, None, List, length, refl, sym, ap, subst, ◌∙◌, arith}
use Rattle.std.specs.Prelude.{is_some, slice_get}
use Rattle.std.specs.FinMap.{get}
use Rattle.fm_code.specs.declared.ask.Ask.{Ask}
use Rattle.fm_code.specs.declared.ask.Ask.TheVariants as ask
use Rattle.fm_code.specs.declared.body.Body.{Body}
use Rattle.fm_code.specs.Statements as statements
use Rattle.fm_code.specs.Statements.{Action, action_of}
use Rattle.fm_net.specs.Correspondence.{StandsFor}
use Rattle.fm_net.specs.Machine.{Children, Need, Place, State, child, gathered}
use Rattle.fm_net_procs.specs.declared.children.Awaited.{Awaited}
use Rattle.fm_net_procs.specs.Awaited as children
use Rattle.fm_net_procs.specs.Readings.{ended_at as table_ended}
use Rattle.fm_net_procs.proofs.Awaiting.{known_alike, left_alike, told_alike, two}
use Rattle.fm_net_procs.proofs.Family.{not_all_ended}
use Rattle.fm_proc_language.specs.Needs.{need_in, need_of}
use Rattle.fm_proc_language.specs.Processes.{CodeProc, Ended, Faulted, Joining, Kid, Phase, Running, asks_by, joining_by, joins_by}
use Rattle.fm_proc_language.specs.Processes as code
use Rattle.fm_procs.specs.Readings as stacks
use Rattle.fm_run.specs.Orders.{can_at, can_in}
use Rattle.fm_run.specs.Plays as plays
use Rattle.fm_run.specs.Plays.{Play, has_ended, step}
use Rattle.fm_run.specs.Waiting as run
use Rattle.fm_run.proofs.Able.{joins, rests, some_there, steps_there}
use Rattle.fm_run.proofs.Playing.{known_place}
use Rattle.fm_run_code.specs.Coded.{IsCoded}
use Rattle.fm_run_code.proofs.Standing.{ended_alike, there_alike}

-- ---- who joins needs the children of its block, or does nothing more

abbrev RestsOrJoins : Option Need → ℕ → List Kid → Type 0
RestsOrJoins need block kids = (need ≡ None) ⊎ (need ≡ Some (Children block (length kids)))

module _ (y : CodeProc) (block : ℕ) (kids : List Kid) where
  by_ask : (b : Body) (k : Ask) → RestsOrJoins (need_in (joins_by y b block kids k)) block kids
  by_ask b (ask.Fail line fault) = inl refl
  by_ask b (ask.LetGo slots) = inl refl
  by_ask b (ask.Channel inport outport next) = inl refl
  by_ask b (ask.Merger inport outports next) = inl refl
  by_ask b (ask.Send slot items next) = inl refl
  by_ask b (ask.Receive slot items status at_end next) = inl refl
  by_ask b (ask.Probe slot empty next) = inl refl
  by_ask b (ask.Begin next) = inl refl
  by_ask b (ask.Join next) = inr refl
  by_ask b ask.End = inl refl

  by_action : (b : Body) (a : Action) → RestsOrJoins (need_in (joining_by y b block kids a)) block kids
  by_action b statements.Stuck = inl refl
  by_action b (statements.Own after lines drops cost) = inl refl
  by_action b (statements.Meets k) = by_ask b k

  by_body : (o : Option Body) → RestsOrJoins (need_in (asks_by y (Joining block kids) o)) block kids
  by_body None = inl refl
  by_body (Some b) = by_action b (action_of b)

  rests_or_joins : y.phase ≡ Joining block kids → RestsOrJoins (need_of y) block kids
  rests_or_joins phase = subst (λ (ph : Phase). RestsOrJoins (need_in (asks_by y ph y.body)) block kids) (sym phase) (by_body y.body)

not_so : (b : Bool) → (b ≡ true → ⊥) → b ≡ false
not_so false never = refl
not_so true never = absurd (never refl)

module _ (p : Play) (Corresponds : CodeProc → p.Proc → Type 0) (IsLive : State p.Proc → Type 0) (coded : IsCoded p Corresponds IsLive) (s : State p.Proc) (t : State CodeProc) (stands : StandsFor Corresponds IsLive t s) where
  -- whether one has ended
  ended_there : (o : Option p.Proc) → table_ended (has_ended p) o ≡ plays.ended_at p o
  ended_there None = refl
  ended_there (Some x) = refl

  module _ (q : Place) (x : p.Proc) (y : CodeProc) (alike : Corresponds y x) where
    abbrev over : ℕ → ℕ → Bool
    over b i = children.child_ended code.has_ended t.procs q b i

    ends_alike : (b i : ℕ) → over b i ≡ run.child_ended p s q b i
    ends_alike b i = ended_alike p Corresponds IsLive coded s t stands (child q b i) ∙ sym (ended_there (get s.procs (child q b i)))

    pub known_there : (k : ℕ) → run.AreKnown p s q x k → children.AreKnown over (stacks.awaits y) k
    known_there k known =
        subst (λ (o : Option (ℕ × ℕ)). children.AreKnown over o k) (sym (coded.awaits x y alike)) (known_alike (run.child_ended p s q) over (λ b i. sym (ends_alike b i)) (p.awaits x) k known)

    pub left_back : children.HasOneLeft over (stacks.awaits y) → run.HasOneLeft p s q x
    left_back left = left_alike over (run.child_ended p s q) ends_alike (p.awaits x) (subst (λ (o : Option (ℕ × ℕ)). children.HasOneLeft over o) (coded.awaits x y alike) left)

    pub told_back : (r : Awaited) → children.IsAwaited over (stacks.awaits y) r → run.IsAwaited p s q x r
    told_back r told = told_alike over (run.child_ended p s q) ends_alike (p.awaits x) r (subst (λ (o : Option (ℕ × ℕ)). children.IsAwaited over o r) (coded.awaits x y alike) told)

    -- ---- who can step

    module _ (is : get s.procs q ≡ Some x) (can : is_some (step p s q) ≡ true) where
      -- and waits for children can since these have ended
      all_ended : (b : ℕ) (kids : List Kid) → y.phase ≡ Joining b kids → is_some (gathered (has_ended p) s.procs q b 1 (length kids)) ≡ true
      all_ended b kids phase = go (rests_or_joins y b kids phase)
        where
          same : plays.need_of p x ≡ need_of y
          same = sym (coded.needs s stands.live q x y is alike)

          go : RestsOrJoins (need_of y) b kids → is_some (gathered (has_ended p) s.procs q b 1 (length kids)) ≡ true
          go (inl none) = absurd (cc (sym (rests p s q x is (same ∙ none)) ∙ can))
          go (inr needs) = sym (joins p s q x is b (length kids) (same ∙ needs)) ∙ can

      waits_for_nobody : run.HasOneLeft p s q x → ⊥
      waits_for_nobody left = go y.phase refl
        where
          told : (phase : Phase) → y.phase ≡ phase → stacks.awaited_in phase ≡ Some (left.block, left.count)
          told phase ph = sym (ap stacks.awaited_in ph) ∙ coded.awaits x y alike ∙ left.awaits

          go : (phase : Phase) → y.phase ≡ phase → ⊥
          go Running ph = cc (told Running ph)
          go Ended ph = cc (told Ended ph)
          go (Faulted line fault) ph = cc (told (Faulted line fault) ph)
          go (Joining b kids) ph =
              let same = two (told (Joining b kids) ph) in
              let low : left.before < length kids = omega (arith, left.low, same.1) in
              let runs = ap (λ (k : ℕ). table_ended (has_ended p) (get s.procs (child q k (left.before + 1)))) same.0 ∙ left.runs in
              cc (sym (all_ended b kids ph) ∙ not_all_ended (has_ended p) s.procs q b left.before (length kids) low runs)

  -- so nobody says that it waits who says so only of one that does
  pub able_alone : (places : List Place) (n : ℕ) (waits : Bool) → can_at p s places n ≡ true
      → ((q : Place) (x : p.Proc) → slice_get places n ≡ Some q → get s.procs q ≡ Some x → waits ≡ true → run.HasOneLeft p s q x) → waits ≡ false
  able_alone places n waits can left =
      let place = some_there (slice_get places n) (known_place p s places n can) in
      let q = place.0 in
      let steps : is_some (step p s q) ≡ true = sym (ap (can_in p s) place.1) ∙ can in
      let who = steps_there p s q (get s.procs q) refl steps in
      let y = there_alike p Corresponds IsLive coded s t stands q who.0 who.1 in
      not_so waits (λ e. waits_for_nobody q who.0 y.0 y.2 who.1 steps (left q who.0 place.1 who.1 e))
