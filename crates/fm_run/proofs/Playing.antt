-- Runs between two pieces, and their ends.
use Rattle.std.proofs.Common.{◌≡◌, ℕ, ◌+◌, ◌<◌, ◌≤◌, Bool, true, Option, Some, None, List, [], ◌∷◌, ◌++◌, length, filter, replicate, refl, sym, ap, ap₂, ◌∙◌, subst, arith}
use Rattle.std.specs.Prelude.{is_some, slice_get, slice_index_or}
use Rattle.std.specs.FinMap.{get}
use Rattle.std.proofs.lemmas.List.{length-replicate}
use Rattle.std.proofs.lemmas.Option.{get_or_from_slice_get, slice_get_within}
use Rattle.fm_base.specs.declared.schedule.Turn.{Turn}
use Rattle.fm_sched.specs.Schedule.{Can, cost, play, used, IsLegal, IsFinal, IsReached}
use Rattle.fm_sched.proofs.Runs.{IsLegal-append, play-append, used-append, length-le-used, cost-Some}
use Rattle.fm_net.specs.Machine.{Place, State}
use Rattle.fm_net.specs.Owned.{IsOwned}
use Rattle.fm_mean.specs.declared.outcome.Outcome.{Outcome}
use Rattle.fm_net.specs.Starts.{child_places, starts_along, starts_of, choices_of}
use Rattle.fm_net.proofs.Histories.{choices_more, choices_stay}
use Rattle.fm_net.proofs.Orders.{everybody, starts_more}
use Rattle.fm_net_procs.specs.declared.piece.Piece.{Piece}
use Rattle.fm_run.proofs.Plays.{step_costs}
use Rattle.fm_run.specs.declared.run.Ending.{Ending}
use Rattle.fm_run.specs.declared.run.Ending.TheVariants.{Ended, Spent}
use Rattle.fm_run.specs.declared.run.Run.{Run}
use Rattle.fm_run.specs.Orders.{Among, EachOnce, places_of, can_in, can_at, chosen}
use Rattle.fm_run.specs.Pieces.{IsPiece}
use Rattle.fm_run.specs.Runs.{HaveSteps, IsFrontWithin, IsPlayedBy, AreAble, EndsSo, IsRun}
use Rattle.fm_run.proofs.Able.{steps_there}
use Rattle.fm_run.proofs.Numbers.{among_filter, filter_among, none_chosen, once_filter}
use Rattle.fm_run.proofs.Steps.{owned_reached}
use Rattle.fm_run.specs.Plays.{IsLawfulPlay, Play, language, step, first_proc, first, outcome_of}

-- ---- lists of entries

steps_more : (ts : List Turn) (t : Turn) → HaveSteps ts → 1 ≤ t.steps → HaveSteps (ts ++ t ∷ [])
steps_more [] t have some = (some, tt)
steps_more (u ∷ ts) t have some = (have.0, steps_more ts t have.1 some)

-- what stands before the last one
same_front : (ts us : List Turn) (t u : Turn) → ts ++ t ∷ [] ≡ us ++ u ∷ [] → ts ≡ us
same_front [] [] t u e = refl
same_front [] (b ∷ []) t u e = absurd (cc e)
same_front [] (b ∷ c ∷ us) t u e = absurd (cc e)
same_front (a ∷ []) [] t u e = absurd (cc e)
same_front (a ∷ c ∷ ts) [] t u e = absurd (cc e)
same_front (a ∷ ts) (b ∷ us) t u e =
    let head : a ≡ b = cc e in
    let rest : ts ++ t ∷ [] ≡ us ++ u ∷ [] = cc e in
    ap₂ (λ (x : Turn) (xs : List Turn). x ∷ xs) head (same_front ts us t u rest)

-- nothing came before an entry yet
pub front_none : (program : Play) (turns : ℕ) (hs : List Turn) (ps : List Place) → hs ≡ [] → IsFrontWithin program turns hs ps
front_none program turns hs ps none [] last choices whole told = absurd (cc (sym none ∙ whole))
front_none program turns hs ps none (t ∷ front) last choices whole told = absurd (cc (sym none ∙ whole))

module _ (program : Play) where
  -- ---- histories

  pub kept_first : IsPlayedBy program [] ([] ∷ []) (first program) 0
  kept_first = record { choices = []; kept = refl; places_are = refl; legal = tt; there = refl; used_is = refl; some_steps = tt }

  pub kept_reached : (hs : List Turn) (ps : List Place) (s : State program.Proc) (paid : ℕ) → IsPlayedBy program hs ps s paid → IsReached (step program) (first program) s
  kept_reached hs ps s paid kept = (kept.choices, kept.legal, kept.there)

  pub kept_owned : IsLawfulPlay program → (hs : List Turn) (ps : List Place) (s : State program.Proc) (paid : ℕ) → IsPlayedBy program hs ps s paid → IsOwned (language program) s
  kept_owned law hs ps s paid kept = owned_reached program law s (kept_reached hs ps s paid kept)

  pub first_owned : IsLawfulPlay program → IsOwned (language program) (first program)
  first_owned law = kept_owned law [] ([] ∷ []) (first program) 0 kept_first

  each_costs : IsLawfulPlay program → (s : State program.Proc) (p : Place) → Can (step program) s p → 1 ≤ cost (step program) s p
  each_costs law s p can = omega (arith, step_costs program law s p can.0 can.1, cost-Some (step program) s p can.0 can.1)

  -- a piece costs one turn at least
  pub piece_costs : IsLawfulPlay program → (slice : ℕ) (spare : Bool) (s t : State program.Proc) (p : Place) (r : Piece) → IsPiece program slice spare s p r t → 1 ≤ r.cost
  piece_costs law slice spare s t p r piece =
      omega (arith, length-le-used (step program) (each_costs law) s (replicate r.steps p) piece.makes.leads.legal, length-replicate r.steps p, piece.makes.leads.price_is, piece.some_steps)

  module _ (hs : List Turn) (ps : List Place) (s : State program.Proc) (paid : ℕ) (kept : IsPlayedBy program hs ps s paid) where
    pub kept_more : (number : ℕ) (p : Place) → slice_get ps number ≡ Some p → (slice : ℕ) (spare : Bool) (r : Piece) (t : State program.Proc) → IsPiece program slice spare s p r t
        → (js : List Turn) → js ≡ hs ++ record { number = number; steps = r.steps } ∷ [] → (qs : List Place) → qs ≡ ps ++ child_places p r.block 1 r.started → (sum : ℕ) → sum ≡ paid + r.cost → IsPlayedBy program js qs t sum
    kept_more number p who slice spare r t piece js js_is qs qs_is sum sum_is =
        let cs = kept.choices in
        let ds = replicate r.steps p in
        let turn : Turn = record { number = number; steps = r.steps } in
        let there : play (step program) (first program) cs ≡ s = kept.there in
        record {
          choices = cs ++ ds;
          kept =
              ap (λ (ts : List Turn). choices_of ts qs) js_is ∙ ap (choices_of (hs ++ turn ∷ [])) qs_is
              ∙ choices_more hs ps (child_places p r.block 1 r.started) cs turn p kept.kept who;
          places_are =
              qs_is ∙ ap (λ zs. zs ++ child_places p r.block 1 r.started) kept.places_are
              ∙ ap (λ zs. starts_of (language program) (first program) cs ++ zs) (sym (ap (λ (u : State program.Proc). starts_along (language program) u ds) there ∙ piece.makes.starts_are)) ∙ sym (starts_more (language program) (first program) cs ds);
          legal = IsLegal-append (step program) (first program) cs ds kept.legal (subst (λ (u : State program.Proc). IsLegal (step program) u ds) (sym there) piece.makes.leads.legal);
          there = play-append (step program) (first program) cs ds ∙ ap (λ u. play (step program) u ds) there ∙ piece.makes.leads.there;
          used_is = omega (arith, used-append (step program) (first program) cs ds, ap (λ (u : State program.Proc). used (step program) u ds) there, piece.makes.leads.price_is, kept.used_is, sum_is);
          some_steps = subst HaveSteps (sym js_is) (steps_more hs turn kept.some_steps piece.some_steps);
        }

    -- what came before an entry is the front
    pub front_more : (t : Turn) (more : List Place) (js : List Turn) → js ≡ hs ++ t ∷ [] → (qs : List Place) → qs ≡ ps ++ more → (turns : ℕ) → paid ≤ turns → IsFrontWithin program turns js qs
    front_more t more js js_is qs qs_is turns within front last choices whole told =
        let same : hs ≡ front = same_front hs front t last (sym js_is ∙ whole) in
        let there : choices_of hs qs ≡ Some kept.choices = ap (choices_of hs) qs_is ∙ choices_stay hs ps more kept.choices kept.kept in
        let one : kept.choices ≡ choices = cc (sym there ∙ ap (λ (ts : List Turn). choices_of ts qs) same ∙ told) in
        omega (arith, ap (used (step program) (first program)) one, kept.used_is)

  -- ---- who can step

  module _ (s : State program.Proc) (ps : List Place) where
    pub known : (n : ℕ) → can_at program s ps n ≡ true → n < length ps
    known n can = go (slice_get ps n) refl can
      where
        go : (o : Option Place) → slice_get ps n ≡ o → can_in program s o ≡ true → n < length ps
        go None e can' = absurd (cc can')
        go (Some p) e can' = slice_get_within ps n p e

    pub are_able : (order able : List ℕ) → able ≡ filter (can_at program s ps) order → ((n : ℕ) → n < length ps → Among n order) → EachOnce order → AreAble program s ps able
    are_able order able is all once = record {
      within = λ n h. filter_among (can_at program s ps) order n (subst (Among n) is h);
      whole = λ n can. subst (Among n) (sym is) (among_filter (can_at program s ps) order n (all n (known n can)) can);
      once = subst EachOnce (sym is) (once_filter (can_at program s ps) order once);
    }

    -- who can step has a number
    pub known_place : (n : ℕ) → can_at program s ps n ≡ true → is_some (slice_get ps n) ≡ true
    known_place n can = go (slice_get ps n) refl
      where
        go : (o : Option Place) → slice_get ps n ≡ o → is_some o ≡ true
        go None is = absurd (cc (sym (ap (can_in program s) is) ∙ can))
        go (Some p) is = refl

    -- and it is this place
    pub stands_at : (n : ℕ) → can_at program s ps n ≡ true → slice_get ps n ≡ Some (slice_index_or ps n [])
    stands_at n can = go (slice_get ps n) refl can
      where
        go : (o : Option Place) → slice_get ps n ≡ o → can_in program s o ≡ true → slice_get ps n ≡ Some (slice_index_or ps n [])
        go None is none = absurd (cc none)
        go (Some p) is some = is ∙ ap Some (sym (get_or_from_slice_get ps n p [] is))

    pub who_is : (n : ℕ) → can_at program s ps n ≡ true → (p : Place) → slice_get ps n ≡ Some p → is_some (step program s p) ≡ true
    who_is n can p is = sym (ap (can_in program s) is) ∙ can

    -- where nobody among the processes can step, nobody can
    pub nobody_can : AreAble program s ps [] → ((p : Place) (x : program.Proc) → get s.procs p ≡ Some x → (n : ℕ) × (slice_get ps n ≡ Some p)) → IsFinal (step program) s
    nobody_can able all p = go (step program s p) refl
      where
        go : (o : Option (State program.Proc × ℕ)) → step program s p ≡ o → o ≡ None
        go None e = refl
        go (Some r) e =
            let who = steps_there program s p (get s.procs p) refl (ap is_some e) in
            let at = all p who.0 who.1 in
            absurd (able.whole at.0 (ap (can_in program s) at.1 ∙ ap is_some e))

  -- ---- the end

  pub started_all : (hs : List Turn) (ps : List Place) (s : State program.Proc) (paid : ℕ) → IsPlayedBy program hs ps s paid → (p : Place) (x : program.Proc) → get s.procs p ≡ Some x → (n : ℕ) × (slice_get ps n ≡ Some p)
  started_all hs ps s paid kept p x is =
      let at = everybody (language program) (first_proc program) kept.choices kept.legal p x (ap (λ (u : State program.Proc). get u.procs p) kept.there ∙ is) in
      (at.0, ap (λ qs. slice_get qs at.0) kept.places_are ∙ at.1)

  pub run_ended : (turns : ℕ) (hs : List Turn) (ps : List Place) (s : State program.Proc) (able : List ℕ) (paid : ℕ) → IsPlayedBy program hs ps s paid → AreAble program s ps able → able ≡ [] → paid ≤ turns → IsFrontWithin program turns hs ps
      → (o : Outcome) → o ≡ outcome_of program paid s → (r : Run) → r.history.items ≡ hs → places_of r.paths.items ≡ ps → r.ending ≡ Ended o → IsRun program turns r
  run_ended turns hs ps s able paid k exact none within front o o_is r h p e =
      let final : IsFinal (step program) s = nobody_can s ps (subst (λ (ns : List ℕ). AreAble program s ps ns) none exact) (started_all hs ps s paid k) in
      record {
        choices = k.choices;
        kept = ap (λ (ts : List Turn). choices_of ts (places_of r.paths.items)) h ∙ ap (λ (qs : List Place). choices_of hs qs) p ∙ k.kept;
        places = p ∙ k.places_are;
        legal = k.legal;
        some_steps = subst HaveSteps (sym h) k.some_steps;
        front_within = subst (λ (ts : List Turn). IsFrontWithin program turns ts (places_of r.paths.items)) (sym h) (subst (λ (qs : List Place). IsFrontWithin program turns hs qs) (sym p) front);
        ends = subst (λ (z : Ending). EndsSo program turns k.choices z) (sym e) (
          subst (IsFinal (step program)) (sym k.there) final,
          omega (arith, k.used_is),
          o_is ∙ ap (λ (n : ℕ). outcome_of program n s) (sym k.used_is) ∙ ap (outcome_of program (used (step program) (first program) k.choices)) (sym k.there),
        );
      }

  -- main is the first one
  pub main_first : (hs : List Turn) (ps : List Place) (s : State program.Proc) (paid : ℕ) → IsPlayedBy program hs ps s paid → slice_get ps 0 ≡ Some []
  main_first hs ps s paid kept = ap (λ (qs : List Place). slice_get qs 0) kept.places_are

  pub run_spent : (turns : ℕ) (hs : List Turn) (ps : List Place) (s : State program.Proc) (paid : ℕ) → IsPlayedBy program hs ps s paid → turns < paid → IsFrontWithin program turns hs ps
      → (r : Run) → r.history.items ≡ hs → places_of r.paths.items ≡ ps → r.ending ≡ Spent → IsRun program turns r
  run_spent turns hs ps s paid k over front r h p e = record {
    choices = k.choices;
    kept = ap (λ (ts : List Turn). choices_of ts (places_of r.paths.items)) h ∙ ap (λ (qs : List Place). choices_of hs qs) p ∙ k.kept;
    places = p ∙ k.places_are;
    legal = k.legal;
    some_steps = subst HaveSteps (sym h) k.some_steps;
    front_within = subst (λ (ts : List Turn). IsFrontWithin program turns ts (places_of r.paths.items)) (sym h) (subst (λ (qs : List Place). IsFrontWithin program turns hs qs) (sym p) front);
    ends = subst (λ (z : Ending). EndsSo program turns k.choices z) (sym e) (omega (arith, k.used_is));
  }

-- where none is chosen, none is left
pub none_left : (choice : Option ℕ) (able : List ℕ) (o : Option ℕ) → o ≡ chosen choice able → ((n : ℕ) → o ≡ Some n → ⊥) → able ≡ []
none_left choice able None told none = none_chosen choice able (sym told)
none_left choice able (Some n) told none = absurd (none n refl)
