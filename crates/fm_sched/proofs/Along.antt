-- What stays along a legal list.
use Rattle.std.proofs.Common.{◌≡◌, List, [], ◌∷◌, ◌++◌, refl, sym, ap, ◌∙◌, subst}
use Rattle.fm_sched.specs.Schedule.{Step, Can, next, cost, play, IsLegal, NotIn, Stays, Meets, Diamond, IsReached, Throughout}
use Rattle.fm_sched.proofs.Runs.{play-push, IsLegal-push}

pub NotIn-append : {A : Type 0} (p : A) (cs ds : List A) → NotIn p cs → NotIn p ds → NotIn p (cs ++ ds)
NotIn-append p [] ds off more = more
NotIn-append p (c ∷ cs) ds off more = (off.0, NotIn-append p cs ds off.1 more)

module _ {S A : Type 0} (step : Step S A) where
  pub diamond_of : (s : S) → Stays step s → Meets step s → Diamond step s
  diamond_of s stays meets = record { stays = stays; meets = meets }

  pub reached_first : (start : S) → IsReached step start start
  reached_first start = ([], tt, refl)

  pub reached_next : (start s : S) (p : A) → IsReached step start s → Can step s p → IsReached step start (next step s p)
  reached_next start s p reached can = (
    reached.0 ++ p ∷ [],
    IsLegal-push step start reached.0 p reached.1 (subst (λ x. Can step x p) (sym reached.2) can),
    play-push step start reached.0 p ∙ ap (λ x. next step x p) reached.2,
  )

  module _ (Good : S → Type 0) (keeps : (s : S) (p : A) → Good s → Can step s p → Good (next step s p)) where
    -- what each step keeps holds after every legal list
    pub good_after : (cs : List A) (s : S) → Good s → IsLegal step s cs → Good (play step s cs)
    good_after [] s good legal = good
    good_after (c ∷ cs) s good legal = good_after cs (next step s c) (keeps s c good legal.0) legal.1

    pub good_throughout : (start : S) → Good start → Throughout step Good start
    good_throughout start good cs legal = good_after cs start good legal

    -- what follows from it holds throughout
    pub throughout : (Fact : S → Type 0) → ((s : S) → Good s → Fact s) → (start : S) → Good start → Throughout step Fact start
    throughout Fact from start good cs legal = from (play step start cs) (good_after cs start good legal)

    -- who isn't in the list has its step after it
    pub can_after : ((s : S) → Good s → Stays step s) → (cs : List A) (s : S) (p : A) → Good s → IsLegal step s cs → NotIn p cs → Can step s p → Can step (play step s cs) p
    can_after stay [] s p good legal off can = can
    can_after stay (c ∷ cs) s p good legal off can = can_after stay cs (next step s c) p (keeps s c good legal.0) legal.1 off.1 (stay s good p c off.0 can legal.0)

    -- and where the steps commute, at the same cost
    pub stays_after : ((s : S) → Good s → Diamond step s) → (cs : List A) (s : S) (p : A) → Good s → IsLegal step s cs → NotIn p cs → Can step s p → Can step (play step s cs) p × (cost step (play step s cs) p ≡ cost step s p)
    stays_after diamond [] s p good legal off can = (can, refl)
    stays_after diamond (c ∷ cs) s p good legal off can =
        let there = stays_after diamond cs (next step s c) p (keeps s c good legal.0) legal.1 off.1 ((diamond s good).stays p c off.0 can legal.0) in
        (there.0, there.1 ∙ (diamond s good).meets.one_cost p c off.0 can legal.0)

  -- what holds throughout holds in each state that is reached
  pub at_reached : (Fact : S → Type 0) (start s : S) → Throughout step Fact start → IsReached step start s → Fact s
  at_reached Fact start s always reached = subst Fact reached.2 (always reached.0 reached.1)

  pub can_throughout : (start : S) (cs : List A) (p : A) → Throughout step (Stays step) start → IsLegal step start cs → NotIn p cs → Can step start p → Can step (play step start cs) p
  can_throughout start cs p stay legal off can =
      can_after (IsReached step start) (reached_next start) (λ s. at_reached (Stays step) start s stay) cs start p (reached_first start) legal off can

  -- and where the steps commute, at the same cost
  pub cost_throughout : (start : S) (cs : List A) (p : A) → Throughout step (Diamond step) start → IsLegal step start cs → NotIn p cs → Can step start p → cost step (play step start cs) p ≡ cost step start p
  cost_throughout start cs p diamond legal off can =
      (stays_after (IsReached step start) (reached_next start) (λ s. at_reached (Diamond step) start s diamond) cs start p (reached_first start) legal off can).1
