-- Several steps of one process.
use Rattle.std.proofs.Common.{◌≡◌, ℕ, ◌+◌, Some, List, [], ◌∷◌, ◌++◌, replicate, refl, sym, ap, ◌∙◌, subst, append-nil}
use Rattle.std.proofs.lemmas.Grind.{replicate_next}
use Rattle.fm_sched.specs.Schedule.{play, Leads, IsLegal, IsReached}
use Rattle.fm_sched.proofs.Runs.{leads_nowhere, leads_further, IsLegal-append, play-append}
use Rattle.fm_net.specs.Machine.{Place, State}
use Rattle.fm_net.specs.Owned.{IsOwned}
use Rattle.fm_net.specs.Starts.{starts_at, starts_along}
use Rattle.fm_net.proofs.Orders.{starts-append}
use Rattle.fm_run.proofs.Plays.{owned_along}
use Rattle.fm_run.specs.Pieces.{Makes}
use Rattle.fm_run.specs.Plays.{IsLawfulPlay, Play, language, step, first}

module _ (program : Play) where
  pub makes_none : (s : State program.Proc) (p : Place) → Makes program s p 0 s 0 []
  makes_none s p = record { leads = leads_nowhere (step program) s; starts_are = refl }

  -- one step more, where those before started nobody
  pub makes_more : (s t : State program.Proc) (p : Place) (n cost : ℕ) (r : State program.Proc × ℕ) → Makes program s p n t cost [] → step program t p ≡ Some r
      → Makes program s p (n + 1) r.0 (cost + r.1) (starts_at (language program) t p)
  makes_more s t p n cost r before goes = record {
    leads = subst (λ (cs : List Place). Leads (step program) s cs r.0 (cost + r.1)) (sym (replicate_next n p)) (leads_further (step program) s t (replicate n p) cost p r before.leads goes);
    starts_are =
        ap (starts_along (language program) s) (replicate_next n p) ∙ starts-append (language program) s (replicate n p) (p ∷ [])
        ∙ ap (λ ps. ps ++ (starts_at (language program) (play (step program) s (replicate n p)) p ++ [])) before.starts_are
        ∙ append-nil (starts_at (language program) (play (step program) s (replicate n p)) p) ∙ ap (λ u. starts_at (language program) u p) before.leads.there;
  }

-- ---- states that are reached

pub reached_makes : (program : Play) (s t : State program.Proc) (p : Place) (n cost : ℕ) (ps : List Place) → IsReached (step program) (first program) s → Makes program s p n t cost ps → IsReached (step program) (first program) t
reached_makes program s t p n cost ps reached makes = (
  reached.0 ++ replicate n p,
  IsLegal-append (step program) (first program) reached.0 (replicate n p) reached.1 (subst (λ (u : State program.Proc). IsLegal (step program) u (replicate n p)) (sym reached.2) makes.leads.legal),
  play-append (step program) (first program) reached.0 (replicate n p) ∙ ap (λ u. play (step program) u (replicate n p)) reached.2 ∙ makes.leads.there,
)

pub owned_reached : (program : Play) → IsLawfulPlay program → (s : State program.Proc) → IsReached (step program) (first program) s → IsOwned (language program) s
owned_reached program law s reached = subst (IsOwned (language program)) reached.2 (owned_along program law reached.0 reached.1)
