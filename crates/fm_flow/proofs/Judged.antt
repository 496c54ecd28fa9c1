-- The tests that walk over the body are the sentences on its entries.
use Rattle.std.proofs.Common.{◌≡◌, ◌⊎◌, inl, inr, ⊎_elim, ℕ, Bool, true, false, not, ◌||◌, ◌&&◌, Option, Some, None, List, [], ◌∷◌, ◌++◌, take, slice_get, refl, sym, ap, ◌∙◌, subst, append_assoc}
use Rattle.std.proofs.lemmas.List.{append-nil}
use Rattle.fm_base.specs.declared.name.Line.{Line}
use Rattle.fm_tree.specs.declared.program_unit.Entry.{Entry}
use Rattle.fm_tree.specs.declared.statement.Stmt.{Stmt}
use Rattle.fm_tree.specs.declared.statement.Stmt.TheVariants as stmt
use Rattle.fm_call_graph.specs.Least.{lower_if}
use Rattle.fm_rules.specs.declared.program.Program.{Program}
use Rattle.fm_mean.specs.Names.{ProgramUnit, unit_at}
use Rattle.fm_mean.proofs.Sorts.{named_at}
use Rattle.fm_flow_law.specs.Flow.{IsEntryAt, Makes, all_among, any_among, any_processes, channel_out, channel_ports, given, is_among, is_foreign, is_once, is_processes, is_shared, is_simple, keeps_outport, over, repeats, started}
use Rattle.fm_flow.specs.Marks.{all_flags, any_flag, comes_again, marked}
use Rattle.fm_flow.specs.Units.{TellsRisks, is_risky_unit}
use Rattle.fm_flow.specs.Walks.{foreign_from, is_foreign_at, is_risky_at, is_shared_at, no_flags, risky_from, sent_from, shared_from}
use Rattle.fm_flow.proofs.Marked.{AreBelow, Tells, again_told, all_told, among_both, any_told, or_swap, tells_more, tells_none, tells_same}
use Rattle.fm_flow.proofs.PortPlaces.{channel_below, given_below, out_port_below, over_push, ports_of}
use Rattle.fm_flow.proofs.Walked.{HasOne, IsRight, has_one, walk}

-- an entry of the body that counts, by those before it
pub record HasEntry (u : ProgramUnit) (Counts : List Entry → Entry → Type 0) (line : ℕ) : Type 0 where
  pub place : ℕ
  pub entry : Entry
  pub at : IsEntryAt u line place entry
  pub counts : Counts (take place u.tree.body) entry

pub to_entry : (u : ProgramUnit) (Counts : List Entry → Entry → Type 0) (line : ℕ) → HasOne Counts [] u.tree.body line → HasEntry u Counts line
to_entry u Counts line (has_one k e at t l) = record { place = k; entry = e; at = record { there = at; same = l }; counts = t }

pub from_entry : (u : ProgramUnit) (Counts : List Entry → Entry → Type 0) (line : ℕ) → HasEntry u Counts line → HasOne Counts [] u.tree.body line
from_entry u Counts line h = has_one h.place h.entry h.at.there h.counts h.at.same

-- ---- statements that aren't allowed

processes_push : (before : List Entry) (e : Entry) → any_processes (before ++ e ∷ []) ≡ (any_processes before || is_processes e.stmt)
processes_push [] e = or_false (is_processes e.stmt)
  where
    or_false : (a : Bool) → (a || false) ≡ a
    or_false true = refl
    or_false false = refl
processes_push (d ∷ ds) e = ap (λ (b : Bool). is_processes d.stmt || b) (processes_push ds e) ∙ or_assoc (is_processes d.stmt) (any_processes ds) (is_processes e.stmt)
  where
    or_assoc : (a b c : Bool) → (a || (b || c)) ≡ ((a || b) || c)
    or_assoc true b c = refl
    or_assoc false b c = refl

abbrev pub foreign_test : Bool → Entry → Bool
foreign_test met e = is_foreign_at met e.stmt

abbrev pub foreign_next : Bool → Entry → Bool
foreign_next met e = met || is_processes e.stmt

abbrev pub IsForeignBy : List Entry → Entry → Type 0
IsForeignBy before e = is_foreign before e.stmt ≡ true

pub foreign_walk : (met : Bool) (best : Option Line) (es : List Entry) → foreign_from met best es ≡ walk foreign_test foreign_next met best es
foreign_walk met best [] = refl
foreign_walk met best (e ∷ es) = foreign_walk (foreign_next met e) (lower_if (foreign_test met e) best e.line) es

pub foreign_right : (body : List Entry) → IsRight body foreign_test foreign_next IsForeignBy (λ before met. met ≡ any_processes before)
foreign_right body = record {
  more = λ before e met knows. ap (λ (b : Bool). b || is_processes e.stmt) knows ∙ sym (processes_push before e);
  sound = λ before rest e met is knows t. ap (λ (b : Bool). not (is_simple e.stmt) || is_once e.stmt && b) (sym knows) ∙ t;
  whole = λ before rest e met is knows t. ap (λ (b : Bool). not (is_simple e.stmt) || is_once e.stmt && b) knows ∙ t;
}

-- ---- ports that have been met

module _ (u : ProgramUnit) where
  abbrev pub Met : (Stmt → List ℕ) → List Entry → List Bool → Type 0
  Met f before flags = Tells (ports_of u) flags (λ i. is_among i (over f before))

  pub none_met : (f : Stmt → List ℕ) → Met f [] (no_flags u)
  none_met f = tells_none (ports_of u)

  met_push : (f : Stmt → List ℕ) → ((s : Stmt) → AreBelow (ports_of u) (f s)) → (before : List Entry) (e : Entry) (flags : List Bool) → Met f before flags → Met f (before ++ e ∷ []) (marked flags (f e.stmt))
  met_push f below before e flags h =
      tells_same (ports_of u) (marked flags (f e.stmt)) (λ i. is_among i (f e.stmt) || is_among i (over f before)) (λ i. is_among i (over f (before ++ e ∷ [])))
      (λ i. or_swap (is_among i (f e.stmt)) (is_among i (over f before)) ∙ sym (among_both i (over f before) (f e.stmt)) ∙ ap (is_among i) (sym (over_push f before e)))
      (tells_more (ports_of u) flags (λ i. is_among i (over f before)) (f e.stmt) (below e.stmt) h)

  sent_met : (before es : List Entry) (flags : List Bool) → Met (given u) before flags → Met (given u) (before ++ es) (sent_from u flags es)
  sent_met before [] flags h = subst (λ (b : List Entry). Met (given u) b flags) (sym (append-nil before)) h
  sent_met before (e ∷ es) flags h =
      subst (λ (b : List Entry). Met (given u) b (sent_from u (marked flags (given u e.stmt)) es)) (append_assoc before (e ∷ []) es)
      (sent_met (before ++ e ∷ []) es (marked flags (given u e.stmt)) (met_push (given u) (given_below u) before e flags h))

  pub all_sent : Met (given u) u.tree.body (sent_from u (no_flags u) u.tree.body)
  all_sent = sent_met [] u.tree.body (no_flags u) (none_met (given u))

  -- ---- channels

  abbrev pub shared_test : List Bool → List Bool → Entry → Bool
  shared_test sent met e = is_shared_at u sent met e.stmt

  abbrev pub shared_next : List Bool → Entry → List Bool
  shared_next met e = marked met (channel_ports u e.stmt)

  abbrev pub IsSharedBy : List Entry → Entry → Type 0
  IsSharedBy before e = is_shared u before e.stmt ≡ true

  pub shared_walk : (sent met : List Bool) (best : Option Line) (es : List Entry) → shared_from u sent met best es ≡ walk (shared_test sent) shared_next met best es
  shared_walk sent met best [] = refl
  shared_walk sent met best (e ∷ es) = shared_walk sent (shared_next met e) (lower_if (shared_test sent met e) best e.line) es

  shared_told : (sent met : List Bool) → Met (given u) u.tree.body sent → (before : List Entry) → Met (channel_ports u) before met → (s : Stmt) → is_shared_at u sent met s ≡ is_shared u before s
  shared_told sent met sends before knows s =
      ap (λ (b : Bool). b || not (all_flags sent (channel_out u s))) (any_told (ports_of u) met (over (channel_ports u) before) (channel_ports u s) (channel_below u s) knows)
      ∙ ap (λ (b : Bool). any_among (channel_ports u s) (over (channel_ports u) before) || not b) (all_told (ports_of u) sent (over (given u) u.tree.body) (channel_out u s) (out_port_below u s) sends)

  pub shared_right : (sent : List Bool) → Met (given u) u.tree.body sent → IsRight u.tree.body (shared_test sent) shared_next IsSharedBy (Met (channel_ports u))
  shared_right sent sends = record {
    more = λ before e met knows. met_push (channel_ports u) (channel_below u) before e met knows;
    sound = λ before rest e met is knows t. sym (shared_told sent met sends before knows e.stmt) ∙ t;
    whole = λ before rest e met is knows t. shared_told sent met sends before knows e.stmt ∙ t;
  }

  -- ---- calls

  module _ (p : Program) (risks : List Bool) (tells : TellsRisks p risks) where
    pub data IsRiskyBy (before : List Entry) (e : Entry) : Type 0 where
      gives_again : repeats (over (given u) before) (given u e.stmt) ≡ true → IsRiskyBy before e
      keeps_one : (v : ℕ × ProgramUnit) → started p e.stmt ≡ Some v → keeps_outport v.1.names.variables ≡ true → IsRiskyBy before e
      makes_more : (v : ℕ × ProgramUnit) → started p e.stmt ≡ Some v → Makes p v.0 → IsRiskyBy before e

    abbrev pub risky_test : List Bool → Entry → Bool
    risky_test met e = is_risky_at p u risks met e.stmt

    abbrev pub risky_next : List Bool → Entry → List Bool
    risky_next met e = marked met (given u e.stmt)

    pub risky_walk : (met : List Bool) (best : Option Line) (es : List Entry) → risky_from p u risks met best es ≡ walk risky_test risky_next met best es
    risky_walk met best [] = refl
    risky_walk met best (e ∷ es) = risky_walk (risky_next met e) (lower_if (risky_test met e) best e.line) es

    started_there : (s : Stmt) (v : ℕ × ProgramUnit) → started p s ≡ Some v → unit_at p v.0 ≡ Some v.1
    unfolding started
    started_there (stmt.ProcessCall name part) v e = named_at p name v.0 v.1 e
    started_there s v e = absurd (cc e)

    or_later : (a b : Bool) → b ≡ true → (a || b) ≡ true
    or_later true b e = refl
    or_later false b e = e

    or_first : (a b : Bool) → a ≡ true → (a || b) ≡ true
    or_first true b e = refl
    or_first false b e = absurd (cc e)

    unit_risky : (before : List Entry) (e : Entry) → is_risky_unit risks (started p e.stmt) ≡ true → IsRiskyBy before e
    unit_risky before e t = go (started p e.stmt) refl t
      where
        go : (o : Option (ℕ × ProgramUnit)) → started p e.stmt ≡ o → is_risky_unit risks o ≡ true → IsRiskyBy before e
        go None is r = absurd (cc r)
        go (Some v) is r =
            ⊎_elim (λ (k : keeps_outport v.1.names.variables ≡ true). keeps_one v is k) (λ (m : Makes p v.0). makes_more v is m) (tells.risky v.0 v.1 (started_there e.stmt v is) r)

    risky_sound : (before : List Entry) (e : Entry) (met : List Bool) → Met (given u) before met → risky_test met e ≡ true → IsRiskyBy before e
    risky_sound before e met knows t = go (comes_again false met (given u e.stmt)) refl t
      where
        go : (b : Bool) → comes_again false met (given u e.stmt) ≡ b → (b || is_risky_unit risks (started p e.stmt)) ≡ true → IsRiskyBy before e
        go true is r = gives_again (sym (again_told (ports_of u) met (over (given u) before) (given u e.stmt) (given_below u e.stmt) knows) ∙ is)
        go false is r = unit_risky before e r

    risky_whole : (before : List Entry) (e : Entry) (met : List Bool) → Met (given u) before met → IsRiskyBy before e → risky_test met e ≡ true
    risky_whole before e met knows (gives_again t) =
        or_first (comes_again false met (given u e.stmt)) (is_risky_unit risks (started p e.stmt)) (again_told (ports_of u) met (over (given u) before) (given u e.stmt) (given_below u e.stmt) knows ∙ t)
    risky_whole before e met knows (keeps_one v is k) =
        or_later (comes_again false met (given u e.stmt)) (is_risky_unit risks (started p e.stmt)) (ap (is_risky_unit risks) is ∙ tells.keeps v.0 v.1 (started_there e.stmt v is) k)
    risky_whole before e met knows (makes_more v is m) =
        or_later (comes_again false met (given u e.stmt)) (is_risky_unit risks (started p e.stmt)) (ap (is_risky_unit risks) is ∙ tells.makes v.0 v.1 (started_there e.stmt v is) m)

    pub risky_right : IsRight u.tree.body risky_test risky_next IsRiskyBy (Met (given u))
    risky_right = record {
      more = λ before e met knows. met_push (given u) (given_below u) before e met knows;
      sound = λ before rest e met is knows t. risky_sound before e met knows t;
      whole = λ before rest e met is knows t. risky_whole before e met knows t;
    }
