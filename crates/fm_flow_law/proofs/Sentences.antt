-- What the sentences say of the PROGRAM of a safe program.
use Rattle.std.proofs.Common.{◌≡◌, ℕ, zero, suc, ◌<◌, Bool, true, false, not, ◌||◌, ◌&&◌, Some, List, [], ◌∷◌, slice_get, take, refl, ap, ◌∙◌, arith}
use Rattle.fm_tree.specs.declared.program_unit.Entry.{Entry}
use Rattle.fm_rules.specs.declared.program.Program.{Program}
use Rattle.fm_mean.specs.Names.{ProgramUnit, unit_at, main_number}
use Rattle.fm_flow_law.specs.Flow.{IsFlowSafe, all_among, any_among, any_processes, channel_out, channel_ports, foreign, given, is_foreign, is_once, is_processes, is_simple, over, shared}
use Rattle.fm_flow_law.proofs.Assembled.{no_risk}
use Rattle.fm_flow_law.proofs.MainWalk.{AreSimple}

or_last : (a : Bool) → (a || true) ≡ true
or_last true = refl
or_last false = refl

or_more : (a b : Bool) → b ≡ true → (a || b) ≡ true
or_more true b e = refl
or_more false b e = e

-- a PROCESSES among the first entries
pub any_taken : (es : List Entry) (i k : ℕ) (d : Entry) → slice_get es i ≡ Some d → is_processes d.stmt ≡ true → i < k → any_processes (take k es) ≡ true
any_taken [] i k d at h less = absurd (cc at)
any_taken (e ∷ es) i zero d at h less = absurd (omega (arith, less))
any_taken (e ∷ es) zero (suc k) d at h less =
    let same : e ≡ d = the_entry e d at in
    ap (λ (b : Bool). b || any_processes (take k es)) (ap (λ (x : Entry). is_processes x.stmt) same ∙ h)
  where
    the_entry : (a b : Entry) → Some a ≡ Some b → a ≡ b
    the_entry a b e = cc
any_taken (e ∷ es) (suc i) (suc k) d at h less = or_more (is_processes e.stmt) (any_processes (take k es)) (any_taken es i k d at h (omega (arith, less)))

module _ (p : Program) (number : ℕ) (u : ProgramUnit) (is_main : main_number p ≡ Some number) (here : unit_at p number ≡ Some u) (safe : IsFlowSafe p) where
  not_foreign : (k : ℕ) (e : Entry) → slice_get u.tree.body k ≡ Some e → is_foreign (take k u.tree.body) e.stmt ≡ true → ⊥
  not_foreign k e at h = no_risk p number u is_main here safe e.line.0 (foreign (k, e, record { there = at; same = refl }, h))

  -- each statement is a simple one
  pub all_simple : AreSimple u
  all_simple k e at = go (is_simple e.stmt) refl
    where
      go : (b : Bool) → is_simple e.stmt ≡ b → b ≡ true
      go true q = refl
      go false q = absurd (not_foreign k e at (ap (λ (b : Bool). not b || is_once e.stmt && any_processes (take k u.tree.body)) q))

  -- no PROCESSES and no CHANNEL stands behind a PROCESSES
  pub once : (i k : ℕ) (d e : Entry) → slice_get u.tree.body i ≡ Some d → is_processes d.stmt ≡ true → slice_get u.tree.body k ≡ Some e → is_once e.stmt ≡ true → i < k → ⊥
  once i k d e at_d h at q less =
      let before = any_taken u.tree.body i k d at_d h less in
      not_foreign k e at (ap (λ (b : Bool). not (is_simple e.stmt) || b && any_processes (take k u.tree.body)) q ∙ ap (λ (b : Bool). not (is_simple e.stmt) || b) before ∙ or_last (not (is_simple e.stmt)))

  -- each outport of a CHANNEL is given by a call
  pub all_outports_go : (k : ℕ) (e : Entry) → slice_get u.tree.body k ≡ Some e → all_among (channel_out u e.stmt) (over (given u) u.tree.body) ≡ true
  all_outports_go k e at = go (all_among (channel_out u e.stmt) (over (given u) u.tree.body)) refl
    where
      go : (b : Bool) → all_among (channel_out u e.stmt) (over (given u) u.tree.body) ≡ b → b ≡ true
      go true q = refl
      go false q =
          let before = any_among (channel_ports u e.stmt) (over (channel_ports u) (take k u.tree.body)) in
          absurd (no_risk p number u is_main here safe e.line.0 (shared (k, e, record { there = at; same = refl }, ap (λ (b : Bool). before || not b) q ∙ or_last before)))
