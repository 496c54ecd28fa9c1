-- Local steps leave a process in its phase.
use Rattle.std.proofs.Common.{◌≡◌, ℕ, Bool, zero, suc, ◌+◌, Option, Some, None, List, [], ◌∷◌, refl, sym, ap, ◌∙◌}
use Rattle.std.specs.Prelude.{option_and_then}
use Rattle.fm_base.specs.declared.port.PortValue.{PortValue}
use Rattle.fm_plain_frame.specs.LetGo.{let_go_ports}
use Rattle.fm_rules.specs.declared.program.Program.{Program}
use Rattle.fm_mean.specs.Process.{Proc}
use Rattle.fm_mean.specs.Actions.{Action, Rest, Own, Meets, action_of, gone_on, local_by, local_in, local_step}
use Rattle.fm_plain.specs.Advance.{IsAdvanced, StopsAt, local_steps, with_cost}
use Rattle.fm_plain.specs.Steps.{own_in}
use Rattle.fm_plain.specs.declared.advancing.Advanced.{Advanced}
use Rattle.fm_plain.specs.declared.advancing.Stop.{Stop}
use Rattle.fm_plain.specs.declared.advancing.Stop.TheVariants.{More, Event, LetsGo, Short}

first_of : (a b : Proc × ℕ) → Some a ≡ Some b → a.0 ≡ b.0
first_of a b e = let same : a ≡ b = cc e in ap (λ (r : Proc × ℕ). r.0) same

by_drops : (y : Proc) (drops : List PortValue) (cost : ℕ) (r : Proc × ℕ) → local_by y drops cost ≡ Some r → r.0 ≡ y
by_drops y [] cost r e = sym (first_of (y, cost) r e)
by_drops y (z ∷ zs) cost r e = absurd (cc e)

module _ (x : Proc) where
  by_action : (a : Action) (r : Proc × ℕ) → local_in x a ≡ Some r → r.0.phase ≡ x.phase
  by_action Rest r e = absurd (cc e)
  by_action (Own w lines drops cost) r e = ap (λ (y : Proc). y.phase) (by_drops (gone_on x w lines) drops cost r e)
  by_action (Meets event) r e = absurd (cc e)

  first_of_three : (a b : Proc × List PortValue × ℕ) → Some a ≡ Some b → a.0 ≡ b.0
  first_of_three a b e = let same : a ≡ b = cc e in ap (λ (r : Proc × List PortValue × ℕ). r.0) same

  pub own_phase : (a : Action) (z : Proc) (drops : List PortValue) (cost : ℕ) → own_in x a ≡ Some (z, drops, cost) → z.phase ≡ x.phase
  own_phase Rest z drops cost e = absurd (cc e)
  own_phase (Own w lines drops' cost') z drops cost e = ap (λ (y : Proc). y.phase) (sym (first_of_three (gone_on x w lines, drops', cost') (z, drops, cost) e))
  own_phase (Meets event) z drops cost e = absurd (cc e)

module _ (program : Program) where
  one_step : (x : Proc) (r : Proc × ℕ) → local_step program x ≡ Some r → r.0.phase ≡ x.phase
  one_step x r e = by_action x (action_of program x) r e

  pub locals_phase : (n : ℕ) (x : Proc) (r : Proc × ℕ) → local_steps program n x ≡ Some r → r.0.phase ≡ x.phase
  locals_phase zero x r e = ap (λ (y : Proc). y.phase) (sym (first_of (x, 0) r e))
  locals_phase (suc n) x r e = behind (local_steps program n x) (locals_phase n x) e
    where
      costed : (q : Proc × ℕ) (o : Option (Proc × ℕ)) → ((t : Proc × ℕ) → o ≡ Some t → t.0.phase ≡ q.0.phase) → with_cost q.1 o ≡ Some r → r.0.phase ≡ q.0.phase
      costed q None same e = absurd (cc e)
      costed q (Some t) same e = ap (λ (y : Proc). y.phase) (sym (first_of (t.0, q.1 + t.1) r e)) ∙ same t refl

      behind : (o : Option (Proc × ℕ)) → ((t : Proc × ℕ) → o ≡ Some t → t.0.phase ≡ x.phase) → option_and_then (λ q. with_cost q.1 (local_step program q.0)) o ≡ Some r → r.0.phase ≡ x.phase
      behind None same e = absurd (cc e)
      behind (Some q) same e = costed q (local_step program q.0) (λ t is. one_step q.0 t is) e ∙ same q refl

  stopped_phase : (slice : ℕ) (spare : Bool) (steps : ℕ) (y : Proc) (why : Stop) (z : Proc) → StopsAt program slice spare steps y why z → z.phase ≡ y.phase
  stopped_phase slice spare steps y More z stops = ap (λ (v : Proc). v.phase) stops.2
  stopped_phase slice spare steps y (Event e) z stops = ap (λ (v : Proc). v.phase) stops.2
  stopped_phase slice spare steps y (LetsGo l cost) z stops = own_phase y (action_of program y) z (let_go_ports program l) cost stops.1
  stopped_phase slice spare steps y Short z stops = ap (λ (v : Proc). v.phase) stops.2

  pub advanced_phase : (slice : ℕ) (spare : Bool) (x : Proc) (a : Advanced) (z : Proc) → IsAdvanced program slice spare x a z → z.phase ≡ x.phase
  advanced_phase slice spare x a z made = stopped_phase slice spare a.steps made.stopped a.stop z made.stops ∙ locals_phase a.steps x (made.stopped, a.cost) made.made
