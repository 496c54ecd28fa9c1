-- A process that is under way always does something next, and its local steps leave it under way.
use Rattle.std.proofs.Common.{◌≡◌, ◌+◌, ℕ, zero, suc, Option, Some, None, List, [], ◌∷◌, refl, ap, subst}
use Rattle.std.specs.Prelude.{option_and_then}
use Rattle.fm_base.specs.declared.path.ChanName.{ChanName}
use Rattle.fm_base.specs.declared.port.PortValue.{PortValue}
use Rattle.fm_net.specs.Machine.{reply_with}
use Rattle.fm_rules.specs.declared.program.Program.{Program}
use Rattle.fm_mean.specs.Process.{Execution, Phase, Running, Joining, Ended, Faulted, Proc}
use Rattle.fm_mean.specs.Actions.{Action, Rest, Own, Meets, action_of, gone_on, local_by, local_in, local_step}
use Rattle.fm_mean.specs.Steps.{ask_for}
use Rattle.fm_mean.proofs.Leading.{all_lead}
use Rattle.fm_mean.proofs.Lively.{IsLiveAsk, MayGo, has_next}
use Rattle.fm_plain.specs.Advance.{IsUnderWay, local_steps, with_cost}

first_of : (a b : Proc × ℕ) → Some a ≡ Some b → a.0 ≡ b.0
first_of a b e = let same : a ≡ b = cc e in ap (λ (r : Proc × ℕ). r.0) same

by_drops : (y : Proc) (drops : List PortValue) (cost : ℕ) (r : Proc × ℕ) → local_by y drops cost ≡ Some r → y ≡ r.0
by_drops y [] cost r e = first_of (y, cost) r e
by_drops y (z ∷ zs) cost r e = absurd (cc e)

-- whose name and reply don't matter
no_name : ChanName
no_name = record { maker = []; number = 0 }

module _ (p : Program) where
  may_go : (x : Proc) → IsUnderWay p x → MayGo x.phase
  may_go x on = go x.phase refl
    where
      go : (phase : Phase) → x.phase ≡ phase → MayGo phase
      go Running is = tt
      go (Joining block kids) is = tt
      go Ended is = absurd (on.unended is)
      go (Faulted line fault) is = absurd (on.unfaulted (line, fault, is))

  asks : (x : Proc) → IsUnderWay p x → IsLiveAsk p x.phase (ask_for p x (action_of p x))
  asks x on = has_next p (all_lead p) x on.live (may_go x on)

  -- it does something next
  pub acts : (x : Proc) → IsUnderWay p x → action_of p x ≡ Rest → ⊥
  acts x on rests = subst (λ (a : Action). IsLiveAsk p x.phase (ask_for p x a)) rests (asks x on)

  own_way : (x : Proc) → IsUnderWay p x → (w : Execution) (lines : List (List ℕ)) (drops : List PortValue) (cost : ℕ) → action_of p x ≡ Own w lines drops cost → IsUnderWay p (gone_on x w lines)
  own_way x on w lines drops cost is = record {
    live = ((subst (λ (a : Action). IsLiveAsk p x.phase (ask_for p x a)) is (asks x on)).goes_on no_name (reply_with [])).0;
    unended = on.unended;
    unfaulted = on.unfaulted;
  }

  local_way : (x : Proc) → IsUnderWay p x → (a : Action) → action_of p x ≡ a → (r : Proc × ℕ) → local_in x a ≡ Some r → IsUnderWay p r.0
  local_way x on Rest is r e = absurd (cc e)
  local_way x on (Own w lines drops cost) is r e = subst (IsUnderWay p) (by_drops (gone_on x w lines) drops cost r e) (own_way x on w lines drops cost is)
  local_way x on (Meets event) is r e = absurd (cc e)

  -- behind local steps it is still under way
  pub along : (n : ℕ) (x : Proc) (r : Proc × ℕ) → IsUnderWay p x → local_steps p n x ≡ Some r → IsUnderWay p r.0
  along zero x r on e = subst (IsUnderWay p) (first_of (x, 0) r e) on
  along (suc n) x r on e = behind (local_steps p n x) (λ q is. along n x q on is) e
    where
      costed : (q : Proc × ℕ) → IsUnderWay p q.0 → (o : Option (Proc × ℕ)) → local_step p q.0 ≡ o → with_cost q.1 o ≡ Some r → IsUnderWay p r.0
      costed q here None is e = absurd (cc e)
      costed q here (Some t) is e = subst (IsUnderWay p) (first_of (t.0, q.1 + t.1) r e) (local_way q.0 here (action_of p q.0) refl t is)

      behind : (o : Option (Proc × ℕ)) → ((t : Proc × ℕ) → o ≡ Some t → IsUnderWay p t.0) → option_and_then (λ q. with_cost q.1 (local_step p q.0)) o ≡ Some r → IsUnderWay p r.0
      behind None stays e = absurd (cc e)
      behind (Some q) stays e = costed q (stays q refl) (local_step p q.0) refl e

  -- behind local steps it still does something
  pub goes_further : (n : ℕ) (x y : Proc) (cost : ℕ) → IsUnderWay p x → local_steps p n x ≡ Some (y, cost) → action_of p y ≡ Rest → ⊥
  goes_further n x y cost on made rests = acts y (along n x (y, cost) on made) rests
