-- A choice that can be made may be made first, and so each legal list goes on to the end of any other.
use Rattle.std.proofs.Common.{◌≡◌, ◌≢◌, ℕ, suc, ◌+◌, ◌<◌, None, List, [], ◌∷◌, ◌++◌, length, refl, sym, ap, ◌∙◌, subst, arith, append-nil, length-append}
use Rattle.fm_sched.specs.Schedule.{Step, Can, next, cost, play, IsLegal, used, IsEnding, Diamond, IsReached, Throughout, Settles}
use Rattle.fm_sched.proofs.Runs.{no_step, none_after, used-append-le}
use Rattle.fm_sched.proofs.Along.{reached_first, reached_next, at_reached}

module _ {S A : Type 0} (step : Step S A) where
  -- from s, p and then `rest` do what cs does
  record Front (p : A) (s : S) (cs : List A) : Type 0 where
    rest : List A
    legal : IsLegal step (next step s p) rest
    leads : play step (next step s p) rest ≡ play step s cs
    costs : cost step s p + used step (next step s p) rest ≡ used step s cs
    length_is : suc (length rest) ≡ length cs

  front_here : (c : A) (cs : List A) (s : S) → IsLegal step s (c ∷ cs) → Front c s (c ∷ cs)
  front_here c cs s legal = record { rest = cs; legal = legal.1; leads = refl; costs = refl; length_is = refl }

  -- the diamond carries p past c
  front_later : (c : A) (cs : List A) (s : S) (p : A) → Diamond step s → (p ≢ c) → Can step s p → Can step s c → Front p (next step s c) cs → Front p s (c ∷ cs)
  front_later c cs s p d n can here f =
      let meets = d.meets.one_state p c n can here in
      record {
        rest = c ∷ f.rest;
        legal = (d.stays c p (λ e. n (sym e)) here can, subst (λ x. IsLegal step x f.rest) (sym meets) f.legal);
        leads = ap (λ x. play step x f.rest) meets ∙ f.leads;
        costs = omega (arith, d.meets.one_cost p c n can here, d.meets.one_cost c p (λ e. n (sym e)) here can, ap (λ x. used step x f.rest) meets, f.costs);
        length_is = ap suc f.length_is;
      }

  -- cs goes on after ds to the end of another list
  record Joins (s : S) (cs ds : List A) : Type 0 where
    rest : List A
    ends : IsEnding step s (ds ++ rest)
    leads : play step s (ds ++ rest) ≡ play step s cs
    costs : used step s (ds ++ rest) ≡ used step s cs
    length_is : length (ds ++ rest) ≡ length cs

  joins_later : (p : A) (ds cs : List A) (s : S) → Can step s p → (f : Front p s cs) → Joins (next step s p) f.rest ds → Joins s cs (p ∷ ds)
  joins_later p ds cs s can f j = record {
    rest = j.rest;
    ends = ((can, j.ends.0), j.ends.1);
    leads = j.leads ∙ f.leads;
    costs = omega (arith, j.costs, f.costs);
    length_is = ap suc j.length_is ∙ f.length_is;
  }

  module _ (same : (p q : A) → Dec (p ≡ q)) (Good : S → Type 0)
      (keeps : (s : S) (p : A) → Good s → Can step s p → Good (next step s p))
      (diamond : (s : S) → Good s → Diamond step s) where
    front : (cs : List A) (s : S) (p : A) → Good s → IsEnding step s cs → Can step s p → Front p s cs
    front [] s p good ends can = absurd (no_step step s p can (ends.1 p))
    front (c ∷ cs) s p good ends can =
        let later : Can step (next step s c) p → Front p (next step s c) cs = front cs (next step s c) p (keeps s c good ends.0.0) (ends.0.1, ends.1) in
        elim (same p c) [
          | yes e ↦ subst (λ x. Front x s (c ∷ cs)) (sym e) (front_here c cs s ends.0)
          | no n ↦ front_later c cs s p (diamond s good) n can ends.0.0 (later ((diamond s good).stays p c n can ends.0.0))
        ]

    joins : (ds cs : List A) (s : S) → Good s → IsEnding step s cs → IsLegal step s ds → Joins s cs ds
    joins [] cs s good ends legal = record { rest = cs; ends = ends; leads = refl; costs = refl; length_is = refl }
    joins (p ∷ ds) cs s good ends legal =
        let f = front cs s p good ends legal.0 in
        joins_later p ds cs s legal.0 f (joins ds f.rest (next step s p) (keeps s p good legal.0) (f.legal, λ q. subst (λ x. step x q ≡ None) (sym f.leads) (ends.1 q)) legal.1)

    one_end : (ds cs : List A) (s : S) → IsEnding step s ds → (j : Joins s cs ds) → (play step s ds ≡ play step s cs) × (used step s ds ≡ used step s cs)
    one_end ds cs s ends j =
        let same_list : ds ≡ ds ++ j.rest = sym (append-nil ds) ∙ ap (λ es. ds ++ es) (sym (none_after step s ds j.rest ends.1 j.ends.0)) in
        (ap (play step s) same_list ∙ j.leads, ap (used step s) same_list ∙ j.costs)

    pub settles : (s : S) (cs : List A) → Good s → IsEnding step s cs → Settles step s cs
    settles s cs good ends = record {
      longest = λ ds legal. let j = joins ds cs s good ends legal in omega (arith, j.length_is, length-append ds j.rest);
      dearest = λ ds legal. let j = joins ds cs s good ends legal in omega (arith, j.costs, used-append-le step s ds j.rest);
      extends = λ ds legal. let j = joins ds cs s good ends legal in (j.rest, j.ends);
      one_state = λ ds done. (one_end ds cs s done (joins ds cs s good ends done.0)).0;
      one_cost = λ ds done. (one_end ds cs s done (joins ds cs s good ends done.0)).1;
    }

  -- one list that ends bounds and decides every other
  pub settles_from : (start : S) → ((p q : A) → Dec (p ≡ q)) → Throughout step (Diamond step) start → (cs : List A) → IsEnding step start cs → Settles step start cs
  settles_from start same diamond cs ends =
      settles same (IsReached step start) (reached_next step start) (λ s. at_reached step (Diamond step) start s diamond) start cs (reached_first step start) ends

  -- where a legal list costs more than the turns, so does each that ends
  pub spent_for_all : (start : S) → ((p q : A) → Dec (p ≡ q)) → Throughout step (Diamond step) start → (turns : ℕ) (cs : List A) → IsLegal step start cs → turns < used step start cs → (ds : List A) → IsEnding step start ds → turns < used step start ds
  spent_for_all start same diamond turns cs legal over ds ends = omega (arith, over, (settles_from start same diamond ds ends).dearest cs legal)
