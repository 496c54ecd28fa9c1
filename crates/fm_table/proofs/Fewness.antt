-- A schedule whose front is within the turns has at most one entry more than these.
use Rattle.std.proofs.Common.{◌≡◌, ℕ, ◌+◌, ◌≤◌, List, [], ◌∷◌, ◌++◌, length, length-append, replicate, append_assoc, refl, sym, ap, ◌∙◌, subst, arith}
use Rattle.std.specs.Prelude.{Option, Some, None, option_and_then, option_map, slice_get}
use Rattle.std.proofs.lemmas.List.{length-replicate}
use Rattle.fm_base.specs.declared.schedule.Turn.{Turn}
use Rattle.fm_sched.specs.Schedule.{Can, cost, IsLegal}
use Rattle.fm_sched.proofs.Runs.{cost-Some, legal_first, length-le-used}
use Rattle.fm_net.specs.Machine.{Place, State}
use Rattle.fm_net.specs.Starts.{choices_of}
use Rattle.fm_net.proofs.Histories.{first_turn}
use Rattle.fm_rules.specs.declared.program.Program.{Program}
use Rattle.fm_mean.specs.Process.{Proc}
use Rattle.fm_mean.specs.Steps.{first, step}
use Rattle.fm_mean.proofs.Laws.{each_costs as step_costs}
use Rattle.fm_run.specs.Runs.{HaveSteps}
use Rattle.fm_run.specs.Programs.{IsFrontWithin}

-- the choices of the entries before the last one
record Front (front : List Turn) (places cs : List Place) : Type 0 where
  own : List Place
  more : List Place
  own_are : choices_of front places ≡ Some own
  whole : cs ≡ own ++ more

behind_one : (t : Turn) (ts us : List Turn) (places cs : List Place) → choices_of (t ∷ ts) places ≡ Some cs → ((ds : List Place) → choices_of ts places ≡ Some ds → Front us places ds) → Front (t ∷ us) places cs
behind_one t ts us places cs e rest = go (slice_get places t.number) (choices_of ts places) refl refl e
  where
    go : (a : Option Place) (o : Option (List Place)) → slice_get places t.number ≡ a → choices_of ts places ≡ o → option_and_then (λ p. option_map (λ ds. replicate t.steps p ++ ds) o) a ≡ Some cs → Front (t ∷ us) places cs
    go None o ea eo e' = absurd (cc e')
    go (Some p) None ea eo e' = absurd (cc e')
    go (Some p) (Some ds) ea eo e' =
        let k = rest ds eo in
        let all : replicate t.steps p ++ ds ≡ cs = cc e' in
        record {
          own = replicate t.steps p ++ k.own;
          more = k.more;
          own_are = first_turn t us places p k.own ea k.own_are;
          whole = sym all ∙ ap (λ (zs : List Place). replicate t.steps p ++ zs) k.whole ∙ sym (append_assoc (replicate t.steps p) k.own k.more);
        }

front_of : (front : List Turn) (t : Turn) (places cs : List Place) → choices_of (front ++ t ∷ []) places ≡ Some cs → Front front places cs
front_of [] t places cs e = record { own = []; more = cs; own_are = refl; whole = refl }
front_of (u ∷ front) t places cs e = behind_one u (front ++ t ∷ []) front places cs e (λ ds h. front_of front t places ds h)

-- each entry has a choice or more
enough : (ts : List Turn) (places ds : List Place) → HaveSteps ts → choices_of ts places ≡ Some ds → length ts ≤ length ds
enough [] places ds have e = omega arith
enough (t ∷ ts) places cs have e = go (λ ds is. enough ts places ds have.1 is) (slice_get places t.number) (choices_of ts places) refl e
  where
    go : ((ds : List Place) → choices_of ts places ≡ Some ds → length ts ≤ length ds) → (a : Option Place) (o : Option (List Place)) → choices_of ts places ≡ o → option_and_then (λ p. option_map (λ ds. replicate t.steps p ++ ds) o) a ≡ Some cs → length (t ∷ ts) ≤ length cs
    go more None o eo e' = absurd (cc e')
    go more (Some p) None eo e' = absurd (cc e')
    go more (Some p) (Some ds) eo e' =
        let all : replicate t.steps p ++ ds ≡ cs = cc e' in
        let rest = more ds eo in
        let some = have.0 in
        let size = length-append (replicate t.steps p) ds in
        let own : length (replicate t.steps p) ≡ t.steps = length-replicate t.steps p in
        let whole = ap length all in
        omega (arith, rest, some, size, own, whole)

have_front : (front : List Turn) (t : Turn) → HaveSteps (front ++ t ∷ []) → HaveSteps front
have_front [] t have = tt
have_front (u ∷ front) t have = (have.0, have_front front t have.1)

-- the last entry, where there is one
record Last (ts : List Turn) : Type 0 where
  front : List Turn
  last : Turn
  is : ts ≡ front ++ last ∷ []

last_of : (t : Turn) (ts : List Turn) → Last (t ∷ ts)
last_of t [] = record { front = []; last = t; is = refl }
last_of t (u ∷ ts) = let k = last_of u ts in record { front = t ∷ k.front; last = k.last; is = ap (λ (us : List Turn). t ∷ us) k.is }

module _ (program : Program) where
  each_costs : (s : State Proc) (p : Place) → Can (step program) s p → 1 ≤ cost (step program) s p
  each_costs s p can = omega (arith, step_costs program s p can.0 can.1, cost-Some (step program) s p can.0 can.1)

  pub few_entries : (turns : ℕ) (history : List Turn) (places choices : List Place) → choices_of history places ≡ Some choices → IsLegal (step program) (first program) choices → HaveSteps history → IsFrontWithin program turns history places
      → length history ≤ turns + 1
  few_entries turns [] places choices told legal have front = omega arith
  few_entries turns (t ∷ ts) places choices told legal have front =
      let l = last_of t ts in
      let k = front_of l.front l.last places choices (sym (ap (λ (us : List Turn). choices_of us places) l.is) ∙ told) in
      let low = front l.front l.last k.own l.is k.own_are in
      let some = enough l.front places k.own (have_front l.front l.last (subst HaveSteps l.is have)) k.own_are in
      let paid = length-le-used (step program) each_costs (first program) k.own (legal_first (step program) (first program) k.own k.more (subst (IsLegal (step program) (first program)) k.whole legal)) in
      let size = ap length l.is ∙ length-append l.front (l.last ∷ []) in
      omega (arith, low, some, paid, size)
