-- Entry by entry: who makes the steps of the next one can step behind those before it, and so has its number among the
-- processes that these have started.
use Rattle.std.proofs.Common.{◌≡◌, ℕ, zero, suc, ◌≤◌, arith, Option, Some, None, List, [], ◌∷◌, ◌++◌, replicate, refl, sym, ap, ◌∙◌, subst, append_assoc, append-nil}
use Rattle.std.specs.Prelude.{slice_get}
use Rattle.fm_base.specs.declared.schedule.Turn.{Turn}
use Rattle.fm_sched.specs.Schedule.{Can, IsLegal, play}
use Rattle.fm_sched.proofs.Runs.{legal_first, legal_second}
use Rattle.fm_net.specs.Machine.{Place}
use Rattle.fm_net.specs.Starts.{choices_of, starts_along, starts_of}
use Rattle.fm_net.proofs.Histories.{longer_at}
use Rattle.fm_net.proofs.Orders.{everybody, one_number_each, starts_more}
use Rattle.fm_net.proofs.Taken.{taken}
use Rattle.fm_rules.specs.declared.program.Program.{Program}
use Rattle.fm_mean.specs.Names.{ProgramUnit, main_number, unit_at}
use Rattle.fm_mean.specs.Process.{held}
use Rattle.fm_mean.specs.Steps.{first, first_proc, language, main_by, main_in, proc_of, step}
use Rattle.fm_mean.proofs.Calling.{all_unset_nil}
use Rattle.fm_mean.proofs.Lawful.{lawful}
use Rattle.fm_run_law.specs.Entries.{AreSteps, GoesOnWith, HasItsSteps}
use Rattle.fm_run_law.proofs.Halves.{halves, parts}

main_holds : (n : ℕ) (u : Option ProgramUnit) → held (proc_of (main_in n u)) ≡ []
main_holds n None = refl
main_holds n (Some u) = ap (λ ps. (ps ++ []) ++ []) (all_unset_nil u.names.variables)

first_holds : (p : Program) (o : Option ℕ) → held (proc_of (main_by p o)) ≡ []
first_holds p None = refl
first_holds p (Some n) = main_holds n (unit_at p n)

the_place : (a b : Place) → Some a ≡ Some b → a ≡ b
the_place a b e = cc

module _ (p : Program) where
  abbrev starts : List Place → List Place
  starts cs = starts_of (language p) (first p) cs

  -- who can step behind the first choices has its number among those that these have started
  known : (a rest : List Place) → IsLegal (step p) (first p) (a ++ rest) → (n : ℕ) (q : Place) → slice_get (starts (a ++ rest)) n ≡ Some q → Can (step p) (play (step p) (first p) a) q → slice_get (starts a) n ≡ Some q
  known a rest legal n q at can =
      let s = play (step p) (first p) a in
      let b = (taken (language p) s q can.0 can.1).start in
      let here = everybody (language p) (first_proc p) a (legal_first (step p) (first p) a rest legal) q b.self b.is in
      let there = ap (λ ps. slice_get ps here.0) (starts_more (language p) (first p) a rest) ∙ longer_at (starts a) (starts_along (language p) s rest) here.0 q here.1 in
      let one : here.0 ≡ n = one_number_each (language p) (lawful p) (first_proc p) (first_holds p (main_number p)) (a ++ rest) legal here.0 n q there at in
      subst (λ m. slice_get (starts a) m ≡ Some q) one here.1

  -- so does the process of an entry that has a step
  there : (a c : List Place) (n m : ℕ) (q : Place) → 1 ≤ m → IsLegal (step p) (first p) (a ++ (replicate m q ++ c)) → slice_get (starts (a ++ (replicate m q ++ c))) n ≡ Some q → slice_get (starts a) n ≡ Some q
  there a c n zero q some legal mine = absurd (omega (arith, some))
  there a c n (suc k) q some legal mine = known a (replicate (suc k) q ++ c) legal n q mine (legal_second (step p) (first p) a (replicate (suc k) q ++ c) legal).0

  -- an entry with a step is of one process, whichever list goes on
  one_process : (a c d : List Place) (n k : ℕ) (q r : Place) → IsLegal (step p) (first p) (a ++ (replicate (suc k) q ++ c)) → slice_get (starts (a ++ (replicate (suc k) q ++ c))) n ≡ Some q
      → slice_get (starts (a ++ d)) n ≡ Some r → q ≡ r
  one_process a c d n k q r legal mine theirs =
      let here = there a c n (suc k) q (omega arith) legal mine in
      let later = ap (λ ps. slice_get ps n) (starts_more (language p) (first p) a d) ∙ longer_at (starts a) (starts_along (language p) (play (step p) (first p) a) d) n q here in
      the_place q r (sym later ∙ theirs)

  -- so its steps are the same
  same_steps : (a c d : List Place) (n k : ℕ) (q r : Place) → IsLegal (step p) (first p) (a ++ (replicate k q ++ c)) → slice_get (starts (a ++ (replicate k q ++ c))) n ≡ Some q
      → slice_get (starts (a ++ d)) n ≡ Some r → replicate k q ≡ replicate k r
  same_steps a c d n zero q r legal mine theirs = refl
  same_steps a c d n (suc k) q r legal mine theirs = ap (replicate (suc k)) (one_process a c d n k q r legal mine theirs)

  moved : (a own c e : List Place) → a ++ ((own ++ c) ++ e) ≡ (a ++ own) ++ (c ++ e)
  moved a own c e = ap (λ ds. a ++ ds) (append_assoc own c e) ∙ sym (append_assoc a own (c ++ e))

  -- two lists that begin alike and then both are told by the entries
  same : (us : List Turn) (a c d e f cs ds : List Place) → cs ≡ a ++ (c ++ e) → ds ≡ a ++ (d ++ f) → IsLegal (step p) (first p) cs
      → choices_of us (starts cs) ≡ Some c → choices_of us (starts ds) ≡ Some d → c ≡ d
  same [] a c d e f cs ds mine theirs legal told other = cc
  same (t ∷ us) a c d e f cs ds mine theirs legal told other =
      let k = parts t us (starts cs) c told in
      let l = parts t us (starts ds) d other in
      let own = replicate t.steps k.who in
      let long : cs ≡ a ++ (own ++ (k.others ++ e)) = mine ∙ ap (λ bs. a ++ (bs ++ e)) k.whole ∙ ap (λ bs. a ++ bs) (append_assoc own k.others e) in
      let steps : own ≡ replicate t.steps l.who = same_steps a (k.others ++ e) (d ++ f) t.number t.steps k.who l.who
      (subst (IsLegal (step p) (first p)) long legal) (ap (λ bs. slice_get (starts bs) t.number) (sym long) ∙ k.who_is) (ap (λ bs. slice_get (starts bs) t.number) (sym theirs) ∙ l.who_is) in
      let yours : d ≡ own ++ l.others = l.whole ∙ ap (λ bs. bs ++ l.others) (sym steps) in
      let on = same us (a ++ own) k.others l.others e f cs ds (long ∙ sym (append_assoc a own (k.others ++ e))) (theirs ∙ ap (λ bs. a ++ (bs ++ f)) yours ∙ moved a own l.others f) legal k.others_are l.others_are in
      k.whole ∙ ap (λ bs. own ++ bs) on ∙ sym yours

  pub front_of : (ts us : List Turn) (cs ds : List Place) → AreSteps p (ts ++ us) cs → AreSteps p ts ds → GoesOnWith p us ds cs
  front_of ts us cs ds all some =
      let h = halves ts us (starts cs) cs all.told in
      let one : h.front ≡ ds = same ts [] h.front ds h.back [] cs ds h.whole (sym (append-nil ds)) all.legal h.front_is some.told in
      record { others = h.back; told = h.back_is; whole = h.whole ∙ ap (λ bs. bs ++ h.back) one }

  -- an entry of them has its steps where those before it lead
  pub its_steps : (before : List Turn) (t : Turn) (more : List Turn) (cs ds : List Place) → AreSteps p (before ++ t ∷ more) cs → AreSteps p before ds → 1 ≤ t.steps → HasItsSteps p t ds
  its_steps before t more cs ds all some few =
      let g = front_of before (t ∷ more) cs ds all some in
      let k = parts t more (starts cs) g.others g.told in
      let whole : cs ≡ ds ++ (replicate t.steps k.who ++ k.others) = g.whole ∙ ap (λ bs. ds ++ bs) k.whole in
      let legal = subst (IsLegal (step p) (first p)) whole all.legal in
      record {
        place = k.who;
        at = there ds k.others t.number t.steps k.who few legal (ap (λ bs. slice_get (starts bs) t.number) (sym whole) ∙ k.who_is);
        can = legal_first (step p) (play (step p) (first p) ds) (replicate t.steps k.who) k.others (legal_second (step p) (first p) ds (replicate t.steps k.who ++ k.others) legal);
      }

  pub one_list : (ts : List Turn) (cs ds : List Place) → AreSteps p ts cs → AreSteps p ts ds → cs ≡ ds
  one_list ts cs ds mine theirs = same ts [] cs ds [] [] cs ds (sym (append-nil cs)) (sym (append-nil ds)) mine.legal mine.told theirs.told
