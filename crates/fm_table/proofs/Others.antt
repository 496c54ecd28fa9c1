-- Who is out can step still behind the steps of another.
use Rattle.std.proofs.Common.{◌≡◌, ◌≢◌, inl, inr, ℕ, ◌≤◌, Bool, true, false, cond, List, [], ◌∷◌, not, ◌==◌, eq-eqb, refl, sym, ap, ◌∙◌, subst}
use Rattle.std.specs.Prelude.{is_some, slice_get, Option, Some, None}
use Rattle.std.proofs.lemmas.Option.{get_or_from_slice_get}
use Rattle.fm_base.specs.declared.schedule.Setup.{Setup}
use Rattle.fm_base.specs.declared.schedule.Turn.{Turn}
use Rattle.fm_sched.specs.Schedule.{play}
use Rattle.fm_net.specs.Machine.{Place, State}
use Rattle.fm_net.specs.Owned.{IsOwned}
use Rattle.fm_net.specs.Starts.{starts_along}
use Rattle.fm_net.proofs.Histories.{longer_at}
use Rattle.fm_net.proofs.Orders.{one_number_each}
use Rattle.fm_rules.specs.declared.program.Program.{Program}
use Rattle.fm_mean.specs.Process.{Proc}
use Rattle.fm_mean.specs.Steps.{first_proc, language, step}
use Rattle.fm_mean.proofs.Lawful.{lawful}
use Rattle.fm_mean.proofs.Laws.{owned_along}
use Rattle.fm_run.specs.Orders.{Among, EachOnce, others_in}
use Rattle.fm_run.specs.Programs.{Stand, after_entry, can_at, can_in, play_of, ready_after}
use Rattle.fm_run.specs.Runs.{place_of, steps_of}
use Rattle.fm_run.proofs.Able.{some_there}
use Rattle.fm_run.proofs.Programs.{first_holds, law_of}
use Rattle.fm_run.proofs.Numbers.{filter_among, in_filter, not_own, once_filter}
use Rattle.fm_run.proofs.Others.{able_along}
use Rattle.fm_table.specs.Inside.{HasEntered, HasShares, IsStanding, IsTable, stand_kept, told_in}
use Rattle.fm_table.specs.Told.{HaveStarts, Out, cost_by, numbers_out, with_entry, without}
use Rattle.fm_table.specs.declared.shares.Shares.{Shares}
use Rattle.fm_table.specs.declared.standing.Standing.{Standing}
use Rattle.fm_table.proofs.Outs.{numbers_without}
use Rattle.fm_table.proofs.Planned.{body_stays}

module _ (program : Program) (old new : Standing) (s : IsStanding program old) (t : Turn) (h : HasEntered program t old new) where
  abbrev a : Stand
  a = stand_kept program old

  abbrev p : Place
  p = place_of a.places t

  abbrev more : List Place
  more = starts_along (language program) a.state (steps_of a.places t)

  owned : IsOwned (language program) a.state
  owned = subst (IsOwned (language program)) s.played.there (owned_along program s.played.choices s.played.legal)

  at_own : slice_get a.places t.number ≡ Some p
  at_own = go (slice_get a.places t.number) refl h.known
    where
      go : (o : Option Place) → slice_get a.places t.number ≡ o → is_some o ≡ true → slice_get a.places t.number ≡ Some p
      go None e known = absurd (cc known)
      go (Some q) e known = e ∙ ap Some (sym (get_or_from_slice_get a.places t.number q [] e))

  one_number : (n m : ℕ) (q : Place) → slice_get a.places n ≡ Some q → slice_get a.places m ≡ Some q → n ≡ m
  one_number n m q e f =
      one_number_each (language program) (lawful program) (first_proc program) (first_holds program) s.played.choices s.played.legal n m q
      (ap (λ (ps : List Place). slice_get ps n) (sym s.played.places_are) ∙ e) (ap (λ (ps : List Place). slice_get ps m) (sym s.played.places_are) ∙ f)

  -- another process that can step is in the queue still
  pub others_queued : (n : ℕ) → Among n old.player.able.numbers.items → n ≢ t.number → IsStanding program new → Among n new.player.able.numbers.items
  others_queued n among differs later = found (slice_get a.places n) refl (s.able.within n among)
    where
      found : (o : Option Place) → slice_get a.places n ≡ o → can_at program a.state a.places n ≡ true → Among n new.player.able.numbers.items
      found None e can = absurd (cc (sym (ap (can_in program a.state) e) ∙ can))
      found (Some q) e can =
          let b = stand_kept program new in
          let apart : q ≢ p = λ same. differs (one_number n t.number q e (at_own ∙ ap Some (sym same))) in
          let here = some_there (step program a.state q) (sym (ap (can_in program a.state) e) ∙ can) in
          let still = able_along (play_of program) (law_of program) p t.steps a.state owned h.entry.can q apart here in
          let there : slice_get b.places n ≡ Some q = ap (λ (ps : List Place). slice_get ps n) h.entry.places_are ∙ longer_at a.places more n q e in
          later.able.whole n (ap (can_in program b.state) there ∙ ap (λ (u : State Proc). is_some (step program u q)) h.entry.state_is ∙ ap is_some still.1)

  -- who isn't out any more
  others_out : (out : List Out) (n : ℕ) → Among n (numbers_out (without t.number out)) → Among n (numbers_out out) × (n ≢ t.number)
  others_out out n among =
      let left : Among n (others_in t.number (numbers_out out)) = subst (λ (ns : List ℕ). Among n ns) (numbers_without t.number out) among in
      (in_filter (λ m. not (m == t.number)) (numbers_out out) n left, λ e. cc (sym (filter_among (λ m. not (m == t.number)) (numbers_out out) n left) ∙ ap (λ (m : ℕ). not (m == t.number)) e ∙ not_own t.number))

  -- the others' bodies stand for them still
  starts_stay : (out : List Out) → ((n : ℕ) → Among n (numbers_out out) → Among n old.player.able.numbers.items) → HaveStarts program a out → HaveStarts program (stand_kept program new) (without t.number out)
  starts_stay [] queued have = tt
  starts_stay (x ∷ out) queued have = go (x.number == t.number) refl (starts_stay out (λ n among. queued n (inr among)) have.1)
    where
      go : (b : Bool) → (x.number == t.number) ≡ b → HaveStarts program (stand_kept program new) (without t.number out) → HaveStarts program (stand_kept program new) (cond (not b) (x ∷ without t.number out) (without t.number out))
      go true same rest = rest
      go false differs rest =
          let apart : x.number ≢ t.number = λ e. cc (sym (eq-eqb x.number t.number e) ∙ differs) in
          (body_stays program a (stand_kept program new) t old.player.net.history new.player.net.history (cost_by program old.player.net.history) s.played s.able h.entry h.known x.number x.start (queued x.number (inl refl)) apart have.0, rest)

  -- the table with the entry
  pub table_entered : (setup : Setup) (out : List Out) (shares last : Shares) → IsTable program setup old out shares → old.used ≤ setup.turns → IsStanding program new → HasShares program setup (stand_kept program new) last → IsTable program setup new (without t.number out) last
  table_entered setup out shares last table going later shared = record {
    standing = later;
    front = h.front setup.turns going;
    out_able = λ n among. let k = others_out out n among in others_queued n (table.out_able n k.0) k.1 later;
    out_once = subst EachOnce (sym (numbers_without t.number out)) (once_filter (λ m. not (m == t.number)) (numbers_out out) table.out_once);
    out_start = starts_stay out table.out_able table.out_start;
    shared = shared;
  }

  -- what is told of it
  pub told_entered : (setup : Setup) (out : List Out) → told_in program setup new (without t.number out) ≡ with_entry (told_in program setup old out) t
  told_entered setup out =
      ap (λ (ns : List ℕ). record { program = program; setup = setup; history = new.player.net.history; queue = ns; out = without t.number out }) queue
      ∙ ap (λ (ts : List Turn). record { program = program; setup = setup; history = ts; queue = (after_entry program a t).able; out = without t.number out }) h.entry.history_is
    where
      queue : new.player.able.numbers.items ≡ (after_entry program a t).able
      queue = h.queue ∙ ap (λ (u : State Proc). ready_by u (stand_kept program new).places) h.entry.state_is ∙ ap (ready_by (play (step program) a.state (steps_of a.places t))) h.entry.places_are
        where
          ready_by : State Proc → List Place → List ℕ
          ready_by u ps = ready_after program u ps old.player.able.numbers.items t.number
