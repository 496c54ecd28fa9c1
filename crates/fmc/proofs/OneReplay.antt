-- A replay has one answer: what comes of entries is one thing, and so is what is said of the bytes of a trace.
use Rattle.std.proofs.Common.{◌≡◌, ◌≢◌, ◌⊎◌, inl, inr, ℕ, zero, suc, ◌<◌, ◌≤◌, ◌+◌, Bool, true, Some, None, List, [], ◌∷◌, ◌++◌, length, replicate, take, refl, sym, ap, ◌∙◌, subst, arith}
use Rattle.std.specs.Prelude.{slice_get, codes}
use Rattle.std.specs.Fmt.{decimal}
use Rattle.std.proofs.lemmas.Bool.{false≢true}
use Rattle.std.proofs.lemmas.List.{take_all}
use Rattle.fm_base.specs.declared.rule.Refusal.{Refusal}
use Rattle.fm_base.specs.declared.schedule.Turn.{Turn}
use Rattle.fm_base.specs.Rules.{refusal_text}
use Rattle.fm_sched.specs.Schedule.{next, play, IsFinal, IsLegal}
use Rattle.fm_sched.proofs.Runs.{no_step, used-append-le}
use Rattle.fm_net.specs.Machine.{Place, State}
use Rattle.fm_rules.specs.declared.program.Program.{Program}
use Rattle.fm_mean.specs.Outcome.{outcome_of}
use Rattle.fm_mean.specs.Process.{Proc}
use Rattle.fm_mean.specs.Steps.{first, step}
use Rattle.fm_run_law.specs.Entries.{AreSteps}
use Rattle.fm_run_law.proofs.OneList.{front_of, its_steps, one_list}
use Rattle.fm_report.specs.Report.{report_text}
use Rattle.fm_verdict.specs.Program.{IsCheckedOf}
use Rattle.fm_front.specs.Laws.{OneProgram, OneVerdict, ProgramOrRefusal}
use Rattle.fm_trace.specs.Texts.{IsFirstMalformed, IsTraceText, history_of}
use Rattle.fm_trace.specs.declared.trace.Trace.{Trace}
use Rattle.fm_trace.proofs.MalformedLaws.{no_line_of_a_trace, one_first_line, one_trace_text}
use Rattle.fmc.specs.declared.answer.Exit.{Exit}
use Rattle.fmc.specs.declared.answer.Exit.TheVariants.{Done, Faulted, Deadlocked, Refused, Spent, Usage, ReadFault, WriteFault, NoMemory, TooLong, Malformed, Illegal, Unfinished, BadObject, Unverified, NotPlain}
use Rattle.fmc.specs.Exits.{is_decided}
use Rattle.fmc.specs.OneAnswer.{HasOneAnswer}
use Rattle.fmc.specs.Outcomes.{IsRefusedFor, IsUnplayed, cost_of, exit_of, source_limit, state_after}
use Rattle.fmc.specs.Replay.{AsksForMore, ComesTo, CostsMore, EndsBefore, EndsProgram, IsReplayed, IsTooLongTrace, LacksSteps, SaysReplay, trace_limit}

-- ---- fronts of entries

-- what is in front of some entries goes on to them
more_of : (ts : List Turn) (a b : ℕ) → a ≤ b → (more : List Turn) × (take b ts ≡ take a ts ++ more)
more_of ts zero b le = (take b ts, refl)
more_of ts (suc a) zero le = absurd (omega (arith, le))
more_of [] (suc a) (suc b) le = ([], refl)
more_of (t ∷ ts) (suc a) (suc b) le = let r = more_of ts a b (omega (arith, le)) in (r.0, ap (λ (us : List Turn). t ∷ us) r.1)

-- the entry at a place stands behind those before it
entry_of : (ts : List Turn) (a b : ℕ) (t : Turn) → slice_get ts a ≡ Some t → a < b → (more : List Turn) × (take b ts ≡ take a ts ++ t ∷ more)
entry_of [] a b t at low = absurd (cc at)
entry_of (u ∷ ts) a zero t at low = absurd (omega (arith, low))
entry_of (u ∷ ts) zero (suc b) t at low = let same : u ≡ t = cc at in (take b ts, ap (λ (x : Turn). x ∷ take b ts) same)
entry_of (u ∷ ts) (suc a) (suc b) t at low = let r = entry_of ts a b t at (omega (arith, low)) in (r.0, ap (λ (us : List Turn). u ∷ us) r.1)

there_below : (ts : List Turn) (a : ℕ) (t : Turn) → slice_get ts a ≡ Some t → a < length ts
there_below [] a t at = absurd (cc at)
there_below (u ∷ ts) zero t at = omega arith
there_below (u ∷ ts) (suc a) t at = omega (arith, there_below ts a t at)

by_order : (a b : ℕ) → (a < b) ⊎ ((a ≡ b) ⊎ (b < a))
by_order zero zero = inr (inl refl)
by_order zero (suc b) = inl (omega arith)
by_order (suc a) zero = inr (inr (omega arith))
by_order (suc a) (suc b) = go (by_order a b)
  where
    go : (a < b) ⊎ ((a ≡ b) ⊎ (b < a)) → (suc a < suc b) ⊎ ((suc a ≡ suc b) ⊎ (suc b < suc a))
    go (inl l) = inl (omega (arith, l))
    go (inr (inl e)) = inr (inl (ap suc e))
    go (inr (inr l)) = inr (inr (omega (arith, l)))

-- ---- what comes of entries

module _ (p : Program) where
  -- a process that has so many steps has each before the last
  lacks_none : (s : State Proc) (q : Place) (made steps : ℕ) → made < steps → IsLegal (step p) s (replicate steps q) → step p (play (step p) s (replicate made q)) q ≡ None → ⊥
  lacks_none s q made zero low legal none = absurd (omega (arith, low))
  lacks_none s q zero (suc n) low legal none = no_step (step p) s q legal.0 none
  lacks_none s q (suc m) (suc n) low legal none = lacks_none (next (step p) s q) q m n (omega (arith, low)) legal.1 none

  module _ (ts : List Turn) where
    all_taken : (cs : List Place) → AreSteps p ts cs → AreSteps p (take (length ts) ts) cs
    all_taken cs steps = subst (λ (us : List Turn). AreSteps p us cs) (sym (take_all (length ts) ts (omega arith))) steps

    -- fewer entries cost no more
    cheaper : (a b : ℕ) (cs ds : List Place) → a ≤ b → AreSteps p (take b ts) cs → AreSteps p (take a ts) ds → cost_of p ds ≤ cost_of p cs
    cheaper a b cs ds le all some =
        let m = more_of ts a b le in
        let g = front_of p (take a ts) m.0 cs ds (subst (λ (us : List Turn). AreSteps p us cs) m.1 all) some in
        subst (λ (bs : List Place). cost_of p ds ≤ cost_of p bs) (sym g.whole) (used-append-le (step p) (first p) ds g.others)

    -- an entry that lacks a step is none of those that are steps
    has_all : (a b : ℕ) (t : Turn) (cs ds : List Place) → slice_get ts a ≡ Some t → a < b → AreSteps p (take b ts) cs → AreSteps p (take a ts) ds → LacksSteps p ds t → ⊥
    has_all a b t cs ds at low all some lacks =
        let m = entry_of ts a b t at low in
        let few = lacks.few in
        let h = its_steps p (take a ts) t m.0 cs ds (subst (λ (us : List Turn). AreSteps p us cs) m.1 all) some (omega (arith, few)) in
        lacks_none (play (step p) (first p) ds) h.place lacks.made t.steps few h.can (lacks.lacks h.place h.at).1

    module _ (turns : ℕ) where
      within_not_more : (cs : List Place) (text : List ℕ) → AreSteps p ts cs → cost_of p cs ≤ turns → CostsMore p turns ts text → ⊥
      within_not_more cs text all within k =
          let over = k.over in
          let less = cheaper k.count (length ts) cs k.choices k.counted (all_taken cs all) k.steps in
          absurd (omega (arith, over, less, within))

      all_not_less : (cs : List Place) (text : List ℕ) → AreSteps p ts cs → AsksForMore p turns ts text → ⊥
      all_not_less cs text all k = has_all k.before (length ts) k.entry cs k.choices k.at (there_below ts k.before k.entry k.at) (all_taken cs all) k.steps k.lacks

      more_not_less : (t u : List ℕ) → CostsMore p turns ts t → AsksForMore p turns ts u → ⊥
      more_not_less t u k l = go (by_order l.before k.count)
        where
          over : turns < cost_of p k.choices
          over = k.over

          within : cost_of p l.choices ≤ turns
          within = l.in_turns

          go : (l.before < k.count) ⊎ ((l.before ≡ k.count) ⊎ (k.count < l.before)) → ⊥
          go (inl low) = has_all l.before k.count l.entry k.choices l.choices l.at low k.steps l.steps l.lacks
          go (inr (inl e)) = absurd (omega (arith, over, within, cheaper k.count l.before l.choices k.choices (omega (arith, e)) l.steps k.steps))
          go (inr (inr high)) = absurd (omega (arith, over, within, cheaper k.count l.before l.choices k.choices (omega (arith, high)) l.steps k.steps))

      one_entry : (t u : List ℕ) (k : AsksForMore p turns ts t) (l : AsksForMore p turns ts u) → k.before ≡ l.before
      one_entry t u k l = go (by_order k.before l.before)
        where
          go : (k.before < l.before) ⊎ ((k.before ≡ l.before) ⊎ (l.before < k.before)) → k.before ≡ l.before
          go (inl low) = absurd (has_all k.before l.before k.entry l.choices k.choices k.at low l.steps k.steps k.lacks)
          go (inr (inl e)) = e
          go (inr (inr low)) = absurd (has_all l.before k.before l.entry k.choices l.choices l.at low k.steps l.steps l.lacks)

      module _ (vars : Bool) where
        -- what comes of the entries, with its exit
        abbrev pub Kind : Exit → List ℕ → Type 0
        Kind exit text = EndsProgram vars exit p turns ts text
            ⊎ (((exit ≡ Spent) × CostsMore p turns ts text) ⊎ (((exit ≡ Illegal) × AsksForMore p turns ts text) ⊎ ((exit ≡ Unfinished) × EndsBefore p turns ts text)))

        final_not_open : (exit : Exit) (t u : List ℕ) → EndsProgram vars exit p turns ts t → EndsBefore p turns ts u → ⊥
        final_not_open exit t u k l = l.goes_on (subst (λ (cs : List Place). IsFinal (step p) (state_after p cs)) (one_list p ts k.choices l.choices k.steps l.steps) k.final)

        one_end : (x y : Exit) (t u : List ℕ) → EndsProgram vars x p turns ts t → EndsProgram vars y p turns ts u → (x ≡ y) × (t ≡ u)
        one_end x y t u k l =
            let same = one_list p ts k.choices l.choices k.steps l.steps in (
              k.exit_is ∙ ap (λ (cs : List Place). exit_of (outcome_of p (cost_of p cs) (state_after p cs))) same ∙ sym l.exit_is,
              k.text_is ∙ ap (λ (cs : List Place). report_text vars (outcome_of p (cost_of p cs) (state_after p cs))) same ∙ sym l.text_is,
            )

        pub one_kind : (x y : Exit) (t u : List ℕ) → Kind x t → Kind y u → (x ≡ y) × (t ≡ u)
        one_kind x y t u (inl k) (inl l) = one_end x y t u k l
        one_kind x y t u (inl k) (inr (inl l)) = absurd (within_not_more k.choices u k.steps k.in_turns l.1)
        one_kind x y t u (inl k) (inr (inr (inl l))) = absurd (all_not_less k.choices u k.steps l.1)
        one_kind x y t u (inl k) (inr (inr (inr l))) = absurd (final_not_open x t u k l.1)
        one_kind x y t u (inr (inl k)) (inl l) = absurd (within_not_more l.choices t l.steps l.in_turns k.1)
        one_kind x y t u (inr (inl k)) (inr (inl l)) = (k.0 ∙ sym l.0, k.1.text_is ∙ sym l.1.text_is)
        one_kind x y t u (inr (inl k)) (inr (inr (inl l))) = absurd (more_not_less t u k.1 l.1)
        one_kind x y t u (inr (inl k)) (inr (inr (inr l))) = absurd (within_not_more l.1.choices t l.1.steps l.1.in_turns k.1)
        one_kind x y t u (inr (inr (inl k))) (inl l) = absurd (all_not_less l.choices t l.steps k.1)
        one_kind x y t u (inr (inr (inl k))) (inr (inl l)) = absurd (more_not_less u t l.1 k.1)
        one_kind x y t u (inr (inr (inl k))) (inr (inr (inl l))) =
            (k.0 ∙ sym l.0, k.1.text_is ∙ ap (λ (n : ℕ). codes "illegal turn: entry " ++ decimal (n + 1) ++ 10 ∷ []) (one_entry t u k.1 l.1) ∙ sym l.1.text_is)
        one_kind x y t u (inr (inr (inl k))) (inr (inr (inr l))) = absurd (all_not_less l.1.choices t l.1.steps k.1)
        one_kind x y t u (inr (inr (inr k))) (inl l) = absurd (final_not_open y u t l k.1)
        one_kind x y t u (inr (inr (inr k))) (inr (inl l)) = absurd (within_not_more k.1.choices u k.1.steps k.1.in_turns l.1)
        one_kind x y t u (inr (inr (inr k))) (inr (inr (inl l))) = absurd (all_not_less k.1.choices u k.1.steps l.1)
        one_kind x y t u (inr (inr (inr k))) (inr (inr (inr l))) = (k.0 ∙ sym l.0, k.1.text_is ∙ sym l.1.text_is)

      pub kind_of : (vars : Bool) (exit : Exit) (text : List ℕ) → ComesTo vars exit p turns ts text → Kind vars exit text
      kind_of vars Done text k = inl k
      kind_of vars Faulted text k = inl k
      kind_of vars Deadlocked text k = inl k
      kind_of vars Refused text k = absurd k
      kind_of vars Spent text k = inr (inl (refl, k))
      kind_of vars Usage text k = absurd k
      kind_of vars ReadFault text k = absurd k
      kind_of vars WriteFault text k = absurd k
      kind_of vars NoMemory text k = absurd k
      kind_of vars TooLong text k = absurd k
      kind_of vars Malformed text k = absurd k
      kind_of vars Illegal text k = inr (inr (inl (refl, k)))
      kind_of vars Unfinished text k = inr (inr (inr (refl, k)))
      kind_of vars BadObject text k = absurd k
      kind_of vars Unverified text k = absurd k
      kind_of vars NotPlain text k = absurd k

-- entries come to one exit and one text
one_coming : (vars : Bool) (p : Program) (turns : ℕ) (ts : List Turn) (x y : Exit) (t u : List ℕ) → ComesTo vars x p turns ts t → ComesTo vars y p turns ts u → (x ≡ y) × (t ≡ u)
one_coming vars p turns ts x y t u k l = one_kind p ts turns vars x y t u (kind_of p ts turns vars x t k) (kind_of p ts turns vars y u l)

-- ---- what is said of bytes

-- what the program of a trace has come to: it's refused, or the exit is what comes of the entries
abbrev Comes : (vars : Bool) → Trace → Exit → List ℕ → Type 0
Comes vars trace exit told = ((v : Refusal) × IsRefusedFor trace.source v × (exit ≡ Refused) × (told ≡ refusal_text v))
    ⊎ ((p : Program) × IsCheckedOf trace.source p × ComesTo vars exit p trace.turns (history_of trace) told)

-- the bytes are a trace within its limits, whose program has come to this
record IsJudged (vars : Bool) (b : List ℕ) (exit : Exit) (told : List ℕ) : Type 0 where
  within : length b ≤ trace_limit
  trace : Trace
  read : IsTraceText b trace
  short : length trace.source ≤ source_limit
  comes : Comes vars trace exit told

-- what the bytes are, with the exit and the text
abbrev Finds : (vars : Bool) → List ℕ → Exit → List ℕ → Type 0
Finds vars b exit told =
    (IsTooLongTrace b × (exit ≡ TooLong) × (told ≡ codes "source too long\n"))
    ⊎ (((length b ≤ trace_limit) × (line : ℕ) × IsFirstMalformed b line × (exit ≡ Malformed) × (told ≡ codes "malformed trace: line " ++ decimal line ++ 10 ∷ []))
    ⊎ IsJudged vars b exit told)

-- what is said, where nothing was played
record IsFound (vars : Bool) (b : List ℕ) (exit : Exit) (history : List Turn) (places : List Place) (text : List ℕ) : Type 0 where
  told : List ℕ
  finds : Finds vars b exit told
  unplayed : IsUnplayed history places text told

replayed_found : (vars : Bool) (b : List ℕ) (exit : Exit) (h : List Turn) (ps : List Place) (t : List ℕ) → IsReplayed vars exit b h ps t → IsFound vars b exit h ps t
replayed_found vars b exit h ps t k = record {
  told = k.told;
  finds = inr (inr (record { within = k.within; trace = k.trace; read = k.read; short = k.short; comes = inr (k.program, k.lawful, k.comes) }));
  unplayed = k.unplayed;
}

-- where the bytes decide
found : (vars : Bool) (b : List ℕ) (exit : Exit) (h : List Turn) (ps : List Place) (t : List ℕ) → is_decided exit ≡ true → exit ≢ NoMemory → SaysReplay vars b exit h ps t → IsFound vars b exit h ps t
found vars b Done h ps t d m k = replayed_found vars b Done h ps t k
found vars b Faulted h ps t d m k = replayed_found vars b Faulted h ps t k
found vars b Deadlocked h ps t d m k = replayed_found vars b Deadlocked h ps t k
found vars b Refused h ps t d m k = record {
  told = refusal_text k.refused.refusal;
  finds = inr (inr (record { within = k.within; trace = k.trace; read = k.read; short = k.refused.within; comes = inl (k.refused.refusal, k.refused.refused, refl, refl) }));
  unplayed = k.refused.unplayed;
}
found vars b Spent h ps t d m k = replayed_found vars b Spent h ps t k
found vars b Usage h ps t d m k = absurd k
found vars b ReadFault h ps t d m k = absurd (false≢true d)
found vars b WriteFault h ps t d m k = absurd k
found vars b NoMemory h ps t d m k = absurd (m refl)
found vars b TooLong h ps t d m k = record { told = codes "source too long\n"; finds = inl (k.0, refl, refl); unplayed = k.1 }
found vars b Malformed h ps t d m k = record { told = codes "malformed trace: line " ++ decimal k.line ++ 10 ∷ []; finds = inr (inl (k.within, k.line, k.malformed, refl, refl)); unplayed = k.unplayed }
found vars b Illegal h ps t d m k = replayed_found vars b Illegal h ps t k
found vars b Unfinished h ps t d m k = replayed_found vars b Unfinished h ps t k
found vars b BadObject h ps t d m k = absurd k
found vars b Unverified h ps t d m k = absurd k
found vars b NotPlain h ps t d m k = absurd k

-- bytes over a limit are no trace within its limits, and have no malformed line
long_not_judged : (vars : Bool) (b : List ℕ) (exit : Exit) (t : List ℕ) → IsTooLongTrace b → IsJudged vars b exit t → ⊥
long_not_judged vars b exit t (inl over) k = let within = k.within in absurd (omega (arith, over, within))
long_not_judged vars b exit t (inr l) k =
    let short = k.short in
    let over : source_limit < length k.trace.source = subst (λ (a : Trace). source_limit < length a.source) (one_trace_text b l.1 k.trace l.2 k.read) l.3 in
    absurd (omega (arith, over, short))

long_not_malformed : (b : List ℕ) (line : ℕ) → IsTooLongTrace b → length b ≤ trace_limit → IsFirstMalformed b line → ⊥
long_not_malformed b line (inl over) within k = absurd (omega (arith, over, within))
long_not_malformed b line (inr l) within k = no_line_of_a_trace b l.1 l.2 line k

module _ (verdicts : OneVerdict) (programs : OneProgram) (either : ProgramOrRefusal) where
  the_refusal : (v w : Refusal) → Some v ≡ Some w → v ≡ w
  the_refusal v w e = cc

  one_comes : (vars : Bool) (trace : Trace) (x y : Exit) (t u : List ℕ) → Comes vars trace x t → Comes vars trace y u → (x ≡ y) × (t ≡ u)
  one_comes vars trace x y t u (inl k) (inl l) = (k.2 ∙ sym l.2, k.3 ∙ ap refusal_text (the_refusal k.0 l.0 (verdicts trace.source (Some k.0) (Some l.0) k.1 l.1)) ∙ sym l.3)
  one_comes vars trace x y t u (inl k) (inr l) = absurd (either trace.source l.0 k.0 l.1 k.1)
  one_comes vars trace x y t u (inr k) (inl l) = absurd (either trace.source k.0 l.0 k.1 l.1)
  one_comes vars trace x y t u (inr k) (inr l) =
      one_coming vars l.0 trace.turns (history_of trace) x y t u (subst (λ (p : Program). ComesTo vars x p trace.turns (history_of trace) t) (programs trace.source k.0 l.0 k.1 l.1) k.2) l.2

  one_judged : (vars : Bool) (b : List ℕ) (x y : Exit) (t u : List ℕ) → IsJudged vars b x t → IsJudged vars b y u → (x ≡ y) × (t ≡ u)
  one_judged vars b x y t u k l = one_comes vars l.trace x y t u (subst (λ (a : Trace). Comes vars a x t) (one_trace_text b k.trace l.trace k.read l.read) k.comes) l.comes

  one_finding : (vars : Bool) (b : List ℕ) (x y : Exit) (t u : List ℕ) → Finds vars b x t → Finds vars b y u → (x ≡ y) × (t ≡ u)
  one_finding vars b x y t u (inl k) (inl l) = (k.1 ∙ sym l.1, k.2 ∙ sym l.2)
  one_finding vars b x y t u (inl k) (inr (inl l)) = absurd (long_not_malformed b l.1 k.0 l.0 l.2)
  one_finding vars b x y t u (inl k) (inr (inr l)) = absurd (long_not_judged vars b y u k.0 l)
  one_finding vars b x y t u (inr (inl k)) (inl l) = absurd (long_not_malformed b k.1 l.0 k.0 k.2)
  one_finding vars b x y t u (inr (inl k)) (inr (inl l)) =
      (k.3 ∙ sym l.3, k.4 ∙ ap (λ (n : ℕ). codes "malformed trace: line " ++ decimal n ++ 10 ∷ []) (one_first_line b k.1 l.1 k.2 l.2) ∙ sym l.4)
  one_finding vars b x y t u (inr (inl k)) (inr (inr l)) = absurd (no_line_of_a_trace b l.trace l.read k.1 k.2)
  one_finding vars b x y t u (inr (inr k)) (inl l) = absurd (long_not_judged vars b x t l.0 k)
  one_finding vars b x y t u (inr (inr k)) (inr (inl l)) = absurd (no_line_of_a_trace b k.trace k.read l.1 l.2)
  one_finding vars b x y t u (inr (inr k)) (inr (inr l)) = one_judged vars b x y t u k l

  pub one_answer : (vars : Bool) (b : List ℕ) → HasOneAnswer (SaysReplay vars b)
  one_answer vars b = λ x y h i ps qs t u dx dy k l.
      let f = found vars b x h ps t dx.0 dx.1 k in
      let g = found vars b y i qs u dy.0 dy.1 l in
      let r = one_finding vars b x y f.told g.told f.finds g.finds in
      record {
        exits = r.0;
        histories = f.unplayed.no_turns ∙ sym g.unplayed.no_turns;
        places = f.unplayed.no_places ∙ sym g.unplayed.no_places;
        texts = f.unplayed.text_is ∙ r.1 ∙ sym g.unplayed.text_is;
      }
