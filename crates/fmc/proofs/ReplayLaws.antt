-- Traces and their replays.
use Rattle.std.proofs.Common.{◌≡◌, ◌⊎◌, inl, inr, ℕ, zero, suc, ◌+◌, ◌<◌, ◌≤◌, Bool, true, false, List, [], ◌∷◌, ◌++◌, length, replicate, take, drop, refl, sym, ap, ap₂, subst, ◌∙◌, arith}
use Rattle.std.specs.Prelude.{Option, Some, None, is_some, option_map, slice_get, codes}
use Rattle.std.specs.Fmt.{decimal}
use Rattle.std.specs.List.{All, AllByRecursion}
use Rattle.std.proofs.lemmas.Bool.{false≢true}
use Rattle.std.proofs.Math.Seq.{take-append_seam}
use Rattle.std.proofs.lemmas.List.{append-nil, length-append, length-replicate, take-append-drop, take-append-le, take_all}
use Rattle.std.proofs.lemmas.List.Concat.{flat_map-append}
use Rattle.std.proofs.lemmas.List.Elements.{All-from_recursion, recursion_from_All}
use Rattle.std.proofs.lemmas.Option.{get_or_from_slice_get}
use Rattle.fm_base.specs.declared.schedule.Setup.{Setup}
use Rattle.fm_base.specs.declared.schedule.Turn.{Turn}
use Rattle.fm_sched.specs.Schedule.{play, IsFinal, IsLegal}
use Rattle.fm_net.specs.Machine.{Place, State}
use Rattle.fm_net.specs.Starts.{choices_of, starts_of}
use Rattle.fm_rules.specs.declared.program.Program.{Program}
use Rattle.fm_mean.specs.Process.{Proc}
use Rattle.fm_mean.specs.Outcome.{outcome_of}
use Rattle.fm_mean.specs.Steps.{first, language, step}
use Rattle.fm_run_law.specs.Entries.{AreSteps}
use Rattle.fm_report.specs.Report.{report_text, spent_text}
use Rattle.fm_run.specs.Entries.{turn_of}
use Rattle.fm_run.specs.Orders.{places_of}
use Rattle.fm_run.specs.Runs.{HaveSteps, place_of}
use Rattle.fm_run.specs.Programs.{IsRun}
use Rattle.fm_run.specs.declared.run.Run as run
use Rattle.fm_table.specs.Told.{IsKept, Told, cost_of as told_cost, stand_of, with_entry}
use Rattle.fm_table.specs.Turning.{MakesSteps, PlaysTo, with_steps}
use Rattle.fm_table.proofs.Fewness.{few_entries}
use Rattle.fm_table.proofs.Tables.{entry_at}
use Rattle.fm_trace.specs.Texts.{IsEntry, IsFirstMalformed, IsTraceText, IsTraceable, each_time, entries_of, history_of, trace_of_history, trace_text}
use Rattle.fm_trace.specs.declared.trace.Run as trace_run
use Rattle.fm_trace.specs.declared.trace.Trace.{Trace}
use Rattle.fm_verdict.specs.Program.{IsCheckedOf}
use Rattle.fm_base.specs.declared.rule.Refusal.{Refusal}
use Rattle.fm_base.specs.Rules.{refusal_text}
use Rattle.fm_trace.proofs.HistoryLaws.{history_again}
use Rattle.fm_words.specs.declared.command.Command.TheVariants as command
use Rattle.fmc.specs.declared.answer.Exit.{Exit}
use Rattle.fmc.specs.declared.answer.Exit.TheVariants.{Done, Faulted, Deadlocked, Refused, Spent, Usage, ReadFault, WriteFault, NoMemory, TooLong, Malformed, Illegal, Unfinished, BadObject, Unverified, NotPlain}
use Rattle.fmc.specs.declared.answer.Reply.{Reply}
use Rattle.fmc.specs.Reply.{IsReply, IsRunOf, bytes_of, places_in}
use Rattle.fmc.specs.Outcomes.{IsRefusedFor, IsUnplayed, source_limit, cost_of, exit_of, state_after, exit_in}
use Rattle.fmc.specs.Exits.{is_decided, is_end}
use Rattle.fmc.specs.Replay.{ComesTo, CostsMore, EndsProgram, HasCome, IsLacking, IsReplayed, SaysReplay, SaysTable, told_after, trace_limit}
use Rattle.fmc.specs.Answer.{IsEnded, IsPlayedExit, IsSpent, Says, SaysRun, SaysTrace, report_asked, trace_asked}
use Rattle.fmc.proofs.AnswerLaws.{end_by, ends_safe, told_by_trace}

-- ---- histories of runs

all_some : (ts : List Turn) → HaveSteps ts → AllByRecursion (λ (t : Turn). 1 ≤ t.steps) ts
all_some [] have = tt
all_some (t ∷ ts) have = (have.0, all_some ts have.1)

-- the history of a run is within the ranges of a trace
pub run_traceable : (setup : Setup) (program : Program) (r : run.Run) → IsRun program setup.turns r → IsTraceable setup.turns r.history.items
run_traceable setup program r k =
    let few = few_entries program setup.turns r.history.items _ k.choices k.kept k.legal k.some_steps k.front_within in
    let most = setup.few_turns in
    record {
      some_turns = setup.some_turns;
      few_turns = setup.few_turns;
      few_entries = omega (arith, few, most);
      some_steps = All-from_recursion (λ (t : Turn). 1 ≤ t.steps) r.history.items (all_some r.history.items k.some_steps);
    }

-- what `trace` says, by the history that was written
pub written_says : (b : List ℕ) (setup : Setup) (r : run.Run) (text : List ℕ) (written : List Turn) → length b ≤ source_limit → IsRunOf b setup.turns [] r → written ≡ r.history.items
    → text ≡ trace_text (trace_of_history setup.turns written b) → (IsTraceable setup.turns written → IsTraceText text (trace_of_history setup.turns written b))
    → SaysTrace setup.turns b (exit_in r.ending) r.history.items (places_of r.paths.items) text
written_says b setup r text written le k same text_is readable =
    told_by_trace b setup.turns r text le k
    (subst (λ (h : List Turn). text ≡ trace_text (trace_of_history setup.turns h b)) same text_is)
    (subst (λ (h : List Turn). IsTraceText text (trace_of_history setup.turns h b)) same
    (readable (subst (λ (h : List Turn). IsTraceable setup.turns h) (sym same) (run_traceable setup k.program r k.runs))))

-- ---- tables

-- what is kept, as steps of the program
pub record KeptSteps (a : Told) : Type 0 where
  pub choices : List Place
  pub steps : AreSteps a.program a.history choices
  pub state_is : (stand_of a).state ≡ state_after a.program choices
  pub places_are : (stand_of a).places ≡ starts_of (language a.program) (first a.program) choices
  pub cost_is : told_cost a ≡ cost_of a.program choices

pub kept_steps : (a : Told) → IsKept a → KeptSteps a
kept_steps a kept = let k = kept.played in record {
  choices = k.choices;
  steps = record { told = ap (choices_of a.history) (sym k.places_are) ∙ k.kept; legal = k.legal };
  state_is = sym k.there;
  places_are = k.places_are;
  cost_is = sym k.used_is;
}

comes_ended : (vars : Bool) (exit : Exit) (program : Program) (turns : ℕ) (ts : List Turn) (t : List ℕ) → is_end exit ≡ true → EndsProgram vars exit program turns ts t → ComesTo vars exit program turns ts t
comes_ended vars Done program turns ts t e k = k
comes_ended vars Faulted program turns ts t e k = k
comes_ended vars Deadlocked program turns ts t e k = k
comes_ended vars Refused program turns ts t e k = absurd (false≢true e)
comes_ended vars Spent program turns ts t e k = absurd (false≢true e)
comes_ended vars Usage program turns ts t e k = absurd (false≢true e)
comes_ended vars ReadFault program turns ts t e k = absurd (false≢true e)
comes_ended vars WriteFault program turns ts t e k = absurd (false≢true e)
comes_ended vars NoMemory program turns ts t e k = absurd (false≢true e)
comes_ended vars TooLong program turns ts t e k = absurd (false≢true e)
comes_ended vars Malformed program turns ts t e k = absurd (false≢true e)
comes_ended vars Illegal program turns ts t e k = absurd (false≢true e)
comes_ended vars Unfinished program turns ts t e k = absurd (false≢true e)
comes_ended vars BadObject program turns ts t e k = absurd (false≢true e)
comes_ended vars Unverified program turns ts t e k = absurd (false≢true e)
comes_ended vars NotPlain program turns ts t e k = absurd (false≢true e)

-- all entries were played, where what was played doesn't cost more than the turns
whole : (ts : List Turn) (count paid turns : ℕ) → paid ≤ turns → (count ≡ length ts) ⊎ (turns < paid) → take count ts ≡ ts
whole ts count paid turns within (inl e) = take_all count ts (omega (arith, e))
whole ts count paid turns within (inr over) = absurd (omega (arith, within, over))

-- what a table says whose entries were played, all of them or as many as cost more than the turns
front_comes : (vars : Bool) (program : Program) (setup : Setup) (ts : List Turn) (count : ℕ) (exit : Exit) (text : List ℕ) → count ≤ length ts → IsKept (told_after program setup (take count ts)) → (count ≡ length ts) ⊎ (setup.turns < told_cost (told_after program setup (take count ts)))
    → SaysTable vars (told_after program setup (take count ts)) exit text → ComesTo vars exit program setup.turns ts text
front_comes vars program setup ts count exit text le kept all (inl says) =
    let k = kept_steps (told_after program setup (take count ts)) kept in
    let over = says.1 in
    let paid = k.cost_is in
    subst (λ (x : Exit). ComesTo vars x program setup.turns ts text) (sym says.0)
    (record { count = count; counted = le; choices = k.choices; steps = k.steps; over = omega (arith, over, paid); text_is = says.2 })
front_comes vars program setup ts count exit text le kept all (inr (inl says)) =
    let a = told_after program setup (take count ts) in
    let k = kept_steps a kept in
    let within = says.1 in
    let paid = k.cost_is in
    subst (λ (x : Exit). ComesTo vars x program setup.turns ts text) (sym says.0) (record {
      choices = k.choices;
      steps = subst (λ (us : List Turn). AreSteps program us k.choices) (whole ts count (told_cost a) setup.turns within all) k.steps;
      in_turns = omega (arith, within, paid);
      goes_on = λ final. says.2 (subst (IsFinal (step program)) (sym k.state_is) final);
      text_is = says.3;
    })
front_comes vars program setup ts count exit text le kept all (inr (inr says)) =
    let a = told_after program setup (take count ts) in
    let k = kept_steps a kept in
    let within = says.1 in
    let paid = k.cost_is in
    let shown : outcome_of program (told_cost a) (stand_of a).state ≡ outcome_of program (cost_of program k.choices) (state_after program k.choices) =
    ap₂ (λ (n : ℕ) (s : State Proc). outcome_of program n s) k.cost_is k.state_is in
    let final : IsFinal (step program) (state_after program k.choices) = subst (IsFinal (step program)) k.state_is says.2 in
    let exit_is : exit ≡ exit_of (outcome_of program (cost_of program k.choices) (state_after program k.choices)) = says.0 ∙ ap exit_of shown in
    comes_ended vars exit program setup.turns ts text (ap is_end says.0 ∙ end_by (outcome_of program (told_cost a) (stand_of a).state).faults (outcome_of program (told_cost a) (stand_of a).state).main_ended) (record {
      choices = k.choices;
      steps = subst (λ (us : List Turn). AreSteps program us k.choices) (whole ts count (told_cost a) setup.turns within all) k.steps;
      final = final;
      in_turns = omega (arith, within, paid);
      exit_is = exit_is;
      text_is = says.3 ∙ ap (report_text vars) shown;
      safe = ends_safe program k.choices exit (k.steps.legal, final) exit_is;
    })

pub table_comes : (vars : Bool) (program : Program) (setup : Setup) (ts : List Turn) (a : Told) (exit : Exit) (text : List ℕ) → HasCome program setup ts a None → IsKept a → SaysTable vars a exit text → ComesTo vars exit program setup.turns ts text
table_comes vars program setup ts a exit text h kept says =
    front_comes vars program setup ts h.0 exit text h.1 (subst IsKept h.2 kept) (over_of h.3) (subst (λ (b : Told). SaysTable vars b exit text) h.2 says)
  where
    over_of : (h.0 ≡ length ts) ⊎ (setup.turns < told_cost a) → (h.0 ≡ length ts) ⊎ (setup.turns < told_cost (told_after program setup (take h.0 ts)))
    over_of (inl e) = inl e
    over_of (inr l) = inr (subst (λ (b : Told). setup.turns < told_cost b) h.2 l)

-- an entry that asks for more
pub lacking_comes : (vars : Bool) (program : Program) (setup : Setup) (ts : List Turn) (a : Told) (place : ℕ) → HasCome program setup ts a (Some place) → ComesTo vars Illegal program setup.turns ts (codes "illegal turn: entry " ++ decimal (place + 1) ++ 10 ∷ [])
lacking_comes vars program setup ts a place h =
    let b = told_after program setup (take place ts) in
    let lacks = h.2 in
    let k = kept_steps b lacks.kept in
    let within = lacks.in_turns in
    let paid = k.cost_is in
    record {
      before = place;
      entry = h.0;
      at = h.1;
      choices = k.choices;
      steps = k.steps;
      in_turns = omega (arith, within, paid);
      lacks = record {
        made = lacks.made;
        few = lacks.few;
        lacks = λ p at.
            let here : slice_get (stand_of b).places h.0.number ≡ Some p = ap (λ (ps : List Place). slice_get ps h.0.number) k.places_are ∙ at in
            let place_is : place_of (stand_of b).places (turn_of h.0.number lacks.made) ≡ p = get_or_from_slice_get (stand_of b).places h.0.number p [] here in (
              subst (λ (s : State Proc). IsLegal (step program) s (replicate lacks.made p)) k.state_is (subst (λ (q : Place). IsLegal (step program) (stand_of b).state (replicate lacks.made q)) place_is lacks.can.can),
              subst (λ (s : State Proc). step program (play (step program) s (replicate lacks.made p)) p ≡ None) k.state_is (lacks.cant p here),
            );
      };
      text_is = refl;
    }

-- ---- entries, one behind the other

take_one : {A : Type 0} (xs : List A) (place : ℕ) (x : A) → slice_get xs place ≡ Some x → take place xs ++ x ∷ [] ≡ take (suc place) xs
take_one [] place x at = absurd (cc at)
take_one (y ∷ ys) zero x at = let same : y ≡ x = cc at in ap (λ z. z ∷ []) (sym same)
take_one (y ∷ ys) (suc n) x at = ap (λ zs. y ∷ zs) (take_one ys n x at)

-- an entry more of those that are played
pub come_more : (program : Program) (setup : Setup) (ts : List Turn) (place : ℕ) (t : Turn) (a b : Told) → place < length ts → slice_get ts place ≡ Some t → 1 ≤ t.steps → a ≡ told_after program setup (take place ts) → MakesSteps t.number t.steps a b
    → b ≡ told_after program setup (take (place + 1) ts)
come_more program setup ts place t a b low at some is made =
    let next : suc place ≡ place + 1 = omega arith in
    made.told ∙ with_all t.steps some ∙ ap (λ (c : Told). with_entry c t) is ∙ entry_at program setup (take place ts) t ∙ ap (told_after program setup) (take_one ts place t at ∙ ap (λ (n : ℕ). take n ts) next)
  where
    with_all : (n : ℕ) → 1 ≤ n → with_steps a t.number n ≡ with_entry a (turn_of t.number n)
    with_all zero e = absurd (omega (arith, e))
    with_all (suc n) e = refl

-- what came of an entry, by whether it lacks a step
pub lacks_by : (a b : Told) (t : Turn) (r : Option ℕ) → is_some r ≡ true → PlaysTo t a b r → IsKept a → told_cost a ≤ a.setup.turns → IsLacking a t
lacks_by a b t None e h kept within = absurd (cc e)
lacks_by a b t (Some k) e h kept within = record { kept = kept; in_turns = within; made = k; few = h.0; after = b; can = h.1; cant = h.2 }

pub makes_by : (a b : Told) (t : Turn) (r : Option ℕ) → is_some r ≡ false → PlaysTo t a b r → MakesSteps t.number t.steps a b
makes_by a b t None e h = h
makes_by a b t (Some k) e h = absurd (cc e)

-- the run at a place
each_entry : (rs : List trace_run.Run) (place : ℕ) (r : trace_run.Run) → AllByRecursion IsEntry rs → slice_get rs place ≡ Some r → IsEntry r
each_entry [] place r all at = absurd (cc at)
each_entry (u ∷ us) zero r all at = let same : u ≡ r = cc at in subst IsEntry same all.0
each_entry (u ∷ us) (suc n) r all at = each_entry us n r all.1 at

pub run_is_entry : (rs : List trace_run.Run) (place : ℕ) (r : trace_run.Run) → All IsEntry rs → slice_get rs place ≡ Some r → IsEntry r
run_is_entry rs place r all at = each_entry rs place r (recursion_from_All IsEntry rs all) at

-- behind others each of its times is the same entry
pub at_time : (h : List Turn) (n made place : ℕ) (t : Turn) → made < n → length h + made ≡ place → slice_get (h ++ replicate n t) place ≡ Some t
at_time [] zero made place t low e = absurd (omega (arith, low))
at_time [] (suc n) made zero t low e = refl
at_time [] (suc n) made (suc k) t low e = at_time [] n k k t (omega (arith, low, e)) (omega arith)
at_time (u ∷ us) n made zero t low e = absurd (omega (arith, e))
at_time (u ∷ us) n made (suc k) t low e = at_time us n made k t low (omega (arith, e))

pub length_times : (h : List Turn) (n : ℕ) (t : Turn) → length (h ++ replicate n t) ≡ length h + n
length_times h n t = length-append h (replicate n t) ∙ ap (λ (k : ℕ). length h + k) (length-replicate n t)

pub take_front : (h more : List Turn) → take (length h + 0) (h ++ more) ≡ h
take_front h more = let k : length h + 0 ≡ length h = omega arith in ap (λ (n : ℕ). take n (h ++ more)) k ∙ take-append_seam h more

-- the entries up to a run, those of it, and those behind it
pub record IsPart (rs : List trace_run.Run) (place : ℕ) (r : trace_run.Run) : Type 0 where
  pub next : entries_of (take (place + 1) rs) ≡ entries_of (take place rs) ++ each_time r
  pub whole : entries_of rs ≡ (entries_of (take place rs) ++ each_time r) ++ entries_of (drop (place + 1) rs)

pub part_at : (rs : List trace_run.Run) (place : ℕ) (r : trace_run.Run) → slice_get rs place ≡ Some r → IsPart rs place r
part_at rs place r at =
    let k : place + 1 ≡ suc place = omega arith in
    let one : take (place + 1) rs ≡ take place rs ++ r ∷ [] = ap (λ (n : ℕ). take n rs) k ∙ sym (take_one rs place r at) in
    let next : entries_of (take (place + 1) rs) ≡ entries_of (take place rs) ++ each_time r =
    ap entries_of one ∙ flat_map-append each_time (take place rs) (r ∷ []) ∙ ap (λ (ts : List Turn). entries_of (take place rs) ++ ts) (append-nil (each_time r)) in
    record {
      next = next;
      whole =
          ap entries_of (sym (take-append-drop (place + 1) rs)) ∙ flat_map-append each_time (take (place + 1) rs) (drop (place + 1) rs)
          ∙ ap (λ (ts : List Turn). ts ++ entries_of (drop (place + 1) rs)) next;
    }

get_longer : (ts more : List Turn) (place : ℕ) (t : Turn) → slice_get ts place ≡ Some t → (slice_get (ts ++ more) place ≡ Some t) × (place < length ts)
get_longer [] more place t at = absurd (cc at)
get_longer (u ∷ us) more zero t at = (at, omega arith)
get_longer (u ∷ us) more (suc n) t at = let r = get_longer us more n t at in (r.0, omega (arith, r.1))

-- so many were played
module _ (program : Program) (setup : Setup) (ts : List Turn) where
  pub come_spent : (place : ℕ) (a : Told) → place ≤ length ts → a ≡ told_after program setup (take place ts) → a.setup.turns < told_cost a → HasCome program setup ts a None
  come_spent place a le is over = (place, le, is, inr (subst (λ (s : Setup). s.turns < told_cost a) (ap (λ (b : Told). b.setup) is) over))

  pub come_all : (place : ℕ) (a : Told) → length ts ≤ place → a ≡ told_after program setup (take place ts) → HasCome program setup ts a None
  come_all place a high is = (length ts, omega arith, is ∙ ap (told_after program setup) (take_all place ts high ∙ sym (take_all (length ts) ts (omega arith))), inl refl)

  pub come_lacking : (place : ℕ) (a b : Told) (t : Turn) → slice_get ts place ≡ Some t → a ≡ told_after program setup (take place ts) → IsLacking a t → HasCome program setup ts b (Some place)
  come_lacking place a b t at is lacks = (t, at, subst (λ (c : Told). IsLacking c t) is lacks)

  -- and what came of the first of them came of all
  pub lacking_longer : (more : List Turn) (place : ℕ) (a : Told) → HasCome program setup ts a (Some place) → HasCome program setup (ts ++ more) a (Some place)
  lacking_longer more place a h =
      let g = get_longer ts more place h.0 h.1 in
      let low = g.1 in
      (h.0, g.0, subst (λ (us : List Turn). IsLacking (told_after program setup us) h.0) (sym (take-append-le place ts more (omega (arith, low)))) h.2)

  pub spent_longer : (more : List Turn) (a : Told) → HasCome program setup ts a None → a.setup.turns < told_cost a → HasCome program setup (ts ++ more) a None
  spent_longer more a h over =
      let low = h.1 in
      (h.0, omega (arith, low, length-append ts more), h.2 ∙ ap (told_after program setup) (sym (take-append-le h.0 ts more low)), inr (subst (λ (s : Setup). s.turns < told_cost a) (ap (λ (b : Told). b.setup) h.2) over))

  pub all_come : (a : Told) → HasCome program setup ts a None → told_cost a ≤ a.setup.turns → a ≡ told_after program setup ts
  all_come a h within = go h.3
    where
      go : (h.0 ≡ length ts) ⊎ (setup.turns < told_cost a) → a ≡ told_after program setup ts
      go (inl e) = h.2 ∙ ap (told_after program setup) (take_all h.0 ts (omega (arith, e)))
      go (inr over) = let same = ap (λ (b : Told). b.setup.turns) h.2 in absurd (omega (arith, over, within, same))

pub lacks_below : (program : Program) (setup : Setup) (ts : List Turn) (a : Told) (place : ℕ) → HasCome program setup ts a (Some place) → place < length ts
lacks_below program setup ts a place h = (get_longer ts [] place h.0 h.1).1

-- behind entries a table is told by them
pub told_by : (program : Program) (setup : Setup) (ts : List Turn) (a : Told) → a ≡ told_after program setup ts → a ≡ told_after a.program a.setup a.history
told_by program setup ts a is = subst (λ (b : Told). b ≡ told_after b.program b.setup b.history) (sym is) refl

come_behind : (program : Program) (setup : Setup) (ts more : List Turn) (a b : Told) (o : Option ℕ) → a ≡ told_after program setup ts → HasCome a.program a.setup (a.history ++ more) b (option_map (λ made. length a.history + made) o)
    → HasCome program setup (ts ++ more) b (option_map (λ made. length ts + made) o)
come_behind program setup ts more a b o is h = subst (λ (t : Told). HasCome t.program t.setup (t.history ++ more) b (option_map (λ made. length t.history + made) o)) is h

-- a run, behind those before it
module _ (program : Program) (setup : Setup) (rs : List trace_run.Run) (place : ℕ) (r : trace_run.Run) (at : slice_get rs place ≡ Some r) where
  abbrev front : List Turn
  front = entries_of (take place rs)

  part : IsPart rs place r
  part = part_at rs place r at

  pub run_counted : length (entries_of (take (place + 1) rs)) ≡ length front + r.times
  run_counted = ap length part.next ∙ length_times front r.times r.turn

  pub run_within : length front + r.times ≤ length (entries_of rs)
  run_within =
      let all = ap length part.whole in
      let some = length-append (front ++ each_time r) (entries_of (drop (place + 1) rs)) in
      omega (arith, all, some, length_times front r.times r.turn)

  module _ (a b : Told) (o : Option ℕ) (is : a ≡ told_after program setup front) (come : HasCome a.program a.setup (a.history ++ each_time r) b (option_map (λ made. length a.history + made) o)) where
    here : HasCome program setup (front ++ each_time r) b (option_map (λ made. length front + made) o)
    here = come_behind program setup front (each_time r) a b o is come

    pub run_lacking : (made k : ℕ) → o ≡ Some made → length front + made ≡ k → HasCome program setup (entries_of rs) b (Some k)
    run_lacking made k some count =
        subst (λ (ts : List Turn). HasCome program setup ts b (Some k)) (sym part.whole)
        (lacking_longer program setup (front ++ each_time r) (entries_of (drop (place + 1) rs)) k b
        (subst (λ (q : Option ℕ). HasCome program setup (front ++ each_time r) b q) (ap (option_map (λ made. length front + made)) some ∙ ap Some count) here))

    none_here : o ≡ None → HasCome program setup (front ++ each_time r) b None
    none_here none = subst (λ (q : Option ℕ). HasCome program setup (front ++ each_time r) b (option_map (λ made. length front + made) q)) none here

    pub run_spent : o ≡ None → b.setup.turns < told_cost b → HasCome program setup (entries_of rs) b None
    run_spent none over =
        subst (λ (ts : List Turn). HasCome program setup ts b None) (sym part.whole)
        (spent_longer program setup (front ++ each_time r) (entries_of (drop (place + 1) rs)) b (none_here none) over)

    pub run_all : o ≡ None → told_cost b ≤ b.setup.turns → b ≡ told_after program setup (entries_of (take (place + 1) rs))
    run_all none within = all_come program setup (front ++ each_time r) b (none_here none) within ∙ ap (told_after program setup) (sym part.next)

pub runs_all : (program : Program) (setup : Setup) (rs : List trace_run.Run) (place : ℕ) (a : Told) → length rs ≤ place → a ≡ told_after program setup (entries_of (take place rs)) → HasCome program setup (entries_of rs) a None
runs_all program setup rs place a high is = (length (entries_of rs), omega arith, is ∙ ap (told_after program setup) (ap entries_of (take_all place rs high) ∙ sym (take_all (length (entries_of rs)) (entries_of rs) (omega arith))), inl refl)

-- ---- replies

pub comes_decided : (vars : Bool) (exit : Exit) (program : Program) (turns : ℕ) (ts : List Turn) (t : List ℕ) → ComesTo vars exit program turns ts t → is_decided exit ≡ true
comes_decided vars Done program turns ts t k = refl
comes_decided vars Faulted program turns ts t k = refl
comes_decided vars Deadlocked program turns ts t k = refl
comes_decided vars Refused program turns ts t k = absurd k
comes_decided vars Spent program turns ts t k = refl
comes_decided vars Usage program turns ts t k = absurd k
comes_decided vars ReadFault program turns ts t k = absurd k
comes_decided vars WriteFault program turns ts t k = absurd k
comes_decided vars NoMemory program turns ts t k = absurd k
comes_decided vars TooLong program turns ts t k = absurd k
comes_decided vars Malformed program turns ts t k = absurd k
comes_decided vars Illegal program turns ts t k = refl
comes_decided vars Unfinished program turns ts t k = refl
comes_decided vars BadObject program turns ts t k = absurd k
comes_decided vars Unverified program turns ts t k = absurd k
comes_decided vars NotPlain program turns ts t k = absurd k

-- what comes of entries is what is said
says_replayed : (vars : Bool) (b : List ℕ) (exit : Exit) (h : List Turn) (ps : List Place) (t : List ℕ) (program : Program) (trace : Trace) (told : List ℕ) → ComesTo vars exit program trace.turns (history_of trace) told → IsReplayed vars exit b h ps t → SaysReplay vars b exit h ps t
says_replayed vars b Done h ps t program trace told k r = r
says_replayed vars b Faulted h ps t program trace told k r = r
says_replayed vars b Deadlocked h ps t program trace told k r = r
says_replayed vars b Refused h ps t program trace told k r = absurd k
says_replayed vars b Spent h ps t program trace told k r = r
says_replayed vars b Usage h ps t program trace told k r = absurd k
says_replayed vars b ReadFault h ps t program trace told k r = absurd k
says_replayed vars b WriteFault h ps t program trace told k r = absurd k
says_replayed vars b NoMemory h ps t program trace told k r = absurd k
says_replayed vars b TooLong h ps t program trace told k r = absurd k
says_replayed vars b Malformed h ps t program trace told k r = absurd k
says_replayed vars b Illegal h ps t program trace told k r = r
says_replayed vars b Unfinished h ps t program trace told k r = r
says_replayed vars b BadObject h ps t program trace told k r = absurd k
says_replayed vars b Unverified h ps t program trace told k r = absurd k
says_replayed vars b NotPlain h ps t program trace told k r = absurd k

pub replied : (vars : Bool) (b : List ℕ) (trace : Trace) (program : Program) (r : Reply) → length b ≤ trace_limit → IsTraceText b trace → length trace.source ≤ source_limit → IsCheckedOf trace.source program
    → (told : List ℕ) × ComesTo vars r.ran.exit program trace.turns (history_of trace) told × IsUnplayed r.ran.history.items (places_in r.ran) (bytes_of r.text) told → IsReply (command.Replay vars) b r
replied vars b trace program r within read short lawful h =
    says_replayed vars b r.ran.exit r.ran.history.items (places_in r.ran) (bytes_of r.text) program trace h.0 h.1
    (record { within = within; trace = trace; read = read; short = short; program = program; lawful = lawful; told = h.0; comes = h.1; unplayed = h.2 })

pub too_long_by_replay : (vars : Bool) (b : List ℕ) (trace : Trace) (r : Reply) → length b ≤ trace_limit → IsTraceText b trace → source_limit < length trace.source → r.ran.exit ≡ TooLong
    → IsUnplayed r.ran.history.items (places_in r.ran) (bytes_of r.text) (codes "source too long\n") → IsReply (command.Replay vars) b r
too_long_by_replay vars b trace r within read over e u =
    subst (λ (x : Exit). SaysReplay vars b x r.ran.history.items (places_in r.ran) (bytes_of r.text)) (sym e) (inr (within, trace, read, over), u)

pub refused_by_replay : (vars : Bool) (b : List ℕ) (trace : Trace) (v : Refusal) (r : Reply) → length b ≤ trace_limit → IsTraceText b trace → length trace.source ≤ source_limit → IsRefusedFor trace.source v → r.ran.exit ≡ Refused
    → IsUnplayed r.ran.history.items (places_in r.ran) (bytes_of r.text) (refusal_text v) → IsReply (command.Replay vars) b r
refused_by_replay vars b trace v r within read short refused e u =
    subst (λ (x : Exit). SaysReplay vars b x r.ran.history.items (places_in r.ran) (bytes_of r.text)) (sym e)
    (record { within = within; trace = trace; read = read; refused = record { within = short; refusal = v; refused = refused; unplayed = u } })

pub malformed_by_replay : (vars : Bool) (b : List ℕ) (line : ℕ) (r : Reply) → length b ≤ trace_limit → IsFirstMalformed b line → r.ran.exit ≡ Malformed
    → IsUnplayed r.ran.history.items (places_in r.ran) (bytes_of r.text) (codes "malformed trace: line " ++ decimal line ++ 10 ∷ []) → IsReply (command.Replay vars) b r
malformed_by_replay vars b line r within malformed e u =
    subst (λ (x : Exit). SaysReplay vars b x r.ran.history.items (places_in r.ran) (bytes_of r.text)) (sym e) (record { within = within; line = line; malformed = malformed; unplayed = u })

-- ---- what was traced is replayed

ended_again : (setup : Setup) (vars : Bool) (b : List ℕ) (exit : Exit) (h : List Turn) (ps : List Place) (text : List ℕ) → is_end exit ≡ true → IsEnded b (trace_asked setup.turns b) exit h ps text → IsTraceText text (trace_of_history setup.turns h b) → length text ≤ trace_limit
    → (told : List ℕ) × IsEnded b (report_asked setup.turns vars []) exit h ps told × IsReplayed vars exit text [] [] told
ended_again setup vars b exit h ps text end k read within =
    let o = outcome_of k.program (cost_of k.program k.choices) (state_after k.program k.choices) in
    let told = report_text vars o in (
      told,
      record {
        within = k.within;
        program = k.program;
        choices = k.choices;
        kept = k.kept;
        ends = k.ends;
        in_turns = k.in_turns;
        exit_is = k.exit_is;
        text_is = refl;
        tells_each = k.tells_each;
        one_outcome = k.one_outcome;
        safe = k.safe;
      },
      record {
        within = within;
        trace = trace_of_history setup.turns h b;
        read = read;
        short = k.within;
        program = k.program;
        lawful = k.kept.lawful;
        told = told;
        comes = comes_ended vars exit k.program setup.turns (history_of (trace_of_history setup.turns h b)) told end (record {
          choices = k.choices;
          steps = subst (λ (ts : List Turn). AreSteps k.program ts k.choices) (sym (history_again setup.turns h b)) (record { told = ap (choices_of h) (sym k.kept.starts) ∙ k.kept.kept; legal = k.kept.legal });
          final = k.ends.1;
          in_turns = k.in_turns;
          exit_is = k.exit_is;
          text_is = refl;
          safe = k.safe;
        });
        unplayed = record { no_turns = refl; no_places = refl; text_is = refl };
      },
    )

spent_again : (setup : Setup) (vars : Bool) (b : List ℕ) (h : List Turn) (ps : List Place) (text : List ℕ) → IsSpent b (trace_asked setup.turns b) h ps text → IsTraceText text (trace_of_history setup.turns h b) → length text ≤ trace_limit
    → (told : List ℕ) × IsSpent b (report_asked setup.turns vars []) h ps told × IsReplayed vars Spent text [] [] told
spent_again setup vars b h ps text k read within = (
  spent_text setup.turns,
  record {
    within = k.within;
    program = k.program;
    choices = k.choices;
    kept = k.kept;
    over = k.over;
    text_is = refl;
    fair = k.fair;
    spent_for_all = k.spent_for_all;
  },
  record {
    within = within;
    trace = trace_of_history setup.turns h b;
    read = read;
    short = k.within;
    program = k.program;
    lawful = k.kept.lawful;
    told = spent_text setup.turns;
    comes = subst (λ (ts : List Turn). CostsMore k.program setup.turns ts (spent_text setup.turns)) (sym (history_again setup.turns h b)) (record {
      count = length h;
      counted = omega arith;
      choices = k.choices;
      steps = subst (λ (ts : List Turn). AreSteps k.program ts k.choices) (sym (take_all (length h) h (omega arith))) (record { told = ap (choices_of h) (sym k.kept.starts) ∙ k.kept.kept; legal = k.kept.legal });
      over = k.over;
      text_is = refl;
    });
    unplayed = record { no_turns = refl; no_places = refl; text_is = refl };
  },
)

-- what `trace` wrote tells what `run` would
abbrev IsAgain : (setup : Setup) (vars : Bool) (b : List ℕ) (exit : Exit) (h : List Turn) (ps : List Place) (text : List ℕ) → Type 0
IsAgain setup vars b exit h ps text = (told : List ℕ) × SaysRun (report_asked setup.turns vars []) b exit h ps told × Says (command.Replay vars) text exit [] [] told

pub replayed : (setup : Setup) (vars : Bool) (b : List ℕ) (exit : Exit) (h : List Turn) (ps : List Place) (text : List ℕ) → Says (command.Trace setup) b exit h ps text → IsPlayedExit exit → length text ≤ trace_limit
    → (told : List ℕ) × SaysRun (report_asked setup.turns vars []) b exit h ps told × Says (command.Replay vars) text exit [] [] told
replayed setup vars b exit h ps text k (inl (inl e)) within =
    let j = subst (λ (x : Exit). SaysTrace setup.turns b x h ps text) e k in
    subst (λ (x : Exit). IsAgain setup vars b x h ps text) (sym e) (ended_again setup vars b Done h ps text refl j.0 (j.1 (inl (inl refl))) within)
replayed setup vars b exit h ps text k (inl (inr (inl e))) within =
    let j = subst (λ (x : Exit). SaysTrace setup.turns b x h ps text) e k in
    subst (λ (x : Exit). IsAgain setup vars b x h ps text) (sym e) (ended_again setup vars b Faulted h ps text refl j.0 (j.1 (inl (inr (inl refl)))) within)
replayed setup vars b exit h ps text k (inl (inr (inr e))) within =
    let j = subst (λ (x : Exit). SaysTrace setup.turns b x h ps text) e k in
    subst (λ (x : Exit). IsAgain setup vars b x h ps text) (sym e) (ended_again setup vars b Deadlocked h ps text refl j.0 (j.1 (inl (inr (inr refl)))) within)
replayed setup vars b exit h ps text k (inr e) within =
    let j = subst (λ (x : Exit). SaysTrace setup.turns b x h ps text) e k in
    subst (λ (x : Exit). IsAgain setup vars b x h ps text) (sym e) (spent_again setup vars b h ps text j.0 (j.1 (inr refl)) within)
