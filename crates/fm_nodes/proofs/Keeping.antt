-- What an event leaves as it was, and what holds behind it.
use Rattle.std.proofs.Common.{◌≡◌, ℕ, ◌<◌, ◌≤◌, Bool, true, false, Option, List, [], ◌∷◌, ◌++◌, length, sym, ap, subst, arith}
use Rattle.std.specs.Prelude.{Result, Ok, Err}
use Rattle.std.proofs.lemmas.List.{length-append}
use Rattle.fm_base.specs.declared.memory.NoMemory.{NoMemory}
use Rattle.fm_base.specs.declared.schedule.Turn.{Turn}
use Rattle.fm_net.specs.Machine.{Place}
use Rattle.fm_net.specs.Starts.{starts_at}
use Rattle.fm_rules.specs.declared.program.Program.{Program}
use Rattle.fm_mean.specs.Process.{Proc}
use Rattle.fm_mean.specs.Steps.{first_proc, language}
use Rattle.fm_link_law.specs.Hosts.{Hosts, state_of}
use Rattle.fm_run.specs.Programs as run
use Rattle.fm_run.specs.Programs.{IsFrontWithin, play_of}
use Rattle.fm_run.specs.Runs.{HaveSteps}
use Rattle.fm_run.proofs.Playing.{front_none, front_more}
use Rattle.fm_nodes_hosts.specs.Runs.{Run, HasStepped, IsMoved, IsTried, first_run, one_step_of, with_hosts}
use Rattle.fm_nodes_rounds.specs.Rounds.{is_step}
use Rattle.fm_nodes_rounds.specs.declared.hosts.NodeEvent.{NodeEvent}
use Rattle.fm_nodes_rounds.specs.declared.hosts.NodeEvent.TheVariants.{Step, Send, Answer, Deliver, Lose, Restart}
use Rattle.fm_nodes.specs.Nodes.{Hosted, IsDone, IsHosted, IsRestarted}
use Rattle.fm_nodes.specs.Made.{IsMade}
use Rattle.fm_nodes.specs.Played.{HasNoStep, IsWithin, played_of}
use Rattle.fm_nodes.proofs.Costs.{step_costs}
use Rattle.fm_nodes.proofs.Made.{made_first, made_same, made_tried, made_done}

-- ---- what the network does

unchanged : (old new : Run Proc) → new ≡ old → HasNoStep old new
unchanged old new e = record { history = ap (λ (r : Run Proc). r.history) e; order = ap (λ (r : Run Proc). r.order) e; used = ap (λ (r : Run Proc). r.used) e }

hosts_alone : (old new : Run Proc) (hosts : Hosts Proc) → new ≡ with_hosts old hosts → HasNoStep old new
hosts_alone old new hosts e = record { history = ap (λ (r : Run Proc). r.history) e; order = ap (λ (r : Run Proc). r.order) e; used = ap (λ (r : Run Proc). r.used) e }

moved : (later : Option (Hosts Proc)) (old new : Run Proc) (r : Result Bool NoMemory) → IsMoved later old new r → HasNoStep old new
moved later old new (Ok true) is = hosts_alone old new new.hosts is.1
moved later old new (Ok false) is = unchanged old new is.1
moved later old new (Err want) is = unchanged old new is

restarted : (h : Hosted) (host : ℕ) (new : Run Proc) (r : Result Bool NoMemory) → IsRestarted h host new r → HasNoStep h.run new
restarted h host new (Ok true) is = record { history = ap (λ (r : Run Proc). r.history) is.1; order = ap (λ (r : Run Proc). r.order) is.1; used = ap (λ (r : Run Proc). r.used) is.1 }
restarted h host new (Ok false) is = unchanged h.run new is.1
restarted h host new (Err want) is = unchanged h.run new is

false_true : false ≡ true → ⊥
false_true e = absurd (cc e)

pub moves : (h : Hosted) (event : NodeEvent) → is_step event ≡ false → (new : Run Proc) (r : Result Bool NoMemory) → IsDone h event new r → HasNoStep h.run new
moves h (Step path) e new r is = absurd (false_true (sym e))
moves h (Send channel place) e new r is = moved _ h.run new r is
moves h (Answer channel) e new r is = moved _ h.run new r is
moves h (Deliver place) e new r is = moved _ h.run new r is
moves h (Lose place) e new r is = moved _ h.run new r is
moves h (Restart host) e new r is = restarted h host new r is

-- ---- what holds between two events

pub within_first : (h : Hosted) (turns : ℕ) → h.run ≡ first_run (first_proc h.program) → IsWithin (played_of h turns)
within_first h turns e = record {
  some_steps = subst HaveSteps (sym (ap (λ (r : Run Proc). r.history) e)) tt;
  front_within = front_none (play_of h.program) turns h.run.history h.run.order (ap (λ (r : Run Proc). r.history) e);
  made = made_first h.program h.run e;
}

made_by : (old new : Hosted) → new.program ≡ old.program → IsMade old.program new.run → IsMade new.program new.run
made_by old new program made = subst (λ (p : Program). IsMade p new.run) (sym program) made

within_still : (old new : Hosted) (turns : ℕ) → new.program ≡ old.program → HasNoStep old.run new.run → IsMade old.program new.run → IsWithin (played_of old turns) → IsWithin (played_of new turns)
within_still old new turns program same made within = record {
  some_steps = subst HaveSteps (sym same.history) within.some_steps;
  front_within =
      subst (λ (p : Program). IsFrontWithin p turns new.run.history new.run.order) (sym program)
      (subst (λ (hs : List Turn). IsFrontWithin old.program turns hs new.run.order) (sym same.history)
      (subst (λ (ps : List Place). IsFrontWithin old.program turns old.run.history ps) (sym same.order) within.front_within));
  made = made_by old new program made;
}

pub within_moved : (old new : Hosted) (turns : ℕ) → new.program ≡ old.program → (event : NodeEvent) → is_step event ≡ false → (r : Result Bool NoMemory) → IsDone old event new.run r
    → IsWithin (played_of old turns) → IsWithin (played_of new turns)
within_moved old new turns program event other r is within = within_still old new turns program (moves old event other new.run r is) (made_done old new.run event r is within.made) within

-- a history with the steps of its entries, as runs have it
pub kept_of : (h : Hosted) → IsHosted h → HaveSteps h.run.history → run.IsPlayedBy h.program h.run.history h.run.order (state_of h.run.hosts) h.run.used
kept_of h hosted some =
    let played = hosted.played.played in
    record {
      choices = played.choices;
      kept = played.kept;
      places_are = played.places_are;
      legal = played.legal;
      there = played.there;
      used_is = played.used_is;
      some_steps = some;
    }

one_more : (ts : List Turn) (number : ℕ) → HaveSteps ts → HaveSteps (ts ++ one_step_of number ∷ [])
one_more [] number have = (omega arith, tt)
one_more (t ∷ ts) number have = (have.0, one_more ts number have.1)

module _ (old new : Hosted) (program : new.program ≡ old.program) (hosted : IsHosted old) (q : Place) (does : HasStepped (language old.program) q old.run new.run) where
  pub pays : old.run.used < new.run.used
  pays = omega (arith, step_costs old.program hosted.plain old.run hosted.played q new.run.hosts does.cost does.steps, does.used_is)

  pub within_step : (turns : ℕ) → IsWithin (played_of old turns) → old.run.used ≤ turns → IsWithin (played_of new turns)
  within_step turns within in_turns = record {
    some_steps = subst HaveSteps (sym does.history_is) (one_more old.run.history does.number within.some_steps);
    front_within =
        subst (λ (p : Program). IsFrontWithin p turns new.run.history new.run.order) (sym program)
        (front_more (play_of old.program) old.run.history old.run.order (state_of old.run.hosts) old.run.used (kept_of old hosted within.some_steps)
        (one_step_of does.number) _ new.run.history does.history_is new.run.order does.order_is turns in_turns);
    made = made_by old new program (made_tried old.program old.run new.run q (Ok true) does within.made);
  }

-- ---- a try to step

-- the costs behind it, and how many processes there are
abbrev pub Paid : (old new : Run Proc) → Result Bool NoMemory → Type 0
Paid old new (Ok true) = (old.used < new.used) × (length old.order ≤ length new.order)
Paid old new (Ok false) = HasNoStep old new
Paid old new (Err want) = HasNoStep old new

module _ (old new : Hosted) (program : new.program ≡ old.program) (hosted : IsHosted old) (q : Place) where
  more_order : HasStepped (language old.program) q old.run new.run → length old.run.order ≤ length new.run.order
  more_order does =
      let more = starts_at (language old.program) (state_of old.run.hosts) q in
      omega (arith, ap length does.order_is, length-append old.run.order more)

  pub paid : (r : Result Bool NoMemory) → IsTried (language old.program) q old.run new.run r → Paid old.run new.run r
  paid (Ok true) is = (pays old new program hosted q is, more_order is)
  paid (Ok false) is = unchanged old.run new.run is.1
  paid (Err want) is = unchanged old.run new.run is

  pub pays_when : (done : Bool) → IsTried (language old.program) q old.run new.run (Ok done) → done ≡ true → old.run.used < new.run.used
  pays_when true is e = pays old new program hosted q is
  pays_when false is e = absurd (false_true e)

  pub within_tried : (r : Result Bool NoMemory) → IsTried (language old.program) q old.run new.run r → (turns : ℕ) → IsWithin (played_of old turns) → old.run.used ≤ turns → IsWithin (played_of new turns)
  within_tried (Ok true) is turns within in_turns = within_step old new program hosted q is turns within in_turns
  within_tried (Ok false) is turns within in_turns = within_still old new turns program (unchanged old.run new.run is.1) (made_same old.program old.run new.run is.1 within.made) within
  within_tried (Err want) is turns within in_turns = within_still old new turns program (unchanged old.run new.run is) (made_same old.program old.run new.run is within.made) within
