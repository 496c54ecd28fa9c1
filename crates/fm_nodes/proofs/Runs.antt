-- What came of the rounds is a run.
use Rattle.std.proofs.Common.{◌≡◌, ℕ, ◌<◌, ◌≤◌, List, refl, sym, ap₂, subst, ◌∙◌, arith}
use Rattle.fm_base.specs.declared.schedule.Turn.{Turn}
use Rattle.fm_sched.specs.Schedule.{IsFinal, play, used}
use Rattle.fm_net.specs.Machine.{Place, State}
use Rattle.fm_net.specs.Starts.{choices_of}
use Rattle.fm_mean.specs.Outcome.{outcome_of}
use Rattle.fm_mean.specs.Process.{Proc}
use Rattle.fm_mean.specs.Steps.{first, step}
use Rattle.fm_link_law.specs.Hosts.{state_of}
use Rattle.fm_run.specs.Orders.{places_of}
use Rattle.fm_run.specs.Programs.{EndsSo, IsFrontWithin, IsRun}
use Rattle.fm_run.specs.Runs.{HaveSteps}
use Rattle.fm_run.specs.declared.run.Ending.{Ending}
use Rattle.fm_run.specs.declared.run.Ending.TheVariants as ending
use Rattle.fm_run.specs.declared.run.Run as run
use Rattle.fm_nodes_rounds.specs.declared.driving.Driven.{Driven}
use Rattle.fm_nodes_rounds.specs.declared.driving.Driven.TheVariants as driven
use Rattle.fm_nodes.specs.Nodes.{Hosted, IsHosted}
use Rattle.fm_nodes.specs.Ends.{EndsAs}
use Rattle.fm_nodes.specs.Made.{GoesByLinks}
use Rattle.fm_nodes.specs.Played.{IsWithin, played_of}
use Rattle.fm_nodes.proofs.Made.{links_of}

-- no process has a step any more, within the turns, where the rounds say so; and they cost more where it is said that they are spent
abbrev pub IsOverAt : Hosted → (turns : ℕ) → Driven → Type 0
IsOverAt h turns driven.Ended = IsFinal (step h.program) (state_of h.run.hosts) × (h.run.used ≤ turns)
IsOverAt h turns driven.Spent = turns < h.run.used

pub over_at : (h : Hosted) (turns : ℕ) (d : Driven) → (d ≡ driven.Ended → IsFinal (step h.program) (state_of h.run.hosts) × (h.run.used ≤ turns)) → (d ≡ driven.Spent → turns < h.run.used) → IsOverAt h turns d
over_at h turns driven.Ended ended spent = ended refl
over_at h turns driven.Spent ended spent = spent refl

module _ (h : Hosted) (turns : ℕ) (cs : List Place)
    (there : play (step h.program) (first h.program) cs ≡ state_of h.run.hosts) (cost : used (step h.program) (first h.program) cs ≡ h.run.used) where
  ends : (d : Driven) (e : Ending) → IsOverAt h turns d → EndsAs h d e → EndsSo h.program turns cs e
  ends driven.Ended (ending.Ended o) over is =
      (subst (IsFinal (step h.program)) (sym there) over.0, omega (arith, over.1, cost), is ∙ sym (ap₂ (λ (n : ℕ) (s : State Proc). outcome_of h.program n s) cost there))
  ends driven.Ended ending.Spent over is = absurd is
  ends driven.Spent (ending.Ended o) over is = absurd is
  ends driven.Spent ending.Spent over is = omega (arith, over, cost)

pub comes_to_run : (h : Hosted) (turns : ℕ) → IsHosted h → IsWithin (played_of h turns) → (d : Driven) → IsOverAt h turns d
    → (r : run.Run) → r.history.items ≡ h.run.history → places_of r.paths.items ≡ h.run.order → EndsAs h d r.ending → IsRun h.program turns r
comes_to_run h turns hosted within d over r history paths told =
    let played = hosted.played.played in
    record {
      choices = played.choices;
      kept = ap₂ (λ (hs : List Turn) (ps : List Place). choices_of hs ps) history paths ∙ played.kept;
      places = paths ∙ played.places_are;
      legal = played.legal;
      some_steps = subst HaveSteps (sym history) within.some_steps;
      front_within =
          subst (λ (hs : List Turn). IsFrontWithin h.program turns hs (places_of r.paths.items)) (sym history)
          (subst (λ (ps : List Place). IsFrontWithin h.program turns h.run.history ps) (sym paths) within.front_within);
      ends = ends h turns played.choices played.there played.used_is d r.ending over told;
    }

-- and it came of events over links
pub goes_by_links : (h : Hosted) (turns : ℕ) → IsHosted h → IsWithin (played_of h turns) → (r : run.Run) → r.history.items ≡ h.run.history → places_of r.paths.items ≡ h.run.order → GoesByLinks h.program r
goes_by_links h turns hosted within r history paths = record {
  events = within.made.events;
  steps = ap₂ (λ (hs : List Turn) (ps : List Place). choices_of hs ps) history paths ∙ within.made.steps;
  links = links_of h.program hosted.plain within.made.events;
}
