-- What a process on hosts waits for.
use Rattle.std.proofs.Common.{◌≡◌, ℕ, false, Option, Some, None, option_map, List, length, refl, sym, ap, subst, ◌∙◌}
use Rattle.std.specs.FinMap.{get}
use Rattle.fm_net.specs.Machine.{Place, Procs}
use Rattle.fm_rules.specs.declared.program.Program.{Program}
use Rattle.fm_mean.specs.declared.outcome.At.{At}
use Rattle.fm_mean.specs.declared.outcome.At.TheVariants as at
use Rattle.fm_mean.specs.Actions.{Join, Meets, action_of}
use Rattle.fm_mean.specs.Outcome.{awaited, ended_at, need_of, waits_by}
use Rattle.fm_mean.specs.Process.{Kid, Phase, Running, Joining, Ended, Faulted, Proc}
use Rattle.fm_plain.specs.Events as plain
use Rattle.fm_plain.specs.Events.{IsEvent}
use Rattle.fm_plain.specs.declared.event.Event.{Event}
use Rattle.fm_plain.specs.declared.event.Event.TheVariants as event
use Rattle.fm_plain_frame.specs.Frames.{proc_of}
use Rattle.fm_plain_frame.specs.declared.process.PlainProc.{PlainProc}
use Rattle.fm_plain_net.proofs.Waiting.{join_waits}
use Rattle.fm_plain_replies.specs.Joins.{kids_in}
use Rattle.fm_nodes_procs.specs.Processes.{by_path, procs_of}
use Rattle.fm_nodes_procs.specs.declared.processes.Processes.{Processes}
use Rattle.fm_nodes_procs.proofs.Procs.{there}

kids_same : (phase : Phase) → plain.kids_in phase ≡ kids_in phase
kids_same Running = refl
kids_same (Joining block kids) = refl
kids_same Ended = refl
kids_same (Faulted line fault) = refl

-- who joins waits for the first child that hasn't ended
pub joined_waits : (p : Program) (x : Proc) (m : Procs Proc) (q : Place) (e : Event) (block count next : ℕ) → e ≡ event.Join block count next → IsEvent x.phase (action_of p x) e
    → (child : Option Place) (o : Option At) → child ≡ awaited m q block 1 count → o ≡ option_map at.Join child → o ≡ waits_by m q (need_of p x)
joined_waits p x m q e block count next told does child o asked is =
    let met : IsEvent x.phase (action_of p x) (event.Join block count next) = subst (IsEvent x.phase (action_of p x)) told does in
    let joins : action_of p x ≡ Meets (Join block (kids_in x.phase) next) = met.0 ∙ ap (λ (kids : List Kid). Meets (Join block kids next)) (kids_same x.phase) in
    let counted : count ≡ length (kids_in x.phase) = met.1 ∙ ap length (kids_same x.phase) in
    is ∙ ap (option_map at.Join) (asked ∙ ap (awaited m q block 1) counted) ∙ sym (join_waits p x m q block next joins)

-- whether somebody is at a place who has ended
module _ (p : Program) (x : Processes PlainProc) (q : Place) where
  pub ended_there : (s : PlainProc) → Some s ≡ get (by_path x) q → ended_at (Some (proc_of p s)) ≡ ended_at (get (procs_of (proc_of p) x) q)
  ended_there s is = ap ended_at (sym (there (proc_of p) x q (Some s) is))

  pub nobody_ended : None ≡ get (by_path x) q → false ≡ ended_at (get (procs_of (proc_of p) x) q)
  nobody_ended is = ap ended_at (sym (there (proc_of p) x q None is))
