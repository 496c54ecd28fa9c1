-- The steps of a process at the hosts, by what it does: a step of its own, and a receive.
use Rattle.std.proofs.Common.{◌≡◌, ℕ, ℤ, Bool, true, false, not, cond, List, [], ◌∷◌, map, Option, Some, None, option_map, ap, ◌∙◌}
use Rattle.std.specs.FinMap.{get, insert}
use Rattle.fm_base.specs.declared.port.PortValue.{PortValue}
use Rattle.fm_base.specs.declared.path.ChanName.{ChanName}
use Rattle.fm_base.specs.Channels.{Words, ChannelOp, Pop, fits_limits}
use Rattle.fm_finmap.specs.Changes.{alter, adjust}
use Rattle.fm_net.specs.Machine.{Place, Event, Reply, Onward}
use Rattle.fm_rules.specs.declared.program.Program.{Program}
use Rattle.fm_mean.specs.Process.{Execution, Frame, Proc}
use Rattle.fm_mean.specs.declared.place.Span.{Span}
use Rattle.fm_mean.specs.Actions.{Own, Meets, Receive, action_of, gone_on}
use Rattle.fm_mean.specs.Steps.{ask_for, ask_event, limits_of, met, received, language}
use Rattle.fm_link.specs.declared.load.Load.TheVariants as load
use Rattle.fm_link.specs.Ends.{first_of}
use Rattle.fm_link_law.specs.Hosts.{Hosts}
use Rattle.fm_link_law.specs.Channels.{LinkedChan, op_done, shut_ports}
use Rattle.fm_link_law.specs.Steps.{reply_to_receive, served_there, going_on, act_here, act_at, hosts_step}

-- it alone changes, beside the channels of the ports that it lets go
pub own_step_here : (p : Program) (h : Hosts Proc) (q : Place) (x : Proc) (w : Execution) (lines : List (List ℕ)) (drops : List PortValue) (cost : ℕ) → get h.procs q ≡ Some x → action_of p x ≡ Own w lines drops cost
    → hosts_step (language p) h q ≡ Some (record { procs = insert h.procs q (gone_on x w lines); channels = shut_ports drops h.channels; wire = h.wire }, cost)
unfolding alter
own_step_here p h q x w lines drops cost is acts = ap (act_at (language p) h q) is ∙ ap (λ a. act_here (language p) h q (ask_for p x a)) acts

-- a message that has arrived, and that is within the limits, is stored
module _ (p : Program) (h : Hosts Proc) (q : Place) (x : Proc) (d : ChanName) (line : ℕ) (items : List Span) (iostat : Option Span) (to : Option ℕ) (next : ℕ) (f : Frame) (below : List Frame) (l : LinkedChan) (ws : List (List ℤ)) where
  abbrev goes : Onward Proc
  goes = received x line below f next items iostat to (Some (map Words ws))

  abbrev answer : ChannelOp → Option (Reply Proc) → Option (Hosts Proc × ℕ)
  answer a o = option_map (λ r. going_on (language p) h q (Event d a) (met x line below f next items iostat to r.exceeds r.message)) o

  abbrev reply : Bool → Reply Proc
  reply b = record { message = cond b (Some (map Words ws)) None; exceeds = not b; waits = false; children = [] }

  pub receive_here : get h.procs q ≡ Some x → action_of p x ≡ Meets (Receive d line items iostat to next) → x.execution.frames ≡ f ∷ below → get h.channels d ≡ Some l → first_of l.incoming ≡ Some (load.Words ws)
      → fits_limits (limits_of items) (map Words ws) ≡ true
      → hosts_step (language p) h q ≡ Some (record { procs = insert h.procs q goes.self; channels = shut_ports goes.drops (adjust h.channels d (op_done (Pop (limits_of items)))); wire = h.wire }, goes.cost)
  unfolding alter
  receive_here is acts frames there first fits =
      ap (act_at (language p) h q) is
      ∙ ap (λ a. act_here (language p) h q (ask_for p x a)) acts
      ∙ ap (λ fs. act_here (language p) h q (ask_event p x (Receive d line items iostat to next) fs)) frames
      ∙ ap (λ o. answer (Pop (limits_of items)) (served_there (Pop (limits_of items)) o)) there
      ∙ ap (λ o. answer (Pop (limits_of items)) (reply_to_receive (limits_of items) o)) first
      ∙ ap (λ b. answer (Pop (limits_of items)) (Some (reply b))) fits
