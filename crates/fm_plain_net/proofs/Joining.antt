-- The step of a process that joins a block.
use Rattle.std.proofs.Common.{◌≡◌, ℕ, true, Some, List, [], length, sym, ap, ◌∙◌}
use Rattle.std.specs.Prelude.{is_some}
use Rattle.std.specs.FinMap.{get, insert}
use Rattle.fm_base.specs.Channels.{Chans}
use Rattle.fm_finmap.specs.Changes.{alters}
use Rattle.fm_net.specs.Machine.{Place, Procs, State, child_changes, gathered}
use Rattle.fm_net.specs.Owned.{IsOwned}
use Rattle.fm_net.specs.Starts.{starts_at}
use Rattle.fm_rules.specs.declared.program.Program.{Program}
use Rattle.fm_mean.specs.Actions.{Join, Meets, action_of}
use Rattle.fm_mean.specs.Outcome.{need_of}
use Rattle.fm_mean.specs.Process.{Proc, emptied, has_ended}
use Rattle.fm_mean.specs.Steps.{language, step}
use Rattle.fm_plain_replies.specs.Joins.{after_join, kids_in}
use Rattle.fm_plain_net.specs.declared.ports.Ports.{Ports}
use Rattle.fm_plain_net.specs.Goes.{JoinsAt, Performs, joined_in, kids_by}
use Rattle.fm_plain_net.specs.Held.{HeldAreKept, MayDrop}
use Rattle.fm_plain_net.proofs.Able.{kids_there}
use Rattle.fm_plain_net.proofs.Doing.{can_perform, join_drops, join_performs, joins_block, performed, performed_held, performed_starts}
use Rattle.fm_plain_net.proofs.Performing.{InFrame}
use Rattle.fm_plain_net.proofs.Waiting.{has_frame}

module _ (program : Program) (s : State Proc) (p : Place) (x : Proc) (is : get s.procs p ≡ Some x) (ports : Ports) (block next : ℕ) (does : action_of program x ≡ Meets (Join block (kids_in x.phase) next))
    (owned : IsOwned (language program) s) (held : HeldAreKept program ports s.procs) (can : is_some (step program s p) ≡ true) where
  frame : InFrame x
  frame = has_frame program x (Join block (kids_in x.phase) next) does

  told : joined_in (need_of program x) ≡ Some (block, length (kids_in x.phase))
  told = joins_block program p x s.chans ports block next does frame

  kids : (ys : List Proc) × (kids_by s.procs p (joined_in (need_of program x)) ≡ Some ys)
  kids = kids_there program s p x is can

  -- the children that it joins
  pub all_kids : List Proc
  all_kids = kids.0

  pub gathered_kids : (count : ℕ) → count ≡ length (kids_in x.phase) → gathered has_ended s.procs p block 1 count ≡ Some all_kids
  unfolding all_kids kids
  gathered_kids count e = ap (gathered has_ended s.procs p block 1) e ∙ ap (kids_by s.procs p) (sym told) ∙ kids.1

  pub kids_drop : MayDrop ports [] (after_join x next all_kids).drops
  unfolding all_kids kids
  kids_drop = join_drops program p x s.chans ports block next does frame all_kids (can_perform program s p x is ports all_kids kids.1 owned held can)

  module _ (count : ℕ) (e : count ≡ length (kids_in x.phase)) (m later_procs : Procs Proc) (released : m ≡ alters (child_changes emptied p block 1 count) s.procs) (cs : Chans) (later : Ports) (cost : ℕ)
      (done : JoinsAt p x next all_kids ports s.chans m later_procs cs later cost) where
    told_count : joined_in (need_of program x) ≡ Some (block, count)
    told_count = told ∙ ap (λ (n : ℕ). Some (block, n)) (sym e)

    performs : Performs program p x s.chans all_kids ports done.after [] cs later cost
    performs = join_performs program p x s.chans ports block next does frame all_kids done.after cs later cost done.joins

    procs_are : later_procs ≡ insert (alters (child_changes emptied p block 1 count) s.procs) p done.after
    procs_are = done.procs_are ∙ ap (λ k. insert k p done.after) released

    pub join_steps : step program s p ≡ Some (record { procs = later_procs; chans = cs }, cost)
    join_steps = performed program s p x is ports (Some (block, count)) told_count later all_kids done.after [] cs cost (gathered_kids count e) performs later_procs procs_are

    pub join_starts : starts_at (language program) s p ≡ []
    join_starts = performed_starts program s p x is ports (Some (block, count)) told_count later all_kids done.after [] cs cost (gathered_kids count e) performs

    pub join_held : HeldAreKept program later later_procs
    join_held = performed_held program s p x is ports (Some (block, count)) told_count later all_kids done.after [] cs cost (gathered_kids count e) performs later_procs procs_are owned held
