use Rattle.std.proofs.Common.{◌≡◌, ◌⊎◌, ℕ, ◌+◌, true, ap, sym, subst, ◌∙◌, arith}
use Rattle.std.proofs.lemmas.Result.{IfOk-weaker}
use Rattle.fm_net.specs.Machine.{State}
use Rattle.fm_proc_language.specs.Processes.{CodeProc}
use Rattle.fm_procs.specs.Pieces.{IsNewAt, is_local_at}
use Rattle.fm_procs.specs.Readings.{actor_place, procs_of, state_of}
use Rattle.fm_procs.proofs.Given.{finished_steps, given_some}
use Rattle.fm_procs.proofs.Looked.{goes_running, steps_there}
use Rattle.fm_procs.proofs.Slices.{finished_piece, new_behind, own_behind, procs_behind, told_behind}
use Rattle.fm_procs.proofs.giving.given_piece.Goals as goal

pub put_end_of-requires-clause-running : goal.put_end_of-requires-clause-running
put_end_of-requires-clause-running c = λ y is. goes_running (state_of c.args.procs.now) (actor_place c.args.actor.now) y is (c.requires.look y is) c.requires.can

pub finish_piece-requires-clause-new : goal.finish_piece-requires-clause-new
finish_piece-requires-clause-new c =
    let s = state_of c.args.procs.now in
    let p = actor_place c.args.actor.now in
    let who = steps_there s p c.requires.can in
    let m = procs_of c.put_end_of.new.entries in
    let at = c.in_ok-steps.ensures.advances who.0 who.1 in
    subst (λ (t : State CodeProc). IsNewAt t p) (sym (procs_behind c.args.done.now.steps s p who.0 who.1 c.in_ok-steps.field-0 m at))
    (new_behind c.args.done.now.steps s p who.0 who.1 c.in_ok-steps.field-0 m at c.requires.new)

pub finish_piece-requires-clause-look : goal.finish_piece-requires-clause-look
finish_piece-requires-clause-look c =
    let s = state_of c.args.procs.now in
    let p = actor_place c.args.actor.now in
    let who = steps_there s p c.requires.can in
    let at = c.in_ok-steps.ensures.advances who.0 who.1 in
    λ z there. sym (told_behind c.args.done.now.steps s p who.0 who.1 c.in_ok-steps.field-0 (procs_of c.put_end_of.new.entries) at z there)

pub finish_piece-requires-clause-own : goal.finish_piece-requires-clause-own
finish_piece-requires-clause-own c =
    let s = state_of c.args.procs.now in
    let p = actor_place c.args.actor.now in
    let who = steps_there s p c.requires.can in
    let m = procs_of c.put_end_of.new.entries in
    let at = c.in_ok-steps.ensures.advances who.0 who.1 in
    λ goes. ap (λ (t : State CodeProc). is_local_at t p) (procs_behind c.args.done.now.steps s p who.0 who.1 c.in_ok-steps.field-0 m at) ∙ own_behind c.args.done.now.steps s p who.0 who.1 c.in_ok-steps.field-0 m at goes

pub returns-clause-piece : goal.returns-clause-piece
returns-clause-piece c =
    let s = state_of c.args.procs.now in
    let p = actor_place c.args.actor.now in
    let d = c.args.done.now in
    let who = steps_there s p c.requires.can in
    let m = procs_of c.put_end_of.new.entries in
    let at = c.in_ok-steps.ensures.advances who.0 who.1 in
    let some = given_some who.0 d (c.requires.own who.0 who.1) (c.requires.look who.0 who.1) in
    IfOk-weaker c.finish_piece.result _ _ (λ r does.
    finished_piece d.steps s p who.0 who.1 c.in_ok-steps.field-0 m at true (omega (arith, at.within)) some c.requires.can r (state_of c.finish_piece.new.procs) does) c.finish_piece.ensures.steps

pub returns-clause-steps : goal.returns-clause-steps
returns-clause-steps c =
    let p = actor_place c.args.actor.now in
    let a = c.in_ok-steps.field-0 in
    IfOk-weaker c.finish_piece.result _ _ (λ r does.
    subst (λ (n : ℕ). (r.steps ≡ n) ⊎ (r.steps ≡ n + 1)) c.in_ok-steps.ensures.steps
    (finished_steps (record { procs = procs_of c.put_end_of.new.entries; chans = (state_of c.args.procs.now).chans }) p a.steps a.cost r (state_of c.finish_piece.new.procs) does)) c.finish_piece.ensures.steps

pub finish_piece-requires-clause-families : goal.finish_piece-requires-clause-families
finish_piece-requires-clause-families c = c.in_ok-steps.ensures.families c.requires.families
