use Rattle.std.proofs.Common.{◌≡◌, ◌+◌, ℕ, true, inr, ap, sym, subst, ◌∙◌}
use Rattle.std.specs.Prelude.{is_some}
use Rattle.std.specs.FinMap.{get}
use Rattle.std.proofs.lemmas.Result.{IfOk-weaker}
use Rattle.fm_net.specs.Machine.{Procs, State}
use Rattle.fm_net.specs.Starts.{starts_at}
use Rattle.fm_proc_language.specs.Processes.{CodeProc, code_language}
use Rattle.fm_procs.specs.Pieces.{IsNewAlong, IsNewAt, IsPiece}
use Rattle.fm_procs.specs.Readings.{actor_place, code_step, procs_of, state_of}
use Rattle.fm_procs.proofs.Given.{given_none}
use Rattle.fm_procs.proofs.Looked.{asks_shared, steps_there, stuck_stays}
use Rattle.fm_procs.proofs.Placing.{two_ok}
use Rattle.fm_procs.proofs.Slices.{one_piece}
use Rattle.fm_procs.proofs.Table.{new_so}
use Rattle.fm_procs.proofs.giving.give_piece.Goals as goal

pub given_piece-requires-clause-own : goal.given_piece-requires-clause-own
given_piece-requires-clause-own c = λ y is. c.requires.own y (ap (λ (m : Procs CodeProc). get m (actor_place c.args.actor.now)) (sym (c.take_next.ensures.processes tt)) ∙ is)

pub event_piece-requires-clause-new : goal.event_piece-requires-clause-new
event_piece-requires-clause-new c =
    let s = state_of c.args.procs.now in
    let state : record { procs = procs_of c.take_next.new.self; chans = s.chans } ≡ s = ap (λ (n : Procs CodeProc). record { procs = n; chans = s.chans }) (c.take_next.ensures.processes tt) in
    new_so _ (actor_place c.args.actor.now) (subst (λ (t : State CodeProc). IsNewAt t (actor_place c.args.actor.now)) (sym state) (c.requires.new 0 tt))

pub unreachable-requires : goal.unreachable-requires
unreachable-requires c =
    let s = state_of c.args.procs.now in
    let p = actor_place c.args.actor.now in
    let none = stuck_stays s p (λ y is. sym (c.take_next.ensures.next tt y c.requires.kept.told is) ∙ c.in-Stuck.is) in
    absurd (cc (sym c.requires.can ∙ ap is_some none))

pub returns-in-Asks-clause-piece : goal.returns-in-Asks-clause-piece
returns-in-Asks-clause-piece c =
    let s = state_of c.args.procs.now in
    let p = actor_place c.args.actor.now in
    let t = state_of c.event_piece.new.self in
    let who = steps_there s p c.requires.can in
    let state : record { procs = procs_of c.take_next.new.self; chans = s.chans } ≡ s = ap (λ (n : Procs CodeProc). record { procs = n; chans = s.chans }) (c.take_next.ensures.processes tt) in
    let shared = asks_shared who.0 c.in-Asks.ask (sym (c.take_next.ensures.next tt who.0 c.requires.kept.told who.1) ∙ c.in-Asks.is) in
    IfOk-weaker c.event_piece.result _ _ (λ r made.
    one_piece c.args.done.now.steps true s t p who.0 who.1 (λ whole. absurd (cc whole)) shared r made.paid
    (ap (λ (u : State CodeProc). code_step u p) (sym state) ∙ made.leads) (ap (λ (u : State CodeProc). starts_at code_language u p) (sym state) ∙ made.starts)
    made.steps_are made.cost_is) c.event_piece.ensures.steps

pub returns-in-Asks-clause-steps : goal.returns-in-Asks-clause-steps
returns-in-Asks-clause-steps c =
    let s = state_of c.args.procs.now in
    let p = actor_place c.args.actor.now in
    let who = steps_there s p c.requires.can in
    let none = given_none who.0 c.args.done.now (c.requires.own who.0 who.1) c.in-Asks.ask (sym (c.take_next.ensures.next tt who.0 c.requires.kept.told who.1) ∙ c.in-Asks.is) in
    IfOk-weaker c.event_piece.result _ _ (λ r made. inr (made.steps_are ∙ ap (λ (n : ℕ). n + 1) (sym none))) c.event_piece.ensures.steps

pub event_piece-requires-clause-fits : goal.event_piece-requires-clause-fits
event_piece-requires-clause-fits c = tt

pub event_piece-requires-clause-families : goal.event_piece-requires-clause-families
event_piece-requires-clause-families c = c.take_next.ensures.families tt c.requires.kept.families

pub event_piece-requires-clause-told : goal.event_piece-requires-clause-told
event_piece-requires-clause-told c = c.take_next.ensures.told tt c.requires.kept.told

pub event_piece-requires-clause-event : goal.event_piece-requires-clause-event
event_piece-requires-clause-event c = λ y is. sym (c.take_next.ensures.next tt y c.requires.kept.told (sym (ap (λ (m : Procs CodeProc). get m (actor_place c.args.actor.now)) (c.take_next.ensures.processes tt)) ∙ is)) ∙ c.in-Asks.is

pub returns-in-Asks-clause-kept : goal.returns-in-Asks-clause-kept
returns-in-Asks-clause-kept c = two_ok c.event_piece.result (λ r told families. record { told = told; families = families }) c.event_piece.ensures.told c.event_piece.ensures.families

pub event_piece-requires-clause-can : goal.event_piece-requires-clause-can
event_piece-requires-clause-can c =
    let s = state_of c.args.procs.now in
    ap (λ (m : Procs CodeProc). is_some (code_step (record { procs = m; chans = s.chans }) (actor_place c.args.actor.now))) (c.take_next.ensures.processes tt) ∙ c.requires.can

pub given_piece-requires-clause-families : goal.given_piece-requires-clause-families
given_piece-requires-clause-families c = c.take_next.ensures.families tt c.requires.kept.families

pub given_piece-requires-clause-new : goal.given_piece-requires-clause-new
given_piece-requires-clause-new c =
    let s = state_of c.args.procs.now in
    subst (λ (m : Procs CodeProc). IsNewAlong (record { procs = m; chans = s.chans }) (actor_place c.args.actor.now)) (sym (c.take_next.ensures.processes tt)) c.requires.new

pub given_piece-requires-clause-look : goal.given_piece-requires-clause-look
given_piece-requires-clause-look c = λ y is. sym (c.take_next.ensures.next tt y c.requires.kept.told (sym (ap (λ (m : Procs CodeProc). get m (actor_place c.args.actor.now)) (c.take_next.ensures.processes tt)) ∙ is)) ∙ c.in-Goes.is

pub given_piece-requires-clause-can : goal.given_piece-requires-clause-can
given_piece-requires-clause-can c =
    let s = state_of c.args.procs.now in
    ap (λ (m : Procs CodeProc). is_some (code_step (record { procs = m; chans = s.chans }) (actor_place c.args.actor.now))) (c.take_next.ensures.processes tt) ∙ c.requires.can

pub given_piece-requires-clause-told : goal.given_piece-requires-clause-told
given_piece-requires-clause-told c = c.take_next.ensures.told tt c.requires.kept.told

pub returns-in-Goes-clause-piece : goal.returns-in-Goes-clause-piece
returns-in-Goes-clause-piece c =
    let s = state_of c.args.procs.now in
    IfOk-weaker c.given_piece.result _ _ (λ r made.
    subst (λ (m : Procs CodeProc). IsPiece c.args.done.now.steps true (record { procs = m; chans = s.chans }) (actor_place c.args.actor.now) r (state_of c.given_piece.new.procs)) (c.take_next.ensures.processes tt) made) c.given_piece.ensures.piece
