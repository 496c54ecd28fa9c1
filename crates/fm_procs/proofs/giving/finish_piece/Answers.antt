use Rattle.std.proofs.Common.{inl, inr, ap, sym, ◌∙◌}
use Rattle.std.proofs.lemmas.Result.{IfOk-weaker}
use Rattle.fm_net.specs.Machine.{Procs}
use Rattle.fm_proc_language.specs.Processes.{CodeProc}
use Rattle.fm_procs.specs.Readings.{actor_place, state_of}
use Rattle.fm_procs.proofs.Looked.{asks_at, stuck_stays}
use Rattle.fm_procs.proofs.Placing.{two_ok}
use Rattle.fm_procs.proofs.Table.{new_so}
use Rattle.fm_procs.proofs.Slices.{finishes_asked}
use Rattle.fm_procs.proofs.giving.finish_piece.Goals as goal

pub returns-in-Asks-clause-steps : goal.returns-in-Asks-clause-steps
returns-in-Asks-clause-steps c =
    let s = state_of c.args.procs.now in
    let p = actor_place c.args.actor.now in
    let shared = asks_at s p c.in-Asks.ask (λ y is. c.requires.look y is ∙ c.in-Asks.is) in
    IfOk-weaker c.event_or_wait.result _ _ (λ r does. finishes_asked s p c.args.steps c.args.cost r (state_of c.event_or_wait.new.self) shared does) c.event_or_wait.ensures.steps

pub returns-in-Goes-clause-steps : goal.returns-in-Goes-clause-steps
returns-in-Goes-clause-steps c =
    let s = state_of c.args.procs.now in
    inr (inr (record {
      own = c.requires.own c.in-Goes.is;
      stays = ap (λ (m : Procs CodeProc). record { procs = m; chans = s.chans }) (c.keep_next.ensures.processes tt);
      piece = c.local_piece.ensures;
    }))

pub returns-in-Stuck-clause-steps : goal.returns-in-Stuck-clause-steps
returns-in-Stuck-clause-steps c =
    let s = state_of c.args.procs.now in
    inr (inl (record {
      waits = stuck_stays s (actor_place c.args.actor.now) (λ y is. c.requires.look y is ∙ c.in-Stuck.is);
      stays = ap (λ (m : Procs CodeProc). record { procs = m; chans = s.chans }) (c.keep_next-in-Stuck.ensures.processes tt);
      piece = c.local_piece-in-Stuck.ensures;
    }))

pub event_or_wait-requires-clause-fits : goal.event_or_wait-requires-clause-fits
event_or_wait-requires-clause-fits c = tt

pub event_or_wait-requires-clause-new : goal.event_or_wait-requires-clause-new
event_or_wait-requires-clause-new c = new_so (state_of c.args.procs.now) (actor_place c.args.actor.now) c.requires.new

pub event_or_wait-requires-clause-event : goal.event_or_wait-requires-clause-event
event_or_wait-requires-clause-event c = λ y is. c.requires.look y is ∙ c.in-Asks.is

pub returns-in-Asks-clause-kept : goal.returns-in-Asks-clause-kept
returns-in-Asks-clause-kept c = two_ok c.event_or_wait.result (λ r told families. record { told = told; families = families }) c.event_or_wait.ensures.told c.event_or_wait.ensures.families

pub returns-in-Goes-clause-kept : goal.returns-in-Goes-clause-kept
returns-in-Goes-clause-kept c = record {
  told = c.keep_next.ensures.told tt (λ y is. sym (c.requires.look y is ∙ c.in-Goes.is)) c.requires.told;
  families = c.keep_next.ensures.families tt c.requires.families;
}

pub returns-in-Stuck-clause-kept : goal.returns-in-Stuck-clause-kept
returns-in-Stuck-clause-kept c = record {
  told = c.keep_next-in-Stuck.ensures.told tt (λ y is. sym (c.requires.look y is ∙ c.in-Stuck.is)) c.requires.told;
  families = c.keep_next-in-Stuck.ensures.families tt c.requires.families;
}
