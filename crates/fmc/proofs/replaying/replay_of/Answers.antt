use Rattle.std.proofs.Common.{List, sym, subst}
use Rattle.fm_rules.specs.declared.program.Program.{Program}
use Rattle.fm_trace.specs.Texts.{entries_of, history_of}
use Rattle.fm_trace.specs.declared.trace.Run.{Run}
use Rattle.fmc.specs.declared.answer.Exit.{Exit}
use Rattle.fmc.specs.Replay.{ComesTo}
use Rattle.fmc.specs.Reply.{bytes_of}
use Rattle.fmc.proofs.ReplayLaws.{comes_decided}
use Rattle.fmc.proofs.replaying.replay_of.Goals as goal

pub replay_in-requires-clause-some : goal.replay_in-requires-clause-some
replay_in-requires-clause-some c = c.requires.some_turns

pub replay_in-requires-clause-few : goal.replay_in-requires-clause-few
replay_in-requires-clause-few c = c.requires.few_turns

pub replay_in-requires-clause-runs : goal.replay_in-requires-clause-runs
replay_in-requires-clause-runs c = rw c.as_slice.ensures c.requires.entries

pub replay_in-requires-clause-few_entries : goal.replay_in-requires-clause-few_entries
replay_in-requires-clause-few_entries c = rw c.as_slice.ensures c.requires.few_entries

pub returns-clause-exit : goal.returns-clause-exit
returns-clause-exit c =
    let made = c.in_ok-exit.ensures in
    let comes = subst (λ (p : Program). ComesTo c.args.vars c.in_ok-exit.exit p c.args.trace.now.turns (entries_of c.as_slice.result.now) (bytes_of c.in_ok-exit.text)) c.in_ok-shared.ensures.ok made in
    let trace = c.args.trace.now in (
      bytes_of c.in_ok-exit.text,
      subst (λ (x : Exit). ComesTo c.args.vars x c.args.program trace.turns (history_of trace) (bytes_of c.in_ok-exit.text)) (sym c.unplayed_reply.ensures.exit)
          (subst (λ (rs : List Run). ComesTo c.args.vars c.in_ok-exit.exit c.args.program trace.turns (entries_of rs) (bytes_of c.in_ok-exit.text)) c.as_slice.ensures comes),
      c.unplayed_reply.ensures.text,
    )

pub returns-clause-kind : goal.returns-clause-kind
returns-clause-kind c = comes_decided c.args.vars c.unplayed_reply.result.ran.exit _ _ _ _ (returns-clause-exit c).1
