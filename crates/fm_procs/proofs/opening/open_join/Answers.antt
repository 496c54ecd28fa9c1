use Rattle.std.proofs.Common.{◌≡◌, Some, map, sym, ap, ◌∙◌}
use Rattle.fm_code.specs.declared.body.Body.{Body}
use Rattle.fm_proc_language.specs.Processes as code
use Rattle.fm_proc_events.specs.declared.process.Phase.{Phase}
use Rattle.fm_procs.specs.Gains.{mine_of}
use Rattle.fm_proc_events.specs.Phases.{kid_of, phase_of, proc_of}
use Rattle.fm_procs.proofs.opening.open_join.Goals as goal

pub returns-clause-joined : goal.returns-clause-joined
returns-clause-joined c =
    let y = proc_of c.args.process.now in
    let after = c.open_body.new.body in
    let slots = c.open_body.new.slots in
    let same : c.in-Joining-replace.kids ≡ c.in-Joining.kids = cc (sym c.in-Joining-replace.is ∙ (c.replace.ensures.value ∙ c.in-Joining.is)) in
    record {
      block = c.in-Joining.block;
      kids = map kid_of c.as_slice.result.now;
      body = c.in-Some.body;
      rest = record { words = after.frame.words; slots = slots };
      phase_is = ap phase_of c.in-Joining.is ∙ ap (λ l. code.Joining c.in-Joining.block (map kid_of l)) (sym c.as_slice.ensures);
      body_is = c.in-Some.is;
      looks = c.requires.look;
      stays =
          ap (λ (phase : Phase). record y { phase = phase_of phase; body = Some after; slots = slots }) c.replace.ensures.after
          ∙ ap (λ (b : Body). record y { phase = code.Running; body = Some b; slots = slots }) c.in_ok-gains.ensures.body;
      gains = ap mine_of (sym c.in_ok-gains.ensures.gains);
      others = ap (map kid_of) (c.from_vec-kids.ensures.items ∙ (c.into_vec.ensures ∙ (same ∙ sym c.as_slice.ensures)));
      cost_is = c.in_ok-gains.ensures.cost;
    }
