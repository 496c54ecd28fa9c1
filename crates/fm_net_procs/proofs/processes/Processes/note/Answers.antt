use Rattle.std.proofs.Common.{◌≡◌, Some, None, inl, ap, sym, ◌∙◌}
use Rattle.std.proofs.lemmas.Result.{IfOk-weaker}
use Rattle.fm_chan.proofs.Waking.{wakes_nobody}
use Rattle.fm_net_procs.specs.Readings.{proc_in, state_of}
use Rattle.fm_net_procs.specs.Waiting.{can_in, channel_waited}
use Rattle.fm_net_procs.proofs.Maps.{found, placed, there}
use Rattle.fm_net_procs.proofs.Steps.{waits_for}
use Rattle.fm_net_procs.proofs.processes.Processes.note.Goals as goal

pub note_at-requires : goal.note_at-requires
note_at-requires g c = λ d waited.
    let P = c.args.program.now in
    let seen = g.P.Proc.seen P in
    let language = g.P.Proc.language P in
    let x = c.args.self.now.entries in
    let s = state_of seen c.args.self.now in
    let entry = c.in-Some.entry.now in
    let place = placed x c.args.number entry c.in-Some.ensures in
    let is = found x c.args.number place.0 (Some entry) place.1 c.in-Some.ensures in
    sym (waits_for language s place.0 (proc_in seen entry) (there seen x place.0 (Some entry) is) d (sym (c.channel.ensures P (c.requires.told place.0 entry (sym is))) ∙ waited))
    ∙ sym (ap (can_in language s) place.1) ∙ c.requires.waits

pub returns-in-Some-clause-noted : goal.returns-in-Some-clause-noted
returns-in-Some-clause-noted g c = IfOk-weaker c.note_at.result _ _ (λ u noted q y at is there_all d waited.
    let P = c.args.program.now in
    let seen = g.P.Proc.seen P in
    let x = c.args.self.now.entries in
    let entry = c.in-Some.entry.now in
    let here = found x c.args.number q (Some entry) at c.in-Some.ensures in
    let same : proc_in seen entry ≡ y = cc (sym (there seen x q (Some entry) here) ∙ is) in
    inl (noted d (c.channel.ensures P (c.requires.told q entry (sym here)) ∙ ap (channel_waited (g.P.Proc.language P)) same ∙ waited) (there_all d waited))) c.note_at.ensures.noted

pub returns-in-None-clause-noted : goal.returns-in-None-clause-noted
returns-in-None-clause-noted g c = λ q y at is. absurd (cc (sym (there (g.P.Proc.seen c.args.program.now) c.args.self.now.entries q None (found c.args.self.now.entries c.args.number q None at c.in-None.ensures)) ∙ is))

pub returns-in-None-clause-waking : goal.returns-in-None-clause-waking
returns-in-None-clause-waking g c = wakes_nobody c.args.self.now.channels
