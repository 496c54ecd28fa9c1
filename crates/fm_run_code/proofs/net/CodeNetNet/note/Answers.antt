use Rattle.std.proofs.Common.{◌∙◌}
use Rattle.fm_procs.specs.Readings.{order_of, state_of}
use Rattle.fm_run_code.specs.Played.{played}
use Rattle.fm_run_code.proofs.Standing.{can_alike, there_alike}
use Rattle.fm_run_code.proofs.Waiting.{noted_alike, waited_there}
use Rattle.fm_run_code.proofs.Histories.{on_ok}
use Rattle.fm_run_code.proofs.net.CodeNetNet.note.Goals as goal

pub note-requires-clause-waits : goal.note-requires-clause-waits
note-requires-clause-waits g c =
    let net = c.args.self.now in
    let p = c.args.program.now in
    let P = g.S.Coded.play p in
    let C = g.S.Coded.Corresponds p in
    let L = g.S.Coded.IsLive p in
    let coded = g.met.S.Coded.is_coded p in
    let ps = order_of net.stacks.entries in
    can_alike P C L coded (played P net.history ps) (state_of net.stacks) c.requires.sound.stands ps c.args.number ∙ c.requires.waits

pub returns-clause-noted : goal.returns-clause-noted
returns-clause-noted g c =
    let net = c.args.self.now in
    let p = c.args.program.now in
    let P = g.S.Coded.play p in
    let C = g.S.Coded.Corresponds p in
    let L = g.S.Coded.IsLive p in
    let coded = g.met.S.Coded.is_coded p in
    let s = played P net.history (order_of net.stacks.entries) in
    let t = state_of net.stacks in
    let stands = c.requires.sound.stands in
    on_ok c.note.result c.note.ensures.noted (λ noted q x at is.
    let y = there_alike P C L coded s t stands q x is in
    noted_alike P C L coded s t stands q x is y.0 y.2 c.note.new.procs.channels c.args.number (noted q y.0 at y.1 (waited_there P C L coded s t stands q x is y.0 y.2)))
