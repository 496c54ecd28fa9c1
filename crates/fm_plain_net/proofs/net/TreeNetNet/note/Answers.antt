use Rattle.std.proofs.Common.{ap, refl}
use Rattle.std.proofs.lemmas.Result.{IfOk-weaker}
use Rattle.fm_run.proofs.Results.{on_ok_four}
use Rattle.fm_plain_net.specs.Readings.{order_of, state_of}
use Rattle.fm_plain_net.proofs.Sound.{same_state, sound_same}
use Rattle.fm_plain_net.proofs.Waited.{need_waited, waited_there}
use Rattle.fm_plain_net.proofs.net.TreeNetNet.note.Goals as goal

pub note-requires-clause-told : goal.note-requires-clause-told
note-requires-clause-told c = c.requires.sound.told

pub returns-clause-order : goal.returns-clause-order
returns-clause-order c = IfOk-weaker c.note.result _ _ (λ u same. ap order_of same) c.note.ensures.entries

pub returns-clause-history : goal.returns-clause-history
returns-clause-history c = refl

pub returns-clause-state : goal.returns-clause-state
returns-clause-state c = on_ok_four c.note.result c.note.ensures.entries c.note.ensures.work c.note.ensures.channels c.note.ensures.waking (λ entries work chans waking. same_state c.args.program.now c.args.self.now.trees c.note.new.self entries chans)

pub returns-clause-sound : goal.returns-clause-sound
returns-clause-sound c = on_ok_four c.note.result c.note.ensures.entries c.note.ensures.work c.note.ensures.channels c.note.ensures.waking (λ entries work chans waking. sound_same c.args.program.now c.args.self.now.trees c.note.new.self entries work chans c.requires.sound)

pub returns-clause-noted : goal.returns-clause-noted
returns-clause-noted c = IfOk-weaker c.note.result _ _ (λ u noted q x at is d limits need.
    let P = c.args.program.now in
    let s = state_of P c.args.self.now.trees in
    noted q x at is (λ b waited. waited_there P s c.requires.owned q x is b waited) d (need_waited P x d limits need)) c.note.ensures.noted
