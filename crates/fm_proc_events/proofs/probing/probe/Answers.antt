use Rattle.std.proofs.Common.{◌≡◌, Some, ap, ◌∙◌, w64, SFits, rules}
use Rattle.std.proofs.lemmas.Int.{to_z-of_z}
use Rattle.std.specs.Prelude.{slice_set}
use Rattle.fm_chan.specs.Bodies.{chans_of}
use Rattle.fm_code.specs.Statements.{with_words}
use Rattle.fm_proc_language.specs.Slots.{in_slot}
use Rattle.fm_proc_events.specs.Phases.{proc_of}
use Rattle.fm_proc_events.proofs.Messages.{probes}
use Rattle.fm_proc_events.proofs.probing.probe.Goals as goal

pub returns : goal.returns
returns c =
    let y = proc_of c.args.process.now in
    let b = c.in-Some-replace.body in
    let is : y.body ≡ Some b = cc (c.replace.ensures.value, c.in-Some-replace.is) in
    let same = to_z-of_z w64 c.args.slot c.ranges.slot in
    let fits : SFits w64 c.truth_word.result = search rules in
    probes y (chans_of c.args.channels.now) c.args.slot c.args.empty c.args.next c.requires.look c.requires.can b is c.args.path.now
    c.in-Some.port.now (c.in-Some.ensures ∙ ap (in_slot y.slots) same) c.probe-waits.result c.probe-waits.ensures c.put_and_set_address.new.body
    (c.put_and_set_address.ensures ∙ ap (λ z. with_words b c.args.next (slice_set b.frame.words c.args.empty z)) (to_z-of_z w64 c.truth_word.result fits ∙ c.truth_word.ensures))
