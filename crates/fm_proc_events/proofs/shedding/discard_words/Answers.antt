use Rattle.std.proofs.Common.{FitsSigned, pos, refl, w64, ◌+◌, ap, drop, get_or, rules}
use Rattle.std.proofs.lemmas.Int.{to_z-of_z}
use Rattle.std.proofs.lemmas.List.{drop_all, drop_more}
use Rattle.fm_code.specs.Passing.{live}
use Rattle.fm_chan.specs.Bodies.{chans_of}
use Rattle.fm_chan.proofs.Waking.{wakes_all_then, wakes_nobody}
use Rattle.fm_proc_events.proofs.Discards.{discarded_none, discarded_word}
use Rattle.fm_proc_events.proofs.shedding.discard_words.Goals as goal

pub words-init : goal.words-init
words-init c = record { gone = refl; waking = wakes_nobody c.args.channels.now }

pub words-preserved : goal.words-preserved
words-preserved c =
    let ws = c.args.words.now in
    let i = c.words.word-index in
    let z = get_or ws i (pos 0) in
    let fits : FitsSigned w64 z = search rules in
    record {
      gone = discarded_word (drop i ws) (drop (i + 1) ws) _ z c.words.slots c.discard_word.new.slots (chans_of c.words.channels) (chans_of c.discard_word.new.channels) _
          (drop_more ws i (pos 0) c.words-test.true) (to_z-of_z w64 z fits) c.discard_word.ensures.gone c.words.invariant.gone;
      waking = wakes_all_then c.args.channels.now c.words.channels c.discard_word.new.channels c.words.invariant.waking c.discard_word.ensures.waking;
    }

pub returns-clause-gone : goal.returns-clause-gone
returns-clause-gone c =
    discarded_none (live (drop c.words.word-index c.args.words.now)) c.words.slots (chans_of c.words.channels) _ (ap live (drop_all c.words.word-index c.args.words.now c.words-test.false)) c.words.invariant.gone
