use Rattle.fm_finmap.specs.Map.{map_of}
use Rattle.fm_mean.specs.Outports.{outport_cmp}
use Rattle.fm_plain_net.proofs.Holding.{held_word}
use Rattle.fm_plain_net.proofs.holders.put_words.Goals as goal

pub words-preserved : goal.words-preserved
words-preserved c =
    held_word (map_of outport_cmp c.args.all.now) (map_of outport_cmp c.words.all) (map_of outport_cmp c.put_word.new.all) c.args.path.now c.args.words.now c.words.word-index c.word-item.result
    c.words-test.true c.word-item.is c.words.invariant c.in_ok-put_word.ensures
