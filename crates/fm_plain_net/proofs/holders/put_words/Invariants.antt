use Rattle.std.proofs.Common.{◌≡◌, map, take}
use Rattle.fm_finmap.specs.Map.{map_of}
use Rattle.fm_mean.specs.Outports.{outport_cmp}
use Rattle.fm_mean.specs.Places.{live}
use Rattle.fm_plain_frame.specs.Memory.{port_in}
use Rattle.fm_run.specs.Gathered.{with_held}
use Rattle.fm_plain_net.proofs.holders.put_words.Given as goal

abbrev pub invariant-words : goal.invariant-words
invariant-words l = map_of outport_cmp l.all ≡ with_held (map_of outport_cmp l.fn.all) l.path (live (map port_in (take l.word-index l.words)))
