use Rattle.std.proofs.Common.{◌≡◌, map, take}
use Rattle.fm_finmap.specs.Map.{map_of}
use Rattle.fm_mean.specs.Outports.{outport_cmp}
use Rattle.fm_proc_language.specs.Slots.{port_in}
use Rattle.fm_run.specs.Gathered.{with_held}
use Rattle.fm_shown.proofs.holders.put_words.Given as goal

abbrev pub invariant-words : goal.invariant-words
invariant-words l = map_of outport_cmp l.all ≡ with_held (map_of outport_cmp l.fn.all) l.path (map (port_in l.slots) (take l.word-index l.words))
