use Rattle.std.proofs.Common.{◌≡◌, map, take}
use Rattle.std.specs.Prelude.{option_map}
use Rattle.fm_base.specs.Channels.{channel_of}
use Rattle.fm_gen_relation.specs.Standing.{port_by}
use Rattle.fm_proc_language.specs.Slots.{port_in}
use Rattle.fm_shown.proofs.words.channels.Given as goal

abbrev pub invariant-words : goal.invariant-words
invariant-words l = l.all ≡ map (option_map channel_of) (map (port_by (port_in l.slots)) (take l.word-index l.words))
