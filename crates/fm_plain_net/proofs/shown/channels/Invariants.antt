use Rattle.std.proofs.Common.{◌≡◌, map, take}
use Rattle.std.specs.Prelude.{option_map}
use Rattle.fm_base.specs.Channels.{channel_of}
use Rattle.fm_plain_frame.specs.Memory.{port_in}
use Rattle.fm_plain_net.proofs.shown.channels.Given as goal

abbrev pub invariant-words : goal.invariant-words
invariant-words l = l.all ≡ map (option_map channel_of) (map port_in (take l.word-index l.words))
