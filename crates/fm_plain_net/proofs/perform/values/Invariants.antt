use Rattle.std.proofs.Common.{◌≡◌, ◌∷◌, map}
use Rattle.fm_base.specs.declared.port.PortValue.TheVariants.{Reader, Writer}
use Rattle.fm_base.specs.Channels.{numbers_from}
use Rattle.fm_plain_net.proofs.perform.values.Given as goal

abbrev pub invariant-writers : goal.invariant-writers
invariant-writers l = l.all.items ≡ Reader l.name ∷ map (Writer l.name) (numbers_from 0 l.writer)
