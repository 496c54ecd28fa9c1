use Rattle.fm_gen_relation.proofs.Entries.{sound_entry}
use Rattle.fm_gen_relation.proofs.entries_are_sound.Goals as goal

pub returns : goal.returns
returns c = sound_entry
