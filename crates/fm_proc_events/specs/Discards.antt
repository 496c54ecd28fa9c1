-- Ports that leave their slots and are discarded.
-- Source: the Fortran M report (a port that nothing holds any more is closed); this profile.
use Rattle.std.specs.Prelude.{ℤ, List}
use Rattle.fm_base.specs.Channels.{Chans, all_shed}
use Rattle.fm_proc_language.specs.Slots.{Slots, all_drained, vacated}

-- slots and channels after the ports in these slots were discarded, one after the other
abbrev pub all_discarded : Slots → Chans → List ℤ → Slots × Chans
all_discarded s cs zs = (all_drained s zs, all_shed (vacated s zs) cs)
