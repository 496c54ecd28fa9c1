-- The order of outports.
-- Source: this profile.
use Rattle.std.specs.Ordering.{nat_cmp, ordering_then}
use Rattle.std.specs.declared.cmp.Ordering.{Ordering}
use Rattle.fm_base.specs.PathOrder.{channel_cmp}
use Rattle.fm_mean.specs.declared.outport.Outport.{Outport}

-- by channel, and then by the number of the writer
abbrev pub outport_cmp : Outport → Outport → Ordering
outport_cmp a b = ordering_then (channel_cmp a.channel b.channel) (nat_cmp a.number b.number)
