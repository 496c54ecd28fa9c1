-- Which call of the PROGRAM has the ports of a channel. A channel's label is the place of the CHANNEL that made it.
-- Source: this profile.
use Rattle.std.specs.Prelude.{◌≡◌, ℕ, true, Some, slice_get}
use Rattle.fm_base.specs.declared.path.ChanName.{ChanName}
use Rattle.fm_tree.specs.declared.program_unit.Entry.{Entry}
use Rattle.fm_mean.specs.Names.{ProgramUnit}
use Rattle.fm_flow_law.specs.Flow.{given, channel_in, channel_out, any_among}

-- the call at this place is given the channel's outport
pub record GivesOut (u : ProgramUnit) (labels : ChanName → ℕ) (place : ℕ) (c : ChanName) : Type 0 where
  pub channel : Entry
  pub call : Entry
  pub made : slice_get u.tree.body (labels c) ≡ Some channel
  pub there : slice_get u.tree.body place ≡ Some call
  pub gives : any_among (channel_out u channel.stmt) (given u call.stmt) ≡ true

-- and its inport
pub record GivesIn (u : ProgramUnit) (labels : ChanName → ℕ) (place : ℕ) (c : ChanName) : Type 0 where
  pub channel : Entry
  pub call : Entry
  pub made : slice_get u.tree.body (labels c) ≡ Some channel
  pub there : slice_get u.tree.body place ≡ Some call
  pub gives : any_among (channel_in u channel.stmt) (given u call.stmt) ≡ true
