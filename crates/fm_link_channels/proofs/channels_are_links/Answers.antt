use Rattle.fm_link_channels.proofs.Following.{goes_by_link}
use Rattle.fm_link_channels.proofs.channels_are_links.Goals as goal

pub returns : goal.returns
returns g c = goes_by_link
