use Rattle.fm_nodes_plain.proofs.Hosted.{plays_program}
use Rattle.fm_nodes_plain.proofs.hosts_play_the_program.Goals as goal

pub returns : goal.returns
returns c = plays_program
