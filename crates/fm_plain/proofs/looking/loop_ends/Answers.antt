use Rattle.fm_plain.proofs.looking.loop_ends.Goals as goal

pub returns : goal.returns
returns c = λ w f below. c.where_there.ensures _ (c.ends_a_loop.ensures w f below)
