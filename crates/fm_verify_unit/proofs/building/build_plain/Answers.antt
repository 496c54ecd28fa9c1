use Rattle.fm_verify_unit.proofs.building.build_plain.Goals as goal

pub returns-in-PassWordAt : goal.returns-in-PassWordAt
returns-in-PassWordAt c = rw c.in-PassWordAt.is (c.pass_word_at.ensures c.args.loops)

pub returns-in-PassPortAt : goal.returns-in-PassPortAt
returns-in-PassPortAt c = rw c.in-PassPortAt.is (c.pass_port_at.ensures c.args.loops)
