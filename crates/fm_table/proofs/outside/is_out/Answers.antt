use Rattle.std.proofs.Common.{◌∙◌}
use Rattle.fm_table.specs.Inside.{outs_of}
use Rattle.fm_table.proofs.Outs.{out_by_place}
use Rattle.fm_table.proofs.outside.is_out.Goals as goal

pub returns : goal.returns
returns c = c.is_some.ensures ∙ out_by_place (outs_of c.args.out.now) c.args.number c.place_out.result c.place_out.ensures
