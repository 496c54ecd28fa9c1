use Rattle.std.proofs.Common.{ap, ◌∙◌}
use Rattle.fm_mean.specs.Fits.{variables_of}
use Rattle.fm_plain_frame.specs.Leaving.{following_ports, row_ports}
use Rattle.fm_plain_frame.proofs.LeavingLaws.{following-nil, made}
use Rattle.fm_plain_frame.proofs.leaving.Leaving.new.Goals as goal

pub returns : goal.returns
returns c = λ p.
    let vs = variables_of p c.new-2.result.unit in
    made p c.args.let_go c.from_vec.result.items c.from_vec-2.result.items (row_ports p c.new-2.result) c.new-3.result.items c.from_vec.ensures.items
    (c.new-2.ensures.ports vs ∙ ap (following_ports vs) c.new.ensures.items ∙ following-nil vs) c.new-3.ensures.items c.from_vec-2.ensures.items
