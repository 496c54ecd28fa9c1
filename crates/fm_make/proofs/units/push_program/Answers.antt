use Rattle.std.specs.String.{string_bytes}
use Rattle.fm_make.specs.Made.{for_stages, call_text, opening_text, closing_text}
use Rattle.fm_make.proofs.Texts.{three_behind}
use Rattle.fm_make.proofs.units.push_program.Goals as goal

pub returns : goal.returns
returns c =
    three_behind (string_bytes c.args.out.now) (opening_text c.args.stages) (for_stages call_text c.args.stages) (closing_text c.args.stages)
    _ _ _ c.in_ok-writeln.ensures.bytes c.in_ok-push_calls.ensures c.in_ok-writeln-2.ensures.bytes
