use Rattle.std.proofs.Common.{rules, sym}
use Rattle.std.specs.Int.{w64}
use Rattle.std.specs.Int.RustNames.{FitsSigned}
use Rattle.fm_object.proofs.LineLaws.{instr_made}
use Rattle.fm_object.proofs.Written.{always}
use Rattle.fm_object.proofs.writing.InstrsTexts.push_one.Goals as goal

pub returns-clause-fits : goal.returns-clause-fits
returns-clause-fits c =
    let p = c.parts-op.result in
    let first : FitsSigned w64 p.1 = search rules in
    let second : FitsSigned w64 p.2 = search rules in
    always c.push_signed-2.result (instr_made c.args.item.now p (sym c.parts-op.ensures.parts) c.in_ok-push_number.ensures.short first second c.parts-op.ensures.read)
