use Rattle.std.proofs.Common.{List, sym, subst, ap}
use Rattle.fm_code.specs.declared.code.Entry.{Entry}
use Rattle.fm_code.specs.declared.code.Unit as code
use Rattle.fm_code.specs.declared.instr.Instr.{Instr}
use Rattle.fm_plain_frame.specs.Units.{unit_of}
use Rattle.fm_gen.specs.Kept.{KeepsUnit}
use Rattle.fm_gen.specs.Units.{TellsLines}
use Rattle.fm_gen.proofs.KeptUnits.{keeps_unit}
use Rattle.fm_gen.proofs.LineLaws.{tells_lines, addresses_rise}
use Rattle.fm_gen.proofs.generating.unit.Goals as goal

pub returns-clause-lines : goal.returns-clause-lines
returns-clause-lines c =
    let p = c.args.unit.now.program.now in
    let u = unit_of c.args.unit.now in
    subst (λ (entries : List Entry). TellsLines p u entries) (sym (ap (λ (x : code.Unit). x.entries) c.in_ok-code.ensures)) (tells_lines p u)

pub returns-clause-addresses : goal.returns-clause-addresses
returns-clause-addresses c = addresses_rise c.args.unit.now.program.now (unit_of c.args.unit.now)

pub returns-in_err-code-clause-addresses : goal.returns-in_err-code-clause-addresses
returns-in_err-code-clause-addresses c = addresses_rise c.args.unit.now.program.now (unit_of c.args.unit.now)

pub returns-clause-keeps : goal.returns-clause-keeps
returns-clause-keeps c =
    let p = c.args.unit.now.program.now in
    let u = unit_of c.args.unit.now in
    subst (λ (code : List Instr). KeepsUnit p u code) (sym (ap (λ (x : code.Unit). x.code) c.in_ok-code.ensures)) (keeps_unit p c.number-number.result u c.number-number.ensures.unit)
