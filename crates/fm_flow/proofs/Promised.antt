-- What the answer promises.
use Rattle.std.proofs.Common.{◌≡◌, Option, None, subst}
use Rattle.fm_base.specs.declared.name.Line.{Line}
use Rattle.fm_rules.specs.declared.program.Program.{Program}
use Rattle.fm_flow_law.specs.Ends.{ComesToItsEnd}
use Rattle.fm_flow_law.specs.Flow.{IsFlowVerdict}
use Rattle.fm_flow_law.proofs.Promise.{safe_comes_to_its_end}

pub comes_to_its_end : (p : Program) (line : Option Line) → IsFlowVerdict p line → line ≡ None → ComesToItsEnd p
comes_to_its_end p line told none = safe_comes_to_its_end p (subst (IsFlowVerdict p) none told)
