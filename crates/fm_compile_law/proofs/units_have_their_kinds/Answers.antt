use Rattle.fm_compile_law.proofs.Generated.{generated_kinded}
use Rattle.fm_compile_law.proofs.units_have_their_kinds.Goals as goal

pub returns : goal.returns
returns c = generated_kinded
