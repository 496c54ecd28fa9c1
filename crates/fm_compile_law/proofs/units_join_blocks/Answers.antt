use Rattle.fm_compile_law.proofs.Generated.{generated_joins}
use Rattle.fm_compile_law.proofs.units_join_blocks.Goals as goal

pub returns : goal.returns
returns c = generated_joins
