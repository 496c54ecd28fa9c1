use Rattle.fm_mean.proofs.Sizes.{variables_laid_out, variables_sized, variables_small}
use Rattle.fm_mean.proofs.variables_are_laid_out.Goals as goal

pub returns : goal.returns
returns c = record { laid_out = variables_laid_out; sized = variables_sized; small = variables_small }
