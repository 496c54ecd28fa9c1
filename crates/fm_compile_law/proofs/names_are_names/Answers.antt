use Rattle.fm_compile_law.proofs.Variables.{checked_named}
use Rattle.fm_compile_law.proofs.names_are_names.Goals as goal

pub returns : goal.returns
returns c = checked_named
