use Rattle.fm_image_typed.proofs.Sample.{sample_typed, sample_runs}
use Rattle.fm_image_typed.proofs.sample_makes_sense.Goals as goal

pub returns-clause-typed : goal.returns-clause-typed
returns-clause-typed c = sample_typed

pub returns-clause-runs : goal.returns-clause-runs
returns-clause-runs c = sample_runs
