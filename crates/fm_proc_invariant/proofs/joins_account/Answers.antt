use Rattle.fm_proc_invariant.proofs.Joins.{drop_rest, give_all}
use Rattle.fm_proc_invariant.proofs.joins_account.Goals as goal

pub returns-clause-given : goal.returns-clause-given
returns-clause-given c = λ mine theirs my_others their_others backs j. give_all mine theirs my_others their_others backs j

pub returns-clause-dropped : goal.returns-clause-dropped
returns-clause-dropped c = λ mine theirs my_others their_others j words. drop_rest mine theirs my_others their_others j words
