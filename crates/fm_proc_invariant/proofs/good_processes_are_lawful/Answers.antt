use Rattle.fm_net_invariant.proofs.Good.{goods_alike, goods_lawful}
use Rattle.fm_proc_language.specs.Processes.{code_language}
use Rattle.fm_proc_invariant.specs.Good.{IsGood}
use Rattle.fm_proc_invariant.proofs.good_processes_are_lawful.Goals as goal

pub returns-clause-lawful : goal.returns-clause-lawful
returns-clause-lawful c = λ shapes law. goods_lawful code_language (IsGood shapes) law

pub returns-clause-alike : goal.returns-clause-alike
returns-clause-alike c = λ shapes law. goods_alike code_language (IsGood shapes) law
