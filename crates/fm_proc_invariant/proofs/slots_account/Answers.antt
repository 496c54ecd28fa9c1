use Rattle.fm_proc_invariant.proofs.Children.{all_put_in, none_used}
use Rattle.fm_proc_invariant.proofs.Slots.{all_drain, all_leave}
use Rattle.fm_proc_invariant.proofs.slots_account.Goals as goal

pub returns-clause-leave : goal.returns-clause-leave
returns-clause-leave c = λ s drops words rest. all_leave s drops words rest

pub returns-clause-drain : goal.returns-clause-drain
returns-clause-drain c = λ s drops words rest. all_drain s drops words rest

pub returns-clause-come : goal.returns-clause-come
returns-clause-come c = λ ports s words. all_put_in ports s words

pub returns-clause-none : goal.returns-clause-none
returns-clause-none c = none_used
