use Rattle.fm_proc_slots.proofs.Numbers.{one_number}
use Rattle.fm_proc_slots.proofs.placing.push_numbers.Goals as goal

pub words-preserved : goal.words-preserved
words-preserved c =
    let next = rw c.in_ok-ok_or.ensures.ok_part at c.checked_add.ensures in
    one_number _ _ _ _ _ _ c.words.invariant c.in_ok-push.ensures.items next.1
