use Rattle.std.proofs.Common.{List, refl, sym, subst, ◌∙◌}
use Rattle.fm_run.specs.Orders.{Among, EachOnce}
use Rattle.fm_table.specs.Inside.{outs_of}
use Rattle.fm_table.specs.Told.{HaveStarts, numbers_out, stand_with}
use Rattle.fm_table.specs.declared.outside.Taken.{Taken}
use Rattle.fm_table.proofs.Sharing.{none_known}
use Rattle.fm_table.proofs.Standings.{requeued}
use Rattle.fm_table.proofs.table.Table.recall.Goals as goal

pub invariant_of-self : goal.invariant_of-self
invariant_of-self c =
    let t = c.self.inside in
    let k = c.self.invariant in
    let e = c.call_back.ensures in
    record {
      standing = requeued t.program.value t.standing _ k.standing refl refl refl refl refl refl refl (λ n h. (e.same n).0 h) (λ n h. (e.same n).1 h) e.once e.marks;
      front = k.front;
      out_able = λ n h. absurd (subst (λ (ts : List Taken). Among n (numbers_out (outs_of ts))) e.out h);
      out_once = subst (λ (ts : List Taken). EachOnce (numbers_out (outs_of ts))) (sym e.out) tt;
      out_start = subst (λ (ts : List Taken). HaveStarts t.program.value (stand_with t.program.value t.standing.player.net.history c.call_back.new.queue.numbers.items) (outs_of ts)) (sym e.out) tt;
      shared = none_known t.program.value t.setup _ c.forget.new.self (c.forget.ensures.nodes ∙ k.shared.nodes_are) c.forget.ensures.none;
    }
