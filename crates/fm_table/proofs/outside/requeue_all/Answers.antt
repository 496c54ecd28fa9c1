use Rattle.std.proofs.Common.{◌≡◌, List, ℕ, Some, ◌++◌, ◌∷◌, [], ap, sym, subst, get_or, take, ◌∙◌, arith}
use Rattle.std.specs.Prelude.{slice_get}
use Rattle.std.proofs.lemmas.List.{take_all}
use Rattle.fm_run.specs.Orders.{Among, EachOnce, others_in}
use Rattle.fm_table.specs.Inside.{outs_of}
use Rattle.fm_table.specs.Outs.{behind}
use Rattle.fm_table.specs.Told.{numbers_out}
use Rattle.fm_table.proofs.Outs.{among_at, among_behind, as_many, behind_more, behind_none, fresh_at, number_at, once_behind, once_take, take_more}
use Rattle.fm_table.proofs.outside.requeue_all.Goals as goal

pub out-init : goal.out-init
out-init c = record { queue = behind_none c.args.queue.now.numbers.items; marks = λ count h. h }

pub requeue-requires-clause-once : goal.requeue-requires-clause-once
requeue-requires-clause-once c =
    let ns = numbers_out (outs_of c.args.out.now) in
    subst EachOnce (sym c.out.invariant.queue) (once_behind (take c.out.place ns) c.args.queue.now.numbers.items (once_take c.out.place ns c.requires.once) c.requires.queued)

pub requeue-requires-clause-there : goal.requeue-requires-clause-there
requeue-requires-clause-there c =
    let ns = numbers_out (outs_of c.args.out.now) in
    let m = (get_or c.args.out.now c.out.place c.index-out-place.result).number in
    let at : slice_get ns c.out.place ≡ Some m = number_at c.args.out.now c.out.place c.index-out-place.result (omega arith) in
    subst (λ (qs : List ℕ). Among m qs) (sym c.out.invariant.queue) (among_behind (take c.out.place ns) c.args.queue.now.numbers.items m (c.requires.able m (among_at ns c.out.place m at)))

pub out-preserved : goal.out-preserved
out-preserved c =
    let ns = numbers_out (outs_of c.args.out.now) in
    let m = (get_or c.args.out.now c.out.place c.index-out-place.result).number in
    let at : slice_get ns c.out.place ≡ Some m = number_at c.args.out.now c.out.place c.index-out-place.result (omega arith) in
    record {
      queue =
          c.requeue.ensures.numbers ∙ ap (λ (qs : List ℕ). others_in m qs ++ m ∷ []) c.out.invariant.queue
          ∙ behind_more (take c.out.place ns) c.args.queue.now.numbers.items m (fresh_at c.out.place ns m c.requires.once at)
          ∙ ap (λ (ks : List ℕ). behind ks c.args.queue.now.numbers.items) (sym (take_more c.out.place ns m at));
      marks = λ count h. c.requeue.ensures.marks count (c.out.invariant.marks count h);
    }

pub returns-clause-queue : goal.returns-clause-queue
returns-clause-queue c =
    let ns = numbers_out (outs_of c.args.out.now) in
    c.out.invariant.queue ∙ ap (λ (ks : List ℕ). behind ks c.args.queue.now.numbers.items) (take_all c.out.place ns (omega (arith, as_many c.args.out.now)))
