use Rattle.std.proofs.Common.{◌≡◌, ◌++◌, ◌+◌, ℕ, List, length, length-append, replicate, ap, sym, subst, ◌∙◌, arith}
use Rattle.std.proofs.lemmas.List.{length-replicate}
use Rattle.fm_net.specs.Machine.{Place}
use Rattle.fm_net.specs.Starts.{child_places}
use Rattle.fm_run.specs.Noted.{AreParents}
use Rattle.fm_run.specs.Orders.{AreMarked}
use Rattle.fm_run.proofs.Becomes.{children_count, parents_more}
use Rattle.fm_run.proofs.Queueing.{filled_up}
use Rattle.fm_run.proofs.player.Player.keep_made.Goals as goal

pub returns-clause-numbered : goal.returns-clause-numbered
returns-clause-numbered g c = λ places p who more within numbered.
    let old = c.args.self.now in
    let n = c.args.number in
    let later = g.N.Net.order old.net in
    let r = c.args.piece in
    let whole : length later ≡ length places + r.started =
    ap length more ∙ length-append places (child_places p r.block 1 r.started) ∙ ap (λ (k : ℕ). length places + k) (children_count p r.block 1 r.started) in
    let count : c.count-count.result ≡ length later = c.count-count.ensures in
    let parents = c.in_ok-resize.ensures.items ∙ filled_up old.parents.items c.count-count.result _ r.started n old.parents.ok.0 (omega (arith, count, whole, numbered.counted)) in
    record {
      started =
          subst (λ (ps : List Place). AreParents ps c.resize.new.self.items) (sym more)
          (subst (AreParents (places ++ child_places p r.block 1 r.started)) (sym parents) (parents_more places old.parents.items numbered.started numbered.counted n p who r.block r.started));
      counted = omega (arith, whole, numbered.counted, ap length parents, length-append old.parents.items (replicate r.started n), length-replicate r.started n);
      marked =
          subst (λ (k : ℕ). AreMarked k c.grow.new.self.marks.items c.grow.new.self.numbers.items) count
          (c.in_ok-grow.ensures.marks (length places) (omega (arith, count, whole)) within numbered.marked);
    }
