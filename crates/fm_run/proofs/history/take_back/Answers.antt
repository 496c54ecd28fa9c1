use Rattle.std.proofs.Common.{sym, ◌∙◌}
use Rattle.std.proofs.lemmas.Bool.{eqb-true}
use Rattle.fm_run.proofs.EntryLaws.{chunk_back, no_entries}
use Rattle.fm_run.proofs.history.take_back.Goals as goal

pub chunks-preserved : goal.chunks-preserved
chunks-preserved c =
    let last = c.chunks.last in
    let none = no_entries last.items (sym last.ok.0 ∙ eqb-true _ 0 (sym c.chunks-test.ensures)) in
    chunk_back (λ v. v.items) c.chunks.whole.items c.pop.new.self.items c.in-Some.chunk last.items _ c.in-Some.ensures.items none c.chunks.invariant
