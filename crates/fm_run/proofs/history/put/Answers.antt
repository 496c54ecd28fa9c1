use Rattle.std.proofs.Common.{Vec, Global, [], ◌∷◌, ◌++◌, ap, ◌∙◌}
use Rattle.std.specs.List.{flat_map}
use Rattle.fm_base.specs.declared.schedule.Turn.{Turn}
use Rattle.fm_run.proofs.EntryLaws.{chunk_more}
use Rattle.fm_run.proofs.history.put.Goals as goal

pub returns-in-Ok-clause-ok : goal.returns-in-Ok-clause-ok
returns-in-Ok-clause-ok c =
    chunk_more (λ v. v.items) c.args.whole.now.items c.push-2.new.self.items c.replace.result c.replace.new.dest c.args.turn c.in-Ok.ensures.items
    (ap (λ (v : Vec Turn Global). v.items) c.replace.ensures.after ∙ c.in_ok-chunk.ensures)
    ∙ ap (λ (v : Vec Turn Global). (flat_map (λ w. w.items) c.args.whole.now.items ++ v.items) ++ c.args.turn ∷ []) c.replace.ensures.value
