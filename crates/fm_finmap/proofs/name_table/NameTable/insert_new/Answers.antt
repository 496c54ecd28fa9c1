use Rattle.std.proofs.Common.{sym, ap, ◌∙◌}
use Rattle.fm_finmap.specs.Table.{added}
use Rattle.fm_finmap.proofs.Table.{added_known, added_new}
use Rattle.fm_finmap.proofs.name_table.NameTable.insert_new.Goals as goal

pub returns-then-contains_key-clause-ok : goal.returns-then-contains_key-clause-ok
returns-then-contains_key-clause-ok g c =
    sym c.self.view_is
    ∙ added_known c.self.inside.table c.args.name.now c.args.value (sym c.contains_key.ensures ∙ c.if-contains_key.true)
    ∙ ap (λ es. added es c.args.name.now c.args.value) c.self.view_is

pub returns-clause-ok : goal.returns-clause-ok
returns-clause-ok g c =
    c.in_ok-insert.ensures.entries
    ∙ added_new c.self.inside.table c.args.name.now c.args.value (sym c.contains_key.ensures ∙ c.if-contains_key.false) _ c.in_ok-copy.ensures
    ∙ ap (λ es. added es c.args.name.now c.args.value) c.self.view_is
