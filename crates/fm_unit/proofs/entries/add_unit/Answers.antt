use Rattle.std.proofs.Common.{◌≡◌, List, ◌++◌, ap, ap₂, ◌∙◌, subst}
use Rattle.std.specs.Prelude.{option_to_list, OnOk}
use Rattle.fm_tree.specs.declared.entry_mark.EntryMark.{EntryMark}
use Rattle.fm_tree.specs.declared.program_unit.Placed.{Placed}
use Rattle.fm_tree.specs.declared.program_unit.Unit as tree
use Rattle.fm_tree.specs.declared.statement.Stmt.{Stmt}
use Rattle.fm_tree.specs.Layout.{laid_out}
use Rattle.fm_tree.specs.Units.{before_body, body_of, entries_of}
use Rattle.fm_unit.specs.Entries.{assembled, built, entries_with}
use Rattle.fm_unit.specs.Pieces.{body_in, pieces_in}
use Rattle.fm_rules.specs.UnitTitles.{is_function_named}
use Rattle.fm_unit.proofs.Bodies.{unit_entries, assembled_built}
use Rattle.fm_unit.proofs.entries.add_unit.Goals as goal

pub returns : goal.returns
returns c =
    let test = is_function_named c.args.titles.now in
    let source = c.args.statements in
    let body : c.body_of-body.result.now ≡ body_of (laid_out source) = c.body_of-body.ensures ∙ ap body_of c.requires in
    let pieces : c.in_ok-front.pieces.items ≡ pieces_in (body_in source) = c.in_ok-front.ensures.pieces ∙ ap (λ (ps : List Placed). pieces_in (body_in ps)) c.into_vec.ensures in
    let front : c.in_ok-front.front.items ≡ before_body source = c.in_ok-front.ensures.front ∙ ap before_body c.into_vec.ensures in
    let entries : c.in_ok-entries.entries.items ≡ entries_of test source
    = c.in_ok-entries.ensures ∙ ap₂ (λ (ms : List EntryMark) (ss : List Stmt). entries_with test ms 0 ms ss) body pieces ∙ unit_entries test source in
    let unit : option_to_list c.assemble-unit.result ≡ built test source = c.assemble-unit.ensures ∙ ap₂ assembled front entries ∙ assembled_built test source in
    subst (λ (us : List tree.Unit). OnOk c.push_if.result (c.push_if.new.items.items ≡ c.args.units.now.items ++ us)) unit c.push_if.ensures
