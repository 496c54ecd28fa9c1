use Rattle.std.proofs.Common.{◌≡◌, ◌<◌, ℕ, List, Option, Some, None, ◌&&◌, length, sym, arith}
use Rattle.std.specs.Option.{IfSome}
use Rattle.fm_base.specs.declared.name.Label.{Label}
use Rattle.fm_tree.specs.declared.entry_mark.EntryMark.{EntryMark}
use Rattle.fm_tree.specs.Structure.{is_executable}
use Rattle.fm_tree.specs.Layout.{is_this_label}
use Rattle.fm_tree.specs.Labels.{target}
use Rattle.fm_unit_structure.proofs.Firsts.{first_within}
use Rattle.fm_unit_structure.proofs.sheet.Sheet.target_of.Goals as goal

bound : (entries : List EntryMark) (label : Label) (r : Option ℕ) → r ≡ target entries label → IfSome r (λ t. t < length entries)
bound entries label None e = tt
bound entries label (Some t) e =
    let h = first_within (λ e. is_executable e.form && is_this_label label e.label) entries 0 t (sym e) in omega (arith, h)

pub returns-in-Some-clause-within : goal.returns-in-Some-clause-within
returns-in-Some-clause-within c = bound c.args.self.now.entries.now c.in-Some.label c.target.result c.target.ensures
