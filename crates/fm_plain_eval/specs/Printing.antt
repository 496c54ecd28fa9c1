-- One item of a printed line.
-- Source: ANSI X3.9-1978, section 12.8.2 (lists of items), in this profile's form.
use Rattle.std.specs.Prelude.{ℕ, List, [], ◌∷◌, Result, Ok}
use Rattle.fm_base.specs.declared.fault.Fault.{Fault}
use Rattle.fm_base.specs.declared.output.Printed.{Printed}
use Rattle.fm_base.specs.declared.output.Printed.TheVariants as printed
use Rattle.fm_tree.specs.declared.statement.Item.{Item}
use Rattle.fm_tree.specs.declared.statement.Item.TheVariants as item
use Rattle.fm_mean.specs.Evaluate.{Scope, printed_tree, refs_in}

abbrev pub item_printed : Scope → Item → ℕ → Result (List Printed) Fault
item_printed s (item.Constant bytes) n = Ok (printed.Text bytes ∷ [])
item_printed s (item.Expr e) n = printed_tree s e n

abbrev pub refs_in_item : Scope → Item → ℕ
refs_in_item s (item.Constant bytes) = 0
refs_in_item s (item.Expr e) = refs_in s e
