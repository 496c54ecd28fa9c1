-- The items of a SEND that are cut have words of 64 bits, and its message has few sized fields, since the statement has few items.
use Rattle.std.proofs.Common.{◌≡◌, ℕ, ℤ, pos, negsuc, ◌+◌, ◌≤◌, Bool, true, false, cond, Option, Some, None, List, [], ◌∷◌, ◌++◌, length, take, slice_get, Ok, Err, refl, sym, subst, arith}
use Rattle.std.specs.Prelude.{nat_le}
use Rattle.fm_base.specs.declared.fault.Fault.TheVariants.{Subscript}
use Rattle.fm_tree.specs.Forms.{expr, more_spelled, list_spelled}
use Rattle.fm_tree.specs.PortFields.{PortFields, NoFields, FieldThen}
use Rattle.fm_tree.specs.Tree.{Tree, trees_from}
use Rattle.fm_tree.specs.declared.program_unit.Entry.{Entry}
use Rattle.fm_tree.specs.declared.statement.Simple.TheVariants as simple
use Rattle.fm_tree.specs.declared.statement.Stmt.TheVariants as stmt
use Rattle.fm_net.specs.Typed.{AllIn}
use Rattle.fm_rules.specs.PortTypes.{sizing_place}
use Rattle.fm_rules.specs.declared.program.Program.{Program}
use Rattle.fm_mean.specs.Names.{ProgramUnit, unit_at}
use Rattle.fm_mean.specs.declared.place.Actual.{Actual}
use Rattle.fm_mean.specs.declared.place.Actual.TheVariants.{Given, Taken}
use Rattle.fm_mean.specs.Evaluate.{Scope}
use Rattle.fm_mean.specs.Actions.{cut_to, cut_item, cut_items, size_in}
use Rattle.fm_mean.specs.Owed.{SizesAtMost, one_sized, sized_fields}
use Rattle.fm_mean.specs.TypedTrees.{IsIn, StatementHasTypes}
use Rattle.fm_mean.specs.ValueTypes.{ItemsAreOf}
use Rattle.fm_mean.proofs.ProgramMeanings.{program_has_types}
use Rattle.fm_mean.proofs.Sorts.{fields_of_outport}
use Rattle.fm_cost_law.specs.Words.{IsWord}
use Rattle.fm_cost_law.proofs.Kept.{ActualHasWords}
use Rattle.fm_cost_law.proofs.Lists.{all_taken}
use Rattle.fm_cost_law.proofs.Spelled.{IsSmall, StatementIsSmall, sent_listed, weight, weight_joined}
use Rattle.fm_cost_law.proofs.Values.{Fine, then_fine}

-- ---- words

to_words : (z : ℤ) (a : Actual) → ActualHasWords a → Fine ActualHasWords (cut_to z a)
to_words (pos n) (Given ws back) h = go (nat_le n (length ws))
  where
    go : (b : Bool) → Fine ActualHasWords (cond b (Ok (Given (take n ws) back)) (Err Subscript))
    go true = all_taken IsWord n ws h
    go false = tt
to_words (pos n) (Taken s) h = go (nat_le n s.count)
  where
    go : (b : Bool) → Fine ActualHasWords (cond b (Ok (Taken (record s { count = n }))) (Err Subscript))
    go true = tt
    go false = tt
to_words (negsuc n) a h = tt

one_words : (before : List Actual) (size : Option ℕ) (a : Actual) → ActualHasWords a → Fine ActualHasWords (cut_item before size a)
one_words before None a h = h
one_words before (Some place) a h = to_words (size_in (slice_get before place)) a h

pub cut_words : (before : List Actual) (t : PortFields) (items : List Actual) → AllIn ActualHasWords items → Fine (AllIn ActualHasWords) (cut_items before t items)
cut_words before NoFields items h = h
cut_words before (FieldThen kind name bounds rest) [] h = tt
cut_words before (FieldThen kind name bounds rest) (a ∷ more) h =
    then_fine ActualHasWords (AllIn ActualHasWords) (cut_item before (sizing_place bounds) a) _ (one_words before (sizing_place bounds) a h.0)
    (λ i g. then_fine (AllIn ActualHasWords) (AllIn ActualHasWords) (cut_items (before ++ i ∷ []) rest more) _ (cut_words (before ++ i ∷ []) rest more h.1) (λ is k. (g, k)))

-- ---- sized fields

one_counted : (size : Option ℕ) → one_sized size ≤ 1
one_counted None = omega arith
one_counted (Some place) = omega arith

fields_counted : (s : Scope) (t : PortFields) (es : List Tree) → ItemsAreOf s t (trees_from es) → sized_fields t ≤ length es
fields_counted s NoFields [] h = omega arith
fields_counted s NoFields (e ∷ es) h = absurd h
fields_counted s (FieldThen kind name bounds rest) [] h = absurd h
fields_counted s (FieldThen kind name bounds rest) (e ∷ es) h = omega (arith, one_counted (sizing_place bounds), fields_counted s rest es h.1)

more_counted : (es : List Tree) → length es ≤ weight (more_spelled expr es)
more_counted [] = omega arith
more_counted (e ∷ es) = omega (arith, more_counted es, weight_joined (expr.spelled e) (more_spelled expr es))

list_counted : (es : List Tree) → length es ≤ 1 + weight (list_spelled expr es)
list_counted [] = omega arith
list_counted (e ∷ es) = omega (arith, more_counted es, weight_joined (expr.spelled e) (more_spelled expr es))

-- no SEND of a program whose statements are small sends more sized fields than a card has characters
pub few_sizes : (p : Program) → ((n : ℕ) (u : ProgramUnit) (i : ℕ) (e : Entry) → unit_at p n ≡ Some u → slice_get u.tree.body i ≡ Some e → StatementIsSmall e.stmt) → SizesAtMost 1322 p
few_sizes p small k u i e named q items is_unit there here =
    subst (λ (t : PortFields). sized_fields t ≤ 1322) (sym (fields_of_outport u q types.0 types.1)) (omega (arith, fields_counted scope types.0 items (types.2 scope within), list_counted items, spelled.few))
  where
    types : StatementHasTypes p u (stmt.Simple (simple.Send named q items))
    types = subst (StatementHasTypes p u) here ((program_has_types p).entries k u i e is_unit there).statement

    scope : Scope
    scope = record { program = p; unit = u; values = []; results = [] }

    within : IsIn p u scope
    within = record { unit = refl; program = refl }

    spelled : IsSmall (list_spelled expr items)
    spelled = sent_listed named q items (subst StatementIsSmall here (small k u i e is_unit there))
