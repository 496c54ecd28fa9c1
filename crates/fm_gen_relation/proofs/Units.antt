-- What the rules say of each unit of a checked program: of its variables, its formals and its result.
use Rattle.std.proofs.Common.{◌≡◌, ℕ, ℤ, ◌+◌, ◌≤◌, Bool, true, false, Option, Some, None, List, [], ◌∷◌, ◌++◌, slice_get, refl, sym, ap, ◌∙◌, subst, arith}
use Rattle.std.specs.Prelude.{if◌then◌else◌, nat_lt}
use Rattle.std.specs.FinMap.{get}
use Rattle.std.specs.Coded.{le_prop}
use Rattle.std.proofs.lemmas.Bool.Decides.{nat_tests}
use native.Mathlib.Nat.{ℕ_set}
use Rattle.fm_base.specs.Verdict.{place, when}
use Rattle.fm_base.specs.declared.rule.Rule.TheVariants.{E34}
use Rattle.fm_tree.specs.declared.form.UnitKind.{UnitKind}
use Rattle.fm_tree.specs.declared.form.UnitKind.TheVariants as unit_kind
use Rattle.fm_tree.specs.declared.port_type.Kind.{Kind}
use Rattle.fm_tree.specs.declared.port_type.Kind.TheVariants as kind
use Rattle.fm_tree.specs.declared.program_unit.Unit as tree
use Rattle.fm_tree.specs.declared.statement.Stmt.{Stmt}
use Rattle.fm_tree.specs.declared.statement.Stmt.TheVariants as stmt
use Rattle.fm_symbols.specs.ByName.{ByName}
use Rattle.fm_symbols.specs.Context.{scalar_by, symbol_by, symbols_of, result_in}
use Rattle.fm_symbols.specs.Headings.{heading_kind, heading_name, is_function}
use Rattle.fm_symbols.specs.declared.names.Variable.{Variable}
use Rattle.fm_symbols.specs.declared.names.UnitNames.{UnitNames}
use Rattle.fm_rules.specs.BrokenConstants.{broken_from}
use Rattle.fm_rules.specs.Constants.{constants_of}
use Rattle.fm_rules.specs.NameTypes.{types_of}
use Rattle.fm_rules.specs.Declarations.{declared_twice_in}
use Rattle.fm_rules.specs.FunctionTitles.{titles_of}
use Rattle.fm_rules.specs.declared.sheet.Occurrence.{Occurrence}
use Rattle.fm_rules.specs.declared.sheet.Sheet.{Sheet}
use Rattle.fm_rules.specs.Sheets.{sheet_of}
use Rattle.fm_rules.specs.Variables.{all_words, laid_out, variables_among, words_of}
use Rattle.fm_rules.specs.Names.{unit_names}
use Rattle.fm_rules.specs.BrokenNames.{broken_in, untyped_in, is_long}
use Rattle.fm_rules.specs.declared.program.Program.{Program}
use Rattle.fm_mean.specs.Names.{ProgramUnit, unit_at, kind_of, variable_if, result_variable}
use Rattle.fm_mean.proofs.JudgedValues.{Stands, stands_none, stands_constant, stands_variable, stands}
use Rattle.fm_mean.proofs.Members.{from_map}
use Rattle.fm_mean.proofs.ProgramMeanings.{meanings}
use Rattle.fm_mean.proofs.Sizes.{parts_of, variables_laid_out, variables_sized}
use Rattle.fm_mean.proofs.Unbroken.{Unbroken, from_rules, each_empty, right_empty, not_when}
use Rattle.fm_gen_relation.specs.Sound.{HasResult, IsSoundUnit, is_word, words_among}
use Rattle.fm_gen_relation.proofs.SomeWords.{variables_some}

-- ---- words

laid_words : (s : Sheet) (first : ℕ) (os : List Occurrence) → all_words s os ≡ words_among (laid_out s first os)
laid_words s first [] = refl
laid_words s first (o ∷ os) = ap (λ (n : ℕ). words_of s o.name + n) (laid_words s (first + words_of s o.name) os)

-- the words of the variables are counted, and aren't too many
record AreCounted (n : UnitNames) : Type 0 where
  counted : n.words ≡ words_among n.variables
  few : n.words ≤ 65536

counted_prop : (n : UnitNames) → IsProp (AreCounted n)
counted_prop n = hlevel (ℕ_set, le_prop)

within : (n : ℕ) → nat_lt 65536 n ≡ false → n ≤ 65536
within n e = grind (arith, nat_tests)

words_counted : (titles : ByName Bool) (u : tree.Unit) → broken_in titles u ≡ [] → AreCounted (unit_names titles u)
words_counted titles u e =
    let s = sheet_of u in
    let twice = declared_twice_in titles u in
    let constants = broken_from (constants_of u.specs) (types_of u.specs) 0 u.specs in
    let untyped = untyped_in titles u.heading.stmt s in
    let long = when (is_long titles u.heading.stmt s) (place u.heading.line.0 E34) in
    let os = variables_among titles u.heading.stmt s s.first in
    record {
      counted = laid_words s 0 os;
      few = within (all_words s os) (not_when (is_long titles u.heading.stmt s) (place u.heading.line.0 E34) (right_empty (twice ++ constants ++ untyped) long e));
    }

-- ---- results

is_none : (t : Stmt) → is_function (heading_kind t) ≡ true → heading_name t ≡ None → ⊥
unfolding heading_kind heading_name
is_none (stmt.Function name formals) e h = absurd (cc h)
is_none (stmt.IntegerFunction name formals) e h = absurd (cc h)
is_none (stmt.LogicalFunction name formals) e h = absurd (cc h)
is_none t e h = absurd (cc e)

holds_word : (k : Kind) (bs : List (ℤ × ℤ)) (words place : ℕ) → (scalar_by (Some (symbol_by k bs words place)) ≡ None → ⊥) → is_word k ≡ true
holds_word kind.Integer bs words place h = refl
holds_word kind.Logical bs words place h = refl
holds_word (kind.In t) [] words place h = absurd (h refl)
holds_word (kind.In t) (b ∷ bs) words place h = absurd (h refl)
holds_word (kind.Out t) [] words place h = absurd (h refl)
holds_word (kind.Out t) (b ∷ bs) words place h = absurd (h refl)

module _ (p : Program) (number : ℕ) (u : ProgramUnit) (is : unit_at p number ≡ Some u) where
  own_variable : (q : List ℕ) → heading_name u.tree.heading.stmt ≡ Some q → is_function (kind_of u) ≡ true → (v : ℕ × Variable) × (result_variable u ≡ Some v) × (is_word v.1.kind ≡ true)
  own_variable q named function = go (stands u q)
    where
      some : scalar_by (get (symbols_of u.names) q) ≡ None → ⊥
      some e =
          (meanings p).results number u is function
          (ap (λ (o : Option (List ℕ)). result_in (kind_of u) (symbols_of u.names) o) named ∙ ap (λ (b : Bool). if b then scalar_by (get (symbols_of u.names) q) else None) function ∙ e)

      go : Stands u q (get (symbols_of u.names) q) → (v : ℕ × Variable) × (result_variable u ≡ Some v) × (is_word v.1.kind ≡ true)
      go (stands_none at none) = absurd (some (ap scalar_by at))
      go (stands_constant c at none constant) = absurd ((meanings p).own number u q c is named function constant)
      go (stands_variable k v at found there) = (
        (k, v),
        ap (variable_if u) named ∙ found,
        holds_word v.kind v.bounds v.words k (λ e. some (ap scalar_by at ∙ e)),
      )

  has_result : HasResult (kind_of u) u
  has_result = go (kind_of u) refl
    where
      by_name : (o : Option (List ℕ)) → heading_name u.tree.heading.stmt ≡ o → is_function (kind_of u) ≡ true → (v : ℕ × Variable) × (result_variable u ≡ Some v) × (is_word v.1.kind ≡ true)
      by_name None at function = absurd (is_none u.tree.heading.stmt function at)
      by_name (Some q) at function = own_variable q at function

      go : (k : UnitKind) → kind_of u ≡ k → HasResult k u
      go unit_kind.Program e = tt
      go unit_kind.Process e = tt
      go unit_kind.Subroutine e = tt
      go unit_kind.Function e = by_name (heading_name u.tree.heading.stmt) refl (ap is_function e)

-- ---- by the rules

-- a unit's names, by the rules
unit_of_rules : (us : List tree.Unit) (ns : List UnitNames) → Unbroken us ns → (k : ℕ) (w : ProgramUnit) → slice_get us k ≡ Some w.tree → slice_get ns k ≡ Some w.names → (unit_names (titles_of us) w.tree ≡ w.names) × (broken_in (titles_of us) w.tree ≡ [])
unit_of_rules us ns h k w tree_is names_are =
    let x = from_map (unit_names (titles_of us)) us k w.names (subst (λ (l : List UnitNames). slice_get l k ≡ Some w.names) h.names_are names_are) in
    (ap (unit_names (titles_of us)) (the_unit w.tree x.0 (sym tree_is ∙ x.1)) ∙ x.2, each_empty (broken_in (titles_of us)) us k w.tree h.names tree_is)
  where
    the_unit : (a b : tree.Unit) → Some a ≡ Some b → a ≡ b
    the_unit a b e = cc

module _ (p : Program) (number : ℕ) (u : ProgramUnit) (is : unit_at p number ≡ Some u) where
  unit_counted : AreCounted u.names
  unit_counted =
      from_rules p (AreCounted u.names) (counted_prop u.names)
      (λ h.
      let w = unit_of_rules p.units.units p.names.units h number u (parts_of p number u is).0 (parts_of p number u is).1 in
      subst AreCounted w.0 (words_counted (titles_of p.units.units) u.tree w.1))

-- ---- a unit

pub sound_unit : (p : Program) (number : ℕ) (u : ProgramUnit) → unit_at p number ≡ Some u → IsSoundUnit u
sound_unit p number u is =
    let c = unit_counted p number u is in
    record {
      laid = variables_laid_out p number u is;
      sized = variables_sized p number u is;
      some = variables_some p number u is;
      counted = c.counted;
      few = c.few;
      result = has_result p number u is;
    }
