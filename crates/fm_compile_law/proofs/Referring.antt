-- Each reference of an entry is one of a FUNCTION, behind those of its arguments.
use Rattle.std.proofs.Common.{◌≡◌, ℕ, zero, suc, ℤ, pos, Bool, true, false, cond, Option, Some, None, List, [], ◌∷◌, length, replicate, refl, sym, ap, subst, ◌∙◌, arith}
use Rattle.std.specs.Prelude.{slice_get, filter, option_and_then}
use Rattle.std.specs.Option.{option_map}
use Rattle.std.proofs.lemmas.List.{length-map, length-replicate}
use Rattle.std.proofs.lemmas.Option.{slice_get-map}
use Rattle.fm_tree.specs.Tree.{Tree, Trees, Number, Truth, Named, Ref, Paren, Signed, Not, Binary}
use Rattle.fm_tree.specs.References.{applied_each, applied_in, reference_at}
use Rattle.fm_tree.specs.declared.form.UnitKind.{UnitKind}
use Rattle.fm_tree.specs.declared.form.UnitKind.TheVariants as unit_kind
use Rattle.fm_tree.specs.declared.port_type.Kind.{Kind}
use Rattle.fm_tree.specs.declared.port_type.Kind.TheVariants as kind
use Rattle.fm_tree.specs.declared.program_unit.Entry.{Entry}
use Rattle.fm_symbols.specs.Headings as headings
use Rattle.fm_symbols.specs.declared.names.Variable.{Variable}
use Rattle.fm_rules.specs.declared.program.Program.{Program}
use Rattle.fm_mean.specs.Names.{ProgramUnit, kind_of, unit_at, result_variable}
use Rattle.fm_mean.specs.Actions.{next_reference}
use Rattle.fm_mean.specs.Evaluate.{Scope, Reference, Element, Call, Built, Unknown, reference_of}
use Rattle.fm_mean.specs.Referring.{names_in, calls_one, is_call, calls_among}
use Rattle.fm_mean.specs.TypedTrees.{IsIn}
use Rattle.fm_mean.proofs.JudgedItems.{all_left}
use Rattle.fm_mean.proofs.JudgedReferences.{reference_calls}
use Rattle.fm_code_kinds.specs.Shapes.{is_function}
use Rattle.fm_gen_relation.specs.Sound.{IsSoundEntry}
use Rattle.fm_gen_relation.specs.Standing.{IsWordOf, IsResultOf}
use Rattle.fm_gen_relation.specs.Frames.{IsResultBy, IsResultAt, AreResults}
use Rattle.fm_gen_relation.proofs.Done.{next_call, arguments_done, refs_all_count}
use Rattle.fm_gen_relation.proofs.Entries.{sound_entry}
use Rattle.fm_compile_law.specs.Counted.{IsCounted}
use Rattle.fm_compile_law.specs.Units.{heading_by}
use Rattle.fm_compile_law.proofs.Counting.{counted_entry}
use Rattle.fm_compile_law.proofs.Entries.{IsReference}

-- ---- lists

passed : {X : Type 0} (test : X → Bool) (xs : List X) (i : ℕ) (x : X) → slice_get (filter test xs) i ≡ Some x → test x ≡ true
passed test [] i x e = absurd cc
passed {X} test (y ∷ ys) i x e = go (test y) refl i e (λ k f. passed test ys k x f)
  where
    the_one : (a b : X) → Some a ≡ Some b → a ≡ b
    the_one a b e = cc

    go : (b : Bool) → test y ≡ b → (i : ℕ) → slice_get (cond b (y ∷ filter test ys) (filter test ys)) i ≡ Some x → ((k : ℕ) → slice_get (filter test ys) k ≡ Some x → test x ≡ true) → test x ≡ true
    go true is zero f rest = ap test (sym (the_one y x f)) ∙ is
    go true is (suc i) f rest = rest i f
    go false is i f rest = rest i f

-- ---- a result

zero_word : (q : Kind) → IsWordOf q (pos 0)
zero_word kind.Integer = tt
zero_word kind.Logical = tt
zero_word (kind.In t) = tt
zero_word (kind.Out t) = tt

zero_held : (o : Option (ℕ × Variable)) → IsResultOf o (pos 0)
zero_held None = tt
zero_held (Some v) = zero_word v.1.kind

zero_by : (r : Reference) → IsResultBy r (pos 0)
zero_by (Element i v) = tt
zero_by (Call k callee) = zero_held (result_variable callee)
zero_by (Built f) = tt
zero_by Unknown = tt

zero_at : (p : Program) (u : ProgramUnit) (t : Tree) → IsResultAt p u t (pos 0)
zero_at p u (Number k) = tt
zero_at p u (Truth b) = tt
zero_at p u (Named name) = tt
zero_at p u (Ref name args) = zero_by (reference_of (names_in p u) name)
zero_at p u (Paren e) = tt
zero_at p u (Signed o e) = tt
zero_at p u (Not e) = tt
zero_at p u (Binary o a b) = tt

all_zero : (j i : ℕ) (w : ℤ) → slice_get (replicate j (pos 0)) i ≡ Some w → w ≡ pos 0
all_zero zero i w e = absurd cc
all_zero (suc j) zero w e = sym (the_word (pos 0) w e)
  where
    the_word : (a b : ℤ) → Some a ≡ Some b → a ≡ b
    the_word a b e = cc
all_zero (suc j) (suc i) w e = all_zero j i w e

heading_function : (k : UnitKind) → headings.is_function k ≡ true → is_function (heading_by k) ≡ true
heading_function unit_kind.Function e = refl
heading_function unit_kind.Program e = absurd cc
heading_function unit_kind.Process e = absurd cc
heading_function unit_kind.Subroutine e = absurd cc

-- a call, by what its name with a list means
record IsCall (p : Program) (u : ProgramUnit) (t : Tree) : Type 0 where
  name : List ℕ
  arguments : Trees
  is : t ≡ Ref name arguments
  unit : ℕ
  callee : ProgramUnit
  means : reference_of (names_in p u) name ≡ Call unit callee

a_call : (p : Program) (u : ProgramUnit) (t : Tree) → is_call p u t ≡ true → IsCall p u t
a_call p u (Number k) e = absurd cc
a_call p u (Truth b) e = absurd cc
a_call p u (Named name) e = absurd cc
a_call p u (Paren t) e = absurd cc
a_call p u (Signed o t) e = absurd cc
a_call p u (Not t) e = absurd cc
a_call p u (Binary o a b) e = absurd cc
a_call p u (Ref name args) e = go (reference_of (names_in p u) name) refl e
  where
    go : (r : Reference) → reference_of (names_in p u) name ≡ r → calls_one r ≡ true → IsCall p u (Ref name args)
    go (Element i v) means e = absurd cc
    go (Call k callee) means e = record { name = name; arguments = args; is = refl; unit = k; callee = callee; means = means }
    go (Built f) means e = absurd cc
    go Unknown means e = absurd cc

module _ (p : Program) (number : ℕ) (u : ProgramUnit) (i : ℕ) (e : Entry) (here : unit_at p number ≡ Some u) (at : slice_get u.tree.body i ≡ Some e) where
  abbrev now : Scope
  now = names_in p u

  inside : IsIn p u (names_in p u)
  inside = record { unit = refl; program = refl }

  sound : IsSoundEntry p u e
  sound = sound_entry p number u i e here at

  -- as many as refer to FUNCTIONs in its statement
  pub references_counted : length e.refs ≡ length (calls_among p u (applied_in e.stmt))
  references_counted =
      sym (length-map e.refs (reference_at e.stmt)) ∙ ap length (sound_entry p number u i e here at).references ∙ length-map (calls_among p u (applied_in e.stmt)) Some

  -- what stands at the place of a reference
  some_tree : (o : Option ℕ) (t : Option Tree) (place : ℕ) → o ≡ Some place → option_and_then (reference_at e.stmt) o ≡ t → reference_at e.stmt place ≡ t
  some_tree o t place is next = sym (ap (option_and_then (reference_at e.stmt)) is) ∙ next

  referred : (j place : ℕ) → slice_get e.refs j ≡ Some place → (t : Tree) → reference_at e.stmt place ≡ Some t → next_reference e j ≡ Some t → IsCall p u t → IsReference p u e.stmt j place
  referred j place is t there next call =
      let rs : List ℤ = replicate j (pos 0) in
      let long : length rs ≡ j = length-replicate j (pos 0) in
      let stands : reference_at e.stmt place ≡ Some (Ref call.name call.arguments) = there ∙ ap Some call.is in
      let comes : next_reference e j ≡ Some (Ref call.name call.arguments) = next ∙ ap Some call.is in
      let first : next_reference e (length rs) ≡ Some (Ref call.name call.arguments) = ap (next_reference e) long ∙ comes in
      let results : AreResults p u e rs = λ k t w f g. subst (IsResultAt p u t) (sym (all_zero j k w g)) (zero_at p u t) in
      let done = arguments_done p u e (sound_entry p number u i e here at).references rs results call.name call.arguments first in
      let calls = reference_calls p now call.name refl call.unit call.callee call.means in
      record {
        name = call.name;
        arguments = call.arguments;
        stands = stands;
        unit = call.unit;
        callee = call.callee;
        means = call.means;
        there = calls.1;
        function = heading_function (kind_of call.callee) calls.2;
        before = omega (arith, done.1, long, refs_all_count p u now inside call.arguments);
        counted = all_left (IsCounted p u) (applied_each call.arguments) (Ref call.name call.arguments ∷ []) ((counted_entry p number u i e here at).parts place (Ref call.name call.arguments) stands);
        types = (sound_entry p number u i e here at).types.references j (Ref call.name call.arguments) comes call.unit call.callee now call.means inside;
        full = (sound_entry p number u i e here at).full j (Ref call.name call.arguments) comes call.unit call.callee call.means;
      }

  pub is_reference : (j place : ℕ) → slice_get e.refs j ≡ Some place → IsReference p u e.stmt j place
  is_reference j place is = go (reference_at e.stmt place) refl
    where
      comes : next_reference e j ≡ reference_at e.stmt place
      comes = ap (option_and_then (reference_at e.stmt)) is

      mapped : option_map (reference_at e.stmt) (Some place) ≡ option_map Some (slice_get (calls_among p u (applied_in e.stmt)) j)
      mapped = sym (ap (option_map (reference_at e.stmt)) is) ∙ sym (slice_get-map (reference_at e.stmt) e.refs j) ∙ ap (λ l. slice_get l j) (sound_entry p number u i e here at).references ∙ slice_get-map Some (calls_among p u (applied_in e.stmt)) j

      none_there : (o : Option Tree) → Some None ≡ option_map Some o → ⊥
      none_there None f = absurd cc
      none_there (Some t) f = absurd cc

      go : (o : Option Tree) → reference_at e.stmt place ≡ o → IsReference p u e.stmt j place
      go None there = absurd (none_there (slice_get (calls_among p u (applied_in e.stmt)) j) (sym (ap Some there) ∙ mapped))
      go (Some t) there =
          let next = comes ∙ there in
          referred j place is t there next (a_call p u t (passed (is_call p u) (applied_in e.stmt) j t (sym (next_call p u e (sound_entry p number u i e here at).references j) ∙ next)))
