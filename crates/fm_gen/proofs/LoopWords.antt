-- The variable of a counted loop holds a word.
use Rattle.std.proofs.Common.{◌≡◌, ℕ, ◌<◌, true, Option, Some, None, List, slice_get, refl}
use Rattle.std.specs.Option.{option_map}
use Rattle.fm_tree.specs.PortFields.{Integer}
use Rattle.fm_tree.specs.PortReading as reading
use Rattle.fm_tree.specs.declared.port_type.Kind.{Kind}
use Rattle.fm_tree.specs.declared.port_type.Kind.TheVariants as kind
use Rattle.fm_tree.specs.declared.program_unit.Entry.{Entry}
use Rattle.fm_symbols.specs.declared.names.Variable.{Variable}
use Rattle.fm_rules.specs.declared.program.Program.{Program}
use Rattle.fm_mean.specs.Names.{ProgramUnit, unit_at, variable_of}
use Rattle.fm_mean.specs.Actions.{loop_of}
use Rattle.fm_mean.specs.Fits.{sort_of_variable}
use Rattle.fm_mean.specs.Typing.{sort_of, LoopFits}
use Rattle.fm_mean.proofs.ProgramMeanings.{program_has_types}
use Rattle.fm_mean.proofs.TypedTrees.{typed_program}
use Rattle.fm_gen_relation.specs.Sound.{is_word}
use Rattle.fm_gen_relation.proofs.SomeWords.{variable_some}
use Rattle.fm_gen_operands.proofs.Follows.{IsAt, named_at}

-- a name is that of a variable which holds a word
pub record HasWord (u : ProgramUnit) (name : List ℕ) : Type 0 where
  pub place : ℕ
  pub variable : Variable
  pub named : variable_of u name ≡ Some (place, variable)
  pub there : slice_get u.names.variables place ≡ Some variable
  pub word : is_word variable.kind ≡ true
  pub some : 0 < variable.words

is_integer : (q : Kind) → Some (reading.kind_of q) ≡ Some Integer → is_word q ≡ true
is_integer kind.Integer e = refl
is_integer kind.Logical e = absurd (cc)
is_integer (kind.In t) e = absurd (cc)
is_integer (kind.Out t) e = absurd (cc)

module _ (p : Program) (number : ℕ) (u : ProgramUnit) (here : unit_at p number ≡ Some u) where
  has_word_by : (name : List ℕ) (o : Option (ℕ × Variable)) → variable_of u name ≡ o → IsAt u.names.variables o → option_map (λ v. sort_of_variable v.1) o ≡ Some Integer → HasWord u name
  has_word_by name None is at sort = absurd (cc)
  has_word_by name (Some v) is at sort = record {
    place = v.0;
    variable = v.1;
    named = is;
    there = at;
    word = is_integer v.1.kind sort;
    some = variable_some p number u v.0 v.1 here at;
  }

  pub has_word : (name : List ℕ) → sort_of u name ≡ Some Integer → HasWord u name
  has_word name sort = has_word_by name (variable_of u name) refl (named_at p u name) sort

  -- by the types of the program
  pub loop_fits : (k : ℕ) (e : Entry) → slice_get u.tree.body k ≡ Some e → LoopFits u (loop_of e.stmt)
  loop_fits k e at = (typed_program p (program_has_types p) number u k e here at).loop
