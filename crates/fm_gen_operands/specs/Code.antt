-- The instructions of expressions.
-- Source: ANSI X3.9-1978, sections 5.4 (subscripts), 6 (expressions) and 15.2 (references of functions); the order of
-- instructions by this profile.
use Rattle.std.specs.Prelude.{ℕ, ℤ, pos, ◌+◌, Bool, ◌&&◌, ◌==◌, nat_lt, cond, Option, Some, None, List, [], ◌∷◌, ◌++◌, length}
use Rattle.fm_base.specs.declared.token.Op.{Op}
use Rattle.fm_base.specs.declared.token.Op.TheVariants as op
use Rattle.fm_values.specs.Values.{truth_word, word_of}
use Rattle.fm_values.specs.Places.{Bounds, extent}
use Rattle.fm_tree.specs.Tree.{Tree, Trees, Number, Truth, Named, Ref, Paren, Signed, Not, Binary, NoTrees, More, list_of}
use Rattle.fm_tree.specs.declared.port_type.Kind.{Kind}
use Rattle.fm_tree.specs.declared.port_type.Kind.TheVariants as kind
use Rattle.fm_symbols.specs.declared.names.Variable.{Variable}
use Rattle.fm_rules.specs.declared.program.Program.{Program}
use Rattle.fm_mean.specs.Names.{ProgramUnit, variable_of, constant_of}
use Rattle.fm_mean.specs.Evaluate.{Reference, Element, Call, Built, Unknown, reference_of, refs_in, refs_in_all, constant_by}
use Rattle.fm_mean.specs.Referring.{names_in}
use Rattle.fm_code.specs.declared.instr.Eval.TheVariants as eval
use Rattle.fm_code.specs.declared.instr.Instr.{Instr}
use Rattle.fm_code.specs.declared.instr.Instr.TheVariants as instr

abbrev pub push : ℤ → Instr
push n = instr.Eval (eval.Push n)

-- Names.

-- a variable without words counts as 0
abbrev pub first_load : (first words : ℕ) → Instr
first_load first words = cond (nat_lt 0 words) (instr.Eval (eval.Load first)) (push (pos 0))

-- so does a port
abbrev pub variable_code : Kind → (first words : ℕ) → Instr
variable_code kind.Integer first words = first_load first words
variable_code kind.Logical first words = first_load first words
variable_code (kind.In t) first words = push (pos 0)
variable_code (kind.Out t) first words = push (pos 0)

abbrev pub named_code : ProgramUnit → List ℕ → Option (ℕ × Variable) → Instr
named_code u name None = push (word_of (constant_by (constant_of u name)))
named_code u name (Some v) = variable_code v.1.kind v.1.first v.1.words

-- Elements.

-- the subscript of a dimension, in front of these others
abbrev pub dimension_code : (others : Bounds) → ℤ × ℤ → Instr
dimension_code [] b = instr.Eval (eval.Subscript b.0 (extent b))
dimension_code (c ∷ bs) b = instr.Eval (eval.Dimension b.0 (extent b))

-- subscripts give way to the place of their element, from the last dimension to the first
abbrev pub dimensions_code : Bounds → List Instr
dimensions_code [] = []
dimensions_code (b ∷ bs) = dimensions_code bs ++ dimension_code bs b ∷ []

-- whether so many subscripts can lead to an element
abbrev pub has_elements : Variable → (subscripts : ℕ) → Bool
has_elements v n = (n == length v.bounds) && nat_lt 0 v.words

-- there is no such element
abbrev pub no_element : List Instr
no_element = push (pos 0) ∷ instr.Eval (eval.Subscript (pos 0) 0) ∷ []

-- what is done with the place of the element that these subscripts lead to
abbrev pub place_code : Variable → (subscripts : ℕ) → List Instr → List Instr
place_code v n is = cond (has_elements v n) (dimensions_code v.bounds ++ is) no_element

-- a place gives way to 0
abbrev pub port_code : List Instr
port_code = push (pos 0) ∷ instr.Eval (eval.Apply op.Mul) ∷ []

-- the value of an element by its place; that of a port counts as 0
abbrev pub element_code : Kind → (first : ℕ) → List Instr
element_code kind.Integer first = instr.Eval (eval.Element first) ∷ []
element_code kind.Logical first = instr.Eval (eval.Element first) ∷ []
element_code (kind.In t) first = port_code
element_code (kind.Out t) first = port_code

-- Expressions.

abbrev pub sign_code : Op → List Instr
sign_code op.Sub = instr.Eval eval.Negate ∷ []
sign_code o = []

-- a name with arguments: their code, how many they are, and the number of the reference if it is one of a FUNCTION, whose
-- arguments were evaluated when it was done
abbrev pub reference_code : Reference → (arguments : List Instr) → (count number : ℕ) → List Instr
reference_code (Element i v) is n k = is ++ place_code v n (element_code v.kind v.first)
reference_code (Call m callee) is n k = instr.Eval (eval.Result k) ∷ []
reference_code (Built f) is n k = is ++ instr.Eval (eval.Intrinsic f n) ∷ []
reference_code Unknown is n k = push (pos 0) ∷ []

abbrev pub trees_count : Trees → ℕ
trees_count ts = length (list_of ts)

-- operands from left to right, and then what makes one word of them; `n` references of the entry stand before the tree
abbrev mutual
  pub expression_code : Program → ProgramUnit → Tree → (n : ℕ) → List Instr
  expression_code p u (Number k) n = push k ∷ []
  expression_code p u (Truth b) n = push (truth_word b) ∷ []
  expression_code p u (Named name) n = named_code u name (variable_of u name) ∷ []
  expression_code p u (Ref name args) n =
      reference_code (reference_of (names_in p u) name) (expressions_code p u args n) (trees_count args) (n + refs_in_all (names_in p u) args)
  expression_code p u (Paren e) n = expression_code p u e n
  expression_code p u (Signed o e) n = expression_code p u e n ++ sign_code o
  expression_code p u (Not e) n = expression_code p u e n ++ instr.Eval eval.Not ∷ []
  expression_code p u (Binary o a b) n = expression_code p u a n ++ (expression_code p u b (n + refs_in (names_in p u) a) ++ instr.Eval (eval.Apply o) ∷ [])

  pub expressions_code : Program → ProgramUnit → Trees → (n : ℕ) → List Instr
  expressions_code p u NoTrees n = []
  expressions_code p u (More t ts) n = expression_code p u t n ++ expressions_code p u ts (n + refs_in (names_in p u) t)
