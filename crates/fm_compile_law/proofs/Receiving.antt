-- What RECEIVE names fits the fields of the messages of its inport.
use Rattle.std.proofs.Common.{◌≡◌, ℕ, suc, ◌+◌, ◌≤◌, Bool, true, false, cond, ◌&&◌, ◌==◌, not, Option, Some, None, List, [], ◌∷◌, ◌++◌, reverse, refl, sym, ap, subst, ◌∙◌, arith, append_assoc}
use Rattle.std.specs.Prelude.{slice_get}
use Rattle.std.specs.List.{flat_map}
use Rattle.std.proofs.lemmas.Bool.Decides.{nat_tests}
use Rattle.std.proofs.lemmas.List.{reverse-reverse}
use Rattle.fm_net.specs.Typed.{AllIn}
use Rattle.fm_tree.specs.Tree.{trees_from}
use Rattle.fm_tree.specs.References.{in_extra, in_var, in_vars}
use Rattle.fm_tree.specs.PortFields.{PortFields, FieldKind, NoFields, FieldThen, Integer, Logical, In, Out}
use Rattle.fm_tree.specs.PortReading as reading
use Rattle.fm_tree.specs.declared.port_type.Bound.{Bound}
use Rattle.fm_tree.specs.declared.statement.Extra.{Extra}
use Rattle.fm_tree.specs.declared.statement.Extra.TheVariants as extra
use Rattle.fm_tree.specs.declared.statement.Var.{Var}
use Rattle.fm_symbols.specs.declared.names.Variable.{Variable}
use Rattle.fm_rules.specs.PortTypes.{sizing_place}
use Rattle.fm_rules.specs.declared.program.Program.{Program}
use Rattle.fm_mean.specs.Names.{ProgramUnit, unit_at}
use Rattle.fm_mean.specs.Evaluate.{Scope, refs_in_var, refs_in_vars}
use Rattle.fm_mean.specs.Fits.{elements_in}
use Rattle.fm_mean.specs.Referring.{names_in}
use Rattle.fm_mean.specs.Typing as typing
use Rattle.fm_mean.specs.Typing.{sort_of}
use Rattle.fm_mean.proofs.JudgedItems.{all_left, all_right}
use Rattle.fm_code.specs.declared.code.Span.{Span}
use Rattle.fm_code.specs.declared.instr.Build.TheVariants as build
use Rattle.fm_code.specs.declared.instr.Instr.{Instr}
use Rattle.fm_code.specs.declared.instr.Instr.TheVariants as instr
use Rattle.fm_code_kinds.specs.declared.kinds.Kind.TheVariants.{Word}
use Rattle.fm_code_kinds.specs.declared.kinds.Passed.{Passed}
use Rattle.fm_code_kinds.specs.declared.kinds.Passed.TheVariants as pass
use Rattle.fm_code_kinds.specs.declared.sorts.Cell.{Cell}
use Rattle.fm_code_kinds.specs.declared.sorts.Field.{Field}
use Rattle.fm_code_kinds.specs.declared.sorts.Shape.{Shape}
use Rattle.fm_code_kinds.specs.declared.sorts.Shapes.{Shapes}
use Rattle.fm_code_kinds.specs.declared.sorts.Sort.{Sort}
use Rattle.fm_code_kinds.specs.declared.sorts.Sort.TheVariants as sort
use Rattle.fm_code_kinds.specs.Shapes.{is_word, is_port, is_word_sort, are_words, sort_at, fields_of}
use Rattle.fm_code_kinds.specs.Effects.{Over, Ill, Taken, given_where, only_results, results_in, operands_on, operands_over, sized, fits_room, is_target, takes_words, fits_received, fit_fields, at_port, if_in, effect}
use Rattle.fm_gen_relation.specs.Calls.{refs_in_extras}
use Rattle.fm_gen_relation.specs.Sound.{IsSoundUnit, IsVariable}
use Rattle.fm_gen_relation.specs.Targets.{target_words, HasWords, TargetsFit}
use Rattle.fm_gen_operands.specs.Places.{var_code, targets_code}
use Rattle.fm_gen.specs.Statements.{extras_code, refs_behind, receive_end, receive_code}
use Rattle.fm_object.specs.declared.image.FieldImage.{FieldImage}
use Rattle.fm_compile_law.specs.Along.{then_on, along}
use Rattle.fm_compile_law.specs.Counted.{IsCounted, AreCounted, VarFits, ExtraFits}
use Rattle.fm_compile_law.specs.Passed.{IsTarget, AreTargets}
use Rattle.fm_compile_law.specs.Sized.{is_one_integer, holds_words, is_true_at, size_stands, sizes_stand}
use Rattle.fm_image.specs.Types.{number_in, types_of}
use Rattle.fm_compile_law.specs.Types.{sort_by, field_by, fields_by}
use Rattle.fm_compile_law.specs.Units.{shape_by, shapes_of}
use Rattle.fm_compile_law.specs.Walks.{Walks}
use Rattle.fm_compile_law.proofs.Straight.{then_more}
use Rattle.fm_compile_law.proofs.Expressions.{Kinds, cs}
use Rattle.fm_compile_law.proofs.Places.{there}
use Rattle.fm_compile_law.proofs.Arguments.{targets_leave}
use Rattle.fm_compile_law.proofs.Control.{sorted}
use Rattle.fm_compile_law.proofs.Calling.{taken_over}
use Rattle.fm_compile_law.proofs.Asking.{at_port_is, sorted_leaves, same_place}
use Rattle.fm_compile_law.proofs.TypeNumbers.{IsOf, fields_there}
use Rattle.fm_compile_law.proofs.SizedTypes.{in_sizes}
use Rattle.fm_compile_law.proofs.Walks.{IsApart, closes}

pub word_field : (ts : List (List FieldImage)) (k : FieldKind) → holds_words k ≡ true → is_word (sort_by ts k) ≡ true
word_field ts Integer e = refl
word_field ts Logical e = refl
word_field ts (In t) e = absurd cc
word_field ts (Out t) e = absurd cc

pub not_zero : (n : ℕ) → (suc n == 0) ≡ false
not_zero n = grind (arith, nat_tests)

pub holds_first : (a b : Bool) → (a && b) ≡ true → a ≡ true
holds_first true b e = refl
holds_first false b e = absurd cc

pub holds_second : (a b : Bool) → (a && b) ≡ true → b ≡ true
holds_second true b e = e
holds_second false b e = absurd cc

no_port : (s : Sort) → is_word s ≡ true → is_port s ≡ true → ⊥
no_port s holds e = absurd (never (sym (ap not holds) ∙ e))
  where
    never : false ≡ true → ⊥
    never e = absurd cc

-- words that are stored into
takes : (all : List Cell) (s : Sort) (words : ℕ) (o : Passed) → is_target o ≡ true → is_word s ≡ true → fits_room all s words o ≡ true → takes_words all o ≡ true
takes all s words pass.Value target holds room = absurd cc
takes all s words (pass.Words t) target holds room = holds_second (t.count == words) (are_words all t) (holds_second (is_word s) ((t.count == words) && are_words all t) room)
takes all s words (pass.Ports t) target holds room = absurd (no_port s holds (holds_first (is_port s) (sized t.count words (sort_at all t) s) room))
takes all s words (pass.WordIn t) target holds room = holds_second (words == 1) (are_words all t) (holds_second (is_word s) ((words == 1) && are_words all t) room)
takes all s words (pass.PortIn t) target holds room = absurd (no_port s holds (holds_first (is_port s) (sized 1 words (sort_at all t) s) room))
takes all s words (pass.Sized k) target holds room = absurd cc

module _ (ts : List (List FieldImage)) (all : List Cell) (u : ProgramUnit) where
  one_received : (w : Variable) (k : FieldKind) (words : ℕ) (bounds : List Bound) (es : List Bool) (o : Passed) (size : Option ℕ) → IsTarget ts all w words o → reading.kind_of w.kind ≡ k → HasWords words size bounds → size_stands es k size ≡ true
      → fits_received all (field_by ts k bounds size) o ≡ true
  one_received w k words bounds es o None is kind has stands =
      let room : fits_room all (sort_by ts k) (elements_in bounds) o ≡ true =
      ap (λ (m : ℕ). fits_room all (sort_by ts k) m o) (sym has) ∙ sym (ap (λ (q : FieldKind). fits_room all (sort_by ts q) words o) kind) ∙ is.fits in
      λ i. is.target i && room i
  one_received w k words bounds es o (Some place) is kind has stands =
      let holds : is_word (sort_by ts k) ≡ true = word_field ts k (holds_first (holds_words k) (is_true_at (slice_get es place)) stands) in
      let room : fits_room all (sort_by ts k) words o ≡ true = sym (ap (λ (q : FieldKind). fits_room all (sort_by ts q) words o) kind) ∙ is.fits in
      (λ i. is.target i && cond (not_zero place i) (fits_room all (sort_by ts k) 0 o) (is_word (sort_by ts k) && takes_words all o))
      ∙ (λ i. holds i && takes all (sort_by ts k) words o is.target holds room i)

  pub fit_received : (t : PortFields) (vs : List Var) (os : List Passed) (es : List Bool) → AreTargets ts all u vs os → TargetsFit u t vs → sizes_stand es t ≡ true → fit_fields (fits_received all) (fields_by ts t) os ≡ true
  fit_received NoFields [] [] es are fit stands = refl
  fit_received NoFields [] (o ∷ os) es are fit stands = absurd are
  fit_received NoFields (v ∷ vs) os es are fit stands = absurd fit
  fit_received (FieldThen k name bounds rest) [] os es are fit stands = absurd fit
  fit_received (FieldThen k name bounds rest) (v ∷ vs) [] es are fit stands = absurd are
  fit_received (FieldThen k name bounds rest) (v ∷ vs) (o ∷ os) es are fit stands =
      let x = are.0 in
      let w = fit.0 in
      let same : w.0 ≡ x.variable = same_place w.0 x.variable (sym w.1 ∙ x.named) in
      let kind : reading.kind_of x.variable.1.kind ≡ k = sym (ap (λ (y : ℕ × Variable). reading.kind_of y.1.kind) same) ∙ w.2 in
      let has : HasWords (target_words x.variable.1 (trees_from v.subscripts)) (sizing_place bounds) bounds =
      subst (λ (y : ℕ × Variable). HasWords (target_words y.1 (trees_from v.subscripts)) (sizing_place bounds) bounds) same w.3 in
      let here = size_stands es k (sizing_place bounds) in
      let more = sizes_stand (es ++ is_one_integer k bounds ∷ []) rest in
      let one = one_received x.variable.1 k (target_words x.variable.1 (trees_from v.subscripts)) bounds es o (sizing_place bounds) x.is kind has (holds_first here more stands) in
      (λ i. one i && fit_fields (fits_received all) (fields_by ts rest) os) ∙ fit_received rest vs os (es ++ is_one_integer k bounds ∷ []) are.1 fit.1 (holds_second here more stands)

behind_is : (s : Scope) (es : List Extra) (n : ℕ) → refs_behind s es n ≡ n + refs_in_extras s es
behind_is s [] n = omega arith
behind_is s (extra.End l ∷ es) n = behind_is s es n
behind_is s (extra.Iostat v ∷ es) n = let rest = behind_is s es (n + refs_in_var s v) in omega (arith, rest)

module _ (p : Program) (number : ℕ) (u : ProgramUnit) (here : unit_at p number ≡ Some u) (sound : IsSoundUnit u) (n : ℕ) (Good : ℕ → Type 0) where
  abbrev ts : List (List FieldImage)
  ts = types_of p

  abbrev ss : Shapes
  ss = shapes_of p

  abbrev me : Shape
  me = shape_by ts u

  abbrev all : List Cell
  all = cs p u sound ts n

  abbrev now : Scope
  now = names_in p u

  extras_leave : (es : List Extra) (k : ℕ) (under : Kinds) → AllIn (typing.ExtraFits u) es → AllIn (ExtraFits u) es → k + refs_in_extras now es ≤ results_in under → AreCounted p u (flat_map in_extra es) → along all n (extras_code p u es k) under ≡ Some under
  extras_leave [] k under types fits done h = refl
  extras_leave (extra.End l ∷ es) k under types fits done h = extras_leave es k under types.1 fits.1 done h
  extras_leave (extra.Iostat v ∷ es) k under types fits done h =
      let x = sorted_leaves p u sound ts n ss Good v Integer types.0 fits.0 k under (omega (arith, done)) (all_left (IsCounted p u) (in_var v) (flat_map in_extra es) h) in
      let rest = extras_code p u es (k + refs_in_var now v) in
      let words : are_words all x.among ≡ true = ap is_word_sort x.of in
      then_more all n (var_code p u v k) (instr.Build build.Status ∷ rest) under (Word (Some x.among) ∷ under) under x.leaves
      (ap (λ b. then_on (given_where b under) (λ ms. along all n rest ms)) words
      ∙ extras_leave es (k + refs_in_var now v) under types.1 fits.1 (omega (arith, done)) (all_right (IsCounted p u) (in_var v) (flat_map in_extra es) h))

  abbrev pub leads_to : Option ℕ → ℕ → List ℕ
  leads_to None next = next ∷ []
  leads_to (Some to) next = to ∷ next ∷ []

  receive_apart : (o : Option ℕ) (next : ℕ) → IsApart (receive_end o next)
  receive_apart None next = record { join = refl; begin = refl }
  receive_apart (Some to) next = record { join = refl; begin = refl }

  -- what a RECEIVE does, where its operands stand above the place of an inport
  received : (o : Option ℕ) (next c : ℕ) (t : PortFields) (ops : List Passed) (x : Span) (ks : Kinds) → sort_at all x ≡ Some (sort.In (number_in ts t)) → only_results ks ≡ true → fit_fields (fits_received all) (fields_of ss (number_in ts t)) ops ≡ true
      → effect ss me n c (receive_end o next) (operands_over (reverse ops) (Word (Some x) ∷ ks)) ≡ Over (leads_to o next) 0
  received o next c t ops x ks of only fit = go o
    where
      fits_all : fit_fields (fits_received all) (fields_of ss (number_in ts t)) (reverse (reverse ops)) ≡ true
      fits_all = ap (fit_fields (fits_received all) (fields_of ss (number_in ts t))) (reverse-reverse ops) ∙ fit

      ends : (to : List ℕ) → at_port all (Word (Some x) ∷ ks) (λ s. if_in s (λ type. cond (fit_fields (fits_received all) (fields_of ss type) (reverse (reverse ops))) (Over to 0) Ill)) ≡ Over to 0
      ends to =
          at_port_is all (λ s. if_in s (λ type. cond (fit_fields (fits_received all) (fields_of ss type) (reverse (reverse ops))) (Over to 0) Ill)) x (sort.In (number_in ts t)) ks of only
          ∙ ap (λ b. cond b (Over to 0) Ill) fits_all

      taken : operands_on (operands_over (reverse ops) (Word (Some x) ∷ ks)) ≡ record { operands = reverse ops; rest = Word (Some x) ∷ ks }
      taken = taken_over (reverse ops) (Word (Some x) ∷ ks) refl

      go : (o : Option ℕ) → effect ss me n c (receive_end o next) (operands_over (reverse ops) (Word (Some x) ∷ ks)) ≡ Over (leads_to o next) 0
      go None = ap (λ (t : Taken). at_port all t.rest (λ s. if_in s (λ type. cond (fit_fields (fits_received all) (fields_of ss type) (reverse t.operands)) (Over (next ∷ []) 0) Ill))) taken ∙ ends (next ∷ [])
      go (Some to) = ap (λ (t : Taken). at_port all t.rest (λ s. if_in s (λ type. cond (fit_fields (fits_received all) (fields_of ss type) (reverse t.operands)) (Over (to ∷ next ∷ []) 0) Ill))) taken ∙ ends (to ∷ next ∷ [])

  pub receive_ends : (at : ℕ) (q : Var) (extras : List Extra) (items : List Var) (o : Option ℕ) (t : PortFields) (next : ℕ) → sort_of u q.name ≡ Some (In t) → TargetsFit u t items → AllIn (λ (v : Var). IsVariable u v.name) items
      → AllIn (typing.ExtraFits u) extras → VarFits u q → AllIn (ExtraFits u) extras → AllIn (VarFits u) items → AllIn Good (leads_to o next) → (ks : Kinds) → only_results ks ≡ true
      → refs_in_var now q + refs_in_extras now extras + refs_in_vars now items ≤ results_in ks → AreCounted p u (in_var q) → AreCounted p u (flat_map in_extra extras) → AreCounted p u (in_vars items)
      → Walks Good ss me n at (receive_code p u q extras items o next) ks []
  receive_ends at q extras items o t next is fit named types port_fits extras_fit items_fit good ks only done a b c =
      let k = refs_in_var now q in
      let m = refs_behind now extras k in
      let w = sorted u q.name (In t) is in
      let place = there p u sound ts n q.name w.0 w.1 in
      let x = sorted_leaves p u sound ts n ss Good q (In t) is port_fits 0 ks (omega (arith, done)) a in
      let under : Kinds = Word (Some x.among) ∷ ks in
      let y = extras_leave extras k under types extras_fit (omega (arith, done)) b in
      let z = targets_leave p u sound ts n items named items_fit m under (omega (arith, done, behind_is now extras k)) c in
      let ms = operands_over (reverse z.operands) under in
      let one = var_code p u q 0 in
      let two = extras_code p u extras k in
      let three = targets_code p u items m in
      let last = receive_end o next in
      let kind : IsOf (reading.kind_of w.0.1.kind) t = subst (λ (r : FieldKind). IsOf r t) (sym w.2) refl in
      let fields = fields_there p number u here w.0.0 w.0.1 place t kind in
      let sizes = in_sizes p number u w.0.0 w.0.1 t here place w.2 in
      let all_fit : fit_fields (fits_received all) (fields_of ss (number_in ts t)) z.operands ≡ true =
      ap (λ (fs : List Field). fit_fields (fits_received all) fs z.operands) fields ∙ fit_received ts all u t items z.operands [] z.are fit sizes in
      subst (λ (code : List Instr). Walks Good ss me n at code ks [])
      (append_assoc one (two ++ three) (last ∷ []) ∙ ap (λ (code : List Instr). one ++ code) (append_assoc two three (last ∷ [])))
      (closes Good ss me n at (one ++ (two ++ three)) last ks ms (leads_to o next)
      (then_more all n one (two ++ three) ks under ms x.leaves (then_more all n two three under under ms y z.leaves))
      (λ d. received o next d t z.operands x.among ks x.of only all_fit) good (receive_apart o next))
