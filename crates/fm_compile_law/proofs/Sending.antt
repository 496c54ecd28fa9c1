-- What SEND names fits the fields of the messages of its outport, when it is cut.
use Rattle.std.proofs.Common.{◌≡◌, ◌⊎◌, inl, inr, ℕ, zero, suc, ◌+◌, ◌<◌, ◌≤◌, Bool, true, cond, ◌&&◌, ◌==◌, Option, Some, None, List, [], ◌∷◌, ◌++◌, length, reverse, refl, sym, ap, subst, ◌∙◌, arith, append_assoc, length-append}
use Rattle.std.specs.Prelude.{slice_get, slice_set, nat_lt}
use Rattle.std.proofs.lemmas.Bool.{eq-eqb, lt-ltb}
use Rattle.std.proofs.lemmas.List.{reverse-reverse}
use Rattle.fm_tree.specs.Tree.{Tree, Trees, NoTrees, More}
use Rattle.fm_tree.specs.References.{applied_each, in_var}
use Rattle.fm_tree.specs.PortFields.{PortFields, FieldKind, NoFields, FieldThen, Integer, Logical, In, Out}
use Rattle.fm_tree.specs.PortReading as reading
use Rattle.fm_tree.specs.declared.port_type.Bound.{Bound}
use Rattle.fm_tree.specs.declared.statement.Var.{Var}
use Rattle.fm_rules.specs.PortTypes.{sizing_place}
use Rattle.fm_rules.specs.declared.program.Program.{Program}
use Rattle.fm_mean.specs.Names.{ProgramUnit, unit_at}
use Rattle.fm_mean.specs.Actions.{fields_in, fields_at}
use Rattle.fm_mean.specs.Actions as actions
use Rattle.fm_mean.specs.Evaluate.{Scope, refs_in_all, refs_in_var}
use Rattle.fm_mean.specs.Fits.{elements_in}
use Rattle.fm_mean.specs.Referring.{names_in}
use Rattle.fm_mean.specs.Typing.{sort_of}
use Rattle.fm_mean.specs.ValueTypes.{ItemIsOf, ItemsAreOf}
use Rattle.fm_code.specs.declared.code.Span.{Span}
use Rattle.fm_code.specs.declared.instr.Instr.{Instr}
use Rattle.fm_code.specs.declared.instr.Instr.TheVariants as instr
use Rattle.fm_code.specs.declared.instr.Meet.TheVariants as meet
use Rattle.fm_code_kinds.specs.declared.kinds.Kind.TheVariants.{Word}
use Rattle.fm_code_kinds.specs.declared.kinds.Passed.{Passed}
use Rattle.fm_code_kinds.specs.declared.kinds.Passed.TheVariants as pass
use Rattle.fm_code_kinds.specs.declared.sorts.Cell.{Cell}
use Rattle.fm_code_kinds.specs.declared.sorts.Field.{Field}
use Rattle.fm_code_kinds.specs.declared.sorts.Shape.{Shape}
use Rattle.fm_code_kinds.specs.declared.sorts.Shapes.{Shapes}
use Rattle.fm_code_kinds.specs.declared.sorts.Sort.{Sort}
use Rattle.fm_code_kinds.specs.declared.sorts.Sort.TheVariants as sort
use Rattle.fm_code_kinds.specs.Shapes.{is_word, is_port, are_words, sort_at, fields_of}
use Rattle.fm_code_kinds.specs.Effects.{Over, Ill, Taken, only_results, results_in, operands_over, are_any_ports, is_port_sort, over_port, is_cut, is_size, may_cut, cut_over, sized, fits_room, is_sized, fits_sent, fit_fields, at_port, if_out, effect}
use Rattle.fm_gen_relation.specs.Sound.{IsSoundUnit}
use Rattle.fm_gen_operands.specs.Places.{var_code, arguments_code}
use Rattle.fm_gen.specs.Statements.{cut_one, cuts_code, send_code}
use Rattle.fm_object.specs.declared.image.FieldImage.{FieldImage}
use Rattle.fm_compile_law.specs.Along.{then_on, along}
use Rattle.fm_compile_law.specs.Counted.{AreCounted, VarFits}
use Rattle.fm_compile_law.specs.Passed.{IsArgument, AreArguments}
use Rattle.fm_compile_law.specs.Sized.{is_one_integer, holds_words, is_true_at, size_stands, sizes_stand}
use Rattle.fm_image.specs.Types.{number_in, types_of}
use Rattle.fm_compile_law.specs.Types.{sort_by, field_by, fields_by}
use Rattle.fm_compile_law.specs.Units.{shape_by, shapes_of}
use Rattle.fm_compile_law.specs.Walks.{Walks}
use Rattle.fm_compile_law.proofs.Straight.{some_list, then_more}
use Rattle.fm_compile_law.proofs.Expressions.{Kinds, cs}
use Rattle.fm_compile_law.proofs.Places.{there}
use Rattle.fm_compile_law.proofs.Arguments.{arguments_leave}
use Rattle.fm_compile_law.proofs.Control.{sorted}
use Rattle.fm_compile_law.proofs.Calling.{taken_over}
use Rattle.fm_compile_law.proofs.Asking.{at_port_is, sorted_leaves}
use Rattle.fm_compile_law.proofs.Receiving.{word_field, not_zero, holds_first, holds_second}
use Rattle.fm_compile_law.proofs.TypeNumbers.{IsOf, fields_there}
use Rattle.fm_compile_law.proofs.SizedTypes.{out_sizes}
use Rattle.fm_compile_law.proofs.Walks.{closes}

-- ---- lists

put_last : (done more : List Passed) (o x : Passed) → slice_set (done ++ o ∷ more) (length done) x ≡ done ++ x ∷ more
put_last [] more o x = refl
put_last (d ∷ done) more o x = ap (λ (l : List Passed). d ∷ l) (put_last done more o x)

got_last : (done more : List Passed) (o : Passed) → slice_get (done ++ o ∷ more) (length done) ≡ Some o
got_last [] more o = refl
got_last (d ∷ done) more o = got_last done more o

got_before : (done more : List Passed) (i : ℕ) → i < length done → slice_get (done ++ more) i ≡ slice_get done i
got_before [] more i less = absurd (omega (arith, less))
got_before (d ∷ done) more zero less = refl
got_before (d ∷ done) more (suc i) less = got_before done more i (omega (arith, less))

within : (es : List Bool) (i : ℕ) → is_true_at (slice_get es i) ≡ true → i < length es
within [] i e = absurd cc
within (x ∷ es) zero e = omega arith
within (x ∷ es) (suc i) e = omega (arith, within es i e)

-- one more at the end: it is an earlier one, or the last
either : (es : List Bool) (b : Bool) (i : ℕ) → is_true_at (slice_get (es ++ b ∷ []) i) ≡ true → (is_true_at (slice_get es i) ≡ true) ⊎ ((i ≡ length es) × (b ≡ true))
either [] b zero e = inr (refl, e)
either [] b (suc i) e = absurd cc
either (x ∷ es) b zero e = inl e
either (x ∷ es) b (suc i) e = go (either es b i e)
  where
    go : (is_true_at (slice_get es i) ≡ true) ⊎ ((i ≡ length es) × (b ≡ true)) → (is_true_at (slice_get es i) ≡ true) ⊎ ((suc i ≡ length (x ∷ es)) × (b ≡ true))
    go (inl h) = inl h
    go (inr h) = inr (ap suc h.0, h.1)

module _ (ts : List (List FieldImage)) (all : List Cell) where
  -- an item fits a field; any number of words where an earlier field sizes it
  abbrev pub FieldFits : FieldKind → (size : Option ℕ) → List Bound → Passed → Type 0
  FieldFits k None bounds o = fits_room all (sort_by ts k) (elements_in bounds) o ≡ true
  FieldFits k (Some place) bounds o = (m : ℕ) × (fits_room all (sort_by ts k) m o ≡ true)

  abbrev pub FieldsFit : PortFields → List Passed → Type 0
  FieldsFit NoFields [] = Unit {0}
  FieldsFit NoFields (o ∷ os) = ⊥
  FieldsFit (FieldThen k name bounds rest) [] = ⊥
  FieldsFit (FieldThen k name bounds rest) (o ∷ os) = FieldFits k (sizing_place bounds) bounds o × FieldsFit rest os

  one_fits : (s : Scope) (k : FieldKind) (size : Option ℕ) (bounds : List Bound) (t : Tree) (o : Passed) → ItemIsOf s k size bounds t → IsArgument ts all s t o → FieldFits k size bounds o
  one_fits s k None bounds t o is h = h k (elements_in bounds) is
  one_fits s k (Some place) bounds t o is h = (is.0, h k is.0 is.1)

  items_fit : (s : Scope) (t : PortFields) (l : Trees) (os : List Passed) → ItemsAreOf s t l → AreArguments ts all s l os → FieldsFit t os
  items_fit s NoFields NoTrees [] of are = tt
  items_fit s NoFields NoTrees (o ∷ os) of are = absurd are
  items_fit s NoFields (More e l) os of are = absurd of
  items_fit s (FieldThen k name bounds rest) NoTrees os of are = absurd of
  items_fit s (FieldThen k name bounds rest) (More e l) [] of are = absurd are
  items_fit s (FieldThen k name bounds rest) (More e l) (o ∷ os) of are = (one_fits s k (sizing_place bounds) bounds e o of.0 are.0, items_fit s rest l os of.1 are.1)

  -- ---- cuts

  abbrev cut_by : Option ℕ → Passed → Passed
  cut_by None o = o
  cut_by (Some place) o = pass.Sized place

  abbrev cut : PortFields → List Passed → List Passed
  cut NoFields os = os
  cut (FieldThen k name bounds rest) [] = []
  cut (FieldThen k name bounds rest) (o ∷ os) = cut_by (sizing_place bounds) o ∷ cut rest os

  -- those operands that are sizes are one word
  abbrev Sizes : List Bool → List Passed → Type 0
  Sizes es done = (i : ℕ) → is_true_at (slice_get es i) ≡ true → is_size (slice_get done i) ≡ true

  is_one : (o : Passed) → fits_room all sort.Integer 1 o ≡ true → is_size (Some o) ≡ true
  is_one pass.Value e = refl
  is_one (pass.Words s) e = holds_first (s.count == 1) (are_words all s) e
  is_one (pass.Ports s) e = absurd cc
  is_one (pass.WordIn s) e = refl
  is_one (pass.PortIn s) e = absurd cc
  is_one (pass.Sized k) e = absurd cc

  words_cut : (s : Sort) (m : ℕ) (o : Passed) → is_word s ≡ true → fits_room all s m o ≡ true → is_cut (Some o) ≡ true
  words_cut s m pass.Value holds e = refl
  words_cut s m (pass.Words t) holds e = refl
  words_cut s m (pass.Ports t) holds e = absurd (no s holds (holds_first (is_port s) (sized t.count m (sort_at all t) s) e))
    where
      no : (s : Sort) → is_word s ≡ true → is_port s ≡ true → ⊥
      no sort.Integer h e = absurd cc
      no sort.Logical h e = absurd cc
      no (sort.In m) h e = absurd cc
      no (sort.Out m) h e = absurd cc
  words_cut s m (pass.WordIn t) holds e = refl
  words_cut s m (pass.PortIn t) holds e = absurd (no s holds (holds_first (is_port s) (sized 1 m (sort_at all t) s) e))
    where
      no : (s : Sort) → is_word s ≡ true → is_port s ≡ true → ⊥
      no sort.Integer h e = absurd cc
      no sort.Logical h e = absurd cc
      no (sort.In m) h e = absurd cc
      no (sort.Out m) h e = absurd cc
  words_cut s m (pass.Sized k) holds e = absurd cc

  -- an integer alone isn't cut
  last_size : (k : FieldKind) (bounds : List Bound) (o : Passed) → is_one_integer k bounds ≡ true → FieldFits k (sizing_place bounds) bounds o → is_size (Some (cut_by (sizing_place bounds) o)) ≡ true
  last_size Integer [] o one fits = is_one o fits
  last_size Integer (b ∷ bs) o one fits = absurd cc
  last_size Logical bounds o one fits = absurd cc
  last_size (In t) bounds o one fits = absurd cc
  last_size (Out t) bounds o one fits = absurd cc

  more_sizes : (es : List Bool) (done : List Passed) → length es ≡ length done → Sizes es done → (k : FieldKind) (bounds : List Bound) (o : Passed) → FieldFits k (sizing_place bounds) bounds o
      → Sizes (es ++ is_one_integer k bounds ∷ []) (done ++ cut_by (sizing_place bounds) o ∷ [])
  more_sizes es done long sizes k bounds o fits i e = go (either es (is_one_integer k bounds) i e)
    where
      go : (is_true_at (slice_get es i) ≡ true) ⊎ ((i ≡ length es) × (is_one_integer k bounds ≡ true)) → is_size (slice_get (done ++ cut_by (sizing_place bounds) o ∷ []) i) ≡ true
      go (inl h) = ap is_size (got_before done (cut_by (sizing_place bounds) o ∷ []) i (omega (arith, within es i h, long))) ∙ sizes i h
      go (inr h) =
          let here : i ≡ length done = h.0 ∙ long in
          ap (λ (j : ℕ). is_size (slice_get (done ++ cut_by (sizing_place bounds) o ∷ []) j)) here ∙ ap is_size (got_last done [] (cut_by (sizing_place bounds) o)) ∙ last_size k bounds o h.1 fits

  module _ (n : ℕ) (x : Span) (ks : Kinds) (port : are_any_ports all x ≡ true) (only : only_results ks ≡ true) where
    abbrev under : Kinds
    under = Word (Some x) ∷ ks

    -- the operand behind these is cut
    one_cut : (done more : List Passed) (o : Passed) (es : List Bool) (k : FieldKind) (bounds : List Bound) (size : Option ℕ) → length es ≡ length done → Sizes es done → FieldFits k size bounds o → size_stands es k size ≡ true
        → along all n (cut_one (length done) size) (operands_over (reverse (done ++ o ∷ more)) under) ≡ Some (operands_over (reverse (done ++ cut_by size o ∷ more)) under)
    one_cut done more o es k bounds None long sizes fits stands = refl
    one_cut done more o es k bounds (Some place) long sizes fits stands =
        let os = done ++ o ∷ more in
        let item = length done in
        let holds : is_word (sort_by ts k) ≡ true = word_field ts k (holds_first (holds_words k) (is_true_at (slice_get es place)) stands) in
        let there = holds_second (holds_words k) (is_true_at (slice_get es place)) stands in
        let less : place < item = omega (arith, within es place there, long) in
        let first : nat_lt place item ≡ true = lt-ltb place item less in
        let second : is_size (slice_get os place) ≡ true = ap is_size (got_before done (o ∷ more) place less) ∙ sizes place there in
        let third : is_cut (slice_get os item) ≡ true = ap is_cut (got_last done more o) ∙ words_cut (sort_by ts k) fits.0 o holds fits.1 in
        let may : may_cut item place os ≡ true = λ i. first i && (second i && third i) in
        let over : over_port all under ≡ true = λ i. port i && only i in
        ap (λ o. then_on o (λ ms. some_list ms))
        (ap (cut_over all item place) (taken_over (reverse os) under refl)
        ∙ ap (λ (l : List Passed). cond (over_port all under && may_cut item place l) (some_list (operands_over (reverse (slice_set l item (pass.Sized place))) under)) None) (reverse-reverse os)
        ∙ (λ i. cond (over i && may i) (some_list (operands_over (reverse (slice_set os item (pass.Sized place))) under)) None)
        ∙ ap (λ (l : List Passed). some_list (operands_over (reverse l) under)) (put_last done more o (pass.Sized place)))

    cuts_leave : (t : PortFields) (done os : List Passed) (es : List Bool) (item : ℕ) → item ≡ length done → length es ≡ length done → Sizes es done → FieldsFit t os → sizes_stand es t ≡ true
        → along all n (cuts_code item t) (operands_over (reverse (done ++ os)) under) ≡ Some (operands_over (reverse (done ++ cut t os)) under)
    cuts_leave NoFields done os es item at long sizes fits stands = refl
    cuts_leave (FieldThen k name bounds rest) done [] es item at long sizes fits stands = absurd fits
    cuts_leave (FieldThen k name bounds rest) done (o ∷ os) es item at long sizes fits stands =
        let here = size_stands es k (sizing_place bounds) in
        let more = sizes_stand (es ++ is_one_integer k bounds ∷ []) rest in
        let c = cut_by (sizing_place bounds) o in
        let first = cut_one item (sizing_place bounds) in
        let one : along all n first (operands_over (reverse (done ++ o ∷ os)) under) ≡ Some (operands_over (reverse (done ++ c ∷ os)) under) =
        ap (λ (j : ℕ). along all n (cut_one j (sizing_place bounds)) (operands_over (reverse (done ++ o ∷ os)) under)) at ∙ one_cut done os o es k bounds (sizing_place bounds) long sizes fits.0 (holds_first here more stands) in
        let next : suc item ≡ length (done ++ c ∷ []) = omega (arith, at, length-append done (c ∷ [])) in
        let many : length (es ++ is_one_integer k bounds ∷ []) ≡ length (done ++ c ∷ []) = omega (arith, long, length-append done (c ∷ []), length-append es (is_one_integer k bounds ∷ [])) in
        let others = cuts_leave rest (done ++ c ∷ []) os (es ++ is_one_integer k bounds ∷ []) (suc item) next many (more_sizes es done long sizes k bounds o fits.0) fits.1 (holds_second here more stands) in
        then_more all n first (cuts_code (suc item) rest) (operands_over (reverse (done ++ o ∷ os)) under) (operands_over (reverse (done ++ c ∷ os)) under) (operands_over (reverse (done ++ c ∷ cut rest os)) under) one
        (ap (λ (l : List Passed). along all n (cuts_code (suc item) rest) (operands_over (reverse l) under)) (sym (append_assoc done (c ∷ []) os))
        ∙ others
        ∙ ap (λ (l : List Passed). some_list (operands_over (reverse l) under)) (append_assoc done (c ∷ []) (cut rest os)))

  -- when they are cut, they fit
  one_sent : (es : List Bool) (k : FieldKind) (size : Option ℕ) (bounds : List Bound) (o : Passed) → FieldFits k size bounds o → size_stands es k size ≡ true → fits_sent all (field_by ts k bounds size) (cut_by size o) ≡ true
  one_sent es k None bounds o fits stands = fits
  one_sent es k (Some place) bounds o fits stands =
      let holds : is_word (sort_by ts k) ≡ true = word_field ts k (holds_first (holds_words k) (is_true_at (slice_get es place)) stands) in
      (λ i. cond (not_zero place i) (fits_room all (sort_by ts k) 0 (pass.Sized place)) (is_word (sort_by ts k) && is_sized (suc place) (pass.Sized place)))
      ∙ (λ i. holds i && eq-eqb (suc place) (suc place) refl i)

  fit_sent : (t : PortFields) (os : List Passed) (es : List Bool) → FieldsFit t os → sizes_stand es t ≡ true → fit_fields (fits_sent all) (fields_by ts t) (cut t os) ≡ true
  fit_sent NoFields [] es fits stands = refl
  fit_sent NoFields (o ∷ os) es fits stands = absurd fits
  fit_sent (FieldThen k name bounds rest) [] es fits stands = absurd fits
  fit_sent (FieldThen k name bounds rest) (o ∷ os) es fits stands =
      let here = size_stands es k (sizing_place bounds) in
      let more = sizes_stand (es ++ is_one_integer k bounds ∷ []) rest in
      let one = one_sent es k (sizing_place bounds) bounds o fits.0 (holds_first here more stands) in
      (λ i. one i && fit_fields (fits_sent all) (fields_by ts rest) (cut rest os)) ∙ fit_sent rest os (es ++ is_one_integer k bounds ∷ []) fits.1 (holds_second here more stands)

module _ (p : Program) (number : ℕ) (u : ProgramUnit) (here : unit_at p number ≡ Some u) (sound : IsSoundUnit u) (n : ℕ) (Good : ℕ → Type 0) where
  abbrev ts : List (List FieldImage)
  ts = types_of p

  abbrev ss : Shapes
  ss = shapes_of p

  abbrev me : Shape
  me = shape_by ts u

  abbrev all : List Cell
  all = cs p u sound ts n

  abbrev now : Scope
  now = names_in p u

  sent : (next c : ℕ) (t : PortFields) (ops : List Passed) (x : Span) (ks : Kinds) → sort_at all x ≡ Some (sort.Out (number_in ts t)) → only_results ks ≡ true → fit_fields (fits_sent all) (fields_of ss (number_in ts t)) ops ≡ true
      → effect ss me n c (instr.Meet (meet.Send next)) (operands_over (reverse ops) (Word (Some x) ∷ ks)) ≡ Over (next ∷ []) 0
  sent next c t ops x ks of only fit =
      let under : Kinds = Word (Some x) ∷ ks in
      ap (λ (t : Taken). at_port all t.rest (λ s. if_out s (λ type. cond (fit_fields (fits_sent all) (fields_of ss type) (reverse t.operands)) (Over (next ∷ []) 0) Ill))) (taken_over (reverse ops) under refl)
      ∙ at_port_is all (λ s. if_out s (λ type. cond (fit_fields (fits_sent all) (fields_of ss type) (reverse (reverse ops))) (Over (next ∷ []) 0) Ill)) x (sort.Out (number_in ts t)) ks of only
      ∙ ap (λ (l : List Passed). cond (fit_fields (fits_sent all) (fields_of ss (number_in ts t)) l) (Over (next ∷ []) 0) Ill) (reverse-reverse ops)
      ∙ ap (λ b. cond b (Over (next ∷ []) 0) Ill) fit

  pub send_ends : (at : ℕ) (q : Var) (items : Trees) (t : PortFields) (next : ℕ) → sort_of u q.name ≡ Some (Out t) → ItemsAreOf now t items → VarFits u q → Good next → (ks : Kinds) → only_results ks ≡ true
      → refs_in_var now q + refs_in_all now items ≤ results_in ks → AreCounted p u (in_var q) → AreCounted p u (applied_each items) → Walks Good ss me n at (send_code p u q items next) ks []
  send_ends at q items t next is of fits good ks only done a b =
      let k = refs_in_var now q in
      let w = sorted u q.name (Out t) is in
      let place = there p u sound ts n q.name w.0 w.1 in
      let x = sorted_leaves p u sound ts n ss Good q (Out t) is fits 0 ks (omega (arith, done)) a in
      let under : Kinds = Word (Some x.among) ∷ ks in
      let y = arguments_leave p u sound ts n items k under (omega (arith, done)) b in
      let kind : IsOf (reading.kind_of w.0.1.kind) t = subst (λ (r : FieldKind). IsOf r t) (sym w.2) refl in
      let fields = fields_there p number u here w.0.0 w.0.1 place t kind in
      let sizes = out_sizes p number u w.0.0 w.0.1 t here place w.2 in
      let matched = items_fit ts all now t items y.operands of y.are in
      let port : are_any_ports all x.among ≡ true = ap is_port_sort x.of in
      let cuts = cuts_leave ts all n x.among ks port only t [] y.operands [] 0 refl refl (λ i e. absurd cc) matched sizes in
      let ops = cut ts all t y.operands in
      let ms = operands_over (reverse ops) under in
      let fit : fit_fields (fits_sent all) (fields_of ss (number_in ts t)) ops ≡ true = ap (λ (fs : List Field). fit_fields (fits_sent all) fs ops) fields ∙ fit_sent ts all t y.operands [] matched sizes in
      let type : t ≡ fields_at u q = sym (ap fields_in w.1 ∙ ap actions.fields_by w.2) in
      let one = var_code p u q 0 in
      let two = arguments_code p u items k in
      let three = cuts_code 0 t in
      let last = instr.Meet (meet.Send next) in
      subst (λ (code : List Instr). Walks Good ss me n at code ks [])
      (append_assoc one (two ++ three) (last ∷ []) ∙ ap (λ (code : List Instr). one ++ code) (append_assoc two three (last ∷ [])) ∙ ap (λ (t : PortFields). one ++ (two ++ (cuts_code 0 t ++ last ∷ []))) type)
      (closes Good ss me n at (one ++ (two ++ three)) last ks ms (next ∷ [])
      (then_more all n one (two ++ three) ks under ms x.leaves (then_more all n two three under (operands_over (reverse y.operands) under) ms y.leaves cuts))
      (λ d. sent next d t ops x.among ks x.of only fit) (good, tt) (record { join = refl; begin = refl }))
