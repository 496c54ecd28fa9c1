-- The law of expressions: their code leaves the word of their value on the stack, or fails as they do.
use Rattle.std.proofs.Common.{◌≡◌, ℕ, zero, suc, ◌+◌, ◌<◌, ℤ, pos, Bool, true, false, cond, Option, Some, None, List, [], ◌∷◌, ◌++◌, length, take, drop, reverse, get_or, ◌*◌, ◌≤◌, length-append, refl, sym, ap, subst, ◌∙◌, arith, append_assoc, Result, Ok, Err}
use Rattle.std.specs.Prelude.{slice_get, unwrap_or, nat_lt, nat_le, not}
use Rattle.std.specs.Option.{option_map}
use Rattle.std.specs.FinMap.{get}
use Rattle.std.proofs.lemmas.Bool.Decides.{nat_tests}
use Rattle.std.proofs.lemmas.List.{reverse-reverse, length-reverse}
use Rattle.std.proofs.Math.Seq.{take-append_seam, drop-append_seam}
use Rattle.fm_base.specs.declared.fault.Fault.{Fault}
use Rattle.fm_base.specs.declared.token.Op.{Op}
use Rattle.fm_base.specs.declared.token.Op.TheVariants as op
use Rattle.fm_net.specs.Typed.{AllIn}
use Rattle.fm_values.specs.declared.intrinsic.Intrinsic.{Intrinsic}
use Rattle.fm_values.specs.declared.value.Value.{Value}
use Rattle.fm_values.specs.declared.value.Value.TheVariants as value
use Rattle.fm_values.specs.Values.{in_range, opposite, truth_word, word_of}
use Rattle.fm_values.specs.Operations.{number, applied, with_sign, word}
use Rattle.fm_values.specs.Intrinsics.{intrinsic_named, intrinsic_value}
use Rattle.fm_values.specs.Places.{size, element_place}
use Rattle.fm_tree.specs.Tree.{Tree, Trees, Number, Truth, Named, Ref, Paren, Signed, Not, Binary, NoTrees, More}
use Rattle.fm_tree.specs.PortReading as reading
use Rattle.fm_tree.specs.declared.port_type.Kind.{Kind}
use Rattle.fm_tree.specs.declared.port_type.Kind.TheVariants as kind
use Rattle.fm_symbols.specs.Context.{symbols_of, symbol_place}
use Rattle.fm_symbols.specs.Headings.{is_function}
use Rattle.fm_symbols.specs.declared.names.Variable.{Variable}
use Rattle.fm_rules.specs.declared.program.Program.{Program}
use Rattle.fm_mean.specs.Operands.{◌>>=◌}
use Rattle.fm_mean.specs.Names.{ProgramUnit, unit_at, variable_at, variable_of, result_variable, unit_named, kind_of}
use Rattle.fm_mean.specs.Places.{first_word, words_in}
use Rattle.fm_mean.specs.Evaluate.{Scope, Reference, Element, Call, Built, Unknown, function_by, intrinsic_or, array_or, is_array, reference_of, counts_one, refs_in, refs_in_all, value_by, named_by, result_by, result_of, ref_value, value_of, numbers_of}
use Rattle.fm_mean.specs.Fits.{ItemFits}
use Rattle.fm_mean.specs.ValueTypes.{AreSized}
use Rattle.fm_mean.proofs.Sizes.{in_all, variables_sized, variables_small}
use Rattle.fm_code.specs.declared.body.Frame.{Frame}
use Rattle.fm_code.specs.declared.instr.Instr.{Instr}
use Rattle.fm_code.specs.declared.instr.Instr.TheVariants as instr
use Rattle.fm_code.specs.declared.instr.Eval.TheVariants as eval
use Rattle.fm_code.specs.declared.scratch.Scratch.{Scratch}
use Rattle.fm_code.specs.Acts.{StatementEnd, Act, On, Over, found, gives, with_words, then_work, work, Fails}
use Rattle.fm_code.specs.Acts as acts
use Rattle.fm_gen_relation.specs.Standing.{Slots, item_by, scope_in, IsFrame, IsResultOf, IsDone, AreDone, AreAllDone}
use Rattle.fm_gen_operands.specs.Code.{first_load, variable_code, named_code, port_code, element_code, place_code, sign_code, reference_code, trees_count, expression_code, expressions_code}
use Rattle.fm_mean.specs.Referring.{names_in}
use Rattle.fm_gen_operands.specs.Keeps.{then, KeepsValue, KeepsNumbers}
use Rattle.fm_gen_relation.proofs.FrameWords.{bit_kept, word_kept, truth_kept, applied_kept, item_read, item_fits, first_of, element_there, element_read, number_in_range, bit_at}
use Rattle.fm_gen_operands.proofs.DimensionLaws.{reverse-cons, array_some, within_place, place_follows}

-- One operand after another.

pub then_chain : {A B : Type 0} (r : Result A Fault) (g : A → Result B Fault) (u : A → StatementEnd) (h : B → StatementEnd) → ((x : A) → u x ≡ then (g x) h) → then r u ≡ then (r >>= g) h
then_chain (Ok x) g u h e = e x
then_chain (Err fault) g u h e = refl

pub then_with : {A B : Type 0} (r : Result A Fault) (g : A → Result B Fault) (u : A → StatementEnd) (h : B → StatementEnd) → ((x : A) → r ≡ Ok x → u x ≡ then (g x) h) → then r u ≡ then (r >>= g) h
then_with (Ok x) g u h e = e x refl
then_with (Err fault) g u h e = refl

gives_number : (r : Result ℤ Fault) (s : List ℤ) (b : Scratch) (k : List ℤ → Scratch → StatementEnd) → then_work (gives r (λ v. On (v ∷ s) b)) k ≡ then (r >>= λ y. Ok (value.Number y)) (λ v. k (word_of v ∷ s) b)
gives_number (Ok v) s b k = refl
gives_number (Err fault) s b k = refl

gives_word : (r : Result Value Fault) (s : List ℤ) (b : Scratch) (k : List ℤ → Scratch → StatementEnd) → then_work (gives (word r) (λ v. On (v ∷ s) b)) k ≡ then r (λ v. k (word_of v ∷ s) b)
gives_word (Ok v) s b k = refl
gives_word (Err fault) s b k = refl

-- Names.

-- what is said of a variable holds of the one that a name means
abbrev pub IsAt : List Variable → Option (ℕ × Variable) → Type 0
IsAt vs None = Unit {0}
IsAt vs (Some v) = slice_get vs v.0 ≡ Some v.1

pub variable_is_at : (vs : List Variable) (o : Option ℕ) → IsAt vs (variable_at vs o)
variable_is_at vs None = tt
variable_is_at vs (Some i) = go (slice_get vs i) refl
  where
    go : (o : Option Variable) → slice_get vs i ≡ o → IsAt vs (option_map {U = ℕ × Variable} (λ v. (i, v)) o)
    go None e = tt
    go (Some v) e = e

abbrev pub IsReferenceAt : List Variable → Reference → Type 0
IsReferenceAt vs (Element i v) = (slice_get vs i ≡ Some v) × (is_array v.bounds ≡ true)
IsReferenceAt vs (Call n u) = Unit {0}
IsReferenceAt vs (Built f) = Unit {0}
IsReferenceAt vs Unknown = Unit {0}

module _ (p : Program) (u : ProgramUnit) where
  abbrev variables : List Variable
  variables = u.names.variables

  function_at : (o : Option (ℕ × ProgramUnit)) → IsReferenceAt variables (function_by o)
  function_at None = tt
  function_at (Some v) = go (is_function (kind_of v.1))
    where
      go : (b : Bool) → IsReferenceAt variables (cond b (Call v.0 v.1) Unknown)
      go true = tt
      go false = tt

  intrinsic_at : (o : Option Intrinsic) (r : Reference) → IsReferenceAt variables r → IsReferenceAt variables (intrinsic_or o r)
  intrinsic_at None r h = h
  intrinsic_at (Some f) r h = tt

  array_at : (o : Option (ℕ × Variable)) (r : Reference) → IsAt variables o → IsReferenceAt variables r → IsReferenceAt variables (array_or o r)
  array_at None r at h = h
  array_at (Some v) r at h = go (is_array v.1.bounds) refl
    where
      go : (b : Bool) → is_array v.1.bounds ≡ b → IsReferenceAt variables (cond b (Element v.0 v.1) r)
      go true e = (at, e)
      go false e = h

  pub named_at : (name : List ℕ) → IsAt variables (variable_of u name)
  named_at name = variable_is_at variables (symbol_place (get (symbols_of u.names) name))

  pub reference_at : (name : List ℕ) → IsReferenceAt variables (reference_of (names_in p u) name)
  reference_at name = array_at (variable_of u name) (intrinsic_or (intrinsic_named name) (function_by (unit_named p name))) (named_at name)
      (intrinsic_at (intrinsic_named name) (function_by (unit_named p name)) (function_at (unit_named p name)))

  -- references are counted alike before a frame is there
  mutual
    pub refs_same : (slots : Slots) (m : Frame) (t : Tree) → refs_in (scope_in p u slots m) t ≡ refs_in (names_in p u) t
    refs_same slots m (Number k) = refl
    refs_same slots m (Truth b) = refl
    refs_same slots m (Named name) = refl
    refs_same slots m (Ref name args) = ap (λ n. n + counts_one (reference_of (names_in p u) name)) (all_refs_same slots m args)
    refs_same slots m (Paren e) = refs_same slots m e
    refs_same slots m (Signed o e) = refs_same slots m e
    refs_same slots m (Not e) = refs_same slots m e
    refs_same slots m (Binary o a b) = λ i. refs_same slots m a i + refs_same slots m b i

    pub all_refs_same : (slots : Slots) (m : Frame) (ts : Trees) → refs_in_all (scope_in p u slots m) ts ≡ refs_in_all (names_in p u) ts
    all_refs_same slots m NoTrees = refl
    all_refs_same slots m (More t ts) = λ i. refs_same slots m t i + all_refs_same slots m ts i

abbrev listed : List ℤ → Result (List ℤ) Fault
listed xs = Ok xs

same_list : (xs ys : List ℤ) → listed xs ≡ listed ys → xs ≡ ys
same_list xs ys e = cc

one_longer : (c : ℕ) (r : Result Value Fault) (q : Result (List ℤ) Fault) (xs : List ℤ) → ((ys : List ℤ) → q ≡ Ok ys → c ≡ length ys) → (r >>= λ x. q >>= λ ys. Ok (word_of x ∷ ys)) ≡ Ok xs → suc c ≡ length xs
one_longer c (Err fault) q xs h e = absurd (cc)
one_longer c (Ok x) (Err fault) xs h e = absurd (cc)
one_longer c (Ok x) (Ok ys) xs h e = ap suc (h ys refl) ∙ ap length (same_list (word_of x ∷ ys) xs e)

pub numbers_count : (s : Scope) (ts : Trees) (n : ℕ) (xs : List ℤ) → numbers_of s ts n ≡ Ok xs → trees_count ts ≡ length xs
numbers_count s NoTrees n [] e = refl
numbers_count s NoTrees n (x ∷ xs) e = absurd (cc)
numbers_count s (More t ts) n xs e = one_longer (trees_count ts) (value_of s t n) (numbers_of s ts (n + refs_in s t)) xs (λ ys f. numbers_count s ts (n + refs_in s t) ys f) e

module _ (p : Program) (u : ProgramUnit) (sized : AreSized u.names.variables) (small : AllIn (λ v. size v.bounds ≤ 65536) u.names.variables)
    (slots : Slots) (m : Frame) (frame : IsFrame u slots m) where
  abbrev scope : Scope
  scope = scope_in p u slots m

  abbrev part : (first words : ℕ) → List ℤ
  part f n = take n (drop f m.words)

  -- the first word of a variable
  loads : (f n : ℕ) → length (part f n) ≡ n → (is : List Instr) (s : List ℤ) (b : Scratch) → work (first_load f n ∷ is) s b m ≡ work is (first_word (take 1 (drop 0 (part f n))) ∷ s) b m
  loads f n full is s b = go (nat_lt 0 n) refl
    where
      go : (c : Bool) → nat_lt 0 n ≡ c → work (cond c (instr.Eval (eval.Load f)) (instr.Eval (eval.Push (pos 0))) ∷ is) s b m ≡ work is (first_word (take 1 (drop 0 (part f n))) ∷ s) b m
      go true e =
          let at : f + 0 ≡ f = omega arith in
          let less : 0 < n = grind (arith, nat_tests) in
          ap (λ o. then_work (found o (λ v. On (v ∷ s) b)) (λ s b. work is s b m)) (subst (λ k. slice_get m.words k ≡ Some (first_word (take 1 (drop 0 (part f n))))) at (element_read m.words f n 0 full less))
      go false e =
          let none : n ≡ 0 = grind (arith, nat_tests) in
          ap (λ k. work is (first_word (take 1 (drop 0 (take k (drop f m.words)))) ∷ s) b m) (sym none)

  variable_follows : (k : Kind) (f n : ℕ) → ItemFits frame.types (reading.kind_of k) n (item_by slots k (part f n)) → (is : List Instr) (s : List ℤ) (b : Scratch)
      → work (variable_code k f n ∷ is) s b m ≡ work is (word_of (value_by k (first_word (take 1 (drop 0 (words_in (item_by slots k (part f n))))))) ∷ s) b m
  variable_follows kind.Integer f n h is s b = loads f n h is s b
  variable_follows kind.Logical f n h is s b = loads f n h.0 is s b ∙ ap (λ w. work is (w ∷ s) b m) (sym (bit_kept _ (bit_at (part f n) 0 h.1)))
  variable_follows (kind.In t) f n h is s b = refl
  variable_follows (kind.Out t) f n h is s b = refl

  named_follows : (name : List ℕ) (o : Option (ℕ × Variable)) → IsAt u.names.variables o → (is : List Instr) (s : List ℤ) (b : Scratch)
      → work (named_code u name o ∷ is) s b m ≡ work is (word_of (named_by scope name o) ∷ s) b m
  named_follows name None at is s b = refl
  named_follows name (Some v) at is s b =
      variable_follows v.1.kind v.1.first v.1.words (item_fits frame.types slots m.words u.names.variables v.0 v.1 frame.fits at) is s b
      ∙ sym (ap (λ x. work is (word_of (value_by v.1.kind (first_word (take 1 (drop 0 (words_in x))))) ∷ s) b m) (item_read slots m.words u.names.variables v.0 v.1 at))

  -- an element by its place
  reads : (f n k : ℕ) → length (part f n) ≡ n → k < n → (is : List Instr) (s : List ℤ) (b : Scratch)
      → work (instr.Eval (eval.Element f) ∷ is) (pos k ∷ s) b m ≡ work is (first_word (take 1 (drop k (part f n))) ∷ s) b m
  reads f n k full less is s b =
      let there : f + k < length m.words = element_there m.words f n k full less in
      ap (λ r. then_work (gives r (λ x. found (acts.word_of m x) (λ v. On (v ∷ s) b))) (λ s b. work is s b m)) (number_in_range (f + k) (omega (arith, there, frame.numbered)))
      ∙ ap (λ o. then_work (found o (λ v. On (v ∷ s) b)) (λ s b. work is s b m)) (element_read m.words f n k full less)

  port_reads : (k : ℕ) (is : List Instr) (s : List ℤ) (b : Scratch)
      → work (port_code ++ is) (pos k ∷ s) b m ≡ work is (first_word (take 1 (drop k [])) ∷ s) b m
  port_reads k is s b =
      let none : k * 0 ≡ 0 = omega arith in
      ap (λ n. then_work (gives (word (number (in_range (pos n)))) (λ v. On (v ∷ s) b)) (λ s b. work is s b m)) none
      ∙ ap (λ w. work is (w ∷ s) b m) (sym (first_of [] k ∙ nowhere k))
    where
      nowhere : (k : ℕ) → get_or [] k (pos 0) ≡ pos 0
      nowhere zero = refl
      nowhere (suc k) = refl

  element_follows : (q : Kind) (f n k : ℕ) → ItemFits frame.types (reading.kind_of q) n (item_by slots q (part f n)) → k < n → (is : List Instr) (s : List ℤ) (b : Scratch)
      → work (element_code q f ++ is) (pos k ∷ s) b m ≡ work is (word_of (value_by q (first_word (take 1 (drop k (words_in (item_by slots q (part f n))))))) ∷ s) b m
  element_follows kind.Integer f n k h less is s b = reads f n k h less is s b
  element_follows kind.Logical f n k h less is s b = reads f n k h.0 less is s b ∙ ap (λ w. work is (w ∷ s) b m) (sym (bit_kept _ (bit_at (part f n) k h.1)))
  element_follows (kind.In t) f n k h less is s b = port_reads k is s b
  element_follows (kind.Out t) f n k h less is s b = port_reads k is s b

  result_follows : (callee : ProgramUnit) (k : ℕ) (w : ℤ) → slice_get m.results k ≡ Some w → IsResultOf (result_variable callee) w → (is : List Instr) (s : List ℤ) (b : Scratch)
      → work (instr.Eval (eval.Result k) ∷ is) s b m ≡ work is (word_of (result_of scope callee k) ∷ s) b m
  result_follows callee k w there fit is s b =
      ap (λ o. then_work (found o (λ v. On (v ∷ s) b)) (λ s b. work is s b m)) there
      ∙ ap (λ x. work is (x ∷ s) b m) (sym (ap (λ o. word_of (result_by (result_variable callee) (unwrap_or o (pos 0)))) there ∙ kept (result_variable callee) fit))
    where
      kept : (o : Option (ℕ × Variable)) → IsResultOf o w → word_of (result_by o w) ≡ w
      kept None h = refl
      kept (Some v) h = word_kept v.1.kind w h

  -- an intrinsic function of words, the first of which was pushed first
  intrinsic_follows : (f : Intrinsic) (n : ℕ) (xs : List ℤ) → n ≡ length xs → (is : List Instr) (s : List ℤ) (b : Scratch)
      → work (instr.Eval (eval.Intrinsic f n) ∷ is) (reverse xs ++ s) b m ≡ then (intrinsic_value f xs >>= λ y. Ok (value.Number y)) (λ v. work is (word_of v ∷ s) b m)
  intrinsic_follows f n xs e is s b =
      let rs = reverse xs in
      let count : n ≡ length rs = e ∙ sym (length-reverse xs) in
      let bound : length rs ≤ length (rs ++ s) = omega (arith, length-append rs s) in
      let enough : nat_le (length rs) (length (rs ++ s)) ≡ true = grind (arith, nat_tests) in
      ap (λ k. then_work (with_words k (rs ++ s) (λ xs s. gives (intrinsic_value f xs) (λ v. On (v ∷ s) b))) (λ s b. work is s b m)) count
      ∙ ap (λ c. then_work (cond c (gives (intrinsic_value f (reverse (take (length rs) (rs ++ s)))) (λ v. On (v ∷ drop (length rs) (rs ++ s)) b)) (Over acts.Stuck)) (λ s b. work is s b m)) enough
      ∙ (λ i. then_work (gives (intrinsic_value f (reverse (take-append_seam rs s i))) (λ v. On (v ∷ drop-append_seam rs s i) b)) (λ s b. work is s b m))
      ∙ ap (λ l. then_work (gives (intrinsic_value f l) (λ v. On (v ∷ s) b)) (λ s b. work is s b m)) (reverse-reverse xs)
      ∙ gives_number (intrinsic_value f xs) s b (λ s b. work is s b m)

  sign_follows : (o : Op) (w : ℤ) (is : List Instr) (s : List ℤ) (b : Scratch)
      → work (sign_code o ++ is) (w ∷ s) b m ≡ then (with_sign o w >>= λ y. Ok (value.Number y)) (λ v. work is (word_of v ∷ s) b m)
  sign_follows op.Sub w is s b = gives_number (opposite w) s b (λ s b. work is s b m)
  sign_follows o w is s b = refl

  -- a name with arguments whose code does as it should
  reference_follows : (r : Reference) → IsReferenceAt u.names.variables r → (args : Trees) (n k : ℕ) → IsDone scope r k
      → ((is : List Instr) (s : List ℤ) (b : Scratch) → work (expressions_code p u args n ++ is) s b m ≡ then (numbers_of scope args n) (λ xs. work is (reverse xs ++ s) b m))
      → (is : List Instr) (s : List ℤ) (b : Scratch)
      → work (reference_code r (expressions_code p u args n) (trees_count args) k ++ is) s b m ≡ then (ref_value scope r (numbers_of scope args n) k) (λ v. work is (word_of v ∷ s) b m)
  reference_follows (Element i v) at args n k done all is s b =
      let some = in_all (λ v. v.words ≡ size v.bounds) u.names.variables i v sized at.0 in
      let few = in_all (λ v. size v.bounds ≤ 65536) u.names.variables i v small at.0 in
      ap (λ c. work c s b m) (append_assoc (expressions_code p u args n) (place_code v (trees_count args) (element_code v.kind v.first)) is)
      ∙ all (place_code v (trees_count args) (element_code v.kind v.first) ++ is) s b
      ∙ then_with (numbers_of scope args n) _ _ _ (λ xs e.
      place_follows m b v (trees_count args) xs (λ none z. array_some v.bounds at.1 none) some few (numbers_count scope args n xs e) (element_code v.kind v.first) is s
      ∙ then_with (element_place v.bounds xs) _ _ _ (λ j f.
      element_follows v.kind v.first v.words j (item_fits frame.types slots m.words u.names.variables i v frame.fits at.0) (omega (arith, within_place v.bounds xs j f, some)) is s b
      ∙ sym (ap (λ x. work is (word_of (value_by v.kind (first_word (take 1 (drop j (words_in x))))) ∷ s) b m) (item_read slots m.words u.names.variables i v at.0))))
  reference_follows (Call j callee) at args n k done all is s b = result_follows callee k done.0 done.1 done.2 is s b
  reference_follows (Built f) at args n k done all is s b =
      ap (λ c. work c s b m) (append_assoc (expressions_code p u args n) (instr.Eval (eval.Intrinsic f (trees_count args)) ∷ []) is)
      ∙ all (instr.Eval (eval.Intrinsic f (trees_count args)) ∷ is) s b
      ∙ then_with (numbers_of scope args n) _ _ _ (λ xs e. intrinsic_follows f (trees_count args) xs (numbers_count scope args n xs e) is s b)
  reference_follows Unknown at args n k done all is s b = refl

  mutual
    follows : (t : Tree) (n : ℕ) → AreDone scope t n → (is : List Instr) (s : List ℤ) (b : Scratch)
        → work (expression_code p u t n ++ is) s b m ≡ then (value_of scope t n) (λ v. work is (word_of v ∷ s) b m)
    follows (Number k) n h is s b = refl
    follows (Truth t) n h is s b = refl
    follows (Named name) n h is s b = named_follows name (variable_of u name) (named_at p u name) is s b
    follows (Ref name args) n h is s b =
        ap (λ k. work (reference_code (reference_of (names_in p u) name) (expressions_code p u args n) (trees_count args) (n + k) ++ is) s b m) (sym (all_refs_same p u slots m args))
        ∙ reference_follows (reference_of (names_in p u) name) (reference_at p u name) args n (n + refs_in_all scope args) h.1 (λ is s b. all_follow args n h.0 is s b) is s b
    follows (Paren e) n h is s b = follows e n h is s b
    follows (Signed o e) n h is s b =
        ap (λ c. work c s b m) (append_assoc (expression_code p u e n) (sign_code o) is)
        ∙ follows e n h (sign_code o ++ is) s b
        ∙ then_chain (value_of scope e n) _ _ _ (λ x. sign_follows o (word_of x) is s b)
    follows (Not e) n h is s b =
        ap (λ c. work c s b m) (append_assoc (expression_code p u e n) (instr.Eval eval.Not ∷ []) is)
        ∙ follows e n h (instr.Eval eval.Not ∷ is) s b
        ∙ then_chain (value_of scope e n) _ _ _ (λ x. ap (λ t. work is (truth_word (not t) ∷ s) b m) (truth_kept x))
    follows (Binary o l r) n h is s b =
        ap (λ c. work c s b m) (append_assoc (expression_code p u l n) (expression_code p u r (n + refs_in (names_in p u) l) ++ instr.Eval (eval.Apply o) ∷ []) is)
        ∙ follows l n h.0 ((expression_code p u r (n + refs_in (names_in p u) l) ++ instr.Eval (eval.Apply o) ∷ []) ++ is) s b
        ∙ then_chain (value_of scope l n) _ _ _ (λ x.
        ap (λ c. work c (word_of x ∷ s) b m) (append_assoc (expression_code p u r (n + refs_in (names_in p u) l)) (instr.Eval (eval.Apply o) ∷ []) is)
        ∙ ap (λ k. work (expression_code p u r (n + k) ++ (instr.Eval (eval.Apply o) ∷ is)) (word_of x ∷ s) b m) (sym (refs_same p u slots m l))
        ∙ follows r (n + refs_in scope l) h.1 (instr.Eval (eval.Apply o) ∷ is) (word_of x ∷ s) b
        ∙ then_chain (value_of scope r (n + refs_in scope l)) _ _ _ (λ y.
        ap (λ q. then_work (gives q (λ v. On (v ∷ s) b)) (λ s b. work is s b m)) (applied_kept o x y) ∙ gives_word (applied o x y) s b (λ s b. work is s b m)))

    all_follow : (ts : Trees) (n : ℕ) → AreAllDone scope ts n → (is : List Instr) (s : List ℤ) (b : Scratch)
        → work (expressions_code p u ts n ++ is) s b m ≡ then (numbers_of scope ts n) (λ xs. work is (reverse xs ++ s) b m)
    all_follow NoTrees n h is s b = refl
    all_follow (More t ts) n h is s b =
        ap (λ c. work c s b m) (append_assoc (expression_code p u t n) (expressions_code p u ts (n + refs_in (names_in p u) t)) is)
        ∙ follows t n h.0 (expressions_code p u ts (n + refs_in (names_in p u) t) ++ is) s b
        ∙ then_chain (value_of scope t n) _ _ _ (λ x.
        ap (λ k. work (expressions_code p u ts (n + k) ++ is) (word_of x ∷ s) b m) (sym (refs_same p u slots m t))
        ∙ all_follow ts (n + refs_in scope t) h.1 is (word_of x ∷ s) b
        ∙ then_chain (numbers_of scope ts (n + refs_in scope t)) _ _ _ (λ xs. ap (λ l. work is l b m) (sym (reverse-cons (word_of x) xs s))))

-- in each frame of a unit of a program
pub keeps : (p : Program) (number : ℕ) (u : ProgramUnit) (t : Tree) (n : ℕ) → unit_at p number ≡ Some u → KeepsValue p u t n (expression_code p u t n)
keeps p number u t n here slots m frame done is s b = follows p u (variables_sized p number u here) (variables_small p number u here) slots m frame t n done is s b

pub keeps_all : (p : Program) (number : ℕ) (u : ProgramUnit) (ts : Trees) (n : ℕ) → unit_at p number ≡ Some u → KeepsNumbers p u ts n (expressions_code p u ts n)
keeps_all p number u ts n here slots m frame done is s b = all_follow p u (variables_sized p number u here) (variables_small p number u here) slots m frame ts n done is s b
