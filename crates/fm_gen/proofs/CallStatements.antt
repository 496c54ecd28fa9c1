-- Calls, references of functions, starts and returns do what the meaning does.
use Rattle.std.proofs.Common.{◌≡◌, ℕ, zero, suc, ◌+◌, ◌-◌, ℤ, Bool, true, false, cond, Option, Some, None, List, [], ◌∷◌, ◌++◌, length, map, take, drop, refl, sym, ap, subst, ◌∙◌, Result, Ok, Err}
use Rattle.std.specs.Prelude.{slice_get, filter}
use Rattle.fm_base.specs.declared.fault.Fault.{Fault}
use Rattle.fm_map.specs.Placement.{Seat, located, parted, fitted}
use Rattle.fm_net.specs.Typed.{AllIn}
use Rattle.fm_tree.specs.Tree.{Tree, Trees, Number, Truth, Named, Ref, Paren, Signed, Not, Binary, trees_from}
use Rattle.fm_tree.specs.PortReading as reading
use Rattle.fm_tree.specs.References.{applied_in}
use Rattle.fm_tree.specs.declared.form.UnitKind.{UnitKind}
use Rattle.fm_tree.specs.declared.form.UnitKind.TheVariants as unit_kind
use Rattle.fm_tree.specs.declared.port_type.Kind.{Kind}
use Rattle.fm_tree.specs.declared.port_type.Kind.TheVariants as kind
use Rattle.fm_tree.specs.declared.statement.CallPart.{CallPart}
use Rattle.fm_tree.specs.declared.statement.Where.{Where}
use Rattle.fm_tree.specs.declared.statement.Where.TheVariants as put_at
use Rattle.fm_symbols.specs.Headings.{heading_name}
use Rattle.fm_symbols.specs.declared.names.Variable.{Variable}
use Rattle.fm_rules.specs.declared.program.Program.{Program}
use Rattle.fm_mean.specs.Operands.{◌>>=◌}
use Rattle.fm_mean.specs.Names.{ProgramUnit, Point, unit_at, unit_named, kind_of, line_of, variable_if, result_variable}
use Rattle.fm_mean.specs.Places.{first_word, words_in, word_at}
use Rattle.fm_mean.specs.Process as mean
use Rattle.fm_mean.specs.Process.{Execution}
use Rattle.fm_mean.specs.Evaluate.{Scope, Reference, Element, Call, Built, Unknown, whole, reference_of, refs_in, refs_in_all, number_of, numbers_of, actuals_of}
use Rattle.fm_mean.specs.Fits.{IsBit, ItemFits}
use Rattle.fm_mean.specs.TypedTrees.{IsIn, ArgumentsHaveTypes}
use Rattle.fm_mean.specs.ValueTypes.{AreSized, ArgumentsAreOf}
use Rattle.fm_mean.specs.Actions.{scope_of, scalar_place, calls, refers, reference_step, returns, results_in, seat_at, starts_one, process_calls, arguments_in, where_in, next_reference}
use Rattle.fm_mean.specs.declared.place.Actual.{Actual}
use Rattle.fm_mean.proofs.Determined.{reference_is}
use Rattle.fm_mean.proofs.Sizes.{variables_sized}
use Rattle.fm_mean.proofs.Sorts as sorts
use Rattle.fm_code.specs.declared.body.Frame.{Frame}
use Rattle.fm_code.specs.declared.instr.Instr.TheVariants as instr
use Rattle.fm_code.specs.declared.instr.End.TheVariants as end
use Rattle.fm_code.specs.declared.scratch.Place.TheVariants as place
use Rattle.fm_code.specs.Acts.{Over, ReturnsValue, found, then_work, work, nothing}
use Rattle.fm_mean.specs.Referring.{names_in, calls_one, is_call}
use Rattle.fm_gen_relation.specs.Sound.{IsFull, CallIsFull, HasResult, IsSoundEntry}
use Rattle.fm_gen_relation.proofs.SomeWords.{variable_some}
use Rattle.fm_gen_relation.specs.Calls.{WhereDone}
use Rattle.fm_gen_relation.specs.Standing.{Slots, item_by, scope_in, IsFrame, IsWordOf, IsResultOf, AreAllDone}
use Rattle.fm_gen_relation.specs.Operands.{operand_of, IsActual}
use Rattle.fm_gen_relation.specs.Frames.{Stands, AreResults}
use Rattle.fm_gen_relation.proofs.FrameWords.{item_read, item_fits}
use Rattle.fm_gen_relation.proofs.Actuals.{actuals_whole, arguments_taken}
use Rattle.fm_gen_relation.proofs.Done.{next_call, reference_done}
use Rattle.fm_gen_operands.specs.Places.{arguments_code, seat_code}
use Rattle.fm_gen_operands.specs.Keeps.{with_operands, with_place, KeepsActuals, seat_place}
use Rattle.fm_gen_operands.proofs.Follows.{IsAt, named_at, all_refs_same}
use Rattle.fm_gen_operands.proofs.SeatLaws.{keeps_seat}
use Rattle.fm_gen.specs.Statements.{Addresses, variable_meant, first_in, call_by, return_code, start_by, reference_operands, refer, reference_end}
use Rattle.fm_gen.specs.Steps.{Site, Passes, seat_by, Agree}
use Rattle.fm_gen.proofs.StoreLaws.{agree_then}
use Rattle.fm_gen.proofs.LoopLaws.{first_there}

-- What is among those that pass a test passes it.
kept_one : (test : Tree → Bool) (x : Tree) (xs : List Tree) (b : Bool) → test x ≡ b → (t : Tree) → ((n : ℕ) → slice_get xs n ≡ Some t → test t ≡ true) → (n : ℕ) → slice_get (cond b (x ∷ xs) xs) n ≡ Some t → test t ≡ true
kept_one test x xs true is t more zero e = subst (λ t. test t ≡ true) (the_tree x t e) is
  where
    the_tree : (a b : Tree) → Some a ≡ Some b → a ≡ b
    the_tree a b e = cc
kept_one test x xs true is t more (suc n) e = more n e
kept_one test x xs false is t more n e = more n e

filtered : (test : Tree → Bool) (ts : List Tree) (n : ℕ) (t : Tree) → slice_get (filter test ts) n ≡ Some t → test t ≡ true
filtered test [] n t e = absurd (cc)
filtered test (x ∷ ts) n t e = kept_one test x (filter test ts) (test x) refl t (λ n e. filtered test ts n t e) n e

-- One operand after another, and then what is done with them.
bound : {A B C : Type 0} (r : Result A Fault) (f : A → Result B Fault) (g : B → Result C Fault) → ((r >>= f) >>= g) ≡ (r >>= λ x. f x >>= g)
bound (Ok x) f g = refl
bound (Err fault) f g = refl

-- the seat of a process is that which its numbers tell
seat_told : {A : Type 0} (u : ProgramUnit) (s : Scope) (w : Execution) (o : Option Where) (n : ℕ) (g : Seat → Result A Fault) → s.unit ≡ u
    → (seat_at s w.machine (w.machine, w.node) o n >>= g) ≡ (seat_place s place.Here o n >>= λ q. seat_by u w q >>= g)
seat_told u s w None n g e = refl
seat_told u s w (Some (put_at.Location ks)) n g e =
    bound (numbers_of s (trees_from ks) n) (λ xs. located s.unit.names.extents w.machine xs) g
    ∙ ap (λ v. numbers_of s (trees_from ks) n >>= λ xs. located v.names.extents w.machine xs >>= g) e
    ∙ sym (bound (numbers_of s (trees_from ks) n) (λ xs. Ok (place.Location xs)) (λ q. seat_by u w q >>= g))
seat_told u s w (Some (put_at.Submachine low high)) n g e =
    let k = n + refs_in s low in
    bound (number_of s low n) (λ x. number_of s high k >>= λ y. parted w.machine x y) g
    ∙ ap (λ f. number_of s low n >>= f)
    (λ i. λ x. (bound (number_of s high k) (λ y. parted w.machine x y) g ∙ sym (bound (number_of s high k) (λ y. Ok (place.Submachine x y)) (λ q. seat_by u w q >>= g))) i)
    ∙ sym (bound (number_of s low n) (λ x. number_of s high k >>= λ y. Ok (place.Submachine x y)) (λ q. seat_by u w q >>= g))

abbrev seated_with : ProgramUnit → List Actual → Seat → Result (List Actual × Seat) Fault
seated_with callee args seat = fitted callee.names.extents seat >>= λ there. Ok (args, there)

-- a result is of its type

first_bit : (n : ℕ) (xs : List ℤ) → AllIn IsBit xs → IsBit (first_word (take n xs))
first_bit zero xs h = tt
first_bit (suc n) [] h = tt
first_bit (suc n) (x ∷ xs) h = h.0

result_at : (p : Program) (u : ProgramUnit) → IsAt u.names.variables (result_variable u)
result_at p u = go (heading_name u.tree.heading.stmt)
  where
    go : (o : Option (List ℕ)) → IsAt u.names.variables (variable_if u o)
    go None = tt
    go (Some name) = named_at p u name

module _ (p : Program) (number : ℕ) (u : ProgramUnit) (here : unit_at p number ≡ Some u) (slots : Slots) (m : Frame) (frame : IsFrame u slots m)
    (w : Execution) (e : Point) (f : mean.Frame) (below : List mean.Frame) (address : Addresses) (next_behind joined : ℕ) (stands : Stands u slots f m) where
  abbrev site : Site
  site = record { program = p; unit = u; slots = slots; address = address; behind = next_behind; join = joined; runs = w; point = e; frame = f; below = below; code = m }

  abbrev vars : List Variable
  vars = u.names.variables

  abbrev now : Scope
  now = scope_in p u slots m

  word_fits : (q : Kind) (n : ℕ) (ws : List ℤ) → ItemFits frame.types (reading.kind_of q) n (item_by slots q ws) → IsWordOf q (first_word (take n (words_in (item_by slots q ws))))
  word_fits kind.Integer n ws h = tt
  word_fits kind.Logical n ws h = first_bit n ws h.1
  word_fits (kind.In t) n ws h = tt
  word_fits (kind.Out t) n ws h = tt

  -- the word of a variable is of its type
  word_typed : (i : ℕ) (v : Variable) → slice_get vars i ≡ Some v → IsWordOf v.kind (word_at f.values (whole i v))
  word_typed i v at =
      subst (IsWordOf v.kind)
      (sym ((λ j. word_at (stands.values j) (whole i v)) ∙ ap (λ x. first_word (take v.words (words_in x))) (item_read slots m.words vars i v at)))
      (word_fits v.kind v.words (take v.words (drop v.first m.words)) (item_fits frame.types slots m.words vars i v frame.fits at))

  -- of each kind of unit
  pub return_follows : (q : UnitKind) → kind_of u ≡ q → HasResult q u → Agree site (work (return_code u q) [] nothing m) (returns w u f below q)
  return_follows unit_kind.Program is h = refl
  return_follows unit_kind.Process is h = refl
  return_follows unit_kind.Subroutine is h = record { kind = is; does = refl }
  return_follows unit_kind.Function is h =
      let i = h.0.0 in
      let v = h.0.1 in
      let at : slice_get vars i ≡ Some v = subst (IsAt vars) h.1 (result_at p u) in
      let word = word_at f.values (whole i v) in
      let read = first_there p number u here slots m frame w e f below address next_behind joined stands i v at h.2 (variable_some p number u i v here at) in
      let end_is : work (return_code u unit_kind.Function) [] nothing m ≡ ReturnsValue word =
      ap (λ o. work (instr.End (end.ReturnValue (first_in (variable_meant u o))) ∷ []) [] nothing m) h.1
      ∙ ap (λ o. then_work (found o (λ x. Over (ReturnsValue x))) (λ s b. work [] s b m)) read in
      subst (λ t. Agree site t (results_in w u f below)) (sym end_is) (record {
        kind = is;
        result = ap (λ o. word_at f.values (scalar_place o)) (sym h.1);
        typed = subst (λ o. IsResultOf o word) (sym h.1) (word_typed i v at);
        does = refl;
      })

  -- Arguments.

  abbrev passes : (k : ℕ) (callee : ProgramUnit) → unit_at p k ≡ Some callee → (ts : Trees) (n : ℕ) → IsFull callee ts → ArgumentsAreOf now callee 1 ts
      → (args : List Actual) → actuals_of now ts n ≡ Ok args → Passes site k (map (operand_of vars) args)
  passes k callee there ts n full typed args is =
      let sized : AreSized vars = variables_sized p number u here in
      let all = actuals_whole now sized ts n args is in
      record {
        callee = callee;
        there = there;
        arguments = args;
        same = refl;
        whole = subst (λ xs. AllIn (IsActual vars xs) args) (sym stands.values) all.0;
        taken = arguments_taken now frame.types sized frame.fits callee 1 ts n args typed is;
        full = full ∙ sym all.1;
      }

  -- what is called has formals for these arguments
  pub record Called (q : UnitKind) (o : Option (ℕ × ProgramUnit)) (ts : Trees) : Type 0 where
    pub there : (v : ℕ × ProgramUnit) → o ≡ Some v → unit_at p v.0 ≡ Some v.1
    pub kind : (v : ℕ × ProgramUnit) → o ≡ Some v → kind_of v.1 ≡ q
    pub full : (v : ℕ × ProgramUnit) → o ≡ Some v → IsFull v.1 ts
    pub typed : (v : ℕ × ProgramUnit) → o ≡ Some v → ArgumentsAreOf now v.1 1 ts

  pub called : (q : UnitKind) (name : List ℕ) (ts : Trees) → CallIsFull p q name ts → ArgumentsHaveTypes p u name ts → Called q (unit_named p name) ts
  called q name ts full typed = record {
    there = λ v is. sorts.named_at p name v.0 v.1 is;
    kind = λ v is. (full v is).0;
    full = λ v is. (full v is).1;
    typed = λ v is. typed v now is (record { unit = refl; program = refl });
  }

  module _ (keeps_actuals : (ts : Trees) (n : ℕ) → KeepsActuals p u ts n (arguments_code p u ts n)) where
    pub call_follows : (o : Option (ℕ × ProgramUnit)) (ts : Trees) → Called unit_kind.Subroutine o ts → AreAllDone now ts 0
        → Agree site (work (call_by p u o ts (address e.entry.after)) [] nothing m) (calls w e f below o (actuals_of now ts 0))
    call_follows None ts c done = refl
    call_follows (Some v) ts c done =
        let last = instr.End (end.Call v.0 (address e.entry.after)) ∷ [] in
        subst (λ t. Agree site t (calls w e f below (Some v) (actuals_of now ts 0))) (sym (keeps_actuals ts 0 slots m frame done last [] nothing))
        (agree_then site (actuals_of now ts 0) (λ args. work last [] (with_operands nothing (map (operand_of vars) args)) m) (λ r. calls w e f below (Some v) r) (λ fault. refl)
        (λ args is. record { passes = passes v.0 v.1 (c.there v refl) ts 0 (c.full v refl) (c.typed v refl) args is; kind = c.kind v refl; leads = refl; does = refl }))

    module _ (sound : IsSoundEntry p u e.entry) (results : AreResults p u e.entry f.results) where
      abbrev count : ℕ
      count = length f.results

      refer_follows : (name : List ℕ) (ts : Trees) → next_reference e.entry count ≡ Some (Ref name ts) → (g : Reference) → reference_of (names_in p u) name ≡ g → calls_one g ≡ true → (next : ℕ) → next ≡ next_behind
          → Agree site (work (arguments_code p u ts (count - refs_in_all (names_in p u) ts) ++ refer g next ∷ []) [] nothing m) (refers w (line_of e) f below g (actuals_of now ts (count - refs_in_all now ts)))
      refer_follows name ts is (Element i v) means one next leads = absurd (cc)
      refer_follows name ts is (Built b) means one next leads = absurd (cc)
      refer_follows name ts is Unknown means one next leads = absurd (cc)
      refer_follows name ts is (Call k callee) means one next leads =
          let inside : IsIn p u now = record { unit = refl; program = refl } in
          let last = instr.End (end.Refer k next) ∷ [] in
          let n = count - refs_in_all now ts in
          let done : AreAllDone now ts n =
          subst (λ rs. AreAllDone now ts (length rs - refs_in_all now ts)) (sym stands.results)
          (reference_done p u now inside e.entry sound.references (subst (AreResults p u e.entry) stands.results results) name ts (subst (λ rs. next_reference e.entry (length rs) ≡ Some (Ref name ts)) stands.results is)).0 in
          let there = sorts.named_at p name k callee (reference_is (names_in p u) name k callee means) in
          subst (λ j. Agree site (work (arguments_code p u ts (count - j) ++ last) [] nothing m) (refers w (line_of e) f below (Call k callee) (actuals_of now ts n))) (all_refs_same p u slots m ts)
          (subst (λ t. Agree site t (refers w (line_of e) f below (Call k callee) (actuals_of now ts n))) (sym (keeps_actuals ts n slots m frame done last [] nothing))
          (agree_then site (actuals_of now ts n) (λ args. work last [] (with_operands nothing (map (operand_of vars) args)) m) (λ r. refers w (line_of e) f below (Call k callee) r) (λ fault. refl)
          (λ args h. record {
            passes = passes k callee there ts n (sound.full count (Ref name ts) is k callee means) (sound.types.references count (Ref name ts) is k callee now means inside) args h;
            name = name;
            trees = ts;
            next = is;
            means = means;
            leads = leads;
            does = refl;
          })))

      reference_in : (t : Tree) → next_reference e.entry count ≡ Some t → (next : ℕ) → next ≡ next_behind
          → Agree site (work (reference_operands p u count (Some t) ++ reference_end p u (Some t) next ∷ []) [] nothing m) (reference_step w (line_of e) now f below t)
      reference_in (Number k) is next leads = refl
      reference_in (Truth b) is next leads = refl
      reference_in (Named name) is next leads = refl
      reference_in (Ref name ts) is next leads =
          refer_follows name ts is (reference_of (names_in p u) name) refl
          (filtered (is_call p u) (applied_in e.entry.stmt) count (Ref name ts) (sym (next_call p u e.entry sound.references count) ∙ is)) next leads
      reference_in (Paren t) is next leads = refl
      reference_in (Signed o t) is next leads = refl
      reference_in (Not t) is next leads = refl
      reference_in (Binary o a b) is next leads = refl

      -- the reference that comes next
      pub reference_follows : (t : Tree) → next_reference e.entry count ≡ Some t → (next : ℕ) → next ≡ next_behind
          → Agree site (work (reference_operands p u count (Some t) ++ reference_end p u (Some t) next ∷ []) [] nothing m) (reference_step w (line_of e) (scope_of p u f) f below t)
      reference_follows t is next leads =
          let values = sym stands.values in
          let results = sym stands.results in
          subst (λ s. Agree site (work (reference_operands p u count (Some t) ++ reference_end p u (Some t) next ∷ []) [] nothing m) (reference_step w (line_of e) s f below t))
          (λ j. record { program = p; unit = u; values = values j; results = results j }) (reference_in t is next leads)

    -- a start is added to the block
    pub start_follows : (o : Option (ℕ × ProgramUnit)) (part : Option CallPart) → Called unit_kind.Process o (trees_from (arguments_in part))
        → AreAllDone now (trees_from (arguments_in part)) 0 → WhereDone now (where_in part) (refs_in_all now (trees_from (arguments_in part)))
        → Agree site (work (start_by p u o part (address e.entry.after)) [] nothing m) (process_calls w now e f below o (arguments_in part) (where_in part))
    start_follows None part c done seated = refl
    start_follows (Some v) part c done seated =
        let ts = trees_from (arguments_in part) in
        let at = where_in part in
        let n = refs_in_all now ts in
        let last = instr.End (end.Start v.0 (address e.entry.after)) ∷ [] in
        let operands = map (operand_of vars) in
        let fit = λ (args : List Actual). seated_with v.1 args in
        let act = λ (r : Result (List Actual × Seat) Fault). starts_one w e f below v.0 v.1 r in
        subst (λ k. Agree site (work (arguments_code p u ts 0 ++ (seat_code p u at k ++ last)) [] nothing m) (process_calls w now e f below (Some v) (arguments_in part) at)) (all_refs_same p u slots m ts)
        (subst (λ t. Agree site t (process_calls w now e f below (Some v) (arguments_in part) at)) (sym (keeps_actuals ts 0 slots m frame done (seat_code p u at n ++ last) [] nothing))
        (agree_then site (actuals_of now ts 0) (λ args. work (seat_code p u at n ++ last) [] (with_operands nothing (operands args)) m)
        (λ r. act (r >>= λ args. seat_at now w.machine (w.machine, w.node) at n >>= λ seat. fit args seat)) (λ fault. refl)
        (λ args is.
        let built = with_operands nothing (operands args) in
        subst (λ r. Agree site (work (seat_code p u at n ++ last) [] built m) (act r)) (sym (seat_told u now w at n (fit args) refl))
        (subst (λ t. Agree site t (act (seat_place now place.Here at n >>= λ q. seat_by u w q >>= fit args))) (sym (keeps_seat p number u at n here slots m frame seated last [] built))
        (agree_then site (seat_place now place.Here at n) (λ q. work last [] (with_place built q) m) (λ r. act (r >>= λ q. seat_by u w q >>= fit args)) (λ fault. refl)
        (λ q told. record { passes = passes v.0 v.1 (c.there v refl) ts 0 (c.full v refl) (c.typed v refl) args is; leads = refl; does = refl }))))))
