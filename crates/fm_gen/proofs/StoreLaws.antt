-- Statements that concern a process alone: assignment, tests, jumps.
use Rattle.std.proofs.Common.{◌≡◌, ℕ, ◌+◌, ◌<◌, ◌≤◌, ℤ, pos, Bool, true, false, cond, ◌&&◌, Option, Some, None, List, [], ◌∷◌, ◌++◌, length, take, drop, reverse, refl, sym, ap, subst, ◌∙◌, arith, Result, Ok, Err}
use Rattle.std.specs.Prelude.{slice_get, slice_set, nat_lt}
use Rattle.std.proofs.lemmas.Bool.Decides.{nat_tests}
use Rattle.std.proofs.lemmas.List.{length-set}
use Rattle.fm_base.specs.declared.fault.Fault.{Fault}
use Rattle.fm_base.specs.Channels.{Item}
use Rattle.fm_values.specs.declared.value.Value.{Value}
use Rattle.fm_values.specs.Values.{word_of, is_true}
use Rattle.fm_values.specs.Places.{size, element_place}
use Rattle.fm_tree.specs.Tree.{Tree, Trees, NoTrees, More}
use Rattle.fm_tree.specs.PortReading as reading
use Rattle.fm_tree.specs.declared.port_type.Kind.{Kind}
use Rattle.fm_tree.specs.declared.port_type.Kind.TheVariants as kind
use Rattle.fm_symbols.specs.declared.names.Variable.{Variable}
use Rattle.fm_rules.specs.declared.program.Program.{Program}
use Rattle.fm_mean.specs.Operands.{◌>>=◌}
use Rattle.fm_mean.specs.Names.{ProgramUnit, Point, unit_at, line_of}
use Rattle.fm_mean.specs.Process as mean
use Rattle.fm_mean.specs.Process.{Execution}
use Rattle.fm_mean.specs.Fits.{ItemFits}
use Rattle.fm_mean.specs.Places.{written_from, written}
use Rattle.fm_mean.specs.Evaluate.{Scope, single, whole, spans_by, value_of, numbers_of}
use Rattle.fm_mean.specs.declared.place.Span.{Span}
use Rattle.fm_mean.specs.Actions.{Action, fails, assigns, tests}
use Rattle.fm_mean.proofs.Sizes.{in_all, variables_laid_out, variables_sized, variables_small}
use Rattle.fm_code.specs.declared.body.Frame.{Frame}
use Rattle.fm_code.specs.declared.instr.Instr.{Instr}
use Rattle.fm_code.specs.declared.instr.Instr.TheVariants as instr
use Rattle.fm_code.specs.declared.instr.Eval.TheVariants as eval
use Rattle.fm_code.specs.declared.instr.End.TheVariants as end
use Rattle.fm_code.specs.declared.scratch.Scratch.{Scratch}
use Rattle.fm_code.specs.Acts.{StatementEnd, Act, On, Over, Goes, Fails, gives, found, then_work, work, nothing}
use Rattle.fm_code.specs.Acts as acts
use Rattle.fm_gen_relation.specs.Standing.{Slots, item_by, values_in, scope_in, IsFrame, AreDone, AreAllDone}
use Rattle.fm_gen_operands.specs.Code.{place_code, trees_count}
use Rattle.fm_gen.specs.Statements.{Addresses, goto, first_store, locate_code, element_store, assigned_code, test_code}
use Rattle.fm_gen_relation.specs.Sound.{is_word}
use Rattle.fm_gen_operands.specs.Keeps.{then}
use Rattle.fm_gen.specs.Steps.{LeavesFrame, LeavesCode, Site, Agree}
use Rattle.fm_gen_relation.specs.Frames.{Stands}
use Rattle.fm_gen_relation.proofs.FrameWords.{item_fits, element_there, number_in_range, truth_kept}
use Rattle.fm_gen_operands.proofs.DimensionLaws.{within_place, place_follows}
use Rattle.fm_gen_relation.proofs.Writes.{writes, unwritten, written_without, written_nowhere}
use Rattle.fm_gen_operands.proofs.Follows.{IsAt, numbers_count, keeps, keeps_all}

-- a frame that stays
pub same_frame : (f : mean.Frame) → LeavesFrame f f
same_frame f = record { unit = refl; starts = refl; backs = refl }

pub same_code : (m : Frame) → LeavesCode m m
same_code m = record { unit = refl; count = refl; starts = refl; backs = refl }

-- both fail, or both do what the value is for
pub agree_then : {A : Type 0} (s : Site) (r : Result A Fault) (u : A → StatementEnd) (a : Result A Fault → Action) → ((fault : Fault) → a (Err fault) ≡ fails (line_of s.point) fault)
    → ((x : A) → r ≡ Ok x → Agree s (u x) (a (Ok x))) → Agree s (then r u) (a r)
agree_then s (Ok x) u a e f = f x refl
agree_then s (Err fault) u a e f = e fault

-- the words after a store, and what the variables then have
record Stored (slots : Slots) (vs : List Variable) (m : Frame) (next : ℕ) (values : List Item) (t : StatementEnd) : Type 0 where
  words : List ℤ
  ends : t ≡ Goes next (record m { words = words })
  reads : values_in slots vs words ≡ values
  count : length words ≡ length m.words

module _ (p : Program) (number : ℕ) (u : ProgramUnit) (here : unit_at p number ≡ Some u) (slots : Slots) (m : Frame) (frame : IsFrame u slots m) where
  abbrev vars : List Variable
  vars = u.names.variables

  abbrev scope : Scope
  scope = scope_in p u slots m

  abbrev now : List Item
  now = values_in slots vars m.words

  -- an element of a variable that holds words
  pub there : (i k : ℕ) (v : Variable) → slice_get vars i ≡ Some v → is_word v.kind ≡ true → k < v.words → v.first + k < length m.words
  there i k v e q less = go v.kind q (item_fits frame.types slots m.words vars i v frame.fits e)
    where
      go : (q : Kind) → is_word q ≡ true → ItemFits frame.types (reading.kind_of q) v.words (item_by slots q (take v.words (drop v.first m.words))) → v.first + k < length m.words
      go kind.Integer e h = element_there m.words v.first v.words k h less
      go kind.Logical e h = element_there m.words v.first v.words k h.0 less
      go (kind.In t) e h = absurd (cc)
      go (kind.Out t) e h = absurd (cc)

  put : (i k next : ℕ) (w : ℤ) (v : Variable) → slice_get vars i ≡ Some v → is_word v.kind ≡ true → k < v.words → (j : ℕ) → v.first + k ≡ j → (go : List ℤ → Scratch → StatementEnd)
      → Stored slots vars m next (written_from now i k (w ∷ [])) (then_work (acts.stored next j w m) go)
  put i k next w v e q less j same go =
      let at : v.first + k < length m.words = there i k v e q less in
      let inside : nat_lt j (length m.words) ≡ true = let l : j < length m.words = omega (arith, at, same) in grind (arith, nat_tests) in
      record {
        words = slice_set m.words j w;
        ends = ap (λ c. then_work (cond c (Over (Goes next (record m { words = slice_set m.words j w }))) (Over acts.Stuck)) go) inside;
        reads = ap (λ n. values_in slots vars (slice_set m.words n w)) (sym same) ∙ writes slots 0 vars m.words i k w v (variables_laid_out p number u here) e q less;
        count = length-set m.words j w;
      }

  first_stored : (i : ℕ) (o : Option Variable) → slice_get vars i ≡ o → (next : ℕ) (w : ℤ) (s : List ℤ) (b : Scratch)
      → Stored slots vars m next (written_from now i 0 (w ∷ [])) (work (first_store o next ∷ []) (w ∷ s) b m)
  first_stored i None e next w s b = record { words = m.words; ends = refl; reads = sym (written_nowhere slots vars m.words i 0 (w ∷ []) e); count = refl }
  first_stored i (Some v) e next w s b = go (is_word v.kind) (nat_lt 0 v.words) refl refl
    where
      go : (c d : Bool) → is_word v.kind ≡ c → nat_lt 0 v.words ≡ d
          → Stored slots vars m next (written_from now i 0 (w ∷ [])) (work (cond (c && d) (instr.End (end.Store v.first next)) (goto next) ∷ []) (w ∷ s) b m)
      go true true q f =
          let some : 0 < v.words = grind (arith, nat_tests) in
          put i 0 next w v e q some v.first (omega arith) (λ s b. work [] s b m)
      go true false q f =
          let none : v.words ≡ 0 = grind (arith, nat_tests) in
          record { words = m.words; ends = refl; reads = sym (written_without slots vars m.words i w v e none); count = refl }
      go false d q f = record { words = m.words; ends = refl; reads = sym (unwritten slots vars m.words i 0 w v e q); count = refl }

  stored_at : (v : Variable) (i k : ℕ) → slice_get vars i ≡ Some v → is_word v.kind ≡ true → k < v.words → (next : ℕ) (w : ℤ) (s : List ℤ) (b : Scratch)
      → Stored slots vars m next (written_from now i k (w ∷ [])) (work (instr.End (end.StoreAt next) ∷ []) (w ∷ pos (v.first + k) ∷ s) b m)
  stored_at v i k e q less next w s b =
      let at : v.first + k < length m.words = there i k v e q less in
      let inside : nat_lt (v.first + k) (length m.words) ≡ true = grind (arith, nat_tests) in
      let done = put i k next w v e q less (v.first + k) refl (λ s b. work [] s b m) in
      record {
        words = done.words;
        ends = ap (λ c. then_work (found (cond c (Some (v.first + k)) None) (λ k. acts.stored next k w m)) (λ s b. work [] s b m)) inside ∙ done.ends;
        reads = done.reads;
        count = done.count;
      }

  -- the number of an element's word, or its place where it is no word
  abbrev place_word : Kind → (first k : ℕ) → ℤ
  place_word kind.Integer f k = pos (f + k)
  place_word kind.Logical f k = pos (f + k)
  place_word (kind.In t) f k = pos k
  place_word (kind.Out t) f k = pos k

  locates : (f k : ℕ) → f + k < length m.words → (is : List Instr) (s : List ℤ) (b : Scratch) → work (instr.Eval (eval.Locate f) ∷ is) (pos k ∷ s) b m ≡ work is (pos (f + k) ∷ s) b m
  locates f k less is s b = ap (λ r. then_work (gives r (λ x. On (x ∷ s) b)) (λ s b. work is s b m)) (number_in_range (f + k) (omega (arith, less, frame.numbered)))

  located : (q : Kind) (f k : ℕ) → (is_word q ≡ true → f + k < length m.words) → (is : List Instr) (s : List ℤ) (b : Scratch)
      → work (locate_code q f ++ is) (pos k ∷ s) b m ≡ work is (place_word q f k ∷ s) b m
  located kind.Integer f k less is s b = locates f k (less refl) is s b
  located kind.Logical f k less is s b = locates f k (less refl) is s b
  located (kind.In t) f k less is s b = refl
  located (kind.Out t) f k less is s b = refl

  element_put : (q : Kind) (v : Variable) → v.kind ≡ q → (i k : ℕ) → slice_get vars i ≡ Some v → k < v.words → (next : ℕ) (w : ℤ) (s : List ℤ) (b : Scratch)
      → Stored slots vars m next (written_from now i k (w ∷ [])) (work (element_store q next ∷ []) (w ∷ place_word q v.first k ∷ s) b m)
  element_put kind.Integer v is i k e less next w s b = stored_at v i k e (ap is_word is) less next w s b
  element_put kind.Logical v is i k e less next w s b = stored_at v i k e (ap is_word is) less next w s b
  element_put (kind.In t) v is i k e less next w s b = record { words = m.words; ends = refl; reads = sym (unwritten slots vars m.words i k w v e (ap is_word is)); count = refl }
  element_put (kind.Out t) v is i k e less next w s b = record { words = m.words; ends = refl; reads = sym (unwritten slots vars m.words i k w v e (ap is_word is)); count = refl }

  module _ (w : Execution) (e : Point) (f : mean.Frame) (below : List mean.Frame) (address : Addresses) (next_behind joined : ℕ) (stands : Stands u slots f m) where
    abbrev site : Site
    site = record { program = p; unit = u; slots = slots; address = address; behind = next_behind; join = joined; runs = w; point = e; frame = f; below = below; code = m }

    -- a store, and what the meaning has then
    assigned : (i k : ℕ) (x : Value) (place : Span) → (place.variable ≡ i) → (place.first ≡ k) → (t : StatementEnd) → Stored slots vars m (address e.entry.after) (written_from now i k (word_of x ∷ [])) t
        → Agree site t (assigns w e f below (Ok place) (Ok x))
    assigned i k x place a b t h =
        subst (λ t. Agree site t (assigns w e f below (Ok place) (Ok x))) (sym h.ends) (record {
          frame = record f { values = written f.values place (word_of x ∷ []) };
          entry = e.entry.after;
          does = refl;
          leads = refl;
          stands = record {
            values = (λ j. written_from (stands.values j) (a j) (b j) (word_of x ∷ [])) ∙ sym h.reads;
            sized = h.count ∙ stands.sized;
            results = stands.results;
            loops = stands.loops;
          };
          leaves = record { unit = refl; starts = refl; backs = refl };
          leaves_code = record { unit = refl; count = h.count; starts = refl; backs = refl };
        })

    module _ (value : List Instr) (r : Result Value Fault) (follows : (is : List Instr) (s : List ℤ) (b : Scratch) → work (value ++ is) s b m ≡ then r (λ x. work is (word_of x ∷ s) b m)) where
      -- the value is stored at the first word of a variable
      first_assigned : (i : ℕ) (o : Option Variable) → slice_get vars i ≡ o → (place : Span) → (place.variable ≡ i) → (place.first ≡ 0)
          → Agree site (work (value ++ first_store o (address e.entry.after) ∷ []) [] nothing m) (assigns w e f below (Ok place) r)
      first_assigned i o is place a b =
          subst (λ t. Agree site t (assigns w e f below (Ok place) r)) (sym (follows (first_store o (address e.entry.after) ∷ []) [] nothing))
          (agree_then site r (λ x. work (first_store o (address e.entry.after) ∷ []) (word_of x ∷ []) nothing m) (λ r. assigns w e f below (Ok place) r) (λ fault. refl)
          (λ x same. assigned i 0 x place a b (work (first_store o (address e.entry.after) ∷ []) (word_of x ∷ []) nothing m) (first_stored i o is (address e.entry.after) (word_of x) [] nothing)))

      -- at an element
      element_assigned : (i : ℕ) (v : Variable) → slice_get vars i ≡ Some v → (k : ℕ) → k < v.words
          → Agree site (work (locate_code v.kind v.first ++ (value ++ element_store v.kind (address e.entry.after) ∷ [])) (pos k ∷ []) nothing m) (assigns w e f below (Ok (single i k)) r)
      element_assigned i v is k less =
          let store = element_store v.kind (address e.entry.after) ∷ [] in
          subst (λ t. Agree site t (assigns w e f below (Ok (single i k)) r))
          (sym (located v.kind v.first k (λ q. there i k v is q less) (value ++ element_store v.kind (address e.entry.after) ∷ []) [] nothing
          ∙ follows (element_store v.kind (address e.entry.after) ∷ []) (place_word v.kind v.first k ∷ []) nothing))
          (agree_then site r (λ x. work (element_store v.kind (address e.entry.after) ∷ []) (word_of x ∷ place_word v.kind v.first k ∷ []) nothing m) (λ r. assigns w e f below (Ok (single i k)) r) (λ fault. refl)
          (λ x same. assigned i k x (single i k) refl refl (work (element_store v.kind (address e.entry.after) ∷ []) (word_of x ∷ place_word v.kind v.first k ∷ []) nothing m)
          (element_put v.kind v refl i k is less (address e.entry.after) (word_of x) [] nothing)))

      placed_assigned : (i : ℕ) (v : Variable) → slice_get vars i ≡ Some v → (n : ℕ) (xs : List ℤ) → n ≡ length xs → (n ≡ 0 → ⊥)
          → Agree site (work (place_code v n (locate_code v.kind v.first) ++ (value ++ element_store v.kind (address e.entry.after) ∷ [])) (reverse xs ++ []) nothing m)
          (assigns w e f below (element_place v.bounds xs >>= λ k. Ok (single i k)) r)
      placed_assigned i v is n xs count some =
          let full = in_all (λ v. v.words ≡ size v.bounds) vars i v (variables_sized p number u here) is in
          let few = in_all (λ v. size v.bounds ≤ 65536) vars i v (variables_small p number u here) is in
          subst (λ t. Agree site t (assigns w e f below (element_place v.bounds xs >>= λ k. Ok (single i k)) r))
          (sym (place_follows m nothing v n xs (λ bs z. some z) full few count (locate_code v.kind v.first) (value ++ element_store v.kind (address e.entry.after) ∷ []) []))
          (agree_then site (element_place v.bounds xs) (λ k. work (locate_code v.kind v.first ++ (value ++ element_store v.kind (address e.entry.after) ∷ [])) (pos k ∷ []) nothing m)
          (λ q. assigns w e f below (q >>= λ k. Ok (single i k)) r) (λ fault. refl) (λ k same. element_assigned i v is k (omega (arith, within_place v.bounds xs k same, full))))

      pub assigned_follows : (o : Option (ℕ × Variable)) → IsAt vars o → (ts : Trees) → AreAllDone scope ts 0
          → Agree site (work (assigned_code p u o ts value (address e.entry.after)) [] nothing m) (assigns w e f below (spans_by o ts (numbers_of scope ts 0)) r)
      assigned_follows None at ts done = first_assigned 0 (slice_get vars 0) refl (single 0 0) refl refl
      assigned_follows (Some v) at NoTrees done = first_assigned v.0 (Some v.1) at (whole v.0 v.1) refl refl
      assigned_follows (Some v) at (More t ts) done =
          let behind = place_code v.1 (trees_count (More t ts)) (locate_code v.1.kind v.1.first) ++ (value ++ element_store v.1.kind (address e.entry.after) ∷ []) in
          subst (λ x. Agree site x (assigns w e f below (spans_by (Some v) (More t ts) (numbers_of scope (More t ts) 0)) r))
          (sym (keeps_all p number u (More t ts) 0 here slots m frame done behind [] nothing))
          (agree_then site (numbers_of scope (More t ts) 0) (λ xs. work (place_code v.1 (trees_count (More t ts)) (locate_code v.1.kind v.1.first) ++ (value ++ element_store v.1.kind (address e.entry.after) ∷ [])) (reverse xs ++ []) nothing m)
          (λ q. assigns w e f below (q >>= λ xs. element_place v.1.bounds xs >>= λ k. Ok (single v.0 k)) r) (λ fault. refl)
          (λ xs same. placed_assigned v.0 v.1 at (trees_count (More t ts)) xs (numbers_count scope (More t ts) 0 xs same) (λ z. absurd (omega (arith, z)))))

    -- a test
    pub test_follows : (t : Tree) → AreDone scope t 0 → Agree site (work (test_code p u t (address e.entry.after) (address e.links.other)) [] nothing m) (tests w e f below (value_of scope t 0))
    test_follows t done =
        subst (λ x. Agree site x (tests w e f below (value_of scope t 0))) (sym (keeps p number u t 0 here slots m frame done (instr.End (end.Test (address e.entry.after) (address e.links.other)) ∷ []) [] nothing))
        (agree_then site (value_of scope t 0) (λ x. work (instr.End (end.Test (address e.entry.after) (address e.links.other)) ∷ []) (word_of x ∷ []) nothing m) (λ q. tests w e f below q) (λ fault. refl)
        (λ x same. record {
          frame = f;
          entry = cond (is_true x) e.entry.after e.links.other;
          does = refl;
          leads = ap (λ c. cond c (address e.entry.after) (address e.links.other)) (truth_kept x) ∙ which (is_true x);
          stands = stands;
          leaves = same_frame f;
          leaves_code = same_code m;
        }))
      where
        which : (c : Bool) → cond c (address e.entry.after) (address e.links.other) ≡ address (cond c e.entry.after e.links.other)
        which true = refl
        which false = refl
