-- Items of a SEND are cut in the code as in the meaning.
use Rattle.std.proofs.Common.{◌≡◌, ℕ, zero, suc, ◌+◌, ◌≤◌, ℤ, pos, negsuc, Bool, true, false, cond, Option, Some, None, List, [], ◌∷◌, ◌++◌, length, map, take, drop, refl, sym, ap, subst, ◌∙◌, arith, append_assoc, length-append, length-take, length-take-le, Result, Ok, Err}
use Rattle.std.specs.Prelude.{slice_get, slice_set, nat_le}
use Rattle.std.proofs.lemmas.Bool.Decides.{nat_tests}
use Rattle.std.proofs.lemmas.List.{length-map, take-take}
use Rattle.std.proofs.lemmas.Option.{slice_get_past}
use Rattle.fm_base.specs.declared.fault.Fault.{Fault}
use Rattle.fm_base.specs.declared.fault.Fault.TheVariants.{NullPort, Subscript}
use Rattle.fm_base.specs.Channels.{Item}
use Rattle.fm_net.specs.Typed.{AllIn}
use Rattle.fm_tree.specs.PortFields.{PortFields, NoFields, FieldThen}
use Rattle.fm_symbols.specs.declared.names.Variable.{Variable}
use Rattle.fm_rules.specs.PortTypes.{sizing_place}
use Rattle.fm_mean.specs.Operands.{◌>>=◌}
use Rattle.fm_mean.specs.Places.{first_word, items_at, words_in, words_of}
use Rattle.fm_mean.specs.declared.place.Actual.{Actual}
use Rattle.fm_mean.specs.declared.place.Actual.TheVariants.{Given, Taken}
use Rattle.fm_mean.specs.Actions as meaning
use Rattle.fm_mean.specs.Actions.{cut_item, cut_items}
use Rattle.fm_mean.proofs.Sorts.{parts}
use Rattle.fm_code.specs.declared.ask.Ask.TheVariants as ask
use Rattle.fm_code.specs.declared.ask.Operand.{Operand}
use Rattle.fm_code.specs.declared.ask.Operand.TheVariants as operand
use Rattle.fm_code.specs.declared.body.Frame.{Frame}
use Rattle.fm_code.specs.declared.instr.Instr.{Instr}
use Rattle.fm_code.specs.declared.instr.Instr.TheVariants as instr
use Rattle.fm_code.specs.declared.instr.Build.TheVariants as build
use Rattle.fm_code.specs.declared.instr.Meet.TheVariants as meet
use Rattle.fm_code.specs.declared.scratch.Scratch.{Scratch}
use Rattle.fm_code.specs.Acts as acts
use Rattle.fm_code.specs.Acts.{StatementEnd, Act, On, Over, Fails, gives, at_port, asks, then_work, work, nothing}
use Rattle.fm_gen_relation.specs.Sound.{IsSoundUnit}
use Rattle.fm_gen_relation.specs.Standing.{Slots, values_in}
use Rattle.fm_gen_relation.specs.Operands.{MeanSpan, word_number, IsPlace, IsActual, operand_of, of_length, value_item, item_of, IsItem}
use Rattle.fm_gen_relation.proofs.Passing.{place_read, place_within, span_length}
use Rattle.fm_mean.specs.Names.{ProgramUnit}
use Rattle.fm_gen_operands.specs.Keeps.{then}
use Rattle.fm_gen.specs.Statements.{cut_one, cuts_code}

-- Results.

then_same : {A : Type 0} (r : Result A Fault) (k j : A → StatementEnd) → ((x : A) → k x ≡ j x) → then r k ≡ then r j
then_same (Ok x) k j e = e x
then_same (Err fault) k j e = refl

then_bound : {A B : Type 0} (r : Result A Fault) (g : A → B) (k : B → StatementEnd) → then (r >>= λ x. Ok (g x)) k ≡ then r (λ x. k (g x))
then_bound (Ok x) g k = refl
then_bound (Err fault) g k = refl

the_actual : (a b : Actual) → ◌≡◌ {A = Result Actual Fault} (Ok a) (Ok b) → a ≡ b
the_actual a b e = cc

the_items : (a b : List Actual) → ◌≡◌ {A = Result (List Actual) Fault} (Ok a) (Ok b) → a ≡ b
the_items a b e = cc

-- what is cut isn't too short
cut_by : (c : Bool) (a i : Actual) → cond c (Ok a) (Err Subscript) ≡ Ok i → (c ≡ true) × (a ≡ i)
cut_by true a i e = (refl, the_actual a i e)
cut_by false a i e = absurd (cc e)

not_over : (n k : ℕ) → nat_le n k ≡ true → n ≤ k
not_over n k e = grind (arith, nat_tests)

first_same : (ws : List ℤ) → acts.first_word ws ≡ first_word ws
first_same [] = refl
first_same (w ∷ ws) = refl

all_last : {A : Type 0} (P : A → Type 0) (xs : List A) (x : A) → AllIn P xs → P x → AllIn P (xs ++ x ∷ [])
all_last P [] x all one = (one, tt)
all_last P (y ∷ ys) x all one = (all.0, all_last P ys x all.1 one)

-- One item.

module _ (vs : List Variable) where
  ports_cut : (c : Bool) (n : ℕ) (s : MeanSpan)
      → acts.as_operand operand.Ports (cond c (Ok (record { first = word_number vs s; count = n })) (Err Subscript)) ≡ (cond c (Ok (Taken (record s { count = n }))) (Err Subscript) >>= λ i. Ok (item_of vs i))
  ports_cut true n s = refl
  ports_cut false n s = refl

  abbrev words_at : ℕ → ℕ → Operand
  words_at first n = operand.Words (record { first = first; count = n })

  words_cut : (c : Bool) (n : ℕ) (ws : List ℤ) (s : MeanSpan) → nat_le n (length ws) ≡ c
      → acts.as_operand operand.Words (cond c (Ok (record { first = word_number vs s; count = n })) (Err Subscript)) ≡ (cond c (Ok (Given (take n ws) (Some s))) (Err Subscript) >>= λ i. Ok (item_of vs i))
  words_cut true n ws s e = ap (λ k. Ok (words_at (word_number vs s) k)) (sym (length-take-le n ws (not_over n (length ws) e)))
  words_cut false n ws s e = refl

  value_cut : (c : Bool) (n : ℕ) (ws : List ℤ) → nat_le n (length ws) ≡ c → (meaning.cut_to (pos n) (Given ws None) >>= λ i. Ok (item_of vs i)) ≡ cond c (Ok (value_item (take n ws))) (Err Subscript)
  value_cut true n ws e = ap (λ c. cond c (Ok (Given (take n ws) None)) (Err Subscript) >>= λ i. Ok (item_of vs i)) e
  value_cut false n ws e = ap (λ c. cond c (Ok (Given (take n ws) None)) (Err Subscript) >>= λ i. Ok (item_of vs i)) e

  module _ (xs : List Item) where
    -- both cut an item alike
    cut_alike : (n : ℤ) (a : Actual) → IsItem vs xs a → acts.cut_to n (item_of vs a) ≡ (meaning.cut_to n a >>= λ i. Ok (item_of vs i))
    cut_alike (pos zero) (Given [] None) is = refl
    cut_alike (pos (suc n)) (Given [] None) is =
        let over : nat_le (suc n) 0 ≡ false = grind (arith, nat_tests) in
        ap (λ c. acts.as_operand operand.Words (cond c (Ok (record { first = 0; count = suc n })) (Err Subscript))) over ∙ sym (value_cut false (suc n) [] over)
    cut_alike (negsuc n) (Given [] None) is = refl
    cut_alike (pos zero) (Given (w ∷ ws) None) is = sym (value_cut true 0 (w ∷ ws) (grind (arith, nat_tests)))
    cut_alike (pos (suc zero)) (Given (w ∷ ws) None) is = sym (value_cut true 1 (w ∷ ws) (grind (arith, nat_tests)))
    cut_alike (pos (suc (suc n))) (Given (w ∷ []) None) is = sym (value_cut false (suc (suc n)) (w ∷ []) (grind (arith, nat_tests)))
    cut_alike (pos (suc (suc n))) (Given (w ∷ v ∷ ws) None) is = absurd (omega (arith, is))
    cut_alike (negsuc n) (Given (w ∷ ws) None) is = refl
    cut_alike (pos n) (Given ws (Some s)) is = words_cut (nat_le n (length ws)) n ws s refl
    cut_alike (negsuc n) (Given ws (Some s)) is = refl
    cut_alike (pos n) (Taken s) is = ports_cut (nat_le n s.count) n s
    cut_alike (negsuc n) (Taken s) is = refl

    -- what is cut is an item
    cut_whole : (n : ℤ) (a i : Actual) → IsItem vs xs a → meaning.cut_to n a ≡ Ok i → IsItem vs xs i
    cut_whole (pos n) (Given ws None) i is e =
        let h = cut_by (nat_le n (length ws)) (Given (take n ws) None) i e in
        let few : length (take n ws) ≤ 1 = omega (arith, length-take n ws, is) in
        subst (IsItem vs xs) h.1 few
    cut_whole (pos n) (Given ws (Some s)) i is e =
        let h = cut_by (nat_le n (length ws)) (Given (take n ws) (Some s)) i e in
        let le = not_over n (length ws) h.0 in
        let count : length (take n ws) ≡ n = length-take-le n ws le in
        let there = drop s.first (words_in (items_at xs s.variable)) in
        let words : take n ws ≡ take (length (take n ws)) there = ap (take n) is.1 ∙ take-take n (length ws) there le ∙ ap (λ k. take k there) (sym count) in
        let place : IsPlace vs true (of_length (take n ws) s) = record { variable = is.0.variable; there = is.0.there; kind = is.0.kind; within = omega (arith, is.0.within, count, le) } in
        subst (IsItem vs xs) h.1 (place, words)
    cut_whole (pos n) (Taken s) i is e =
        let h = cut_by (nat_le n s.count) (Taken (record s { count = n })) i e in
        let le = not_over n s.count h.0 in
        let place : IsPlace vs false (record s { count = n }) = record { variable = is.variable; there = is.there; kind = is.kind; within = omega (arith, is.within, le) } in
        subst (IsItem vs xs) h.1 place
    cut_whole (negsuc n) a i is e = absurd (cc e)

    item_whole : (before : List Actual) (o : Option ℕ) (a i : Actual) → IsItem vs xs a → cut_item before o a ≡ Ok i → IsItem vs xs i
    item_whole before None a i is e = subst (IsItem vs xs) (the_actual a i e) is
    item_whole before (Some place) a i is e = cut_whole (meaning.size_in (slice_get before place)) a i is e

    -- so are all
    pub items_whole : (fields : PortFields) (before items is : List Actual) → AllIn (IsItem vs xs) items → cut_items before fields items ≡ Ok is → AllIn (IsItem vs xs) is
    items_whole NoFields before items is all e = subst (AllIn (IsItem vs xs)) (the_items items is e) all
    items_whole (FieldThen kind name bounds rest) before [] is all e = subst (AllIn (IsItem vs xs)) (the_items [] is e) tt
    items_whole (FieldThen kind name bounds rest) before (a ∷ more) is all e =
        let one = parts (cut_item before (sizing_place bounds) a) _ is e in
        let others = parts (cut_items (before ++ one.0 ∷ []) rest more) _ is one.2 in
        subst (AllIn (IsItem vs xs)) (the_items (one.0 ∷ others.0) is others.2)
        (item_whole before (sizing_place bounds) a one.0 all.0 one.1, items_whole rest (before ++ one.0 ∷ []) more others.0 all.1 others.1)

-- Before they are cut.

module _ (u : ProgramUnit) (sound : IsSoundUnit u) (slots : Slots) (m : Frame) (count : length m.words ≡ u.names.words) (xs : List Item) (read : xs ≡ values_in slots u.names.variables m.words) where
  abbrev vars : List Variable
  vars = u.names.variables

  place_count : (ws : List ℤ) (s : MeanSpan) → IsPlace vars true s → ws ≡ words_of xs s → length ws ≡ s.count
  place_count ws s place is =
      let within = place_within u true s sound place in
      ap length (is ∙ ap (λ l. words_of l s) read ∙ place_read slots vars m.words s place) ∙ span_length m.words (word_number vars s) s.count (omega (arith, within, count))

  actual_item : (a : Actual) → IsActual vars xs a → IsItem vars xs a × (item_of vars a ≡ operand_of vars a)
  actual_item (Given [] None) is = absurd (omega (arith, is))
  actual_item (Given (w ∷ ws) None) is = (omega (arith, is), refl)
  actual_item (Given ws (Some s)) is =
      let same = place_count ws s is.0 is.1 in
      let there = drop s.first (words_in (items_at xs s.variable)) in
      let words : ws ≡ take (length ws) there = is.1 ∙ ap (λ k. take k there) (sym same) in
      let place : IsPlace vars true (of_length ws s) = record { variable = is.0.variable; there = is.0.there; kind = is.0.kind; within = omega (arith, is.0.within, same) } in
      ((place, words), ap (words_at vars (word_number vars s)) same)
  actual_item (Taken s) is = (is, refl)

  pub actuals_are : (args : List Actual) → AllIn (IsActual vars xs) args → AllIn (IsItem vars xs) args × (map (item_of vars) args ≡ map (operand_of vars) args)
  actuals_are [] all = (tt, refl)
  actuals_are (a ∷ more) all =
      let one = actual_item a all.0 in
      let rest = actuals_are more all.1 in
      ((one.0, rest.0), ap (λ o. o ∷ map (item_of vars) more) one.1 ∙ ap (λ os. operand_of vars a ∷ os) rest.1)

-- All items.

-- where the port is NULL the first instruction fails
module _ (m : Frame) (x : ℤ) (next : ℕ) (null : (g : ℤ → Act) → at_port m x g ≡ Over (Fails NullPort)) where
  null_cut : (item : ℕ) (o : Option ℕ) (is : List Instr) (b : Scratch) → work is (x ∷ []) b m ≡ Fails NullPort → work (cut_one item o ++ is) (x ∷ []) b m ≡ Fails NullPort
  null_cut item None is b e = e
  null_cut item (Some place) is b e = ap (λ a. then_work a (λ s b. work is s b m)) (null (λ slot. acts.cuts item place (x ∷ []) b m))

  pub null_fails : (fields : PortFields) (item : ℕ) (b : Scratch) → work (cuts_code item fields ++ instr.Meet (meet.Send next) ∷ []) (x ∷ []) b m ≡ Fails NullPort
  null_fails NoFields item b = ap (λ a. then_work a (λ s b. work [] s b m)) (null (λ slot. asks (ask.Send slot b.operands next)))
  null_fails (FieldThen kind name bounds rest) item b =
      ap (λ c. work c (x ∷ []) b m) (append_assoc (cut_one item (sizing_place bounds)) (cuts_code (suc item) rest) (instr.Meet (meet.Send next) ∷ []))
      ∙ null_cut item (sizing_place bounds) (cuts_code (suc item) rest ++ instr.Meet (meet.Send next) ∷ []) b (null_fails rest (suc item) b)

module _ (vs : List Variable) (slots : Slots) (m : Frame) (xs : List Item) (read : xs ≡ values_in slots vs m.words) where
  abbrev op : Actual → Operand
  op a = item_of vs a

  -- the number that an item is
  size_same : (a : Actual) → IsItem vs xs a → acts.size_in m (Some (item_of vs a)) ≡ meaning.size_in (Some a)
  size_same (Given [] None) is = refl
  size_same (Given (w ∷ ws) None) is = refl
  size_same (Given ws (Some s)) is =
      first_same (acts.span_of m.words (record { first = word_number vs s; count = length ws }))
      ∙ sym (ap first_word (is.1 ∙ ap (λ l. words_of l (of_length ws s)) read ∙ place_read slots vs m.words (of_length ws s) is.0))
  size_same (Taken s) is = refl

  sizes_same : (before : List Actual) → AllIn (IsItem vs xs) before → (k : ℕ) → acts.size_in m (slice_get (map op before) k) ≡ meaning.size_in (slice_get before k)
  sizes_same [] all k = refl
  sizes_same (a ∷ before) all zero = size_same a all.0
  sizes_same (a ∷ before) all (suc k) = sizes_same before all.1 k

  those_before : (before more : List Actual) → take (length before) (map op (before ++ more)) ≡ map op before
  those_before [] more = refl
  those_before (a ∷ before) more = ap (λ os. op a ∷ os) (those_before before more)

  item_there : (before : List Actual) (a : Actual) (more : List Actual) → slice_get (map op (before ++ a ∷ more)) (length before) ≡ Some (op a)
  item_there [] a more = refl
  item_there (b ∷ before) a more = item_there before a more

  item_put : (before : List Actual) (a c : Actual) (more : List Actual) → slice_set (map op (before ++ a ∷ more)) (length before) (op c) ≡ map op (before ++ c ∷ more)
  item_put [] a c more = refl
  item_put (b ∷ before) a c more = ap (λ os. op b ∷ os) (item_put before a c more)

  -- where the port has a slot
  module _ (x slot : ℤ) (next : ℕ) (live : (g : ℤ → Act) → at_port m x g ≡ g slot) where
    abbrev last : List Instr
    last = instr.Meet (meet.Send next) ∷ []

    abbrev building : List Operand → Scratch
    building os = record nothing { operands = os }

    abbrev sending : List Operand → StatementEnd
    sending os = acts.Asks (ask.Send slot os next)

    abbrev does : List Instr → List Operand → StatementEnd
    does is os = work is (x ∷ []) (building os) m

    cut_act : (item size : ℕ) (os : List Operand) (is : List Instr)
        → does (instr.Build (build.Cut item size) ∷ is) os ≡ then_work (acts.cuts item size (x ∷ []) (building os) m) (λ s b. work is s b m)
    cut_act item size os is = ap (λ a. then_work a (λ s b. work is s b m)) (live (λ slot. acts.cuts item size (x ∷ []) (building os) m))

    sends_all : (os : List Operand) → does last os ≡ sending os
    sends_all os = ap (λ a. then_work a (λ s b. work [] s b m)) (live (λ slot. asks (ask.Send slot os next)))

    -- where no items are left none is cut
    none_cut : (item : ℕ) (o : Option ℕ) (os : List Operand) (is : List Instr) → slice_get os item ≡ None → does is os ≡ sending os → does (cut_one item o ++ is) os ≡ sending os
    none_cut item None os is none e = e
    none_cut item (Some place) os is none e =
        cut_act item place os is
        ∙ ap (λ o. then_work (acts.cuts_at item (acts.size_in m (slice_get (take item os) place)) o (x ∷ []) (building os)) (λ s b. work is s b m)) none
        ∙ e

    none_left : (fields : PortFields) (item : ℕ) (os : List Operand) → length os ≤ item → does (cuts_code item fields ++ last) os ≡ sending os
    none_left NoFields item os le = sends_all os
    none_left (FieldThen kind name bounds rest) item os le =
        ap (λ c. does c os) (append_assoc (cut_one item (sizing_place bounds)) (cuts_code (suc item) rest) last)
        ∙ none_cut item (sizing_place bounds) os (cuts_code (suc item) rest ++ last) (slice_get_past os item le) (none_left rest (suc item) os (omega (arith, le)))

    -- the items behind these and this one
    abbrev Behind : PortFields → (before more : List Actual) → Actual → Type 0
    Behind rest before more c = does (cuts_code (suc (length before)) rest ++ last) (map op (before ++ c ∷ more)) ≡ then (cut_items (before ++ c ∷ []) rest more) (λ is. sending (map op (before ++ c ∷ is)))

    cut_then : (rest : PortFields) (before : List Actual) (a : Actual) (more : List Actual) (n : ℤ) → IsItem vs xs a → ((c : Actual) → IsItem vs xs c → Behind rest before more c)
        → (r : Result Actual Fault) → meaning.cut_to n a ≡ r
        → then_work (gives (r >>= λ i. Ok (op i)) (λ o. On (x ∷ []) (building (slice_set (map op (before ++ a ∷ more)) (length before) o)))) (λ s b. work (cuts_code (suc (length before)) rest ++ last) s b m)
        ≡ then (r >>= λ i. cut_items (before ++ i ∷ []) rest more >>= λ is. Ok (i ∷ is)) (λ is. sending (map op (before ++ is)))
    cut_then rest before a more n is go (Ok c) e =
        ap (λ os. does (cuts_code (suc (length before)) rest ++ last) os) (item_put before a c more)
        ∙ go c (cut_whole vs xs n a c is e)
        ∙ sym (then_bound (cut_items (before ++ c ∷ []) rest more) (λ is. c ∷ is) (λ is. sending (map op (before ++ is))))
    cut_then rest before a more n is go (Err fault) e = refl

    one_follows : (o : Option ℕ) (rest : PortFields) (before : List Actual) (a : Actual) (more : List Actual) → AllIn (IsItem vs xs) before → IsItem vs xs a → ((c : Actual) → IsItem vs xs c → Behind rest before more c)
        → does (cut_one (length before) o ++ (cuts_code (suc (length before)) rest ++ last)) (map op (before ++ a ∷ more))
        ≡ then (cut_item before o a >>= λ i. cut_items (before ++ i ∷ []) rest more >>= λ is. Ok (i ∷ is)) (λ is. sending (map op (before ++ is)))
    one_follows None rest before a more all is go =
        go a is ∙ sym (then_bound (cut_items (before ++ a ∷ []) rest more) (λ is. a ∷ is) (λ is. sending (map op (before ++ is))))
    one_follows (Some place) rest before a more all is go =
        let k = length before in
        let os = map op (before ++ a ∷ more) in
        let code = cuts_code (suc (length before)) rest ++ last in
        let n = meaning.size_in (slice_get before place) in
        cut_act k place os code
        ∙ ap (λ l. then_work (acts.cuts_at k (acts.size_in m (slice_get l place)) (slice_get os k) (x ∷ []) (building os)) (λ s b. work code s b m)) (those_before before (a ∷ more))
        ∙ ap (λ z. then_work (acts.cuts_at k z (slice_get os k) (x ∷ []) (building os)) (λ s b. work code s b m)) (sizes_same before all place)
        ∙ ap (λ o. then_work (acts.cuts_at k n o (x ∷ []) (building os)) (λ s b. work code s b m)) (item_there before a more)
        ∙ ap (λ r. then_work (gives r (λ o. On (x ∷ []) (building (slice_set os k o)))) (λ s b. work code s b m)) (cut_alike vs xs n a is)
        ∙ cut_then rest before a more n is go (meaning.cut_to n a) refl

    pub cuts_follow : (fields : PortFields) (before items : List Actual) → AllIn (IsItem vs xs) before → AllIn (IsItem vs xs) items
        → work (cuts_code (length before) fields ++ instr.Meet (meet.Send next) ∷ []) (x ∷ []) (record nothing { operands = map (λ a. item_of vs a) (before ++ items) }) m
        ≡ then (cut_items before fields items) (λ is. acts.Asks (ask.Send slot (map (λ a. item_of vs a) (before ++ is)) next))
    cuts_follow NoFields before items all are = sends_all (map op (before ++ items))
    cuts_follow (FieldThen kind name bounds rest) before [] all are =
        none_left (FieldThen kind name bounds rest) (length before) (map op (before ++ [])) (omega (arith, length-map (before ++ []) op, length-append before []))
    cuts_follow (FieldThen kind name bounds rest) before (a ∷ more) all are =
        ap (λ c. does c (map op (before ++ a ∷ more))) (append_assoc (cut_one (length before) (sizing_place bounds)) (cuts_code (suc (length before)) rest) last)
        ∙ one_follows (sizing_place bounds) rest before a more all are.0 (λ c is.
        let count : length (before ++ c ∷ []) ≡ suc (length before) = omega (arith, length-append before (c ∷ [])) in
        ap (λ k. does (cuts_code k rest ++ last) (map op (before ++ c ∷ more))) (sym count)
        ∙ ap (λ l. does (cuts_code (length (before ++ c ∷ [])) rest ++ last) (map op l)) (sym (append_assoc before (c ∷ []) more))
        ∙ cuts_follow rest (before ++ c ∷ []) more (all_last (IsItem vs xs) before c all is) are.1
        ∙ then_same (cut_items (before ++ c ∷ []) rest more) _ _ (λ is. ap (λ l. sending (map op l)) (append_assoc before (c ∷ []) is)))
