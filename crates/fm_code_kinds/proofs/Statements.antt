-- In code that has its kinds no statement is stuck.
use Rattle.std.proofs.Common.{◌≡◌, ℕ, zero, suc, ◌+◌, ◌-◌, ◌<◌, ℤ, Bool, true, false, cond, ◌&&◌, ◌==◌, Option, Some, None, List, [], ◌∷◌, length, get_or, drop, drop-cons, reverse, refl, sym, ap, subst, arith}
use Rattle.std.proofs.lemmas.Option.{slice_get-get_or}
use Rattle.fm_code.specs.declared.body.Frame.{Frame}
use Rattle.fm_code.specs.declared.instr.End.{End}
use Rattle.fm_code.specs.declared.instr.End.TheVariants as end
use Rattle.fm_code.specs.declared.instr.Meet.{Meet}
use Rattle.fm_code.specs.declared.instr.Meet.TheVariants as meet
use Rattle.fm_code.specs.declared.instr.Instr.{Instr}
use Rattle.fm_code.specs.declared.instr.Instr.TheVariants as instr
use Rattle.fm_code.specs.declared.scratch.Scratch.{Scratch}
use Rattle.fm_code.specs.Acts.{Act, StatementEnd, evaluates, builds, ends, meets, act, then_work, work, nothing, statement}
use Rattle.fm_code.specs.Acts as acts
use Rattle.fm_code_kinds.specs.declared.sorts.Sort.{Sort}
use Rattle.fm_code_kinds.specs.declared.sorts.Cell.{Cell}
use Rattle.fm_code_kinds.specs.declared.sorts.Sort.TheVariants.{Integer, Logical, In, Out}
use Rattle.fm_code_kinds.specs.declared.sorts.Shape.{Shape}
use Rattle.fm_code_kinds.specs.declared.sorts.Shapes.{Shapes}
use Rattle.fm_code_kinds.specs.Shapes.{sort_at, words_of, same_sort, is_word, is_process, is_subroutine, is_function, are_words, single, fields_of}
use Rattle.fm_code_kinds.specs.declared.kinds.Kind.{Kind}
use Rattle.fm_code_kinds.specs.declared.kinds.Kind.TheVariants as kinds
use Rattle.fm_code_kinds.specs.Effects as effects
use Rattle.fm_code_kinds.specs.Effects.{Effect, results_in, only_results, without_words, with_word, operands_on, over_where, ending, ends_word, at_loop, at_port, at_two, sorted, if_in, if_out, ended, met, evaluated, built, goes_on, effect, with_place, given_where, calls_fit, fit_fields, all_outports, fits_sent, fits_received, is_port_sort}
use Rattle.fm_code_kinds.specs.Fitting.{Stands, last_loop, LoopStands, FrameFits, Fits, GoesOn, FailsAlone, Fine, EndsFine}
use Rattle.fm_code_kinds.specs.Kinded.{Coded, Lists, IsFine, AreKinds, results}
use Rattle.fm_code_kinds.proofs.Places.{AreInside}
use Rattle.fm_code_kinds.proofs.Evaluating.{evaluates_goes}
use Rattle.fm_code_kinds.proofs.Building.{builds_goes}
use Rattle.fm_code_kinds.proofs.Ending.{IsOver, ends_move, meets_move}

-- ---- what ends a statement doesn't go on inside it

abbrev NotOn : Effect → Type 0
NotOn (effects.On ks) = ⊥
NotOn (effects.Over to n) = Unit {0}
NotOn effects.Ill = Unit {0}

cond_not : (b : Bool) (e : Effect) → NotOn e → NotOn (cond b e effects.Ill)
cond_not true e n = n
cond_not false e n = tt

where_not : (b : Bool) (to : List ℕ) → NotOn (over_where b to)
where_not true to = tt
where_not false to = tt

ending_not : (to : List ℕ) (o : Option (List Kind)) → NotOn (ending to o)
ending_not to None = tt
ending_not to (Some ks) = cond_not (only_results ks) (effects.Over to 0) tt

loop_not : (ks : List Kind) (n : ℕ) (to : List ℕ) → NotOn (at_loop ks n to)
loop_not [] n to = tt
loop_not (kinds.Returned ∷ ks) n to = tt
loop_not (kinds.Word r ∷ ks) n to = tt
loop_not (kinds.Operand o ∷ ks) n to = tt
loop_not (kinds.LoopOf l ∷ ks) n to = ending_not to (without_words n ks)

sorted_not : (o : Option Sort) (f : Sort → Effect) → ((s : Sort) → NotOn (f s)) → NotOn (sorted o f)
sorted_not None f h = tt
sorted_not (Some s) f h = h s

port_not : (cells : List Cell) (ks : List Kind) (f : Sort → Effect) → ((s : Sort) → NotOn (f s)) → NotOn (at_port cells ks f)
port_not cells [] f h = tt
port_not cells (kinds.Returned ∷ ks) f h = tt
port_not cells (kinds.Word None ∷ ks) f h = tt
port_not cells (kinds.Word (Some s) ∷ ks) f h = sorted_not (sort_at cells s) (λ t. cond (only_results ks) (f t) effects.Ill) (λ t. cond_not (only_results ks) (f t) (h t))
port_not cells (kinds.Operand o ∷ ks) f h = tt
port_not cells (kinds.LoopOf l ∷ ks) f h = tt

two_not : (cells : List Cell) (ks : List Kind) (f : Sort → Sort → Effect) → ((r s : Sort) → NotOn (f r s)) → NotOn (at_two cells ks f)
two_not cells [] f h = tt
two_not cells (kinds.Returned ∷ ks) f h = tt
two_not cells (kinds.Word None ∷ ks) f h = tt
two_not cells (kinds.Word (Some s) ∷ ks) f h = sorted_not (sort_at cells s) (λ t. at_port cells ks (λ r. f r t)) (λ t. port_not cells ks (λ r. f r t) (λ r. h r t))
two_not cells (kinds.Operand o ∷ ks) f h = tt
two_not cells (kinds.LoopOf l ∷ ks) f h = tt

in_not : (f : ℕ → Effect) → ((t : ℕ) → NotOn (f t)) → (s : Sort) → NotOn (if_in s f)
in_not f h Integer = tt
in_not f h Logical = tt
in_not f h (In t) = h t
in_not f h (Out t) = tt

out_not : (f : ℕ → Effect) → ((t : ℕ) → NotOn (f t)) → (s : Sort) → NotOn (if_out s f)
out_not f h Integer = tt
out_not f h Logical = tt
out_not f h (In t) = tt
out_not f h (Out t) = h t

module _ (ss : Shapes) (u : Shape) (at : ℕ) where
  ended_not : (i : End) (ks : List Kind) → NotOn (ended ss u at i ks)
  ended_not (end.Goto to) ks = where_not (only_results ks) (to ∷ [])
  ended_not (end.Test holding failing) ks = ending_not (holding ∷ failing ∷ []) (with_word ks (λ s ks. Some ks))
  ended_not (end.Store k to) ks = cond_not (are_words u.cells (single k)) (ends_word ks (to ∷ [])) (ending_not (to ∷ []) (with_word ks (λ s ks. Some ks)))
  ended_not (end.StoreAt to) ks = ending_not (to ∷ []) (with_word ks (λ s ks. with_place ks (λ t ks. given_where (are_words u.cells t) ks)))
  ended_not (end.Enter body behind) ks = loop_not ks 3 (body ∷ behind ∷ [])
  ended_not (end.Again body behind) ks = loop_not ks 0 (body ∷ behind ∷ [])
  ended_not (end.Print to) ks = where_not (only_results ks) (to ∷ [])
  ended_not (end.Call n to) ks = where_not (calls_fit ss u n is_subroutine (operands_on ks)) (to ∷ [])
  ended_not (end.Refer n to) ks = cond_not (calls_fit ss u n is_function (operands_on ks) && (to == suc at)) (effects.Over (to ∷ []) (suc (results_in ks))) tt
  ended_not end.Return ks = where_not (is_subroutine u.heading && only_results ks) []
  ended_not (end.ReturnValue k) ks = where_not (is_function u.heading && (are_words u.cells (single k) && only_results ks)) []
  ended_not (end.Start n to) ks = where_not (calls_fit ss u n is_process (operands_on ks)) (to ∷ [])

  met_not : (i : Meet) (ks : List Kind) → NotOn (met ss u at i ks)
  met_not meet.Stop ks = where_not (only_results ks) []
  met_not (meet.Send next) ks =
      let t = operands_on ks in
      let f : ℕ → Effect = λ type. over_where (fit_fields (fits_sent u.cells) (fields_of ss type) (reverse t.operands)) (next ∷ []) in
      port_not u.cells t.rest (λ s. if_out s f) (out_not f (λ type. where_not (fit_fields (fits_sent u.cells) (fields_of ss type) (reverse t.operands)) (next ∷ [])))
  met_not (meet.Receive next) ks =
      let t = operands_on ks in
      let f : ℕ → Effect = λ type. over_where (fit_fields (fits_received u.cells) (fields_of ss type) (reverse t.operands)) (next ∷ []) in
      port_not u.cells t.rest (λ s. if_in s f) (in_not f (λ type. where_not (fit_fields (fits_received u.cells) (fields_of ss type) (reverse t.operands)) (next ∷ [])))
  met_not (meet.ReceiveOr at_end next) ks =
      let t = operands_on ks in
      let f : ℕ → Effect = λ type. over_where (fit_fields (fits_received u.cells) (fields_of ss type) (reverse t.operands)) (at_end ∷ next ∷ []) in
      port_not u.cells t.rest (λ s. if_in s f) (in_not f (λ type. where_not (fit_fields (fits_received u.cells) (fields_of ss type) (reverse t.operands)) (at_end ∷ next ∷ [])))
  met_not (meet.Channel next) ks =
      two_not u.cells ks (λ i o. if_in i (λ type. over_where (same_sort o (Out type)) (next ∷ []))) (λ i o. in_not (λ type. over_where (same_sort o (Out type)) (next ∷ [])) (λ type. where_not (same_sort o (Out type)) (next ∷ [])) i)
  met_not (meet.ChannelFrom next) ks =
      two_not u.cells ks (λ o i. if_in i (λ type. over_where (same_sort o (Out type)) (next ∷ []))) (λ o i. in_not (λ type. over_where (same_sort o (Out type)) (next ∷ [])) (λ type. where_not (same_sort o (Out type)) (next ∷ [])) i)
  met_not (meet.Merger next) ks =
      let t = operands_on ks in
      let f : ℕ → Effect = λ type. over_where (all_outports u.cells type (reverse t.operands)) (next ∷ []) in
      port_not u.cells t.rest (λ s. if_in s f) (in_not f (λ type. where_not (all_outports u.cells type (reverse t.operands)) (next ∷ [])))
  met_not (meet.EndChannel next) ks = port_not u.cells ks (λ s. if_out s (λ type. effects.Over (next ∷ []) 0)) (out_not (λ type. effects.Over (next ∷ []) 0) (λ type. tt))
  met_not (meet.MovePort next) ks = two_not u.cells ks (λ a b. over_where (same_sort a b && is_port_sort (Some a)) (next ∷ [])) (λ a b. where_not (same_sort a b && is_port_sort (Some a)) (next ∷ []))
  met_not (meet.Probe next) ks =
      two_not u.cells ks (λ q e. if_in q (λ type. over_where (is_word e) (next ∷ []))) (λ q e. in_not (λ type. over_where (is_word e) (next ∷ [])) (λ type. where_not (is_word e) (next ∷ [])) q)
  met_not (meet.Begin next) ks = where_not (only_results ks && (next == suc at)) (next ∷ [])
  met_not (meet.Join next) ks = where_not (only_results ks) (next ∷ [])

-- ---- one instruction after the other

fails_fine : (ss : Shapes) (u : Shape) (t : StatementEnd) → FailsAlone t → Fine ss u t
fails_fine ss u (acts.Goes to m) f = absurd f
fails_fine ss u (acts.Prints to line) f = absurd f
fails_fine ss u (acts.Calls n to operands) f = absurd f
fails_fine ss u (acts.Refers n to operands) f = absurd f
fails_fine ss u acts.Returns f = absurd f
fails_fine ss u (acts.ReturnsValue v) f = absurd f
fails_fine ss u (acts.Starts n to operands place) f = absurd f
fails_fine ss u (acts.Closes port to) f = absurd f
fails_fine ss u (acts.Moves from into to) f = absurd f
fails_fine ss u (acts.Fails fault) f = tt
fails_fine ss u (acts.Asks a) f = absurd f
fails_fine ss u acts.Stuck f = absurd f

goes_with : (ss : Shapes) (u : Shape) (loops : ℕ) (out : List Kind) (m : Frame) (a : Act) (f : List ℤ → Scratch → StatementEnd) → GoesOn u.cells loops out m a → ((s : List ℤ) (b : Scratch) → Fits u.cells loops out s b m → Fine ss u (f s b)) → Fine ss u (then_work a f)
goes_with ss u loops out m (acts.On s b) f g h = h s b g
goes_with ss u loops out m (acts.Over t) f g h = fails_fine ss u t g

ends_with : (ss : Shapes) (u : Shape) (a : Act) (f : List ℤ → Scratch → StatementEnd) → EndsFine ss u a → Fine ss u (then_work a f)
ends_with ss u (acts.On s b) f e = absurd e
ends_with ss u (acts.Over t) f e = e

-- ---- where a statement begins

all_results : (n : ℕ) → results_in (results n) ≡ n
all_results zero = refl
all_results (suc n) = ap suc (all_results n)

nothing_stands : (n : ℕ) → Stands (results n) [] []
nothing_stands zero = refl
nothing_stands (suc n) = nothing_stands n

no_loop : (cells : List Cell) (loops n : ℕ) → LoopStands cells loops (last_loop (results n)) None
no_loop cells loops zero = tt
no_loop cells loops (suc n) = no_loop cells loops n

module _ (ss : Shapes) (u : Shape) (inside : AreInside (words_of u.cells) u.cells) (c : Coded) (lists : Lists) (kinds_are : AreKinds ss u c lists) (m : Frame) where
  fine_over : (a : ℕ) (e : Effect) → IsFine c.code lists a e → NotOn e → IsOver e
  fine_over a (effects.On ks) fine n = absurd n
  fine_over a (effects.Over to n) fine not = tt
  fine_over a effects.Ill fine n = absurd fine

  -- behind an instruction that goes on
  on_walks : (a : ℕ) (o : Option (List Kind)) (x : Act) → IsFine c.code lists a (goes_on o) → ((out : List Kind) → o ≡ Some out → GoesOn u.cells c.loops out m x) → (suc a < length c.code → (s : List ℤ) (b : Scratch) → Fits u.cells c.loops (lists (suc a)) s b m → Fine ss u (work (drop (suc a) c.code) s b m))
      → Fine ss u (then_work x (λ s b. work (drop (suc a) c.code) s b m))
  on_walks a None x fine goes next = absurd fine
  on_walks a (Some out) x fine goes next =
      goes_with ss u c.loops out m x (λ s b. work (drop (suc a) c.code) s b m) (goes out refl)
      (λ s b fits. next fine.inside s b (subst (λ (ks : List Kind). Fits u.cells c.loops ks s b m) (sym fine.list) fits))

  step : (a : ℕ) (i : Instr) → IsFine c.code lists a (effect ss u c.loops a i (lists a)) → (suc a < length c.code → (s : List ℤ) (b : Scratch) → Fits u.cells c.loops (lists (suc a)) s b m → Fine ss u (work (drop (suc a) c.code) s b m))
      → (s : List ℤ) (b : Scratch) → Fits u.cells c.loops (lists a) s b m → Fine ss u (then_work (act i s b m) (λ s b. work (drop (suc a) c.code) s b m))
  step a (instr.Eval i) fine next s b fits = on_walks a (evaluated u.cells i (lists a)) (evaluates i s b m) fine (λ out is. evaluates_goes u.cells c.loops inside m i (lists a) out s b fits is) next
  step a (instr.Build i) fine next s b fits = on_walks a (built u.cells c.loops i (lists a)) (builds i s b m) fine (λ out is. builds_goes u.cells c.loops inside m i (lists a) out s b fits is) next
  step a (instr.End i) fine next s b fits =
      ends_with ss u (ends i s b m) (λ s b. work (drop (suc a) c.code) s b m) (ends_move ss u c.loops inside m a i (lists a) s b fits (fine_over a (ended ss u a i (lists a)) fine (ended_not ss u a i (lists a))))
  step a (instr.Meet i) fine next s b fits =
      ends_with ss u (meets i s b m) (λ s b. work (drop (suc a) c.code) s b m) (meets_move ss u c.loops inside m a i (lists a) s b fits (fine_over a (met ss u a i (lists a)) fine (met_not ss u a i (lists a))))

  stop : Instr
  stop = instr.Meet meet.Stop

  walk : (n a : ℕ) → a + n ≡ length c.code → a < length c.code → (s : List ℤ) (b : Scratch) → Fits u.cells c.loops (lists a) s b m → Fine ss u (work (drop a c.code) s b m)
  walk zero a whole low s b fits = absurd (omega (arith, whole, low))
  walk (suc n) a whole low s b fits =
      let i = get_or c.code a stop in
      let here : drop a c.code ≡ i ∷ drop (suc a) c.code = drop-cons c.code a stop low in
      let fine = kinds_are.each a i (slice_get-get_or c.code a stop low) in
      subst (λ (is : List Instr). Fine ss u (work is s b m)) (sym here) (step a i fine (λ next. walk n (suc a) (omega (arith, whole)) next) s b fits)

  -- a statement that begins where no more than results are on the list
  pub statement_moves : (a n : ℕ) → a < length c.code → lists a ≡ results n → FrameFits u.cells c.loops n m → Fine ss u (statement c.code a m)
  statement_moves a n low list frame =
      walk (length c.code - a) a (omega (arith, low)) low [] nothing (subst (λ (ks : List Kind). Fits u.cells c.loops ks [] nothing m) (sym list) (begun n frame))
    where
      begun : (n : ℕ) → FrameFits u.cells c.loops n m → Fits u.cells c.loops (results n) [] nothing m
      begun n frame = record { stands = nothing_stands n; counts = no_loop u.cells c.loops n; frame = subst (λ (k : ℕ). FrameFits u.cells c.loops k m) (sym (all_results n)) frame }
