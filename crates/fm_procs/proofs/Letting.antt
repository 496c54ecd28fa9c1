-- No statement asks that ports be let go: a statement that lets them go does it by itself.
use Rattle.std.proofs.Common.{◌≡◌, ℕ, ℤ, Bool, true, false, cond, Option, Some, None, Result, Ok, Err, List, [], ◌∷◌, length, take, drop, reverse, refl, sym, ap, ◌∙◌}
use Rattle.std.specs.Prelude.{pos, ◌&&◌, nat_lt, nat_le, slice_get}
use Rattle.std.specs.Ordering.{int_eq}
use Rattle.fm_base.specs.declared.fault.Fault.TheVariants.{NullPort}
use Rattle.fm_base.specs.declared.fault.Fault.{Fault}
use Rattle.fm_values.specs.Intrinsics.{intrinsic_value}
use Rattle.fm_values.specs.Operations.{applied_words}
use Rattle.fm_values.specs.Trips.{trips_behind}
use Rattle.fm_values.specs.Values.{sum, product, opposite}
use Rattle.fm_map.specs.Placement.{Seat}
use Rattle.fm_code.specs.declared.ask.Ask.{Ask}
use Rattle.fm_code.specs.declared.ask.Ask.TheVariants as ask
use Rattle.fm_code.specs.declared.ask.Operand.{Operand}
use Rattle.fm_code.specs.declared.body.Body.{Body}
use Rattle.fm_code.specs.declared.body.Frame.{Frame}
use Rattle.fm_code.specs.declared.body.Trips.{Trips}
use Rattle.fm_code.specs.declared.instr.Build.{Build}
use Rattle.fm_code.specs.declared.instr.Build.TheVariants as build
use Rattle.fm_code.specs.declared.instr.End.{End}
use Rattle.fm_code.specs.declared.instr.End.TheVariants as end
use Rattle.fm_code.specs.declared.instr.Eval.{Eval}
use Rattle.fm_code.specs.declared.instr.Eval.TheVariants as eval
use Rattle.fm_code.specs.declared.instr.Instr.{Instr}
use Rattle.fm_code.specs.declared.instr.Instr.TheVariants as instr
use Rattle.fm_code.specs.declared.instr.Loop.{Loop}
use Rattle.fm_code.specs.declared.instr.Meet.{Meet}
use Rattle.fm_code.specs.declared.instr.Meet.TheVariants as meet
use Rattle.fm_code.specs.declared.scratch.Place.{Place}
use Rattle.fm_code.specs.declared.scratch.Scratch.{Scratch}
use Rattle.fm_code.specs.Acts as acts
use Rattle.fm_code.specs.Acts.{StatementEnd, Act, On, Over, with_one, with_two, with_three, found, gives, at_word, by_port, at_port, evaluates, builds, ends, ends_trip, meets, act, then_work, work, nothing}
use Rattle.fm_code.specs.Passing.{backs_fit}
use Rattle.fm_code.specs.Statements as code
use Rattle.fm_code.specs.Statements.{Action, CodeUnit, action_by, action_of, statement_end_of, calls, refers, is_passed, unit_at, code_in, seat_of, fitted_in, gives_back, results_in, starts, starts_at}

-- whether it asks for that
abbrev pub lets_go : Ask → Bool
lets_go (ask.Fail line fault) = false
lets_go (ask.LetGo slots) = true
lets_go (ask.Channel inport outport next) = false
lets_go (ask.Merger inport outports next) = false
lets_go (ask.Send slot items next) = false
lets_go (ask.Receive slot items status at_end next) = false
lets_go (ask.Probe slot empty next) = false
lets_go (ask.Begin next) = false
lets_go (ask.Join next) = false
lets_go ask.End = false

abbrev lets_end : StatementEnd → Bool
lets_end (acts.Goes to m) = false
lets_end (acts.Prints to line) = false
lets_end (acts.Calls unit to operands) = false
lets_end (acts.Refers unit to operands) = false
lets_end acts.Returns = false
lets_end (acts.ReturnsValue value) = false
lets_end (acts.Starts unit to operands place) = false
lets_end (acts.Closes port to) = false
lets_end (acts.Moves from into to) = false
lets_end (acts.Fails fault) = false
lets_end (acts.Asks a) = lets_go a
lets_end acts.Stuck = false

abbrev lets_act : Act → Bool
lets_act (On s b) = false
lets_act (Over t) = lets_end t

abbrev lets_action : Action → Bool
lets_action code.Stuck = false
lets_action (code.Own after lines drops cost) = false
lets_action (code.Meets a) = lets_go a

abbrev Keeps : Act → Type 0
Keeps a = lets_act a ≡ false

-- ---- operands from the stack

one : (s : List ℤ) (f : ℤ → List ℤ → Act) → ((x : ℤ) (s : List ℤ) → Keeps (f x s)) → Keeps (with_one s f)
one [] f h = refl
one (x ∷ s) f h = h x s

two : (s : List ℤ) (f : ℤ → ℤ → List ℤ → Act) → ((x y : ℤ) (s : List ℤ) → Keeps (f x y s)) → Keeps (with_two s f)
two [] f h = refl
two (y ∷ []) f h = refl
two (y ∷ x ∷ s) f h = h x y s

three : (s : List ℤ) (f : ℤ → ℤ → ℤ → List ℤ → Act) → ((x y z : ℤ) (s : List ℤ) → Keeps (f x y z s)) → Keeps (with_three s f)
three [] f h = refl
three (z ∷ []) f h = refl
three (z ∷ y ∷ []) f h = refl
three (z ∷ y ∷ x ∷ s) f h = h x y z s

whether : (b : Bool) (a : Act) → Keeps a → Keeps (cond b a (Over acts.Stuck))
whether true a h = h
whether false a h = refl

there : {X : Type 0} (o : Option X) (f : X → Act) → ((x : X) → Keeps (f x)) → Keeps (found o f)
there None f h = refl
there (Some x) f h = h x

given : {X : Type 0} (r : Result X Fault) (f : X → Act) → ((x : X) → Keeps (f x)) → Keeps (gives r f)
given (Ok x) f h = h x
given (Err fault) f h = refl

worded : (m : Frame) (x : ℤ) (f : ℕ → Act) → ((k : ℕ) → Keeps (f k)) → Keeps (at_word m x f)
worded m x f h = there (acts.numbered m (acts.number_in x)) f h

slotted : (m : Frame) (k : ℕ) (f : ℤ → Act) → ((v : ℤ) → Keeps (f v)) → Keeps (by_port m k f)
slotted m k f h = there (slice_get m.words k) _ (λ v. null (int_eq v (pos 0)) (f v) (h v))
  where
    null : (b : Bool) (a : Act) → Keeps a → Keeps (cond b (Over (acts.Fails NullPort)) a)
    null true a h = refl
    null false a h = h

port : (m : Frame) (x : ℤ) (f : ℤ → Act) → ((v : ℤ) → Keeps (f v)) → Keeps (at_port m x f)
port m x f h = worded m x (λ k. by_port m k f) (λ k. slotted m k f h)

-- ---- instructions

evaluating : (i : Eval) (s : List ℤ) (b : Scratch) (m : Frame) → Keeps (evaluates i s b m)
evaluating (eval.Push n) s b m = refl
evaluating (eval.Load k) s b m = there (slice_get m.words k) _ (λ v. refl)
evaluating (eval.Result n) s b m = there (slice_get m.results n) _ (λ v. refl)
evaluating (eval.Subscript low extent) s b m = one s _ (λ x s. given (acts.distance low extent x) _ (λ d. refl))
evaluating (eval.Dimension low extent) s b m = two s _ (λ x place s. given (acts.distance low extent x) _ (λ d. given (product (pos extent) place) _ (λ p. given (sum d p) _ (λ n. refl))))
evaluating (eval.Element first) s b m = one s _ (λ n s. given (sum (pos first) n) _ (λ k. there (acts.word_of m k) _ (λ v. refl)))
evaluating (eval.Locate first) s b m = one s _ (λ n s. given (sum (pos first) n) _ (λ k. refl))
evaluating (eval.Apply o) s b m = two s _ (λ x y s. given (applied_words o x y) _ (λ v. refl))
evaluating eval.Negate s b m = one s _ (λ x s. given (opposite x) _ (λ v. refl))
evaluating eval.Not s b m = one s _ (λ x s. refl)
evaluating (eval.Intrinsic f n) s b m = whether (nat_le n (length s)) _ (given (intrinsic_value f (reverse (take n s))) _ (λ v. refl))

building : (i : Build) (s : List ℤ) (b : Scratch) (m : Frame) → Keeps (builds i s b m)
building (build.Letter byte) s b m = refl
building build.ShowText s b m = refl
building build.Show s b m = one s _ (λ x s. refl)
building build.ShowTruth s b m = one s _ (λ x s. refl)
building (build.ShowWords span) s b m = whether (acts.has_span (length m.words) span) _ refl
building (build.ShowTruths span) s b m = whether (acts.has_span (length m.words) span) _ refl
building build.PassValue s b m = one s _ (λ x s. refl)
building (build.PassWords span) s b m = whether (acts.has_span (length m.words) span) _ refl
building (build.PassPorts span) s b m = whether (acts.has_span (length m.words) span) _ refl
building build.PassWordAt s b m = one s _ (λ x s. worded m x _ (λ k. refl))
building build.PassPortAt s b m = one s _ (λ x s. worded m x _ (λ k. refl))
building build.Status s b m = one s _ (λ x s. worded m x _ (λ k. refl))
building (build.Loop l) s b m = refl
building (build.Location n) s b m = whether (nat_le n (length s)) _ refl
building build.Submachine s b m = two s _ (λ low high s. refl)
building (build.Cut item size) s b m = one s _ (λ x rest. port m x _ (λ slot. cutting item (slice_get b.operands item)))
  where
    cutting : (item : ℕ) (o : Option Operand) → Keeps (acts.cuts_at item (acts.size_in m (slice_get (take item b.operands) size)) o s b)
    cutting item None = refl
    cutting item (Some o) = given (acts.cut_to (acts.size_in m (slice_get (take item b.operands) size)) o) _ (λ o. refl)

ending_trip : (l : Loop) (body behind : ℕ) (t : Option Trips) (m : Frame) → Keeps (ends_trip l body behind t m)
ending_trip l body behind None m = refl
ending_trip l body behind (Some t) m = there (slice_get m.words l.word) _ (λ x. given (sum x t.by) _ (λ v. whether (nat_lt l.number (length m.loops) && nat_lt l.word (length m.words)) _ refl))

ending : (i : End) (s : List ℤ) (b : Scratch) (m : Frame) → Keeps (ends i s b m)
ending (end.Goto to) s b m = refl
ending (end.Test holding failing) s b m = one s _ (λ x s. refl)
ending (end.Store k to) s b m = one s _ (λ v s. whether (nat_lt k (length m.words)) _ refl)
ending (end.StoreAt to) s b m = two s _ (λ x v s. worded m x _ (λ k. whether (nat_lt k (length m.words)) _ refl))
ending (end.Enter body behind) s b m = three s _ (λ from to step s. there b.counts _ (λ l. given (trips_behind from to step) _ (λ n. whether (nat_lt l.number (length m.loops) && nat_lt l.word (length m.words)) _ refl)))
ending (end.Again body behind) s b m = there b.counts _ (λ l. there (slice_get m.loops l.number) _ (λ t. ending_trip l body behind t m))
ending (end.Print to) s b m = refl
ending (end.Call unit to) s b m = refl
ending (end.Refer unit to) s b m = refl
ending end.Return s b m = refl
ending (end.ReturnValue k) s b m = there (slice_get m.words k) _ (λ v. refl)
ending (end.Start unit to) s b m = refl

meeting : (i : Meet) (s : List ℤ) (b : Scratch) (m : Frame) → Keeps (meets i s b m)
meeting meet.Stop s b m = refl
meeting (meet.Send next) s b m = one s _ (λ x s. port m x _ (λ slot. refl))
meeting (meet.Receive next) s b m = one s _ (λ x s. port m x _ (λ slot. refl))
meeting (meet.ReceiveOr at_end next) s b m = one s _ (λ x s. port m x _ (λ slot. refl))
meeting (meet.Channel next) s b m = two s _ (λ x y s. worded m x _ (λ i. worded m y _ (λ o. refl)))
meeting (meet.ChannelFrom next) s b m = two s _ (λ x y s. worded m x _ (λ o. worded m y _ (λ i. refl)))
meeting (meet.Merger next) s b m = one s _ (λ x s. worded m x _ (λ i. refl))
meeting (meet.EndChannel next) s b m = one s _ (λ x s. worded m x _ (λ k. slotted m k _ (λ slot. refl)))
meeting (meet.MovePort next) s b m = two s _ (λ x y s. worded m x _ (λ from. worded m y _ (λ into. refl)))
meeting (meet.Probe next) s b m = two s _ (λ x y s. worded m y _ (λ k. port m x _ (λ slot. refl)))
meeting (meet.Begin next) s b m = refl
meeting (meet.Join next) s b m = refl

acting : (i : Instr) (s : List ℤ) (b : Scratch) (m : Frame) → Keeps (act i s b m)
acting (instr.Eval i) s b m = evaluating i s b m
acting (instr.Build i) s b m = building i s b m
acting (instr.End i) s b m = ending i s b m
acting (instr.Meet i) s b m = meeting i s b m

-- ---- statements

onward : (a : Act) (f : List ℤ → Scratch → StatementEnd) → Keeps a → ((s : List ℤ) (b : Scratch) → lets_end (f s b) ≡ false) → lets_end (then_work a f) ≡ false
onward (On s b) f h rest = rest s b
onward (Over t) f h rest = h

working : (is : List Instr) (s : List ℤ) (b : Scratch) (m : Frame) → lets_end (work is s b m) ≡ false
working [] s b m = refl
working (i ∷ is) s b m = onward (act i s b m) (λ s b. work is s b m) (acting i s b m) (λ s b. working is s b m)

either : (b : Bool) (a : Action) → lets_action a ≡ false → lets_action (cond b a code.Stuck) ≡ false
either true a h = h
either false a h = refl

calling : (n : ℕ) (u : Option CodeUnit) (b : Body) (to : ℕ) (os : List Operand) → lets_action (calls n u b to os) ≡ false
calling n None b to os = refl
calling n (Some u) b to os = either (is_passed u b os) _ refl

referring : (n : ℕ) (u : Option CodeUnit) (b : Body) (to : ℕ) (os : List Operand) → lets_action (refers n u b to os) ≡ false
referring n None b to os = refl
referring n (Some u) b to os = either (is_passed u b os) _ refl

giving : (b : Body) (below : List Frame) → lets_action (gives_back b below) ≡ false
giving b [] = refl
giving b (c ∷ below) = either (backs_fit (length c.words) (length b.frame.words) b.frame.backs) _ refl

resulting : (b : Body) (v : ℤ) (below : List Frame) → lets_action (results_in b v below) ≡ false
resulting b v [] = refl
resulting b v (c ∷ below) = refl

seated : (n : ℕ) (u : CodeUnit) (b : Body) (to : ℕ) (os : List Operand) (r : Result Seat Fault) → lets_action (starts_at n u b to os r) ≡ false
seated n u b to os (Err fault) = refl
seated n u b to os (Ok seat) = either (is_passed u b os) _ refl

starting : (n : ℕ) (u : Option CodeUnit) (b : Body) (to : ℕ) (os : List Operand) (place : Place) → lets_action (starts n u b to os place) ≡ false
starting n None b to os place = refl
starting n (Some u) b to os place = seated n u b to os (fitted_in u (seat_of b place))

ended : (b : Body) (t : StatementEnd) → lets_end t ≡ false → lets_action (action_by b t) ≡ false
ended b (acts.Goes to m) h = refl
ended b (acts.Prints to line) h = refl
ended b (acts.Calls n to os) h = calling n (unit_at b n) b to os
ended b (acts.Refers n to os) h = referring n (unit_at b n) b to os
ended b acts.Returns h = giving b b.below
ended b (acts.ReturnsValue v) h = resulting b v b.below
ended b (acts.Starts n to os place) h = starting n (unit_at b n) b to os place
ended b (acts.Closes k to) h = refl
ended b (acts.Moves from into to) h = refl
ended b (acts.Fails fault) h = refl
ended b (acts.Asks a) h = h
ended b acts.Stuck h = refl

-- no body asks that ports be let go
pub never_lets : (b : Body) (slots : List ℤ) → action_of b ≡ code.Meets (ask.LetGo slots) → ⊥
never_lets b slots e = cc (sym (ended b (statement_end_of b) (working (drop b.frame.address (code_in (unit_at b b.frame.unit))) [] nothing b.frame)) ∙ ap lets_action e)
