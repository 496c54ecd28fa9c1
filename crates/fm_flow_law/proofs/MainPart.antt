-- Main's part: before the end of its block each port stands in a variable that its CHANNEL names, an outport in none that a call
-- has given, and the starts have ports of their calls; from then on main holds no outport.
use Rattle.std.proofs.lemmas.Bool.Decides.{nat_tests}
use Rattle.std.proofs.Common.{◌≡◌, ◌⊎◌, inl, inr, ℕ, suc, ◌<◌, ◌≤◌, ◌==◌, ◌||◌, ◌&&◌, Bool, true, false, Option, Some, None, List, [], ◌∷◌, ◌++◌, map, slice_get, Result, Ok, Err, refl, sym, ap, ◌∙◌, subst, arith}
use Rattle.std.specs.List.{flat_map}
use Rattle.fm_base.specs.declared.fault.Fault.{Fault}
use Rattle.fm_base.specs.declared.path.ChanName.{ChanName}
use Rattle.fm_base.specs.declared.port.PortValue.{PortValue}
use Rattle.fm_base.specs.declared.port.PortValue.TheVariants.{Writer, Reader}
use Rattle.fm_base.specs.Channels.{Item, channel_of, message_ports}
use Rattle.fm_tree.specs.PortFields.{PortFields, In, Out}
use Rattle.fm_tree.specs.Tree.{Tree, trees_from}
use Rattle.fm_tree.specs.declared.form.UnitKind.TheVariants as unit_kind
use Rattle.fm_tree.specs.declared.program_unit.Entry.{Entry}
use Rattle.fm_tree.specs.declared.statement.CallPart.{CallPart}
use Rattle.fm_tree.specs.declared.statement.Where.{Where}
use Rattle.fm_tree.specs.declared.statement.Var.{Var}
use Rattle.fm_tree.specs.declared.statement.Simple.TheVariants as simple
use Rattle.fm_tree.specs.declared.statement.Stmt.{Stmt}
use Rattle.fm_tree.specs.declared.statement.Stmt.TheVariants as stmt
use Rattle.fm_symbols.specs.declared.names.Variable.{Variable}
use Rattle.fm_map.specs.Placement.{Seat, fitted}
use Rattle.fm_net.specs.Machine.{Need, Nothing, New, Children, Reply, Onward, Ask, Stop, Go}
use Rattle.fm_net.specs.Machine as net
use Rattle.fm_net.specs.Owned.{count, one}
use Rattle.fm_net.specs.Lawful.{got, IsLawfulAsk, IsLawfulStep, MayBring, holds, ports_from, sum_of}
use Rattle.fm_net.specs.Typed.{AllIn}
use Rattle.fm_net.proofs.Counts.{count-append, count-nil}
use Rattle.fm_rules.specs.Links.{links_of}
use Rattle.fm_rules.specs.declared.program.Program.{Program}
use Rattle.fm_mean.specs.Operands.{◌>>=◌}
use Rattle.fm_mean.specs.Names.{ProgramUnit, Point, unit_at, unit_named, kind_of, main_number, point_at, line_of}
use Rattle.fm_mean.specs.declared.place.Actual.{Actual}
use Rattle.fm_mean.specs.declared.place.Actual.TheVariants.{Given, Taken}
use Rattle.fm_mean.specs.declared.place.Back.{Back}
use Rattle.fm_mean.specs.declared.place.Span.{Span}
use Rattle.fm_mean.specs.Places.{placed_all, written}
use Rattle.fm_mean.specs.Evaluate.{Scope, actuals_of, place_of, refs_in_all, refs_in_var}
use Rattle.fm_mean.specs.Fits.{FrameFits, FramesFit, ValuesFit, IsFine, variables_of}
use Rattle.fm_mean.specs.Process.{Start, Frame, Execution, Kid, Phase, Running, Joining, Ended, Faulted, Proc, frame_ports, frames_ports, has_ended, held, is_ended, started_ports}
use Rattle.fm_mean.specs.Calls.{child_of, entered, variables_in}
use Rattle.fm_mean.specs.Actions as action
use Rattle.fm_mean.specs.Actions.{Event, Fail, Make, Begin, Join, End, Action, Rest, Own, Meets, action_in, after_at, arguments_in, at_entry, channel_places, scope_of, where_in}
use Rattle.fm_mean.specs.Steps.{ask, ask_at, ask_event, ask_for, first_proc, language, main_by, main_in, proc_of}
use Rattle.fm_mean.specs.TypedTrees.{StatementHasTypes}
use Rattle.fm_mean.proofs.Determined.{point_entry}
use Rattle.fm_mean.proofs.Lawful.{lawful}
use Rattle.fm_mean.proofs.Points.{point_there}
use Rattle.fm_mean.proofs.ProgramMeanings.{program_has_types}
use Rattle.fm_mean.proofs.Sorts.{parts}
use Rattle.fm_flow_law.specs.Flow.{all_among, any_among, channel_in, channel_out, given, is_among, over, port_in, port_named, sends_ports, started}
use Rattle.fm_flow_law.proofs.Assembled.{AreKids, IsCallOf, IsChildOf, IsMadeAt, IsMainsNeed, Labels, MainPart, MainStep, places_in, types_in}
use Rattle.fm_flow_law.proofs.MainArguments.{okay, IsNarrow, IsPlain, arguments_take, fits_narrow, fits_plain, place_named}
use Rattle.fm_flow_law.proofs.MainWalk.{Allows, AreCalm, AreSimple, Over, Shows, passes, walks}
use Rattle.fm_flow_law.proofs.Ready.{Gives}
use Rattle.fm_flow_law.proofs.Stand.{AllTakeOwn, Left, Stand, entered_keeps, entered_leaves, entered_stand, placed_stand, stand_both, stand_else, stand_found, stand_held, stand_none, taken_variables, unset_stand, written_stand}
use native.Mathlib.Decide.{ℕ_discrete}

never : true ≡ false → ⊥
never e = absurd (cc)

the_entry : (a b : Entry) → Some a ≡ Some b → a ≡ b
the_entry a b e = cc

-- ---- what the statements of the PROGRAM look like

unfoldable pub calls_process : Stmt → Bool
calls_process (stmt.ProcessCall name part) = true
calls_process s = false

unfoldable pub makes_channel : Stmt → Bool
makes_channel (stmt.Simple (simple.Channel in_first i o)) = true
makes_channel s = false

-- each entry goes on to the next; channels are made before calls, and calls before the end of their block; ports are no arrays
-- and carry none
pub record IsShaped (u : ProgramUnit) : Type 0 where
  pub simple : AreSimple u
  pub after : (k : ℕ) (e : Entry) → slice_get u.tree.body k ≡ Some e → e.after ≡ suc k
  pub calls_first : (j k : ℕ) (d e : Entry) → slice_get u.tree.body j ≡ Some d → d.stmt ≡ stmt.EndProcesses → slice_get u.tree.body k ≡ Some e → calls_process e.stmt ≡ true → k < j
  pub channels_first : (j k : ℕ) (d e : Entry) → slice_get u.tree.body j ≡ Some d → calls_process d.stmt ≡ true → slice_get u.tree.body k ≡ Some e → makes_channel e.stmt ≡ true → k < j
  pub channels_open : (j k : ℕ) (d e : Entry) → slice_get u.tree.body j ≡ Some d → d.stmt ≡ stmt.EndProcesses → slice_get u.tree.body k ≡ Some e → makes_channel e.stmt ≡ true → k < j
  pub narrow : AllIn IsNarrow u.names.variables
  pub outports_go : (k : ℕ) (e : Entry) → slice_get u.tree.body k ≡ Some e → all_among (channel_out u e.stmt) (over (given u) u.tree.body) ≡ true

given_by_calls : (u : ProgramUnit) (s : Stmt) → calls_process s ≡ false → given u s ≡ []
unfolding calls_process given
given_by_calls u (stmt.ProcessCall name part) e = absurd (never e)
given_by_calls u s e = refl

passes_no_call : (s : Stmt) → passes s ≡ true → calls_process s ≡ false
unfolding calls_process passes
passes_no_call (stmt.ProcessCall name part) e = absurd (never (sym e))
passes_no_call s e = refl

channel_no_call : (s : Stmt) → makes_channel s ≡ true → calls_process s ≡ false
unfolding calls_process makes_channel
channel_no_call (stmt.ProcessCall name part) e = absurd (never (sym e))
channel_no_call s e = refl

other_port : (d c : ChanName) (w : ℕ) → one (Reader d) (Writer c w) ≡ 0
unfolding one
other_port d c w = refl

in_named : (u : ProgramUnit) (b : Bool) (i o : Var) → channel_in u (stmt.Simple (simple.Channel b i o)) ≡ port_named u i.name
unfolding channel_in
in_named u b i o = refl

out_named : (u : ProgramUnit) (b : Bool) (i o : Var) → channel_out u (stmt.Simple (simple.Channel b i o)) ≡ port_named u o.name
unfolding channel_out
out_named u b i o = refl

channel_makes : (b : Bool) (i o : Var) → makes_channel (stmt.Simple (simple.Channel b i o)) ≡ true
unfolding makes_channel
channel_makes b i o = refl

call_gives : (u : ProgramUnit) (name : List ℕ) (part : Option CallPart) → given u (stmt.ProcessCall name part) ≡ flat_map (port_in u) (arguments_in part)
unfolding given
call_gives u name part = refl

call_starts : (p : Program) (name : List ℕ) (part : Option CallPart) → started p (stmt.ProcessCall name part) ≡ unit_named p name
unfolding started
call_starts p name part = refl

process_calls : (name : List ℕ) (part : Option CallPart) → calls_process (stmt.ProcessCall name part) ≡ true
unfolding calls_process
process_calls name part = refl

-- ---- lists

all_of : (n : ℕ) (ns ms : List ℕ) → all_among ns ms ≡ true → is_among n ns ≡ true → is_among n ms ≡ true
all_of n [] ms h e = absurd (never (sym e))
all_of n (x ∷ ns) ms h e = go (x == n) refl (is_among x ms) refl h e (λ g f. all_of n ns ms g f)
  where
    number_is : (a b : ℕ) → (a == b) ≡ true → a ≡ b
    number_is a b e = grind (arith, nat_tests, e)

    go : (b : Bool) → (x == n) ≡ b → (c : Bool) → is_among x ms ≡ c → (c && all_among ns ms) ≡ true → (b || is_among n ns) ≡ true → (all_among ns ms ≡ true → is_among n ns ≡ true → is_among n ms ≡ true) → is_among n ms ≡ true
    go b same false at h' e' rest = absurd (never (sym h'))
    go true same true at h' e' rest = ap (λ (y : ℕ). is_among y ms) (sym (number_is x n same)) ∙ at
    go false same true at h' e' rest = rest h' e'

any_both : (n : ℕ) (ns ms : List ℕ) → is_among n ns ≡ true → is_among n ms ≡ true → any_among ns ms ≡ true
any_both n [] ms e f = absurd (never (sym e))
any_both n (x ∷ ns) ms e f = go (x == n) refl e (λ h. any_both n ns ms h f)
  where
    number_is : (a b : ℕ) → (a == b) ≡ true → a ≡ b
    number_is a b e = grind (arith, nat_tests, e)

    first : (b : Bool) → is_among x ms ≡ b → b ≡ true → (is_among x ms || any_among ns ms) ≡ true
    first b at is_so = ap (λ (c : Bool). c || any_among ns ms) (at ∙ is_so)

    second : (b : Bool) → any_among ns ms ≡ true → (b || any_among ns ms) ≡ true
    second true h = refl
    second false h = h

    go : (b : Bool) → (x == n) ≡ b → (b || is_among n ns) ≡ true → (is_among n ns ≡ true → any_among ns ms ≡ true) → (is_among x ms || any_among ns ms) ≡ true
    go true same h rest = first (is_among x ms) refl (ap (λ (y : ℕ). is_among y ms) (number_is x n same) ∙ f)
    go false same h rest = second (is_among x ms) (rest h)

among_append : (n : ℕ) (xs ys : List ℕ) → is_among n (xs ++ ys) ≡ true → (is_among n xs ≡ true) ⊎ (is_among n ys ≡ true)
among_append n [] ys e = inr e
among_append n (x ∷ xs) ys e = go (x == n) e (λ h. among_append n xs ys h)
  where
    go : (b : Bool) → (b || is_among n (xs ++ ys)) ≡ true → (is_among n (xs ++ ys) ≡ true → (is_among n xs ≡ true) ⊎ (is_among n ys ≡ true)) → ((b || is_among n xs) ≡ true) ⊎ (is_among n ys ≡ true)
    go true h rest = inl refl
    go false h rest = rest h

-- who gives it
among_over : (u : ProgramUnit) (n : ℕ) (es : List Entry) → is_among n (over (given u) es) ≡ true → (k : ℕ) × (e : Entry) × (slice_get es k ≡ Some e) × (is_among n (given u e.stmt) ≡ true)
among_over u n [] h = absurd (never (sym h))
among_over u n (e ∷ es) h = elim (among_append n (given u e.stmt) (over (given u) es) h) [
  | inl here ↦ (0, e, refl, here)
  | inr more ↦ let r = among_over u n es more in (suc r.0, r.1, r.2, r.3)
]

all_push : {X : Type 0} (P : X → Type 0) (xs : List X) (x : X) → AllIn P xs → P x → AllIn P (xs ++ x ∷ [])
all_push P [] x h g = (g, tt)
all_push P (y ∷ xs) x h g = (h.0, all_push P xs x h.1 g)

own_all : (P : ℕ → PortValue → Type 0) (Q : PortValue → Type 0) (args : List Actual) → ((v : ℕ) → is_among v (taken_variables args) ≡ true → (z : PortValue) → P v z → Q z) → AllTakeOwn P Q args
own_all P Q [] h = tt
own_all P Q (Given ws back ∷ more) h = (tt, own_all P Q more h)
own_all P Q (Taken s ∷ more) h = (h s.variable (here s.variable), own_all P Q more (λ v e. h v (later v e)))
  where
    same_number : (n : ℕ) → (n == n) ≡ true
    same_number n = grind (arith, nat_tests)

    here : (n : ℕ) → (n == n || is_among n (taken_variables more)) ≡ true
    here n = ap (λ (b : Bool). b || is_among n (taken_variables more)) (same_number n)

    later : (v : ℕ) → is_among v (taken_variables more) ≡ true → (s.variable == v || is_among v (taken_variables more)) ≡ true
    later v e = go (s.variable == v)
      where
        go : (b : Bool) → (b || is_among v (taken_variables more)) ≡ true
        go true = refl
        go false = e

-- the arguments of a PROCESSCALL and where its process is put, evaluated
abbrev arguments_and_seat : Scope → Execution → ProgramUnit → List Tree → Option Where → Result (List Actual × Seat) Fault
arguments_and_seat s w callee args at =
    actuals_of s (trees_from args) 0 >>= λ actuals. action.seat_at s w.machine (w.machine, w.node) at (refs_in_all s (trees_from args)) >>= λ seat. fitted callee.names.extents seat >>= λ there. Ok (actuals, there)

arguments_are : (s : Scope) (w : Execution) (callee : ProgramUnit) (args : List Tree) (at : Option Where) (y : List Actual × Seat) → arguments_and_seat s w callee args at ≡ Ok y → actuals_of s (trees_from args) 0 ≡ Ok y.0
arguments_are s w callee args at y q =
    let first = parts (actuals_of s (trees_from args) 0) (λ (actuals : List Actual). action.seat_at s w.machine (w.machine, w.node) at (refs_in_all s (trees_from args)) >>= λ seat. fitted callee.names.extents seat >>= λ there. Ok (actuals, there)) y q in
    let second = parts (action.seat_at s w.machine (w.machine, w.node) at (refs_in_all s (trees_from args))) (λ (seat : Seat). fitted callee.names.extents seat >>= λ there. Ok (first.0, there)) y first.2 in
    let third = parts (fitted callee.names.extents second.0) (λ (there : Seat). Ok (first.0, there)) y second.2 in
    first.1 ∙ ap (λ (z : List Actual × Seat). Ok z.0) (pair_same (first.0, third.0) y third.2)
  where
    pair_same : (a b : List Actual × Seat) → okay a ≡ Ok b → a ≡ b
    pair_same a b q = cc q

module _ (p : Program) (m : ℕ) (u : ProgramUnit) (here : unit_at p m ≡ Some u) (heads : kind_of u ≡ unit_kind.Program) (calm : AreCalm p) (shaped : IsShaped u) where
  -- ---- where ports stand

  pub record IsOut (l : Labels) (v : ℕ) (c : ChanName) : Type 0 where
    pub channel : Entry
    pub made : slice_get u.tree.body (places_in l c) ≡ Some channel
    pub names : is_among v (channel_out u channel.stmt) ≡ true

  pub record IsIn (l : Labels) (v : ℕ) (c : ChanName) : Type 0 where
    pub channel : Entry
    pub made : slice_get u.tree.body (places_in l c) ≡ Some channel
    pub names : is_among v (channel_in u channel.stmt) ≡ true

  -- no call before this entry has the variable among its arguments
  abbrev pub NotGiven : ℕ → ℕ → Type 0
  NotGiven k v = (j : ℕ) (e : Entry) → j < k → slice_get u.tree.body j ≡ Some e → is_among v (given u e.stmt) ≡ false

  abbrev pub StandsAt : Labels → ℕ → ℕ → PortValue → Type 0
  StandsAt l k v (Writer c w) = IsOut l v c × NotGiven k v
  StandsAt l k v (Reader c) = IsIn l v c

  abbrev pub IsOfCall : Labels → ℕ → PortValue → Type 0
  IsOfCall l k z = Gives u (places_in l) k z × IsPlain (types_in l) z

  -- a start has ports of its call alone
  pub record IsStartOf (l : Labels) (s : Start) : Type 0 where
    pub place : ℕ
    pub call : IsCallOf p u s.unit place
    pub has : Stand (λ i. IsOfCall l place) 0 s.values

  -- main's frame before the end of the block
  pub record Opening (l : Labels) (g : Frame) : Type 0 where
    pub unit : g.unit ≡ m
    pub stands : Stand (StandsAt l g.entry) 0 g.values
    pub starts : AllIn (IsStartOf l) g.starts

  -- main's frame at the end of the block, or behind it
  pub record AtBlock (g : Frame) : Type 0 where
    pub unit : g.unit ≡ m
    pub none : g.starts ≡ []
    pub entry : Entry
    pub there : slice_get u.tree.body g.entry ≡ Some entry
    pub ends : entry.stmt ≡ stmt.EndProcesses

  pub record Past (g : Frame) : Type 0 where
    pub unit : g.unit ≡ m
    pub none : g.starts ≡ []
    pub block : ℕ
    pub entry : Entry
    pub there : slice_get u.tree.body block ≡ Some entry
    pub ends : entry.stmt ≡ stmt.EndProcesses
    pub behind : block < g.entry

  abbrev pub OneAtBlock : List Frame → Type 0
  OneAtBlock [] = ⊥
  OneAtBlock (g ∷ []) = AtBlock g
  OneAtBlock (g ∷ h ∷ fs) = ⊥

  abbrev pub OpenPhase : Labels → List Frame → Phase → Type 0
  OpenPhase l fs Running = Over p (Opening l) fs
  OpenPhase l fs (Joining block kids) = ⊥
  OpenPhase l fs Ended = Unit {0}
  OpenPhase l fs (Faulted line fault) = Unit {0}

  abbrev pub PastPhase : List Frame → Phase → Type 0
  PastPhase fs Running = Over p Past fs
  PastPhase fs (Joining block kids) = OneAtBlock fs
  PastPhase fs Ended = Unit {0}
  PastPhase fs (Faulted line fault) = Unit {0}

  abbrev pub HoldsNone : Proc → Type 0
  HoldsNone x = (c : ChanName) (w : ℕ) → count (Writer c w) (held x) ≡ 0

  abbrev pub Main : Labels → Proc → Type 0
  Main l x = OpenPhase l x.execution.frames x.phase ⊎ (PastPhase x.execution.frames x.phase × HoldsNone x)

  -- ---- one entry on

  entry_at : (k : ℕ) (e : Point) → point_at u k ≡ Some e → slice_get u.tree.body k ≡ Some e.entry
  entry_at k e there = point_entry (slice_get u.tree.body k) (slice_get (links_of u.tree.body) k) e there

  after_is : (k : ℕ) (e : Point) → point_at u k ≡ Some e → e.entry.after ≡ suc k
  after_is k e there = shaped.after k e.entry (entry_at k e there)

  not_given_on : (k v : ℕ) (e : Entry) → slice_get u.tree.body k ≡ Some e → is_among v (given u e.stmt) ≡ false → NotGiven k v → NotGiven (suc k) v
  not_given_on k v e at off before j d less there = elim (ℕ_discrete j k) [
    | yes same ↦ let one : e ≡ d = the_entry e d (sym at ∙ ap (slice_get u.tree.body) (sym same) ∙ there) in ap (λ (x : Entry). is_among v (given u x.stmt)) (sym one) ∙ off
    | no other ↦ before j d (below j k less other) there
  ]
    where
      below : (j k : ℕ) → j < suc k → (j ≡ k → ⊥) → j < k
      below j k l ne = omega (arith, ne)

  stands_on : (l : Labels) (k : ℕ) (e : Entry) → slice_get u.tree.body k ≡ Some e → calls_process e.stmt ≡ false → (v : ℕ) (z : PortValue) → StandsAt l k v z → StandsAt l (suc k) v z
  stands_on l k e at quiet v (Writer c w) h = (h.0, not_given_on k v e at (ap (is_among v) (given_by_calls u e.stmt quiet)) h.1)
  stands_on l k e at quiet v (Reader c) h = h

  -- the values at the next entry
  values_on : (l : Labels) (k : ℕ) (e : Point) (vs : List Item) → point_at u k ≡ Some e → calls_process e.entry.stmt ≡ false → Stand (StandsAt l k) 0 vs → Stand (StandsAt l e.entry.after) 0 vs
  values_on l k e vs there quiet h =
      subst (λ (n : ℕ). Stand (StandsAt l n) 0 vs) (sym (after_is k e there)) (stand_else (StandsAt l k) (StandsAt l (suc k)) 0 vs (stands_on l k e.entry (entry_at k e there) quiet) h)

  opening_allows : (l : Labels) → Allows p m u (Opening l)
  opening_allows l = record {
    unit = λ g h. h.unit;
    results = λ g rs h. record { unit = h.unit; stands = h.stands; starts = h.starts };
    enters = λ g c args h. record { unit = h.unit; stands = entered_keeps (StandsAt l g.entry) c g.values args h.stands; starts = h.starts };
    goes = λ g e there quiet h. record { unit = h.unit; stands = values_on l g.entry e g.values there (passes_no_call e.entry.stmt quiet) h.stands; starts = h.starts };
    writes = λ g e s ns there quiet h. record {
      unit = h.unit;
      stands = values_on l g.entry e (written g.values s ns) there (passes_no_call e.entry.stmt quiet) (written_stand (StandsAt l g.entry) 0 g.values s.variable s.first ns h.stands);
      starts = h.starts;
    };
  }

  past_on : (g : Frame) (e : Point) (f : Frame) → point_at u g.entry ≡ Some e → Past g → f.unit ≡ g.unit → f.starts ≡ g.starts → f.entry ≡ e.entry.after → Past f
  past_on g e f there h unit starts entry = record {
    unit = unit ∙ h.unit;
    none = starts ∙ h.none;
    block = h.block;
    entry = h.entry;
    there = h.there;
    ends = h.ends;
    behind = let less = h.behind in let next = after_is g.entry e there in omega (arith, less, next, entry);
  }

  past_allows : Allows p m u Past
  past_allows = record {
    unit = λ g h. h.unit;
    results = λ g rs h. record { unit = h.unit; none = h.none; block = h.block; entry = h.entry; there = h.there; ends = h.ends; behind = h.behind };
    enters = λ g c args h. record { unit = h.unit; none = h.none; block = h.block; entry = h.entry; there = h.there; ends = h.ends; behind = h.behind };
    goes = λ g e there quiet h. past_on g e (at_entry g e.entry.after) there h refl refl refl;
    writes = λ g e s ns there quiet h. past_on g e (at_entry (record g { values = written g.values s ns }) e.entry.after) there h refl refl refl;
  }

  -- ---- children

  started_held : (l : Labels) (s : Start) (h : IsStartOf l s) (z : PortValue) → 1 ≤ count z (held (child_of s)) → IsOfCall l h.place z
  started_held l s h z c =
      let first = count-append z (message_ports s.values ++ []) [] in
      let second = count-append z (message_ports s.values) [] in
      let nil = count-nil z in
      (stand_found (λ i. IsOfCall l h.place) 0 s.values z h.has (omega (arith, c, first, second, nil))).1

  start_child : (l : Labels) (s : Start) → IsStartOf l s → IsFine p (types_in l) (child_of s) → IsChildOf p u l (child_of s)
  start_child l s h fine = record {
    root = s.unit;
    place = h.place;
    call = h.call;
    kid = record {
      fine = fine;
      inside = ((((0, refl), refl), tt), tt, refl);
      simple = λ z c. (started_held l s h z c).1;
      has = λ z c. (started_held l s h z c).0;
      gives_none = λ done c w. absurd (never (sym done));
    };
  }

  start_children : (l : Labels) (ss : List Start) → AllIn (IsStartOf l) ss → AllIn (IsFine p (types_in l)) (map child_of ss) → AllIn (IsChildOf p u l) (map child_of ss)
  start_children l [] h fine = tt
  start_children l (s ∷ ss) h fine = (start_child l s h.0 fine.0, start_children l ss h.1 fine.1)

  abbrev top_entry : List Frame → ℕ
  top_entry [] = 0
  top_entry (f ∷ fs) = f.entry

  frames_there : (G : Frame → Type 0) (fs : List Frame) → Over p G fs → (f : Frame) × (below : List Frame) × (fs ≡ f ∷ below)
  frames_there G [] h = absurd h
  frames_there G (f ∷ below) h = (f, below, refl)

  -- ---- before the end of the block

  record StepKeeps (l : Labels) (x : Proc) (need : Need) (f : ChanName → Reply Proc → Onward Proc) : Type 0 where
    needs : IsMainsNeed p u x need
    goes_on : (r : Reply Proc) → MayBring need r → IsMadeAt p u l need (net.made [] need) (top_entry x.execution.frames) → AllIn (IsFine p (types_in l)) (f (net.made [] need) r).starts
        → Main l (f (net.made [] need) r).self × AllIn (IsChildOf p u l) (f (net.made [] need) r).starts

  abbrev AskKeeps : Labels → Proc → Ask Proc → Type 0
  AskKeeps l x Stop = Unit {0}
  AskKeeps l x (Go need f) = StepKeeps l x need f

  module _ (l : Labels) (x : Proc) (runs : x.phase ≡ Running) (fine : IsFine p (types_in l) x) (open_frames : Over p (Opening l) x.execution.frames) where
    abbrev Shown : Action → Type 0
    Shown a = AskKeeps l x (ask_for p x a)

    goes_so : (fs : List Frame) → Over p (Opening l) fs → OpenPhase l fs x.phase
    goes_so fs h = subst (OpenPhase l fs) (sym runs) h

    met : (e : Event) (f : Frame) (below : List Frame) → x.execution.frames ≡ f ∷ below → AskKeeps l x (ask_at p x below f e) → Shown (Meets e)
    met e f below at h = subst (λ (fs : List Frame). AskKeeps l x (ask_event p x e fs)) (sym at) h

    own_open : (w : Execution) (lines : List (List ℕ)) (drops : List PortValue) (cost : ℕ) → Over p (Opening l) w.frames → Shown (Own w lines drops cost)
    own_open w lines drops cost h = record { needs = tt; goes_on = λ r may at fines. (inl (goes_so w.frames h), tt) }

    fails_open : (line : ℕ) (fault : Fault) → Shown (Meets (Fail line fault))
    fails_open line fault = let t = frames_there (Opening l) x.execution.frames open_frames in met (Fail line fault) t.0 t.1 t.2 (record { needs = tt; goes_on = λ r may at fines. (inl tt, tt) })

    ends_open : Shown (Meets End)
    ends_open = let t = frames_there (Opening l) x.execution.frames open_frames in met End t.0 t.1 t.2 (record { needs = tt; goes_on = λ r may at fines. (inl tt, tt) })

    values_fit : (g : Frame) → x.execution.frames ≡ g ∷ [] → Opening l g → ValuesFit (types_in l) u.names.variables g.values
    values_fit g at h =
        let fits : FrameFits p (types_in l) g = top_frame x.execution.frames at fine.0 in
        subst (λ (vs : List Variable). ValuesFit (types_in l) vs g.values) (ap (λ (n : ℕ). variables_of p n) h.unit ∙ ap variables_in here) fits.0
      where
        top_frame : (fs : List Frame) → fs ≡ g ∷ [] → FramesFit p (types_in l) fs → FrameFits p (types_in l) g
        top_frame fs e fits = subst (FramesFit p (types_in l)) e fits

    -- a CHANNEL
    makes_open : (g : Frame) (e : Point) (in_first : Bool) (i o : Var) → x.execution.frames ≡ g ∷ [] → Opening l g → point_at u g.entry ≡ Some e → e.entry.stmt ≡ stmt.Simple (simple.Channel in_first i o)
        → Shown (action.makes e (channel_places (scope_of p u g) in_first i o))
    makes_open g e in_first i o at h there is = by (channel_places (scope_of p u g) in_first i o) refl
      where
        sorts : StatementHasTypes p u (stmt.Simple (simple.Channel in_first i o))
        sorts = subst (StatementHasTypes p u) is ((program_has_types p).entries m u g.entry e.entry here (entry_at g.entry e there)).statement

        spans_same : (a b : Span × Span) → okay a ≡ Ok b → a ≡ b
        spans_same a b q = cc q

        places_are : (b : Bool) (r : Span × Span) → channel_places (scope_of p u g) b i o ≡ Ok r → (is_among r.0.variable (port_named u i.name) ≡ true) × (is_among r.1.variable (port_named u o.name) ≡ true)
        places_are true r q =
            let first = parts (place_of (scope_of p u g) i 0) _ r q in
            let second = parts (place_of (scope_of p u g) o (refs_in_var (scope_of p u g) i)) _ r first.2 in
            subst (λ (r : Span × Span). (is_among r.0.variable (port_named u i.name) ≡ true) × (is_among r.1.variable (port_named u o.name) ≡ true)) (spans_same (first.0, second.0) r second.2)
            (place_named (scope_of p u g) i 0 first.0 (In sorts.0) tt first.1 sorts.1, place_named (scope_of p u g) o (refs_in_var (scope_of p u g) i) second.0 (Out sorts.0) tt second.1 sorts.2.0)
        places_are false r q =
            let first = parts (place_of (scope_of p u g) o 0) _ r q in
            let second = parts (place_of (scope_of p u g) i (refs_in_var (scope_of p u g) o)) _ r first.2 in
            subst (λ (r : Span × Span). (is_among r.0.variable (port_named u i.name) ≡ true) × (is_among r.1.variable (port_named u o.name) ≡ true)) (spans_same (second.0, first.0) r second.2)
            (place_named (scope_of p u g) i (refs_in_var (scope_of p u g) o) second.0 (In sorts.0) tt second.1 sorts.1, place_named (scope_of p u g) o 0 first.0 (Out sorts.0) tt first.1 sorts.2.0)

        in_is : channel_in u e.entry.stmt ≡ port_named u i.name
        in_is = ap (channel_in u) is ∙ in_named u in_first i o

        out_is : channel_out u e.entry.stmt ≡ port_named u o.name
        out_is = ap (channel_out u) is ∙ out_named u in_first i o

        channel_here : makes_channel e.entry.stmt ≡ true
        channel_here = ap makes_channel is ∙ channel_makes in_first i o

        no_call : calls_process e.entry.stmt ≡ false
        no_call = channel_no_call e.entry.stmt channel_here

        none_given : (v : ℕ) → NotGiven (suc g.entry) v
        none_given v j d less at_d = go (calls_process d.stmt) refl
          where
            go : (b : Bool) → calls_process d.stmt ≡ b → is_among v (given u d.stmt) ≡ false
            go false q = ap (is_among v) (given_by_calls u d.stmt q)
            go true q = let before = shaped.channels_first j g.entry d e.entry at_d q (entry_at g.entry e there) channel_here in absurd (omega (arith, before, less))

        opening : (c : ChanName) (r : Span × Span) → channel_places (scope_of p u g) in_first i o ≡ Ok r → places_in l c ≡ g.entry → Opening l (at_entry (record g { values = (placed_all g.values (r.0 ∷ r.1 ∷ []) (ports_from c 1)).0 }) e.entry.after)
        opening c r q place =
            let names = places_are in_first r q in
            let made : slice_get u.tree.body (places_in l c) ≡ Some e.entry = ap (slice_get u.tree.body) place ∙ entry_at g.entry e there in
            let reader : IsIn l r.0.variable c = record { channel = e.entry; made = made; names = ap (is_among r.0.variable) in_is ∙ names.0 } in
            let writer : IsOut l r.1.variable c = record { channel = e.entry; made = made; names = ap (is_among r.1.variable) out_is ∙ names.1 } in
            let before = stand_else (StandsAt l g.entry) (StandsAt l (suc g.entry)) 0 g.values (stands_on l g.entry e.entry (entry_at g.entry e there) no_call) h.stands in
            let now = placed_stand (StandsAt l (suc g.entry)) g.values (r.0 ∷ r.1 ∷ []) (ports_from c 1) (reader, ((writer, none_given r.1.variable), tt)) before in
            record {
              unit = h.unit;
              stands = subst (λ (n : ℕ). Stand (StandsAt l n) 0 (placed_all g.values (r.0 ∷ r.1 ∷ []) (ports_from c 1)).0) (sym (after_is g.entry e there)) now;
              starts = h.starts;
            }

        by : (r : Result (Span × Span) Fault) → channel_places (scope_of p u g) in_first i o ≡ r → Shown (action.makes e r)
        by (Err fault) q = fails_open (line_of e) fault
        by (Ok r) q =
            met (Make (r.0 ∷ r.1 ∷ []) 1 1 e.entry.after) g [] at
            (record { needs = tt; goes_on = λ y may place fines. (inl (goes_so (_ ∷ []) (opening (net.made [] (New x.next_channel 1)) r q (place ∙ ap top_entry at))), tt) })

    -- a PROCESSCALL
    pends_open : (g : Frame) (e : Point) (name : List ℕ) (part : Option CallPart) → x.execution.frames ≡ g ∷ [] → Opening l g → point_at u g.entry ≡ Some e → e.entry.stmt ≡ stmt.ProcessCall name part
        → Shown (action.process_calls x.execution (scope_of p u g) e g [] (unit_named p name) (arguments_in part) (where_in part))
    pends_open g e name part at h there is = by_unit (unit_named p name) refl
      where
        given_is : given u e.entry.stmt ≡ flat_map (port_in u) (arguments_in part)
        given_is = ap (given u) is ∙ call_gives u name part

        started_is : started p e.entry.stmt ≡ unit_named p name
        started_is = ap (started p) is ∙ call_starts p name part

        fits : ValuesFit (types_in l) u.names.variables g.values
        fits = values_fit g at h

        opening : (v : ℕ × ProgramUnit) (args : List Actual) (backs : List Back) (seat : Seat) → unit_named p name ≡ Some v → actuals_of (scope_of p u g) (trees_from (arguments_in part)) 0 ≡ Ok args
            → Opening l (at_entry (record g { values = (entered v.1 g.values args).mine; starts = g.starts ++ record { unit = v.0; values = (entered v.1 g.values args).theirs; backs = backs; machine = seat.0; node = seat.1 } ∷ [] }) e.entry.after)
        opening v args backs seat named evaluated =
            let take = arguments_take u shaped.narrow (scope_of p u g) refl (arguments_in part) 0 args evaluated in
            let taken : taken_variables args ≡ given u e.entry.stmt = take.0 ∙ sym given_is in
            let narrow = fits_narrow (types_in l) u.names.variables g.values shaped.narrow fits in
            let plain = fits_plain (types_in l) 0 u.names.variables g.values shaped.narrow fits in
            let mine = (entered v.1 g.values args).mine in
            let both = stand_both (StandsAt l g.entry) (Left (taken_variables args)) 0 mine (entered_keeps (StandsAt l g.entry) v.1 g.values args h.stands) (entered_leaves v.1 g.values args take.1 narrow) in
            let later = stand_else (λ i z. StandsAt l g.entry i z × Left (taken_variables args) i z) (StandsAt l (suc g.entry)) 0 mine (goes_later args taken) both in
            let sides = entered_stand (λ i z. StandsAt l g.entry i z × IsPlain (types_in l) z) (IsOfCall l g.entry) v.1 g.values args (own_all _ _ args (own_ports args taken)) (stand_both (StandsAt l g.entry) (λ i. IsPlain (types_in l)) 0 g.values h.stands plain) in
            record {
              unit = h.unit;
              stands = subst (λ (n : ℕ). Stand (StandsAt l n) 0 mine) (sym (after_is g.entry e there)) later;
              starts = all_push (IsStartOf l) g.starts _ h.starts (record {
                place = g.entry;
                call = record { call = e.entry; there = entry_at g.entry e there; callee = v.1; starts = started_is ∙ named };
                has = sides.1;
              });
            }
          where
            goes_later : (args : List Actual) → taken_variables args ≡ given u e.entry.stmt → (i : ℕ) (z : PortValue) → StandsAt l g.entry i z × Left (taken_variables args) i z → StandsAt l (suc g.entry) i z
            goes_later args taken i (Writer c w) k = (k.0.0, not_given_on g.entry i e.entry (entry_at g.entry e there) (ap (is_among i) (sym taken) ∙ k.1) k.0.1)
            goes_later args taken i (Reader c) k = k.0

            own_ports : (args : List Actual) → taken_variables args ≡ given u e.entry.stmt → (v : ℕ) → is_among v (taken_variables args) ≡ true → (z : PortValue) → StandsAt l g.entry v z × IsPlain (types_in l) z → IsOfCall l g.entry z
            own_ports args taken v among (Writer c w) k = (
              record {
                channel = k.0.0.channel;
                call = e.entry;
                made = k.0.0.made;
                there = entry_at g.entry e there;
                gives = any_both v (channel_out u k.0.0.channel.stmt) (given u e.entry.stmt) k.0.0.names (ap (is_among v) (sym taken) ∙ among);
              },
              k.1,
            )
            own_ports args taken v among (Reader c) k = (
              record {
                channel = k.0.channel;
                call = e.entry;
                made = k.0.made;
                there = entry_at g.entry e there;
                gives = any_both v (channel_in u k.0.channel.stmt) (given u e.entry.stmt) k.0.names (ap (is_among v) (sym taken) ∙ among);
              },
              k.1,
            )

        by_start : (v : ℕ × ProgramUnit) → unit_named p name ≡ Some v → (r : Result (List Actual × Seat) Fault) → ((y : List Actual × Seat) → r ≡ Ok y → actuals_of (scope_of p u g) (trees_from (arguments_in part)) 0 ≡ Ok y.0)
            → Shown (action.starts_one x.execution e g [] v.0 v.1 r)
        by_start v named (Err fault) known = fails_open (line_of e) fault
        by_start v named (Ok y) known = own_open _ [] _ _ (opening v y.0 _ y.1 named (known y refl))

        by_unit : (o : Option (ℕ × ProgramUnit)) → unit_named p name ≡ o → Shown (action.process_calls x.execution (scope_of p u g) e g [] o (arguments_in part) (where_in part))
        by_unit None named = tt
        by_unit (Some v) named =
            by_start v named (arguments_and_seat (scope_of p u g) x.execution v.1 (arguments_in part) (where_in part)) (λ y q. arguments_are (scope_of p u g) x.execution v.1 (arguments_in part) (where_in part) y q)

    -- the end of the block
    begins_open : (g : Frame) (e : Point) → x.execution.frames ≡ g ∷ [] → Opening l g → point_at u g.entry ≡ Some e → e.entry.stmt ≡ stmt.EndProcesses → Shown (Meets Begin)
    begins_open g e at h there is =
        met Begin g [] at (record {
          needs = tt;
          goes_on = λ r may place fines. (inr (record { unit = h.unit; none = refl; entry = e.entry; there = entry_at g.entry e there; ends = is }, none_held), start_children l g.starts h.starts fines);
        })
      where
        no_outport : (v : ℕ) (c : ChanName) → IsOut l v c → NotGiven g.entry v → ⊥
        no_outport v c out off =
            let goes = all_of v (channel_out u out.channel.stmt) (over (given u) u.tree.body) (shaped.outports_go (places_in l c) out.channel out.made) out.names in
            let r = among_over u v u.tree.body goes in
            by r.0 r.1 r.2 r.3 (calls_process r.1.stmt) refl
          where
            by : (k : ℕ) (d : Entry) → slice_get u.tree.body k ≡ Some d → is_among v (given u d.stmt) ≡ true → (b : Bool) → calls_process d.stmt ≡ b → ⊥
            by k d at_d gives false q = never (sym gives ∙ ap (is_among v) (given_by_calls u d.stmt q))
            by k d at_d gives true q = never (sym gives ∙ off k d (shaped.calls_first g.entry k e.entry d (entry_at g.entry e there) is at_d q) at_d)

        refused : (c : ChanName) (w : ℕ) (v : ℕ) (y : PortValue) → StandsAt l g.entry v y → one y (Writer c w) ≡ 0
        refused c w v (Writer d n) k = absurd (no_outport v d k.0 k.1)
        refused c w v (Reader d) k = other_port d c w

        none_held : (c : ChanName) (w : ℕ) → count (Writer c w) ((message_ports g.values ++ []) ++ []) ≡ 0
        none_held c w =
            let first = count-append (Writer c w) (message_ports g.values ++ []) [] in
            let second = count-append (Writer c w) (message_ports g.values) [] in
            let nil = count-nil (Writer c w) in
            let none = stand_none (StandsAt l g.entry) 0 g.values (Writer c w) (refused c w) h.stands in
            omega (arith, first, second, nil, none)

    shows_open : Shows p m u (Opening l) x Shown
    shows_open = record { rest = tt; own = own_open; fails = fails_open; ends = ends_open; makes = makes_open; pends = pends_open; begins = begins_open }

    open_step : AskKeeps l x (ask_for p x (action_in p x.execution Running))
    open_step = walks p m u (Opening l) here heads calm shaped.simple (opening_allows l) x Shown shows_open x.execution.frames refl open_frames

  -- ---- behind it

  abbrev IsQuiet : Need → Type 0
  IsQuiet Nothing = Unit {0}
  IsQuiet (net.Event c a) = ⊥
  IsQuiet (New n k) = ⊥
  IsQuiet (Children b n) = Unit {0}

  -- it needs nothing but children, starts nobody, and stays behind its block
  record StepStays (x : Proc) (need : Need) (f : ChanName → Reply Proc → Onward Proc) : Type 0 where
    quiet : IsQuiet need
    goes_on : (c : ChanName) (r : Reply Proc) → PastPhase (f c r).self.execution.frames (f c r).self.phase × ((f c r).starts ≡ [])

  abbrev AskStays : Proc → Ask Proc → Type 0
  AskStays x Stop = Unit {0}
  AskStays x (Go need f) = StepStays x need f

  module _ (x : Proc) (runs : x.phase ≡ Running) (past : Over p Past x.execution.frames) where
    abbrev Stays : Action → Type 0
    Stays a = AskStays x (ask_for p x a)

    met_past : (e : Event) (f : Frame) (below : List Frame) → x.execution.frames ≡ f ∷ below → AskStays x (ask_at p x below f e) → Stays (Meets e)
    met_past e f below at h = subst (λ (fs : List Frame). AskStays x (ask_event p x e fs)) (sym at) h

    own_past : (w : Execution) (lines : List (List ℕ)) (drops : List PortValue) (cost : ℕ) → Over p Past w.frames → Stays (Own w lines drops cost)
    own_past w lines drops cost h = record { quiet = tt; goes_on = λ c r. (subst (PastPhase w.frames) (sym runs) h, refl) }

    fails_past : (line : ℕ) (fault : Fault) → Stays (Meets (Fail line fault))
    fails_past line fault = let t = frames_there Past x.execution.frames past in met_past (Fail line fault) t.0 t.1 t.2 (record { quiet = tt; goes_on = λ c r. (tt, refl) })

    ends_past : Stays (Meets End)
    ends_past = let t = frames_there Past x.execution.frames past in met_past End t.0 t.1 t.2 (record { quiet = tt; goes_on = λ c r. (tt, refl) })

    no_channel : (g : Frame) (e : Point) → Past g → point_at u g.entry ≡ Some e → makes_channel e.entry.stmt ≡ true → ⊥
    no_channel g e h there is =
        let before = shaped.channels_open h.block g.entry h.entry e.entry h.there h.ends (entry_at g.entry e there) is in
        let behind = h.behind in
        absurd (omega (arith, before, behind))

    makes_past : (g : Frame) (e : Point) (in_first : Bool) (i o : Var) → x.execution.frames ≡ g ∷ [] → Past g → point_at u g.entry ≡ Some e → e.entry.stmt ≡ stmt.Simple (simple.Channel in_first i o)
        → Stays (action.makes e (channel_places (scope_of p u g) in_first i o))
    makes_past g e in_first i o at h there is = absurd (no_channel g e h there (ap makes_channel is ∙ channel_makes in_first i o))

    no_process : (g : Frame) (e : Point) → Past g → point_at u g.entry ≡ Some e → calls_process e.entry.stmt ≡ true → ⊥
    no_process g e h there is =
        let before = shaped.calls_first h.block g.entry h.entry e.entry h.there h.ends (entry_at g.entry e there) is in
        let behind = h.behind in
        absurd (omega (arith, before, behind))

    pends_past : (g : Frame) (e : Point) (name : List ℕ) (part : Option CallPart) → x.execution.frames ≡ g ∷ [] → Past g → point_at u g.entry ≡ Some e → e.entry.stmt ≡ stmt.ProcessCall name part
        → Stays (action.process_calls x.execution (scope_of p u g) e g [] (unit_named p name) (arguments_in part) (where_in part))
    pends_past g e name part at h there is = absurd (no_process g e h there (ap calls_process is ∙ process_calls name part))

    begins_past : (g : Frame) (e : Point) → x.execution.frames ≡ g ∷ [] → Past g → point_at u g.entry ≡ Some e → e.entry.stmt ≡ stmt.EndProcesses → Stays (Meets Begin)
    begins_past g e at h there is = met_past Begin g [] at (record { quiet = tt; goes_on = λ c r. (record { unit = h.unit; none = refl; entry = e.entry; there = entry_at g.entry e there; ends = is }, ap (map child_of) h.none) })

    shows_past : Shows p m u Past x Stays
    shows_past = record { rest = tt; own = own_past; fails = fails_past; ends = ends_past; makes = makes_past; pends = pends_past; begins = begins_past }

    past_step : AskStays x (ask_for p x (action_in p x.execution Running))
    past_step = walks p m u Past here heads calm shaped.simple past_allows x Stays shows_past x.execution.frames refl past

  -- who joins goes on behind its block
  joins_step : (x : Proc) (block : ℕ) (kids : List Kid) (fs : List Frame) → x.execution.frames ≡ fs → OneAtBlock fs → AskStays x (ask_for p x (action.joining p block kids fs))
  joins_step x block kids [] at h = absurd h
  joins_step x block kids (g ∷ d ∷ fs) at h = absurd h
  joins_step x block kids (g ∷ []) at h =
      subst (λ (fs : List Frame). AskStays x (ask_event p x (Join block kids (after_at (unit_at p g.unit) g.entry)) fs)) (sym at) (record {
        quiet = tt;
        goes_on = λ c r. (record { unit = h.unit; none = h.none; block = g.entry; entry = h.entry; there = h.there; ends = h.ends; behind = behind }, refl);
      })
    where
      next_is : after_at (unit_at p g.unit) g.entry ≡ suc g.entry
      next_is =
          ap (λ (o : Option ProgramUnit). after_at o g.entry) (ap (unit_at p) h.unit ∙ here) ∙ ap action.after_in (point_there u g.entry h.entry h.there) ∙ shaped.after g.entry h.entry h.there

      behind : g.entry < after_at (unit_at p g.unit) g.entry
      behind = let next = next_is in omega (arith, next)

  past_ask : (x : Proc) (phase : Phase) → x.phase ≡ phase → PastPhase x.execution.frames phase → AskStays x (ask_for p x (action_in p x.execution phase))
  past_ask x Running is h = past_step x is h
  past_ask x (Joining block kids) is h = joins_step x block kids x.execution.frames refl h
  past_ask x Ended is h = tt
  past_ask x (Faulted line fault) is h = tt

  open_ask : (l : Labels) (x : Proc) (phase : Phase) → x.phase ≡ phase → IsFine p (types_in l) x → OpenPhase l x.execution.frames phase → AskKeeps l x (ask_for p x (action_in p x.execution phase))
  open_ask l x Running is fine h = open_step l x is fine h
  open_ask l x (Joining block kids) is fine h = absurd h
  open_ask l x Ended is fine h = tt
  open_ask l x (Faulted line fault) is fine h = tt

  -- ---- no outport comes back

  kids_hold_none : (l : Labels) (ys : List Proc) → AllIn (λ (y : Proc). (has_ended y ≡ true) × IsChildOf p u l y) ys → (c : ChanName) (w : ℕ) → sum_of (holds (language p) (Writer c w)) ys ≡ 0
  kids_hold_none l [] all c w = refl
  kids_hold_none l (y ∷ ys) all c w =
      let first = all.0.1.kid.gives_none all.0.0 c w in
      let more = kids_hold_none l ys all.1 c w in
      omega (arith, first, more)

  past_holds : (l : Labels) (x : Proc) (need : Need) (f : ChanName → Reply Proc → Onward Proc) → IsLawfulStep (language p) x need f → IsQuiet need → HoldsNone x → (c : ChanName) (r : Reply Proc) → MayBring need r → AreKids p u l need r → HoldsNone (f c r).self
  past_holds l x Nothing f law quiet none c r may kids d w =
      let z = Writer d w in
      let a = law.account c r may z in
      let before = none d w in
      let nil = count-nil z in
      let message = ap (λ o. count z (got o)) may.0 in
      let children = ap (sum_of (holds (language p) z)) may.1 in
      omega (arith, a, before, nil, message, children)
  past_holds l x (net.Event e b) f law quiet none c r may kids d w = absurd quiet
  past_holds l x (New n k) f law quiet none c r may kids d w = absurd quiet
  past_holds l x (Children b n) f law quiet none c r may kids d w =
      let z = Writer d w in
      let a = law.account c r may z in
      let before = none d w in
      let nil = count-nil z in
      let message = ap (λ o. count z (got o)) may in
      let children = kids_hold_none l r.children kids.1 d w in
      omega (arith, a, before, nil, message, children)

  past_needs : (x : Proc) (need : Need) → IsQuiet need → HoldsNone x → IsMainsNeed p u x need
  past_needs x Nothing quiet none = tt
  past_needs x (net.Event c a) quiet none = absurd quiet
  past_needs x (New n k) quiet none = absurd quiet
  past_needs x (Children b n) quiet none = none

  -- ---- all of it

  main_goes : (x : Proc) (need : Need) (f : ChanName → Reply Proc → Onward Proc) → ask p x ≡ Go need f → MainStep p u Main x need f
  main_goes x need f asks = record {
    place_made = top_entry x.execution.frames;
    needs = λ l fine main. elim main [
      | inl h ↦ (opens l fine h).needs
      | inr h ↦ past_needs x need (stays h.0).quiet h.1
    ];
    goes_on = λ l fine main r may place kids fine_self fines. elim main [
      | inl h ↦ (opens l fine h).goes_on r may place fines
      | inr h ↦ let on = (stays h.0).goes_on (net.made [] need) r in
          (inr (on.0, past_holds l x need f law (stays h.0).quiet h.1 (net.made [] need) r may kids), subst (AllIn (IsChildOf p u l)) (sym on.1) tt)
    ];
  }
    where
      law : IsLawfulStep (language p) x need f
      law = subst (IsLawfulAsk (language p) x) asks ((lawful p).goes x)

      opens : (l : Labels) → IsFine p (types_in l) x → OpenPhase l x.execution.frames x.phase → StepKeeps l x need f
      opens l fine h = subst (AskKeeps l x) asks (open_ask l x x.phase refl fine h)

      stays : PastPhase x.execution.frames x.phase → StepStays x need f
      stays h = subst (AskStays x) asks (past_ask x x.phase refl h)

  ended_open : (l : Labels) (phase : Phase) → is_ended phase ≡ true → OpenPhase l [] phase
  ended_open l Running e = absurd (never (sym e))
  ended_open l (Joining block kids) e = absurd (never (sym e))
  ended_open l Ended e = tt
  ended_open l (Faulted line fault) e = tt

  -- ---- labels of its own ports

  same_out : (l others : Labels) (v : ℕ) (c : ChanName) → l c ≡ others c → IsOut l v c → IsOut others v c
  same_out l others v c e h = record { channel = h.channel; made = subst (λ (t : ℕ × PortFields). slice_get u.tree.body t.0 ≡ Some h.channel) e h.made; names = h.names }

  same_in : (l others : Labels) (v : ℕ) (c : ChanName) → l c ≡ others c → IsIn l v c → IsIn others v c
  same_in l others v c e h = record { channel = h.channel; made = subst (λ (t : ℕ × PortFields). slice_get u.tree.body t.0 ≡ Some h.channel) e h.made; names = h.names }

  gives_other : (l others : Labels) (k : ℕ) (z : PortValue) → l (channel_of z) ≡ others (channel_of z) → Gives u (places_in l) k z → Gives u (places_in others) k z
  gives_other l others k (Writer c w) e g =
      record { channel = g.channel; call = g.call; made = subst (λ (t : ℕ × PortFields). slice_get u.tree.body t.0 ≡ Some g.channel) e g.made; there = g.there; gives = g.gives }
  gives_other l others k (Reader c) e g =
      record { channel = g.channel; call = g.call; made = subst (λ (t : ℕ × PortFields). slice_get u.tree.body t.0 ≡ Some g.channel) e g.made; there = g.there; gives = g.gives }

  module _ (l others : Labels) where
    stands_other : (k v : ℕ) (z : PortValue) → l (channel_of z) ≡ others (channel_of z) → StandsAt l k v z → StandsAt others k v z
    stands_other k v (Writer c w) e h = (same_out l others v c e h.0, h.1)
    stands_other k v (Reader c) e h = same_in l others v c e h

    of_call_other : (k : ℕ) (z : PortValue) → l (channel_of z) ≡ others (channel_of z) → IsOfCall l k z → IsOfCall others k z
    of_call_other k z e h = (gives_other l others k z e h.0, ap (λ (t : ℕ × PortFields). sends_ports t.1) (sym e) ∙ h.1)

    starts_other : (ss : List Start) → ((z : PortValue) → 1 ≤ count z (started_ports ss) → l (channel_of z) ≡ others (channel_of z)) → AllIn (IsStartOf l) ss → AllIn (IsStartOf others) ss
    starts_other [] same h = tt
    starts_other (s ∷ ss) same h = (
      record {
        place = h.0.place;
        call = h.0.call;
        has = stand_held (λ i. IsOfCall l h.0.place) (λ i. IsOfCall others h.0.place) 0 s.values (λ j z c k. of_call_other h.0.place z (same z (let both = count-append z (message_ports s.values) (started_ports ss) in omega (arith, both, c))) k) h.0.has;
      },
      starts_other ss (λ z c. same z (let both = count-append z (message_ports s.values) (started_ports ss) in omega (arith, both, c))) h.1,
    )

    opening_other : (g : Frame) → ((z : PortValue) → 1 ≤ count z (frame_ports g) → l (channel_of z) ≡ others (channel_of z)) → Opening l g → Opening others g
    opening_other g same h = record {
      unit = h.unit;
      stands = stand_held (StandsAt l g.entry) (StandsAt others g.entry) 0 g.values (λ j z c k. stands_other g.entry j z (same z (let both = count-append z (message_ports g.values) (started_ports g.starts) in omega (arith, both, c))) k) h.stands;
      starts = starts_other g.starts (λ z c. same z (let both = count-append z (message_ports g.values) (started_ports g.starts) in omega (arith, both, c))) h.starts;
    }

    over_other : (fs : List Frame) → ((z : PortValue) → 1 ≤ count z (frames_ports fs) → l (channel_of z) ≡ others (channel_of z)) → Over p (Opening l) fs → Over p (Opening others) fs
    over_other [] same h = h
    over_other (g ∷ []) same h = opening_other g (λ z c. same z (let both = count-append z (frame_ports g) [] in omega (arith, both, c))) h
    over_other (f ∷ g ∷ fs) same h = (h.0, over_other (g ∷ fs) (λ z c. same z (let both = count-append z (frame_ports f) (frames_ports (g ∷ fs)) in omega (arith, both, c))) h.1)

    phase_other : (fs : List Frame) (phase : Phase) → ((z : PortValue) → 1 ≤ count z (frames_ports fs) → l (channel_of z) ≡ others (channel_of z)) → OpenPhase l fs phase → OpenPhase others fs phase
    phase_other fs Running same h = over_other fs same h
    phase_other fs (Joining block kids) same h = absurd h
    phase_other fs Ended same h = tt
    phase_other fs (Faulted line fault) same h = tt

    main_other : (x : Proc) → ((z : PortValue) → 1 ≤ count z (held x) → l (channel_of z) ≡ others (channel_of z)) → Main l x → Main others x
    main_other x same (inl h) = inl (phase_other x.execution.frames x.phase same h)
    main_other x same (inr h) = inr h

  first_main : main_number p ≡ Some m → (l : Labels) → Main l (first_proc p)
  first_main is_main l =
      subst (λ (o : Option ℕ). Main l (proc_of (main_by p o))) (sym is_main) (subst (λ (o : Option ProgramUnit). Main l (proc_of (main_in m o))) (sym here)
      (inl (record { unit = refl; stands = unset_stand (StandsAt l 0) 0 u.names.variables; starts = tt })))

  pub main_part : main_number p ≡ Some m → MainPart p u Main
  main_part is_main = record {
    begins = first_main is_main;
    goes = main_goes;
    empties = λ l x done h. inl (ended_open l x.phase done);
    agrees = λ l others x same h. main_other l others x same h;
  }
