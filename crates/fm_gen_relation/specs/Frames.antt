-- How the frames of a body stand for those of a process.
-- Source: this profile.
use Rattle.std.specs.Prelude.{◌≡◌, ℕ, zero, suc, ℤ, Bool, true, false, cond, Option, Some, None, List, [], ◌∷◌, length, slice_get}
use Rattle.std.specs.Option.{option_map}
use Rattle.std.specs.FinMap as finite
use Rattle.fm_tree.specs.Tree.{Tree, Trees, Number, Truth, Named, Ref, Paren, Signed, Not, Binary}
use Rattle.fm_tree.specs.declared.program_unit.Entry.{Entry}
use Rattle.fm_symbols.specs.Headings.{is_function}
use Rattle.fm_symbols.specs.declared.names.Variable.{Variable}
use Rattle.fm_rules.specs.declared.program.Program.{Program}
use Rattle.fm_mean.specs.Names.{ProgramUnit, Point, unit_at, point_at, kind_of, result_variable}
use Rattle.fm_mean.specs.Evaluate.{Reference, Element, Call, Built, Unknown, reference_of}
use Rattle.fm_mean.specs.Process as mean
use Rattle.fm_mean.specs.Process.{Loops}
use Rattle.fm_mean.specs.Fits.{variables_of}
use Rattle.fm_mean.specs.Actions.{Loop, Counted, While, NoLoop, loop_of, next_reference}
use Rattle.fm_code.specs.declared.body.Frame.{Frame}
use Rattle.fm_code.specs.declared.body.Start.{Start}
use Rattle.fm_code.specs.declared.body.Trips.{Trips}
use Rattle.fm_mean.specs.Referring.{names_in}
use Rattle.fm_gen_relation.specs.Standing.{Slots, values_in, IsResultOf}
use Rattle.fm_gen_relation.specs.Operands.{BacksStand}

-- Loops.

-- whether an entry opens a loop whose trips are counted
abbrev pub counts_trips : Loop → Bool
counts_trips (Counted name) = true
counts_trips While = false
counts_trips NoLoop = false

abbrev pub opens_counted : Entry → Bool
opens_counted e = counts_trips (loop_of e.stmt)

-- the number of a counted loop: how many begin before its entry
abbrev pub loop_number : List Entry → ℕ → ℕ
loop_number [] k = 0
loop_number (e ∷ es) zero = 0
loop_number (e ∷ es) (suc k) = cond (opens_counted e) (suc (loop_number es k)) (loop_number es k)

-- the trips that are left
abbrev pub left_of : Option ℕ → ℕ
left_of None = 0
left_of (Some n) = suc n

abbrev pub trips_read : Option Trips → Option (ℕ × ℤ)
trips_read None = None
trips_read (Some t) = Some (left_of t.behind, t.by)

-- an entry of a unit that opens a counted loop
pub record IsLoop (body : List Entry) (k : ℕ) : Type 0 where
  pub entry : Entry
  pub at : slice_get body k ≡ Some entry
  pub counted : opens_counted entry ≡ true

-- each counted loop of a unit has its trips, by its number
abbrev pub LoopsStand : List Entry → Loops → List (Option Trips) → Type 0
LoopsStand body loops trips = (k : ℕ) → IsLoop body k → option_map trips_read (slice_get trips (loop_number body k)) ≡ Some (finite.get loops k)

-- Results.

-- a result of what a name with a list behind it refers to
abbrev pub IsResultBy : Reference → ℤ → Type 0
IsResultBy (Element i v) w = Unit {0}
IsResultBy (Call n callee) w = IsResultOf (result_variable callee) w
IsResultBy (Built f) w = Unit {0}
IsResultBy Unknown w = Unit {0}

abbrev pub IsResultAt : Program → ProgramUnit → Tree → ℤ → Type 0
IsResultAt p u (Number n) w = Unit {0}
IsResultAt p u (Truth b) w = Unit {0}
IsResultAt p u (Named name) w = Unit {0}
IsResultAt p u (Ref name args) w = IsResultBy (reference_of (names_in p u) name) w
IsResultAt p u (Paren e) w = Unit {0}
IsResultAt p u (Signed op e) w = Unit {0}
IsResultAt p u (Not e) w = Unit {0}
IsResultAt p u (Binary op a b) w = Unit {0}

-- the results that are there are those of the first references of the entry
abbrev pub AreResults : Program → ProgramUnit → Entry → List ℤ → Type 0
AreResults p u e results = (i : ℕ) (t : Tree) (w : ℤ) → next_reference e i ≡ Some t → slice_get results i ≡ Some w → IsResultAt p u t w

abbrev pub ResultsFit : Program → ProgramUnit → Option Point → List ℤ → Type 0
ResultsFit p u None results = Unit {0}
ResultsFit p u (Some e) results = AreResults p u e.entry results

-- Frames.

-- a frame of code stands for a frame of the meaning
pub record Stands (u : ProgramUnit) (slots : Slots) (f : mean.Frame) (m : Frame) : Type 0 where
  pub values : f.values ≡ values_in slots u.names.variables m.words
  pub sized : length m.words ≡ u.names.words
  pub results : f.results ≡ m.results
  pub loops : LoopsStand u.tree.body f.loops m.loops

-- a start of code stands for one of the meaning, in a frame with these variables
pub record StartStands (p : Program) (slots : Slots) (mine : List Variable) (s : mean.Start) (c : Start) : Type 0 where
  pub unit : ProgramUnit
  pub there : unit_at p s.unit ≡ Some unit
  pub number : c.unit ≡ s.unit
  pub values : s.values ≡ values_in slots unit.names.variables c.words
  pub sized : length c.words ≡ unit.names.words
  pub backs : BacksStand mine unit.names.variables s.backs c.backs
  pub machine : c.machine ≡ s.machine
  pub node : c.node ≡ s.node

abbrev pub StartsStand : Program → Slots → List Variable → List mean.Start → List Start → Type 0
StartsStand p slots mine [] [] = Unit {0}
StartsStand p slots mine [] (c ∷ cs) = ⊥
StartsStand p slots mine (s ∷ ss) [] = ⊥
StartsStand p slots mine (s ∷ ss) (c ∷ cs) = StartStands p slots mine s c × StartsStand p slots mine ss cs

-- the same of a frame of a process whose next statement, in its unit, is at this address
pub record FrameStands (p : Program) (slots : Slots) (begin : ProgramUnit → ℕ) (f : mean.Frame) (m : Frame) : Type 0 where
  pub unit : ProgramUnit
  pub there : unit_at p f.unit ≡ Some unit
  pub number : m.unit ≡ f.unit
  pub address : m.address ≡ begin unit
  pub stands : Stands unit slots f m
  pub results : ResultsFit p unit (point_at unit f.entry) f.results
  pub starts : StartsStand p slots unit.names.variables f.starts m.starts

-- Frames one on another.

abbrev pub is_function_unit : Option ProgramUnit → Bool
is_function_unit None = false
is_function_unit (Some u) = is_function (kind_of u)

-- whether a frame is that of a FUNCTION
abbrev pub evaluates : Program → mean.Frame → Bool
evaluates p f = is_function_unit (unit_at p f.unit)

-- the frame below one of a FUNCTION will have one result more
abbrev pub results_then : Program → mean.Frame → mean.Frame → ℕ
results_then p f below = cond (evaluates p f) (suc (length below.results)) (length below.results)

-- a frame of a FUNCTION is that of the reference which comes next in the frame below
pub record IsReferred (p : Program) (f below : mean.Frame) : Type 0 where
  pub unit : ProgramUnit
  pub there : unit_at p below.unit ≡ Some unit
  pub point : Point
  pub at : point_at unit below.entry ≡ Some point
  pub name : List ℕ
  pub arguments : Trees
  pub next : next_reference point.entry (length below.results) ≡ Some (Ref name arguments)
  pub callee : ProgramUnit
  pub means : reference_of (names_in p unit) name ≡ Call f.unit callee

abbrev pub Where : Bool → Type 0 → Type 0
Where true T = T
Where false T = Unit {0}

-- where a statement begins: by its unit, its entry, and how many references of that one are done
abbrev pub Statements : Type 0
Statements = ProgramUnit → (entry results : ℕ) → ℕ

-- what stands below a frame
abbrev pub BelowStand : Program → Statements → Slots → (f : mean.Frame) (m : Frame) → List mean.Frame → List Frame → Type 0
BelowStand p at slots f m [] [] = Unit {0}
BelowStand p at slots f m [] (n ∷ ns) = ⊥
BelowStand p at slots f m (g ∷ gs) [] = ⊥
BelowStand p at slots f m (g ∷ gs) (n ∷ ns) =
    FrameStands p slots (λ u. at u g.entry (results_then p f g)) g n
    × BacksStand (variables_of p g.unit) (variables_of p f.unit) f.backs m.backs
    × Where (evaluates p f) (IsReferred p f g)
    × BelowStand p at slots g n gs ns
