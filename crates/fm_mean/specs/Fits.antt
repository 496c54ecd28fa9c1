-- Types of channels: what variables, messages and places hold, relative to a type for each channel.
-- Source: the Fortran M report (typed ports and channels).
use Rattle.std.specs.Prelude.{ℤ, pos, negsuc, length, ◌≡◌, ℕ, zero, suc, Option, Some, None, List, [], ◌∷◌, ◌++◌, slice_get}
use Rattle.fm_base.specs.declared.path.ChanName.{ChanName}
use Rattle.fm_base.specs.declared.port.PortValue.{PortValue}
use Rattle.fm_base.specs.declared.port.PortValue.TheVariants.{Writer, Reader}
use Rattle.fm_base.specs.Channels.{Item, Words, Ports, Message}
use Rattle.fm_net.specs.Typed.{AllIn}
use Rattle.fm_tree.specs.PortFields.{PortFields, FieldKind, NoFields, FieldThen, Integer, Logical, In, Out}
use Rattle.fm_tree.specs.Tree.{Tree, Number, Truth, Named, Ref, Paren, Signed, Not, Binary}
use Rattle.fm_tree.specs.PortReading as reading
use Rattle.fm_tree.specs.declared.port_type.Bound.{Bound}
use Rattle.fm_values.specs.Trips.{natural}
use Rattle.fm_symbols.specs.declared.names.Variable.{Variable}
use Rattle.fm_rules.specs.PortTypes.{sizing_place}
use Rattle.fm_rules.specs.declared.program.Program.{Program}
use Rattle.fm_mean.specs.Names.{ProgramUnit, unit_at, formal_place}
use Rattle.fm_mean.specs.declared.place.Actual.{Actual}
use Rattle.fm_mean.specs.declared.place.Back.{Back}
use Rattle.fm_mean.specs.declared.place.Span.{Span}
use Rattle.fm_mean.specs.declared.place.Actual.TheVariants.{Given, Taken}
use Rattle.fm_mean.specs.Process.{Start, Frame, Kid, Phase, Running, Joining, Ended, Faulted, Proc}
use Rattle.fm_mean.specs.Calls.{variables_in}
use Rattle.fm_mean.specs.Places.{first_word}

-- what an element of a variable is, in the words of the types of messages
abbrev pub sort_of_variable : Variable → FieldKind
sort_of_variable v = reading.kind_of v.kind

-- how many elements a field has, by its bounds: its number of elements alone, or none for one element
abbrev pub upper_in : Tree → ℕ
upper_in (Number n) = natural n
upper_in (Truth b) = 0
upper_in (Named name) = 0
upper_in (Ref name args) = 0
upper_in (Paren e) = 0
upper_in (Signed op e) = 0
upper_in (Not e) = 0
upper_in (Binary op a b) = 0

abbrev pub elements_in : List Bound → ℕ
elements_in [] = 1
elements_in (b ∷ bs) = upper_in b.high

abbrev pub Types : Type 0
Types = ChanName → PortFields

-- a port may stand at a place of its direction and of its channel's type
abbrev pub PortFits : Types → FieldKind → PortValue → Type 0
PortFits types Integer z = ⊥
PortFits types Logical z = ⊥
PortFits types (In t) (Reader c) = types c ≡ t
PortFits types (In t) (Writer c w) = ⊥
PortFits types (Out t) (Writer c w) = types c ≡ t
PortFits types (Out t) (Reader c) = ⊥

-- so may NULL
abbrev pub MayStand : Types → FieldKind → Option PortValue → Type 0
MayStand types s None = Unit {0}
MayStand types s (Some z) = PortFits types s z

-- a logical is kept as 0 or 1
abbrev pub IsBit : ℤ → Type 0
IsBit (pos zero) = Unit {0}
IsBit (pos (suc zero)) = Unit {0}
IsBit (pos (suc (suc n))) = ⊥
IsBit (negsuc n) = ⊥

-- an item of a sort with so many elements
abbrev pub ItemFits : Types → FieldKind → ℕ → Item → Type 0
ItemFits types Integer n (Words ws) = length ws ≡ n
ItemFits types Integer n (Ports ps) = ⊥
ItemFits types Logical n (Words ws) = (length ws ≡ n) × AllIn IsBit ws
ItemFits types Logical n (Ports ps) = ⊥
ItemFits types (In t) n (Words ws) = ⊥
ItemFits types (In t) n (Ports ps) = (length ps ≡ n) × AllIn (MayStand types (In t)) ps
ItemFits types (Out t) n (Words ws) = ⊥
ItemFits types (Out t) n (Ports ps) = (length ps ≡ n) × AllIn (MayStand types (Out t)) ps

-- one item for each variable
abbrev pub ValuesFit : Types → List Variable → List Item → Type 0
ValuesFit types [] [] = Unit {0}
ValuesFit types [] (x ∷ xs) = ⊥
ValuesFit types (v ∷ vs) [] = ⊥
ValuesFit types (v ∷ vs) (x ∷ xs) = ItemFits types (sort_of_variable v) v.words x × ValuesFit types vs xs

-- the number of elements that a scalar item says
abbrev pub size_told : Option Item → ℕ
size_told None = 0
size_told (Some (Words ws)) = natural (first_word ws)
size_told (Some (Ports ps)) = 0

-- how many elements a field has behind these items: its number of elements, or as many as the item says that sizes it
abbrev pub elements_behind : Message → (size : Option ℕ) → List Bound → ℕ
elements_behind before None bounds = elements_in bounds
elements_behind before (Some place) bounds = size_told (slice_get before place)

-- one item for each field, behind these items
abbrev pub FieldsFit : Types → Message → PortFields → Message → Type 0
FieldsFit types before NoFields [] = Unit {0}
FieldsFit types before NoFields (m ∷ ms) = ⊥
FieldsFit types before (FieldThen s a n rest) [] = ⊥
FieldsFit types before (FieldThen s a n rest) (m ∷ ms) =
    ItemFits types s (elements_behind before (sizing_place n) n) m × FieldsFit types (before ++ m ∷ []) rest ms

-- one item for each field
abbrev pub MessageFits : Types → PortFields → Message → Type 0
MessageFits types fields m = FieldsFit types [] fields m

abbrev pub Fits : Types → ChanName → Message → Type 0
Fits types c m = MessageFits types (types c) m

-- the sort at a place of a unit
abbrev pub sort_at : List Variable → ℕ → Option FieldKind
sort_at [] i = None
sort_at (v ∷ vs) zero = Some (sort_of_variable v)
sort_at (v ∷ vs) (suc i) = sort_at vs i

-- words that are written at a place are 0 and 1 where it is logical
abbrev pub BitsAt : List Variable → ℕ → List ℤ → Type 0
BitsAt vars i ns = sort_at vars i ≡ Some Logical → AllIn IsBit ns

-- a formal and the place to which it gives back are of one sort
abbrev pub BackFits : (mine theirs : List Variable) → Back → Type 0
BackFits mine theirs b = sort_at theirs b.formal ≡ sort_at mine b.place.variable

abbrev pub variables_of : Program → ℕ → List Variable
variables_of p n = variables_in (unit_at p n)

-- a start, whose parent has these variables
abbrev pub StartFits : Program → Types → List Variable → Start → Type 0
StartFits p types mine s = ValuesFit types (variables_of p s.unit) s.values × AllIn (BackFits mine (variables_of p s.unit)) s.backs

abbrev pub FrameFits : Program → Types → Frame → Type 0
FrameFits p types f = ValuesFit types (variables_of p f.unit) f.values × AllIn (StartFits p types (variables_of p f.unit)) f.starts

-- each frame gives back to the one below
abbrev pub FramesFit : Program → Types → List Frame → Type 0
FramesFit p types [] = Unit {0}
FramesFit p types (f ∷ []) = FrameFits p types f
FramesFit p types (f ∷ g ∷ fs) = FrameFits p types f × AllIn (BackFits (variables_of p g.unit) (variables_of p f.unit)) f.backs × FramesFit p types (g ∷ fs)

abbrev pub KidFits : Program → List Variable → Kid → Type 0
KidFits p mine k = AllIn (BackFits mine (variables_of p k.unit)) k.backs

abbrev pub KidsFit : Program → List Kid → List Frame → Type 0
KidsFit p kids [] = Unit {0}
KidsFit p kids (f ∷ fs) = AllIn (KidFits p (variables_of p f.unit)) kids

abbrev pub PhaseFits : Program → List Frame → Phase → Type 0
PhaseFits p fs Running = Unit {0}
PhaseFits p fs (Joining block kids) = KidsFit p kids fs
PhaseFits p fs Ended = Unit {0}
PhaseFits p fs (Faulted line fault) = Unit {0}

-- what a process holds stands at places of its type
abbrev pub IsFine : Program → Types → Proc → Type 0
IsFine p types x = FramesFit p types x.execution.frames × PhaseFits p x.execution.frames x.phase

-- What the checks of ports say of arguments and items, evaluated.

abbrev pub ArgFits : List Variable → FieldKind → ℕ → Actual → Type 0
ArgFits vars Integer n (Given ws back) = length ws ≡ n
ArgFits vars Integer n (Taken s) = ⊥
ArgFits vars Logical n (Given ws back) = (length ws ≡ n) × AllIn IsBit ws
ArgFits vars Logical n (Taken s) = ⊥
ArgFits vars (In t) n (Given ws back) = ⊥
ArgFits vars (In t) n (Taken s) = (sort_at vars s.variable ≡ Some (In t)) × (s.count ≡ n)
ArgFits vars (Out t) n (Given ws back) = ⊥
ArgFits vars (Out t) n (Taken s) = (sort_at vars s.variable ≡ Some (Out t)) × (s.count ≡ n)

-- how many elements an item has
abbrev pub actual_length : Actual → ℕ
actual_length (Given ws back) = length ws
actual_length (Taken s) = s.count

-- how many elements an item has as it is evaluated: its field's number; any number where an earlier field sizes it
abbrev pub elements_given : (size : Option ℕ) → List Bound → Actual → ℕ
elements_given None bounds a = elements_in bounds
elements_given (Some place) bounds a = actual_length a

-- the items of a SEND fit the fields
abbrev pub ItemsFit : List Variable → PortFields → List Actual → Type 0
ItemsFit vars NoFields [] = Unit {0}
ItemsFit vars NoFields (a ∷ more) = ⊥
ItemsFit vars (FieldThen s r n rest) [] = ⊥
ItemsFit vars (FieldThen s r n rest) (a ∷ more) = ArgFits vars s (elements_given (sizing_place n) n a) a × ItemsFit vars rest more

-- the places of a RECEIVE fit the fields
abbrev pub PlacesFit : List Variable → PortFields → List Span → Type 0
PlacesFit vars NoFields ss = Unit {0}
PlacesFit vars (FieldThen s r n rest) [] = ⊥
PlacesFit vars (FieldThen s r n rest) (x ∷ xs) = (sort_at vars x.variable ≡ Some s) × PlacesFit vars rest xs

-- an argument and its formal are of one sort
abbrev pub EntersAs : List Variable → ProgramUnit → ℕ → Actual → Type 0
EntersAs mine u n (Given ws None) = BitsAt u.names.variables (formal_place u n) ws
EntersAs mine u n (Given ws (Some s)) = BitsAt u.names.variables (formal_place u n) ws × (sort_at u.names.variables (formal_place u n) ≡ sort_at mine s.variable)
EntersAs mine u n (Taken s) = sort_at u.names.variables (formal_place u n) ≡ sort_at mine s.variable

abbrev pub EnterFrom : List Variable → ProgramUnit → ℕ → List Actual → Type 0
EnterFrom mine u n [] = Unit {0}
EnterFrom mine u n (a ∷ more) = EntersAs mine u n a × EnterFrom mine u (suc n) more
