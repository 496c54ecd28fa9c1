-- What the end of a statement is, where its code has its kinds: where it goes stands the list of kinds with which a statement begins, and
-- words that it names are those of the right variables.
-- Source: this profile.
use Rattle.std.specs.Prelude.{◌≡◌, ℕ, suc, ◌≤◌, ◌<◌, ℤ, pos, true, false, Option, Some, None, List, [], length, slice_get}
use Rattle.std.specs.List.{AllByRecursion}
use Rattle.std.specs.Ordering.{int_eq}
use Rattle.fm_code.specs.declared.ask.Ask.{Ask}
use Rattle.fm_code.specs.declared.ask.Ask.TheVariants as ask
use Rattle.fm_code.specs.declared.body.Frame.{Frame}
use Rattle.fm_code.specs.Acts.{StatementEnd}
use Rattle.fm_code.specs.Acts as acts
use Rattle.fm_code_kinds.specs.declared.sorts.Cell.{Cell}
use Rattle.fm_code_kinds.specs.declared.sorts.Shape.{Shape}
use Rattle.fm_code_kinds.specs.declared.sorts.Shapes.{Shapes}
use Rattle.fm_code_kinds.specs.Effects.{heading_of}
use Rattle.fm_code_kinds.specs.Fitting.{Fitted}
use Rattle.fm_code_kinds.specs.Kinded.{Coded, Lists, IsAt, results}
use Rattle.fm_code_kinds.specs.Shapes.{is_function}
use Rattle.fm_code_preserves.specs.Rooms.{IsPorts, IsSendable, IsTarget, is_port_word}
use Rattle.fm_code_preserves.specs.Weights.{masked}

-- the number of a word of the frame that is a port word, or isn't
pub record IsPortWord (cells : List Cell) (m : Frame) (k : ℕ) : Type 0 where
  pub inside : k < length m.words
  pub port : is_port_word cells k ≡ true

pub record IsPlainWord (cells : List Cell) (m : Frame) (k : ℕ) : Type 0 where
  pub inside : k < length m.words
  pub plain : is_port_word cells k ≡ false

-- the slot that a port word of the frame names
pub record IsSlotWord (cells : List Cell) (m : Frame) (slot : ℤ) : Type 0 where
  pub number : ℕ
  pub word : IsPortWord cells m number
  pub is : slice_get m.words number ≡ Some slot
  pub live : int_eq slot (pos 0) ≡ false

-- the frame with other values: its port words stand where they stood
pub record HasValues (cells : List Cell) (m after : Frame) : Type 0 where
  pub unit : after.unit ≡ m.unit
  pub starts : after.starts ≡ m.starts
  pub backs : after.backs ≡ m.backs
  pub count : length after.words ≡ length m.words
  pub loops : length after.loops ≡ length m.loops
  pub weighs : (g : ℤ → ℕ) → masked (is_port_word cells) g 0 after.words ≡ masked (is_port_word cells) g 0 m.words

-- the word of IOSTAT, and the statement at the end of a channel
abbrev pub StatusFits : List Cell → Frame → Option ℕ → Type 0
StatusFits cells m None = Unit {0}
StatusFits cells m (Some k) = IsPlainWord cells m k

-- a statement begins there, with no results
abbrev pub Begins : Coded → Lists → ℕ → Type 0
Begins c lists to = IsAt c.code lists to []

abbrev pub EndBegins : Coded → Lists → Option ℕ → Type 0
EndBegins c lists None = Unit {0}
EndBegins c lists (Some to) = Begins c lists to

-- what a body asks for
abbrev pub AsksFine : Shape → Coded → Lists → Frame → Ask → Type 0
AsksFine u c lists m (ask.Fail line fault) = Unit {0}
AsksFine u c lists m (ask.LetGo slots) = ⊥
AsksFine u c lists m (ask.Channel inport outport next) = IsPortWord u.cells m inport × IsPortWord u.cells m outport × Begins c lists next
AsksFine u c lists m (ask.Merger inport outports next) = IsPortWord u.cells m inport × AllByRecursion (IsPorts u.cells) outports × Begins c lists next
AsksFine u c lists m (ask.Send slot items next) = IsSlotWord u.cells m slot × AllByRecursion (IsSendable u.cells) items × Begins c lists next
AsksFine u c lists m (ask.Receive slot items status at_end next) =
    IsSlotWord u.cells m slot × AllByRecursion (IsTarget u.cells) items × StatusFits u.cells m status × EndBegins c lists at_end × Begins c lists next
AsksFine u c lists m (ask.Probe slot empty next) = IsSlotWord u.cells m slot × IsPlainWord u.cells m empty × Begins c lists next
AsksFine u c lists m (ask.Begin next) = Begins c lists next
AsksFine u c lists m (ask.Join next) = Begins c lists next
AsksFine u c lists m ask.End = Unit {0}

-- a reference leads to where the results stand that are done, and one more
pub record ReferBegins (c : Coded) (lists : Lists) (m : Frame) (to : ℕ) : Type 0 where
  pub done : ℕ
  pub enough : done ≤ length m.results
  pub at : IsAt c.code lists to (results (suc done))

-- how a statement ends
abbrev pub EndsFine : Shapes → Shape → Coded → Lists → Frame → StatementEnd → Type 0
EndsFine ss u c lists m (acts.Goes to after) = HasValues u.cells m after × Begins c lists to
EndsFine ss u c lists m (acts.Prints to line) = Begins c lists to
EndsFine ss u c lists m (acts.Calls n to operands) = Fitted ss u n operands × (heading_of (slice_get ss.units n) is_function ≡ false) × Begins c lists to
EndsFine ss u c lists m (acts.Refers n to operands) = Fitted ss u n operands × (heading_of (slice_get ss.units n) is_function ≡ true) × ReferBegins c lists m to
EndsFine ss u c lists m acts.Returns = is_function u.heading ≡ false
EndsFine ss u c lists m (acts.ReturnsValue v) = is_function u.heading ≡ true
EndsFine ss u c lists m (acts.Starts n to operands place) = Fitted ss u n operands × Begins c lists to
EndsFine ss u c lists m (acts.Closes port to) = IsPortWord u.cells m port × Begins c lists to
EndsFine ss u c lists m (acts.Moves from into to) = IsPortWord u.cells m from × IsPortWord u.cells m into × Begins c lists to
EndsFine ss u c lists m (acts.Fails fault) = Unit {0}
EndsFine ss u c lists m (acts.Asks a) = AsksFine u c lists m a
EndsFine ss u c lists m acts.Stuck = ⊥
