-- What is still to be paid for calls and process calls that were made: a turn for each child that is to start, and a turn for each
-- word that may be copied back.
-- Source: this profile (costs of statements).
use Rattle.std.specs.Prelude.{◌≡◌, ◌≤◌, ◌+◌, ◌*◌, ℕ, Bool, Option, Some, None, List, [], ◌∷◌, slice_get}
use Rattle.std.specs.FinMap.{get}
use Rattle.fm_base.specs.declared.path.ChanName.{ChanName}
use Rattle.fm_base.specs.Channels.{Chan, Message}
use Rattle.fm_net.specs.Machine.{Place, State}
use Rattle.fm_net.specs.Typed.{AllIn}
use Rattle.fm_tree.specs.PortFields.{PortFields, NoFields, FieldThen}
use Rattle.fm_tree.specs.Tree.{Tree}
use Rattle.fm_tree.specs.declared.program_unit.Entry.{Entry}
use Rattle.fm_tree.specs.declared.statement.Simple.TheVariants as simple
use Rattle.fm_tree.specs.declared.statement.Stmt.TheVariants as stmt
use Rattle.fm_tree.specs.declared.statement.Var.{Var}
use Rattle.fm_rules.specs.PortTypes.{sizing_place}
use Rattle.fm_rules.specs.declared.program.Program.{Program}
use Rattle.fm_mean.specs.Names.{ProgramUnit, unit_at}
use Rattle.fm_mean.specs.Actions.{Fail, Make, Send, Receive, Probe, Begin, Join, End, Action, Rest, Own, Meets, message_words, fields_at}
use Rattle.fm_mean.specs.Calls.{back_words}
use Rattle.fm_mean.specs.Process.{Start, Frame, Kid, Phase, Running, Joining, Ended, Faulted, Proc}

abbrev pub starts_owe : List Start → ℕ
starts_owe [] = 0
starts_owe (s ∷ ss) = (1 + back_words s.backs) + starts_owe ss

abbrev pub frames_owe : List Frame → ℕ
frames_owe [] = 0
frames_owe (f ∷ fs) = (back_words f.backs + starts_owe f.starts) + frames_owe fs

abbrev pub kids_owe : List Kid → ℕ
kids_owe [] = 0
kids_owe (k ∷ ks) = back_words k.backs + kids_owe ks

abbrev pub phase_owes : Phase → ℕ
phase_owes Running = 0
phase_owes (Joining block kids) = kids_owe kids
phase_owes Ended = 0
phase_owes (Faulted line fault) = 0

abbrev pub owed : Proc → ℕ
owed x = phase_owes x.phase + frames_owe x.execution.frames

-- no process owes more than this
abbrev pub OweAtMost : ℕ → State Proc → Type 0
OweAtMost n s = (q : Place) (x : Proc) → get s.procs q ≡ Some x → owed x ≤ n

-- how many fields of a message an earlier one sizes
abbrev pub one_sized : (size : Option ℕ) → ℕ
one_sized None = 0
one_sized (Some place) = 1

abbrev pub sized_fields : PortFields → ℕ
sized_fields NoFields = 0
sized_fields (FieldThen kind name bounds rest) = one_sized (sizing_place bounds) + sized_fields rest

-- no message that a program sends has more such fields
abbrev pub SizesAtMost : ℕ → Program → Type 0
SizesAtMost n p = (k : ℕ) (u : ProgramUnit) (i : ℕ) (e : Entry) (named : Bool) (q : Var) (items : List Tree) → unit_at p k ≡ Some u → slice_get u.tree.body i ≡ Some e
    → e.stmt ≡ stmt.Simple (simple.Send named q items) → sized_fields (fields_at u q) ≤ n

-- a message that is no longer than one with so many such fields may be
abbrev pub IsShort : ℕ → Message → Type 0
IsShort n m = message_words m ≤ 65536 + 65536 * n

-- each message that waits is
abbrev pub HaveShortMessages : ℕ → State Proc → Type 0
HaveShortMessages n s = (c : ChanName) (ch : Chan) → get s.chans c ≡ Some ch → AllIn (IsShort n) ch.queue

-- a step that prints no line, and makes no merger of more than 65,536 writers
abbrev pub IsQuiet : Action → Type 0
IsQuiet Rest = Unit {0}
IsQuiet (Own after [] drops cost) = Unit {0}
IsQuiet (Own after (l ∷ ls) drops cost) = ⊥
IsQuiet (Meets (Fail line fault)) = Unit {0}
IsQuiet (Meets (Make places writers cost next)) = writers ≤ 65536
IsQuiet (Meets (Send channel writer items next)) = Unit {0}
IsQuiet (Meets (Receive channel line items iostat at_end next)) = Unit {0}
IsQuiet (Meets (Probe channel place next)) = Unit {0}
IsQuiet (Meets Begin) = Unit {0}
IsQuiet (Meets (Join block kids next)) = Unit {0}
IsQuiet (Meets End) = Unit {0}
