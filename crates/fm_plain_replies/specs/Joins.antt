-- The join of a process with its children, by the frames that these leave.
-- Source: the Fortran M report (process blocks), with this profile's copying back and discarding.
use Rattle.std.specs.Prelude.{◌≡◌, ◌==◌, ℕ, Option, Some, None, List, [], ◌∷◌, replicate}
use Rattle.fm_base.specs.declared.port.PortValue.{PortValue}
use Rattle.fm_base.specs.Channels.{Item}
use Rattle.fm_net.specs.Machine.{Onward}
use Rattle.fm_rules.specs.declared.program.Program.{Program}
use Rattle.fm_mean.specs.Fits.{variables_of}
use Rattle.fm_mean.specs.Places.{Returned}
use Rattle.fm_mean.specs.Process.{Frame, Kid, Phase, Running, Joining, Ended, Faulted, Proc}
use Rattle.fm_mean.specs.Steps.{joined, given_back, kid_back}
use Rattle.fm_plain_frame.specs.Frames.{frames_of}
use Rattle.fm_plain_frame.specs.declared.let_go.LetGo.{LetGo}
use Rattle.fm_plain_passing.specs.Rooms.{all_given}
use Rattle.fm_plain_replies.specs.declared.joining.Ended as left
use Rattle.fm_plain_replies.specs.Goes.{in_frame}

-- the children that a process waits for
abbrev pub kids_in : Phase → List Kid
kids_in Running = []
kids_in (Joining block kids) = kids
kids_in Ended = []
kids_in (Faulted line fault) = []

-- these children of it have ended
abbrev pub after_join : Proc → (next : ℕ) → List Proc → Onward Proc
after_join x next ys = in_frame x (λ below f. joined x below f next (kids_in x.phase) ys)

abbrev pub frames_in : Proc → List Frame
frames_in y = y.execution.frames

-- the frames that a child left
abbrev pub left_frames : Program → left.Ended → List Frame
left_frames p e = frames_of p e.top e.below.items

-- who isn't waited for gives nothing back
abbrev pub kid_or_nobody : Option Kid → Kid
kid_or_nobody None = record { unit = 0; backs = [] }
kid_or_nobody (Some k) = k

abbrev pub first_kid : List Kid → Option Kid
first_kid [] = None
first_kid (k ∷ ks) = Some k

abbrev pub other_kids : List Kid → List Kid
other_kids [] = []
other_kids (k ∷ ks) = ks

-- children give back in turn, each from the frames that it left
abbrev pub frames_back : Returned → List Kid → List (List Frame) → Returned
frames_back r kids [] = r
frames_back r kids (fs ∷ more) = frames_back (kid_back r (kid_or_nobody (first_kid kids)) fs) (other_kids kids) more

-- before anybody gives back
abbrev pub with_values : List Item → Returned
with_values mine = record { mine = mine; theirs = []; drops = [] }

-- the frames that go
abbrev pub leaving : Program → LetGo → List Frame
leaving p l = frames_of p l.top l.below.items

-- there is room for the ports that a child's copying back puts out
abbrev pub HasRoom : Program → Option Kid → List (Option PortValue) → Type 0
HasRoom p None room = room ≡ []
HasRoom p (Some k) room = room ≡ replicate (all_given (variables_of p k.unit) k.backs) None

-- and nothing else yet
abbrev pub IsReady : Program → Option Kid → LetGo → Type 0
IsReady p k l = HasRoom p k l.replaced.items × (l.taken.items ≡ [])

abbrev pub AreReady : Program → List Kid → List LetGo → Type 0
AreReady p ks [] = Unit {0}
AreReady p ks (l ∷ ls) = IsReady p (first_kid ks) l × AreReady p (other_kids ks) ls

-- what a child gives back from its innermost frame
abbrev pub given_from : List Item → Kid → Frame → Returned
given_from mine k f = given_back (f.unit == k.unit) (record { mine = mine; theirs = f.values; drops = [] }) k.backs
