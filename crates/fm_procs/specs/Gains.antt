-- What a parent has while it joins its children, one after the other.
-- Source: this profile.
use Rattle.std.specs.Prelude.{Option, List, [], ◌∷◌}
use Rattle.fm_base.specs.declared.port.PortValue.{PortValue}
use Rattle.fm_code.specs.declared.body.Body.{Body}
use Rattle.fm_proc_language.specs.Slots.{Slots, no_slots}
use Rattle.fm_proc_language.specs.Frames.{Held, Joined}
use Rattle.fm_proc_language.specs.Processes.{Kid, kid_back}
use Rattle.fm_proc_slots.specs.declared.joining.Gains.{Gains}
use Rattle.fm_proc_slots.specs.Helds.{held}
use Rattle.fm_proc_slots.specs.Rooms.{slots_in}

-- with nothing of a child
abbrev pub alone : Held → List PortValue → Joined
alone mine drops = record { mine = mine; theirs = record { words = []; slots = no_slots }; drops = drops }

abbrev pub gained : Gains → Joined
gained g = alone (held g.words.items (slots_in g.slots)) g.drops.items

-- what the parent has
abbrev pub mine_of : Joined → Held × List PortValue
mine_of j = (j.mine, j.drops)

-- what is to be joined next; nothing is given back where that isn't known
abbrev pub first_kid : List Kid → Kid
first_kid [] = record { unit = 0; backs = [] }
first_kid (k ∷ ks) = k

abbrev pub other_kids : List Kid → List Kid
other_kids [] = []
other_kids (k ∷ ks) = ks

-- by what children left
abbrev pub lefts_back : Joined → List Kid → List (Option Body × Slots) → Joined
lefts_back j kids [] = j
lefts_back j kids (x ∷ xs) = lefts_back (kid_back j (first_kid kids) x.1 x.0) (other_kids kids) xs

abbrev pub joined_by : Body → Slots → List Kid → List (Option Body × Slots) → Joined
joined_by b slots kids xs = lefts_back (alone (record { words = b.frame.words; slots = slots }) []) kids xs
