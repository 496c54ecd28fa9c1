-- Ports on their way out.
-- Source: this profile.
use Rattle.std.specs.Prelude.{◌≡◌, ◌+◌, ◌-◌, ℕ, suc, Bool, true, false, Option, Some, None, List, [], ◌∷◌, ◌++◌, cond, map, take, drop, length, sum_by, option_to_list}
use Rattle.fm_base.specs.declared.port.PortValue.{PortValue}
use Rattle.fm_symbols.specs.declared.names.Variable.{Variable}
use Rattle.fm_rules.specs.declared.program.Program.{Program}
use Rattle.fm_mean.specs.Fits.{variables_of}
use Rattle.fm_mean.specs.Places.{live}
use Rattle.fm_mean.specs.Process.{started_ports, frames_ports}
use Rattle.fm_plain_frame.specs.declared.word.Word.{Word}
use Rattle.fm_plain_frame.specs.declared.frame.Frame.{Frame}
use Rattle.fm_plain_frame.specs.declared.leaving.Row.{Row}
use Rattle.fm_plain_frame.specs.declared.leaving.Leaving.{Leaving}
use Rattle.fm_plain_frame.specs.Memory.{holds_ports, port_in}
use Rattle.fm_plain_frame.specs.Frames.{start_of, frames_of}

-- the ports among words, if these hold ports
abbrev pub word_ports : Bool → List Word → List PortValue
word_ports b ws = cond b (live (map port_in ws)) []

-- the ports of variables whose words follow one another
abbrev pub following_ports : List Variable → List Word → List PortValue
following_ports [] ws = []
following_ports (v ∷ vs) ws = word_ports (holds_ports v.kind) (take v.words ws) ++ following_ports vs (drop v.words ws)

-- the ports of what is left of a memory by these variables: of the variable at hand, and of those behind it
abbrev pub row_by : List Variable → Row → List PortValue
row_by vs r = word_ports r.are_ports (take r.at_hand r.words.items) ++ following_ports (drop r.next vs) (drop r.at_hand r.words.items)

abbrev pub row_ports : Program → Row → List PortValue
row_ports p r = row_by (variables_of p r.unit) r

-- of what comes behind the memory at hand
abbrev pub later_ports : Program → Leaving → List PortValue
later_ports p l = started_ports (map (start_of p) l.starts.items) ++ frames_ports (frames_of p l.top l.below.items)

-- all of them, in the order in which they go
abbrev pub left_ports : Program → Leaving → List PortValue
left_ports p l = live l.replaced.items ++ (row_ports p l.row ++ (later_ports p l ++ live l.taken.items))

-- how many memories come behind the one at hand: of starts, and of frames with their starts
abbrev pub frame_count : Frame → ℕ
frame_count f = 1 + length f.starts.items

abbrev pub frames_count : Option Frame → List Frame → ℕ
frames_count top below = sum_by frame_count (option_to_list top) + sum_by frame_count below

abbrev pub later_count : Leaving → ℕ
later_count l = length l.starts.items + frames_count l.top l.below.items

-- the first port is taken, or there was none
abbrev pub Yields : List PortValue → Option PortValue → List PortValue → Type 0
Yields old None new = (old ≡ []) × (new ≡ [])
Yields old (Some x) new = old ≡ x ∷ new

-- the next memory is at hand, if there is one
abbrev pub Opens : Program → Leaving → Bool → Leaving → Type 0
Opens p old true new = (row_ports p new.row ++ later_ports p new ≡ later_ports p old) × (later_count old ≡ suc (later_count new))
Opens p old false new = (later_ports p old ≡ []) × (later_ports p new ≡ []) × (row_ports p new.row ≡ row_ports p old.row)

-- the first is taken, or there was none
abbrev pub Pops : {X : Type 0} → List X → Option X → List X → Type 0
Pops old None new = (old ≡ []) × (new ≡ [])
Pops old (Some x) new = old ≡ x ∷ new

-- how many words and variables are left
abbrev pub row_left : List Variable → Row → ℕ
row_left vs r = length r.words.items + (length vs - r.next)

-- the next variable is at hand, or there was none
abbrev pub Begins : List Variable → Row → Bool → Row → Type 0
Begins vs old true new = (row_by vs old ≡ row_by vs new) × (row_left vs old ≡ suc (row_left vs new))
Begins vs old false new = (row_by vs old ≡ []) × (row_by vs new ≡ [])

-- a word is taken, with its port if it has one; or no word was left
abbrev pub Moves : List Variable → Row → Option (Option PortValue) → Row → Type 0
Moves vs old None new = (row_by vs old ≡ []) × (row_by vs new ≡ [])
Moves vs old (Some o) new = (row_by vs old ≡ option_to_list o ++ row_by vs new) × (row_left vs old ≡ suc (row_left vs new))
