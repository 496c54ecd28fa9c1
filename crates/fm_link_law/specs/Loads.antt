-- Messages of words as loads of links.
-- Source: this profile.
use Rattle.std.specs.Prelude.{◌≡◌, ℤ, Bool, true, false, List, [], ◌∷◌, map}
use Rattle.fm_base.specs.Channels.{Item, Words, Ports, Message}
use Rattle.fm_link.specs.declared.load.Load.{Load}
use Rattle.fm_link.specs.declared.load.Load.TheVariants as load

-- the item has words, and no ports
abbrev pub IsWords : Item → Type 0
IsWords (Words ws) = Unit {0}
IsWords (Ports ps) = ⊥

-- and so have all items of the message
abbrev pub AreWords : Message → Type 0
AreWords [] = Unit {0}
AreWords (i ∷ m) = IsWords i × AreWords m

-- the words of an item
abbrev pub words_in : Item → List ℤ
words_in (Words ws) = ws
words_in (Ports ps) = []

-- the load that carries a message
abbrev pub load_of : Message → Load
load_of m = load.Words (map words_in m)

-- the messages that loads carry; the end carries none
abbrev pub messages_in : List Load → List Message
messages_in [] = []
messages_in (load.Words ws ∷ xs) = map Words ws ∷ messages_in xs
messages_in (load.Close ∷ xs) = messages_in xs

-- the end is there exactly where the writer isn't open, once, as the last load
abbrev pub CloseIsLast : (is_open : Bool) → List Load → Type 0
CloseIsLast is_open [] = is_open ≡ true
CloseIsLast is_open (load.Words ws ∷ xs) = CloseIsLast is_open xs
CloseIsLast is_open (load.Close ∷ xs) = (is_open ≡ false) × (xs ≡ [])
