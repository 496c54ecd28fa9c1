-- The ports in what was packed into messages.
use Rattle.std.proofs.Common.{◌≡◌, Option, Some, None, false, List, [], ◌∷◌, ◌++◌, map, refl, ap}
use Rattle.std.specs.Prelude.{is_some}
use Rattle.fm_base.specs.declared.port.PortValue.{PortValue}
use Rattle.fm_base.specs.Channels.{item_ports, message_ports}
use Rattle.fm_chan.specs.declared.message.Item.{Item}
use Rattle.fm_chan.specs.Items.{plain_item}
use Rattle.fm_chan.specs.Rest.{items_ports, Yields}

pub ports_of_items : (xs : List Item) → items_ports xs ≡ message_ports (map plain_item xs)
ports_of_items [] = refl
ports_of_items (x ∷ xs) = ap (λ ps. item_ports (plain_item x) ++ ps) (ports_of_items xs)

-- a level whose item and message are done goes on with its next message
next_level : (p i p' i' q m q' : List PortValue) → p ++ i ≡ [] → p' ++ i' ≡ [] → q ≡ m ++ q' → p ++ i ++ q ≡ p' ++ m ++ q'
next_level [] [] [] i' q m q' done left is = is
next_level (x ∷ p) i p' i' q m q' done left is = absurd (cc done)
next_level [] (x ∷ i) p' i' q m q' done left is = absurd (cc done)
next_level [] [] (x ∷ p') i' q m q' done left is = absurd (cc left)

pub next_message : (o : Option PortValue) (p i p' i' q m q' : List PortValue) → is_some o ≡ false → Yields (p ++ i) o (p' ++ i') → q ≡ m ++ q' → p ++ i ++ q ≡ p' ++ m ++ q'
next_message (Some x) p i p' i' q m q' none yields is = absurd (cc none)
next_message None p i p' i' q m q' none yields is = next_level p i p' i' q m q' yields.0 yields.1 is

pub nothing_left : (o : Option PortValue) (old new : List PortValue) → ((x : PortValue) → o ≡ Some x → ⊥) → Yields old o new → old ≡ []
nothing_left None old new none yields = yields.0
nothing_left (Some x) old new none yields = absurd (none x refl)
