-- Items as plain data.
-- Source: this profile.
use Rattle.std.specs.Prelude.{[], ◌∷◌, map}
use Rattle.fm_base.specs.Channels as base
use Rattle.fm_chan.specs.declared.message.Content.{Content}
use Rattle.fm_chan.specs.declared.message.Content.TheVariants.{Word, Items}
use Rattle.fm_chan.specs.declared.message.Item.{Item}
use Rattle.fm_chan.specs.declared.message.Item.TheVariants.{Words, Ports}

-- the item without who owns its ports
abbrev pub plain_item : Item → base.Item
plain_item (Words ws) = base.Words ws
plain_item (Ports ps) = base.Ports ps

-- the message of this content, as the list of its items
abbrev pub plain_message : Content → base.Message
plain_message (Word w) = base.Words (w ∷ []) ∷ []
plain_message (Items is) = map plain_item is
