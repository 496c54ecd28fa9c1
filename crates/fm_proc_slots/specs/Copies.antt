-- Messages without ports, which are copies of words.
-- Source: the Fortran M report (SEND of values, and of ports), with this profile's items.
use Rattle.std.specs.Prelude.{ℤ, Bool, true, false, Option, Some, None, List, [], ◌∷◌, map}
use Rattle.std.specs.List.{list_any}
use Rattle.fm_base.specs.Channels.{Message, Words}
use Rattle.fm_chan.specs.declared.message.Content.{Content}
use Rattle.fm_chan.specs.declared.message.Content.TheVariants as content
use Rattle.fm_code.specs.declared.ask.Operand.{Operand}
use Rattle.fm_code.specs.declared.ask.Operand.TheVariants as operand
use Rattle.fm_code.specs.Acts.{span_of}

-- whether an operand is ports
abbrev pub has_ports : Operand → Bool
has_ports (operand.Value v) = false
has_ports (operand.Words s) = false
has_ports (operand.Ports s) = true

-- whether a message of these has ports in it
abbrev pub carries_ports : List Operand → Bool
carries_ports os = list_any has_ports os

-- the words that an operand sends
abbrev pub copied_words : List ℤ → Operand → List ℤ
copied_words ws (operand.Value v) = v ∷ []
copied_words ws (operand.Words s) = span_of ws s
copied_words ws (operand.Ports s) = []

-- the message of these, where none is ports
abbrev pub words_message : List ℤ → List Operand → Message
words_message ws os = map (λ o. Words (copied_words ws o)) os

-- the word of a message that is kept as one
abbrev pub kept_word : Content → Option ℤ
kept_word (content.Word w) = Some w
kept_word (content.Items is) = None
