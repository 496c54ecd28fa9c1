use Rattle.std.proofs.Common.{◌≡◌, ◌++◌, drop, map}
use Rattle.fm_chan.specs.Items.{plain_item}
use Rattle.fm_proc_slots.specs.Copies.{carries_ports, words_message}
use Rattle.fm_proc_slots.proofs.messages.listed_words.Given as goal

abbrev pub invariant-items : goal.invariant-items
invariant-items l = record {
  gives : map plain_item l.all.items ++ words_message l.words (drop l.item-index l.items) ≡ words_message l.words l.items;
  carries : carries_ports (drop l.item-index l.items) ≡ carries_ports l.items;
}
