use Rattle.std.proofs.Common.{◌≤◌, map, ap, arith, rules}
use Rattle.fm_base.specs.Channels.{Message}
use Rattle.fm_chan.specs.Items.{plain_item}
use Rattle.fm_proc_language.specs.Frames.{Held}
use Rattle.fm_proc_language.specs.Processes.{message_words}
use Rattle.fm_proc_slots.specs.Helds.{held}
use Rattle.fm_proc_slots.proofs.Built.{message_fits}
use Rattle.fm_proc_slots.proofs.building.ports_message.Goals as goal

pub returns-clause-counted : goal.returns-clause-counted
returns-clause-counted c =
    let small : c.in_ok-words_room.field-0 ≤ 18446744073709551615 = search rules in
    omega (
      arith,
      ap (λ l. message_words (map plain_item l)) c.from_vec.ensures,
      ap (λ (p : Held × Message). message_words p.1) c.in_ok-all.ensures.items,
      message_fits (held c.args.words.now c.args.slots.now) c.args.items.now,
      c.in_ok-words_room.ensures,
      c.if-branch-eq18446744073709551615.false,
      small,
    )
