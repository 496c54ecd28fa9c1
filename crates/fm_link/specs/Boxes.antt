-- The ends of links in memory as plain data, and the room in them.
-- Source: this profile.
use Rattle.std.specs.Prelude.{ℕ, ◌-◌}
use Rattle.fm_link.specs.declared.inbox.Inbox.{Inbox}
use Rattle.fm_link.specs.declared.outbox.Outbox.{Outbox}
use Rattle.fm_link.specs.Ends.{Outgoing, Incoming}

-- the writer's end as plain data
abbrev pub outgoing_of : Outbox → Outgoing
outgoing_of o = record { acknowledged = o.acknowledged; waiting = o.waiting.items }

-- for how many loads more the writer's end has room
abbrev pub room_of : Outbox → ℕ
room_of o = o.waiting.cap - o.waiting.len

-- the reader's end as plain data
abbrev pub incoming_of : Inbox → Incoming
incoming_of i = record { arrived = i.arrived; waiting = i.waiting.items }
