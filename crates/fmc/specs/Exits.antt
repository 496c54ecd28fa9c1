-- Exits: their statuses, and which of them come when.
-- Source: this profile.
use Rattle.std.specs.Prelude.{ℕ, Bool, true, false}
use Rattle.fmc.specs.declared.answer.Exit.{Exit}
use Rattle.fmc.specs.declared.answer.Exit.TheVariants.{Done, Faulted, Deadlocked, Refused, Spent, Usage, ReadFault, WriteFault, NoMemory, TooLong, Malformed, Illegal, Unfinished, BadObject, Unverified, NotPlain}

abbrev pub status_of : Exit → ℕ
status_of Done = 0
status_of Faulted = 1
status_of Deadlocked = 2
status_of Refused = 3
status_of Spent = 4
status_of Usage = 5
status_of ReadFault = 6
status_of WriteFault = 7
status_of NoMemory = 8
status_of TooLong = 9
status_of Malformed = 10
status_of Illegal = 11
status_of Unfinished = 12
status_of BadObject = 13
status_of Unverified = 14
status_of NotPlain = 15

abbrev pub is_usage : Exit → Bool
is_usage Usage = true
is_usage Done = false
is_usage Faulted = false
is_usage Deadlocked = false
is_usage Refused = false
is_usage Spent = false
is_usage ReadFault = false
is_usage WriteFault = false
is_usage NoMemory = false
is_usage TooLong = false
is_usage Malformed = false
is_usage Illegal = false
is_usage Unfinished = false
is_usage BadObject = false
is_usage Unverified = false
is_usage NotPlain = false

-- an exit of a source that was read to its end
abbrev pub is_read : Exit → Bool
is_read Done = true
is_read Faulted = true
is_read Deadlocked = true
is_read Refused = true
is_read Spent = true
is_read Malformed = true
is_read Illegal = true
is_read Unfinished = true
is_read BadObject = true
is_read Unverified = true
is_read NotPlain = true
is_read Usage = false
is_read ReadFault = false
is_read WriteFault = false
is_read NoMemory = false
is_read TooLong = false

-- an exit of a run that ended
abbrev pub is_end : Exit → Bool
is_end Done = true
is_end Faulted = true
is_end Deadlocked = true
is_end Refused = false
is_end Spent = false
is_end Usage = false
is_end ReadFault = false
is_end WriteFault = false
is_end NoMemory = false
is_end TooLong = false
is_end Malformed = false
is_end Illegal = false
is_end Unfinished = false
is_end BadObject = false
is_end Unverified = false
is_end NotPlain = false

-- an exit that the bytes decide, or want of memory
abbrev pub is_decided : Exit → Bool
is_decided Done = true
is_decided Faulted = true
is_decided Deadlocked = true
is_decided Refused = true
is_decided Spent = true
is_decided NoMemory = true
is_decided TooLong = true
is_decided Malformed = true
is_decided Illegal = true
is_decided Unfinished = true
is_decided BadObject = true
is_decided Unverified = true
is_decided NotPlain = true
is_decided Usage = false
is_decided ReadFault = false
is_decided WriteFault = false

-- an exit that says how reading the source went wrong
abbrev pub is_of_reading : Exit → Bool
is_of_reading ReadFault = true
is_of_reading TooLong = true
is_of_reading Done = false
is_of_reading Faulted = false
is_of_reading Deadlocked = false
is_of_reading Refused = false
is_of_reading Spent = false
is_of_reading Usage = false
is_of_reading WriteFault = false
is_of_reading NoMemory = false
is_of_reading Malformed = false
is_of_reading Illegal = false
is_of_reading Unfinished = false
is_of_reading BadObject = false
is_of_reading Unverified = false
is_of_reading NotPlain = false
