-- What contracts see of the sources and sinks over memory. Source: this profile.
use Rattle.std.specs.Prelude.{◌≡◌, ℕ, ◌+◌, ◌-◌, ◌^◌, Bool, true, false, nat_le, nat_lt, ◌==◌, ◌&&◌, if◌then◌else◌, min, List, [], ◌++◌, length, take, drop, MatchResult, Result}
use Rattle.std.specs.List.{list_any}
use Rattle.fm_io.specs.Causes.{one_more, count_after}

-- after so many calls the next one is listed among those that fail, which count from 1
abbrev pub fails_next : ℕ → List ℕ → Bool
fails_next calls fail_at = list_any (λ number. number == calls + 1) fail_at

-- a source: the bytes left, the most bytes of a call, the calls so far, those that fail, the faults so far
pub record Feed : Type 0 where
  pub left : List ℕ
  pub piece : ℕ
  pub calls : ℕ
  pub fail_at : List ℕ
  pub faults : ℕ

abbrev pub new_feed : List ℕ → ℕ → List ℕ → Feed
new_feed left piece fail_at = record { left = left; piece = piece; calls = 0; fail_at = fail_at; faults = 0 }

abbrev pub feed_fails : Feed → Bool
feed_fails s = fails_next s.calls s.fail_at

-- the bytes of a read that doesn't fail, into a buffer of so many
abbrev pub read_size : Feed → ℕ → ℕ
read_size s room = min (min (length s.left) room) s.piece

-- the source after a read
abbrev pub feed_after : Feed → ℕ → Feed
feed_after s room = record s {
  left = if feed_fails s then s.left else drop (read_size s room) s.left;
  calls = one_more s.calls;
  faults = count_after (feed_fails s) s.faults;
}

-- a source without faults: the bytes left, the most bytes of a call
pub record SureFeed : Type 0 where
  pub left : List ℕ
  pub piece : ℕ

abbrev pub sure_read_size : SureFeed → ℕ → ℕ
sure_read_size s room = min (min (length s.left) room) s.piece

abbrev pub sure_after : SureFeed → ℕ → SureFeed
sure_after s room = record s { left = drop (sure_read_size s room) s.left }

-- a sink: the bytes written, the most bytes of a write and of all, the writes so far, those that fail, the faults so far,
-- and whether no write came since the last flush
pub record Tray : Type 0 where
  pub bytes : List ℕ
  pub piece : ℕ
  pub room : ℕ
  pub calls : ℕ
  pub fail_at : List ℕ
  pub faults : ℕ
  pub flushed : Bool

abbrev pub new_tray : ℕ → ℕ → List ℕ → Tray
new_tray piece room fail_at = record { bytes = []; piece = piece; room = room; calls = 0; fail_at = fail_at; faults = 0; flushed = true }

abbrev pub tray_fails : Tray → Bool
tray_fails s = fails_next s.calls s.fail_at

-- the bytes that a write which doesn't fail takes of so many
abbrev pub write_size : Tray → ℕ → ℕ
write_size s size = min (min (s.room - length s.bytes) size) s.piece

-- no room is left for bytes that are there
abbrev pub is_full_for : Tray → ℕ → Bool
is_full_for s size = nat_le s.room (length s.bytes) && nat_lt 0 size

-- the sink after a write
abbrev pub tray_after : Tray → List ℕ → Tray
tray_after s buf = record s {
  bytes = if tray_fails s then s.bytes else s.bytes ++ take (write_size s (length buf)) buf;
  calls = one_more s.calls;
  faults = count_after (if tray_fails s then true else is_full_for s (length buf)) s.faults;
  flushed = false;
}

-- and after a flush
abbrev pub flushed_tray : Tray → Tray
flushed_tray s = record s { flushed = true }

-- a sink that counts: the bytes written, and whether no write came since the last flush
pub record Tally : Type 0 where
  pub written : ℕ
  pub flushed : Bool

abbrev pub new_tally : Tally
new_tally = record { written = 0; flushed = true }

-- after a write of so many bytes
abbrev pub tally_after : Tally → ℕ → Tally
tally_after s size = record { written = min (s.written + size) (2 ^ 64 - 1); flushed = false }

-- and after a flush
abbrev pub flushed_tally : Tally → Tally
flushed_tally s = record s { flushed = true }

-- the call fails where it is listed, and else answers this count
abbrev pub AnswersUnless : {E : Type 0} → Bool → ℕ → Result ℕ E → Type 0
AnswersUnless fails count result = MatchResult result (λ n. (fails ≡ false) × (n ≡ count)) (λ _. fails ≡ true)
