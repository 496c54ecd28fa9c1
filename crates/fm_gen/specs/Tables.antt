-- Where the entries of a unit begin, by a table.
-- Source: this profile.
use Rattle.std.specs.Prelude.{ℕ, List, slice_get, unwrap_or}
use Rattle.fm_mean.specs.Names.{Point}
use Rattle.fm_gen.specs.declared.statements.Site.{Site}
use Rattle.fm_gen.specs.declared.addresses.Addresses as declared
use Rattle.fm_gen.specs.Statements.{Addresses}

-- the start of an entry; behind the last one all are at the end
abbrev pub address_in : List ℕ → (end : ℕ) → Addresses
address_in starts end k = unwrap_or (slice_get starts k) end

abbrev pub address_by : declared.Addresses → Addresses
address_by a = address_in a.starts.now a.end

-- the point of an entry
abbrev pub point_of : Site → Point
point_of s = record { entry = s.entry.now; links = s.links }
