-- The fields of a message, one level down.
use Rattle.std.proofs.Common.{◌≡◌, ℕ, suc, zero, ◌-◌, ◌<◌, List, ap, arith}
use Rattle.fm_base.specs.declared.token.Token.{Token}
use Rattle.fm_tree.specs.PortReading.{fields_of}
use Rattle.fm_stmt_parts.specs.Reading.{listed_read, over_read}
use Rattle.fm_stmt_parts.specs.Fields.{field_read, fields_read}

pub deeper : (d : ℕ) (ts : List Token) → 0 < d → fields_read d ts ≡ over_read fields_of (listed_read (field_read (fields_read (d - 1)))) ts
deeper zero ts h = absurd (omega arith)
deeper (suc d) ts h =
    let q : d ≡ suc d - 1 = omega arith in
    ap (λ (e : ℕ). over_read fields_of (listed_read (field_read (fields_read e))) ts) q
