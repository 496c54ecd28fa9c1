-- Flags that are put together.
use Rattle.std.proofs.Common.{◌≡◌, Bool, true, false, ◌||◌, refl}
use Rattle.fm_rules.specs.declared.flags.Flags.{Flags}
use Rattle.fm_rules.specs.Flags.{both, no_flags}

or_none : (a : Bool) → a ≡ (a || false)
or_none true = refl
or_none false = refl

or_assoc : (a b c : Bool) → ((a || b) || c) ≡ (a || (b || c))
or_assoc true b c = refl
or_assoc false b c = refl

pub both_none : (f : Flags) → f ≡ both f no_flags
both_none f = λ i. record {
  e40 = or_none f.e40 i;
  e41 = or_none f.e41 i;
  e42 = or_none f.e42 i;
  e43 = or_none f.e43 i;
  e44 = or_none f.e44 i;
  e46 = or_none f.e46 i;
  e50 = or_none f.e50 i;
}

pub both_assoc : (f g h : Flags) → both (both f g) h ≡ both f (both g h)
both_assoc f g h = λ i. record {
  e40 = or_assoc f.e40 g.e40 h.e40 i;
  e41 = or_assoc f.e41 g.e41 h.e41 i;
  e42 = or_assoc f.e42 g.e42 h.e42 i;
  e43 = or_assoc f.e43 g.e43 h.e43 i;
  e44 = or_assoc f.e44 g.e44 h.e44 i;
  e46 = or_assoc f.e46 g.e46 h.e46 i;
  e50 = or_assoc f.e50 g.e50 h.e50 i;
}
