-- Which rules a judgement finds broken.
-- Source: this profile.
use Rattle.std.specs.Prelude.{◌||◌, Bool, false}
use Rattle.fm_rules.specs.declared.flags.Flags.{Flags}

abbrev pub no_flags : Flags
no_flags = record { e40 = false; e41 = false; e42 = false; e43 = false; e44 = false; e46 = false; e50 = false }

-- what is broken by the one or by the other
abbrev pub both : Flags → Flags → Flags
both a b = record {
  e40 = a.e40 || b.e40;
  e41 = a.e41 || b.e41;
  e42 = a.e42 || b.e42;
  e43 = a.e43 || b.e43;
  e44 = a.e44 || b.e44;
  e46 = a.e46 || b.e46;
  e50 = a.e50 || b.e50;
}

-- one rule, where the test is true

abbrev pub e40 : Bool → Flags
e40 b = record { e40 = b; e41 = false; e42 = false; e43 = false; e44 = false; e46 = false; e50 = false }

abbrev pub e41 : Bool → Flags
e41 b = record { e40 = false; e41 = b; e42 = false; e43 = false; e44 = false; e46 = false; e50 = false }

abbrev pub e42 : Bool → Flags
e42 b = record { e40 = false; e41 = false; e42 = b; e43 = false; e44 = false; e46 = false; e50 = false }

abbrev pub e43 : Bool → Flags
e43 b = record { e40 = false; e41 = false; e42 = false; e43 = b; e44 = false; e46 = false; e50 = false }

abbrev pub e44 : Bool → Flags
e44 b = record { e40 = false; e41 = false; e42 = false; e43 = false; e44 = b; e46 = false; e50 = false }

abbrev pub e46 : Bool → Flags
e46 b = record { e40 = false; e41 = false; e42 = false; e43 = false; e44 = false; e46 = b; e50 = false }

abbrev pub e50 : Bool → Flags
e50 b = record { e40 = false; e41 = false; e42 = false; e43 = false; e44 = false; e46 = false; e50 = b }
