-- Judgements that find nothing broken.
use Rattle.std.proofs.Common.{◌≡◌, ℕ, false, ◌++◌, []}
use Rattle.fm_base.specs.Verdict.{when, place}
use Rattle.fm_base.specs.declared.rule.Rule.TheVariants.{E40, E41, E42, E43, E44, E46}
use Rattle.fm_rules.specs.declared.flags.Flags.{Flags}
use Rattle.fm_rules.specs.Flags.{both}
use Rattle.fm_rules.specs.BrokenTypes.{flagged}
use Rattle.fm_mean.proofs.Unbroken.{left_empty, right_empty, not_when, or_left, or_right}

-- no rule of types is broken, and no port stands as a value
pub record IsUnflagged (f : Flags) : Type 0 where
  pub e40 : f.e40 ≡ false
  pub e41 : f.e41 ≡ false
  pub e42 : f.e42 ≡ false
  pub e43 : f.e43 ≡ false
  pub e44 : f.e44 ≡ false
  pub e46 : f.e46 ≡ false
  pub e50 : f.e50 ≡ false

pub left_unflagged : (f g : Flags) → IsUnflagged (both f g) → IsUnflagged f
left_unflagged f g h = record {
  e40 = or_left f.e40 g.e40 h.e40;
  e41 = or_left f.e41 g.e41 h.e41;
  e42 = or_left f.e42 g.e42 h.e42;
  e43 = or_left f.e43 g.e43 h.e43;
  e44 = or_left f.e44 g.e44 h.e44;
  e46 = or_left f.e46 g.e46 h.e46;
  e50 = or_left f.e50 g.e50 h.e50;
}

pub right_unflagged : (f g : Flags) → IsUnflagged (both f g) → IsUnflagged g
right_unflagged f g h = record {
  e40 = or_right f.e40 g.e40 h.e40;
  e41 = or_right f.e41 g.e41 h.e41;
  e42 = or_right f.e42 g.e42 h.e42;
  e43 = or_right f.e43 g.e43 h.e43;
  e44 = or_right f.e44 g.e44 h.e44;
  e46 = or_right f.e46 g.e46 h.e46;
  e50 = or_right f.e50 g.e50 h.e50;
}

-- at a line no rule of types is broken, and no port stands as a value
pub line_unflagged : (line : ℕ) (f : Flags) → flagged line f ≡ [] → f.e50 ≡ false → IsUnflagged f
line_unflagged line f e none =
    let p0 = when f.e40 (place line E40) in
    let p1 = when f.e41 (place line E41) in
    let p2 = when f.e42 (place line E42) in
    let p3 = when f.e43 (place line E43) in
    let p4 = when f.e44 (place line E44) in
    let p5 = when f.e46 (place line E46) in
    let r1 = right_empty p0 (p1 ++ (p2 ++ (p3 ++ (p4 ++ p5)))) e in
    let r2 = right_empty p1 (p2 ++ (p3 ++ (p4 ++ p5))) r1 in
    let r3 = right_empty p2 (p3 ++ (p4 ++ p5)) r2 in
    let r4 = right_empty p3 (p4 ++ p5) r3 in
    let r5 = right_empty p4 p5 r4 in
    record {
      e40 = not_when f.e40 (place line E40) (left_empty p0 (p1 ++ (p2 ++ (p3 ++ (p4 ++ p5)))) e);
      e41 = not_when f.e41 (place line E41) (left_empty p1 (p2 ++ (p3 ++ (p4 ++ p5))) r1);
      e42 = not_when f.e42 (place line E42) (left_empty p2 (p3 ++ (p4 ++ p5)) r2);
      e43 = not_when f.e43 (place line E43) (left_empty p3 (p4 ++ p5) r3);
      e44 = not_when f.e44 (place line E44) (left_empty p4 p5 r4);
      e46 = not_when f.e46 (place line E46) r5;
      e50 = none;
    }
