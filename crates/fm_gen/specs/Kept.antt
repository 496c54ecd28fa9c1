-- What it means that the code of a unit does what the unit does.
-- Source: this profile.
use Rattle.std.specs.Prelude.{◌≡◌, ℕ, suc, Some, List, length}
use Rattle.fm_rules.specs.declared.program.Program.{Program}
use Rattle.fm_mean.specs.Names.{ProgramUnit, Point, point_at}
use Rattle.fm_mean.specs.Process as mean
use Rattle.fm_mean.specs.Process.{Execution}
use Rattle.fm_mean.specs.Actions.{point_action}
use Rattle.fm_code.specs.declared.body.Frame.{Frame}
use Rattle.fm_code.specs.declared.instr.Instr.{Instr}
use Rattle.fm_code.specs.Acts.{statement}
use Rattle.fm_gen_relation.specs.Standing.{Slots, IsFrame}
use Rattle.fm_gen_relation.specs.Frames.{Stands, ResultsFit}
use Rattle.fm_gen.specs.Steps.{Site, Agree}
use Rattle.fm_gen.specs.Entries.{address_of, statement_address, join_address}

-- a site at an entry of a unit, in the code of a program
abbrev pub site_at : Program → ProgramUnit → Slots → Execution → Point → mean.Frame → List mean.Frame → Frame → Site
site_at p u slots w e f below m = record {
  program = p;
  unit = u;
  slots = slots;
  address = address_of p u;
  behind = statement_address p u f.entry (suc (length f.results));
  join = join_address p u f.entry;
  runs = w;
  point = e;
  frame = f;
  below = below;
  code = m;
}

-- At each entry, in each frame that stands for one of the unit, whose results are those of the entry's first references: the
-- statement behind these does what the meaning does next.
abbrev pub KeepsUnit : Program → ProgramUnit → List Instr → Type 0
KeepsUnit p u code = (k : ℕ) (e : Point) → point_at u k ≡ Some e
    → (slots : Slots) (m : Frame) → IsFrame u slots m → (w : Execution) (f : mean.Frame) (below : List mean.Frame) → f.entry ≡ k → Stands u slots f m → ResultsFit p u (Some e) f.results
    → Agree (site_at p u slots w e f below m) (statement code (statement_address p u k (length f.results)) m) (point_action p w u f below (Some e))
