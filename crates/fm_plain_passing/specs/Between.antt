-- Two frames between which ports and words pass, with what was put out of its place on the way, as the meaning's record of the
-- three.
-- Source: this profile.
use Rattle.std.specs.Prelude.{ℕ, ◌++◌, Option, List}
use Rattle.fm_base.specs.declared.port.PortValue.{PortValue}
use Rattle.fm_symbols.specs.declared.names.Variable.{Variable}
use Rattle.fm_mean.specs.declared.place.Span.{Span}
use Rattle.fm_mean.specs.Places.{Returned, taken_ports, exchange_all, live}
use Rattle.fm_plain_frame.specs.declared.word.Word.{Word}
use Rattle.fm_plain_frame.specs.Memory.{values_of}

abbrev pub between : (caller : List Variable) → (mine : List Word) → (callee : List Variable) → (theirs : List Word) → (room : List (Option PortValue)) → Returned
between caller mine callee theirs room = record { mine = values_of caller mine; theirs = values_of callee theirs; drops = live room }

-- the ports of a span are left to a formal
abbrev pub passed : Span → (formal : ℕ) → Returned → Returned
passed s f r = record {
  mine = (taken_ports r.mine s).0;
  theirs = (exchange_all r.theirs f 0 (taken_ports r.mine s).1).0;
  drops = r.drops ++ live (exchange_all r.theirs f 0 (taken_ports r.mine s).1).1;
}
