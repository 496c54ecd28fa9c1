-- A body that stands for a process in a live state, and what of it events concern.
-- Source: this profile.
use Rattle.std.specs.Prelude.{◌≡◌, ℤ, List, ◌++◌}
use Rattle.std.specs.List.{flat_map}
use Rattle.fm_net.specs.Typed.{AllIn}
use Rattle.fm_symbols.specs.declared.names.Variable.{Variable}
use Rattle.fm_rules.specs.declared.program.Program.{Program}
use Rattle.fm_mean.specs.Process.{Proc}
use Rattle.fm_mean.specs.Fits.{Types, IsFine}
use Rattle.fm_code.specs.declared.body.Body.{Body}
use Rattle.fm_code.specs.Statements.{start_ports}
use Rattle.fm_proc_language.specs.Slots.{port_in}
use Rattle.fm_proc_language.specs.Processes.{CodeProc, frame_words, body_words}
use Rattle.fm_proc_simulation.specs.SlotWords.{IsHeld, IsSlots, AreOnce}
use Rattle.fm_gen.specs.Programs.{code_of}
use Rattle.fm_gen.specs.Bodies.{StandsFor}

-- A body of a process of code stands for a process of the meaning whose values are of their types; its port words name slots in
-- use, each one once; and both put out the same, and have the same numbers.
pub record Here (p : Program) (types : Types) (y : CodeProc) (x : Proc) (b : Body) : Type 0 where
  pub stands : StandsFor p (code_of p) (port_in y.slots) x b
  pub slots : IsSlots y.slots
  pub held : AllIn (IsHeld y.slots) (body_words b)
  pub once : AreOnce (body_words b)
  pub fine : IsFine p types x
  pub lines : y.lines ≡ x.lines
  pub next_block : y.next_block ≡ x.next_block
  pub next_channel : y.next_channel ≡ x.next_channel

-- the port words of a body but those of the variables of its innermost frame: of its starts, and of the frames below
abbrev pub other_words : Body → List ℤ
other_words b = start_ports b b.frame.starts ++ flat_map (frame_words b) b.below

-- the variables of the innermost frame
abbrev pub variables_here : (p : Program) (types : Types) (y : CodeProc) (x : Proc) (b : Body) → Here p types y x b → List Variable
variables_here p types y x b h = h.stands.first.unit.names.variables
