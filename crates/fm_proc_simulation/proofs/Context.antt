-- What a body that stands for a process holds, and how both go on with other words and values, or with a fault.
use Rattle.std.proofs.Common.{◌≡◌, ℕ, Some, List, ◌++◌, length, refl, sym, ap, ◌∙◌, subst, append_assoc}
use Rattle.std.specs.List.{flat_map}
use Rattle.fm_base.specs.declared.fault.Fault.{Fault}
use Rattle.fm_base.specs.Channels.{Item}
use Rattle.fm_net.specs.Typed.{AllIn}
use Rattle.fm_rules.specs.declared.program.Program.{Program}
use Rattle.fm_mean.specs.Names as names
use Rattle.fm_mean.specs.Names.{ProgramUnit, Point, unit_at, point_at}
use Rattle.fm_mean.specs.Process as mean
use Rattle.fm_mean.specs.Process.{Running, Faulted, Proc}
use Rattle.fm_mean.specs.Fits.{Types}
use Rattle.fm_mean.specs.Actions.{at_entry}
use Rattle.fm_mean.specs.Steps as mean_steps
use Rattle.fm_code.specs.declared.body.Body.{Body}
use Rattle.fm_code.specs.declared.body.Frame.{Frame}
use Rattle.fm_code.specs.Passing.{ports_in}
use Rattle.fm_code.specs.Statements as code_statements
use Rattle.fm_code.specs.Statements.{at_statement, entries_of, line_at, start_ports}
use Rattle.fm_gen_relation.specs.Formals.{ports_of}
use Rattle.fm_gen_relation.specs.Frames.{FrameStands, BelowStand}
use Rattle.fm_proc_language.specs.Slots.{port_in}
use Rattle.fm_proc_language.specs.Frames.{Held}
use Rattle.fm_proc_language.specs.Processes as code
use Rattle.fm_proc_language.specs.Processes.{CodeProc, frame_words, body_words, holding}
use Rattle.fm_proc_simulation.specs.SlotWords.{IsHeld, AreOnce, HeldStands, GoesTo}
use Rattle.fm_gen_relation.specs.Sound.{IsSoundUnit}
use Rattle.fm_gen.specs.Entries.{address_of, statement_address}
use Rattle.fm_gen.specs.Units.{unit_of_code}
use Rattle.fm_gen.specs.Programs.{code_of}
use Rattle.fm_proc_simulation.specs.Corresponds.{BodyAlike, Corresponds}
use Rattle.fm_proc_simulation.specs.Here.{Here, other_words}
use Rattle.fm_gen_relation.proofs.Units.{sound_unit}
use Rattle.fm_gen.proofs.LineLaws.{tells_lines}
use Rattle.fm_gen.proofs.StandLaws.{statement_begins, unit_found, no_results, same_below, begins}
use Rattle.fm_proc_simulation.proofs.PortLists.{all_first, all_second}
use Rattle.fm_proc_simulation.proofs.Same.{TellsPorts, starts_same, below_same, starts_agree, frames_agree}

-- Words.

-- the code of a program tells the ports of each unit
pub tells_ports : (p : Program) (b : Body) → b.code ≡ code_of p → TellsPorts p b
tells_ports p b loaded n u there = ap code_statements.ports_of (unit_found p b loaded n u there)

-- the port words of a body with this innermost frame: those of the frame's variables, and the others
pub parted_words : (p : Program) (b : Body) → TellsPorts p b → (m : Frame) (u : ProgramUnit) → unit_at p m.unit ≡ Some u
    → frame_words b m ++ flat_map (frame_words b) b.below ≡ ports_in (ports_of u.names.variables) m.words ++ (start_ports b m.starts ++ flat_map (frame_words b) b.below)
parted_words p b tells m u there =
    append_assoc (ports_in (code_statements.ports_of (code_statements.unit_at b m.unit)) m.words) (start_ports b m.starts) (flat_map (frame_words b) b.below)
    ∙ ap (λ l. ports_in l m.words ++ (start_ports b m.starts ++ flat_map (frame_words b) b.below)) (tells m.unit u there)

module _ (p : Program) (types : Types) (y : CodeProc) (x : Proc) (b : Body) (h : Here p types y x b) where
  pub words_here : length b.frame.words ≡ h.stands.first.unit.names.words
  words_here = h.stands.first.stands.sized

  pub sound_here : IsSoundUnit h.stands.first.unit
  sound_here = sound_unit p h.stands.frame.unit h.stands.first.unit h.stands.first.there

  pub code_here : (n : ℕ) (u : ProgramUnit) → unit_at p n ≡ Some u → code_statements.unit_at b n ≡ Some (unit_of_code p u)
  code_here = unit_found p b h.stands.loaded

  tells : TellsPorts p b
  tells = tells_ports p b h.stands.loaded

  -- the innermost frame of the body is of this unit
  number : unit_at p b.frame.unit ≡ Some h.stands.first.unit
  number = ap (unit_at p) h.stands.first.number ∙ h.stands.first.there

  parts : body_words b ≡ ports_in (ports_of h.stands.first.unit.names.variables) b.frame.words ++ other_words b
  parts = parted_words p b tells b.frame h.stands.first.unit number

  pub held_here : HeldStands h.stands.first.unit.names.variables (other_words b) (holding y b) h.stands.frame.values
  held_here = record { values = h.stands.first.stands.values; slots = h.slots; held = subst (AllIn (IsHeld y.slots)) parts h.held; once = subst AreOnce parts h.once }

  -- Going on.

  module _ (g : Held) (xs : List Item) (to : GoesTo h.stands.first.unit.names.variables (other_words b) (holding y b) g xs) (next entry : ℕ) (leads : next ≡ address_of p h.stands.first.unit entry) where
    abbrev frame_then : mean.Frame
    frame_then = at_entry (record h.stands.frame { values = xs }) entry

    abbrev code_then : Frame
    code_then = at_statement (record b.frame { words = g.words }) next

    first_then : FrameStands p (port_in g.slots) (λ u. statement_address p u entry 0) frame_then code_then
    first_then =
        let u = h.stands.first.unit in
        let starts = all_first (λ z. port_in g.slots z ≡ port_in y.slots z) (start_ports b b.frame.starts) (flat_map (frame_words b) b.below) to.same in
        record {
          unit = u;
          there = h.stands.first.there;
          number = h.stands.first.number;
          address = leads ∙ sym (statement_begins p u entry);
          stands = record { values = to.stands.values; sized = to.count ∙ h.stands.first.stands.sized; results = refl; loops = h.stands.first.stands.loops };
          results = no_results p u (point_at u entry);
          starts = starts_same p (port_in y.slots) (port_in g.slots) u.names.variables h.stands.frame.starts b.frame.starts h.stands.first.starts
              (starts_agree p (port_in y.slots) (port_in g.slots) b tells b.frame.starts starts);
        }

    others_then : BelowStand p (statement_address p) (port_in g.slots) frame_then code_then h.stands.below b.below
    others_then =
        let rest = all_second (λ z. port_in g.slots z ≡ port_in y.slots z) (start_ports b b.frame.starts) (flat_map (frame_words b) b.below) to.same in
        same_below p (port_in g.slots) h.stands.frame frame_then b.frame code_then refl refl refl h.stands.below b.below
        (below_same p (statement_address p) (port_in y.slots) (port_in g.slots) h.stands.frame b.frame h.stands.below b.below h.stands.others
        (frames_agree p (port_in y.slots) (port_in g.slots) b tells b.below rest))

    pub goes_on_alike : Corresponds p (record (code.going_on y b next g) { phase = code.Running }) (record (mean_steps.going_on x h.stands.below h.stands.frame entry xs) { phase = Running })
    goes_on_alike = record {
      phase = tt;
      lines = h.lines;
      next_block = h.next_block;
      next_channel = h.next_channel;
      slots = to.stands.slots;
      body = record {
        frame = frame_then;
        below = h.stands.below;
        frames = refl;
        loaded = h.stands.loaded;
        machine = h.stands.machine;
        node = h.stands.node;
        first = first_then;
        others = others_then;
        ends = tt;
        held = subst (AllIn (IsHeld g.slots)) (sym (parted_words p b tells code_then h.stands.first.unit number)) to.stands.held;
      };
    }

  -- A fault.

  pub faults_alike : y.body ≡ Some b → (line line' : ℕ) (fault : Fault) → line ≡ line' → Corresponds p (record y { phase = code.Faulted line fault }) (record x { phase = Faulted line' fault })
  faults_alike body line line' fault same = record {
    phase = (same, refl);
    lines = h.lines;
    next_block = h.next_block;
    next_channel = h.next_channel;
    slots = h.slots;
    body = subst (BodyAlike p y.slots (record x { phase = Faulted line' fault })) (sym body) (record {
      frame = h.stands.frame;
      below = h.stands.below;
      frames = h.stands.frames;
      loaded = h.stands.loaded;
      machine = h.stands.machine;
      node = h.stands.node;
      first = record {
        unit = h.stands.first.unit;
        there = h.stands.first.there;
        number = h.stands.first.number;
        address = refl;
        stands = h.stands.first.stands;
        results = h.stands.first.results;
        starts = h.stands.first.starts;
      };
      others = h.stands.others;
      ends = tt;
      held = h.held;
    });
  }

  pub line_here : x.phase ≡ Running → (e : Point) → point_at h.stands.first.unit h.stands.frame.entry ≡ Some e → code_statements.line_of b ≡ names.line_of e
  line_here running e at =
      let u = h.stands.first.unit in
      let found : code_statements.unit_at b b.frame.unit ≡ Some (unit_of_code p u) = code_here b.frame.unit u number in
      let there = begins p (code_of p) (port_in y.slots) x b h.stands running in
      (λ i. line_at (entries_of (found i)) (there i)) ∙ (tells_lines p u).statements h.stands.frame.entry e at (length h.stands.frame.results)
