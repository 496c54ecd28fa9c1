-- A block begins: each start as a child of its own, and the parent goes on to their join.
use Rattle.std.proofs.Common.{◌≡◌, ℕ, suc, ◌+◌, ℤ, Some, None, List, [], ◌∷◌, ◌++◌, length, map, replicate, refl, sym, ap, ◌∙◌, subst, append_assoc}
use Rattle.std.specs.List.{flat_map}
use Rattle.std.proofs.lemmas.List.{append-nil}
use Rattle.fm_base.specs.declared.port.PortValue.{PortValue}
use Rattle.fm_net.specs.Machine.{Place, Need, Reply}
use Rattle.fm_net.specs.Correspondence.{Pairwise, OnwardsCorrespond, AsksCorrespond}
use Rattle.fm_net.specs.Typed.{AllIn}
use Rattle.fm_tree.specs.declared.statement.Stmt.TheVariants as stmt
use Rattle.fm_symbols.specs.declared.names.Variable.{Variable}
use Rattle.fm_rules.specs.declared.program.Program.{Program}
use Rattle.fm_mean.specs.Names.{ProgramUnit, Point, unit_at, point_at}
use Rattle.fm_mean.specs.Process as mean
use Rattle.fm_mean.specs.Process.{Running, Proc}
use Rattle.fm_mean.specs.Calls as mean_calls
use Rattle.fm_mean.specs.Calls.{variables_in}
use Rattle.fm_mean.specs.Fits.{Types}
use Rattle.fm_mean.specs.Actions.{Action, Begin}
use Rattle.fm_mean.specs.Steps as mean_steps
use Rattle.fm_mean.specs.Steps.{ask_event, ask_for}
use Rattle.fm_mean.proofs.Sizes.{all_append}
use Rattle.fm_code.specs.declared.ask.Ask.TheVariants as ask
use Rattle.fm_code.specs.declared.body.Body.{Body}
use Rattle.fm_code.specs.declared.body.Frame.{Frame}
use Rattle.fm_code.specs.declared.body.Start.{Start}
use Rattle.fm_code.specs.declared.code.Span.{Span}
use Rattle.fm_code.specs.Passing.{ports_in}
use Rattle.fm_code.specs.Statements as code_statements
use Rattle.fm_code.specs.Statements.{start_ports}
use Rattle.fm_gen_relation.proofs.Units.{sound_unit}
use Rattle.fm_gen_relation.specs.Formals.{ports_of}
use Rattle.fm_gen_relation.specs.Frames.{LoopsStand, StartStands, StartsStand}
use Rattle.fm_gen.specs.Steps.{BeginsAlike}
use Rattle.fm_proc_language.specs.Slots.{Slots, no_slots, port_in}
use Rattle.fm_proc_language.specs.Frames.{moved_over}
use Rattle.fm_proc_language.specs.Processes as code
use Rattle.fm_proc_language.specs.Processes.{CodeProc, frame_words, child_with, children_of, runs_by}
use Rattle.fm_proc_simulation.specs.SlotWords.{IsHeld, IsSlots, AreOnce, NameTheSame}
use Rattle.fm_proc_simulation.proofs.PortLists.{all_first, all_second, IsParted, parted_none, all_mine, all_theirs, once_second}
use Rattle.fm_proc_simulation.proofs.Same.{TellsPorts, values_same, starts_same, starts_agree, frame_agrees, frames_agree, below_same}
use Rattle.fm_proc_simulation.proofs.Slots.{names_same, names_on, names_right}
use Rattle.fm_proc_simulation.proofs.Children.{MovedAlike, moved_alike}
use Rattle.fm_gen.specs.Entries.{statement_address, join_address}
use Rattle.fm_gen.specs.Kept.{site_at}
use Rattle.fm_gen.specs.Programs.{code_of}
use Rattle.fm_gen.proofs.StandLaws.{unit_found, none_begun, begun, same_below}
use Rattle.fm_proc_simulation.specs.Corresponds.{KidsStand, BodyStands, Corresponds}
use Rattle.fm_proc_simulation.specs.Here.{Here}

-- Starts.

same_count : (p : Program) (slots : ℤ → PortValue) (mine : List Variable) (ss : List mean.Start) (cs : List Start) → StartsStand p slots mine ss cs → length cs ≡ length ss
same_count p slots mine [] [] h = refl
same_count p slots mine [] (c ∷ cs) h = absurd h
same_count p slots mine (s ∷ ss) [] h = absurd h
same_count p slots mine (s ∷ ss) (c ∷ cs) h = ap suc (same_count p slots mine ss cs h.1)

-- what is to be joined is what starts
kids_stand : (p : Program) (slots : ℤ → PortValue) (mine : List Variable) (ss : List mean.Start) (cs : List Start) → StartsStand p slots mine ss cs → KidsStand p mine (map mean_steps.kid_of ss) (map code.kid_of cs)
kids_stand p slots mine [] [] h = tt
kids_stand p slots mine [] (c ∷ cs) h = absurd h
kids_stand p slots mine (s ∷ ss) [] h = absurd h
kids_stand p slots mine (s ∷ ss) (c ∷ cs) h = (record { unit = h.0.unit; there = h.0.there; number = h.0.number; backs = h.0.backs }, kids_stand p slots mine ss cs h.1)

-- the port words of a frame, and those of its starts
apart : (zs ss : List ℤ) → IsParted ss (zs ++ []) (zs ++ ss)
apart zs ss = all_theirs zs ss [] ss (subst (λ l. IsParted l [] l) (append-nil ss) (all_mine ss [] [] [] parted_none))

-- Children.

-- Children of code begin as those of the meaning do, and the other words of their parent name what they named before.
record ChildrenAlike (p : Program) (ss : List mean.Start) (rest : List ℤ) (before : Slots) (r : List CodeProc × Slots) : Type 0 where
  starts : Pairwise (Corresponds p) r.0 (map mean_calls.child_of ss)
  slots : IsSlots r.1
  held : AllIn (IsHeld r.1) rest
  same : NameTheSame rest before r.1

module _ (p : Program) (b : Body) (loaded : b.code ≡ code_of p) where
  tells : TellsPorts p b
  tells n u there = ap code_statements.ports_of (unit_found p b loaded n u there)

  no_loops : (n : ℕ) (u : ProgramUnit) → unit_at p n ≡ Some u → LoopsStand u.tree.body (mean_calls.new_frame n [] []).loops (replicate (code.loops_in (code_statements.unit_at b n)) None)
  no_loops n u there = subst (λ o. LoopsStand u.tree.body (mean_calls.new_frame n [] []).loops (replicate (code.loops_in o) None)) (sym (unit_found p b loaded n u there)) (none_begun u.tree.body)

  -- with words and slots of its own
  child_stands : (from : Slots) (rest : List ℤ) (mine : List Variable) (s : mean.Start) (c : Start) (h : StartStands p (port_in from) mine s c) (r : List ℤ × (Slots × Slots))
      → MovedAlike h.unit.names.variables c.words from rest r → Corresponds p (child_with b c r.0 r.1.1) (mean_calls.child_of s)
  child_stands from rest mine s c h r moved =
      let here : unit_at p c.unit ≡ Some h.unit = ap (unit_at p) h.number ∙ h.there in
      let words : List ℤ = ports_in (code_statements.ports_of (code_statements.unit_at b c.unit)) r.0 in
      let held : AllIn (IsHeld r.1.1) words = subst (λ spans. AllIn (IsHeld r.1.1) (ports_in spans r.0)) (sym (tells c.unit h.unit here)) moved.new_held in
      record {
        phase = tt;
        lines = refl;
        next_block = refl;
        next_channel = refl;
        slots = moved.new_slots;
        body = record {
          frame = mean_calls.new_frame s.unit s.values s.backs;
          below = [];
          frames = refl;
          loaded = loaded;
          machine = h.machine;
          node = h.node;
          first = begun p (port_in r.1.1) s.unit h.unit h.there (mean_calls.new_frame s.unit s.values s.backs) (code.first_frame b c r.0) refl refl refl h.number refl
              (record { values = h.values ∙ sym moved.stand; sized = moved.count ∙ h.sized; results = refl; loops = no_loops c.unit h.unit here })
              tt;
          others = tt;
          ends = tt;
          held = all_append (IsHeld r.1.1) (words ++ []) [] (all_append (IsHeld r.1.1) words [] held tt) tt;
        };
      }

  -- in the order of the starts
  children_alike : (mine : List Variable) (ss : List mean.Start) (cs : List Start) (from : Slots) (rest : List ℤ) → IsSlots from
      → AllIn (IsHeld from) (start_ports b cs ++ rest) → AreOnce (start_ports b cs ++ rest) → StartsStand p (port_in from) mine ss cs → ChildrenAlike p ss rest from (children_of b from cs)
  children_alike mine [] [] from rest slots held once h = record { starts = tt; slots = slots; held = held; same = names_same rest from }
  children_alike mine [] (c ∷ cs) from rest slots held once h = absurd h
  children_alike mine (s ∷ ss) [] from rest slots held once h = absurd h
  children_alike mine (s ∷ ss) (c ∷ cs) from rest slots held once h =
      let u : ProgramUnit = h.0.unit in
      let spans : List Span = code_statements.ports_of (code_statements.unit_at b c.unit) in
      let same_spans : spans ≡ ports_of u.names.variables = tells c.unit u (ap (unit_at p) h.0.number ∙ h.0.there) in
      let later : List ℤ = start_ports b cs in
      let words : (ports_in spans c.words ++ later) ++ rest ≡ ports_in spans c.words ++ (later ++ rest) = append_assoc (ports_in spans c.words) later rest in
      let once_parts : AreOnce (ports_in spans c.words ++ (later ++ rest)) = subst AreOnce words once in
      let r : List ℤ × (Slots × Slots) = moved_over spans c.words from no_slots in
      let moved : MovedAlike u.names.variables c.words from (later ++ rest) r =
      subst (λ l. MovedAlike u.names.variables c.words from (later ++ rest) (moved_over l c.words from no_slots)) (sym same_spans)
      (moved_alike u (sound_unit p s.unit u h.0.there) c.words h.0.sized from (later ++ rest) slots
      (subst (λ l. AllIn (IsHeld from) (ports_in l c.words ++ (later ++ rest))) same_spans (subst (AllIn (IsHeld from)) words held))
      (subst (λ l. AreOnce (ports_in l c.words ++ (later ++ rest))) same_spans once_parts)) in
      let agree = starts_agree p (port_in from) (port_in r.1.0) b tells cs (all_first (λ z. port_in r.1.0 z ≡ port_in from z) later rest moved.old_same) in
      let next = children_alike mine ss cs r.1.0 rest moved.old_slots moved.old_held (once_second (ports_in spans c.words) (later ++ rest) once_parts) (starts_same p (port_in from) (port_in r.1.0) mine ss cs h.1 agree) in
      record {
        starts = (child_stands from (later ++ rest) mine s c h.0 r moved, next.starts);
        slots = next.slots;
        held = next.held;
        same = names_on rest from r.1.0 (children_of b r.1.0 cs).1 (names_right later rest from r.1.0 moved.old_same) next.same;
      }

-- The parent.

module _ (p : Program) (types : Types) (y : CodeProc) (x : Proc) (b : Body) (h : Here p types y x b) where
  abbrev u : ProgramUnit
  u = h.stands.first.unit

  abbrev f : mean.Frame
  f = record h.stands.frame { starts = [] }

  abbrev mine : List ℤ
  mine = ports_in (code_statements.ports_of (code_statements.unit_at b b.frame.unit)) b.frame.words

  abbrev below : List ℤ
  below = flat_map (frame_words b) b.below

  -- the port words that stay
  abbrev others : List ℤ
  others = (mine ++ []) ++ below

  abbrev waiting : List ℤ
  waiting = start_ports b b.frame.starts

  abbrev after : Slots
  after = (children_of b y.slots b.frame.starts).1

  abbrev Same : List ℤ → Type 0
  Same zs = AllIn (λ z. port_in after z ≡ port_in y.slots z) zs

  children : ChildrenAlike p h.stands.frame.starts others y.slots (children_of b y.slots b.frame.starts)
  children =
      let parts = apart mine waiting in
      let ours = parts.0 (IsHeld y.slots) (all_first (IsHeld y.slots) (mine ++ waiting) below h.held) in
      children_alike p b h.stands.loaded u.names.variables h.stands.frame.starts b.frame.starts y.slots others h.slots
      (all_append (IsHeld y.slots) waiting others ours.0 (all_append (IsHeld y.slots) (mine ++ []) below ours.1 (all_second (IsHeld y.slots) (mine ++ waiting) below h.held)))
      (parts.1 below h.once) h.stands.first.starts

  module _ (next : ℕ) (e : Point) (at : point_at u h.stands.frame.entry ≡ Some e) (ends : e.entry.stmt ≡ stmt.EndProcesses) (leads : next ≡ join_address p u h.stands.frame.entry) where
    abbrev m : Frame
    m = record b.frame { starts = []; address = next }

    -- the innermost frame has no starts, and is at the join
    first_stands : AllIn (IsHeld after) others → Same others → BodyStands p after (mean_steps.began x h.stands.below h.stands.frame).self (record b { frame = m })
    first_stands held same =
        let agree = frame_agrees p (port_in y.slots) (port_in after) b (tells p b h.stands.loaded) m (all_first (λ z. port_in after z ≡ port_in y.slots z) (mine ++ []) below same) in
        let first = h.stands.first in
        record {
          frame = f;
          below = h.stands.below;
          frames = refl;
          loaded = h.stands.loaded;
          machine = h.stands.machine;
          node = h.stands.node;
          first = record {
            unit = u;
            there = first.there;
            number = first.number;
            address = leads;
            stands = record {
              values = first.stands.values ∙ sym (values_same u.names.variables (port_in y.slots) (port_in after) b.frame.words (agree.0 u (ap (unit_at p) first.number ∙ first.there)));
              sized = first.stands.sized;
              results = first.stands.results;
              loops = first.stands.loops;
            };
            results = first.results;
            starts = tt;
          };
          others = below_same p (statement_address p) (port_in y.slots) (port_in after) f m h.stands.below b.below
              (same_below p (port_in y.slots) h.stands.frame f b.frame m refl refl refl h.stands.below b.below h.stands.others)
              (frames_agree p (port_in y.slots) (port_in after) b (tells p b h.stands.loaded) b.below (all_second (λ z. port_in after z ≡ port_in y.slots z) (mine ++ []) below same));
          ends = record { point = e; at = at; is = ends };
          held = held;
        }

    began_alike : OnwardsCorrespond (Corresponds p) (code.began y b next) (mean_steps.began x h.stands.below h.stands.frame)
    began_alike = record {
      self = record {
        phase = (
          h.next_block,
          subst (λ o. KidsStand p (variables_in o) (map mean_steps.kid_of h.stands.frame.starts) (map code.kid_of b.frame.starts)) (sym h.stands.first.there)
              (kids_stand p (port_in y.slots) u.names.variables h.stands.frame.starts b.frame.starts h.stands.first.starts),
        );
        lines = h.lines;
        next_block = ap suc h.next_block;
        next_channel = h.next_channel;
        slots = children.slots;
        body = first_stands children.held children.same;
      };
      block = h.next_block;
      starts = children.starts;
      drops = refl;
      cost = ap (λ n. 1 + n) (same_count p (port_in y.slots) u.names.variables h.stands.frame.starts b.frame.starts h.stands.first.starts);
    }

-- At the end of a block both begin the children of its starts, and join.
pub begins_alike : (p : Program) (types : Types) (y : CodeProc) (x : Proc) (b : Body) (h : Here p types y x b) (running : x.phase ≡ Running) (runs : y.phase ≡ code.Running) (body : y.body ≡ Some b)
    (e : Point) (at : point_at h.stands.first.unit h.stands.frame.entry ≡ Some e) (next : ℕ) (a : Action)
    → BeginsAlike (site_at p h.stands.first.unit (port_in y.slots) x.execution e h.stands.frame h.stands.below b.frame) next a
    → e.entry.stmt ≡ stmt.EndProcesses
    → (Comes : Place → Need → Reply Proc → Type 0) (q : Place) → AsksCorrespond (Corresponds p) Comes q (runs_by y b (ask.Begin next)) (ask_for p x a)
begins_alike p types y x b h running runs body e at next a begins ends Comes q =
    subst (λ c. AsksCorrespond (Corresponds p) Comes q (runs_by y b (ask.Begin next)) (ask_for p x c)) (sym begins.does)
    (subst (λ fs. AsksCorrespond (Corresponds p) Comes q (runs_by y b (ask.Begin next)) (ask_event p x Begin fs)) (sym h.stands.frames)
    (refl, λ v r comes replies. began_alike p types y x b h next e at ends begins.leads))
