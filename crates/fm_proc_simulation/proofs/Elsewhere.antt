-- What a body does is told by the meaning alone: where it does the same under other ports, its words name slots in use.
use Rattle.std.proofs.Common.{◌≡◌, ℕ, zero, suc, ℤ, pos, negsuc, Bool, true, false, Option, Some, None, List, [], ◌∷◌, map, slice_get, refl, sym, ap, subst, ◌∙◌}
use Rattle.std.specs.List.{flat_map}
use Rattle.fm_base.specs.declared.path.ChanName.{ChanName}
use Rattle.fm_base.specs.declared.port.PortValue.{PortValue}
use Rattle.fm_base.specs.declared.port.PortValue.TheVariants.{Writer, Reader}
use Rattle.fm_net.specs.Typed.{AllIn}
use Rattle.fm_rules.specs.declared.program.Program.{Program}
use Rattle.fm_mean.specs.Names as names
use Rattle.fm_mean.specs.Names.{ProgramUnit, Point, unit_at, point_at}
use Rattle.fm_mean.specs.declared.place.Actual.{Actual}
use Rattle.fm_mean.specs.declared.place.Span.{Span}
use Rattle.fm_mean.specs.Process as mean
use Rattle.fm_mean.specs.Process.{Running, Proc}
use Rattle.fm_mean.specs.Fits.{Types}
use Rattle.fm_mean.specs.Actions as mean_actions
use Rattle.fm_mean.specs.Actions.{Action, Meets, Send, Receive, Probe}
use Rattle.fm_code.specs.declared.ask.Ask.{Ask}
use Rattle.fm_code.specs.declared.ask.Ask.TheVariants as ask
use Rattle.fm_code.specs.declared.ask.Operand.{Operand}
use Rattle.fm_code.specs.declared.body.Body.{Body}
use Rattle.fm_code.specs.Statements as code_actions
use Rattle.fm_proc_language.specs.Slots as by_slots
use Rattle.fm_proc_language.specs.Slots.{port_in, in_slot}
use Rattle.fm_proc_language.specs.Processes.{CodeProc, frame_words, body_words}
use Rattle.fm_gen_relation.specs.Standing.{Slots}
use Rattle.fm_gen.specs.Steps.{SendsAlike, ReceivesAlike, ProbesAlike}
use Rattle.fm_gen.specs.Entries.{statement_address}
use Rattle.fm_gen.specs.Kept.{site_at}
use Rattle.fm_gen.specs.Programs.{code_of}
use Rattle.fm_gen.specs.Bodies.{next_address, IsAlive, StandsFor, DoesAlike, MeetsAlike}
use Rattle.fm_gen.proofs.BodyLaws.{keeps_at}
use Rattle.fm_proc_simulation.specs.SlotWords.{IsHeld}
use Rattle.fm_proc_simulation.proofs.Slots.{held_port}
use Rattle.fm_proc_simulation.proofs.PortLists.{all_first, all_second, all_of}
use Rattle.fm_proc_simulation.proofs.Same.{AgreeOn, frame_same, below_same, frame_agrees, frames_agree}
use Rattle.fm_proc_simulation.specs.Here.{Here}
use Rattle.fm_proc_simulation.proofs.Context.{tells_ports}

-- Ports elsewhere.

-- another port than this one
abbrev pub other_port : PortValue → PortValue
other_port (Writer c w) = Reader c
other_port (Reader c) = Writer c 0

is_other_port : (v : PortValue) → other_port v ≡ v → ⊥
is_other_port (Writer c w) e = cc
is_other_port (Reader c) e = cc

-- whether a port stands in the slot that the word names
abbrev pub has_port : Option (Option PortValue) → Bool
has_port None = false
has_port (Some None) = false
has_port (Some (Some v)) = true

abbrev pub in_use : by_slots.Slots → ℤ → Bool
in_use s (pos zero) = false
in_use s (pos (suc k)) = has_port (slice_get s.ports k)
in_use s (negsuc k) = false

held_in_use : (s : by_slots.Slots) (z : ℤ) → IsHeld s z → in_use s z ≡ true
held_in_use s z h = ap (in_use s) h.number ∙ ap has_port h.there

slot_held : (s : by_slots.Slots) (k : ℕ) (o : Option (Option PortValue)) → slice_get s.ports k ≡ o → has_port o ≡ true → IsHeld s (pos (suc k))
slot_held s k None e h = absurd (cc)
slot_held s k (Some None) e h = absurd (cc)
slot_held s k (Some (Some v)) e h = record { before = k; port = v; number = refl; there = e }

in_use_held : (s : by_slots.Slots) (z : ℤ) → in_use s z ≡ true → IsHeld s z
in_use_held s (pos zero) h = absurd (cc)
in_use_held s (pos (suc k)) h = slot_held s k (slice_get s.ports k) refl h
in_use_held s (negsuc k) h = absurd (cc)

abbrev pub kept_or_other : Bool → PortValue → PortValue
kept_or_other true v = v
kept_or_other false v = other_port v

-- the same ports where words name slots in use, and others everywhere else
abbrev pub elsewhere : by_slots.Slots → Slots
elsewhere s z = kept_or_other (in_use s z) (port_in s z)

pub same_where_held : (s : by_slots.Slots) (z : ℤ) → IsHeld s z → elsewhere s z ≡ port_in s z
same_where_held s z h = ap (λ b. kept_or_other b (port_in s z)) (held_in_use s z h)

-- what names the same port under both names a slot in use
pub held_where_same : (s : by_slots.Slots) (z : ℤ) → port_in s z ≡ elsewhere s z → IsHeld s z
held_where_same s z same = go (in_use s z) refl same
  where
    go : (b : Bool) → in_use s z ≡ b → port_in s z ≡ kept_or_other b (port_in s z) → IsHeld s z
    go true e h = in_use_held s z e
    go false e h = absurd (is_other_port (port_in s z) (sym h))

first_same : (v w : PortValue) (vs ws : List PortValue) → v ∷ vs ≡ w ∷ ws → (v ≡ w) × (vs ≡ ws)
first_same v w vs ws e = (cc, cc)

pub all_held : (s : by_slots.Slots) (zs : List ℤ) → map (port_in s) zs ≡ map (elsewhere s) zs → AllIn (IsHeld s) zs
all_held s [] e = tt
all_held s (z ∷ zs) e =
    let parts = first_same (port_in s z) (elsewhere s z) (map (port_in s) zs) (map (elsewhere s) zs) e in
    (held_where_same s z parts.0, all_held s zs parts.1)

-- The body under other ports.

same_unit : (u v : ProgramUnit) → Some u ≡ Some v → u ≡ v
same_unit u v e = cc

-- a body stands for the same under ports that agree on its words
pub stands_same : (p : Program) (f g : Slots) (x : Proc) (b : Body) → x.phase ≡ Running → StandsFor p (code_of p) f x b → AgreeOn f g (body_words b) → StandsFor p (code_of p) g x b
stands_same p f g x b running s same =
    let tells = tells_ports p b s.loaded in
    let top = all_first (λ z. g z ≡ f z) (frame_words b b.frame) (flat_map (frame_words b) b.below) same in
    let rest = all_second (λ z. g z ≡ f z) (frame_words b b.frame) (flat_map (frame_words b) b.below) same in
    let first = frame_same p f g (next_address p x.phase s.frame) s.frame b.frame s.first (frame_agrees p f g b tells b.frame top) in
    record {
      frame = s.frame;
      below = s.below;
      frames = s.frames;
      loaded = s.loaded;
      machine = s.machine;
      node = s.node;
      first = first;
      others = below_same p (statement_address p) f g s.frame b.frame s.below b.below s.others (frames_agree p f g b tells b.below rest);
      alive = subst (λ h. IsAlive h first.unit s.frame) (sym running) tt;
    }

same_frame : (f g : mean.Frame) (fs gs : List mean.Frame) → f ∷ fs ≡ g ∷ gs → f ≡ g
same_frame f g fs gs e = cc

same_point : (p : Program) (u v : ProgramUnit) (f g : mean.Frame) → f ≡ g → unit_at p f.unit ≡ Some u → unit_at p g.unit ≡ Some v → point_at v g.entry ≡ point_at u f.entry
same_point p u v f g same here there =
    let units : u ≡ v = same_unit u v (sym here ∙ ap (λ (k : mean.Frame). unit_at p k.unit) same ∙ there) in
    λ i. point_at (sym units i) ((sym same i).entry)

-- what stands for the same process is at the same entry
pub stands_there : (p : Program) (f g : Slots) (x : Proc) (b : Body) (s : StandsFor p (code_of p) f x b) (t : StandsFor p (code_of p) g x b) → point_at t.first.unit t.frame.entry ≡ point_at s.first.unit s.frame.entry
stands_there p f g x b s t = same_point p s.first.unit t.first.unit s.frame t.frame (same_frame s.frame t.frame s.below t.below (sym s.frames ∙ t.frames)) s.first.there t.first.there

-- What a body that stands for a process does elsewhere.

module _ (p : Program) (types : Types) (y : CodeProc) (x : Proc) (b : Body) (h : Here p types y x b) (running : x.phase ≡ Running) where
  pub stands_elsewhere : StandsFor p (code_of p) (elsewhere y.slots) x b
  stands_elsewhere =
      stands_same p (port_in y.slots) (elsewhere y.slots) x b running h.stands
      (all_of (IsHeld y.slots) (λ z. elsewhere y.slots z ≡ port_in y.slots z) (same_where_held y.slots) (body_words b) h.held)

  module _ (e : Point) (at : point_at h.stands.first.unit h.stands.frame.entry ≡ Some e) where
    pub does_elsewhere : DoesAlike p (code_of p) (elsewhere y.slots) x b stands_elsewhere e (code_actions.action_of b) (mean_actions.action_of p x)
    does_elsewhere = keeps_at p types (elsewhere y.slots) x h.fine b stands_elsewhere e (stands_there p (port_in y.slots) (elsewhere y.slots) x b h.stands stands_elsewhere ∙ at)

    module _ (k : Ask) (does : code_actions.action_of b ≡ code_actions.Meets k) (a : Action) (is : mean_actions.action_of p x ≡ a) where
      meets_elsewhere : MeetsAlike p (code_of p) (elsewhere y.slots) x b stands_elsewhere e k a
      meets_elsewhere =
          subst (MeetsAlike p (code_of p) (elsewhere y.slots) x b stands_elsewhere e k) is
          (subst (λ c. DoesAlike p (code_of p) (elsewhere y.slots) x b stands_elsewhere e c (mean_actions.action_of p x)) does does_elsewhere)

    -- a slot at whose port an event is met is in use: a port stands in it, which is the one that the meaning tells
    stands_in : (slot : ℤ) (v w : PortValue) → port_in y.slots slot ≡ v → elsewhere y.slots slot ≡ w → v ≡ w → in_slot y.slots slot ≡ Some v
    stands_in slot v w here there same = (held_port y.slots slot (held_where_same y.slots slot (here ∙ same ∙ sym there))).1 ∙ ap Some here

    pub sends_from : (slot : ℤ) (items : List Operand) (next : ℕ) → code_actions.action_of b ≡ code_actions.Meets (ask.Send slot items next) → (a : Action) → mean_actions.action_of p x ≡ a
        → (s : SendsAlike (site_at p h.stands.first.unit (port_in y.slots) x.execution e h.stands.frame h.stands.below b.frame) slot items next a)
        → in_slot y.slots slot ≡ Some (Writer s.channel s.writer)
    sends_from slot items next does a is s =
        let t : SendsAlike (site_at p stands_elsewhere.first.unit (elsewhere y.slots) x.execution e stands_elsewhere.frame stands_elsewhere.below b.frame) slot items next a =
        meets_elsewhere (ask.Send slot items next) does a is in
        stands_in slot (Writer s.channel s.writer) (Writer t.channel t.writer) s.port t.port
        (same_send s.channel t.channel s.writer t.writer s.actuals t.actuals e.entry.after e.entry.after (sym s.does ∙ t.does))
      where
        same_send : (c d : ChanName) (v w : ℕ) (os qs : List Actual) (m n : ℕ) → ◌≡◌ {A = Action} (Meets (Send c v os m)) (Meets (Send d w qs n)) → ◌≡◌ {A = PortValue} (Writer c v) (Writer d w)
        same_send c d v w os qs m n same = cc

    pub receives_from : (slot : ℤ) (items : List Operand) (status at_end : Option ℕ) (next : ℕ) → code_actions.action_of b ≡ code_actions.Meets (ask.Receive slot items status at_end next)
        → (a : Action) → mean_actions.action_of p x ≡ a
        → (s : ReceivesAlike (site_at p h.stands.first.unit (port_in y.slots) x.execution e h.stands.frame h.stands.below b.frame) slot items status at_end next a)
        → in_slot y.slots slot ≡ Some (Reader s.channel)
    receives_from slot items status at_end next does a is s =
        let t : ReceivesAlike (site_at p stands_elsewhere.first.unit (elsewhere y.slots) x.execution e stands_elsewhere.frame stands_elsewhere.below b.frame) slot items status at_end next a =
        meets_elsewhere (ask.Receive slot items status at_end next) does a is in
        stands_in slot (Reader s.channel) (Reader t.channel) s.port t.port
        (same_receive s.channel t.channel (names.line_of e) s.places t.places s.iostat t.iostat e.links.jump e.entry.after (sym s.does ∙ t.does))
      where
        same_receive : (c d : ChanName) (line : ℕ) (os qs : List Span) (v w : Option Span) (jump : Option ℕ) (n : ℕ)
            → ◌≡◌ {A = Action} (Meets (Receive c line os v jump n)) (Meets (Receive d line qs w jump n)) → ◌≡◌ {A = PortValue} (Reader c) (Reader d)
        same_receive c d line os qs v w jump n same = cc

    pub probes_from : (slot : ℤ) (empty next : ℕ) → code_actions.action_of b ≡ code_actions.Meets (ask.Probe slot empty next) → (a : Action) → mean_actions.action_of p x ≡ a
        → (s : ProbesAlike (site_at p h.stands.first.unit (port_in y.slots) x.execution e h.stands.frame h.stands.below b.frame) slot empty next a)
        → in_slot y.slots slot ≡ Some (Reader s.channel)
    probes_from slot empty next does a is s =
        let t : ProbesAlike (site_at p stands_elsewhere.first.unit (elsewhere y.slots) x.execution e stands_elsewhere.frame stands_elsewhere.below b.frame) slot empty next a =
        meets_elsewhere (ask.Probe slot empty next) does a is in
        stands_in slot (Reader s.channel) (Reader t.channel) s.port t.port (same_probe s.channel t.channel s.place t.place e.entry.after (sym s.does ∙ t.does))
      where
        same_probe : (c d : ChanName) (v w : Span) (n : ℕ) → ◌≡◌ {A = Action} (Meets (Probe c v n)) (Meets (Probe d w n)) → ◌≡◌ {A = PortValue} (Reader c) (Reader d)
        same_probe c d v w n same = cc
