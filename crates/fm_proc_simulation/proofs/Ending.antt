-- The end of a process and a fault, and what stays of a process that has ended.
use Rattle.std.proofs.Common.{◌≡◌, ℕ, ℤ, true, Option, Some, None, List, [], ◌∷◌, ◌++◌, length, map, append_assoc, refl, sym, ap, ◌∙◌, subst}
use Rattle.std.specs.List.{flat_map}
use Rattle.std.proofs.lemmas.List.{append-nil, map-append}
use Rattle.fm_base.specs.declared.fault.Fault.{Fault}
use Rattle.fm_base.specs.declared.port.PortValue.{PortValue}
use Rattle.fm_base.specs.Channels.{Item}
use Rattle.fm_net.specs.Machine.{Place, Need, Reply}
use Rattle.fm_net.specs.Typed.{AllIn}
use Rattle.fm_net.specs.Correspondence.{AsksCorrespond, OnwardsCorrespond}
use Rattle.fm_symbols.specs.declared.names.Variable.{Variable}
use Rattle.fm_rules.specs.declared.program.Program.{Program}
use Rattle.fm_mean.specs.Names.{ProgramUnit, Point, unit_at, point_at}
use Rattle.fm_mean.specs.Process as mean
use Rattle.fm_mean.specs.Process.{Running, Joining, Ended, Faulted, Proc, started_ports}
use Rattle.fm_mean.specs.Calls.{ended_frames, variables_in}
use Rattle.fm_mean.specs.Calls as calls
use Rattle.fm_mean.specs.Fits.{Types}
use Rattle.fm_mean.specs.Actions.{Action, Meets, End, Fail, fails}
use Rattle.fm_mean.specs.Steps as mean_steps
use Rattle.fm_mean.specs.Steps.{ask_event, ask_for}
use Rattle.fm_code.specs.declared.ask.Ask.TheVariants as ask
use Rattle.fm_code.specs.declared.body.Body.{Body}
use Rattle.fm_code.specs.declared.body.Frame.{Frame}
use Rattle.fm_base.specs.declared.name.Line.{Line}
use Rattle.fm_code.specs.Passing.{ports_in}
use Rattle.fm_code.specs.Statements as statements
use Rattle.fm_code.specs.Statements.{start_ports}
use Rattle.fm_gen_relation.proofs.Units.{sound_unit}
use Rattle.fm_gen_relation.specs.Standing.{Slots, values_in}
use Rattle.fm_gen_relation.specs.Formals.{ports_of}
use Rattle.fm_gen_relation.specs.Frames.{Statements, ResultsFit, FrameStands, BelowStand, results_then}
use Rattle.fm_gen_relation.proofs.Held.{started_alike}
use Rattle.fm_proc_language.specs.Slots.{port_in, all_drained}
use Rattle.fm_proc_language.specs.Frames as frames
use Rattle.fm_proc_language.specs.Processes as code
use Rattle.fm_proc_language.specs.Processes.{CodeProc, frame_words, body_words, ended_frame, runs_by}
use Rattle.fm_proc_simulation.specs.SlotWords.{IsHeld, IsOther, AreOnce}
use Rattle.fm_proc_simulation.proofs.Kept.{AreNumbered, code_left, meant_left, kept_alike}
use Rattle.fm_proc_simulation.proofs.PortLists.{IsParted, all_mine, all_first, all_second, other_first, other_second, other_both, once_first, once_between}
use Rattle.fm_proc_simulation.proofs.Same.{TellsPorts, frame_agrees, frame_held, frame_same}
use Rattle.fm_proc_simulation.proofs.Slots.{all_drained_others, vacated_held}
use Rattle.fm_gen.specs.Entries.{statement_address}
use Rattle.fm_gen.specs.Units.{unit_of_code}
use Rattle.fm_proc_simulation.specs.Corresponds.{Corresponds, PhaseStands, first_variables}
use Rattle.fm_proc_simulation.specs.Here.{Here}
use Rattle.fm_gen_relation.proofs.Numbered.{formals_numbered}
use Rattle.fm_proc_simulation.proofs.Context.{code_here, faults_alike}

-- Lists.

both_all : {X : Type 0} (Fact : X → Type 0) (xs ys : List X) → AllIn Fact xs → AllIn Fact ys → AllIn Fact (xs ++ ys)
both_all Fact [] ys h k = k
both_all Fact (x ∷ xs) ys h k = (h.0, both_all Fact xs ys h.1 k)

-- what stands once also does in another order
other_moved : (x : ℤ) (xs ys zs os : List ℤ) → IsOther x (xs ++ (ys ++ (zs ++ os))) → IsOther x (xs ++ (zs ++ (ys ++ os)))
other_moved x xs ys zs os h =
    let rest = other_second x xs (ys ++ (zs ++ os)) h in
    let more = other_second x ys (zs ++ os) rest in
    other_both x xs (zs ++ (ys ++ os)) (other_first x xs (ys ++ (zs ++ os)) h)
    (other_both x zs (ys ++ os) (other_first x zs os more) (other_both x ys os (other_first x ys (zs ++ os) rest) (other_second x zs os more)))

once_moved : (xs ys zs os : List ℤ) → AreOnce (xs ++ (ys ++ (zs ++ os))) → AreOnce (xs ++ (zs ++ (ys ++ os)))
once_moved [] [] zs os h = h
once_moved [] (y ∷ ys) zs os h = once_between y zs (ys ++ os) (other_moved y [] ys zs os h.0) (once_moved [] ys zs os h.1)
once_moved (x ∷ xs) ys zs os h = (other_moved x xs ys zs os h.0, once_moved xs ys zs os h.1)

-- others behind go with the first part
parted_behind : (xs ys zs ws : List ℤ) → IsParted xs ys zs → IsParted (xs ++ ws) ys (zs ++ ws)
parted_behind xs ys zs ws p = (
  (λ Fact h.
      let both = p.0 Fact (all_first Fact zs ws h) in
      (both_all Fact xs ws both.0 (all_second Fact zs ws h), both.1)),
  (λ os h. subst AreOnce (sym (append_assoc xs ws (ys ++ os))) (once_moved xs ys ws os (p.1 (ws ++ os) (subst AreOnce (append_assoc zs ws os) h)))),
)

same_parted : (xs ys yt zs zt : List ℤ) → ys ≡ yt → zs ≡ zt → IsParted xs ys zs → IsParted xs yt zt
same_parted xs ys yt zs zt y z p = subst (λ l. IsParted xs l zt) y (subst (λ l. IsParted xs ys l) z p)

-- The last frame of a process that ends.

-- without results and starts
abbrev last_frame : Frame → List ℤ → Frame
last_frame m ws = record m { words = ws; results = []; starts = [] }

abbrev last_meant : mean.Frame → List Item → mean.Frame
last_meant f xs = record f { values = xs; results = []; starts = [] }

last_stands : (p : Program) (slots : Slots) (begin : ProgramUnit → ℕ) (f : mean.Frame) (m : Frame) (xs : List Item) (ws : List ℤ) (h : FrameStands p slots begin f m)
    → xs ≡ values_in slots h.unit.names.variables ws → length ws ≡ h.unit.names.words → FrameStands p slots (λ u. m.address) (last_meant f xs) (last_frame m ws)
last_stands p slots begin f m xs ws h values sized = record {
  unit = h.unit;
  there = h.there;
  number = h.number;
  address = refl;
  stands = record { values = values; sized = sized; results = refl; loops = h.stands.loops };
  results = no_results (point_at h.unit f.entry);
  starts = tt;
}
  where
    no_results : (o : Option Point) → ResultsFit p h.unit o []
    no_results None = tt
    no_results (Some e) = λ i t w next there. absurd (cc there)

-- what stays of the frames of a process that ends, and which ports are let go
record EndsAlike (p : Program) (slots : Slots) (b : Body) (e : Frame × List ℤ) (r : List mean.Frame × List PortValue) (before : List ℤ) : Type 1 where
  last : mean.Frame
  frames : r.0 ≡ last ∷ []
  drops : map slots e.1 ≡ r.1
  stands : FrameStands p slots (λ u. e.0.address) last e.0
  parted : IsParted e.1 (frame_words b e.0) before

module _ (p : Program) (slots : Slots) (b : Body) (numbered : (number : ℕ) (u : ProgramUnit) → unit_at p number ≡ Some u → AreNumbered u) (told : (n : ℕ) (u : ProgramUnit) → unit_at p n ≡ Some u → statements.unit_at b n ≡ Some (unit_of_code p u)) where
  tells : TellsPorts p b
  tells n u there = ap statements.ports_of (told n u there)

  own_ends : (begin : ProgramUnit → ℕ) (f : mean.Frame) (m : Frame) → FrameStands p slots begin f m → EndsAlike p slots b (ended_frame b m []) (ended_frames p (f ∷ [])) (frame_words b m ++ [])
  own_ends begin f m h =
      let u = h.unit in
      let vs = u.names.variables in
      let k = kept_alike slots u m.words (sound_unit p f.unit u h.there) (numbered f.unit u h.there) h.stands.sized in
      let starts = start_ports b m.starts in
      let here : statements.unit_at b m.unit ≡ Some (unit_of_code p u) = told m.unit u (ap (unit_at p) h.number ∙ h.there) in
      let spans : statements.ports_of (statements.unit_at b m.unit) ≡ ports_of vs = ap statements.ports_of here in
      let coded : frames.kept (code.formals_in (statements.unit_at b m.unit)) (statements.ports_of (statements.unit_at b m.unit)) m.words ≡ code_left u m.words =
      ap (λ o. frames.kept (code.formals_in o) (statements.ports_of o) m.words) here in
      let meant : calls.kept (variables_in (unit_at p f.unit)) f.values ≡ meant_left slots u m.words =
      ap (λ o. calls.kept (variables_in o) f.values) h.there ∙ ap (calls.kept vs) h.stands.values in
      subst (λ c. EndsAlike p slots b (last_frame m c.0, c.1 ++ starts) (ended_frames p (f ∷ [])) (frame_words b m ++ [])) (sym coded)
      (subst (λ r. EndsAlike p slots b (last_frame m (code_left u m.words).0, (code_left u m.words).1 ++ starts) (last_meant f r.0 ∷ [], r.1 ++ started_ports f.starts) (frame_words b m ++ [])) (sym meant)
      (record {
        last = last_meant f (meant_left slots u m.words).0;
        frames = refl;
        drops = map-append slots (code_left u m.words).1 starts
            ∙ ap (λ l. l ++ map slots starts) k.drops
            ∙ ap (λ l. (meant_left slots u m.words).1 ++ l) (started_alike p slots b tells vs f.starts m.starts h.starts);
        stands = last_stands p slots begin f m (meant_left slots u m.words).0 (code_left u m.words).0 h k.stay (k.count ∙ h.stands.sized);
        parted = same_parted ((code_left u m.words).1 ++ starts) (ports_in (ports_of vs) (code_left u m.words).0) (frame_words b (last_frame m (code_left u m.words).0)) (ports_in (ports_of vs) m.words ++ starts) (frame_words b m ++ [])
            (ap (λ l. ports_in l (code_left u m.words).0) (sym spans) ∙ sym (append-nil (ports_in (statements.ports_of (statements.unit_at b m.unit)) (code_left u m.words).0)))
            (ap (λ l. ports_in l m.words ++ starts) (sym spans) ∙ sym (append-nil (frame_words b m)))
            (parted_behind (code_left u m.words).1 (ports_in (ports_of vs) (code_left u m.words).0) (ports_in (ports_of vs) m.words) starts ((λ Fact all. ((k.facts Fact all).1, (k.facts Fact all).0)), k.once));
      }))

  one_more : (begin : ProgramUnit → ℕ) (f : mean.Frame) (m : Frame) (e : Frame × List ℤ) (r : List mean.Frame × List PortValue) (before : List ℤ) → FrameStands p slots begin f m
      → EndsAlike p slots b e r before → EndsAlike p slots b (e.0, frame_words b m ++ e.1) (r.0, mean.frame_ports f ++ r.1) (frame_words b m ++ before)
  one_more begin f m e r before h rest = record {
    last = rest.last;
    frames = rest.frames;
    drops = map-append slots (frame_words b m) e.1 ∙ ap (λ l. l ++ map slots e.1) (frame_held p slots b tells begin f m h) ∙ ap (λ l. mean.frame_ports f ++ l) rest.drops;
    stands = rest.stands;
    parted = all_mine (frame_words b m) e.1 (frame_words b e.0) before rest.parted;
  }

  frames_end : (at : Statements) (begin : ProgramUnit → ℕ) (f : mean.Frame) (m : Frame) (fs : List mean.Frame) (ms : List Frame) → FrameStands p slots begin f m → BelowStand p at slots f m fs ms
      → EndsAlike p slots b (ended_frame b m ms) (ended_frames p (f ∷ fs)) (frame_words b m ++ flat_map (frame_words b) ms)
  frames_end at begin f m [] [] h below = own_ends begin f m h
  frames_end at begin f m [] (n ∷ ms) h below = absurd below
  frames_end at begin f m (g ∷ fs) [] h below = absurd below
  frames_end at begin f m (g ∷ fs) (n ∷ ms) h below =
      one_more begin f m (ended_frame b n ms) (ended_frames p (g ∷ fs)) (frame_words b n ++ flat_map (frame_words b) ms) h
      (frames_end at (λ u. at u g.entry (results_then p f g)) g n fs ms below.0 below.3)

-- What stays of a child that was joined.

no_longer : (p : Program) (mine others : List Variable) (a : mean.Phase) (c : code.Phase) → mean.is_ended a ≡ true → PhaseStands p mine a c → PhaseStands p others a c
no_longer p mine others Running c e h = absurd (cc e)
no_longer p mine others (Joining block kids) c e h = absurd (cc e)
no_longer p mine others Ended code.Running e h = absurd h
no_longer p mine others Ended (code.Joining block kids) e h = absurd h
no_longer p mine others Ended code.Ended e h = tt
no_longer p mine others Ended (code.Faulted line fault) e h = absurd h
no_longer p mine others (Faulted line fault) c e h = absurd (cc e)

pub emptied_alike : (p : Program) (y : CodeProc) (x : Proc) → mean.has_ended x ≡ true → Corresponds p y x → Corresponds p (code.emptied y) (mean.emptied x)
emptied_alike p y x ended h = record {
  phase = no_longer p (first_variables p x.execution.frames) [] x.phase y.phase ended h.phase;
  lines = h.lines;
  next_block = h.next_block;
  next_channel = h.next_channel;
  slots = record { empty = tt; once = tt };
  body = refl;
}

same_end : (p : Program) (mine : List Variable) (a : mean.Phase) (c : code.Phase) → PhaseStands p mine a c → code.is_ended c ≡ mean.is_ended a
same_end p mine Running code.Running h = refl
same_end p mine Running (code.Joining block kids) h = absurd h
same_end p mine Running code.Ended h = absurd h
same_end p mine Running (code.Faulted line fault) h = absurd h
same_end p mine (Joining b ks) code.Running h = absurd h
same_end p mine (Joining b ks) (code.Joining block kids) h = refl
same_end p mine (Joining b ks) code.Ended h = absurd h
same_end p mine (Joining b ks) (code.Faulted line fault) h = absurd h
same_end p mine Ended code.Running h = absurd h
same_end p mine Ended (code.Joining block kids) h = absurd h
same_end p mine Ended code.Ended h = refl
same_end p mine Ended (code.Faulted line fault) h = absurd h
same_end p mine (Faulted l f) code.Running h = absurd h
same_end p mine (Faulted l f) (code.Joining block kids) h = absurd h
same_end p mine (Faulted l f) code.Ended h = absurd h
same_end p mine (Faulted l f) (code.Faulted line fault) h = refl

pub ended_same : (p : Program) (y : CodeProc) (x : Proc) → Corresponds p y x → code.has_ended y ≡ mean.has_ended x
ended_same p y x h = same_end p (first_variables p x.execution.frames) x.phase y.phase h.phase

-- Events.

module _ (p : Program) (types : Types) (y : CodeProc) (x : Proc) (b : Body) (h : Here p types y x b) where
  abbrev last : Frame × List ℤ
  last = ended_frame b b.frame b.below

  abbrev meant : List mean.Frame × List PortValue
  meant = ended_frames p (h.stands.frame ∷ h.stands.below)

  ends : EndsAlike p (port_in y.slots) b last meant (body_words b)
  ends = frames_end p (port_in y.slots) b (formals_numbered p) (code_here p types y x b h) (statement_address p) _ h.stands.frame b.frame h.stands.below b.below h.stands.first h.stands.others

  -- it keeps its own frame alone
  abbrev last_body : Body
  last_body = record b { frame = last.0; below = [] }

  -- what stays and what is let go names slots in use, each one once
  parts_held : AllIn (IsHeld y.slots) last.1 × AllIn (IsHeld y.slots) (frame_words b last.0)
  parts_held = ends.parted.0 (IsHeld y.slots) h.held

  parts_once : AreOnce (last.1 ++ frame_words b last.0)
  parts_once =
      subst (λ l. AreOnce (last.1 ++ l)) (append-nil (frame_words b last.0)) (ends.parted.1 [] (subst AreOnce (sym (append-nil (body_words b))) h.once))

  end_stands : Corresponds p (code.ended y b).self (mean_steps.ended p x).self
  end_stands =
      let e = ends in
      let words = frame_words b last.0 in
      let left = all_drained_others y.slots last.1 words h.slots (both_all (IsHeld y.slots) last.1 words parts_held.0 parts_held.1) parts_once in
      record {
        phase = tt;
        lines = h.lines;
        next_block = h.next_block;
        next_channel = h.next_channel;
        slots = left.0;
        body = record {
          frame = e.last;
          below = [];
          frames = ap (λ fs. (ended_frames p fs).0) h.stands.frames ∙ e.frames;
          loaded = h.stands.loaded;
          machine = h.stands.machine;
          node = h.stands.node;
          first = frame_same p (port_in y.slots) (port_in (all_drained y.slots last.1)) (λ u. last.0.address) e.last last.0 e.stands
              (frame_agrees p (port_in y.slots) (port_in (all_drained y.slots last.1)) b (tells p (port_in y.slots) b (formals_numbered p) (code_here p types y x b h)) last.0 left.2);
          others = tt;
          ends = tt;
          held = both_all (IsHeld (all_drained y.slots last.1)) words [] left.1 tt;
        };
      }

  end_onward : OnwardsCorrespond (Corresponds p) (code.ended y b) (mean_steps.ended p x)
  end_onward = record {
    self = end_stands;
    block = h.next_block;
    starts = tt;
    drops = vacated_held y.slots last.1 parts_held.0 (once_first last.1 (frame_words b last.0) parts_once) ∙ ends.drops ∙ ap (λ fs. (ended_frames p fs).1) (sym h.stands.frames);
    cost = refl;
  }

pub ends_alike : (p : Program) (types : Types) (y : CodeProc) (x : Proc) (b : Body) (h : Here p types y x b) (running : x.phase ≡ Running) (runs : y.phase ≡ code.Running) (body : y.body ≡ Some b)
    (e : Point) (at : point_at h.stands.first.unit h.stands.frame.entry ≡ Some e) (a : Action) → a ≡ Meets End
    → (Comes : Place → Need → Reply Proc → Type 0) (q : Place) → AsksCorrespond (Corresponds p) Comes q (runs_by y b ask.End) (ask_for p x a)
ends_alike p types y x b h running runs body e at a is Comes q =
    subst (λ a. AsksCorrespond (Corresponds p) Comes q (runs_by y b ask.End) (ask_for p x a)) (sym is)
    (subst (λ fs. AsksCorrespond (Corresponds p) Comes q (runs_by y b ask.End) (ask_event p x End fs)) (sym h.stands.frames)
    (refl, λ u r comes same. end_onward p types y x b h))

pub fails_alike : (p : Program) (types : Types) (y : CodeProc) (x : Proc) (b : Body) (h : Here p types y x b) (running : x.phase ≡ Running) (runs : y.phase ≡ code.Running) (body : y.body ≡ Some b)
    (e : Point) (at : point_at h.stands.first.unit h.stands.frame.entry ≡ Some e) (line : Line) (fault : Fault) (a : Action) → a ≡ fails line.0 fault
    → (Comes : Place → Need → Reply Proc → Type 0) (q : Place) → AsksCorrespond (Corresponds p) Comes q (runs_by y b (ask.Fail line fault)) (ask_for p x a)
fails_alike p types y x b h running runs body e at line fault a is Comes q =
    subst (λ a. AsksCorrespond (Corresponds p) Comes q (runs_by y b (ask.Fail line fault)) (ask_for p x a)) (sym is)
    (subst (λ fs. AsksCorrespond (Corresponds p) Comes q (runs_by y b (ask.Fail line fault)) (ask_event p x (Fail line.0 fault) fs)) (sym h.stands.frames) (
      refl,
      λ u r comes same. record {
        self = faults_alike p types y x b h body line.0 line.0 fault refl;
        block = h.next_block;
        starts = tt;
        drops = refl;
        cost = refl;
      },
    ))
