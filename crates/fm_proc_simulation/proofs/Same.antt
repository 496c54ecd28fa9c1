-- Frames stand the same under ports that agree on their words; and these words are what the frames of the meaning hold.
use Rattle.std.proofs.Common.{◌≡◌, ℕ, ℤ, pos, Bool, true, false, not, cond, Some, None, List, [], ◌∷◌, ◌++◌, map, take, drop, refl, sym, ap, ◌∙◌, subst}
use Rattle.std.specs.List.{flat_map}
use Rattle.std.specs.Ordering.{int_eq}
use Rattle.std.proofs.lemmas.List.{map-append}
use Rattle.fm_base.specs.Channels.{Ports, message_ports}
use Rattle.fm_net.specs.Typed.{AllIn}
use Rattle.fm_tree.specs.declared.port_type.Kind.{Kind}
use Rattle.fm_tree.specs.declared.port_type.Kind.TheVariants as kind
use Rattle.fm_symbols.specs.declared.names.Variable.{Variable}
use Rattle.fm_rules.specs.declared.program.Program.{Program}
use Rattle.fm_mean.specs.Names.{ProgramUnit, unit_at}
use Rattle.fm_mean.specs.Process as mean
use Rattle.fm_mean.specs.Process.{frame_ports, frames_ports}
use Rattle.fm_code.specs.declared.body.Body.{Body}
use Rattle.fm_code.specs.declared.body.Frame.{Frame}
use Rattle.fm_code.specs.declared.body.Start.{Start}
use Rattle.fm_code.specs.Acts.{span_of as words_at}
use Rattle.fm_code.specs.Passing.{live, ports_in}
use Rattle.fm_code.specs.Statements as code
use Rattle.fm_code.specs.Statements.{start_ports}
use Rattle.fm_proc_language.specs.Processes.{frame_words}
use Rattle.fm_gen_relation.specs.Sound.{is_word}
use Rattle.fm_gen_relation.specs.Standing.{Slots, port_by, item_by, values_in}
use Rattle.fm_gen_relation.specs.Formals.{span_of, ports_of}
use Rattle.fm_gen_relation.specs.Frames.{Statements, StartsStand, FrameStands, BelowStand}
use Rattle.fm_gen_relation.proofs.Held.{held_alike, started_alike}
use Rattle.fm_proc_simulation.proofs.PortLists.{all_first, all_second, live_first, live_second}

-- Values.

-- both have the same ports at these words
abbrev pub AgreeOn : (f g : Slots) → List ℤ → Type 0
AgreeOn f g zs = AllIn (λ z. g z ≡ f z) zs

pub ports_same : (f g : Slots) (zs : List ℤ) → AgreeOn f g (live zs) → map (port_by g) zs ≡ map (port_by f) zs
ports_same f g [] same = refl
ports_same f g (z ∷ zs) same = go (int_eq z (pos 0)) same (ports_same f g zs)
  where
    go : (b : Bool) → AgreeOn f g (cond (not b) (z ∷ live zs) (live zs)) → (AgreeOn f g (live zs) → map (port_by g) zs ≡ map (port_by f) zs)
        → cond b None (Some (g z)) ∷ map (port_by g) zs ≡ cond b None (Some (f z)) ∷ map (port_by f) zs
    go true same rest = ap (λ l. None ∷ l) (rest same)
    go false same rest = λ i. Some (same.0 i) ∷ rest same.1 i

pub item_same : (k : Kind) (f g : Slots) (zs : List ℤ) → AgreeOn f g (live zs) → item_by g k zs ≡ item_by f k zs
item_same kind.Integer f g zs same = refl
item_same kind.Logical f g zs same = refl
item_same (kind.In t) f g zs same = ap Ports (ports_same f g zs same)
item_same (kind.Out t) f g zs same = ap Ports (ports_same f g zs same)

pub values_same : (vs : List Variable) (f g : Slots) (ws : List ℤ) → AgreeOn f g (ports_in (ports_of vs) ws) → values_in g vs ws ≡ values_in f vs ws
values_same [] f g ws same = refl
values_same (v ∷ vs) f g ws same = go v.kind same (values_same vs f g ws)
  where
    ports : (t : Kind) → AgreeOn f g (live (take v.words (drop v.first ws) ++ flat_map (words_at ws) (ports_of vs))) → (AgreeOn f g (ports_in (ports_of vs) ws) → values_in g vs ws ≡ values_in f vs ws)
        → item_by g t (take v.words (drop v.first ws)) ∷ values_in g vs ws ≡ item_by f t (take v.words (drop v.first ws)) ∷ values_in f vs ws
    ports t same rest = λ i. item_same t f g (take v.words (drop v.first ws)) (live_first (λ z. g z ≡ f z) (take v.words (drop v.first ws)) (flat_map (words_at ws) (ports_of vs)) same) i
        ∷ rest (live_second (λ z. g z ≡ f z) (take v.words (drop v.first ws)) (flat_map (words_at ws) (ports_of vs)) same) i

    go : (k : Kind) → AgreeOn f g (ports_in (cond (is_word k) (ports_of vs) (span_of v ∷ ports_of vs)) ws) → (AgreeOn f g (ports_in (ports_of vs) ws) → values_in g vs ws ≡ values_in f vs ws)
        → item_by g k (take v.words (drop v.first ws)) ∷ values_in g vs ws ≡ item_by f k (take v.words (drop v.first ws)) ∷ values_in f vs ws
    go kind.Integer same rest = ap (λ l. item_by g kind.Integer (take v.words (drop v.first ws)) ∷ l) (rest same)
    go kind.Logical same rest = ap (λ l. item_by g kind.Logical (take v.words (drop v.first ws)) ∷ l) (rest same)
    go (kind.In t) same rest = ports (kind.In t) same rest
    go (kind.Out t) same rest = ports (kind.Out t) same rest

-- Frames.

-- the same of the words of a unit's frame, by its number
abbrev pub UnitAgrees : Program → (f g : Slots) → ℕ → List ℤ → Type 0
UnitAgrees p f g n ws = (u : ProgramUnit) → unit_at p n ≡ Some u → AgreeOn f g (ports_in (ports_of u.names.variables) ws)

abbrev pub StartsAgree : Program → (f g : Slots) → List Start → Type 0
StartsAgree p f g cs = AllIn (λ (c : Start). UnitAgrees p f g c.unit c.words) cs

abbrev pub FrameAgrees : Program → (f g : Slots) → Frame → Type 0
FrameAgrees p f g m = UnitAgrees p f g m.unit m.words × StartsAgree p f g m.starts

pub starts_same : (p : Program) (f g : Slots) (mine : List Variable) (ss : List mean.Start) (cs : List Start) → StartsStand p f mine ss cs → StartsAgree p f g cs → StartsStand p g mine ss cs
starts_same p f g mine [] [] h same = tt
starts_same p f g mine [] (c ∷ cs) h same = absurd h
starts_same p f g mine (s ∷ ss) [] h same = absurd h
starts_same p f g mine (s ∷ ss) (c ∷ cs) h same = (
  record {
    unit = h.0.unit;
    there = h.0.there;
    number = h.0.number;
    values = h.0.values ∙ sym (values_same h.0.unit.names.variables f g c.words (same.0 h.0.unit (ap (unit_at p) h.0.number ∙ h.0.there)));
    sized = h.0.sized;
    backs = h.0.backs;
    machine = h.0.machine;
    node = h.0.node;
  },
  starts_same p f g mine ss cs h.1 same.1,
)

pub frame_same : (p : Program) (f g : Slots) (begin : ProgramUnit → ℕ) (x : mean.Frame) (m : Frame) → FrameStands p f begin x m → FrameAgrees p f g m → FrameStands p g begin x m
frame_same p f g begin x m h same = record {
  unit = h.unit;
  there = h.there;
  number = h.number;
  address = h.address;
  stands = record {
    values = h.stands.values ∙ sym (values_same h.unit.names.variables f g m.words (same.0 h.unit (ap (unit_at p) h.number ∙ h.there)));
    sized = h.stands.sized;
    results = h.stands.results;
    loops = h.stands.loops;
  };
  results = h.results;
  starts = starts_same p f g h.unit.names.variables x.starts m.starts h.starts same.1;
}

pub below_same : (p : Program) (at : Statements) (f g : Slots) (x : mean.Frame) (m : Frame) (xs : List mean.Frame) (ms : List Frame) → BelowStand p at f x m xs ms → AllIn (FrameAgrees p f g) ms → BelowStand p at g x m xs ms
below_same p at f g x m [] [] h same = tt
below_same p at f g x m [] (n ∷ ms) h same = absurd h
below_same p at f g x m (y ∷ xs) [] h same = absurd h
below_same p at f g x m (y ∷ xs) (n ∷ ms) h same = (frame_same p f g _ y n h.0 same.0, h.1, h.2, below_same p at f g y n xs ms h.3 same.1)

-- In a body whose code tells the ports of each unit.

abbrev pub TellsPorts : Program → Body → Type 0
TellsPorts p b = (n : ℕ) (u : ProgramUnit) → unit_at p n ≡ Some u → code.ports_of (code.unit_at b n) ≡ ports_of u.names.variables

unit_agrees : (p : Program) (f g : Slots) (b : Body) → TellsPorts p b → (n : ℕ) (ws : List ℤ) → AgreeOn f g (ports_in (code.ports_of (code.unit_at b n)) ws) → UnitAgrees p f g n ws
unit_agrees p f g b tells n ws same u there = subst (λ spans. AgreeOn f g (ports_in spans ws)) (tells n u there) same

pub starts_agree : (p : Program) (f g : Slots) (b : Body) → TellsPorts p b → (cs : List Start) → AgreeOn f g (start_ports b cs) → StartsAgree p f g cs
starts_agree p f g b tells [] same = tt
starts_agree p f g b tells (c ∷ cs) same =
    let mine = ports_in (code.ports_of (code.unit_at b c.unit)) c.words in
    (unit_agrees p f g b tells c.unit c.words (all_first (λ z. g z ≡ f z) mine (start_ports b cs) same), starts_agree p f g b tells cs (all_second (λ z. g z ≡ f z) mine (start_ports b cs) same))

pub frame_agrees : (p : Program) (f g : Slots) (b : Body) → TellsPorts p b → (m : Frame) → AgreeOn f g (frame_words b m) → FrameAgrees p f g m
frame_agrees p f g b tells m same =
    let mine = ports_in (code.ports_of (code.unit_at b m.unit)) m.words in
    (unit_agrees p f g b tells m.unit m.words (all_first (λ z. g z ≡ f z) mine (start_ports b m.starts) same), starts_agree p f g b tells m.starts (all_second (λ z. g z ≡ f z) mine (start_ports b m.starts) same))

pub frames_agree : (p : Program) (f g : Slots) (b : Body) → TellsPorts p b → (ms : List Frame) → AgreeOn f g (flat_map (frame_words b) ms) → AllIn (FrameAgrees p f g) ms
frames_agree p f g b tells [] same = tt
frames_agree p f g b tells (m ∷ ms) same =
    let rest = flat_map (frame_words b) ms in
    (frame_agrees p f g b tells m (all_first (λ z. g z ≡ f z) (frame_words b m) rest same), frames_agree p f g b tells ms (all_second (λ z. g z ≡ f z) (frame_words b m) rest same))

-- What frames hold.

pub frame_held : (p : Program) (slots : Slots) (b : Body) → TellsPorts p b → (begin : ProgramUnit → ℕ) (x : mean.Frame) (m : Frame) → FrameStands p slots begin x m → map slots (frame_words b m) ≡ frame_ports x
frame_held p slots b tells begin x m h =
    let vs = h.unit.names.variables in
    let mine = ports_in (code.ports_of (code.unit_at b m.unit)) m.words in
    map-append slots mine (start_ports b m.starts)
    ∙ ap (λ l. l ++ map slots (start_ports b m.starts))
    (ap (λ l. map slots (ports_in l m.words)) (tells m.unit h.unit (ap (unit_at p) h.number ∙ h.there)) ∙ held_alike slots vs m.words ∙ ap message_ports (sym h.stands.values))
    ∙ ap (λ l. message_ports x.values ++ l) (started_alike p slots b tells vs x.starts m.starts h.starts)

below_held : (p : Program) (at : Statements) (slots : Slots) (b : Body) → TellsPorts p b → (x : mean.Frame) (m : Frame) (xs : List mean.Frame) (ms : List Frame) → BelowStand p at slots x m xs ms
    → map slots (flat_map (frame_words b) ms) ≡ frames_ports xs
below_held p at slots b tells x m [] [] h = refl
below_held p at slots b tells x m [] (n ∷ ms) h = absurd h
below_held p at slots b tells x m (y ∷ xs) [] h = absurd h
below_held p at slots b tells x m (y ∷ xs) (n ∷ ms) h =
    map-append slots (frame_words b n) (flat_map (frame_words b) ms)
    ∙ ap (λ l. l ++ map slots (flat_map (frame_words b) ms)) (frame_held p slots b tells _ y n h.0)
    ∙ ap (λ l. frame_ports y ++ l) (below_held p at slots b tells y n xs ms h.3)

pub frames_held : (p : Program) (at : Statements) (slots : Slots) (b : Body) → TellsPorts p b → (begin : ProgramUnit → ℕ) (x : mean.Frame) (m : Frame) (xs : List mean.Frame) (ms : List Frame)
    → FrameStands p slots begin x m → BelowStand p at slots x m xs ms → map slots (frame_words b m ++ flat_map (frame_words b) ms) ≡ frames_ports (x ∷ xs)
frames_held p at slots b tells begin x m xs ms h below =
    map-append slots (frame_words b m) (flat_map (frame_words b) ms)
    ∙ ap (λ l. l ++ map slots (flat_map (frame_words b) ms)) (frame_held p slots b tells begin x m h)
    ∙ ap (λ l. frame_ports x ++ l) (below_held p at slots b tells x m xs ms below)
