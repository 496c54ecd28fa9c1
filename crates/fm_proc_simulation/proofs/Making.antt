-- A body that makes a channel or a merger needs what the process needs for which it stands, and goes on as that one does.
use Rattle.std.proofs.Common.{◌≡◌, ◌≤◌, ℕ, zero, suc, ◌+◌, Bool, true, false, cond, Option, Some, None, List, [], ◌∷◌, ◌++◌, length, map, slice_get, refl, sym, ap, ◌∙◌, subst, arith}
use Rattle.std.proofs.lemmas.List.{map-append, length-map}
use Rattle.fm_base.specs.declared.path.ChanName.{ChanName}
use Rattle.fm_net.specs.Lawful.{ports_from}
use Rattle.fm_net.specs.Machine as net
use Rattle.fm_net.specs.Machine.{Place, Need, New, Reply}
use Rattle.fm_net.specs.Correspondence.{AsksCorrespond, OnwardsCorrespond}
use Rattle.fm_net.specs.Typed.{AllIn}
use Rattle.fm_symbols.specs.declared.names.Variable.{Variable}
use Rattle.fm_rules.specs.declared.program.Program.{Program}
use Rattle.fm_mean.specs.Names.{Point, point_at}
use Rattle.fm_mean.specs.Places as mean_places
use Rattle.fm_mean.specs.Process.{Proc, Running}
use Rattle.fm_mean.specs.Fits.{Types}
use Rattle.fm_mean.specs.Actions.{Action, Make, elements_from, elements_of}
use Rattle.fm_mean.specs.Steps as mean_steps
use Rattle.fm_mean.specs.Steps.{ask_for}
use Rattle.fm_mean.proofs.Sizes.{all_append}
use Rattle.fm_code.specs.declared.ask.Ask.TheVariants as ask
use Rattle.fm_code.specs.declared.ask.Operand.{Operand}
use Rattle.fm_code.specs.declared.ask.Operand.TheVariants as operand
use Rattle.fm_code.specs.declared.body.Body.{Body}
use Rattle.fm_gen_relation.specs.Sound.{is_word}
use Rattle.fm_gen_relation.specs.Operands.{MeanSpan, IsPlace, first_of, holds_words, word_number, code_span, target_of}
use Rattle.fm_proc_language.specs.Slots.{Slots, port_in}
use Rattle.fm_proc_language.specs.Frames.{words_from, port_words, all_placed}
use Rattle.fm_proc_language.specs.Processes as code
use Rattle.fm_proc_language.specs.Processes.{CodeProc, holding, runs_by}
use Rattle.fm_proc_simulation.proofs.Exchange.{place_alike}
use Rattle.fm_gen.specs.Steps.{MakesChannel, MakesMerger}
use Rattle.fm_gen.specs.Entries.{address_of}
use Rattle.fm_gen.specs.Kept.{site_at}
use Rattle.fm_proc_simulation.specs.Corresponds.{Corresponds, BodyAlike}
use Rattle.fm_proc_simulation.specs.Here.{Here, other_words}
use Rattle.fm_proc_simulation.proofs.Sending.{at_work, meets}
use Rattle.fm_proc_simulation.proofs.Context.{held_here, words_here, sound_here, goes_on_alike}

-- ---- the outports of a merger, one by one

abbrev IsElement : List Variable → MeanSpan → Type 0
IsElement vs q = IsPlace vs false q × (1 ≤ q.count)

element_numbers : (vs : List Variable) (i k n : ℕ) → words_from (first_of vs i + k) n ≡ map (word_number vs) (elements_from i k n)
element_numbers vs i k zero = refl
element_numbers vs i k (suc n) =
    let next : suc (first_of vs i + k) ≡ first_of vs i + suc k = omega arith in
    ap (λ l. (first_of vs i + k) ∷ l) (ap (λ j. words_from j n) next ∙ element_numbers vs i (suc k) n)

target_words : (vs : List Variable) (word : Bool) (q : MeanSpan) (os : List Operand)
    → port_words (cond word (operand.Words (code_span vs q)) (operand.Ports (code_span vs q)) ∷ os) ≡ words_from (word_number vs q) q.count ++ port_words os
target_words vs true q os = refl
target_words vs false q os = refl

outport_words : (vs : List Variable) (qs : List MeanSpan) → port_words (map (target_of vs) qs) ≡ map (word_number vs) (elements_of qs)
outport_words vs [] = refl
outport_words vs (q ∷ qs) =
    let elements = elements_from q.variable q.first q.count in
    target_words vs (holds_words vs q.variable) q (map (target_of vs) qs)
    ∙ ap (λ l. l ++ port_words (map (target_of vs) qs)) (element_numbers vs q.variable q.first q.count)
    ∙ ap (λ l. map (word_number vs) elements ++ l) (outport_words vs qs)
    ∙ sym (map-append (word_number vs) elements (elements_of qs))

elements_in : (vs : List Variable) (i : ℕ) (v : Variable) → slice_get vs i ≡ Some v → is_word v.kind ≡ false → (k n : ℕ) → k + n ≤ v.words → AllIn (IsElement vs) (elements_from i k n)
elements_in vs i v there port k zero within = tt
elements_in vs i v there port k (suc n) within =
    ((record { variable = v; there = there; kind = port; within = omega (arith, within) }, omega arith), elements_in vs i v there port (suc k) n (omega (arith, within)))

all_elements : (vs : List Variable) (qs : List MeanSpan) → AllIn (IsPlace vs false) qs → AllIn (IsElement vs) (elements_of qs)
all_elements vs [] places = tt
all_elements vs (q ∷ qs) places =
    let at = places.0 in
    all_append (IsElement vs) (elements_from q.variable q.first q.count) (elements_of qs) (elements_in vs q.variable at.variable at.there at.kind q.first q.count at.within) (all_elements vs qs places.1)

-- ---- the number of the next channel

body_numbered : (p : Program) (s : Slots) (x : Proc) (b : Option Body) (n : ℕ) → BodyAlike p s x b → BodyAlike p s (record x { next_channel = n }) b
body_numbered p s x None n alike = alike
body_numbered p s x (Some b) n alike = record {
  frame = alike.frame;
  below = alike.below;
  frames = alike.frames;
  loaded = alike.loaded;
  machine = alike.machine;
  node = alike.node;
  first = alike.first;
  others = alike.others;
  ends = alike.ends;
  held = alike.held;
}

-- both have made one more
pub channel_numbered : (p : Program) (y : CodeProc) (x : Proc) (n k : ℕ) → n ≡ k → Corresponds p y x → Corresponds p (record y { next_channel = n }) (record x { next_channel = k })
channel_numbered p y x n k same both = record {
  phase = both.phase;
  lines = both.lines;
  next_block = both.next_block;
  next_channel = same;
  slots = both.slots;
  body = body_numbered p y.slots x y.body k both.body;
}

-- ---- channels and mergers

module _ (p : Program) (types : Types) (y : CodeProc) (x : Proc) (b : Body) (h : Here p types y x b) (running : x.phase ≡ Running) (runs : y.phase ≡ code.Running) where
  -- the ports of the channel come to their places
  made_alike : (qs : List MeanSpan) (ks : List ℕ) → ks ≡ map (word_number h.stands.first.unit.names.variables) qs → AllIn (IsElement h.stands.first.unit.names.variables) qs
      → (next entry : ℕ) → next ≡ address_of p h.stands.first.unit entry → (n m : ℕ) → n ≡ m → (cost : ℕ) (c : ChanName)
      → OnwardsCorrespond (Corresponds p) (code.made y b next ks n (cost + n) c) (mean_steps.made x h.stands.below h.stands.frame entry qs m (cost + m) c)
  made_alike qs ks numbers places next entry leads n m count cost c =
      let vs = h.stands.first.unit.names.variables in
      let f = h.stands.frame in
      let both = place_alike h.stands.first.unit (sound_here p types y x b h) (other_words b) (holding y b) f.values (words_here p types y x b h) (held_here p types y x b h) qs (ports_from c m) places in
      let mine = all_placed (holding y b) (map (word_number vs) qs) (ports_from c m) in
      let theirs = mean_places.placed_all f.values qs (ports_from c m) in
      subst (λ j. OnwardsCorrespond (Corresponds p) (code.made y b next ks j (cost + j) c) (mean_steps.made x h.stands.below f entry qs m (cost + m) c)) (sym count)
      (subst (λ l. OnwardsCorrespond (Corresponds p) (code.made y b next l m (cost + m) c) (mean_steps.made x h.stands.below f entry qs m (cost + m) c)) (sym numbers) (record {
        self = channel_numbered p (code.going_on y b next mine.0) (mean_steps.going_on x h.stands.below f entry theirs.0) (suc y.next_channel) (suc x.next_channel) (ap suc h.next_channel)
            (at_work p (code.going_on y b next mine.0) (mean_steps.going_on x h.stands.below f entry theirs.0) runs running (goes_on_alike p types y x b h mine.0 theirs.0 both.0 next entry leads));
        block = h.next_block;
        starts = tt;
        drops = both.1;
        cost = refl;
      }))

  module _ (body : y.body ≡ Some b) (e : Point) (at : point_at h.stands.first.unit h.stands.frame.entry ≡ Some e) where
    pub channel_alike : (inport outport next : ℕ) (a : Action)
        → MakesChannel (site_at p h.stands.first.unit (port_in y.slots) x.execution e h.stands.frame h.stands.below b.frame) inport outport next a
        → (Comes : Place → Need → Reply Proc → Type 0) (q : Place) → AsksCorrespond (Corresponds p) Comes q (runs_by y b (ask.Channel inport outport next)) (ask_for p x a)
    channel_alike inport outport next a s Comes q =
        meets p Comes q x h.stands.frame h.stands.below (runs_by y b (ask.Channel inport outport next)) (Make (s.i ∷ s.o ∷ []) 1 1 e.entry.after) a s.does h.stands.frames (
          ap (λ n. New n 1) h.next_channel,
          λ u r comes replies. made_alike (s.i ∷ s.o ∷ []) (inport ∷ outport ∷ []) (ap (λ k. k ∷ outport ∷ []) s.inport_is ∙ ap (λ k. word_number h.stands.first.unit.names.variables s.i ∷ k ∷ []) s.outport_is)
              ((s.first.place, s.first.some), ((s.second.place, s.second.some), tt)) next e.entry.after s.leads 1 1 refl 0 (net.made q (New x.next_channel 1)),
        )

    pub merger_alike : (inport : ℕ) (outports : List Operand) (next : ℕ) (a : Action)
        → MakesMerger (site_at p h.stands.first.unit (port_in y.slots) x.execution e h.stands.frame h.stands.below b.frame) inport outports next a
        → (Comes : Place → Need → Reply Proc → Type 0) (q : Place) → AsksCorrespond (Corresponds p) Comes q (runs_by y b (ask.Merger inport outports next)) (ask_for p x a)
    merger_alike inport outports next a s Comes q =
        let vs = h.stands.first.unit.names.variables in
        let es = elements_of s.os in
        let words : port_words outports ≡ map (word_number vs) es = ap port_words s.outports_are ∙ outport_words vs s.os in
        let count : length (port_words outports) ≡ length es = ap length words ∙ length-map es (word_number vs) in
        meets p Comes q x h.stands.frame h.stands.below (runs_by y b (ask.Merger inport outports next)) (Make (s.i ∷ es) (length es) (1 + length es) e.entry.after) a s.does h.stands.frames (
          ap (λ n. New n (length (port_words outports))) h.next_channel ∙ ap (New x.next_channel) count,
          λ u r comes replies. made_alike (s.i ∷ es) (inport ∷ port_words outports) (ap (λ k. k ∷ port_words outports) s.inport_is ∙ ap (λ l. word_number vs s.i ∷ l) words)
              ((s.first.place, s.first.some), all_elements vs s.os s.others) next e.entry.after s.leads (length (port_words outports)) (length es) count 1 (net.made q (New x.next_channel (length es))),
        )
