-- Steps of a process alone: the body after the step names slots in use, each one once, and so it stands under the slots that stay.
use Rattle.std.proofs.Common.{◌≡◌, ℕ, ◌+◌, ◌≤◌, ℤ, Some, List, [], ◌∷◌, ◌++◌, map, refl, sym, ap, subst, ◌∙◌, arith}
use Rattle.std.proofs.lemmas.List.{map-append}
use Rattle.fm_base.specs.declared.path.ChanName.{ChanName}
use Rattle.fm_base.specs.declared.port.PortValue.{PortValue}
use Rattle.fm_net.specs.Machine.{Place, Need, Reply, Nothing, reply_with}
use Rattle.fm_net.specs.Typed.{AllIn}
use Rattle.fm_net.specs.Owned.{one, count}
use Rattle.fm_net.specs.Lawful.{IsLawfulStep, IsLawfulAsk}
use Rattle.fm_net.specs.Correspondence.{AsksCorrespond}
use Rattle.fm_net.proofs.Counts.{one_self, count-nil, count-cons, count-append}
use Rattle.fm_symbols.specs.declared.names.Variable.{Variable}
use Rattle.fm_rules.specs.declared.program.Program.{Program}
use Rattle.fm_mean.specs.Names.{ProgramUnit, Point, point_at}
use Rattle.fm_mean.specs.Process.{Execution, Phase, Running, Proc, frames_ports, held}
use Rattle.fm_mean.specs.Fits.{Types}
use Rattle.fm_mean.specs.Actions as mean_actions
use Rattle.fm_mean.specs.Actions.{gone_on}
use Rattle.fm_mean.specs.Steps as mean_steps
use Rattle.fm_mean.specs.Steps.{ask_for, ask, language}
use Rattle.fm_mean.proofs.Lawful.{lawful}
use Rattle.fm_code.specs.declared.body.Body.{Body}
use Rattle.fm_code.specs.Statements as code_actions
use Rattle.fm_proc_language.specs.Slots as by_slots
use Rattle.fm_proc_language.specs.Slots.{port_in, all_left, vacated}
use Rattle.fm_proc_language.specs.Processes as code
use Rattle.fm_proc_language.specs.Processes.{CodeProc, body_words, running_by}
use Rattle.fm_gen_relation.specs.Standing.{Slots}
use Rattle.fm_gen_relation.specs.Frames.{FrameStands}
use Rattle.fm_gen.specs.Entries.{statement_address}
use Rattle.fm_gen.specs.Programs.{code_of}
use Rattle.fm_gen.specs.Bodies.{next_address, StandsFor, StepsAlike, DoesAlike}
use Rattle.fm_gen.proofs.BodyLaws.{keeps_at}
use Rattle.fm_proc_simulation.specs.SlotWords.{IsHeld, IsSlots, IsOther, AreOnce, NameTheSame}
use Rattle.fm_proc_simulation.proofs.Slots.{all_left_others, vacated_held}
use Rattle.fm_proc_simulation.proofs.PortLists.{all_first, once_first}
use Rattle.fm_proc_simulation.proofs.Same.{frames_held}
use Rattle.fm_proc_simulation.specs.Corresponds.{first_variables, PhaseStands, frame_address, EndsWhereJoining, BodyStands, Corresponds}
use Rattle.fm_proc_simulation.specs.Here.{Here}
use Rattle.fm_proc_simulation.proofs.Context.{tells_ports}
use Rattle.fm_proc_simulation.proofs.Elsewhere.{elsewhere, all_held, stands_same, stands_elsewhere, does_elsewhere}

-- Words whose ports stand once.

other_by_count : (f : Slots) (z : ℤ) (ws : List ℤ) → count (f z) (map f ws) ≡ 0 → IsOther z ws
other_by_count f z [] none = tt
other_by_count f z (w ∷ ws) none = (
  (λ e. omega (arith, none, count-cons (f z) (f w) (map f ws), one_self (f z), ap (λ v. one (f v) (f z)) e)),
  other_by_count f z ws (omega (arith, none, count-cons (f z) (f w) (map f ws))),
)

once_by_count : (f : Slots) (zs : List ℤ) → ((v : PortValue) → count v (map f zs) ≤ 1) → AreOnce zs
once_by_count f [] few = tt
once_by_count f (z ∷ zs) few = (
  other_by_count f z zs (omega (arith, few (f z), count-cons (f z) (f z) (map f zs), one_self (f z))),
  once_by_count f zs (λ v. omega (arith, few v, count-cons v (f z) (map f zs))),
)

-- the ports of its words are those that the process holds
words_held : (p : Program) (slots : Slots) (x : Proc) (b : Body) → StandsFor p (code_of p) slots x b → map slots (body_words b) ≡ held x
words_held p slots x b s =
    frames_held p (statement_address p) slots b (tells_ports p b s.loaded) (next_address p x.phase s.frame) s.frame b.frame s.below b.below s.first s.others
    ∙ ap frames_ports (sym s.frames)

-- The step of the meaning.

no_channel : ChanName
no_channel = record { maker = []; number = 0 }

same_execution : (w v : Execution) (lines ends : List (List ℕ)) (drops gone : List PortValue) (cost price : ℕ) → mean_actions.Own w lines drops cost ≡ mean_actions.Own v ends gone price → w ≡ v
same_execution w v lines ends drops gone cost price e = cc

same_drops : (w v : Execution) (lines ends : List (List ℕ)) (drops gone : List PortValue) (cost price : ℕ) → mean_actions.Own w lines drops cost ≡ mean_actions.Own v ends gone price → drops ≡ gone
same_drops w v lines ends drops gone cost price e = cc

-- what it holds then, and what is let go, is what it held
step_keeps : (p : Program) (x : Proc) (w : Execution) (lines : List (List ℕ)) (drops : List PortValue) (cost : ℕ) → mean_actions.action_of p x ≡ mean_actions.Own w lines drops cost
    → (v : PortValue) → count v (held (gone_on x w lines)) + count v drops ≡ count v (held x)
step_keeps p x w lines drops cost is v =
    let law : IsLawfulStep (language p) x Nothing (λ c r. mean_steps.onward x (gone_on x w lines) [] drops cost) = subst (λ a. IsLawfulAsk (language p) x (ask_for p x a)) is ((lawful p).goes x) in
    omega (arith, law.account no_channel (reply_with []) (refl, refl) v, count-nil v)

-- The step of the body.

-- the words of the body after a step, and those that are let go, name slots in use, each one once
record IsSpent (s : by_slots.Slots) (after : Body) (drops : List ℤ) : Type 0 where
  held : AllIn (IsHeld s) (drops ++ body_words after)
  once : AreOnce (drops ++ body_words after)

module _ (p : Program) (s : by_slots.Slots) (x : Proc) (after : Body) (lines : List (List ℕ)) (drops : List ℤ) (cost : ℕ)
    (steps : StepsAlike p (code_of p) (port_in s) x after lines drops cost (mean_actions.action_of p x)) where
  spent : StepsAlike p (code_of p) (elsewhere s) x after lines drops cost (mean_actions.action_of p x) → ((v : PortValue) → count v (held x) ≤ 1) → IsSpent s after drops
  spent others few = record { held = all_held s (drops ++ body_words after) all; once = once_by_count (port_in s) (drops ++ body_words after) single }
    where
      both : mean_actions.Own steps.execution lines (map (port_in s) drops) cost ≡ mean_actions.Own others.execution lines (map (elsewhere s) drops) cost
      both = sym steps.does ∙ others.does

      gone : map (port_in s) drops ≡ map (elsewhere s) drops
      gone = same_drops steps.execution others.execution lines lines (map (port_in s) drops) (map (elsewhere s) drops) cost cost both

      words : map (port_in s) (body_words after) ≡ map (elsewhere s) (body_words after)
      words =
          words_held p (port_in s) (gone_on x steps.execution lines) after steps.stands
          ∙ ap (λ (w : Execution). frames_ports w.frames) (same_execution steps.execution others.execution lines lines (map (port_in s) drops) (map (elsewhere s) drops) cost cost both)
          ∙ sym (words_held p (elsewhere s) (gone_on x others.execution lines) after others.stands)

      all : map (port_in s) (drops ++ body_words after) ≡ map (elsewhere s) (drops ++ body_words after)
      all = map-append (port_in s) drops (body_words after) ∙ (λ i. gone i ++ words i) ∙ sym (map-append (elsewhere s) drops (body_words after))

      single : (v : PortValue) → count v (map (port_in s) (drops ++ body_words after)) ≤ 1
      single v = omega (
        arith,
        few v,
        ap (count v) (map-append (port_in s) drops (body_words after)),
        count-append v (map (port_in s) drops) (map (port_in s) (body_words after)),
        ap (count v) (words_held p (port_in s) (gone_on x steps.execution lines) after steps.stands),
        step_keeps p x steps.execution lines (map (port_in s) drops) cost steps.does v,
      )

  -- the body after the step stands under the slots that stay
  stands_then : x.phase ≡ Running → IsSlots s → IsSpent s after drops → IsSlots (all_left s drops) × BodyStands p (all_left s drops) (gone_on x steps.execution lines) after
  stands_then running is h = (
    left.0,
    record {
      frame = b.frame;
      below = b.below;
      frames = b.frames;
      loaded = b.loaded;
      machine = b.machine;
      node = b.node;
      first = subst (λ q. FrameStands p (port_in (all_left s drops)) (frame_address p q b.frame after.frame) b.frame after.frame) (sym running)
          (subst (λ q. FrameStands p (port_in (all_left s drops)) (next_address p q b.frame) b.frame after.frame) running b.first);
      others = b.others;
      ends = ends x.phase running _;
      held = left.1;
    },
  )
    where
      left : IsSlots (all_left s drops) × AllIn (IsHeld (all_left s drops)) (body_words after) × NameTheSame (body_words after) s (all_left s drops)
      left = all_left_others s drops (body_words after) is h.held h.once

      b : StandsFor p (code_of p) (port_in (all_left s drops)) (gone_on x steps.execution lines) after
      b = stands_same p (port_in s) (port_in (all_left s drops)) (gone_on x steps.execution lines) after running steps.stands left.2

      ends : (q : Phase) → q ≡ Running → (u : ProgramUnit) → EndsWhereJoining q u b.frame
      ends q e u = subst (λ h. EndsWhereJoining h u b.frame) (sym e) tt

-- both go on after the step
goes_then : (p : Program) (types : Types) (y : CodeProc) (x : Proc) (b : Body) → Here p types y x b → x.phase ≡ Running → y.phase ≡ code.Running
    → (after : Body) (lines : List (List ℕ)) (drops : List ℤ) (w : Execution) → IsSlots (all_left y.slots drops) → BodyStands p (all_left y.slots drops) (gone_on x w lines) after
    → Corresponds p (code.gone_on y after lines drops) (gone_on x w lines)
goes_then p types y x b h running runs after lines drops w is stands = record {
  phase = phases x.phase y.phase running runs (first_variables p w.frames);
  lines = ap (λ l. l ++ lines) h.lines;
  next_block = h.next_block;
  next_channel = h.next_channel;
  slots = is;
  body = stands;
}
  where
    phases : (q : Phase) (r : code.Phase) → q ≡ Running → r ≡ code.Running → (mine : List Variable) → PhaseStands p mine q r
    phases q r e k mine = subst (λ o. PhaseStands p mine o r) (sym e) (subst (PhaseStands p mine Running) (sym k) tt)

asks_then : (p : Program) (y : CodeProc) (x : Proc) (b after : Body) (lines : List (List ℕ)) (drops : List ℤ) (cost : ℕ) (w : Execution) → y.next_block ≡ x.next_block
    → vacated y.slots drops ≡ map (port_in y.slots) drops → Corresponds p (code.gone_on y after lines drops) (gone_on x w lines) → (Comes : Place → Need → Reply Proc → Type 0) (q : Place)
    → AsksCorrespond (Corresponds p) Comes q (running_by y b (code_actions.Own after lines drops cost)) (ask_for p x (mean_actions.Own w lines (map (port_in y.slots) drops) cost))
asks_then p y x b after lines drops cost w block gone self Comes q = (refl, λ u r comes replies. record { self = self; block = block; starts = tt; drops = gone; cost = refl })

module _ (p : Program) (types : Types) (y : CodeProc) (x : Proc) (b : Body) (h : Here p types y x b) (running : x.phase ≡ Running) (runs : y.phase ≡ code.Running)
    (e : Point) (at : point_at h.stands.first.unit h.stands.frame.entry ≡ Some e)
    (after : Body) (lines : List (List ℕ)) (drops : List ℤ) (cost : ℕ) (does : code_actions.action_of b ≡ code_actions.Own after lines drops cost) where
  steps : StepsAlike p (code_of p) (port_in y.slots) x after lines drops cost (mean_actions.action_of p x)
  steps = subst (λ a. DoesAlike p (code_of p) (port_in y.slots) x b h.stands e a (mean_actions.action_of p x)) does (keeps_at p types (port_in y.slots) x h.fine b h.stands e at)

  steps_elsewhere : StepsAlike p (code_of p) (elsewhere y.slots) x after lines drops cost (mean_actions.action_of p x)
  steps_elsewhere = subst (λ a. DoesAlike p (code_of p) (elsewhere y.slots) x b (stands_elsewhere p types y x b h running) e a (mean_actions.action_of p x)) does (does_elsewhere p types y x b h running e at)

  own_by : ((v : PortValue) → count v (held x) ≤ 1) → (Comes : Place → Need → Reply Proc → Type 0) (q : Place)
      → AsksCorrespond (Corresponds p) Comes q (running_by y b (code_actions.Own after lines drops cost)) (ask p x)
  own_by few Comes q =
      let words = spent p y.slots x after lines drops cost steps steps_elsewhere few in
      let then = stands_then p y.slots x after lines drops cost steps running h.slots words in
      let gone = vacated_held y.slots drops (all_first (IsHeld y.slots) drops (body_words after) words.held) (once_first drops (body_words after) words.once) in
      subst (λ a. AsksCorrespond (Corresponds p) Comes q (running_by y b (code_actions.Own after lines drops cost)) (ask_for p x a)) (sym steps.does)
      (asks_then p y x b after lines drops cost steps.execution h.next_block gone (goes_then p types y x b h running runs after lines drops steps.execution then.0 then.1) Comes q)

-- A step of a process alone: the process of code and that of the meaning ask for nothing, and go on alike.
pub own_alike : (p : Program) (types : Types) (y : CodeProc) (x : Proc) (b : Body) (h : Here p types y x b) → x.phase ≡ Running → y.phase ≡ code.Running → y.body ≡ Some b
    → (e : Point) → point_at h.stands.first.unit h.stands.frame.entry ≡ Some e
    → (after : Body) (lines : List (List ℕ)) (drops : List ℤ) (cost : ℕ) → code_actions.action_of b ≡ code_actions.Own after lines drops cost
    → ((v : PortValue) → count v (held x) ≤ 1) → (Comes : Place → Need → Reply Proc → Type 0) (q : Place)
    → AsksCorrespond (Corresponds p) Comes q (running_by y b (code_actions.Own after lines drops cost)) (ask p x)
own_alike p types y x b h running runs body e at after lines drops cost does few Comes q = own_by p types y x b h running runs e at after lines drops cost does few Comes q
