-- A body that sends, or looks at a channel, needs what the process needs for which it stands, and goes on as that one does.
use Rattle.std.proofs.Common.{◌≡◌, ℕ, ◌+◌, ℤ, Some, List, [], ◌∷◌, length, map, refl, sym, ap, ◌∙◌, subst}
use Rattle.fm_base.specs.declared.port.PortValue.TheVariants.{Writer, Reader}
use Rattle.fm_base.specs.Channels.{Item, Words, Ports, Message, Push}
use Rattle.fm_values.specs.Values.{truth_word}
use Rattle.fm_net.specs.Machine as net
use Rattle.fm_net.specs.Machine.{Place, Need, Reply, Ask}
use Rattle.fm_net.specs.Correspondence.{AsksCorrespond, OnwardsCorrespond}
use Rattle.fm_rules.specs.declared.program.Program.{Program}
use Rattle.fm_mean.specs.Names.{Point, point_at}
use Rattle.fm_mean.specs.Places as mean_places
use Rattle.fm_mean.specs.Places.{written}
use Rattle.fm_mean.specs.Process.{Frame, Proc, Running}
use Rattle.fm_mean.specs.Fits.{Types}
use Rattle.fm_mean.specs.Actions as mean_actions
use Rattle.fm_mean.specs.Actions.{Event, Action, Meets, Send, Probe}
use Rattle.fm_mean.specs.Steps as mean_steps
use Rattle.fm_mean.specs.Steps.{ask_at, ask_event, ask_for}
use Rattle.fm_code.specs.declared.ask.Ask.TheVariants as ask
use Rattle.fm_code.specs.declared.ask.Operand.{Operand}
use Rattle.fm_code.specs.declared.body.Body.{Body}
use Rattle.fm_gen_relation.specs.Operands.{word_number, item_of}
use Rattle.fm_proc_language.specs.Slots.{in_slot, port_in}
use Rattle.fm_proc_language.specs.Frames.{Held, message_from}
use Rattle.fm_proc_language.specs.Processes as code
use Rattle.fm_proc_language.specs.Processes.{CodeProc, holding, runs_by, sends_by, probes_by}
use Rattle.fm_proc_simulation.specs.SlotWords.{GoesTo}
use Rattle.fm_proc_simulation.proofs.Messages.{message_alike}
use Rattle.fm_proc_simulation.proofs.Stores.{status_alike}
use Rattle.fm_gen.specs.Steps.{SendsAlike, ProbesAlike}
use Rattle.fm_gen.specs.Entries.{address_of}
use Rattle.fm_gen.specs.Kept.{site_at}
use Rattle.fm_proc_simulation.specs.Corresponds.{Corresponds}
use Rattle.fm_proc_simulation.specs.Here.{Here, other_words}
use Rattle.fm_proc_simulation.proofs.Context.{held_here, words_here, sound_here, goes_on_alike}

-- ---- what holds of every event

-- both are running
pub at_work : (p : Program) (y : CodeProc) (x : Proc) → y.phase ≡ code.Running → x.phase ≡ Running
    → Corresponds p (record y { phase = code.Running }) (record x { phase = Running }) → Corresponds p y x
at_work p y x runs running both =
    subst (λ f. Corresponds p (record y { phase = f }) x) (sym runs) (subst (λ f. Corresponds p (record y { phase = code.Running }) (record x { phase = f })) (sym running) both)

-- an action that meets an event asks in the innermost frame
pub meets : (p : Program) (Comes : Place → Need → Reply Proc → Type 0) (q : Place) (x : Proc) (f : Frame) (below : List Frame) (k : Ask CodeProc) (e : Event) (a : Action) → a ≡ Meets e → x.execution.frames ≡ f ∷ below
    → AsksCorrespond (Corresponds p) Comes q k (ask_at p x below f e) → AsksCorrespond (Corresponds p) Comes q k (ask_for p x a)
meets p Comes q x f below k e a does frames alike =
    subst (λ b. AsksCorrespond (Corresponds p) Comes q k (ask_for p x b)) (sym does)
    (subst (λ fs. AsksCorrespond (Corresponds p) Comes q k (ask_event p x e fs)) (sym frames) alike)

-- both count the words of a message alike
pub words_same : (m : Message) → code.message_words m ≡ mean_actions.message_words m
words_same [] = refl
words_same (Words ws ∷ is) = ap (λ n. length ws + n) (words_same is)
words_same (Ports ps ∷ is) = ap (λ n. length ps + n) (words_same is)

-- ---- sends and probes

module _ (p : Program) (types : Types) (y : CodeProc) (x : Proc) (b : Body) (h : Here p types y x b) (running : x.phase ≡ Running) (runs : y.phase ≡ code.Running) where
  -- with words and values that stand for one another
  onward_alike : (g : Held) (xs : List Item) → GoesTo h.stands.first.unit.names.variables (other_words b) (holding y b) g xs → (next entry : ℕ) → next ≡ address_of p h.stands.first.unit entry
      → Corresponds p (code.going_on y b next g) (mean_steps.going_on x h.stands.below h.stands.frame entry xs)
  onward_alike g xs goes next entry leads =
      at_work p (code.going_on y b next g) (mean_steps.going_on x h.stands.below h.stands.frame entry xs) runs running (goes_on_alike p types y x b h g xs goes next entry leads)

  module _ (body : y.body ≡ Some b) (e : Point) (at : point_at h.stands.first.unit h.stands.frame.entry ≡ Some e) where
    pub sends_alike : (slot : ℤ) (items : List Operand) (next : ℕ) (a : Action)
        → (s : SendsAlike (site_at p h.stands.first.unit (port_in y.slots) x.execution e h.stands.frame h.stands.below b.frame) slot items next a)
        → in_slot y.slots slot ≡ Some (Writer s.channel s.writer)
        → (Comes : Place → Need → Reply Proc → Type 0) (q : Place) → AsksCorrespond (Corresponds p) Comes q (runs_by y b (ask.Send slot items next)) (ask_for p x a)
    sends_alike slot items next a s there Comes q =
        let vs = h.stands.first.unit.names.variables in
        let f = h.stands.frame in
        let mine = message_from (holding y b) (map (item_of vs) s.actuals) in
        let theirs = mean_places.message_from f.values s.actuals in
        let both = message_alike h.stands.first.unit (sound_here p types y x b h) (other_words b) (holding y b) f.values (words_here p types y x b h) (held_here p types y x b h) s.actuals s.whole in
        let asked = ask_at p x h.stands.below f (Send s.channel s.writer s.actuals e.entry.after) in
        meets p Comes q x f h.stands.below (runs_by y b (ask.Send slot items next)) (Send s.channel s.writer s.actuals e.entry.after) a s.does h.stands.frames
        (subst (λ z. AsksCorrespond (Corresponds p) Comes q (sends_by y b z (message_from (holding y b) items) next) asked) (sym there)
        (subst (λ os. AsksCorrespond (Corresponds p) Comes q (sends_by y b (Some (Writer s.channel s.writer)) (message_from (holding y b) os) next) asked) (sym s.same) (
          ap (λ m. net.Event s.channel (Push s.writer m)) both.1,
          λ u r comes replies. record {
            self = onward_alike mine.0 theirs.0 both.0 next e.entry.after s.leads;
            block = h.next_block;
            starts = tt;
            drops = refl;
            cost = ap (λ m. 1 + code.message_words m) both.1 ∙ ap (λ n. 1 + n) (words_same theirs.1);
          },
        )))

    pub probes_alike : (slot : ℤ) (empty next : ℕ) (a : Action)
        → (s : ProbesAlike (site_at p h.stands.first.unit (port_in y.slots) x.execution e h.stands.frame h.stands.below b.frame) slot empty next a)
        → in_slot y.slots slot ≡ Some (Reader s.channel)
        → (Comes : Place → Need → Reply Proc → Type 0) (q : Place) → AsksCorrespond (Corresponds p) Comes q (runs_by y b (ask.Probe slot empty next)) (ask_for p x a)
    probes_alike slot empty next a s there Comes q =
        let vs = h.stands.first.unit.names.variables in
        let f = h.stands.frame in
        let asked = ask_at p x h.stands.below f (Probe s.channel s.place e.entry.after) in
        meets p Comes q x f h.stands.below (runs_by y b (ask.Probe slot empty next)) (Probe s.channel s.place e.entry.after) a s.does h.stands.frames
        (subst (λ z. AsksCorrespond (Corresponds p) Comes q (probes_by y b z empty next) asked) (sym there)
        (subst (λ k. AsksCorrespond (Corresponds p) Comes q (probes_by y b (Some (Reader s.channel)) k next) asked) (sym s.number) (
          refl,
          λ u r comes replies.
              subst (λ w. OnwardsCorrespond (Corresponds p) (code.probed y b next (word_number vs s.place) w) (mean_steps.probed x h.stands.below f e.entry.after s.place r.waits)) (sym replies.waits) (record {
                self = onward_alike (code.with_status (holding y b) (Some (word_number vs s.place)) (truth_word r.waits)) (written f.values s.place (truth_word r.waits ∷ []))
                    (status_alike h.stands.first.unit (sound_here p types y x b h) (other_words b) (holding y b) f.values (words_here p types y x b h) (held_here p types y x b h) s.place (truth_word r.waits) s.whole s.some)
                    next e.entry.after s.leads;
                block = h.next_block;
                starts = tt;
                drops = refl;
                cost = refl;
              }),
        )))
