-- A body that receives needs what the process needs for which it stands, and goes on as that one does: with a message, at the end
-- of the channel, and where the first message is too long.
use Rattle.std.proofs.Common.{◌≡◌, ℕ, ◌+◌, ℤ, pos, negsuc, Bool, true, false, cond, Option, Some, None, List, [], ◌∷◌, length, map, option_map, refl, sym, ap, ◌∙◌, subst}
use Rattle.std.specs.Prelude.{unwrap_or, Ok}
use Rattle.fm_base.specs.declared.fault.Fault.{Fault}
use Rattle.fm_base.specs.declared.fault.Fault.TheVariants.{EndOfChannel, Subscript}
use Rattle.fm_base.specs.declared.path.ChanName.{ChanName}
use Rattle.fm_base.specs.declared.port.PortValue.TheVariants.{Reader}
use Rattle.fm_base.specs.Channels.{Item, Message, Limits, Pop, fits_limits}
use Rattle.fm_net.specs.Machine as net
use Rattle.fm_net.specs.Machine.{Place, Need, Reply}
use Rattle.fm_net.specs.Correspondence.{AsksCorrespond, OnwardsCorrespond}
use Rattle.fm_tree.specs.PortFields.{PortFields, In}
use Rattle.fm_tree.specs.declared.statement.Var.{Var}
use Rattle.fm_symbols.specs.declared.names.Variable.{Variable}
use Rattle.fm_rules.specs.declared.program.Program.{Program}
use Rattle.fm_mean.specs.Names as names
use Rattle.fm_mean.specs.Names.{ProgramUnit, Point, point_at}
use Rattle.fm_mean.specs.Places.{written, port_at, stored_all}
use Rattle.fm_mean.specs.Process.{Proc, Running}
use Rattle.fm_mean.specs.Calls.{variables_in}
use Rattle.fm_mean.specs.Evaluate.{Scope, places_of}
use Rattle.fm_mean.specs.Fits.{Types, ValuesFit, Fits, MessageFits, FramesFit, sort_at}
use Rattle.fm_mean.specs.Actions.{Action, Receive}
use Rattle.fm_mean.specs.Steps as mean_steps
use Rattle.fm_mean.specs.Steps.{limits_of, ask_at, ask_for}
use Rattle.fm_mean.proofs.Fitting.{MayStandAt, exchange_fits, null_stands}
use Rattle.fm_mean.proofs.TypedLanguage.{top_fits}
use Rattle.fm_code.specs.declared.ask.Ask.TheVariants as ask
use Rattle.fm_code.specs.declared.ask.Operand.{Operand}
use Rattle.fm_code.specs.declared.ask.Operand.TheVariants as operand
use Rattle.fm_code.specs.declared.body.Body.{Body}
use Rattle.fm_code.specs.Statements as code_statements
use Rattle.fm_gen_relation.specs.Sound.{IsSoundUnit}
use Rattle.fm_gen_relation.specs.Targets.{TargetsFit}
use Rattle.fm_gen_relation.specs.Standing.{scope_in}
use Rattle.fm_gen_relation.specs.Operands.{MeanSpan, holds_words, word_number, code_span, target_of}
use Rattle.fm_proc_language.specs.Slots.{in_slot, port_in}
use Rattle.fm_proc_language.specs.Frames.{Held, all_stored}
use Rattle.fm_proc_language.specs.Processes as code
use Rattle.fm_proc_language.specs.Processes.{CodeProc, holding, runs_by, receives_by}
use Rattle.fm_proc_simulation.specs.SlotWords.{GoesTo}
use Rattle.fm_proc_simulation.specs.Matching.{ItemsMatch}
use Rattle.fm_proc_simulation.proofs.Exchange.{goes_on, goes_nowhere}
use Rattle.fm_proc_simulation.proofs.Stores.{all_store_alike, status_alike, message_matches}
use Rattle.fm_gen.specs.Steps.{Site, IsStatus, AreWhole, ReceivesAlike}
use Rattle.fm_gen.proofs.PortPlaces.{emptied_port}
use Rattle.fm_gen.specs.Entries.{address_of}
use Rattle.fm_gen.specs.Kept.{site_at}
use Rattle.fm_proc_simulation.specs.Corresponds.{Corresponds}
use Rattle.fm_proc_simulation.specs.Here.{Here, other_words}
use Rattle.fm_proc_simulation.proofs.Sending.{at_work, meets, words_same}
use Rattle.fm_proc_simulation.proofs.Context.{held_here, words_here, sound_here, goes_on_alike, faults_alike, line_here}

-- ---- a message that comes fits the places

-- a port at a place for inports is that of a channel of the place's type
channel_typed : (types : Types) (vars : List Variable) (xs : List Item) (q : MeanSpan) (t : PortFields) (c : ChanName) → ValuesFit types vars xs → sort_at vars q.variable ≡ Some (In t) → port_at xs q ≡ Some (Reader c) → types c ≡ t
channel_typed types vars xs q t c fits sort stands =
    subst (MayStandAt types vars q.variable) (emptied_port xs q ∙ stands) (exchange_fits types vars xs q.variable q.first None fits (null_stands types vars q.variable)).1 (In t) sort

-- a message of a channel of this type, within the limits of a RECEIVE, fits where its variables do
matched : (s : Scope) (sound : IsSoundUnit s.unit) (types : Types) (c : ChanName) (t : PortFields) (vs : List Var) (n : ℕ) (qs : List MeanSpan) (m : Message) → types c ≡ t → TargetsFit s.unit t vs → places_of s vs n ≡ Ok qs
    → Fits types c m × (fits_limits (limits_of qs) m ≡ true) → ItemsMatch s.unit.names.variables qs m
matched s sound types c t vs n qs m typed targets are fits = message_matches s sound types t vs n qs m targets are (subst (λ k. MessageFits types k m) typed fits.0) fits.1

-- a place and what stands for it have room for as many elements
limit_same : (vs : List Variable) (q : MeanSpan) → code.limit_of (target_of vs q) ≡ Some q.count
limit_same vs q = go (holds_words vs q.variable)
  where
    go : (word : Bool) → code.limit_of (cond word (operand.Words (code_span vs q)) (operand.Ports (code_span vs q))) ≡ Some q.count
    go true = refl
    go false = refl

limits_same : (vs : List Variable) (qs : List MeanSpan) → code.limits_of (map (target_of vs) qs) ≡ limits_of qs
limits_same vs [] = refl
limits_same vs (q ∷ qs) = ap (λ l. l ∷ code.limits_of (map (target_of vs) qs)) (limit_same vs q) ∙ ap (λ l. Some q.count ∷ l) (limits_same vs qs)

-- ---- what comes behind

-- where END leads, or else the next statement
leads_to : (address : ℕ → ℕ) (jump : Option ℕ) (after : ℕ) → unwrap_or (option_map address jump) (address after) ≡ address (mean_steps.jump_to after jump)
leads_to address None after = refl
leads_to address (Some n) after = refl

-- IOSTAT comes last
status_last : (s : Site) (sound : IsSoundUnit s.unit) (others : List ℤ) (h g : Held) (ys : List Item) → length h.words ≡ s.unit.names.words → GoesTo s.unit.names.variables others h g ys
    → (iostat : Option MeanSpan) (n : ℤ) → IsStatus s iostat
    → GoesTo s.unit.names.variables others h (code.with_status g (option_map (word_number s.unit.names.variables) iostat) n) (mean_steps.with_status ys iostat n)
status_last s sound others h g ys sized goes None n status = goes
status_last s sound others h g ys sized goes (Some q) n status =
    goes_on s.unit.names.variables others h g (code.with_status g (Some (word_number s.unit.names.variables q)) n) ys (written ys q (n ∷ [])) goes
    (status_alike s.unit sound others g ys (goes.count ∙ sized) goes.stands q n status.0 status.1)

-- ---- receives

module _ (p : Program) (types : Types) (y : CodeProc) (x : Proc) (b : Body) (h : Here p types y x b) (running : x.phase ≡ Running) (runs : y.phase ≡ code.Running) where
  abbrev unit : ProgramUnit
  unit = h.stands.first.unit

  abbrev vars : List Variable
  vars = h.stands.first.unit.names.variables

  abbrev word : MeanSpan → ℕ
  word = word_number h.stands.first.unit.names.variables

  abbrev address : ℕ → ℕ
  address = address_of p h.stands.first.unit

  -- with words and values that stand for one another
  onward_alike : (g : Held) (xs : List Item) → GoesTo vars (other_words b) (holding y b) g xs → (next entry : ℕ) → next ≡ address entry
      → Corresponds p (code.going_on y b next g) (mean_steps.going_on x h.stands.below h.stands.frame entry xs)
  onward_alike g xs goes next entry leads =
      at_work p (code.going_on y b next g) (mean_steps.going_on x h.stands.below h.stands.frame entry xs) runs running (goes_on_alike p types y x b h g xs goes next entry leads)

  -- as nothing has changed
  stays : GoesTo vars (other_words b) (holding y b) (holding y b) h.stands.frame.values
  stays = goes_nowhere vars (other_words b) (holding y b) h.stands.frame.values (held_here p types y x b h)

  values_fit : ValuesFit types vars h.stands.frame.values
  values_fit =
      subst (λ o. ValuesFit types (variables_in o) h.stands.frame.values) h.stands.first.there
      (top_fits p types h.stands.frame h.stands.below (subst (FramesFit p types) h.stands.frames h.fine.0)).0

  module _ (body : y.body ≡ Some b) (e : Point) (at : point_at h.stands.first.unit h.stands.frame.entry ≡ Some e) where
    abbrev site : Site
    site = site_at p h.stands.first.unit (port_in y.slots) x.execution e h.stands.frame h.stands.below b.frame

    abbrev after : ℕ
    after = e.entry.after

    abbrev jump : Option ℕ
    jump = e.links.jump

    -- the items are stored, and then IOSTAT = 0
    came_alike : (qs : List MeanSpan) (iostat : Option MeanSpan) (m : Message) → AreWhole site qs → ItemsMatch vars qs m → IsStatus site iostat
        → OnwardsCorrespond (Corresponds p) (code.came y b (address after) (map (target_of vars) qs) (option_map word iostat) m) (mean_steps.came x h.stands.below h.stands.frame after qs iostat m)
    came_alike qs iostat m whole match status =
        let f = h.stands.frame in
        let sound = sound_here p types y x b h in
        let sized = words_here p types y x b h in
        let both = all_store_alike unit sound (other_words b) (holding y b) f.values sized (held_here p types y x b h) qs m whole match in
        let mine = all_stored (holding y b) (map (target_of vars) qs) m in
        let theirs = stored_all f.values qs m in
        record {
          self = onward_alike (code.with_status mine.0 (option_map word iostat) (pos 0)) (mean_steps.with_status theirs.0 iostat (pos 0))
              (status_last site sound (other_words b) (holding y b) mine.0 theirs.0 sized both.0 iostat (pos 0) status) (address after) after refl;
          block = h.next_block;
          starts = tt;
          drops = both.1;
          cost = ap (λ n. 1 + n) (words_same m);
        }

    fault_alike : (fault : Fault) → OnwardsCorrespond (Corresponds p) (code.faulted y (code_statements.line_of b) fault) (mean_steps.faulted x (names.line_of e) fault)
    fault_alike fault = record {
      self = faults_alike p types y x b h body (code_statements.line_of b) (names.line_of e) fault (line_here p types y x b h running e at);
      block = h.next_block;
      starts = tt;
      drops = refl;
      cost = refl;
    }

    -- IOSTAT = -1 and the jump to END, where they are given, or else a fault
    end_alike : (iostat : Option MeanSpan) (to : Option ℕ) → IsStatus site iostat
        → OnwardsCorrespond (Corresponds p) (code.at_the_end y b (address after) (option_map word iostat) (option_map address to)) (mean_steps.at_the_end x (names.line_of e) h.stands.below h.stands.frame after iostat to)
    end_alike None None status = fault_alike EndOfChannel
    end_alike None (Some n) status = record { self = onward_alike (holding y b) h.stands.frame.values stays (address n) n refl; block = h.next_block; starts = tt; drops = refl; cost = refl }
    end_alike (Some q) to status = record {
      self = onward_alike (code.with_status (holding y b) (Some (word q)) (negsuc 0)) (mean_steps.with_status h.stands.frame.values (Some q) (negsuc 0))
          (status_last site (sound_here p types y x b h) (other_words b) (holding y b) (holding y b) h.stands.frame.values (words_here p types y x b h) stays (Some q) (negsuc 0) status)
          (unwrap_or (option_map address to) (address after)) (mean_steps.jump_to after to) (leads_to address to after);
      block = h.next_block;
      starts = tt;
      drops = refl;
      cost = refl;
    }

    -- a message, or the end of the channel
    received_alike : (qs : List MeanSpan) (iostat : Option MeanSpan) (o : Option Message) → AreWhole site qs → IsStatus site iostat → ((m : Message) → o ≡ Some m → ItemsMatch vars qs m)
        → OnwardsCorrespond (Corresponds p) (code.received y b (address after) (map (target_of vars) qs) (option_map word iostat) (option_map address jump) o)
        (mean_steps.received x (names.line_of e) h.stands.below h.stands.frame after qs iostat jump o)
    received_alike qs iostat None whole status match = end_alike iostat jump status
    received_alike qs iostat (Some m) whole status match = came_alike qs iostat m whole (match m refl) status

    -- a first message that is too long is a fault
    met_alike : (qs : List MeanSpan) (iostat : Option MeanSpan) (exceeds : Bool) (o : Option Message) → AreWhole site qs → IsStatus site iostat → ((m : Message) → o ≡ Some m → ItemsMatch vars qs m)
        → OnwardsCorrespond (Corresponds p) (code.met y b (address after) (map (target_of vars) qs) (option_map word iostat) (option_map address jump) exceeds o)
        (mean_steps.met x (names.line_of e) h.stands.below h.stands.frame after qs iostat jump exceeds o)
    met_alike qs iostat true None whole status match = fault_alike Subscript
    met_alike qs iostat true (Some m) whole status match = received_alike qs iostat (Some m) whole status match
    met_alike qs iostat false o whole status match = received_alike qs iostat o whole status match

    pub receives_alike : (slot : ℤ) (items : List Operand) (status at_end : Option ℕ) (next : ℕ) (a : Action)
        → (s : ReceivesAlike (site_at p h.stands.first.unit (port_in y.slots) x.execution e h.stands.frame h.stands.below b.frame) slot items status at_end next a)
        → in_slot y.slots slot ≡ Some (Reader s.channel)
        → (Comes : Place → Need → Reply Proc → Type 0) (q : Place) → ((c : ChanName) (limits : Limits) (r : Reply Proc) (m : Message) → Comes q (net.Event c (Pop limits)) r → r.message ≡ Some m → Fits types c m × (fits_limits limits m ≡ true))
        → AsksCorrespond (Corresponds p) Comes q (runs_by y b (ask.Receive slot items status at_end next)) (ask_for p x a)
    receives_alike slot items status at_end next a s there Comes q fitting =
        let f = h.stands.frame in
        let c = s.channel in
        let event = Receive c (names.line_of e) s.places s.iostat jump after in
        let asked = ask_at p x h.stands.below f event in
        let typed = channel_typed types vars f.values s.inport s.fields c values_fit s.sort s.stands in
        let scope = scope_in p unit (port_in y.slots) b.frame in
        meets p Comes q x f h.stands.below (runs_by y b (ask.Receive slot items status at_end next)) event a s.does h.stands.frames
        (subst (λ z. AsksCorrespond (Corresponds p) Comes q (receives_by y b z items status at_end next) asked) (sym there)
        (subst (λ os. AsksCorrespond (Corresponds p) Comes q (receives_by y b (Some (Reader c)) os status at_end next) asked) (sym s.same)
        (subst (λ k. AsksCorrespond (Corresponds p) Comes q (receives_by y b (Some (Reader c)) (map (target_of vars) s.places) k at_end next) asked) (sym s.status_is)
        (subst (λ k. AsksCorrespond (Corresponds p) Comes q (receives_by y b (Some (Reader c)) (map (target_of vars) s.places) (option_map word s.iostat) k next) asked) (sym s.at_end_is)
        (subst (λ n. AsksCorrespond (Corresponds p) Comes q (receives_by y b (Some (Reader c)) (map (target_of vars) s.places) (option_map word s.iostat) (option_map address jump) n) asked) (sym s.leads) (
          ap (λ l. net.Event c (Pop l)) (limits_same vars s.places),
          λ u r comes replies.
              let theirs = mean_steps.met x (names.line_of e) h.stands.below f after s.places s.iostat jump r.exceeds r.message in
              subst (λ w. OnwardsCorrespond (Corresponds p) (code.met y b (address after) (map (target_of vars) s.places) (option_map word s.iostat) (option_map address jump) w u.message) theirs) (sym replies.exceeds)
              (subst (λ o. OnwardsCorrespond (Corresponds p) (code.met y b (address after) (map (target_of vars) s.places) (option_map word s.iostat) (option_map address jump) r.exceeds o) theirs) (sym replies.message)
              (met_alike s.places s.iostat r.exceeds r.message s.whole s.status_whole (λ m is.
              matched scope (sound_here p types y x b h) types c s.fields s.targets s.done s.places m typed s.fit s.evaluated (fitting c (limits_of s.places) r m comes is)))),
        ))))))
