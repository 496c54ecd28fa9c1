-- What a state of processes of stack code shows is what the state shows for which it stands.
use Rattle.std.proofs.Common.{◌≡◌, ℕ, zero, suc, cond, Option, Some, None, option_map, option_to_list, is_some, List, [], ◌∷◌, map, refl, sym, ap, ◌∙◌, subst}
use Rattle.std.specs.List.{flat_map}
use Rattle.std.specs.FinMap.{get, entries, from_entries}
use Rattle.fm_finmap.proofs.Keys.{path_order}
use Rattle.fm_net.specs.Machine.{Place, Need, Nothing, Event, New, Children, State, child}
use Rattle.fm_net.specs.Correspondence.{BothOrNeither, StandsFor}
use Rattle.fm_symbols.specs.declared.names.Variable.{Variable}
use Rattle.fm_rules.specs.declared.program.Program.{Program}
use Rattle.fm_mean.specs.declared.outcome.At.{At}
use Rattle.fm_mean.specs.declared.outcome.At.TheVariants as at
use Rattle.fm_mean.specs.declared.outcome.Wait.{Wait}
use Rattle.fm_mean.specs.Holders as mean_holders
use Rattle.fm_mean.specs.Holders.{starter, holding, holder_of}
use Rattle.fm_mean.specs.Names as names
use Rattle.fm_mean.specs.Names.{ProgramUnit, Point, unit_at, point_at}
use Rattle.fm_mean.specs.Outcome as outcome
use Rattle.fm_mean.specs.Outcome.{shown_of}
use Rattle.fm_mean.specs.Outports.{outport_cmp}
use Rattle.fm_mean.specs.Process as mean
use Rattle.fm_mean.specs.Process.{Running, Joining, Ended, Faulted, Proc, frames_ports}
use Rattle.fm_mean.specs.Calls.{variables_in}
use Rattle.fm_code.specs.declared.body.Body.{Body}
use Rattle.fm_code.specs.declared.body.Frame.{Frame}
use Rattle.fm_code.specs.Statements as code_actions
use Rattle.fm_code.specs.Statements.{line_of, entries_of, line_at}
use Rattle.fm_gen_relation.specs.Standing.{values_in}
use Rattle.fm_gen_relation.specs.Frames.{Statements, FrameStands, BelowStand, results_then}
use Rattle.fm_proc_language.specs.Slots.{Slots, port_in}
use Rattle.fm_proc_language.specs.Processes as code
use Rattle.fm_proc_language.specs.Processes.{CodeProc, running_by, asks_by}
use Rattle.fm_proc_language.specs.Needs.{need_in, need_of}
use Rattle.fm_gen.specs.Entries.{statement_address}
use Rattle.fm_gen.specs.Units.{unit_of_code}
use Rattle.fm_gen.specs.Bodies.{next_address, EndsBlock, IsAlive}
use Rattle.fm_gen.proofs.Beyond.{rests_alike}
use Rattle.fm_gen.proofs.LineLaws.{tells_lines}
use Rattle.fm_proc_simulation.specs.Corresponds.{PhaseStands, BodyAlike, Corresponds, IsLive, first_variables}
use Rattle.fm_proc_simulation.specs.Here.{Here}
use Rattle.fm_shown.specs.Outcome as told
use Rattle.fm_shown.specs.Outcome.{own_frame}
use Rattle.fm_proc_simulation.specs.Shown as shown
use Rattle.fm_proc_simulation.specs.Shown.{outcome_by}
use Rattle.fm_proc_simulation.proofs.Asking.{needs_alike}
use Rattle.fm_proc_simulation.proofs.Context.{code_here, line_here}
use Rattle.fm_proc_simulation.proofs.Ending.{ended_same}
use Rattle.fm_proc_simulation.proofs.Entries.{lists_alike}
use Rattle.fm_proc_simulation.proofs.Owned.{here_running, here_joining, holds_alike}

-- One process.

module _ (p : Program) (y : CodeProc) (x : Proc) (c : Corresponds p y x) where
  lines_same : (q : Place) → told.lines_at (q, y) ≡ outcome.lines_at (q, x)
  lines_same q = ap (map (λ line. record { path = q; bytes = line })) c.lines

  fault_same : (q : Place) (h : mean.Phase) (k : code.Phase) → PhaseStands p (first_variables p x.execution.frames) h k → told.fault_in q k ≡ outcome.fault_in q h
  fault_same q Running code.Running h = refl
  fault_same q Running (code.Joining block kids) h = absurd h
  fault_same q Running code.Ended h = absurd h
  fault_same q Running (code.Faulted line fault) h = absurd h
  fault_same q (Joining b ks) code.Running h = absurd h
  fault_same q (Joining b ks) (code.Joining block kids) h = refl
  fault_same q (Joining b ks) code.Ended h = absurd h
  fault_same q (Joining b ks) (code.Faulted line fault) h = absurd h
  fault_same q Ended code.Running h = absurd h
  fault_same q Ended (code.Joining block kids) h = absurd h
  fault_same q Ended code.Ended h = refl
  fault_same q Ended (code.Faulted line fault) h = absurd h
  fault_same q (Faulted l f) code.Running h = absurd h
  fault_same q (Faulted l f) (code.Joining block kids) h = absurd h
  fault_same q (Faulted l f) code.Ended h = absurd h
  fault_same q (Faulted l f) (code.Faulted line fault) h = λ i. record { path = q; line = record { 0 = h.0 i }; fault = h.1 i } ∷ []

  -- both hold the same ports
  held_by : (o : Option Body) → BodyAlike p y.slots x o → code.held_by o y.slots ≡ mean.held x
  held_by None none = ap frames_ports (sym none)
  held_by (Some b) stands = holds_alike p y.slots x b stands

  holdings_same : (q : Place) → told.holdings_at (q, y) ≡ mean_holders.holdings_at (q, x)
  holdings_same q = λ i. flat_map (holding (cond (ended_same p y x c i) (starter q) q)) (held_by y.body c.body i)

-- Variables.

module _ (p : Program) (slots : Slots) where
  frame_same : (begin : ProgramUnit → ℕ) (f : mean.Frame) (m : Frame) → FrameStands p (port_in slots) begin f m → shown.frame_shown p slots m ≡ shown_of (variables_in (unit_at p f.unit)) f.values
  frame_same begin f m h =
      let vs : List Variable = h.unit.names.variables in
      let mine : variables_in (unit_at p m.unit) ≡ vs = ap (λ n. variables_in (unit_at p n)) h.number ∙ ap variables_in h.there in
      ap (λ us. shown_of us (values_in (port_in slots) us m.words)) mine
      ∙ (λ i. shown_of (variables_in (sym h.there i)) (sym h.stands.values i))

  own_same : (at : Statements) (begin : ProgramUnit → ℕ) (f : mean.Frame) (m : Frame) (fs : List mean.Frame) (ms : List Frame) → FrameStands p (port_in slots) begin f m → BelowStand p at (port_in slots) f m fs ms
      → shown.frame_shown p slots (own_frame m ms) ≡ outcome.own_variables p (f ∷ fs)
  own_same at begin f m [] [] h below = frame_same begin f m h
  own_same at begin f m [] (n ∷ ms) h below = absurd below
  own_same at begin f m (g ∷ fs) [] h below = absurd below
  own_same at begin f m (g ∷ fs) (n ∷ ms) h below = own_same at (λ u. at u g.entry (results_then p f g)) g n fs ms below.0 below.3

  body_same : (x : Proc) (o : Option Body) → BodyAlike p slots x o → shown.body_shown p slots o ≡ outcome.own_variables p x.execution.frames
  body_same x None none = ap (outcome.own_variables p) (sym none)
  body_same x (Some b) stands =
      own_same (statement_address p) _ stands.frame b.frame stands.below b.below stands.first stands.others ∙ ap (outcome.own_variables p) (sym stands.frames)

variables_same : (p : Program) (v : Option CodeProc) (w : Option Proc) → BothOrNeither (Corresponds p) v w → shown.shown_all p v ≡ outcome.shown_all p w
variables_same p None None c = refl
variables_same p None (Some x) c = absurd c
variables_same p (Some y) None c = absurd c
variables_same p (Some y) (Some x) c = body_same p y.slots x y.body c.body

-- Ends.

end_same : (p : Program) (v : Option CodeProc) (w : Option Proc) → BothOrNeither (Corresponds p) v w → told.ended_at v ≡ outcome.ended_at w
end_same p None None c = refl
end_same p None (Some x) c = absurd c
end_same p (Some y) None c = absurd c
end_same p (Some y) (Some x) c = ended_same p y x c

-- The line of a process that needs something.

module _ (p : Program) (s : State Proc) (live : IsLive p s) (q : Place) (x : Proc) (is : get s.procs q ≡ Some x) (y : CodeProc) (c : Corresponds p y x) where
  module _ (b : Body) (h : Here p live.typed.0 y x b) (e : Point) (at : point_at h.stands.first.unit h.stands.frame.entry ≡ Some e) where
    meant_line : outcome.line_at p x ≡ names.line_of e
    meant_line =
        ap (outcome.line_by p) h.stands.frames
        ∙ ap (λ o. outcome.line_within o h.stands.frame.entry) h.stands.first.there
        ∙ ap outcome.line_in at

  abbrev LineThere : Option Body → code.Phase → Type 0
  LineThere o k = (n : Need) → need_in (asks_by y k o) ≡ Some n → told.line_in o ≡ outcome.line_at p x

  -- one that runs
  running_line : (b : Body) → y.body ≡ Some b → x.phase ≡ Running → (h : Here p live.typed.0 y x b) → (n : Need) → need_in (running_by y b (code_actions.action_of b)) ≡ Some n → line_of b ≡ outcome.line_at p x
  running_line b body phase h n needs = go (point_at h.stands.first.unit h.stands.frame.entry) refl
    where
      go : (o : Option Point) → point_at h.stands.first.unit h.stands.frame.entry ≡ o → line_of b ≡ outcome.line_at p x
      go None none = absurd (cc (sym needs ∙ ap (λ k. need_in (running_by y b k)) (rests_alike p (port_in y.slots) x b h.stands none).0))
      go (Some e) at = line_here p live.typed.0 y x b h phase e at ∙ sym (meant_line b h e at)

  -- one that joins
  joining_line : (b : Body) (block : ℕ) (kids : List mean.Kid) → x.phase ≡ Joining block kids → (h : Here p live.typed.0 y x b) → line_of b ≡ outcome.line_at p x
  joining_line b block kids phase h =
      let u : ProgramUnit = h.stands.first.unit in
      let end : EndsBlock u h.stands.frame = subst (λ k. IsAlive k u h.stands.frame) phase h.stands.alive in
      let found : code_actions.unit_at b b.frame.unit ≡ Some (unit_of_code p u) = code_here p live.typed.0 y x b h b.frame.unit u (ap (unit_at p) h.stands.first.number ∙ h.stands.first.there) in
      let there = h.stands.first.address ∙ ap (λ k. next_address p k h.stands.frame u) phase in
      (λ i. line_at (entries_of (found i)) (there i))
      ∙ (tells_lines p u).joins h.stands.frame.entry end.point end.at end.is
      ∙ sym (meant_line b h end.point end.at)

  line_by : (o : Option Body) → y.body ≡ o → (h : mean.Phase) → x.phase ≡ h → (k : code.Phase) → PhaseStands p (first_variables p x.execution.frames) h k → LineThere o k
  line_by None body h phase k stand n needs = absurd (cc needs)
  line_by (Some b) body Running phase code.Running stand n needs = running_line b body phase (here_running p s live q x is y c b body phase) n needs
  line_by (Some b) body Running phase (code.Joining l cs) stand n needs = absurd stand
  line_by (Some b) body Running phase code.Ended stand n needs = absurd stand
  line_by (Some b) body Running phase (code.Faulted line fault) stand n needs = absurd stand
  line_by (Some b) body (Joining block kids) phase code.Running stand n needs = absurd stand
  line_by (Some b) body (Joining block kids) phase (code.Joining l cs) stand n needs = joining_line b block kids phase (here_joining p s live q x is y c b body block kids phase)
  line_by (Some b) body (Joining block kids) phase code.Ended stand n needs = absurd stand
  line_by (Some b) body (Joining block kids) phase (code.Faulted line fault) stand n needs = absurd stand
  line_by (Some b) body Ended phase code.Running stand n needs = absurd stand
  line_by (Some b) body Ended phase (code.Joining l cs) stand n needs = absurd stand
  line_by (Some b) body Ended phase code.Ended stand n needs = absurd (cc needs)
  line_by (Some b) body Ended phase (code.Faulted line fault) stand n needs = absurd stand
  line_by (Some b) body (Faulted l f) phase code.Running stand n needs = absurd stand
  line_by (Some b) body (Faulted l f) phase (code.Joining m cs) stand n needs = absurd stand
  line_by (Some b) body (Faulted l f) phase code.Ended stand n needs = absurd stand
  line_by (Some b) body (Faulted l f) phase (code.Faulted line fault) stand n needs = absurd (cc needs)

  line_same : (n : Need) → need_of y ≡ Some n → told.line_in y.body ≡ outcome.line_at p x
  line_same = line_by y.body refl x.phase refl y.phase c.phase

-- States.

module _ (p : Program) (s : State Proc) (t : State CodeProc) (stands : StandsFor (Corresponds p) (IsLive p) t s) where
  there : (q : Place) → is_some (get t.procs q) ≡ is_some (get s.procs q)
  there q = go (get t.procs q) (get s.procs q) (stands.procs q)
    where
      go : (v : Option CodeProc) (w : Option Proc) → BothOrNeither (Corresponds p) v w → is_some v ≡ is_some w
      go None None c = refl
      go None (Some x) c = absurd c
      go (Some y) None c = absurd c
      go (Some y) (Some x) c = refl

  related : (q : Place) (y : CodeProc) (x : Proc) → get t.procs q ≡ Some y → get s.procs q ≡ Some x → Corresponds p y x
  related q y x is are = subst (λ v. BothOrNeither (Corresponds p) v (Some x)) is (subst (BothOrNeither (Corresponds p) (get t.procs q)) are (stands.procs q))

  awaited_same : (q : Place) (b i n : ℕ) → told.awaited t.procs q b i n ≡ outcome.awaited s.procs q b i n
  awaited_same q b i zero = refl
  awaited_same q b i (suc n) = λ j. cond (end_same p (get t.procs (child q b i)) (get s.procs (child q b i)) (stands.procs (child q b i)) j) (awaited_same q b (suc i) n j) (Some (child q b i))

  waits_same : (q : Place) (o : Option Need) → told.waits_by t.procs q o ≡ outcome.waits_by s.procs q o
  waits_same q None = refl
  waits_same q (Some Nothing) = refl
  waits_same q (Some (Event c a)) = refl
  waits_same q (Some (New n writers)) = refl
  waits_same q (Some (Children b n)) = ap (option_map at.Join) (awaited_same q b 1 n)

  abbrev waits_from : Place → ℕ → Option At → List Wait
  waits_from q l o = map (λ at. record { path = q; line = record { 0 = l }; at = at }) (option_to_list o)

  -- where a process waits, its line is that of the other
  wait_line : (q : Place) (o : Option Need) (l m : ℕ) → ((n : Need) → o ≡ Some n → l ≡ m) → waits_from q l (told.waits_by t.procs q o) ≡ waits_from q m (told.waits_by t.procs q o)
  wait_line q None l m same = refl
  wait_line q (Some n) l m same = ap (λ k. waits_from q k (told.waits_by t.procs q (Some n))) (same n refl)

  wait_same : (q : Place) (y : CodeProc) (x : Proc) → get t.procs q ≡ Some y → get s.procs q ≡ Some x → told.wait_at t.procs (q, y) ≡ outcome.wait_at p s.procs (q, x)
  wait_same q y x is are =
      let c = related q y x is are in
      wait_line q (need_of y) (told.line_in y.body) (outcome.line_at p x) (line_same p s stands.live q x are y c)
      ∙ ap (waits_from q (outcome.line_at p x)) (ap (told.waits_by t.procs q) (needs_alike p s stands.live q x y are c) ∙ waits_same q (outcome.need_of p x))

  all_lines : flat_map told.lines_at (entries t.procs) ≡ flat_map outcome.lines_at (entries s.procs)
  all_lines = lists_alike path_order t.procs s.procs there told.lines_at outcome.lines_at (λ q y x is are. lines_same p y x (related q y x is are) q)

  all_faults : flat_map told.fault_at (entries t.procs) ≡ flat_map outcome.fault_at (entries s.procs)
  all_faults =
      lists_alike path_order t.procs s.procs there told.fault_at outcome.fault_at
      (λ q y x is are. let c = related q y x is are in fault_same p y x c q x.phase y.phase c.phase)

  all_waits : flat_map (told.wait_at t.procs) (entries t.procs) ≡ flat_map (outcome.wait_at p s.procs) (entries s.procs)
  all_waits = lists_alike path_order t.procs s.procs there (told.wait_at t.procs) (outcome.wait_at p s.procs) wait_same

  all_holdings : told.holdings t.procs ≡ mean_holders.holdings s.procs
  all_holdings = lists_alike path_order t.procs s.procs there told.holdings_at mean_holders.holdings_at (λ q y x is are. holdings_same p y x (related q y x is are) q)

  pub shows_alike : (used : ℕ) → outcome_by p used t ≡ outcome.outcome_of p used s
  shows_alike used = λ i. record {
    lines = all_lines i;
    variables = variables_same p (get t.procs []) (get s.procs []) (stands.procs []) i;
    faults = all_faults i;
    waits = all_waits i;
    holders = map holder_of (entries (from_entries {R = outport_cmp} (all_holdings i)));
    main_ended = end_same p (get t.procs []) (get s.procs []) (stands.procs []) i;
    used = used;
  }
