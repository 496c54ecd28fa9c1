-- What stands behind the end of a statement doesn't count.
use Rattle.std.proofs.Common.{◌≡◌, ℕ, ℤ, pos, Bool, true, false, cond, Option, Some, None, List, [], ◌∷◌, ◌++◌, length, refl, sym, ap, ◌∙◌, append_assoc, Result, Ok, Err}
use Rattle.std.specs.Prelude.{slice_get, slice_set, nat_lt, ◌&&◌}
use Rattle.std.specs.Ordering.{int_eq}
use Rattle.fm_base.specs.declared.fault.Fault.{Fault}
use Rattle.fm_base.specs.declared.fault.Fault.TheVariants.{NullPort}
use Rattle.fm_values.specs.Values.{sum}
use Rattle.fm_values.specs.Trips.{trips_behind}
use Rattle.fm_code.specs.declared.body.Frame.{Frame}
use Rattle.fm_code.specs.declared.body.Trips.{Trips}
use Rattle.fm_code.specs.declared.instr.End.TheVariants as end
use Rattle.fm_code.specs.declared.instr.Meet.{Meet}
use Rattle.fm_code.specs.declared.instr.Meet.TheVariants as meet
use Rattle.fm_code.specs.declared.instr.Loop.{Loop}
use Rattle.fm_code.specs.declared.instr.Instr.{Instr}
use Rattle.fm_code.specs.declared.instr.Instr.TheVariants as instr
use Rattle.fm_code.specs.declared.ask.Ask.TheVariants as ask
use Rattle.fm_code.specs.declared.scratch.Scratch.{Scratch}
use Rattle.fm_code.specs.Acts as acts
use Rattle.fm_code.specs.Acts.{StatementEnd, Act, On, Over, found, gives, number_in, numbered, at_word, stored, counted, led, fewer, enters, ends_trip, by_port, at_port, asks, closes, receives, meets, act, then_work, work}

-- an act with which its statement ends
abbrev Ends : Act → Type 0
Ends a = (k j : List ℤ → Scratch → StatementEnd) → then_work a k ≡ then_work a j

ends_over : (c : Bool) (t o : StatementEnd) → Ends (cond c (Over t) (Over o))
ends_over true t o k j = refl
ends_over false t o k j = refl

ends_found : {X : Type 0} (o : Option X) (f : X → Act) → ((x : X) → Ends (f x)) → Ends (found o f)
ends_found None f h k j = refl
ends_found (Some x) f h k j = h x k j

ends_gives : {X : Type 0} (r : Result X Fault) (f : X → Act) → ((x : X) → Ends (f x)) → Ends (gives r f)
ends_gives (Ok x) f h k j = h x k j
ends_gives (Err fault) f h k j = refl

ends_stored : (to n : ℕ) (x : ℤ) (m : Frame) → Ends (stored to n x m)
ends_stored to n x m = ends_over (nat_lt n (length m.words)) (acts.Goes to (record m { words = slice_set m.words n x })) acts.Stuck

ends_counted : (l : Loop) (body behind : ℕ) (t : Trips) (x : ℤ) (m : Frame) → Ends (counted l body behind t x m)
ends_counted l body behind t x m =
    ends_over (nat_lt l.number (length m.loops) && nat_lt l.word (length m.words))
    (acts.Goes (led body behind t.behind) (record m { words = slice_set m.words l.word x; loops = slice_set m.loops l.number (Some t) })) acts.Stuck

ends_of_trip : (l : Loop) (body behind : ℕ) (o : Option Trips) (m : Frame) → Ends (ends_trip l body behind o m)
ends_of_trip l body behind None m k j = refl
ends_of_trip l body behind (Some t) m k j =
    ends_found (slice_get m.words l.word) (λ x. gives (sum x t.by) (λ v. counted l body behind (record { behind = fewer t.behind; by = t.by }) v m))
    (λ x. ends_gives (sum x t.by) (λ v. counted l body behind (record { behind = fewer t.behind; by = t.by }) v m) (λ v. ends_counted l body behind (record { behind = fewer t.behind; by = t.by }) v m)) k j

ends_port : (c : Bool) (a : Act) → Ends a → Ends (cond c (Over (acts.Fails NullPort)) a)
ends_port true a h k j = refl
ends_port false a h k j = h k j

ends_by_port : (m : Frame) (n : ℕ) (f : ℤ → Act) → ((v : ℤ) → Ends (f v)) → Ends (by_port m n f)
ends_by_port m n f h =
    ends_found (slice_get m.words n) (λ v. cond (int_eq v (pos 0)) (Over (acts.Fails NullPort)) (f v)) (λ v. ends_port (int_eq v (pos 0)) (f v) (h v))

ends_at_word : (m : Frame) (x : ℤ) (f : ℕ → Act) → ((n : ℕ) → Ends (f n)) → Ends (at_word m x f)
ends_at_word m x f h = ends_found (numbered m (number_in x)) f h

ends_at_port : (m : Frame) (x : ℤ) (f : ℤ → Act) → ((v : ℤ) → Ends (f v)) → Ends (at_port m x f)
ends_at_port m x f h = ends_at_word m x (λ n. by_port m n f) (λ n. ends_by_port m n f h)

ends_over_word : (m : Frame) (x : ℤ) (f : ℕ → StatementEnd) → Ends (at_word m x (λ n. Over (f n)))
ends_over_word m x f = ends_at_word m x (λ n. Over (f n)) (λ n k j. refl)

ends_over_port : (m : Frame) (x : ℤ) (f : ℤ → StatementEnd) → Ends (at_port m x (λ v. Over (f v)))
ends_over_port m x f = ends_at_port m x (λ v. Over (f v)) (λ v k j. refl)

ends_over_words : (m : Frame) (x y : ℤ) (f : ℕ → ℕ → StatementEnd) → Ends (at_word m x (λ n. at_word m y (λ i. Over (f n i))))
ends_over_words m x y f = ends_at_word m x (λ n. at_word m y (λ i. Over (f n i))) (λ n. ends_over_word m y (f n))

-- the instructions with which statements end
pub data IsEnd : Instr → Type 0 where
  Goes : (to : ℕ) → IsEnd (instr.End (end.Goto to))
  Tests : (holding failing : ℕ) → IsEnd (instr.End (end.Test holding failing))
  Stores : (n to : ℕ) → IsEnd (instr.End (end.Store n to))
  StoresAt : (to : ℕ) → IsEnd (instr.End (end.StoreAt to))
  Enters : (body behind : ℕ) → IsEnd (instr.End (end.Enter body behind))
  EndsTrip : (body behind : ℕ) → IsEnd (instr.End (end.Again body behind))
  Prints : (to : ℕ) → IsEnd (instr.End (end.Print to))
  Calls : (n to : ℕ) → IsEnd (instr.End (end.Call n to))
  Refers : (n to : ℕ) → IsEnd (instr.End (end.Refer n to))
  Returns : IsEnd (instr.End end.Return)
  ReturnsValue : (n : ℕ) → IsEnd (instr.End (end.ReturnValue n))
  Starts : (n to : ℕ) → IsEnd (instr.End (end.Start n to))
  Meets : (i : Meet) → IsEnd (instr.Meet i)

meet_ends : (i : Meet) (s : List ℤ) (b : Scratch) (m : Frame) → Ends (meets i s b m)
meet_ends meet.Stop s b m k j = refl
meet_ends (meet.Send next) [] b m k j = refl
meet_ends (meet.Send next) (x ∷ s) b m k j = ends_over_port m x (λ v. acts.Asks (ask.Send v b.operands next)) k j
meet_ends (meet.Receive next) [] b m k j = refl
meet_ends (meet.Receive next) (x ∷ s) b m k j = ends_over_port m x (λ v. acts.Asks (ask.Receive v b.operands b.status None next)) k j
meet_ends (meet.ReceiveOr to next) [] b m k j = refl
meet_ends (meet.ReceiveOr to next) (x ∷ s) b m k j = ends_over_port m x (λ v. acts.Asks (ask.Receive v b.operands b.status (Some to) next)) k j
meet_ends (meet.Channel next) [] b m k j = refl
meet_ends (meet.Channel next) (y ∷ []) b m k j = refl
meet_ends (meet.Channel next) (y ∷ x ∷ s) b m k j = ends_over_words m x y (λ i o. acts.Asks (ask.Channel i o next)) k j
meet_ends (meet.ChannelFrom next) [] b m k j = refl
meet_ends (meet.ChannelFrom next) (y ∷ []) b m k j = refl
meet_ends (meet.ChannelFrom next) (y ∷ x ∷ s) b m k j = ends_over_words m x y (λ o i. acts.Asks (ask.Channel i o next)) k j
meet_ends (meet.Merger next) [] b m k j = refl
meet_ends (meet.Merger next) (x ∷ s) b m k j = ends_over_word m x (λ i. acts.Asks (ask.Merger i b.operands next)) k j
meet_ends (meet.EndChannel next) [] b m k j = refl
meet_ends (meet.EndChannel next) (x ∷ s) b m k j =
    ends_at_word m x (λ n. closes m next n) (λ n. ends_by_port m n (λ v. Over (acts.Closes n next)) (λ v k j. refl)) k j
meet_ends (meet.MovePort next) [] b m k j = refl
meet_ends (meet.MovePort next) (y ∷ []) b m k j = refl
meet_ends (meet.MovePort next) (y ∷ x ∷ s) b m k j = ends_over_words m x y (λ from into. acts.Moves from into next) k j
meet_ends (meet.Probe next) [] b m k j = refl
meet_ends (meet.Probe next) (y ∷ []) b m k j = refl
meet_ends (meet.Probe next) (y ∷ x ∷ s) b m k j =
    ends_at_word m y (λ n. at_port m x (λ v. asks (ask.Probe v n next))) (λ n. ends_over_port m x (λ v. acts.Asks (ask.Probe v n next))) k j
meet_ends (meet.Begin next) s b m k j = refl
meet_ends (meet.Join next) s b m k j = refl

act_ends : (i : Instr) → IsEnd i → (s : List ℤ) (b : Scratch) (m : Frame) → Ends (act i s b m)
act_ends i (Goes to) s b m k j = refl
act_ends i (Tests holding failing) [] b m k j = refl
act_ends i (Tests holding failing) (x ∷ s) b m k j = refl
act_ends i (Stores n to) [] b m k j = refl
act_ends i (Stores n to) (x ∷ s) b m k j = ends_stored to n x m k j
act_ends i (StoresAt to) [] b m k j = refl
act_ends i (StoresAt to) (v ∷ []) b m k j = refl
act_ends i (StoresAt to) (v ∷ x ∷ s) b m k j = ends_found (numbered m (number_in x)) (λ n. stored to n v m) (λ n. ends_stored to n v m) k j
act_ends i (Enters body behind) [] b m k j = refl
act_ends i (Enters body behind) (z ∷ []) b m k j = refl
act_ends i (Enters body behind) (z ∷ y ∷ []) b m k j = refl
act_ends i (Enters body behind) (z ∷ y ∷ x ∷ s) b m k j =
    ends_found b.counts (λ l. enters l body behind x y z m)
    (λ l. ends_gives (trips_behind x y z) (λ n. counted l body behind (record { behind = n; by = z }) x m) (λ n. ends_counted l body behind (record { behind = n; by = z }) x m)) k j
act_ends i (EndsTrip body behind) s b m k j =
    ends_found b.counts (λ l. found (slice_get m.loops l.number) (λ t. ends_trip l body behind t m))
    (λ l. ends_found (slice_get m.loops l.number) (λ t. ends_trip l body behind t m) (λ o. ends_of_trip l body behind o m)) k j
act_ends i (Prints to) s b m k j = refl
act_ends i (Calls n to) s b m k j = refl
act_ends i (Refers n to) s b m k j = refl
act_ends i Returns s b m k j = refl
act_ends i (ReturnsValue n) s b m k j = ends_found (slice_get m.words n) (λ v. Over (acts.ReturnsValue v)) (λ v k j. refl) k j
act_ends i (Starts n to) s b m k j = refl
act_ends i (Meets q) s b m k j = meet_ends q s b m k j

then_same : (a : Act) (k j : List ℤ → Scratch → StatementEnd) → ((s : List ℤ) (b : Scratch) → k s b ≡ j s b) → then_work a k ≡ then_work a j
then_same (On s b) k j h = h s b
then_same (Over t) k j h = refl

ended : (is : List Instr) (i : Instr) → IsEnd i → (rest : List Instr) (s : List ℤ) (b : Scratch) (m : Frame) → work ((is ++ i ∷ []) ++ rest) s b m ≡ work (is ++ i ∷ []) s b m
ended [] i h rest s b m = act_ends i h s b m (λ s b. work rest s b m) (λ s b. work [] s b m)
ended (x ∷ is) i h rest s b m = then_same (act x s b m) (λ s b. work ((is ++ i ∷ []) ++ rest) s b m) (λ s b. work (is ++ i ∷ []) s b m) (λ s b. ended is i h rest s b m)

-- code whose last instruction ends its statement
pub record IsEnded (code : List Instr) : Type 0 where
  pub before : List Instr
  pub last : Instr
  pub ends : IsEnd last
  pub is : code ≡ before ++ last ∷ []

pub alone : (i : Instr) → IsEnd i → IsEnded (i ∷ [])
alone i h = record { before = []; last = i; ends = h; is = refl }

pub behind : (is code : List Instr) → IsEnded code → IsEnded (is ++ code)
behind is code h = record { before = is ++ h.before; last = h.last; ends = h.ends; is = ap (λ l. is ++ l) h.is ∙ sym (append_assoc is h.before (h.last ∷ [])) }

pub closing : (before : List Instr) (i : Instr) → IsEnd i → IsEnded (before ++ i ∷ [])
closing before i h = behind before (i ∷ []) (alone i h)

pub whole_alone : (code : List Instr) → IsEnded code → (rest : List Instr) (s : List ℤ) (b : Scratch) (m : Frame) → work (code ++ rest) s b m ≡ work code s b m
whole_alone code h rest s b m =
    ap (λ c. work (c ++ rest) s b m) h.is ∙ ended h.before h.last h.ends rest s b m ∙ sym (ap (λ c. work c s b m) h.is)
