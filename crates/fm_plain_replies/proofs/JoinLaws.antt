-- Copying back from children, one after the other.
use Rattle.std.proofs.Common.{◌≡◌, ◌==◌, ◌+◌, ◌<◌, ℕ, zero, suc, length, take, drop, get_or, set, subst, arith, add-one, Bool, true, false, Option, Some, None, List, [], ◌∷◌, ◌++◌, map, replicate, reverse, option_to_list, refl, sym, ap, ◌∙◌, append_assoc, append-nil}
use Rattle.std.proofs.Math.Seq.{drop-cons}
use Rattle.std.proofs.lemmas.List.{drop-set-lt, take_more_set}
use Rattle.std.proofs.lemmas.Grind.{flat_map-append}
use Rattle.std.specs.List.{flat_map}
use Rattle.fm_base.specs.declared.port.PortValue.{PortValue}
use Rattle.fm_base.specs.Channels.{Item, Words, Ports, message_ports}
use Rattle.fm_rules.specs.declared.program.Program.{Program}
use Rattle.fm_mean.specs.declared.place.Back.{Back}
use Rattle.fm_mean.specs.Fits.{variables_of}
use Rattle.fm_mean.specs.Places.{Returned, all_back, exchange, items_at, live, one_back, port_back, ports_back, settled, without_theirs}
use Rattle.fm_mean.specs.Process.{Frame, Kid, Proc, Running, frames_ports, started_ports}
use Rattle.fm_net.specs.Machine.{Onward}
use Rattle.fm_mean.specs.Actions.{at_entry}
use Rattle.fm_mean.specs.Steps.{dropping, given_back, joined, kid_back, kids_back}
use Rattle.fm_plain_frame.specs.declared.frame.Frame as memory
use Rattle.fm_plain_frame.specs.declared.process.Kid as waiting
use Rattle.fm_plain_frame.specs.declared.process.PlainProc.{PlainProc}
use Rattle.fm_plain_frame.specs.LetGo.{let_go_ports}
use Rattle.fm_plain_frame.specs.declared.let_go.LetGo.{LetGo}
use Rattle.fm_plain_frame.specs.Frames.{frame_of, frames_of, kid_of, phase_of, proc_of}
use Rattle.fm_plain_passing.specs.Rooms.{all_given}
use Rattle.fm_plain_replies.specs.Joins.{AreReady, HasRoom, IsReady, after_join, first_kid, frames_back, frames_in, kid_or_nobody, kids_in, leaving, other_kids, with_values}
use Rattle.fm_plain_replies.specs.Goes.{in_frames}

-- among NULLs there is no port
pub no_ports : (n : ℕ) → live (replicate n None) ≡ []
no_ports zero = refl
no_ports (suc n) = no_ports n

pub room_is_free : (p : Program) (k : Option Kid) (room : List (Option PortValue)) → HasRoom p k room → live room ≡ []
room_is_free p None room h = ap live h
room_is_free p (Some k) room h = ap live h ∙ no_ports (all_given (variables_of p k.unit) k.backs)

-- a child without frames gives nothing
pub nobody_gives : (p : Program) (k : Option Kid) (room taken : List (Option PortValue)) (top : Option memory.Frame) (below : List memory.Frame) (fs : List Frame) (mine : List Item) → HasRoom p k room → taken ≡ [] → top ≡ None → below ≡ [] → frames_of p top below ≡ fs
    → live room ++ frames_ports (frames_of p top below) ++ live taken ≡ (kid_back (with_values mine) (kid_or_nobody k) fs).drops
nobody_gives p k room taken top below fs mine ready clear none alone same =
    let gone : frames_of p top below ≡ [] = λ i. frames_of p (none i) (alone i) in
    (λ i. room_is_free p k room ready i ++ frames_ports (gone i) ++ live (clear i))
    ∙ ap (λ (gs : List Frame). (kid_back (with_values mine) (kid_or_nobody k) gs).drops) (sym gone ∙ same)

-- What was let go before stands before what is let go now.

abbrev behind : List PortValue → Returned → Returned
behind ds r = record r { drops = ds ++ r.drops }

settled_behind : (ds : List PortValue) (r : Returned) (i k : ℕ) (theirs : List Item) (o : Option PortValue) → settled (behind ds r) i k theirs o ≡ behind ds (settled r i k theirs o)
settled_behind ds r i k theirs None = refl
settled_behind ds r i k theirs (Some z) =
    ap (λ (zs : List PortValue). record { mine = (exchange r.mine i k (Some z)).0; theirs = theirs; drops = zs }) (append_assoc ds r.drops (option_to_list (exchange r.mine i k (Some z)).1))

ports_behind : (ds : List PortValue) (r : Returned) (f j i k n : ℕ) → ports_back (behind ds r) f j i k n ≡ behind ds (ports_back r f j i k n)
ports_behind ds r f j i k zero = refl
ports_behind ds r f j i k (suc n) =
    ap (λ (q : Returned). ports_back q f (suc j) i (suc k) n) (settled_behind ds r i k (exchange r.theirs f j None).0 (exchange r.theirs f j None).1)
    ∙ ports_behind ds (port_back r f j i k) f (suc j) i (suc k) n

one_behind : (ds : List PortValue) (r : Returned) (b : Back) (x : Item) → one_back (behind ds r) b x ≡ behind ds (one_back r b x)
one_behind ds r b (Words ws) = refl
one_behind ds r b (Ports ps) = ports_behind ds r b.formal 0 b.place.variable b.place.first b.place.count

all_behind : (ds : List PortValue) (r : Returned) (bs : List Back) → all_back (behind ds r) bs ≡ behind ds (all_back r bs)
all_behind ds r [] = refl
all_behind ds r (b ∷ bs) =
    ap (λ (q : Returned). all_back q bs) (one_behind ds r b (items_at r.theirs b.formal)) ∙ all_behind ds (one_back r b (items_at r.theirs b.formal)) bs

given_behind : (ds : List PortValue) (same : Bool) (r : Returned) (bs : List Back) → given_back same (behind ds r) bs ≡ behind ds (given_back same r bs)
given_behind ds true r bs = all_behind ds r bs
given_behind ds false r bs = refl

kid_behind : (ds : List PortValue) (r : Returned) (k : Kid) (fs : List Frame) → kid_back (behind ds r) k fs ≡ behind ds (kid_back r k fs)
kid_behind ds r k [] = refl
kid_behind ds r k (f ∷ fs) =
    let zs : List PortValue = started_ports f.starts ++ frames_ports fs in
    let q : Returned = given_back (f.unit == k.unit) (record r { theirs = f.values }) k.backs in
    ap (λ (t : Returned). dropping zs (without_theirs t)) (given_behind ds (f.unit == k.unit) (record r { theirs = f.values }) k.backs)
    ∙ ap (λ (ps : List PortValue). record { mine = q.mine; theirs = []; drops = ps })
    (ap (λ (ps : List PortValue). ps ++ zs) (append_assoc ds q.drops (message_ports q.theirs)) ∙ append_assoc ds (q.drops ++ message_ports q.theirs) zs)

-- of a child nothing is left
nothing_left : (mine : List Item) (ds : List PortValue) (k : Kid) (fs : List Frame) → behind ds (kid_back (with_values mine) k fs) ≡ record { mine = (kid_back (with_values mine) k fs).mine; theirs = []; drops = ds ++ (kid_back (with_values mine) k fs).drops }
nothing_left mine ds k [] = refl
nothing_left mine ds k (f ∷ fs) = refl

kid_step : (mine : List Item) (ds : List PortValue) (k : Kid) (fs : List Frame) → kid_back (record { mine = mine; theirs = []; drops = ds }) k fs
    ≡ record { mine = (kid_back (with_values mine) k fs).mine; theirs = []; drops = ds ++ (kid_back (with_values mine) k fs).drops }
kid_step mine ds k fs =
    ap (λ (zs : List PortValue). kid_back (record { mine = mine; theirs = []; drops = zs }) k fs) (sym (append-nil ds)) ∙ kid_behind ds (with_values mine) k fs ∙ nothing_left mine ds k fs

-- the first child gives back, and then the others
pub child_step : (mine after : List Item) (ds zs : List PortValue) (kids : List Kid) (fs : List Frame) (more : List (List Frame)) → after ≡ (kid_back (with_values mine) (kid_or_nobody (first_kid kids)) fs).mine → zs ≡ (kid_back (with_values mine) (kid_or_nobody (first_kid kids)) fs).drops
    → frames_back (record { mine = after; theirs = []; drops = ds ++ zs }) (other_kids kids) more ≡ frames_back (record { mine = mine; theirs = []; drops = ds }) kids (fs ∷ more)
child_step mine after ds zs kids fs more a z =
    (λ i. frames_back (record { mine = a i; theirs = []; drops = ds ++ z i }) (other_kids kids) more)
    ∙ ap (λ (r : Returned). frames_back r (other_kids kids) more) (sym (kid_step mine ds (kid_or_nobody (first_kid kids)) fs))

-- the frames of children are all that copying back takes of them
pub kids_by_frames : (r : Returned) (kids : List Kid) (ys : List Proc) → kids_back r kids ys ≡ frames_back r kids (map frames_in ys)
kids_by_frames r [] [] = refl
kids_by_frames r (k ∷ ks) [] = refl
kids_by_frames r [] (y ∷ ys) = kids_by_frames (kid_back r (record { unit = 0; backs = [] }) y.execution.frames) [] ys
kids_by_frames r (k ∷ ks) (y ∷ ys) = kids_by_frames (kid_back r k y.execution.frames) ks ys

-- A process is joined by the frame that its innermost one becomes.
module _ (p : Program) (x : PlainProc) (top : Option memory.Frame) (below : List memory.Frame) (f : memory.Frame) (kids : List waiting.Kid) (ys : List Proc) (given : List (List Frame)) (next : ℕ)
    (same : frames_of p top below ≡ frames_of p x.top x.below.items) (is : top ≡ Some f) (kids_are : map kid_of kids ≡ kids_in (phase_of x.phase)) (left : map frames_in ys ≡ given) where
  abbrev pub process : Proc
  process = proc_of p x

  abbrev pub innermost : Frame
  innermost = frame_of p f

  abbrev pub others : List Frame
  others = reverse (map (frame_of p) below)

  frames_are : process.execution.frames ≡ innermost ∷ others
  frames_are = sym same ∙ (λ i. frames_of p (is i) below)

  returned : frames_back (with_values innermost.values) (map kid_of kids) given ≡ kids_back (with_values innermost.values) (kids_in process.phase) ys
  returned = (λ i. frames_back (with_values innermost.values) (kids_are i) (sym left i)) ∙ sym (kids_by_frames (with_values innermost.values) (kids_in process.phase) ys)

  whole : after_join process next ys ≡ joined process others innermost next (kids_in process.phase) ys
  whole = ap (in_frames process (λ b g. joined process b g next (kids_in process.phase) ys)) frames_are

  abbrev pub kept_values : List Item
  kept_values = (frames_back (with_values innermost.values) (map kid_of kids) given).mine

  pub joined_process : (g : memory.Frame) → frame_of p g ≡ at_entry (record innermost { values = kept_values }) next
      → record { phase = Running; execution = record { frames = frame_of p g ∷ others; machine = x.machine; node = x.node }; lines = x.lines.items; next_block = x.next_block; next_channel = x.next_channel } ≡ (after_join process next ys).self
  joined_process g becomes =
      (λ i. record { phase = Running; execution = record { frames = becomes i ∷ others; machine = x.machine; node = x.node }; lines = x.lines.items; next_block = x.next_block; next_channel = x.next_channel })
      ∙ (λ i. record { phase = Running; execution = record { frames = at_entry (record innermost { values = (returned i).mine }) next ∷ others; machine = x.machine; node = x.node }; lines = x.lines.items; next_block = x.next_block; next_channel = x.next_channel })
      ∙ ap (λ (o : Onward Proc). o.self) (sym whole)

  pub joined_drops : (zs : List PortValue) → zs ≡ (frames_back (with_values innermost.values) (map kid_of kids) given).drops → zs ≡ (after_join process next ys).drops
  joined_drops zs are = are ∙ ap (λ (r : Returned). r.drops) returned ∙ ap (λ (o : Onward Proc). o.drops) (sym whole)

drop_here : {A : Type 0} (xs : List A) (i : ℕ) (d : A) → i < length xs → drop i xs ≡ get_or xs i d ∷ drop (i + 1) xs
drop_here xs i d lt = drop-cons xs i d lt ∙ (λ j. get_or xs i d ∷ drop (sym (add-one i) j) xs)

-- The children of a loop, one more of which gave back.

pub ready_here : (p : Program) (ks : List Kid) (ls : List LetGo) (i : ℕ) (d : LetGo) → i < length ls → AreReady p ks (drop i ls) → IsReady p (first_kid ks) (get_or ls i d)
ready_here p ks ls i d lt ready = (subst (AreReady p ks) (drop_here ls i d lt) ready).0

pub ready_next : (p : Program) (ks : List Kid) (ls : List LetGo) (i : ℕ) (d new : LetGo) → i < length ls → AreReady p ks (drop i ls) → AreReady p (other_kids ks) (drop (i + 1) (set ls i new))
ready_next p ks ls i d new lt ready =
    subst (AreReady p (other_kids ks)) (sym (drop-set-lt (i + 1) ls i new (omega arith)))
    (subst (AreReady p ks) (drop_here ls i d lt) ready).1

-- all that the children so far let go, and what the others do
pub back_next : (p : Program) (ks : List Kid) (ls : List LetGo) (i : ℕ) (d new : LetGo) (mine after : List Item) (whole : Returned) → i < length ls
    → after ≡ (kid_back (with_values mine) (kid_or_nobody (first_kid ks)) (leaving p (get_or ls i d))).mine → let_go_ports p new ≡ (kid_back (with_values mine) (kid_or_nobody (first_kid ks)) (leaving p (get_or ls i d))).drops
    → frames_back (record { mine = mine; theirs = []; drops = flat_map (let_go_ports p) (take i ls) }) ks (map (leaving p) (drop i ls)) ≡ whole
    → frames_back (record { mine = after; theirs = []; drops = flat_map (let_go_ports p) (take (i + 1) (set ls i new)) }) (other_kids ks) (map (leaving p) (drop (i + 1) (set ls i new))) ≡ whole
back_next p ks ls i d new mine after whole lt mines drops before =
    let ds : List PortValue = flat_map (let_go_ports p) (take i ls) in
    let more : List (List Frame) = map (leaving p) (drop (i + 1) ls) in
    let gone : flat_map (let_go_ports p) (take (i + 1) (set ls i new)) ≡ ds ++ let_go_ports p new =
    ap (flat_map (let_go_ports p)) (take_more_set ls i new lt) ∙ flat_map-append (let_go_ports p) (take i ls) (new ∷ []) ∙ ap (λ (zs : List PortValue). ds ++ zs) (append-nil (let_go_ports p new)) in
    let rest : map (leaving p) (drop (i + 1) (set ls i new)) ≡ more = ap (map (leaving p)) (drop-set-lt (i + 1) ls i new (omega arith)) in
    (λ j. frames_back (record { mine = after; theirs = []; drops = gone j }) (other_kids ks) (rest j))
    ∙ child_step mine after ds (let_go_ports p new) ks (leaving p (get_or ls i d)) more mines drops
    ∙ ap (λ (fss : List (List Frame)). frames_back (record { mine = mine; theirs = []; drops = ds }) ks fss) (sym (ap (map (leaving p)) (drop_here ls i d lt)))
    ∙ before
