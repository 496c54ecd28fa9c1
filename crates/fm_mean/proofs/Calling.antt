-- Calls and returns keep account of ports: of the caller's, of the callee's, and of what is let go.
use Rattle.std.proofs.Common.{◌≡◌, ℕ, zero, suc, ◌+◌, Bool, true, false, cond, Option, Some, None, option_to_list, List, [], ◌∷◌, ◌++◌, replicate, take, refl, ap, ◌∙◌, arith}
use Rattle.fm_base.specs.declared.port.PortValue.{PortValue}
use Rattle.fm_base.specs.Channels.{Item, Words, Ports, item_ports, message_ports}
use Rattle.fm_net.specs.Owned.{count}
use Rattle.fm_net.proofs.Counts.{count-nil, count-append}
use Rattle.fm_tree.specs.declared.port_type.Kind.{Kind}
use Rattle.fm_tree.specs.declared.port_type.Kind.TheVariants as kind
use Rattle.fm_symbols.specs.declared.names.Variable.{Variable}
use Rattle.fm_rules.specs.declared.program.Program.{Program}
use Rattle.fm_mean.specs.Names.{ProgramUnit, unit_at, unset, all_unset, formal_place}
use Rattle.fm_mean.specs.declared.place.Actual.{Actual}
use Rattle.fm_mean.specs.declared.place.Back.{Back}
use Rattle.fm_mean.specs.declared.place.Actual.TheVariants.{Given, Taken}
use Rattle.fm_mean.specs.Places.{items_at, exchange, exchange_all, live, taken_ports, Returned, settled, port_back, ports_back, one_back, all_back, without_theirs, returned}
use Rattle.fm_mean.specs.Process.{Frame, started_ports, frame_ports, frames_ports}
use Rattle.fm_mean.specs.Calls.{entered_one, entered_all, entered, nulls, null_item, is_kept, kept, variables_in, ended_frames}
use Rattle.fm_mean.proofs.Exchanges.{living, found, within, found-none, living-cons, within-cons, exchange_law, exchange_all_law, taken_law, written_law, written_ports}

-- what the two frames have, with what is let go
abbrev pub accounted : PortValue → Returned → ℕ
accounted z r = within z r.mine + within z r.theirs + count z r.drops

-- ---- copying back

settled_law : (z : PortValue) (r : Returned) (i k : ℕ) (theirs : List Item) (p : Option PortValue) → within z theirs + found z p ≡ within z r.theirs → accounted z (settled r i k theirs p) ≡ accounted z r
settled_law z r i k theirs None same = omega (arith, same, found-none z)
settled_law z r i k theirs (Some p) same =
    omega (arith, same, exchange_law z r.mine i k (Some p), count-append z r.drops (option_to_list (exchange r.mine i k (Some p)).1))

port_back_law : (z : PortValue) (r : Returned) (f j i k : ℕ) → accounted z (port_back r f j i k) ≡ accounted z r
port_back_law z r f j i k = settled_law z r i k (exchange r.theirs f j None).0 (exchange r.theirs f j None).1 (omega (arith, exchange_law z r.theirs f j None, found-none z))

ports_back_law : (z : PortValue) (r : Returned) (f j i k n : ℕ) → accounted z (ports_back r f j i k n) ≡ accounted z r
ports_back_law z r f j i k zero = refl
ports_back_law z r f j i k (suc n) = ports_back_law z (port_back r f j i k) f (suc j) i (suc k) n ∙ port_back_law z r f j i k

one_back_law : (z : PortValue) (r : Returned) (b : Back) (v : Item) → accounted z (one_back r b v) ≡ accounted z r
one_back_law z r b (Words ws) = omega (arith, written_law z r.mine b.place (take b.place.count ws))
one_back_law z r b (Ports ps) = ports_back_law z r b.formal 0 b.place.variable b.place.first b.place.count

pub all_back_law : (z : PortValue) (r : Returned) (bs : List Back) → accounted z (all_back r bs) ≡ accounted z r
all_back_law z r [] = refl
all_back_law z r (b ∷ bs) = all_back_law z (one_back r b (items_at r.theirs b.formal)) bs ∙ one_back_law z r b (items_at r.theirs b.formal)

-- the caller's ports, and what is let go
abbrev pub own : PortValue → Returned → ℕ
own z r = within z r.mine + count z r.drops

pub without_law : (z : PortValue) (r : Returned) → own z (without_theirs r) ≡ accounted z r
without_law z r = omega (arith, count-append z r.drops (message_ports r.theirs))

pub returned_law : (z : PortValue) (mine theirs : List Item) (bs : List Back) → own z (returned mine theirs bs) ≡ within z mine + within z theirs
returned_law z mine theirs bs =
    let begin : Returned = record { mine = mine; theirs = theirs; drops = [] } in
    omega (arith, without_law z (all_back begin bs), all_back_law z begin bs, count-nil z)

-- ---- entering

entered_one_law : (z : PortValue) (u : ProgramUnit) (n : ℕ) (a : Actual) (r : Returned) → accounted z (entered_one u n a r) ≡ accounted z r
entered_one_law z u n (Given ws back) r = omega (arith, ap (count z) (written_ports r.theirs (formal_place u n) 0 ws))
entered_one_law z u n (Taken s) r =
    let took = taken_ports r.mine s in
    omega (arith, taken_law z r.mine s, exchange_all_law z r.theirs (formal_place u n) 0 took.1, count-append z r.drops (live (exchange_all r.theirs (formal_place u n) 0 took.1).1))

entered_all_law : (z : PortValue) (u : ProgramUnit) (n : ℕ) (args : List Actual) (r : Returned) → accounted z (entered_all u n args r) ≡ accounted z r
entered_all_law z u n [] r = refl
entered_all_law z u n (a ∷ more) r = entered_all_law z u (suc n) more (entered_one u n a r) ∙ entered_one_law z u n a r

no_live : (z : PortValue) (n : ℕ) → living z (replicate n None) ≡ 0
no_live z zero = count-nil z
no_live z (suc n) = omega (arith, living-cons z None (replicate n None), no_live z n, found-none z)

unset_none : (z : PortValue) (s : Kind) (n : ℕ) → count z (item_ports (unset s n)) ≡ 0
unset_none z kind.Integer n = count-nil z
unset_none z kind.Logical n = count-nil z
unset_none z (kind.In t) n = no_live z n
unset_none z (kind.Out t) n = no_live z n

-- a frame begins without ports
pub all_unset_none : (z : PortValue) (vs : List Variable) → within z (all_unset vs) ≡ 0
all_unset_none z [] = count-nil z
all_unset_none z (v ∷ vs) = omega (arith, within-cons z (unset v.kind v.words) (all_unset vs), unset_none z v.kind v.words, all_unset_none z vs)

nulls_nil : (n : ℕ) → live (replicate n None) ≡ []
nulls_nil zero = refl
nulls_nil (suc n) = nulls_nil n

unset_nil : (s : Kind) (n : ℕ) → item_ports (unset s n) ≡ []
unset_nil kind.Integer n = refl
unset_nil kind.Logical n = refl
unset_nil (kind.In t) n = nulls_nil n
unset_nil (kind.Out t) n = nulls_nil n

pub all_unset_nil : (vs : List Variable) → message_ports (all_unset vs) ≡ []
all_unset_nil [] = refl
all_unset_nil (v ∷ vs) = ap (λ ps. ps ++ message_ports (all_unset vs)) (unset_nil v.kind v.words) ∙ all_unset_nil vs

pub entered_law : (z : PortValue) (u : ProgramUnit) (mine : List Item) (args : List Actual) → accounted z (entered u mine args) ≡ within z mine
entered_law z u mine args =
    omega (arith, entered_all_law z u 1 args (record { mine = mine; theirs = all_unset u.names.variables; drops = [] }), all_unset_none z u.names.variables, count-nil z)

-- ---- the end of a process

nulls_none : (z : PortValue) (ps : List (Option PortValue)) → living z (nulls ps) ≡ 0
nulls_none z [] = count-nil z
nulls_none z (p ∷ ps) = omega (arith, living-cons z None (nulls ps), nulls_none z ps, found-none z)

null_item_none : (z : PortValue) (v : Item) → count z (item_ports (null_item v)) ≡ 0
null_item_none z (Words ws) = count-nil z
null_item_none z (Ports ps) = nulls_none z ps

pub kept_law : (z : PortValue) (vs : List Variable) (xs : List Item) → within z (kept vs xs).0 + count z (kept vs xs).1 ≡ within z xs
kept_law z [] xs = omega (arith, count-nil z)
kept_law z (v ∷ vs) [] = omega (arith, count-nil z)
kept_law z (v ∷ vs) (x ∷ xs) = go (is_kept v) (kept_law z vs xs)
  where
    go : (b : Bool) → within z (kept vs xs).0 + count z (kept vs xs).1 ≡ within z xs
        → within z (cond {A = List Item × List PortValue} b (x ∷ (kept vs xs).0, (kept vs xs).1) (null_item x ∷ (kept vs xs).0, item_ports x ++ (kept vs xs).1)).0
        + count z (cond {A = List Item × List PortValue} b (x ∷ (kept vs xs).0, (kept vs xs).1) (null_item x ∷ (kept vs xs).0, item_ports x ++ (kept vs xs).1)).1 ≡ within z (x ∷ xs)
    go true h = omega (arith, within-cons z x (kept vs xs).0, within-cons z x xs)
    go false h = omega (arith, within-cons z (null_item x) (kept vs xs).0, within-cons z x xs, null_item_none z x, count-append z (item_ports x) (kept vs xs).1)

-- ---- frames

pub frame-parts : (z : PortValue) (f : Frame) → count z (frame_ports f) ≡ within z f.values + count z (started_ports f.starts)
frame-parts z f = count-append z (message_ports f.values) (started_ports f.starts)

pub frames-cons : (z : PortValue) (f : Frame) (fs : List Frame) → count z (frames_ports (f ∷ fs)) ≡ within z f.values + count z (started_ports f.starts) + count z (frames_ports fs)
frames-cons z f fs = omega (arith, frame-parts z f, count-append z (frame_ports f) (frames_ports fs))

pub ended_law : (z : PortValue) (p : Program) (fs : List Frame) → count z (frames_ports (ended_frames p fs).0) + count z (ended_frames p fs).1 ≡ count z (frames_ports fs)
ended_law z p [] = omega (arith, count-nil z)
ended_law z p (f ∷ []) =
    let vs = variables_in (unit_at p f.unit) in
    omega (
      arith,
      kept_law z vs f.values,
      frames-cons z f [],
      frames-cons z (record f { values = (kept vs f.values).0; results = []; starts = [] }) [],
      count-append z (kept vs f.values).1 (started_ports f.starts),
      count-nil z,
    )
ended_law z p (f ∷ g ∷ fs) = omega (arith, ended_law z p (g ∷ fs), frames-cons z f (g ∷ fs), frame-parts z f, count-append z (frame_ports f) (ended_frames p (g ∷ fs)).1)
