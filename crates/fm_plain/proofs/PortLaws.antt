-- The port that comes out of a place is the one that stood there.
use Rattle.std.proofs.Common.{◌≡◌, ℕ, zero, suc, Option, Some, None, List, [], ◌∷◌, refl, sym, ap, ◌∙◌}
use Rattle.std.specs.Prelude.{slice_get, unwrap_or}
use Rattle.fm_base.specs.declared.fault.Fault.TheVariants.{NullPort}
use Rattle.fm_base.specs.declared.port.PortValue.{PortValue}
use Rattle.fm_base.specs.Channels.{Item, Words, Ports}
use Rattle.fm_mean.specs.Names.{Point, line_of}
use Rattle.fm_mean.specs.Process.{Execution, Frame, framed}
use Rattle.fm_mean.specs.declared.place.Span.{Span}
use Rattle.fm_mean.specs.Places.{exchange, exchanged, item_exchanged, items_at, ports_in, port_at, emptied_place, put_port}
use Rattle.fm_mean.specs.Actions.{Own, behind, closed, closes, fails, moved, moves}
use Rattle.std.specs.Prelude.{Ok, option_to_list, is_some, Bool, true, false, not}
use Rattle.std.specs.Borrow.{Bor}
use Rattle.std.specs.Option.{option_copied}
use Rattle.fm_mean.specs.Places.{live}
use Rattle.fm_mean.specs.Actions.{at_entry}
use Rattle.fm_plain.proofs.CallLaws.{own_alike}

out_ports : (ps : List (Option PortValue)) (k : ℕ) → (exchanged ps k None).1 ≡ unwrap_or (slice_get ps k) None
out_ports [] k = refl
out_ports (q ∷ qs) zero = refl
out_ports (q ∷ qs) (suc k) = out_ports qs k

out_item : (v : Item) (k : ℕ) → (item_exchanged v k None).1 ≡ unwrap_or (slice_get (ports_in v) k) None
out_item (Words ws) k = refl
out_item (Ports ps) k = out_ports ps k

out_values : (vs : List Item) (i k : ℕ) → (exchange vs i k None).1 ≡ unwrap_or (slice_get (ports_in (items_at vs i)) k) None
out_values [] i k = refl
out_values (v ∷ vs) zero k = out_item v k
out_values (v ∷ vs) (suc i) k = out_values vs i k

pub port_out : (vs : List Item) (q : Span) → (emptied_place vs q).1 ≡ port_at vs q
port_out vs q = out_values vs q.variable q.first

-- where there is none
pub closed_null : (w : Execution) (e : Point) (f : Frame) (below : List Frame) (q : Span) → port_at f.values q ≡ None → closes w e f below (Ok q) ≡ fails (line_of e) NullPort
closed_null w e f below q none = ap (closed w e f below (emptied_place f.values q).0) (port_out f.values q ∙ none)

-- where there is one, it is let go
pub closed_port : (w : Execution) (e : Point) (f : Frame) (below : List Frame) (q : Span) (z : PortValue) → (emptied_place f.values q).1 ≡ Some z
    → closes w e f below (Ok q) ≡ Own (behind w e.entry.after f below (emptied_place f.values q).0) [] (z ∷ []) 1
closed_port w e f below q z some = ap (closed w e f below (emptied_place f.values q).0) some

closed_by : (w : Execution) (e : Point) (f g : Frame) (below : List Frame) (q : Span) (o : Option PortValue) (ports : List PortValue) → is_some o ≡ true → (emptied_place f.values q).1 ≡ o → ports ≡ live (o ∷ [])
    → g ≡ at_entry (record f { values = (emptied_place f.values q).0 }) e.entry.after → closes w e f below (Ok q) ≡ Own (framed w (g ∷ below)) [] ports 1
closed_by w e f g below q None ports some is drops new = absurd (cc)
closed_by w e f g below q (Some z) ports some is drops new =
    closed_port w e f below q z is ∙ own_alike w _ _ _ _ 1 1 (ap (λ (x : Frame). x ∷ below) (sym new)) (sym drops) refl

-- ENDCHANNEL lets the port go that was there
pub closed_own : (w : Execution) (e : Point) (f g : Frame) (below : List Frame) (q : Span) (replaced : List (Option PortValue)) (ports : List PortValue) → is_some (port_at f.values q) ≡ true → replaced ≡ (emptied_place f.values q).1 ∷ []
    → ports ≡ live replaced → g ≡ at_entry (record f { values = (emptied_place f.values q).0 }) e.entry.after → closes w e f below (Ok q) ≡ Own (framed w (g ∷ below)) [] ports 1
closed_own w e f g below q replaced ports some out drops new =
    closed_by w e f g below q (emptied_place f.values q).1 ports (ap is_some (port_out f.values q) ∙ some) refl (drops ∙ ap live out) new

live_one : (o : Option PortValue) → live (o ∷ []) ≡ option_to_list o
live_one None = refl
live_one (Some z) = refl

-- MOVEPORT lets the port go that was at the place to which another goes
pub moved_own : (w : Execution) (e : Point) (f g : Frame) (below : List Frame) (from to : Span) (replaced : List (Option PortValue)) (ports : List PortValue) (m : List Item × Option PortValue)
    → m ≡ put_port (emptied_place f.values from).0 to (emptied_place f.values from).1 → replaced ≡ m.1 ∷ [] → ports ≡ live replaced → g ≡ at_entry (record f { values = m.0 }) e.entry.after
    → moves w e f below (Ok (from, to)) ≡ Own (framed w (g ∷ below)) [] ports 1
moved_own w e f g below from to replaced ports m is out drops new =
    ap (moved w e f below) (sym is) ∙ own_alike w _ _ _ _ 1 1 (ap (λ (x : Frame). x ∷ below) (sym new)) (sym (drops ∙ ap live out ∙ live_one m.1)) refl

-- the frames between: after the one exchange, and after the other
pub moved_both : (w : Execution) (e : Point) (f f1 f2 g : Frame) (below : List Frame) (from to : Span) (port out : Option PortValue) (replaced : List (Option PortValue)) (ports : List PortValue)
    → f1 ≡ record f { values = (put_port f.values from None).0 } → port ≡ (put_port f.values from None).1
    → f2 ≡ record f1 { values = (put_port f1.values to port).0 } → out ≡ (put_port f1.values to port).1
    → replaced ≡ out ∷ [] → ports ≡ live replaced → g ≡ at_entry f2 e.entry.after → moves w e f below (Ok (from, to)) ≡ Own (framed w (g ∷ below)) [] ports 1
moved_both w e f f1 f2 g below from to port out replaced ports e1 p1 e2 p2 filled drops new =
    let m : List Item × Option PortValue = put_port f1.values to port in
    let is : put_port f1.values to port ≡ put_port (emptied_place f.values from).0 to (emptied_place f.values from).1 =
    ap (λ (x : Frame). put_port x.values to port) e1 ∙ ap (λ (o : Option PortValue). put_port (emptied_place f.values from).0 to o) p1 in
    moved_own w e f g below from to replaced ports (put_port f1.values to port) is (filled ∙ ap (λ (o : Option PortValue). o ∷ []) p2) drops
    (new ∙ ap (λ (x : Frame). at_entry x e.entry.after) (e2 ∙ ap (λ (x : Frame). record x { values = (put_port f1.values to port).0 }) e1))

pub none_is : {A : Type 0} (o : Option (Bor A)) (x : Option A) (b : Bool) → option_copied o ≡ x → is_some o ≡ not b → b ≡ true → x ≡ None
none_is None x b e s t = sym e
none_is (Some a) x b e s t = absurd (cc (ap not t))

pub some_is : {A : Type 0} (o : Option (Bor A)) (x : Option A) (b : Bool) → option_copied o ≡ x → is_some o ≡ not b → b ≡ false → is_some x ≡ true
some_is None x b e s t = absurd (cc (ap not t))
some_is (Some a) x b e s t = ap is_some (sym e)
