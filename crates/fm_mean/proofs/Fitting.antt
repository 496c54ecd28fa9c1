-- Exchanges, messages, calls and returns keep ports at places of their type.
use Rattle.std.proofs.Common.{◌≡◌, ℕ, zero, suc, ℤ, pos, negsuc, ◌≤◌, length, Bool, true, false, cond, Option, Some, None, List, [], ◌∷◌, ◌++◌, replicate, take, slice_get, Result, Ok, Err, refl, sym, ap, ◌∙◌, subst, arith}
use Rattle.std.specs.Prelude.{nat_le}
use Rattle.std.proofs.lemmas.Bool.Decides.{nat_tests}
use Rattle.std.proofs.lemmas.List.{length-take-le}
use Rattle.fm_base.specs.declared.fault.Fault.{Fault}
use Rattle.fm_base.specs.declared.fault.Fault.TheVariants.{Subscript}
use Rattle.fm_base.specs.declared.port.PortValue.{PortValue}
use Rattle.fm_base.specs.Channels.{Item, Words, Ports, Message, item_ports}
use Rattle.fm_net.specs.Typed.{AllIn}
use Rattle.fm_tree.specs.PortFields.{PortFields, FieldKind, NoFields, FieldThen, Integer, Logical, In, Out}
use Rattle.fm_tree.specs.PortReading as reading
use Rattle.fm_tree.specs.declared.port_type.Kind.{Kind}
use Rattle.fm_tree.specs.declared.port_type.Kind.TheVariants as kind
use Rattle.fm_tree.specs.declared.port_type.Bound.{Bound}
use Rattle.fm_values.specs.Trips.{natural}
use Rattle.fm_symbols.specs.declared.names.Variable.{Variable}
use Rattle.fm_rules.specs.PortTypes.{sizing_place}
use Rattle.fm_mean.specs.Actions.{size_in, cut_to, cut_item, cut_items}
use Rattle.fm_mean.specs.Names.{ProgramUnit, unset, all_unset, formal_place}
use Rattle.fm_mean.specs.declared.place.Actual.{Actual}
use Rattle.fm_mean.specs.declared.place.Back.{Back}
use Rattle.fm_mean.specs.declared.place.Span.{Span}
use Rattle.fm_mean.specs.declared.place.Actual.TheVariants.{Given, Taken}
use Rattle.fm_mean.specs.Places.{items_at, overwritten, item_written, written_from, exchanged, item_exchanged, exchange, exchange_all, taken_ports, put_port, stored, stored_all, placed_all, item_from, message_from, Returned, settled, port_back, ports_back, one_back, all_back}
use Rattle.fm_mean.specs.Calls.{entered_one, entered_all, entered, is_input, back_place, back_for, backs_from, backs_of, nulls, null_item, is_kept, kept}
use Rattle.fm_mean.specs.Fits.{sort_of_variable, elements_given, elements_behind, actual_length, size_told, Types, IsBit, BitsAt, MayStand, ItemFits, ValuesFit, FieldsFit, MessageFits, sort_at, BackFits, ArgFits, ItemsFit, PlacesFit, EntersAs, EnterFrom}
use Rattle.fm_mean.proofs.Sorts.{parts}

-- whatever sort the place has, the port may stand there
abbrev pub MayStandAt : Types → List Variable → ℕ → Option PortValue → Type 0
MayStandAt types vars i p = (s : FieldKind) → sort_at vars i ≡ Some s → MayStand types s p

pub null_stands : (types : Types) (vars : List Variable) (i : ℕ) → MayStandAt types vars i None
null_stands types vars i s is = tt

exchanged_length : (ps : List (Option PortValue)) (k : ℕ) (p : Option PortValue) → length (exchanged ps k p).0 ≡ length ps
exchanged_length [] k p = refl
exchanged_length (q ∷ qs) zero p = refl
exchanged_length (q ∷ qs) (suc k) p = ap suc (exchanged_length qs k p)

exchanged_fits : (types : Types) (s : FieldKind) (ps : List (Option PortValue)) (k : ℕ) (p : Option PortValue) → AllIn (MayStand types s) ps → MayStand types s p → AllIn (MayStand types s) (exchanged ps k p).0 × MayStand types s (exchanged ps k p).1
exchanged_fits types s [] k p all h = (tt, h)
exchanged_fits types s (q ∷ qs) zero p all h = ((h, all.1), all.0)
exchanged_fits types s (q ∷ qs) (suc k) p all h = let on = exchanged_fits types s qs k p all.1 h in ((all.0, on.0), on.1)

item_fits : (types : Types) (s : FieldKind) (n : ℕ) (v : Item) (k : ℕ) (p : Option PortValue) → ItemFits types s n v → MayStand types s p → ItemFits types s n (item_exchanged v k p).0 × MayStand types s (item_exchanged v k p).1
item_fits types Integer n (Words ws) k p fits h = (fits, h)
item_fits types Logical n (Words ws) k p fits h = (fits, h)
item_fits types (In t) n (Ports ps) k p fits h = let on = exchanged_fits types (In t) ps k p fits.1 h in ((exchanged_length ps k p ∙ fits.0, on.0), on.1)
item_fits types (Out t) n (Ports ps) k p fits h = let on = exchanged_fits types (Out t) ps k p fits.1 h in ((exchanged_length ps k p ∙ fits.0, on.0), on.1)
item_fits types Integer n (Ports ps) k p fits h = absurd fits
item_fits types Logical n (Ports ps) k p fits h = absurd fits
item_fits types (In t) n (Words ws) k p fits h = absurd fits
item_fits types (Out t) n (Words ws) k p fits h = absurd fits

the_sort : (a b : FieldKind) → Some a ≡ Some b → a ≡ b
the_sort a b e = cc

pub exchange_fits : (types : Types) (vars : List Variable) (vs : List Item) (i k : ℕ) (p : Option PortValue) → ValuesFit types vars vs → MayStandAt types vars i p
    → ValuesFit types vars (exchange vs i k p).0 × MayStandAt types vars i (exchange vs i k p).1
exchange_fits types [] [] i k p fits h = (tt, h)
exchange_fits types [] (x ∷ xs) i k p fits h = absurd fits
exchange_fits types (v ∷ vars) [] i k p fits h = absurd fits
exchange_fits types (v ∷ vars) (x ∷ xs) zero k p fits h =
    let on = item_fits types (sort_of_variable v) v.words x k p fits.0 (h (sort_of_variable v) refl) in
    ((on.0, fits.1), λ s is. subst (λ s. MayStand types s (item_exchanged x k p).1) (the_sort (sort_of_variable v) s is) on.1)
exchange_fits types (v ∷ vars) (x ∷ xs) (suc i) k p fits h = let on = exchange_fits types vars xs i k p fits.1 h in ((fits.0, on.0), on.1)

pub exchange_all_fits : (types : Types) (vars : List Variable) (vs : List Item) (i k : ℕ) (ps : List (Option PortValue)) → ValuesFit types vars vs → AllIn (MayStandAt types vars i) ps
    → ValuesFit types vars (exchange_all vs i k ps).0 × AllIn (MayStandAt types vars i) (exchange_all vs i k ps).1
exchange_all_fits types vars vs i k [] fits all = (fits, tt)
exchange_all_fits types vars vs i k (p ∷ ps) fits all =
    let one = exchange_fits types vars vs i k p fits all.0 in
    let more = exchange_all_fits types vars (exchange vs i k p).0 i (suc k) ps one.0 all.1 in
    (more.0, (one.1, more.1))

nulls_stand : (types : Types) (vars : List Variable) (i n : ℕ) → AllIn (MayStandAt types vars i) (replicate n None)
nulls_stand types vars i zero = tt
nulls_stand types vars i (suc n) = (null_stands types vars i, nulls_stand types vars i n)

pub taken_fits : (types : Types) (vars : List Variable) (vs : List Item) (s : Span) → ValuesFit types vars vs → ValuesFit types vars (taken_ports vs s).0 × AllIn (MayStandAt types vars s.variable) (taken_ports vs s).1
taken_fits types vars vs s fits = exchange_all_fits types vars vs s.variable s.first (replicate s.count None) fits (nulls_stand types vars s.variable s.count)

-- ---- words

overwritten_length : (ws : List ℤ) (k : ℕ) (ns : List ℤ) → length (overwritten ws k ns) ≡ length ws
overwritten_length [] k ns = refl
overwritten_length (w ∷ ws) (suc k) ns = ap suc (overwritten_length ws k ns)
overwritten_length (w ∷ ws) zero [] = refl
overwritten_length (w ∷ ws) zero (n ∷ ns) = ap suc (overwritten_length ws zero ns)

overwritten_bits : (ws : List ℤ) (k : ℕ) (ns : List ℤ) → AllIn IsBit ws → AllIn IsBit ns → AllIn IsBit (overwritten ws k ns)
overwritten_bits [] k ns all h = tt
overwritten_bits (w ∷ ws) (suc k) ns all h = (all.0, overwritten_bits ws k ns all.1 h)
overwritten_bits (w ∷ ws) zero [] all h = all
overwritten_bits (w ∷ ws) zero (n ∷ ns) all h = (h.0, overwritten_bits ws zero ns all.1 h.1)

item_written_fits : (types : Types) (s : FieldKind) (n : ℕ) (v : Item) (k : ℕ) (ns : List ℤ) → (s ≡ Logical → AllIn IsBit ns) → ItemFits types s n v → ItemFits types s n (item_written v k ns)
item_written_fits types Integer n (Words ws) k ns bits fits = overwritten_length ws k ns ∙ fits
item_written_fits types Logical n (Words ws) k ns bits fits = (overwritten_length ws k ns ∙ fits.0, overwritten_bits ws k ns fits.1 (bits refl))
item_written_fits types (In t) n (Words ws) k ns bits fits = absurd fits
item_written_fits types (Out t) n (Words ws) k ns bits fits = absurd fits
item_written_fits types s n (Ports ps) k ns bits fits = fits

pub written_fits : (types : Types) (vars : List Variable) (vs : List Item) (i k : ℕ) (ns : List ℤ) → BitsAt vars i ns → ValuesFit types vars vs → ValuesFit types vars (written_from vs i k ns)
written_fits types [] [] i k ns bits fits = tt
written_fits types [] (x ∷ xs) i k ns bits fits = absurd fits
written_fits types (v ∷ vars) [] i k ns bits fits = absurd fits
written_fits types (v ∷ vars) (x ∷ xs) zero k ns bits fits = (item_written_fits types (sort_of_variable v) v.words x k ns (λ e. bits (ap Some e)) fits.0, fits.1)
written_fits types (v ∷ vars) (x ∷ xs) (suc i) k ns bits fits = (fits.0, written_fits types vars xs i k ns bits fits.1)

-- ---- how many ports come out

out_length : (vs : List Item) (i k : ℕ) (ps : List (Option PortValue)) → length (exchange_all vs i k ps).1 ≡ length ps
out_length vs i k [] = refl
out_length vs i k (p ∷ ps) = ap suc (out_length (exchange vs i k p).0 i (suc k) ps)

nulls_length : (n : ℕ) → length (replicate {A = Option PortValue} n None) ≡ n
nulls_length zero = refl
nulls_length (suc n) = ap suc (nulls_length n)

taken_length : (vs : List Item) (x : Span) → length (taken_ports vs x).1 ≡ x.count
taken_length vs x = out_length vs x.variable x.first (replicate x.count None) ∙ nulls_length x.count

-- ---- messages

all_at : (types : Types) (vars : List Variable) (i : ℕ) (s : FieldKind) → sort_at vars i ≡ Some s → (ps : List (Option PortValue)) → AllIn (MayStandAt types vars i) ps → AllIn (MayStand types s) ps
all_at types vars i s is [] all = tt
all_at types vars i s is (p ∷ ps) all = (all.0 s is, all_at types vars i s is ps all.1)

at_all : (types : Types) (vars : List Variable) (i : ℕ) (s : FieldKind) → sort_at vars i ≡ Some s → (ps : List (Option PortValue)) → AllIn (MayStand types s) ps → AllIn (MayStandAt types vars i) ps
at_all types vars i s is [] all = tt
at_all types vars i s is (p ∷ ps) all = ((λ r e. subst (λ r. MayStand types r p) (the_sort s r (sym is ∙ e)) all.0), at_all types vars i s is ps all.1)

item_from_fits : (types : Types) (vars : List Variable) (vs : List Item) (s : FieldKind) (n : ℕ) (a : Actual) → ValuesFit types vars vs → ArgFits vars s n a → ValuesFit types vars (item_from vs a).0 × ItemFits types s n (item_from vs a).1
item_from_fits types vars vs Integer n (Given ws back) fits h = (fits, h)
item_from_fits types vars vs Logical n (Given ws back) fits h = (fits, h)
item_from_fits types vars vs (In t) n (Given ws back) fits h = absurd h
item_from_fits types vars vs (Out t) n (Given ws back) fits h = absurd h
item_from_fits types vars vs Integer n (Taken x) fits h = absurd h
item_from_fits types vars vs Logical n (Taken x) fits h = absurd h
item_from_fits types vars vs (In t) n (Taken x) fits h = let on = taken_fits types vars vs x fits in (on.0, (taken_length vs x ∙ h.1, all_at types vars x.variable (In t) h.0 (taken_ports vs x).1 on.1))
item_from_fits types vars vs (Out t) n (Taken x) fits h = let on = taken_fits types vars vs x fits in (on.0, (taken_length vs x ∙ h.1, all_at types vars x.variable (Out t) h.0 (taken_ports vs x).1 on.1))

-- ---- items that are cut

the_actual : (a b : Actual) → ◌≡◌ {A = Result Actual Fault} (Ok a) (Ok b) → a ≡ b
the_actual a b e = cc

pub the_actuals : (a b : List Actual) → ◌≡◌ {A = Result (List Actual) Fault} (Ok a) (Ok b) → a ≡ b
the_actuals a b e = cc

-- what is as long as it has to be
pub chosen : {A : Type 0} (b : Bool) (a i : A) → ◌≡◌ {A = Result A Fault} (cond b (Ok a) (Err Subscript)) (Ok i) → (b ≡ true) × (a ≡ i)
chosen true a i e = (refl, cc e)
chosen false a i e = absurd (cc e)

pub enough : (n k : ℕ) → nat_le n k ≡ true → n ≤ k
enough n k e = grind (arith, nat_tests)

first_bits : (n : ℕ) (ws : List ℤ) → AllIn IsBit ws → AllIn IsBit (take n ws)
first_bits zero ws all = tt
first_bits (suc n) [] all = tt
first_bits (suc n) (w ∷ ws) all = (all.0, first_bits n ws all.1)

-- an item that is cut fits with as many elements
cut_fits : (vars : List Variable) (s : FieldKind) (m : ℕ) (z : ℤ) (a i : Actual) → ArgFits vars s m a → cut_to z a ≡ Ok i → ArgFits vars s (natural z) i
cut_fits vars Integer m (pos n) (Given ws back) i h e =
    let c = chosen (nat_le n (length ws)) (Given (take n ws) back) i e in
    subst (ArgFits vars Integer n) c.1 (length-take-le n ws (enough n (length ws) c.0))
cut_fits vars Logical m (pos n) (Given ws back) i h e =
    let c = chosen (nat_le n (length ws)) (Given (take n ws) back) i e in
    subst (ArgFits vars Logical n) c.1 (length-take-le n ws (enough n (length ws) c.0), first_bits n ws h.1)
cut_fits vars (In t) m (pos n) (Taken x) i h e =
    let c = chosen (nat_le n x.count) (Taken (record x { count = n })) i e in
    subst (ArgFits vars (In t) n) c.1 (h.0, refl)
cut_fits vars (Out t) m (pos n) (Taken x) i h e =
    let c = chosen (nat_le n x.count) (Taken (record x { count = n })) i e in
    subst (ArgFits vars (Out t) n) c.1 (h.0, refl)
cut_fits vars (In t) m (pos n) (Given ws back) i h e = absurd h
cut_fits vars (Out t) m (pos n) (Given ws back) i h e = absurd h
cut_fits vars Integer m (pos n) (Taken x) i h e = absurd h
cut_fits vars Logical m (pos n) (Taken x) i h e = absurd h
cut_fits vars s m (negsuc n) a i h e = absurd (cc e)

-- earlier items as they were evaluated, and as they are in the message: each says the same size
abbrev TellSizes : List Actual → Message → Type 0
TellSizes [] [] = Unit {0}
TellSizes [] (m ∷ ms) = ⊥
TellSizes (a ∷ more) [] = ⊥
TellSizes (a ∷ more) (m ∷ ms) = (natural (size_in (Some a)) ≡ size_told (Some m)) × TellSizes more ms

size_at : (before : List Actual) (told : Message) (place : ℕ) → TellSizes before told → natural (size_in (slice_get before place)) ≡ size_told (slice_get told place)
size_at [] [] place h = refl
size_at [] (m ∷ ms) place h = absurd h
size_at (a ∷ more) [] place h = absurd h
size_at (a ∷ more) (m ∷ ms) zero h = h.0
size_at (a ∷ more) (m ∷ ms) (suc place) h = size_at more ms place h.1

one_more : (before : List Actual) (told : Message) (a : Actual) (m : Item) → TellSizes before told → natural (size_in (Some a)) ≡ size_told (Some m) → TellSizes (before ++ a ∷ []) (told ++ m ∷ [])
one_more [] [] a m h e = (e, tt)
one_more [] (k ∷ ks) a m h e = absurd h
one_more (b ∷ more) [] a m h e = absurd h
one_more (b ∷ more) (k ∷ ks) a m h e = (h.0, one_more more ks a m h.1 e)

size_kept : (vs : List Item) (a : Actual) → natural (size_in (Some a)) ≡ size_told (Some (item_from vs a).1)
size_kept vs (Given ws back) = refl
size_kept vs (Taken x) = refl

-- an item behind others fits with as many elements as its field has there
item_cut_fits : (vars : List Variable) (s : FieldKind) (size : Option ℕ) (n : List Bound) (a i : Actual) (before : List Actual) (told : Message) → TellSizes before told
    → ArgFits vars s (elements_given size n a) a → cut_item before size a ≡ Ok i → ArgFits vars s (elements_behind told size n) i
item_cut_fits vars s None n a i before told sizes h e = subst (ArgFits vars s (elements_behind told None n)) (the_actual a i e) h
item_cut_fits vars s (Some place) n a i before told sizes h e =
    subst (λ k. ArgFits vars s k i) (size_at before told place sizes) (cut_fits vars s (actual_length a) (size_in (slice_get before place)) a i h e)

message_behind : (types : Types) (vars : List Variable) (vs : List Item) (before : List Actual) (told : Message) (t : PortFields) (args cut : List Actual) → TellSizes before told → ValuesFit types vars vs → ItemsFit vars t args
    → cut_items before t args ≡ Ok cut → ValuesFit types vars (message_from vs cut).0 × FieldsFit types told t (message_from vs cut).1
message_behind types vars vs before told NoFields [] cut sizes fits h e = subst (λ (cut : List Actual). ValuesFit types vars (message_from vs cut).0 × FieldsFit types told NoFields (message_from vs cut).1) (the_actuals [] cut e) (fits, tt)
message_behind types vars vs before told NoFields (a ∷ more) cut sizes fits h e = absurd h
message_behind types vars vs before told (FieldThen s r n rest) [] cut sizes fits h e = absurd h
message_behind types vars vs before told (FieldThen s r n rest) (a ∷ more) cut sizes fits h e =
    let i = parts (cut_item before (sizing_place n) a) _ cut e in
    let is = parts (cut_items (before ++ i.0 ∷ []) rest more) _ cut i.2 in
    let one = item_from_fits types vars vs s (elements_behind told (sizing_place n) n) i.0 fits (item_cut_fits vars s (sizing_place n) n a i.0 before told sizes h.0 i.1) in
    let next = (item_from vs i.0).1 in
    let others = message_behind types vars (item_from vs i.0).0 (before ++ i.0 ∷ []) (told ++ next ∷ []) rest more is.0 (one_more before told i.0 next sizes (size_kept vs i.0)) one.0 h.1 is.1 in
    subst (λ (cut : List Actual). ValuesFit types vars (message_from vs cut).0 × FieldsFit types told (FieldThen s r n rest) (message_from vs cut).1) (the_actuals (i.0 ∷ is.0) cut is.2) (others.0, (one.1, others.1))

pub message_fits : (types : Types) (vars : List Variable) (vs : List Item) (t : PortFields) (args cut : List Actual) → ValuesFit types vars vs → ItemsFit vars t args → cut_items [] t args ≡ Ok cut
    → ValuesFit types vars (message_from vs cut).0 × MessageFits types t (message_from vs cut).1
message_fits types vars vs t args cut fits h e = message_behind types vars vs [] [] t args cut tt fits h e

stored_fits : (types : Types) (vars : List Variable) (vs : List Item) (x : Span) (s : FieldKind) (n : ℕ) (m : Item) → ValuesFit types vars vs → sort_at vars x.variable ≡ Some s → ItemFits types s n m → ValuesFit types vars (stored vs x m).0
stored_fits types vars vs x Integer n (Words ns) fits is h = written_fits types vars vs x.variable x.first ns (λ e. absurd (cc (the_sort Integer Logical (sym is ∙ e)))) fits
stored_fits types vars vs x Logical n (Words ns) fits is h = written_fits types vars vs x.variable x.first ns (λ e. h.1) fits
stored_fits types vars vs x (In t) n (Words ns) fits is h = absurd h
stored_fits types vars vs x (Out t) n (Words ns) fits is h = absurd h
stored_fits types vars vs x Integer n (Ports ps) fits is h = absurd h
stored_fits types vars vs x Logical n (Ports ps) fits is h = absurd h
stored_fits types vars vs x (In t) n (Ports ps) fits is h = (exchange_all_fits types vars vs x.variable x.first ps fits (at_all types vars x.variable (In t) is ps h.1)).0
stored_fits types vars vs x (Out t) n (Ports ps) fits is h = (exchange_all_fits types vars vs x.variable x.first ps fits (at_all types vars x.variable (Out t) is ps h.1)).0

stored_behind : (types : Types) (vars : List Variable) (vs : List Item) (told : Message) (t : PortFields) (xs : List Span) (m : Message) → ValuesFit types vars vs → PlacesFit vars t xs → FieldsFit types told t m → ValuesFit types vars (stored_all vs xs m).0
stored_behind types vars vs told t [] [] fits h g = fits
stored_behind types vars vs told t (x ∷ xs) [] fits h g = fits
stored_behind types vars vs told t [] (m ∷ ms) fits h g = fits
stored_behind types vars vs told NoFields (x ∷ xs) (m ∷ ms) fits h g = absurd g
stored_behind types vars vs told (FieldThen s r n rest) (x ∷ xs) (m ∷ ms) fits h g =
    stored_behind types vars (stored vs x m).0 (told ++ m ∷ []) rest xs ms (stored_fits types vars vs x s (elements_behind told (sizing_place n) n) m fits h.0 g.0) h.1 g.1

pub stored_all_fits : (types : Types) (vars : List Variable) (vs : List Item) (t : PortFields) (xs : List Span) (m : Message) → ValuesFit types vars vs → PlacesFit vars t xs → MessageFits types t m → ValuesFit types vars (stored_all vs xs m).0
stored_all_fits types vars vs t xs m fits h g = stored_behind types vars vs [] t xs m fits h g

-- the ports that were made may stand at their places
abbrev pub MayBePlaced : Types → List Variable → List Span → List PortValue → Type 0
MayBePlaced types vars xs [] = Unit {0}
MayBePlaced types vars [] (p ∷ ps) = Unit {0}
MayBePlaced types vars (x ∷ xs) (p ∷ ps) = MayStandAt types vars x.variable (Some p) × MayBePlaced types vars xs ps

pub placed_fits : (types : Types) (vars : List Variable) (vs : List Item) (xs : List Span) (ps : List PortValue) → ValuesFit types vars vs → MayBePlaced types vars xs ps → ValuesFit types vars (placed_all vs xs ps).0
placed_fits types vars vs [] [] fits h = fits
placed_fits types vars vs (x ∷ xs) [] fits h = fits
placed_fits types vars vs [] (p ∷ ps) fits h = fits
placed_fits types vars vs (x ∷ xs) (p ∷ ps) fits h = placed_fits types vars (put_port vs x (Some p)).0 xs ps (exchange_fits types vars vs x.variable x.first (Some p) fits h.0).0 h.1

-- ---- copying back

-- both frames hold what they may
abbrev pub BothFit : Types → (mine theirs : List Variable) → Returned → Type 0
BothFit types mine theirs r = ValuesFit types mine r.mine × ValuesFit types theirs r.theirs

settled_fits : (types : Types) (mine theirs : List Variable) (r : Returned) (i k : ℕ) (vs : List Item) (p : Option PortValue) → BothFit types mine theirs r → ValuesFit types theirs vs → MayStandAt types mine i p → BothFit types mine theirs (settled r i k vs p)
settled_fits types mine theirs r i k vs None both h g = both
settled_fits types mine theirs r i k vs (Some p) both h g = ((exchange_fits types mine r.mine i k (Some p) both.0 g).0, h)

port_back_fits : (types : Types) (mine theirs : List Variable) (r : Returned) (f j i k : ℕ) → sort_at theirs f ≡ sort_at mine i → BothFit types mine theirs r → BothFit types mine theirs (port_back r f j i k)
port_back_fits types mine theirs r f j i k same both =
    let on = exchange_fits types theirs r.theirs f j None both.1 (null_stands types theirs f) in
    settled_fits types mine theirs r i k (exchange r.theirs f j None).0 (exchange r.theirs f j None).1 both on.0 (λ s is. on.1 s (same ∙ is))

ports_back_fits : (types : Types) (mine theirs : List Variable) (r : Returned) (f j i k n : ℕ) → sort_at theirs f ≡ sort_at mine i → BothFit types mine theirs r → BothFit types mine theirs (ports_back r f j i k n)
ports_back_fits types mine theirs r f j i k zero same both = both
ports_back_fits types mine theirs r f j i k (suc n) same both = ports_back_fits types mine theirs (port_back r f j i k) f (suc j) i (suc k) n same (port_back_fits types mine theirs r f j i k same both)

-- the words of a logical variable are 0 and 1
bits_of : (types : Types) (vars : List Variable) (vs : List Item) (i : ℕ) (ws : List ℤ) → ValuesFit types vars vs → items_at vs i ≡ Words ws → sort_at vars i ≡ Some Logical → AllIn IsBit ws
bits_of types [] vs i ws fits is e = absurd (cc)
bits_of types (v ∷ vars) [] i ws fits is e = absurd fits
bits_of types (v ∷ vars) (x ∷ xs) zero ws fits is e = go (sort_of_variable v) x fits.0 (the_sort (sort_of_variable v) Logical e) is
  where
    go : (s : FieldKind) (x : Item) → ItemFits types s v.words x → s ≡ Logical → x ≡ Words ws → AllIn IsBit ws
    go Logical (Words us) h e' is' = subst (AllIn IsBit) (cc is') h.1
    go Logical (Ports ps) h e' is' = absurd h
    go Integer x h e' is' = absurd (cc e')
    go (In t) x h e' is' = absurd (cc e')
    go (Out t) x h e' is' = absurd (cc e')
bits_of types (v ∷ vars) (x ∷ xs) (suc i) ws fits is e = bits_of types vars xs i ws fits.1 is e

bits_take : (n : ℕ) (ws : List ℤ) → AllIn IsBit ws → AllIn IsBit (take n ws)
bits_take zero ws all = tt
bits_take (suc n) [] all = tt
bits_take (suc n) (w ∷ ws) all = (all.0, bits_take n ws all.1)

one_back_fits : (types : Types) (mine theirs : List Variable) (r : Returned) (b : Back) (v : Item) → items_at r.theirs b.formal ≡ v → BackFits mine theirs b → BothFit types mine theirs r → BothFit types mine theirs (one_back r b v)
one_back_fits types mine theirs r b (Words ws) is same both =
    (written_fits types mine r.mine b.place.variable b.place.first (take b.place.count ws) (λ e. bits_take b.place.count ws (bits_of types theirs r.theirs b.formal ws both.1 is (same ∙ e))) both.0, both.1)
one_back_fits types mine theirs r b (Ports ps) is same both = ports_back_fits types mine theirs r b.formal 0 b.place.variable b.place.first b.place.count same both

pub all_back_fits : (types : Types) (mine theirs : List Variable) (r : Returned) (bs : List Back) → AllIn (BackFits mine theirs) bs → BothFit types mine theirs r → BothFit types mine theirs (all_back r bs)
all_back_fits types mine theirs r [] all both = both
all_back_fits types mine theirs r (b ∷ bs) all both = all_back_fits types mine theirs (one_back r b (items_at r.theirs b.formal)) bs all.1 (one_back_fits types mine theirs r b (items_at r.theirs b.formal) refl all.0 both)

-- ---- entering

entered_one_fits : (types : Types) (mine : List Variable) (u : ProgramUnit) (n : ℕ) (a : Actual) (r : Returned) → EntersAs mine u n a → BothFit types mine u.names.variables r → BothFit types mine u.names.variables (entered_one u n a r)
entered_one_fits types mine u n (Given ws None) r same both = (both.0, written_fits types u.names.variables r.theirs (formal_place u n) 0 ws same both.1)
entered_one_fits types mine u n (Given ws (Some x)) r same both = (both.0, written_fits types u.names.variables r.theirs (formal_place u n) 0 ws same.0 both.1)
entered_one_fits types mine u n (Taken x) r same both =
    let out = taken_fits types mine r.mine x both.0 in
    (out.0, (exchange_all_fits types u.names.variables r.theirs (formal_place u n) 0 (taken_ports r.mine x).1 both.1 (over (taken_ports r.mine x).1 out.1)).0)
  where
    over : (ps : List (Option PortValue)) → AllIn (MayStandAt types mine x.variable) ps → AllIn (MayStandAt types u.names.variables (formal_place u n)) ps
    over [] all = tt
    over (p ∷ ps) all = ((λ s is. all.0 s (sym same ∙ is)), over ps all.1)

entered_all_fits : (types : Types) (mine : List Variable) (u : ProgramUnit) (n : ℕ) (args : List Actual) (r : Returned) → EnterFrom mine u n args → BothFit types mine u.names.variables r → BothFit types mine u.names.variables (entered_all u n args r)
entered_all_fits types mine u n [] r all both = both
entered_all_fits types mine u n (a ∷ more) r all both = entered_all_fits types mine u (suc n) more (entered_one u n a r) all.1 (entered_one_fits types mine u n a r all.0 both)

nulls_fit : (types : Types) (s : FieldKind) (n : ℕ) → AllIn (MayStand types s) (replicate n None)
nulls_fit types s zero = tt
nulls_fit types s (suc n) = (tt, nulls_fit types s n)

zeros_length : (n : ℕ) → length (replicate n (pos 0)) ≡ n
zeros_length zero = refl
zeros_length (suc n) = ap suc (zeros_length n)

zeros_bits : (n : ℕ) → AllIn IsBit (replicate n (pos 0))
zeros_bits zero = tt
zeros_bits (suc n) = (tt, zeros_bits n)

unset_fits : (types : Types) (k : Kind) (n : ℕ) → ItemFits types (reading.kind_of k) n (unset k n)
unset_fits types kind.Integer n = zeros_length n
unset_fits types kind.Logical n = (zeros_length n, zeros_bits n)
unset_fits types (kind.In t) n = (nulls_length n, nulls_fit types (In t) n)
unset_fits types (kind.Out t) n = (nulls_length n, nulls_fit types (Out t) n)

pub all_unset_fits : (types : Types) (vars : List Variable) → ValuesFit types vars (all_unset vars)
all_unset_fits types [] = tt
all_unset_fits types (v ∷ vars) = (unset_fits types v.kind v.words, all_unset_fits types vars)

pub entered_fits : (types : Types) (mine : List Variable) (u : ProgramUnit) (vs : List Item) (args : List Actual) → EnterFrom mine u 1 args → ValuesFit types mine vs → BothFit types mine u.names.variables (entered u vs args)
entered_fits types mine u vs args all fits = entered_all_fits types mine u 1 args (record { mine = vs; theirs = all_unset u.names.variables; drops = [] }) all (fits, all_unset_fits types u.names.variables)

AllIn-append : {X : Type 0} (Fact : X → Type 0) (xs ys : List X) → AllIn Fact xs → AllIn Fact ys → AllIn Fact (xs ++ ys)
AllIn-append Fact [] ys h g = g
AllIn-append Fact (x ∷ xs) ys h g = (h.0, AllIn-append Fact xs ys h.1 g)

back_for_fits : (mine : List Variable) (u : ProgramUnit) (n : ℕ) (a : Actual) → EntersAs mine u n a → AllIn (BackFits mine u.names.variables) (back_for u n (back_place a))
back_for_fits mine u n (Given ws None) same = tt
back_for_fits mine u n (Given ws (Some x)) same = elim (is_input u n) as (λ b. AllIn (BackFits mine u.names.variables) (cond b [] (record { formal = formal_place u n; place = x } ∷ []))) [ true ↦ tt | false ↦ (same.1, tt) ]
back_for_fits mine u n (Taken x) same = elim (is_input u n) as (λ b. AllIn (BackFits mine u.names.variables) (cond b [] (record { formal = formal_place u n; place = x } ∷ []))) [ true ↦ tt | false ↦ (same, tt) ]

backs_from_fit : (mine : List Variable) (u : ProgramUnit) (n : ℕ) (args : List Actual) → EnterFrom mine u n args → AllIn (BackFits mine u.names.variables) (backs_from u n args)
backs_from_fit mine u n [] all = tt
backs_from_fit mine u n (a ∷ more) all = AllIn-append (BackFits mine u.names.variables) (back_for u n (back_place a)) (backs_from u (suc n) more) (back_for_fits mine u n a all.0) (backs_from_fit mine u (suc n) more all.1)

pub backs_fit : (mine : List Variable) (u : ProgramUnit) (args : List Actual) → EnterFrom mine u 1 args → AllIn (BackFits mine u.names.variables) (backs_of u args)
backs_fit mine u args all = backs_from_fit mine u 1 args all

-- ---- the end of a process

nulled : (types : Types) (s : FieldKind) (ps : List (Option PortValue)) → AllIn (MayStand types s) (nulls ps)
nulled types s [] = tt
nulled types s (p ∷ ps) = (tt, nulled types s ps)

null_count : (ps : List (Option PortValue)) → length (nulls ps) ≡ length ps
null_count [] = refl
null_count (p ∷ ps) = ap suc (null_count ps)

null_item_fits : (types : Types) (s : FieldKind) (n : ℕ) (v : Item) → ItemFits types s n v → ItemFits types s n (null_item v)
null_item_fits types s n (Words ws) fits = fits
null_item_fits types Integer n (Ports ps) fits = absurd fits
null_item_fits types Logical n (Ports ps) fits = absurd fits
null_item_fits types (In t) n (Ports ps) fits = (null_count ps ∙ fits.0, nulled types (In t) ps)
null_item_fits types (Out t) n (Ports ps) fits = (null_count ps ∙ fits.0, nulled types (Out t) ps)

pub kept_fits : (types : Types) (vars : List Variable) (vs : List Item) → ValuesFit types vars vs → ValuesFit types vars (kept vars vs).0
kept_fits types [] [] fits = tt
kept_fits types [] (x ∷ xs) fits = absurd fits
kept_fits types (v ∷ vars) [] fits = absurd fits
kept_fits types (v ∷ vars) (x ∷ xs) fits = go (is_kept v) (kept_fits types vars xs fits.1)
  where
    go : (b : Bool) → ValuesFit types vars (kept vars xs).0 → ValuesFit types (v ∷ vars) (cond {A = List Item × List PortValue} b (x ∷ (kept vars xs).0, (kept vars xs).1) (null_item x ∷ (kept vars xs).0, item_ports x ++ (kept vars xs).1)).0
    go true h = (fits.0, h)
    go false h = (null_item_fits types (sort_of_variable v) v.words x fits.0, h)
