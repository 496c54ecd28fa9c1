-- A child that has ended keeps no outport, where its unit keeps none; and it sends no port, where its ports have types without
-- ports.
use Rattle.std.proofs.Common.{◌≡◌, ℕ, Bool, true, false, cond, not, ◌&&◌, ◌||◌, Option, Some, None, List, [], ◌∷◌, ◌++◌, refl, sym, ap, ◌∙◌, arith}
use Rattle.std.specs.List.{filter_map}
use Rattle.fm_base.specs.declared.path.ChanName.{ChanName}
use Rattle.fm_base.specs.declared.port.PortValue.{PortValue}
use Rattle.fm_base.specs.declared.port.PortValue.TheVariants.{Writer, Reader}
use Rattle.fm_base.specs.Channels.{Item, Words, Ports, Message, item_ports, message_ports}
use Rattle.fm_tree.specs.PortFields.{PortFields, FieldKind, NoFields, FieldThen, Integer, Logical, In, Out}
use Rattle.fm_tree.specs.declared.port_type.Kind.{Kind}
use Rattle.fm_tree.specs.declared.port_type.Kind.TheVariants as kind
use Rattle.fm_symbols.specs.declared.names.Variable.{Variable}
use Rattle.fm_net.specs.Machine.{Reply, Ask, Stop, Go}
use Rattle.fm_net.specs.Owned.{one, count}
use Rattle.fm_net.specs.Typed.{AllIn}
use Rattle.fm_net.proofs.Counts.{count-append}
use Rattle.fm_rules.specs.declared.program.Program.{Program}
use Rattle.fm_mean.specs.Names.{unit_at}
use Rattle.fm_mean.specs.Calls.{is_formal, nulls, null_item, kept, variables_in, ended_frames}
use Rattle.fm_mean.specs.Fits.{Types, MayStand, ItemFits, ValuesFit, FieldsFit, MessageFits, variables_of, FramesFit}
use Rattle.fm_mean.specs.Process.{Frame, Proc, is_ended, held, frames_ports}
use Rattle.fm_mean.specs.Actions.{Event, Fail, Make, Send, Receive, Probe, Begin, Join, End, Action, Rest, Own, Meets}
use Rattle.fm_mean.specs.Steps as steps
use Rattle.fm_mean.specs.Steps.{ask_event, ask_for, received}
use Rattle.fm_mean.specs.declared.place.Span.{Span}
use Rattle.fm_tree.specs.PortReading as reading
use Rattle.fm_flow_law.specs.Flow.{is_outport, is_field_port, sends_ports, keeps_outport}
use Rattle.fm_flow_law.proofs.Inside.{BeginsIn}

or_left : (a b : Bool) → (a || b) ≡ false → a ≡ false
or_left true b e = absurd (cc e)
or_left false b e = refl

or_right : (a b : Bool) → (a || b) ≡ false → b ≡ false
or_right true b e = absurd (cc e)
or_right false b e = e

-- ---- messages

item_bare : (types : Types) (s : FieldKind) (n : ℕ) (x : Item) → ItemFits types s n x → is_field_port s ≡ false → item_ports x ≡ []
item_bare types Integer n (Words ws) h e = refl
item_bare types Integer n (Ports ps) h e = absurd h
item_bare types Logical n (Words ws) h e = refl
item_bare types Logical n (Ports ps) h e = absurd h
item_bare types (In t) n x h e = absurd (cc e)
item_bare types (Out t) n x h e = absurd (cc e)

fields_bare : (types : Types) (before : Message) (t : PortFields) (m : Message) → FieldsFit types before t m → sends_ports t ≡ false → message_ports m ≡ []
fields_bare types before NoFields [] h e = refl
fields_bare types before NoFields (x ∷ m) h e = absurd h
fields_bare types before (FieldThen s a n rest) [] h e = absurd h
fields_bare types before (FieldThen s a n rest) (x ∷ m) h e =
    let first = item_bare types s _ x h.0 (or_left (is_field_port s) (sends_ports rest) e) in
    let others = fields_bare types (before ++ x ∷ []) rest m h.1 (or_right (is_field_port s) (sends_ports rest) e) in
    ap (λ ps. ps ++ message_ports m) first ∙ others

pub message_bare : (types : Types) (t : PortFields) (m : Message) → MessageFits types t m → sends_ports t ≡ false → message_ports m ≡ []
message_bare types t m h e = fields_bare types [] t m h e

-- ---- what an ended process keeps

no_writer : (types : Types) (t : PortFields) (c : ChanName) (w : ℕ) (ps : List (Option PortValue)) → AllIn (MayStand types (In t)) ps → count (Writer c w) (filter_map (λ p. p) ps) ≡ 0
unfolding count one
no_writer types t c w [] h = refl
no_writer types t c w (None ∷ ps) h = no_writer types t c w ps h.1
no_writer types t c w (Some (Writer d v) ∷ ps) h = absurd h.0
no_writer types t c w (Some (Reader d) ∷ ps) h = let rest = no_writer types t c w ps h.1 in omega (arith, rest)

count_nil : (z : PortValue) (ps : List PortValue) → ps ≡ [] → count z ps ≡ 0
unfolding count
count_nil z ps e = ap (count z) e

kind_kept : (types : Types) (k : Kind) (n : ℕ) (x : Item) (c : ChanName) (w : ℕ) → ItemFits types (reading.kind_of k) n x → is_outport k ≡ false → count (Writer c w) (item_ports x) ≡ 0
kind_kept types kind.Integer n (Words ws) c w h e = count_nil (Writer c w) [] refl
kind_kept types kind.Integer n (Ports ps) c w h e = absurd h
kind_kept types kind.Logical n (Words ws) c w h e = count_nil (Writer c w) [] refl
kind_kept types kind.Logical n (Ports ps) c w h e = absurd h
kind_kept types (kind.In t) n (Words ws) c w h e = absurd h
kind_kept types (kind.In t) n (Ports ps) c w h e = no_writer types t c w ps h.1
kind_kept types (kind.Out t) n x c w h e = absurd (cc e)

no_nulls : (ps : List (Option PortValue)) → filter_map (λ p. p) (nulls ps) ≡ []
no_nulls [] = refl
no_nulls (p ∷ ps) = no_nulls ps

null_none : (x : Item) → item_ports (null_item x) ≡ []
null_none (Words ws) = refl
null_none (Ports ps) = no_nulls ps

-- of the kept values
values_kept : (types : Types) (vs : List Variable) (xs : List Item) (c : ChanName) (w : ℕ) → ValuesFit types vs xs → keeps_outport vs ≡ false → count (Writer c w) (message_ports (kept vs xs).0) ≡ 0
values_kept types [] [] c w h e = count_nil (Writer c w) [] refl
values_kept types [] (x ∷ xs) c w h e = absurd h
values_kept types (v ∷ vs) [] c w h e = absurd h
values_kept types (v ∷ vs) (x ∷ xs) c w h e =
    go v.input (is_formal v.formal) (is_outport v.kind) refl (or_left (is_outport v.kind && is_formal v.formal && not v.input) (keeps_outport vs) e) (values_kept types vs xs c w h.1 (or_right (is_outport v.kind && is_formal v.formal && not v.input) (keeps_outport vs) e))
  where
    nulled : count (Writer c w) (message_ports (kept vs xs).0) ≡ 0 → count (Writer c w) (item_ports (null_item x) ++ message_ports (kept vs xs).0) ≡ 0
    nulled rest = let both = count-append (Writer c w) (item_ports (null_item x)) (message_ports (kept vs xs).0) in let none = count_nil (Writer c w) (item_ports (null_item x)) (null_none x) in omega (arith, both, none, rest)

    stays : is_outport v.kind ≡ false → count (Writer c w) (message_ports (kept vs xs).0) ≡ 0 → count (Writer c w) (item_ports x ++ message_ports (kept vs xs).0) ≡ 0
    stays out rest = let both = count-append (Writer c w) (item_ports x) (message_ports (kept vs xs).0) in let none = kind_kept types v.kind v.words x c w h.0 out in omega (arith, both, none, rest)

    go : (input formal out : Bool) → is_outport v.kind ≡ out → (out && formal && not input) ≡ false → count (Writer c w) (message_ports (kept vs xs).0) ≡ 0
        → count (Writer c w) (message_ports (cond {A = List Item × List PortValue} (cond input false formal) (x ∷ (kept vs xs).0, (kept vs xs).1) (null_item x ∷ (kept vs xs).0, item_ports x ++ (kept vs xs).1)).0) ≡ 0
    go true formal out is off rest = nulled rest
    go false false out is off rest = nulled rest
    go false true true is off rest = absurd (cc off)
    go false true false is off rest = stays is rest

-- an ended process holds no outport
pub ended_holds_none : (p : Program) (types : Types) (root : ℕ) (c : ChanName) (w : ℕ) (fs : List Frame) → FramesFit p types fs → BeginsIn root fs → keeps_outport (variables_of p root) ≡ false → count (Writer c w) (frames_ports (ended_frames p fs).0) ≡ 0
ended_holds_none p types root c w [] h b e = count_nil (Writer c w) [] refl
ended_holds_none p types root c w (f ∷ []) h b e =
    let vs = (kept (variables_in (unit_at p f.unit)) f.values).0 in
    let none = values_kept types (variables_of p f.unit) f.values c w h.0 (ap (λ n. keeps_outport (variables_of p n)) b ∙ e) in
    let first = count-append (Writer c w) (message_ports vs ++ []) [] in
    let second = count-append (Writer c w) (message_ports vs) [] in
    let nil = count_nil (Writer c w) [] refl in
    omega (arith, first, second, nil, none)
ended_holds_none p types root c w (f ∷ g ∷ fs) h b e = ended_holds_none p types root c w (g ∷ fs) h.2 b e

-- ---- only the end ends a process

abbrev pub EndsByFrames : Program → Proc → Ask Proc → Type 0
EndsByFrames p x Stop = Unit {0}
EndsByFrames p x (Go need f) = (c : ChanName) (r : Reply Proc) → is_ended (f c r).self.phase ≡ true → held (f c r).self ≡ frames_ports (ended_frames p x.execution.frames).0

module _ (p : Program) (x : Proc) (on : is_ended x.phase ≡ false) where
  still : is_ended x.phase ≡ true → ⊥
  still e = absurd (cc (sym on ∙ e))

  taken : (line next : ℕ) (below : List Frame) (f : Frame) (items : List Span) (iostat : Option Span) (to : Option ℕ) (m : Option Message) → is_ended (received x line below f next items iostat to m).self.phase ≡ true → ⊥
  taken line next below f items iostat to (Some m) e = still e
  taken line next below f items None None None e = absurd (cc e)
  taken line next below f items None (Some n) None e = still e
  taken line next below f items (Some s) to None e = still e

  came : (line next : ℕ) (below : List Frame) (f : Frame) (items : List Span) (iostat : Option Span) (to : Option ℕ) (exceeds : Bool) (m : Option Message) → is_ended (steps.met x line below f next items iostat to exceeds m).self.phase ≡ true → ⊥
  came line next below f items iostat to true None e = absurd (cc e)
  came line next below f items iostat to true (Some m) e = taken line next below f items iostat to (Some m) e
  came line next below f items iostat to false m e = taken line next below f items iostat to m e

  by_event : (e : Event) (fs : List Frame) → EndsByFrames p x (ask_event p x e fs)
  by_event e [] = tt
  by_event (Fail line fault) (f ∷ below) = λ c r h. absurd (cc h)
  by_event (Make places n cost next) (f ∷ below) = λ c r h. absurd (still h)
  by_event (Send d w items next) (f ∷ below) = λ c r h. absurd (still h)
  by_event (Receive d line items iostat to next) (f ∷ below) = λ c r h. absurd (came line next below f items iostat to r.exceeds r.message h)
  by_event (Probe d place next) (f ∷ below) = λ c r h. absurd (still h)
  by_event Begin (f ∷ below) = λ c r h. absurd (cc h)
  by_event (Join block kids next) (f ∷ below) = λ c r h. absurd (cc h)
  by_event End (f ∷ below) = λ c r h. refl

  pub ends_by_frames : (a : Action) → EndsByFrames p x (ask_for p x a)
  ends_by_frames Rest = tt
  ends_by_frames (Own w lines drops cost) = λ c r h. absurd (still h)
  ends_by_frames (Meets e) = by_event e x.execution.frames
