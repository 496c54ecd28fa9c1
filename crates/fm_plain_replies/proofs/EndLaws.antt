-- The end of a process whose own frame is the last.
use Rattle.std.proofs.Common.{◌≡◌, ◌<◌, ◌+◌, Option, Some, option_map, option_to_list, List, [], ◌∷◌, ◌++◌, length, map, reverse, get_or, set, take, drop, arith, refl, sym, ap, ◌∙◌, append_assoc, append-nil}
use mathlib.Core.List.{reverse-cons}
use Rattle.std.proofs.Math.Seq.{drop-nil, take-nil}
use Rattle.fm_base.specs.declared.port.PortValue.{PortValue}
use Rattle.fm_base.specs.Channels.{item_ports, message_ports}
use Rattle.fm_tree.specs.declared.port_type.Kind.{Kind}
use Rattle.fm_tree.specs.declared.port_type.Kind.TheVariants as kind
use Rattle.fm_symbols.specs.declared.names.Variable.{Variable}
use Rattle.fm_rules.specs.declared.program.Program.{Program}
use Rattle.fm_mean.specs.Calls.{ended_frames}
use Rattle.fm_mean.specs.Process.{Frame, frame_ports, frames_ports, started_ports}
use Rattle.fm_mean.specs.Fits.{variables_of}
use Rattle.fm_mean.specs.Places.{live}
use Rattle.fm_plain_frame.specs.declared.frame.Frame as memory
use Rattle.fm_plain_frame.specs.declared.frame.Start as memory_start
use Rattle.fm_plain_frame.specs.declared.word.Word.{Word}
use Rattle.fm_plain_frame.specs.Frames.{frame_of, frames_of, start_of}
use Rattle.fm_plain_frame.specs.Memory.{item_by, values_of}
use Rattle.fm_plain_replies.specs.Ends.{own_end, own_ports}

pub ended_stays : (p : Program) (fs : List Frame) (g : Frame) → (ended_frames p (fs ++ g ∷ [])).0 ≡ own_end p g ∷ []
ended_stays p [] g = refl
ended_stays p (f ∷ []) g = refl
ended_stays p (f ∷ h ∷ fs) g = ended_stays p (h ∷ fs) g

pub ended_goes : (p : Program) (fs : List Frame) (g : Frame) → (ended_frames p (fs ++ g ∷ [])).1 ≡ frames_ports fs ++ (own_ports p g ++ started_ports g.starts)
ended_goes p [] g = refl
ended_goes p (f ∷ []) g = sym (append_assoc (frame_ports f) [] (own_ports p g ++ started_ports g.starts))
ended_goes p (f ∷ h ∷ fs) g =
    ap (λ (zs : List PortValue). frame_ports f ++ zs) (ended_goes p (h ∷ fs) g) ∙ sym (append_assoc (frame_ports f) (frames_ports (h ∷ fs)) (own_ports p g ++ started_ports g.starts))

-- Starts are let go with a frame that has no words.

no_item : (k : Kind) (ws : List Word) → ws ≡ [] → item_ports (item_by k ws) ≡ []
no_item kind.Integer ws none = refl
no_item kind.Logical ws none = refl
no_item (kind.In t) ws none = ap (λ (us : List Word). item_ports (item_by (kind.In t) us)) none
no_item (kind.Out t) ws none = ap (λ (us : List Word). item_ports (item_by (kind.Out t) us)) none

pub no_words : (vs : List Variable) → message_ports (values_of vs []) ≡ []
no_words [] = refl
no_words (v ∷ vs) =
    (λ i. no_item v.kind (take v.words (drop v.first [])) (ap (take v.words) (drop-nil v.first) ∙ take-nil v.words) i ++ no_words vs i)

pub starts_go : (p : Program) (replaced taken : List (Option PortValue)) (below : List memory.Frame) (f : memory.Frame) → replaced ≡ [] → taken ≡ [] → below ≡ [] → message_ports (values_of (variables_of p f.unit) f.memory.items) ≡ []
    → live replaced ++ frames_ports (frames_of p (Some f) below) ++ live taken ≡ started_ports (map (start_of p) f.starts.items)
starts_go p replaced taken below f no_replaced no_taken no_below no_values =
    (λ i. live (no_replaced i) ++ frames_ports (frames_of p (Some f) (no_below i)) ++ live (no_taken i))
    ∙ append-nil (frames_ports (frame_of p f ∷ []))
    ∙ append-nil (frame_ports (frame_of p f))
    ∙ ap (λ (zs : List PortValue). zs ++ started_ports (map (start_of p) f.starts.items)) no_values

-- The outermost frame of several is the own one.

outermost_last : (p : Program) (top : Option memory.Frame) (b : memory.Frame) (bs : List memory.Frame) → frames_of p top (b ∷ bs) ≡ frames_of p top bs ++ frame_of p b ∷ []
outermost_last p top b bs =
    ap (λ (fs : List Frame). option_to_list (option_map (frame_of p) top) ++ fs) (reverse-cons (frame_of p b) (map (frame_of p) bs))
    ∙ sym (append_assoc (option_to_list (option_map (frame_of p) top)) (reverse (map (frame_of p) bs)) (frame_of p b ∷ []))

pub own_stays : (p : Program) (top : Option memory.Frame) (below none : List memory.Frame) (old new own d : memory.Frame) → 0 < length below → old ≡ get_or below 0 d → own ≡ get_or (set below 0 new) 0 own → none ≡ []
    → frame_of p new ≡ own_end p (frame_of p old) → frames_of p (Some own) none ≡ (ended_frames p (frames_of p top below)).0
own_stays p top [] none old new own d some was is empty ends = absurd (omega arith)
own_stays p top (b ∷ bs) none old new own d some was is empty ends =
    (λ i. frames_of p (Some (is i)) (empty i))
    ∙ (λ i. ends i ∷ [])
    ∙ (λ i. own_end p (frame_of p (was i)) ∷ [])
    ∙ sym (ended_stays p (frames_of p top bs) (frame_of p b))
    ∙ ap (λ (fs : List Frame). (ended_frames p fs).0) (sym (outermost_last p top b bs))

pub others_go : (p : Program) (top innermost : Option memory.Frame) (below others : List memory.Frame) (old new d : memory.Frame) (ports : List (Option PortValue)) (starts : List memory_start.Start) (zs : List PortValue) → 0 < length below
    → old ≡ get_or below 0 d → innermost ≡ top → others ≡ take 0 (set below 0 new) ++ drop (0 + 1) (set below 0 new) → live ports ≡ own_ports p (frame_of p old) → map (start_of p) starts ≡ (frame_of p old).starts
    → zs ≡ frames_ports (frames_of p innermost others) ++ (live ports ++ started_ports (map (start_of p) starts)) → zs ≡ (ended_frames p (frames_of p top below)).1
others_go p top innermost [] others old new d ports starts zs some was same rest lost waits are = absurd (omega arith)
others_go p top innermost (b ∷ bs) others old new d ports starts zs some was same rest lost waits are =
    are
    ∙ (λ i. frames_ports (frames_of p (same i) (rest i)) ++ (lost i ++ started_ports (waits i)))
    ∙ (λ i. frames_ports (frames_of p top bs) ++ (own_ports p (frame_of p (was i)) ++ started_ports (frame_of p (was i)).starts))
    ∙ sym (ended_goes p (frames_of p top bs) (frame_of p b))
    ∙ ap (λ (fs : List Frame). (ended_frames p fs).1) (sym (outermost_last p top b bs))
