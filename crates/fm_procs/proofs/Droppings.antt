-- The ports that a child still has, let go one after the other.
use Rattle.std.proofs.Common.{◌≡◌, ◌+◌, ◌≤◌, ℕ, ℤ, List, [], ◌∷◌, ◌++◌, length, drop, min, sym, ap, arith, append_assoc, append-nil, slice_get, ◌∙◌}
use Rattle.std.specs.List.{flat_map}
use Rattle.std.proofs.lemmas.List.{length-take}
use Rattle.std.proofs.lemmas.List.Elements.{filter-append}
use Rattle.fm_base.specs.declared.port.PortValue.{PortValue}
use Rattle.fm_code.specs.declared.body.Body.{Body}
use Rattle.fm_code.specs.declared.body.Frame.{Frame}
use Rattle.fm_code.specs.declared.body.Start.{Start}
use Rattle.fm_code.specs.declared.code.Code.{Code}
use Rattle.fm_code.specs.declared.code.Span.{Span}
use Rattle.fm_code.specs.Acts.{span_of}
use Rattle.fm_code.specs.Passing.{is_port, live, ports_in}
use Rattle.fm_code.specs.Statements.{ports_of}
use Rattle.fm_proc_language.specs.Slots.{Slots, all_left, vacated}
use Rattle.fm_proc_language.specs.Processes.{frame_words}
use Rattle.fm_proc_slots.specs.Joins.{SamePorts}
use Rattle.fm_proc_slots.proofs.Vacated.{same_vacated, vacated-append}
use Rattle.fm_procs.specs.Rooms.{Sheds, frame_room, frames_room, starts_words, words_by}

-- One after the other.

pub sheds_words : (zs : List ℤ) (s s' : Slots) (d d' : List PortValue) → d' ≡ d ++ vacated s zs → SamePorts (all_left s zs) s' → Sheds zs s d s' d'
sheds_words zs s s' d d' e same = λ others.
    ap (λ l. l ++ vacated s' others) e
    ∙ (append_assoc d (vacated s zs) (vacated s' others)
    ∙ ap (λ l. d ++ l) (ap (λ l. vacated s zs ++ l) (sym (same_vacated others (all_left s zs) s' same)) ∙ sym (vacated-append zs others s)))

pub sheds_more : (all rest zs rest' : List ℤ) (s0 s s' : Slots) (d0 d d' : List PortValue) → ((others : List ℤ) → d ++ vacated s (rest ++ others) ≡ d0 ++ vacated s0 (all ++ others)) → rest ≡ zs ++ rest' → Sheds zs s d s' d' → (others : List ℤ) → d' ++ vacated s' (rest' ++ others) ≡ d0 ++ vacated s0 (all ++ others)
sheds_more all rest zs rest' s0 s s' d0 d d' on is step others =
    step (rest' ++ others)
    ∙ (ap (λ l. d ++ vacated s l) (sym (append_assoc zs rest' others) ∙ ap (λ l. l ++ others) (sym is))
    ∙ on others)

pub next_span : (ws : List ℤ) (s : Span) (ss rest : List Span) → rest ≡ s ∷ ss → ports_in rest ws ≡ live (span_of ws s) ++ ports_in ss ws
next_span ws s ss rest is = ap (λ l. ports_in l ws) is ∙ filter-append is_port (span_of ws s) (flat_map (λ (x : Span). span_of ws x) ss)

pub next_start : (code : Code) (s : Start) (ss rest : List Start) → rest ≡ s ∷ ss → starts_words code rest ≡ ports_in (ports_of (slice_get code.units s.unit)) s.words ++ starts_words code ss
next_start code s ss rest is = ap (starts_words code) is

pub next_frame : (b : Body) (code : Code) (m : Frame) (ms rest : List Frame) → code ≡ b.code → rest ≡ m ∷ ms → flat_map (frame_words b) rest ≡ words_by code m ++ flat_map (frame_words b) ms
next_frame b code m ms rest same is = ap (flat_map (frame_words b)) is ∙ ap (λ c. words_by c m ++ flat_map (frame_words b) ms) (sym same)

pub sheds_all : (zs : List ℤ) (s s' : Slots) (d d' : List PortValue) → Sheds zs s d s' d' → d' ≡ d ++ vacated s zs
sheds_all zs s s' d d' on = sym (append-nil d') ∙ (on [] ∙ ap (λ l. d ++ vacated s l) (append-nil zs))

pub sheds_last : (b : Body) (below : List Frame) (zs : List ℤ) (s s' : Slots) (d d' : List PortValue) → ((others : List ℤ) → d' ++ vacated s' (flat_map (frame_words b) below ++ others) ≡ d ++ vacated s (zs ++ others)) → below ≡ [] → d' ≡ d ++ vacated s zs
sheds_last b below zs s s' d d' on is = sheds_all zs s s' d d' (λ others. ap (λ (l : List Frame). d' ++ vacated s' (flat_map (frame_words b) l ++ others)) (sym is) ∙ on others)

-- Room.

pub frames_left : (code code' : Code) (m : Frame) (ms rest : List Frame) (before after all : ℕ) → code' ≡ code → rest ≡ m ∷ ms → before + frames_room code rest ≤ all → after ≤ before + frame_room code' m → after + frames_room code ms ≤ all
frames_left code code' m ms rest before after all same is on step =
    let parts : frames_room code rest ≡ frame_room code m + frames_room code ms = ap (frames_room code) is in
    let first : frame_room code' m ≡ frame_room code m = ap (λ (c : Code). frame_room c m) same in
    omega arith

pub frame_fits : (code code' : Code) (m : Frame) (ms rest : List Frame) (now all most cap : ℕ) → code' ≡ code → rest ≡ m ∷ ms → now + frames_room code rest ≤ all → all ≤ most → most ≤ cap → now + frame_room code' m ≤ cap
frame_fits code code' m ms rest now all most cap same is on below enough =
    let parts : frames_room code rest ≡ frame_room code m + frames_room code ms = ap (frames_room code) is in
    let first : frame_room code' m ≡ frame_room code m = ap (λ (c : Code). frame_room c m) same in
    omega arith

pub span_length : (ws : List ℤ) (s : Span) → length (span_of ws s) ≤ s.count
span_length ws s =
    let is : length (span_of ws s) ≡ min s.count (length (drop s.first ws)) = length-take s.count (drop s.first ws) in
    omega arith
