-- Room of frames, seen from the last.
use Rattle.std.proofs.Common.{◌≡◌, ◌+◌, refl, List, [], ◌∷◌, ◌++◌, reverse, ap, arith, ◌∙◌}
use Rattle.std.proofs.lemmas.List.{reverse-append}
use Rattle.fm_code.specs.declared.body.Frame.{Frame}
use Rattle.fm_code.specs.declared.code.Code.{Code}
use Rattle.fm_procs.specs.Rooms.{frame_room, frames_room}

one_behind : (c : Code) (ms : List Frame) (m : Frame) → frames_room c (ms ++ m ∷ []) ≡ frame_room c m + frames_room c ms
one_behind c [] m = refl
one_behind c (n ∷ ms) m =
    let more : frames_room c (ms ++ m ∷ []) ≡ frame_room c m + frames_room c ms = one_behind c ms m in
    omega arith

pub frames_room_reverse : (c : Code) (ms : List Frame) → frames_room c (reverse ms) ≡ frames_room c ms
frames_room_reverse c [] = refl
frames_room_reverse c (m ∷ ms) = ap (frames_room c) (reverse-append (m ∷ []) ms) ∙ (one_behind c (reverse ms) m ∙ ap (λ n. frame_room c m + n) (frames_room_reverse c ms))
