use Rattle.std.proofs.Common.{true, false, map, refl, ap, ◌∙◌}
use Rattle.fm_mean.specs.Places.{live}
use Rattle.fm_mean.specs.Process.{frames_ports}
use Rattle.fm_plain_frame.specs.Frames.{frame_of}
use Rattle.fm_plain_frame.proofs.Scans.{is_nil}
use Rattle.fm_plain_frame.proofs.ProcessLaws.{none_at_all}
use Rattle.fm_plain_frame.proofs.let_go.LetGo.is_empty.Goals as goal

pub returns-then-not-are_null : goal.returns-then-not-are_null
returns-then-not-are_null c =
    let p = c.args.program.now in
    let l = c.args.self.now in
    none_at_all p l false _ _ _ (c.if-not-are_null.ensures ∙ ap (λ xs. is_nil (live xs)) c.as_slice.ensures.value) refl refl refl

pub returns-then-not-top_has_no_port : goal.returns-then-not-top_has_no_port
returns-then-not-top_has_no_port c =
    let p = c.args.program.now in
    let l = c.args.self.now in
    none_at_all p l true false _ _ (c.if-not-are_null.ensures ∙ ap (λ xs. is_nil (live xs)) c.as_slice.ensures.value) c.if-not-top_has_no_port.ensures refl refl

pub returns-then-not-frames_have_no_port : goal.returns-then-not-frames_have_no_port
returns-then-not-frames_have_no_port c =
    let p = c.args.program.now in
    let l = c.args.self.now in
    none_at_all p l true true false _ (c.if-not-are_null.ensures ∙ ap (λ xs. is_nil (live xs)) c.as_slice.ensures.value) c.if-not-top_has_no_port.ensures
    (c.if-not-frames_have_no_port.ensures ∙ ap (λ fs. is_nil (frames_ports (map (frame_of p) fs))) c.as_slice-2.ensures.value) refl

pub returns : goal.returns
returns c =
    let p = c.args.program.now in
    let l = c.args.self.now in
    none_at_all p l true true true c.are_null-2.result (c.if-not-are_null.ensures ∙ ap (λ xs. is_nil (live xs)) c.as_slice.ensures.value) c.if-not-top_has_no_port.ensures
    (c.if-not-frames_have_no_port.ensures ∙ ap (λ fs. is_nil (frames_ports (map (frame_of p) fs))) c.as_slice-2.ensures.value) (c.are_null-2.ensures ∙ ap (λ xs. is_nil (live xs)) c.as_slice-3.ensures.value)
