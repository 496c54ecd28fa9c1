use Rattle.std.proofs.Common.{◌≡◌, ◌++◌, ◌∷◌, [], ℤ, List, ap, refl, ◌∙◌, arith, rules}
use Rattle.fm_mean.specs.Actions.{results_in, scalar_place}
use Rattle.fm_plain_frame.specs.Frames.{frame_of}
use Rattle.fm_plain_frame.specs.Units.{unit_of}
use Rattle.fm_plain.specs.Standing.{below_in, frame_in, program_in, standing}
use Rattle.fm_plain.proofs.ReturnLaws.{frames_stay, left_result, on_err, word_here}
use Rattle.fm_plain.proofs.returning.results_in.Goals as goal

pub returns-in_err-push-clause-err : goal.returns-in_err-push-clause-err
returns-in_err-push-clause-err c =
    let p = program_in c.args.here.now in
    let g = c.index_mut.result.now in
    on_err c.from_residual.result
    (frames_stay p p c.args.top.now g _ c.args.top.now c.args.below.now.items c.in-Some.last refl c.index_mut.ensures.value
    (ap (λ (ns : List ℤ). record (frame_of p g) { results = ns }) c.in_err-push.ensures.items) refl)

pub returns-clause-acts : goal.returns-clause-acts
returns-clause-acts c =
    let p = program_in c.args.here.now in
    let u = unit_of c.args.here.now.unit in
    let f = c.args.top.now in
    let g = c.index_mut.result.now in
    let bs = c.args.below.now.items in
    let added : c.push.new.self.items ≡ g.results.items ++ c.number_at-word.result ∷ [] = search rules in
    λ w. c.lets_go.ensures w (standing p f bs) (standing p c.replace.new.dest c.pop.new.self.items) (results_in w u (frame_in c.args.here.now f) (below_in c.args.here.now bs))
    (left_result p w u f g _ c.replace.new.dest c.in-Some-pop.caller c.replace.result bs c.pop.new.self.items c.in-Some.last c.number_at-word.result c.new.result.items _
    (omega (arith, c.in-Some.ensures, c.len.ensures)) c.index_mut.ensures.value c.in-Some-pop.ensures.items c.replace.ensures.after c.replace.ensures.value
    (ap (λ (ns : List ℤ). record (frame_of p g) { results = ns }) added)
    (word_here c.args.here.now f c.requires c.variables.result.now c.as_slice.result.now c.scalar_place-place.result c.variables.ensures.variables c.as_slice.ensures.value c.number_at-word.result c.number_at-word.ensures
    (c.scalar_place-place.ensures ∙ ap scalar_place c.result_variable.ensures))
    c.new.ensures.items (c.put_out_with-ports.ensures p))
