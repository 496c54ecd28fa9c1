use Rattle.std.proofs.Common.{◌≡◌, [], Some, ap, sym, subst, ◌∙◌, ◌++◌}
use Rattle.std.specs.Prelude.{slice_get}
use Rattle.std.proofs.lemmas.Option.{get_or_from_slice_get}
use Rattle.fm_net.specs.Machine.{Place}
use Rattle.fm_net.specs.Starts.{child_places}
use Rattle.fm_run.specs.Programs.{IsPiece, can_in, play_of}
use Rattle.fm_run.proofs.Playing.{known_place}
use Rattle.fm_plain_net.specs.Readings.{actor_place, order_of, state_of}
use Rattle.fm_plain_net.proofs.Sound.{new_reached}
use Rattle.fm_plain_net.proofs.net.TreeNetNet.make_piece.Goals as goal

pub actor-requires : goal.actor-requires
actor-requires c =
    let P = c.args.program.now in
    let trees = c.args.self.now.trees in
    known_place (play_of P) (state_of P trees) (order_of trees.entries) c.args.number c.requires.able

pub make_piece-requires-clause-told : goal.make_piece-requires-clause-told
make_piece-requires-clause-told c = c.requires.sound.told

pub make_piece-requires-clause-families : goal.make_piece-requires-clause-families
make_piece-requires-clause-families c = c.requires.sound.families

pub make_piece-requires-clause-fits : goal.make_piece-requires-clause-fits
make_piece-requires-clause-fits c = c.requires.sound.fits

pub make_piece-requires-clause-can : goal.make_piece-requires-clause-can
make_piece-requires-clause-can c =
    let P = c.args.program.now in
    let trees = c.args.self.now.trees in
    sym (ap (can_in P (state_of P trees)) (ap (slice_get (order_of trees.entries)) (sym c.in_ok-actor.ensures.number) ∙ c.in_ok-actor.ensures.actor)) ∙ c.requires.able

pub make_piece-requires-clause-new : goal.make_piece-requires-clause-new
make_piece-requires-clause-new c = new_reached c.args.program.now (state_of c.args.program.now c.args.self.now.trees) (actor_place c.in_ok-actor.actor) c.requires.reached

pub returns-clause-sound : goal.returns-clause-sound
returns-clause-sound c = record { told = c.in_ok-piece.ensures.told; families = c.in_ok-piece.ensures.families; fits = c.in_ok-piece.ensures.fits }

pub returns-clause-order : goal.returns-clause-order
returns-clause-order c =
    let trees = c.args.self.now.trees in
    let ps = order_of trees.entries in
    let p = actor_place c.in_ok-actor.actor in
    let r = c.in_ok-piece.piece in
    let who : slice_get ps c.args.number ≡ Some p = ap (slice_get ps) (sym c.in_ok-actor.ensures.number) ∙ c.in_ok-actor.ensures.actor in
    c.in_ok-piece.ensures.order ∙ ap (λ (q : Place). ps ++ child_places q r.block 1 r.started) (sym (get_or_from_slice_get ps c.args.number p [] who))

pub returns-clause-piece : goal.returns-clause-piece
returns-clause-piece c =
    let P = c.args.program.now in
    let trees = c.args.self.now.trees in
    let ps = order_of trees.entries in
    let p = actor_place c.in_ok-actor.actor in
    let who : slice_get ps c.args.number ≡ Some p = ap (slice_get ps) (sym c.in_ok-actor.ensures.number) ∙ c.in_ok-actor.ensures.actor in
    subst (λ (q : Place). IsPiece P c.args.slice c.args.kind.spare (state_of P trees) q c.in_ok-piece.piece (state_of P c.make_piece.new.self)) (sym (get_or_from_slice_get ps c.args.number p [] who)) c.in_ok-piece.ensures.piece
