use Rattle.std.proofs.Common.{◌≡◌, Some, [], ap, sym, subst, refl, ◌∙◌, ◌++◌}
use Rattle.std.specs.Prelude.{slice_get}
use Rattle.std.proofs.lemmas.Option.{get_or_from_slice_get}
use Rattle.fm_net.specs.Machine.{Place}
use Rattle.fm_net.specs.Starts.{child_places}
use Rattle.fm_run.specs.Orders.{can_in}
use Rattle.fm_run.specs.Pieces.{IsPiece}
use Rattle.fm_procs.specs.Readings.{actor_place, order_of, state_of}
use Rattle.fm_run_code.specs.Played.{played}
use Rattle.fm_run_code.proofs.Standing.{steps_alike}
use Rattle.fm_run_code.proofs.Pieces.{new_along}
use Rattle.fm_run_code.proofs.Sound.{piece_made, sound_after}
use Rattle.fm_run_code.proofs.net.CodeNetNet.make_piece.Goals as goal

pub make_piece-requires-clause-new : goal.make_piece-requires-clause-new
make_piece-requires-clause-new g c =
    let net = c.args.self.now in
    let p = c.args.program.now in
    let P = g.S.Coded.play p in
    let C = g.S.Coded.Corresponds p in
    let L = g.S.Coded.IsLive p in
    let coded = g.met.S.Coded.is_coded p in
    new_along P C L coded (played P net.history (order_of net.stacks.entries)) (state_of net.stacks) c.requires.sound.stands (actor_place c.in_ok-actor.actor)

pub make_piece-requires-clause-can : goal.make_piece-requires-clause-can
make_piece-requires-clause-can g c =
    let net = c.args.self.now in
    let p = c.args.program.now in
    let P = g.S.Coded.play p in
    let C = g.S.Coded.Corresponds p in
    let L = g.S.Coded.IsLive p in
    let coded = g.met.S.Coded.is_coded p in
    let ps = order_of net.stacks.entries in
    let s = played P net.history ps in
    steps_alike P C L coded s (state_of net.stacks) c.requires.sound.stands (actor_place c.in_ok-actor.actor)
    ∙ sym (ap (can_in P s) (ap (slice_get ps) (sym c.in_ok-actor.ensures.number) ∙ c.in_ok-actor.ensures.actor)) ∙ c.requires.able

pub returns-clause-sound : goal.returns-clause-sound
returns-clause-sound g c =
    let net = c.args.self.now in
    let p = c.args.program.now in
    let P = g.S.Coded.play p in
    let C = g.S.Coded.Corresponds p in
    let L = g.S.Coded.IsLive p in
    let coded = g.met.S.Coded.is_coded p in
    let ps = order_of net.stacks.entries in
    let q = actor_place c.in_ok-actor.actor in
    let r = c.in_ok-piece.piece in
    sound_after P C L coded net.stacks net.history c.requires.sound c.args.number q (ap (slice_get ps) (sym c.in_ok-actor.ensures.number) ∙ c.in_ok-actor.ensures.actor) c.args.slice c.args.kind.spare r
    c.make_piece.new.procs c.in_ok-piece.ensures.kept c.in_ok-piece.ensures.piece c.in_ok-piece.ensures.order c.args.kind.joins c.requires.joins c.put_piece.new.history c.in_ok-put_piece.ensures.ok

pub returns-clause-order : goal.returns-clause-order
returns-clause-order g c =
    let ps = order_of c.args.self.now.stacks.entries in
    let q = actor_place c.in_ok-actor.actor in
    let r = c.in_ok-piece.piece in
    let who : slice_get ps c.args.number ≡ Some q = ap (slice_get ps) (sym c.in_ok-actor.ensures.number) ∙ c.in_ok-actor.ensures.actor in
    (c.in_ok-piece.ensures.order ∙ ap (λ (z : Place). ps ++ child_places z r.block 1 r.started) (sym (get_or_from_slice_get ps c.args.number q [] who)))

pub returns-clause-piece : goal.returns-clause-piece
returns-clause-piece g c =
    let net = c.args.self.now in
    let p = c.args.program.now in
    let P = g.S.Coded.play p in
    let C = g.S.Coded.Corresponds p in
    let L = g.S.Coded.IsLive p in
    let coded = g.met.S.Coded.is_coded p in
    let ps = order_of net.stacks.entries in
    let q = actor_place c.in_ok-actor.actor in
    let r = c.in_ok-piece.piece in
    let who : slice_get ps c.args.number ≡ Some q = ap (slice_get ps) (sym c.in_ok-actor.ensures.number) ∙ c.in_ok-actor.ensures.actor in
    subst (λ (z : Place). IsPiece P c.args.slice c.args.kind.spare (played P net.history ps) z r (played P c.put_piece.new.history (order_of c.make_piece.new.procs.entries))) (sym (get_or_from_slice_get ps c.args.number q [] who))
    (piece_made P C L coded net.stacks net.history c.requires.sound c.args.number q who c.args.slice c.args.kind.spare r
    c.make_piece.new.procs c.in_ok-piece.ensures.kept c.in_ok-piece.ensures.piece c.in_ok-piece.ensures.order c.args.kind.joins c.requires.joins c.put_piece.new.history c.in_ok-put_piece.ensures.ok r refl)
