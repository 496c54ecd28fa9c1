use Rattle.std.proofs.Common.{false, [], inl, inr, ap, sym, subst, ◌∙◌, arith}
use Rattle.std.specs.Prelude.{slice_index_or}
use Rattle.fm_chan.specs.Woken.{WakesAll}
use Rattle.fm_run.specs.Runs.{AreMade, IsPlayedBy}
use Rattle.fm_run.proofs.Joined.{kept_piece, steps_made}
use Rattle.fm_run.proofs.Playing.{kept_reached, piece_costs, stands_at}
use Rattle.fm_run.proofs.Results.{on_err}
use Rattle.fm_run.proofs.player.Player.keep_given.Goals as goal

pub give_piece-requires-clause-reached : goal.give_piece-requires-clause-reached
give_piece-requires-clause-reached g c =
    let old = c.args.self.now in
    let P = g.N.Net.play c.args.program.now in
    kept_reached P (g.N.Net.history old.net) (g.N.Net.order old.net) (g.N.Net.state c.args.program.now old.net) old.used c.requires.kept

pub returns-clause-sound : goal.returns-clause-sound
returns-clause-sound g c = subst (λ net. g.N.Net.IsSound c.args.program.now net) (sym c.in_ok-keep_made.ensures.net) c.in_ok-piece.ensures.sound

pub returns-clause-kept : goal.returns-clause-kept
returns-clause-kept g c =
    let old = c.args.self.now in
    let P = g.N.Net.play c.args.program.now in
    let n = c.args.number in
    let ps = g.N.Net.order old.net in
    let s = g.N.Net.state c.args.program.now old.net in
    let p = slice_index_or ps n [] in
    let r = c.in_ok-piece.piece in
    let later = c.give_piece.new.self in
    let paid = c.keep_made.new.self.used in
    subst (λ net. IsPlayedBy P (g.N.Net.history net) (g.N.Net.order net) (g.N.Net.state c.args.program.now net) paid) (sym c.in_ok-keep_made.ensures.net)
    (kept_piece P (g.N.Net.history old.net) ps s old.used c.requires.kept n p (stands_at P s ps n c.requires.able) _ _ r (g.N.Net.state c.args.program.now later) c.in_ok-piece.ensures.piece
    false (λ e. absurd (cc (sym e))) (g.N.Net.history later) c.in_ok-piece.ensures.history (g.N.Net.order later) c.in_ok-piece.ensures.order paid c.in_ok-keep_made.ensures.used)

pub returns-clause-used : goal.returns-clause-used
returns-clause-used g c =
    let old = c.args.self.now in
    let P = g.N.Net.play c.args.program.now in
    omega (arith, c.in_ok-keep_made.ensures.used, piece_costs P (g.met.N.Net.lawful c.args.program.now old.net c.requires.sound) _ _ (g.N.Net.state c.args.program.now old.net) (g.N.Net.state c.args.program.now c.give_piece.new.self) _ c.in_ok-piece.piece c.in_ok-piece.ensures.piece)

pub returns-clause-history : goal.returns-clause-history
returns-clause-history g c = ap (λ net. g.N.Net.history net) c.in_ok-keep_made.ensures.net ∙ c.in_ok-piece.ensures.history

pub returns-clause-made : goal.returns-clause-made
returns-clause-made g c =
    let old = c.args.self.now in
    let P = g.N.Net.play c.args.program.now in
    let n = c.args.number in
    let ps = g.N.Net.order old.net in
    let s = g.N.Net.state c.args.program.now old.net in
    let r = c.in_ok-piece.piece in
    let later = c.give_piece.new.self in
    subst (λ net. AreMade P n r.steps s ps (g.N.Net.state c.args.program.now net) (g.N.Net.order net)) (sym c.in_ok-keep_made.ensures.net)
    (steps_made P _ _ n s (g.N.Net.state c.args.program.now later) ps (g.N.Net.order later) (slice_index_or ps n []) r (stands_at P s ps n c.requires.able) c.in_ok-piece.ensures.piece c.in_ok-piece.ensures.order)

pub returns-clause-full : goal.returns-clause-full
returns-clause-full g c = c.in_ok-piece.ensures.piece.full

pub returns-clause-some_steps : goal.returns-clause-some_steps
returns-clause-some_steps g c = c.in_ok-piece.ensures.piece.some_steps

pub returns-clause-numbered : goal.returns-clause-numbered
returns-clause-numbered g c =
    let old = c.args.self.now in
    let P = g.N.Net.play c.args.program.now in
    let n = c.args.number in
    let ps = g.N.Net.order old.net in
    c.in_ok-keep_made.ensures.numbered ps (slice_index_or ps n []) (stands_at P (g.N.Net.state c.args.program.now old.net) ps n c.requires.able) c.in_ok-piece.ensures.order c.requires.within c.requires.numbered

pub returns-clause-waking : goal.returns-clause-waking
returns-clause-waking g c = subst (λ net. WakesAll (g.N.Net.channels c.args.self.now.net) (g.N.Net.channels net)) (sym c.in_ok-keep_made.ensures.net) c.in_ok-piece.ensures.waking

-- where the piece was made and its numbers found no memory, the schedule has it

pub returns-in_err-piece-clause-stays : goal.returns-in_err-piece-clause-stays
returns-in_err-piece-clause-stays g c = on_err c.from_residual.result (inl c.in_err-piece.ensures.stays)

pub returns-in_err-keep_made-clause-stays : goal.returns-in_err-keep_made-clause-stays
returns-in_err-keep_made-clause-stays g c = on_err c.from_residual-in_err-keep_made.result (inr (c.in_ok-piece.piece.steps, ap (λ net. g.N.Net.history net) c.keep_made.ensures.net ∙ c.in_ok-piece.ensures.history))
