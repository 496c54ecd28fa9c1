use Rattle.std.proofs.Common.{◌≡◌, ◌<◌, ◌++◌, ℕ, List, [], true, inr, length, length-append, refl, ap, sym, subst, ◌∙◌, arith, rules}
use Rattle.std.specs.Prelude.{slice_index_or}
use Rattle.fm_chan.proofs.Waking.{wakes_all_then}
use Rattle.fm_net.specs.Machine.{Place}
use Rattle.fm_run.specs.Entries.{turn_of}
use Rattle.fm_run.specs.Orders.{Among}
use Rattle.fm_run.proofs.Joined.{entry_joined, entry_may, entry_may_grow, entry_of}
use Rattle.fm_run.proofs.Playing.{kept_owned, stands_at}
use Rattle.fm_run.proofs.Results.{on_err}
use Rattle.fm_run.proofs.player.Player.keep_steps.Goals as goal

-- numbers that were those of processes are so still
still_within : (ns ms : List ℕ) (ps qs more : List Place) → ms ≡ ns → qs ≡ ps ++ more → ((n : ℕ) → Among n ns → n < length ps) → (n : ℕ) → Among n ms → n < length qs
still_within ns ms ps qs more same longer within n h =
    let low = within n (subst (λ (xs : List ℕ). Among n xs) same h) in
    omega (arith, low, ap length longer, length-append ps more)

pub keep_piece-requires-clause-joins : goal.keep_piece-requires-clause-joins
keep_piece-requires-clause-joins g c = λ e. absurd (cc (sym e))

pub pieces-init : goal.pieces-init
pieces-init g c =
    let P = g.N.Net.play c.args.program.now in
    let old = c.args.self.now in
    let now = c.keep_piece.new.self in
    let made = c.in_ok-done.ensures.made in
    record {
      sound = c.in_ok-done.ensures.sound;
      kept = c.in_ok-done.ensures.kept;
      used = c.in_ok-done.ensures.used;
      entry =
          entry_of P c.args.number c.in_ok-done.done (g.N.Net.state c.args.program.now old.net) (g.N.Net.state c.args.program.now now.net) (g.N.Net.order old.net) (g.N.Net.order now.net) (g.N.Net.history old.net) (g.N.Net.history now.net)
          made c.in_ok-done.ensures.history;
      some = c.in_ok-done.ensures.some_steps;
      few = c.in_ok-done.ensures.full.within;
      able = c.in_ok-done.ensures.able;
      within = still_within old.able.numbers.items now.able.numbers.items (g.N.Net.order old.net) (g.N.Net.order now.net) _ c.in_ok-done.ensures.able made.places_are c.requires.within;
      numbered = c.in_ok-done.ensures.numbered;
      waking = c.in_ok-done.ensures.waking;
    }

pub can_step-requires-clause-owned : goal.can_step-requires-clause-owned
can_step-requires-clause-owned g c =
    let P = g.N.Net.play c.args.program.now in
    let now = c.pieces.self in
    kept_owned P (g.met.N.Net.lawful c.args.program.now now.net c.pieces.invariant.sound) (g.N.Net.history now.net) (g.N.Net.order now.net) (g.N.Net.state c.args.program.now now.net) now.used c.pieces.invariant.kept

pub keep_piece-requires-in-pieces-clause-able : goal.keep_piece-requires-in-pieces-clause-able
keep_piece-requires-in-pieces-clause-able g c =
    let can : c.in_ok-can_step.field-0 ≡ true = search rules in
    sym c.in_ok-can_step.ensures ∙ can

pub keep_piece-requires-in-pieces-clause-joins : goal.keep_piece-requires-in-pieces-clause-joins
keep_piece-requires-in-pieces-clause-joins g c = λ e. record {
  front = g.N.Net.history c.args.self.now.net;
  last = turn_of c.args.number c.pieces.done;
  whole = c.pieces.invariant.entry.history_is;
  number_is = refl;
}

pub pieces-preserved : goal.pieces-preserved
pieces-preserved g c =
    let P = g.N.Net.play c.args.program.now in
    let n = c.args.number in
    let old = c.args.self.now in
    let mid = c.pieces.self in
    let now = c.keep_piece-in-pieces.new.self in
    let made = c.in_ok-more.ensures.made in
    let who = stands_at P (g.N.Net.state c.args.program.now old.net) (g.N.Net.order old.net) n c.requires.able in
    record {
      sound = c.in_ok-more.ensures.sound;
      kept = c.in_ok-more.ensures.kept;
      used = omega (arith, c.in_ok-more.ensures.used, c.pieces.invariant.used);
      entry =
          entry_joined P n c.pieces.done c.in_ok-more.more (slice_index_or (g.N.Net.order old.net) n []) (g.N.Net.state c.args.program.now old.net) (g.N.Net.state c.args.program.now mid.net) (g.N.Net.state c.args.program.now now.net) (g.N.Net.order old.net) (g.N.Net.order mid.net) (g.N.Net.order now.net)
          (g.N.Net.history old.net) (g.N.Net.history mid.net) (g.N.Net.history now.net) who c.pieces.invariant.entry made c.in_ok-more.ensures.history;
      some = omega (arith, c.pieces.invariant.some);
      few = let low = c.in_ok-more.ensures.full.within in omega (arith, low);
      able = c.in_ok-more.ensures.able ∙ c.pieces.invariant.able;
      within = still_within mid.able.numbers.items now.able.numbers.items (g.N.Net.order mid.net) (g.N.Net.order now.net) _ c.in_ok-more.ensures.able made.places_are c.pieces.invariant.within;
      numbered = c.in_ok-more.ensures.numbered;
      waking = wakes_all_then (g.N.Net.channels old.net) (g.N.Net.channels mid.net) (g.N.Net.channels now.net) c.pieces.invariant.waking c.in_ok-more.ensures.waking;
    }

pub returns-in_err-done-clause-stays : goal.returns-in_err-done-clause-stays
returns-in_err-done-clause-stays g c = on_err c.from_residual.result (entry_may c.args.number (g.N.Net.history c.args.self.now.net) (g.N.Net.history c.keep_piece.new.self.net) c.in_err-done.ensures.stays)

pub returns-in_err-can_step-clause-stays : goal.returns-in_err-can_step-clause-stays
returns-in_err-can_step-clause-stays g c = on_err c.from_residual-in_err-can_step.result (inr (turn_of c.args.number c.pieces.done, c.pieces.invariant.entry.history_is))

pub returns-in_err-more-clause-stays : goal.returns-in_err-more-clause-stays
returns-in_err-more-clause-stays g c =
    on_err c.from_residual-in_err-more.result
    (entry_may_grow c.args.number c.pieces.done (g.N.Net.history c.args.self.now.net) (g.N.Net.history c.pieces.self.net) (g.N.Net.history c.keep_piece-in-pieces.new.self.net) c.pieces.invariant.entry.history_is c.in_err-more.ensures.stays)
