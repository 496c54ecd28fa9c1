use Rattle.std.proofs.Common.{[], ◌∷◌, None, ap, inl, inr, refl, sym, append-nil, arith}
use Rattle.fm_pool.specs.declared.desk.Next.TheVariants.{Runs, Goes, Waits, Stops}
use Rattle.fm_steal.specs.Lanes.{put_list}
use Rattle.fm_steal_pool.specs.Workers.{given_out}
use Rattle.fm_steal_pool.proofs.Handing.{hands_on, one_back, one_put, pieces_more, took_nothing}
use Rattle.fm_steal_pool.proofs.turns.fill.Goals as goal

pub pieces-init : goal.pieces-init
pieces-init g c =
    let w = c.args.worker.now in
    ([], refl, sym (append-nil (put_list w.lane)), took_nothing w w refl refl, (refl, refl), refl, refl)

pub pieces-preserved : goal.pieces-preserved
pieces-preserved g c =
    let i = c.pieces.invariant in
    let w = c.pieces.worker in
    let new = record w { lane = c.put.new.self } in
    let start = c.args.worker.now in (
      Runs c.in-Runs.piece ∷ i.0,
      (c.pieces.desk, i.1, rw i.4.0 at c.in-Runs.ensures.next),
      one_put (put_list start.lane) (put_list w.lane) (put_list c.put.new.self) (given_out i.0) c.in-Runs.piece i.2 c.in-Ok.ensures.put.1,
      hands_on start w new None i.3 (took_nothing w new c.put.ensures.same.1 refl),
      i.4,
      pieces_more i.0 c.in-Runs.piece i.5,
      omega (arith, i.6),
    )

pub returns-in-Err-clause-filled : goal.returns-in-Err-clause-filled
returns-in-Err-clause-filled g c =
    let i = c.pieces.invariant in
    let w = c.pieces.worker in
    let put = c.in-Err.ensures.put in (
      Runs c.in-Runs.piece ∷ i.0,
      (c.pieces.desk, i.1, rw i.4.0 at c.in-Runs.ensures.next),
      one_back (put_list c.args.worker.now.lane) (put_list w.lane) (put_list c.put.new.self) (given_out i.0) c.in-Runs.piece c.in-Err.refused i.2 put.1 put.0,
      inl (i.0, ap (λ p. Runs p ∷ i.0) (sym put.0), i.5),
    )

pub returns-in-Err-clause-hands : goal.returns-in-Err-clause-hands
returns-in-Err-clause-hands g c =
    let w = c.pieces.worker in
    let new = record w { lane = c.put.new.self } in
    hands_on c.args.worker.now w new None c.pieces.invariant.3 (took_nothing w new c.put.ensures.same.1 refl)

pub returns-in-Goes-clause-filled : goal.returns-in-Goes-clause-filled
returns-in-Goes-clause-filled g c = let i = c.pieces.invariant in (Goes ∷ i.0, (c.pieces.desk, i.1, rw i.4.0 at c.in-Goes.ensures.next), i.2, inl (i.0, refl, i.5))

pub returns-in-Waits-clause-filled : goal.returns-in-Waits-clause-filled
returns-in-Waits-clause-filled g c = let i = c.pieces.invariant in (Waits ∷ i.0, (c.pieces.desk, i.1, rw i.4.0 at c.in-Waits.ensures.next), i.2, inl (i.0, refl, i.5))

pub returns-in-Stops-clause-filled : goal.returns-in-Stops-clause-filled
returns-in-Stops-clause-filled g c = let i = c.pieces.invariant in (Stops ∷ i.0, (c.pieces.desk, i.1, rw i.4.0 at c.in-Stops.ensures.next), i.2, inl (i.0, refl, i.5))

pub returns-clause-filled : goal.returns-clause-filled
returns-clause-filled g c =
    let i = c.pieces.invariant in
    (i.0, i.1, i.2, inr (refl, omega (arith, i.6, c.pieces-test.false), i.5))
