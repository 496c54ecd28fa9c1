use Rattle.std.proofs.Common.{[], ◌∷◌, Some, None, inl, refl}
use Rattle.fm_pool.specs.declared.desk.Next.TheVariants.{Goes, Waits}
use Rattle.fm_steal_pool.proofs.Handing.{hands_none, hands_on, hands_then, took_nothing}
use Rattle.fm_steal_pool.proofs.turns.next_at.Goals as goal

pub turns-init : goal.turns-init
turns-init g c = let w = c.args.worker.now in ([], refl, took_nothing w w refl refl)

pub turns-preserved-in-Goes : goal.turns-preserved-in-Goes
turns-preserved-in-Goes g c =
    let i = c.turns.invariant in
    let w = c.turns.worker in
    let new = c.found.new.worker in (
      Goes ∷ i.0,
      (w, i.1, (c.deref_mut.result.now, c.found.new.desk, c.in-Goes.ensures.turn), tt),
      hands_on c.args.worker.now w new None i.2 (hands_none w new c.in-Goes.ensures.hands),
    )

pub turns-preserved : goal.turns-preserved
turns-preserved g c =
    let i = c.turns.invariant in
    let w = c.turns.worker in
    let new = c.found.new.worker in (
      Waits ∷ i.0,
      (w, i.1, (c.deref_mut.result.now, c.found.new.desk, c.in-Waits.ensures.turn), tt),
      hands_on c.args.worker.now w new None i.2 (hands_none w new c.in-Waits.ensures.hands),
    )

pub returns-in-Runs-clause-served : goal.returns-in-Runs-clause-served
returns-in-Runs-clause-served g c = let i = c.turns.invariant in (i.0, c.turns.worker, i.1, (c.deref_mut.result.now, c.found.new.desk, c.in-Runs.ensures.turn))

pub returns-in-Runs-clause-hands : goal.returns-in-Runs-clause-hands
returns-in-Runs-clause-hands g c = hands_then c.args.worker.now c.turns.worker c.found.new.worker (Some c.in-Runs.piece) c.turns.invariant.2 c.in-Runs.ensures.hands

pub returns-in-Stops-clause-served : goal.returns-in-Stops-clause-served
returns-in-Stops-clause-served g c = let i = c.turns.invariant in (i.0, c.turns.worker, i.1, (c.deref_mut.result.now, c.found.new.desk, c.in-Stops.ensures.turn))

pub returns-in-Stops-clause-hands : goal.returns-in-Stops-clause-hands
returns-in-Stops-clause-hands g c =
    let w = c.turns.worker in
    let new = c.found.new.worker in
    inl (hands_on c.args.worker.now w new None c.turns.invariant.2 (hands_none w new c.in-Stops.ensures.hands))
