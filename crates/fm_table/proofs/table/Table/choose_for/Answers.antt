use Rattle.std.proofs.Common.{◌≡◌, ◌⊎◌, inl, inr, ◌==◌, ◌||◌, ◌<◌, ℕ, Bool, true, false, List, Option, Some, slice_get, ap, refl, sym, subst, ◌∙◌, arith, eqb-true}
use Rattle.fm_rules.specs.declared.program.Program.{Program}
use Rattle.fm_run.specs.Orders.{chosen}
use Rattle.fm_table.specs.Giving.{taken_for}
use Rattle.fm_table.specs.Inside.{IsStanding, outs_of, stand_kept, told_in}
use Rattle.fm_table.specs.Planned.{first_of, mapped}
use Rattle.fm_table.specs.Told.{ready_in, ready_of}
use Rattle.fm_table.specs.declared.outside.Taken.{Taken}
use Rattle.fm_table.proofs.Runs.{first_chosen}
use Rattle.fm_table.proofs.Sharing.{first_taken, nobody_taken}
use Rattle.fm_table.proofs.Tables.{shares_moved, table_kept, table_same}
use Rattle.fm_table.proofs.table.Table.choose_for.Goals as goal
use Rattle.fm_table.proofs.table.Table.choose_for.Goals.{then-is_whole-via-then-is_whole, then-is_whole-via-else-is_whole+then-self-worker}

one_of_two : (a b : ℕ) → (a == 1 || b == 1) ≡ true → (a ≡ 1) ⊎ (b ≡ 1)
one_of_two a b e = go (a == 1) refl e
  where
    go : (t : Bool) → (a == 1) ≡ t → (t || b == 1) ≡ true → (a ≡ 1) ⊎ (b ≡ 1)
    go true same e' = inl (eqb-true a 1 same)
    go false same e' = inr (eqb-true b 1 e')

first_one : (a b c : ℕ) → a ≡ c → (a ≡ 1) ⊎ (b ≡ 1) → (c ≡ 1) ⊎ (b ≡ 1)
first_one a b c same (inl e) = inl (sym same ∙ e)
first_one a b c same (inr e) = inr e

-- the first one that is ready
pub returns-then-is_whole-clause-chosen : goal.returns-then-is_whole-clause-chosen
returns-then-is_whole-clause-chosen c =
    let t = c.self.inside in
    let k = c.self.invariant in
    let b = told_in t.program.value t.setup t.standing (outs_of t.out.items) in
    let kept = table_kept t.program.value t.setup t.standing (outs_of t.out.items) t.shares k in
    let first : c.choose_ready.result ≡ slice_get (ready_of b) 0 =
    c.choose_ready.ensures ∙ ap (λ (ts : List Taken). chosen (Some 0) (ready_in (outs_of ts) t.standing.player.able.numbers.items)) c.as_slice.ensures.value ∙ first_chosen (ready_of b) in
    let taken : slice_get (ready_of b) 0 ≡ taken_for c.args.worker b = elim c.then-is_whole.branch [
      | then-is_whole-via-then-is_whole w ↦ first_taken b kept c.args.worker (first_one t.shares.nodes t.setup.workers _ k.shared.nodes_are (one_of_two t.shares.nodes t.setup.workers (sym c.is_whole.ensures ∙ w.if-is_whole.true)))
      | then-is_whole-via-else-is_whole+then-self-worker w ↦ nobody_taken b kept c.args.worker (omega (arith, w.if-self-worker.true))
    ] in
    first ∙ taken ∙ ap (taken_for c.args.worker) c.self.view_is

pub invariant_of-self : goal.invariant_of-self
invariant_of-self c =
    let t = c.self.inside in
    table_same t.program.value t.setup t.standing c.revive.new.self (outs_of t.out.items) t.shares t.shares c.in_err-revive.ensures.same (subst (λ (p : Program). IsStanding p c.revive.new.self) c.deref.ensures c.in_err-revive.ensures.standing) c.self.invariant.shared c.self.invariant

pub make-requires : goal.make-requires
make-requires c =
    let P = c.self.inside.program.value in
    let standing = subst (λ (p : Program). IsStanding p c.revive.new.self) c.deref.ensures c.in_ok-revive.ensures.standing in
    record { live = (P, standing.live c.in_ok-revive.ensures.live, c.self.invariant.shared.nodes_are) }

pub invariant_of-self-in_err-make : goal.invariant_of-self-in_err-make
invariant_of-self-in_err-make c =
    let t = c.self.inside in
    let P = t.program.value in
    let new = c.revive.new.self in
    let same = c.in_ok-revive.ensures.same in
    let standing = subst (λ (p : Program). IsStanding p new) c.deref.ensures c.in_ok-revive.ensures.standing in
    let live = standing.live c.in_ok-revive.ensures.live in
    table_same P t.setup t.standing new (outs_of t.out.items) t.shares c.make.new.self same standing (shares_moved P t.setup t.standing new same live t.shares c.make.new.self (c.in_err-make.ensures.kept P live) c.self.invariant.shared) c.self.invariant

pub invariant_of-self-2 : goal.invariant_of-self-2
invariant_of-self-2 c =
    let t = c.self.inside in
    let P = t.program.value in
    let new = c.revive.new.self in
    let same = c.in_ok-revive.ensures.same in
    let standing = subst (λ (p : Program). IsStanding p new) c.deref.ensures c.in_ok-revive.ensures.standing in
    let live = standing.live c.in_ok-revive.ensures.live in
    table_same P t.setup t.standing new (outs_of t.out.items) t.shares c.make.new.self same standing (shares_moved P t.setup t.standing new same live t.shares c.make.new.self (c.in_ok-make.ensures.kept P live) c.self.invariant.shared) c.self.invariant

-- the first one that the plan maps to this worker, and without one the first one
pub returns-clause-chosen : goal.returns-clause-chosen
returns-clause-chosen c =
    let t = c.self.inside in
    let P = t.program.value in
    let new = c.revive.new.self in
    let same = c.in_ok-revive.ensures.same in
    let standing = subst (λ (p : Program). IsStanding p new) c.deref.ensures c.in_ok-revive.ensures.standing in
    let live = standing.live c.in_ok-revive.ensures.live in
    let shared = shares_moved P t.setup t.standing new same live t.shares c.make.new.self (c.in_ok-make.ensures.kept P live) c.self.invariant.shared in
    let low : c.args.worker < t.setup.workers = omega (arith, c.if-self-worker.false) in
    let by : List ℕ → Option ℕ = λ ns. first_of (mapped P t.setup (stand_kept P t.standing) c.args.worker ns) ns in
    c.choose.ensures P t.setup (stand_kept P t.standing) shared same.queue low
    ∙ ap (λ (ts : List Taken). by (ready_in (outs_of ts) new.player.able.numbers.items)) c.as_slice-2.ensures.value
    ∙ ap (λ (ns : List ℕ). by (ready_in (outs_of t.out.items) ns)) same.queue
    ∙ ap (taken_for c.args.worker) c.self.view_is
