use Rattle.std.proofs.Common.{◌≡◌, ◌+◌, ◌<◌, ℕ, Option, Some, List, ap, subst, sym, ◌∙◌, arith, map}
use Rattle.std.specs.Prelude.{is_some, option_map}
use Rattle.std.specs.FinMap.{get}
use Rattle.fm_code.specs.declared.body.Body.{Body}
use Rattle.fm_finmap.specs.Changes.{alter, alters}
use Rattle.fm_net.specs.Machine.{child, child_changes, gathered}
use Rattle.fm_proc_language.specs.Processes.{emptied, has_ended}
use Rattle.fm_proc_language.specs.Slots.{Slots}
use Rattle.fm_procs.specs.Joinings.{HasJoined, HasRoomToJoin}
use Rattle.fm_procs.specs.Lefts.{left_by, left_of}
use Rattle.fm_procs.specs.Rooms.{left_room}
use Rattle.fm_procs.specs.Readings.{order_of, procs_of}
use Rattle.fm_procs.specs.Waiting.{ended_at}
use Rattle.fm_procs.proofs.Blocks.{body_left, next_child, next_left}
use Rattle.fm_net_procs.proofs.Families.{child_number}
use Rattle.fm_net_procs.proofs.Family.{children_more, child_as_before, kept_more, one_less}
use Rattle.fm_procs.proofs.joins.take_children.Goals as goal

pub unreachable-requires : goal.unreachable-requires
unreachable-requires c =
    let n = c.children.place in
    let low : n < c.args.family.count = omega arith in
    let old = order_of c.args.entries.now in
    let now = order_of c.children.entries in
    let next = next_child c.args.entries.now c.args.family n c.children.join low c.children.invariant.room in
    let at = child_number old now c.children.invariant.order c.args.family.first next.place next.block c.args.family.count next.stand n c.child_number-number.result low c.child_number-number.ensures in
    let left = next_left c.args.entries.now c.args.family n c.children.join next (procs_of c.children.entries) c.release.result (c.release.ensures.left tt (child next.place next.block (n + 1)) at) (c.children.invariant.processes next.place next.block next.stand) in
    cc (ap is_some (sym (ap (option_map left_of) c.in_default.is) ∙ left))

pub take-requires : goal.take-requires
take-requires c =
    let n = c.children.place in
    let low : n < c.args.family.count = omega arith in
    let old = order_of c.args.entries.now in
    let now = order_of c.children.entries in
    let next = next_child c.args.entries.now c.args.family n c.children.join low c.children.invariant.room in
    let at = child_number old now c.children.invariant.order c.args.family.first next.place next.block c.args.family.count next.stand n c.child_number-number.result low c.child_number-number.ensures in
    let left = next_left c.args.entries.now c.args.family n c.children.join next (procs_of c.children.entries) c.release.result (c.release.ensures.left tt (child next.place next.block (n + 1)) at) (c.children.invariant.processes next.place next.block next.stand) in
    let same = body_left c.in-Some.left next.head (ap (option_map left_of) (sym c.in-Some.is) ∙ left) in
    record { room = subst (λ (o : Option Body). HasRoomToJoin c.children.join (left_room o)) same next.room }

pub children-preserved : goal.children-preserved
children-preserved c =
    let n = c.children.place in
    let low : n < c.args.family.count = omega arith in
    let old = order_of c.args.entries.now in
    let now = order_of c.children.entries in
    let next = next_child c.args.entries.now c.args.family n c.children.join low c.children.invariant.room in
    let at = child_number old now c.children.invariant.order c.args.family.first next.place next.block c.args.family.count next.stand n c.child_number-number.result low c.child_number-number.ensures in
    let left = next_left c.args.entries.now c.args.family n c.children.join next (procs_of c.children.entries) c.release.result (c.release.ensures.left tt (child next.place next.block (n + 1)) at) (c.children.invariant.processes next.place next.block next.stand) in
    let same = body_left c.in-Some.left next.head (ap (option_map left_of) (sym c.in-Some.is) ∙ left) in
    let m = procs_of c.args.entries.now in
    record {
      order = c.release.ensures.order ∙ c.children.invariant.order;
      processes = λ q b all.
          let at = child_number old now c.children.invariant.order c.args.family.first q b c.args.family.count all n c.child_number-number.result low c.child_number-number.ensures in
          c.release.ensures.processes tt (child q b (n + 1)) at
          ∙ ap (λ k. alter k (child q b (n + 1)) (option_map emptied)) (c.children.invariant.processes q b all) ∙ children_more emptied q b n m;
      joined = λ q b kids y z all e h.
          let at = child_number old now c.children.invariant.order c.args.family.first q b c.args.family.count all n c.child_number-number.result low c.child_number-number.ensures in
          let this : Some (left_of c.in-Some.left) ≡ option_map left_by (get m (child q b (n + 1))) =
          ap (option_map left_of) (sym c.in-Some.is) ∙ c.release.ensures.left tt (child q b (n + 1)) at
          ∙ ap (λ k. option_map left_by (get k (child q b (n + 1)))) (c.children.invariant.processes q b all) ∙ ap (option_map left_by) (child_as_before emptied q b n m) in
          let more = kept_more has_ended m q b left_by n (left_of c.in-Some.left) this kids e in
          subst (λ (l : List (Option Body × Slots)). HasJoined y l z c.take.new.self) more.2
          (c.take.ensures.joined y z (map left_by more.0) (c.children.invariant.joined q b more.0 y z all more.1 h));
      told = λ own q b kids all e but.
          let at = child_number old now c.children.invariant.order c.args.family.first q b c.args.family.count all n c.child_number-number.result low c.child_number-number.ensures in
          let less = one_less has_ended m q b n kids e in
          c.release.ensures.told tt own (child q b (n + 1)) at (ap ended_at (ap (λ k. get k (child q b (n + 1))) (c.children.invariant.processes q b all) ∙ child_as_before emptied q b n m) ∙ less.1)
          (c.children.invariant.told own q b less.0.0 all less.0.1 but);
      families = λ all. c.release.ensures.families tt (c.children.invariant.families all);
      room = next.on c.take.new.self (λ ports r.
          c.take.ensures.room ports (subst (λ (o : Option Body). HasRoomToJoin c.children.join (left_room o + ports)) same r));
    }

pub returns-clause-processes : goal.returns-clause-processes
returns-clause-processes c = λ q b all.
    let whole : c.children.place ≡ c.args.family.count = omega arith in
    subst (λ (n : ℕ). procs_of c.children.entries ≡ alters (child_changes emptied q b 1 n) (procs_of c.args.entries.now)) whole (c.children.invariant.processes q b all)

pub returns-clause-joined : goal.returns-clause-joined
returns-clause-joined c = λ q b kids y z all e.
    let whole : c.children.place ≡ c.args.family.count = omega arith in
    c.children.invariant.joined q b kids y z all (subst (λ (n : ℕ). gathered has_ended (procs_of c.args.entries.now) q b 1 n ≡ Some kids) (sym whole) e)

pub returns-clause-told : goal.returns-clause-told
returns-clause-told c = λ own q b kids all e but.
    let whole : c.children.place ≡ c.args.family.count = omega arith in
    c.children.invariant.told own q b kids all (subst (λ (n : ℕ). gathered has_ended (procs_of c.args.entries.now) q b 1 n ≡ Some kids) (sym whole) e) but
