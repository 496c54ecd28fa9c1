use Rattle.std.proofs.Common.{◌≡◌, ◌+◌, ◌++◌, ◌∷◌, [], ℕ, List, Some, None, length, map, refl, sym, ap, subst, ◌∙◌, append-nil, append_assoc, arith, length-append}
use Rattle.std.specs.FinMap.{get, insert}
use Rattle.std.specs.List.{AllByRecursion}
use Rattle.std.specs.Vec.Iter.{into_iter_items}
use Rattle.std.proofs.lemmas.List.{length-map, map-append}
use Rattle.fm_finmap.specs.Changes.{alters}
use Rattle.fm_net.specs.Machine.{Place, child, start_changes}
use Rattle.fm_net.specs.Starts.{child_places}
use Rattle.fm_net.proofs.Orders.{child_places_more}
use Rattle.fm_net_procs.specs.Readings.{actor_place, order_of, proc_in, procs_of}
use Rattle.fm_net_procs.proofs.Families.{families_started}
use Rattle.fm_net_procs.proofs.Family.{next_as_before, starts_more}
use Rattle.fm_net_procs.proofs.Maps.{there}
use Rattle.fm_net_procs.proofs.entries.Entries.start_all.Goals as goal

nothing_left : {X : Type 0} (ps : List X) → length ps ≡ 0 → ps ≡ []
nothing_left [] e = refl
nothing_left (p ∷ ps) e = absurd (omega (arith, e))

pub keep_first-requires : goal.keep_first-requires
keep_first-requires g c = c.requires.actor

pub start-requires : goal.start-requires
start-requires g c =
    let p = actor_place c.args.actor.now in
    let b = c.args.block in
    let seen = g.P.Proc.seen c.args.program.now in
    let xs = map seen c.children.yielded in
    let m = procs_of seen c.keep_first.new.self in
    let at : c.children.place + 1 ≡ length xs + 1 = ap (λ (n : ℕ). n + 1) (c.children.invariant.count ∙ sym (length-map c.children.yielded seen)) in
    ap (λ k. get k (child p b (c.children.place + 1))) c.children.invariant.processes
    ∙ ap (λ (n : ℕ). get (alters (start_changes p b 1 xs) m) (child p b n)) at ∙ next_as_before p b xs m
    ∙ ap (λ k. get k (child p b (length xs + 1))) (c.keep_first.ensures.processes c.args.program.now) ∙ c.requires.new (length xs + 1)

pub children-init : goal.children-init
children-init g c = record {
  processes = refl;
  order = sym (append-nil (order_of c.keep_first.new.self));
  count = refl;
  told = λ but. but;
  families = λ but. but;
  run = subst (λ ps. AllByRecursion (λ y. g.P.Proc.awaits y ≡ None) (map (g.P.Proc.seen c.args.program.now) ps)) (sym c.into_iter-process-iterator.ensures.into_iter_gives.0) c.requires.run;
  whole = c.into_iter-process-iterator.ensures.into_iter_gives.0;
  fits = λ s fits. fits;
  own = λ e is. is;
}

pub children-preserved : goal.children-preserved
children-preserved g c =
    let seen = g.P.Proc.seen c.args.program.now in
    let m = procs_of seen c.keep_first.new.self in
    let p = actor_place c.args.actor.now in
    let b = c.args.block in
    let xs = map seen c.children.yielded in
    let x = seen c.in-Some.process in
    let at : c.children.place + 1 ≡ length xs + 1 = ap (λ (n : ℕ). n + 1) (c.children.invariant.count ∙ sym (length-map c.children.yielded seen)) in
    let run = subst (λ ps. AllByRecursion (λ y. g.P.Proc.awaits y ≡ None) (map seen ps)) c.in-Some.ensures.steps.0 c.children.invariant.run in
    let whole : length c.children.yielded + 1 ≡ length (c.children.yielded ++ c.in-Some.process ∷ []) = omega (arith, length-append c.children.yielded (c.in-Some.process ∷ [])) in
    record {
      processes =
          c.in_ok-start.ensures.processes
          ∙ ap (λ k. insert k (child p b (c.children.place + 1)) x) c.children.invariant.processes
          ∙ ap (λ (n : ℕ). insert (alters (start_changes p b 1 xs) m) (child p b n) x) at
          ∙ starts_more p b xs x m
          ∙ ap (λ zs. alters (start_changes p b 1 zs) m) (sym (map-append seen c.children.yielded (c.in-Some.process ∷ [])));
      order =
          c.in_ok-start.ensures.order ∙ ap (λ (ps : List Place). ps ++ child p b (c.children.place + 1) ∷ []) c.children.invariant.order
          ∙ ap (λ (n : ℕ). (order_of c.keep_first.new.self ++ child_places p b 1 (length c.children.yielded)) ++ child p b (n + 1) ∷ []) c.children.invariant.count
          ∙ append_assoc (order_of c.keep_first.new.self) (child_places p b 1 (length c.children.yielded)) (child p b (length c.children.yielded + 1) ∷ [])
          ∙ ap (λ (ps : List Place). order_of c.keep_first.new.self ++ ps) (child_places_more p b (length c.children.yielded))
          ∙ ap (λ (n : ℕ). order_of c.keep_first.new.self ++ child_places p b 1 n) whole;
      count = omega (arith, c.children.invariant.count, whole);
      told = λ but. c.in_ok-start.ensures.told p (c.children.invariant.told but);
      families = λ but. c.in_ok-start.ensures.families p run.0 (c.children.invariant.families but);
      run = run.1;
      whole = append_assoc c.children.yielded (c.in-Some.process ∷ []) (into_iter_items c.next.new.self) ∙ ap (λ ps. c.children.yielded ++ ps) (sym c.in-Some.ensures.steps.0) ∙ c.children.invariant.whole;
      fits = λ s fits. c.in_ok-start.ensures.fits s (c.children.invariant.fits s fits);
      own = λ e is. c.children.invariant.own e (c.in_ok-start.ensures.entries e is);
    }

pub returns-clause-families : goal.returns-clause-families
returns-clause-families g c = λ y at waits but.
    let p = actor_place c.args.actor.now in
    let seen = g.P.Proc.seen c.args.program.now in
    let all : c.children.yielded ≡ c.args.children.items = sym (append-nil c.children.yielded) ∙ ap (λ ps. c.children.yielded ++ ps) (sym (nothing_left (into_iter_items c.children.process-iterator) (sym c.children.process-iterator.rest.ok.0 ∙ c.in-None.ensures.steps.0))) ∙ c.children.invariant.whole in
    families_started seen g.P.Proc.awaits p c.children.self y (order_of c.args.self.now) c.args.block (length c.args.children.items) c.in_ok-first.first
    (c.children.invariant.order ∙ ap (λ (ps : List Place). ps ++ child_places p c.args.block 1 (length c.children.yielded)) c.keep_first.ensures.order ∙ ap (λ zs. order_of c.args.self.now ++ child_places p c.args.block 1 (length zs)) all)
    (omega (arith, c.in_ok-first.ensures, c.len.ensures, length-map c.args.self.now.rows (λ row. row.0)))
    (λ e is.
    let before = c.children.invariant.own e is in
    let same : proc_in seen e ≡ y = cc (sym (there seen c.keep_first.new.self p (Some e) (sym before)) ∙ ap (λ k. get k p) (c.keep_first.ensures.processes c.args.program.now) ∙ at) in
    (c.keep_first.ensures.first e before, same))
    waits (c.children.invariant.families (c.keep_first.ensures.families c.args.program.now but))

pub returns-clause-told : goal.returns-clause-told
returns-clause-told g c = λ but. c.children.invariant.told (c.keep_first.ensures.told c.args.program.now but)

pub returns-clause-fits : goal.returns-clause-fits
returns-clause-fits g c = c.children.invariant.fits
