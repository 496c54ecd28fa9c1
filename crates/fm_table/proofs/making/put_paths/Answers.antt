use Rattle.std.proofs.Common.{ℕ, ap, sym, subst, ◌∙◌, arith}
use Rattle.std.specs.Prelude.{◌++◌}
use Rattle.fm_run.specs.Orders.{place_in, places_of}
use Rattle.fm_table.proofs.Paths.{ArePut, all_put, none_put, one_put, still_first}
use Rattle.fm_table.proofs.making.put_paths.Goals as goal

pub paths-init : goal.paths-init
paths-init c =
    let old = c.args.paths.now.items in
    subst (λ (n : ℕ). ArePut c.args.all.now old old n) (sym (c.len-known.ensures ∙ c.args.paths.now.ok.0)) (none_put c.args.all.now old c.requires.0 c.requires.1)

pub paths-preserved : goal.paths-preserved
paths-preserved c =
    let low = c.paths-test.true in
    one_put c.args.all.now c.args.paths.now.items c.paths.paths.items c.push.new.self.items c.paths.place c.in_ok-path.path c.index-all-place.result c.paths.invariant (omega (arith, low)) c.in_ok-push.ensures.items (c.in_ok-path.ensures ∙ ap place_in c.index-all-place.is)

pub returns-clause-ok : goal.returns-clause-ok
returns-clause-ok c =
    let high = c.paths-test.false in
    all_put c.args.all.now c.args.paths.now.items c.paths.paths.items c.paths.place c.paths.invariant (omega (arith, high))

pub returns-clause-front : goal.returns-clause-front
returns-clause-front c = still_first c.args.all.now c.args.paths.now.items c.paths.paths.items c.paths.place c.paths.invariant

pub returns-in_err-path-clause-front : goal.returns-in_err-path-clause-front
returns-in_err-path-clause-front c = still_first c.args.all.now c.args.paths.now.items c.paths.paths.items c.paths.place c.paths.invariant

pub returns-in_err-push-clause-front : goal.returns-in_err-push-clause-front
returns-in_err-push-clause-front c =
    let k = still_first c.args.all.now c.args.paths.now.items c.paths.paths.items c.paths.place c.paths.invariant in
    (k.0, k.1 ∙ ap (λ ps. places_of ps ++ k.0) (sym c.in_err-push.ensures.items))
