use Rattle.std.proofs.Common.{◌++◌, ap, sym, subst, ◌∙◌}
use Rattle.fm_finmap.specs.Rows.{AreDistinct, places_in}
use Rattle.fm_nodes_procs.specs.Processes.{order_of}
use Rattle.fm_nodes_procs.proofs.Starting.{are_apart, paths_count, starts_all}
use Rattle.fm_nodes_procs.proofs.children.start_all.Goals as goal

pub append-requires-clause-each : goal.append-requires-clause-each
append-requires-clause-each g c = paths_count c.args.path.now c.args.block _ c.args.paths.items c.requires.paths

pub append-requires-clause-room : goal.append-requires-clause-room
append-requires-clause-room g c = c.empty_all.ensures.room _ c.requires.room

pub append-requires-clause-once : goal.append-requires-clause-once
append-requires-clause-once g c =
    subst (λ qs. AreDistinct (qs ++ places_in c.args.paths.items)) (sym c.empty_all.ensures.order)
    (are_apart (g.R.Runner.seen c.args.runner.now) c.args.path.now c.args.block c.args.paths.items c.args.starts.items c.requires.paths c.args.processes.now c.requires.new)

pub returns-clause-order : goal.returns-clause-order
returns-clause-order g c =
    c.append.ensures.order ∙ ap (λ qs. qs ++ places_in c.args.paths.items) c.empty_all.ensures.order ∙ ap (λ qs. order_of c.args.processes.now ++ qs) c.requires.paths

pub returns-clause-procs : goal.returns-clause-procs
returns-clause-procs g c = λ b all.
    starts_all (g.R.Runner.seen c.args.runner.now) c.args.path.now c.args.block c.args.paths.items c.args.starts.items c.requires.paths (g.R.Runner.language c.args.runner.now).emptied
    c.args.processes.now c.empty_all.new.processes c.append.new.self c.requires.new b _ (c.empty_all.ensures.procs c.args.path.now b all) c.append.ensures.map
