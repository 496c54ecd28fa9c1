use Rattle.std.proofs.Common.{◌++◌, ◌∷◌, [], List, ap, ap₂, ◌∙◌}
use Rattle.std.specs.Arc.{arc_value}
use Rattle.std.specs.FinMap.{empty, get, get-empty, insert}
use Rattle.fm_base.specs.PathOrder.{path_cmp}
use Rattle.fm_base.specs.Channels.{Chans}
use Rattle.fm_net.specs.Machine.{Place, Procs}
use Rattle.fm_mean.specs.Process.{Proc}
use Rattle.fm_plain_frame.specs.Frames.{proc_of}
use Rattle.fm_run.specs.Awaited.{awaits}
use Rattle.fm_plain_net.specs.Readings.{order_of, tree_of}
use Rattle.fm_net_procs.proofs.Maps.{absent, told_all, told_but}
use Rattle.fm_plain.specs.Looking.{IsNext}
use Rattle.fm_net_procs.proofs.Families.{all_families, awaits_nobody, families_but}
use Rattle.fm_plain_net.proofs.Firsts.{first_reached, none_held}
use Rattle.fm_plain_net.proofs.first.first_net.Goals as goal

pub push-requires : goal.push-requires
push-requires c =
    let P = c.args.program.now in
    let q = arc_value c.in_ok-path.path in
    absent (tree_of P) c.new-trees.result.entries q (ap (λ (m : Procs Proc). get m q) (c.new-trees.ensures.processes P) ∙ get-empty {X = Proc} path_cmp q)

pub returns-clause-order : goal.returns-clause-order
returns-clause-order c = c.in_ok-push.ensures.order ∙ ap₂ (λ (ps : List Place) (p : Place). ps ++ p ∷ []) c.new-trees.ensures.order (c.in_ok-path.ensures.ok ∙ c.main-2.ensures)

pub returns-clause-state : goal.returns-clause-state
returns-clause-state c =
    let P = c.args.program.now in
    let x = proc_of P c.in_ok-plain.plain in
    let processes = c.in_ok-push.ensures.processes P ∙ ap (λ (m : Procs Proc). insert m (arc_value c.in_ok-path.path) x) (c.new-trees.ensures.processes P)
    ∙ ap (λ (q : Place). insert (empty {X = Proc} {R = path_cmp}) q x) (c.in_ok-path.ensures.ok ∙ c.main-2.ensures) ∙ ap (insert (empty {X = Proc} {R = path_cmp}) []) c.in_ok-plain.ensures in
    ap₂ (λ (m : Procs Proc) (cs : Chans). record { procs = m; chans = cs }) processes c.new-trees.ensures.channels

pub returns-clause-sound : goal.returns-clause-sound
returns-clause-sound c =
    let P = c.args.program.now in
    let x = proc_of P c.in_ok-plain.plain in
    let processes = c.in_ok-push.ensures.processes P ∙ ap (λ (m : Procs Proc). insert m (arc_value c.in_ok-path.path) x) (c.new-trees.ensures.processes P)
    ∙ ap (λ (q : Place). insert (empty {X = Proc} {R = path_cmp}) q x) (c.in_ok-path.ensures.ok ∙ c.main-2.ensures) ∙ ap (insert (empty {X = Proc} {R = path_cmp}) []) c.in_ok-plain.ensures in
    record {
      told = told_all (tree_of P) (IsNext P) _ (λ own. c.in_ok-push.ensures.told P own c.in_ok-next.ensures (told_but (tree_of P) (IsNext P) own _ (c.new-trees.ensures.told P)));
      families = all_families (tree_of P) awaits c.push.new.self (λ own.
          c.in_ok-push.ensures.families P own (awaits_nobody (order_of c.push.new.self) (arc_value c.in_ok-path.path) (awaits (proc_of P c.in_ok-plain.plain)) 0 (ap awaits c.in_ok-plain.ensures))
          (families_but (tree_of P) awaits own c.new-trees.result.entries (c.new-trees.ensures.families P)));
      fits = record {
        reached = first_reached P _ (ap₂ (λ (m : Procs Proc) (cs : Chans). record { procs = m; chans = cs }) processes c.new-trees.ensures.channels);
        held = none_held P _ _ processes;
      };
    }
