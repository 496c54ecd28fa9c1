use Rattle.std.proofs.Common.{◌≡◌, ◌++◌, ◌∷◌, [], inl, inr, ap, sym, ◌∙◌, ◌+◌}
use Rattle.std.specs.Arc.{arc_value}
use Rattle.std.specs.FinMap.{get, insert}
use Rattle.std.proofs.lemmas.Result.{IfOk-weaker}
use Rattle.fm_finmap.proofs.Inserts.{insert_cases}
use Rattle.fm_finmap.specs.Rows.{numbered_map}
use Rattle.fm_net.specs.Machine.{Place, child}
use Rattle.fm_net.proofs.Children.{not_own_child}
use Rattle.fm_net.proofs.Keys.{path_order}
use Rattle.fm_net_procs.specs.Readings.{actor_place, order_of, procs_of}
use Rattle.fm_net_procs.proofs.Families.{awaits_nobody}
use Rattle.fm_net_procs.proofs.Maps.{absent}
use Rattle.fm_net_procs.proofs.entries.Entries.start.Goals as goal

pub push-requires : goal.push-requires
push-requires g c =
    let p = actor_place c.args.actor.now in
    let seen = g.P.Proc.seen c.args.program.now in
    let place : arc_value c.in_ok-path.path ≡ child p c.args.block (c.args.place + 1) = c.in_ok-path.ensures.ok ∙ c.in_ok-at.ensures ∙ ap (λ (q : Place). child q c.args.block (c.args.place + 1)) c.deref.ensures in
    absent seen c.args.self.now (arc_value c.in_ok-path.path) (ap (get (procs_of seen c.args.self.now)) place ∙ c.requires)

pub returns-clause-entries : goal.returns-clause-entries
returns-clause-entries g c =
    let p = actor_place c.args.actor.now in
    let place : arc_value c.in_ok-path.path ≡ child p c.args.block (c.args.place + 1) = c.in_ok-path.ensures.ok ∙ c.in_ok-at.ensures ∙ ap (λ (q : Place). child q c.args.block (c.args.place + 1)) c.deref.ensures in
    IfOk-weaker c.push.result _ _ (λ u put e is.
    elim (insert_cases path_order (numbered_map c.args.self.now.rows) (arc_value c.in_ok-path.path) (record { process = c.args.process; next = c.in_ok-next.next; first_child = 0 }) p e (ap (λ m. get m p) (sym put) ∙ is)) [
      | inl here ↦ absurd (not_own_child p (c.args.block, c.args.place + 1) (here.0 ∙ place))
      | inr away ↦ away.1
    ]) c.push.ensures.entries

pub returns-clause-processes : goal.returns-clause-processes
returns-clause-processes g c =
    let p = actor_place c.args.actor.now in
    let seen = g.P.Proc.seen c.args.program.now in
    let place : arc_value c.in_ok-path.path ≡ child p c.args.block (c.args.place + 1) = c.in_ok-path.ensures.ok ∙ c.in_ok-at.ensures ∙ ap (λ (q : Place). child q c.args.block (c.args.place + 1)) c.deref.ensures in
    IfOk-weaker c.push.result _ _ (λ u put. put c.args.program.now ∙ ap (λ (q : Place). insert (procs_of seen c.args.self.now) q (seen c.args.process)) place) c.push.ensures.processes

pub returns-clause-order : goal.returns-clause-order
returns-clause-order g c =
    let p = actor_place c.args.actor.now in
    let place : arc_value c.in_ok-path.path ≡ child p c.args.block (c.args.place + 1) = c.in_ok-path.ensures.ok ∙ c.in_ok-at.ensures ∙ ap (λ (q : Place). child q c.args.block (c.args.place + 1)) c.deref.ensures in
    IfOk-weaker c.push.result _ _ (λ u more. more ∙ ap (λ (q : Place). order_of c.args.self.now ++ q ∷ []) place) c.push.ensures.order

pub returns-clause-told : goal.returns-clause-told
returns-clause-told g c = IfOk-weaker c.push.result _ _ (λ u kept own but. kept c.args.program.now own c.in_ok-next.ensures.next but) c.push.ensures.told

pub returns-clause-families : goal.returns-clause-families
returns-clause-families g c =
    let p = c.args.program.now in
    IfOk-weaker c.push.result _ _ (λ u kept own none but.
    kept p own (awaits_nobody (order_of c.push.new.self) (arc_value c.in_ok-path.path) (g.P.Proc.awaits (g.P.Proc.seen p c.args.process)) 0 none) but) c.push.ensures.families

pub returns-clause-fits : goal.returns-clause-fits
returns-clause-fits g c = IfOk-weaker c.push.result _ _ (λ u put s fits. c.in_ok-next.ensures.fits s fits) c.push.ensures.entries
