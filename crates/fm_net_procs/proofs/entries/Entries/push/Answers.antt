use Rattle.std.proofs.Common.{inr, ap, ◌∙◌}
use Rattle.std.specs.Arc.{arc_value}
use Rattle.std.proofs.lemmas.Result.{IfOk-weaker}
use Rattle.fm_finmap.specs.Rows.{numbered_map, places}
use Rattle.fm_finmap.proofs.Rows.{map-push, places-push}
use Rattle.fm_net_procs.proofs.Families.{families_push}
use Rattle.fm_net_procs.proofs.Maps.{puts_one, told_put}
use Rattle.fm_net_procs.proofs.entries.Entries.push.Goals as goal

pub push-requires : goal.push-requires
push-requires g c = c.requires

pub returns-clause-entries : goal.returns-clause-entries
returns-clause-entries g c = IfOk-weaker c.push.result _ _ (λ u is. ap numbered_map is ∙ map-push c.args.self.now.rows (arc_value c.args.path) c.args.entry c.requires) c.push.ensures.ok

pub returns-clause-processes : goal.returns-clause-processes
returns-clause-processes g c = IfOk-weaker c.push.result _ _ (λ u is p.
    puts_one (g.P.Proc.seen p) c.args.self.now (record { rows = c.push.new.self }) (arc_value c.args.path) c.args.entry (ap numbered_map is ∙ map-push c.args.self.now.rows (arc_value c.args.path) c.args.entry c.requires)) c.push.ensures.ok

pub returns-clause-order : goal.returns-clause-order
returns-clause-order g c = IfOk-weaker c.push.result _ _ (λ u is. ap places is ∙ places-push c.args.self.now.rows (arc_value c.args.path) c.args.entry) c.push.ensures.ok

pub returns-clause-told : goal.returns-clause-told
returns-clause-told g c = IfOk-weaker c.push.result _ _ (λ u is p own next but.
    told_put (g.P.Proc.seen p) (g.P.Proc.IsNext p) own c.args.self.now (record { rows = c.push.new.self }) (arc_value c.args.path) c.args.entry (ap numbered_map is ∙ map-push c.args.self.now.rows (arc_value c.args.path) c.args.entry c.requires) (inr next) but) c.push.ensures.ok

pub returns-clause-families : goal.returns-clause-families
returns-clause-families g c = IfOk-weaker c.push.result _ _ (λ u is p own has but.
    families_push (g.P.Proc.seen p) g.P.Proc.awaits own c.args.self.now (record { rows = c.push.new.self }) (arc_value c.args.path) c.args.entry (ap numbered_map is ∙ map-push c.args.self.now.rows (arc_value c.args.path) c.args.entry c.requires)
    (ap places is ∙ places-push c.args.self.now.rows (arc_value c.args.path) c.args.entry) has but) c.push.ensures.ok
