use Rattle.std.proofs.Common.{◌≡◌, drop, option_map}
use Rattle.std.specs.List.{list_any}
use Rattle.fm_rules.specs.PortFitting.{messages_differ}
use Rattle.fm_rules.specs.PortRules.{message_at}
use Rattle.fm_ports.proofs.rules.outports_differ.Given as goal

abbrev pub invariant-ports : goal.invariant-ports
invariant-ports l =
    list_any (λ v. messages_differ (option_map (λ p. p.now) l.message) (message_at l.site.names.now l.site.context.now l.site.scope.now v)) (drop l.port-index l.ports)
    ≡ list_any (λ v. messages_differ (option_map (λ p. p.now) l.message) (message_at l.site.names.now l.site.context.now l.site.scope.now v)) l.ports
