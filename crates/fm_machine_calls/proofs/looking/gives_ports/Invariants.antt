use Rattle.std.proofs.Common.{◌≡◌, drop}
use Rattle.std.specs.List.{list_any}
use Rattle.fm_code.specs.declared.body.Back.{Back}
use Rattle.fm_machine_calls.proofs.looking.gives_ports.Given as goal

abbrev pub invariant-backs : goal.invariant-backs
invariant-backs l = list_any (λ (b : Back). b.port) (drop l.back-index l.backs) ≡ list_any (λ (b : Back). b.port) l.backs
