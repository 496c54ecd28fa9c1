use Rattle.std.proofs.Common.{◌≡◌, ◌++◌, drop}
use Rattle.fm_mean.specs.Actions.{elements_of}
use Rattle.fm_plain.proofs.messages.push_all_elements.Given as goal

abbrev pub invariant-spans : goal.invariant-spans
invariant-spans l = l.places ++ elements_of (drop l.span-index l.spans) ≡ l.fn.places ++ elements_of l.spans
