use Rattle.std.proofs.Common.{◌∷◌, ◌++◌, [], ap, sym, ◌∙◌, w64}
use Rattle.std.proofs.lemmas.Int.{to_z-of_z}
use Rattle.fm_machine.proofs.Returning.{result_whole}
use Rattle.fm_machine.proofs.performing.leave_result_whole.Goals as goal

pub returns-clause-gives : goal.returns-clause-gives
returns-clause-gives c =
    result_whole c.args.body.now c.args.value c.replace.new.dest c.in-Some.caller.now c.pop.new.self c.push.new.self (c.in-Some-pop.ensures ∙ ap (λ d. d ∷ c.pop.new.self) (sym c.replace.ensures.after)) c.in-Some.ensures
    (c.in_ok-push.ensures.ok ∙ ap (λ z. c.in_ok-results.results ++ z ∷ []) (to_z-of_z w64 c.args.value c.ranges.value) ∙ ap (λ l. l ++ c.args.value ∷ []) (c.in_ok-results.ensures ∙ c.as_slice.ensures))
