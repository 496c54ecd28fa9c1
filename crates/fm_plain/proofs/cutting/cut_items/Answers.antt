use Rattle.std.proofs.Common.{ap₂, sym, ◌∙◌, arith}
use Rattle.fm_tree.specs.PortReading.{fields_of}
use Rattle.fm_mean.specs.Actions.{cut_item}
use Rattle.fm_plain.proofs.CutLaws.{cuts_all, cuts_next}
use Rattle.fm_plain.proofs.cutting.cut_items.Goals as goal

pub items-preserved : goal.items-preserved
items-preserved c =
    cuts_next c.items.done c.push.new.self (fields_of c.items.left.now) (fields_of c.later_fields-left.result.now) c.in-Some.item c.in_ok-item.item c.items.waiting.items c.pop_front.new.self.items _ c.in-Some.ensures.items
    (sym c.in_ok-item.was ∙ c.cut_item.ensures ∙ ap₂ (λ done size. cut_item done size c.in-Some.item) c.as_slice.ensures c.first_size.ensures) c.later_fields-left.ensures c.in_ok-push.ensures.ok c.items.invariant

pub returns : goal.returns
returns c = cuts_all c.items.done (fields_of c.items.left.now) c.items.waiting.items _ (omega (arith, c.in_default.ensures.cases.0, c.items.waiting.ok.0)) c.items.invariant
