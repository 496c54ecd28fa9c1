use Rattle.std.proofs.Common.{List, ap, length, sym, ◌-◌, ◌∙◌}
use Rattle.std.specs.List.{flat_map}
use Rattle.fm_base.specs.declared.schedule.Turn.{Turn}
use Rattle.fm_run.proofs.EntryLaws.{no_entries, none_then, one_less, without_last}
use Rattle.fm_run.proofs.history.forget_last.Goals as goal

pub returns-clause-one : goal.returns-clause-one
returns-clause-one c = λ front t is.
    let mid = c.take_back.new.last in
    without_last (flat_map (λ v. v.items) c.take_back.new.whole.items) mid.items c.pop.new.self.items c.pop.result c.pop.ensures.items
    (λ e. no_entries mid.items (sym mid.ok.0 ∙ none_then _ _ c.pop.result _ c.pop.ensures.cases e)) (λ e. ap (flat_map (λ v. v.items)) (c.take_back.ensures.filled e)) front t (c.take_back.ensures.same ∙ is)

pub returns-clause-count : goal.returns-clause-count
returns-clause-count c =
    let mid = c.take_back.new.last in
    one_less (flat_map (λ v. v.items) c.take_back.new.whole.items) mid.items c.pop.new.self.items c.pop.result c.pop.ensures.items
    (λ e. no_entries mid.items (sym mid.ok.0 ∙ none_then _ _ c.pop.result _ c.pop.ensures.cases e)) (λ e. ap (flat_map (λ v. v.items)) (c.take_back.ensures.filled e)) ∙ ap (λ (ts : List Turn). length ts - 1) c.take_back.ensures.same
