use Rattle.std.proofs.Common.{List, length, rules, arith, map, ap, subst, ◌∙◌}
use Rattle.std.proofs.lemmas.List.{map_push}
use Rattle.std.specs.List.{AllByRecursion}
use Rattle.fm_code.specs.declared.body.Start.{Start}
use Rattle.fm_proc_slots.specs.Rooms.{HasRoom, slots_in}
use Rattle.fm_procs.specs.declared.beginning.Draft.{Draft}
use Rattle.fm_procs.specs.Drafts.{IsReady, all_begun, child_in, rooms}
use Rattle.fm_proc_events.specs.Phases.{boxed_of}
use Rattle.fm_procs.proofs.Beginnings.{one_begun}
use Rattle.fm_procs.proofs.beginning.put_children.Goals as goal

pub drafts-preserved : goal.drafts-preserved
drafts-preserved c =
    let first = c.in-Some.ensures.items in
    let with_start = c.in-Some-pop_front.ensures.items in
    let on = one_begun (slots_in c.drafts.slots) (slots_in c.child.new.slots) (map child_in c.drafts.drafts.items) _ (child_in c.in-Some.draft) c.drafts.starts.items _ c.in-Some-pop_front.start (boxed_of c.child.result)
    (map boxed_of c.drafts.children.items) (map boxed_of c.push_reserved.new.self.items) (all_begun (slots_in c.args.slots.now) (map child_in c.args.drafts.items) c.args.starts.items)
    (ap (map child_in) first) with_start c.child.ensures.begun
    (ap (map boxed_of) c.push_reserved.ensures.items ∙ map_push boxed_of c.drafts.children.items c.child.result)
    c.drafts.invariant.begun c.drafts.invariant.slots
    in
    record {
      begun = on.begun;
      slots = on.slots;
      ready = (subst (AllByRecursion IsReady) first c.drafts.invariant.ready).1;
      paired = omega (arith, c.drafts.invariant.paired, ap (λ (l : List Draft). length l) first, ap (λ (l : List Start). length l) with_start);
      room = c.child.ensures.left _ (subst (λ l. HasRoom c.drafts.slots (rooms (map child_in l))) first c.drafts.invariant.room);
      reserved = search rules;
    }
