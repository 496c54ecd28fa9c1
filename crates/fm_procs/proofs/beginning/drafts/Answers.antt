use Rattle.std.proofs.Common.{arith, subst, sym}
use Rattle.std.specs.List.{AllByRecursion}
use Rattle.fm_procs.specs.Drafts.{IsReady}
use Rattle.fm_procs.proofs.Beginnings.{all_ready, one_drafted}
use Rattle.fm_procs.proofs.beginning.drafts.Goals as goal

pub starts-preserved : goal.starts-preserved
starts-preserved c = record {
  children = one_drafted c.args.body.now c.starts.drafts.items c.push.new.self.items c.in_ok-draft_of.field-0 c.as_slice-starts.result.now c.starts.start-index c.start-item.result _ (omega arith) c.start-item.is c.in_ok-push.ensures.items c.in_ok-draft_of.ensures.child c.starts.invariant.children;
  ready = subst (AllByRecursion IsReady) (sym c.in_ok-push.ensures.items) (all_ready c.starts.drafts.items c.in_ok-draft_of.field-0 c.starts.invariant.ready c.in_ok-draft_of.ensures.ready);
}
