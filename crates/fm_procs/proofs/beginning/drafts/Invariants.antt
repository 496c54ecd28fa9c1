use Rattle.std.proofs.Common.{◌≡◌, ◌++◌, drop, map}
use Rattle.std.specs.List.{AllByRecursion}
use Rattle.fm_procs.specs.Drafts.{IsReady, blank, child_in}
use Rattle.fm_procs.proofs.beginning.drafts.Given as goal

abbrev pub invariant-starts : goal.invariant-starts
invariant-starts l = record {
  children : map child_in l.drafts.items ++ map (blank l.body) (drop l.start-index l.starts) ≡ map (blank l.body) l.starts;
  ready : AllByRecursion IsReady l.drafts.items;
}
