use Rattle.std.proofs.Common.{◌≡◌, ◌+◌, ◌-◌, ◌<◌, ◌≤◌, ℕ, true}
use Rattle.fm_net.proofs.kids.count_ended.Given as goal

-- those behind the first ones have ended, up to this place
abbrev pub invariant-children : goal.invariant-children
invariant-children g l = record {
  low : l.before ≤ l.place;
  high : l.before < l.place → l.place ≤ l.family.count;
  ended : (k : ℕ) → l.before ≤ k → k < l.place → g.E.Endings.over l.all (l.family.first + k) ≡ true;
}

abbrev pub decreases-children : goal.decreases-children
decreases-children g l = l.family.count - l.place
