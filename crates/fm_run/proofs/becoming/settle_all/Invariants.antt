use Rattle.std.proofs.Common.{◌≡◌, ◌≢◌, ℕ, true, length}
use Rattle.std.specs.Prelude.{Contains}
use Rattle.fm_run.specs.Noted.{AreNotedBut, OwnOrLeft}
use Rattle.fm_run.specs.Orders.{Among, AreMarked, EachOnce, KeepsFront, can_at, newly}
use Rattle.fm_run.proofs.Queueing.{AreAsked}
use Rattle.fm_run.proofs.becoming.settle_all.Given as goal

abbrev pub invariant-candidates : goal.invariant-candidates
invariant-candidates g l = record {
  marks : AreMarked (length (g.N.Net.order l.fn.net)) l.able.marks.items l.able.numbers.items;
  order : g.N.Net.order l.net ≡ g.N.Net.order l.fn.net;
  history : g.N.Net.history l.net ≡ g.N.Net.history l.fn.net;
  state : g.N.Net.state l.program l.net ≡ g.N.Net.state l.program l.fn.net;
  sound : g.N.Net.IsSound l.program l.net;
  able : ((n : ℕ) → n ≢ l.own → Among n l.fn.able.numbers.items → can_at (g.N.Net.play l.program) (g.N.Net.state l.program l.fn.net) (g.N.Net.order l.fn.net) n ≡ true) → (n : ℕ) → n ≢ l.own → Among n l.able.numbers.items → can_at (g.N.Net.play l.program) (g.N.Net.state l.program l.fn.net) (g.N.Net.order l.fn.net) n ≡ true;
  queue : ((n : ℕ) → newly (can_at (g.N.Net.play l.program) (g.N.Net.state l.program l.fn.net) (g.N.Net.order l.fn.net)) l.own l.fn.able.numbers.items n ≡ true → Contains l.candidates n)
      → AreAsked (can_at (g.N.Net.play l.program) (g.N.Net.state l.program l.fn.net) (g.N.Net.order l.fn.net)) l.own l.fn.able.numbers.items l.candidates l.number-index l.able.numbers.items;
  front : KeepsFront l.fn.able.numbers.items l.able.numbers.items;
  once : EachOnce l.fn.able.numbers.items → EachOnce l.able.numbers.items;
  noted : ((n : ℕ) → n ≢ l.own → Among n l.fn.able.numbers.items → can_at (g.N.Net.play l.program) (g.N.Net.state l.program l.fn.net) (g.N.Net.order l.fn.net) n ≡ true)
      → AreNotedBut (g.N.Net.play l.program) (g.N.Net.state l.program l.fn.net) (g.N.Net.channels l.fn.net) (g.N.Net.order l.fn.net) (OwnOrLeft l.own l.candidates 0)
      → AreNotedBut (g.N.Net.play l.program) (g.N.Net.state l.program l.fn.net) (g.N.Net.channels l.net) (g.N.Net.order l.fn.net) (OwnOrLeft l.own l.candidates l.number-index);
}
