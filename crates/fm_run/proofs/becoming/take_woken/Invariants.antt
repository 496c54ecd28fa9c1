use Rattle.std.proofs.Common.{◌≡◌, ◌⊎◌, ℕ, length}
use Rattle.std.specs.Prelude.{Contains}
use Rattle.fm_base.specs.declared.path.ChanName.{ChanName}
use Rattle.fm_chan.specs.Woken.{waiting_reader, woken_of}
use Rattle.fm_run.proofs.becoming.take_woken.Given as goal

abbrev pub invariant-woken : goal.invariant-woken
invariant-woken g l = record {
  order : g.N.Net.order l.net ≡ g.N.Net.order l.fn.net;
  history : g.N.Net.history l.net ≡ g.N.Net.history l.fn.net;
  state : (p : g.row.N-Source.Denot) → g.N.Net.state p l.net ≡ g.N.Net.state p l.fn.net;
  sound : (p : g.row.N-Source.Denot) → g.N.Net.IsSound p l.fn.net → g.N.Net.IsSound p l.net;
  readers : (c : ChanName) → waiting_reader (g.N.Net.channels l.net) c ≡ waiting_reader (g.N.Net.channels l.fn.net) c;
  woken : (n : ℕ) → Contains (woken_of (g.N.Net.channels l.fn.net)) n → Contains l.all.items n ⊎ Contains (woken_of (g.N.Net.channels l.net)) n;
}

abbrev pub decreases-woken : goal.decreases-woken
decreases-woken g l = length (woken_of (g.N.Net.channels l.net))
