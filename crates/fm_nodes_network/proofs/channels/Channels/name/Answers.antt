use Rattle.std.proofs.Common.{sym, ap, ◌∙◌, option_map}
use Rattle.std.proofs.lemmas.Iterator.Consumers.{YieldsList-from_rest, nth_from_yields_List}
use Rattle.std.specs.Map.Iter.{deref_pair}
use Rattle.std.specs.FinMap.{entries}
use Rattle.fm_base.specs.declared.path.ChanName.{ChanName}
use Rattle.fm_base.specs.PathOrder.{channel_cmp}
use Rattle.fm_finmap.specs.Map.{map_of}
use Rattle.fm_nodes_network.specs.declared.channel.Channel.{Channel}
use Rattle.fm_nodes_network.proofs.Leaving.{name_at}
use Rattle.fm_nodes_network.proofs.channels.Channels.name.Goals as goal

pub returns-in-Some : goal.returns-in-Some
returns-in-Some c =
    let es = entries (map_of channel_cmp c.args.self.now.by_name) in
    let got = nth_from_yields_List c.nth.result _ c.args.at c.nth.ensures.ran (YieldsList-from_rest {shows = deref_pair {K = ChanName} {X = Channel}} es c.iter.ensures.rest) in
    ap (option_map (λ (e : ChanName × Channel). e.0)) (ap (option_map (deref_pair {K = ChanName} {X = Channel})) (sym c.in-Some.is)) ∙ name_at c.args.self.now.by_name _ c.args.at got

pub returns-in-None : goal.returns-in-None
returns-in-None c =
    let es = entries (map_of channel_cmp c.args.self.now.by_name) in
    let got = nth_from_yields_List c.nth.result _ c.args.at c.nth.ensures.ran (YieldsList-from_rest {shows = deref_pair {K = ChanName} {X = Channel}} es c.iter.ensures.rest) in
    ap (option_map (λ (e : ChanName × Channel). e.0)) (ap (option_map (deref_pair {K = ChanName} {X = Channel})) (sym c.in-None.is)) ∙ name_at c.args.self.now.by_name _ c.args.at got
