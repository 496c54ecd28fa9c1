-- What stays on the wire where hosts start again.
use Rattle.std.proofs.Common.{◌≡◌, Bool, true, false, cond, List, [], ◌∷◌, map, filter, refl, sym, ap, ◌∙◌}
use Rattle.fm_base.specs.declared.path.ChanName.{ChanName}
use Rattle.fm_link_law.specs.Hosts.{Hosts, restarted}
use Rattle.fm_link_law.specs.Hosts as plain
use Rattle.fm_nodes_network.specs.declared.network.Carried.{Carried}
use Rattle.fm_nodes_network.specs.Network.{carried_of}

staying : (stays : ChanName → Bool) (cs : List Carried) → map carried_of (filter (λ c. stays c.channel) cs) ≡ filter (λ (e : plain.Carried). stays e.0) (map carried_of cs)
staying stays [] = refl
staying stays (c ∷ cs) = go (stays c.channel) (staying stays cs)
  where
    go : (b : Bool) → map carried_of (filter (λ c. stays c.channel) cs) ≡ filter (λ (e : plain.Carried). stays e.0) (map carried_of cs)
        → map carried_of (cond b (c ∷ filter (λ c. stays c.channel) cs) (filter (λ c. stays c.channel) cs))
        ≡ cond b (carried_of c ∷ filter (λ (e : plain.Carried). stays e.0) (map carried_of cs)) (filter (λ (e : plain.Carried). stays e.0) (map carried_of cs))
    go true rest = ap (λ es. carried_of c ∷ es) rest
    go false rest = rest

pub restarts : {Proc : Type 0} (stays : ChanName → Bool) (h : Hosts Proc) (xs ys : List Carried) → h.wire ≡ map carried_of xs → ys ≡ filter (λ c. stays c.channel) xs
    → record { procs = h.procs; channels = h.channels; wire = map carried_of ys } ≡ restarted (λ e. stays e.0) h
restarts stays h xs ys wire is =
    ap (λ w. record { procs = h.procs; channels = h.channels; wire = w }) (ap (map carried_of) is ∙ staying stays xs ∙ ap (filter (λ (e : plain.Carried). stays e.0)) (sym wire))
