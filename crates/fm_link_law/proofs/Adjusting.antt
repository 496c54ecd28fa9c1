-- Facts of all channels, where one of them changes.
use Rattle.std.proofs.Common.{◌≡◌, ◌≢◌, List, [], ◌∷◌, Option, Some, None, option_map, refl, sym, ap, subst, ◌∙◌}
use Rattle.std.specs.FinMap as map
use Rattle.fm_base.specs.declared.path.ChanName.{ChanName}
use Rattle.fm_finmap.specs.Changes.{adjust}
use Rattle.fm_finmap.proofs.Keys.{channel_order, decide}
use Rattle.fm_finmap.proofs.Adjusts.{adjust_here, adjust_there}
use Rattle.fm_finmap.proofs.Inserts.{insert_here, insert_there}
use Rattle.fm_link_law.specs.Channels.{LinkedChan, LinkedChans, IsLinked}
use Rattle.fm_link_law.specs.Hosts.{Thing, Carried, IsTrueOf, IsTrueAt, AreTrue, AreLinked}

module _ (ls : LinkedChans) (c : ChanName) (f : LinkedChan → LinkedChan) where
  pub AreLinked-adjust : AreLinked ls → ((l : LinkedChan) → map.get ls c ≡ Some l → IsLinked l → IsLinked (f l)) → AreLinked (adjust ls c f)
  AreLinked-adjust all on q l at = go (decide channel_order q c)
    where
      changed : (o : Option LinkedChan) → map.get ls c ≡ o → option_map f o ≡ Some l → IsLinked l
      changed None is e = absurd (cc e)
      changed (Some k) is e = subst IsLinked (the_linked (f k) e) (on k is (all c k is))
        where
          the_linked : (k : LinkedChan) → Some k ≡ Some l → k ≡ l
          the_linked k e = cc

      go : Dec (q ≡ c) → IsLinked l
      go (yes e) = changed (map.get ls c) refl (sym (adjust_here channel_order ls c f) ∙ ap (map.get (adjust ls c f)) (sym e) ∙ at)
      go (no n) = all q l (sym (adjust_there channel_order ls c f q n) ∙ at)

  module _ (on : (l : LinkedChan) (t : Thing) → map.get ls c ≡ Some l → IsTrueOf l t → IsTrueOf (f l) t) where
    IsTrueAt-adjust : (e : Carried) → IsTrueAt ls e → IsTrueAt (adjust ls c f) e
    IsTrueAt-adjust e here = go (decide channel_order e.0 c)
      where
        go : Dec (e.0 ≡ c) → IsTrueAt (adjust ls c f) e
        go (yes same) =
            let is : map.get ls c ≡ Some here.0 = ap (map.get ls) (sym same) ∙ here.1 in
            (f here.0, ap (map.get (adjust ls c f)) same ∙ adjust_here channel_order ls c f ∙ ap (option_map f) is, on here.0 e.1 is here.2)
        go (no n) = (here.0, adjust_there channel_order ls c f e.0 n ∙ here.1, here.2)

    pub AreTrue-adjust : (es : List Carried) → AreTrue ls es → AreTrue (adjust ls c f) es
    AreTrue-adjust [] all = tt
    AreTrue-adjust (e ∷ es) all = (IsTrueAt-adjust e all.0, AreTrue-adjust es all.1)

-- a new channel
module _ (ls : LinkedChans) (c : ChanName) (k : LinkedChan) where
  pub AreLinked-insert : AreLinked ls → IsLinked k → AreLinked (map.insert ls c k)
  AreLinked-insert all here q l at = go (decide channel_order q c)
    where
      the_linked : (k : LinkedChan) → Some k ≡ Some l → k ≡ l
      the_linked k e = cc

      go : Dec (q ≡ c) → IsLinked l
      go (yes e) = subst IsLinked (the_linked k (sym (insert_here channel_order ls c k) ∙ ap (map.get (map.insert ls c k)) (sym e) ∙ at)) here
      go (no n) = all q l (sym (insert_there channel_order ls c k q n) ∙ at)

  pub AreTrue-insert : (es : List Carried) → map.get ls c ≡ None → AreTrue ls es → AreTrue (map.insert ls c k) es
  AreTrue-insert [] new all = tt
  AreTrue-insert (e ∷ es) new all = ((all.0.0, insert_there channel_order ls c k e.0 apart ∙ all.0.1, all.0.2), AreTrue-insert es new all.1)
    where
      apart : e.0 ≢ c
      apart same =
          let is : None ≡ Some all.0.0 = sym new ∙ ap (map.get ls) (sym same) ∙ all.0.1 in
          absurd (cc is)
