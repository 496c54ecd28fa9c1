-- A language with marks corresponds to the one without.
use Rattle.std.proofs.Common.{◌≡◌, List, [], ◌∷◌, true, map, refl, ap, ap₂, subst}
use Rattle.fm_sched.specs.Simulation.{Passes, ReadsAs}
use Rattle.fm_net.specs.Machine.{Place, Need, Reply, Onward, Ask, Stop, Go, made}
use Rattle.fm_net.specs.Language.{Language}
use Rattle.fm_net.specs.Correspondence.{Pairwise, RepliesCorrespond, OnwardsCorrespond, AsksCorrespond, ComesIn, IsCorrespondence}
use Rattle.fm_net.specs.Marked.{unmarked, reply_unmarked, onward_marked, ask_marked, marked}

module _ {Proc M : Type 0} where
  abbrev pub Reads : Proc × M → Proc → Type 0
  Reads = ReadsAs unmarked (λ y. true)

  same_children : (ys : List (Proc × M)) (xs : List Proc) → Pairwise Reads ys xs → map unmarked ys ≡ xs
  same_children [] [] h = refl
  same_children [] (x ∷ xs) h = absurd h
  same_children (y ∷ ys) [] h = absurd h
  same_children (y ∷ ys) (x ∷ xs) h = ap₂ (λ z zs. z ∷ zs) h.0.0 (same_children ys xs h.1)

  same_reply : (u : Reply (Proc × M)) (r : Reply Proc) → RepliesCorrespond Reads u r → reply_unmarked u ≡ r
  same_reply u r h = λ i. record { message = h.message i; exceeds = h.exceeds i; waits = h.waits i; children = same_children u.children r.children h.children i }

  marked_starts : (m : M) (xs : List Proc) → Pairwise Reads (map (λ x. (x, m)) xs) xs
  marked_starts m [] = tt
  marked_starts m (x ∷ xs) = ((refl, refl), marked_starts m xs)

  marked_onward : (m : M) (o : Onward Proc) → OnwardsCorrespond Reads (onward_marked m o) o
  marked_onward m o = record { self = (refl, refl); block = refl; starts = marked_starts m o.starts; drops = refl; cost = refl }

  marked_ask : (Comes : Place → Need → Reply Proc → Type 0) (p : Place) (m : M) (a : Ask Proc) → AsksCorrespond Reads Comes p (ask_marked m a) a
  marked_ask Comes p m Stop = tt
  marked_ask Comes p m (Go need f) = (
    refl,
    λ u r comes h. subst (λ v. OnwardsCorrespond Reads (onward_marked m (f (made p need) (reply_unmarked u))) (f (made p need) v)) (same_reply u r h) (marked_onward m (f (made p need) (reply_unmarked u))),
  )

  pub marks_tell_nothing : (language : Language Proc) → IsCorrespondence Reads (Passes (λ s. true)) language (marked {M = M} language)
  marks_tell_nothing language = record {
    stays_live = λ s p live can. refl;
    asks = λ s live p x y is h.
        subst (λ z. AsksCorrespond Reads (ComesIn language s) p (ask_marked y.1 (language.ask y.0)) (language.ask z)) h.0
        (marked_ask (ComesIn language s) p y.1 (language.ask y.0));
    ended = λ x y h. ap language.has_ended h.0;
    emptied = λ x y done h. (ap language.emptied h.0, refl);
  }
