-- The paths of the processes, as they are copied.
use Rattle.std.proofs.Common.{◌≡◌, ℕ, zero, suc, ◌+◌, ◌<◌, ◌≤◌, List, [], ◌∷◌, ◌++◌, length, take, drop, get_or, append-nil, append_assoc, refl, sym, ap, ap₂, ◌∙◌, arith}
use Rattle.std.specs.declared.alloc.Global.{Global}
use Rattle.std.specs.declared.sync.Arc.{Arc}
use Rattle.std.proofs.Math.Seq.{take-append_seam, take-suc}
use Rattle.std.proofs.Math.ListN.{get_or-map}
use Rattle.std.proofs.lemmas.List.{length-map, map-append, take_all}
use Rattle.fm_base.specs.declared.path.Path.{Path}
use Rattle.fm_net.specs.Machine.{Place}
use Rattle.fm_run.specs.Orders.{place_in, places_of}

-- so many of all are there, behind those that were there
pub record ArePut (all old now : List (Arc Path Global)) (count : ℕ) : Type 0 where
  pub there : places_of now ≡ take count (places_of all)
  pub more : List (Arc Path Global)
  pub grown : now ≡ old ++ more

pub none_put : (all old : List (Arc Path Global)) (more : List Place) → places_of all ≡ places_of old ++ more → ArePut all old old (length old)
none_put all old more whole = record {
  there =
      sym (take-append_seam (places_of old) more) ∙ ap (λ (n : ℕ). take n (places_of old ++ more)) (length-map old place_in)
      ∙ ap (take (length old)) (sym whole);
  more = [];
  grown = sym (append-nil old);
}

pub one_put : (all old now later : List (Arc Path Global)) (count : ℕ) (path d : Arc Path Global) → ArePut all old now count → count < length all → later ≡ now ++ path ∷ [] → place_in path ≡ place_in (get_or all count d) → ArePut all old later (count + 1)
one_put all old now later count path d put low is same =
    let counted : length (places_of all) ≡ length all = length-map all place_in in
    let next : suc count ≡ count + 1 = omega arith in
    record {
      there =
          ap places_of is ∙ map-append place_in now (path ∷ []) ∙ ap₂ (λ (ps : List Place) (p : Place). ps ++ p ∷ []) put.there (same ∙ sym (get_or-map place_in all count d))
          ∙ sym (take-suc (places_of all) count (place_in d) (omega (arith, low, counted))) ∙ ap (λ (n : ℕ). take n (places_of all)) next;
      more = put.more ++ path ∷ [];
      grown = is ∙ ap (λ (ps : List (Arc Path Global)). ps ++ path ∷ []) put.grown ∙ append_assoc old put.more (path ∷ []);
    }

pub all_put : (all old now : List (Arc Path Global)) (count : ℕ) → ArePut all old now count → length all ≤ count → places_of now ≡ places_of all
all_put all old now count put high =
    let counted : length (places_of all) ≡ length all = length-map all place_in in
    put.there ∙ take_all count (places_of all) (omega (arith, high, counted))

pub still_first : (all old now : List (Arc Path Global)) (count : ℕ) → ArePut all old now count → (more : List Place) × (places_of all ≡ places_of now ++ more)
still_first all old now count put = (drop count (places_of all), sym (split count (places_of all)) ∙ ap (λ (ps : List Place). ps ++ drop count (places_of all)) (sym put.there))
  where
    split : (n : ℕ) (ps : List Place) → take n ps ++ drop n ps ≡ ps
    split zero ps = refl
    split (suc n) [] = refl
    split (suc n) (p ∷ ps) = ap (λ (qs : List Place). p ∷ qs) (split n ps)
