-- Changes of the value at one key, where there is one.
use Rattle.std.proofs.Common.{◌≡◌, ◌≢◌, Option, Some, None, cond, option_map, refl, sym, ap, ◌∙◌}
use Rattle.std.specs.FinMap.{FinMap, get, insert}
use Rattle.std.specs.Ordering.{eq_by_cmp}
use Rattle.std.specs.declared.cmp.Ordering.{Ordering}
use Rattle.fm_finmap.specs.Keys.{IsKeyOrder}
use Rattle.fm_finmap.specs.Changes.{adjust, adjust_found, alter, put}
use Rattle.fm_finmap.proofs.Inserts.{put_same}
use Rattle.fm_finmap.proofs.Alters.{get-alter, alter_here, alter_there, alter_swap, alter_again, alter_alike, alter_past_put}

module _ {K X : Type 0} {R : K → K → Ordering} (o : IsKeyOrder R) where
  -- a change of the value is a change of what the map has there
  pub adjust-alter : (m : FinMap R X) (k : K) (f : X → X) → adjust m k f ≡ alter m k (option_map f)
  unfolding adjust alter
  adjust-alter m k f = go (get m k) refl
    where
      go : (v : Option X) → get m k ≡ v → adjust_found m k f v ≡ put m k (option_map f v)
      go None is = sym (put_same o m k None is)
      go (Some x) is = refl

  pub get-adjust : (m : FinMap R X) (k : K) (f : X → X) (q : K) → get (adjust m k f) q ≡ cond (eq_by_cmp R q k) (option_map f (get m q)) (get m q)
  get-adjust m k f q = ap (λ z. get z q) (adjust-alter m k f) ∙ get-alter o m k (option_map f) q

  pub adjust_here : (m : FinMap R X) (k : K) (f : X → X) → get (adjust m k f) k ≡ option_map f (get m k)
  adjust_here m k f = ap (λ z. get z k) (adjust-alter m k f) ∙ alter_here o m k (option_map f)

  pub adjust_there : (m : FinMap R X) (k : K) (f : X → X) (q : K) → (q ≢ k) → get (adjust m k f) q ≡ get m q
  adjust_there m k f q n = ap (λ z. get z q) (adjust-alter m k f) ∙ alter_there o m k (option_map f) q n

  pub adjust-insert : (m : FinMap R X) (k : K) (f : X → X) (x : X) → get m k ≡ Some x → adjust m k f ≡ insert m k (f x)
  unfolding adjust
  adjust-insert m k f x is = ap (adjust_found m k f) is

  pub adjust_absent : (m : FinMap R X) (k : K) (f : X → X) → get m k ≡ None → adjust m k f ≡ m
  unfolding adjust
  adjust_absent m k f is = ap (adjust_found m k f) is

  both-adjust : (m : FinMap R X) (k j : K) (f g : X → X) → adjust (adjust m j g) k f ≡ alter (alter m j (option_map g)) k (option_map f)
  both-adjust m k j f g = adjust-alter (adjust m j g) k f ∙ ap (λ z. alter z k (option_map f)) (adjust-alter m j g)

  option_map-map : (f g : X → X) (v : Option X) → option_map f (option_map g v) ≡ option_map (λ x. f (g x)) v
  option_map-map f g None = refl
  option_map-map f g (Some x) = refl

  -- two changes at one key are one
  pub adjust_again : (m : FinMap R X) (k : K) (f g : X → X) → adjust (adjust m k g) k f ≡ adjust m k (λ x. f (g x))
  adjust_again m k f g =
      both-adjust m k k f g ∙ alter_again o m k (option_map f) (option_map g)
      ∙ alter_alike o m k _ _ (option_map-map f g (get m k)) ∙ sym (adjust-alter m k (λ x. f (g x)))

  -- two changes commute, if they do at the one value where the keys are one
  pub adjust_swap : (m : FinMap R X) (k j : K) (f g : X → X) → (k ≡ j → (x : X) → get m k ≡ Some x → f (g x) ≡ g (f x)) → adjust (adjust m j g) k f ≡ adjust (adjust m k f) j g
  adjust_swap m k j f g meets =
      both-adjust m k j f g ∙ alter_swap o m k j (option_map f) (option_map g) (λ e. go (get m k) (meets e)) ∙ sym (both-adjust m j k g f)
    where
      go : (v : Option X) → ((x : X) → v ≡ Some x → f (g x) ≡ g (f x)) → option_map f (option_map g v) ≡ option_map g (option_map f v)
      go None meets = refl
      go (Some x) meets = ap Some (meets x refl)

  -- a change and an insertion at another key
  pub adjust_past_insert : (m : FinMap R X) (c k : K) (f : X → X) (v : X) → (c ≢ k) → adjust (insert m k v) c f ≡ insert (adjust m c f) k v
  adjust_past_insert m c k f v n = adjust-alter (insert m k v) c f ∙ alter_past_put o m c k (option_map f) (Some v) n ∙ ap (λ z. insert z k v) (sym (adjust-alter m c f))
