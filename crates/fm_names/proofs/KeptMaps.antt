-- Maps that have the values of another one, changed.
use Rattle.std.proofs.Common.{◌≡◌, ℕ, Bool, true, false, cond, Option, Some, None, List, [], ◌∷◌, ◌++◌, refl, sym, ap, ◌∙◌}
use Rattle.std.specs.Prelude.{if◌then◌else◌, is_some}
use Rattle.std.specs.FinMap.{empty, get, contains_key, insert, get-insert, get-empty}
use Rattle.std.specs.Option.{option_map}
use Rattle.std.specs.Ordering.{nat_cmp, eq_by_cmp}
use Rattle.std.specs.Cmp.Lexicographic.{slice_cmp, nat_list_cmp_total}
use Rattle.std.proofs.lemmas.List.{map-append}
use Rattle.fm_symbols.specs.ByName.{ByName, with_new, with_all, first_of_each}
use Rattle.fm_names.specs.KeptSheets.{with_values}

pub with_values_append : {X : Type 0} (f : X → X) (es ds : List (List ℕ × X)) → with_values f (es ++ ds) ≡ with_values f es ++ with_values f ds
with_values_append f es ds = map-append (λ e. (e.0, f e.1)) es ds

module _ {X : Type 0} (f : X → X) where
  abbrev Changes : ByName X → ByName X → Type 0
  Changes m n = (q : List ℕ) → get n q ≡ option_map f (get m q)

  inserted : (m n : ByName X) (name : List ℕ) (x : X) → Changes m n → Changes (insert m name x) (insert n name (f x))
  inserted m n name x h q =
      get-insert nat_list_cmp_total n name (f x) q ∙ both (eq_by_cmp (slice_cmp nat_cmp) q name) ∙ sym (ap (option_map f) (get-insert nat_list_cmp_total m name x q))
    where
      both : (b : Bool) → cond b (Some (f x)) (get n q) ≡ option_map f (cond b (Some x) (get m q))
      both true = refl
      both false = h q

  added : (m n : ByName X) (name : List ℕ) (x : X) → Changes m n → Changes (with_new m name x) (with_new n name (f x))
  added m n name x h q = ap (λ o. get (if is_some o then n else insert n name (f x)) q) (h name) ∙ go (get m name)
    where
      go : (o : Option X) → get (if is_some (option_map f o) then n else insert n name (f x)) q ≡ option_map f (get (if is_some o then m else insert m name x) q)
      go None = inserted m n name x h q
      go (Some y) = h q

  all_added : (m n : ByName X) (es : List (List ℕ × X)) → Changes m n → Changes (with_all m es) (with_all n (with_values f es))
  all_added m n [] h q = h q
  all_added m n (e ∷ es) h q = all_added (with_new m e.0 e.1) (with_new n e.0 (f e.1)) es (added m n e.0 e.1 h) q

  pub values_changed : (es : List (List ℕ × X)) (q : List ℕ) → get (first_of_each (with_values f es)) q ≡ option_map f (get (first_of_each es) q)
  values_changed es q = all_added empty empty es (λ q. get-empty (slice_cmp nat_cmp) q ∙ sym (ap (option_map f) (get-empty (slice_cmp nat_cmp) q))) q

  -- the names are the same
  pub same_names : (es : List (List ℕ × X)) (q : List ℕ) → contains_key (first_of_each (with_values f es)) q ≡ contains_key (first_of_each es) q
  same_names es q = ap is_some (values_changed es q) ∙ same_some (get (first_of_each es) q)
    where
      same_some : (o : Option X) → is_some (option_map f o) ≡ is_some o
      same_some None = refl
      same_some (Some x) = refl
