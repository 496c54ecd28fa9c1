-- A table compares names byte by byte, and its definitions compare them by their order.
use Rattle.std.proofs.Common.{◌≡◌, ℕ, nat_eq, Option, Some, None, Bool, true, false, cond, List, [], ◌∷◌, ◌++◌, refl, sym, ap, ap₂, ◌∙◌, true≢false}
use Rattle.std.specs.Prelude.{is_some, if◌then◌else◌}
use Rattle.std.specs.Cmp.Lexicographic.{pointwise, texts_ties}
use Rattle.std.specs.Map.{lookup}
use Rattle.indexmap.specs.IndexMap.{IndexMap, insert_entry}
use Rattle.indexmap.proofs.CallerLemmas.{insert_entry-new}
use Rattle.fm_finmap.specs.Table.{added, look_up}

look_up-lookup : {V : Type 0} (name : List ℕ) (es : List (List ℕ × V)) → look_up es name ≡ lookup (pointwise nat_eq name) es
look_up-lookup name [] = refl
look_up-lookup {V} name (e ∷ es) = ap₂ (λ b (v : Option V). cond b (Some e.1) v) (sym (texts_ties name e.0)) (look_up-lookup name es)

no_value : {V : Type 0} (v : Option V) → is_some v ≡ false → v ≡ None
no_value None e = refl
no_value (Some x) e = absurd (true≢false e)

-- the entries of a table, and a name with its value
module _ {V S : Type 0} (t : IndexMap (List ℕ) V S) (name : List ℕ) (v : V) where
  known_by : (b : Bool) → is_some (lookup (pointwise nat_eq name) t.entries) ≡ b → added t.entries name v ≡ (if b then t.entries else t.entries ++ (name, v) ∷ [])
  known_by b is = ap (λ c. if c then t.entries else t.entries ++ (name, v) ∷ []) (ap is_some (look_up-lookup name t.entries) ∙ is)

  -- a name that is there
  pub added_known : is_some (lookup (pointwise nat_eq name) t.entries) ≡ true → t.entries ≡ added t.entries name v
  added_known is = sym (known_by true is)

  -- a name that isn't
  pub added_new : is_some (lookup (pointwise nat_eq name) t.entries) ≡ false → (key : List ℕ) → key ≡ name → insert_entry (pointwise nat_eq) t.entries key v ≡ added t.entries name v
  added_new is key same =
      ap (λ k. insert_entry (pointwise nat_eq) t.entries k v) same
      ∙ insert_entry-new (pointwise nat_eq) t name v (no_value (lookup (pointwise nat_eq name) t.entries) is) ∙ sym (known_by false is)
