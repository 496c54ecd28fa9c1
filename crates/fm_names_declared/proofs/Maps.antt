-- Maps to which names are added one after the other.
use Rattle.std.proofs.Common.{◌≡◌, ℕ, List, [], ◌∷◌, ◌++◌, refl}
use Rattle.fm_symbols.specs.ByName.{ByName, with_new, with_all}

pub with_all_append : {X : Type 0} (m : ByName X) (es fs : List (List ℕ × X)) → with_all m (es ++ fs) ≡ with_all (with_all m es) fs
with_all_append m [] fs = refl
with_all_append m (e ∷ es) fs = with_all_append (with_new m e.0 e.1) es fs
