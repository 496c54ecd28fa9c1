-- Names with a list in parentheses, one after the other.
use Rattle.std.proofs.Common.{◌≡◌, ℕ, ◌+◌, ◌<◌, List, [], ◌∷◌, ◌++◌, length, map, drop, get_or, refl, sym, ap, ◌∙◌, append_assoc}
use Rattle.std.proofs.lemmas.List.{append-nil, drop_more}
use Rattle.fm_tree.specs.Tree.{Tree}
use Rattle.fm_tree.specs.References.{applied_name}
use Rattle.fm_rules.specs.Applied.{visited}
use Rattle.fm_tree_walk.specs.declared.walk.Names.{Names}

pub applied_append : {V : Type 0} (after : V → List ℕ → Tree → V) (v : V) (xs ys : List Tree) → visited after v (xs ++ ys) ≡ visited after (visited after v xs) ys
applied_append after v [] ys = refl
applied_append after v (t ∷ xs) ys = applied_append after (after v (applied_name t) t) xs ys

-- one more of a list of those that have them
pub applied_more : {V T : Type 0} (after : V → List ℕ → Tree → V) (applied : T → List Tree) (all : List T → List Tree) (m n z : V) (xs : List T) (i : ℕ) (x : T)
    → ((y : T) (ys : List T) → all (y ∷ ys) ≡ applied y ++ all ys) → i < length xs → x ≡ get_or xs i x → n ≡ visited after m (applied x)
    → visited after m (all (drop i xs)) ≡ z → visited after n (all (drop (i + 1) xs)) ≡ z
applied_more after applied all m n z xs i x split l is new h =
    let e : drop i xs ≡ x ∷ drop (i + 1) xs = drop_more xs i x l ∙ ap (λ y. y ∷ drop (i + 1) xs) (sym is) in
    ap (λ f. visited after f (all (drop (i + 1) xs))) new
    ∙ sym (applied_append after m (applied x) (all (drop (i + 1) xs)))
    ∙ ap (visited after m) (sym (split x (drop (i + 1) xs)) ∙ ap all (sym e)) ∙ h

-- the visitor that keeps the names
pub names_behind : (v : Names) (ts : List Tree) → (visited (λ w n t. record w { names = w.names ++ n ∷ [] }) v ts).names ≡ v.names ++ map applied_name ts
names_behind v [] = sym (append-nil v.names)
names_behind v (t ∷ ts) = names_behind (record v { names = v.names ++ applied_name t ∷ [] }) ts ∙ append_assoc v.names (applied_name t ∷ []) (map applied_name ts)
