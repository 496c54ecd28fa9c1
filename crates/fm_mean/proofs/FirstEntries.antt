-- What a map of names answers that was made of a list, of which the first entry for each name counts.
use Rattle.std.proofs.Common.{◌≡◌, ℕ, Bool, true, false, cond, Option, Some, None, List, [], ◌∷◌, refl, sym, ap, ◌∙◌}
use Rattle.std.specs.Prelude.{if◌then◌else◌, is_some}
use Rattle.std.specs.FinMap.{empty, get, insert, get-insert, get-empty}
use Rattle.std.specs.Ordering.{nat_cmp}
use Rattle.std.specs.Cmp.Lexicographic.{slice_cmp}
use Rattle.fm_finmap.proofs.Keys.{nat_list_order, tie}
use Rattle.fm_mean.specs.Names.{same_name}
use Rattle.fm_symbols.specs.ByName.{ByName, with_new, with_all, first_of_each}

abbrev pub or_then : {X : Type 0} → Option X → Option X → Option X
or_then None other = other
or_then (Some x) other = Some x

-- the first entry for a name
abbrev pub first_entry : {X : Type 0} → List (List ℕ × X) → List ℕ → Option X
first_entry [] name = None
first_entry (e ∷ es) name = cond (same_name name e.0) (Some e.1) (first_entry es name)

or_none : {X : Type 0} (o : Option X) → o ≡ or_then o None
or_none None = refl
or_none (Some x) = refl

kept_one : {X : Type 0} (v w : Option X) (y : X) → v ≡ Some y → v ≡ or_then v w
kept_one None w y e = absurd (cc)
kept_one (Some x) w y e = refl

or_then_assoc : {X : Type 0} (a : Option X) (b : Bool) (x : X) (c : Option X) → or_then (or_then a (cond b (Some x) None)) c ≡ or_then a (cond b (Some x) c)
or_then_assoc None true x c = refl
or_then_assoc None false x c = refl
or_then_assoc (Some y) b x c = refl

new_by : {X : Type 0} (m : ByName X) (name : List ℕ) (x : X) (q : List ℕ) (t : Bool) → same_name q name ≡ t → (o : Option X) → get m name ≡ o → get (if is_some o then m else insert m name x) q ≡ or_then (get m q) (cond t (Some x) None)
new_by m name x q true tied (Some y) is = kept_one (get m q) (Some x) y (ap (get m) (tie nat_list_order q name tied) ∙ is)
new_by m name x q true tied None is =
    get-insert nat_list_order.total m name x q
    ∙ ap (λ b. cond b (Some x) (get m q)) tied
    ∙ sym (ap (λ v. or_then v (Some x)) (ap (get m) (tie nat_list_order q name tied) ∙ is))
new_by m name x q false apart (Some y) is = or_none (get m q)
new_by m name x q false apart None is = get-insert nat_list_order.total m name x q ∙ ap (λ b. cond b (Some x) (get m q)) apart ∙ or_none (get m q)

pub new_there : {X : Type 0} (m : ByName X) (name : List ℕ) (x : X) (q : List ℕ) → get (with_new m name x) q ≡ or_then (get m q) (cond (same_name q name) (Some x) None)
new_there m name x q = new_by m name x q (same_name q name) refl (get m name) refl

all_there : {X : Type 0} (m : ByName X) (es : List (List ℕ × X)) (q : List ℕ) → get (with_all m es) q ≡ or_then (get m q) (first_entry es q)
all_there m [] q = or_none (get m q)
all_there m (e ∷ es) q =
    all_there (with_new m e.0 e.1) es q
    ∙ ap (λ v. or_then v (first_entry es q)) (new_there m e.0 e.1 q)
    ∙ or_then_assoc (get m q) (same_name q e.0) e.1 (first_entry es q)

pub first_there : {X : Type 0} (es : List (List ℕ × X)) (q : List ℕ) → get (first_of_each es) q ≡ first_entry es q
first_there es q = all_there empty es q ∙ ap (λ v. or_then v (first_entry es q)) (get-empty (slice_cmp nat_cmp) q)
