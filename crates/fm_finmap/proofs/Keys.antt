-- Keys that tie only where they are equal.
use Rattle.std.proofs.Common.{◌≡◌, ◌≢◌, Bool, true, false, cond, refl, sym, ap, ◌∙◌}
use Rattle.std.specs.FinMap.{FinMap, same_map, get}
use Rattle.std.specs.Ordering.{on, nat_cmp, eq_by_cmp, is_eq}
use Rattle.std.specs.Cmp.{tied_itself, nat_cmp_total, on_total, Equal-is}
use Rattle.std.specs.Cmp.Lexicographic.{slice_cmp, nat_list_cmp_total}
use Rattle.std.specs.FinMap.{nat_cmp-IsAntisymmetric, slice_cmp-IsAntisymmetric}
use Rattle.std.specs.declared.cmp.Ordering.{Ordering}
use Rattle.fm_base.specs.PathOrder.{path_cmp, channel_cmp}
use Rattle.fm_base.proofs.PathLaws.{path_total, path_exact, channel_total, channel_exact}
use Rattle.fm_finmap.specs.Keys.{IsKeyOrder}

not_true : (b : Bool) → (b ≡ true → ⊥) → b ≡ false
not_true true n = absurd (n refl)
not_true false n = refl

-- two tests of which at most one passes may be made in either order
pub crossed : {X : Type 0} (a b : Bool) (x y z : X) → (a ≡ true → b ≡ true → ⊥) → cond a x (cond b y z) ≡ cond b y (cond a x z)
crossed true true x y z apart = absurd (apart refl refl)
crossed true false x y z apart = refl
crossed false b x y z apart = refl

-- the second of two equal tests isn't reached
pub once_more : {X : Type 0} (b : Bool) (x y z : X) → cond b x (cond b y z) ≡ cond b x z
once_more true x y z = refl
once_more false x y z = refl

module _ {K : Type 0} {R : K → K → Ordering} (o : IsKeyOrder R) where
  pub tie : (x y : K) → eq_by_cmp R x y ≡ true → x ≡ y
  tie x y e = o.exact x y ((Equal-is (R x y)).0 e)

  pub tie_self : (x : K) → eq_by_cmp R x x ≡ true
  tie_self x = ap is_eq (tied_itself o.total x)

  pub tie_not : (x y : K) → (x ≢ y) → eq_by_cmp R x y ≡ false
  tie_not x y n = not_true (eq_by_cmp R x y) (λ e. n (tie x y e))

  -- equality of keys can be decided
  pub decide : (x y : K) → Dec (x ≡ y)
  decide x y = go (eq_by_cmp R x y) refl
    where
      go : (b : Bool) → eq_by_cmp R x y ≡ b → Dec (x ≡ y)
      go true e = yes (tie x y e)
      go false e = no (λ p. cc (sym e ∙ ap (λ z. eq_by_cmp R x z) (sym p) ∙ tie_self x))

  -- maps that answer alike are equal
  pub same : {X : Type 0} (m n : FinMap R X) → ((q : K) → get m q ≡ get n q) → m ≡ n
  same m n alike = same_map o.total o.exact m n alike

-- the order of numbers, and of lists of numbers
pub nat_order : IsKeyOrder nat_cmp
nat_order = record { total = nat_cmp_total; exact = nat_cmp-IsAntisymmetric }

pub nat_list_order : IsKeyOrder (slice_cmp nat_cmp)
nat_list_order = record { total = nat_list_cmp_total; exact = slice_cmp-IsAntisymmetric nat_cmp-IsAntisymmetric }

-- the orders of paths and of names of channels
pub path_order : IsKeyOrder path_cmp
path_order = record { total = path_total; exact = path_exact }

pub channel_order : IsKeyOrder channel_cmp
channel_order = record { total = channel_total; exact = channel_exact }

-- keys ordered by a function of them that tells them apart
pub order_on : {K N : Type 0} {R : N → N → Ordering} → IsKeyOrder R → (number : K → N) → ((x y : K) → number x ≡ number y → x ≡ y) → IsKeyOrder (on number R)
order_on o number apart = record { total = on_total number o.total; exact = λ x y e. apart x y (o.exact (number x) (number y) e) }
