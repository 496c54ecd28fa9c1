-- Constants among what the names of a unit mean.
use Rattle.std.proofs.Common.{◌≡◌, ℕ, Bool, true, false, cond, if◌then◌else◌, is_some, Option, Some, None, List, [], ◌∷◌, ◌++◌, map, refl, sym, ap, ◌∙◌}
use Rattle.std.specs.FinMap as finite
use Rattle.std.specs.Ordering.{nat_cmp}
use Rattle.std.specs.Cmp.Lexicographic.{slice_cmp}
use Rattle.fm_finmap.proofs.Keys.{nat_list_order, tie}
use Rattle.fm_symbols.specs.ByName.{ByName, with_new, with_all}
use Rattle.fm_symbols.specs.Context.{constant_entry, constant_symbol, variable_entries, symbols_of}
use Rattle.fm_symbols.specs.declared.names.Constant.{Constant}
use Rattle.fm_symbols.specs.declared.names.Constant.TheVariants as constant
use Rattle.fm_symbols.specs.declared.names.UnitNames.{UnitNames}
use Rattle.fm_symbols.specs.declared.symbol.Symbol.{Symbol}
use Rattle.fm_mean.specs.Names.{constant_in, same_name}
use Rattle.fm_plain_frame.specs.Lookup.{is_constant}
use Rattle.fm_plain_frame.proofs.Scans.{true_false}

-- what a name has once another has got a value, if it had none
after_new : (m : ByName Symbol) (k : List ℕ) (x : Symbol) (q : List ℕ)
    → finite.get (with_new m k x) q ≡ cond (is_some (finite.get m k)) (finite.get m q) (cond (same_name q k) (Some x) (finite.get m q))
after_new m k x q = go (is_some (finite.get m k))
  where
    go : (b : Bool) → finite.get (if b then m else (finite.insert m k x)) q ≡ cond b (finite.get m q) (cond (same_name q k) (Some x) (finite.get m q))
    go true = refl
    go false = finite.get-insert nat_list_order.total m k x q

-- a name that has a value keeps it
keeps_new : (m : ByName Symbol) (k : List ℕ) (x : Symbol) (q : List ℕ) (s : Symbol) → finite.get m q ≡ Some s → finite.get (with_new m k x) q ≡ Some s
keeps_new m k x q s has = after_new m k x q ∙ go (is_some (finite.get m k)) (same_name q k) refl refl
  where
    go : (b d : Bool) → is_some (finite.get m k) ≡ b → same_name q k ≡ d → cond b (finite.get m q) (cond d (Some x) (finite.get m q)) ≡ Some s
    go true d there same = has
    go false true there same = absurd (true_false (is_some (finite.get m k)) (ap is_some (ap (finite.get m) (sym (tie nat_list_order q k same)) ∙ has)) there)
    go false false there same = has

keeps : (m : ByName Symbol) (es : List (List ℕ × Symbol)) (q : List ℕ) (s : Symbol) → finite.get m q ≡ Some s → finite.get (with_all m es) q ≡ Some s
keeps m [] q s has = has
keeps m (e ∷ es) q s has = keeps (with_new m e.0 e.1) es q s (keeps_new m e.0 e.1 q s has)

-- a constant that comes first is what its name means
constant_first : (m : ByName Symbol) (cs : List (List ℕ × Constant)) (es : List (List ℕ × Symbol)) (q : List ℕ) (c : Constant) → finite.get m q ≡ None → constant_in q cs ≡ Some c
    → finite.get (with_all m (map constant_entry cs ++ es)) q ≡ Some (constant_symbol c)
constant_first m [] es q c none is = absurd (cc)
constant_first m (d ∷ cs) es q c none is = go (same_name q d.0) refl is (λ n h. constant_first n cs es q c h)
  where
    the_constant : (a b : Constant) → Some a ≡ Some b → a ≡ b
    the_constant a b e = cc

    no_key : same_name q d.0 ≡ true → is_some (finite.get m d.0) ≡ false
    no_key same = ap is_some (ap (finite.get m) (sym (tie nat_list_order q d.0 same)) ∙ none)

    go : (b : Bool) → same_name q d.0 ≡ b → cond b (Some d.1) (constant_in q cs) ≡ Some c
        → ((n : ByName Symbol) → finite.get n q ≡ None → constant_in q cs ≡ Some c → finite.get (with_all n (map constant_entry cs ++ es)) q ≡ Some (constant_symbol c))
        → finite.get (with_all (with_new m d.0 (constant_symbol d.1)) (map constant_entry cs ++ es)) q ≡ Some (constant_symbol c)
    go true same e more =
        keeps (with_new m d.0 (constant_symbol d.1)) (map constant_entry cs ++ es) q (constant_symbol c)
        (after_new m d.0 (constant_symbol d.1) q
        ∙ ap (λ b. cond b (finite.get m q) (cond (same_name q d.0) (Some (constant_symbol d.1)) (finite.get m q))) (no_key same)
        ∙ ap (λ b. cond b (Some (constant_symbol d.1)) (finite.get m q)) same
        ∙ ap (λ x. Some (constant_symbol x)) (the_constant d.1 c e))
    go false same e more = more (with_new m d.0 (constant_symbol d.1)) (after_new m d.0 (constant_symbol d.1) q ∙ still (is_some (finite.get m d.0))) e
      where
        still : (b : Bool) → cond b (finite.get m q) (cond (same_name q d.0) (Some (constant_symbol d.1)) (finite.get m q)) ≡ None
        still true = none
        still false = ap (λ b. cond b (Some (constant_symbol d.1)) (finite.get m q)) same ∙ none

means_constant : (c : Constant) → is_constant (Some (constant_symbol c)) ≡ true
means_constant (constant.Integer n) = refl
means_constant (constant.Logical b) = refl

-- a name that means no constant is the name of none
pub no_constant : (n : UnitNames) (q : List ℕ) → is_constant (finite.get (symbols_of n) q) ≡ false → None ≡ constant_in q n.constants
no_constant n q not = go (constant_in q n.constants) refl
  where
    go : (o : Option Constant) → constant_in q n.constants ≡ o → None ≡ o
    go None e = refl
    go (Some c) e =
        let means : finite.get (symbols_of n) q ≡ Some (constant_symbol c) = constant_first finite.empty n.constants (variable_entries 0 n.variables) q c (finite.get-empty (slice_cmp nat_cmp) q) e in
        absurd (true_false (is_constant (finite.get (symbols_of n) q)) (ap is_constant means ∙ means_constant c) not)
