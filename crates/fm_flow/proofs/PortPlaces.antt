-- Ports by their places: they are those of variables, and a statement either gives ports or names a channel's.
use Rattle.std.proofs.Common.{◌≡◌, ℕ, suc, zero, ◌<◌, Bool, true, false, cond, ◌||◌, ◌&&◌, ◌==◌, Option, Some, None, option_map, List, [], ◌∷◌, ◌++◌, length, slice_get, flat_map, refl, sym, ap, ◌∙◌, subst, arith, ⊎_elim}
use Rattle.std.specs.Prelude.{Contains}
use Rattle.std.proofs.lemmas.Bool.{eq-eqb, eqb-true}
use Rattle.std.proofs.lemmas.Grind.{flat_map-append}
use Rattle.std.proofs.lemmas.List.{append-nil}
use Rattle.std.proofs.lemmas.Option.{slice_get_within}
use Rattle.fm_tree.specs.Tree.{Tree, Number, Truth, Named, Ref, Paren, Signed, Not, Binary}
use Rattle.fm_tree.specs.declared.program_unit.Entry.{Entry}
use Rattle.fm_tree.specs.declared.statement.Simple.TheVariants as simple
use Rattle.fm_tree.specs.declared.statement.Stmt.{Stmt}
use Rattle.fm_tree.specs.declared.statement.Stmt.TheVariants as stmt
use Rattle.fm_symbols.specs.declared.names.Variable.{Variable}
use Rattle.fm_rules.proofs.Lists.{at_head, behind_head, head_or_behind, not_in_none}
use Rattle.fm_mean.specs.Actions.{arguments_in}
use Rattle.fm_mean.specs.Names.{ProgramUnit, variable_at}
use Rattle.fm_flow_law.specs.Flow.{any_among, channel_in, channel_out, channel_ports, given, is_among, is_port, over, port_in, port_named, port_with}
use Rattle.fm_flow.proofs.Marked.{AreBelow, below_both}

-- ---- numbers in lists

pub among_in : (n : ℕ) (ms : List ℕ) → is_among n ms ≡ true → Contains ms n
among_in n [] e = absurd (cc e)
among_in n (m ∷ ms) e = go (m == n) refl e (λ f. among_in n ms f)
  where
    go : (b : Bool) → (m == n) ≡ b → (b || is_among n ms) ≡ true → (is_among n ms ≡ true → Contains ms n) → Contains (m ∷ ms) n
    go true is e on = let same : m ≡ n = eqb-true m n is in subst (λ (x : ℕ). Contains (m ∷ ms) x) same (at_head m ms)
    go false is e on = behind_head m n ms (on e)

or_more : (a b : Bool) → b ≡ true → (a || b) ≡ true
or_more true b e = refl
or_more false b e = e

or_first : (a b : Bool) → a ≡ true → (a || b) ≡ true
or_first true b e = refl
or_first false b e = absurd (cc e)

pub in_among : (n : ℕ) (ms : List ℕ) → Contains ms n → is_among n ms ≡ true
in_among n [] c = absurd (not_in_none n c)
in_among n (m ∷ ms) c = ⊎_elim (λ (same : m ≡ n). or_first (m == n) (is_among n ms) (eq-eqb m n same)) (λ (d : Contains ms n). or_more (m == n) (is_among n ms) (in_among n ms d)) (head_or_behind m n ms c)

-- one of the numbers is in both lists
pub record IsShared (ns ms : List ℕ) : Type 0 where
  pub one : ℕ
  pub left : Contains ns one
  pub right : Contains ms one

pub any_shared : (ns ms : List ℕ) → any_among ns ms ≡ true → IsShared ns ms
any_shared [] ms e = absurd (cc e)
any_shared (n ∷ ns) ms e = go (is_among n ms) refl e (λ f. any_shared ns ms f)
  where
    later : IsShared ns ms → IsShared (n ∷ ns) ms
    later h = record { one = h.one; left = behind_head n h.one ns h.left; right = h.right }

    go : (b : Bool) → is_among n ms ≡ b → (b || any_among ns ms) ≡ true → (any_among ns ms ≡ true → IsShared ns ms) → IsShared (n ∷ ns) ms
    go true is e on = record { one = n; left = at_head n ns; right = among_in n ms is }
    go false is e on = later (on e)

pub shared_any : (ns ms : List ℕ) (x : ℕ) → Contains ns x → Contains ms x → any_among ns ms ≡ true
shared_any [] ms x c d = absurd (not_in_none x c)
shared_any (n ∷ ns) ms x c d =
    ⊎_elim (λ (same : n ≡ x). or_first (is_among n ms) (any_among ns ms) (in_among n ms (subst (λ (y : ℕ). Contains ms y) (sym same) d)))
    (λ (b : Contains ns x). or_more (is_among n ms) (any_among ns ms) (shared_any ns ms x b d)) (head_or_behind n x ns c)

pub below_in : (count : ℕ) (ns : List ℕ) (p : ℕ) → AreBelow count ns → Contains ns p → p < count
below_in count [] p h c = absurd (not_in_none p c)
below_in count (n ∷ ns) p h c = ⊎_elim (λ (same : n ≡ p). subst (λ (x : ℕ). x < count) same h.0) (λ (d : Contains ns p). below_in count ns p h.1 d) (head_or_behind n p ns c)

-- ---- over entries

pub over_push : (f : Stmt → List ℕ) (before : List Entry) (e : Entry) → over f (before ++ e ∷ []) ≡ over f before ++ f e.stmt
over_push f before e =
    flat_map-append (λ (x : Entry). f x.stmt) before (e ∷ []) ∙ ap (λ (l : List ℕ). over f before ++ l) (append-nil (f e.stmt))

-- ---- places of a unit's variables

module _ (u : ProgramUnit) where
  abbrev pub ports_of : ℕ
  ports_of = length u.names.variables

  at_below : (o : Option ℕ) → AreBelow ports_of (port_with (variable_at u.names.variables o))
  at_below None = tt
  at_below (Some i) = go (slice_get u.names.variables i) refl
    where
      by : (b : Bool) → i < ports_of → AreBelow ports_of (cond b (i ∷ []) [])
      by true less = (less, tt)
      by false less = tt

      go : (o : Option Variable) → slice_get u.names.variables i ≡ o → AreBelow ports_of (port_with (option_map (λ v. (i, v)) o))
      go None is = tt
      go (Some v) is = by (is_port v.kind) (slice_get_within u.names.variables i v is)

  named_below : (name : List ℕ) → AreBelow ports_of (port_named u name)
  named_below name = at_below _

  in_below : (t : Tree) → AreBelow ports_of (port_in u t)
  in_below (Named name) = named_below name
  in_below (Number n) = tt
  in_below (Truth b) = tt
  in_below (Ref name args) = tt
  in_below (Paren t) = tt
  in_below (Signed op t) = tt
  in_below (Not t) = tt
  in_below (Binary op a b) = tt

  all_below : (ts : List Tree) → AreBelow ports_of (flat_map (port_in u) ts)
  all_below [] = tt
  all_below (t ∷ ts) = below_both ports_of (port_in u t) (flat_map (port_in u) ts) (in_below t) (all_below ts)

  pub given_below : (s : Stmt) → AreBelow ports_of (given u s)
  unfolding given
  given_below (stmt.ProcessCall name part) = all_below (arguments_in part)
  given_below s = tt

  pub in_port_below : (s : Stmt) → AreBelow ports_of (channel_in u s)
  unfolding channel_in
  in_port_below (stmt.Simple (simple.Channel in_first i o)) = named_below i.name
  in_port_below s = tt

  pub out_port_below : (s : Stmt) → AreBelow ports_of (channel_out u s)
  unfolding channel_out
  out_port_below (stmt.Simple (simple.Channel in_first i o)) = named_below o.name
  out_port_below s = tt

  pub channel_below : (s : Stmt) → AreBelow ports_of (channel_ports u s)
  channel_below s = below_both ports_of (channel_in u s) (channel_out u s) (in_port_below s) (out_port_below s)

  pub gives_no_out : (s : Stmt) (p q : ℕ) → Contains (given u s) p → Contains (channel_out u s) q → ⊥
  unfolding given channel_out
  gives_no_out (stmt.ProcessCall name part) p q c d = not_in_none q d
  gives_no_out s p q c d = not_in_none p c

  pub gives_no_in : (s : Stmt) (p q : ℕ) → Contains (given u s) p → Contains (channel_in u s) q → ⊥
  unfolding given channel_in
  gives_no_in (stmt.ProcessCall name part) p q c d = not_in_none q d
  gives_no_in s p q c d = not_in_none p c
