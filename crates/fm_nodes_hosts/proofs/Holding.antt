-- Who holds a port, looked for from the first process on.
use Rattle.std.proofs.Common.{◌≡◌, ◌<◌, ◌≤◌, ◌+◌, ◌-◌, ℕ, zero, suc, Bool, cond, Some, None, List, [], ◌∷◌, drop, length, take, refl, sym, ap, arith, ◌∙◌, get_or}
use Rattle.std.specs.Prelude.{option_map, slice_get}
use Rattle.std.specs.Arc.{arc_value}
use Rattle.std.specs.FinMap.{get}
use Rattle.std.specs.declared.alloc.Global.{Global}
use Rattle.std.specs.declared.sync.Arc.{Arc}
use Rattle.std.proofs.lemmas.Option.{slice_get_read, slice_get-map}
use Rattle.fm_base.specs.declared.path.Path.{Path}
use Rattle.fm_base.specs.declared.port.PortValue.{PortValue}
use Rattle.fm_finmap.specs.Rows.{places_in}
use Rattle.fm_finmap.proofs.Rows.{some_same}
use Rattle.fm_net.specs.Language.{Language}
use Rattle.fm_net.specs.Machine.{Place, Procs}
use Rattle.fm_nodes_hosts.specs.Ends.{has_port, holder, keeper}

module _ {Proc : Type 0} (language : Language Proc) (m : Procs Proc) (z : PortValue) where
  -- the one of this number has it, or it is looked for behind
  pub holder_more : (order : List Place) (n : ℕ) (q : Place) → slice_get order n ≡ Some q
      → holder language m (drop n order) z ≡ cond (has_port language z (get m q)) (Some (keeper language q (get m q))) (holder language m (drop (n + 1) order) z)
  holder_more [] n q at = absurd (cc at)
  holder_more (p ∷ ps) zero q at = ap (λ (r : Place). cond (has_port language z (get m r)) (Some (keeper language r (get m r))) (holder language m ps z)) (some_same p q at)
  holder_more (p ∷ ps) (suc n) q at =
      let next : suc (n + 1) ≡ suc n + 1 = omega arith in
      holder_more ps n q at ∙ ap (λ (k : ℕ). cond (has_port language z (get m q)) (Some (keeper language q (get m q))) (holder language m (drop k (p ∷ ps)) z)) next

  -- behind the last one is nobody
  pub holder_end : (order : List Place) (n : ℕ) → length order ≤ n → holder language m (drop n order) z ≡ None
  holder_end [] zero far = refl
  holder_end [] (suc n) far = refl
  holder_end (p ∷ ps) zero far = absurd (omega (arith, far))
  holder_end (p ∷ ps) (suc n) far = holder_end ps n (omega (arith, far))

-- whose is what a process has
pub kept_by : {Proc : Type 0} (language : Language Proc) (m : Procs Proc) (q : Place) (x : Proc) → get m q ≡ Some x → (b c : Bool) → b ≡ language.has_ended x → b ≡ c → keeper language q (get m q) ≡ cond c (take (length q - 1) q) q
kept_by language m q x is b c ended same = ap (keeper language q) is ∙ ap (λ (d : Bool). cond d (take (length q - 1) q) q) (sym ended ∙ same)

-- the place of the path that is read at a number
pub place_read : (paths : List (Arc Path Global)) (n : ℕ) (a : Arc Path Global) (q : Place) → n < length paths → a ≡ get_or paths n a → slice_get (places_in paths) n ≡ Some q → arc_value a ≡ q
place_read paths n a q within is at =
    some_same _ _ (ap (option_map (λ (b : Arc Path Global). arc_value b)) (sym (slice_get_read paths (length paths) n a refl within is)) ∙ sym (slice_get-map (λ (b : Arc Path Global). arc_value b) paths n) ∙ at)
