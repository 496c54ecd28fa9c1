-- A MERGER whose outports are few makes few writers.
use Rattle.std.proofs.Common.{◌≡◌, ℕ, zero, suc, ℤ, ◌+◌, ◌*◌, ◌≤◌, Option, Some, None, List, [], ◌∷◌, length, Result, refl, sym, ap, ◌∙◌, arith}
use Rattle.std.specs.Prelude.{codes}
use Rattle.std.proofs.lemmas.List.{length-append}
use Rattle.fm_base.specs.declared.fault.Fault.{Fault}
use Rattle.fm_tree.specs.Tree.{Trees, NoTrees, More, trees_from}
use Rattle.fm_tree.specs.Forms.{assigned, more_spelled, list_spelled}
use Rattle.fm_tree.specs.Parts.{var_form}
use Rattle.fm_tree.specs.declared.statement.Var.{Var}
use Rattle.fm_values.specs.Places.{element_place}
use Rattle.fm_symbols.specs.declared.names.Variable.{Variable}
use Rattle.fm_net.specs.Typed.{AllIn}
use Rattle.fm_rules.specs.declared.program.Program.{Program}
use Rattle.fm_mean.specs.Names.{ProgramUnit, unit_at, variable_of}
use Rattle.fm_mean.specs.declared.place.Span.{Span}
use Rattle.fm_mean.specs.Evaluate.{Scope, numbers_of, place_of, places_of, refs_in_var, spans_by}
use Rattle.fm_mean.specs.Actions.{elements_from, elements_of, merger_places}
use Rattle.fm_cost_law.proofs.Values.{Fine, Any, any_fine, then_fine}
use Rattle.fm_cost_law.proofs.Spelled.{IsSmall, weight, weight_joined}
use Rattle.fm_cost_law.proofs.Variables.{words_few}

elements_counted : (i k n : ℕ) → length (elements_from i k n) ≡ n
elements_counted i k zero = refl
elements_counted i k (suc n) = ap suc (elements_counted i (suc k) n)

-- so many spans of 65,536 elements at most
record AreFew (m : ℕ) (ss : List Span) : Type 0 where
  all : AllIn (λ (s : Span). s.count ≤ 65536) ss
  many : length ss ≤ m

elements_few : (ss : List Span) → AllIn (λ (s : Span). s.count ≤ 65536) ss → length (elements_of ss) ≤ 65536 * length ss
elements_few [] h = omega arith
elements_few (s ∷ ss) h = let here = h.0 in omega (arith, here, elements_few ss h.1, elements_counted s.variable s.first s.count, length-append (elements_from s.variable s.first s.count) (elements_of ss))

more_long : (os : List Var) → length os ≤ weight (more_spelled (assigned (codes "OUT") var_form) os)
more_long [] = omega arith
more_long (o ∷ os) = omega (arith, more_long os, weight_joined ((assigned (codes "OUT") var_form).spelled o) (more_spelled (assigned (codes "OUT") var_form) os))

list_long : (os : List Var) → length os ≤ weight (list_spelled (assigned (codes "OUT") var_form) os)
list_long [] = omega arith
list_long (o ∷ os) = omega (arith, more_long os, weight_joined ((assigned (codes "OUT") var_form).spelled o) (more_spelled (assigned (codes "OUT") var_form) os))

module _ (p : Program) (n : ℕ) (u : ProgramUnit) (is_unit : unit_at p n ≡ Some u) (s : Scope) (here : s.unit ≡ u) where
  abbrev IsFew : Span → Type 0
  IsFew x = x.count ≤ 65536

  span_few : (name : List ℕ) (o : Option (ℕ × Variable)) → variable_of s.unit name ≡ o → (ts : Trees) (ks : Result (List ℤ) Fault) → Fine IsFew (spans_by o ts ks)
  span_few name None is ts ks = omega arith
  span_few name (Some v) is NoTrees ks = words_few p n u is_unit name v (ap (λ (w : ProgramUnit). variable_of w name) (sym here) ∙ is)
  span_few name (Some v) is (More t ts) ks = then_fine Any IsFew ks _ (any_fine ks) (λ xs g. then_fine Any IsFew (element_place v.1.bounds xs) _ (any_fine (element_place v.1.bounds xs)) (λ k j. one))
    where
      one : 1 ≤ 65536
      one = omega arith

  place_few : (v : Var) (k : ℕ) → Fine IsFew (place_of s v k)
  place_few v k = span_few v.name (variable_of s.unit v.name) refl (trees_from v.subscripts) (numbers_of s (trees_from v.subscripts) k)

  places_few : (vs : List Var) (k : ℕ) → Fine (AreFew (length vs)) (places_of s vs k)
  places_few [] k = record { all = tt; many = omega arith }
  places_few (v ∷ vs) k =
      then_fine IsFew (AreFew (suc (length vs))) (place_of s v k) _ (place_few v k)
      (λ x g. then_fine (AreFew (length vs)) (AreFew (suc (length vs))) (places_of s vs (k + refs_in_var s v)) _ (places_few vs (k + refs_in_var s v)) (λ xs h. record { all = (g, h.all); many = let few = h.many in omega (arith, few) }))

  abbrev IsFewPorts : Span × List Span → Type 0
  IsFewPorts r = length (elements_of r.1) ≤ 2147000000

  pub outports_few : (i : Var) (os : List Var) → IsSmall (list_spelled (assigned (codes "OUT") var_form) os) → Fine IsFewPorts (merger_places s i os)
  outports_few i os h =
      then_fine Any IsFewPorts (place_of s i 0) _ (any_fine (place_of s i 0))
      (λ x g.
      then_fine (AreFew (length os)) IsFewPorts (places_of s os (refs_in_var s i)) _ (places_few os (refs_in_var s i))
      (λ xs k. let few = h.few in let many = k.many in omega (arith, few, many, list_long os, elements_few xs k.all)))
