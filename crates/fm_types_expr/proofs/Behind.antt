-- Arguments that are judged one behind the other are judged as the list.
use Rattle.std.proofs.Common.{◌≡◌, ℕ, suc, ◌+◌, Bool, true, false, ◌&&◌, refl, ap, ◌∙◌, arith}
use Rattle.fm_tree.specs.Tree.{Trees, NoTrees, More}
use Rattle.fm_symbols.specs.declared.context.Scope.{Scope}
use Rattle.fm_symbols.specs.declared.context.Context.{Context}
use Rattle.fm_rules.specs.declared.flags.Flags.{Flags}
use Rattle.fm_rules.specs.declared.typing.Referent.{Referent}
use Rattle.fm_rules.specs.declared.typing.Arguments.{Arguments}
use Rattle.fm_rules.specs.Flags.{both, e50, no_flags}
use Rattle.fm_rules.specs.Expressions.{arguments_judged, fits_wanted, is_stray_port, judged, wanted}
use Rattle.fm_rules.proofs.FlagLaws.{both_assoc, both_none}
use Rattle.fm_types_expr.specs.Behind.{argument_behind, arguments_behind}

and_true : (a : Bool) → a ≡ (a && true)
and_true true = refl
and_true false = refl

and_assoc : (a b c : Bool) → ((a && b) && c) ≡ (a && (b && c))
and_assoc true b c = refl
and_assoc false b c = refl

-- these arguments behind others, of which there are so many
abbrev joined : Arguments → ℕ → Arguments → Arguments
joined before i a = record { flags = both before.flags a.flags; fit = before.fit && a.fit; count = i + a.count }

module _ (c : Context) (s : Scope) (r : Referent) where
  behind_joined : (before : Arguments) (i : ℕ) (ts : Trees) → arguments_behind c s r before i ts ≡ joined before i (arguments_judged c s r i ts)
  behind_joined before i NoTrees = λ k. record { flags = both_none before.flags k; fit = and_true before.fit k; count = none_more i k }
    where
      none_more : (n : ℕ) → n ≡ n + 0
      none_more n = omega arith
  behind_joined before i (More t ts) =
      let w = wanted c r i in
      let j = judged c s t in
      let own = both j.flags (e50 (is_stray_port w j.expr_type)) in
      let rest = arguments_judged c s r (i + 1) ts in
      behind_joined (argument_behind before w j) (i + 1) ts
      ∙ (λ k. record { flags = both_assoc before.flags own rest.flags k; fit = and_assoc before.fit (fits_wanted w j.expr_type) rest.fit k; count = one_more i rest.count k })
    where
      one_more : (n m : ℕ) → n + 1 + m ≡ n + suc m
      one_more n m = omega arith

  -- from the first one on
  pub behind_none : (flags : Flags) (ts : Trees) → flags ≡ no_flags → arguments_behind c s r (record { flags = flags; fit = true; count = 0 }) 0 ts ≡ arguments_judged c s r 0 ts
  behind_none flags ts e =
      ap (λ (f : Flags). arguments_behind c s r (record { flags = f; fit = true; count = 0 }) 0 ts) e
      ∙ behind_joined (record { flags = no_flags; fit = true; count = 0 }) 0 ts
      ∙ (λ k. record { flags = (arguments_judged c s r 0 ts).flags; fit = (arguments_judged c s r 0 ts).fit; count = all (arguments_judged c s r 0 ts).count k })
    where
      all : (n : ℕ) → 0 + n ≡ n
      all n = omega arith
