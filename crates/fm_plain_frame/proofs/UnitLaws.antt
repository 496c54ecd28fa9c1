-- The variables of the units of a program.
use Rattle.std.proofs.Common.{◌≡◌, ℕ, zero, suc, Option, Some, None, List, [], ◌∷◌, slice_get, option_map, refl, sym, ap, ◌∙◌}
use Rattle.std.proofs.lemmas.Option.{slice_get-map}
use Rattle.fm_tree.specs.declared.program_unit.Unit as tree
use Rattle.fm_rules.specs.declared.entry_links.EntryLinks.{EntryLinks}
use Rattle.fm_rules.specs.Links.{links_of}
use Rattle.fm_symbols.specs.declared.context.Scope.{Scope}
use Rattle.fm_symbols.specs.declared.names.UnitNames.{UnitNames}
use Rattle.fm_symbols.specs.Context.{scope_of, scopes_of}
use Rattle.fm_rules.specs.declared.program.Program.{Program}
use Rattle.fm_rules.specs.Program.{all_links}
use Rattle.fm_mean.specs.Calls.{variables_in}
use Rattle.fm_mean.specs.Fits.{variables_of}
use Rattle.fm_mean.specs.Layout.{AreLaidOut}
use Rattle.fm_mean.specs.Names.{ProgramUnit, unit_at, unit_with}
use Rattle.fm_mean.proofs.Sizes.{variables_laid_out}

-- the variables of each unit are laid out
pub laid_out : (p : Program) (n : ℕ) → AreLaidOut 0 (variables_of p n)
laid_out p n = go (unit_at p n) refl
  where
    go : (o : Option ProgramUnit) → unit_at p n ≡ o → AreLaidOut 0 (variables_in o)
    go None e = tt
    go (Some u) e = variables_laid_out p n u e

-- the unit of a view
pub unit_here : (p : Program) (n : ℕ) (t : tree.Unit) (m : UnitNames) → slice_get p.units.units n ≡ Some t → slice_get p.names.units n ≡ Some m → unit_at p n ≡ Some (record { tree = t; names = m })
unit_here p n t m t_is m_is = ap (λ o. unit_with o (slice_get p.names.units n)) t_is ∙ ap (unit_with (Some t)) m_is

the_tree : (t u : tree.Unit) → Some t ≡ Some u → t ≡ u
the_tree t u e = cc

the_names : (m n : UnitNames) → Some m ≡ Some n → m ≡ n
the_names m n e = cc

scope_there : (us : List tree.Unit) (ns : List UnitNames) (n : ℕ) (t : tree.Unit) (m : UnitNames) → slice_get us n ≡ Some t → slice_get ns n ≡ Some m → slice_get (scopes_of us ns) n ≡ Some (scope_of t m)
scope_there [] ns n t m t_is m_is = absurd (cc)
scope_there (u ∷ us) [] n t m t_is m_is = absurd (cc)
scope_there (u ∷ us) (k ∷ ns) zero t m t_is m_is = ap (λ x. Some (scope_of x k)) (the_tree u t t_is) ∙ ap (λ x. Some (scope_of t x)) (the_names k m m_is)
scope_there (u ∷ us) (k ∷ ns) (suc n) t m t_is m_is = scope_there us ns n t m t_is m_is

the_scope : (s r : Scope) → Some s ≡ Some r → s ≡ r
the_scope s r e = cc

-- what its names mean
pub scope_here : (us : List tree.Unit) (ns : List UnitNames) (n : ℕ) (t : tree.Unit) (m : UnitNames) (s : Scope) → Some t ≡ slice_get us n → Some m ≡ slice_get ns n → Some s ≡ slice_get (scopes_of us ns) n → s ≡ scope_of t m
scope_here us ns n t m s t_is m_is is = the_scope s (scope_of t m) (is ∙ scope_there us ns n t m (sym t_is) (sym m_is))

pub scope_missing : (us : List tree.Unit) (ns : List UnitNames) (n : ℕ) (t : tree.Unit) (m : UnitNames) → Some t ≡ slice_get us n → Some m ≡ slice_get ns n → None ≡ slice_get (scopes_of us ns) n → ⊥
scope_missing us ns n t m t_is m_is none = nothing (scope_of t m) (none ∙ scope_there us ns n t m (sym t_is) (sym m_is))
  where
    nothing : (s : Scope) → None ≡ Some s → ⊥
    nothing s e = absurd (cc)

links_there : (us : List tree.Unit) (n : ℕ) (t : tree.Unit) → Some t ≡ slice_get us n → slice_get (all_links us) n ≡ Some (links_of t.body)
links_there us n t t_is = slice_get-map (λ (u : tree.Unit). links_of u.body) us n ∙ ap (option_map (λ (u : tree.Unit). links_of u.body)) (sym t_is)

the_links : (s r : List EntryLinks) → Some s ≡ Some r → s ≡ r
the_links s r e = cc

-- where its entries lead to
pub links_here : (us : List tree.Unit) (n : ℕ) (t : tree.Unit) (l : List EntryLinks) → Some t ≡ slice_get us n → Some l ≡ slice_get (all_links us) n → l ≡ links_of t.body
links_here us n t l t_is is = the_links l (links_of t.body) (is ∙ links_there us n t t_is)

pub links_missing : (us : List tree.Unit) (n : ℕ) (t : tree.Unit) → Some t ≡ slice_get us n → None ≡ slice_get (all_links us) n → ⊥
links_missing us n t t_is none = nothing (links_of t.body) (none ∙ links_there us n t t_is)
  where
    nothing : (s : List EntryLinks) → None ≡ Some s → ⊥
    nothing s e = absurd (cc)
