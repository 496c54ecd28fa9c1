-- What a pass over a unit keeps is what its facts say.
use Rattle.std.proofs.Common.{◌≡◌, ℕ, List, [], ◌∷◌, ◌++◌, ◌||◌, ◌&&◌, Bool, true, false, cond, refl, sym, ap, ◌∙◌, map, drop, length, get_or, ◌<◌, ◌+◌}
use Rattle.std.specs.Prelude.{Option, Some, if◌then◌else◌}
use Rattle.std.specs.List.{flat_map}
use Rattle.std.proofs.lemmas.List.{drop_more}
use Rattle.std.proofs.lemmas.List.Folds.{list_any-append}
use Rattle.std.specs.FinMap.{get, insert, empty, get-empty, get-insert}
use Rattle.std.specs.Ordering.{nat_cmp}
use Rattle.std.specs.Cmp.Lexicographic.{slice_cmp}
use Rattle.fm_base.specs.declared.name.Line.{Line}
use Rattle.fm_base.specs.declared.rule.Refusal.{Refusal}
use Rattle.fm_base.specs.declared.rule.Rule.TheVariants.{E30}
use Rattle.fm_base.specs.Verdict.{place, when, least_from}
use Rattle.fm_base.proofs.Least.{least_from_append}
use Rattle.fm_finmap.proofs.Keys.{nat_list_order, tie}
use Rattle.fm_tree.specs.declared.program_unit.Placed.{Placed}
use Rattle.fm_tree.specs.declared.program_unit.Unit as unit
use Rattle.fm_tree.specs.declared.statement.Stmt.{Stmt}
use Rattle.fm_symbols.specs.ByName.{ByName}
use Rattle.fm_rules.specs.declared.sheet.Aspect.{Aspect}
use Rattle.fm_rules.specs.declared.sheet.Aspect.TheVariants as aspect
use Rattle.fm_names_declared.specs.declared.aspect.Said.{Said}
use Rattle.fm_names_declared.specs.declared.notes.Notes.{Notes}
use Rattle.fm_rules.specs.FunctionTitles.{same_name}
use Rattle.fm_rules.specs.Declarations.{Fact, clash_of, clashes, clashes_among, declared_twice, declared_twice_in, facts_in, facts_of, lines_if, repeated_processors, said, same_aspect, says, takes_function}
use Rattle.fm_rules.proofs.Earlier.{behind, with_earlier_behind}
use Rattle.fm_names_declared.specs.Noted.{nothing, or_nothing, said_as, said_of, with_fact, with_facts, with_said}

pub with_facts_append : (t : ByName Bool) (h : Stmt) (n : Notes) (fs gs : List Fact) → with_facts t h n (fs ++ gs) ≡ with_facts t h (with_facts t h n fs) gs
with_facts_append t h n [] gs = refl
with_facts_append t h n (f ∷ fs) gs = with_facts_append t h (with_fact t h n f) fs gs

-- the map has what these facts say
abbrev Agrees : ByName Said → List Fact → Type 0
Agrees m before = (q : List ℕ) (w : Aspect) → said_as (said_of m q) w ≡ said before q w

one_more : (s : Said) (v w : Aspect) → said_as (with_said s v) w ≡ (same_aspect w v || said_as s w)
one_more s v aspect.Value = refl
one_more s v aspect.Port = refl
one_more s v aspect.Bounds = refl
one_more s v aspect.Intent = refl
one_more s v aspect.Constant = refl
one_more s v aspect.Formal = refl
one_more s v aspect.Own = refl

none_said : (w : Aspect) → said_as nothing w ≡ false
none_said aspect.Value = refl
none_said aspect.Port = refl
none_said aspect.Bounds = refl
none_said aspect.Intent = refl
none_said aspect.Constant = refl
none_said aspect.Formal = refl
none_said aspect.Own = refl

-- what is said now, behind what was said before
turned : (a b : Bool) → (a || b) ≡ (b || (a || false))
turned true true = refl
turned true false = refl
turned false true = refl
turned false false = refl

with_none : (a : Bool) → a ≡ (a || false)
with_none true = refl
with_none false = refl

module _ (m : ByName Said) (before : List Fact) (f : Fact) (agrees : Agrees m before) where
  step : (q : List ℕ) (w : Aspect) (b : Bool) → same_name q f.name ≡ b
      → said_as (or_nothing (cond b (Some (with_said (said_of m f.name) f.what)) (get m q))) w ≡ (said before q w || ((b && same_aspect w f.what) || false))
  step q w true e =
      one_more (said_of m f.name) f.what w ∙ ap (λ x. same_aspect w f.what || x) (agrees f.name w)
      ∙ ap (λ (n : List ℕ). same_aspect w f.what || said before n w) (sym (tie nat_list_order q f.name e))
      ∙ turned (same_aspect w f.what) (said before q w)
  step q w false e = agrees q w ∙ with_none (said before q w)

  agrees_more : Agrees (insert m f.name (with_said (said_of m f.name) f.what)) (before ++ f ∷ [])
  agrees_more q w =
      ap (λ o. said_as (or_nothing o) w) (get-insert nat_list_order.total m f.name (with_said (said_of m f.name) f.what) q)
      ∙ step q w (same_name q f.name) refl
      ∙ sym (list_any-append (says q w) before (f ∷ []))

clashes_alike : (s p : Aspect → Bool) → ((w : Aspect) → s w ≡ p w) → (v : Aspect) → clashes s v ≡ clashes p v
clashes_alike s p e v = ap (λ (x : Aspect → Bool). clashes x v) (λ i w. e w i)

-- the facts that clash, one after the other
abbrev clashes_behind : ByName Bool → Stmt → List Fact → List Fact → List Refusal
clashes_behind t h before fs = flat_map (clash_of t h) (behind before fs)

noted_from : (t : ByName Bool) (h : Stmt) (fs before : List Fact) (n : Notes) → Agrees n.said before
    → (with_facts t h n fs).best ≡ least_from n.best (clashes_behind t h before fs)
noted_from t h [] before n agrees = refl
noted_from t h (f ∷ fs) before n agrees =
    noted_from t h fs (before ++ f ∷ []) (with_fact t h n f) (agrees_more n.said before f agrees)
    ∙ ap (λ b. least_from (least_from n.best (when (b || takes_function t h f) (place f.line.0 E30))) (clashes_behind t h (before ++ f ∷ []) fs))
    (clashes_alike (said_as (said_of n.said f.name)) (said before f.name) (λ w. agrees f.name w) f.what)
    ∙ sym (least_from_append n.best (clash_of t h (before, f)) (clashes_behind t h (before ++ f ∷ []) fs))

pub noted : (t : ByName Bool) (h : Stmt) (fs : List Fact) (n : Notes) → n.said ≡ empty → (with_facts t h n fs).best ≡ least_from n.best (clashes_among t h fs)
noted t h fs n e =
    noted_from t h fs [] n (λ q w. ap (λ (m : ByName Said). said_as (said_of m q) w) e ∙ (ap (λ o. said_as (or_nothing o) w) (get-empty (slice_cmp nat_cmp) q) ∙ none_said w))
    ∙ ap (λ (l : List (List Fact × Fact)). least_from n.best (flat_map (clash_of t h) l)) (sym (with_earlier_behind fs))

-- PROCESSORS behind those that were seen
abbrev pub skip_seen : Bool → List Line → List Refusal
skip_seen seen lines = map declared_twice (if seen then lines else drop 1 lines)

pub one_skipped : (best : Option Refusal) (seen is : Bool) (line : Line) (rest : List Line)
    → least_from best (skip_seen seen (lines_if is line ++ rest)) ≡ least_from (least_from best (when (seen && is) (place line.0 E30))) (skip_seen (seen || is) rest)
one_skipped best true true line rest = refl
one_skipped best true false line rest = refl
one_skipped best false true line rest = refl
one_skipped best false false line rest = refl

-- the three passes over a unit, one after the other
pub judged : (t : ByName Bool) (u : unit.Unit) (specs : List Placed) (n m o : Notes) (best result : Option Refusal) → specs ≡ u.specs → n.said ≡ empty → n.best ≡ best
    → m ≡ with_facts t u.heading.stmt n (facts_in u.heading) → o ≡ with_facts t u.heading.stmt m (flat_map facts_in specs)
    → result ≡ least_from o.best (repeated_processors specs) → result ≡ least_from best (declared_twice_in t u)
judged t u specs n m o best result same none first heading rest end =
    let h = u.heading.stmt in
    let whole = rest ∙ ap (λ x. with_facts t h x (flat_map facts_in specs)) heading ∙ ap (λ (l : List Placed). with_facts t h (with_facts t h n (facts_in u.heading)) (flat_map facts_in l)) same
    ∙ sym (with_facts_append t h n (facts_in u.heading) (flat_map facts_in u.specs)) in
    let clash = ap (λ (x : Notes). x.best) whole ∙ noted t h (facts_of u) n none ∙ ap (λ b. least_from b (clashes_among t h (facts_of u))) first in
    end ∙ ap (λ (l : List Placed). least_from o.best (repeated_processors l)) same ∙ ap (λ b. least_from b (repeated_processors u.specs)) clash
    ∙ sym (least_from_append best (clashes_among t h (facts_of u)) (repeated_processors u.specs))

-- the next statement of a pass
pub specs_more : (t : ByName Bool) (h : Stmt) (specs : List Placed) (i : ℕ) (p : Placed) (n m o : Notes) → i < length specs → p ≡ get_or specs i p → m ≡ with_facts t h n (facts_in p)
    → with_facts t h n (flat_map facts_in (drop i specs)) ≡ with_facts t h o (flat_map facts_in specs)
    → with_facts t h m (flat_map facts_in (drop (i + 1) specs)) ≡ with_facts t h o (flat_map facts_in specs)
specs_more t h specs i p n m o below is made whole =
    ap (λ x. with_facts t h x (flat_map facts_in (drop (i + 1) specs))) made
    ∙ sym (with_facts_append t h n (facts_in p) (flat_map facts_in (drop (i + 1) specs)))
    ∙ ap (λ q. with_facts t h n (facts_in q ++ flat_map facts_in (drop (i + 1) specs))) is
    ∙ ap (λ (l : List Placed). with_facts t h n (flat_map facts_in l)) (sym (drop_more specs i p below)) ∙ whole
