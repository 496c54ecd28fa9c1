-- What a unit that declares nothing twice says of its names.
use Rattle.std.proofs.Common.{◌≡◌, inl, inr, ℕ, zero, suc, ◌<◌, arith, Bool, true, false, ◌||◌, ◌&&◌, Some, unwrap_or, List, [], ◌∷◌, ◌++◌, slice_get, option_map, refl, sym, ap, ◌∙◌, subst}
use Rattle.std.specs.List.{flat_map}
use Rattle.std.proofs.lemmas.Grind.{flat_map-append}
use Rattle.std.proofs.lemmas.Option.{slice_get-map}
use Rattle.fm_base.specs.declared.name.Line.{Line}
use Rattle.fm_base.specs.declared.rule.Rule.TheVariants.{E30}
use Rattle.fm_base.specs.Verdict.{place}
use Rattle.fm_tree.specs.declared.program_unit.Placed.{Placed}
use Rattle.fm_tree.specs.declared.program_unit.Unit as tree
use Rattle.fm_tree.specs.declared.statement.Defined.{Defined}
use Rattle.fm_tree.specs.declared.statement.Stmt.{Stmt}
use Rattle.fm_tree.specs.declared.statement.Stmt.TheVariants as stmt
use Rattle.fm_symbols.specs.ByName.{ByName}
use Rattle.fm_symbols.specs.Headings.{heading_formals, heading_kind, heading_name, is_function}
use Rattle.fm_rules.specs.ConstantParts.{definitions_in}
use Rattle.fm_rules.specs.declared.sheet.Aspect.{Aspect}
use Rattle.fm_rules.specs.declared.sheet.Aspect.TheVariants as aspect
use Rattle.fm_rules.specs.Declarations.{Fact, fact, constant_fact, name_facts, facts_by, facts_in, facts_of, same_aspect, says, said, clash_of, clashes, clashes_among, takes_function, declared_twice_in, repeated_processors}
use Rattle.fm_rules.specs.FunctionTitles.{is_other_function}
use Rattle.fm_rules.proofs.Earlier.{behind, behind_append, with_earlier_behind}
use Rattle.fm_mean.proofs.Unbroken.{left_empty, right_empty, not_when, or_left, or_right}
use Rattle.fm_mean.specs.Names.{same_name}
use Rattle.fm_mean.proofs.Members.{In, in_left, in_right, in_map, in_flat, got_in, passes, same_names}

never : true ≡ false → ⊥
never e = absurd (cc)

-- ---- facts and those before them

says_self : (name : List ℕ) (what : Aspect) (f : Fact) → f.name ≡ name → same_aspect what f.what ≡ true → says name what f ≡ true
says_self name what f named alike = both (same_name name f.name) (same_aspect what f.what) (same_names name f.name (sym named)) alike
  where
    both : (a b : Bool) → a ≡ true → b ≡ true → (a && b) ≡ true
    both true b e h = h
    both false b e h = absurd (cc e)

-- what was said stands among the facts
was_said : (facts : List Fact) (g : Fact) (name : List ℕ) (what : Aspect) → In g facts → g.name ≡ name → same_aspect what g.what ≡ true → said facts name what ≡ true
was_said facts g name what h named alike = passes (says name what) g facts h (says_self name what g named alike)

-- a fact of a list, with those that stand before it, some of which are named
record Later (listed : List (List Fact × Fact)) (some : List Fact) (f : Fact) : Type 0 where
  before : List Fact
  here : In (before, f) listed
  kept : (g : Fact) → In g some → In g before

later : (before fs : List Fact) (f : Fact) → In f fs → Later (behind before fs) before f
later before [] f h = absurd h
later before (x ∷ fs) f (inl e) = record { before = before; here = inl (ap (λ (y : Fact). (before, y)) e); kept = λ g k. k }
later before (x ∷ fs) f (inr h) =
    let r = later (before ++ x ∷ []) fs f h in
    record { before = r.before; here = inr r.here; kept = λ g k. r.kept g (in_left g before (x ∷ []) k) }

-- of two facts of a list the later one
later_at : (before fs : List Fact) (j i : ℕ) (g f : Fact) → j < i → slice_get fs j ≡ Some g → slice_get fs i ≡ Some f → Later (behind before fs) (g ∷ []) f
later_at before [] j i g f less at_g at_f = absurd (cc)
later_at before (x ∷ fs) j zero g f less at_g at_f = absurd (omega (arith, less))
later_at before (x ∷ fs) zero (suc i) g f less at_g at_f =
    let r = later (before ++ x ∷ []) fs f (got_in f fs i at_f) in
    record { before = r.before; here = inr r.here; kept = λ y k. r.kept y (in_right y before (x ∷ []) (subst (λ (z : Fact). In y (z ∷ [])) (the_fact g x (sym at_g)) k)) }
  where
    the_fact : (a b : Fact) → Some a ≡ Some b → a ≡ b
    the_fact a b e = cc
later_at before (x ∷ fs) (suc j) (suc i) g f less at_g at_f =
    let r = later_at (before ++ x ∷ []) fs j i g f (omega (arith, less)) at_g at_f in
    record { before = r.before; here = inr r.here; kept = r.kept }

in_empty : {X : Type 0} {Y : Type 0} (f : X → List Y) (x : X) (xs : List X) → flat_map f xs ≡ [] → In x xs → f x ≡ []
in_empty f x [] e h = absurd h
in_empty f x (y ∷ xs) e (inl same) = ap f (sym same) ∙ left_empty (f y) (flat_map f xs) e
in_empty f x (y ∷ xs) e (inr h) = in_empty f x xs (right_empty (f y) (flat_map f xs) e) h

module _ (titles : ByName Bool) (heading : Stmt) where
  -- none of these facts clashes with those before it
  abbrev AreClean : List (List Fact × Fact) → Type 0
  AreClean listed = flat_map (clash_of titles heading) listed ≡ []

  one_clean : (listed : List (List Fact × Fact)) (before : List Fact) (f : Fact) → AreClean listed → In (before, f) listed → (clashes (said before f.name) f.what ≡ false) × (takes_function titles heading f ≡ false)
  one_clean listed before f e h =
      let none = not_when (clashes (said before f.name) f.what || takes_function titles heading f) (place f.line.0 E30) (in_empty (clash_of titles heading) (before, f) listed e h) in
      (or_left (clashes (said before f.name) f.what) (takes_function titles heading f) none, or_right (clashes (said before f.name) f.what) (takes_function titles heading f) none)

  behind_clean : (fs : List Fact) → clashes_among titles heading fs ≡ [] → AreClean (behind [] fs)
  behind_clean fs e = ap (λ (l : List (List Fact × Fact)). flat_map (clash_of titles heading) l) (sym (with_earlier_behind fs)) ∙ e

  parts_clean : (xs ys : List Fact) → AreClean (behind [] (xs ++ ys)) → AreClean (behind [] xs) × AreClean (behind xs ys)
  parts_clean xs ys e =
      let front = flat_map (clash_of titles heading) (behind [] xs) in
      let end = flat_map (clash_of titles heading) (behind xs ys) in
      let whole : front ++ end ≡ [] =
      sym (flat_map-append (clash_of titles heading) (behind [] xs) (behind xs ys)) ∙ ap (λ (l : List (List Fact × Fact)). flat_map (clash_of titles heading) l) (sym (behind_append [] xs ys)) ∙ e in
      (left_empty front end whole, right_empty front end whole)

  -- what a fact takes from other FUNCTIONs
  pub takes_none : (fs : List Fact) (f : Fact) → clashes_among titles heading fs ≡ [] → In f fs → takes_function titles heading f ≡ false
  takes_none fs f e h = let r = later [] fs f h in (one_clean (behind [] fs) r.before f (behind_clean fs e) r.here).1

  -- a fact behind others, and what one of them says
  pub across : (xs ys : List Fact) (f g : Fact) (what : Aspect) → clashes_among titles heading (xs ++ ys) ≡ [] → In g xs → In f ys → g.name ≡ f.name → same_aspect what g.what ≡ true
      → (all : List Fact) × (said all f.name what ≡ true) × (clashes (said all f.name) f.what ≡ false)
  across xs ys f g what e h k named alike =
      let r = later xs ys f k in
      (r.before, was_said r.before g f.name what (r.kept g h) named alike, (one_clean (behind xs ys) r.before f (parts_clean xs ys (behind_clean (xs ++ ys) e)).1 r.here).0)

  -- names of formals are distinct
  distinct : (line : Line) (names : List (List ℕ)) (before : List Fact) → AreClean (behind before (name_facts line aspect.Formal names)) → (j i : ℕ) (a : List ℕ) → j < i → slice_get names j ≡ Some a → slice_get names i ≡ Some a → ⊥
  distinct line names before e j i a less at_j at_i =
      let f = fact line aspect.Formal a in
      let fs = name_facts line aspect.Formal names in
      let r = later_at before fs j i f f less (of_name j at_j) (of_name i at_i) in
      never (sym (was_said r.before f a aspect.Formal (r.kept f (inl refl)) refl refl) ∙ (one_clean (behind before fs) r.before f e r.here).0)
    where
      of_name : (k : ℕ) → slice_get names k ≡ Some a → slice_get (name_facts line aspect.Formal names) k ≡ Some (fact line aspect.Formal a)
      of_name k at = slice_get-map (fact line aspect.Formal) names k ∙ ap (option_map (fact line aspect.Formal)) at

  formals_clean : (line : Line) (t : Stmt) → AreClean (behind [] (facts_by line t)) → (before : List Fact) × AreClean (behind before (name_facts line aspect.Formal (heading_formals t)))
  unfolding heading_formals facts_by
  formals_clean line (stmt.Process n formals) e = ([], e)
  formals_clean line (stmt.Subroutine n formals) e = ([], e)
  formals_clean line (stmt.Function n formals) e = (_, (parts_clean (fact line aspect.Own n ∷ []) (name_facts line aspect.Formal formals) e).1)
  formals_clean line (stmt.IntegerFunction n formals) e = (_, (parts_clean (fact line aspect.Own n ∷ fact line aspect.Value n ∷ []) (name_facts line aspect.Formal formals) e).1)
  formals_clean line (stmt.LogicalFunction n formals) e = (_, (parts_clean (fact line aspect.Own n ∷ fact line aspect.Value n ∷ []) (name_facts line aspect.Formal formals) e).1)
  formals_clean line t e = ([], refl)

-- ---- a unit

module _ (titles : ByName Bool) (u : tree.Unit) (clean : declared_twice_in titles u ≡ []) where
  facts_clean : clashes_among titles u.heading.stmt (facts_in u.heading ++ flat_map facts_in u.specs) ≡ []
  facts_clean = left_empty (clashes_among titles u.heading.stmt (facts_of u)) (repeated_processors u.specs) clean

  -- what is said of formals
  named_in : (line : Line) (what : Aspect) (names : List (List ℕ)) (i : ℕ) (name : List ℕ) → slice_get names i ≡ Some name → In (fact line what name) (name_facts line what names)
  named_in line what names i name e = in_map (fact line what) name names (got_in name names i e)

  formal_said : (line : Line) (t : Stmt) (i : ℕ) (name : List ℕ) → slice_get (heading_formals t) i ≡ Some name → In (fact line aspect.Formal name) (facts_by line t)
  unfolding heading_formals facts_by
  formal_said line (stmt.Process n formals) i name e = named_in line aspect.Formal (unwrap_or formals []) i name e
  formal_said line (stmt.Subroutine n formals) i name e = named_in line aspect.Formal (unwrap_or formals []) i name e
  formal_said line (stmt.Function n formals) i name e = inr (named_in line aspect.Formal formals i name e)
  formal_said line (stmt.IntegerFunction n formals) i name e = inr (inr (named_in line aspect.Formal formals i name e))
  formal_said line (stmt.LogicalFunction n formals) i name e = inr (inr (named_in line aspect.Formal formals i name e))
  formal_said line t i name e = absurd (cc e)

  own_said : (line : Line) (t : Stmt) (name : List ℕ) → heading_name t ≡ Some name → is_function (heading_kind t) ≡ true → In (fact line aspect.Own name) (facts_by line t)
  unfolding heading_name heading_kind facts_by
  own_said line (stmt.Function n formals) name e h = inl (ap (fact line aspect.Own) (the_name n name e))
    where
      the_name : (a b : List ℕ) → Some a ≡ Some b → a ≡ b
      the_name a b e = cc
  own_said line (stmt.IntegerFunction n formals) name e h = inl (ap (fact line aspect.Own) (the_name n name e))
    where
      the_name : (a b : List ℕ) → Some a ≡ Some b → a ≡ b
      the_name a b e = cc
  own_said line (stmt.LogicalFunction n formals) name e h = inl (ap (fact line aspect.Own) (the_name n name e))
    where
      the_name : (a b : List ℕ) → Some a ≡ Some b → a ≡ b
      the_name a b e = cc
  own_said line t name e h = absurd (cc h)

  constant_said : (line : Line) (t : Stmt) (d : Defined) → In d (definitions_in t) → In (fact line aspect.Constant d.name) (facts_by line t)
  unfolding definitions_in facts_by
  constant_said line (stmt.Parameter ds) d h = in_map (constant_fact line) d ds h
  constant_said line t d h = absurd h

  -- a constant is no formal
  pub no_formal_constant : (i : ℕ) (p : Placed) (d : Defined) → In p u.specs → In d (definitions_in p.stmt) → slice_get (heading_formals u.heading.stmt) i ≡ Some d.name → ⊥
  no_formal_constant i p d within defines e =
      let x = across titles u.heading.stmt (facts_in u.heading) (flat_map facts_in u.specs) (fact p.line aspect.Constant d.name) (fact u.heading.line aspect.Formal d.name) aspect.Formal facts_clean
      (formal_said u.heading.line u.heading.stmt i d.name e) (in_flat facts_in p (fact p.line aspect.Constant d.name) u.specs within (constant_said p.line p.stmt d defines)) refl refl in
      let s = said x.0 d.name in
      never (sym x.1 ∙ or_left (s aspect.Formal) (s aspect.Own) (or_right (s aspect.Port) (s aspect.Formal || s aspect.Own) (or_right (s aspect.Bounds) (s aspect.Port || (s aspect.Formal || s aspect.Own))
      (or_right (s aspect.Constant) (s aspect.Bounds || (s aspect.Port || (s aspect.Formal || s aspect.Own))) x.2))))

  -- nor a FUNCTION's own name
  pub no_own_constant : (p : Placed) (d : Defined) → In p u.specs → In d (definitions_in p.stmt) → heading_name u.heading.stmt ≡ Some d.name → is_function (heading_kind u.heading.stmt) ≡ true → ⊥
  no_own_constant p d within defines e function =
      let x = across titles u.heading.stmt (facts_in u.heading) (flat_map facts_in u.specs) (fact p.line aspect.Constant d.name) (fact u.heading.line aspect.Own d.name) aspect.Own facts_clean
      (own_said u.heading.line u.heading.stmt d.name e function) (in_flat facts_in p (fact p.line aspect.Constant d.name) u.specs within (constant_said p.line p.stmt d defines)) refl refl in
      let s = said x.0 d.name in
      never (sym x.1 ∙ or_right (s aspect.Formal) (s aspect.Own) (or_right (s aspect.Port) (s aspect.Formal || s aspect.Own) (or_right (s aspect.Bounds) (s aspect.Port || (s aspect.Formal || s aspect.Own))
      (or_right (s aspect.Constant) (s aspect.Bounds || (s aspect.Port || (s aspect.Formal || s aspect.Own))) x.2))))

  -- which is no port's either
  pub no_own_port : (p : Placed) (f : Fact) → In p u.specs → In f (facts_in p) → f.what ≡ aspect.Port → heading_name u.heading.stmt ≡ Some f.name → is_function (heading_kind u.heading.stmt) ≡ true → ⊥
  no_own_port p f within says_so what e function =
      let x = across titles u.heading.stmt (facts_in u.heading) (flat_map facts_in u.specs) f (fact u.heading.line aspect.Own f.name) aspect.Own facts_clean
      (own_said u.heading.line u.heading.stmt f.name e function) (in_flat facts_in p f u.specs within says_so) refl refl in
      let s = said x.0 f.name in
      never (sym x.1 ∙ or_right (s aspect.Constant) (s aspect.Own) (or_right (s aspect.Port) (s aspect.Constant || s aspect.Own) (or_right (s aspect.Value) (s aspect.Port || (s aspect.Constant || s aspect.Own)) (sym (ap (clashes s) what) ∙ x.2))))

  -- a formal is no other FUNCTION's name
  pub no_formal_function : (i : ℕ) (name : List ℕ) → slice_get (heading_formals u.heading.stmt) i ≡ Some name → is_other_function titles u.heading.stmt name ≡ false
  no_formal_function i name e =
      takes_none titles u.heading.stmt (facts_in u.heading ++ flat_map facts_in u.specs) (fact u.heading.line aspect.Formal name) facts_clean
      (in_left (fact u.heading.line aspect.Formal name) (facts_in u.heading) (flat_map facts_in u.specs) (formal_said u.heading.line u.heading.stmt i name e))

  -- no formal stands twice
  pub formals_distinct : (j i : ℕ) (a : List ℕ) → j < i → slice_get (heading_formals u.heading.stmt) j ≡ Some a → slice_get (heading_formals u.heading.stmt) i ≡ Some a → ⊥
  formals_distinct j i a less ej ei =
      let facts = facts_in u.heading ++ flat_map facts_in u.specs in
      let front = (parts_clean titles u.heading.stmt (facts_in u.heading) (flat_map facts_in u.specs) (behind_clean titles u.heading.stmt facts facts_clean)).0 in
      let x = formals_clean titles u.heading.stmt u.heading.line u.heading.stmt front in
      distinct titles u.heading.stmt u.heading.line (heading_formals u.heading.stmt) x.0 x.1 j i a less ej ei
