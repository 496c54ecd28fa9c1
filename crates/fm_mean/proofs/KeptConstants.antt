-- Each constant of a unit that breaks no rule is among the constants of its names.
use Rattle.std.proofs.Common.{◌≡◌, ℕ, ◌+◌, ◌<◌, ◌≤◌, Bool, true, false, cond, ◌&&◌, Option, Some, None, List, [], ◌∷◌, ◌++◌, map, refl, sym, ap, ◌∙◌, subst, arith}
use Rattle.std.specs.Prelude.{if◌then◌else◌, nat_eq}
use Rattle.std.specs.FinMap.{get, empty, get-empty}
use Rattle.std.specs.Ordering.{nat_cmp}
use Rattle.std.specs.Cmp.Lexicographic.{slice_cmp}
use Rattle.std.proofs.lemmas.Bool.Decides.{nat_tests, Decides-eqb}
use Rattle.fm_base.specs.Verdict.{place}
use Rattle.fm_base.specs.declared.rule.Rule.TheVariants.{E33}
use Rattle.fm_tree.specs.Tree.{Tree, Number, Truth, Named, Ref, Paren, Signed, Not, Binary}
use Rattle.fm_tree.specs.declared.program_unit.Placed.{Placed}
use Rattle.fm_tree.specs.declared.statement.Defined.{Defined}
use Rattle.fm_symbols.specs.ByName.{ByName}
use Rattle.fm_symbols.specs.Context.{constant_entry, constant_symbol}
use Rattle.fm_symbols.specs.declared.names.Constant.{Constant}
use Rattle.fm_symbols.specs.declared.symbol.Scalar.{Scalar}
use Rattle.fm_rules.specs.declared.constants.Known.{Known}
use Rattle.fm_rules.specs.declared.constants.Types.{Types}
use Rattle.fm_rules.specs.ConstantValues.{is_before, value_seen, value_of, signed, negated, both_computed}
use Rattle.fm_rules.specs.Constants.{constants_of, with_definition, with_definitions, known_from, value_here, entry_of, entries_in, entries_from}
use Rattle.fm_rules.specs.ConstantParts.{decls_of, port_type_in, definitions_in, machine_in}
use Rattle.fm_rules.specs.NameTypes.{scalar_of_name}
use Rattle.fm_rules.specs.BrokenConstants.{is_no_constant, broken_decls, broken_message, broken_definition, broken_definitions, broken_machine, broken_statement, broken_from}
use Rattle.fm_mean.specs.Names.{same_name}
use Rattle.fm_mean.proofs.Unbroken.{left_empty, right_empty, not_when}
use Rattle.fm_mean.proofs.FirstEntries.{or_then, first_entry, new_there}
use Rattle.fm_mean.proofs.Members.{name_is}
use Rattle.fm_mean.proofs.Meanings.{none_some}

-- ---- values of expressions, where constants are seen alike

module _ (m n : ByName Known) (place item : ℕ) (alike : (q : List ℕ) → value_seen (get m q) place item ≡ value_seen (get n q) place item) where
  value_same : (t : Tree) → value_of m place item t ≡ value_of n place item t
  value_same (Number k) = refl
  value_same (Truth b) = refl
  value_same (Named name) = alike name
  value_same (Ref name args) = refl
  value_same (Paren t) = value_same t
  value_same (Signed o t) = ap (signed o) (value_same t)
  value_same (Not t) = ap negated (value_same t)
  value_same (Binary o a b) = ap (λ (x : Option Constant). both_computed o x (value_of m place item b)) (value_same a) ∙ ap (both_computed o (value_of n place item a)) (value_same b)

-- ---- constants that come later

-- behind this place and item nothing changes that was there, and what is new comes later
data Grows (m n : ByName Known) (place item : ℕ) (q : List ℕ) : Type 0 where
  same : get n q ≡ get m q → Grows m n place item q
  new : (k : Known) → get m q ≡ None → get n q ≡ Some k → is_before k place item ≡ false → Grows m n place item q

grows_on : (m n o : ByName Known) (place item : ℕ) (q : List ℕ) → Grows m n place item q → Grows n o place item q → Grows m o place item q
grows_on m n o place item q (same e) (same h) = same (h ∙ e)
grows_on m n o place item q (new k none is later) (same h) = new k none (h ∙ is) later
grows_on m n o place item q (same e) (new k none is later) = new k (sym e ∙ none) is later
grows_on m n o place item q (new j none is later) (new k gone at after) = absurd (none_some j (sym gone ∙ is))

-- a place and an item that don't come after these
data UpTo (place item at number : ℕ) : Type 0 where
  below : place < at → UpTo place item at number
  level : place ≡ at → item ≤ number → UpTo place item at number

not_before : (place item at number : ℕ) (v : Option Constant) → UpTo place item at number → is_before (record { value = v; place = at; item = number }) place item ≡ false
not_before place item at number v (below h) = grind (arith, nat_tests)
not_before place item at number v (level e h) = grind (arith, nat_tests)

up_next : (place item at number : ℕ) → UpTo place item at number → UpTo place item at (number + 1)
up_next place item at number (below h) = below h
up_next place item at number (level e h) = level e (omega (arith, h))

grows_one : (m : ByName Known) (at number : ℕ) (d : Defined) (place item : ℕ) (q : List ℕ) → UpTo place item at number → Grows m (with_definition m at number d) place item q
grows_one m at number d place item q up = go (get m q) (same_name q d.name) refl refl
  where
    go : (o : Option Known) (b : Bool) → get m q ≡ o → same_name q d.name ≡ b → Grows m (with_definition m at number d) place item q
    go o b is alike = by o b is (new_there m d.name (record { value = value_of m at number d.value; place = at; item = number }) q ∙ ap (λ (o : Option Known). or_then o (cond (same_name q d.name) (Some (record { value = value_of m at number d.value; place = at; item = number })) None)) is
        ∙ ap (λ (b : Bool). or_then o (cond b (Some (record { value = value_of m at number d.value; place = at; item = number })) None)) alike)
      where
        by : (o : Option Known) (b : Bool) → get m q ≡ o → get (with_definition m at number d) q ≡ or_then o (cond b (Some (record { value = value_of m at number d.value; place = at; item = number })) None) → Grows m (with_definition m at number d) place item q
        by (Some y) b is h = same (h ∙ sym is)
        by None true is h = new (record { value = value_of m at number d.value; place = at; item = number }) is h (not_before place item at number (value_of m at number d.value) up)
        by None false is h = same (h ∙ sym is)

grows_all : (ds : List Defined) (m : ByName Known) (at number : ℕ) (place item : ℕ) (q : List ℕ) → UpTo place item at number → Grows m (with_definitions m at number ds) place item q
grows_all [] m at number place item q up = same refl
grows_all (d ∷ ds) m at number place item q up =
    grows_on m (with_definition m at number d) (with_definitions m at number (d ∷ ds)) place item q (grows_one m at number d place item q up) (grows_all ds (with_definition m at number d) at (number + 1) place item q (up_next place item at number up))

grows_from : (ps : List Placed) (m : ByName Known) (at : ℕ) (place item : ℕ) (q : List ℕ) → place < at → Grows m (known_from m at ps) place item q
grows_from [] m at place item q h = same refl
grows_from (p ∷ ps) m at place item q h =
    grows_on m (with_definitions m at 0 (definitions_in p.stmt)) (known_from m at (p ∷ ps)) place item q (grows_all (definitions_in p.stmt) m at 0 place item q (below h))
    (grows_from ps (with_definitions m at 0 (definitions_in p.stmt)) (at + 1) place item q (omega (arith, h)))

-- all that comes behind an item
grows_rest : (ds : List Defined) (ps : List Placed) (m : ByName Known) (at number : ℕ) (q : List ℕ) → Grows m (known_from (with_definitions m at number ds) (at + 1) ps) at number q
grows_rest ds ps m at number q =
    grows_on m (with_definitions m at number ds) (known_from (with_definitions m at number ds) (at + 1) ps) at number q (grows_all ds m at number at number q (level refl (omega arith)))
    (grows_from ps (with_definitions m at number ds) (at + 1) at number q (omega arith))

seen_same : (m n : ByName Known) (place item : ℕ) (q : List ℕ) → Grows m n place item q → value_seen (get m q) place item ≡ value_seen (get n q) place item
seen_same m n place item q (same e) = ap (λ (o : Option Known). value_seen o place item) (sym e)
seen_same m n place item q (new k none is later) =
    ap (λ (o : Option Known). value_seen o place item) none ∙ sym (ap (λ (b : Bool). if b then k.value else None) later) ∙ sym (ap (λ (o : Option Known). value_seen o place item) is)

there_stays : (m n : ByName Known) (place item : ℕ) (q : List ℕ) (k : Known) → Grows m n place item q → get m q ≡ Some k → get n q ≡ Some k
there_stays m n place item q k (same e) is = e ∙ is
there_stays m n place item q k (new j none at later) is = absurd (none_some k (sym none ∙ is))

-- ---- entries

mapped_front : (xs ys : List (List ℕ × Constant)) (q : List ℕ) → first_entry (map constant_entry (xs ++ ys)) q ≡ None → (first_entry (map constant_entry xs) q ≡ None) × (first_entry (map constant_entry ys) q ≡ None)
mapped_front [] ys q e = (refl, e)
mapped_front (x ∷ xs) ys q e = go (same_name q x.0) e (λ h. mapped_front xs ys q h)
  where
    go : (b : Bool) → cond b (Some (constant_symbol x.1)) (first_entry (map constant_entry (xs ++ ys)) q) ≡ None → (first_entry (map constant_entry (xs ++ ys)) q ≡ None → (first_entry (map constant_entry xs) q ≡ None) × (first_entry (map constant_entry ys) q ≡ None))
        → (cond b (Some (constant_symbol x.1)) (first_entry (map constant_entry xs) q) ≡ None) × (first_entry (map constant_entry ys) q ≡ None)
    go true h rest = absurd (none_some (constant_symbol x.1) (sym h))
    go false h rest = rest h

own_value : (place item : ℕ) (v : Option Constant) → value_here (Some (record { value = v; place = place; item = item })) place item ≡ v
own_value place item v = ap (λ (b : Bool). if b && nat_eq item item then v else None) ((Decides-eqb place place).1 refl) ∙ ap (λ (b : Bool). if b then v else None) ((Decides-eqb item item).1 refl)

valued : (o : Option Scalar) (v : Option Constant) → is_no_constant o v ≡ false → v ≡ None → ⊥
valued o None e h = absurd (cc e)
valued o (Some c) e h = none_some c (sym h)

entered : (q name : List ℕ) (v : Option Constant) → same_name q name ≡ true → (v ≡ None → ⊥) → first_entry (map constant_entry (entry_of name v)) q ≡ None → ⊥
entered q name None is some e = some refl
entered q name (Some c) is some e = none_some (constant_symbol c) (sym e ∙ ap (λ (b : Bool). cond b (Some (constant_symbol c)) None) is)

module _ (known : ByName Known) (types : Types) (q : List ℕ) where
  kept_among : (ds : List Defined) (ps : List Placed) (m : ByName Known) (at line number : ℕ) → known_from (with_definitions m at number ds) (at + 1) ps ≡ known → broken_definitions known types at line number ds ≡ [] → get m q ≡ None
      → (get (with_definitions m at number ds) q ≡ None → ⊥) → first_entry (map constant_entry (entries_in known at number ds)) q ≡ None → ⊥
  kept_among [] ps m at line number is clean none some e = some none
  kept_among (d ∷ ds) ps m at line number is clean none some e =
      go (same_name q d.name) refl
      (λ none'. kept_among ds ps (with_definition m at number d) at line (number + 1) is (right_empty (broken_definition known types at line number d) (broken_definitions known types at line (number + 1) ds) clean) none' some
      (mapped_front (entry_of d.name (value_here (get known d.name) at number)) (entries_in known at (number + 1) ds) q e).1)
    where
      here : (b : Bool) → same_name q d.name ≡ b → get (with_definition m at number d) q ≡ cond b (Some (record { value = value_of m at number d.value; place = at; item = number })) None
      here b alike =
          new_there m d.name (record { value = value_of m at number d.value; place = at; item = number }) q
          ∙ ap (λ (o : Option Known). or_then o (cond (same_name q d.name) (Some (record { value = value_of m at number d.value; place = at; item = number })) None)) none
          ∙ ap (λ (b : Bool). cond b (Some (record { value = value_of m at number d.value; place = at; item = number })) None) alike

      go : (b : Bool) → same_name q d.name ≡ b → (get (with_definition m at number d) q ≡ None → ⊥) → ⊥
      go false alike rest = rest (here false alike)
      go true alike rest =
          let x : Known = record { value = value_of m at number d.value; place = at; item = number } in
          let named : q ≡ d.name = name_is q d.name alike in
          let final = known_from (with_definitions (with_definition m at number d) at (number + 1) ds) (at + 1) ps in
          let stays : get known q ≡ Some x = ap (λ (n : ByName Known). get n q) (sym is) ∙ there_stays (with_definition m at number d) final at (number + 1) q x (grows_rest ds ps (with_definition m at number d) at (number + 1) q) (here true alike) in
          let value : value_here (get known d.name) at number ≡ value_of m at number d.value = ap (λ (n : List ℕ). value_here (get known n) at number) (sym named) ∙ ap (λ (o : Option Known). value_here o at number) stays ∙ own_value at number (value_of m at number d.value) in
          let whole : value_of m at number d.value ≡ value_of known at number d.value =
          value_same m known at number (λ n. seen_same m known at number n (subst (λ (k : ByName Known). Grows m k at number n) is (grows_rest (d ∷ ds) ps m at number n))) d.value in
          let fine = not_when (is_no_constant (scalar_of_name types d.name) (value_of known at number d.value)) (place line E33)
          (left_empty (broken_definition known types at line number d) (broken_definitions known types at line (number + 1) ds) clean) in
          entered q d.name (value_here (get known d.name) at number) alike (λ h. valued (scalar_of_name types d.name) (value_of known at number d.value) fine (sym whole ∙ sym value ∙ h))
          (mapped_front (entry_of d.name (value_here (get known d.name) at number)) (entries_in known at (number + 1) ds) q e).0

  kept_from : (ps : List Placed) (m : ByName Known) (at : ℕ) → known_from m at ps ≡ known → broken_from known types at ps ≡ [] → get m q ≡ None → (get known q ≡ None → ⊥) → first_entry (map constant_entry (entries_from known at ps)) q ≡ None → ⊥
  kept_from [] m at is clean none some e = some (ap (λ (n : ByName Known). get n q) (sym is) ∙ none)
  kept_from (p ∷ ps) m at is clean none some e =
      go (get (with_definitions m at 0 (definitions_in p.stmt)) q) refl
      (λ none'. kept_from ps (with_definitions m at 0 (definitions_in p.stmt)) (at + 1) is (right_empty (broken_statement known types at p) (broken_from known types (at + 1) ps) clean) none' some
      (mapped_front (entries_in known at 0 (definitions_in p.stmt)) (entries_from known (at + 1) ps) q e).1)
    where
      go : (o : Option Known) → get (with_definitions m at 0 (definitions_in p.stmt)) q ≡ o → (get (with_definitions m at 0 (definitions_in p.stmt)) q ≡ None → ⊥) → ⊥
      go None is' rest = rest is'
      go (Some k) is' rest =
          let line = p.line.0 in
          let decls = broken_decls known at line (decls_of p.stmt) in
          let message = broken_message known at line (port_type_in p.stmt) in
          let definitions = broken_definitions known types at line 0 (definitions_in p.stmt) in
          let machine = broken_machine known at line (machine_in p.stmt) in
          let here = left_empty (broken_statement known types at p) (broken_from known types (at + 1) ps) clean in
          kept_among (definitions_in p.stmt) ps m at line 0 is (right_empty (decls ++ message) definitions (left_empty (decls ++ message ++ definitions) machine here)) none (λ h. none_some k (sym h ∙ is'))
          (mapped_front (entries_in known at 0 (definitions_in p.stmt)) (entries_from known (at + 1) ps) q e).0

-- a name that is known has an entry among the constants
pub constant_kept : (specs : List Placed) (types : Types) (q : List ℕ) → broken_from (constants_of specs) types 0 specs ≡ [] → (get (constants_of specs) q ≡ None → ⊥) → first_entry (map constant_entry (entries_from (constants_of specs) 0 specs)) q ≡ None → ⊥
constant_kept specs types q clean some e = kept_from (constants_of specs) types q specs empty 0 refl clean (get-empty (slice_cmp nat_cmp) q) some e
