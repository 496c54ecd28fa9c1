-- A jump stays outside of blocks exactly where the block path of its target is a prefix of its own.
use Rattle.std.proofs.Common.{◌≡◌, ℕ, ◌≤◌, ◌⊎◌, inl, inr, ⊎_elim, Bool, true, false, ◌&&◌, ◌||◌, not, Option, Some, None, List, [], ◌∷◌, length, take, refl, sym, ◌∙◌, ap, subst, arith}
use Rattle.std.specs.Prelude.{nat_lt, nat_le, if◌then◌else◌}
use Rattle.std.proofs.lemmas.Bool.{ltb-true, lt-ltb}
use Rattle.std.proofs.lemmas.Bool.Decides.{nat_tests}
use Rattle.std.proofs.lemmas.List.{drop_all}
use Rattle.fm_base.specs.declared.name.Label.{Label}
use Rattle.fm_tree.specs.declared.form.Form.{Form}
use Rattle.fm_tree.specs.declared.form.Form.TheVariants as form
use Rattle.fm_tree.specs.declared.entry_mark.EntryMark.{EntryMark}
use Rattle.fm_tree.specs.declared.entry_mark.Open.{Open}
use Rattle.fm_tree.specs.Structure.{is_separator}
use Rattle.fm_tree.specs.Blocks.{PathEnds, behind, branch_end, head_of, innermost}
use Rattle.fm_tree.specs.Labels.{jump_label}
use Rattle.fm_tree.specs.Units.{block_path, form_at, path_of, stands_outside}
use Rattle.fm_tree_blocks.proofs.Below.{innermost_below}
use Rattle.fm_tree_blocks.proofs.Paths.{path_outwards, paths_agree}
use Rattle.fm_unit_structure.specs.Laws.{IsPrefix, JumpsAgree}
use Rattle.fm_rules.specs.StructureLookups.{block_round}
use Rattle.fm_rules.specs.StructureRules.{holds, is_upto}

none_first : {X : Type 0} (xs : List X) → head_of xs ≡ None → xs ≡ []
none_first [] e = refl
none_first (x ∷ xs) e = absurd (cc)

le_true : (a b : ℕ) → nat_le a b ≡ true → a ≤ b
le_true a b h = grind (arith, nat_tests)

true_le : (a b : ℕ) → a ≤ b → nat_le a b ≡ true
true_le a b h = grind (arith, nat_tests)

upto_holds : (k : ℕ) (e : Option ℕ) → is_upto k e ≡ true → (j : ℕ) → e ≡ Some j → k ≤ j
upto_holds k None h j e = absurd (cc)
upto_holds k (Some n) h j e = let q : n ≡ j = cc in let l = le_true k n h in omega arith

holds_upto : (k : ℕ) (e : Option ℕ) → ((j : ℕ) → e ≡ Some j → k ≤ j) → is_upto k e ≡ true
holds_upto k None h = refl
holds_upto k (Some n) h = true_le k n (h n refl)

both_true : (a b : Bool) → (a && b) ≡ true → (a ≡ true) × (b ≡ true)
both_true true true h = (refl, refl)
both_true true false h = absurd (cc)
both_true false b h = absurd (cc)

true_both : (a b : Bool) → a ≡ true → b ≡ true → (a && b) ≡ true
true_both true true h g = refl
true_both true false h g = absurd (cc)
true_both false b h g = absurd (cc)

-- the branch that is innermost at t holds k exactly where the blocks that are open at t are, from the outside, a prefix
agree : (entries : List EntryMark) (t k : ℕ) (b : Option Open) → t ≤ length entries → k ≤ length entries → innermost entries t ≡ b
    → (holds entries b k ≡ true → PathEnds entries t k) × (PathEnds entries t k → holds entries b k ≡ true)
agree entries t k None lt lk e = (
  (λ h. (length (behind (take k entries)), drop_all (length (behind (take k entries))) (behind (take k entries)) (omega arith) ∙ sym (none_first (behind (take t entries)) e))),
  (λ p. refl),
)
agree entries t k (Some o) lt lk e =
    let p = paths_agree entries t k o lt lk e in (
      (λ h. let s = both_true (nat_lt o.start k) (is_upto k (branch_end entries o.start)) h in p.1 (ltb-true o.start k s.0, upto_holds k (branch_end entries o.start) s.1)),
      (λ q. let s = p.0 q in true_both (nat_lt o.start k) (is_upto k (branch_end entries o.start)) (lt-ltb o.start k s.0) (holds_upto k (branch_end entries o.start) s.1)),
    )

-- The blocks round an entry.

path_choice : (b : Bool) (f : Form) (o : Open) (os : List Open) → stands_outside f o ≡ b → path_of f (o ∷ os) ≡ (if b then os else o ∷ os)
path_choice b f o os e = ap (λ c. if c then os else o ∷ os) e

path_none : (f : Form) (os : List Open) → os ≡ [] → path_of f os ≡ []
path_none f os e = ap (path_of f) e

pub path_alone : (entries : List EntryMark) (t : ℕ) → innermost entries t ≡ None → block_path entries t ≡ []
path_alone entries t e = path_none (form_at entries t) (behind (take t entries)) (none_first (behind (take t entries)) e)

-- outside the innermost block: as its opener
pub path_outside : (entries : List EntryMark) (t : ℕ) (o : Open) → t ≤ length entries → innermost entries t ≡ Some o → stands_outside (form_at entries t) o ≡ true
    → block_path entries t ≡ behind (take o.at entries)
path_outside entries t o l e s =
    ap (path_of (form_at entries t)) (path_outwards entries t o l e) ∙ path_choice true (form_at entries t) o (behind (take o.at entries)) s

pub path_inside : (entries : List EntryMark) (t : ℕ) (o : Open) → t ≤ length entries → innermost entries t ≡ Some o → stands_outside (form_at entries t) o ≡ false
    → block_path entries t ≡ behind (take t entries)
path_inside entries t o l e s =
    ap (path_of (form_at entries t)) (path_outwards entries t o l e) ∙ path_choice false (form_at entries t) o (behind (take o.at entries)) s
    ∙ sym (path_outwards entries t o l e)

-- a jump stands in the block that is innermost before it
plain_path : (f : Form) (label : Label) (os : List Open) → jump_label f ≡ Some label → path_of f os ≡ os
plain_path f label [] e = refl
plain_path (form.Goto l) label (o ∷ os) e = refl
plain_path (form.Receive l) label (o ∷ os) e = refl
plain_path f label (o ∷ os) e = absurd (cc)

-- the innermost branch of a path holds k exactly where the path is a prefix of the blocks that are open at k
abbrev AgreesBy : List EntryMark → List Open → ℕ → Type 0
AgreesBy entries path k =
    (holds entries (head_of path) k ≡ true → IsPrefix path (behind (take k entries))) × (IsPrefix path (behind (take k entries)) → holds entries (head_of path) k ≡ true)

agrees_at : (entries : List EntryMark) (t k : ℕ) → t ≤ length entries → k ≤ length entries → AgreesBy entries (behind (take t entries)) k
agrees_at entries t k lt lk = agree entries t k (innermost entries t) lt lk refl

agrees_round : (entries : List EntryMark) (t k : ℕ) (o : Option Open) → t ≤ length entries → k ≤ length entries → innermost entries t ≡ o
    → AgreesBy entries (block_path entries t) k
agrees_round entries t k None lt lk e =
    subst (λ path. AgreesBy entries path k) (none_first (behind (take t entries)) e ∙ sym (path_alone entries t e)) (agrees_at entries t k lt lk)
agrees_round entries t k (Some o) lt lk e = by (stands_outside (form_at entries t) o) refl
  where
    by : (b : Bool) → stands_outside (form_at entries t) o ≡ b → AgreesBy entries (block_path entries t) k
    by true s =
        let l = innermost_below entries t o lt e in
        subst (λ path. AgreesBy entries path k) (sym (path_outside entries t o lt e s)) (agrees_at entries o.at k (omega (arith, l.0)) lk)
    by false s = subst (λ path. AgreesBy entries path k) (sym (path_inside entries t o lt e s)) (agrees_at entries t k lt lk)

-- a test that is false exactly where the paths agree
by_test : (s h : Bool) (P : Type 0) → (h ≡ true → P) → (P → h ≡ true)
    → ((s || not h) ≡ true → (s ≡ true) ⊎ (¬ P)) × ((s ≡ true) ⊎ (¬ P) → (s || not h) ≡ true)
by_test true h P to from = ((λ e. inl refl), (λ e. refl))
by_test false true P to from = ((λ e. absurd (cc)), ⊎_elim (λ (e : false ≡ true). absurd (cc)) (λ n. absurd (n (to refl))))
by_test false false P to from = ((λ e. inr (λ p. let f : false ≡ true = from p in absurd (cc))), (λ e. refl))

pub jumps_agree : JumpsAgree
jumps_agree entries k t label lk lt e =
    let a = agrees_round entries t k (innermost entries t) (omega arith) (omega arith) refl in
    let p : behind (take k entries) ≡ block_path entries k = sym (plain_path (form_at entries k) label (behind (take k entries)) e) in
    by_test (is_separator (form_at entries t)) (holds entries (block_round entries t) k) (IsPrefix (block_path entries t) (block_path entries k))
    (λ h. subst (λ path. IsPrefix (block_path entries t) path) p (a.0 h))
    (λ q. a.1 (subst (λ path. IsPrefix (block_path entries t) path) (sym p) q))
