-- A layout that grows by one variable after the other, and its words.
use Rattle.std.proofs.Common.{◌≡◌, ℕ, ◌+◌, ◌<◌, ◌≤◌, Bool, true, false, List, [], ◌∷◌, ◌++◌, drop, length, get_or, refl, sym, ap, ◌∙◌, append_assoc, arith}
use Rattle.std.specs.Prelude.{if◌then◌else◌, nat_lt}
use Rattle.std.proofs.lemmas.List.{drop_more}
use Rattle.std.proofs.lemmas.Bool.Decides.{nat_tests}
use Rattle.fm_tree.specs.declared.statement.Stmt.{Stmt}
use Rattle.fm_symbols.specs.ByName.{ByName}
use Rattle.fm_rules.specs.declared.sheet.Occurrence.{Occurrence}
use Rattle.fm_rules.specs.declared.sheet.Sheet.{Sheet}
use Rattle.fm_names.specs.declared.variables.Layout.{Layout}
use Rattle.fm_names.specs.Layouts.{with_variable, words_if}
use Rattle.fm_rules.specs.Variables.{all_words, laid_out, names_variable, variable, variables_among, words_of}

module _ (titles : ByName Bool) (heading : Stmt) (s : Sheet) where
  -- with the variables among these names behind it a layout is the whole
  pub record Lays (l : Layout) (os all : List Occurrence) : Type 0 where
    pub variables : l.variables ++ laid_out s l.words (variables_among titles heading s os) ≡ laid_out s 0 (variables_among titles heading s all)
    pub words : l.words + all_words s (variables_among titles heading s os) ≡ all_words s (variables_among titles heading s all)

  one_variable : (o : Occurrence) (os : List Occurrence) (l : Layout) (is : Bool)
      → (if is then record { variables = l.variables ++ variable s l.words o.name ∷ []; words = l.words + words_of s o.name } else l).variables
      ++ laid_out s (if is then record { variables = l.variables ++ variable s l.words o.name ∷ []; words = l.words + words_of s o.name } else l).words (variables_among titles heading s os)
      ≡ l.variables ++ laid_out s l.words (if is then o ∷ variables_among titles heading s os else variables_among titles heading s os)
  one_variable o os l true = append_assoc l.variables (variable s l.words o.name ∷ []) (laid_out s (l.words + words_of s o.name) (variables_among titles heading s os))
  one_variable o os l false = refl

  its_words : (o : Occurrence) (os : List Occurrence) (l : Layout) (is : Bool)
      → (if is then record { variables = l.variables ++ variable s l.words o.name ∷ []; words = l.words + words_of s o.name } else l).words + all_words s (variables_among titles heading s os)
      ≡ l.words + all_words s (if is then o ∷ variables_among titles heading s os else variables_among titles heading s os)
  its_words o os l true = omega arith
  its_words o os l false = refl

  pub lays_more : (all : List Occurrence) (i : ℕ) (o : Occurrence) (l m : Layout) → i < length all → o ≡ get_or all i o → m ≡ with_variable titles heading s l o
      → Lays l (drop i all) all → Lays m (drop (i + 1) all) all
  lays_more all i o l m below is made lays =
      let split = ap (λ p. p ∷ drop (i + 1) all) is ∙ sym (drop_more all i o below) in
      record {
        variables =
            ap (λ (x : Layout). x.variables ++ laid_out s x.words (variables_among titles heading s (drop (i + 1) all))) made
            ∙ one_variable o (drop (i + 1) all) l (names_variable titles heading s o)
            ∙ ap (λ (os : List Occurrence). l.variables ++ laid_out s l.words (variables_among titles heading s os)) split ∙ lays.variables;
        words =
            ap (λ (x : Layout). x.words + all_words s (variables_among titles heading s (drop (i + 1) all))) made
            ∙ its_words o (drop (i + 1) all) l (names_variable titles heading s o)
            ∙ ap (λ (os : List Occurrence). l.words + all_words s (variables_among titles heading s os)) split ∙ lays.words;
      }

  pub no_variables : (all : List Occurrence) (l : Layout) → l.variables ≡ [] → l.words ≡ 0 → Lays l all all
  no_variables all l none zero = record {
    variables = ap (λ vs. vs ++ laid_out s l.words (variables_among titles heading s all)) none ∙ ap (λ n. laid_out s n (variables_among titles heading s all)) zero;
    words = ap (λ n. n + all_words s (variables_among titles heading s all)) zero ∙ omega arith;
  }

  -- the words that are counted so far, and those of the names that are left, are all
  pub record Counts (words : ℕ) (os all : List Occurrence) : Type 0 where
    pub few : words ≤ 65536
    pub sum : words + all_words s (variables_among titles heading s os) ≡ all_words s (variables_among titles heading s all)

  words_split : (o : Occurrence) (os : List Occurrence) (is : Bool)
      → all_words s (if is then o ∷ variables_among titles heading s os else variables_among titles heading s os) ≡ words_if is (words_of s o.name) + all_words s (variables_among titles heading s os)
  words_split o os true = refl
  words_split o os false = omega arith

  counted : (all : List Occurrence) (i : ℕ) (o : Occurrence) (words more : ℕ) → i < length all → o ≡ get_or all i o → more ≡ words_if (names_variable titles heading s o) (words_of s o.name)
      → words + all_words s (variables_among titles heading s (drop i all)) ≡ all_words s (variables_among titles heading s all)
      → words + more + all_words s (variables_among titles heading s (drop (i + 1) all)) ≡ all_words s (variables_among titles heading s all)
  counted all i o words more below is here sum =
      let split = ap (λ (os : List Occurrence). all_words s (variables_among titles heading s os)) (ap (λ p. p ∷ drop (i + 1) all) is ∙ sym (drop_more all i o below)) in
      let two = words_split o (drop (i + 1) all) (names_variable titles heading s o) in
      omega (arith, split, two, here, sum)

  pub counts_more : (all : List Occurrence) (i : ℕ) (o : Occurrence) (words more : ℕ) → i < length all → o ≡ get_or all i o → more ≡ words_if (names_variable titles heading s o) (words_of s o.name)
      → words + more ≤ 65536 → Counts words (drop i all) all → Counts (words + more) (drop (i + 1) all) all
  counts_more all i o words more below is here few c = record { few = few; sum = counted all i o words more below is here c.sum }

  pub too_many : (all : List Occurrence) (i : ℕ) (o : Occurrence) (words more : ℕ) → i < length all → o ≡ get_or all i o → more ≡ words_if (names_variable titles heading s o) (words_of s o.name)
      → 65536 < words + more → Counts words (drop i all) all → nat_lt 65536 (all_words s (variables_among titles heading s all)) ≡ true
  too_many all i o words more below is here many c =
      let sum = counted all i o words more below is here c.sum in
      grind (arith, nat_tests)

  pub not_too_many : (all : List Occurrence) (words : ℕ) → Counts words [] all → nat_lt 65536 (all_words s (variables_among titles heading s all)) ≡ false
  not_too_many all words c =
      let few = c.few in
      let sum = c.sum in
      grind (arith, nat_tests)
