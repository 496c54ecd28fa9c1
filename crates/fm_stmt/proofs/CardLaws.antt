-- What a card may break, and what it does not.
use Rattle.std.proofs.Common.{◌≡◌, ℕ, suc, zero, ◌<◌, ◌≤◌, Bool, true, false, Option, Some, None, Result, Ok, Err, MatchOption, List, [], ◌∷◌, length, slice_index_or, Contains, refl, sym, ◌∙◌, ap, subst, arith}
use Rattle.fm_base.specs.declared.name.Label.{Label}
use Rattle.fm_base.specs.declared.name.Line.{Line}
use Rattle.fm_base.specs.declared.rule.CheckFail.{CheckFail}
use Rattle.fm_base.specs.declared.rule.CheckFail.TheVariants.{Refused}
use Rattle.fm_base.specs.declared.rule.Rule.{Rule}
use Rattle.fm_base.specs.declared.rule.Rule.TheVariants as rule
use Rattle.fm_base.specs.declared.token.Token.{Token}
use Rattle.fm_base.specs.declared.token.Token.TheVariants as token
use Rattle.fm_base.specs.Rules.{number_of, phase_of}
use Rattle.fm_base.specs.Verdict.{IsLeast, IsClean, IsRefusal}
use Rattle.fm_cards.specs.declared.card.Card.{Card}
use Rattle.fm_token.specs.Statements.{IsTokens}
use Rattle.fm_tree.specs.declared.program_unit.Placed.{Placed}
use Rattle.fm_tree.specs.declared.statement.Stmt.{Stmt}
use Rattle.fm_base.specs.declared.parse_fail.ParseFail.{ParseFail}
use Rattle.fm_base.specs.declared.parse_fail.ParseFail.TheVariants.{Bad}
use Rattle.fm_stmt_parts.specs.Gives.{Fails}
use Rattle.fm_stmt.specs.Statements.{statement_at}
use Rattle.fm_stmt.specs.Names.{names_of, has_long}
use Rattle.fm_stmt.specs.Checked.{IsTreeOf, HasCut, IsRead, IsBroken, BreaksRule, OneTree, OneStatement, AllOfPhaseOne, has_big, known, rule_of}
use Rattle.fm_stmt.proofs.ExactStatements.{statement_sound, statement_complete}

-- a text has one cut
abbrev pub OneCut : Type 0
OneCut = (text : List ℕ) (a b : List Token) → IsTokens text a → IsTokens text b → a ≡ b

pub one_tree_law : OneTree
one_tree_law a b v w e = let q : Some a ≡ Some b = sym (statement_complete a v) ∙ ap statement_at e ∙ statement_complete b w in cc q

pub tree_of_cut : (text : List ℕ) (cut : List Token) (s : Stmt) → IsTokens text cut → statement_at (known cut) ≡ Some s → IsTreeOf text s
tree_of_cut text cut s i e = let w = statement_sound (known cut) s e in (cut, (i, record { shaped = w.0; spelled = w.1 }))

pub reads_tree : OneCut → (text : List ℕ) (cut : List Token) (s : Stmt) → IsTokens text cut → IsTreeOf text s → statement_at (known cut) ≡ Some s
reads_tree u text cut s i t =
    let q : t.0 ≡ cut = u text t.0 cut t.1.0 i in
    ap (λ (ts : List Token). statement_at (known ts)) (sym q) ∙ ap statement_at t.1.1.spelled ∙ statement_complete s t.1.1.shaped

same_tree : OneCut → (text : List ℕ) (a b : Stmt) → IsTreeOf text a → IsTreeOf text b → a ≡ b
same_tree u text a b v w =
    let p = reads_tree u text v.0 a v.1.0 v in
    let q = reads_tree u text v.0 b v.1.0 w in
    let r : Some a ≡ Some b = sym p ∙ q in
    cc r

-- the tree of a text that has a cut
pub cut_read : OneCut → (text : List ℕ) (ts : List Token) (big : Bool) (s : Stmt) → HasCut text ts big → statement_at ts ≡ Some s → IsRead text s big
cut_read u text ts big s h e = record {
  tree = tree_of_cut text h.0 s h.1.0 (ap statement_at (sym h.1.1) ∙ e);
  big_is = λ others i. ap has_big (u text others h.0 i h.1.0) ∙ sym h.1.2;
}

pub cut_unread : OneCut → (text : List ℕ) (ts : List Token) (big : Bool) → HasCut text ts big → statement_at ts ≡ None → (s : Stmt) → ¬ IsTreeOf text s
cut_unread u text ts big h e s t =
    let q : Some s ≡ None = sym (reads_tree u text h.0 s h.1.0 t) ∙ ap statement_at (sym h.1.1) ∙ e in
    cc q

pub uncut : (text : List ℕ) → ((ts : List Token) → ¬ IsTokens text ts) → (s : Stmt) → ¬ IsTreeOf text s
uncut text h s t = h t.0 t.1.0

-- numbers over the greatest

contains_big : (ts : List Token) → has_big ts ≡ true → Contains ts token.Big
contains_big [] e = cc
contains_big (token.Big ∷ ts) e = (zero, (omega arith), refl)
contains_big (t ∷ ts) e = let c = contains_big ts e in (suc c.0, omega (arith, c.1), c.2)

big_contained : (ts : List Token) → Contains ts token.Big → has_big ts ≡ true
big_contained ts c = there ts c.0 c.1 c.2
  where
    there : (ts : List Token) (k : ℕ) → k < length ts → slice_index_or ts k token.Big ≡ token.Big → has_big ts ≡ true
    there [] k h e = absurd (omega arith)
    there (token.Big ∷ ts) k h e = refl
    there (t ∷ ts) zero h e = cc
    there (t ∷ ts) (suc k) h e = there ts k (omega arith) e

-- rules

rule_phase : (text : List ℕ) (r : Rule) → BreaksRule text r → phase_of r ≡ 1
rule_phase text rule.E10 b = refl
rule_phase text rule.E11 b = refl
rule_phase text rule.E12 b = refl
rule_phase text r b = absurd b

pub all_of_phase_one_law : AllOfPhaseOne
all_of_phase_one_law card q b = rule_phase card.text q.rule b.1

least_at : (card : Card) (r : Rule) → BreaksRule card.text r → ((q : Rule) → BreaksRule card.text q → number_of r ≤ number_of q) → IsLeast (IsBroken card) (record { line = card.line; rule = r })
least_at card r b first = record {
  broken = (refl, b);
  least = λ q c.
      let p = rule_phase card.text r b in
      let s = rule_phase card.text q.rule c.1 in
      let l = ap (λ line. line.0) c.0 in
      let n = first q.rule c.1 in
      (omega (arith, p, s), λ e. (omega (arith, l), λ f. n));
}

pub no_tree_least : (card : Card) → ((s : Stmt) → ¬ IsTreeOf card.text s) → IsLeast (IsBroken card) (record { line = card.line; rule = rule.E10 })
no_tree_least card h = least_at card rule.E10 h first
  where
    first : (q : Rule) → BreaksRule card.text q → 10 ≤ number_of q
    first rule.E10 b = omega arith
    first rule.E11 b = omega arith
    first rule.E12 b = omega arith
    first q b = absurd b

big_least : (card : Card) (s : Stmt) → IsRead card.text s true → IsLeast (IsBroken card) (record { line = card.line; rule = rule.E11 })
big_least card s r = least_at card rule.E11 (r.tree.0, (r.tree.1.0, contains_big r.tree.0 (r.big_is r.tree.0 r.tree.1.0))) first
  where
    first : (q : Rule) → BreaksRule card.text q → 11 ≤ number_of q
    first rule.E10 b = absurd (b s r.tree)
    first rule.E11 b = omega arith
    first rule.E12 b = omega arith
    first q b = absurd b

-- where no number is over the greatest
no_big : (text : List ℕ) (s : Stmt) → IsRead text s false → ¬ BreaksRule text rule.E11
no_big text s r b = let q : true ≡ false = sym (big_contained b.0 b.1.1) ∙ r.big_is b.0 b.1.0 in cc q

long_least : (card : Card) (s : Stmt) → IsRead card.text s false → has_long (names_of s) ≡ true → IsLeast (IsBroken card) (record { line = card.line; rule = rule.E12 })
long_least card s r l = least_at card rule.E12 (s, (r.tree, l)) first
  where
    first : (q : Rule) → BreaksRule card.text q → 12 ≤ number_of q
    first rule.E10 b = absurd (b s r.tree)
    first rule.E11 b = absurd (no_big card.text s r b)
    first rule.E12 b = omega arith
    first q b = absurd b

pub rule_least : (card : Card) (s : Stmt) (big long : Bool) → IsRead card.text s big → has_long (names_of s) ≡ long → (r : Rule) → rule_of big long ≡ Some r → IsLeast (IsBroken card) (record { line = card.line; rule = r })
rule_least card s true long h l r e = let q : rule.E11 ≡ r = cc e in subst (λ (x : Rule). IsLeast (IsBroken card) (record { line = card.line; rule = x })) q (big_least card s h)
rule_least card s false true h l r e = let q : rule.E12 ≡ r = cc e in subst (λ (x : Rule). IsLeast (IsBroken card) (record { line = card.line; rule = x })) q (long_least card s h l)
rule_least card s false false h l r e = cc e

pub none_broken : OneCut → (card : Card) (s : Stmt) (big long : Bool) → IsRead card.text s big → has_long (names_of s) ≡ long → rule_of big long ≡ None → IsClean (IsBroken card)
none_broken u card s true long h l e = cc e
none_broken u card s false true h l e = cc e
none_broken u card s false false h l e = λ q b. none q.rule b.1
  where
    none : (r : Rule) → ¬ BreaksRule card.text r
    none rule.E10 c = c s h.tree
    none rule.E11 c = no_big card.text s h c
    none rule.E12 c =
        let same = same_tree u card.text c.0 s c.1.0 h.tree in
        let q : true ≡ false = sym c.1.1 ∙ ap (λ (t : Stmt). has_long (names_of t)) same ∙ l in
        cc q
    none r c = c

pub one_statement_law : OneCut → OneStatement
one_statement_law u card a b v w =
    let tree = same_tree u card.text a.stmt b.stmt v.tree w.tree in
    let P : Line → Option Label → Stmt → Placed = λ line label stmt. record { line = line; label = label; stmt = stmt } in
    ap (λ (l : Line). P l a.label a.stmt) (v.line ∙ sym w.line) ∙ ap (λ (l : Option Label). P b.line l a.stmt) (v.label ∙ sym w.label) ∙ ap (P b.line b.label) tree

-- what was let through breaks no rule, and what was refused breaks that one

pub let_through : {T : Type 0} (line : Line) (o : Option Rule) (x v : T) → MatchOption o (◌≡◌ {A = Result T CheckFail} (Ok x) (Ok v)) (λ r. ◌≡◌ {A = Result T CheckFail} (Ok x) (Err (Refused (record { line = line; rule = r })))) → o ≡ None
let_through line None x v e = refl
let_through line (Some r) x v e = cc e

pub refused_by : {T : Type 0} (card : Card) (s : Stmt) (big : Bool) → IsRead card.text s big → (o : Option Rule) → o ≡ rule_of big (has_long (names_of s)) → (fail : CheckFail) (v : T)
    → MatchOption o (◌≡◌ {A = Result T CheckFail} (Err fail) (Ok v)) (λ r. ◌≡◌ {A = Result T CheckFail} (Err fail) (Err (Refused (record { line = card.line; rule = r })))) → IsRefusal (IsBroken card) fail
refused_by card s big h None e fail v m = cc m
refused_by card s big h (Some r) e fail v m =
    let q : Refused (record { line = card.line; rule = r }) ≡ fail = cc m in
    subst (IsRefusal (IsBroken card)) q (rule_least card s big (has_long (names_of s)) h refl r (sym e))

pub nothing_read : {Y : Type 0} (e : ParseFail) (o : Option Y) → Fails e o → e ≡ Bad → o ≡ None
nothing_read e o f bad = f bad
