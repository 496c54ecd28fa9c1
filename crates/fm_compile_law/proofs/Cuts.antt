-- The names among the tokens of a text are names of the language.
use Rattle.std.proofs.Common.{ℕ, Bool, true, false, cond, ◌==◌, List, [], ◌∷◌, length, take, drop, sym, subst}
use Rattle.fm_base.specs.Tokens.{keyword_text}
use Rattle.fm_base.specs.declared.token.Class.{Class}
use Rattle.fm_base.specs.declared.token.Token.{Token}
use Rattle.fm_base.specs.declared.token.Token.TheVariants as token
use Rattle.fm_net.specs.Typed.{AllIn}
use Rattle.fm_mean.proofs.Sizes.{all_append}
use Rattle.fm_token.specs.Pieces.{IsCut, IsToken}
use Rattle.fm_token.specs.Classes.{class_of}
use Rattle.fm_token.specs.Statements.{IsTokens, plain, logical, behind_key, key_of, test_of}
use Rattle.fm_stmt.specs.Checked.{Spells, known, read_so}
use Rattle.fm_tree.specs.Statements.{spelling_of}
use Rattle.fm_tree.specs.declared.statement.Stmt.{Stmt}
use Rattle.fm_object.specs.Texts.{IsName}

abbrev pub IsGood : Token → Type 0
IsGood (token.Key c) = Unit {0}
IsGood (token.Named n) = IsName n
IsGood (token.Number n) = Unit {0}
IsGood token.Big = Unit {0}
IsGood (token.Constant bytes) = Unit {0}
IsGood token.Open = Unit {0}
IsGood token.Close = Unit {0}
IsGood token.Comma = Unit {0}
IsGood token.Equals = Unit {0}
IsGood token.Colon = Unit {0}
IsGood token.True = Unit {0}
IsGood token.False = Unit {0}
IsGood (token.Sign o) = Unit {0}

abbrev pub AreGood : List Token → Type 0
AreGood ts = AllIn IsGood ts

one_good : (piece : List ℕ) (t : Token) → IsToken piece t → IsGood t
one_good piece (token.Key c) h = tt
one_good piece (token.Named n) h = subst (λ (m : List ℕ). IsName m) h.1 h.0
one_good piece (token.Number n) h = tt
one_good piece token.Big h = tt
one_good piece (token.Constant bytes) h = tt
one_good piece token.Open h = tt
one_good piece token.Close h = tt
one_good piece token.Comma h = tt
one_good piece token.Equals h = tt
one_good piece token.Colon h = tt
one_good piece token.True h = tt
one_good piece token.False h = tt
one_good piece (token.Sign o) h = tt

cut_good : (text : List ℕ) (ts : List Token) → IsCut text ts → AreGood ts
cut_good text [] h = tt
cut_good text (t ∷ ts) h = (one_good (take h.0 text) t h.1.whole, cut_good (drop h.0 text) ts h.2)

key_good : (c : Class) → AreGood (key_of c)
key_good c = go (length (keyword_text c) == 0)
  where
    go : (b : Bool) → AreGood (cond b [] (token.Key c ∷ []))
    go true = tt
    go false = (tt, tt)

tokens_good : {text : List ℕ} {ts : List Token} → IsTokens text ts → AreGood ts
tokens_good (plain {text = text} cut is some h e) =
    subst (λ (l : List Token). AreGood l) (sym e) (all_append IsGood (key_of (class_of text)) cut (key_good (class_of text)) (cut_good (behind_key text) cut h))
tokens_good (logical {text = text} n test behind is ends h rest e) =
    subst (λ (l : List Token). AreGood l) (sym e) (tt, all_append IsGood test behind (cut_good (test_of n text) test h) (tokens_good rest))

read_good : (t : Token) → IsGood t → IsGood (read_so t)
read_good (token.Key c) h = h
read_good (token.Named n) h = h
read_good (token.Number n) h = h
read_good token.Big h = tt
read_good (token.Constant bytes) h = h
read_good token.Open h = h
read_good token.Close h = h
read_good token.Comma h = h
read_good token.Equals h = h
read_good token.Colon h = h
read_good token.True h = h
read_good token.False h = h
read_good (token.Sign o) h = h

known_good : (ts : List Token) → AreGood ts → AreGood (known ts)
known_good [] h = tt
known_good (t ∷ ts) h = (read_good t h.0, known_good ts h.1)

-- and so those of the statement that they spell
pub spelled_good : (text : List ℕ) (ts : List Token) (s : Stmt) → IsTokens text ts → Spells ts s → AreGood (spelling_of s)
spelled_good text ts s h x = subst (λ (l : List Token). AreGood l) x.spelled (known_good ts (tokens_good h))
