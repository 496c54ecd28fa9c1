-- The cut of a text and the tokens of a statement as functions, step by step. No contract of a public function names
-- this file: proofs/CutLaws and proofs/TokenLaws lead from here to the definitions.
-- Source: this profile, after ANSI X3.9-1978, section 3 (blanks have no meaning), for the tokens of Classes and Statements.
use Rattle.std.specs.Prelude.{ℕ, suc, zero, ◌-◌, Bool, true, false, Option, Some, None, List, [], ◌∷◌, if◌then◌else◌, codes, take, drop, length}
use Rattle.fm_base.specs.declared.token.Class.{Class}
use Rattle.fm_base.specs.declared.token.Class.TheVariants.{LogicalIf, Nothing}
use Rattle.fm_base.specs.declared.token.Token.{Token}
use Rattle.fm_base.specs.declared.token.Token.TheVariants.{Key}
use Rattle.fm_token.specs.Classes.{class_of, condition_end, is_same_text}
use Rattle.fm_token.specs.Statements.{behind_key, key_of, test_of}
use Rattle.fm_token.specs.Steps.{behind_items, token_at}

-- the longest token of at most n bytes that a text begins with, and its length
abbrev pub sized : ℕ → Option Token → Option (ℕ × Token)
sized n None = None
sized n (Some token) = Some (n, token)

abbrev pub or_shorter : Option (ℕ × Token) → Option (ℕ × Token) → Option (ℕ × Token)
or_shorter None shorter = shorter
or_shorter (Some found) shorter = Some found

abbrev pub longest_within : ℕ → List ℕ → Option (ℕ × Token)
longest_within zero text = None
longest_within (suc n) text = or_shorter (sized (suc n) (token_at (take (suc n) text))) (longest_within n text)

unfoldable pub longest : List ℕ → Option (ℕ × Token)
longest text = longest_within (length text) text

-- a first token, and the cut behind it
abbrev pub cut_from : Option (ℕ × Token) → (ℕ → Option (List Token)) → Option (List Token)
cut_from None behind = None
cut_from (Some found) behind = behind_items (found.1 ∷ []) (behind (found.0 - 1))

-- the cut of what stands behind the first n bytes
unfoldable pub cut_behind : ℕ → List ℕ → Option (List Token)
cut_behind n [] = Some []
cut_behind (suc n) (b ∷ bs) = cut_behind n bs
cut_behind zero (b ∷ bs) = cut_from (longest (b ∷ bs)) (λ n. cut_behind n bs)

-- the cut of a text
unfoldable pub cut_of : List ℕ → Option (List Token)
cut_of text = cut_behind 0 text

abbrev pub end_unless_then : List ℕ → Option ℕ → Option ℕ
end_unless_then text None = None
end_unless_then text (Some n) = if is_same_text (drop n text) (codes "THEN") then None else Some n

-- the same as condition_end, of a logical IF alone
unfoldable pub logical_end : List ℕ → Option ℕ
logical_end text = end_unless_then text (condition_end text)

abbrev pub is_nothing : Class → Bool
is_nothing Nothing = true
is_nothing class = false

abbrev pub keyed : Class → Option (List Token) → Option (List Token)
keyed class cut = if is_nothing class then None else behind_items (key_of class) cut

-- the tokens of a text that is no logical IF
unfoldable pub keyed_tokens : List ℕ → Option (List Token)
keyed_tokens text = keyed (class_of text) (cut_of (behind_key text))

abbrev pub logical_tokens : Option (List Token) → Option (List Token) → Option (List Token)
logical_tokens None behind = None
logical_tokens (Some test) behind = behind_items (Key LogicalIf ∷ test) behind

abbrev pub tokens_from : List ℕ → Option ℕ → (ℕ → Option (List Token)) → Option (List Token)
tokens_from text None behind = keyed_tokens text
tokens_from text (Some n) behind = logical_tokens (cut_of (test_of n text)) (behind (n - 1))

-- the tokens of what stands behind the first n bytes
unfoldable pub tokens_behind : ℕ → List ℕ → Option (List Token)
tokens_behind n [] = None
tokens_behind (suc n) (b ∷ bs) = tokens_behind n bs
tokens_behind zero (b ∷ bs) = tokens_from (b ∷ bs) (logical_end (b ∷ bs)) (λ n. tokens_behind n bs)

-- the tokens of a text
unfoldable pub tokens_of : List ℕ → Option (List Token)
tokens_of text = tokens_behind 0 text
