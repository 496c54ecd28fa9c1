-- The text of a card has 1,320 characters at most, and so its tokens are few.
use Rattle.std.proofs.Common.{◌≡◌, ℕ, suc, ℤ, pos, ◌+◌, ◌-◌, ◌*◌, ◌<◌, ◌≤◌, Bool, true, false, Option, Some, None, List, [], ◌∷◌, ◌++◌, map, take, drop, length, replicate, refl, sym, ap, subst, arith}
use Rattle.std.specs.Prelude.{codes, find, if◌then◌else◌, nat_le, not, ◌==◌}
use Rattle.std.specs.Char.{to_ascii_uppercase}
use Rattle.std.specs.List.{flat_map, list_any, list_all}
use Rattle.std.specs.Option.{option_map}
use Rattle.std.specs.Str.Parse.{digits_value}
use Rattle.std.proofs.lemmas.Bool.Decides.{nat_tests}
use Rattle.std.proofs.lemmas.Int.{ints}
use Rattle.std.proofs.lemmas.List.{length-append, length-drop, length-replicate, length-take}
use Rattle.fm_base.specs.Positions.{Position, positions, positions_behind, is_inside}
use Rattle.fm_base.specs.Tokens.{doubled, keyword_text, op_text}
use Rattle.fm_base.specs.Verdict.{IsClean, place, when}
use Rattle.fm_base.specs.declared.rule.Rule.TheVariants.{E01, E03, E04, E05}
use Rattle.fm_base.specs.declared.token.Class.{Class}
use Rattle.fm_base.specs.declared.token.Op.{Op}
use Rattle.fm_base.specs.declared.token.Op.TheVariants as op
use Rattle.fm_base.specs.declared.token.Token.{Token}
use Rattle.fm_base.specs.declared.token.Token.TheVariants as token
use Rattle.fm_cards.specs.Broken as cards
use Rattle.fm_cards.specs.Broken.{in_continuation, in_continuations, in_front, in_group, in_initial, is_bad_character}
use Rattle.fm_cards.specs.Cards.{Group, Parts, card_of, cards_of, parts_of, parts_of_rows, squeezed_byte, text_of, texts}
use Rattle.fm_cards.specs.Lines.{Row, columns_of, is_blank, is_comment, is_continuation, lines, row_at, rows, without_return}
use Rattle.fm_cards.specs.declared.card.Card.{Card}
use Rattle.fm_token.specs.Classes.{begins, class_of, condition_end, end_if_goes_on, goes_on}
use Rattle.fm_token.specs.Pieces.{IsCut, IsToken}
use Rattle.fm_token.specs.Statements.{IsTokens, plain, logical, behind_key, key_of, test_of}
use Rattle.fm_token.specs.TopLevel.{close_of, closes_last}
use Rattle.fm_stmt.specs.Checked.{known, read_so}
use Rattle.fm_net.specs.Typed.{AllIn}
use Rattle.fm_mean.proofs.Unbroken.{left_empty, right_empty, not_when, nothing_in}
use Rattle.fm_cost_law.specs.Words.{IsWord}
use Rattle.fm_cost_law.proofs.Lists.{all_joined}
use Rattle.fm_cost_law.proofs.Spelled.{IsSmall, TokenHasWord, token_weight, weight, weight_joined}

-- ---- rows of 72 columns

abbrev IsWide : Row → Type 0
IsWide r = length r.columns ≡ 72

filled : (xs : List ℕ) → length (take 72 xs ++ replicate (72 - length xs) 32) ≡ 72
filled xs =
    let blank : ℕ = 32 in
    let rest : List ℕ = replicate (72 - length xs) blank in
    omega (arith, length-append (take 72 xs) rest, length-take 72 xs, length-replicate (72 - length xs) blank)

rows_wide : (n : ℕ) (ls : List (List ℕ)) → AllIn IsWide (rows n ls)
rows_wide n [] = tt
rows_wide n (l ∷ ls) = go (is_comment (columns_of l)) (rows_wide (n + 1) ls)
  where
    go : (b : Bool) → AllIn IsWide (rows (n + 1) ls) → AllIn IsWide (if b then rows (n + 1) ls else row_at n (columns_of l) ∷ rows (n + 1) ls)
    go true h = h
    go false h = (filled (without_return l), h)

record IsWideGroup (g : Group) : Type 0 where
  first : IsWide g.first
  more : AllIn IsWide g.more

record AreWideParts (ps : Parts) : Type 0 where
  front : AllIn IsWide ps.front
  groups : AllIn IsWideGroup ps.groups

parts_wide : (rs : List Row) → AllIn IsWide rs → AreWideParts (parts_of_rows rs)
parts_wide [] h = record { front = tt; groups = tt }
parts_wide (r ∷ rs) h = go (is_continuation r.columns) (parts_wide rs h.1)
  where
    go : (b : Bool) → AreWideParts (parts_of_rows rs)
        → AreWideParts (if b then record { front = r ∷ (parts_of_rows rs).front; groups = (parts_of_rows rs).groups }
        else record { front = []; groups = record { first = r; more = (parts_of_rows rs).front } ∷ (parts_of_rows rs).groups })
    go true w = record { front = (h.0, w.front); groups = w.groups }
    go false w = record { front = tt; groups = (record { first = h.0; more = w.front }, w.groups) }

texts_long : (rs : List Row) → AllIn IsWide rs → length (texts rs) ≡ 66 * length rs
texts_long [] h = refl
texts_long (r ∷ rs) h = let wide = h.0 in omega (arith, wide, texts_long rs h.1, length-append (drop 6 r.columns) (texts rs), length-drop 6 r.columns)

group_long : (g : Group) → IsWideGroup g → length (text_of g) ≡ 66 + 66 * length g.more
group_long g w = let wide = w.first in omega (arith, wide, texts_long g.more w.more, length-append (drop 6 g.first.columns) (texts g.more), length-drop 6 g.first.columns)

-- ---- at most 19 continuation lines

continued : (before : ℕ) (rs : List Row) → before ≤ 19 → in_continuations before rs ≡ [] → before + length rs ≤ 19
continued before [] h e = omega (arith, h)
continued before (r ∷ rs) h e =
    let here = left_empty (in_continuation before r) (in_continuations (before + 1) rs) e in
    let late = right_empty (when (list_any is_bad_character r.columns) (place r.line E01) ++ when (not (list_all is_blank (take 5 r.columns))) (place r.line E03)) (when (nat_le 19 before) (place r.line E04)) here in
    let few = fewer before (not_when (nat_le 19 before) (place r.line E04) late) in
    let rest = continued (before + 1) rs (omega (arith, few)) (right_empty (in_continuation before r) (in_continuations (before + 1) rs) e) in
    omega (arith, rest)
  where
    fewer : (n : ℕ) → nat_le 19 n ≡ false → n < 19
    fewer n e = grind (arith, nat_tests)

group_few : (g : Group) → in_group g ≡ [] → length g.more ≤ 19
group_few g e =
    let last = when (is_inside (text_of g)) (place g.first.line E05) in
    let front = left_empty (in_initial g.first ++ in_continuations 0 g.more) last e in
    let few = continued 0 g.more (omega arith) (right_empty (in_initial g.first) (in_continuations 0 g.more) front) in
    omega (arith, few)

-- ---- squeezing

squeezed_short : (ps : List Position) → length (flat_map squeezed_byte ps) ≤ length ps
squeezed_short [] = omega arith
squeezed_short (p ∷ ps) = omega (arith, byte p, squeezed_short ps, length-append (squeezed_byte p) (flat_map squeezed_byte ps))
  where
    outside : (b : Bool) (p : Position) → length (if b then [] else to_ascii_uppercase p.byte ∷ []) ≤ 1
    outside true p = omega arith
    outside false p = omega arith

    go : (b : Bool) (p : Position) → length (if b then p.byte ∷ [] else if is_blank p.byte then [] else to_ascii_uppercase p.byte ∷ []) ≤ 1
    go true p = omega arith
    go false p = outside (is_blank p.byte) p

    byte : (p : Position) → length (squeezed_byte p) ≤ 1
    byte p = go (is_inside p.before) p

positions_counted : (before bs : List ℕ) → length (positions_behind before bs) ≡ length bs
positions_counted before [] = refl
positions_counted before (b ∷ bs) = ap suc (positions_counted (before ++ b ∷ []) bs)

abbrev pub IsShortCard : Card → Type 0
IsShortCard c = length c.text ≤ 1320

cards_short : (gs : List Group) → AllIn IsWideGroup gs → flat_map in_group gs ≡ [] → AllIn IsShortCard (map card_of gs)
cards_short [] w e = tt
cards_short (g ∷ gs) w e =
    let few = group_few g (left_empty (in_group g) (flat_map in_group gs) e) in
    (omega (arith, few, group_long g w.0, positions_counted [] (text_of g), squeezed_short (positions (text_of g))), cards_short gs w.1 (right_empty (in_group g) (flat_map in_group gs) e))

-- the cards of a source whose form breaks no rule
pub source_short : (source : List ℕ) → IsClean (cards.IsBroken source) → AllIn IsShortCard (cards_of source)
source_short source clean =
    let ps = parts_of source in
    cards_short ps.groups (parts_wide (rows 1 (lines source)) (rows_wide 1 (lines source))).groups (right_empty (flat_map in_front ps.front) (flat_map in_group ps.groups) (nothing_in (cards.places_of source) clean))

-- ---- tokens

doubled_long : (bs : List ℕ) → length bs ≤ length (flat_map doubled bs)
doubled_long [] = omega arith
doubled_long (b ∷ bs) = omega (arith, go (b == 39), doubled_long bs, length-append (doubled b) (flat_map doubled bs))
  where
    go : (t : Bool) → 1 ≤ length (if t then 39 ∷ 39 ∷ [] else b ∷ [])
    go true = omega arith
    go false = omega arith

op_long : (o : Op) → 1 ≤ length (op_text o)
op_long op.Eqv = omega arith
op_long op.Neqv = omega arith
op_long op.Or = omega arith
op_long op.And = omega arith
op_long op.Not = omega arith
op_long op.Eq = omega arith
op_long op.Ne = omega arith
op_long op.Lt = omega arith
op_long op.Le = omega arith
op_long op.Gt = omega arith
op_long op.Ge = omega arith
op_long op.Add = omega arith
op_long op.Sub = omega arith
op_long op.Mul = omega arith
op_long op.Div = omega arith
op_long op.Pow = omega arith

some_piece : (piece : List ℕ) (t : Token) → IsToken piece t → token_weight t ≤ length piece
some_piece piece (token.Key c) h = absurd h
some_piece [] (token.Named name) h = absurd (cc (h.0))
some_piece (b ∷ bs) (token.Named name) h = omega arith
some_piece [] (token.Number n) h = absurd (cc (h.0))
some_piece (b ∷ bs) (token.Number n) h = omega arith
some_piece [] token.Big h = absurd (cc (h.0))
some_piece (b ∷ bs) token.Big h = omega arith
some_piece piece (token.Constant bytes) h = omega (arith, ap length h, doubled_long bytes, length-append (flat_map doubled bytes) (39 ∷ []))
some_piece piece token.Open h = omega (arith, ap length h)
some_piece piece token.Close h = omega (arith, ap length h)
some_piece piece token.Comma h = omega (arith, ap length h)
some_piece piece token.Equals h = omega (arith, ap length h)
some_piece piece token.Colon h = omega (arith, ap length h)
some_piece piece token.True h = omega (arith, ap length h)
some_piece piece token.False h = omega (arith, ap length h)
some_piece piece (token.Sign o) h = omega (arith, ap length h, op_long o)

-- as it is read
abbrev ReadHasWord : Token → Type 0
ReadHasWord t = TokenHasWord (read_so t)

small_number : (m : ℕ) (n : ℤ) → m ≤ 9223372036854775807 → pos m ≡ n → IsWord n
small_number m n few e = subst IsWord e (below m few)
  where
    below : (m : ℕ) → m ≤ 9223372036854775807 → IsWord (pos m)
    below m few = grind (arith, ints, nat_tests)

read_word : (piece : List ℕ) (t : Token) → IsToken piece t → ReadHasWord t
read_word piece (token.Key c) h = absurd h
read_word piece (token.Named name) h = tt
read_word piece (token.Number n) h = small_number (digits_value 10 piece) n h.1 h.2
read_word piece token.Big h = refl
read_word piece (token.Constant bytes) h = tt
read_word piece token.Open h = tt
read_word piece token.Close h = tt
read_word piece token.Comma h = tt
read_word piece token.Equals h = tt
read_word piece token.Colon h = tt
read_word piece token.True h = tt
read_word piece token.False h = tt
read_word piece (token.Sign o) h = tt

cut_few : (ts : List Token) (text : List ℕ) → IsCut text ts → (weight ts ≤ length text) × AllIn ReadHasWord ts
cut_few [] text c = (omega arith, tt)
cut_few (t ∷ ts) text c =
    let rest = cut_few ts (drop c.0 text) c.2 in
    let within = c.1.within in
    (omega (arith, some_piece (take c.0 text) t c.1.whole, rest.0, within, length-take c.0 text, length-drop c.0 text), (read_word (take c.0 text) t c.1.whole, rest.1))

closes_behind : (text : List ℕ) (n : ℕ) → close_of text ≡ Some n → 1 ≤ n
closes_behind text n e = go (find closes_last (positions text)) e
  where
    go : (o : Option Position) → option_map {U = ℕ} (λ (position : Position). length position.before + 1) o ≡ Some n → 1 ≤ n
    go None e = absurd (cc e)
    go (Some q) e = omega (arith, the_number (length q.before + 1) n e)
      where
        the_number : (a b : ℕ) → Some a ≡ Some b → a ≡ b
        the_number a b e = cc

test_ends : (text : List ℕ) (n : ℕ) → condition_end text ≡ Some n → (1 ≤ n) × (1 ≤ length text)
unfolding condition_end
test_ends text n e = go text (begins text (codes "IF(")) refl e
  where
    at_end : (text : List ℕ) (o : Option ℕ) → end_if_goes_on text o ≡ Some n → o ≡ Some n
    at_end text None e = absurd (cc e)
    at_end text (Some m) e = by (goes_on (drop m text)) e
      where
        by : (b : Bool) → (if b then Some m else None) ≡ Some n → Some m ≡ Some n
        by true e = e
        by false e = absurd (cc e)

    some : (text : List ℕ) → begins text (codes "IF(") ≡ true → 1 ≤ length text
    some [] e = absurd (cc e)
    some (b ∷ bs) e = omega arith

    go : (text : List ℕ) (b : Bool) → begins text (codes "IF(") ≡ b → (if b then end_if_goes_on text (close_of text) else None) ≡ Some n → (1 ≤ n) × (1 ≤ length text)
    go text true is e = (closes_behind text n (at_end text (close_of text) e), some text is)
    go text false is e = absurd (cc e)

key_few : (c : Class) → (weight (key_of c) ≤ 1) × AllIn ReadHasWord (key_of c)
key_few c = go (length (keyword_text c) == 0)
  where
    go : (b : Bool) → (weight (if b then [] else token.Key c ∷ []) ≤ 1) × AllIn ReadHasWord (if b then [] else token.Key c ∷ [])
    go true = (omega arith, tt)
    go false = (omega arith, (tt, tt))

-- the tokens of a text
tokens_few : {text : List ℕ} {ts : List Token} → IsTokens text ts → (weight ts ≤ 1 + length text) × AllIn ReadHasWord ts
tokens_few {text} {ts} (plain cut l n c is) =
    let on = cut_few cut (behind_key text) c in
    let key = key_few (class_of text) in
    subst (λ (ts : List Token). (weight ts ≤ 1 + length text) × AllIn ReadHasWord ts) (sym is)
    (omega (arith, on.0, key.0, weight_joined (key_of (class_of text)) cut, length-drop (length (keyword_text (class_of text))) text), all_joined ReadHasWord (key_of (class_of text)) cut key.1 on.1)
tokens_few {text} {ts} (logical n test behind l condition c t is) =
    let ends = test_ends text n condition in
    let first = cut_few test (test_of n text) c in
    let rest = tokens_few t in
    subst (λ (ts : List Token). (weight ts ≤ 1 + length text) × AllIn ReadHasWord ts) (sym is)
    (omega (arith, ends.0, ends.1, first.0, rest.0, weight_joined test behind, length-drop 2 (take n text), length-take n text, length-drop n text), (tt, all_joined ReadHasWord test behind first.1 rest.1))

known_few : (ts : List Token) → AllIn ReadHasWord ts → (weight (known ts) ≡ weight ts) × AllIn TokenHasWord (known ts)
known_few [] h = (refl, tt)
known_few (t ∷ ts) h = let rest = known_few ts h.1 in (omega (arith, rest.0, same t), (h.0, rest.1))
  where
    same : (t : Token) → token_weight (read_so t) ≡ token_weight t
    same (token.Key c) = refl
    same (token.Named name) = refl
    same (token.Number n) = refl
    same token.Big = refl
    same (token.Constant bytes) = refl
    same token.Open = refl
    same token.Close = refl
    same token.Comma = refl
    same token.Equals = refl
    same token.Colon = refl
    same token.True = refl
    same token.False = refl
    same (token.Sign o) = refl

-- what a short text spells
pub text_small : (text : List ℕ) (ts : List Token) → length text ≤ 1320 → IsTokens text ts → IsSmall (known ts)
text_small text ts short t =
    let on = tokens_few t in
    let as_read = known_few ts on.1 in
    record { words = as_read.1; few = omega (arith, short, on.0, as_read.0) }
