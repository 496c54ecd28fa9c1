-- Parts of statements, read from the front of a list of tokens: a function for each form, and for the ways of joining.
-- That they are exact for the forms is IsExact of Exact.
-- Source: ANSI X3.9-1978, section 1.5: the notation for forms of statements.
use Rattle.std.proofs.Common.{inl, inr}
use Rattle.std.specs.Cmp.Lexicographic.{pointwise}
use Rattle.std.specs.Prelude.{ℕ, ◌≡◌, suc, zero, ℤ, pos, Bool, true, false, not, ◌&&◌, Option, Some, None, ◌⊎◌, List, [], ◌∷◌, ◌++◌, length, drop, nat_le, nat_eq, if◌then◌else◌, codes}
use Rattle.fm_base.specs.declared.name.Label.{Label}
use Rattle.fm_base.specs.declared.token.Op.TheVariants as op
use Rattle.fm_base.specs.declared.token.Token.{Token}
use Rattle.fm_base.specs.declared.token.Token.TheVariants as token
use Rattle.fm_tree.specs.Tree.{Tree}
use Rattle.fm_tree.specs.Forms as forms
use Rattle.fm_tree.specs.Forms.{Form}
use Rattle.fm_expr.specs.Longest.{expr_at}
use Rattle.fm_stmt_parts.specs.declared.mark.Mark.{Mark}
use Rattle.fm_stmt_parts.specs.declared.mark.Mark.TheVariants as mark
use Rattle.fm_stmt_parts.specs.declared.mark.Word.{Word}
use Rattle.fm_stmt_parts.specs.declared.mark.Word.TheVariants as word

-- a value and the tokens behind it
abbrev pub Read : Type 0 → Type 0
Read X = Option (X × List Token)

infixl 10 ◌>>=◌
abbrev pub ◌>>=◌ : {A B : Type 0} → Option A → (A → Option B) → Option B
(Some x) >>= f = f x
None >>= f = None

-- a form, how its value is read from the front of a list, and which tokens may stand behind it
pub record Part (X : Type 0) : Type 1 where
  pub form : Form X
  pub read : List Token → Read X
  pub stop : Token → Bool

abbrev pub Ends : (Token → Bool) → List Token → Type 0
Ends stop [] = Unit {0}
Ends stop (t ∷ ts) = stop t ≡ true

-- whether there is a first token, and it is one of these
abbrev pub starts : (Token → Bool) → List Token → Bool
starts test [] = false
starts test (t ∷ ts) = test t

-- fixed tokens

abbrev pub word_text : Word → List ℕ
word_text word.Then = codes "THEN"
word_text word.In = codes "IN"
word_text word.Out = codes "OUT"
word_text word.InOut = codes "INOUT"
word_text word.Port = codes "PORT"
word_text word.From = codes "FROM"
word_text word.To = codes "TO"
word_text word.Empty = codes "EMPTY"
word_text word.End = codes "END"
word_text word.Iostat = codes "IOSTAT"
word_text word.Location = codes "LOCATION"
word_text word.Submachine = codes "SUBMACHINE"
word_text word.Inport = codes "INPORT"
word_text word.Outport = codes "OUTPORT"
word_text word.Integer = codes "INTEGER"
word_text word.Logical = codes "LOGICAL"

abbrev pub token_of : Mark → Token
token_of mark.Open = token.Open
token_of mark.Close = token.Close
token_of mark.Comma = token.Comma
token_of mark.Equals = token.Equals
token_of mark.Colon = token.Colon
token_of mark.Star = forms.star
token_of (mark.Word w) = token.Named (word_text w)

abbrev pub is_same_text : List ℕ → List ℕ → Bool
is_same_text a b = pointwise nat_eq a b

abbrev pub is_word_token : Word → Token → Bool
is_word_token w (token.Named n) = is_same_text n (word_text w)
is_word_token w t = false

abbrev pub is_open : Token → Bool
is_open token.Open = true
is_open t = false

abbrev pub is_close : Token → Bool
is_close token.Close = true
is_close t = false

abbrev pub is_comma : Token → Bool
is_comma token.Comma = true
is_comma t = false

abbrev pub is_equals : Token → Bool
is_equals token.Equals = true
is_equals t = false

abbrev pub is_colon : Token → Bool
is_colon token.Colon = true
is_colon t = false

abbrev pub is_star : Token → Bool
is_star (token.Sign op.Mul) = true
is_star t = false

abbrev pub is : Mark → Token → Bool
is mark.Open t = is_open t
is mark.Close t = is_close t
is mark.Comma t = is_comma t
is mark.Equals t = is_equals t
is mark.Colon t = is_colon t
is mark.Star t = is_star t
is (mark.Word w) t = is_word_token w t

abbrev pub mark_at : Mark → List Token → Option (List Token)
mark_at m [] = None
mark_at m (t ∷ ts) = if is m t then Some ts else None

-- single parts

abbrev pub any_token : Token → Bool
any_token t = true

abbrev pub no_token : Token → Bool
no_token t = false

abbrev pub name_at : List Token → Read (List ℕ)
name_at [] = None
name_at (token.Named n ∷ ts) = Some (n, ts)
name_at (t ∷ ts) = None

abbrev pub name : Part (List ℕ)
name = record { form = forms.name; read = name_at; stop = any_token }

-- a label is from 1 to 99999
abbrev pub number_label : ℤ → List Token → Read Label
number_label (pos n) ts = if nat_le 1 n && nat_le n 99999 then Some (record { 0 = n }, ts) else None
number_label z ts = None

abbrev pub label_at : List Token → Read Label
label_at [] = None
label_at (token.Number z ∷ ts) = number_label z ts
label_at (t ∷ ts) = None

abbrev pub label : Part Label
label = record { form = forms.label; read = label_at; stop = any_token }

abbrev pub constant_at : List Token → Read (List ℕ)
constant_at [] = None
constant_at (token.Constant bytes ∷ ts) = Some (bytes, ts)
constant_at (t ∷ ts) = None

abbrev pub constant : Part (List ℕ)
constant = record { form = forms.constant; read = constant_at; stop = any_token }

abbrev pub expr_read : List Token → Read Tree
expr_read ts = expr_at ts >>= λ p. Some (p.0, drop p.1 ts)

-- behind these no expression goes on
abbrev pub stops_expr : Token → Bool
stops_expr token.Close = true
stops_expr token.Comma = true
stops_expr token.Equals = true
stops_expr token.Colon = true
stops_expr t = false

abbrev pub expr : Part Tree
expr = record { form = forms.expr; read = expr_read; stop = stops_expr }

-- ways of joining

abbrev pub behind_read : {X : Type 0} → Mark → (List Token → Read X) → List Token → Read X
behind_read m g ts = mark_at m ts >>= g

abbrev pub behind : {X : Type 0} → Mark → Part X → Part X
behind m g = record { form = forms.behind (token_of m) g.form; read = behind_read m g.read; stop = g.stop }

abbrev pub before_read : {X : Type 0} → (List Token → Read X) → Mark → List Token → Read X
before_read g m ts = g ts >>= λ a. mark_at m a.1 >>= λ rest. Some (a.0, rest)

abbrev pub before : {X : Type 0} → Part X → Mark → Part X
before g m = record { form = forms.before g.form (token_of m); read = before_read g.read m; stop = any_token }

abbrev pub parens_read : {X : Type 0} → (List Token → Read X) → List Token → Read X
parens_read g = behind_read mark.Open (before_read g mark.Close)

abbrev pub parens : {X : Type 0} → Part X → Part X
parens g = behind mark.Open (before g mark.Close)

abbrev pub assigned : {X : Type 0} → Word → Part X → Part X
assigned w g = behind (mark.Word w) (behind mark.Equals g)

abbrev pub pair_read : {X Y : Type 0} → (List Token → Read X) → (List Token → Read Y) → List Token → Read (X × Y)
pair_read g h ts = g ts >>= λ a. h a.1 >>= λ b. Some ((a.0, b.0), b.1)

abbrev pub pair : {X Y : Type 0} → Part X → Part Y → Part (X × Y)
pair g h = record { form = forms.pair g.form h.form; read = pair_read g.read h.read; stop = h.stop }

-- the same part for a value of another type: its parts, and how it is made of them
abbrev pub over_read : {X Y : Type 0} → (X → Y) → (List Token → Read X) → List Token → Read Y
over_read make g ts = g ts >>= λ a. Some (make a.0, a.1)

abbrev pub over : {X Y : Type 0} → (Y → X) → (X → Y) → Part X → Part Y
over parts make g = record { form = forms.over parts g.form; read = over_read make g.read; stop = g.stop }

-- one part, where the first token is one of these, or else the other
abbrev pub either_read : {X Y : Type 0} → (Token → Bool) → (List Token → Read X) → (List Token → Read Y) → List Token → Read (X ⊎ Y)
either_read test g h ts = if starts test ts then over_read inl g ts else over_read inr h ts

abbrev pub either : {X Y : Type 0} → (Token → Bool) → Part X → Part Y → Part (X ⊎ Y)
either test g h = record { form = forms.either g.form h.form; read = either_read test g.read h.read; stop = λ t. g.stop t && h.stop t }

-- a part, where the first token is one of these
abbrev pub optional_read : {X : Type 0} → (Token → Bool) → (List Token → Read X) → List Token → Read (Option X)
optional_read test g ts = if starts test ts then over_read Some g ts else Some (None, ts)

abbrev pub optional : {X : Type 0} → (Token → Bool) → Part X → Part (Option X)
optional test g = record { form = forms.optional g.form; read = optional_read test g.read; stop = λ t. not (test t) && g.stop t }

-- a fixed token and a part, or nothing
abbrev pub optional_behind_read : {X : Type 0} → Mark → (List Token → Read X) → List Token → Read (Option X)
optional_behind_read m g = optional_read (is m) (behind_read m g)

abbrev pub optional_behind : {X : Type 0} → Mark → Part X → Part (Option X)
optional_behind m g = record { form = forms.optional_behind (token_of m) g.form; read = optional_behind_read m g.read; stop = λ t. not (is m t) && g.stop t }

-- whether a fixed token comes
abbrev pub optional_token_read : Mark → List Token → Read Bool
optional_token_read m [] = Some (false, [])
optional_token_read m (t ∷ ts) = if is m t then Some (true, ts) else Some (false, t ∷ ts)

abbrev pub optional_token : Mark → Part Bool
optional_token m = record { form = forms.optional_token (token_of m); read = optional_token_read m; stop = λ t. not (is m t) }

-- what stands behind the word and an equals sign
abbrev pub assigned_at : Word → List Token → Option (List Token)
assigned_at w ts = mark_at (mark.Word w) ts >>= mark_at mark.Equals

abbrev pub optional_keyword_from : {X : Type 0} → Option (List Token) → (List Token → Read X) → List Token → Read (Bool × X)
optional_keyword_from None g ts = over_read (λ x. (false, x)) g ts
optional_keyword_from (Some rest) g ts = over_read (λ x. (true, x)) g rest

abbrev pub optional_keyword_read : {X : Type 0} → Word → (List Token → Read X) → List Token → Read (Bool × X)
optional_keyword_read w g ts = optional_keyword_from (assigned_at w ts) g ts

abbrev pub optional_keyword : {X : Type 0} → Word → Part X → Part (Bool × X)
optional_keyword w g = record { form = forms.optional_keyword (word_text w) g.form; read = optional_keyword_read w g.read; stop = λ t. not (is_equals t) && g.stop t }

-- two parts with a comma between, the first one first where the first token is one of these
abbrev pub two_read : {X Y : Type 0} → (List Token → Read X) → (List Token → Read Y) → List Token → Read (X × Y)
two_read g h = pair_read g (behind_read mark.Comma h)

abbrev pub swapped_read : {X Y : Type 0} → (Token → Bool) → (List Token → Read X) → (List Token → Read Y) → List Token → Read (Bool × (X × Y))
swapped_read test g h ts =
    if starts test ts then over_read (λ p. (true, p)) (two_read g h) ts
    else over_read (λ p. (false, (p.1, p.0))) (two_read h g) ts

abbrev pub swapped : {X Y : Type 0} → (Token → Bool) → Part X → Part Y → Part (Bool × (X × Y))
swapped test g h = record { form = forms.swapped g.form h.form; read = swapped_read test g.read h.read; stop = λ t. g.stop t && h.stop t }

-- at most n more, each behind a comma
abbrev pub items_read : {X : Type 0} → (List Token → Read X) → ℕ → List Token → Read (List X)
items_read f zero ts = Some ([], ts)
items_read f (suc n) [] = Some ([], [])
items_read f (suc n) (t ∷ ts) =
    if is_comma t then (f ts >>= λ a. items_read f n a.1 >>= λ b. Some (a.0 ∷ b.0, b.1)) else Some ([], t ∷ ts)

abbrev pub more_read : {X : Type 0} → (List Token → Read X) → List Token → Read (List X)
more_read g ts = items_read g (length ts) ts

-- with other items before it
abbrev pub after_items : {X : Type 0} → List X → Read (List X) → Read (List X)
after_items xs None = None
after_items xs (Some b) = Some (xs ++ b.0, b.1)

abbrev pub more : {X : Type 0} → Part X → Part (List X)
more g = record { form = forms.more g.form; read = more_read g.read; stop = λ t. not (is_comma t) && g.stop t }

abbrev pub items_of : {X : Type 0} → X × List X → List X
items_of p = p.0 ∷ p.1

abbrev pub some_read : {X : Type 0} → (List Token → Read X) → List Token → Read (List X)
some_read g = over_read items_of (pair_read g (more_read g))

abbrev pub some_of : {X : Type 0} → Part X → Part (List X)
some_of g = record { form = forms.some_of g.form; read = some_read g.read; stop = λ t. not (is_comma t) && g.stop t }

-- nothing where the end or a closing parenthesis comes
abbrev pub opens : Token → Bool
opens t = not (is_close t)

abbrev pub or_nothing : {X : Type 0} → (Token → Bool) → (List Token → Read (List X)) → List Token → Read (List X)
or_nothing test g ts = if starts test ts then g ts else Some ([], ts)

abbrev pub listed_read : {X : Type 0} → (List Token → Read X) → List Token → Read (List X)
listed_read g = or_nothing opens (some_read g)

abbrev pub listed : {X : Type 0} → Part X → Part (List X)
listed g = record { form = forms.listed g.form; read = listed_read g.read; stop = is_close }

abbrev pub bracketed_read : {X : Type 0} → (List Token → Read X) → List Token → Read (List X)
bracketed_read g = or_nothing is_open (parens_read (some_read g))

abbrev pub bracketed : {X : Type 0} → Part X → Part (List X)
bracketed g = record { form = forms.bracketed g.form; read = bracketed_read g.read; stop = λ t. not (is_open t) }

-- the same part, of those values alone that pass a test
abbrev pub such_that_read : {X : Type 0} → (List Token → Read X) → (X → Bool) → List Token → Read X
such_that_read g test ts = g ts >>= λ a. if test a.0 then Some a else None

abbrev pub such_that : {X : Type 0} → Part X → (X → Type 0) → (X → Bool) → Part X
such_that g Holds test = record { form = forms.such_that g.form Holds; read = such_that_read g.read test; stop = g.stop }

-- the same part, before a fixed token alone
abbrev pub until : {X : Type 0} → Mark → Part X → Part X
until m g = record { form = g.form; read = g.read; stop = is m }

-- all of the tokens

abbrev pub nothing_left : List Token → Option (Unit {0})
nothing_left [] = Some tt
nothing_left (t ∷ ts) = None

abbrev pub whole : {X : Type 0} → (List Token → Read X) → List Token → Option X
whole g ts = g ts >>= λ a. nothing_left a.1 >>= λ u. Some a.0
