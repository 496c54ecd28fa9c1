-- Where the form of a text breaks a rule.
-- Source: ANSI X3.9-1978, sections 3.1 (characters), 3.2.3 and 3.3 (continuation lines, at most 19),
-- 3.4 (labels) and 4.8.1 (constants); the rules' names and lines are this profile's.
use Rattle.std.specs.Prelude.{◌≡◌, ℕ, ◌+◌, not, ◌||◌, Bool, Option, List, [], ◌∷◌, ◌++◌, take, nat_lt, nat_le, Contains}
use Rattle.std.specs.List.{list_any, list_all, flat_map}
use Rattle.fm_base.specs.declared.rule.Refusal.{Refusal}
use Rattle.fm_base.specs.declared.rule.Rule.TheVariants.{E01, E02, E03, E04, E05}
use Rattle.fm_base.specs.Positions.{is_inside}
use Rattle.fm_base.specs.Verdict.{place, when, IsVerdict, IsOfPhase}
use Rattle.fm_cards.specs.Lines.{Row, is_blank}
use Rattle.fm_cards.specs.Cards.{Group, Parts, parts_of, text_of, is_bad_field}

-- outside 32 to 126
abbrev pub is_bad_character : ℕ → Bool
is_bad_character b = nat_lt b 32 || nat_lt 126 b

-- an initial line: a bad character, and a bad label field
abbrev pub in_initial : Row → List Refusal
in_initial row =
    when (list_any is_bad_character row.columns) (place row.line E01)
    ++ when (is_bad_field (take 5 row.columns)) (place row.line E02)

-- a continuation line with so many others before it in its statement: a bad character, columns 1 to 5
-- not blank, and nineteen or more before it
abbrev pub in_continuation : ℕ → Row → List Refusal
in_continuation before row =
    when (list_any is_bad_character row.columns) (place row.line E01)
    ++ when (not (list_all is_blank (take 5 row.columns))) (place row.line E03)
    ++ when (nat_le 19 before) (place row.line E04)

abbrev pub in_continuations : ℕ → List Row → List Refusal
in_continuations before [] = []
in_continuations before (row ∷ more) = in_continuation before row ++ in_continuations (before + 1) more

-- a statement: its lines, and at the first one a constant that is open at the end of the text
abbrev pub in_group : Group → List Refusal
in_group group =
    in_initial group.first ++ in_continuations 0 group.more
    ++ when (is_inside (text_of group)) (place group.first.line E05)

-- a continuation line with no initial line before it: a bad character, and its place itself
abbrev pub in_front : Row → List Refusal
in_front row = when (list_any is_bad_character row.columns) (place row.line E01) ++ place row.line E03 ∷ []

abbrev pub in_parts : Parts → List Refusal
in_parts parts = flat_map in_front parts.front ++ flat_map in_group parts.groups

-- each rule that is broken, with its line
abbrev pub places_of : List ℕ → List Refusal
places_of source = in_parts (parts_of source)

abbrev pub IsBroken : List ℕ → Refusal → Type 0
IsBroken source = Contains (places_of source)

-- the form of a text breaks rules of phase 0 alone
abbrev pub AllOfPhaseZero : Type 0
AllOfPhaseZero = (source : List ℕ) → IsOfPhase 0 (IsBroken source)

-- two verdicts on a text are one
abbrev pub OneVerdict : Type 0
OneVerdict = (source : List ℕ) (a b : Option Refusal) → IsVerdict (IsBroken source) a → IsVerdict (IsBroken source) b → a ≡ b
