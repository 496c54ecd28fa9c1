-- Which words of a frame stay, by their formals.
-- Source: this profile.
use Rattle.std.specs.Prelude.{ℕ, ◌==◌, Bool, true, not, ◌&&◌, List, [], ◌∷◌, nat_lt}
use Rattle.fm_code.specs.declared.code.Formal.{Formal}

-- whether the ports from this word on are those of this formal, and are kept
abbrev pub kept_one : Formal → ℕ → Bool
kept_one f k = f.port && not f.input && (f.span.first == k)

-- whether a formal begins before the first of these, if there is one
abbrev pub begins_before : Formal → List Formal → Bool
begins_before f [] = true
begins_before f (g ∷ gs) = nat_lt f.span.first g.span.first

-- whether each one begins before the next
abbrev pub rise : List Formal → Bool
rise [] = true
rise (f ∷ fs) = begins_before f fs && rise fs
