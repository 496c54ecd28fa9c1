-- The port words of a body, and what they weigh: a number for each word, and the sum over a list. Where each such sum stays, whatever
-- the numbers are, no port word was lost and none came twice.
-- Source: this profile.
use Rattle.std.specs.Prelude.{◌≡◌, ℕ, suc, ◌+◌, ℤ, Bool, cond, List, [], ◌∷◌, ◌++◌}
use Rattle.std.specs.List.{flat_map}
use Rattle.fm_code.specs.declared.body.Body.{Body}
use Rattle.fm_code.specs.declared.body.Frame.{Frame}
use Rattle.fm_code.specs.Passing.{is_port}
use Rattle.fm_code.specs.Statements.{left_ports}

-- what words weigh together
abbrev pub weight : (ℤ → ℕ) → List ℤ → ℕ
weight g [] = 0
weight g (w ∷ ws) = g w + weight g ws

-- NULL weighs nothing
abbrev pub heavy : (ℤ → ℕ) → ℤ → ℕ
heavy g w = cond (is_port w) (g w) 0

-- what the words of a frame weigh that a test of their numbers tells, from this number on
abbrev pub masked : (ℕ → Bool) → (ℤ → ℕ) → ℕ → List ℤ → ℕ
masked mask g n [] = 0
masked mask g n (w ∷ ws) = cond (mask n) (heavy g w) 0 + masked mask g (suc n) ws

-- the port words of a frame of this body, and of its starts
abbrev pub frame_ports : Body → Frame → List ℤ
frame_ports b m = left_ports (record b { frame = m }) m.words

-- those of all frames
abbrev pub body_ports : Body → List ℤ
body_ports b = frame_ports b b.frame ++ flat_map (frame_ports b) b.below

-- the words of the first list are those of the other two, in any order
abbrev pub IsParted : List ℤ → List ℤ → List ℤ → Type 0
IsParted all these those = (g : ℤ → ℕ) → weight g all ≡ weight g these + weight g those
