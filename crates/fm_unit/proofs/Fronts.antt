-- The parts of a unit, statement by statement.
use Rattle.std.proofs.Common.{◌≡◌, ℕ, ◌<◌, Bool, true, false, List, [], ◌∷◌, ◌++◌, length, take, drop, get_or, refl, sym, ap, ◌∙◌, append_assoc, arith}
use Rattle.std.specs.Prelude.{if◌then◌else◌, ◌||◌, ◌==◌}
use Rattle.std.proofs.lemmas.Bool.Decides.{nat_tests}
use Rattle.fm_tree.specs.declared.program_unit.Entry.{Entry}
use Rattle.fm_tree.specs.declared.program_unit.Placed.{Placed}
use Rattle.fm_tree.specs.declared.statement.Stmt.{Stmt}
use Rattle.fm_tree.specs.Structure.{form_of, is_executable}
use Rattle.fm_tree.specs.Units.{before_body}
use Rattle.fm_unit.specs.Entries.{assembled}
use Rattle.fm_unit.specs.Pieces.{before_left, body_in, body_left, pieces_in, pieces_of}

-- the first of what stands before a body, and the others
pub assembled_more : (front : List Placed) (heading : Placed) (specs : List Placed) (body : List Entry) → 0 < length front → heading ≡ get_or front 0 heading → specs ≡ take 0 front ++ drop 1 front
    → record { heading = heading; specs = specs; body = body } ∷ [] ≡ assembled front body
assembled_more [] heading specs body l h r = absurd (omega arith)
assembled_more (p ∷ ps) heading specs body l h r =
    ap (λ (x : Placed). assembled (x ∷ specs) body) h ∙ ap (λ (xs : List Placed). assembled (p ∷ xs) body) r

-- Statements, one by one, before the body and in it.

pub before_left_nil : (b : Bool) → before_left b [] ≡ []
before_left_nil true = refl
before_left_nil false = refl

pub body_left_nil : (b : Bool) → body_left b [] ≡ []
body_left_nil true = refl
body_left_nil false = refl

pub front_more : (b x : Bool) (p : Placed) (rest front : List Placed) → is_executable (form_of p.stmt) ≡ x
    → (if (b || x) then front else front ++ p ∷ []) ++ before_left (b || x) rest ≡ front ++ before_left b (p ∷ rest)
front_more true x p rest front e = refl
front_more false true p rest front e = ap (λ (t : Bool). front ++ (if t then [] else p ∷ before_body rest)) (sym e)
front_more false false p rest front e = append_assoc front (p ∷ []) (before_body rest) ∙ ap (λ (t : Bool). front ++ (if t then [] else p ∷ before_body rest)) (sym e)

pub pieces_more : (b x : Bool) (p : Placed) (rest : List Placed) (pieces : List Stmt) → is_executable (form_of p.stmt) ≡ x
    → (if (b || x) then pieces ++ pieces_of p.stmt else pieces) ++ pieces_in (body_left (b || x) rest) ≡ pieces ++ pieces_in (body_left b (p ∷ rest))
pieces_more true x p rest pieces e = append_assoc pieces (pieces_of p.stmt) (pieces_in rest)
pieces_more false true p rest pieces e = append_assoc pieces (pieces_of p.stmt) (pieces_in rest) ∙ ap (λ (t : Bool). pieces ++ pieces_in (if t then p ∷ rest else body_in rest)) (sym e)
pieces_more false false p rest pieces e = ap (λ (t : Bool). pieces ++ pieces_in (if t then p ∷ rest else body_in rest)) (sym e)

pub some_items : (n : ℕ) → (n == 0) ≡ false → 0 < n
some_items n e = grind (arith, nat_tests, e)
