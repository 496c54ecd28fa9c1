-- The lists of kinds as the code itself tells them: nothing where it begins, and behind each instruction what that leaves.
-- Source: this profile.
use Rattle.std.specs.Prelude.{◌≡◌, ℕ, zero, suc, ◌<◌, ◌&&◌, ◌==◌, cond, Bool, true, false, Option, Some, None, List, [], ◌∷◌, length, map, slice_get}
use Rattle.fm_code.specs.declared.code.Entry.{Entry}
use Rattle.fm_code.specs.declared.instr.Instr.{Instr}
use Rattle.fm_code_kinds.specs.declared.kinds.Kind.{Kind}
use Rattle.fm_code_kinds.specs.declared.sorts.Shape.{Shape}
use Rattle.fm_code_kinds.specs.declared.sorts.Shapes.{Shapes}
use Rattle.fm_code_kinds.specs.Effects.{Effect, On, Over, Ill, effect, only_results, results_in}
use Rattle.fm_code_kinds.specs.Kinded.{Coded, Lists, results}
use Rattle.fm_code_kinds.specs.Leading.{leads}
use Rattle.fm_verify_unit.specs.declared.unit.Marks.{Marks}

-- what one instruction did: it found nothing that it takes, goes on, or is over; these are the kinds behind it
abbrev pub Stepped : (to : List ℕ) → List Kind → Effect → Option Bool → Type 0
Stepped to ks e None = e ≡ Ill
Stepped to ks e (Some false) = e ≡ On ks
Stepped to ks e (Some true) = (n : ℕ) × (e ≡ Over to n) × (ks ≡ results n)

abbrev pub behind : Effect → List Kind
behind (On ks) = ks
behind (Over to n) = results n
behind Ill = []

abbrev pub behind_at : Shapes → Shape → (loops at : ℕ) → Option Instr → List Kind → List Kind
behind_at ss u loops at None ks = []
behind_at ss u loops at (Some i) ks = behind (effect ss u loops at i ks)

abbrev pub kinds_at : Shapes → Shape → (loops : ℕ) → List Instr → Lists
kinds_at ss u loops code zero = []
kinds_at ss u loops code (suc a) = behind_at ss u loops a (slice_get code a) (kinds_at ss u loops code a)

-- an instruction finds what it takes, and there is another behind it where it goes on
abbrev pub IsFound : List Instr → (at : ℕ) → Effect → Type 0
IsFound code at (On ks) = suc at < length code
IsFound code at (Over to n) = Unit {0}
IsFound code at Ill = ⊥

abbrev pub AllFound : Shapes → Shape → (loops : ℕ) → List Instr → (before : ℕ) → Type 0
AllFound ss u loops code n = (a : ℕ) (i : Instr) → a < n → slice_get code a ≡ Some i → IsFound code a (effect ss u loops a i (kinds_at ss u loops code a))

-- how many results there are, where there is nothing else
abbrev pub mark_of : List Kind → Option ℕ
mark_of ks = cond (only_results ks) (Some (results_in ks)) None

-- how many results an instruction leaves that ends its statement
abbrev pub left_of : Effect → Option ℕ
left_of (On ks) = None
left_of (Over to n) = Some n
left_of Ill = None

abbrev pub effect_at : Shapes → Shape → (loops : ℕ) → List Instr → (a : ℕ) → Instr → Effect
effect_at ss u loops code a i = effect ss u loops a i (kinds_at ss u loops code a)

-- of the first addresses, the marks of their lists, and what their instructions leave and where these go
pub record AreMarks (ss : Shapes) (u : Shape) (loops : ℕ) (code : List Instr) (marks lefts : List (Option ℕ)) (n : ℕ) : Type 0 where
  pub many : length marks ≡ n
  pub also : length lefts ≡ n
  pub mark : (a : ℕ) (m : Option ℕ) → slice_get marks a ≡ Some m → m ≡ mark_of (kinds_at ss u loops code a)
  pub left : (a : ℕ) (i : Instr) (m : Option ℕ) → slice_get code a ≡ Some i → slice_get lefts a ≡ Some m → m ≡ left_of (effect_at ss u loops code a i)
  pub goes : (a : ℕ) (i : Instr) (to : List ℕ) (k : ℕ) → a < n → slice_get code a ≡ Some i → effect_at ss u loops code a i ≡ Over to k → to ≡ leads i

-- each of these addresses has this mark
abbrev pub is_marked : (n : ℕ) → Option (Option ℕ) → Bool
is_marked n None = false
is_marked n (Some None) = false
is_marked n (Some (Some k)) = k == n

abbrev pub all_marked : List (Option ℕ) → (n : ℕ) → List ℕ → Bool
all_marked marks n [] = true
all_marked marks n (t ∷ ts) = is_marked n (slice_get marks t) && all_marked marks n ts

-- where the instruction ends its statement, each address to which it goes has the mark of what it leaves
abbrev pub lands : List (Option ℕ) → Option (Option ℕ) → Instr → Bool
lands marks None i = true
lands marks (Some None) i = true
lands marks (Some (Some n)) i = all_marked marks n (leads i)

abbrev pub all_land : List (Option ℕ) → List (Option ℕ) → List Instr → Bool
all_land marks [] is = true
all_land marks (l ∷ ls) [] = true
all_land marks (l ∷ ls) (i ∷ is) = lands marks (Some l) i && all_land marks ls is

-- nothing is on the list where the statements begin, and what each instruction leaves is wherever it goes
abbrev pub all_fit : (marks lefts : List (Option ℕ)) → (entries : List ℕ) → List Instr → Bool
all_fit marks lefts entries code = all_marked marks 0 entries && all_land marks lefts code

-- what going over the code gives: nothing where an instruction doesn't find what it takes
abbrev pub Walked : Shapes → Shape → (loops : ℕ) → List Instr → Option Marks → Type 0
Walked ss u loops code None = ¬ AllFound ss u loops code (length code)
Walked ss u loops code (Some v) = AllFound ss u loops code (length code) × AreMarks ss u loops code v.marks.items v.lefts.items (length code)

abbrev pub addresses : List Entry → List ℕ
addresses entries = map (λ (e : Entry). e.address) entries

abbrev pub coded_by : (loops : ℕ) → List Entry → List Instr → Coded
coded_by loops entries code = record { entries = addresses entries; loops = loops; code = code }
