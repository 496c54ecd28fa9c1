-- The machine of this crate's reader, which goes over the tokens once and keeps what stands open on a stack. It is
-- private: what it finds is said in Longest.
-- Source: the usual reader of expressions with a stack (operator precedence), for the operators of ANSI X3.9-1978, section 6.
use Rattle.std.specs.Prelude.{ℕ, ◌+◌, Bool, true, false, Option, Some, None, List, [], ◌∷◌, ◌++◌, reverse, nat_lt, nat_le, if◌then◌else◌}
use Rattle.fm_base.specs.declared.token.Op.{Op}
use Rattle.fm_base.specs.declared.token.Op.TheVariants as ops
use Rattle.fm_base.specs.declared.token.Token.{Token}
use Rattle.fm_base.specs.declared.token.Token.TheVariants as tokens
use Rattle.fm_tree.specs.Tree.{Tree, Number, Truth, Named, Ref, Paren, Signed, Not, Binary, NoTrees, trees_from}
use Rattle.fm_tree.specs.Shape.{levels, grade}
use Rattle.fm_expr.specs.declared.reader.Frame.{Frame}
use Rattle.fm_expr.specs.declared.reader.Frame.TheVariants.{Joins, Negates, Signs, Opens, Calls}

-- the last first
abbrev pub stack_of : List Frame → List Frame
stack_of fs = reverse fs

-- the least level of what comes next
abbrev pub need : Frame → ℕ
need (Joins left op at) = (levels op).right
need Negates = 5
need (Signs op) = 7
need Opens = 0
need (Calls name args at) = 0

abbrev pub demand : List Frame → ℕ
demand [] = 0
demand (f ∷ fs) = need f

-- an operator with its last operand
abbrev pub operation : Frame → Tree → Tree
operation (Joins left op at) t = Binary op left t
operation Negates t = Not t
operation (Signs op) t = Signed op t
operation Opens t = t
operation (Calls name args at) t = t

-- closes each operator whose operand ends before an operator of this level
abbrev pub reduction : ℕ → List Frame → Tree → List Frame × Tree
reduction m [] t = ([], t)
reduction m (f ∷ fs) t = if nat_lt m (need f) then reduction m fs (operation f t) else (f ∷ fs, t)

-- whether it goes on, what stands open, and the operand that has just ended, if one has
abbrev pub Progress : Type 0
Progress = Bool × List Frame × Option Tree

abbrev pub halt : List Frame → Option Tree → Progress
halt fs t = (false, fs, t)

abbrev pub empty_call : List Frame → Progress
empty_call (Calls name [] at ∷ fs) = (true, fs, Some (Ref name NoTrees))
empty_call fs = halt fs None

abbrev pub prefix_step : Op → List Frame → Progress
prefix_step ops.Not fs = if nat_le (demand fs) 4 then (true, Negates ∷ fs, None) else halt fs None
prefix_step ops.Add fs = if nat_le (demand fs) 6 then (true, Signs ops.Add ∷ fs, None) else halt fs None
prefix_step ops.Sub fs = if nat_le (demand fs) 6 then (true, Signs ops.Sub ∷ fs, None) else halt fs None
prefix_step op fs = halt fs None

-- a token where an operand begins
abbrev pub operand_step : Token → List Frame → Progress
operand_step (tokens.Named name) fs = (true, fs, Some (Named name))
operand_step (tokens.Number n) fs = (true, fs, Some (Number n))
operand_step tokens.True fs = (true, fs, Some (Truth true))
operand_step tokens.False fs = (true, fs, Some (Truth false))
operand_step tokens.Open fs = (true, Opens ∷ fs, None)
operand_step tokens.Close fs = empty_call fs
operand_step (tokens.Sign op) fs = prefix_step op fs
operand_step token fs = halt fs None

abbrev pub call_step : Tree → List Frame → ℕ → Progress
call_step (Named name) fs at = (true, Calls name [] at ∷ fs, None)
call_step t fs at = halt fs (Some t)

abbrev pub operator_step : Op → List Frame × Tree → ℕ → Progress
operator_step op r at = if nat_le (levels op).left (grade r.1) then (true, Joins r.1 op at ∷ r.0, None) else halt r.0 (Some r.1)

abbrev pub close_step : List Frame → Tree → Progress
close_step (Opens ∷ fs) t = (true, fs, Some (Paren t))
close_step (Calls name args at ∷ fs) t = (true, fs, Some (Ref name (trees_from (args ++ t ∷ []))))
close_step fs t = halt fs (Some t)

abbrev pub comma_step : List Frame → Tree → Progress
comma_step (Calls name args at ∷ fs) t = (true, Calls name (args ++ t ∷ []) at ∷ fs, None)
comma_step fs t = halt fs (Some t)

-- a token where an operand has just ended
abbrev pub behind_step : Token → List Frame → Tree → ℕ → Progress
behind_step tokens.Open fs t at = call_step t fs at
behind_step tokens.Close fs t at = close_step (reduction 0 fs t).0 (reduction 0 fs t).1
behind_step tokens.Comma fs t at = comma_step (reduction 0 fs t).0 (reduction 0 fs t).1
behind_step (tokens.Sign op) fs t at = operator_step op (reduction (levels op).own fs t) at
behind_step token fs t at = halt fs (Some t)

abbrev pub step : Token → List Frame → Option Tree → ℕ → Progress
step token fs None at = operand_step token fs
step token fs (Some t) at = behind_step token fs t at

abbrev pub at_place : Option Tree → ℕ → Option (Tree × ℕ)
at_place None n = None
at_place (Some t) n = Some (t, n)

-- the whole expression that ends last, and where, with what stands open round it
abbrev pub whole_around : Frame → Option (Tree × ℕ) → Option (Tree × ℕ)
whole_around Opens found = None
whole_around (Calls name args at) found = Some (Named name, at)
whole_around (Joins left op at) None = Some (left, at)
whole_around f None = None
whole_around f (Some x) = Some (operation f x.0, x.1)

abbrev pub last_whole : List Frame → Option (Tree × ℕ) → Option (Tree × ℕ)
last_whole [] found = found
last_whole (f ∷ fs) found = last_whole fs (whole_around f found)

abbrev pub onward : Progress → (List Frame → Option Tree → Option (Tree × ℕ)) → ℕ → Option (Tree × ℕ)
onward (true, fs, t) on n = on fs t
onward (false, fs, t) on n = last_whole fs (at_place t n)

-- what is found from here on, and where it ends
abbrev pub run : List Token → List Frame → Option Tree → ℕ → Option (Tree × ℕ)
run [] fs t n = last_whole fs (at_place t n)
run (token ∷ more) fs t n = onward (step token fs t n) (λ gs u. run more gs u (n + 1)) n
