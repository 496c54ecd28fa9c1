-- What the reader finds is spelled so.
use Rattle.std.proofs.Common.{◌≡◌, ℕ, ◌+◌, ◌<◌, ◌≤◌, true, false, cond, Option, Some, None, List, [], ◌∷◌, ◌++◌, length, refl, sym, ◌∙◌, ap, subst, append_assoc, length-append, arith, inl, inr}
use Rattle.std.proofs.lemmas.List.{append-nil}
use Rattle.std.proofs.lemmas.Bool.{ltb-true, ltb-false, leb-true}
use Rattle.std.proofs.Math.Dec.{ltb, leb}
use Rattle.fm_base.specs.declared.token.Op.{Op}
use Rattle.fm_base.specs.declared.token.Op.TheVariants as ops
use Rattle.fm_base.specs.declared.token.Token.{Token}
use Rattle.fm_base.specs.declared.token.Token.TheVariants as tokens
use Rattle.fm_tree.specs.Tree.{Tree, Named, Signed, Not, Binary, trees_from}
use Rattle.fm_tree.specs.Spelling.{spelling, list_spelling, tail_spelling}
use Rattle.fm_tree.specs.Shape.{levels, grade, IsSignOp, IsWellShaped, AreWellShaped}
use Rattle.fm_expr.specs.declared.reader.Frame.{Frame}
use Rattle.fm_expr.specs.declared.reader.Frame.TheVariants.{Joins, Negates, Signs, Opens, Calls}
use Rattle.fm_expr.specs.Reading.{need, demand, operation, reduction, operator_step, close_step, comma_step, call_step, behind_step, operand_step, empty_call, prefix_step, step, Progress, onward, at_place, last_whole, run}
use Rattle.fm_expr.proofs.Steps.{table}

-- the tokens of what stands open
abbrev pub arguments : List Tree → List Token
arguments [] = []
arguments (t ∷ ts) = spelling t ++ tokens.Comma ∷ arguments ts

abbrev pub opening : Frame → List Token
opening (Joins left op at) = spelling left ++ tokens.Sign op ∷ []
opening Negates = tokens.Sign ops.Not ∷ []
opening (Signs op) = tokens.Sign op ∷ []
opening Opens = tokens.Open ∷ []
opening (Calls name args at) = tokens.Named name ∷ tokens.Open ∷ arguments args

abbrev pub text : List Frame → List Token
text [] = []
text (f ∷ fs) = text fs ++ opening f

abbrev pub AllShaped : List Tree → Type 0
AllShaped [] = Unit {0}
AllShaped (t ∷ ts) = IsWellShaped t × AllShaped ts

abbrev pub KeptFrame : Frame → List Frame → Type 0
KeptFrame (Joins left op at) fs = IsWellShaped left × ((levels op).left ≤ grade left) × (demand fs ≤ (levels op).own) × (at ≡ length (text fs) + length (spelling left))
KeptFrame Negates fs = demand fs ≤ 4
KeptFrame (Signs op) fs = IsSignOp op × (demand fs ≤ 6)
KeptFrame Opens fs = Unit {0}
KeptFrame (Calls name args at) fs = AllShaped args × (at ≡ length (text fs) + 1)

abbrev pub Kept : List Frame → Type 0
Kept [] = Unit {0}
Kept (f ∷ fs) = KeptFrame f fs × Kept fs

-- a tree that may stand there
abbrev pub Stands : List Frame → Tree → Type 0
Stands fs t = IsWellShaped t × (demand fs ≤ grade t)

abbrev pub StandsIf : List Frame → Option Tree → Type 0
StandsIf fs None = Unit {0}
StandsIf fs (Some t) = Stands fs t

abbrev pub seen : List Frame → Option Tree → List Token
seen fs None = text fs
seen fs (Some t) = text fs ++ spelling t

-- a well-shaped tree at the front, and where it ends
pub record IsFound (all : List Token) (p : Tree × ℕ) : Type 0 where
  pub shaped : IsWellShaped p.0
  pub more : List Token
  pub spelled : all ≡ spelling p.0 ++ more
  pub ends : p.1 ≡ length (spelling p.0)

further : (xs ys zs : List Token) (p : Tree × ℕ) → xs ++ ys ≡ zs → IsFound xs p → IsFound zs p
further xs ys zs p e f = record {
  shaped = f.shaped;
  more = f.more ++ ys;
  spelled = sym e ∙ ap (λ (s : List Token). s ++ ys) f.spelled ∙ append_assoc (spelling p.0) f.more ys;
  ends = f.ends;
}

demand_low : (fs : List Frame) → Kept fs → demand fs ≤ 9
demand_low [] k = omega arith
demand_low (Joins left op at ∷ fs) k = (table op).right_low
demand_low (Negates ∷ fs) k = omega arith
demand_low (Signs op ∷ fs) k = omega arith
demand_low (Opens ∷ fs) k = omega arith
demand_low (Calls name args at ∷ fs) k = omega arith

operation_stands : (f : Frame) (fs : List Frame) (t : Tree) → KeptFrame f fs → 0 < need f → IsWellShaped t → need f ≤ grade t → Stands fs (operation f t)
operation_stands (Joins left op at) fs t k p w h = ((k.1, k.0, h, w), k.2)
operation_stands Negates fs t k p w h = ((h, w), k)
operation_stands (Signs op) fs t k p w h = ((k.0, h, w), k.1)
operation_stands Opens fs t k p w h = absurd (omega arith)
operation_stands (Calls name args at) fs t k p w h = absurd (omega arith)

operation_seen : (f : Frame) (fs : List Frame) (t : Tree) → 0 < need f → text (f ∷ fs) ++ spelling t ≡ text fs ++ spelling (operation f t)
operation_seen (Joins left op at) fs t p = simp append_assoc
operation_seen Negates fs t p = append_assoc (text fs) _ (spelling t)
operation_seen (Signs op) fs t p = append_assoc (text fs) _ (spelling t)
operation_seen Opens fs t p = absurd (omega arith)
operation_seen (Calls name args at) fs t p = absurd (omega arith)

pub record IsReduction (m : ℕ) (all : List Token) (r : List Frame × Tree) : Type 0 where
  pub kept : Kept r.0
  pub stands : Stands r.0 r.1
  pub seen : text r.0 ++ spelling r.1 ≡ all
  pub low : demand r.0 ≤ m

reduction_keeps : (m : ℕ) (fs : List Frame) (t : Tree) (all : List Token) → Kept fs → Stands fs t → text fs ++ spelling t ≡ all → IsReduction m all (reduction m fs t)
reduction_keeps m [] t all k s e = record { kept = k; stands = s; seen = e; low = omega arith }
reduction_keeps m (f ∷ fs) t all k s e =
    (elim (ltb m (need f)) as (λ b. ltb m (need f) ≡ b → IsReduction m all (cond b (reduction m fs (operation f t)) (f ∷ fs, t))) [
      | true ↦ λ h. let p : 0 < need f = omega (arith, ltb-true m (need f) h) in
          reduction_keeps m fs (operation f t) all k.1 (operation_stands f fs t k.0 p s.0 s.1) (sym (operation_seen f fs t p) ∙ e)
      | false ↦ λ h. record { kept = k; stands = s; seen = e; low = ltb-false m (need f) h }
    ]) refl

abbrev OkAt : List Frame → Option (Tree × ℕ) → Type 0
OkAt fs None = Unit {0}
OkAt fs (Some x) = Stands fs x.0 × (x.1 ≡ length (text fs) + length (spelling x.0))

abbrev seen_at : List Frame → Option (Tree × ℕ) → List Token
seen_at fs None = text fs
seen_at fs (Some x) = text fs ++ spelling x.0

shifted : (f : Frame) (fs : List Frame) (t : Tree) (n : ℕ) → 0 < need f → n ≡ length (text (f ∷ fs)) + length (spelling t) → n ≡ length (text fs) + length (spelling (operation f t))
shifted f fs t n p e = e ∙ sym (length-append (text (f ∷ fs)) (spelling t)) ∙ ap length (operation_seen f fs t p) ∙ length-append (text fs) (spelling (operation f t))

last_found : (fs : List Frame) → Kept fs → (o : Option (Tree × ℕ)) → OkAt fs o → (p : Tree × ℕ) → last_whole fs o ≡ Some p → IsFound (seen_at fs o) p
last_found [] k None a p e = cc
last_found [] k (Some x) a p e =
    let q : x ≡ p = cc in
    subst (λ y. IsFound (spelling x.0) y) q (record { shaped = a.0.0; more = []; spelled = sym (append-nil (spelling x.0)); ends = omega arith })
last_found (Joins left op at ∷ fs) k None a p e =
    further (text fs ++ spelling left) (tokens.Sign op ∷ []) _ p (append_assoc (text fs) (spelling left) (tokens.Sign op ∷ []))
    (last_found fs k.1 (Some (left, at)) ((k.0.0, omega (arith, k.0.1, k.0.2, (table op).left)), k.0.3) p e)
last_found (Joins left op at ∷ fs) k (Some x) a p e =
    let h : 0 < need (Joins left op at) = (table op).positive in
    further (text fs ++ spelling (Binary op left x.0)) [] _ p (append-nil _ ∙ sym (operation_seen (Joins left op at) fs x.0 h))
    (last_found fs k.1 (Some (Binary op left x.0, x.1)) (operation_stands (Joins left op at) fs x.0 k.0 h a.0.0 a.0.1, shifted (Joins left op at) fs x.0 x.1 h a.1) p e)
last_found (Negates ∷ fs) k None a p e = further (text fs) (tokens.Sign ops.Not ∷ []) _ p refl (last_found fs k.1 None tt p e)
last_found (Negates ∷ fs) k (Some x) a p e =
    let h : 0 < need Negates = omega arith in
    further (text fs ++ spelling (Not x.0)) [] _ p (append-nil _ ∙ sym (operation_seen Negates fs x.0 h))
    (last_found fs k.1 (Some (Not x.0, x.1)) (operation_stands Negates fs x.0 k.0 h a.0.0 a.0.1, shifted Negates fs x.0 x.1 h a.1) p e)
last_found (Signs op ∷ fs) k None a p e = further (text fs) (tokens.Sign op ∷ []) _ p refl (last_found fs k.1 None tt p e)
last_found (Signs op ∷ fs) k (Some x) a p e =
    let h : 0 < need (Signs op) = omega arith in
    further (text fs ++ spelling (Signed op x.0)) [] _ p (append-nil _ ∙ sym (operation_seen (Signs op) fs x.0 h))
    (last_found fs k.1 (Some (Signed op x.0, x.1)) (operation_stands (Signs op) fs x.0 k.0 h a.0.0 a.0.1, shifted (Signs op) fs x.0 x.1 h a.1) p e)
last_found (Opens ∷ fs) k None a p e = further (text fs) (tokens.Open ∷ []) _ p refl (last_found fs k.1 None tt p e)
last_found (Opens ∷ fs) k (Some x) a p e =
    further (text fs) (tokens.Open ∷ spelling x.0) _ p (sym (append_assoc (text fs) (tokens.Open ∷ []) (spelling x.0))) (last_found fs k.1 None tt p e)
last_found (Calls name args at ∷ fs) k None a p e =
    further (text fs ++ tokens.Named name ∷ []) (tokens.Open ∷ arguments args) _ p (append_assoc (text fs) (tokens.Named name ∷ []) (tokens.Open ∷ arguments args))
    (last_found fs k.1 (Some (Named name, at)) ((tt, demand_low fs k.1), k.0.1) p e)
last_found (Calls name args at ∷ fs) k (Some x) a p e =
    further (text fs ++ tokens.Named name ∷ []) (tokens.Open ∷ (arguments args ++ spelling x.0)) _ p
    (append_assoc (text fs) (tokens.Named name ∷ []) _ ∙ sym (append_assoc (text fs) (opening (Calls name args at)) (spelling x.0)))
    (last_found fs k.1 (Some (Named name, at)) ((tt, demand_low fs k.1), k.0.1) p e)

-- what one token does
abbrev Moves : Token → List Token → Progress → Type 0
Moves token all (true, fs, o) = Kept fs × StandsIf fs o × (seen fs o ≡ all ++ token ∷ [])
Moves token all (false, fs, o) = Kept fs × StandsIf fs o × (seen fs o ≡ all)

arguments-more : (ts : List Tree) (t : Tree) → arguments (ts ++ t ∷ []) ≡ (arguments ts ++ spelling t) ++ tokens.Comma ∷ []
arguments-more [] t = refl
arguments-more (u ∷ ts) t = rw (arguments-more ts t) (simp append_assoc)

tail-last : (ts : List Tree) (t : Tree) → tail_spelling (trees_from (ts ++ t ∷ [])) ≡ tokens.Comma ∷ (arguments ts ++ spelling t)
tail-last [] t = ap (λ (s : List Token). tokens.Comma ∷ s) (append-nil (spelling t))
tail-last (u ∷ ts) t = ap (λ (s : List Token). tokens.Comma ∷ (spelling u ++ s)) (tail-last ts t) ∙ simp append_assoc

arguments-last : (ts : List Tree) (t : Tree) → list_spelling (trees_from (ts ++ t ∷ [])) ≡ arguments ts ++ spelling t
arguments-last [] t = append-nil (spelling t)
arguments-last (u ∷ ts) t = ap (λ (s : List Token). spelling u ++ s) (tail-last ts t) ∙ sym (append_assoc (spelling u) (tokens.Comma ∷ arguments ts) (spelling t))

shaped_more : (ts : List Tree) (t : Tree) → AllShaped ts → IsWellShaped t → AllShaped (ts ++ t ∷ [])
shaped_more [] t a w = (w, tt)
shaped_more (u ∷ ts) t a w = (a.0, shaped_more ts t a.1 w)

shaped_from : (ts : List Tree) → AllShaped ts → AreWellShaped (trees_from ts)
shaped_from [] a = tt
shaped_from (u ∷ ts) a = (a.0, shaped_from ts a.1)

none_keeps : (fs : List Frame) → Kept fs → Moves tokens.Close (text fs) (empty_call fs)
none_keeps (Calls name [] at ∷ fs) k = (k.1, (tt, demand_low fs k.1), sym (append_assoc (text fs) (tokens.Named name ∷ tokens.Open ∷ []) (tokens.Close ∷ [])))
none_keeps fs k = (k, tt, refl)

prefix_keeps : (op : Op) (fs : List Frame) → Kept fs → Moves (tokens.Sign op) (text fs) (prefix_step op fs)
prefix_keeps ops.Not fs k =
    (elim (leb (demand fs) 4) as (λ b. leb (demand fs) 4 ≡ b → Moves (tokens.Sign ops.Not) (text fs) (cond b (true, Negates ∷ fs, None) (false, fs, None))) [
      | true ↦ λ h. ((leb-true (demand fs) 4 h, k), tt, refl)
      | false ↦ λ h. (k, tt, refl)
    ]) refl
prefix_keeps ops.Add fs k =
    (elim (leb (demand fs) 6) as (λ b. leb (demand fs) 6 ≡ b → Moves (tokens.Sign ops.Add) (text fs) (cond b (true, Signs ops.Add ∷ fs, None) (false, fs, None))) [
      | true ↦ λ h. (((inl refl, leb-true (demand fs) 6 h), k), tt, refl)
      | false ↦ λ h. (k, tt, refl)
    ]) refl
prefix_keeps ops.Sub fs k =
    (elim (leb (demand fs) 6) as (λ b. leb (demand fs) 6 ≡ b → Moves (tokens.Sign ops.Sub) (text fs) (cond b (true, Signs ops.Sub ∷ fs, None) (false, fs, None))) [
      | true ↦ λ h. (((inr refl, leb-true (demand fs) 6 h), k), tt, refl)
      | false ↦ λ h. (k, tt, refl)
    ]) refl
prefix_keeps op fs k = (k, tt, refl)

operand_keeps : (token : Token) (fs : List Frame) → Kept fs → Moves token (text fs) (operand_step token fs)
operand_keeps (tokens.Named name) fs k = (k, (tt, demand_low fs k), refl)
operand_keeps (tokens.Number n) fs k = (k, (tt, demand_low fs k), refl)
operand_keeps tokens.True fs k = (k, (tt, demand_low fs k), refl)
operand_keeps tokens.False fs k = (k, (tt, demand_low fs k), refl)
operand_keeps tokens.Open fs k = ((tt, k), tt, refl)
operand_keeps tokens.Close fs k = none_keeps fs k
operand_keeps (tokens.Sign op) fs k = prefix_keeps op fs k
operand_keeps token fs k = (k, tt, refl)

call_keeps : (t : Tree) (fs : List Frame) (n : ℕ) → Kept fs → Stands fs t → n ≡ length (text fs ++ spelling t) → Moves tokens.Open (text fs ++ spelling t) (call_step t fs n)
call_keeps (Named name) fs n k s e =
    (((tt, omega (arith, length-append (text fs) (tokens.Named name ∷ []))), k), tt, sym (append_assoc (text fs) (tokens.Named name ∷ []) (tokens.Open ∷ [])))
call_keeps t fs n k s e = (k, s, refl)

close_keeps : (fs : List Frame) (t : Tree) (all : List Token) → IsReduction 0 all (fs, t) → Moves tokens.Close all (close_step fs t)
close_keeps (Opens ∷ fs) t all r =
    let e : text fs ++ tokens.Open ∷ (spelling t ++ tokens.Close ∷ []) ≡ ((text fs ++ tokens.Open ∷ []) ++ spelling t) ++ tokens.Close ∷ [] = simp append_assoc in
    (r.kept.1, (r.stands.0, demand_low fs r.kept.1), e ∙ ap (λ (s : List Token). s ++ tokens.Close ∷ []) r.seen)
close_keeps (Calls name args at ∷ fs) t all r =
    let e : text fs ++ tokens.Named name ∷ tokens.Open ∷ ((arguments args ++ spelling t) ++ tokens.Close ∷ []) ≡ ((text fs ++ tokens.Named name ∷ tokens.Open ∷ arguments args) ++ spelling t) ++ tokens.Close ∷ [] = simp append_assoc in (
      r.kept.1,
      (shaped_from (args ++ t ∷ []) (shaped_more args t r.kept.0.0 r.stands.0), demand_low fs r.kept.1),
      ap (λ (s : List Token). text fs ++ tokens.Named name ∷ tokens.Open ∷ (s ++ tokens.Close ∷ [])) (arguments-last args t) ∙ e ∙ ap (λ (s : List Token). s ++ tokens.Close ∷ []) r.seen,
    )
close_keeps fs t all r = (r.kept, r.stands, r.seen)

comma_keeps : (fs : List Frame) (t : Tree) (all : List Token) → IsReduction 0 all (fs, t) → Moves tokens.Comma all (comma_step fs t)
comma_keeps (Calls name args at ∷ fs) t all r =
    let e : text fs ++ tokens.Named name ∷ tokens.Open ∷ ((arguments args ++ spelling t) ++ tokens.Comma ∷ []) ≡ ((text fs ++ tokens.Named name ∷ tokens.Open ∷ arguments args) ++ spelling t) ++ tokens.Comma ∷ [] = simp append_assoc in (
      ((shaped_more args t r.kept.0.0 r.stands.0, r.kept.0.1), r.kept.1),
      tt,
      ap (λ (s : List Token). text fs ++ tokens.Named name ∷ tokens.Open ∷ s) (arguments-more args t) ∙ e ∙ ap (λ (s : List Token). s ++ tokens.Comma ∷ []) r.seen,
    )
comma_keeps fs t all r = (r.kept, r.stands, r.seen)

operator_keeps : (op : Op) (fs : List Frame) (t : Tree) (all : List Token) (n : ℕ) → IsReduction (levels op).own all (fs, t) → n ≡ length all → Moves (tokens.Sign op) all (operator_step op (fs, t) n)
operator_keeps op fs t all n r e =
    (elim (leb (levels op).left (grade t)) as (λ b. leb (levels op).left (grade t) ≡ b → Moves (tokens.Sign op) all (cond b (true, Joins t op n ∷ fs, None) (false, fs, Some t))) [
      | true ↦ λ h. (
        ((r.stands.0, leb-true (levels op).left (grade t) h, r.low, omega (arith, ap length r.seen, length-append (text fs) (spelling t))), r.kept),
        tt,
        sym (append_assoc (text fs) (spelling t) (tokens.Sign op ∷ [])) ∙ ap (λ (s : List Token). s ++ tokens.Sign op ∷ []) r.seen,
      )
      | false ↦ λ h. (r.kept, r.stands, r.seen)
    ]) refl

behind_keeps : (token : Token) (fs : List Frame) (t : Tree) (n : ℕ) → Kept fs → Stands fs t → n ≡ length (text fs ++ spelling t) → Moves token (text fs ++ spelling t) (behind_step token fs t n)
behind_keeps tokens.Open fs t n k s e = call_keeps t fs n k s e
behind_keeps tokens.Close fs t n k s e = close_keeps (reduction 0 fs t).0 (reduction 0 fs t).1 _ (reduction_keeps 0 fs t _ k s refl)
behind_keeps tokens.Comma fs t n k s e = comma_keeps (reduction 0 fs t).0 (reduction 0 fs t).1 _ (reduction_keeps 0 fs t _ k s refl)
behind_keeps (tokens.Sign op) fs t n k s e =
    operator_keeps op (reduction (levels op).own fs t).0 (reduction (levels op).own fs t).1 _ n (reduction_keeps (levels op).own fs t _ k s refl) e
behind_keeps token fs t n k s e = (k, s, refl)

step_keeps : (token : Token) (fs : List Frame) (o : Option Tree) (n : ℕ) → Kept fs → StandsIf fs o → n ≡ length (seen fs o) → Moves token (seen fs o) (step token fs o n)
step_keeps token fs None n k s e = operand_keeps token fs k
step_keeps token fs (Some t) n k s e = behind_keeps token fs t n k s e

ends_found : (fs : List Frame) (o : Option Tree) (n : ℕ) → Kept fs → StandsIf fs o → n ≡ length (seen fs o) → (p : Tree × ℕ) → last_whole fs (at_place o n) ≡ Some p → IsFound (seen fs o) p
ends_found fs None n k s e p q = last_found fs k None tt p q
ends_found fs (Some t) n k s e p q = last_found fs k (Some (t, n)) (s, e ∙ length-append (text fs) (spelling t)) p q

pub run_found : (ts : List Token) (fs : List Frame) (o : Option Tree) (n : ℕ) → Kept fs → StandsIf fs o → n ≡ length (seen fs o) → (p : Tree × ℕ) → run ts fs o n ≡ Some p → IsFound (seen fs o ++ ts) p
run_found [] fs o n k s e p q = further (seen fs o) [] _ p refl (ends_found fs o n k s e p q)
run_found (token ∷ ts) fs o n k s e p q =
    go (step token fs o n) (step_keeps token fs o n k s e) (λ gs u l m f. run_found ts gs u (n + 1) l m f p) q
  where
    go : (r : Progress) → Moves token (seen fs o) r
        → ((gs : List Frame) (u : Option Tree) → Kept gs → StandsIf gs u → n + 1 ≡ length (seen gs u) → run ts gs u (n + 1) ≡ Some p → IsFound (seen gs u ++ ts) p)
        → onward r (λ gs u. run ts gs u (n + 1)) n ≡ Some p → IsFound (seen fs o ++ token ∷ ts) p
    go (true, gs, u) m on q =
        further (seen gs u ++ ts) [] _ p (append-nil _ ∙ ap (λ (x : List Token). x ++ ts) m.2 ∙ append_assoc (seen fs o) (token ∷ []) ts)
        (on gs u m.0 m.1 (omega (arith, ap length m.2, length-append (seen fs o) (token ∷ []))) q)
    go (false, gs, u) m on q =
        further (seen gs u) (token ∷ ts) _ p (ap (λ (x : List Token). x ++ token ∷ ts) m.2)
        (ends_found gs u n m.0 m.1 (e ∙ ap length (sym m.2)) p q)
