-- The operands of a statement and those on the list of kinds: one for one, in both orders; some of them cut.
use Rattle.std.proofs.Common.{◌≡◌, ℕ, zero, suc, ℤ, pos, negsuc, Bool, true, false, cond, Option, Some, None, List, [], ◌∷◌, ◌++◌, reverse, slice_get, Result, Ok, Err, refl, sym, ap, subst}
use Rattle.std.specs.Prelude.{slice_set, nat_le}
use Rattle.std.proofs.lemmas.List.{reverse-append}
use Rattle.fm_base.specs.declared.fault.Fault.{Fault}
use Rattle.fm_base.specs.declared.fault.Fault.TheVariants.{Subscript}
use Rattle.fm_code.specs.declared.ask.Operand.{Operand}
use Rattle.fm_code.specs.declared.ask.Operand.TheVariants as operand
use Rattle.fm_code.specs.declared.code.Span.{Span}
use Rattle.fm_code.specs.Acts.{cut_span, cut_value, as_operand, cut_to}
use Rattle.fm_code_kinds.specs.declared.kinds.Passed.{Passed}
use Rattle.fm_code_kinds.specs.declared.kinds.Passed.TheVariants as pass
use Rattle.fm_code_kinds.specs.declared.kinds.Kind.{Kind}
use Rattle.fm_code_kinds.specs.declared.kinds.Kind.TheVariants as kinds
use Rattle.fm_code_kinds.specs.Effects.{results_in, only_results, operands_on, operands_over, is_cut}
use Rattle.fm_code_kinds.specs.Fitting.{OperandFits, Stands, last_loop, AllFit}

-- operands, one for one
pub results_end : (ks : List Kind) (s : List ℤ) (os : List Operand) → only_results ks ≡ true → Stands ks s os → os ≡ []
results_end [] s os only is = is
results_end (kinds.Returned ∷ ks) s os only is = results_end ks s os only is
results_end (kinds.Word r ∷ ks) s os only is = absurd cc
results_end (kinds.Operand p ∷ ks) s os only is = absurd cc
results_end (kinds.LoopOf l ∷ ks) s os only is = absurd cc

pub none_fit : (os : List Operand) → os ≡ [] → AllFit [] os
none_fit os is = subst (AllFit []) (sym is) tt

pub taken_fit : (ks : List Kind) (s : List ℤ) (os : List Operand) → Stands ks s os → only_results (operands_on ks).rest ≡ true → AllFit (operands_on ks).operands os
taken_fit [] s os is only = none_fit os is
taken_fit (kinds.Returned ∷ ks) s os is only = none_fit os (results_end ks s os only is)
taken_fit (kinds.Word r ∷ ks) s os is only = absurd cc
taken_fit (kinds.LoopOf l ∷ ks) s os is only = absurd cc
taken_fit (kinds.Operand p ∷ ks) s [] is only = absurd is
taken_fit (kinds.Operand p ∷ ks) s (o ∷ os) is only = (is.0, taken_fit ks s os is.1 only)

pub joined_fit : (ps qs : List Passed) (os rs : List Operand) → AllFit ps os → AllFit qs rs → AllFit (ps ++ qs) (os ++ rs)
joined_fit [] qs [] rs a b = b
joined_fit [] qs (o ∷ os) rs a b = absurd a
joined_fit (p ∷ ps) qs [] rs a b = absurd a
joined_fit (p ∷ ps) qs (o ∷ os) rs a b = (a.0, joined_fit ps qs os rs a.1 b)

pub reversed_fit : (ps : List Passed) (os : List Operand) → AllFit ps os → AllFit (reverse ps) (reverse os)
reversed_fit [] [] a = tt
reversed_fit [] (o ∷ os) a = absurd a
reversed_fit (p ∷ ps) [] a = absurd a
reversed_fit (p ∷ ps) (o ∷ os) a =
    let j = joined_fit (reverse ps) (p ∷ []) (reverse os) (o ∷ []) (reversed_fit ps os a.1) (a.0, tt) in
    subst (λ (qs : List Passed). AllFit qs (reverse (o ∷ os))) (sym (reverse-append (p ∷ []) ps)) (subst (λ (rs : List Operand). AllFit (reverse ps ++ p ∷ []) rs) (sym (reverse-append (o ∷ []) os)) j)

-- what is below the operands stands on the same stack
pub under_operands : (ks : List Kind) (s : List ℤ) (os : List Operand) → Stands ks s os → (rs : List Operand) × Stands (operands_on ks).rest s rs
under_operands [] s os is = (os, is)
under_operands (kinds.Returned ∷ ks) s os is = (os, is)
under_operands (kinds.Word r ∷ ks) s os is = (os, is)
under_operands (kinds.LoopOf l ∷ ks) s os is = (os, is)
under_operands (kinds.Operand p ∷ ks) s [] is = absurd is
under_operands (kinds.Operand p ∷ ks) s (o ∷ os) is = under_operands ks s os is.1

-- ---- the list with other operands

-- the operands stand for those on the list, and what is below them stands alone
pub record Split (ks : List Kind) (s : List ℤ) (os : List Operand) : Type 0 where
  pub front : List Operand
  pub back : List Operand
  pub is : os ≡ front ++ back
  pub all : AllFit (operands_on ks).operands front
  pub below : Stands (operands_on ks).rest s back

pub split_at : (ks : List Kind) (s : List ℤ) (os : List Operand) → Stands ks s os → Split ks s os
split_at [] s os is = record { front = []; back = os; is = refl; all = tt; below = is }
split_at (kinds.Returned ∷ ks) s os is = record { front = []; back = os; is = refl; all = tt; below = is }
split_at (kinds.Word r ∷ ks) s os is = record { front = []; back = os; is = refl; all = tt; below = is }
split_at (kinds.LoopOf l ∷ ks) s os is = record { front = []; back = os; is = refl; all = tt; below = is }
split_at (kinds.Operand p ∷ ks) s [] is = absurd is
split_at (kinds.Operand p ∷ ks) s (o ∷ os) is =
    let r = split_at ks s os is.1 in
    record { front = o ∷ r.front; back = r.back; is = ap (λ (os : List Operand). o ∷ os) r.is; all = (is.0, r.all); below = r.below }

pub over_stands : (ps : List Passed) (os : List Operand) (rest : List Kind) (s : List ℤ) → AllFit ps os → Stands rest s [] → Stands (operands_over ps rest) s os
over_stands [] [] rest s all is = is
over_stands [] (o ∷ os) rest s all is = absurd all
over_stands (p ∷ ps) [] rest s all is = absurd all
over_stands (p ∷ ps) (o ∷ os) rest s all is = (all.0, over_stands ps os rest s all.1 is)

pub over_loop : (ps : List Passed) (rest : List Kind) → last_loop (operands_over ps rest) ≡ last_loop rest
over_loop [] rest = refl
over_loop (p ∷ ps) rest = over_loop ps rest

pub over_results : (ps : List Passed) (rest : List Kind) → results_in (operands_over ps rest) ≡ results_in rest
over_results [] rest = refl
over_results (p ∷ ps) rest = over_results ps rest

pub on_loop : (ks : List Kind) → last_loop (operands_on ks).rest ≡ last_loop ks
on_loop [] = refl
on_loop (kinds.Returned ∷ ks) = refl
on_loop (kinds.Word r ∷ ks) = refl
on_loop (kinds.LoopOf l ∷ ks) = refl
on_loop (kinds.Operand p ∷ ks) = on_loop ks

pub on_results : (ks : List Kind) → results_in (operands_on ks).rest ≡ results_in ks
on_results [] = refl
on_results (kinds.Returned ∷ ks) = refl
on_results (kinds.Word r ∷ ks) = refl
on_results (kinds.LoopOf l ∷ ks) = refl
on_results (kinds.Operand p ∷ ks) = on_results ks

-- ---- one operand

-- an operand that may be cut, if there is one
abbrev pub HasCut : Option Operand → Type 0
HasCut None = ⊥
HasCut (Some (operand.Value v)) = Unit {0}
HasCut (Some (operand.Words s)) = Unit {0}
HasCut (Some (operand.Ports s)) = ⊥

one_cut : (p : Passed) (o : Operand) → OperandFits p o → is_cut (Some p) ≡ true → HasCut (Some o)
one_cut pass.Value (operand.Value v) is e = tt
one_cut pass.Value (operand.Words s) is e = absurd is
one_cut pass.Value (operand.Ports s) is e = absurd is
one_cut (pass.Words t) (operand.Value v) is e = absurd is
one_cut (pass.Words t) (operand.Words s) is e = tt
one_cut (pass.Words t) (operand.Ports s) is e = absurd is
one_cut (pass.Ports t) o is e = absurd cc
one_cut (pass.WordIn t) (operand.Value v) is e = absurd is
one_cut (pass.WordIn t) (operand.Words s) is e = tt
one_cut (pass.WordIn t) (operand.Ports s) is e = absurd is
one_cut (pass.PortIn t) o is e = absurd cc
one_cut (pass.Sized n) o is e = absurd cc

pub cut_there : (ps : List Passed) (os : List Operand) (item : ℕ) → AllFit ps os → is_cut (slice_get ps item) ≡ true → HasCut (slice_get os item)
cut_there [] os item all e = absurd cc
cut_there (p ∷ ps) [] item all e = absurd all
cut_there (p ∷ ps) (o ∷ os) zero all e = one_cut p o all.0 e
cut_there (p ∷ ps) (o ∷ os) (suc item) all e = cut_there ps os item all.1 e

-- one gives way to another
pub put_fits : (ps : List Passed) (os : List Operand) (item : ℕ) (p : Passed) (o : Operand) → AllFit ps os → OperandFits p o → AllFit (slice_set ps item p) (slice_set os item o)
put_fits [] [] item p o all is = tt
put_fits [] (q ∷ os) item p o all is = absurd all
put_fits (r ∷ ps) [] item p o all is = absurd all
put_fits (r ∷ ps) (q ∷ os) zero p o all is = (is, all.1)
put_fits (r ∷ ps) (q ∷ os) (suc item) p o all is = (all.0, put_fits ps os item p o all.1 is)

-- what a cut gives is sized
abbrev pub SizedOr : (size : ℕ) → Result Operand Fault → Type 0
SizedOr size (Ok o) = OperandFits (pass.Sized size) o
SizedOr size (Err fault) = Unit {0}

value_sized : (size : ℕ) (n v : ℤ) → SizedOr size (cut_value n v)
value_sized size (pos zero) v = tt
value_sized size (pos (suc zero)) v = tt
value_sized size (pos (suc (suc n))) v = tt
value_sized size (negsuc n) v = tt

abbrev cut_to_span : Span → Result Span Fault
cut_to_span s = Ok s

words_sized : (size : ℕ) (n : ℤ) (s : Span) → SizedOr size (as_operand operand.Words (cut_span n s))
words_sized size (negsuc n) s = tt
words_sized size (pos n) s = go (nat_le n s.count)
  where
    go : (b : Bool) → SizedOr size (as_operand operand.Words (cond b (cut_to_span (record { first = s.first; count = n })) (Err Subscript)))
    go true = tt
    go false = tt

pub cut_sized : (size : ℕ) (n : ℤ) (o : Operand) → HasCut (Some o) → SizedOr size (cut_to n o)
cut_sized size n (operand.Value v) h = value_sized size n v
cut_sized size n (operand.Words s) h = words_sized size n s
cut_sized size n (operand.Ports s) h = absurd h
