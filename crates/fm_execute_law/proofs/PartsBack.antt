-- The instruction that the parts of one tell is that one, whatever its operands are.
use Rattle.std.proofs.Common.{◌≡◌, ℕ, pos, Bool, true, false, ◌&&◌, cond, Option, Some, None, refl, ap, subst, ◌∙◌}
use Rattle.std.specs.Prelude.{int_le, option_and_then, option_map}
use Rattle.fm_base.specs.declared.token.Op.{Op}
use Rattle.fm_base.specs.declared.token.Op.TheVariants as op
use Rattle.fm_values.specs.declared.intrinsic.Intrinsic.{Intrinsic}
use Rattle.fm_values.specs.declared.intrinsic.Intrinsic.TheVariants as intrinsic
use Rattle.fm_code.specs.declared.instr.Eval.{Eval}
use Rattle.fm_code.specs.declared.instr.Eval.TheVariants as eval
use Rattle.fm_code.specs.declared.instr.Build.{Build}
use Rattle.fm_code.specs.declared.instr.Build.TheVariants as build
use Rattle.fm_code.specs.declared.instr.End.{End}
use Rattle.fm_code.specs.declared.instr.End.TheVariants as end
use Rattle.fm_code.specs.declared.instr.Meet.{Meet}
use Rattle.fm_code.specs.declared.instr.Meet.TheVariants as meet
use Rattle.fm_code.specs.declared.instr.Instr.{Instr}
use Rattle.fm_code.specs.declared.instr.Instr.TheVariants as instr
use Rattle.fm_code.specs.Parts.{Parts, bare, build_of, build_parts, byte_in, end_of, end_parts, eval_of, eval_parts, instr_of, intrinsic_in, intrinsic_number, is_zero, meet_of, meet_parts, of_one, of_two, op_in, op_number, parts_of, word_in}

-- what is told, if anything is, is this
abbrev Back : {X : Type 0} → X → Option X → Type 0
Back x None = Unit {0}
Back x (Some y) = x ≡ y

-- instructions of a kind, as instructions of all
module _ {I X : Type 0} (view : I → X) where
  guarded : (i : I) (b : Bool) (o : Option I) → Back (view i) (option_map view o) → Back (view i) (option_map view (cond b o None))
  guarded i true o h = h
  guarded i false o h = tt

  bare_back : (i : I) → Back (view i) (option_map view (bare i (pos 0) (pos 0)))
  bare_back i = guarded i (is_zero (pos 0)) (cond (is_zero (pos 0)) (Some i) None) (guarded i (is_zero (pos 0)) (Some i) refl)

  module _ (f : ℕ → I) (k : ℕ) where
    told : (b : Bool) → Back (view (f k)) (option_map view (option_map f (cond b (Some k) None)))
    told true = refl
    told false = tt

    word_back : Back (view (f k)) (option_map view (option_map f (word_in (pos k))))
    unfolding word_in
    word_back = told (int_le (pos 0) (pos k) && int_le (pos k) (pos 4294967295))

    byte_back : Back (view (f k)) (option_map view (option_map f (byte_in (pos k))))
    unfolding byte_in
    byte_back = told (int_le (pos 0) (pos k) && int_le (pos k) (pos 255))

    one_back : Back (view (f k)) (option_map view (of_one f (pos k) (pos 0)))
    one_back = guarded (f k) (is_zero (pos 0)) (option_map f (word_in (pos k))) word_back

  -- with a second operand, or with what another number tells first
  module _ {W : Type 0} (f : W → ℕ → I) (w : W) (j : ℕ) where
    then_word : (o : Option W) → Back w o → Back (view (f w j)) (option_map view (option_and_then (λ x. option_map (f x) (word_in (pos j))) o))
    then_word None h = tt
    then_word (Some x) h = subst (λ (y : W). Back (view (f w j)) (option_map view (option_map (f y) (word_in (pos j))))) h (word_back (f w) j)

  two_back : (f : ℕ → ℕ → I) (k j : ℕ) → Back (view (f k j)) (option_map view (of_two f (pos k) (pos j)))
  unfolding word_in
  two_back f k j = then_word f k j (word_in (pos k)) (own (int_le (pos 0) (pos k) && int_le (pos k) (pos 4294967295)))
    where
      own : (b : Bool) → Back k (cond b (Some k) None)
      own true = refl
      own false = tt

-- ---- operators and intrinsic functions

op_back : (o : Op) → Back o (op_in (op_number o))
unfolding op_in
op_back op.Eqv = refl
op_back op.Neqv = refl
op_back op.Or = refl
op_back op.And = refl
op_back op.Not = refl
op_back op.Eq = refl
op_back op.Ne = refl
op_back op.Lt = refl
op_back op.Le = refl
op_back op.Gt = refl
op_back op.Ge = refl
op_back op.Add = refl
op_back op.Sub = refl
op_back op.Mul = refl
op_back op.Div = refl
op_back op.Pow = refl

intrinsic_back : (f : Intrinsic) → Back f (intrinsic_in (intrinsic_number f))
unfolding intrinsic_in
intrinsic_back intrinsic.Abs = refl
intrinsic_back intrinsic.Mod = refl
intrinsic_back intrinsic.Sign = refl
intrinsic_back intrinsic.Dim = refl
intrinsic_back intrinsic.Max = refl
intrinsic_back intrinsic.Min = refl

-- ---- instructions

applied : (o : Op) (found : Option Op) → Back o found → Back (instr.Eval (eval.Apply o)) (option_map instr.Eval (option_map eval.Apply found))
applied o None h = tt
applied o (Some other) h = ap (λ (x : Op). instr.Eval (eval.Apply x)) h

eval_back : (i : Eval) → Back (instr.Eval i) (instr_of (eval_parts i).0 (eval_parts i).1 (eval_parts i).2)
unfolding eval_of
eval_back (eval.Push k) = guarded instr.Eval (eval.Push k) (is_zero (pos 0)) (Some (eval.Push k)) refl
eval_back (eval.Load k) = one_back instr.Eval eval.Load k
eval_back (eval.Result k) = one_back instr.Eval eval.Result k
eval_back (eval.Subscript low extent) = word_back instr.Eval (eval.Subscript low) extent
eval_back (eval.Dimension low extent) = word_back instr.Eval (eval.Dimension low) extent
eval_back (eval.Element k) = one_back instr.Eval eval.Element k
eval_back (eval.Locate k) = one_back instr.Eval eval.Locate k
eval_back (eval.Apply o) = guarded instr.Eval (eval.Apply o) (is_zero (pos 0)) (option_map eval.Apply (op_in (op_number o))) (applied o (op_in (op_number o)) (op_back o))
eval_back eval.Negate = bare_back instr.Eval eval.Negate
eval_back eval.Not = bare_back instr.Eval eval.Not
eval_back (eval.Intrinsic f k) = then_word instr.Eval eval.Intrinsic f k (intrinsic_in (intrinsic_number f)) (intrinsic_back f)

build_back : (i : Build) → Back (instr.Build i) (instr_of (build_parts i).0 (build_parts i).1 (build_parts i).2)
unfolding build_of
build_back (build.Letter k) = guarded instr.Build (build.Letter k) (is_zero (pos 0)) (option_map build.Letter (byte_in (pos k))) (byte_back instr.Build build.Letter k)
build_back build.ShowText = bare_back instr.Build build.ShowText
build_back build.Show = bare_back instr.Build build.Show
build_back build.ShowTruth = bare_back instr.Build build.ShowTruth
build_back (build.ShowWords s) = two_back instr.Build (λ k j. build.ShowWords (record { first = k; count = j })) s.first s.count
build_back (build.ShowTruths s) = two_back instr.Build (λ k j. build.ShowTruths (record { first = k; count = j })) s.first s.count
build_back build.PassValue = bare_back instr.Build build.PassValue
build_back (build.PassWords s) = two_back instr.Build (λ k j. build.PassWords (record { first = k; count = j })) s.first s.count
build_back (build.PassPorts s) = two_back instr.Build (λ k j. build.PassPorts (record { first = k; count = j })) s.first s.count
build_back build.PassWordAt = bare_back instr.Build build.PassWordAt
build_back build.PassPortAt = bare_back instr.Build build.PassPortAt
build_back build.Status = bare_back instr.Build build.Status
build_back (build.Loop l) = two_back instr.Build (λ k j. build.Loop (record { number = k; word = j })) l.number l.word
build_back (build.Location k) = one_back instr.Build build.Location k
build_back build.Submachine = bare_back instr.Build build.Submachine
build_back (build.Cut k j) = two_back instr.Build build.Cut k j

end_back : (i : End) → Back (instr.End i) (instr_of (end_parts i).0 (end_parts i).1 (end_parts i).2)
unfolding end_of
end_back (end.Goto k) = one_back instr.End end.Goto k
end_back (end.Test k j) = two_back instr.End end.Test k j
end_back (end.Store k j) = two_back instr.End end.Store k j
end_back (end.StoreAt k) = one_back instr.End end.StoreAt k
end_back (end.Enter k j) = two_back instr.End end.Enter k j
end_back (end.Again k j) = two_back instr.End end.Again k j
end_back (end.Print k) = one_back instr.End end.Print k
end_back (end.Call k j) = two_back instr.End end.Call k j
end_back (end.Refer k j) = two_back instr.End end.Refer k j
end_back end.Return = bare_back instr.End end.Return
end_back (end.ReturnValue k) = one_back instr.End end.ReturnValue k
end_back (end.Start k j) = two_back instr.End end.Start k j

meet_back : (i : Meet) → Back (instr.Meet i) (instr_of (meet_parts i).0 (meet_parts i).1 (meet_parts i).2)
unfolding meet_of
meet_back meet.Stop = bare_back instr.Meet meet.Stop
meet_back (meet.Send k) = one_back instr.Meet meet.Send k
meet_back (meet.Receive k) = one_back instr.Meet meet.Receive k
meet_back (meet.ReceiveOr k j) = two_back instr.Meet meet.ReceiveOr k j
meet_back (meet.Channel k) = one_back instr.Meet meet.Channel k
meet_back (meet.ChannelFrom k) = one_back instr.Meet meet.ChannelFrom k
meet_back (meet.Merger k) = one_back instr.Meet meet.Merger k
meet_back (meet.EndChannel k) = one_back instr.Meet meet.EndChannel k
meet_back (meet.MovePort k) = one_back instr.Meet meet.MovePort k
meet_back (meet.Probe k) = one_back instr.Meet meet.Probe k
meet_back (meet.Begin k) = one_back instr.Meet meet.Begin k
meet_back (meet.Join k) = one_back instr.Meet meet.Join k

instr_back : (i : Instr) → Back i (instr_of (parts_of i).0 (parts_of i).1 (parts_of i).2)
instr_back (instr.Eval e) = eval_back e
instr_back (instr.Build b) = build_back b
instr_back (instr.End e) = end_back e
instr_back (instr.Meet m) = meet_back m

-- instructions with the same parts are the same, where these tell the one
pub same_instr : (i j : Instr) → parts_of i ≡ parts_of j → instr_of (parts_of j).0 (parts_of j).1 (parts_of j).2 ≡ Some j → i ≡ j
same_instr i j e told = subst (Back i) (ap (λ (p : Parts). instr_of p.0 p.1 p.2) e ∙ told) (instr_back i)
