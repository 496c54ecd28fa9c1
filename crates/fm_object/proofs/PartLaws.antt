-- An instruction that parts tell has these parts.
use Rattle.std.proofs.Common.{◌≡◌, ℕ, ℤ, pos, negsuc, Bool, true, false, ◌&&◌, ◌==◌, cond, Option, Some, None, refl, sym, ap, ap₂, subst, ◌∙◌}
use Rattle.std.specs.Prelude.{nat_lt, int_le, if◌then◌else◌, option_map, option_and_then}
use Rattle.std.specs.Ordering.{int_eq}
use Rattle.std.proofs.lemmas.Bool.{eqb-true}
use Rattle.std.proofs.lemmas.Bool.Decides.{Decides-int_eq}
use Rattle.fm_base.specs.declared.token.Op.{Op}
use Rattle.fm_base.specs.declared.token.Op.TheVariants as op
use Rattle.fm_values.specs.declared.intrinsic.Intrinsic.{Intrinsic}
use Rattle.fm_values.specs.declared.intrinsic.Intrinsic.TheVariants as intrinsic
use Rattle.fm_code.specs.declared.instr.Eval.TheVariants as eval
use Rattle.fm_code.specs.declared.instr.Build.TheVariants as build
use Rattle.fm_code.specs.declared.instr.End.TheVariants as end
use Rattle.fm_code.specs.declared.instr.Meet.TheVariants as meet
use Rattle.fm_code.specs.declared.instr.Instr.{Instr}
use Rattle.fm_code.specs.declared.instr.Instr.TheVariants as instr
use Rattle.fm_code.specs.Parts.{Parts, none, one, two, op_number, op_in, intrinsic_number, intrinsic_in, word_in, byte_in, is_zero, bare, of_one, of_two, eval_parts, eval_of, build_parts, build_of, end_parts, end_of, meet_parts, meet_of, parts_of, instr_of}
use Rattle.fm_object.proofs.WordLaws.{some_is, tested}

-- ---- operands

zero_is : (z : ℤ) → is_zero z ≡ true → z ≡ pos 0
unfolding is_zero
zero_is z e = (Decides-int_eq z (pos 0)).0 e

word_is : (z : ℤ) (w : ℕ) → word_in z ≡ Some w → z ≡ pos w
unfolding word_in
word_is (pos n) w e = ap pos (tested (int_le (pos 0) (pos n) && int_le (pos n) (pos 4294967295)) n w e).1
word_is (negsuc n) w e = absurd (cc e)

byte_is : (z : ℤ) (w : ℕ) → byte_in z ≡ Some w → z ≡ pos w
unfolding byte_in
byte_is (pos n) w e = ap pos (tested (int_le (pos 0) (pos n) && int_le (pos n) (pos 255)) n w e).1
byte_is (negsuc n) w e = absurd (cc e)

-- ---- operators and intrinsic functions

module _ {X : Type 0} (number : X → ℤ) (z : ℤ) where
  -- what is told has this number
  abbrev Numbered : Option X → Type 0
  Numbered None = Unit {0}
  Numbered (Some x) = number x ≡ z

  or_else : (k : ℤ) (x : X) (others : Option X) → number x ≡ k → Numbered others → Numbered (if int_eq z k then Some x else others)
  or_else k x others is rest = go (int_eq z k) refl
    where
      go : (b : Bool) → int_eq z k ≡ b → Numbered (if b then Some x else others)
      go true e = is ∙ sym ((Decides-int_eq z k).0 e)
      go false e = rest

  number_is : (o : Option X) → Numbered o → (x : X) → o ≡ Some x → number x ≡ z
  number_is None h x e = absurd (cc e)
  number_is (Some y) h x e = ap number (sym (some_is y x e)) ∙ h

op_is : (z : ℤ) (o : Op) → op_in z ≡ Some o → op_number o ≡ z
unfolding op_in
op_is z o e = number_is op_number z (op_in z)
    (or_else op_number z (pos 0) op.Eqv _ refl (or_else op_number z (pos 1) op.Neqv _ refl (or_else op_number z (pos 2) op.Or _ refl (or_else op_number z (pos 3) op.And _ refl
    (or_else op_number z (pos 4) op.Not _ refl (or_else op_number z (pos 5) op.Eq _ refl (or_else op_number z (pos 6) op.Ne _ refl (or_else op_number z (pos 7) op.Lt _ refl
    (or_else op_number z (pos 8) op.Le _ refl (or_else op_number z (pos 9) op.Gt _ refl (or_else op_number z (pos 10) op.Ge _ refl (or_else op_number z (pos 11) op.Add _ refl
    (or_else op_number z (pos 12) op.Sub _ refl (or_else op_number z (pos 13) op.Mul _ refl (or_else op_number z (pos 14) op.Div _ refl (or_else op_number z (pos 15) op.Pow None refl tt)))))))))))))))) o e

intrinsic_is : (z : ℤ) (f : Intrinsic) → intrinsic_in z ≡ Some f → intrinsic_number f ≡ z
unfolding intrinsic_in
intrinsic_is z f e = number_is intrinsic_number z (intrinsic_in z)
    (or_else intrinsic_number z (pos 0) intrinsic.Abs _ refl (or_else intrinsic_number z (pos 1) intrinsic.Mod _ refl (or_else intrinsic_number z (pos 2) intrinsic.Sign _ refl
    (or_else intrinsic_number z (pos 3) intrinsic.Dim _ refl (or_else intrinsic_number z (pos 4) intrinsic.Max _ refl (or_else intrinsic_number z (pos 5) intrinsic.Min None refl tt)))))) f e

-- ---- instructions

abbrev parts : ℕ → ℤ → ℤ → Parts
parts n a b = (n, a, b)

module _ {I : Type 0} (view : I → Parts) (a b : ℤ) where
  -- what is told has these parts
  abbrev Told : ℕ → Option I → Type 0
  Told n None = Unit {0}
  Told n (Some i) = view i ≡ parts n a b

  when : (n k : ℕ) (here others : Option I) → Told k here → Told n others → Told n (if n == k then here else others)
  when n k here others is rest = go (n == k) refl
    where
      go : (c : Bool) → (n == k) ≡ c → Told n (if c then here else others)
      go true e = subst (λ (m : ℕ). Told m here) (sym (eqb-true n k e)) is
      go false e = rest

  with_zero : (n : ℕ) (z : ℤ) (o : Option I) → (z ≡ pos 0 → Told n o) → Told n (cond (is_zero z) o None)
  with_zero n z o f = go (is_zero z) refl
    where
      go : (c : Bool) → is_zero z ≡ c → Told n (cond c o None)
      go true e = f (zero_is z e)
      go false e = tt

  bare_told : (n : ℕ) (i : I) → view i ≡ none n → Told n (bare i a b)
  bare_told n i is = with_zero n a (cond (is_zero b) (Some i) None) (λ x. with_zero n b (Some i) (λ y. is ∙ ap₂ (parts n) (sym x) (sym y)))

  -- the one operand by what it tells
  first_told : {W : Type 0} (n : ℕ) (f : W → I) (o : Option W) → ((w : W) → o ≡ Some w → b ≡ pos 0 → view (f w) ≡ parts n a b) → Told n (cond (is_zero b) (option_map f o) None)
  first_told {W = W} n f o is = with_zero n b (option_map f o) (λ y. go y o refl)
    where
      go : b ≡ pos 0 → (p : Option W) → o ≡ p → Told n (option_map f p)
      go y None e = tt
      go y (Some w) e = is w e y

  one_told : (n : ℕ) (f : ℕ → I) → ((w : ℕ) → view (f w) ≡ one n w) → Told n (of_one f a b)
  one_told n f is = first_told n f (word_in a) (λ w e y. is w ∙ ap₂ (parts n) (sym (word_is a w e)) (sym y))

  second_told : (n : ℕ) (f : ℕ → I) → ((w : ℕ) → view (f w) ≡ parts n a (pos w)) → Told n (option_map f (word_in b))
  second_told n f is = go (word_in b) refl
    where
      go : (o : Option ℕ) → word_in b ≡ o → Told n (option_map f o)
      go None e = tt
      go (Some w) e = is w ∙ ap (parts n a) (sym (word_is b w e))

  two_told : (n : ℕ) (f : ℕ → ℕ → I) → ((k j : ℕ) → view (f k j) ≡ two n k j) → Told n (of_two f a b)
  two_told n f is = go (word_in a) refl
    where
      inner : (k : ℕ) → a ≡ pos k → (o : Option ℕ) → word_in b ≡ o → Told n (option_map (f k) o)
      inner k x None e = tt
      inner k x (Some j) e = is k j ∙ ap₂ (parts n) (sym x) (sym (word_is b j e))

      go : (o : Option ℕ) → word_in a ≡ o → Told n (option_and_then (λ k. option_map (f k) (word_in b)) o)
      go None e = tt
      go (Some k) e = inner k (word_is a k e) (word_in b) refl

  told_is : (n : ℕ) (o : Option I) → Told n o → (i : I) → o ≡ Some i → view i ≡ parts n a b
  told_is n None h i e = absurd (cc e)
  told_is n (Some j) h i e = ap view (sym (some_is j i e)) ∙ h

module _ (a b : ℤ) where
  push_told : Told eval_parts a b 0 (cond (is_zero b) (Some (eval.Push a)) None)
  push_told = with_zero eval_parts a b 0 b (Some (eval.Push a)) (λ y. ap (parts 0 a) (sym y))

  apply_told : Told eval_parts a b 7 (cond (is_zero b) (option_map eval.Apply (op_in a)) None)
  apply_told = first_told eval_parts a b 7 eval.Apply (op_in a) (λ o e y. ap₂ (parts 7) (op_is a o e) (sym y))

  intrinsic_told : Told eval_parts a b 10 (option_and_then (λ f. option_map (eval.Intrinsic f) (word_in b)) (intrinsic_in a))
  intrinsic_told = go (intrinsic_in a) refl
    where
      inner : (f : Intrinsic) → intrinsic_number f ≡ a → (o : Option ℕ) → word_in b ≡ o → Told eval_parts a b 10 (option_map (eval.Intrinsic f) o)
      inner f x None e = tt
      inner f x (Some w) e = ap₂ (parts 10) x (sym (word_is b w e))

      go : (o : Option Intrinsic) → intrinsic_in a ≡ o → Told eval_parts a b 10 (option_and_then (λ f. option_map (eval.Intrinsic f) (word_in b)) o)
      go None e = tt
      go (Some f) e = inner f (intrinsic_is a f e) (word_in b) refl

  letter_told : Told build_parts a b 16 (cond (is_zero b) (option_map build.Letter (byte_in a)) None)
  letter_told = first_told build_parts a b 16 build.Letter (byte_in a) (λ w e y. ap₂ (parts 16) (sym (byte_is a w e)) (sym y))

  module _ (n : ℕ) where
    eval_told : Told eval_parts a b n (eval_of n a b)
    unfolding eval_of
    eval_told =
        let step = when eval_parts a b n in
        step 0 _ _ push_told
        (step 1 _ _ (one_told eval_parts a b 1 eval.Load (λ w. refl))
        (step 2 _ _ (one_told eval_parts a b 2 eval.Result (λ w. refl))
        (step 3 _ _ (second_told eval_parts a b 3 (eval.Subscript a) (λ w. refl))
        (step 4 _ _ (second_told eval_parts a b 4 (eval.Dimension a) (λ w. refl))
        (step 5 _ _ (one_told eval_parts a b 5 eval.Element (λ w. refl))
        (step 6 _ _ (one_told eval_parts a b 6 eval.Locate (λ w. refl))
        (step 7 _ _ apply_told
        (step 8 _ _ (bare_told eval_parts a b 8 eval.Negate refl)
        (step 9 _ _ (bare_told eval_parts a b 9 eval.Not refl)
        (step 10 _ None intrinsic_told tt))))))))))

    build_told : Told build_parts a b n (build_of n a b)
    unfolding build_of
    build_told =
        let step = when build_parts a b n in
        step 16 _ _ letter_told
        (step 17 _ _ (bare_told build_parts a b 17 build.ShowText refl)
        (step 18 _ _ (bare_told build_parts a b 18 build.Show refl)
        (step 19 _ _ (bare_told build_parts a b 19 build.ShowTruth refl)
        (step 20 _ _ (two_told build_parts a b 20 (λ k j. build.ShowWords (record { first = k; count = j })) (λ k j. refl))
        (step 21 _ _ (two_told build_parts a b 21 (λ k j. build.ShowTruths (record { first = k; count = j })) (λ k j. refl))
        (step 22 _ _ (bare_told build_parts a b 22 build.PassValue refl)
        (step 23 _ _ (two_told build_parts a b 23 (λ k j. build.PassWords (record { first = k; count = j })) (λ k j. refl))
        (step 24 _ _ (two_told build_parts a b 24 (λ k j. build.PassPorts (record { first = k; count = j })) (λ k j. refl))
        (step 25 _ _ (bare_told build_parts a b 25 build.PassWordAt refl)
        (step 26 _ _ (bare_told build_parts a b 26 build.PassPortAt refl)
        (step 27 _ _ (bare_told build_parts a b 27 build.Status refl)
        (step 28 _ _ (two_told build_parts a b 28 (λ k j. build.Loop (record { number = k; word = j })) (λ k j. refl))
        (step 29 _ _ (one_told build_parts a b 29 build.Location (λ w. refl))
        (step 30 _ _ (bare_told build_parts a b 30 build.Submachine refl)
        (step 31 _ None (two_told build_parts a b 31 build.Cut (λ k j. refl)) tt)))))))))))))))

    end_told : Told end_parts a b n (end_of n a b)
    unfolding end_of
    end_told =
        let step = when end_parts a b n in
        step 32 _ _ (one_told end_parts a b 32 end.Goto (λ w. refl))
        (step 33 _ _ (two_told end_parts a b 33 end.Test (λ k j. refl))
        (step 34 _ _ (two_told end_parts a b 34 end.Store (λ k j. refl))
        (step 35 _ _ (one_told end_parts a b 35 end.StoreAt (λ w. refl))
        (step 36 _ _ (two_told end_parts a b 36 end.Enter (λ k j. refl))
        (step 37 _ _ (two_told end_parts a b 37 end.Again (λ k j. refl))
        (step 38 _ _ (one_told end_parts a b 38 end.Print (λ w. refl))
        (step 39 _ _ (two_told end_parts a b 39 end.Call (λ k j. refl))
        (step 40 _ _ (two_told end_parts a b 40 end.Refer (λ k j. refl))
        (step 41 _ _ (bare_told end_parts a b 41 end.Return refl)
        (step 42 _ _ (one_told end_parts a b 42 end.ReturnValue (λ w. refl))
        (step 43 _ None (two_told end_parts a b 43 end.Start (λ k j. refl)) tt)))))))))))

    meet_told : Told meet_parts a b n (meet_of n a b)
    unfolding meet_of
    meet_told =
        let step = when meet_parts a b n in
        step 48 _ _ (bare_told meet_parts a b 48 meet.Stop refl)
        (step 49 _ _ (one_told meet_parts a b 49 meet.Send (λ w. refl))
        (step 50 _ _ (one_told meet_parts a b 50 meet.Receive (λ w. refl))
        (step 51 _ _ (two_told meet_parts a b 51 meet.ReceiveOr (λ k j. refl))
        (step 52 _ _ (one_told meet_parts a b 52 meet.Channel (λ w. refl))
        (step 53 _ _ (one_told meet_parts a b 53 meet.ChannelFrom (λ w. refl))
        (step 54 _ _ (one_told meet_parts a b 54 meet.Merger (λ w. refl))
        (step 55 _ _ (one_told meet_parts a b 55 meet.EndChannel (λ w. refl))
        (step 56 _ _ (one_told meet_parts a b 56 meet.MovePort (λ w. refl))
        (step 57 _ _ (one_told meet_parts a b 57 meet.Probe (λ w. refl))
        (step 58 _ _ (one_told meet_parts a b 58 meet.Begin (λ w. refl))
        (step 59 _ None (one_told meet_parts a b 59 meet.Join (λ w. refl)) tt)))))))))))

    -- a part of all instructions
    within : {I : Type 0} (view : I → Parts) (f : I → Instr) (o : Option I) → ((i : I) → parts_of (f i) ≡ view i) → Told view a b n o → Told parts_of a b n (option_map f o)
    within view f None is h = tt
    within view f (Some i) is h = is i ∙ h

    by_range : (c : Bool) (here others : Option Instr) → Told parts_of a b n here → Told parts_of a b n others → Told parts_of a b n (if c then here else others)
    by_range true here others h k = h
    by_range false here others h k = k

    instr_told : Told parts_of a b n (instr_of n a b)
    instr_told =
        by_range (nat_lt n 16) _ _ (within eval_parts instr.Eval (eval_of n a b) (λ i. refl) eval_told)
        (by_range (nat_lt n 32) _ _ (within build_parts instr.Build (build_of n a b) (λ i. refl) build_told)
        (by_range (nat_lt n 48) _ _ (within end_parts instr.End (end_of n a b) (λ i. refl) end_told) (within meet_parts instr.Meet (meet_of n a b) (λ i. refl) meet_told)))

pub parts_told : (n : ℕ) (a b : ℤ) (i : Instr) → instr_of n a b ≡ Some i → parts_of i ≡ (n, a, b)
parts_told n a b i e = told_is parts_of a b n (instr_of n a b) (instr_told a b n) i e
