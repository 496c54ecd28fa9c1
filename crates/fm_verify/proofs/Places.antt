-- The formals take the places from 1 to their number, each once, exactly where the test of them holds.
use Rattle.std.proofs.Common.{◌≡◌, ℕ, zero, suc, ◌+◌, ◌-◌, ◌<◌, ◌≤◌, ◌==◌, Bool, true, false, cond, Option, Some, None, List, [], ◌∷◌, length, replicate, slice_get, refl, sym, ap, subst, ◌∙◌, arith}
use Rattle.std.specs.Prelude.{slice_set}
use Rattle.std.specs.List.{AllByRecursion}
use Rattle.std.proofs.lemmas.Bool.{and_parts, and_from, eqb-true, eq-eqb, eqb-false, ne_eqb}
use Rattle.std.proofs.lemmas.Option.{slice_get_within}
use Rattle.fm_verify_unit.proofs.Formals.{set_here, set_there, set_length}
use Rattle.fm_object.specs.declared.image.Cell.{Cell}
use Rattle.fm_image_typed.specs.Typed.{FormalsHavePlaces, how_many, is_formal}
use Rattle.fm_verify.specs.Tests.{with_free, all_taken, fill, have_places}

abbrev some : {A : Type 0} → A → Option A
some x = Some x

some_is : {A : Type 0} (x y : A) → some x ≡ some y → x ≡ y
some_is x y e = cc

abbrev at : ℕ → Cell → Bool
at n c = c.formal == n

abbrev bit : Option Bool → ℕ
bit None = 0
bit (Some false) = 0
bit (Some true) = 1

-- ---- counts

hit : (n : ℕ) (c : Cell) (cs : List Cell) → (c.formal == n) ≡ true → how_many (at n) (c ∷ cs) ≡ suc (how_many (at n) cs)
hit n c cs e = rw e refl

miss : (n : ℕ) (c : Cell) (cs : List Cell) → (c.formal == n) ≡ false → how_many (at n) (c ∷ cs) ≡ how_many (at n) cs
miss n c cs e = rw e refl

-- ---- all places are taken

taken_at : (ts : List Bool) → all_taken ts ≡ true → (n : ℕ) → n < length ts → bit (slice_get ts n) ≡ 1
taken_at [] e n l = absurd (omega (arith, l))
taken_at (t ∷ ts) e zero l = rw (and_parts t (all_taken ts) e).0 refl
taken_at (t ∷ ts) e (suc n) l = taken_at ts (and_parts t (all_taken ts) e).1 n (omega (arith, l))

is_taken : (t : Bool) → bit (some t) ≡ 1 → t ≡ true
is_taken true e = refl
is_taken false e = absurd (omega (arith, e))

taken_from : (ts : List Bool) → ((n : ℕ) → n < length ts → bit (slice_get ts n) ≡ 1) → all_taken ts ≡ true
taken_from [] h = refl
taken_from (t ∷ ts) h = and_from t (all_taken ts) (is_taken t (h 0 (omega arith))) (taken_from ts (λ n l. h (suc n) (omega (arith, l))))

-- ---- the rest fill the free places

record Fills (taken : List Bool) (cs : List Cell) : Type 0 where
  pub low : AllByRecursion (λ (c : Cell). c.formal ≤ length taken) cs
  pub once : (n : ℕ) → n < length taken → how_many (at (suc n)) cs + bit (slice_get taken n) ≡ 1

within : (cs : List Cell) (a b : ℕ) → a ≡ b → AllByRecursion (λ (c : Cell). c.formal ≤ a) cs → AllByRecursion (λ (c : Cell). c.formal ≤ b) cs
within cs a b e h = subst (λ (m : ℕ). AllByRecursion (λ (c : Cell). c.formal ≤ m) cs) e h

other_place : (c : Cell) (n p : ℕ) → c.formal ≡ suc p → (n == p) ≡ false → (c.formal == suc n) ≡ false
other_place c n p is e = ne_eqb c.formal (suc n) (λ f. eqb-false n p e (omega (arith, is, f)))

this_place : (c : Cell) (n p : ℕ) → c.formal ≡ suc p → n ≡ p → (c.formal == suc n) ≡ true
this_place c n p is e = eq-eqb c.formal (suc n) (omega (arith, is, e))

no_place : (c : Cell) (n : ℕ) → c.formal ≡ 0 → (c.formal == suc n) ≡ false
no_place c n z = ne_eqb c.formal (suc n) (λ f. omega (arith, z, f))

put_so : (taken : List Bool) (c : Cell) (cs : List Cell) → ((ts : List Bool) → fill (Some ts) cs ≡ true → Fills ts cs)
    → (p : ℕ) (o : Option Bool) → c.formal ≡ suc p → slice_get taken p ≡ o → fill (with_free taken p o) cs ≡ true → Fills taken (c ∷ cs)
put_so taken c cs ih p None is s e = absurd cc
put_so taken c cs ih p (Some true) is s e = absurd cc
put_so taken c cs ih p (Some false) is s e = record {
  low = (omega (arith, is, slice_get_within taken p false s), within cs (length (slice_set taken p true)) (length taken) (set_length taken p true) (ih (slice_set taken p true) e).low);
  once = λ n l. go n l (n == p) refl;
}
  where
    go : (n : ℕ) → n < length taken → (b : Bool) → (n == p) ≡ b → how_many (at (suc n)) (c ∷ cs) + bit (slice_get taken n) ≡ 1
    go n l true same =
        let np : n ≡ p = eqb-true n p same in
        let many = hit (suc n) c cs (this_place c n p is np) in
        let free : bit (slice_get taken n) ≡ 0 = ap bit (ap (slice_get taken) np ∙ s) in
        let put : bit (slice_get (slice_set taken p true) n) ≡ 1 = ap bit (ap (slice_get (slice_set taken p true)) np ∙ set_here taken p true (slice_get_within taken p false s)) in
        let more = (ih (slice_set taken p true) e).once n (omega (arith, l, set_length taken p true)) in
        omega (arith, many, free, put, more)
    go n l false other =
        let many = miss (suc n) c cs (other_place c n p is other) in
        let stays : bit (slice_get (slice_set taken p true) n) ≡ bit (slice_get taken n) = ap bit (set_there taken p n true (eqb-false n p other)) in
        let more = (ih (slice_set taken p true) e).once n (omega (arith, l, set_length taken p true)) in
        omega (arith, many, stays, more)

fills_so : (taken : List Bool) (cs : List Cell) → fill (Some taken) cs ≡ true → Fills taken cs
fills_so taken [] e = record { low = tt; once = λ n l. omega (arith, taken_at taken e n l) }
fills_so taken (c ∷ cs) e = go (c.formal == 0) refl e (λ ts. fills_so ts cs)
  where
    above : (c.formal ≡ 0 → ⊥) → c.formal ≡ suc (c.formal - 1)
    above n = omega (arith, n)

    go : (b : Bool) → (c.formal == 0) ≡ b → fill (cond b (Some taken) (with_free taken (c.formal - 1) (slice_get taken (c.formal - 1)))) cs ≡ true → ((ts : List Bool) → fill (Some ts) cs ≡ true → Fills ts cs) → Fills taken (c ∷ cs)
    go true z f ih =
        let h = ih taken f in
        let is : c.formal ≡ 0 = eqb-true c.formal 0 z in
        record { low = (omega (arith, is), h.low); once = λ n l. omega (arith, miss (suc n) c cs (no_place c n is), h.once n l) }
    go false z f ih = put_so taken c cs ih (c.formal - 1) (slice_get taken (c.formal - 1)) (above (eqb-false c.formal 0 z)) refl f

put_from : (taken : List Bool) (c : Cell) (cs : List Cell) → ((ts : List Bool) → Fills ts cs → fill (Some ts) cs ≡ true)
    → (p : ℕ) (o : Option Bool) → c.formal ≡ suc p → slice_get taken p ≡ o → Fills taken (c ∷ cs) → fill (with_free taken p o) cs ≡ true
put_from taken c cs ih p None is s h = absurd (missing taken p s (omega (arith, is, h.low.0)))
  where
    missing : (ts : List Bool) (p : ℕ) → slice_get ts p ≡ None → p < length ts → ⊥
    missing [] p e l = omega (arith, l)
    missing (t ∷ ts) zero e l = absurd cc
    missing (t ∷ ts) (suc p) e l = missing ts p e (omega (arith, l))
put_from taken c cs ih p (Some true) is s h =
    let l : p < length taken = slice_get_within taken p true s in
    let many = hit (suc p) c cs (this_place c p p is refl) in
    let put : bit (slice_get taken p) ≡ 1 = ap bit s in
    absurd (omega (arith, many, put, h.once p l))
put_from taken c cs ih p (Some false) is s h = ih (slice_set taken p true) (record {
  low = within cs (length taken) (length (slice_set taken p true)) (sym (set_length taken p true)) h.low.1;
  once = λ n l. go n (omega (arith, l, set_length taken p true)) (n == p) refl;
})
  where
    go : (n : ℕ) → n < length taken → (b : Bool) → (n == p) ≡ b → how_many (at (suc n)) cs + bit (slice_get (slice_set taken p true) n) ≡ 1
    go n l true same =
        let np : n ≡ p = eqb-true n p same in
        let many = hit (suc n) c cs (this_place c n p is np) in
        let free : bit (slice_get taken n) ≡ 0 = ap bit (ap (slice_get taken) np ∙ s) in
        let put : bit (slice_get (slice_set taken p true) n) ≡ 1 = ap bit (ap (slice_get (slice_set taken p true)) np ∙ set_here taken p true (slice_get_within taken p false s)) in
        omega (arith, many, free, put, h.once n l)
    go n l false other =
        let many = miss (suc n) c cs (other_place c n p is other) in
        let stays : bit (slice_get (slice_set taken p true) n) ≡ bit (slice_get taken n) = ap bit (set_there taken p n true (eqb-false n p other)) in
        omega (arith, many, stays, h.once n l)

fills_from : (taken : List Bool) (cs : List Cell) → Fills taken cs → fill (Some taken) cs ≡ true
fills_from taken [] h = taken_from taken (λ n l. omega (arith, h.once n l))
fills_from taken (c ∷ cs) h = go (c.formal == 0) refl (λ ts. fills_from ts cs)
  where
    above : (c.formal ≡ 0 → ⊥) → c.formal ≡ suc (c.formal - 1)
    above n = omega (arith, n)

    go : (b : Bool) → (c.formal == 0) ≡ b → ((ts : List Bool) → Fills ts cs → fill (Some ts) cs ≡ true) → fill (cond b (Some taken) (with_free taken (c.formal - 1) (slice_get taken (c.formal - 1)))) cs ≡ true
    go true z ih =
        let is : c.formal ≡ 0 = eqb-true c.formal 0 z in
        ih taken (record { low = h.low.1; once = λ n l. omega (arith, miss (suc n) c cs (no_place c n is), h.once n l) })
    go false z ih = put_from taken c cs ih (c.formal - 1) (slice_get taken (c.formal - 1)) (above (eqb-false c.formal 0 z)) refl h

-- ---- from none taken

length_free : (n : ℕ) → length (replicate n false) ≡ n
length_free zero = refl
length_free (suc n) = ap suc (length_free n)

all_free : (k n : ℕ) → bit (slice_get (replicate k false) n) ≡ 0
all_free zero n = refl
all_free (suc k) zero = refl
all_free (suc k) (suc n) = all_free k n

pub places_so : (cs : List Cell) → have_places cs ≡ true → FormalsHavePlaces cs
places_so cs e =
    let k = how_many is_formal cs in
    let h = fills_so (replicate k false) cs e in
    record {
      low = within cs (length (replicate k false)) k (length_free k) h.low;
      once = λ n l. omega (arith, all_free k n, h.once n (omega (arith, l, length_free k)));
    }

pub places_from : (cs : List Cell) → FormalsHavePlaces cs → have_places cs ≡ true
places_from cs h =
    let k = how_many is_formal cs in
    fills_from (replicate k false) cs (record {
      low = within cs k (length (replicate k false)) (sym (length_free k)) h.low;
      once = λ n l. omega (arith, all_free k n, h.once n (omega (arith, l, length_free k)));
    })
