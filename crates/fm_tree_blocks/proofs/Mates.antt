-- The mate is the first place with as many closers as openers.
use Rattle.std.proofs.Common.{◌≡◌, ℕ, ◌+◌, ◌<◌, ◌≤◌, false, Some, List, [], ◌∷◌, take, drop, suc, zero, refl, ap, ◌∙◌, subst, arith, ◌⊎◌, inl, inr}
use Rattle.std.proofs.lemmas.Bool.{cases_lt}
use Rattle.fm_tree_blocks.specs.Laws.{MatesCount}
use Rattle.fm_tree.specs.declared.entry_mark.EntryMark.{EntryMark}
use Rattle.fm_tree.specs.declared.form.Bracket.{Bracket}
use Rattle.fm_tree.specs.declared.form.Bracket.TheVariants.{Opens, Closes, Parts, Stays}
use Rattle.fm_tree.specs.Structure.{bracket_of}
use Rattle.fm_tree.specs.Blocks.{head_of, counted_on, ends, mate_of, opens_once, closes_once, openers, closers, IsMate}

-- the same with c blocks to be closed first
pub record IsEnd (es : List EntryMark) (at c j : ℕ) : Type 0 where
  pub n : ℕ
  pub place : j ≡ at + n
  pub equal : closers (take (suc n) es) ≡ openers (take (suc n) es) + suc c
  pub fewer : (m : ℕ) → m < n → closers (take (suc m) es) ≤ openers (take (suc m) es) + c

-- one entry more in front, whose turn is t
one_more : (t : Bracket) (e : EntryMark) (es : List EntryMark) (at c j : ℕ) → bracket_of e.form ≡ t
    → ((d : ℕ) → head_of (ends false es (at + 1) d) ≡ Some j → IsEnd es (at + 1) d j)
    → head_of (counted_on false t at (ends false es (at + 1)) c) ≡ Some j → IsEnd (e ∷ es) at c j
one_more Opens e es at c j is h f =
    let r = h (suc c) f in let o : opens_once (bracket_of e.form) ≡ 1 = ap opens_once is in let z : closes_once (bracket_of e.form) ≡ 0 = ap closes_once is in record {
      n = suc r.n;
      place = omega (arith, r.place);
      equal = omega (arith, r.equal, o, z);
      fewer = less r.n r.fewer o z;
    }
  where
    less : (n : ℕ) → ((m : ℕ) → m < n → closers (take (suc m) es) ≤ openers (take (suc m) es) + suc c) → opens_once (bracket_of e.form) ≡ 1 → closes_once (bracket_of e.form) ≡ 0
        → (m : ℕ) → m < suc n → closers (take (suc m) (e ∷ es)) ≤ openers (take (suc m) (e ∷ es)) + c
    less n g o z zero l = omega arith
    less n g o z (suc m) l = omega (arith, g m (omega arith))
one_more Closes e es at zero j is h f =
    let o : opens_once (bracket_of e.form) ≡ 0 = ap opens_once is in let z : closes_once (bracket_of e.form) ≡ 1 = ap closes_once is in let q : at ≡ j = cc in record {
      n = 0;
      place = omega arith;
      equal = omega arith;
      fewer = λ m l. absurd (omega arith);
    }
one_more Closes e es at (suc c) j is h f =
    let r = h c f in let o : opens_once (bracket_of e.form) ≡ 0 = ap opens_once is in let z : closes_once (bracket_of e.form) ≡ 1 = ap closes_once is in record {
      n = suc r.n;
      place = omega (arith, r.place);
      equal = omega (arith, r.equal, o, z);
      fewer = less r.n r.fewer o z;
    }
  where
    less : (n : ℕ) → ((m : ℕ) → m < n → closers (take (suc m) es) ≤ openers (take (suc m) es) + c) → opens_once (bracket_of e.form) ≡ 0 → closes_once (bracket_of e.form) ≡ 1
        → (m : ℕ) → m < suc n → closers (take (suc m) (e ∷ es)) ≤ openers (take (suc m) (e ∷ es)) + suc c
    less n g o z zero l = omega arith
    less n g o z (suc m) l = omega (arith, g m (omega arith))
one_more Parts e es at c j is h f = same (ap opens_once is) (ap closes_once is) (h c f)
  where
    same : opens_once (bracket_of e.form) ≡ 0 → closes_once (bracket_of e.form) ≡ 0 → IsEnd es (at + 1) c j → IsEnd (e ∷ es) at c j
    same o z r = record { n = suc r.n; place = omega (arith, r.place); equal = omega (arith, r.equal, o, z); fewer = less r.n r.fewer }
      where
        less : (n : ℕ) → ((m : ℕ) → m < n → closers (take (suc m) es) ≤ openers (take (suc m) es) + c)
            → (m : ℕ) → m < suc n → closers (take (suc m) (e ∷ es)) ≤ openers (take (suc m) (e ∷ es)) + c
        less n g zero l = omega arith
        less n g (suc m) l = omega (arith, g m (omega arith))
one_more Stays e es at c j is h f = same (ap opens_once is) (ap closes_once is) (h c f)
  where
    same : opens_once (bracket_of e.form) ≡ 0 → closes_once (bracket_of e.form) ≡ 0 → IsEnd es (at + 1) c j → IsEnd (e ∷ es) at c j
    same o z r = record { n = suc r.n; place = omega (arith, r.place); equal = omega (arith, r.equal, o, z); fewer = less r.n r.fewer }
      where
        less : (n : ℕ) → ((m : ℕ) → m < n → closers (take (suc m) es) ≤ openers (take (suc m) es) + c)
            → (m : ℕ) → m < suc n → closers (take (suc m) (e ∷ es)) ≤ openers (take (suc m) (e ∷ es)) + c
        less n g zero l = omega arith
        less n g (suc m) l = omega (arith, g m (omega arith))

pub is_end : (es : List EntryMark) (at c j : ℕ) → head_of (ends false es at c) ≡ Some j → IsEnd es at c j
is_end [] at c j e = absurd (cc)
is_end (x ∷ es) at c j e = one_more (bracket_of x.form) x es at c j refl (λ d f. is_end es (at + 1) d j f) e

-- an end among the first n entries, where there is one behind the first of them
end_step : (e : EntryMark) (es : List EntryMark) (at n : ℕ)
    → ((d : ℕ) → openers (take n es) + d < closers (take n es) → (j : ℕ) × (head_of (ends false es (at + 1) d) ≡ Some j) × (j < at + 1 + n))
    → (t : Bracket) → bracket_of e.form ≡ t → (c : ℕ) → openers (take (suc n) (e ∷ es)) + c < closers (take (suc n) (e ∷ es))
    → (j : ℕ) × (head_of (counted_on false t at (ends false es (at + 1)) c) ≡ Some j) × (j < at + suc n)
end_step e es at n again Opens is c l =
    let o : opens_once (bracket_of e.form) ≡ 1 = ap opens_once is in
    let z : closes_once (bracket_of e.form) ≡ 0 = ap closes_once is in
    let r = again (suc c) (omega (arith, l, o, z)) in
    (r.0, r.1, omega (arith, r.2))
end_step e es at n again Closes is zero l = (at, refl, omega arith)
end_step e es at n again Closes is (suc c) l =
    let o : opens_once (bracket_of e.form) ≡ 0 = ap opens_once is in
    let z : closes_once (bracket_of e.form) ≡ 1 = ap closes_once is in
    let r = again c (omega (arith, l, o, z)) in
    (r.0, r.1, omega (arith, r.2))
end_step e es at n again Parts is c l =
    let o : opens_once (bracket_of e.form) ≡ 0 = ap opens_once is in
    let z : closes_once (bracket_of e.form) ≡ 0 = ap closes_once is in
    let r = again c (omega (arith, l, o, z)) in
    (r.0, r.1, omega (arith, r.2))
end_step e es at n again Stays is c l =
    let o : opens_once (bracket_of e.form) ≡ 0 = ap opens_once is in
    let z : closes_once (bracket_of e.form) ≡ 0 = ap closes_once is in
    let r = again c (omega (arith, l, o, z)) in
    (r.0, r.1, omega (arith, r.2))

-- where more closers than openers and c stand in the first n entries, there is an end among them
pub has_end : (es : List EntryMark) (at c n : ℕ) → openers (take n es) + c < closers (take n es)
    → (j : ℕ) × (head_of (ends false es at c) ≡ Some j) × (j < at + n)
has_end [] at c zero l = absurd (omega arith)
has_end [] at c (suc n) l = absurd (omega arith)
has_end (e ∷ es) at c zero l = absurd (omega arith)
has_end (e ∷ es) at c (suc n) l = end_step e es at n (λ d m. has_end es (at + 1) d n m) (bracket_of e.form) refl c l

pub mate_counts : (entries : List EntryMark) (i n : ℕ) → mate_of entries i ≡ Some (i + 1 + n) → IsMate (drop (i + 1) entries) n
mate_counts entries i n e = from (is_end (drop (i + 1) entries) (i + 1) 0 (i + 1 + n) e)
  where
    from : IsEnd (drop (i + 1) entries) (i + 1) 0 (i + 1 + n) → IsMate (drop (i + 1) entries) n
    from r =
        let same : r.n ≡ n = omega (arith, r.place) in
        subst (λ (m : ℕ). IsMate (drop (i + 1) entries) m) same (record { equal = r.equal; fewer = λ m l. omega (arith, r.fewer m l) })

pub mate_there : (entries : List EntryMark) (i n : ℕ) → IsMate (drop (i + 1) entries) n → mate_of entries i ≡ Some (i + 1 + n)
mate_there entries i n h =
    let f = has_end (drop (i + 1) entries) (i + 1) 0 (suc n) (omega (arith, h.equal)) in
    let r = is_end (drop (i + 1) entries) (i + 1) 0 f.0 f.1 in
    let up : n ≤ r.n = not_before r.n r.equal (cases_lt r.n n) in
    let same : f.0 ≡ i + 1 + n = omega (arith, f.2, r.place, up) in
    f.1 ∙ ap Some same
  where
    not_before : (m : ℕ) → closers (take (suc m) (drop (i + 1) entries)) ≡ openers (take (suc m) (drop (i + 1) entries)) + 1
        → (m < n) ⊎ (n ≤ m) → n ≤ m
    not_before m e (inl l) = absurd (omega (arith, e, h.fewer m l))
    not_before m e (inr l) = l

pub mates_count : MatesCount
mates_count entries i n = (mate_counts entries i n, mate_there entries i n)
