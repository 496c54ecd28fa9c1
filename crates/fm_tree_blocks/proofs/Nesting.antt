-- An opener inside a block has its mate inside the block.
use Rattle.std.proofs.Common.{◌≡◌, ℕ, ◌+◌, ◌-◌, ◌<◌, ◌≤◌, false, Some, List, [], ◌∷◌, take, drop, length, suc, zero, refl, ap, ◌∙◌, arith, get_or, ◌⊎◌, inl, inr}
use Rattle.std.proofs.lemmas.Bool.{cases_lt}
use Rattle.std.proofs.lemmas.List.{drop-drop, get_or-drop}
use Rattle.fm_tree.specs.declared.form.Bracket.TheVariants.{Opens}
use Rattle.fm_tree.specs.declared.entry_mark.EntryMark.{EntryMark}
use Rattle.fm_tree.specs.Structure.{bracket_of}
use Rattle.fm_tree.specs.Blocks.{closers, openers, opens_once, closes_once, ends, head_of}
use Rattle.fm_tree.specs.Units.{blank_mark}
use Rattle.fm_tree_blocks.specs.Laws.{BlocksNest}
use Rattle.fm_tree_blocks.proofs.Below.{end_within}
use Rattle.fm_tree_blocks.proofs.Mates.{has_end, is_end, IsEnd}

no_openers : (c : ℕ) → openers (take c []) ≡ 0
no_openers zero = refl
no_openers (suc c) = refl

no_closers : (c : ℕ) → closers (take c []) ≡ 0
no_closers zero = refl
no_closers (suc c) = refl

-- counts of a run in two parts
openers_split : (es : List EntryMark) (a b c : ℕ) → c ≡ a + b → openers (take c es) ≡ openers (take a es) + openers (take b (drop a es))
openers_split es zero b c e = let q : c ≡ b = omega arith in let s = ap (λ m. openers (take m es)) q in omega (arith, s)
openers_split [] (suc a) b c e = omega (arith, no_openers c, no_openers b)
openers_split (x ∷ es) (suc a) b zero e = absurd (omega arith)
openers_split (x ∷ es) (suc a) b (suc c) e = omega (arith, openers_split es a b c (omega arith))

closers_split : (es : List EntryMark) (a b c : ℕ) → c ≡ a + b → closers (take c es) ≡ closers (take a es) + closers (take b (drop a es))
closers_split es zero b c e = let q : c ≡ b = omega arith in let s = ap (λ m. closers (take m es)) q in omega (arith, s)
closers_split [] (suc a) b c e = omega (arith, no_closers c, no_closers b)
closers_split (x ∷ es) (suc a) b zero e = absurd (omega arith)
closers_split (x ∷ es) (suc a) b (suc c) e = omega (arith, closers_split es a b c (omega arith))

-- what an opener adds to the counts
opener_opens : (es : List EntryMark) (p : ℕ) (d : EntryMark) → p < length es → bracket_of (get_or es p d).form ≡ Opens
    → openers (take (suc p) es) ≡ openers (take p es) + 1
opener_opens [] p d l is = absurd (omega arith)
opener_opens (e ∷ es) zero d l is = let o : opens_once (bracket_of e.form) ≡ 1 = ap opens_once is in omega (arith, o)
opener_opens (e ∷ es) (suc p) d l is = omega (arith, opener_opens es p d (omega arith) is)

opener_closes : (es : List EntryMark) (p : ℕ) (d : EntryMark) → p < length es → bracket_of (get_or es p d).form ≡ Opens
    → closers (take (suc p) es) ≡ closers (take p es)
opener_closes [] p d l is = absurd (omega arith)
opener_closes (e ∷ es) zero d l is = let z : closes_once (bracket_of e.form) ≡ 0 = ap closes_once is in omega (arith, z)
opener_closes (e ∷ es) (suc p) d l is = omega (arith, opener_closes es p d (omega arith) is)

-- no more closers than openers before a place inside the block
balanced : (es : List EntryMark) (n p : ℕ) → ((m : ℕ) → m < n → closers (take (suc m) es) ≤ openers (take (suc m) es) + 0) → p < n
    → closers (take p es) ≤ openers (take p es)
balanced es n zero h l = omega arith
balanced es n (suc p) h l = omega (arith, h p (omega arith))

-- behind an opener at p, up to the end at n, at least two more closers than openers stand
module _ (es : List EntryMark) (n p : ℕ) (d : EntryMark) (equal : closers (take (suc n) es) ≡ openers (take (suc n) es) + 1)
    (fewer : (m : ℕ) → m < n → closers (take (suc m) es) ≤ openers (take (suc m) es) + 0) (inside : p < n) (in' : p < length es)
    (is : bracket_of (get_or es p d).form ≡ Opens) where
  two_more : openers (take (n - p) (drop (suc p) es)) + 1 < closers (take (n - p) (drop (suc p) es))
  two_more = omega (
    arith,
    equal,
    balanced es n p fewer inside,
    opener_opens es p d in' is,
    opener_closes es p d in' is,
    openers_split es (suc p) (n - p) (suc n) (omega arith),
    closers_split es (suc p) (n - p) (suc n) (omega arith),
  )

-- an end stands before the last of these entries, where two more closers than openers stand in them
end_before : (es : List EntryMark) (at b : ℕ) → openers (take b es) + 1 < closers (take b es)
    → (m : ℕ) × (head_of (ends false es at zero) ≡ Some m) × (at ≤ m) × (m + 1 < at + b)
end_before es at b l =
    let f = has_end es at 0 b (omega (arith, l)) in
    let r = is_end es at 0 f.0 f.1 in
    (f.0, f.1, omega (arith, r.place), earlier f.0 f.2 r (cases_lt (suc r.n) b))
  where
    earlier : (m : ℕ) → m < at + b → (r : IsEnd es at 0 m) → (suc r.n < b) ⊎ (b ≤ suc r.n) → m + 1 < at + b
    earlier m u r (inl s) = omega (arith, r.place, s)
    earlier m u r (inr s) =
        let q : suc r.n ≡ b = omega (arith, r.place, s, u) in
        let o = ap (λ c. openers (take c es)) q in
        let z = ap (λ c. closers (take c es)) q in
        absurd (omega (arith, r.equal, o, z, l))

pub blocks_nest : BlocksNest
blocks_nest entries i j k mate low high opens =
    let es = drop (i + 1) entries in
    let r = is_end es (i + 1) 0 j mate in
    let w : j < i + 1 + length es = end_within false es (i + 1) 0 j mate in
    let p : ℕ = k - (i + 1) in
    let here : i + 1 + p ≡ k = omega arith in
    let form : bracket_of (get_or es p blank_mark).form ≡ Opens =
    ap (λ (e : EntryMark). bracket_of e.form) (get_or-drop (i + 1) entries p blank_mark)
    ∙ ap (λ n. bracket_of (get_or entries n blank_mark).form) here ∙ opens in
    let two = two_more es r.n p blank_mark r.equal r.fewer (omega (arith, r.place)) (omega (arith, w)) form in
    let rest : drop (suc p) es ≡ drop (k + 1) entries =
    drop-drop (suc p) (i + 1) entries ∙ ap (λ n. drop n entries) (let q : i + 1 + suc p ≡ k + 1 = omega arith in q) in
    let o = ap (λ xs. openers (take (r.n - p) xs)) rest in
    let z = ap (λ xs. closers (take (r.n - p) xs)) rest in
    let f = end_before (drop (k + 1) entries) (k + 1) (r.n - p) (omega (arith, two, o, z)) in
    (f.0, f.1, omega (arith, f.2), omega (arith, f.3, r.place))
