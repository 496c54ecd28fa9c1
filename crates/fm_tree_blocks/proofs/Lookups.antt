-- What the lists of innermost blocks and of ends have at a place.
use Rattle.std.proofs.Common.{◌≡◌, ℕ, ◌+◌, ◌<◌, Bool, Option, List, [], ◌∷◌, ◌++◌, length, reverse, take, drop, suc, zero, get_or, refl, sym, ◌∙◌, ap, arith, append_assoc, add-one}
use Rattle.std.proofs.lemmas.List.{append-nil, reverse-append}
use Rattle.fm_tree.specs.declared.entry_mark.EntryMark.{EntryMark}
use Rattle.fm_tree.specs.declared.entry_mark.Open.{Open}
use Rattle.fm_tree.specs.Blocks.{open_blocks, ends, head_of, inner_from, inner_list, innermost, ends_from, end_list}

length-inner_from : (before es : List EntryMark) → length (inner_from before es) ≡ length es
length-inner_from before [] = refl
length-inner_from before (e ∷ es) = ap suc (length-inner_from (e ∷ before) es)

pub length-inner_list : (entries : List EntryMark) → length (inner_list entries) ≡ length entries
length-inner_list entries = length-inner_from [] entries

length-ends_from : (b : Bool) (at : ℕ) (es : List EntryMark) → length (ends_from b at es) ≡ length es
length-ends_from b at [] = refl
length-ends_from b at (e ∷ es) = ap suc (length-ends_from b (at + 1) es)

pub length-end_list : (b : Bool) (entries : List EntryMark) → length (end_list b entries) ≡ length entries
length-end_list b entries = length-ends_from b 0 entries

inner_from_at : (before es : List EntryMark) (k : ℕ) (d : Option Open) → k < length es
    → get_or (inner_from before es) k d ≡ head_of (open_blocks (reverse (take k es) ++ before) zero)
inner_from_at before [] k d l = absurd (omega arith)
inner_from_at before (e ∷ es) zero d l = refl
inner_from_at before (e ∷ es) (suc k) d l =
    inner_from_at (e ∷ before) es k d (omega arith)
    ∙ ap (λ xs. head_of (open_blocks xs zero))
    (sym (append_assoc (reverse (take k es)) (e ∷ []) before) ∙ ap (λ xs. xs ++ before) (sym (reverse-append (e ∷ []) (take k es))))

pub inner_at : (entries : List EntryMark) (k : ℕ) (d : Option Open) → k < length entries → get_or (inner_list entries) k d ≡ innermost entries k
inner_at entries k d l =
    inner_from_at [] entries k d l ∙ ap (λ xs. head_of (open_blocks xs zero)) (append-nil (reverse (take k entries)))

ends_from_at : (b : Bool) (at : ℕ) (es : List EntryMark) (k n : ℕ) (d : Option ℕ) → k < length es → n ≡ at + suc k
    → get_or (ends_from b at es) k d ≡ head_of (ends b (drop (suc k) es) n zero)
ends_from_at b at [] k n d l e = absurd (omega arith)
ends_from_at b at (x ∷ es) zero n d l e = let s : at + 1 ≡ n = omega arith in ap (λ m. head_of (ends b es m zero)) s
ends_from_at b at (x ∷ es) (suc k) n d l e = ends_from_at b (at + 1) es k n d (omega arith) (omega arith)

pub end_at : (b : Bool) (entries : List EntryMark) (k : ℕ) (d : Option ℕ) → k < length entries
    → get_or (end_list b entries) k d ≡ head_of (ends b (drop (k + 1) entries) (k + 1) zero)
end_at b entries k d l =
    ends_from_at b 0 entries k (k + 1) d l (omega arith) ∙ ap (λ m. head_of (ends b (drop m entries) (k + 1) zero)) (sym (add-one k))
