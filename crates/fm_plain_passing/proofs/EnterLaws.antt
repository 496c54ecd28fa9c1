-- Arguments one by one, and the place of a formal.
use Rattle.std.proofs.Common.{◌≡◌, ℕ, suc, ◌+◌, ◌≤◌, ◌<◌, List, [], ◌∷◌, ◌++◌, length, drop, get_or, ◌==◌, refl, ap, sym, ◌∙◌, arith}
use Rattle.std.proofs.lemmas.List.{append_assoc, append-nil, at_drop_more, at_drop_all}
use Rattle.std.proofs.lemmas.Bool.{cond_both}
use Rattle.fm_symbols.specs.declared.names.Variable.{Variable}
use Rattle.fm_mean.specs.declared.place.Actual.{Actual}
use Rattle.fm_mean.specs.declared.place.Back.{Back}
use Rattle.fm_mean.specs.Names.{ProgramUnit, formal_from}
use Rattle.fm_mean.specs.Places.{Returned}
use Rattle.fm_mean.specs.Calls.{entered_one, entered_all, back_for, back_place, backs_from}
use Rattle.fm_plain_passing.specs.Rooms.{taken_by, all_taken}

-- the place of a formal is at most that behind the last variable
pub formal_within : (i n : ℕ) (vs : List Variable) → formal_from i n vs ≤ i + length vs
formal_within i n [] = omega arith
formal_within i n (v ∷ vs) =
    let on = formal_within (suc i) n vs in
    cond_both (v.formal == n) i (formal_from (suc i) n vs) (λ x. x ≤ i + suc (length vs)) (λ _. omega arith) (λ _. omega arith)

pub entered_none : (u : ProgramUnit) (args : List Actual) (r : Returned) → entered_all u (0 + 1) (drop 0 args) r ≡ entered_all u 1 args r
entered_none u args r = refl

pub entered_more : (u : ProgramUnit) (args : List Actual) (n : ℕ) (d : Actual) (r all : Returned) → n < length args → entered_all u (n + 1) (drop n args) r ≡ all
    → entered_all u (n + 1 + 1) (drop (n + 1) args) (entered_one u (n + 1) (get_or args n d) r) ≡ all
entered_more u args n d r all h is =
    let e : n + 1 + 1 ≡ suc (n + 1) = omega arith in
    ap (λ k. entered_all u k (drop (n + 1) args) (entered_one u (n + 1) (get_or args n d) r)) e
    ∙ sym (at_drop_more (λ l. entered_all u (n + 1) l r) args n d h) ∙ is

pub entered_end : (u : ProgramUnit) (args : List Actual) (n : ℕ) (r all : Returned) → length args ≤ n → entered_all u (n + 1) (drop n args) r ≡ all → r ≡ all
entered_end u args n r all h is = sym (at_drop_all (λ l. entered_all u (n + 1) l r) args n h) ∙ is

pub taken_more : (args : List Actual) (n : ℕ) (d : Actual) → n < length args → all_taken (drop n args) ≡ taken_by (get_or args n d) + all_taken (drop (n + 1) args)
taken_more args n d h = at_drop_more all_taken args n d h

pub backs_more : (u : ProgramUnit) (args : List Actual) (n : ℕ) (d : Actual) (bs all : List Back) → n < length args → bs ++ backs_from u (n + 1) (drop n args) ≡ all
    → (bs ++ back_for u (n + 1) (back_place (get_or args n d))) ++ backs_from u (n + 1 + 1) (drop (n + 1) args) ≡ all
backs_more u args n d bs all h is =
    let e : n + 1 + 1 ≡ suc (n + 1) = omega arith in
    ap (λ k. (bs ++ back_for u (n + 1) (back_place (get_or args n d))) ++ backs_from u k (drop (n + 1) args)) e
    ∙ append_assoc bs (back_for u (n + 1) (back_place (get_or args n d))) (backs_from u (suc (n + 1)) (drop (n + 1) args))
    ∙ ap (λ l. bs ++ l) (sym (at_drop_more (backs_from u (n + 1)) args n d h)) ∙ is

pub backs_end : (u : ProgramUnit) (args : List Actual) (n : ℕ) (bs all : List Back) → length args ≤ n → bs ++ backs_from u (n + 1) (drop n args) ≡ all → bs ≡ all
backs_end u args n bs all h is = sym (append-nil bs) ∙ ap (λ l. bs ++ l) (sym (at_drop_all (backs_from u (n + 1)) args n h)) ∙ is
