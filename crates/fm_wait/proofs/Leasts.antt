-- The entry of the least writer, and the places of waits, from the back on.
use Rattle.std.proofs.Common.{Bor, ◌≡◌, ℕ, suc, ◌+◌, ◌<◌, Bool, true, false, cond, List, [], ◌∷◌, length, drop, get_or, refl, sym, ap, ◌∙◌, arith}
use Rattle.std.specs.Prelude.{Some, option_map}
use Rattle.std.specs.Option.{option_copied}
use Rattle.std.specs.Ordering.{eq_by_cmp}
use Rattle.std.specs.FinMap.{FinMap, empty, get, get-empty, get-insert, insert}
use Rattle.std.proofs.lemmas.List.{drop_more}
use Rattle.fm_base.proofs.PathLaws.{channel_total}
use Rattle.fm_base.specs.PathOrder.{channel_cmp, path_cmp}
use Rattle.fm_base.specs.declared.path.ChanName.{ChanName}
use Rattle.fm_finmap.proofs.Keys.{channel_order, tie}
use Rattle.fm_wait.specs.Places.{places_from}
use Rattle.fm_wait.specs.Waits.{least_holder, lesser}
use Rattle.fm_mean.specs.declared.outcome.Holder.{Holder}
use Rattle.fm_mean.specs.declared.outcome.Wait.{Wait}

-- for each channel the least holder
abbrev pub AreLeast : FinMap channel_cmp (Bor Holder) → List Holder → Type 0
AreLeast m hs = (c : ChanName) → option_map (λ h. h.now) (get m c) ≡ least_holder c hs

pub least_none : (m : FinMap channel_cmp (Bor Holder)) → m ≡ empty → AreLeast m []
least_none m e c = ap (λ (n : FinMap channel_cmp (Bor Holder)). option_map (λ h. h.now) (get n c)) e ∙ ap (option_map (λ h. h.now)) (get-empty channel_cmp c)

least_so : (h : Holder) (rest : List Holder) (m : FinMap channel_cmp (Bor Holder)) (b : Bor Holder) (c : ChanName) → AreLeast m rest → b.now ≡ lesser h (option_copied (get m h.channel))
    → (t : Bool) → eq_by_cmp channel_cmp c h.channel ≡ t → option_map (λ h. h.now) (cond t (Some b) (get m c)) ≡ cond t (Some (lesser h (least_holder c rest))) (least_holder c rest)
least_so h rest m b c i e true t =
    ap Some (e ∙ ap (lesser h) (i h.channel) ∙ ap (λ d. lesser h (least_holder d rest)) (sym (tie channel_order c h.channel t)))
least_so h rest m b c i e false t = i c

pub least_more : (h : Holder) (rest all : List Holder) (m n : FinMap channel_cmp (Bor Holder)) (b : Bor Holder) → all ≡ h ∷ rest → n ≡ insert m h.channel b → AreLeast m rest
    → b.now ≡ lesser h (option_copied (get m h.channel)) → AreLeast n all
least_more h rest all m n b a s i e c =
    ap (λ (n : FinMap channel_cmp (Bor Holder)). option_map (λ h. h.now) (get n c)) s
    ∙ ap (option_map (λ h. h.now)) (get-insert channel_total m h.channel b c)
    ∙ least_so h rest m b c i e (eq_by_cmp channel_cmp c h.channel) refl
    ∙ sym (ap (least_holder c) a)

-- one place further back
pub places_more : (ws : List Wait) (k n : ℕ) (d : Wait) (m s : FinMap path_cmp ℕ) → k + 1 ≡ n → k < length ws → m ≡ places_from (drop n ws) n
    → s ≡ insert m (get_or ws k d).path k → s ≡ places_from (drop k ws) k
places_more ws k n d m s e l i h =
    let up : suc k ≡ n = omega (arith, e) in
    h ∙ ap (λ t. insert t (get_or ws k d).path k) (i ∙ ap (λ j. places_from (drop j ws) n) (sym e) ∙ ap (λ j. places_from (drop (k + 1) ws) j) (sym up))
    ∙ sym (ap (λ l. places_from l k) (drop_more ws k d l))
