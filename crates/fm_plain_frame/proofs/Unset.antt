-- The memory with which a frame begins.
use Rattle.std.proofs.Common.{◌≡◌, ℕ, zero, suc, pos, ◌+◌, List, [], ◌∷◌, ◌++◌, length, map, take, drop, replicate, flat_map, refl, sym, ap, arith, append_assoc, ◌∙◌}
use Rattle.std.proofs.lemmas.List.{take_at, drop_at, length-append, length-replicate}
use Rattle.fm_base.specs.Channels.{Words, Ports}
use Rattle.fm_tree.specs.declared.port_type.Kind.{Kind}
use Rattle.fm_tree.specs.declared.port_type.Kind.TheVariants as kind
use Rattle.fm_symbols.specs.declared.names.Variable.{Variable}
use Rattle.fm_mean.specs.Layout.{AreLaidOut}
use Rattle.fm_mean.specs.Names.{all_unset, unset}
use Rattle.fm_plain_frame.specs.declared.word.Word.{Word}
use Rattle.fm_plain_frame.specs.declared.word.Word.TheVariants.{Number, Null}
use Rattle.fm_plain_frame.specs.Memory.{number_in, port_in, item_by, values_of, unset_word}

abbrev pub unset_of : Variable → List Word
unset_of v = replicate v.words (unset_word v.kind)

abbrev pub unset_words : List Variable → List Word
unset_words = flat_map unset_of

map-replicate : {A B : Type 0} (f : A → B) (n : ℕ) (x : A) → map f (replicate n x) ≡ replicate n (f x)
map-replicate f zero x = refl
map-replicate f (suc n) x = ap (λ l. f x ∷ l) (map-replicate f n x)

item_unset : (k : Kind) (n : ℕ) → item_by k (replicate n (unset_word k)) ≡ unset k n
item_unset kind.Integer n = ap Words (map-replicate number_in n (Number (pos 0)))
item_unset kind.Logical n = ap Words (map-replicate number_in n (Number (pos 0)))
item_unset (kind.In t) n = ap Ports (map-replicate port_in n Null)
item_unset (kind.Out t) n = ap Ports (map-replicate port_in n Null)

-- behind other words
unset_behind : (n : ℕ) (vs : List Variable) (front : List Word) → AreLaidOut n vs → length front ≡ n → values_of vs (front ++ unset_words vs) ≡ all_unset vs
unset_behind n [] front laid e = refl
unset_behind n (v ∷ vs) front laid e =
    let mine = unset_of v in
    let rest = unset_words vs in
    let all = append_assoc front mine rest in
    let here : drop v.first (front ++ (mine ++ rest)) ≡ mine ++ rest = drop_at front (mine ++ rest) v.first (omega (arith, e, laid.0)) in
    let taken : take v.words (mine ++ rest) ≡ mine = take_at mine rest v.words (length-replicate v.words (unset_word v.kind)) in
    ap (λ x. x ∷ values_of vs (front ++ (mine ++ rest))) (ap (λ l. item_by v.kind (take v.words l)) here ∙ ap (item_by v.kind) taken ∙ item_unset v.kind v.words)
    ∙ ap (λ l. unset v.kind v.words ∷ values_of vs l) (sym all)
    ∙ ap (λ l. unset v.kind v.words ∷ l)
    (unset_behind (n + v.words) vs (front ++ mine) laid.1 (omega (arith, e, length-append front mine, length-replicate v.words (unset_word v.kind))))

-- each variable at full length, with nothing put into it
pub unset_values : (vs : List Variable) → AreLaidOut 0 vs → values_of vs (unset_words vs) ≡ all_unset vs
unset_values vs laid = unset_behind 0 vs [] laid refl
