-- What was pushed and wasn't taken waits at one of the ends.
use Rattle.std.proofs.Common.{◌≡◌, ◌+◌, ℕ, zero, suc, false, ◌||◌, Option, Some, None, option_map, List, [], ◌∷◌, ◌++◌, map, length, drop, slice_get, refl, sym, ap, ◌∙◌, arith}
use Rattle.std.specs.Prelude.{is_some}
use Rattle.std.proofs.lemmas.List.{length-map}
use Rattle.std.specs.FinMap as finite
use Rattle.fm_base.specs.declared.path.ChanName.{ChanName}
use Rattle.fm_base.specs.PathOrder.{channel_cmp}
use Rattle.fm_finmap.specs.Map.{map_of, map_values}
use Rattle.fm_finmap.proofs.Maps.{entries-map_values}
use Rattle.fm_link.specs.declared.load.Load.{Load}
use Rattle.fm_link.specs.Ends.{Outgoing, number_of}
use Rattle.fm_link_law.specs.Channels.{LinkedChan}
use Rattle.fm_nodes_network.specs.declared.channel.Channel.{Channel}
use Rattle.fm_nodes_network.specs.Channel.{is_some_left, linked_of}
use Rattle.fm_nodes_network.specs.Channels.{Named, linked_chans_in}

dropped : (k : ℕ) (xs : List Load) → is_some_left (drop k xs) ≡ is_some (slice_get xs k)
dropped k [] = nothing k
  where
    nothing : (k : ℕ) → is_some_left (drop k []) ≡ false
    nothing zero = refl
    nothing (suc k) = refl
dropped zero (x ∷ xs) = refl
dropped (suc k) (x ∷ xs) = dropped k xs

left_at_ends : (ws os : List Load) (k : ℕ) → (is_some (slice_get ws 0) || is_some (slice_get os k)) ≡ is_some_left (ws ++ drop k os)
left_at_ends [] os k = sym (dropped k os)
left_at_ends (w ∷ ws) os k = refl

-- something is left at the reader's end, or at the writer's
pub left_here : (ws os : List Load) (k : ℕ) (o : Option Load) → o ≡ slice_get ws 0 → (is_some o || is_some (slice_get os k)) ≡ is_some_left (ws ++ drop k os)
left_here ws os k o is = ap (λ (x : Option Load). is_some x || is_some (slice_get os k)) is ∙ left_at_ends ws os k

-- a load has a number where one is
pub number_there : (o : Outgoing) (k : ℕ) → is_some (number_of o k) ≡ is_some (slice_get o.waiting k)
number_there o k = go (slice_get o.waiting k)
  where
    go : (x : Option Load) → is_some (option_map (λ (y : Load). o.acknowledged + k) x) ≡ is_some x
    go None = refl
    go (Some x) = refl

pub first_number : (o : Outgoing) (n : ℕ) → Some n ≡ number_of o 0 → n ≡ o.acknowledged
first_number o n is = go (slice_get o.waiting 0) is
  where
    go : (x : Option Load) → Some n ≡ option_map (λ (y : Load). o.acknowledged + 0) x → n ≡ o.acknowledged
    go None e = absurd (cc e)
    go (Some x) e = let same : n ≡ o.acknowledged + 0 = cc e in omega (arith, same)

-- none is under way where none waits
pub none_waits : (o : Outgoing) (k : ℕ) → None ≡ number_of o 0 → false ≡ is_some (slice_get o.waiting k)
none_waits o k is = go o.waiting is
  where
    go : (xs : List Load) → None ≡ option_map (λ (y : Load). o.acknowledged + 0) (slice_get xs 0) → false ≡ is_some (slice_get xs k)
    go [] e = refl
    go (x ∷ xs) e = absurd (cc e)

first_of_each : (es : List (ChanName × Channel)) → map (λ (e : ChanName × LinkedChan). e.0) (map (λ (e : ChanName × Channel). (e.0, linked_of e.1)) es) ≡ map (λ (e : ChanName × Channel). e.0) es
first_of_each [] = refl
first_of_each (e ∷ es) = ap (λ (ns : List ChanName). e.0 ∷ ns) (first_of_each es)

names_are : (named : Named) → map (λ (e : ChanName × LinkedChan). e.0) (finite.entries (linked_chans_in named)) ≡ map (λ (e : ChanName × Channel). e.0) (finite.entries (map_of channel_cmp named))
unfolding linked_chans_in
names_are named = ap (map (λ (e : ChanName × LinkedChan). e.0)) (entries-map_values linked_of (map_of channel_cmp named)) ∙ first_of_each (finite.entries (map_of channel_cmp named))

get_first : (es : List (ChanName × Channel)) (n : ℕ) → option_map (λ (e : ChanName × Channel). e.0) (slice_get es n) ≡ slice_get (map (λ (e : ChanName × Channel). e.0) es) n
get_first [] n = refl
get_first (e ∷ es) zero = refl
get_first (e ∷ es) (suc n) = get_first es n

-- the name of the entry at a place
pub name_at : (named : Named) (r : Option (ChanName × Channel)) (n : ℕ) → r ≡ slice_get (finite.entries (map_of channel_cmp named)) n
    → option_map (λ (e : ChanName × Channel). e.0) r ≡ slice_get (map (λ (e : ChanName × LinkedChan). e.0) (finite.entries (linked_chans_in named))) n
name_at named r n is =
    ap (option_map (λ (e : ChanName × Channel). e.0)) is
    ∙ get_first (finite.entries (map_of channel_cmp named)) n
    ∙ ap (λ (ns : List ChanName). slice_get ns n) (sym (names_are named))

-- as many as there are entries
pub count_is : (named : Named) → finite.len (map_of channel_cmp named) ≡ finite.len (linked_chans_in named)
unfolding linked_chans_in
count_is named =
    finite.len-entries (map_of channel_cmp named)
    ∙ sym (length-map (finite.entries (map_of channel_cmp named)) (λ (e : ChanName × Channel). (e.0, linked_of e.1)))
    ∙ ap length (sym (entries-map_values linked_of (map_of channel_cmp named)))
    ∙ sym (finite.len-entries (map_values linked_of (map_of channel_cmp named)))
