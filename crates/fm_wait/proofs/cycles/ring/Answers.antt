use Rattle.std.proofs.Common.{◌≡◌, ◌<◌, ◌∙◌, ℕ, List, ◌++◌, [], ◌∷◌, length, sym, ap, subst}
use Rattle.std.specs.Prelude.{Option, Some}
use Rattle.fm_wait.specs.Places.{next_places, path_at, place_behind}
use Rattle.fm_wait.specs.Waits.{Pairs}
use Rattle.fm_wait.proofs.Rings.{IsPart, part_begins, part_first, part_further, path_read, rest_of}
use Rattle.fm_wait.proofs.cycles.ring.Goals as goal

pub places-init : goal.places-init
places-init c =
    let o = c.args.outcome.now in
    let p = path_at o c.args.start in
    let path : c.in_ok-copy.field-0 ≡ p = c.in_ok-copy.ensures ∙ path_read o c.args.start c.index-waits-start.result c.as_slice-waits.result.now c.as_slice-waits.ensures c.requires.first.below in
    let ring : p ∷ [] ≡ c.push.new.self = sym (c.in_ok-push.ensures.ok ∙ ap (λ (l : List Pairs). l ++ c.in_ok-copy.field-0 ∷ []) c.new-ring.ensures ∙ ap (λ (x : Pairs). x ∷ []) path) in
    let at : place_behind (next_places o) c.args.start c.args.start ≡ c.place_behind-at.result =
    sym (c.place_behind-at.ensures ∙ ap (λ (l : List (Option ℕ)). place_behind l c.args.start c.args.start) c.requires.next) in
    subst (λ (l : List Pairs). IsPart o p l c.place_behind-at.result) ring
    (subst (λ (v : Option ℕ). IsPart o p (p ∷ []) v) at (part_begins o c.args.start c.requires.first c.requires.ring))

pub places-smaller : goal.places-smaller
places-smaller c =
    let o = c.args.outcome.now in
    let p = path_at o c.args.start in
    let part : IsPart o p c.places.ring (Some c.in-Some.place) = subst (λ (v : Option ℕ). IsPart o p c.places.ring v) c.in-Some.is c.places.invariant in
    let at : place_behind (next_places o) c.args.start c.in-Some.place ≡ c.place_behind-at-in-Some.result =
    sym (c.place_behind-at-in-Some.ensures ∙ ap (λ (l : List (Option ℕ)). place_behind l c.args.start c.in-Some.place) c.requires.next) in
    subst (λ (v : Option ℕ). length (rest_of o p v) < length (rest_of o p c.places.at)) at
    (subst (λ (v : Option ℕ). length (rest_of o p (place_behind (next_places o) c.args.start c.in-Some.place)) < length (rest_of o p v)) (sym c.in-Some.is)
    (part_further o c.args.start c.in-Some.place c.places.ring c.requires.first part).less)

pub places-preserved : goal.places-preserved
places-preserved c =
    let o = c.args.outcome.now in
    let p = path_at o c.args.start in
    let part : IsPart o p c.places.ring (Some c.in-Some.place) = subst (λ (v : Option ℕ). IsPart o p c.places.ring v) c.in-Some.is c.places.invariant in
    let path : c.in_ok-copy-2.field-0 ≡ path_at o c.in-Some.place = c.in_ok-copy-2.ensures
    ∙ path_read o c.in-Some.place c.index-waits-place.result c.as_slice-waits.result.now c.as_slice-waits.ensures (part_first o p c.in-Some.place c.places.ring part).below in
    let ring : c.places.ring ++ path_at o c.in-Some.place ∷ [] ≡ c.push-in-Some.new.self =
    sym (c.in_ok-push-2.ensures.ok ∙ ap (λ (x : Pairs). c.places.ring ++ x ∷ []) path) in
    let at : place_behind (next_places o) c.args.start c.in-Some.place ≡ c.place_behind-at-in-Some.result =
    sym (c.place_behind-at-in-Some.ensures ∙ ap (λ (l : List (Option ℕ)). place_behind l c.args.start c.in-Some.place) c.requires.next) in
    subst (λ (l : List Pairs). IsPart o p l c.place_behind-at-in-Some.result) ring
    (subst (λ (v : Option ℕ). IsPart o p (c.places.ring ++ path_at o c.in-Some.place ∷ []) v) at (part_further o c.args.start c.in-Some.place c.places.ring c.requires.first part).part)
