-- What the children give back comes to their parent, or is let go.
use Rattle.std.proofs.Common.{◌≡◌, ℕ, ◌+◌, ℤ, Bool, true, false, ◌==◌, Option, Some, None, List, [], ◌∷◌, ◌++◌, length, slice_get, refl, sym, ap, subst, ◌∙◌, arith}
use Rattle.std.specs.List.{AllByRecursion, flat_map}
use Rattle.std.proofs.lemmas.Bool.{eqb-true}
use Rattle.fm_base.specs.declared.port.PortValue.{PortValue}
use Rattle.fm_code.specs.declared.body.Back.{Back}
use Rattle.fm_code.specs.declared.body.Body.{Body}
use Rattle.fm_code.specs.declared.code.Span.{Span}
use Rattle.fm_code.specs.Passing.{given_span, got_span, ports_in}
use Rattle.fm_code.specs.Statements.{left_ports, ports_of, unit_at}
use Rattle.fm_code_kinds.specs.declared.sorts.Cell.{Cell}
use Rattle.fm_code_kinds.specs.declared.sorts.Shape.{Shape}
use Rattle.fm_code_kinds.specs.declared.sorts.Shapes.{Shapes}
use Rattle.fm_code_kinds.specs.Effects.{cells_of}
use Rattle.fm_code_kinds.specs.Shapes.{words_of}
use Rattle.fm_code_kinds.proofs.Places.{AreInside, sorted_inside}
use Rattle.fm_net.specs.Lawful.{holds, sum_of}
use Rattle.fm_net.specs.Owned.{count}
use Rattle.fm_net.specs.Typed.{AllIn}
use Rattle.fm_net.proofs.Counts.{count-nil}
use Rattle.fm_code_preserves.specs.Rooms.{BacksFit, IsLaidCode, IsRoom, cells_at, is_port_word}
use Rattle.fm_code_preserves.specs.Standing.{HasWords}
use Rattle.fm_code_preserves.specs.Weights.{body_ports, weight}
use Rattle.fm_code_preserves.proofs.Keeps.{frames_in, starts_in}
use Rattle.fm_code_preserves.proofs.Masks.{weight-append}
use Rattle.fm_code_preserves.proofs.Sorted.{frame_weighs, room_words}
use Rattle.fm_proc_language.specs.Slots.{Slots}
use Rattle.fm_proc_language.specs.Frames.{Joined}
use Rattle.fm_proc_language.specs.Processes.{CodeProc, Kid, code_language, frame_words, given_back, held_by, kid_back, kids_back, rest_dropped}
use Rattle.fm_proc_invariant.specs.Moves.{IsUsed, port_weight, same_word}
use Rattle.fm_proc_invariant.specs.Held.{AreMasked, BackIsMasked, BothUsed, Gives, UsedBy, with_others}
use Rattle.fm_proc_invariant.proofs.Exchange.{others_weigh}
use Rattle.fm_proc_invariant.proofs.Joins.{drop_rest, give_all, gives_none}
use Rattle.fm_proc_invariant.specs.Good.{HasGoodBody, IsGood, KidFits}
use Rattle.fm_proc_invariant.proofs.Steps.{holds_weighs}

module _ (ss : Shapes) where
  abbrev mask_of : ℕ → ℕ → Bool
  mask_of n = is_port_word (cells_at ss n)

  -- a room of a frame that has the words of its unit
  pub room_is : (n : ℕ) (u : Shape) (count : ℕ) → AreInside (words_of u.cells) u.cells → slice_get ss.units n ≡ Some u → count ≡ words_of (cells_at ss n) → (s : Span) (p : Bool) → IsRoom (cells_at ss n) s p → AreMasked (mask_of n) count s p
  room_is n u count inside there e s p r =
      let cells : cells_at ss n ≡ u.cells = ap cells_of there in
      let within : AreInside (words_of (cells_at ss n)) (cells_at ss n) = subst (λ (cs : List Cell). AreInside (words_of cs) cs) (sym cells) inside in
      record {
        end = omega (arith, sorted_inside (words_of (cells_at ss n)) (cells_at ss n) within s r.sort r.at, e);
        kind = λ k low high. room_words (cells_at ss n) s p r k low high;
      }

  -- ---- a child

  module _ (slots : Slots) (c : Body) (laid : IsLaidCode ss c.code) (has : HasWords ss c.frame) where
    abbrev pub their_others : List ℤ
    their_others = starts_in c.code c.frame.starts ++ frames_in c.code c.below

    -- all that it has, with these words in its own frame
    pub child_weighs : (ws : List ℤ) → length ws ≡ length c.frame.words → (g : ℤ → ℕ)
        → weight g (left_ports c ws ++ flat_map (frame_words c) c.below) ≡ weight g (with_others (mask_of c.frame.unit) ws their_others)
    child_weighs ws count g = omega (
      arith,
      weight-append g (left_ports c ws) (flat_map (frame_words c) c.below),
      weight-append g (ports_in (ports_of (unit_at c c.frame.unit)) ws) (starts_in c.code c.frame.starts),
      frame_weighs ss c laid c.frame.unit has.unit has.there ws (count ∙ has.words) g,
      others_weigh (mask_of c.frame.unit) ws their_others g,
      weight-append g (starts_in c.code c.frame.starts) (frames_in c.code c.below),
    )

    body_weighs : (g : ℤ → ℕ) → weight g (body_ports c) ≡ weight g (with_others (mask_of c.frame.unit) c.frame.words their_others)
    body_weighs g = child_weighs c.frame.words refl g

    pub child_used : IsUsed slots (body_ports c) → UsedBy (mask_of c.frame.unit) their_others (record { words = c.frame.words; slots = slots })
    child_used used = record { slots = used.slots; once = λ w. omega (arith, used.once w, body_weighs (same_word w)) }

  -- ---- what comes back

  module _ (parent : ℕ) (u : Shape) (inside : AreInside (words_of u.cells) u.cells) (there : slice_get ss.units parent ≡ Some u) (my_others : List ℤ) where
    abbrev mine : ℕ → Bool
    mine = mask_of parent

    -- how the parent is then, with what was let go
    pub record ComesBack (j after : Joined) (came : PortValue → ℕ) : Type 0 where
      pub used : UsedBy mine my_others after.mine
      pub same_count : length after.mine.words ≡ length j.mine.words
      pub same : (z : PortValue) → weight (port_weight after.mine.slots z) (with_others mine after.mine.words my_others) + count z after.drops
          ≡ weight (port_weight j.mine.slots z) (with_others mine j.mine.words my_others) + count z j.drops + came z

    backs_masked : (k : Kid) (c : Body) (has : HasWords ss c.frame) → IsLaidCode ss c.code → c.frame.unit ≡ k.unit → (n : ℕ) → n ≡ words_of (cells_at ss parent) → (bs : List Back) → BacksFit (cells_at ss parent) (cells_at ss k.unit) bs
        → AllByRecursion (BackIsMasked mine (mask_of c.frame.unit) n (length c.frame.words)) bs
    backs_masked k c has laid same n count [] fits = tt
    backs_masked k c has laid same n count (b ∷ bs) fits =
        let given : IsRoom (cells_at ss c.frame.unit) (given_span b) b.port = subst (λ (i : ℕ). IsRoom (cells_at ss i) (given_span b) b.port) (sym same) fits.0.given in (
          record {
            got = room_is parent u n inside there count (got_span b) b.port fits.0.got;
            given = room_is c.frame.unit has.unit (length c.frame.words) (laid.typed.within c.frame.unit has.unit has.there) has.there has.words (given_span b) b.port given;
          },
          backs_masked k c has laid same n count bs fits.1,
        )

    -- a child with a body
    module _ (k : Kid) (fits : KidFits ss parent k) (slots : Slots) (c : Body) (laid : IsLaidCode ss c.code) (has : HasWords ss c.frame) (child : IsUsed slots (body_ports c)) (j : Joined) (used : UsedBy mine my_others j.mine) (count : length j.mine.words ≡ words_of (cells_at ss parent)) where
      abbrev theirs : ℕ → Bool
      theirs = mask_of c.frame.unit

      abbrev others : List ℤ
      others = starts_in c.code c.frame.starts ++ frames_in c.code c.below

      abbrev begun : Joined
      begun = record j { theirs = record { words = c.frame.words; slots = slots } }

      both : BothUsed mine theirs my_others others begun
      both = record { mine_used = used; theirs_used = child_used slots c laid has child }

      given_over : (t : Bool) → (c.frame.unit == k.unit) ≡ t → Gives mine theirs my_others others begun (given_back t begun k.backs)
      given_over true e = give_all mine theirs my_others others k.backs begun (backs_masked k c has laid (eqb-true c.frame.unit k.unit e) (length j.mine.words) count k.backs fits.backs) both
      given_over false e = gives_none mine theirs my_others others begun both

      pub one_back : ComesBack j (rest_dropped c (given_back (c.frame.unit == k.unit) begun k.backs)) (λ x. weight (port_weight slots x) (body_ports c))
      one_back =
          let after = given_back (c.frame.unit == k.unit) begun k.backs in
          let gives = given_over (c.frame.unit == k.unit) refl in
          let rest = left_ports c after.theirs.words ++ flat_map (frame_words c) c.below in
          let drop = drop_rest mine theirs my_others others after rest (λ g. child_weighs slots c laid has after.theirs.words gives.theirs_count g) gives.used in
          record {
            used = drop.used;
            same_count = gives.mine_count;
            same = λ x. omega (arith, drop.same x, gives.same x, body_weighs slots c laid has (port_weight slots x));
          }

    no_body : (z : CodeProc) → z.body ≡ None → (x : PortValue) → holds code_language x z ≡ 0
    no_body z e x = ap (λ (o : Option Body). count x (held_by o z.slots)) e ∙ count-nil x

    -- one child
    kid_over : (k : Kid) → KidFits ss parent k → (z : CodeProc) → IsGood ss z → (j : Joined) → UsedBy mine my_others j.mine → length j.mine.words ≡ words_of (cells_at ss parent) → ComesBack j (kid_back j k z.slots z.body) (λ x. holds code_language x z)
    kid_over k fits z good j used count = go z.body refl good.body
      where
        go : (o : Option Body) → z.body ≡ o → HasGoodBody ss z.phase z.slots o → ComesBack j (kid_back j k z.slots o) (λ x. holds code_language x z)
        go None e h = record { used = used; same_count = refl; same = λ x. omega (arith, no_body z e x) }
        go (Some c) e h =
            let one = one_back k fits z.slots c h.laid h.words h.used j used count in
            record { used = one.used; same_count = one.same_count; same = λ x. omega (arith, one.same x, holds_weighs z c e x) }

    no_kid : KidFits ss parent (record { unit = 0; backs = [] })
    no_kid = record { backs = tt }

    -- all children, in order
    pub kids_over : (zs : List CodeProc) (kids : List Kid) (j : Joined) → AllByRecursion (KidFits ss parent) kids → AllIn (IsGood ss) zs → UsedBy mine my_others j.mine → length j.mine.words ≡ words_of (cells_at ss parent) → ComesBack j (kids_back j kids zs) (λ x. sum_of (holds code_language x) zs)
    kids_over [] kids j fits good used count = none kids
      where
        none : (kids : List Kid) → ComesBack j (kids_back j kids []) (λ x. 0)
        none [] = record { used = used; same_count = refl; same = λ x. omega arith }
        none (k ∷ kids) = record { used = used; same_count = refl; same = λ x. omega arith }
    kids_over (z ∷ zs) [] j fits good used count =
        let one = kid_over (record { unit = 0; backs = [] }) no_kid z good.0 j used count in
        let rest = kids_over zs [] (kid_back j (record { unit = 0; backs = [] }) z.slots z.body) tt good.1 one.used (one.same_count ∙ count) in
        record { used = rest.used; same_count = rest.same_count ∙ one.same_count; same = λ x. omega (arith, rest.same x, one.same x) }
    kids_over (z ∷ zs) (k ∷ kids) j fits good used count =
        let one = kid_over k fits.0 z good.0 j used count in
        let rest = kids_over zs kids (kid_back j k z.slots z.body) fits.1 good.1 one.used (one.same_count ∙ count) in
        record { used = rest.used; same_count = rest.same_count ∙ one.same_count; same = λ x. omega (arith, rest.same x, one.same x) }
