-- What is passed to a unit: port words that leave the caller come to the callee, and what is given back fits.
use Rattle.std.proofs.Common.{◌≡◌, ◌⊎◌, inl, inr, ℕ, suc, ◌+◌, ◌≤◌, ℤ, pos, Bool, true, false, not, cond, ◌&&◌, ◌==◌, Option, Some, None, List, [], ◌∷◌, ◌++◌, length, refl, sym, ap, subst, ◌∙◌, arith}
use Rattle.std.specs.Prelude.{nat_le}
use Rattle.std.specs.List.{AllByRecursion}
use Rattle.std.proofs.lemmas.List.{length-replicate}
use Rattle.std.proofs.lemmas.Bool.{and_parts, and_from, eqb-true, le-leb, lt-ltb, le-ltb}
use Rattle.fm_code.specs.declared.ask.Operand.{Operand}
use Rattle.fm_code.specs.declared.ask.Operand.TheVariants as operand
use Rattle.fm_code.specs.declared.code.Formal.{Formal}
use Rattle.fm_code.specs.declared.code.Span.{Span}
use Rattle.fm_code.specs.Acts.{span_of}
use Rattle.fm_code.specs.Passing.{Passed, back_of, nulls, pass, pass_all, spliced}
use Rattle.fm_code_kinds.specs.declared.sorts.Cell.{Cell}
use Rattle.fm_code_kinds.specs.declared.sorts.Sort.{Sort}
use Rattle.fm_code_kinds.specs.declared.kinds.Passed as kinds_passed
use Rattle.fm_code_kinds.specs.declared.kinds.Passed.TheVariants as pass_kind
use Rattle.fm_code_kinds.specs.Shapes.{are_words, cell_span, formal_at, is_port, is_word, same_sort, sort_at, sort_in, words_of}
use Rattle.fm_code_kinds.specs.Effects.{fit_formals, fits_cell, fits_room, sized}
use Rattle.fm_code_kinds.specs.Fitting.{AllFit, OperandFits}
use Rattle.fm_code_kinds.specs.Bodies.{AreFormals, formal_of}
use Rattle.fm_code_kinds.proofs.Places.{AreInside, sorted_inside}
use Rattle.fm_code_preserves.specs.Rooms.{AreLaid, BackFits, BacksFit, IsRoom, is_port_word}
use Rattle.fm_code_preserves.specs.Weights.{masked}
use Rattle.fm_code_preserves.proofs.Masks.{full, nulls_weigh, over_before, over_later, over_length, over_plain, over_ports, some_weigh, under, under_length}
use Rattle.fm_code_preserves.proofs.Sorted.{plain_room, room_words}
use Rattle.fm_code_preserves.proofs.Endings.{one_room, port_room}

some_is : {A : Type 0} (x y : A) → ◌≡◌ {A = Option A} (Some x) (Some y) → x ≡ y
some_is x y e = cc

-- ---- cells that are laid out

-- the cell of a formal: where it begins, and that its words are its own
pub record IsLaidAt (n : ℕ) (cs : List Cell) (c : Cell) : Type 0 where
  pub low : n ≤ c.first
  pub some : 1 ≤ c.words
  pub at : sort_at cs (cell_span c) ≡ Some c.sort

own_cell : (c : Cell) (cs : List Cell) → 1 ≤ c.words → sort_at (c ∷ cs) (cell_span c) ≡ Some c.sort
own_cell c cs h =
    rw (lt-ltb c.first (c.first + c.words) (omega (arith, h)))
    (rw (and_from (nat_le c.first c.first) (nat_le (c.first + c.words) (c.first + c.words)) (le-leb c.first c.first (omega arith)) (le-leb (c.first + c.words) (c.first + c.words) (omega arith))) refl)

pub formal_laid : (n : ℕ) (cs : List Cell) → AreLaid n cs → (k : ℕ) (c : Cell) → formal_at cs k ≡ Some c → IsLaidAt n cs c
formal_laid n [] laid k c e = absurd cc
formal_laid n (d ∷ cs) laid k c e = go (d.formal == k) e (formal_laid (n + d.words) cs laid.2 k c)
  where
    go : (b : Bool) → cond b (Some d) (formal_at cs k) ≡ Some c → (formal_at cs k ≡ Some c → IsLaidAt (n + d.words) cs c) → IsLaidAt n (d ∷ cs) c
    go true h more = subst (IsLaidAt n (d ∷ cs)) (some_is d c h) (record { low = omega (arith, laid.0); some = laid.1; at = own_cell d cs laid.1 })
    go false h more =
        let m = more h in
        record {
          low = omega (arith, m.low);
          some = m.some;
          at = ap (λ (b : Bool). cond b (sort_in d (cell_span c)) (sort_at cs (cell_span c))) (le-ltb c.first (d.first + d.words) (omega (arith, m.low, laid.0))) ∙ m.at;
        }

formal_is : (cs : List Cell) (k : ℕ) (c : Cell) → formal_at cs k ≡ Some c → c.formal ≡ k
formal_is [] k c e = absurd cc
formal_is (d ∷ cs) k c e = go (d.formal == k) refl e (formal_is cs k c)
  where
    go : (b : Bool) → (d.formal == k) ≡ b → cond b (Some d) (formal_at cs k) ≡ Some c → (formal_at cs k ≡ Some c → c.formal ≡ k) → c.formal ≡ k
    go true is h more = ap (λ (x : Cell). x.formal) (sym (some_is d c h)) ∙ eqb-true d.formal k is
    go false is h more = more h

-- two formals have words apart
pub formals_apart : (n : ℕ) (cs : List Cell) → AreLaid n cs → (j k : ℕ) (c d : Cell) → formal_at cs j ≡ Some c → formal_at cs k ≡ Some d → (j ≡ k → ⊥) → (c.first + c.words ≤ d.first) ⊎ (d.first + d.words ≤ c.first)
formals_apart n [] laid j k c d e f off = absurd cc
formals_apart n (x ∷ cs) laid j k c d e f off =
    go (x.formal == j) (x.formal == k) refl refl e f (formals_apart (n + x.words) cs laid.2 j k c d) (formal_laid (n + x.words) cs laid.2 j c) (formal_laid (n + x.words) cs laid.2 k d)
  where
    go : (a b : Bool) → (x.formal == j) ≡ a → (x.formal == k) ≡ b → cond a (Some x) (formal_at cs j) ≡ Some c → cond b (Some x) (formal_at cs k) ≡ Some d
        → (formal_at cs j ≡ Some c → formal_at cs k ≡ Some d → (j ≡ k → ⊥) → (c.first + c.words ≤ d.first) ⊎ (d.first + d.words ≤ c.first))
        → (formal_at cs j ≡ Some c → IsLaidAt (n + x.words) cs c) → (formal_at cs k ≡ Some d → IsLaidAt (n + x.words) cs d)
        → (c.first + c.words ≤ d.first) ⊎ (d.first + d.words ≤ c.first)
    go true true p q g h more here there = absurd (off (sym (eqb-true x.formal j p) ∙ eqb-true x.formal k q))
    go true false p q g h more here there =
        let same = some_is x c g in
        let later = there h in
        inl (omega (arith, laid.0, later.low, ap (λ (y : Cell). y.first) same, ap (λ (y : Cell). y.words) same))
    go false true p q g h more here there =
        let same = some_is x d h in
        let later = here g in
        inr (omega (arith, laid.0, later.low, ap (λ (y : Cell). y.first) same, ap (λ (y : Cell). y.words) same))
    go false false p q g h more here there = more g h off

-- ---- operands

-- an operand for words of this sort, so many
abbrev pub HasRoom : List Cell → Sort → ℕ → Operand → Type 0
HasRoom cells q n (operand.Value v) = (is_port q ≡ false) × (n ≡ 1)
HasRoom cells q n (operand.Words s) = (is_port q ≡ false) × (s.count ≡ n) × IsRoom cells s false
HasRoom cells q n (operand.Ports s) = (is_port q ≡ true) × (s.count ≡ n) × IsRoom cells s true

plain : (q : Sort) → is_word q ≡ true → is_port q ≡ false
plain q e = ap not e

module _ (cells : List Cell) where
  sized_count : (k n : ℕ) (o : Option Sort) (q : Sort) → sized k n o q ≡ true → k ≡ n
  sized_count k n None q e = absurd cc
  sized_count k n (Some t) q e = eqb-true k n (and_parts (k == n) (same_sort t q) e).0

  abbrev HasRooms : Sort → ℕ → Operand → Type 0
  HasRooms = HasRoom cells

  pub room_of : (q : Sort) (n : ℕ) (p : kinds_passed.Passed) (o : Operand) → OperandFits p o → fits_room cells q n p ≡ true → HasRoom cells q n o
  room_of q n pass_kind.Value (operand.Value v) is e =
      let a = and_parts (is_word q) (n == 1) e in
      (plain q a.0, eqb-true n 1 a.1)
  room_of q n pass_kind.Value (operand.Words s) is e = absurd is
  room_of q n pass_kind.Value (operand.Ports s) is e = absurd is
  room_of q n (pass_kind.Words t) (operand.Value v) is e = absurd is
  room_of q n (pass_kind.Words t) (operand.Words s) is e =
      let a = and_parts (is_word q) ((t.count == n) && are_words cells t) e in
      let b = and_parts (t.count == n) (are_words cells t) a.1 in
      subst (λ (x : Span). HasRoom cells q n (operand.Words x)) is (plain q a.0, eqb-true t.count n b.0, plain_room cells t b.1)
  room_of q n (pass_kind.Words t) (operand.Ports s) is e = absurd is
  room_of q n (pass_kind.Ports t) (operand.Value v) is e = absurd is
  room_of q n (pass_kind.Ports t) (operand.Words s) is e = absurd is
  room_of q n (pass_kind.Ports t) (operand.Ports s) is e =
      let a = and_parts (is_port q) (sized t.count n (sort_at cells t) q) e in
      subst (λ (x : Span). HasRoom cells q n (operand.Ports x)) is (a.0, sized_count t.count n (sort_at cells t) q a.1, port_room cells t n q t.count a.0 a.1)
  room_of q n (pass_kind.WordIn t) (operand.Value v) is e = absurd is
  room_of q n (pass_kind.WordIn t) (operand.Words s) is e =
      let a = and_parts (is_word q) ((n == 1) && are_words cells t) e in
      let b = and_parts (n == 1) (are_words cells t) a.1 in
      (plain q a.0, is.single ∙ sym (eqb-true n 1 b.0), one_room cells t s false is (plain_room cells t b.1))
  room_of q n (pass_kind.WordIn t) (operand.Ports s) is e = absurd is
  room_of q n (pass_kind.PortIn t) (operand.Value v) is e = absurd is
  room_of q n (pass_kind.PortIn t) (operand.Words s) is e = absurd is
  room_of q n (pass_kind.PortIn t) (operand.Ports s) is e =
      let a = and_parts (is_port q) (sized 1 n (sort_at cells t) q) e in
      (a.0, is.single ∙ sized_count 1 n (sort_at cells t) q a.1, one_room cells t s true is (port_room cells t n q 1 a.0 a.1))
  room_of q n (pass_kind.Sized k) (operand.Value v) is e = absurd cc
  room_of q n (pass_kind.Sized k) (operand.Words s) is e = absurd cc
  room_of q n (pass_kind.Sized k) (operand.Ports s) is e = absurd is

-- ---- what is passed

pub all_more : {X : Type 0} (P : X → Type 0) (xs ys : List X) → AllByRecursion P xs → AllByRecursion P ys → AllByRecursion P (xs ++ ys)
all_more P [] ys a b = b
all_more P (x ∷ xs) ys a b = (a.0, all_more P xs ys a.1 b)

-- how words and backs are while operands are passed
pub record PassedSo (mine theirs : List Cell) (p : Passed) : Type 0 where
  pub mine_count : length p.mine ≡ words_of mine
  pub theirs_count : length p.theirs ≡ words_of theirs
  pub backs : BacksFit mine theirs p.backs

-- nothing came yet to the formals from this place on
abbrev pub AreFree : List Cell → ℕ → List ℤ → Type 0
AreFree theirs n ws = (k : ℕ) (d : Cell) → n ≤ k → formal_at theirs k ≡ Some d → (g : ℤ → ℕ) → full g (under ws d.first d.words) ≡ 0

abbrev pub both_weigh : (mine theirs : List Cell) → (ℤ → ℕ) → Passed → ℕ
both_weigh mine theirs g p = masked (is_port_word mine) g 0 p.mine + masked (is_port_word theirs) g 0 p.theirs

pub record GoesOver (mine theirs : List Cell) (p after : Passed) : Type 0 where
  pub so : PassedSo mine theirs after
  pub weighs : (g : ℤ → ℕ) → both_weigh mine theirs g after ≡ both_weigh mine theirs g p

module _ (mine theirs : List Cell) (inside : AreInside (words_of mine) mine) (within : AreInside (words_of theirs) theirs) (laid : AreLaid 0 theirs) where
  room_inside : (s : Span) (b : Bool) → IsRoom mine s b → s.first + s.count ≤ words_of mine
  room_inside s b r = sorted_inside (words_of mine) mine inside s r.sort r.at

  module _ (n : ℕ) (c : Cell) (formal : formal_at theirs n ≡ Some c) where
    laid_at : IsLaidAt 0 theirs c
    laid_at = formal_laid 0 theirs laid n c formal

    room : IsRoom theirs (cell_span c) (is_port c.sort)
    room = record { sort = c.sort; at = laid_at.at; port_is = refl }

    room_end : c.first + c.words ≤ words_of theirs
    room_end = sorted_inside (words_of theirs) theirs within (cell_span c) c.sort laid_at.at

    -- words over the formal leave later ones free
    still_free : (ws ns : List ℤ) → length ws ≡ words_of theirs → length ns ≡ c.words → AreFree theirs n ws → AreFree theirs (suc n) (spliced ws c.first ns)
    still_free ws ns count size free k d low at g = go (formals_apart 0 theirs laid n k c d formal at (λ e. absurd (omega (arith, e, low))))
      where
        le : c.first + length ns ≤ length ws
        le = omega (arith, count, size, room_end)

        before : full g (under ws d.first d.words) ≡ 0
        before = free k d (omega (arith, low)) at g

        go : (c.first + c.words ≤ d.first) ⊎ (d.first + d.words ≤ c.first) → full g (under (spliced ws c.first ns) d.first d.words) ≡ 0
        go (inl past) = ap (full g) (over_later ws c.first ns d.first d.words le (omega (arith, past, size))) ∙ before
        go (inr ahead) = ap (full g) (over_before ws c.first ns d.first d.words le (omega (arith, ahead))) ∙ before

    back_fits : (s : Span) (p : Bool) → is_port c.sort ≡ p → s.count ≡ c.words → IsRoom mine s p → BacksFit mine theirs (back_of (formal_of c) s p)
    back_fits s p is size r = go (not c.back)
      where
        given : IsRoom theirs (record { first = c.first; count = s.count }) p
        given = subst (λ (b : Bool). IsRoom theirs (record { first = c.first; count = s.count }) b) is (subst (λ (k : ℕ). IsRoom theirs (record { first = c.first; count = k }) (is_port c.sort)) (sym size) room)

        go : (b : Bool) → BacksFit mine theirs (cond b [] (record { from = c.first; to = s.first; words = s.count; port = p } ∷ []))
        go true = tt
        go false = (record { got = r; given = given }, tt)

    plain_over : (ws ns : List ℤ) → length ws ≡ words_of theirs → length ns ≡ c.words → is_port c.sort ≡ false → (g : ℤ → ℕ) → masked (is_port_word theirs) g 0 (spliced ws c.first ns) ≡ masked (is_port_word theirs) g 0 ws
    plain_over ws ns count size e g =
        over_plain (is_port_word theirs) g ws c.first ns (omega (arith, count, size, room_end))
        (λ k low high. room_words theirs (cell_span c) (is_port c.sort) room k low (omega (arith, high, size)) ∙ e)

    over_count : (ws ns : List ℤ) → length ws ≡ words_of theirs → length ns ≡ c.words → length (spliced ws c.first ns) ≡ words_of theirs
    over_count ws ns count size = over_length (is_port_word theirs) (λ w. 0) ws c.first ns (omega (arith, count, size, room_end)) ∙ count

    pass_one : (o : Operand) → HasRoom mine c.sort c.words o → (p : Passed) → PassedSo mine theirs p → AreFree theirs n p.theirs → GoesOver mine theirs p (pass (formal_of c) o p) × AreFree theirs (suc n) (pass (formal_of c) o p).theirs
    pass_one (operand.Value v) r p so free =
        let size : length (v ∷ []) ≡ c.words = omega (arith, r.1) in (
          record {
            so = record { mine_count = so.mine_count; theirs_count = over_count p.theirs (v ∷ []) so.theirs_count size; backs = so.backs };
            weighs = λ g. ap (λ w. masked (is_port_word mine) g 0 p.mine + w) (plain_over p.theirs (v ∷ []) so.theirs_count size r.0 g);
          },
          still_free p.theirs (v ∷ []) so.theirs_count size free,
        )
    pass_one (operand.Words s) r p so free =
        let end = room_inside s false r.2 in
        let size : length (span_of p.mine s) ≡ c.words = under_length p.mine s.first s.count (omega (arith, end, so.mine_count)) ∙ r.1 in (
          record {
            so = record {
              mine_count = so.mine_count;
              theirs_count = over_count p.theirs (span_of p.mine s) so.theirs_count size;
              backs = all_more (BackFits mine theirs) p.backs (back_of (formal_of c) s false) so.backs (back_fits s false r.0 r.1 r.2);
            };
            weighs = λ g. ap (λ w. masked (is_port_word mine) g 0 p.mine + w) (plain_over p.theirs (span_of p.mine s) so.theirs_count size r.0 g);
          },
          still_free p.theirs (span_of p.mine s) so.theirs_count size free,
        )
    pass_one (operand.Ports s) r p so free =
        let end = room_inside s true r.2 in
        let size : length (span_of p.mine s) ≡ c.words = under_length p.mine s.first s.count (omega (arith, end, so.mine_count)) ∙ r.1 in
        let null_count : length (nulls s.count) ≡ s.count = length-replicate s.count (pos 0) in
        let mine_fits : s.first + length (nulls s.count) ≤ length p.mine = omega (arith, end, so.mine_count, null_count) in
        let theirs_fit : c.first + length (span_of p.mine s) ≤ length p.theirs = omega (arith, so.theirs_count, size, room_end) in (
          record {
            so = record {
              mine_count = over_length (is_port_word mine) (λ w. 0) p.mine s.first (nulls s.count) mine_fits ∙ so.mine_count;
              theirs_count = over_count p.theirs (span_of p.mine s) so.theirs_count size;
              backs = all_more (BackFits mine theirs) p.backs (back_of (formal_of c) s true) so.backs (back_fits s true r.0 r.1 r.2);
            };
            weighs = λ g.
                omega (
                  arith,
                  over_ports (is_port_word mine) g p.mine s.first (nulls s.count) mine_fits (λ k low high. room_words mine s true r.2 k low (omega (arith, high, null_count))),
                  nulls_weigh g s.count,
                  ap (λ k. full g (under p.mine s.first k)) null_count,
                  over_ports (is_port_word theirs) g p.theirs c.first (span_of p.mine s) theirs_fit (λ k low high. room_words theirs (cell_span c) (is_port c.sort) room k low (omega (arith, high, size)) ∙ r.0),
                  ap (λ k. full g (under p.theirs c.first k)) size,
                  free n c (omega arith) formal g,
                );
          },
          still_free p.theirs (span_of p.mine s) so.theirs_count size free,
        )

  -- ---- all operands

  abbrev Over : Passed → Passed → Type 0
  Over = GoesOver mine theirs

  pass_more : (n : ℕ) (fs : List Formal) (ps : List kinds_passed.Passed) (os : List Operand) → AreFormals theirs n fs → fit_formals mine theirs n ps ≡ true → AllFit ps os
      → (p : Passed) → PassedSo mine theirs p → AreFree theirs n p.theirs → GoesOver mine theirs p (pass_all fs os p)
  pass_more n [] ps os formals e all p so free = record { so = so; weighs = λ g. refl }
  pass_more n (f ∷ fs) ps [] formals e all p so free = record { so = so; weighs = λ g. refl }
  pass_more n (f ∷ fs) [] (o ∷ os) formals e all p so free = absurd all
  pass_more n (f ∷ fs) (q ∷ ps) (o ∷ os) formals e all p so free =
      let c = formals.0.0 in
      let a = and_parts (fits_cell mine q (formal_at theirs n)) (fit_formals mine theirs (suc n) ps) e in
      let here : fits_room mine c.sort c.words q ≡ true = ap (fits_cell mine q) (sym formals.0.1) ∙ a.0 in
      let one = pass_one n c formals.0.1 o (room_of mine c.sort c.words q o all.0 here) p so free in
      let rest = pass_more (suc n) fs ps os formals.1 a.1 all.1 (pass (formal_of c) o p) one.0.so one.1 in
      subst (λ (h : Formal). GoesOver mine theirs p (pass_all fs os (pass h o p))) (sym formals.0.2)
      (record { so = rest.so; weighs = λ g. rest.weighs g ∙ one.0.weighs g })

  -- operands that fit go over to a frame in which nothing stands yet
  pub passed_over : (fs : List Formal) (ps : List kinds_passed.Passed) (os : List Operand) → AreFormals theirs 1 fs → fit_formals mine theirs 1 ps ≡ true → AllFit ps os
      → (ws : List ℤ) (count : ℕ) → length ws ≡ words_of mine → count ≡ words_of theirs
      → GoesOver mine theirs (record { mine = ws; theirs = nulls count; backs = [] }) (pass_all fs os (record { mine = ws; theirs = nulls count; backs = [] }))
  passed_over fs ps os formals e all ws count mine_count theirs_count =
      pass_more 1 fs ps os formals e all (record { mine = ws; theirs = nulls count; backs = [] })
      (record { mine_count = mine_count; theirs_count = length-replicate count (pos 0) ∙ theirs_count; backs = tt })
      (λ k d low at g. omega (arith, some_weigh g (nulls count) d.first d.words, nulls_weigh g count))
