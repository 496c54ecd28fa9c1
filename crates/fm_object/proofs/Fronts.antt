-- The line that is told is the first one: no text of an image has the lines up to it.
use Rattle.std.proofs.Common.{◌≡◌, ℕ, zero, suc, ◌+◌, ◌-◌, ◌≤◌, ◌<◌, Bool, true, false, not, ◌&&◌, ◌==◌, cond, List, [], ◌∷◌, ◌++◌, length, Option, Some, None, Result, Ok, Err, refl, sym, ap, subst, ◌∙◌, append_assoc, arith}
use Rattle.std.specs.Prelude.{codes, ℤ}
use Rattle.std.specs.Fmt.{decimal, signed_decimal}
use Rattle.std.specs.Int.{w64}
use Rattle.std.specs.Int.RustNames.{FitsSigned}
use Rattle.std.proofs.lemmas.Bool.{eq-eqb, ne_eqb, and_parts, not-true}
use Rattle.std.proofs.lemmas.Fmt.{digits_decimal}
use Rattle.fm_code.specs.declared.instr.Instr.{Instr}
use Rattle.fm_code.specs.Parts.{parts_of}
use Rattle.fm_object.specs.declared.image.FieldImage.{FieldImage}
use Rattle.fm_object.specs.declared.image.Cell.{Cell}
use Rattle.fm_object.specs.declared.image.Image.{Image}
use Rattle.fm_code.specs.declared.code.Entry.{Entry}
use Rattle.fm_object.specs.Texts.{first_lines, word, number, signed, field_text, cell_text, entry_text, instr_text, head_text, object_text, IsShort, IsName, FieldFits, CellFits, EntryFits, InstrFits, IsImage}
use Rattle.fm_object.specs.Reading.{◌>>◌, Place, UnitHead, HeadFits, lined, one_line, many, type_read, unit_read, ended, from_first, image_read, head_line, count_line, field_line, cell_line, entry_line, unit_head_line, instr_line}
use Rattle.fm_object.proofs.WordLaws.{some, Avoids, own, digits_avoid, signed_avoids, name_avoids}
use Rattle.fm_object.proofs.LineLaws.{head_line_text, end10, count_takes, count_again, field_takes, field_again, cell_takes, cell_again, entry_takes, entry_again, instr_takes, instr_again, unit_head_takes, unit_head_again}
use Rattle.fm_object.proofs.Exact.{bind_ok, ok_is, at}
use Rattle.fm_object.proofs.Images.{image_again, head_takes, head_again}

-- ---- lines

pub front_line : (j : ℕ) (w r : List ℕ) → Avoids 10 w → first_lines (suc j) (w ++ 10 ∷ r) ≡ w ++ 10 ∷ first_lines j r
front_line j [] r avoids = refl
front_line j (c ∷ w) r avoids = rw avoids.0 (ap (λ (t : List ℕ). c ∷ t) (front_line j w r avoids.1))

abbrev heads : List ℕ → List ℕ → Type 0
heads [] [] = Unit {0}
heads [] (d ∷ ds) = ⊥
heads (c ∷ cs) [] = ⊥
heads (c ∷ cs) (d ∷ ds) = (c ≡ d) × (cs ≡ ds)

same_heads : (a b : List ℕ) → a ≡ b → heads a b
same_heads a b e = subst (heads a) e (self a)
  where
    self : (a : List ℕ) → heads a a
    self [] = tt
    self (c ∷ cs) = (refl, refl)

-- what begins with the same line
front_back : (j : ℕ) (w bs t : List ℕ) → Avoids 10 w → first_lines (suc j) bs ≡ w ++ 10 ∷ t → (r : List ℕ) × (bs ≡ w ++ 10 ∷ r) × (first_lines j r ≡ t)
front_back j [] [] t avoids e = absurd (same_heads [] (10 ∷ t) e)
front_back j [] (b ∷ bs) t avoids e =
    let h = same_heads (first_lines (suc j) (b ∷ bs)) (10 ∷ t) e in
    let behind : first_lines j bs ≡ t = ap (λ (c : Bool). cond c (first_lines j bs) (first_lines (suc j) bs)) (sym (eq-eqb b 10 h.0)) ∙ h.1 in
    (bs, ap (λ (c : ℕ). c ∷ bs) h.0, behind)
front_back j (c ∷ w) [] t avoids e = absurd (same_heads [] (c ∷ (w ++ 10 ∷ t)) e)
front_back j (c ∷ w) (b ∷ bs) t avoids e =
    let h = same_heads (first_lines (suc j) (b ∷ bs)) (c ∷ (w ++ 10 ∷ t)) e in
    let no : (b == 10) ≡ false = ap (λ (x : ℕ). x == 10) h.0 ∙ avoids.0 in
    let behind : first_lines (suc j) bs ≡ w ++ 10 ∷ t = ap (λ (x : Bool). cond x (first_lines j bs) (first_lines (suc j) bs)) (sym no) ∙ h.1 in
    let r = front_back j w bs t avoids.1 behind in
    (r.0, ap (λ (x : ℕ). x ∷ bs) h.0 ∙ ap (λ (x : List ℕ). c ∷ x) r.1, r.2)

-- ---- readers that look at the lines that they read alone

-- the same lines below this one
pub record Agree (k : ℕ) (p q : Place) : Type 0 where
  pub line : p.line ≡ q.line
  pub rest : first_lines (k - p.line) p.rest ≡ first_lines (k - p.line) q.rest

-- a text is one line
pub record Closed (t : List ℕ) : Type 0 where
  pub words : List ℕ
  pub is : t ≡ words ++ 10 ∷ []
  pub avoids : Avoids 10 words

abbrev failed : {A : Type 0} → ℕ → Result A ℕ
failed n = Err n

err_is : {A : Type 0} (n m : ℕ) → failed {A = A} n ≡ failed {A = A} m → n ≡ m
err_is n m e = cc

module _ {X : Type 0} where
  pub record Goes (k : ℕ) (read : Place → Result (X × Place) ℕ) (q : Place) (x : X) (r : Place) : Type 0 where
    pub place : Place
    pub reads : read q ≡ Ok (x, place)
    pub agree : Agree k r place

  pub record Local (read : Place → Result (X × Place) ℕ) : Type 0 where
    pub later : (p : Place) (x : X) (r : Place) → read p ≡ Ok (x, r) → p.line ≤ r.line
    pub told : (p : Place) (m : ℕ) → read p ≡ Err m → p.line ≤ m
    pub ok : (k : ℕ) (p q : Place) → Agree k p q → (x : X) (r : Place) → read p ≡ Ok (x, r) → r.line ≤ k → Goes k read q x r
    pub err : (k : ℕ) (p q : Place) → Agree k p q → (m : ℕ) → read p ≡ Err m → m < k → read q ≡ Err m

  -- of one that ends
  pub record Tells (read : Place → Result X ℕ) : Type 0 where
    pub told : (p : Place) (m : ℕ) → read p ≡ Err m → p.line ≤ m
    pub err : (k : ℕ) (p q : Place) → Agree k p q → (m : ℕ) → read p ≡ Err m → m < k → read q ≡ Err m

  -- ---- one line

  pub line_after : (n : ℕ) (o : Option (X × List ℕ)) (x : X) (q : Place) → lined n o ≡ Ok (x, q) → (o ≡ Some (x, q.rest)) × (q.line ≡ n + 1)
  line_after n None x q e = absurd cc
  line_after n (Some y) x q e =
      let same : (y.0, at (n + 1) y.1) ≡ (x, q) = ok_is (y.0, at (n + 1) y.1) (x, q) e in
      subst (λ (z : X × Place). (some {A = X × List ℕ} (y.0, y.1) ≡ some {A = X × List ℕ} (z.0, z.1.rest)) × (z.1.line ≡ n + 1)) same (refl, refl)

  pub line_told : (n : ℕ) (o : Option (X × List ℕ)) (m : ℕ) → lined n o ≡ Err m → (o ≡ None) × (n ≡ m)
  line_told n None m e = (refl, cc)
  line_told n (Some y) m e = absurd cc

  module _ (read : List ℕ → Option (X × List ℕ)) (text : X → List ℕ) (Fits : X → Type 0) (takes : (bs : List ℕ) (x : X) (r : List ℕ) → read bs ≡ Some (x, r) → (bs ≡ text x ++ r) × Fits x)
      (again : (x : X) (r : List ℕ) → Fits x → read (text x ++ r) ≡ Some (x, r)) (closed : (x : X) → Fits x → Closed (text x)) where
    -- a line that is read at one place is read at another with the same line
    elsewhere : (j : ℕ) (bs cs : List ℕ) → first_lines (suc j) bs ≡ first_lines (suc j) cs → (x : X) (r : List ℕ) → read bs ≡ Some (x, r) → (s : List ℕ) × (read cs ≡ Some (x, s)) × (first_lines j r ≡ first_lines j s)
    elsewhere j bs cs same x r e =
        let t = takes bs x r e in
        let c = closed x t.1 in
        let grouped : (s : List ℕ) → text x ++ s ≡ c.words ++ 10 ∷ s = λ s. ap (λ (z : List ℕ). z ++ s) c.is ∙ append_assoc c.words (10 ∷ []) s in
        let mine : first_lines (suc j) bs ≡ c.words ++ 10 ∷ first_lines j r = ap (first_lines (suc j)) (t.0 ∙ grouped r) ∙ front_line j c.words r c.avoids in
        let b = front_back j c.words cs (first_lines j r) c.avoids (sym same ∙ mine) in
        (b.0, ap read (b.1 ∙ sym (grouped b.0)) ∙ again x b.0 t.1, sym b.2)

    pub one_line_local : Local (one_line read)
    one_line_local = record {
      later = λ p x r e. omega (arith, (line_after p.line (read p.rest) x r e).1);
      told = λ p m e. omega (arith, (line_told p.line (read p.rest) m e).1);
      ok = λ k p q agree x r e le.
          let l = line_after p.line (read p.rest) x r e in
          let j : k - p.line ≡ suc (k - r.line) = omega (arith, l.1, le) in
          let same : first_lines (suc (k - r.line)) p.rest ≡ first_lines (suc (k - r.line)) q.rest = subst (λ (n : ℕ). first_lines n p.rest ≡ first_lines n q.rest) j agree.rest in
          let s = elsewhere (k - r.line) p.rest q.rest same x r.rest l.0 in
          record { place = at (q.line + 1) s.0; reads = ap (lined q.line) s.1; agree = record { line = l.1 ∙ ap (λ (n : ℕ). n + 1) agree.line; rest = s.2 } };
      err = λ k p q agree m e low.
          let l = line_told p.line (read p.rest) m e in
          let j : k - p.line ≡ suc (k - p.line - 1) = omega (arith, l.1, low) in
          let same : first_lines (suc (k - p.line - 1)) q.rest ≡ first_lines (suc (k - p.line - 1)) p.rest = sym (subst (λ (n : ℕ). first_lines n p.rest ≡ first_lines n q.rest) j agree.rest) in
          ap (lined q.line) (none (k - p.line - 1) p.rest q.rest same l.0 (read q.rest) refl) ∙ ap (λ (n : ℕ). Err n) (sym agree.line ∙ l.1);
    }
      where
        none : (j : ℕ) (bs cs : List ℕ) → first_lines (suc j) cs ≡ first_lines (suc j) bs → read bs ≡ None → (o : Option (X × List ℕ)) → read cs ≡ o → read cs ≡ None
        none j bs cs same isnt None e = e
        none j bs cs same isnt (Some y) e = let s = elsewhere j cs bs same y.0 y.1 e in absurd (cc (sym isnt ∙ s.1))

  -- ---- nothing more is read

  pub pure_local : (x : X) → Local (λ p. Ok (x, p))
  pure_local x = record {
    later = λ p y r e. let same : (x, p) ≡ (y, r) = ok_is (x, p) (y, r) e in omega (arith, ap (λ (z : X × Place). z.1.line) same);
    told = λ p m e. absurd (cc e);
    ok = λ k p q agree y r e le. let same : (x, p) ≡ (y, r) = ok_is (x, p) (y, r) e in subst (λ (z : X × Place). Goes k (λ p. Ok (x, p)) q z.0 z.1) same (record { place = q; reads = refl; agree = agree });
    err = λ k p q agree m e low. absurd (cc e);
  }

module _ {X Y : Type 0} where
  -- ---- one after the other

  bind_err : (r : Result (X × Place) ℕ) (f : X × Place → Result Y ℕ) (m : ℕ) → (r >> f) ≡ Err m → (P : Type 0) → (r ≡ Err m → P) → ((x : X × Place) → r ≡ Ok x → f x ≡ Err m → P) → P
  bind_err (Ok x) f m e P a b = b x refl e
  bind_err (Err n) f m e P a b = a (ap (λ (k : ℕ). failed {A = X × Place} k) (err_is {A = Y} n m e))

  pub bind_tells : (r : Place → Result (X × Place) ℕ) (f : X → Place → Result Y ℕ) → Local r → ((x : X) → Tells (f x)) → Tells (λ p. r p >> λ y. f y.0 y.1)
  bind_tells r f local tells = record {
    told = λ p m e. bind_err (r p) (λ y. f y.0 y.1) m e (p.line ≤ m) (λ bad. local.told p m bad) (λ x is bad. omega (arith, local.later p x.0 x.1 is, (tells x.0).told x.1 m bad));
    err = λ k p q agree m e low. bind_err (r p) (λ y. f y.0 y.1) m e ((r q >> λ y. f y.0 y.1) ≡ Err m)
        (λ bad. ap (λ (o : Result (X × Place) ℕ). o >> λ y. f y.0 y.1) (local.err k p q agree m bad low))
        (λ x is bad.
        let g = local.ok k p q agree x.0 x.1 is (omega (arith, (tells x.0).told x.1 m bad, low)) in
        ap (λ (o : Result (X × Place) ℕ). o >> λ y. f y.0 y.1) g.reads ∙ (tells x.0).err k x.1 g.place g.agree m bad low);
  }

  pub bind_local : (r : Place → Result (X × Place) ℕ) (f : X → Place → Result (Y × Place) ℕ) → Local r → ((x : X) → Local (f x)) → Local (λ p. r p >> λ y. f y.0 y.1)
  bind_local r f local more = record {
    later = λ p x t e. let b = bind_ok (r p) (λ y. f y.0 y.1) (x, t) e in omega (arith, local.later p b.0.0 b.0.1 b.1, (more b.0.0).later b.0.1 x t b.2);
    told = λ p m e. two_told p m e;
    ok = λ k p q agree x t e le.
        let b = bind_ok (r p) (λ y. f y.0 y.1) (x, t) e in
        let g = local.ok k p q agree b.0.0 b.0.1 b.1 (omega (arith, (more b.0.0).later b.0.1 x t b.2, le)) in
        let h = (more b.0.0).ok k b.0.1 g.place g.agree x t b.2 le in
        record { place = h.place; reads = ap (λ (o : Result (X × Place) ℕ). o >> λ y. f y.0 y.1) g.reads ∙ h.reads; agree = h.agree };
    err = λ k p q agree m e low. two_err k p q agree m e low;
  }
    where
      cases : (o : Result (X × Place) ℕ) (m : ℕ) → (o >> λ y. f y.0 y.1) ≡ Err m → (P : Type 0) → (o ≡ Err m → P) → ((x : X × Place) → o ≡ Ok x → f x.0 x.1 ≡ Err m → P) → P
      cases (Ok x) m e P a b = b x refl e
      cases (Err n) m e P a b = a (ap (λ (k : ℕ). failed {A = X × Place} k) (err_is {A = Y × Place} n m e))

      two_told : (p : Place) (m : ℕ) → (r p >> λ y. f y.0 y.1) ≡ Err m → p.line ≤ m
      two_told p m e = cases (r p) m e (p.line ≤ m) (λ bad. local.told p m bad) (λ x is bad. omega (arith, local.later p x.0 x.1 is, (more x.0).told x.1 m bad))

      two_err : (k : ℕ) (p q : Place) → Agree k p q → (m : ℕ) → (r p >> λ y. f y.0 y.1) ≡ Err m → m < k → (r q >> λ y. f y.0 y.1) ≡ Err m
      two_err k p q agree m e low = cases (r p) m e ((r q >> λ y. f y.0 y.1) ≡ Err m)
          (λ bad. ap (λ (o : Result (X × Place) ℕ). o >> λ y. f y.0 y.1) (local.err k p q agree m bad low))
          (λ x is bad.
          let g = local.ok k p q agree x.0 x.1 is (omega (arith, (more x.0).told x.1 m bad, low)) in
          ap (λ (o : Result (X × Place) ℕ). o >> λ y. f y.0 y.1) g.reads ∙ (more x.0).err k x.1 g.place g.agree m bad low)

-- ---- several

module _ {X : Type 0} (read : Place → Result (X × Place) ℕ) (local : Local read) where
  pub many_local : (n : ℕ) → Local (many read n)
  unfolding many
  many_local zero = pure_local []
  many_local (suc n) = bind_local read (λ x p. many read n p >> λ xs. Ok (x ∷ xs.0, xs.1)) local (λ x. bind_local (many read n) (λ xs p. Ok (x ∷ xs, p)) (many_local n) (λ xs. pure_local (x ∷ xs)))

-- ---- the texts of lines

abbrev is_within : List ℕ → Bool
is_within [] = true
is_within (c ∷ cs) = not (c == 10) && is_within cs

pub literal : (w : List ℕ) → is_within w ≡ true → Avoids 10 w
literal [] e = tt
literal (c ∷ cs) e = let p = and_parts (not (c == 10)) (is_within cs) e in (not-true (c == 10) p.0, literal cs p.1)

avoids_append : (a b : List ℕ) → Avoids 10 a → Avoids 10 b → Avoids 10 (a ++ b)
avoids_append [] b x y = y
avoids_append (c ∷ a) b x y = (x.0, avoids_append a b x.1 y)

closed_more : (a t : List ℕ) → Avoids 10 a → Closed t → Closed (a ++ t)
closed_more a t avoids c = record {
  words = a ++ c.words;
  is = ap (λ (z : List ℕ). a ++ z) c.is ∙ sym (append_assoc a c.words (10 ∷ []));
  avoids = avoids_append a c.words avoids c.avoids;
}

avoids_decimal : (n : ℕ) → IsShort n → Avoids 10 (decimal n)
avoids_decimal n short = digits_avoid 10 end10 (decimal n) (digits_decimal own n (omega (arith, short)))

avoids_number : (n : ℕ) → IsShort n → Avoids 10 (number n 32)
avoids_number n short = avoids_append (decimal n) (32 ∷ []) (avoids_decimal n short) (refl, tt)

closed_number : (n : ℕ) → IsShort n → Closed (number n 10)
closed_number n short = record { words = decimal n; is = refl; avoids = avoids_decimal n short }

closed_signed : (z : ℤ) → FitsSigned w64 z → Closed (signed z 10)
closed_signed z fits = record { words = signed_decimal z; is = refl; avoids = signed_avoids 10 end10 z fits }

avoids_signed : (z : ℤ) → FitsSigned w64 z → Avoids 10 (signed z 32)
avoids_signed z fits = avoids_append (signed_decimal z) (32 ∷ []) (signed_avoids 10 end10 z fits) (refl, tt)

avoids_name : (bs : List ℕ) → IsName bs → Avoids 10 (word bs 32)
avoids_name bs is = avoids_append bs (32 ∷ []) (name_avoids 10 end10 bs is) (refl, tt)

pub closed_count : (k : List ℕ) → Avoids 10 k → (n : ℕ) → IsShort n → Closed (k ++ number n 10)
closed_count k avoids n short = closed_more k (number n 10) avoids (closed_number n short)

pub closed_field : (f : FieldImage) → FieldFits f → Closed (field_text f)
closed_field f fits =
    closed_more (codes "field ") _ (literal (codes "field ") refl)
    (closed_more (number f.kind 32) _ (avoids_number f.kind fits.kind)
    (closed_more (number f.of 32) _ (avoids_number f.of fits.of)
    (closed_more (number f.words 32) _ (avoids_number f.words fits.words) (closed_number f.size fits.size))))

pub closed_cell : (c : Cell) → CellFits c → Closed (cell_text c)
closed_cell c fits =
    closed_more (codes "cell ") _ (literal (codes "cell ") refl)
    (closed_more (word c.name 32) _ (avoids_name c.name fits.name)
    (closed_more (number c.kind 32) _ (avoids_number c.kind fits.kind)
    (closed_more (number c.of 32) _ (avoids_number c.of fits.of)
    (closed_more (number c.first 32) _ (avoids_number c.first fits.first)
    (closed_more (number c.words 32) _ (avoids_number c.words fits.words)
    (closed_more (number c.formal 32) _ (avoids_number c.formal fits.formal) (closed_number c.back fits.back)))))))

pub closed_entry : (e : Entry) → EntryFits e → Closed (entry_text e)
closed_entry e fits =
    closed_more (codes "entry ") _ (literal (codes "entry ") refl)
    (closed_more (number e.line.0 32) _ (avoids_number e.line.0 fits.line) (closed_number e.address fits.address))

pub closed_instr : (x : Instr) → InstrFits x → Closed (instr_text x)
closed_instr x fits =
    closed_more (codes "instr ") _ (literal (codes "instr ") refl)
    (closed_more (number (parts_of x).0 32) _ (avoids_number (parts_of x).0 fits.operation)
    (closed_more (signed (parts_of x).1 32) _ (avoids_signed (parts_of x).1 fits.first) (closed_signed (parts_of x).2 fits.second)))

pub closed_head : (u : UnitHead) → HeadFits u → Closed (head_line_text u)
closed_head u fits =
    closed_more (codes "unit ") _ (literal (codes "unit ") refl)
    (closed_more (number u.heading 32) _ (avoids_number u.heading fits.heading)
    (closed_more (number u.extents 32) _ (avoids_number u.extents fits.extents)
    (closed_more (number u.cells 32) _ (avoids_number u.cells fits.cells)
    (closed_more (number u.entries 32) _ (avoids_number u.entries fits.entries) (closed_number u.code fits.code)))))

-- ---- the whole

counts_local : (k : List ℕ) → Avoids 10 k → Local (one_line (count_line k))
counts_local k avoids = one_line_local (count_line k) (λ n. k ++ number n 10) IsShort (count_takes k) (count_again k) (closed_count k avoids)

fields_local : Local (one_line field_line)
fields_local = one_line_local field_line field_text FieldFits field_takes field_again closed_field

cells_local : Local (one_line cell_line)
cells_local = one_line_local cell_line cell_text CellFits cell_takes cell_again closed_cell

entries_local : Local (one_line entry_line)
entries_local = one_line_local entry_line entry_text EntryFits entry_takes entry_again closed_entry

instrs_local : Local (one_line instr_line)
instrs_local = one_line_local instr_line instr_text InstrFits instr_takes instr_again closed_instr

heads_local : Local (one_line unit_head_line)
heads_local = one_line_local unit_head_line head_line_text HeadFits unit_head_takes unit_head_again closed_head

first_local : Local (one_line head_line)
first_local = one_line_local head_line (λ x. head_text) (λ x. Unit {0}) head_takes head_again (λ x fits. record { words = codes "fmc object 1"; is = refl; avoids = literal (codes "fmc object 1") refl })

types_local : Local type_read
unfolding type_read
types_local = bind_local (one_line (count_line (codes "type "))) (λ n p. many (one_line field_line) n p) (counts_local (codes "type ") (literal (codes "type ") refl)) (λ n. many_local (one_line field_line) fields_local n)

units_local : Local unit_read
unfolding unit_read
units_local =
    bind_local (one_line unit_head_line) (λ h p. many (one_line (count_line (codes "extent "))) h.extents p >> λ extents. many (one_line cell_line) h.cells extents.1 >> λ cells. many (one_line entry_line) h.entries cells.1 >> λ entries. many (one_line instr_line) h.code entries.1 >> λ code. Ok (record { heading = h.heading; extents = extents.0; cells = cells.0; entries = entries.0; code = code.0 }, code.1)) heads_local
    (λ h. bind_local (many (one_line (count_line (codes "extent "))) h.extents) (λ extents p. many (one_line cell_line) h.cells p >> λ cells. many (one_line entry_line) h.entries cells.1 >> λ entries. many (one_line instr_line) h.code entries.1 >> λ code. Ok (record { heading = h.heading; extents = extents; cells = cells.0; entries = entries.0; code = code.0 }, code.1)) (many_local (one_line (count_line (codes "extent "))) (counts_local (codes "extent ") (literal (codes "extent ") refl)) h.extents)
    (λ extents. bind_local (many (one_line cell_line) h.cells) (λ cells p. many (one_line entry_line) h.entries p >> λ entries. many (one_line instr_line) h.code entries.1 >> λ code. Ok (record { heading = h.heading; extents = extents; cells = cells; entries = entries.0; code = code.0 }, code.1)) (many_local (one_line cell_line) cells_local h.cells)
    (λ cells. bind_local (many (one_line entry_line) h.entries) (λ entries p. many (one_line instr_line) h.code p >> λ code. Ok (record { heading = h.heading; extents = extents; cells = cells; entries = entries; code = code.0 }, code.1)) (many_local (one_line entry_line) entries_local h.entries)
    (λ entries. bind_local (many (one_line instr_line) h.code) (λ code p. Ok (record { heading = h.heading; extents = extents; cells = cells; entries = entries; code = code }, p)) (many_local (one_line instr_line) instrs_local h.code)
    (λ code. pure_local (record { heading = h.heading; extents = extents; cells = cells; entries = entries; code = code }))))))

module _ {X : Type 0} (x : X) where
  not_ended : (n b : ℕ) (bs : List ℕ) → ended x (at n (b ∷ bs)) ≡ failed {A = X} n
  not_ended n b bs = rw (ne_eqb (length (b ∷ bs)) 0 (λ z. omega (arith, z))) refl

  ended_told : (n : ℕ) (bs : List ℕ) (m : ℕ) → ended x (at n bs) ≡ Err m → n ≤ m
  ended_told n [] m e = absurd cc
  ended_told n (b ∷ bs) m e = omega (arith, err_is {A = X} n m (sym (not_ended n b bs) ∙ e))

  short : (b : ℕ) (bs : List ℕ) (j : ℕ) → 0 < j → first_lines j (b ∷ bs) ≡ first_lines j [] → ⊥
  short b bs zero l e = absurd (omega (arith, l))
  short b bs (suc j) l e = absurd cc

  ended_err : (k n i : ℕ) (bs cs : List ℕ) → n ≡ i → first_lines (k - n) bs ≡ first_lines (k - n) cs → (m : ℕ) → ended x (at n bs) ≡ Err m → m < k → ended x (at i cs) ≡ Err m
  ended_err k n i [] cs line rest m e low = absurd cc
  ended_err k n i (b ∷ bs) [] line rest m e low = absurd (short b bs (k - n) (omega (arith, err_is {A = X} n m (sym (not_ended n b bs) ∙ e), low)) rest)
  ended_err k n i (b ∷ bs) (c ∷ cs) line rest m e low = not_ended i c cs ∙ ap (λ (l : ℕ). failed {A = X} l) (sym line ∙ err_is {A = X} n m (sym (not_ended n b bs) ∙ e))

  ended_tells : Tells (ended x)
  ended_tells = record {
    told = λ p m e. ended_told p.line p.rest m e;
    err = λ k p q agree m e low. ended_err k p.line q.line p.rest q.rest agree.line agree.rest m e low;
  }

image_tells : Tells (λ p. one_line head_line p >> λ h. one_line (count_line (codes "types ")) h.1 >> λ a. many type_read a.0 a.1 >> λ types. one_line (count_line (codes "units ")) types.1 >> λ u. many unit_read u.0 u.1 >> λ units. ended {X = Image} (record { types = types.0; units = units.0 }) units.1)
image_tells =
    bind_tells (one_line head_line) (λ h p. one_line (count_line (codes "types ")) p >> λ a. many type_read a.0 a.1 >> λ types. one_line (count_line (codes "units ")) types.1 >> λ u. many unit_read u.0 u.1 >> λ units. ended {X = Image} (record { types = types.0; units = units.0 }) units.1) first_local
    (λ h. bind_tells (one_line (count_line (codes "types "))) (λ a p. many type_read a p >> λ types. one_line (count_line (codes "units ")) types.1 >> λ u. many unit_read u.0 u.1 >> λ units. ended {X = Image} (record { types = types.0; units = units.0 }) units.1) (counts_local (codes "types ") (literal (codes "types ") refl))
    (λ a. bind_tells (many type_read a) (λ types p. one_line (count_line (codes "units ")) p >> λ u. many unit_read u.0 u.1 >> λ units. ended {X = Image} (record { types = types; units = units.0 }) units.1) (many_local type_read types_local a)
    (λ types. bind_tells (one_line (count_line (codes "units "))) (λ u p. many unit_read u p >> λ units. ended {X = Image} (record { types = types; units = units.0 }) units.1) (counts_local (codes "units ") (literal (codes "units ") refl))
    (λ u. bind_tells (many unit_read u) (λ units p. ended {X = Image} (record { types = types; units = units }) p) (many_local unit_read units_local u)
    (λ units. ended_tells {X = Image} (record { types = types; units = units }))))))

-- no text of an image has the same lines up to the one that is told
pub first_bad : (bytes : List ℕ) (n : ℕ) → image_read bytes ≡ Err n → (i : Image) → IsImage i → first_lines n bytes ≡ first_lines n (object_text i) → ⊥
unfolding image_read
first_bad bytes n e i fits same =
    let agree : Agree (suc n) (from_first bytes) (from_first (object_text i)) = record { line = refl; rest = subst (λ (k : ℕ). first_lines k bytes ≡ first_lines k (object_text i)) (omega arith) same } in
    let bad : image_read (object_text i) ≡ Err n = image_tells.err (suc n) (from_first bytes) (from_first (object_text i)) agree n e (omega arith) in
    absurd (cc (sym (image_again i fits) ∙ bad))
