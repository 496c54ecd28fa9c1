-- Which line is the first malformed one.
use Rattle.std.proofs.Common.{◌≡◌, ℕ, zero, suc, ◌+◌, ◌≤◌, ◌<◌, Bool, true, false, ◌==◌, cond, List, [], ◌∷◌, Result, Ok, Err, ◌⊎◌, inl, inr, refl, sym, ap, subst, ◌∙◌, arith}
use Rattle.std.specs.Prelude.{IfErr}
use Rattle.fm_object.specs.declared.fail.ObjectFail.{ObjectFail}
use Rattle.fm_object.specs.declared.fail.ObjectFail.TheVariants as fails
use Rattle.fm_object.specs.declared.image.Image.{Image}
use Rattle.fm_object.specs.Texts.{first_lines, object_text, BeginsObject, IsCause, IsFirstMalformed, HoldsAtMostOnce, IsImage, IsObjectText, IsRead}
use Rattle.fm_object.specs.Reading.{Gives, from_first, image_read}
use Rattle.fm_object.proofs.Exact.{ok_is}
use Rattle.fm_object.proofs.Images.{image_takes, image_again}
use Rattle.fm_object.proofs.Fronts.{first_bad}
use Rattle.fm_object.proofs.Begun.{Begun, IsObject, image_begun, whole_front}

-- ---- the line that is told

begins : (bytes : List ℕ) (m : ℕ) (b : Begun IsObject (from_first bytes) m) → BeginsObject bytes b.lines
begins bytes m b = record {
  image = b.told.item;
  is_image = b.told.fits;
  same =
      ap (first_lines b.lines) b.there
      ∙ whole_front b.lines b.done b.left b.whole
      ∙ sym (whole_front b.lines b.done b.right b.whole)
      ∙ ap (first_lines b.lines) b.told.is;
}

pub first_malformed : (bytes : List ℕ) (m : ℕ) → image_read bytes ≡ Err m → IsFirstMalformed bytes m
first_malformed bytes m e =
    let b = image_begun bytes m e in
    let line : 1 + b.lines ≡ m = b.line in
    record { before = b.lines; next = omega (arith, line); begun = begins bytes m b; malformed = λ g. first_bad bytes m e g.image g.is_image g.same }

pub cause_is : (bytes : List ℕ) (r : Result Image ObjectFail) → Gives (λ (i : Image). i) r (image_read bytes) → IfErr r (IsCause bytes)
cause_is bytes (Ok i) given = tt
cause_is bytes (Err (fails.Malformed line)) given = first_malformed bytes line.0 given
cause_is bytes (Err fails.NoMemory) given = tt

object_again : (bytes : List ℕ) (i : Image) → IsObjectText bytes i → image_read bytes ≡ Ok i
object_again bytes i h = ap image_read h.1 ∙ image_again i h.0

pub whole_is : (bytes : List ℕ) (i : Image) (r : Result Image ObjectFail) → IsObjectText bytes i → Gives (λ (i : Image). i) r (image_read bytes) → IsRead i r
whole_is bytes i (Ok j) h given = sym (ok_is i j (sym (object_again bytes i h) ∙ given))
whole_is bytes i (Err (fails.Malformed line)) h given =
    let e : Ok i ≡ Err line.0 = sym (object_again bytes i h) ∙ given in
    absurd (cc e)
whole_is bytes i (Err fails.NoMemory) h given = refl

-- ---- one answer

-- the first lines of more first lines
first_first : (n m : ℕ) (bs : List ℕ) → n ≤ m → first_lines n (first_lines m bs) ≡ first_lines n bs
first_first zero m bs le = refl
first_first (suc n) zero bs le = absurd (omega (arith, le))
first_first (suc n) (suc m) [] le = refl
first_first (suc n) (suc m) (b ∷ bs) le = ap (λ (t : List ℕ). b ∷ t) (go (first_first n m bs (omega (arith, le))) (first_first (suc n) (suc m) bs le) (b == 10))
  where
    go : first_lines n (first_lines m bs) ≡ first_lines n bs → first_lines (suc n) (first_lines (suc m) bs) ≡ first_lines (suc n) bs → (c : Bool)
        → cond c (first_lines n (cond c (first_lines m bs) (first_lines (suc m) bs))) (first_lines (suc n) (cond c (first_lines m bs) (first_lines (suc m) bs))) ≡ cond c (first_lines n bs) (first_lines (suc n) bs)
    go ends more true = ends
    go ends more false = more

-- fewer lines are there too
fewer : (lines more : ℕ) (bytes : List ℕ) → lines ≤ more → BeginsObject bytes more → BeginsObject bytes lines
fewer lines more bytes le b = record {
  image = b.image;
  is_image = b.is_image;
  same = sym (first_first lines more bytes le) ∙ ap (first_lines lines) b.same ∙ first_first lines more (object_text b.image) le;
}

no_later : (bytes : List ℕ) (line other : ℕ) → IsFirstMalformed bytes line → IsFirstMalformed bytes other → line < other → ⊥
no_later bytes line other a b less = a.malformed (fewer line b.before bytes (omega (arith, less, b.next)) b.begun)

-- one number or another is the greater one, or they are the same
apart : (n m : ℕ) → (n ≤ m) ⊎ (m + 1 ≤ n)
apart zero m = inl (omega arith)
apart (suc n) zero = inr (omega arith)
apart (suc n) (suc m) = go (apart n m)
  where
    go : (n ≤ m) ⊎ (m + 1 ≤ n) → (suc n ≤ suc m) ⊎ (suc m + 1 ≤ suc n)
    go (inl le) = inl (omega (arith, le))
    go (inr le) = inr (omega (arith, le))

same_or_apart : (bytes : List ℕ) (line other : ℕ) → IsFirstMalformed bytes line → IsFirstMalformed bytes other → (line ≤ other) ⊎ (other + 1 ≤ line) → (other ≤ line) ⊎ (line + 1 ≤ other) → line ≡ other
same_or_apart bytes line other a b (inl le) (inl ge) = omega (arith, le, ge)
same_or_apart bytes line other a b (inl le) (inr less) = absurd (no_later bytes line other a b (omega (arith, less)))
same_or_apart bytes line other a b (inr more) back = absurd (no_later bytes other line b a (omega (arith, more)))

pub one_first_line : (bytes : List ℕ) → HoldsAtMostOnce (IsFirstMalformed bytes)
one_first_line bytes = λ line other a b. same_or_apart bytes line other a b (apart line other) (apart other line)

no_line_of_text : (i : Image) (line : ℕ) → IsImage i → ¬ IsFirstMalformed (object_text i) line
no_line_of_text i line h f = f.malformed (record { image = i; is_image = h; same = refl })

pub no_line_of_an_object : (bytes : List ℕ) (i : Image) → IsObjectText bytes i → (line : ℕ) → ¬ IsFirstMalformed bytes line
no_line_of_an_object bytes i h line f = no_line_of_text i line h.0 (subst (λ (bs : List ℕ). IsFirstMalformed bs line) h.1 f)

pub one_object_text : (bytes : List ℕ) → HoldsAtMostOnce (IsObjectText bytes)
one_object_text bytes = λ i j a b. ok_is i j (sym (object_again bytes i a) ∙ object_again bytes j b)

pub either_way : (bytes : List ℕ) → ((i : Image) × IsObjectText bytes i) ⊎ ((line : ℕ) × IsFirstMalformed bytes line)
either_way bytes = go (image_read bytes) refl
  where
    go : (r : Result Image ℕ) → image_read bytes ≡ r → ((i : Image) × IsObjectText bytes i) ⊎ ((line : ℕ) × IsFirstMalformed bytes line)
    go (Ok i) e = let t = image_takes bytes i e in inl (i, (t.1, t.0))
    go (Err line) e = inr (line, first_malformed bytes line e)
