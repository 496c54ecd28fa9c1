-- What is read is spelled so, and what is spelled so is read: lists of parts, and parts with a choice of how they are written.
use Rattle.std.proofs.Common.{◌≡◌, ℕ, suc, zero, ◌≤◌, Bool, true, false, not, cond, Some, None, List, [], ◌∷◌, ◌++◌, length, refl, sym, ◌∙◌, ap, subst, append_assoc, length-append, arith}
use Rattle.std.specs.Prelude.{◌&&◌}
use Rattle.fm_base.specs.declared.token.Token.{Token}
use Rattle.fm_base.specs.declared.token.Token.TheVariants as token
use Rattle.fm_tree.specs.Forms.{more_spelled, list_spelled, bracketed_spelled, AllShape, SomeShape, optional_keyword_spelled, swapped_spelled}
use Rattle.fm_stmt_parts.specs.declared.mark.Mark.{Mark}
use Rattle.fm_stmt_parts.specs.declared.mark.Mark.TheVariants as mark
use Rattle.fm_stmt_parts.specs.declared.mark.Word.{Word}
use Rattle.fm_stmt_parts.specs.Reading.{Part, Read, Ends, starts, token_of, word_text, is, is_open, is_close, is_comma, is_equals, mark_at, behind, before, parens, pair, pair_read, over_read, more, more_read, items_read, some_of, some_read, items_of, listed, opens, bracketed, such_that, until, two_read, swapped, assigned_at, optional_keyword, optional_keyword_from, ◌>>=◌}
use Rattle.fm_stmt_parts.specs.Exact.{IsExact}
use Rattle.fm_stmt_parts.proofs.Exact.{Begins, Leads, bind_some, same_value, made_of, both, not_true, ends_left, ends_right, not_started, is_token, mark_sound, mark_complete, exact_behind, exact_before, exact_pair}

pub exact_more : {X : Type 0} (g : Part X) → IsExact g → g.stop token.Comma ≡ true → IsExact (more g)
exact_more {X} g x k = record {
  sound = λ ts xs rest e. sound (length ts) ts xs rest e;
  complete = λ xs rest s e. complete xs rest (length (more_spelled g.form xs ++ rest)) s e (long xs rest);
}
  where
    behind_item : (xs : List X) (ts : List Token) → Ends (more g).stop ts → Ends g.stop (more_spelled g.form xs ++ ts)
    behind_item [] ts e = ends_right (λ t. not (is_comma t)) g.stop ts e
    behind_item (y ∷ ys) ts e = k

    done : (ts : List Token) (xs : List X) (rest : List Token) → ◌≡◌ {A = Read (List X)} (Some ([], ts)) (Some (xs, rest)) → AllShape g.form xs × (ts ≡ more_spelled g.form xs ++ rest)
    done ts xs rest e =
        let q = same_value [] xs ts rest e in
        subst (λ (zs : List X). AllShape g.form zs × (ts ≡ more_spelled g.form zs ++ rest)) q.0 (tt, q.1)

    long : (xs : List X) (rest : List Token) → length xs ≤ length (more_spelled g.form xs ++ rest)
    long [] rest = omega arith
    long (y ∷ ys) rest = omega (arith, long ys rest, ap length (append_assoc (g.form.spelled y) (more_spelled g.form ys) rest), length-append (g.form.spelled y) (more_spelled g.form ys ++ rest))

    sound : (n : ℕ) (ts : List Token) (xs : List X) (rest : List Token) → items_read g.read n ts ≡ Some (xs, rest) → (more g).form.Shape xs × (ts ≡ more_spelled g.form xs ++ rest)
    sound zero ts xs rest e = done ts xs rest e
    sound (suc n) [] xs rest e = done [] xs rest e
    sound (suc n) (t ∷ ts) xs rest e =
        (elim (is_comma t) as (λ b. is_comma t ≡ b → ◌≡◌ {A = Read (List X)} (cond b (g.read ts >>= λ a. items_read g.read n a.1 >>= λ c. Some (a.0 ∷ c.0, c.1)) (Some ([], t ∷ ts))) (Some (xs, rest))
        → (more g).form.Shape xs × (t ∷ ts ≡ more_spelled g.form xs ++ rest)) [
          | true ↦ λ h f.
              let b = bind_some (g.read ts) (λ a. items_read g.read n a.1 >>= λ c. Some (a.0 ∷ c.0, c.1)) (xs, rest) f in
              let d = bind_some (items_read g.read n b.0.1) (λ c. Some (b.0.0 ∷ c.0, c.1)) (xs, rest) b.2 in
              let q = same_value (b.0.0 ∷ d.0.0) xs d.0.1 rest d.2 in
              let s = x.sound ts b.0.0 b.0.1 b.1 in
              let u = sound n b.0.1 d.0.0 d.0.1 d.1 in (
                subst (AllShape g.form) q.0 (s.0, u.0),
                ap (λ (v : Token). v ∷ ts) (is_token mark.Comma t h)
                    ∙ ap (λ (r : List Token). token.Comma ∷ r) (s.1 ∙ ap (λ (r : List Token). g.form.spelled b.0.0 ++ r) u.1 ∙ sym (append_assoc (g.form.spelled b.0.0) (more_spelled g.form d.0.0) d.0.1))
                    ∙ ap (λ (zs : List X). more_spelled g.form zs ++ d.0.1) q.0 ∙ ap (λ (r : List Token). more_spelled g.form xs ++ r) q.1,
              )
          | false ↦ λ h f. done (t ∷ ts) xs rest f
        ]) refl e

    complete : (xs : List X) (rest : List Token) (n : ℕ) → (more g).form.Shape xs → Ends (more g).stop rest → length xs ≤ n → items_read g.read n (more_spelled g.form xs ++ rest) ≡ Some (xs, rest)
    complete [] [] zero s e h = refl
    complete [] [] (suc n) s e h = refl
    complete [] (t ∷ ts) zero s e h = refl
    complete [] (t ∷ ts) (suc n) s e h = rw (not_true (is_comma t) (both (not (is_comma t)) (g.stop t) e).0) refl
    complete (y ∷ ys) rest zero s e h = absurd (omega arith)
    complete (y ∷ ys) rest (suc n) s e h =
        rw (append_assoc (g.form.spelled y) (more_spelled g.form ys) rest, x.complete y (more_spelled g.form ys ++ rest) s.0 (behind_item ys rest e), complete ys rest n s.1 e (omega arith)) refl

pub leads_more : {X Y : Type 0} (g : Part X) (h : Part Y) → ((t : Token) → h.stop t ≡ true → g.stop t ≡ true) → g.stop token.Comma ≡ true → Leads g (more h)
leads_more {X} {Y} g h l k [] [] s e = tt
leads_more {X} {Y} g h l k [] (t ∷ ts) s e = l t (both (not (is_comma t)) (h.stop t) e).1
leads_more {X} {Y} g h l k (y ∷ ys) rest s e = k

pub exact_some : {X : Type 0} (g : Part X) → IsExact g → g.stop token.Comma ≡ true → IsExact (some_of g)
exact_some {X} g x k = record {
  sound = λ ts xs rest e.
      let o = made_of items_of (pair_read g.read (more_read g.read)) ts xs rest e in
      subst (λ (zs : List X). SomeShape g.form zs × (ts ≡ list_spelled g.form zs ++ rest)) o.2 (px.sound ts o.0 rest o.1);
  complete = complete;
}
  where
    px : IsExact (pair g (more g))
    px = exact_pair g (more g) x (exact_more g x k) (leads_more g g (λ t e. e) k)

    complete : (xs : List X) (rest : List Token) → SomeShape g.form xs → Ends (some_of g).stop rest → (some_of g).read (list_spelled g.form xs ++ rest) ≡ Some (xs, rest)
    complete [] rest s e = absurd s
    complete (y ∷ ys) rest s e = rw (px.complete (y, ys) rest s e) refl

-- of one or more, or of nothing
all_of_some : {X : Type 0} (g : Part X) (ts rest : List Token) (xs : List X) → SomeShape g.form xs × (ts ≡ list_spelled g.form xs ++ rest) → AllShape g.form xs × (ts ≡ list_spelled g.form xs ++ rest)
all_of_some g ts rest [] w = absurd w.0
all_of_some g ts rest (y ∷ ys) w = w

pub exact_listed : {X : Type 0} (g : Part X) → IsExact g → g.stop token.Comma ≡ true → g.stop token.Close ≡ true → Begins opens true g → IsExact (listed g)
exact_listed {X} g x k c begins = record {
  sound = λ ts xs rest e.
      let P : List X → Type 0 = λ zs. AllShape g.form zs × (ts ≡ list_spelled g.form zs ++ rest) in
      (elim (starts opens ts) as (λ b. ◌≡◌ {A = Read (List X)} (cond b (some_read g.read ts) (Some ([], ts))) (Some (xs, rest)) → P xs) [
        | true ↦ λ f. all_of_some g ts rest xs (sx.sound ts xs rest f)
        | false ↦ λ f. let q = same_value [] xs ts rest f in subst P q.0 (tt, q.1)
      ]) e;
  complete = complete;
}
  where
    sx : IsExact (some_of g)
    sx = exact_some g x k

    at_close : (ts : List Token) → Ends is_close ts → Ends (some_of g).stop ts
    at_close [] e = tt
    at_close (token.Close ∷ ts) e = c
    at_close (t ∷ ts) e = cc

    complete : (xs : List X) (rest : List Token) → AllShape g.form xs → Ends is_close rest → (listed g).read (list_spelled g.form xs ++ rest) ≡ Some (xs, rest)
    complete [] [] s e = refl
    complete [] (t ∷ ts) s e = rw e refl
    complete (y ∷ ys) rest s e =
        let b : starts opens (list_spelled g.form (y ∷ ys) ++ rest) ≡ true =
        ap (starts opens) (append_assoc (g.form.spelled y) (more_spelled g.form ys) rest) ∙ begins y (more_spelled g.form ys ++ rest) s.0
        in rw b (sx.complete (y ∷ ys) rest s (at_close rest e))

pub exact_parens : {X : Type 0} (g : Part X) → IsExact g → g.stop token.Close ≡ true → IsExact (parens g)
exact_parens g x c = exact_behind mark.Open (before g mark.Close) (exact_before g mark.Close x c)

pub exact_bracketed : {X : Type 0} (g : Part X) → IsExact g → g.stop token.Comma ≡ true → g.stop token.Close ≡ true → IsExact (bracketed g)
exact_bracketed {X} g x k c = record {
  sound = λ ts xs rest e.
      let P : List X → Type 0 = λ zs. AllShape g.form zs × (ts ≡ bracketed_spelled g.form zs ++ rest) in
      (elim (starts is_open ts) as (λ b. ◌≡◌ {A = Read (List X)} (cond b ((parens (some_of g)).read ts) (Some ([], ts))) (Some (xs, rest)) → P xs) [
        | true ↦ λ f. of_some ts rest xs (sx.sound ts xs rest f)
        | false ↦ λ f. let q = same_value [] xs ts rest f in subst P q.0 (tt, q.1)
      ]) e;
  complete = complete;
}
  where
    sx : IsExact (parens (some_of g))
    sx = exact_parens (some_of g) (exact_some g x k) c

    same_tokens : (y : X) (ys : List X) → (parens (some_of g)).form.spelled (y ∷ ys) ≡ bracketed_spelled g.form (y ∷ ys)
    same_tokens y ys = ap (λ (r : List Token). token.Open ∷ r) (append_assoc (g.form.spelled y) (more_spelled g.form ys) (token.Close ∷ []))

    of_some : (ts rest : List Token) (xs : List X) → SomeShape g.form xs × (ts ≡ (parens (some_of g)).form.spelled xs ++ rest) → AllShape g.form xs × (ts ≡ bracketed_spelled g.form xs ++ rest)
    of_some ts rest [] w = absurd w.0
    of_some ts rest (y ∷ ys) w = (w.0, w.1 ∙ ap (λ (r : List Token). r ++ rest) (same_tokens y ys))

    complete : (xs : List X) (rest : List Token) → AllShape g.form xs → Ends (bracketed g).stop rest → (bracketed g).read (bracketed_spelled g.form xs ++ rest) ≡ Some (xs, rest)
    complete [] rest s e = rw (not_started is_open rest e) refl
    complete (y ∷ ys) rest s e =
        ap (λ (r : List Token). (parens (some_of g)).read (r ++ rest)) (sym (same_tokens y ys)) ∙ sx.complete (y ∷ ys) rest s (anything rest)
      where
        anything : (ts : List Token) → Ends (parens (some_of g)).stop ts
        anything [] = tt
        anything (t ∷ ts) = refl

pub leads_bracketed : {X Y : Type 0} (g : Part X) (h : Part Y) → ((t : Token) → not (is_open t) ≡ true → g.stop t ≡ true) → g.stop token.Open ≡ true → Leads g (bracketed h)
leads_bracketed {X} {Y} g h l k [] [] s e = tt
leads_bracketed {X} {Y} g h l k [] (t ∷ ts) s e = l t e
leads_bracketed {X} {Y} g h l k (y ∷ ys) rest s e = k

pub exact_such_that : {X : Type 0} (g : Part X) (Holds : X → Type 0) (test : X → Bool) → IsExact g → ((x : X) → test x ≡ true → Holds x) → ((x : X) → Holds x → test x ≡ true) → IsExact (such_that g Holds test)
exact_such_that {X} g Holds test x holds passes = record {
  sound = λ ts y rest e.
      let b = bind_some (g.read ts) (λ a. cond (test a.0) (Some a) None) (y, rest) e in
      (elim (test b.0.0) as (λ v. test b.0.0 ≡ v → ◌≡◌ {A = Read X} (cond v (Some b.0) None) (Some (y, rest)) → (g.form.Shape y × Holds y) × (ts ≡ g.form.spelled y ++ rest)) [
        | true ↦ λ h f.
            let q = same_value b.0.0 y b.0.1 rest f in
            let s = x.sound ts b.0.0 b.0.1 b.1 in
            (subst (λ (z : X). g.form.Shape z × Holds z) q.0 (s.0, holds b.0.0 h), s.1 ∙ (let w : g.form.spelled b.0.0 ++ b.0.1 ≡ g.form.spelled y ++ rest = cc (q.0, q.1) in w))
        | false ↦ λ h f. cc
      ]) refl b.2;
  complete = λ y rest s e. rw (x.complete y rest s.0 e, passes y s.1) refl;
}

pub exact_until : {X : Type 0} (m : Mark) (g : Part X) → IsExact g → g.stop (token_of m) ≡ true → IsExact (until m g)
exact_until m g x k = record {
  sound = x.sound;
  complete = λ y rest s e. x.complete y rest s (there rest e);
}
  where
    there : (ts : List Token) → Ends (is m) ts → Ends g.stop ts
    there [] e = tt
    there (t ∷ ts) e = ap g.stop (is_token m t e) ∙ k

pub exact_swapped : {X Y : Type 0} (test : Token → Bool) (g : Part X) (h : Part Y) → IsExact g → IsExact h → g.stop token.Comma ≡ true → h.stop token.Comma ≡ true
    → Begins test true g → Begins test false h → IsExact (swapped test g h)
exact_swapped {X} {Y} test g h x y k l yes_g no_h = record {
  sound = λ ts z rest e.
      let P : Bool × (X × Y) → Type 0 = λ w. (g.form.Shape w.1.0 × h.form.Shape w.1.1) × (ts ≡ swapped_spelled g.form h.form w.0 w.1.0 w.1.1 ++ rest) in
      (elim (starts test ts) as (λ b. ◌≡◌ {A = Read (Bool × (X × Y))} (cond b (over_read (λ p. (true, p)) (two_read g.read h.read) ts) (over_read (λ p. (false, (p.1, p.0))) (two_read h.read g.read) ts)) (Some (z, rest)) → P z) [
        | true ↦ λ f.
            let o = made_of (λ p. (true, p)) (two_read g.read h.read) ts z rest f in
            subst P o.2 ((gh).sound ts o.0 rest o.1)
        | false ↦ λ f.
            let o = made_of (λ p. (false, (p.1, p.0))) (two_read h.read g.read) ts z rest f in
            let s = hg.sound ts o.0 rest o.1 in
            subst P o.2 ((s.0.1, s.0.0), s.1)
      ]) e;
  complete = λ z rest s e. complete z.0 z.1.0 z.1.1 rest s e;
}
  where
    gh : IsExact (pair g (behind mark.Comma h))
    gh = exact_pair g (behind mark.Comma h) x (exact_behind mark.Comma h y) (λ z rest s e. k)

    hg : IsExact (pair h (behind mark.Comma g))
    hg = exact_pair h (behind mark.Comma g) y (exact_behind mark.Comma g x) (λ z rest s e. l)

    complete : (first : Bool) (a : X) (b : Y) (rest : List Token) → g.form.Shape a × h.form.Shape b → Ends (swapped test g h).stop rest
        → (swapped test g h).read (swapped_spelled g.form h.form first a b ++ rest) ≡ Some ((first, (a, b)), rest)
    complete true a b rest s e =
        let u : starts test ((g.form.spelled a ++ token.Comma ∷ h.form.spelled b) ++ rest) ≡ true =
        ap (starts test) (append_assoc (g.form.spelled a) (token.Comma ∷ h.form.spelled b) rest) ∙ yes_g a (token.Comma ∷ (h.form.spelled b ++ rest)) s.0
        in rw (u, gh.complete (a, b) rest s (ends_right g.stop h.stop rest e)) refl
    complete false a b rest s e =
        let u : starts test ((h.form.spelled b ++ token.Comma ∷ g.form.spelled a) ++ rest) ≡ false =
        ap (starts test) (append_assoc (h.form.spelled b) (token.Comma ∷ g.form.spelled a) rest) ∙ no_h b (token.Comma ∷ (g.form.spelled a ++ rest)) s.1
        in rw (u, hg.complete (b, a) rest (s.1, s.0) (ends_left g.stop h.stop rest e)) refl

-- a part that does not begin with the word and an equals sign
abbrev pub Unassigned : {X : Type 0} → Word → Part X → Type 0
Unassigned {X} w g = (x : X) (rest : List Token) → g.form.Shape x → Ends (λ t. not (is_equals t) && g.stop t) rest → assigned_at w (g.form.spelled x ++ rest) ≡ None

pub exact_optional_keyword : {X : Type 0} (w : Word) (g : Part X) → IsExact g → Unassigned w g → IsExact (optional_keyword w g)
exact_optional_keyword {X} w g x apart = record {
  sound = λ ts z rest e.
      let P : Bool × X → Type 0 = λ v. g.form.Shape v.1 × (ts ≡ optional_keyword_spelled (word_text w) g.form v.0 v.1 ++ rest) in
      (elim (assigned_at w ts) as (λ o. assigned_at w ts ≡ o → ◌≡◌ {A = Read (Bool × X)} (optional_keyword_from o g.read ts) (Some (z, rest)) → P z) [
        | None ↦ λ h f. let o = made_of (λ v. (false, v)) g.read ts z rest f in subst P o.2 (x.sound ts o.0 rest o.1)
        | Some more ↦ λ h f.
            let o = made_of (λ v. (true, v)) g.read more z rest f in
            let s = x.sound more o.0 rest o.1 in
            subst P o.2 (s.0, begins ts more h ∙ ap (λ (r : List Token). token_of (mark.Word w) ∷ token.Equals ∷ r) s.1)
      ]) refl e;
  complete = λ z rest s e. complete z.0 z.1 rest s e;
}
  where
    begins : (ts more : List Token) → assigned_at w ts ≡ Some more → ts ≡ token_of (mark.Word w) ∷ token.Equals ∷ more
    begins ts more e =
        let b = bind_some (mark_at (mark.Word w) ts) (mark_at mark.Equals) more e in
        mark_sound (mark.Word w) ts b.0 b.1 ∙ ap (λ (r : List Token). token_of (mark.Word w) ∷ r) (mark_sound mark.Equals b.0 more b.2)

    complete : (named : Bool) (y : X) (rest : List Token) → g.form.Shape y → Ends (optional_keyword w g).stop rest
        → (optional_keyword w g).read (optional_keyword_spelled (word_text w) g.form named y ++ rest) ≡ Some ((named, y), rest)
    complete true y rest s e =
        rw (mark_complete (mark.Word w) (token.Equals ∷ (g.form.spelled y ++ rest)), x.complete y rest s (ends_right (λ t. not (is_equals t)) g.stop rest e)) refl
    complete false y rest s e =
        rw (apart y rest s e, x.complete y rest s (ends_right (λ t. not (is_equals t)) g.stop rest e)) refl
