-- What is read is spelled so, and what is spelled so is read: types of ports.
use Rattle.std.proofs.Common.{◌≡◌, ℕ, suc, zero, ◌+◌, ◌≤◌, true, false, not, cond, Option, Some, None, List, [], ◌∷◌, ◌++◌, length, take, drop, refl, sym, ◌∙◌, ap, subst, append_assoc, length-append, codes, arith}
use Rattle.std.proofs.lemmas.List.{append-nil, take-append-drop}
use Rattle.std.specs.Cmp.Lexicographic.{same_text}
use Rattle.std.specs.Prelude.{◌&&◌, IsTrue}
use Rattle.fm_base.specs.Letters.{is_name_text}
use Rattle.fm_base.specs.declared.token.Token.{Token}
use Rattle.fm_base.specs.declared.token.Token.TheVariants as token
use Rattle.fm_tree.specs.Forms.{optional_spelled, OptionalShape, more_spelled, list_spelled, AllShape}
use Rattle.fm_tree.specs.PortFields.{PortFields, FieldKind, NoFields, FieldThen, Integer, Logical, In, Out, fields_count, kind_count}
use Rattle.fm_tree.specs.PortReading.{kind_of, fields_of}
use Rattle.fm_tree.specs.declared.port_type.Bound.{Bound}
use Rattle.fm_tree.specs.declared.port_type.Field.{Field}
use Rattle.fm_tree.specs.declared.port_type.Kind.{Kind}
use Rattle.fm_tree.specs.declared.port_type.Kind.TheVariants as kind
use Rattle.fm_tree.specs.Parts.{kind_spelled, fields_spelled, more_fields_spelled, word_with, name_tokens, AreBoundsOf, PartsFromKeyword, IsKindShaped, AreFieldsShaped}
use Rattle.fm_stmt_parts.specs.Reading.{Part, Read, Ends, starts, any_token, is_same_text, is_open, is_close, opens, name, parens, pair, optional, over_read, listed, listed_read, bracketed, ◌>>=◌}
use Rattle.fm_stmt_parts.specs.Parts.{bound_part}
use Rattle.fm_stmt_parts.specs.Fields.{behind_text, name_behind, Head, head_behind, logical_head, scalar_head_of, scalar_head, is_named, port_read, word_head, head_read, bounds_read, field_of, field_read, fields_read, port_type_part}
use Rattle.fm_stmt_parts.specs.Exact.{IsExact}
use Rattle.fm_stmt_parts.proofs.Exact.{Begins, bind_some, same_value, made_of, ends_any, ends_left, ends_right, exact_name, exact_pair, exact_optional}
use Rattle.fm_stmt_parts.proofs.ExactLists.{exact_listed, exact_parens, exact_bracketed}
use Rattle.fm_stmt_parts.proofs.ExactParts.{exact_bound}

-- no port stands deeper inside than this
abbrev mutual
  AreWithin : PortFields → ℕ → Type 0
  AreWithin NoFields zero = ⊥
  AreWithin NoFields (suc d) = Unit {0}
  AreWithin (FieldThen k n bounds rest) zero = ⊥
  AreWithin (FieldThen k n bounds rest) (suc d) = IsKindWithin k d × AreWithin rest (suc d)

  IsKindWithin : FieldKind → ℕ → Type 0
  IsKindWithin Integer d = Unit {0}
  IsKindWithin Logical d = Unit {0}
  IsKindWithin (In fields) d = AreWithin fields d
  IsKindWithin (Out fields) d = AreWithin fields d

within_count : (p : PortFields) (d : ℕ) → fields_count p ≤ d → AreWithin p d
within_count NoFields zero h = absurd (omega arith)
within_count NoFields (suc d) h = tt
within_count (FieldThen Integer n bounds rest) zero h = absurd (omega arith)
within_count (FieldThen Integer n bounds rest) (suc d) h = (tt, within_count rest (suc d) (omega arith))
within_count (FieldThen Logical n bounds rest) zero h = absurd (omega arith)
within_count (FieldThen Logical n bounds rest) (suc d) h = (tt, within_count rest (suc d) (omega arith))
within_count (FieldThen (In fields) n bounds rest) zero h = absurd (omega arith)
within_count (FieldThen (In fields) n bounds rest) (suc d) h = let c = positive rest in (within_count fields d (omega arith), within_count rest (suc d) (omega arith))
  where
    positive : (p : PortFields) → 1 ≤ fields_count p
    positive NoFields = omega arith
    positive (FieldThen k n bounds rest) = omega (arith, positive rest)
within_count (FieldThen (Out fields) n bounds rest) zero h = absurd (omega arith)
within_count (FieldThen (Out fields) n bounds rest) (suc d) h = let c = positive rest in (within_count fields d (omega arith), within_count rest (suc d) (omega arith))
  where
    positive : (p : PortFields) → 1 ≤ fields_count p
    positive NoFields = omega arith
    positive (FieldThen k n bounds rest) = omega (arith, positive rest)

abbrev mutual
  kind_short : (k : FieldKind) (n : Option (List ℕ)) → kind_count k ≤ length (kind_spelled k n)
  kind_short Integer n = omega arith
  kind_short Logical n = omega arith
  kind_short (In fields) n = omega (arith, fields_short fields, length-append (fields_spelled fields) (token.Close ∷ name_tokens n))
  kind_short (Out fields) n = omega (arith, fields_short fields, length-append (fields_spelled fields) (token.Close ∷ name_tokens n))

  fields_short : (p : PortFields) → fields_count p ≤ length (fields_spelled p) + 1
  fields_short NoFields = omega arith
  fields_short (FieldThen k n bounds rest) =
      omega (arith, kind_short k n, more_short rest, length-append (kind_spelled k n) ((bracketed bound_part).form.spelled bounds ++ more_fields_spelled rest), length-append ((bracketed bound_part).form.spelled bounds) (more_fields_spelled rest))

  more_short : (p : PortFields) → fields_count p ≤ length (more_fields_spelled p) + 1
  more_short NoFields = omega arith
  more_short (FieldThen k n bounds rest) =
      omega (arith, kind_short k n, more_short rest, length-append (kind_spelled k n) ((bracketed bound_part).form.spelled bounds ++ more_fields_spelled rest), length-append ((bracketed bound_part).form.spelled bounds) (more_fields_spelled rest))

-- port types up to a depth
fields_part : ℕ → Part PortFields
fields_part d = record {
  form = record { spelled = fields_spelled; Shape = λ p. AreFieldsShaped p × AreWithin p d };
  read = fields_read d;
  stop = is_close;
}

-- a field's kind and name
head_part : ℕ → Part Head
head_part d = record {
  form = record { spelled = λ h. kind_spelled (kind_of h.0) h.1; Shape = λ h. IsKindShaped (kind_of h.0) h.1 × IsKindWithin (kind_of h.0) d };
  read = head_read (fields_read d);
  stop = λ t. not (is_named t);
}

-- the bounds behind a name, or behind none
bounds_part : Option (List ℕ) → Part (List Bound)
bounds_part n = record {
  form = record { spelled = (bracketed bound_part).form.spelled; Shape = AreBoundsOf n };
  read = bounds_read n;
  stop = λ t. not (is_open t);
}

field_part : ℕ → Part Field
field_part d = record {
  form = record {
    spelled = λ f. kind_spelled (kind_of f.kind) f.name ++ (bracketed bound_part).form.spelled f.bounds;
    Shape = λ f. (IsKindShaped (kind_of f.kind) f.name × IsKindWithin (kind_of f.kind) d) × AreBoundsOf f.name f.bounds;
  };
  read = field_read (fields_read d);
  stop = λ t. not (is_named t) && not (is_open t);
}

exact_bounds : (n : Option (List ℕ)) → IsExact (bounds_part n)
unfolding bounds_part
exact_bounds None = record {
  sound = λ ts bounds rest e.
      let q = same_value [] bounds ts rest e in
      (sym q.0, q.1 ∙ ap (λ (b : List Bound). (bracketed bound_part).form.spelled b ++ rest) q.0);
  complete = λ bounds rest s e. ap (λ (b : List Bound). Some ([], (bracketed bound_part).form.spelled b ++ rest)) s ∙ ap (λ (b : List Bound). Some (b, rest)) (sym s);
}
exact_bounds (Some n) = record {
  sound = (exact_bracketed bound_part exact_bound refl refl).sound;
  complete = (exact_bracketed bound_part exact_bound refl refl).complete;
}

text_behind : (k n rest : List ℕ) → behind_text k n ≡ Some rest → n ≡ k ++ rest
text_behind k n rest e =
    (elim (is_same_text (take (length k) n) k) as (λ v. is_same_text (take (length k) n) k ≡ v → cond v (Some (drop (length k) n)) None ≡ Some rest → n ≡ k ++ rest) [
      | true ↦ λ h f.
          let q : drop (length k) n ≡ rest = cc f in
          sym (take-append-drop (length k) n) ∙ ap (λ (r : List ℕ). r ++ drop (length k) n) (same_text (take (length k) n) k (sym h)) ∙ ap (λ (r : List ℕ). k ++ r) q
      | false ↦ λ h f. cc
    ]) refl e

-- the name in one word with a keyword
parted : (rest : List ℕ) (n : Option (List ℕ)) → name_behind rest ≡ Some n → (w : List ℕ) → PartsFromKeyword n × (token.Named (w ++ rest) ≡ word_with w n)
parted [] None e w = (tt, ap token.Named (append-nil w))
parted [] (Some n) e w = cc
parted (b ∷ bs) n e w =
    (elim (is_name_text (b ∷ bs)) as (λ v. is_name_text (b ∷ bs) ≡ v → cond v (Some (Some (b ∷ bs))) None ≡ Some n → PartsFromKeyword n × (token.Named (w ++ b ∷ bs) ≡ word_with w n)) [
      | true ↦ λ h f.
          let q : Some (b ∷ bs) ≡ n = cc f in
          subst (λ (o : Option (List ℕ)). PartsFromKeyword o × (token.Named (w ++ b ∷ bs) ≡ word_with w o)) q (h, refl)
      | false ↦ λ h f. cc
    ]) refl e

parted_again : (n : List ℕ) → IsTrue (is_name_text n) → name_behind n ≡ Some (Some n)
parted_again [] h = cc
parted_again (b ∷ bs) h = rw h refl

-- INTEGER or LOGICAL
scalar_sound : (d : ℕ) (n : List ℕ) (h : Head) → scalar_head n ≡ Some h → (IsKindShaped (kind_of h.0) h.1 × IsKindWithin (kind_of h.0) d) × (token.Named n ∷ [] ≡ kind_spelled (kind_of h.0) h.1)
scalar_sound d n h e =
    (elim (behind_text (codes "INTEGER") n) as (λ o. behind_text (codes "INTEGER") n ≡ o → scalar_head_of o n ≡ Some h → P h) [
      | Some rest ↦ λ i f. of_kind kind.Integer (codes "INTEGER") rest (text_behind (codes "INTEGER") n rest i) (λ o p. ((p.0, tt), ap (λ (t : Token). t ∷ []) p.1)) f
      | None ↦ λ i f.
          (elim (behind_text (codes "LOGICAL") n) as (λ o. behind_text (codes "LOGICAL") n ≡ o → logical_head o ≡ Some h → P h) [
            | Some rest ↦ λ l g. of_kind kind.Logical (codes "LOGICAL") rest (text_behind (codes "LOGICAL") n rest l) (λ o p. ((p.0, tt), ap (λ (t : Token). t ∷ []) p.1)) g
            | None ↦ λ l g. cc
          ]) refl f
    ]) refl e
  where
    P : Head → Type 0
    P g = (IsKindShaped (kind_of g.0) g.1 × IsKindWithin (kind_of g.0) d) × (token.Named n ∷ [] ≡ kind_spelled (kind_of g.0) g.1)

    of_kind : (k : Kind) (w rest : List ℕ) → n ≡ w ++ rest → ((o : Option (List ℕ)) → PartsFromKeyword o × (token.Named n ≡ word_with w o) → P (k, o)) → head_behind k rest ≡ Some h → P h
    of_kind k w rest q make f =
        let b = bind_some (name_behind rest) (λ o. Some (k, o)) h f in
        let r : (k, b.0) ≡ h = cc b.2 in
        let p = parted rest b.0 b.1 w in
        subst P r (make b.0 (p.0, ap token.Named q ∙ p.1))

-- the parts of a port: what stands in its parentheses, and its name
exact_inside : (d : ℕ) → IsExact (fields_part d) → IsExact (pair (parens (fields_part d)) (optional is_named name))
unfolding fields_part
exact_inside d x =
    exact_pair (parens (fields_part d)) (optional is_named name) (exact_parens (fields_part d) x refl) (exact_optional is_named name exact_name (λ n rest s. refl)) (λ z rest s e. ends_any _)

-- with the tokens joined from the right
port_tokens : (p : PortFields) (n : Option (List ℕ)) → (token.Open ∷ (fields_spelled p ++ token.Close ∷ [])) ++ optional_spelled name.form n ≡ token.Open ∷ (fields_spelled p ++ token.Close ∷ name_tokens n)
port_tokens p None = ap (λ (r : List Token). token.Open ∷ r) (append_assoc (fields_spelled p) (token.Close ∷ []) [])
port_tokens p (Some n) = ap (λ (r : List Token). token.Open ∷ r) (append_assoc (fields_spelled p) (token.Close ∷ []) (token.Named n ∷ []))

named_shape : (n : Option (List ℕ)) → OptionalShape name.form n
named_shape None = tt
named_shape (Some n) = tt

no_name : (ts : List Token) → Ends (λ t. not (is_named t)) ts → Ends (λ t. not (is_named t) && any_token t) ts
no_name [] e = tt
no_name (t ∷ ts) e = rw e refl

exact_head : (d : ℕ) → IsExact (fields_part d) → IsExact (head_part d)
unfolding head_part fields_part
exact_head d x = record {
  sound = sound;
  complete = λ h rest s e. complete h.0 h.1 rest s e;
}
  where
    P : List Token → List Token → Head → Type 0
    P ts rest h = (IsKindShaped (kind_of h.0) h.1 × IsKindWithin (kind_of h.0) d) × (ts ≡ kind_spelled (kind_of h.0) h.1 ++ rest)

    with_name : (n : List ℕ) (ts : List Token) (h : Head) (rest : List Token) → word_head (fields_read d) n ts ≡ Some (h, rest) → P (token.Named n ∷ ts) rest h
    with_name n ts h rest e =
        (elim (is_same_text n (codes "INPORT")) as (λ b. is_same_text n (codes "INPORT") ≡ b
        → cond b (over_read (λ p. (kind.In p.0, p.1)) (port_read (fields_read d)) ts) (cond (is_same_text n (codes "OUTPORT")) (over_read (λ p. (kind.Out p.0, p.1)) (port_read (fields_read d)) ts) (scalar_head n >>= λ g. Some (g, ts))) ≡ Some (h, rest)
        → P (token.Named n ∷ ts) rest h) [
          | true ↦ λ i f.
              let o = made_of (λ p. (kind.In p.0, p.1)) (port_read (fields_read d)) ts h rest f in
              let s = (exact_inside d x).sound ts o.0 rest o.1 in
              subst (P (token.Named n ∷ ts) rest) o.2
              ((s.0.0.0, s.0.0.1), ap (λ (m : List ℕ). token.Named m ∷ ts) (same_text n (codes "INPORT") (sym i)) ∙ ap (λ (r : List Token). token.Named (codes "INPORT") ∷ r) (s.1 ∙ ap (λ (r : List Token). r ++ rest) (port_tokens o.0.0 o.0.1)))
          | false ↦ λ i f.
              (elim (is_same_text n (codes "OUTPORT")) as (λ b. is_same_text n (codes "OUTPORT") ≡ b
              → cond b (over_read (λ p. (kind.Out p.0, p.1)) (port_read (fields_read d)) ts) (scalar_head n >>= λ g. Some (g, ts)) ≡ Some (h, rest)
              → P (token.Named n ∷ ts) rest h) [
                | true ↦ λ j g.
                    let o = made_of (λ p. (kind.Out p.0, p.1)) (port_read (fields_read d)) ts h rest g in
                    let s = (exact_inside d x).sound ts o.0 rest o.1 in
                    subst (P (token.Named n ∷ ts) rest) o.2
                    ((s.0.0.0, s.0.0.1), ap (λ (m : List ℕ). token.Named m ∷ ts) (same_text n (codes "OUTPORT") (sym j)) ∙ ap (λ (r : List Token). token.Named (codes "OUTPORT") ∷ r) (s.1 ∙ ap (λ (r : List Token). r ++ rest) (port_tokens o.0.0 o.0.1)))
                | false ↦ λ j g.
                    let b = bind_some (scalar_head n) (λ v. Some (v, ts)) (h, rest) g in
                    let q = same_value b.0 h ts rest b.2 in
                    let s = scalar_sound d n b.0 b.1 in
                    subst (P (token.Named n ∷ ts) rest) q.0 (s.0, ap (λ (r : List Token). token.Named n ∷ r) q.1 ∙ ap (λ (r : List Token). r ++ rest) s.1)
              ]) refl f
        ]) refl e

    sound : (ts : List Token) (h : Head) (rest : List Token) → head_read (fields_read d) ts ≡ Some (h, rest) → P ts rest h
    sound [] h rest e = cc
    sound (token.Named n ∷ ts) h rest e = with_name n ts h rest e
    sound (t ∷ ts) h rest e = cc

    complete : (k : Kind) (n : Option (List ℕ)) (rest : List Token) → IsKindShaped (kind_of k) n × IsKindWithin (kind_of k) d → Ends (λ t. not (is_named t)) rest
        → head_read (fields_read d) (kind_spelled (kind_of k) n ++ rest) ≡ Some ((k, n), rest)
    complete kind.Integer None rest s e = refl
    complete kind.Integer (Some n) rest s e = rw (parted_again n s.0) refl
    complete kind.Logical None rest s e = refl
    complete kind.Logical (Some n) rest s e = rw (parted_again n s.0) refl
    complete (kind.In p) n rest s e =
        ap (λ (r : List Token). over_read (λ (q : PortFields × Option (List ℕ)). (kind.In q.0, q.1)) (port_read (fields_read d)) (r ++ rest)) (sym (port_tokens p n))
        ∙ rw ((exact_inside d x).complete (p, n) rest (s, named_shape n) (no_name rest e)) refl
    complete (kind.Out p) n rest s e =
        ap (λ (r : List Token). over_read (λ (q : PortFields × Option (List ℕ)). (kind.Out q.0, q.1)) (port_read (fields_read d)) (r ++ rest)) (sym (port_tokens p n))
        ∙ rw ((exact_inside d x).complete (p, n) rest (s, named_shape n) (no_name rest e)) refl

exact_field : (d : ℕ) → IsExact (head_part d) → IsExact (field_part d)
unfolding head_part bounds_part field_part
exact_field d x = record {
  sound = λ ts f rest e.
      let P : Field → Type 0 = λ g. ((IsKindShaped (kind_of g.kind) g.name × IsKindWithin (kind_of g.kind) d) × AreBoundsOf g.name g.bounds) × (ts ≡ (field_part d).form.spelled g ++ rest) in
      let b = bind_some (head_read (fields_read d) ts) (λ a. bounds_read a.0.1 a.1 >>= λ c. Some (field_of a.0 c.0, c.1)) (f, rest) e in
      let c = bind_some (bounds_read b.0.0.1 b.0.1) (λ c. Some (field_of b.0.0 c.0, c.1)) (f, rest) b.2 in
      let q = same_value (field_of b.0.0 c.0.0) f c.0.1 rest c.2 in
      let s = x.sound ts b.0.0 b.0.1 b.1 in
      let t = (exact_bounds b.0.0.1).sound b.0.1 c.0.0 c.0.1 c.1 in
      subst P q.0 (
        (s.0, t.0),
        s.1 ∙ ap (λ (r : List Token). kind_spelled (kind_of b.0.0.0) b.0.0.1 ++ r) (t.1 ∙ ap (λ (r : List Token). (bracketed bound_part).form.spelled c.0.0 ++ r) q.1)
            ∙ sym (append_assoc (kind_spelled (kind_of b.0.0.0) b.0.0.1) ((bracketed bound_part).form.spelled c.0.0) rest),
      );
  complete = λ f rest s e.
      rw (
        append_assoc (kind_spelled (kind_of f.kind) f.name) ((bracketed bound_part).form.spelled f.bounds) rest,
        x.complete (f.kind, f.name) ((bracketed bound_part).form.spelled f.bounds ++ rest) s.0 (leads f.bounds rest e),
        (exact_bounds f.name).complete f.bounds rest s.1 (ends_right (λ t. not (is_named t)) (λ t. not (is_open t)) rest e),
      ) refl;
}
  where
    leads : (bounds : List Bound) (rest : List Token) → Ends (λ t. not (is_named t) && not (is_open t)) rest → Ends (λ t. not (is_named t)) ((bracketed bound_part).form.spelled bounds ++ rest)
    leads [] rest e = ends_left (λ t. not (is_named t)) (λ t. not (is_open t)) rest e
    leads (b ∷ bs) rest e = refl

field_opens : (d : ℕ) → Begins opens true (field_part d)
unfolding field_part
field_opens d f rest s =
    ap (starts opens) (append_assoc (kind_spelled (kind_of f.kind) f.name) ((bracketed bound_part).form.spelled f.bounds) rest) ∙ begins f.kind f.name ((bracketed bound_part).form.spelled f.bounds ++ rest)
  where
    begins : (k : Kind) (n : Option (List ℕ)) (ts : List Token) → starts opens (kind_spelled (kind_of k) n ++ ts) ≡ true
    begins kind.Integer None ts = refl
    begins kind.Integer (Some n) ts = refl
    begins kind.Logical None ts = refl
    begins kind.Logical (Some n) ts = refl
    begins (kind.In p) n ts = refl
    begins (kind.Out p) n ts = refl

-- a list of fields, and the same as the parts of a type
abbrev kind_back : FieldKind → Kind
kind_back Integer = kind.Integer
kind_back Logical = kind.Logical
kind_back (In p) = kind.In p
kind_back (Out p) = kind.Out p

abbrev list_back : PortFields → List Field
list_back NoFields = []
list_back (FieldThen k n bounds rest) = record { kind = kind_back k; name = n; bounds = bounds } ∷ list_back rest

kind_same : (k : FieldKind) → kind_of (kind_back k) ≡ k
kind_same Integer = refl
kind_same Logical = refl
kind_same (In p) = refl
kind_same (Out p) = refl

fields_same : (p : PortFields) → fields_of (list_back p) ≡ p
fields_same NoFields = refl
fields_same (FieldThen k n bounds rest) = rw (kind_same k, fields_same rest) refl

more_tokens : (d : ℕ) (fs : List Field) → more_spelled (field_part d).form fs ≡ more_fields_spelled (fields_of fs)
unfolding field_part
more_tokens d [] = refl
more_tokens d (f ∷ fs) =
    ap (λ (r : List Token). token.Comma ∷ r)
    (append_assoc (kind_spelled (kind_of f.kind) f.name) ((bracketed bound_part).form.spelled f.bounds) (more_spelled (field_part d).form fs)
    ∙ ap (λ (r : List Token). kind_spelled (kind_of f.kind) f.name ++ ((bracketed bound_part).form.spelled f.bounds ++ r)) (more_tokens d fs))

list_tokens : (d : ℕ) (fs : List Field) → list_spelled (field_part d).form fs ≡ fields_spelled (fields_of fs)
unfolding field_part
list_tokens d [] = refl
list_tokens d (f ∷ fs) =
    append_assoc (kind_spelled (kind_of f.kind) f.name) ((bracketed bound_part).form.spelled f.bounds) (more_spelled (field_part d).form fs)
    ∙ ap (λ (r : List Token). kind_spelled (kind_of f.kind) f.name ++ ((bracketed bound_part).form.spelled f.bounds ++ r)) (more_tokens d fs)

shape_of : (d : ℕ) (fs : List Field) → AllShape (field_part d).form fs → AreFieldsShaped (fields_of fs) × AreWithin (fields_of fs) (suc d)
unfolding field_part
shape_of d [] s = (tt, tt)
shape_of d (f ∷ fs) s = let u = shape_of d fs s.1 in ((s.0.0.0, s.0.1, u.0), (s.0.0.1, u.1))

all_shape : (d : ℕ) (fs : List Field) → AreFieldsShaped (fields_of fs) → AreWithin (fields_of fs) (suc d) → AllShape (field_part d).form fs
unfolding field_part
all_shape d [] s w = tt
all_shape d (f ∷ fs) s w = (((s.0, w.0), s.1), all_shape d fs s.2 w.1)

exact_step : (d : ℕ) → IsExact (field_part d) → IsExact (fields_part (suc d))
unfolding fields_part field_part
exact_step d x = record {
  sound = λ ts p rest e.
      let P : PortFields → Type 0 = λ q. (AreFieldsShaped q × AreWithin q (suc d)) × (ts ≡ fields_spelled q ++ rest) in
      let o = made_of fields_of (listed_read (field_read (fields_read d))) ts p rest e in
      let s = lx.sound ts o.0 rest o.1 in
      subst P o.2 (shape_of d o.0 s.0, s.1 ∙ ap (λ (r : List Token). r ++ rest) (list_tokens d o.0));
  complete = λ p rest s e.
      let fs : List Field = list_back p in
      let q : p ≡ fields_of fs = sym (fields_same p) in
      let shape = all_shape d fs (subst AreFieldsShaped q s.0) (subst (λ (r : PortFields). AreWithin r (suc d)) q s.1) in
      let read : List Token → Read PortFields = fields_read (suc d) in
      let again : read (list_spelled (field_part d).form fs ++ rest) ≡ Some (fields_of fs, rest) = rw (lx.complete fs rest shape e) refl in
      ap (λ (r : PortFields). read (fields_spelled r ++ rest)) q
      ∙ ap (λ (r : List Token). read (r ++ rest)) (sym (list_tokens d fs))
      ∙ again
      ∙ ap (λ (r : PortFields). Some (r, rest)) (sym q);
}
  where
    lx : IsExact (listed (field_part d))
    lx = exact_listed (field_part d) x refl refl (field_opens d)

exact_fields : (d : ℕ) → IsExact (fields_part d)
unfolding fields_part
exact_fields zero = record {
  sound = λ ts p rest e. cc;
  complete = λ p rest s e. absurd (nothing p s.1);
}
  where
    nothing : (p : PortFields) → AreWithin p zero → ⊥
    nothing NoFields w = w
    nothing (FieldThen k n bounds rest) w = w
exact_fields (suc d) = exact_step d (exact_field d (exact_head d (exact_fields d)))

pub exact_port_type : IsExact port_type_part
unfolding fields_part
exact_port_type = record {
  sound = λ ts p rest e. let s = (depth (length ts)).sound ts p rest e in (s.0.0, s.1);
  complete = λ p rest s e.
      let n : ℕ = length (port_type_part.form.spelled p ++ rest) in
      let within : fields_count p ≤ n =
      omega (arith, fields_short p, length-append (port_type_part.form.spelled p) rest, length-append (fields_spelled p) (token.Close ∷ []))
      in (depth n).complete p rest (s, within_count p n within) (ends_any rest);
}
  where
    depth : (d : ℕ) → IsExact (parens (fields_part d))
    depth d = exact_parens (fields_part d) (exact_fields d) refl
