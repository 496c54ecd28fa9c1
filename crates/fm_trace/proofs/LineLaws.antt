-- Single lines.
use Rattle.std.proofs.Common.{◌≡◌, ◌⊎◌, inl, inr, ℕ, zero, suc, ◌<◌, ◌≤◌, ◌^◌, Bool, true, false, cond, ◌&&◌, nat_le, List, [], ◌∷◌, ◌++◌, length, take, drop, Some, None, Option, Ok, refl, ap, ap₂, subst, sym, ◌∙◌, append_assoc, arith}
use Rattle.std.specs.Prelude.{option_and_then, option_map, ◌==◌, not}
use Rattle.std.specs.Fmt.{decimal}
use Rattle.std.specs.Str.{bytes_eq}
use Rattle.std.specs.Str.Parse.{AllDigits}
use Rattle.std.proofs.lemmas.Bool.{ne_eqb}
use Rattle.std.proofs.lemmas.Bool.Decides.{nat_tests}
use Rattle.std.proofs.lemmas.Fmt.{digits_decimal}
use Rattle.std.proofs.lemmas.List.{append-nil, take-append-drop}
use Rattle.std.proofs.lemmas.List.Folds.{list_all-append}
use Rattle.std.proofs.lemmas.Option.{cond_some, option_and_then_some, some_pair_parts}
use Rattle.std.proofs.lemmas.Slice.Eq.{bytes_eq-Decides}
use Rattle.std.proofs.lemmas.Str.Parse.{digit_from_value}
use Rattle.std.proofs.Math.Seq.{take-append_seam, drop-append_seam}
use Rattle.fm_trace.specs.declared.lines.Before.{Before}
use Rattle.fm_trace.specs.declared.trace.Form.{Form}
use Rattle.fm_trace.specs.declared.trace.Form.TheVariants as forms
use Rattle.fm_trace.specs.declared.trace.Run.{Run}
use Rattle.fm_trace.specs.Texts.{count_word, ended, entry_text, first_line, may_follow, times_text, IsEntry}
use Rattle.fm_trace.specs.Reading.{behind, cut_at, entry_behind, entry_of, fixed_at, form_of, formed, line_by, line_in, may_stand, number_at, number_behind, number_in, run_of, steps_of}
use Rattle.fm_trace.specs.Writing.{entry_line}
use Rattle.fm_trace.proofs.Cuts.{cut_again, cut_found, cut_none, lacks}
use Rattle.fm_trace.proofs.NumeralLaws.{IsIn, both_true, number_again, number_found, own}

pub same_bytes : (x y : List ℕ) → bytes_eq x y ≡ true → x ≡ y
same_bytes x y e = (bytes_eq-Decides x y).0 e

pub bytes_same : (x : List ℕ) → bytes_eq x x ≡ true
bytes_same x = (bytes_eq-Decides x x).1 refl

-- ---- what lacks a byte

lacks_append : (byte : ℕ) (x y : List ℕ) → lacks byte x ≡ true → lacks byte y ≡ true → lacks byte (x ++ y) ≡ true
lacks_append byte x y e f = list_all-append (λ b. not (b == byte)) x y ∙ ap₂ (λ (s t : Bool). s && t) e f

digits_lack : (byte : ℕ) (ds : List ℕ) → byte < 48 → AllDigits 10 ds → lacks byte ds ≡ true
digits_lack byte [] low h = refl
digits_lack byte (d ∷ ds) low h =
    let r = digit_from_value d h.0 in
    ap₂ (λ (s t : Bool). not s && t) (ne_eqb d byte (λ e. omega (arith, r.0, e))) (digits_lack byte ds low h.1)

pub decimal_lacks : (byte n : ℕ) → byte < 48 → n < 2 ^ 64 → lacks byte (decimal n) ≡ true
decimal_lacks byte n low small = digits_lack byte (decimal n) low (digits_decimal own n small)

-- ---- forms

pub behind_found : (front text rest : List ℕ) → behind front text ≡ Some rest → text ≡ front ++ rest
behind_found front text rest e =
    let c = cond_some (bytes_eq (take (length front) text) front) (drop (length front) text) rest e in
    let s : take (length front) text ≡ front = same_bytes (take (length front) text) front c.0 in
    sym (take-append-drop (length front) text) ∙ ap₂ (λ (x y : List ℕ). x ++ y) s c.1

pub behind_again : (front rest : List ℕ) → behind front (front ++ rest) ≡ Some rest
behind_again front rest =
    let s : bytes_eq (take (length front) (front ++ rest)) front ≡ true = ap (λ (x : List ℕ). bytes_eq x front) (take-append_seam front rest) ∙ bytes_same front in
    ap (λ (t : Bool). cond t (Some (drop (length front) (front ++ rest))) None) s ∙ ap Some (drop-append_seam front rest)

pub number_behind_found : (word : List ℕ) (low high : ℕ) (text : List ℕ) (n : ℕ) → number_behind word low high text ≡ Some n → (text ≡ word ++ decimal n) × IsIn low high n
number_behind_found word low high text n e =
    option_and_then_some (number_in low high) (behind word text) n e
    (λ rest is told. let f = number_found low high rest n told in (behind_found word text rest is ∙ ap (λ (r : List ℕ). word ++ r) f.0, f.1))

pub number_behind_again : (word : List ℕ) (low high n : ℕ) → IsIn low high n → high < 10000000000 → number_behind word low high (word ++ decimal n) ≡ Some n
number_behind_again word low high n h small = ap (option_and_then (number_in low high)) (behind_again word (decimal n)) ∙ number_again low high n h small

-- ---- entries

pub some_is : {A : Type 0} (x y : A) → Some x ≡ Some y → x ≡ y
some_is x y e = cc e

record AreStepsIn (text : List ℕ) (steps times : ℕ) : Type 0 where
  parts : text ≡ decimal steps ++ times_text times
  in_range : IsIn 1 4294967295 steps
  some_times : 1 ≤ times
  few_times : times ≤ 1000000001

steps_alone : (text : List ℕ) (o : Option ℕ) (steps times : ℕ) → number_in 1 4294967295 text ≡ o → option_map {U = ℕ × ℕ} (λ (k : ℕ). (k, 1)) o ≡ Some (steps, times) → AreStepsIn text steps times
steps_alone text None steps times is e = absurd (cc e)
steps_alone text (Some n) steps times is e =
    let same = some_pair_parts n steps 1 times e in
    let f = number_found 1 4294967295 text n is in
    let one = same.1 in record {
      parts = f.0 ∙ sym (append-nil (decimal n)) ∙ ap₂ (λ (k m : ℕ). decimal k ++ times_text m) same.0 same.1;
      in_range = subst (IsIn 1 4294967295) same.0 f.1;
      some_times = omega (arith, one);
      few_times = omega (arith, one);
    }

many_text : (times : ℕ) → 2 ≤ times → times_text times ≡ 32 ∷ decimal times
many_text times many = let k : (times == 1) ≡ false = grind (arith, nat_tests) in ap (λ (t : Bool). cond t [] (32 ∷ decimal times)) k

steps_and_times : (text a b : List ℕ) (o p : Option ℕ) (steps times : ℕ) → text ≡ a ++ 32 ∷ b → number_in 1 4294967295 a ≡ o → number_in 2 1000000001 b ≡ p
    → option_and_then {U = ℕ × ℕ} (λ (k : ℕ). option_map (λ (n : ℕ). (k, n)) p) o ≡ Some (steps, times) → AreStepsIn text steps times
steps_and_times text a b None p steps times parts first second e = absurd (cc e)
steps_and_times text a b (Some n) None steps times parts first second e = absurd (cc e)
steps_and_times text a b (Some n) (Some m) steps times parts first second e =
    let same = some_pair_parts n steps m times e in
    let f = number_found 1 4294967295 a n first in
    let g = number_found 2 1000000001 b m second in
    let least = g.1.least in
    let most = g.1.most in
    let is = same.1 in record {
      parts = parts ∙ ap₂ (λ (x y : List ℕ). x ++ 32 ∷ y) (f.0 ∙ ap decimal same.0) (g.0 ∙ ap decimal same.1) ∙ ap (λ (x : List ℕ). decimal steps ++ x) (sym (many_text times (omega (arith, least, is))));
      in_range = subst (IsIn 1 4294967295) same.0 f.1;
      some_times = omega (arith, least, is);
      few_times = omega (arith, most, is);
    }

steps_found : (text : List ℕ) (o : Option (List ℕ × List ℕ)) (steps times : ℕ) → cut_at 32 text ≡ o → steps_of text o ≡ Some (steps, times) → AreStepsIn text steps times
steps_found text None steps times is e = steps_alone text (number_in 1 4294967295 text) steps times refl e
steps_found text (Some p) steps times is e =
    steps_and_times text p.0 p.1 (number_in 1 4294967295 p.0) (number_in 2 1000000001 p.1) steps times (cut_found 32 text p.0 p.1 is).parts refl refl e

run_parts : (number : Option ℕ) (steps : Option (ℕ × ℕ)) (r : Run) → run_of number steps ≡ Some r → (number ≡ Some r.turn.number) × (steps ≡ Some (r.turn.steps, r.times))
run_parts None steps r e = absurd (cc e)
run_parts (Some n) None r e = absurd (cc e)
run_parts (Some n) (Some k) r e =
    let s = some_is (record { turn = record { number = n; steps = k.0 }; times = k.1 }) r e in
    (ap (λ (v : Run). Some v.turn.number) s, ap (λ (v : Run). Some (v.turn.steps, v.times)) s)

entry_found : (text : List ℕ) (r : Run) → entry_of text ≡ Some r → (text ≡ entry_text r) × IsEntry r
entry_found text r e =
    option_and_then_some (λ (p : List ℕ × List ℕ). run_of (number_in 0 4294967295 p.0) (steps_of p.1 (cut_at 32 p.1))) (cut_at 32 text) r e
    (λ p is told.
    let parts = run_parts (number_in 0 4294967295 p.0) (steps_of p.1 (cut_at 32 p.1)) r told in
    let c = cut_found 32 text p.0 p.1 is in
    let a = number_found 0 4294967295 p.0 r.turn.number parts.0 in
    let b = steps_found p.1 (cut_at 32 p.1) r.turn.steps r.times refl parts.1 in (
      c.parts ∙ ap₂ (λ (x y : List ℕ). x ++ 32 ∷ y) a.0 b.parts,
      record {
        number = omega (arith, a.1.most);
        some_steps = b.in_range.least;
        steps = omega (arith, b.in_range.most);
        some_times = b.some_times;
        times = b.few_times;
      },
    ))

abbrev pair : (steps times : ℕ) → Option (ℕ × ℕ)
pair steps times = Some (steps, times)

-- once, or more often
once_or_more : (times : ℕ) → 1 ≤ times → (times ≡ 1) ⊎ (2 ≤ times)
once_or_more zero some = absurd (omega (arith, some))
once_or_more (suc zero) some = inl refl
once_or_more (suc (suc n)) some = inr (omega arith)

steps_again : (steps times : ℕ) → IsIn 1 4294967295 steps → times ≤ 1000000001 → (times ≡ 1) ⊎ (2 ≤ times) → steps_of (decimal steps ++ times_text times) (cut_at 32 (decimal steps ++ times_text times)) ≡ Some (steps, times)
steps_again steps times h few (inl one) =
    let most = h.most in
    let text : decimal steps ++ times_text times ≡ decimal steps = ap (λ (n : ℕ). decimal steps ++ times_text n) one ∙ append-nil (decimal steps) in
    ap (λ (x : List ℕ). steps_of x (cut_at 32 x)) text
    ∙ ap (steps_of (decimal steps)) (cut_none 32 (decimal steps) (decimal_lacks 32 steps (omega arith) (omega (arith, most))))
    ∙ ap (option_map {U = ℕ × ℕ} (λ (k : ℕ). (k, 1))) (number_again 1 4294967295 steps h (omega arith))
    ∙ ap (pair steps) (sym one)
steps_again steps times h few (inr many) =
    let most = h.most in
    let text : decimal steps ++ times_text times ≡ decimal steps ++ 32 ∷ decimal times = ap (λ (x : List ℕ). decimal steps ++ x) (many_text times many) in
    let second : number_in 2 1000000001 (decimal times) ≡ Some times = number_again 2 1000000001 times (record { least = many; most = few }) (omega arith) in
    ap (λ (x : List ℕ). steps_of x (cut_at 32 x)) text
    ∙ ap (steps_of (decimal steps ++ 32 ∷ decimal times)) (cut_again 32 (decimal steps) (decimal times) (decimal_lacks 32 steps (omega arith) (omega (arith, most))))
    ∙ ap (option_and_then {U = ℕ × ℕ} (λ (k : ℕ). option_map (λ (n : ℕ). (k, n)) (number_in 2 1000000001 (decimal times)))) (number_again 1 4294967295 steps h (omega arith))
    ∙ ap (option_map {U = ℕ × ℕ} (λ (n : ℕ). (steps, n))) second

entry_again : (r : Run) → IsEntry r → entry_of (entry_text r) ≡ Some r
entry_again r h =
    let tail : List ℕ = decimal r.turn.steps ++ times_text r.times in
    let cut : cut_at 32 (entry_text r) ≡ Some (decimal r.turn.number, tail) = cut_again 32 (decimal r.turn.number) tail (decimal_lacks 32 r.turn.number (omega arith) (omega (arith, h.number))) in
    let a : number_in 0 4294967295 (decimal r.turn.number) ≡ Some r.turn.number = number_again 0 4294967295 r.turn.number (record { least = omega arith; most = omega (arith, h.number) }) (omega arith) in
    let b : steps_of tail (cut_at 32 tail) ≡ Some (r.turn.steps, r.times) =
    steps_again r.turn.steps r.times (record { least = h.some_steps; most = omega (arith, h.steps) }) h.times (once_or_more r.times h.some_times) in
    ap (option_and_then (λ (p : List ℕ × List ℕ). run_of (number_in 0 4294967295 p.0) (steps_of p.1 (cut_at 32 p.1)))) cut
    ∙ ap₂ run_of a b

-- an entry that may stand behind others
pub record MayStand (before : Before) (r : Run) : Type 0 where
  pub entry : IsEntry r
  pub within : r.times ≤ before.room
  pub follows : may_follow before.form before.turn r ≡ true

behind_others_found : (before : Before) (text : List ℕ) (r : Run) → entry_behind before text ≡ Some r → (text ≡ entry_text r) × MayStand before r
behind_others_found before text r e =
    option_and_then_some (λ (u : Run). cond (may_stand before u) (Some u) None) (entry_of text) r e
    (λ u is told.
    let c = cond_some (may_stand before u) u r told in
    let f = entry_found text u is in
    let b = both_true (nat_le u.times before.room) (may_follow before.form before.turn u) c.0 in
    subst (λ (v : Run). (text ≡ entry_text v) × MayStand before v) c.1
    (f.0, record { entry = f.1; within = grind (arith, nat_tests); follows = b.1 }))

behind_others_again : (before : Before) (r : Run) → MayStand before r → entry_behind before (entry_text r) ≡ Some r
behind_others_again before r h =
    let within = h.within in
    let low : nat_le r.times before.room ≡ true = grind (arith, nat_tests) in
    ap (option_and_then (λ (u : Run). cond (may_stand before u) (Some u) None)) (entry_again r h.entry)
    ∙ ap₂ (λ (s t : Bool). cond (s && t) (Some r) None) low h.follows

-- ---- first lines

form_by : (text : List ℕ) (form : Form) (one : Bool) → bytes_eq text (first_line forms.One) ≡ one → cond one (Some forms.One) (cond (bytes_eq text (first_line forms.Two)) (Some forms.Two) None) ≡ Some form → text ≡ first_line form
form_by text form true same e = subst (λ (f : Form). text ≡ first_line f) (some_is forms.One form e) (same_bytes text (first_line forms.One) same)
form_by text form false same e =
    let c = cond_some (bytes_eq text (first_line forms.Two)) forms.Two form e in
    subst (λ (f : Form). text ≡ first_line f) c.1 (same_bytes text (first_line forms.Two) c.0)

form_again : (form : Form) → form_of (first_line form) ≡ Some form
form_again forms.One = refl
form_again forms.Two = refl

form_lacks : (form : Form) → lacks 10 (first_line form) ≡ true
form_lacks forms.One = refl
form_lacks forms.Two = refl

pub count_lacks : (form : Form) → lacks 10 (count_word form) ≡ true
count_lacks forms.One = refl
count_lacks forms.Two = refl

-- ---- lines

formed_ok : {X : Type 0} (line : ℕ) (rest : List ℕ) (o : Option X) (y : X × List ℕ) → formed line rest o ≡ Ok y → (o ≡ Some y.0) × (rest ≡ y.1)
formed_ok line rest None y e = absurd (cc e)
formed_ok line rest (Some x) y e = (cc e, cc e)

pub line_found : {X : Type 0} (form : List ℕ → Option X) (line : ℕ) (bytes : List ℕ) (y : X × List ℕ) → line_by form line bytes ≡ Ok y → (text : List ℕ) × (form text ≡ Some y.0) × (bytes ≡ ended text ++ y.1)
line_found form line bytes y e = go (cut_at 10 bytes) refl e
  where
    go : (o : Option (List ℕ × List ℕ)) → cut_at 10 bytes ≡ o → line_in form line o ≡ Ok y → (text : List ℕ) × (form text ≡ Some y.0) × (bytes ≡ ended text ++ y.1)
    go None is e = absurd (cc e)
    go (Some p) is e =
        let f = formed_ok line p.1 (form p.0) y e in
        let c = cut_found 10 bytes p.0 p.1 is in
        (p.0, f.0, c.parts ∙ sym (append_assoc p.0 (10 ∷ []) p.1) ∙ ap (λ (r : List ℕ). ended p.0 ++ r) f.1)

pub line_again : {X : Type 0} (form : List ℕ → Option X) (line : ℕ) (text rest : List ℕ) (x : X) → form text ≡ Some x → lacks 10 text ≡ true → line_by form line (ended text ++ rest) ≡ Ok (x, rest)
line_again form line text rest x is lacking =
    ap (line_by form line) (append_assoc text (10 ∷ []) rest)
    ∙ ap (line_in form line) (cut_again 10 text rest lacking)
    ∙ ap (formed line rest) is

fixed_is : (text t x : List ℕ) → cond (bytes_eq t text) (Some t) None ≡ Some x → t ≡ text
fixed_is text t x e = same_bytes t text (cond_some (bytes_eq t text) t x e).0

pub fixed_found : (text : List ℕ) (line : ℕ) (bytes : List ℕ) (y : List ℕ × List ℕ) → fixed_at text line bytes ≡ Ok y → bytes ≡ ended text ++ y.1
fixed_found text line bytes y e =
    let f = line_found (λ t. cond (bytes_eq t text) (Some t) None) line bytes y e in
    f.2 ∙ ap (λ (t : List ℕ). ended t ++ y.1) (fixed_is text f.0 y.0 f.1)

pub fixed_again : (text : List ℕ) (line : ℕ) (rest : List ℕ) → lacks 10 text ≡ true → fixed_at text line (ended text ++ rest) ≡ Ok (text, rest)
fixed_again text line rest lacking =
    line_again (λ t. cond (bytes_eq t text) (Some t) None) line text rest text (ap (λ (b : Bool). cond b (Some text) None) (bytes_same text)) lacking

pub number_at_found : (word : List ℕ) (low high line : ℕ) (bytes : List ℕ) (y : ℕ × List ℕ) → number_at word low high line bytes ≡ Ok y → (bytes ≡ ended (word ++ decimal y.0) ++ y.1) × IsIn low high y.0
number_at_found word low high line bytes y e =
    let f = line_found (number_behind word low high) line bytes y e in
    let t = number_behind_found word low high f.0 y.0 f.1 in
    (f.2 ∙ ap (λ (x : List ℕ). ended x ++ y.1) t.0, t.1)

pub number_at_again : (word : List ℕ) (low high line n : ℕ) (rest : List ℕ) → lacks 10 word ≡ true → IsIn low high n → high < 10000000000 → number_at word low high line (ended (word ++ decimal n) ++ rest) ≡ Ok (n, rest)
number_at_again word low high line n rest lacking h small =
    line_again (number_behind word low high) line (word ++ decimal n) rest n (number_behind_again word low high n h small)
    (lacks_append 10 word (decimal n) lacking (decimal_lacks 10 n (omega arith) (omega (arith, h.most))))

pub form_line_found : (line : ℕ) (bytes : List ℕ) (y : Form × List ℕ) → line_by form_of line bytes ≡ Ok y → bytes ≡ ended (first_line y.0) ++ y.1
form_line_found line bytes y e =
    let f = line_found form_of line bytes y e in
    f.2 ∙ ap (λ (x : List ℕ). ended x ++ y.1) (form_by f.0 y.0 (bytes_eq f.0 (first_line forms.One)) refl f.1)

pub form_line_again : (form : Form) (line : ℕ) (rest : List ℕ) → line_by form_of line (ended (first_line form) ++ rest) ≡ Ok (form, rest)
form_line_again form line rest = line_again form_of line (first_line form) rest form (form_again form) (form_lacks form)

times_lacks : (times : ℕ) → times ≤ 1000000001 → lacks 10 (times_text times) ≡ true
times_lacks times few = go (times == 1)
  where
    go : (one : Bool) → lacks 10 (cond one [] (32 ∷ decimal times)) ≡ true
    go true = refl
    go false = decimal_lacks 10 times (omega arith) (omega (arith, few))

entry_lacks : (r : Run) → IsEntry r → lacks 10 (entry_text r) ≡ true
entry_lacks r h =
    lacks_append 10 (decimal r.turn.number) (32 ∷ (decimal r.turn.steps ++ times_text r.times)) (decimal_lacks 10 r.turn.number (omega arith) (omega (arith, h.number)))
    (lacks_append 10 (decimal r.turn.steps) (times_text r.times) (decimal_lacks 10 r.turn.steps (omega arith) (omega (arith, h.steps))) (times_lacks r.times h.times))

pub entry_line_found : (before : Before) (line : ℕ) (bytes : List ℕ) (y : Run × List ℕ) → line_by (entry_behind before) line bytes ≡ Ok y → (bytes ≡ entry_line y.0 ++ y.1) × MayStand before y.0
entry_line_found before line bytes y e =
    let f = line_found (entry_behind before) line bytes y e in
    let t = behind_others_found before f.0 y.0 f.1 in
    (f.2 ∙ ap (λ (x : List ℕ). ended x ++ y.1) t.0, t.1)

pub entry_line_again : (before : Before) (line : ℕ) (r : Run) (rest : List ℕ) → MayStand before r → line_by (entry_behind before) line (entry_line r ++ rest) ≡ Ok (r, rest)
entry_line_again before line r rest h = line_again (entry_behind before) line (entry_text r) rest r (behind_others_again before r h) (entry_lacks r h.entry)
