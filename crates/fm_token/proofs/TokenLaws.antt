-- The tokens of a text as a relation and as a function.
use Rattle.std.proofs.Common.{◌≡◌, ◌≢◌, ℕ, suc, zero, ◌-◌, ◌≤◌, ◌<◌, true, false, cond, Option, Some, None, List, [], ◌∷◌, ◌++◌, drop, length, arith, refl, sym, ap, subst, ◌∙◌}
use Rattle.fm_base.specs.declared.token.Class.{Class}
use Rattle.fm_base.specs.declared.token.Class.TheVariants.{LogicalIf, Nothing}
use Rattle.fm_base.specs.declared.token.Token.{Token}
use Rattle.fm_base.specs.declared.token.Token.TheVariants.{Key}
use Rattle.fm_token.specs.TopLevel.{close_of}
use Rattle.fm_token.specs.Classes.{begins, goes_on, class_of, condition_end, end_if_goes_on}
use Rattle.fm_token.specs.Cutting.{cut_of, is_nothing, logical_end, keyed_tokens, logical_tokens, tokens_from, tokens_behind, tokens_of}
use Rattle.fm_token.specs.Statements.{IsTokens, plain, logical, test_of, behind_key, key_of}
use Rattle.fm_token.specs.Steps.{behind_items}
use Rattle.fm_token.proofs.Passes.{close_within}
use Rattle.fm_token.proofs.LogicalIfs.{logical_class, other_class, logical_ends, other_ends}
use Rattle.fm_token.proofs.CutLaws.{cut_complete, cut_sound}
use Rattle.fm_token.proofs.TokenSteps.{tokens_plain, tokens_logical}

goes_within : (text : List ℕ) (o : Option ℕ) (n : ℕ) → end_if_goes_on text o ≡ Some n → o ≡ Some n
goes_within text None n e = cc
goes_within text (Some m) n e =
    elim (goes_on (drop m text)) as (λ t. cond t (Some m) None ≡ Some n → Some m ≡ Some n) [ true ↦ λ h. h | false ↦ λ h. cc ] e

condition_within : (text : List ℕ) (n : ℕ) → condition_end text ≡ Some n → (0 < n) × (n ≤ length text)
unfolding condition_end
condition_within text n e =
    elim (begins text (73 ∷ 70 ∷ 40 ∷ [])) as (λ t. cond t (end_if_goes_on text (close_of text)) None ≡ Some n → (0 < n) × (n ≤ length text)) [
      | true ↦ λ h. close_within text n (goes_within text (close_of text) n h)
      | false ↦ λ h. cc
    ] e

logical_within : (text : List ℕ) (n : ℕ) → logical_end text ≡ Some n → (0 < n) × (n ≤ length text)
logical_within text n e = condition_within text n (logical_class text n e).1

not_nothing : (c : Class) → c ≢ Nothing → is_nothing c ≡ false
not_nothing c n = elim (is_nothing c) as (λ t. is_nothing c ≡ t → t ≡ false) [ true ↦ λ e. absurd (n (nothing c e)) | false ↦ λ e. refl ] refl
  where
    nothing : (c : Class) → is_nothing c ≡ true → c ≡ Nothing
    nothing Nothing e = refl
    nothing c e = cc

keyed_complete : (text : List ℕ) (cut ts : List Token) → class_of text ≢ Nothing → cut_of (behind_key text) ≡ Some cut → ts ≡ key_of (class_of text) ++ cut
    → keyed_tokens text ≡ Some ts
unfolding keyed_tokens
keyed_complete text cut ts n c is =
    ap (λ t. cond t None (behind_items (key_of (class_of text)) (cut_of (behind_key text)))) (not_nothing (class_of text) n)
    ∙ ap (behind_items (key_of (class_of text))) c ∙ ap Some (sym is)

complete : {text : List ℕ} {ts : List Token} → IsTokens text ts → tokens_of text ≡ Some ts
complete {text} {ts} (plain cut l n c is) = tokens_plain text (other_ends text l) ∙ keyed_complete text cut ts n (cut_complete cut (behind_key text) c) is
complete {text} {ts} (logical n test behind l condition c t is) =
    let e = logical_ends text n l condition in
    let w = logical_within text n e in
    tokens_logical text n e w.0 w.1
    ∙ ap (λ (o : Option (List Token)). logical_tokens o (tokens_of (drop n text))) (cut_complete test (test_of n text) c)
    ∙ ap (logical_tokens (Some test)) (complete t) ∙ ap Some (sym is)

record IsKeyed (text : List ℕ) (ts : List Token) : Type 0 where
  class : class_of text ≢ Nothing
  cut : List Token
  at : cut_of (behind_key text) ≡ Some cut
  is : ts ≡ key_of (class_of text) ++ cut

keyed_sound : (text : List ℕ) (ts : List Token) → keyed_tokens text ≡ Some ts → IsKeyed text ts
unfolding keyed_tokens
keyed_sound text ts e =
    elim (is_nothing (class_of text)) as (λ t. is_nothing (class_of text) ≡ t → cond t None (behind_items (key_of (class_of text)) (cut_of (behind_key text))) ≡ Some ts → IsKeyed text ts) [
      | true ↦ λ n h. cc
      | false ↦ λ n h. go n (cut_of (behind_key text)) refl h
    ] refl e
  where
    go : is_nothing (class_of text) ≡ false → (o : Option (List Token)) → cut_of (behind_key text) ≡ o → behind_items (key_of (class_of text)) o ≡ Some ts → IsKeyed text ts
    go n None at h = cc
    go n (Some cut) at h = record {
      class = λ c. let clash : true ≡ false = sym (ap is_nothing c) ∙ n in cc;
      cut = cut;
      at = at;
      is = cc;
    }

record IsLogical (a b : Option (List Token)) (ts : List Token) : Type 0 where
  test : List Token
  behind : List Token
  first : a ≡ Some test
  second : b ≡ Some behind
  is : ts ≡ Key LogicalIf ∷ (test ++ behind)

logical_split : (a b : Option (List Token)) (ts : List Token) → logical_tokens a b ≡ Some ts → IsLogical a b ts
logical_split None b ts e = cc
logical_split (Some x) None ts e = cc
logical_split (Some x) (Some y) ts e = record { test = x; behind = y; first = refl; second = refl; is = cc }

sound_behind : (bs : List ℕ) (n : ℕ) (ts : List Token) → tokens_behind n bs ≡ Some ts → IsTokens (drop n bs) ts
unfolding tokens_behind
sound_behind [] zero ts e = cc
sound_behind [] (suc n) ts e = cc
sound_behind (b ∷ bs) (suc n) ts e = sound_behind bs n ts e
sound_behind (b ∷ bs) zero ts e =
    elim (logical_end (b ∷ bs)) as (λ o. logical_end (b ∷ bs) ≡ o → tokens_from (b ∷ bs) o (λ n. tokens_behind n bs) ≡ Some ts → IsTokens (b ∷ bs) ts) [
      | None ↦ λ l h. let k = keyed_sound (b ∷ bs) ts h in plain k.cut (other_class (b ∷ bs) l) k.class (cut_sound k.cut (behind_key (b ∷ bs)) k.at) k.is
      | Some n ↦ λ l h.
          let j = logical_split (cut_of (test_of n (b ∷ bs))) (tokens_behind (n - 1) bs) ts h in
          let w = logical_within (b ∷ bs) n l in
          let s : suc (n - 1) ≡ n = omega (arith, w.0) in
          let t : IsTokens (drop (n - 1) bs) j.behind = sound_behind bs (n - 1) j.behind j.second in
          logical n j.test j.behind (logical_class (b ∷ bs) n l).0 (logical_class (b ∷ bs) n l).1 (cut_sound j.test (test_of n (b ∷ bs)) j.first) (subst (λ (m : ℕ). IsTokens (drop m (b ∷ bs)) j.behind) s t) j.is
    ] refl e

pub sound : (text : List ℕ) (ts : List Token) → tokens_of text ≡ Some ts → IsTokens text ts
unfolding tokens_of
sound text ts e = sound_behind text 0 ts e

-- a text has one list of tokens
pub tokens_one : (text : List ℕ) (a b : List Token) → IsTokens text a → IsTokens text b → a ≡ b
tokens_one text a b s t = let both : Some a ≡ Some b = sym (complete s) ∙ complete t in cc

pub none : (text : List ℕ) → tokens_of text ≡ None → (ts : List Token) → ¬ (IsTokens text ts)
none text e ts t = let clash : None ≡ Some ts = sym e ∙ complete t in cc
