-- What is read of memory.
use Rattle.std.proofs.Common.{◌≡◌, ℕ, zero, suc, ℤ, pos, true, false, cond, Option, Some, None, List, [], ◌∷◌, length, map, take, drop, slice_get, refl, sym, ap, ◌∙◌}
use Rattle.std.specs.Prelude.{unwrap_or}
use Rattle.std.specs.Option.{option_map}
use Rattle.std.proofs.lemmas.List.{take-map, length-map}
use Rattle.std.proofs.lemmas.Option.{slice_get-map}
use Rattle.fm_base.specs.declared.port.PortValue.{PortValue}
use Rattle.fm_base.specs.Channels.{Words}
use Rattle.fm_symbols.specs.declared.names.Variable.{Variable}
use Rattle.fm_mean.specs.Places.{items_at, words_in, ports_in, first_word, words_of, word_at, port_at}
use Rattle.fm_mean.specs.declared.place.Span.{Span}
use Rattle.fm_plain_frame.specs.declared.word.Word.{Word}
use Rattle.fm_plain_frame.specs.Memory.{number_in, port_in, holds_ports, item_in, values_of}
use Rattle.fm_plain_frame.proofs.MemoryLaws.{item_or, items_at-values, words_in-item_by, ports_in-item_by}

drop-map : {A B : Type 0} (f : A → B) (n : ℕ) (xs : List A) → drop n (map f xs) ≡ map f (drop n xs)
drop-map f zero xs = refl
drop-map f (suc n) [] = refl
drop-map f (suc n) (x ∷ xs) = drop-map f n xs

no_words : {A : Type 0} (n k : ℕ) → ◌≡◌ {A = List A} (take n (drop k [])) []
no_words zero k = refl
no_words (suc n) zero = refl
no_words (suc n) (suc k) = refl

-- the words of a variable
abbrev pub words_at : List Word → Variable → List Word
words_at m v = take v.words (drop v.first m)

module _ (vs : List Variable) (m : List Word) where
  item_nowhere : (i : ℕ) → None ≡ slice_get vs i → items_at (values_of vs m) i ≡ Words []
  item_nowhere i e = items_at-values vs m i ∙ ap (item_or m) (sym e)

  item_here : (i : ℕ) (v : Variable) → Some v ≡ slice_get vs i → items_at (values_of vs m) i ≡ item_in m v
  item_here i v e = items_at-values vs m i ∙ ap (item_or m) (sym e)

  words_nowhere : (i : ℕ) → None ≡ slice_get vs i → words_in (items_at (values_of vs m) i) ≡ []
  words_nowhere i e = ap words_in (item_nowhere i e)

  words_ports : (i : ℕ) (v : Variable) → Some v ≡ slice_get vs i → holds_ports v.kind ≡ true → words_in (items_at (values_of vs m) i) ≡ []
  words_ports i v e ports = ap words_in (item_here i v e) ∙ words_in-item_by v.kind (words_at m v) ∙ ap (λ b. cond b [] (map number_in (words_at m v))) ports

  words_here : (i : ℕ) (v : Variable) → Some v ≡ slice_get vs i → holds_ports v.kind ≡ false → words_in (items_at (values_of vs m) i) ≡ map number_in (words_at m v)
  words_here i v e not_ports = ap words_in (item_here i v e) ∙ words_in-item_by v.kind (words_at m v) ∙ ap (λ b. cond b [] (map number_in (words_at m v))) not_ports

  ports_nowhere : (i : ℕ) → None ≡ slice_get vs i → ports_in (items_at (values_of vs m) i) ≡ []
  ports_nowhere i e = ap ports_in (item_nowhere i e)

  ports_words : (i : ℕ) (v : Variable) → Some v ≡ slice_get vs i → holds_ports v.kind ≡ false → ports_in (items_at (values_of vs m) i) ≡ []
  ports_words i v e not_ports = ap ports_in (item_here i v e) ∙ ports_in-item_by v.kind (words_at m v) ∙ ap (λ b. cond b (map port_in (words_at m v)) []) not_ports

  ports_here : (i : ℕ) (v : Variable) → Some v ≡ slice_get vs i → holds_ports v.kind ≡ true → ports_in (items_at (values_of vs m) i) ≡ map port_in (words_at m v)
  ports_here i v e ports = ap ports_in (item_here i v e) ∙ ports_in-item_by v.kind (words_at m v) ∙ ap (λ b. cond b (map port_in (words_at m v)) []) ports

  -- the words of a span where there is no variable
  pub span_nowhere : (s : Span) (ws : List Word) → None ≡ slice_get vs s.variable → ws ≡ take 0 (drop 0 m) → map number_in ws ≡ words_of (values_of vs m) s
  span_nowhere s ws e is = ap (map number_in) is ∙ sym (ap (λ l. take s.count (drop s.first l)) (words_nowhere s.variable e) ∙ no_words s.count s.first)

  -- where its variable holds ports
  pub span_ports : (s : Span) (ws : List Word) (v : Variable) → Some v ≡ slice_get vs s.variable → holds_ports v.kind ≡ true → ws ≡ take 0 (drop 0 m) → map number_in ws ≡ words_of (values_of vs m) s
  span_ports s ws v e ports is = ap (map number_in) is ∙ sym (ap (λ l. take s.count (drop s.first l)) (words_ports s.variable v e ports) ∙ no_words s.count s.first)

  -- where it doesn't
  pub span_here : (s : Span) (ws mine : List Word) (v : Variable) → Some v ≡ slice_get vs s.variable → holds_ports v.kind ≡ false → mine ≡ words_at m v → ws ≡ take s.count (drop s.first mine)
      → map number_in ws ≡ words_of (values_of vs m) s
  span_here s ws mine v e not_ports all is =
      ap (map number_in) (is ∙ ap (λ l. take s.count (drop s.first l)) all)
      ∙ sym (
      ap (λ l. take s.count (drop s.first l)) (words_here s.variable v e not_ports)
      ∙ ap (take s.count) (drop-map number_in s.first (words_at m v))
      ∙ take-map number_in s.count (drop s.first (words_at m v))
      )

  -- the first of them
  pub first_none : (s : Span) (ws : List Word) → map number_in ws ≡ words_of (values_of vs m) s → None ≡ slice_get ws 0 → pos 0 ≡ word_at (values_of vs m) s
  first_none s [] is e = ap first_word is
  first_none s (w ∷ ws) is e = absurd (cc)

  pub first_some : (s : Span) (ws : List Word) (w : Word) (n : ℤ) → map number_in ws ≡ words_of (values_of vs m) s → Some w ≡ slice_get ws 0 → n ≡ number_in w → n ≡ word_at (values_of vs m) s
  first_some s [] w n is e so = absurd (cc)
  first_some s (x ∷ ws) w n is e so = so ∙ ap number_in (the_word w x e) ∙ ap first_word is
    where
      the_word : (a b : Word) → Some a ≡ Some b → a ≡ b
      the_word a b h = cc

  -- how many words a variable has
  pub len_nowhere : (i : ℕ) → None ≡ slice_get vs i → 0 ≡ length (words_in (items_at (values_of vs m) i))
  len_nowhere i e = sym (ap length (words_nowhere i e))

  pub len_ports : (i : ℕ) (v : Variable) → Some v ≡ slice_get vs i → holds_ports v.kind ≡ true → 0 ≡ length (words_in (items_at (values_of vs m) i))
  len_ports i v e ports = sym (ap length (words_ports i v e ports))

  pub len_here : (i : ℕ) (ws : List Word) (v : Variable) → Some v ≡ slice_get vs i → holds_ports v.kind ≡ false → ws ≡ words_at m v → length ws ≡ length (words_in (items_at (values_of vs m) i))
  len_here i ws v e not_ports is = ap length is ∙ sym (ap length (words_here i v e not_ports) ∙ length-map (words_at m v) number_in)

  -- the port at the first element of a span
  pub port_nowhere : (s : Span) → None ≡ slice_get vs s.variable → None ≡ port_at (values_of vs m) s
  port_nowhere s e = sym (ap (λ l. unwrap_or (slice_get l s.first) None) (ports_nowhere s.variable e))

  pub port_of_words : (s : Span) (v : Variable) → Some v ≡ slice_get vs s.variable → holds_ports v.kind ≡ false → None ≡ port_at (values_of vs m) s
  port_of_words s v e not_ports = sym (ap (λ l. unwrap_or (slice_get l s.first) None) (ports_words s.variable v e not_ports))

  port_there : (s : Span) (v : Variable) → Some v ≡ slice_get vs s.variable → holds_ports v.kind ≡ true → port_at (values_of vs m) s ≡ unwrap_or (option_map port_in (slice_get (words_at m v) s.first)) None
  port_there s v e ports = ap (λ l. unwrap_or (slice_get l s.first) None) (ports_here s.variable v e ports) ∙ ap (λ o. unwrap_or o None) (slice_get-map port_in (words_at m v) s.first)

  pub port_past : (s : Span) (v : Variable) (mine : List Word) → Some v ≡ slice_get vs s.variable → holds_ports v.kind ≡ true → mine ≡ words_at m v → None ≡ slice_get mine s.first → None ≡ port_at (values_of vs m) s
  port_past s v mine e ports all none = sym (port_there s v e ports ∙ ap (λ o. unwrap_or (option_map port_in o) None) (ap (λ l. slice_get l s.first) (sym all) ∙ sym none))

  pub port_here : (s : Span) (v : Variable) (mine : List Word) (w : Word) (p : Option PortValue) → Some v ≡ slice_get vs s.variable → holds_ports v.kind ≡ true → mine ≡ words_at m v → Some w ≡ slice_get mine s.first
      → p ≡ port_in w → p ≡ port_at (values_of vs m) s
  port_here s v mine w p e ports all some so = so ∙ sym (port_there s v e ports ∙ ap (λ o. unwrap_or (option_map port_in o) None) (ap (λ l. slice_get l s.first) (sym all) ∙ sym some))
