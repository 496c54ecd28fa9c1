-- The order in which ports are discarded doesn't matter.
use Rattle.std.proofs.Common.{◌≡◌, ◌≢◌, ℕ, zero, suc, ◌+◌, ◌<◌, ◌≤◌, ◌==◌, not, Bool, true, false, cond, Option, Some, None, List, [], ◌∷◌, ◌++◌, length, filter, refl, sym, ap, ◌∙◌, arith, length-append, append_assoc, append-nil}
use Rattle.std.specs.Prelude.{option_map}
use Rattle.std.specs.FinMap as map
use Rattle.fm_base.specs.declared.path.ChanName.{ChanName}
use Rattle.fm_base.specs.declared.port.PortValue.{PortValue}
use Rattle.fm_base.specs.declared.port.PortValue.TheVariants.{Writer, Reader}
use Rattle.fm_base.specs.Channels.{Chan, Chans, channel_of, without, discarded, freed, shut, shut_at, shed, weight, all_shed}
use Rattle.fm_finmap.specs.Sums.{total}
use Rattle.fm_finmap.specs.Changes.{adjust, adjust_found}
use Rattle.fm_finmap.proofs.Keys.{decide, nat_order, channel_order}
use Rattle.fm_finmap.proofs.Adjusts.{adjust_swap, adjust_here, adjust_there}
use Rattle.fm_discards.proofs.Shedding.{queued, weight-total, weight-cons, all_shed-nil, all_shed-cons}

-- the port's channel, if it is there
abbrev chan_at : PortValue → Chans → Option Chan
chan_at x m = map.get m (channel_of x)

-- what the port frees
abbrev frees : PortValue → Chans → List PortValue
frees x m = freed x (chan_at x m)

-- the channels without the port and what it frees
abbrev gone : PortValue → Chans → Chans
gone x m = all_shed (x ∷ []) m

-- ---- one part after the other

all_shed-append_at : (n : ℕ) (xs ys : List PortValue) (m : Chans) → weight xs m ≡ n → all_shed (xs ++ ys) m ≡ all_shed ys (all_shed xs m)
all_shed-append_at n [] ys m is = ap (all_shed ys) (sym (all_shed-nil m))
all_shed-append_at zero (x ∷ xs) ys m is = absurd (omega (arith, weight-cons x xs m, is))
all_shed-append_at (suc n) (x ∷ xs) ys m is =
    all_shed-cons x (xs ++ ys) m ∙ ap (λ zs. all_shed zs (shut x m)) (sym (append_assoc (frees x m) xs ys))
    ∙ all_shed-append_at n (frees x m ++ xs) ys (shut x m) (omega (arith, weight-cons x xs m, is))
    ∙ ap (all_shed ys) (sym (all_shed-cons x xs m))

pub all_shed-append : (xs ys : List PortValue) (m : Chans) → all_shed (xs ++ ys) m ≡ all_shed ys (all_shed xs m)
all_shed-append xs ys m = all_shed-append_at (weight xs m) xs ys m refl

each : (x : PortValue) (xs : List PortValue) (m : Chans) → all_shed (x ∷ xs) m ≡ all_shed xs (gone x m)
each x xs m = all_shed-append (x ∷ []) xs m

gone_is : (x : PortValue) (m : Chans) → gone x m ≡ all_shed (frees x m) (shut x m)
gone_is x m = all_shed-cons x [] m ∙ ap (λ zs. all_shed zs (shut x m)) (append-nil (frees x m))

frees_nothing : (c : ChanName) (w : ℕ) (o : Option Chan) → freed (Writer c w) o ≡ []
frees_nothing c w None = refl
frees_nothing c w (Some ch) = refl

pub all_shed-writer : (c : ChanName) (w : ℕ) (m : Chans) → gone (Writer c w) m ≡ shut (Writer c w) m
all_shed-writer c w m = gone_is (Writer c w) m ∙ ap (λ zs. all_shed zs (shut (Writer c w) m)) (frees_nothing c w (chan_at (Writer c w) m)) ∙ all_shed-nil (shut (Writer c w) m)

-- ---- what waits in the channels

-- what waited waits still, or is freed
waits : (x : PortValue) (m : Chans) → total queued (shut x m) + length (frees x m) ≡ total queued m
waits x m = omega (arith, weight-cons x [] m, weight-total (x ∷ []) m, weight-total (frees x m ++ []) (shut x m), length-append (frees x m) [])

shed-le : (n : ℕ) (xs : List PortValue) (m : Chans) → total queued (shed n xs m) ≤ total queued m
shed-le zero xs m = omega arith
shed-le (suc n) [] m = omega arith
shed-le (suc n) (x ∷ xs) m = omega (arith, shed-le n (frees x m ++ xs) (shut x m), waits x m)

gone-le : (x : PortValue) (m : Chans) → total queued (gone x m) ≤ total queued m
gone-le x m = shed-le (weight (x ∷ []) m) (x ∷ []) m

-- ---- two ports

module _ (p q : ℕ → Bool) where
  head_moves : (u : ℕ) (ws : List ℕ) → filter p (filter q ws) ≡ filter q (filter p ws) → (a b : Bool) → p u ≡ a → q u ≡ b
      → filter p (cond b (u ∷ filter q ws) (filter q ws)) ≡ filter q (cond a (u ∷ filter p ws) (filter p ws))
  head_moves u ws rest true true pu qu =
      ap (λ z. cond z (u ∷ filter p (filter q ws)) (filter p (filter q ws))) pu ∙ ap (λ vs. u ∷ vs) rest
      ∙ sym (ap (λ z. cond z (u ∷ filter q (filter p ws)) (filter q (filter p ws))) qu)
  head_moves u ws rest true false pu qu = rest ∙ sym (ap (λ z. cond z (u ∷ filter q (filter p ws)) (filter q (filter p ws))) qu)
  head_moves u ws rest false true pu qu = ap (λ z. cond z (u ∷ filter p (filter q ws)) (filter p (filter q ws))) pu ∙ rest
  head_moves u ws rest false false pu qu = rest

  filter-filter : (ws : List ℕ) → filter p (filter q ws) ≡ filter q (filter p ws)
  filter-filter [] = refl
  filter-filter (u ∷ ws) = head_moves u ws (filter-filter ws) (p u) (q u) refl refl

without-without : (v w : ℕ) (ws : List ℕ) → without v (without w ws) ≡ without w (without v ws)
without-without v w ws = filter-filter (λ u. not (u == v)) (λ u. not (u == w)) ws

shut-adjust : (x : PortValue) (m : Chans) → shut x m ≡ adjust m (channel_of x) (discarded x)
unfolding adjust
shut-adjust x m = go (map.get m (channel_of x))
  where
    go : (o : Option Chan) → shut_at x m o ≡ adjust_found m (channel_of x) (discarded x) o
    go None = refl
    go (Some ch) = refl

both : (x y : PortValue) (ch : Chan) → discarded x (discarded y ch) ≡ discarded y (discarded x ch)
both (Writer c v) (Writer d w) ch = ap (λ ws. record { queue = ch.queue; writers = ws; lives = ch.lives }) (without-without v w ch.writers)
both (Writer c v) (Reader d) ch = refl
both (Reader c) (Writer d w) ch = refl
both (Reader c) (Reader d) ch = refl

shut_swap : (x y : PortValue) (m : Chans) → shut x (shut y m) ≡ shut y (shut x m)
shut_swap x y m =
    ap (shut x) (shut-adjust y m) ∙ shut-adjust x (adjust m (channel_of y) (discarded y))
    ∙ adjust_swap channel_order m (channel_of x) (channel_of y) (discarded x) (discarded y) (λ e ch is. both x y ch)
    ∙ sym (ap (shut y) (shut-adjust x m) ∙ shut-adjust y (adjust m (channel_of x) (discarded x)))

-- an inport's channel stays as it is for it where an outport goes
reader_stays : (c d : ChanName) (w : ℕ) (o : Option Chan) → freed (Reader c) (option_map (discarded (Writer d w)) o) ≡ freed (Reader c) o
reader_stays c d w None = refl
reader_stays c d w (Some ch) = refl

elsewhere : (x y : PortValue) (m : Chans) → (channel_of y ≢ channel_of x) → frees y (shut x m) ≡ frees y m
elsewhere x y m apart = ap (λ n. frees y n) (shut-adjust x m) ∙ ap (freed y) (adjust_there channel_order m (channel_of x) (discarded x) (channel_of y) apart)

inport_frees : (x : PortValue) (c : ChanName) (m : Chans) → (x ≢ Reader c) → Dec (c ≡ channel_of x) → frees (Reader c) (shut x m) ≡ frees (Reader c) m
inport_frees x c m other (no apart) = elsewhere x (Reader c) m apart
inport_frees (Reader d) c m other (yes e) = absurd (other (ap Reader (sym e)))
inport_frees (Writer d w) c m other (yes e) =
    ap (λ n. frees (Reader c) n) (shut-adjust (Writer d w) m)
    ∙ ap (λ k. freed (Reader c) (map.get (adjust m d (discarded (Writer d w))) k)) e
    ∙ ap (freed (Reader c)) (adjust_here channel_order m d (discarded (Writer d w)))
    ∙ reader_stays c d w (map.get m d)
    ∙ ap (λ k. freed (Reader c) (map.get m k)) (sym e)

frees_stay : (x y : PortValue) (m : Chans) → (x ≢ y) → frees y (shut x m) ≡ frees y m
frees_stay x (Writer c w) m other = frees_nothing c w (chan_at (Writer c w) (shut x m)) ∙ sym (frees_nothing c w (chan_at (Writer c w) m))
frees_stay x (Reader c) m other = inport_frees x c m other (decide channel_order c (channel_of x))

-- ---- every two, by what waits

abbrev Commute : ℕ → Type 0
Commute n = (m : Chans) (x y : PortValue) → total queued m < n → gone x (gone y m) ≡ gone y (gone x m)

module _ (n : ℕ) (commute : Commute n) where
  past_one : (xs : List PortValue) (y : PortValue) (m : Chans) → total queued m < n → all_shed xs (gone y m) ≡ gone y (all_shed xs m)
  past_one [] y m few = all_shed-nil (gone y m) ∙ ap (gone y) (sym (all_shed-nil m))
  past_one (x ∷ xs) y m few =
      each x xs (gone y m) ∙ ap (all_shed xs) (commute m x y few)
      ∙ past_one xs y (gone x m) (omega (arith, gone-le x m, few)) ∙ ap (gone y) (sym (each x xs m))

  past_all : (xs ys : List PortValue) (m : Chans) → total queued m < n → all_shed xs (all_shed ys m) ≡ all_shed ys (all_shed xs m)
  past_all xs [] m few = ap (all_shed xs) (all_shed-nil m) ∙ sym (all_shed-nil (all_shed xs m))
  past_all xs (y ∷ ys) m few =
      ap (all_shed xs) (each y ys m) ∙ past_all xs ys (gone y m) (omega (arith, gone-le y m, few))
      ∙ ap (all_shed ys) (past_one xs y m few) ∙ sym (each y ys (all_shed xs m))

  -- what is freed leaves fewer that wait
  freed_past_one : (fs : List PortValue) (y : PortValue) (k : Chans) → total queued k + length fs < suc n → gone y (all_shed fs k) ≡ all_shed fs (gone y k)
  freed_past_one [] y k few = ap (gone y) (all_shed-nil k) ∙ sym (all_shed-nil (gone y k))
  freed_past_one (f ∷ fs) y k few = sym (past_one (f ∷ fs) y k (omega (arith, few)))

  freed_past_all : (fs gs : List PortValue) (k : Chans) → total queued k + length fs < suc n → all_shed fs (all_shed gs k) ≡ all_shed gs (all_shed fs k)
  freed_past_all [] gs k few = all_shed-nil (all_shed gs k) ∙ ap (all_shed gs) (sym (all_shed-nil k))
  freed_past_all (f ∷ fs) gs k few = past_all (f ∷ fs) gs k (omega (arith, few))

  after_first : (x y : PortValue) (m : Chans) → (x ≢ y) → total queued m < suc n → gone y (gone x m) ≡ all_shed (frees x m) (all_shed (frees y m) (shut y (shut x m)))
  after_first x y m other few =
      ap (gone y) (gone_is x m) ∙ freed_past_one (frees x m) y (shut x m) (omega (arith, waits x m, few))
      ∙ ap (all_shed (frees x m)) (gone_is y (shut x m) ∙ ap (λ zs. all_shed zs (shut y (shut x m))) (frees_stay x y m other))

  two : (x y : PortValue) (m : Chans) → total queued m < suc n → Dec (x ≡ y) → gone x (gone y m) ≡ gone y (gone x m)
  two x y m few (yes e) = ap (λ z. gone z (gone y m)) e ∙ ap (λ z. gone y (gone z m)) (sym e)
  two x y m few (no other) =
      after_first y x m (λ e. other (sym e)) few
      ∙ ap (λ k. all_shed (frees y m) (all_shed (frees x m) k)) (shut_swap x y m)
      ∙ freed_past_all (frees y m) (frees x m) (shut y (shut x m)) (omega (arith, waits x m, waits y (shut x m), ap length (frees_stay x y m other), few))
      ∙ sym (after_first x y m other few)

same_writer : (c d : ChanName) (v w : ℕ) → Dec (c ≡ d) → Dec (v ≡ w) → Dec (Writer c v ≡ Writer d w)
same_writer c d v w (yes e) (yes f) = yes (λ i. Writer (e i) (f i))
same_writer c d v w (yes e) (no n) = no (λ p. n (cc p))
same_writer c d v w (no n) f = no (λ p. n (cc p))

same_reader : (c d : ChanName) → Dec (c ≡ d) → Dec (Reader c ≡ Reader d)
same_reader c d (yes e) = yes (ap Reader e)
same_reader c d (no n) = no (λ p. n (cc p))

same_port : (x y : PortValue) → Dec (x ≡ y)
same_port (Writer c v) (Writer d w) = same_writer c d v w (decide channel_order c d) (decide nat_order v w)
same_port (Writer c v) (Reader d) = no (λ p. cc p)
same_port (Reader c) (Writer d w) = no (λ p. cc p)
same_port (Reader c) (Reader d) = same_reader c d (decide channel_order c d)

commutes : (n : ℕ) → Commute n
commutes zero m x y few = absurd (omega (arith, few))
commutes (suc n) m x y few = two n (commutes n) x y m few (same_port x y)

pub all_shed-swap : (xs ys : List PortValue) (m : Chans) → all_shed (xs ++ ys) m ≡ all_shed (ys ++ xs) m
all_shed-swap xs ys m =
    all_shed-append xs ys m ∙ past_all (suc (total queued m)) (commutes (suc (total queued m))) ys xs m (omega arith) ∙ sym (all_shed-append ys xs m)

pub all_shed-past : (xs : List PortValue) (x : PortValue) (ys : List PortValue) (m : Chans) → all_shed (xs ++ x ∷ ys) m ≡ all_shed (x ∷ xs ++ ys) m
all_shed-past xs x ys m =
    all_shed-append xs (x ∷ ys) m ∙ all_shed-append (x ∷ []) ys (all_shed xs m)
    ∙ ap (all_shed ys) (sym (all_shed-append xs (x ∷ []) m) ∙ all_shed-swap xs (x ∷ []) m)
    ∙ sym (all_shed-append (x ∷ xs) ys m)
