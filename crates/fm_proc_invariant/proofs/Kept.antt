-- What is kept of a frame that ends, and what is let go.
use Rattle.std.proofs.Common.{◌≡◌, ℕ, ◌+◌, ◌≤◌, ℤ, pos, Bool, true, false, not, cond, List, [], ◌∷◌, ◌++◌, length, refl, sym, ap, subst, ◌∙◌, arith}
use Rattle.std.specs.List.{AllByRecursion}
use Rattle.std.proofs.lemmas.List.{length-replicate}
use Rattle.fm_code.specs.declared.code.Formal.{Formal}
use Rattle.fm_code.specs.declared.code.Span.{Span}
use Rattle.fm_code.specs.Acts.{span_of}
use Rattle.fm_code.specs.Passing.{live, nulls}
use Rattle.fm_code_kinds.specs.declared.sorts.Cell.{Cell}
use Rattle.fm_code_kinds.specs.Shapes.{cell_span, is_word, words_of}
use Rattle.fm_code_preserves.specs.Rooms.{AreLaid, is_port_word, port_spans}
use Rattle.fm_code_preserves.specs.Weights.{masked, weight}
use Rattle.fm_code_preserves.proofs.Masks.{full, live_weighs, nulls_weigh, over_length, over_ports, under, under_length, weight-append}
use Rattle.fm_code_preserves.proofs.Sorted.{first_mask, later_mask}
use Rattle.fm_proc_language.specs.Frames.{is_kept, kept, nulled}
use Rattle.fm_proc_invariant.specs.Held.{AreMasked, KeepsSome}

module _ (mask : ℕ → Bool) (fs : List Formal) where
  abbrev there : List ℤ → Span → ℕ
  there ws s = length (span_of ws s)

  null_count : (ws : List ℤ) (s : Span) → AreMasked mask (length ws) s true → length (nulls (there ws s)) ≡ s.count
  null_count ws s r = length-replicate (there ws s) (pos 0) ∙ under_length ws s.first s.count r.end

  fit : (ws : List ℤ) (s : Span) → AreMasked mask (length ws) s true → s.first + length (nulls (there ws s)) ≤ length ws
  fit ws s r = omega (arith, null_count ws s r, r.end)

  same : (ws : List ℤ) (s : Span) → AreMasked mask (length ws) s true → length (nulled ws s) ≡ length ws
  same ws s r = over_length mask (λ w. 0) ws s.first (nulls (there ws s)) (fit ws s r)

  left : (ws : List ℤ) (s : Span) → AreMasked mask (length ws) s true → (g : ℤ → ℕ) → masked mask g 0 (nulled ws s) + weight g (live (span_of ws s)) ≡ masked mask g 0 ws
  left ws s r g = omega (
    arith,
    over_ports mask g ws s.first (nulls (there ws s)) (fit ws s r) (λ k low high. r.kind k low (omega (arith, high, null_count ws s r))),
    ap (λ k. full g (under ws s.first k)) (null_count ws s r),
    nulls_weigh g (there ws s),
    live_weighs g (span_of ws s),
  )

  nothing : (ws : List ℤ) (g : ℤ → ℕ) → masked mask g 0 ws + 0 ≡ masked mask g 0 ws
  nothing ws g = omega arith

  one_less : (b : Bool) (s : Span) (ss : List Span) (ws : List ℤ) → AreMasked mask (length ws) s true → KeepsSome mask ws (kept fs ss ws) → KeepsSome mask (nulled ws s) (kept fs ss (nulled ws s))
      → KeepsSome mask ws (cond b (kept fs ss ws) ((kept fs ss (nulled ws s)).0, live (span_of ws s) ++ (kept fs ss (nulled ws s)).1))
  one_less true s ss ws r stay rest = stay
  one_less false s ss ws r stay rest = record {
    same_count = rest.same_count ∙ same ws s r;
    weighs = λ g. omega (arith, rest.weighs g, left ws s r g, weight-append g (live (span_of ws s)) (kept fs ss (nulled ws s)).1);
  }

  pub keeps_some : (ss : List Span) (ws : List ℤ) → AllByRecursion (λ (s : Span). AreMasked mask (length ws) s true) ss → KeepsSome mask ws (kept fs ss ws)
  keeps_some [] ws all = record { same_count = refl; weighs = nothing ws }
  keeps_some (s ∷ ss) ws all =
      one_less (is_kept fs s) s ss ws all.0 (keeps_some ss ws all.1)
      (keeps_some ss (nulled ws s) (subst (λ (n : ℕ). AllByRecursion (λ (s : Span). AreMasked mask n s true) ss) (sym (same ws s all.0)) all.1))

-- the port spans of cells that are laid out are port words
spans_masked : (n total : ℕ) (cs all : List Cell) → AreLaid n cs → n + words_of cs ≤ total → ((k : ℕ) → n ≤ k → is_port_word all k ≡ is_port_word cs k) → AllByRecursion (λ (s : Span). AreMasked (is_port_word all) total s true) (port_spans cs)
spans_masked n total [] all laid le same = tt
spans_masked n total (c ∷ cs) all laid le same =
    go (is_word c.sort) refl (spans_masked (n + c.words) total cs all laid.2 (omega (arith, le)) (λ k low. same k (omega (arith, low)) ∙ later_mask c cs n laid.0 k low))
  where
    go : (b : Bool) → is_word c.sort ≡ b → AllByRecursion (λ (s : Span). AreMasked (is_port_word all) total s true) (port_spans cs) → AllByRecursion (λ (s : Span). AreMasked (is_port_word all) total s true) (cond b (port_spans cs) (cell_span c ∷ port_spans cs))
    go true e rest = rest
    go false e rest = (
      record {
        end = omega (arith, laid.0, le);
        kind = λ k low high. same k (omega (arith, low, laid.0)) ∙ first_mask c cs n laid.0 k (omega (arith, low, laid.0)) (omega (arith, high, laid.0)) ∙ ap not e;
      },
      rest,
    )

pub all_masked : (cs : List Cell) (total : ℕ) → AreLaid 0 cs → words_of cs ≤ total → AllByRecursion (λ (s : Span). AreMasked (is_port_word cs) total s true) (port_spans cs)
all_masked cs total laid le = spans_masked 0 total cs cs laid (omega (arith, le)) (λ k low. refl)
