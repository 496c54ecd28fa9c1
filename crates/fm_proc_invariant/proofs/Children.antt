-- Ports that go over to a child: out of the slots of its parent, and into slots of its own.
use Rattle.std.proofs.Common.{◌≡◌, ℕ, suc, ◌+◌, ◌≤◌, ℤ, Bool, true, false, cond, Option, Some, None, List, [], ◌∷◌, ◌++◌, length, take, drop, refl, sym, ap, ◌∙◌, arith}
use Rattle.std.specs.List.{filter_map, flat_map}
use Rattle.std.proofs.lemmas.List.{length-take}
use Rattle.std.proofs.lemmas.List.Elements.{filter-append}
use Rattle.std.proofs.Math.Seq.{drop-append_seam, take-append_seam}
use Rattle.fm_base.specs.declared.port.PortValue.{PortValue}
use Rattle.fm_code.specs.declared.code.Span.{Span}
use Rattle.fm_code.specs.Acts.{span_of}
use Rattle.fm_code.specs.Passing.{is_port, live, ports_in, spliced}
use Rattle.fm_code_kinds.specs.declared.sorts.Cell.{Cell}
use Rattle.fm_code_kinds.specs.Shapes.{cell_span, is_word, words_of}
use Rattle.fm_net.proofs.Counts.{count-append, count-cons, count-nil}
use Rattle.fm_code_preserves.specs.Rooms.{AreLaid, is_port_word, port_spans}
use Rattle.fm_code_preserves.specs.Weights.{masked, weight}
use Rattle.fm_code_preserves.proofs.Masks.{full, live_weighs, over_before, over_behind, over_length, under, under_length, weight-append}
use Rattle.fm_code_preserves.proofs.Sorted.{laid_weighs}
use Rattle.fm_proc_language.specs.Slots.{Slots, all_put, all_taken, no_slots, put, put_any, taken}
use Rattle.fm_proc_language.specs.Frames.{moved_over}
use Rattle.fm_proc_invariant.specs.Moves.{IsUsed, Moves}
use Rattle.fm_proc_invariant.specs.Held.{GoesOver}
use Rattle.fm_proc_invariant.proofs.Slots.{comes, moves_like, stays_so, then_moves}
use Rattle.fm_proc_invariant.proofs.Exchange.{put_number}
use Rattle.fm_proc_invariant.proofs.Messages.{all_taken_out}

-- words laid over others are there
pub over_there : (ws : List ℤ) (k : ℕ) (ns : List ℤ) → k + length ns ≤ length ws → under (spliced ws k ns) k (length ns) ≡ ns
over_there ws k ns le =
    let rest = drop (k + length ns) ws in
    let e : k ≡ length (take k ws) = omega (arith, le, length-take k ws) in
    ap (λ i. take (length ns) (drop i (take k ws ++ (ns ++ rest)))) e ∙ ap (take (length ns)) (drop-append_seam (take k ws) (ns ++ rest)) ∙ take-append_seam ns rest

-- ports come to slots, one after the other
pub all_put_in : (os : List (Option PortValue)) (to : Slots) (low : List ℤ) → IsUsed to low → Moves to low (all_put to os).1 (live (all_put to os).0 ++ low) (filter_map (λ p. p) os) []
all_put_in [] to low used = stays_so to low low (λ g. refl)
all_put_in (None ∷ os) to low used = all_put_in os to low used
all_put_in (Some x ∷ os) to low used =
    let one = comes to x low in
    let new = (put to x).0 in
    let later = all_put (put to x).1 os in
    let rest = all_put_in os (put to x).1 (new ∷ low) (one.used used) in
    let order = stays_so later.1 (live later.0 ++ new ∷ low) (live (new ∷ later.0) ++ low)
    (λ g. omega (
      arith,
      weight-append g (live later.0) (new ∷ low),
      weight-append g (live (new ∷ later.0)) low,
      live_weighs g (new ∷ later.0),
      live_weighs g later.0,
      ap (λ (b : Bool). cond b (g new) 0) (put_number to.free to x),
    )) in
    moves_like (then_moves one (then_moves rest order))
    (λ z. omega (arith, count-cons z x (filter_map (λ p. p) os), count-append z (x ∷ []) (filter_map (λ p. p) os ++ []), count-append z (filter_map (λ p. p) os) [], count-cons z x [], count-nil z))
    (λ z. refl)

put_length : (os : List (Option PortValue)) (to : Slots) → length (all_put to os).0 ≡ length os
put_length [] to = refl
put_length (o ∷ os) to = ap suc (put_length os (put_any to o).1)

taken_length : (zs : List ℤ) (s : Slots) → length (all_taken s zs).0 ≡ length zs
taken_length [] s = refl
taken_length (z ∷ zs) s = ap suc (taken_length zs (taken s z).1)

goes_from : (ss : List Span) (n m : ℕ) (ws : List ℤ) (from to : Slots) (rest low : List ℤ) → n ≤ m → GoesOver ss m ws from to rest low → GoesOver ss n ws from to rest low
goes_from ss n m ws from to rest low le g = record { outs = g.outs; parent = g.parent; child = g.child; same_count = g.same_count; before = λ j k h. g.before j k (omega (arith, h, le)) }

-- one variable's ports go, and then those of the others
module _ (c : Cell) (cs : List Cell) (n : ℕ) (ws : List ℤ) (from to : Slots) (rest low : List ℤ) (laid : AreLaid n (c ∷ cs)) (whole : n + words_of (c ∷ cs) ≡ length ws) where
  abbrev spans : List Span
  spans = port_spans cs

  abbrev mask : ℕ → Bool
  mask = is_port_word cs

  abbrev own : List ℤ
  own = span_of ws (cell_span c)

  abbrev out : List (Option PortValue) × Slots
  out = all_taken from own

  abbrev new : List ℤ × Slots
  new = all_put to out.0

  abbrev after : List ℤ
  after = spliced ws c.first new.0

  fits : c.first + c.words ≤ length ws
  fits = omega (arith, whole, laid.0)

  size : length new.0 ≡ c.words
  size = put_length out.0 to ∙ taken_length own from ∙ under_length ws c.first c.words fits

  le : c.first + length new.0 ≤ length ws
  le = omega (arith, size, fits)

  after_count : length after ≡ length ws
  after_count = over_length mask (λ w. 0) ws c.first new.0 le

  -- the others' words are as they were
  same_rest : (g : ℤ → ℕ) → weight g (ports_in spans after) ≡ weight g (ports_in spans ws)
  same_rest g =
      laid_weighs g after (n + c.words) cs laid.2 (omega (arith, whole, after_count))
      ∙ ap (masked mask g (n + c.words)) (over_behind ws c.first new.0 (n + c.words) le (omega (arith, size, laid.0)))
      ∙ sym (laid_weighs g ws (n + c.words) cs laid.2 (omega (arith, whole)))

  first_of : (vs : List ℤ) (g : ℤ → ℕ) → weight g (ports_in (cell_span c ∷ spans) vs) ≡ full g (span_of vs (cell_span c)) + weight g (ports_in spans vs)
  first_of vs g =
      ap (weight g) (filter-append is_port (span_of vs (cell_span c)) (flat_map (λ s. span_of vs s) spans))
      ∙ weight-append g (live (span_of vs (cell_span c))) (ports_in spans vs)
      ∙ ap (λ k. k + weight g (ports_in spans vs)) (live_weighs g (span_of vs (cell_span c)))

  whole_weighs : (g : ℤ → ℕ) → weight g (ports_in (cell_span c ∷ spans) ws ++ rest) ≡ full g own + weight g (ports_in spans ws ++ rest)
  whole_weighs g = omega (arith, weight-append g (ports_in (cell_span c ∷ spans) ws) rest, first_of ws g, weight-append g (ports_in spans ws) rest)

  module _ (mine : IsUsed from (ports_in (cell_span c ∷ spans) ws ++ rest)) (theirs : IsUsed to low)
      (more : (ws : List ℤ) (from to : Slots) (low : List ℤ) → n + c.words + words_of cs ≡ length ws → IsUsed from (ports_in spans ws ++ rest) → IsUsed to low → GoesOver spans (n + c.words) ws from to rest low) where
    taken_first : Moves from (ports_in (cell_span c ∷ spans) ws ++ rest) out.1 (ports_in spans ws ++ rest) [] (filter_map (λ p. p) out.0)
    taken_first = all_taken_out from own (ports_in (cell_span c ∷ spans) ws ++ rest) (ports_in spans ws ++ rest) whole_weighs mine

    order : Moves out.1 (ports_in spans ws ++ rest) out.1 (ports_in spans after ++ rest) [] []
    order = stays_so out.1 (ports_in spans ws ++ rest) (ports_in spans after ++ rest) (λ g. omega (arith, weight-append g (ports_in spans ws) rest, weight-append g (ports_in spans after) rest, same_rest g))

    put_first : Moves to low new.1 (live new.0 ++ low) (filter_map (λ p. p) out.0) []
    put_first = all_put_in out.0 to low theirs

    later : GoesOver spans (n + c.words) after out.1 new.1 rest (live new.0 ++ low)
    later = more after out.1 new.1 (live new.0 ++ low) (omega (arith, whole, after_count)) (order.used (taken_first.used mine)) (put_first.used theirs)

    abbrev moved : List ℤ × (Slots × Slots)
    moved = moved_over spans after out.1 new.1

    here : span_of moved.0 (cell_span c) ≡ new.0
    here =
        later.before c.first c.words (omega (arith, laid.0))
        ∙ ap (λ k. under after c.first k) (sym size)
        ∙ over_there ws c.first new.0 le

    last : Moves moved.1.1 (ports_in spans moved.0 ++ (live new.0 ++ low)) moved.1.1 (ports_in (cell_span c ∷ spans) moved.0 ++ low) [] []
    last = stays_so moved.1.1 (ports_in spans moved.0 ++ (live new.0 ++ low)) (ports_in (cell_span c ∷ spans) moved.0 ++ low)
        (λ g. omega (
          arith,
          weight-append g (ports_in spans moved.0) (live new.0 ++ low),
          weight-append g (live new.0) low,
          weight-append g (ports_in (cell_span c ∷ spans) moved.0) low,
          first_of moved.0 g,
          live_weighs g new.0,
          ap (full g) here,
        ))

    pub one_over : GoesOver (cell_span c ∷ spans) n ws from to rest low
    one_over = record {
      outs = filter_map (λ p. p) out.0 ++ later.outs;
      parent = moves_like (then_moves taken_first (then_moves order later.parent)) (λ z. refl) (λ z. refl);
      child = moves_like (then_moves put_first (then_moves later.child last))
          (λ z. omega (arith, count-append z (filter_map (λ p. p) out.0) (later.outs ++ []), count-append z later.outs [], count-append z (filter_map (λ p. p) out.0) later.outs, count-nil z))
          (λ z. refl);
      same_count = later.same_count ∙ after_count;
      before = λ j k h. later.before j k (omega (arith, h)) ∙ over_before ws c.first new.0 j k le (omega (arith, h, laid.0));
    }

pub goes_over : (cs : List Cell) (n : ℕ) (ws : List ℤ) (from to : Slots) (rest low : List ℤ) → AreLaid n cs → n + words_of cs ≡ length ws → IsUsed from (ports_in (port_spans cs) ws ++ rest) → IsUsed to low → GoesOver (port_spans cs) n ws from to rest low
goes_over [] n ws from to rest low laid whole mine theirs = record {
  outs = [];
  parent = stays_so from rest rest (λ g. refl);
  child = stays_so to low low (λ g. refl);
  same_count = refl;
  before = λ j k le. refl;
}
goes_over (c ∷ cs) n ws from to rest low laid whole mine theirs =
    go (is_word c.sort) mine (λ ws from to low whole mine theirs. goes_over cs (n + c.words) ws from to rest low laid.2 whole mine theirs)
  where
    go : (b : Bool) → IsUsed from (ports_in (cond b (port_spans cs) (cell_span c ∷ port_spans cs)) ws ++ rest)
        → ((ws : List ℤ) (from to : Slots) (low : List ℤ) → n + c.words + words_of cs ≡ length ws → IsUsed from (ports_in (port_spans cs) ws ++ rest) → IsUsed to low → GoesOver (port_spans cs) (n + c.words) ws from to rest low)
        → GoesOver (cond b (port_spans cs) (cell_span c ∷ port_spans cs)) n ws from to rest low
    go true used more = goes_from (port_spans cs) n (n + c.words) ws from to rest low (omega arith) (more ws from to low (omega (arith, whole)) used theirs)
    go false used more = one_over c cs n ws from to rest low laid whole used theirs more

-- nothing is in the slots of a child before
pub none_used : IsUsed no_slots []
none_used = record { slots = record { empty = tt; once = tt }; once = λ w. omega arith }
