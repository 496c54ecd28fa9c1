-- What is one variable's by the span is so word by word; and the port words of a unit are those of its cells.
use Rattle.std.proofs.Common.{◌≡◌, ℕ, ◌+◌, ◌≤◌, ◌<◌, ℤ, Bool, true, false, not, cond, Option, Some, None, List, [], ◌∷◌, ◌++◌, length, take, drop, slice_get, refl, sym, ap, ◌∙◌, arith}
use Rattle.std.specs.Prelude.{nat_lt, nat_le}
use Rattle.std.specs.List.{flat_map}
use Rattle.std.proofs.lemmas.List.Elements.{filter-append}
use Rattle.std.proofs.lemmas.Bool.{and_parts, and_from, ltb-false, lt-ltb, le-ltb, le-leb, leb-true}
use Rattle.fm_code.specs.declared.body.Body.{Body}
use Rattle.fm_code.specs.declared.code.Span.{Span}
use Rattle.fm_code.specs.declared.code.Unit as code_unit
use Rattle.fm_code.specs.Acts.{span_of}
use Rattle.fm_code.specs.Passing as passing
use Rattle.fm_code.specs.Passing.{live, ports_in}
use Rattle.fm_code.specs.Statements.{unit_at, ports_of}
use Rattle.fm_code_kinds.specs.declared.sorts.Cell.{Cell}
use Rattle.fm_code_kinds.specs.declared.sorts.Shape.{Shape}
use Rattle.fm_code_kinds.specs.declared.sorts.Shapes.{Shapes}
use Rattle.fm_code_kinds.specs.declared.sorts.Sort.{Sort}
use Rattle.fm_code_kinds.specs.declared.sorts.Sort.TheVariants.{Integer, Logical, In, Out}
use Rattle.fm_code_kinds.specs.Shapes.{cell_span, is_inside, is_port, is_word, is_word_sort, single, sort_at, sort_in, words_of, are_words}
use Rattle.fm_code_kinds.specs.Effects.{cells_of, is_port_sort, are_any_ports}
use Rattle.fm_code_preserves.specs.Rooms.{is_port_word, port_spans, AreLaid, IsLaidCode, IsRoom, cells_at}
use Rattle.fm_code_preserves.specs.Weights.{weight, masked}
use Rattle.fm_code_preserves.proofs.Masks.{full, live_weighs, weight-append, masked-append, masked_all, masked_none, masked_same, under, under_length, drop_two}

-- ---- one word of a span

single_in : (c : Cell) (k : ℕ) → c.first ≤ k → k < c.first + c.words → sort_in c (single k) ≡ Some c.sort
single_in c k low high = rw (and_from (nat_le c.first k) (nat_le (k + 1) (c.first + c.words)) (le-leb c.first k low) (le-leb (k + 1) (c.first + c.words) (omega (arith, high)))) refl

inside_parts : (s t : Span) → is_inside s t ≡ true → (t.first ≤ s.first) × (s.first + s.count ≤ t.first + t.count)
inside_parts s t e =
    let p = and_parts (nat_le t.first s.first) (nat_le (s.first + s.count) (t.first + t.count)) e in
    (leb-true t.first s.first p.0, leb-true (s.first + s.count) (t.first + t.count) p.1)

pub word_sort : (cs : List Cell) (s : Span) (t : Sort) → sort_at cs s ≡ Some t → (k : ℕ) → s.first ≤ k → k < s.first + s.count → sort_at cs (single k) ≡ Some t
word_sort [] s t e k low high = absurd cc
word_sort (c ∷ cs) s t e k low high = go (nat_lt s.first (c.first + c.words)) refl e (λ h. word_sort cs s t h k low high)
  where
    here : (b : Bool) → is_inside s (cell_span c) ≡ b → cond b (Some c.sort) None ≡ Some t → cond (nat_lt k (c.first + c.words)) (sort_in c (single k)) (sort_at cs (single k)) ≡ Some t
    here true is h =
        let p = inside_parts s (cell_span c) is in
        let high : k < c.first + c.words = omega (arith, p.1, high) in
        rw (lt-ltb k (c.first + c.words) high) (single_in c k (omega (arith, p.0, low)) high ∙ h)
    here false is h = absurd cc

    go : (b : Bool) → nat_lt s.first (c.first + c.words) ≡ b → cond b (sort_in c s) (sort_at cs s) ≡ Some t → (sort_at cs s ≡ Some t → sort_at cs (single k) ≡ Some t)
        → cond (nat_lt k (c.first + c.words)) (sort_in c (single k)) (sort_at cs (single k)) ≡ Some t
    go true is h more = here (is_inside s (cell_span c)) refl h
    go false is h more = rw (le-ltb k (c.first + c.words) (omega (arith, ltb-false s.first (c.first + c.words) is, low))) (more h)

pub port_sort : (s : Sort) → is_port_sort (Some s) ≡ is_port s
port_sort Integer = refl
port_sort Logical = refl
port_sort (In t) = refl
port_sort (Out t) = refl

-- each word of a room is of its kind
pub room_words : (cells : List Cell) (s : Span) (p : Bool) → IsRoom cells s p → (k : ℕ) → s.first ≤ k → k < s.first + s.count → is_port_word cells k ≡ p
room_words cells s p r k low high = ap is_port_sort (word_sort cells s r.sort r.at k low high) ∙ port_sort r.sort ∙ r.port_is

word_sort_plain : (s : Sort) → is_word s ≡ true → is_port s ≡ false
word_sort_plain s e = ap not e

-- words that aren't ports
pub plain_room : (cells : List Cell) (s : Span) → are_words cells s ≡ true → IsRoom cells s false
plain_room cells s e = go (sort_at cells s) refl e
  where
    go : (o : Option Sort) → sort_at cells s ≡ o → is_word_sort o ≡ true → IsRoom cells s false
    go None is e = absurd cc
    go (Some t) is e = record { sort = t; at = is; port_is = word_sort_plain t e }

port_sort_is : (t : Sort) → is_port_sort (Some t) ≡ true → is_port t ≡ true
port_sort_is t e = sym (port_sort t) ∙ e

pub ports_room : (cells : List Cell) (s : Span) → are_any_ports cells s ≡ true → IsRoom cells s true
ports_room cells s e = go (sort_at cells s) refl e
  where
    go : (o : Option Sort) → sort_at cells s ≡ o → is_port_sort o ≡ true → IsRoom cells s true
    go None is e = absurd cc
    go (Some t) is e = record { sort = t; at = is; port_is = port_sort_is t e }

-- ---- the port words of a frame

pub first_mask : (c : Cell) (cs : List Cell) (n : ℕ) → c.first ≡ n → (k : ℕ) → n ≤ k → k < n + c.words → is_port_word (c ∷ cs) k ≡ is_port c.sort
first_mask c cs n at k low high =
    let high : k < c.first + c.words = omega (arith, at, high) in
    ap is_port_sort (ap (λ (b : Bool). cond b (sort_in c (single k)) (sort_at cs (single k))) (lt-ltb k (c.first + c.words) high) ∙ single_in c k (omega (arith, at, low)) high) ∙ port_sort c.sort

pub later_mask : (c : Cell) (cs : List Cell) (n : ℕ) → c.first ≡ n → (k : ℕ) → n + c.words ≤ k → is_port_word (c ∷ cs) k ≡ is_port_word cs k
later_mask c cs n at k low = ap is_port_sort (ap (λ (b : Bool). cond b (sort_in c (single k)) (sort_at cs (single k))) (le-ltb k (c.first + c.words) (omega (arith, at, low))))

-- the words of the port spans of cells that are laid out weigh what the frame's words do by their kinds
pub laid_weighs : (g : ℤ → ℕ) (ws : List ℤ) (n : ℕ) (cells : List Cell) → AreLaid n cells → n + words_of cells ≡ length ws
    → weight g (live (flat_map (span_of ws) (port_spans cells))) ≡ masked (is_port_word cells) g n (drop n ws)
laid_weighs g ws n [] laid full_is = sym (masked_none (is_port_word []) g n (drop n ws) (λ k low high. refl))
laid_weighs g ws n (c ∷ cs) laid full_is = go (laid_weighs g ws (n + c.words) cs laid.2 (omega (arith, full_is))) (is_word c.sort) refl
  where
    inside : n + c.words ≤ length ws
    inside = omega (arith, full_is)

    count : length (under ws n c.words) ≡ c.words
    count = under_length ws n c.words inside

    behind : masked (is_port_word (c ∷ cs)) g (n + c.words) (drop (n + c.words) ws) ≡ masked (is_port_word cs) g (n + c.words) (drop (n + c.words) ws)
    behind = masked_same (is_port_word (c ∷ cs)) (is_port_word cs) g (n + c.words) (drop (n + c.words) ws) (later_mask c cs n laid.0)

    whole : masked (is_port_word (c ∷ cs)) g n (drop n ws) ≡ masked (is_port_word (c ∷ cs)) g n (under ws n c.words) + masked (is_port_word (c ∷ cs)) g (n + c.words) (drop (n + c.words) ws)
    whole =
        ap (masked (is_port_word (c ∷ cs)) g n) (sym (drop_two ws n c.words))
        ∙ masked-append (is_port_word (c ∷ cs)) g n (under ws n c.words) (drop (n + c.words) ws)
        ∙ ap (λ k. masked (is_port_word (c ∷ cs)) g n (under ws n c.words) + masked (is_port_word (c ∷ cs)) g (n + k) (drop (n + c.words) ws)) count

    kind : (k : ℕ) → n ≤ k → k < n + length (under ws n c.words) → is_port_word (c ∷ cs) k ≡ is_port c.sort
    kind k low high = first_mask c cs n laid.0 k low (omega (arith, high, count))

    here : live (flat_map (span_of ws) (cell_span c ∷ port_spans cs)) ≡ live (under ws n c.words) ++ live (flat_map (span_of ws) (port_spans cs))
    here =
        ap (λ at. live (take c.words (drop at ws) ++ flat_map (span_of ws) (port_spans cs))) laid.0
        ∙ filter-append passing.is_port (under ws n c.words) (flat_map (span_of ws) (port_spans cs))

    go : weight g (live (flat_map (span_of ws) (port_spans cs))) ≡ masked (is_port_word cs) g (n + c.words) (drop (n + c.words) ws) → (b : Bool) → is_word c.sort ≡ b → weight g (live (flat_map (span_of ws) (cond b (port_spans cs) (cell_span c ∷ port_spans cs)))) ≡ masked (is_port_word (c ∷ cs)) g n (drop n ws)
    go rest true e =
        let none : masked (is_port_word (c ∷ cs)) g n (under ws n c.words) ≡ 0 = masked_none (is_port_word (c ∷ cs)) g n (under ws n c.words) (λ k low high. kind k low high ∙ ap not e) in
        omega (arith, rest, behind, whole, none)
    go rest false e =
        let all : masked (is_port_word (c ∷ cs)) g n (under ws n c.words) ≡ full g (under ws n c.words) = masked_all (is_port_word (c ∷ cs)) g n (under ws n c.words) (λ k low high. kind k low high ∙ ap not e) in
        omega (arith, rest, behind, whole, all, ap (weight g) here, weight-append g (live (under ws n c.words)) (live (flat_map (span_of ws) (port_spans cs))), live_weighs g (under ws n c.words))

-- the port words of a frame weigh what its words do by their kinds
pub frame_weighs : (ss : Shapes) (b : Body) → IsLaidCode ss b.code → (n : ℕ) (u : Shape) → slice_get ss.units n ≡ Some u → (ws : List ℤ) → length ws ≡ words_of (cells_at ss n) → (g : ℤ → ℕ)
    → weight g (ports_in (ports_of (unit_at b n)) ws) ≡ masked (is_port_word (cells_at ss n)) g 0 ws
frame_weighs ss b laid n u there ws count g =
    let c = laid.typed.unit n u there in
    let l = laid.units n u c.0 there c.1 in
    let cells : cells_at ss n ≡ u.cells = ap cells_of there in
    ap (λ (o : Option code_unit.Unit). weight g (ports_in (ports_of o) ws)) c.1
    ∙ ap (λ (spans : List Span). weight g (ports_in spans ws)) l.ports
    ∙ laid_weighs g ws 0 u.cells l.laid (omega (arith, count, ap words_of cells))
    ∙ ap (λ (cs : List Cell). masked (is_port_word cs) g 0 ws) (sym cells)
