-- What passes between frames: operands to formals, and what formals give back.
-- Source: ANSI X3.9-1978, sections 15.5 to 15.9, with copying in and back and the travel of ports by this profile.
use Rattle.std.specs.Prelude.{ℕ, ℤ, pos, ◌+◌, ◌==◌, Bool, true, false, not, ◌&&◌, cond, List, [], ◌∷◌, ◌++◌, length, take, drop, filter, replicate, nat_le}
use Rattle.std.specs.List.{flat_map}
use Rattle.std.specs.Ordering.{int_eq}
use Rattle.fm_code.specs.declared.ask.Operand.{Operand}
use Rattle.fm_code.specs.declared.ask.Operand.TheVariants as operand
use Rattle.fm_code.specs.declared.body.Back.{Back}
use Rattle.fm_code.specs.declared.code.Span.{Span}
use Rattle.fm_code.specs.declared.code.Formal.{Formal}
use Rattle.fm_code.specs.Acts.{span_of, has_span}

-- the words with others over them from this place on
abbrev pub spliced : List ℤ → (at : ℕ) → List ℤ → List ℤ
spliced ws at ns = take at ws ++ (ns ++ drop (at + length ns) ws)

abbrev pub nulls : ℕ → List ℤ
nulls n = replicate n (pos 0)

abbrev pub is_port : ℤ → Bool
is_port n = not (int_eq n (pos 0))

-- the slots among port words
abbrev pub live : List ℤ → List ℤ
live = filter is_port

-- the slots of a frame, by its port words
abbrev pub ports_in : List Span → List ℤ → List ℤ
ports_in spans ws = live (flat_map (λ s. span_of ws s) spans)

-- Operands to formals.

-- the words of the caller, those of the callee, and what this one gives back
pub record Passed : Type 0 where
  pub mine : List ℤ
  pub theirs : List ℤ
  pub backs : List Back

abbrev pub same_size : Formal → (port : Bool) → Span → Bool
same_size f true s = f.port && (s.count == f.span.count)
same_size f false s = not f.port && (s.count == f.span.count)

-- whether an operand fits a formal, in frames of so many words
abbrev pub fits : (mine theirs : ℕ) → Formal → Operand → Bool
fits n k f (operand.Value v) = not f.port && (f.span.count == 1) && has_span k f.span
fits n k f (operand.Words s) = same_size f false s && has_span n s && has_span k f.span
fits n k f (operand.Ports s) = same_size f true s && has_span n s && has_span k f.span

-- one for each formal
abbrev pub all_fit : (mine theirs : ℕ) → List Formal → List Operand → Bool
all_fit n k [] [] = true
all_fit n k [] (o ∷ os) = false
all_fit n k (f ∷ fs) [] = false
all_fit n k (f ∷ fs) (o ∷ os) = fits n k f o && all_fit n k fs os

abbrev pub back_of : Formal → Span → (port : Bool) → List Back
back_of f s port = cond f.input [] (record { from = f.span.first; to = s.first; words = s.count; port = port } ∷ [])

-- ports leave NULL behind
abbrev pub pass : Formal → Operand → Passed → Passed
pass f (operand.Value v) p = record p { theirs = spliced p.theirs f.span.first (v ∷ []) }
pass f (operand.Words s) p = record p { theirs = spliced p.theirs f.span.first (span_of p.mine s); backs = p.backs ++ back_of f s false }
pass f (operand.Ports s) p = record {
  mine = spliced p.mine s.first (nulls s.count);
  theirs = spliced p.theirs f.span.first (span_of p.mine s);
  backs = p.backs ++ back_of f s true;
}

-- from left to right
abbrev pub pass_all : List Formal → List Operand → Passed → Passed
pass_all [] os p = p
pass_all (f ∷ fs) [] p = p
pass_all (f ∷ fs) (o ∷ os) p = pass_all fs os (pass f o p)

-- What is given back.

-- the words of the one who gets, those of the one who gives, and the slots that are let go
pub record Given : Type 0 where
  pub mine : List ℤ
  pub theirs : List ℤ
  pub drops : List ℤ

abbrev pub back_fits : (mine theirs : ℕ) → Back → Bool
back_fits n k b = nat_le (b.to + b.words) n && nat_le (b.from + b.words) k

abbrev pub backs_fit : (mine theirs : ℕ) → List Back → Bool
backs_fit n k [] = true
backs_fit n k (b ∷ bs) = back_fits n k b && backs_fit n k bs

-- a port goes to its place; a NULL isn't copied back
abbrev pub merged : (mine theirs : List ℤ) → List ℤ
merged [] ts = []
merged (m ∷ ms) [] = m ∷ ms
merged (m ∷ ms) (t ∷ ts) = cond (is_port t) t m ∷ merged ms ts

-- the ports in whose places others go
abbrev pub displaced : (mine theirs : List ℤ) → List ℤ
displaced [] ts = []
displaced (m ∷ ms) [] = []
displaced (m ∷ ms) (t ∷ ts) = cond (is_port t && is_port m) (m ∷ displaced ms ts) (displaced ms ts)

abbrev pub got_span : Back → Span
got_span b = record { first = b.to; count = b.words }

abbrev pub given_span : Back → Span
given_span b = record { first = b.from; count = b.words }

abbrev pub give_words : Back → Given → Given
give_words b g = record g { mine = spliced g.mine b.to (span_of g.theirs (given_span b)) }

abbrev pub give_ports : Back → Given → Given
give_ports b g = record {
  mine = spliced g.mine b.to (merged (span_of g.mine (got_span b)) (span_of g.theirs (given_span b)));
  theirs = spliced g.theirs b.from (nulls b.words);
  drops = g.drops ++ displaced (span_of g.mine (got_span b)) (span_of g.theirs (given_span b));
}

abbrev pub give : Back → Given → Given
give b g = cond b.port (give_ports b g) (give_words b g)

-- in the order of the arguments
abbrev pub give_all : List Back → Given → Given
give_all [] g = g
give_all (b ∷ bs) g = give_all bs (give b g)

abbrev pub back_words : List Back → ℕ
back_words [] = 0
back_words (b ∷ bs) = b.words + back_words bs
