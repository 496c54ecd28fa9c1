-- What the functions that read kinds answer, as the definitions of fm_code_kinds say it.
-- Source: this profile.
use Rattle.std.specs.Prelude.{ℕ, ◌+◌, nat_le, cond, Bool, Option, Some, None, List, ◌∷◌, reverse}
use Rattle.fm_code.specs.declared.code.Span.{Span}
use Rattle.fm_code.specs.declared.instr.Build.{Build}
use Rattle.fm_code.specs.declared.instr.Build.TheVariants as build
use Rattle.fm_code_kinds.specs.declared.sorts.Sort.{Sort}
use Rattle.fm_code_kinds.specs.declared.sorts.Sort.TheVariants.{Integer, Logical, In, Out}
use Rattle.fm_code_kinds.specs.declared.kinds.Kind.{Kind}
use Rattle.fm_code_kinds.specs.declared.kinds.Kind.TheVariants.{Word}
use Rattle.fm_code_kinds.specs.declared.sorts.Cell.{Cell}
use Rattle.fm_code_kinds.specs.declared.sorts.Heading.{Heading}
use Rattle.fm_code_kinds.specs.declared.sorts.Shapes.{Shapes}
use Rattle.fm_code_kinds.specs.Shapes.{fields_of, is_function, is_process, is_subroutine}
use Rattle.fm_code_kinds.specs.Effects.{Effect, Over, Ill, Taken, all_outports, at_port, built, fit_fields, fits_received, fits_sent, if_in, if_out, over_where}
use Rattle.fm_verify_unit.specs.declared.ending.Called.{Called}
use Rattle.fm_verify_unit.specs.declared.ending.Called.TheVariants as called

abbrev pub words : (first count : ℕ) → Span
words first count = record { first = first; count = count }

-- these words, where the frame has so many
abbrev pub known_in : (frame first count : ℕ) → Option Span
known_in frame first count = cond (nat_le (first + count) frame) (Some (words first count)) None

-- what is on the list behind an instruction that goes on: what it takes is gone, and this stands on top
abbrev pub with_word_on : Option (Option Span) → List Kind → Option (List Kind)
with_word_on None ks = None
with_word_on (Some s) ks = Some (Word s ∷ ks)

abbrev pub with_kind_on : Option (Option Kind) → List Kind → Option (List Kind)
with_kind_on None ks = None
with_kind_on (Some None) ks = Some ks
with_kind_on (Some (Some k)) ks = Some (k ∷ ks)

-- an instruction that ends its statement leaves so many results, or is ill
abbrev pub over : (to : List ℕ) → Option ℕ → Effect
over to None = Ill
over to (Some n) = Over to n

-- what is done with a port that was found
abbrev pub by_sort : Option Sort → (Sort → Effect) → Effect
by_sort None f = Ill
by_sort (Some s) f = f s

-- what an instruction that builds gives, but for one that cuts an operand
abbrev pub plain_built : List Cell → (loops : ℕ) → Build → List Kind → Option (List Kind)
plain_built cs n (build.Letter byte) ks = built cs n (build.Letter byte) ks
plain_built cs n build.ShowText ks = built cs n build.ShowText ks
plain_built cs n build.Show ks = built cs n build.Show ks
plain_built cs n build.ShowTruth ks = built cs n build.ShowTruth ks
plain_built cs n (build.ShowWords s) ks = built cs n (build.ShowWords s) ks
plain_built cs n (build.ShowTruths s) ks = built cs n (build.ShowTruths s) ks
plain_built cs n build.PassValue ks = built cs n build.PassValue ks
plain_built cs n (build.PassWords s) ks = built cs n (build.PassWords s) ks
plain_built cs n (build.PassPorts s) ks = built cs n (build.PassPorts s) ks
plain_built cs n build.PassWordAt ks = built cs n build.PassWordAt ks
plain_built cs n build.PassPortAt ks = built cs n build.PassPortAt ks
plain_built cs n build.Status ks = built cs n build.Status ks
plain_built cs n (build.Loop l) ks = built cs n (build.Loop l) ks
plain_built cs n (build.Location k) ks = built cs n (build.Location k) ks
plain_built cs n build.Submachine ks = built cs n build.Submachine ks
plain_built cs n (build.Cut item size) ks = None

-- whether an instruction that builds is of this form
abbrev pub cut_of : Build → Option (ℕ × ℕ)
cut_of (build.Letter byte) = None
cut_of build.ShowText = None
cut_of build.Show = None
cut_of build.ShowTruth = None
cut_of (build.ShowWords s) = None
cut_of (build.ShowTruths s) = None
cut_of build.PassValue = None
cut_of (build.PassWords s) = None
cut_of (build.PassPorts s) = None
cut_of build.PassWordAt = None
cut_of build.PassPortAt = None
cut_of build.Status = None
cut_of (build.Loop l) = None
cut_of (build.Location k) = None
cut_of build.Submachine = None
cut_of (build.Cut item size) = Some (item, size)

-- what a function that may refuse gives
abbrev pub where_so : Bool → List Kind → Option (List Kind)
where_so b ks = cond b (Some ks) None

-- which units are called so
abbrev pub calls : Called → Heading → Bool
calls called.Subroutine = is_subroutine
calls called.Function = is_function
calls called.Process = is_process

abbrev pub in_type : Sort → Option ℕ
in_type Integer = None
in_type Logical = None
in_type (In t) = Some t
in_type (Out t) = None

abbrev pub out_type : Sort → Option ℕ
out_type Integer = None
out_type Logical = None
out_type (In t) = None
out_type (Out t) = Some t

-- a send, a receive and a merger, but for where they go
abbrev pub sends : Shapes → List Cell → (to : List ℕ) → Taken → Effect
sends ss cs to t = at_port cs t.rest (λ s. if_out s (λ type. over_where (fit_fields (fits_sent cs) (fields_of ss type) (reverse t.operands)) to))

abbrev pub receives : Shapes → List Cell → (to : List ℕ) → Taken → Effect
receives ss cs to t = at_port cs t.rest (λ s. if_in s (λ type. over_where (fit_fields (fits_received cs) (fields_of ss type) (reverse t.operands)) to))

abbrev pub merges : List Cell → (to : List ℕ) → Taken → Effect
merges cs to t = at_port cs t.rest (λ s. if_in s (λ type. over_where (all_outports cs type (reverse t.operands)) to))

-- what is done with two ports that were found
abbrev pub by_both : Option (Sort × Sort) → (Sort → Sort → Effect) → Effect
by_both None f = Ill
by_both (Some p) f = f p.0 p.1
