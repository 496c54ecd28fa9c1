-- What each instruction takes from the list of kinds at its address, what it gives, and where it goes. The top of the stack stands
-- first in a list; what a statement builds stands in it too, and below all the results of references that are done.
--
--   instruction             takes                    gives                     goes to
--   Push n                                           Word
--   Load k                                           Word                      k is no port word
--   Result n                                         Word                      n is below the number of results
--   Subscript low extent    Word                     Word below extent
--   Dimension low extent    Word, Word in s          Word in extent * s
--   Element first           Word in s                Word                      the words first + s are one variable's
--   Locate first            Word in s                Word in first + s
--   Apply, Negate, Not      Words                    Word
--   Intrinsic f n           n Words                  Word                      f takes n
--   Show, ShowTruth         Word
--   PassValue               Word                     Value
--   PassWords s                                      Words s                   s is one variable's, no port
--   PassPorts s                                      Ports s                   s is one port variable's
--   PassWordAt              Word in s                WordIn s
--   PassPortAt              Word in s                PortIn s
--   Status                  Word in s                                          s is one variable's, no port
--   Cut i n                 operands, Word in s      the same, i Sized n       a port at s; n is one word, before i, which is words
--   Loop l                                           LoopOf l
--   Location n, Submachine  Words
--   Goto, Print                                                                its address
--   Test                    Word                                               the one address or the other
--   Store k                 Word                                               k is no port word
--   StoreAt                 Word, Word in s                                    s is one variable's, no port
--   Enter                   LoopOf l, 3 Words                                  the body, or behind the loop
--   Again                   LoopOf l                                           the same
--   Call n, Start n         operands                                           they fit the formals of n, a SUBROUTINE, a PROCESS
--   Refer n                 operands                 one result more           of n, a FUNCTION; the next address
--   Return, ReturnValue k                                                      in a SUBROUTINE; in a FUNCTION, k is no port word
--   Send                    operands, Word in s                                they fit the fields of the outport at s; those that an
--                                                                              earlier field sizes are Sized by its operand
--   Receive, ReceiveOr      operands, Word in s                                they fit the fields of the inport at s, none is a value;
--                                                                              those that an earlier field sizes are any words
--   Channel, ChannelFrom    Word in s, Word in t                               an inport and an outport of one type
--   Merger                  operands, Word in s                                outports of the type of the inport at s
--   EndChannel              Word in s                                          an outport at s
--   MovePort                Word in s, Word in t                               ports of one kind and type
--   Probe                   Word in s, Word in t                               an inport at s, no port at t
--   Begin                                                                      the next address
--   Stop, Join                                                                 Join: its address
--
-- Where the frame has all words of a span s, a Word can be known to be the number of one of them (Word in s). Send, Receive, Merger and
-- Cut take a port's place, and the operands that stand above it.
--
-- An instruction that ends its statement takes all that is left but results. The list where it goes is empty; where Refer goes,
-- the results stand there, and one more.
--
-- Source: this profile.
use Rattle.std.specs.Prelude.{ℕ, zero, suc, ℤ, pos, negsuc, ◌+◌, ◌*◌, Bool, true, false, ◌&&◌, ◌==◌, nat_lt, nat_le, cond, Option, Some, None, option_map, List, [], ◌∷◌, reverse, slice_get, slice_set}
use Rattle.fm_values.specs.Intrinsics.{takes}
use Rattle.fm_code.specs.declared.code.Span.{Span}
use Rattle.fm_code.specs.declared.instr.Eval.{Eval}
use Rattle.fm_code.specs.declared.instr.Eval.TheVariants as eval
use Rattle.fm_code.specs.declared.instr.Build.{Build}
use Rattle.fm_code.specs.declared.instr.Build.TheVariants as build
use Rattle.fm_code.specs.declared.instr.End.{End}
use Rattle.fm_code.specs.declared.instr.End.TheVariants as end
use Rattle.fm_code.specs.declared.instr.Meet.{Meet}
use Rattle.fm_code.specs.declared.instr.Meet.TheVariants as meet
use Rattle.fm_code.specs.declared.instr.Instr.{Instr}
use Rattle.fm_code.specs.declared.instr.Instr.TheVariants as instr
use Rattle.fm_code_kinds.specs.declared.sorts.Sort.{Sort}
use Rattle.fm_code_kinds.specs.declared.sorts.Sort.TheVariants.{Integer, Logical, In, Out}
use Rattle.fm_code_kinds.specs.declared.sorts.Heading.{Heading}
use Rattle.fm_code_kinds.specs.declared.sorts.Cell.{Cell}
use Rattle.fm_code_kinds.specs.declared.sorts.Field.{Field}
use Rattle.fm_code_kinds.specs.declared.kinds.Passed.{Passed}
use Rattle.fm_code_kinds.specs.declared.kinds.Passed.TheVariants.{Value, Words, Ports, WordIn, PortIn, Sized}
use Rattle.fm_code_kinds.specs.declared.kinds.Kind.{Kind}
use Rattle.fm_code_kinds.specs.declared.kinds.Kind.TheVariants.{Returned, Word, Operand, LoopOf}
use Rattle.fm_code_kinds.specs.declared.sorts.Shape.{Shape}
use Rattle.fm_code_kinds.specs.declared.sorts.Shapes.{Shapes}
use Rattle.fm_code_kinds.specs.Shapes.{is_word, is_port, same_sort, is_process, is_subroutine, is_function, are_words, are_ports, sort_at, single, words_of, formal_at, fields_of}

-- what an instruction does to the kinds: the statement goes on with this list; or it ends, and goes to these addresses with that many
-- results; or it doesn't find what it takes
pub data Effect : Type 0 where
  On : List Kind → Effect
  Over : (to : List ℕ) → (results : ℕ) → Effect
  Ill : Effect

-- ---- taking

abbrev pub given_where : Bool → List Kind → Option (List Kind)
given_where b ks = cond b (Some ks) None

abbrev pub word : Kind
word = Word None

-- a word
abbrev pub with_word : List Kind → (Option Span → List Kind → Option (List Kind)) → Option (List Kind)
with_word [] f = None
with_word (Returned ∷ ks) f = None
with_word (Word s ∷ ks) f = f s ks
with_word (Operand o ∷ ks) f = None
with_word (LoopOf l ∷ ks) f = None

-- a word that is one of a span's
abbrev pub known : Option Span → (Span → Option (List Kind)) → Option (List Kind)
known None f = None
known (Some s) f = f s

abbrev pub with_place : List Kind → (Span → List Kind → Option (List Kind)) → Option (List Kind)
with_place ks f = with_word ks (λ s ks. known s (λ s. f s ks))

-- so many words
abbrev pub without_words : ℕ → List Kind → Option (List Kind)
without_words zero ks = Some ks
without_words (suc n) ks = with_word ks (λ s ks. without_words n ks)

-- ---- evaluation

abbrev pub shifted : ℕ → Span → Span
shifted n s = record { first = n + s.first; count = s.count }

abbrev pub scaled : ℕ → Span → Span
scaled n s = record { first = n * s.first; count = n * s.count }

-- words are told only where the frame has so many
abbrev pub placed : List Cell → Span → Option Span
placed cs s = cond (nat_le (s.first + s.count) (words_of cs)) (Some s) None

-- the first words, so many
abbrev pub first_words : ℕ → Span
first_words extent = record { first = 0; count = extent }

-- a number that isn't below 0 may be the number of a word
abbrev pub pushed : List Cell → ℤ → Option Span
pushed cs (pos n) = placed cs (single n)
pushed cs (negsuc n) = None

abbrev pub results_in : List Kind → ℕ
results_in [] = 0
results_in (Returned ∷ ks) = suc (results_in ks)
results_in (Word s ∷ ks) = results_in ks
results_in (Operand o ∷ ks) = results_in ks
results_in (LoopOf l ∷ ks) = results_in ks

abbrev pub evaluated : List Cell → Eval → List Kind → Option (List Kind)
evaluated cs (eval.Push n) ks = Some (Word (pushed cs n) ∷ ks)
evaluated cs (eval.Load k) ks = given_where (are_words cs (single k)) (word ∷ ks)
evaluated cs (eval.Result n) ks = given_where (nat_lt n (results_in ks)) (word ∷ ks)
evaluated cs (eval.Subscript low extent) ks = with_word ks (λ s ks. Some (Word (placed cs (first_words extent)) ∷ ks))
evaluated cs (eval.Dimension low extent) ks = with_place ks (λ s ks. with_word ks (λ t ks. Some (Word (placed cs (scaled extent s)) ∷ ks)))
evaluated cs (eval.Element first) ks = with_place ks (λ s ks. given_where (are_words cs (shifted first s)) (word ∷ ks))
evaluated cs (eval.Locate first) ks = with_place ks (λ s ks. Some (Word (placed cs (shifted first s)) ∷ ks))
evaluated cs (eval.Apply o) ks = with_word ks (λ s ks. with_word ks (λ t ks. Some (word ∷ ks)))
evaluated cs eval.Negate ks = with_word ks (λ s ks. Some (word ∷ ks))
evaluated cs eval.Not ks = with_word ks (λ s ks. Some (word ∷ ks))
evaluated cs (eval.Intrinsic f n) ks = cond (takes f n) (option_map (λ ks. word ∷ ks) (without_words n ks)) None

-- ---- building

-- the words are port words of one variable
abbrev pub is_port_sort : Option Sort → Bool
is_port_sort None = false
is_port_sort (Some Integer) = false
is_port_sort (Some Logical) = false
is_port_sort (Some (In t)) = true
is_port_sort (Some (Out t)) = true

abbrev pub are_any_ports : List Cell → Span → Bool
are_any_ports cs s = is_port_sort (sort_at cs s)

-- nothing but results is left
abbrev pub only_results : List Kind → Bool
only_results [] = true
only_results (Returned ∷ ks) = only_results ks
only_results (Word s ∷ ks) = false
only_results (Operand o ∷ ks) = false
only_results (LoopOf l ∷ ks) = false

-- the operands on top, the first of them last, and what is below them
pub record Taken : Type 0 where
  pub operands : List Passed
  pub rest : List Kind

abbrev pub operands_on : List Kind → Taken
operands_on [] = record { operands = []; rest = [] }
operands_on (Returned ∷ ks) = record { operands = []; rest = Returned ∷ ks }
operands_on (Word s ∷ ks) = record { operands = []; rest = Word s ∷ ks }
operands_on (LoopOf l ∷ ks) = record { operands = []; rest = LoopOf l ∷ ks }
operands_on (Operand o ∷ ks) = record { operands = o ∷ (operands_on ks).operands; rest = (operands_on ks).rest }

-- the operands, the last one first, and what is below them
abbrev pub operands_over : List Passed → List Kind → List Kind
operands_over [] ks = ks
operands_over (o ∷ os) ks = Operand o ∷ operands_over os ks

-- a port's place, and nothing but results below it
abbrev pub over_port : List Cell → List Kind → Bool
over_port cs [] = false
over_port cs (Returned ∷ ks) = false
over_port cs (Word None ∷ ks) = false
over_port cs (Word (Some s) ∷ ks) = are_any_ports cs s && only_results ks
over_port cs (Operand o ∷ ks) = false
over_port cs (LoopOf l ∷ ks) = false

-- words, which no operand sizes yet
abbrev pub is_cut : Option Passed → Bool
is_cut None = false
is_cut (Some Value) = true
is_cut (Some (Words s)) = true
is_cut (Some (Ports s)) = false
is_cut (Some (WordIn s)) = true
is_cut (Some (PortIn s)) = false
is_cut (Some (Sized n)) = false

-- one word
abbrev pub is_size : Option Passed → Bool
is_size None = false
is_size (Some Value) = true
is_size (Some (Words s)) = s.count == 1
is_size (Some (Ports s)) = false
is_size (Some (WordIn s)) = true
is_size (Some (PortIn s)) = false
is_size (Some (Sized n)) = false

-- the first operand first: the one is cut to the number that an earlier one is
abbrev pub may_cut : (item size : ℕ) → List Passed → Bool
may_cut item size os = nat_lt size item && (is_size (slice_get os size) && is_cut (slice_get os item))

abbrev pub cut_over : List Cell → (item size : ℕ) → Taken → Option (List Kind)
cut_over cs item size t =
    let os = reverse t.operands in
    cond (over_port cs t.rest && may_cut item size os) (Some (operands_over (reverse (slice_set os item (Sized size))) t.rest)) None

abbrev pub built : List Cell → (loops : ℕ) → Build → List Kind → Option (List Kind)
built cs n (build.Letter byte) ks = Some ks
built cs n build.ShowText ks = Some ks
built cs n build.Show ks = with_word ks (λ s ks. Some ks)
built cs n build.ShowTruth ks = with_word ks (λ s ks. Some ks)
built cs n (build.ShowWords s) ks = given_where (are_words cs s) ks
built cs n (build.ShowTruths s) ks = given_where (are_words cs s) ks
built cs n build.PassValue ks = with_word ks (λ s ks. Some (Operand Value ∷ ks))
built cs n (build.PassWords s) ks = given_where (are_words cs s) (Operand (Words s) ∷ ks)
built cs n (build.PassPorts s) ks = given_where (are_any_ports cs s) (Operand (Ports s) ∷ ks)
built cs n build.PassWordAt ks = with_place ks (λ s ks. given_where (are_words cs s) (Operand (WordIn s) ∷ ks))
built cs n build.PassPortAt ks = with_place ks (λ s ks. given_where (are_any_ports cs s) (Operand (PortIn s) ∷ ks))
built cs n build.Status ks = with_place ks (λ s ks. given_where (are_words cs s) ks)
built cs n (build.Loop l) ks = given_where (nat_lt l.number n && are_words cs (single l.word)) (LoopOf l ∷ ks)
built cs n (build.Location k) ks = without_words k ks
built cs n build.Submachine ks = without_words 2 ks
built cs n (build.Cut item size) ks = cut_over cs item size (operands_on ks)

-- ---- ends

abbrev pub sized : (words wanted : ℕ) → Option Sort → Sort → Bool
sized n k None s = false
sized n k (Some t) s = (n == k) && same_sort t s

-- a word of any kind gives a value; words and ports have the sort and the size that are wanted
abbrev pub fits_room : List Cell → (sort : Sort) → (words : ℕ) → Passed → Bool
fits_room cs s n Value = is_word s && (n == 1)
fits_room cs s n (Words t) = is_word s && ((t.count == n) && are_words cs t)
fits_room cs s n (Ports t) = is_port s && sized t.count n (sort_at cs t) s
fits_room cs s n (WordIn t) = is_word s && ((n == 1) && are_words cs t)
fits_room cs s n (PortIn t) = is_port s && sized 1 n (sort_at cs t) s
fits_room cs s n (Sized k) = false

-- one for each formal, in the order of their places
abbrev pub is_no_cell : Option Cell → Bool
is_no_cell None = true
is_no_cell (Some c) = false

abbrev pub fits_cell : List Cell → Passed → Option Cell → Bool
fits_cell mine o None = false
fits_cell mine o (Some c) = fits_room mine c.sort c.words o

abbrev pub fit_formals : (mine theirs : List Cell) → (place : ℕ) → List Passed → Bool
fit_formals mine theirs n [] = is_no_cell (formal_at theirs n)
fit_formals mine theirs n (o ∷ os) = fits_cell mine o (formal_at theirs n) && fit_formals mine theirs (suc n) os

-- what is sent for a field. For one that an earlier field sizes words are sent that were cut to that field's operand
abbrev pub is_sized : (size : ℕ) → Passed → Bool
is_sized n Value = false
is_sized n (Words s) = false
is_sized n (Ports s) = false
is_sized n (WordIn s) = false
is_sized n (PortIn s) = false
is_sized n (Sized k) = n == suc k

abbrev pub fits_sent : List Cell → Field → Passed → Bool
fits_sent cs f o = cond (f.size == 0) (fits_room cs f.sort f.words o) (is_word f.sort && is_sized f.size o)

-- what is stored into is no value
abbrev pub is_target : Passed → Bool
is_target Value = false
is_target (Words s) = true
is_target (Ports s) = true
is_target (WordIn s) = true
is_target (PortIn s) = true
is_target (Sized k) = false

-- words, however many
abbrev pub takes_words : List Cell → Passed → Bool
takes_words cs Value = false
takes_words cs (Words s) = are_words cs s
takes_words cs (Ports s) = false
takes_words cs (WordIn s) = are_words cs s
takes_words cs (PortIn s) = false
takes_words cs (Sized k) = false

-- what is received for a field
abbrev pub fits_received : List Cell → Field → Passed → Bool
fits_received cs f o = is_target o && cond (f.size == 0) (fits_room cs f.sort f.words o) (is_word f.sort && takes_words cs o)

-- one for each field
abbrev pub fit_fields : (Field → Passed → Bool) → List Field → List Passed → Bool
fit_fields fits [] [] = true
fit_fields fits [] (o ∷ os) = false
fit_fields fits (f ∷ fs) [] = false
fit_fields fits (f ∷ fs) (o ∷ os) = fits f o && fit_fields fits fs os

-- outports, each of one type
abbrev pub is_outport : List Cell → (type : ℕ) → Passed → Bool
is_outport cs t Value = false
is_outport cs t (Words s) = false
is_outport cs t (Ports s) = are_ports cs s (Out t)
is_outport cs t (WordIn s) = false
is_outport cs t (PortIn s) = are_ports cs s (Out t)
is_outport cs t (Sized k) = false

abbrev pub all_outports : List Cell → (type : ℕ) → List Passed → Bool
all_outports cs t [] = true
all_outports cs t (o ∷ os) = is_outport cs t o && all_outports cs t os

abbrev pub over_where : Bool → List ℕ → Effect
over_where b to = cond b (Over to 0) Ill

-- a port that stands at one of these words, and nothing else but results
abbrev pub sorted : Option Sort → (Sort → Effect) → Effect
sorted None f = Ill
sorted (Some t) f = f t

abbrev pub at_port : List Cell → List Kind → (Sort → Effect) → Effect
at_port cs [] f = Ill
at_port cs (Returned ∷ ks) f = Ill
at_port cs (Word None ∷ ks) f = Ill
at_port cs (Word (Some s) ∷ ks) f = sorted (sort_at cs s) (λ t. cond (only_results ks) (f t) Ill)
at_port cs (Operand o ∷ ks) f = Ill
at_port cs (LoopOf l ∷ ks) f = Ill

abbrev pub if_in : Sort → (ℕ → Effect) → Effect
if_in Integer f = Ill
if_in Logical f = Ill
if_in (In t) f = f t
if_in (Out t) f = Ill

abbrev pub if_out : Sort → (ℕ → Effect) → Effect
if_out Integer f = Ill
if_out Logical f = Ill
if_out (In t) f = Ill
if_out (Out t) f = f t

-- two places, the first of which lies deeper, and nothing else but results
abbrev pub at_two : List Cell → List Kind → (Sort → Sort → Effect) → Effect
at_two cs [] f = Ill
at_two cs (Returned ∷ ks) f = Ill
at_two cs (Word None ∷ ks) f = Ill
at_two cs (Word (Some s) ∷ ks) f = sorted (sort_at cs s) (λ t. at_port cs ks (λ r. f r t))
at_two cs (Operand o ∷ ks) f = Ill
at_two cs (LoopOf l ∷ ks) f = Ill

-- a word on top of only results
abbrev pub ending : (to : List ℕ) → Option (List Kind) → Effect
ending to None = Ill
ending to (Some ks) = over_where (only_results ks) to

abbrev pub ends_word : List Kind → (to : List ℕ) → Effect
ends_word ks to = ending to (with_word ks (λ s ks. Some ks))

abbrev pub heading_of : Option Shape → (Heading → Bool) → Bool
heading_of None f = false
heading_of (Some u) f = f u.heading

abbrev pub cells_of : Option Shape → List Cell
cells_of None = []
cells_of (Some u) = u.cells

-- a unit of this heading is called with the operands
abbrev pub calls_fit : Shapes → Shape → (callee : ℕ) → (Heading → Bool) → Taken → Bool
calls_fit ss u n heading t =
    heading_of (slice_get ss.units n) heading && (only_results t.rest && fit_formals u.cells (cells_of (slice_get ss.units n)) 1 (reverse t.operands))

-- a loop, and so many words below it
abbrev pub at_loop : List Kind → ℕ → (to : List ℕ) → Effect
at_loop [] n to = Ill
at_loop (Returned ∷ ks) n to = Ill
at_loop (Word s ∷ ks) n to = Ill
at_loop (Operand o ∷ ks) n to = Ill
at_loop (LoopOf l ∷ ks) n to = ending to (without_words n ks)

abbrev pub ended : Shapes → Shape → (at : ℕ) → End → List Kind → Effect
ended ss u at (end.Goto to) ks = over_where (only_results ks) (to ∷ [])
ended ss u at (end.Test holding failing) ks = ends_word ks (holding ∷ failing ∷ [])
ended ss u at (end.Store k to) ks = cond (are_words u.cells (single k)) (ends_word ks (to ∷ [])) Ill
ended ss u at (end.StoreAt to) ks = ending (to ∷ []) (with_word ks (λ s ks. with_place ks (λ t ks. given_where (are_words u.cells t) ks)))
ended ss u at (end.Enter body behind) ks = at_loop ks 3 (body ∷ behind ∷ [])
ended ss u at (end.Again body behind) ks = at_loop ks 0 (body ∷ behind ∷ [])
ended ss u at (end.Print to) ks = over_where (only_results ks) (to ∷ [])
ended ss u at (end.Call n to) ks = over_where (calls_fit ss u n is_subroutine (operands_on ks)) (to ∷ [])
ended ss u at (end.Refer n to) ks = cond (calls_fit ss u n is_function (operands_on ks) && (to == suc at)) (Over (to ∷ []) (suc (results_in ks))) Ill
ended ss u at end.Return ks = over_where (is_subroutine u.heading && only_results ks) []
ended ss u at (end.ReturnValue k) ks = over_where (is_function u.heading && (are_words u.cells (single k) && only_results ks)) []
ended ss u at (end.Start n to) ks = over_where (calls_fit ss u n is_process (operands_on ks)) (to ∷ [])

abbrev pub met : Shapes → Shape → (at : ℕ) → Meet → List Kind → Effect
met ss u at meet.Stop ks = over_where (only_results ks) []
met ss u at (meet.Send next) ks =
    let t = operands_on ks in
    at_port u.cells t.rest (λ s. if_out s (λ type. over_where (fit_fields (fits_sent u.cells) (fields_of ss type) (reverse t.operands)) (next ∷ [])))
met ss u at (meet.Receive next) ks =
    let t = operands_on ks in
    at_port u.cells t.rest (λ s. if_in s (λ type. over_where (fit_fields (fits_received u.cells) (fields_of ss type) (reverse t.operands)) (next ∷ [])))
met ss u at (meet.ReceiveOr at_end next) ks =
    let t = operands_on ks in
    at_port u.cells t.rest (λ s. if_in s (λ type. over_where (fit_fields (fits_received u.cells) (fields_of ss type) (reverse t.operands)) (at_end ∷ next ∷ [])))
met ss u at (meet.Channel next) ks = at_two u.cells ks (λ i o. if_in i (λ type. over_where (same_sort o (Out type)) (next ∷ [])))
met ss u at (meet.ChannelFrom next) ks = at_two u.cells ks (λ o i. if_in i (λ type. over_where (same_sort o (Out type)) (next ∷ [])))
met ss u at (meet.Merger next) ks =
    let t = operands_on ks in
    at_port u.cells t.rest (λ s. if_in s (λ type. over_where (all_outports u.cells type (reverse t.operands)) (next ∷ [])))
met ss u at (meet.EndChannel next) ks = at_port u.cells ks (λ s. if_out s (λ type. Over (next ∷ []) 0))
met ss u at (meet.MovePort next) ks = at_two u.cells ks (λ a b. over_where (same_sort a b && is_port_sort (Some a)) (next ∷ []))
met ss u at (meet.Probe next) ks = at_two u.cells ks (λ q e. if_in q (λ type. over_where (is_word e) (next ∷ [])))
met ss u at (meet.Begin next) ks = over_where (only_results ks && (next == suc at)) (next ∷ [])
met ss u at (meet.Join next) ks = over_where (only_results ks) (next ∷ [])

abbrev pub goes_on : Option (List Kind) → Effect
goes_on None = Ill
goes_on (Some ks) = On ks

-- of a unit with so many loops
abbrev pub effect : Shapes → Shape → (loops at : ℕ) → Instr → List Kind → Effect
effect ss u loops at (instr.Eval i) ks = goes_on (evaluated u.cells i ks)
effect ss u loops at (instr.Build i) ks = goes_on (built u.cells loops i ks)
effect ss u loops at (instr.End i) ks = ended ss u at i ks
effect ss u loops at (instr.Meet i) ks = met ss u at i ks
