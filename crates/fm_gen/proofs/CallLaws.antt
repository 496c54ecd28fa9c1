-- Calls, references of functions, and process calls of a body that stands for a process.
use Rattle.std.proofs.Common.{◌≡◌, ℕ, suc, ◌+◌, Bool, true, false, cond, Option, Some, None, List, [], ◌∷◌, ◌++◌, length, refl, sym, ap, subst, ◌∙◌, Result, Ok, Err}
use Rattle.fm_base.specs.declared.fault.Fault.{Fault}
use Rattle.fm_map.specs.Placement.{Seat, located, parted, fitted}
use Rattle.fm_values.specs.declared.intrinsic.Intrinsic.{Intrinsic}
use Rattle.fm_values.specs.Intrinsics.{intrinsic_named}
use Rattle.fm_symbols.specs.Headings.{is_function}
use Rattle.fm_symbols.specs.declared.names.Variable.{Variable}
use Rattle.fm_tree.specs.Tree.{Trees, Ref}
use Rattle.fm_rules.specs.declared.program.Program.{Program}
use Rattle.fm_mean.specs.Operands.{◌>>=◌}
use Rattle.fm_mean.specs.Names as names
use Rattle.fm_mean.specs.Names.{ProgramUnit, Point, unit_at, unit_named, variable_of, point_at, kind_of}
use Rattle.fm_mean.specs.Evaluate.{Scope, Reference, Element, Call, Unknown, is_array, array_or, intrinsic_or, reference_of, function_by}
use Rattle.fm_mean.specs.Places.{Returned}
use Rattle.fm_mean.specs.Process as mean
use Rattle.fm_mean.specs.Process.{Execution, Running, Proc, framed}
use Rattle.fm_mean.specs.Calls as mean_calls
use Rattle.fm_mean.specs.Calls.{entered, backs_of}
use Rattle.fm_mean.specs.Actions as mean_actions
use Rattle.fm_mean.specs.Actions.{Action, fails, at_entry, starts_one, next_reference}
use Rattle.fm_mean.specs.declared.place.Actual.{Actual}
use Rattle.fm_mean.proofs.Determined.{reference_is}
use Rattle.fm_code.specs.declared.ask.Operand.{Operand}
use Rattle.fm_code.specs.declared.body.Back.{Back}
use Rattle.fm_code.specs.declared.body.Body.{Body}
use Rattle.fm_code.specs.declared.body.Frame.{Frame}
use Rattle.fm_code.specs.declared.scratch.Place.{Place}
use Rattle.fm_code.specs.declared.scratch.Place.TheVariants.{Here, Location, Submachine}
use Rattle.fm_code.specs.Passing.{Passed}
use Rattle.fm_code.specs.Statements as code_actions
use Rattle.fm_code.specs.Statements.{CodeUnit, Own, Stuck, at_statement, opened, extents_of, fitted_in, seat_of, starts_at, pended}
use Rattle.fm_mean.specs.Referring.{names_in}
use Rattle.fm_gen_relation.specs.Standing.{Slots, values_in}
use Rattle.fm_gen_relation.specs.Operands.{MeanBack, BacksStand}
use Rattle.fm_gen_relation.specs.Frames.{IsReferred, evaluates, Where, FrameStands}
use Rattle.fm_gen_relation.specs.Laws.{passed_words, OpensAlike}
use Rattle.fm_gen.specs.Entries.{address_of, statement_address}
use Rattle.fm_gen.specs.Units.{unit_of_code}
use Rattle.fm_gen.specs.Programs.{code_of}
use Rattle.fm_gen.specs.Steps.{Site, Passes, CallsAlike, RefersAlike, StartsAlike, seat_by}
use Rattle.fm_gen.specs.Kept.{site_at}
use Rattle.fm_gen.specs.Bodies.{StandsFor, StepsAlike, DoesAlike}
use Rattle.fm_gen.proofs.StandLaws.{statement_begins, unit_found, no_results, evaluates_by, backs_by, same_below, none_begun, begun, one_more, stands_after}

-- A FUNCTION is what is referred to.

-- it is neither an intrinsic nor an array
no_other : (v : Option (ℕ × Variable)) (i : Option Intrinsic) (r : Reference) (n : ℕ) (u : ProgramUnit) → array_or v (intrinsic_or i r) ≡ Call n u → r ≡ Call n u
no_other None None r n u e = e
no_other None (Some f) r n u e = absurd (cc)
no_other (Some v) i r n u e = go i (is_array v.1.bounds) e
  where
    go : (i : Option Intrinsic) (b : Bool) → cond b (Element v.0 v.1) (intrinsic_or i r) ≡ Call n u → r ≡ Call n u
    go i true h = absurd (cc h)
    go None false h = h
    go (Some f) false h = absurd (cc h)

function_by_is : (o : Option (ℕ × ProgramUnit)) (n : ℕ) (u : ProgramUnit) → o ≡ Some (n, u) → function_by o ≡ Call n u → is_function (kind_of u) ≡ true
function_by_is o n u is e = go (is_function (kind_of u)) (sym (ap function_by is) ∙ e)
  where
    go : (b : Bool) → cond b (Call n u) Unknown ≡ Call n u → b ≡ true
    go true h = refl
    go false h = absurd (cc h)

pub refers_to_function : (s : Scope) (name : List ℕ) (n : ℕ) (u : ProgramUnit) → reference_of s name ≡ Call n u → is_function (kind_of u) ≡ true
refers_to_function s name n u e =
    function_by_is (unit_named s.program name) n u (reference_is s name n u e)
    (no_other (variable_of s.unit name) (intrinsic_named name) (function_by (unit_named s.program name)) n u e)

module _ (p : Program) (slots : Slots) (x : Proc) (b : Body) (s : StandsFor p (code_of p) slots x b) (running : x.phase ≡ Running) (e : Point) (at : point_at s.first.unit s.frame.entry ≡ Some e) where
  abbrev here : ProgramUnit
  here = s.first.unit

  abbrev site : Site
  site = site_at p s.first.unit slots x.execution e s.frame s.below b.frame

  -- What is passed.

  module _ (number : ℕ) (os : List Operand) (passes : Passes site number os) (opens : OpensAlike slots s.first.unit passes.callee b.frame.words passes.arguments) where
    abbrev callee : ProgramUnit
    callee = passes.callee

    abbrev unit : CodeUnit
    unit = unit_of_code p passes.callee

    abbrev words : Passed
    words = passed_words s.first.unit passes.callee b.frame.words passes.arguments

    abbrev values : Returned
    values = entered passes.callee s.frame.values passes.arguments

    found : code_actions.unit_at b number ≡ Some unit
    found = unit_found p b s.loaded number passes.callee passes.there

    mine_stand : values.mine ≡ values_in slots here.names.variables words.mine
    mine_stand = ap (λ vs. (entered passes.callee vs passes.arguments).mine) s.first.stands.values ∙ opens.mine_stand

    theirs_stand : values.theirs ≡ values_in slots callee.names.variables words.theirs
    theirs_stand = ap (λ vs. (entered passes.callee vs passes.arguments).theirs) s.first.stands.values ∙ opens.theirs_stand

    no_drops : values.drops ≡ []
    no_drops = ap (λ vs. (entered passes.callee vs passes.arguments).drops) s.first.stands.values ∙ opens.drops

    backs_stand : BacksStand here.names.variables callee.names.variables (backs_of passes.callee passes.arguments) words.backs
    backs_stand = record { same = opens.backs; whole = opens.whole }

    new_stands : (bs : List MeanBack) (cs : List Back)
        → FrameStands p slots (λ v. statement_address p v 0 0) (mean_calls.new_frame number values.theirs bs) (code_actions.new_frame number unit words.theirs cs)
    new_stands bs cs =
        begun p slots number passes.callee passes.there (mean_calls.new_frame number values.theirs bs) (code_actions.new_frame number unit words.theirs cs) refl refl refl refl refl
        (record { values = theirs_stand; sized = opens.theirs_count; results = refl; loops = none_begun passes.callee.tree.body })
        tt

    -- a SUBROUTINE

    abbrev caller : mean.Frame
    caller = record (at_entry s.frame e.entry.after) { values = values.mine }

    abbrev code_caller : (to : ℕ) → Frame
    code_caller to = at_statement (record b.frame { words = words.mine }) to

    code_calls : (to : ℕ) → code_actions.calls number (code_actions.unit_at b number) b to os ≡ Own (opened number unit b (code_caller to) words.theirs words.backs) [] [] (1 + callee.names.words)
    code_calls to =
        ap (λ o. code_actions.calls number o b to os) found
        ∙ ap (λ l. code_actions.calls number (Some unit) b to l) passes.same
        ∙ ap (λ c. cond c (Own (opened number unit b (code_caller to) words.theirs words.backs) [] [] (1 + callee.names.words)) Stuck) opens.fit

    calls_by : (to : ℕ) (a : Action) → is_function (kind_of passes.callee) ≡ false → to ≡ address_of p s.first.unit e.entry.after
        → a ≡ mean_actions.opens x.execution (at_entry s.frame e.entry.after) s.below number passes.callee (entered passes.callee s.frame.values passes.arguments) (backs_of passes.callee passes.arguments)
        → DoesAlike p (code_of p) slots x b s e (code_actions.calls number (code_actions.unit_at b number) b to os) a
    calls_by to a kind leads does = subst (λ t. DoesAlike p (code_of p) slots x b s e t a) (sym (code_calls to)) (record {
      execution = framed x.execution (new ∷ caller ∷ s.below);
      does = does ∙ ap (λ d. mean_actions.Own (framed x.execution (new ∷ caller ∷ s.below)) [] d (1 + callee.names.words)) no_drops;
      stands = stands_after p (code_of p) slots x b s running new (caller ∷ s.below) code_new (code_caller to ∷ b.below) [] (new_stands (backs_of passes.callee passes.arguments) words.backs) (
        record {
          unit = s.first.unit;
          there = s.first.there;
          number = s.first.number;
          address = leads ∙ sym (statement_begins p s.first.unit e.entry.after) ∙ ap (λ c. statement_address p s.first.unit e.entry.after (cond c 1 0)) (sym evaluated);
          stands = record { values = mine_stand; sized = opens.mine_count ∙ s.first.stands.sized; results = refl; loops = s.first.stands.loops };
          results = no_results p s.first.unit (point_at s.first.unit e.entry.after);
          starts = s.first.starts;
        },
        backs_by p s.frame.unit number s.first.unit passes.callee s.first.there passes.there (backs_of passes.callee passes.arguments) words.backs backs_stand,
        subst (λ c. Where c (IsReferred p new caller)) (sym evaluated) tt,
        same_below p slots s.frame caller b.frame (code_caller to) refl refl refl s.below b.below s.others,
      );
    })
      where
        new : mean.Frame
        new = mean_calls.new_frame number values.theirs (backs_of passes.callee passes.arguments)

        code_new : Frame
        code_new = code_actions.new_frame number unit words.theirs words.backs

        evaluated : evaluates p new ≡ false
        evaluated = evaluates_by p number passes.callee passes.there false kind

    -- a FUNCTION

    abbrev referrer : mean.Frame
    referrer = record s.frame { values = values.mine }

    abbrev code_referrer : (to : ℕ) → Frame
    code_referrer to = record b.frame { words = words.mine; address = to }

    code_refers : (to : ℕ) → code_actions.refers number (code_actions.unit_at b number) b to os ≡ Own (opened number unit b (code_referrer to) words.theirs []) [] [] (1 + callee.names.words)
    code_refers to =
        ap (λ o. code_actions.refers number o b to os) found
        ∙ ap (λ l. code_actions.refers number (Some unit) b to l) passes.same
        ∙ ap (λ c. cond c (Own (opened number unit b (code_referrer to) words.theirs []) [] [] (1 + callee.names.words)) Stuck) opens.fit

    refers_by : (to : ℕ) (a : Action) (name : List ℕ) (trees : Trees) → next_reference e.entry (length s.frame.results) ≡ Some (Ref name trees)
        → reference_of (names_in p s.first.unit) name ≡ Call number passes.callee
        → to ≡ statement_address p s.first.unit s.frame.entry (suc (length s.frame.results))
        → a ≡ mean_actions.opens x.execution s.frame s.below number passes.callee (entered passes.callee s.frame.values passes.arguments) []
        → DoesAlike p (code_of p) slots x b s e (code_actions.refers number (code_actions.unit_at b number) b to os) a
    refers_by to a name trees next means leads does = subst (λ t. DoesAlike p (code_of p) slots x b s e t a) (sym (code_refers to)) (record {
      execution = framed x.execution (new ∷ referrer ∷ s.below);
      does = does ∙ ap (λ d. mean_actions.Own (framed x.execution (new ∷ referrer ∷ s.below)) [] d (1 + callee.names.words)) no_drops;
      stands = stands_after p (code_of p) slots x b s running new (referrer ∷ s.below) code_new (code_referrer to ∷ b.below) [] (new_stands [] []) (
        record {
          unit = s.first.unit;
          there = s.first.there;
          number = s.first.number;
          address = leads ∙ ap (λ c. statement_address p s.first.unit s.frame.entry (cond c (suc (length s.frame.results)) (length s.frame.results))) (sym evaluated);
          stands = record { values = mine_stand; sized = opens.mine_count ∙ s.first.stands.sized; results = s.first.stands.results; loops = s.first.stands.loops };
          results = s.first.results;
          starts = s.first.starts;
        },
        record { same = refl; whole = tt },
        subst (λ c. Where c (IsReferred p new referrer)) (sym evaluated) (record {
          unit = s.first.unit;
          there = s.first.there;
          point = e;
          at = at;
          name = name;
          arguments = trees;
          next = next;
          callee = passes.callee;
          means = means;
        }),
        same_below p slots s.frame referrer b.frame (code_referrer to) refl refl refl s.below b.below s.others,
      );
    })
      where
        new : mean.Frame
        new = mean_calls.new_frame number values.theirs []

        code_new : Frame
        code_new = code_actions.new_frame number unit words.theirs []

        evaluated : evaluates p new ≡ true
        evaluated = evaluates_by p number passes.callee passes.there true (refers_to_function (names_in p s.first.unit) name number passes.callee means)

    -- a process of the block

    abbrev starter : Seat → mean.Frame
    starter seat = at_entry (record s.frame {
      values = values.mine;
      starts = s.frame.starts ++ record { unit = number; values = values.theirs; backs = backs_of passes.callee passes.arguments; machine = seat.0; node = seat.1 } ∷ [];
    }) e.entry.after

    code_starts : (to : ℕ) (seat : Seat) → starts_at number unit b to os (Ok seat) ≡ Own (pended number unit b to words seat) [] [] (1 + callee.names.words)
    code_starts to seat =
        ap (λ l. starts_at number unit b to l (Ok seat)) passes.same
        ∙ ap (λ c. cond c (Own (pended number unit b to words seat) [] [] (1 + callee.names.words)) Stuck) opens.fit

    starts_in : (to : ℕ) (seat : Seat) → to ≡ address_of p s.first.unit e.entry.after
        → StepsAlike p (code_of p) slots x (pended number unit b to words seat) [] [] (1 + callee.names.words)
        (starts_one x.execution e s.frame s.below number passes.callee (Ok (passes.arguments, seat)))
    starts_in to seat leads = record {
      execution = framed x.execution (starter seat ∷ s.below);
      does = ap (λ d. mean_actions.Own (framed x.execution (starter seat ∷ s.below)) [] d (1 + callee.names.words)) no_drops;
      stands = stands_after p (code_of p) slots x b s running (starter seat) s.below code_starter b.below [] (record {
        unit = s.first.unit;
        there = s.first.there;
        number = s.first.number;
        address = leads ∙ sym (statement_begins p s.first.unit e.entry.after);
        stands = record { values = mine_stand; sized = opens.mine_count ∙ s.first.stands.sized; results = refl; loops = s.first.stands.loops };
        results = no_results p s.first.unit (point_at s.first.unit e.entry.after);
        starts = one_more p slots here.names.variables s.frame.starts b.frame.starts
            (record { unit = number; values = values.theirs; backs = backs_of passes.callee passes.arguments; machine = seat.0; node = seat.1 })
            (record { unit = number; words = words.theirs; backs = words.backs; machine = seat.0; node = seat.1 })
            s.first.starts
            (record { unit = passes.callee; there = passes.there; number = refl; values = theirs_stand; sized = opens.theirs_count; backs = backs_stand; machine = refl; node = refl });
      }) (same_below p slots s.frame (starter seat) b.frame code_starter refl refl refl s.below b.below s.others);
    }
      where
        code_starter : Frame
        code_starter = (pended number unit b to words seat).frame

    abbrev with_arguments : Seat → Result (List Actual × Seat) Fault
    with_arguments there = Ok (passes.arguments, there)

    starts_with : (to : ℕ) → to ≡ address_of p s.first.unit e.entry.after → code_actions.line_of b ≡ names.line_of e → (r : Result Seat Fault)
        → DoesAlike p (code_of p) slots x b s e (starts_at number unit b to os r) (starts_one x.execution e s.frame s.below number passes.callee (r >>= with_arguments))
    starts_with to leads line (Ok seat) =
        subst (λ t. DoesAlike p (code_of p) slots x b s e t (starts_one x.execution e s.frame s.below number passes.callee (Ok (passes.arguments, seat)))) (sym (code_starts to seat)) (starts_in to seat leads)
    starts_with to leads line (Err fault) = ap (λ l. fails l fault) (sym line)

    -- both look for the place alike
    seat_alike : (place : Place) → seat_of b place ≡ seat_by s.first.unit x.execution place
    seat_alike Here = λ i. Ok (s.machine i, s.node i)
    seat_alike (Location ks) = λ i. located (extents_of (own_unit i)) (s.machine i) ks
      where
        own_unit : code_actions.unit_at b b.frame.unit ≡ Some (unit_of_code p s.first.unit)
        own_unit = ap (code_actions.unit_at b) s.first.number ∙ unit_found p b s.loaded s.frame.unit s.first.unit s.first.there
    seat_alike (Submachine low high) = ap (λ m. parted m low high) s.machine

    fitted_alike : (r : Result Seat Fault) → fitted_in unit r ≡ (r >>= λ seat. fitted callee.names.extents seat)
    fitted_alike (Ok seat) = refl
    fitted_alike (Err fault) = refl

    in_turn : (r : Result Seat Fault) → (r >>= λ seat. fitted callee.names.extents seat >>= with_arguments) ≡ ((r >>= λ seat. fitted callee.names.extents seat) >>= with_arguments)
    in_turn (Ok seat) = refl
    in_turn (Err fault) = refl

    starts_by : (to : ℕ) (place : Place) (a : Action) → to ≡ address_of p s.first.unit e.entry.after → code_actions.line_of b ≡ names.line_of e
        → a ≡ starts_one x.execution e s.frame s.below number passes.callee (seat_by s.first.unit x.execution place >>= λ seat. fitted callee.names.extents seat >>= with_arguments)
        → DoesAlike p (code_of p) slots x b s e (code_actions.starts number (code_actions.unit_at b number) b to os place) a
    starts_by to place a leads line does =
        subst (DoesAlike p (code_of p) slots x b s e (code_actions.starts number (code_actions.unit_at b number) b to os place))
        (sym (does ∙ ap (starts_one x.execution e s.frame s.below number passes.callee) (in_turn (seat_by s.first.unit x.execution place))))
        (subst (λ t. DoesAlike p (code_of p) slots x b s e t (starts_one x.execution e s.frame s.below number passes.callee (seat >>= with_arguments))) (sym code_place)
        (starts_with to leads line seat))
      where
        seat : Result Seat Fault
        seat = seat_by s.first.unit x.execution place >>= λ here. fitted callee.names.extents here

        code_place : code_actions.starts number (code_actions.unit_at b number) b to os place ≡ starts_at number unit b to os seat
        code_place =
            ap (λ o. code_actions.starts number o b to os place) found
            ∙ ap (λ r. starts_at number unit b to os (fitted_in unit r)) (seat_alike place)
            ∙ ap (starts_at number unit b to os) (fitted_alike (seat_by s.first.unit x.execution place))

  pub calls_alike : (number to : ℕ) (os : List Operand) (a : Action) (h : CallsAlike site number to os a) → OpensAlike slots s.first.unit h.passes.callee b.frame.words h.passes.arguments
      → DoesAlike p (code_of p) slots x b s e (code_actions.calls number (code_actions.unit_at b number) b to os) a
  calls_alike number to os a h opens = calls_by number os h.passes opens to a (ap is_function h.kind) h.leads h.does

  pub refers_alike : (number to : ℕ) (os : List Operand) (a : Action) (h : RefersAlike site number to os a) → OpensAlike slots s.first.unit h.passes.callee b.frame.words h.passes.arguments
      → DoesAlike p (code_of p) slots x b s e (code_actions.refers number (code_actions.unit_at b number) b to os) a
  refers_alike number to os a h opens = refers_by number os h.passes opens to a h.name h.trees h.next h.means h.leads h.does

  pub starts_alike : (number to : ℕ) (os : List Operand) (place : Place) (a : Action) (h : StartsAlike site number to os place a) → OpensAlike slots s.first.unit h.passes.callee b.frame.words h.passes.arguments
      → code_actions.line_of b ≡ names.line_of e → DoesAlike p (code_of p) slots x b s e (code_actions.starts number (code_actions.unit_at b number) b to os place) a
  starts_alike number to os place a h opens line = starts_by number os h.passes opens to place a h.leads line h.does
