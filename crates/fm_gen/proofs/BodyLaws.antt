-- Bodies do what the processes do for which they stand.
use Rattle.std.proofs.Common.{◌≡◌, ℕ, ℤ, pos, false, not, cond, Option, Some, None, option_to_list, List, [], ◌∷◌, length, map, drop, refl, sym, ap, subst, ◌∙◌, arith}
use Rattle.std.specs.Prelude.{slice_set}
use Rattle.std.specs.Ordering.{int_eq}
use Rattle.std.proofs.lemmas.List.{length-set}
use Rattle.std.proofs.lemmas.Option.{get_or_from_slice_get}
use Rattle.fm_base.specs.declared.port.PortValue.{PortValue}
use Rattle.fm_base.specs.Channels.{Item}
use Rattle.fm_net.specs.Typed.{AllIn}
use Rattle.fm_tree.specs.declared.statement.Stmt.TheVariants as stmt
use Rattle.fm_symbols.specs.declared.names.Variable.{Variable}
use Rattle.fm_rules.specs.declared.program.Program.{Program}
use Rattle.fm_mean.specs.Names as names
use Rattle.fm_mean.specs.Names.{ProgramUnit, Point, unit_at, point_at}
use Rattle.fm_mean.specs.Places.{emptied_place, put_port}
use Rattle.fm_mean.specs.Process as mean
use Rattle.fm_mean.specs.Process.{Execution, Kid, Phase, Running, Joining, Ended, Faulted, Proc, framed}
use Rattle.fm_mean.specs.Calls.{variables_in}
use Rattle.fm_mean.specs.Fits.{Types, ValuesFit, FramesFit, IsFine}
use Rattle.fm_mean.specs.Actions as mean_actions
use Rattle.fm_mean.specs.Actions.{Action, Meets, Join, fails, gone_on, at_entry, behind, closed, point_action, action_at, running, joining, after_in, after_at, action_in}
use Rattle.fm_code.specs.declared.ask.Ask.{Ask}
use Rattle.fm_code.specs.declared.ask.Ask.TheVariants as ask
use Rattle.fm_code.specs.declared.ask.Operand.{Operand}
use Rattle.fm_code.specs.declared.body.Body.{Body}
use Rattle.fm_code.specs.declared.body.Frame.{Frame}
use Rattle.fm_code.specs.declared.instr.Instr.{Instr}
use Rattle.fm_code.specs.declared.instr.Instr.TheVariants as instr
use Rattle.fm_code.specs.declared.instr.Meet.TheVariants as meet
use Rattle.fm_code.specs.Acts.{StatementEnd, Goes, Prints, Calls, Refers, Returns, ReturnsValue, Starts, Closes, Moves, Fails, Asks, Stuck, statement, work, nothing}
use Rattle.fm_code.specs.Passing.{live}
use Rattle.fm_code.specs.Statements as code_actions
use Rattle.fm_code.specs.Statements.{action_by, at_statement, with_frame, with_words, code_in, entries_of, line_at, statement_end_of, moved, word_at}
use Rattle.fm_gen_relation.specs.Sound.{IsSoundUnit, words_among}
use Rattle.fm_gen_relation.specs.Standing.{Slots, values_in, IsFrame}
use Rattle.fm_gen_relation.specs.Operands.{IsActual, word_number}
use Rattle.fm_gen_relation.specs.Frames.{Stands, StartsStand, ResultsFit}
use Rattle.fm_gen_relation.specs.Laws.{OpensAlike}
use Rattle.fm_gen_relation.proofs.PortWords.{empty_alike, close_alike, move_alike, move_lets_go}
use Rattle.fm_gen.specs.Entries.{address_of, statement_address, join_address, unit_code}
use Rattle.fm_gen.specs.Units.{unit_of_code}
use Rattle.fm_gen.specs.Programs.{code_of}
use Rattle.fm_gen.specs.Steps.{LeavesFrame, LeavesCode, Site, Passes, ClosesAlike, MovesAlike, Agree, AsksAlike}
use Rattle.fm_gen.specs.Kept.{site_at}
use Rattle.fm_gen.specs.Bodies.{next_address, IsAlive, StandsFor, StepsAlike, MeetsAlike, DoesAlike, DoesNext, KeepsProgram}
use Rattle.fm_gen_relation.proofs.Units.{sound_unit}
use Rattle.fm_gen_relation.proofs.Passing.{opens_alike}
use Rattle.fm_gen.proofs.Beyond.{rests_alike}
use Rattle.fm_gen.proofs.KeptUnits.{keeps_unit}
use Rattle.fm_gen.proofs.LineLaws.{tells_lines}
use Rattle.fm_gen.proofs.Standings.{join_stands}
use Rattle.fm_gen.proofs.StandLaws.{statement_begins, unit_found, no_results, same_below, begins, stands_after}
use Rattle.fm_gen.proofs.CallLaws.{calls_alike, refers_alike, starts_alike}
use Rattle.fm_gen.proofs.ReturnLaws.{returns_alike, results_alike}

first_fits : (p : Program) (types : Types) (f : mean.Frame) (below : List mean.Frame) (u : ProgramUnit) → unit_at p f.unit ≡ Some u → FramesFit p types (f ∷ below) → ValuesFit types u.names.variables f.values
first_fits p types f [] u there h = subst (λ o. ValuesFit types (variables_in o) f.values) there h.0
first_fits p types f (g ∷ fs) u there h = subst (λ o. ValuesFit types (variables_in o) f.values) there h.0.0

-- The one word of a port.

the_first : (y z : PortValue) → y ∷ [] ≡ z ∷ [] → Some y ≡ Some z
the_first y z e = cc

one_port : (o : Option PortValue) (z : PortValue) → option_to_list o ≡ z ∷ [] → o ≡ Some z
one_port None z e = absurd (cc)
one_port (Some y) z e = the_first y z e

live_one : (z : ℤ) → int_eq z (pos 0) ≡ false → live (z ∷ []) ≡ z ∷ []
live_one z e = ap (λ c. cond (not c) (z ∷ []) []) e

module _ (p : Program) (slots : Slots) (x : Proc) (b : Body) (s : StandsFor p (code_of p) slots x b) (running : x.phase ≡ Running) (e : Point) where
  abbrev here : ProgramUnit
  here = s.first.unit

  abbrev site : Site
  site = site_at p s.first.unit slots x.execution e s.frame s.below b.frame

  -- both at another entry
  moved_on : (f : mean.Frame) (entry : ℕ) (m : Frame) (to : ℕ) (lines : List (List ℕ)) → to ≡ address_of p s.first.unit entry → Stands s.first.unit slots f m → LeavesFrame s.frame f → LeavesCode b.frame m
      → StandsFor p (code_of p) slots (gone_on x (framed x.execution (at_entry f entry ∷ s.below)) lines) (with_frame b (at_statement m to))
  moved_on f entry m to lines leads stands leaves code =
      stands_after p (code_of p) slots x b s running (at_entry f entry) s.below (at_statement m to) b.below lines (record {
        unit = s.first.unit;
        there = ap (unit_at p) leaves.unit ∙ s.first.there;
        number = code.unit ∙ s.first.number ∙ sym leaves.unit;
        address = leads ∙ sym (statement_begins p s.first.unit entry);
        stands = record { values = stands.values; sized = stands.sized; results = refl; loops = stands.loops };
        results = no_results p s.first.unit (point_at s.first.unit entry);
        starts = subst (λ ss. StartsStand p slots here.names.variables ss m.starts) (sym leaves.starts) (subst (StartsStand p slots here.names.variables s.frame.starts) (sym code.starts) s.first.starts);
      }) (same_below p slots s.frame (at_entry f entry) b.frame (at_statement m to) leaves.unit leaves.backs code.backs s.below b.below s.others)

  stepped : (f : mean.Frame) (entry : ℕ) (m : Frame) (to : ℕ) (lines : List (List ℕ)) (drops : List ℤ) (cost : ℕ) (a : Action) → to ≡ address_of p s.first.unit entry → Stands s.first.unit slots f m
      → LeavesFrame s.frame f → LeavesCode b.frame m → a ≡ mean_actions.Own (framed x.execution (at_entry f entry ∷ s.below)) lines (map slots drops) cost
      → StepsAlike p (code_of p) slots x (with_frame b (at_statement m to)) lines drops cost a
  stepped f entry m to lines drops cost a leads stands leaves code is = record {
    execution = framed x.execution (at_entry f entry ∷ s.below);
    does = is;
    stands = moved_on f entry m to lines leads stands leaves code;
  }

  -- Ports.

  module _ (sound : IsSoundUnit s.first.unit) where
    abbrev vars : List Variable
    vars = here.names.variables

    abbrev ws : List ℤ
    ws = b.frame.words

    full : length ws ≡ words_among vars
    full = s.first.stands.sized ∙ sound.counted

    -- with other values and the words that stand for them
    refilled : (values : List Item) (words : List ℤ) (to : ℕ) (drops : List ℤ) (ports : List PortValue) → values ≡ values_in slots vars words → length words ≡ length ws → to ≡ address_of p s.first.unit e.entry.after
        → ports ≡ map slots drops → StepsAlike p (code_of p) slots x (with_words b to words) [] drops 1 (mean_actions.Own (behind x.execution e.entry.after s.frame s.below values) [] ports 1)
    refilled values words to drops ports same count leads go =
        stepped (record s.frame { values = values }) e.entry.after (record b.frame { words = words }) to [] drops 1 (mean_actions.Own (behind x.execution e.entry.after s.frame s.below values) [] ports 1) leads
        (record { values = same; sized = count ∙ s.first.stands.sized; results = s.first.stands.results; loops = s.first.stands.loops })
        (record { unit = refl; starts = refl; backs = refl })
        (record { unit = refl; count = count; starts = refl; backs = refl })
        (ap (λ l. mean_actions.Own (behind x.execution e.entry.after s.frame s.below values) [] l 1) go)

    closes_alike : (port to : ℕ) (a : Action) → ClosesAlike site port to a → DoesAlike p (code_of p) slots x b s e (code_actions.closes b port to) a
    closes_alike port to a h = subst (λ k. StepsAlike p (code_of p) slots x (with_words b to (slice_set ws k (pos 0))) [] (live (word_at ws k ∷ [])) 1 a) (sym h.number)
        (subst (StepsAlike p (code_of p) slots x (with_words b to (slice_set ws k (pos 0))) [] (live (word_at ws k ∷ [])) 1) (sym does)
        (refilled left.0 (slice_set ws k (pos 0)) to (live (word_at ws k ∷ [])) (slots h.slot ∷ []) stand (length-set ws k (pos 0)) h.leads (sym gone)))
      where
        k : ℕ
        k = word_number vars h.span

        left : List Item × Option PortValue
        left = emptied_place s.frame.values h.span

        stand : left.0 ≡ values_in slots vars (slice_set ws k (pos 0))
        stand = ap (λ vs. (emptied_place vs h.span).0) s.first.stands.values ∙ sym (empty_alike slots vars ws h.span sound.laid h.holds.place h.holds.some)

        gone : map slots (live (word_at ws k ∷ [])) ≡ slots h.slot ∷ []
        gone = ap (λ z. map slots (live (z ∷ []))) (get_or_from_slice_get ws k h.slot (pos 0) h.holds.at) ∙ ap (map slots) (live_one h.slot h.holds.live)

        there : left.1 ≡ Some (slots h.slot)
        there = one_port left.1 (slots h.slot)
            (ap (λ vs. option_to_list (emptied_place vs h.span).1) s.first.stands.values ∙ close_alike slots vars ws h.span sound.laid full h.holds.place h.holds.some ∙ gone)

        does : a ≡ mean_actions.Own (behind x.execution e.entry.after s.frame s.below left.0) [] (slots h.slot ∷ []) 1
        does = h.does ∙ ap (closed x.execution e s.frame s.below left.0) there

    moves_alike : (from into to : ℕ) (a : Action) → MovesAlike site from into to a → DoesAlike p (code_of p) slots x b s e (code_actions.moves b from into to) a
    moves_alike from into to a h = subst (λ k. StepsAlike p (code_of p) slots x (with_words b to (moved ws k into)) [] (live (word_at (slice_set ws k (pos 0)) into ∷ [])) 1 a) (sym h.from_is)
        (subst (λ k. StepsAlike p (code_of p) slots x (with_words b to (moved ws first k)) [] (live (word_at (slice_set ws first (pos 0)) k ∷ [])) 1 a) (sym h.into_is)
        (subst (StepsAlike p (code_of p) slots x (with_words b to (moved ws first second)) [] (live (word_at (slice_set ws first (pos 0)) second ∷ [])) 1) (sym h.does)
        (refilled left.0 (moved ws first second) to (live (word_at (slice_set ws first (pos 0)) second ∷ [])) (option_to_list left.1) stand count h.leads gone)))
      where
        first : ℕ
        first = word_number vars h.source

        second : ℕ
        second = word_number vars h.target

        left : List Item × Option PortValue
        left = put_port (emptied_place s.frame.values h.source).0 h.target (emptied_place s.frame.values h.source).1

        stand : left.0 ≡ values_in slots vars (moved ws first second)
        stand =
            ap (λ vs. (put_port (emptied_place vs h.source).0 h.target (emptied_place vs h.source).1).0) s.first.stands.values
            ∙ sym (move_alike slots vars ws h.source h.target sound.laid full h.first.place h.first.some h.second.place h.second.some)

        gone : option_to_list left.1 ≡ map slots (live (word_at (slice_set ws first (pos 0)) second ∷ []))
        gone =
            ap (λ vs. option_to_list (put_port (emptied_place vs h.source).0 h.target (emptied_place vs h.source).1).1) s.first.stands.values
            ∙ move_lets_go slots vars ws h.source h.target sound.laid full h.first.place h.first.some h.second.place h.second.some

        count : length (moved ws first second) ≡ length ws
        count = length-set (slice_set ws first (pos 0)) second (word_at ws first) ∙ length-set ws first (pos 0)

module _ (p : Program) (types : Types) (slots : Slots) (x : Proc) (fine : IsFine p types x) (b : Body) (s : StandsFor p (code_of p) slots x b)
    (e : Point) (at : point_at s.first.unit s.frame.entry ≡ Some e) where
  abbrev unit : ProgramUnit
  unit = s.first.unit

  sound : IsSoundUnit s.first.unit
  sound = sound_unit p s.frame.unit s.first.unit s.first.there

  fits : ValuesFit types unit.names.variables (values_in slots unit.names.variables b.frame.words)
  fits = subst (ValuesFit types unit.names.variables) s.first.stands.values (first_fits p types s.frame s.below s.first.unit s.first.there (subst (FramesFit p types) s.frames fine.0))

  is_frame : IsFrame s.first.unit slots b.frame
  is_frame = record {
    types = types;
    fits = fits;
    numbered = let sized = s.first.stands.sized in let few = sound.few in omega (arith, sized, few);
    sized = s.first.stands.sized;
  }

  found : code_actions.unit_at b b.frame.unit ≡ Some (unit_of_code p s.first.unit)
  found = ap (code_actions.unit_at b) s.first.number ∙ unit_found p b s.loaded s.frame.unit s.first.unit s.first.there

  -- A process that runs.

  module _ (phase : x.phase ≡ Running) where
    abbrev spot : Site
    spot = site_at p s.first.unit slots x.execution e s.frame s.below b.frame

    abbrev address : ℕ
    address = statement_address p unit s.frame.entry (length s.frame.results)

    abbrev now : Action
    now = point_action p x.execution unit s.frame s.below (Some e)

    starts_there : b.frame.address ≡ address
    starts_there = begins p (code_of p) slots x b s phase

    end_is : statement_end_of b ≡ statement (unit_code p unit) address b.frame
    end_is = λ i. statement (code_in (found i)) (starts_there i) b.frame

    line : code_actions.line_of b ≡ names.line_of e
    line = (λ i. line_at (entries_of (found i)) (starts_there i)) ∙ (tells_lines p s.first.unit).statements s.frame.entry e at (length s.frame.results)

    does : mean_actions.action_of p x ≡ now
    does =
        (λ i. action_in p x.execution (phase i))
        ∙ (λ i. running p x.execution (s.frames i))
        ∙ (λ i. action_at p x.execution s.frame s.below (s.first.there i))
        ∙ ap (point_action p x.execution unit s.frame s.below) at

    agree : Agree spot (statement (unit_code p unit) address b.frame) now
    agree =
        keeps_unit p s.frame.unit s.first.unit s.first.there s.frame.entry e at slots b.frame is_frame x.execution s.frame s.below refl s.first.stands
        (subst (λ o. ResultsFit p unit o s.frame.results) at s.first.results)

    opens : (number : ℕ) (os : List Operand) (h : Passes spot number os) → OpensAlike slots s.first.unit h.callee b.frame.words h.arguments
    opens number os h =
        opens_alike slots types s.first.unit h.callee b.frame.words h.arguments sound (sound_unit p number h.callee h.there) s.first.stands.sized fits
        (subst (λ vs. AllIn (IsActual unit.names.variables vs) h.arguments) s.first.stands.values h.whole) h.taken h.full

    asks_alike : (k : Ask) (a : Action) → AsksAlike spot k a → MeetsAlike p (code_of p) slots x b s e k a
    asks_alike (ask.Fail l fault) a h = absurd h
    asks_alike (ask.LetGo dropped) a h = absurd h
    asks_alike (ask.Channel inport outport next) a h = h
    asks_alike (ask.Merger inport outports next) a h = h
    asks_alike (ask.Send slot items next) a h = h
    asks_alike (ask.Receive slot items status at_end next) a h = h
    asks_alike (ask.Probe slot empty next) a h = h
    asks_alike (ask.Begin next) a h = h
    asks_alike (ask.Join next) a h = absurd h
    asks_alike ask.End a h = h

    alike : (t : StatementEnd) (a : Action) → Agree spot t a → DoesAlike p (code_of p) slots x b s e (action_by b t) a
    alike (Goes to m) a h = stepped p slots x b s phase e h.frame h.entry m to [] [] 1 a h.leads h.stands h.leaves h.leaves_code h.does
    alike (Prints to printed) a h =
        stepped p slots x b s phase e s.frame e.entry.after b.frame to _ [] _ a h.leads s.first.stands (record { unit = refl; starts = refl; backs = refl }) (record { unit = refl; count = refl; starts = refl; backs = refl })
        h.does
    alike (Calls number to operands) a h = calls_alike p slots x b s phase e at number to operands a h (opens number operands h.passes)
    alike (Refers number to operands) a h = refers_alike p slots x b s phase e at number to operands a h (opens number operands h.passes)
    alike Returns a h = returns_alike p slots x b s phase e (sound_unit p) a h
    alike (ReturnsValue value) a h = results_alike p slots x b s phase e (sound_unit p) value a h
    alike (Starts number to operands place) a h = starts_alike p slots x b s phase e at number to operands place a h (opens number operands h.passes) line
    alike (Closes port to) a h = closes_alike p slots x b s phase e sound port to a h
    alike (Moves from into to) a h = moves_alike p slots x b s phase e sound from into to a h
    alike (Fails fault) a h = h ∙ ap (λ l. fails l fault) (sym line)
    alike (Asks k) a h = asks_alike k a h
    alike Stuck a h = h

    runs_alike : DoesAlike p (code_of p) slots x b s e (code_actions.action_of b) (mean_actions.action_of p x)
    runs_alike =
        subst (λ a. DoesAlike p (code_of p) slots x b s e (code_actions.action_of b) a) (sym does)
        (subst (λ t. DoesAlike p (code_of p) slots x b s e (action_by b t) now) (sym end_is) (alike (statement (unit_code p unit) address b.frame) now agree))

  -- A process that joins.

  module _ (block : ℕ) (kids : List Kid) (phase : x.phase ≡ Joining block kids) where
    same_entry : (d : Point) → Some d ≡ Some e → d.entry.stmt ≡ stmt.EndProcesses → e.entry.stmt ≡ stmt.EndProcesses
    same_entry d same is = let points : d ≡ e = cc in subst (λ (q : Point). q.entry.stmt ≡ stmt.EndProcesses) points is

    ends : e.entry.stmt ≡ stmt.EndProcesses
    ends = let end = subst (λ h. IsAlive h unit s.frame) phase s.alive in same_entry end.point (sym end.at ∙ at) end.is

    join : (rest : List Instr) × (drop (join_address p unit s.frame.entry) (unit_code p unit) ≡ instr.Meet (meet.Join (address_of p unit e.entry.after)) ∷ rest)
    join = join_stands p s.first.unit s.frame.entry e at ends

    join_end : statement_end_of b ≡ Asks (ask.Join (address_of p unit e.entry.after))
    join_end =
        (λ i. statement (code_in (found i)) ((s.first.address ∙ ap (λ h. next_address p h s.frame s.first.unit) phase) i) b.frame)
        ∙ ap (λ c. work c [] nothing b.frame) join.1

    join_does : mean_actions.action_of p x ≡ Meets (Join block kids e.entry.after)
    join_does =
        (λ i. action_in p x.execution (phase i))
        ∙ (λ i. joining p block kids (s.frames i))
        ∙ ap (λ o. Meets (Join block kids (after_at o s.frame.entry))) s.first.there
        ∙ ap (λ o. Meets (Join block kids (after_in o))) at

    joins_alike : DoesAlike p (code_of p) slots x b s e (code_actions.action_of b) (mean_actions.action_of p x)
    joins_alike = subst (λ t. DoesAlike p (code_of p) slots x b s e (action_by b t) (mean_actions.action_of p x)) (sym join_end) (record {
      block = block;
      kids = kids;
      entry = e.entry.after;
      does = join_does;
      leads = refl;
    })

  does_alike : (h : Phase) → x.phase ≡ h → DoesAlike p (code_of p) slots x b s e (code_actions.action_of b) (mean_actions.action_of p x)
  does_alike Running phase = runs_alike phase
  does_alike (Joining block kids) phase = joins_alike block kids phase
  does_alike Ended phase = absurd (subst (λ h. IsAlive h unit s.frame) phase s.alive)
  does_alike (Faulted l fault) phase = absurd (subst (λ h. IsAlive h unit s.frame) phase s.alive)

pub keeps_at : (p : Program) (types : Types) (slots : Slots) (x : Proc) → IsFine p types x → (b : Body) (s : StandsFor p (code_of p) slots x b) (e : Point) → point_at s.first.unit s.frame.entry ≡ Some e
    → DoesAlike p (code_of p) slots x b s e (code_actions.action_of b) (mean_actions.action_of p x)
keeps_at p types slots x fine b s e at = does_alike p types slots x fine b s e at x.phase refl

pub keeps_program : (p : Program) → KeepsProgram p (code_of p)
keeps_program p types slots x fine b s = go (point_at s.first.unit s.frame.entry) refl
  where
    go : (o : Option Point) → point_at s.first.unit s.frame.entry ≡ o → DoesNext p (code_of p) slots x b s o (code_actions.action_of b) (mean_actions.action_of p x)
    go None none = rests_alike p slots x b s none
    go (Some e) at = keeps_at p types slots x fine b s e at
