-- Returns of a body that stands for a process: a SUBROUTINE gives back, and a FUNCTION leaves its result.
use Rattle.std.proofs.Common.{◌≡◌, ℕ, zero, suc, ◌+◌, ◌<◌, ◌≤◌, ℤ, true, false, cond, Some, List, [], ◌∷◌, ◌++◌, length, map, refl, sym, ap, subst, ◌∙◌, arith, append_assoc, length-append, ⊎_elim}
use Rattle.std.specs.Prelude.{slice_get}
use Rattle.std.proofs.lemmas.Bool.{cases_lt}
use Rattle.std.proofs.lemmas.List.{map-append}
use Rattle.fm_base.specs.Channels.{message_ports}
use Rattle.fm_tree.specs.Tree.{Tree, Ref}
use Rattle.fm_tree.specs.declared.program_unit.Entry.{Entry}
use Rattle.fm_symbols.specs.Headings.{is_function}
use Rattle.fm_rules.specs.declared.program.Program.{Program}
use Rattle.fm_mean.specs.Names.{ProgramUnit, Point, unit_at, point_at, result_variable}
use Rattle.fm_mean.specs.Evaluate.{Call, reference_of}
use Rattle.fm_mean.specs.Places.{Returned, returned, word_at}
use Rattle.fm_mean.specs.Process as mean
use Rattle.fm_mean.specs.Process.{Execution, Running, Proc, framed, started_ports, frame_ports}
use Rattle.fm_mean.specs.Actions as mean_actions
use Rattle.fm_mean.specs.Actions.{next_reference, scalar_place}
use Rattle.fm_mean.proofs.Determined.{reference_is}
use Rattle.fm_mean.proofs.Sorts.{named_at}
use Rattle.fm_code.specs.declared.body.Back.{Back}
use Rattle.fm_code.specs.declared.body.Body.{Body}
use Rattle.fm_code.specs.declared.body.Frame.{Frame}
use Rattle.fm_code.specs.Passing.{Given, backs_fit, give_all, back_words, ports_in}
use Rattle.fm_code.specs.Statements as code_actions
use Rattle.fm_code.specs.Statements.{Action, Own, Stuck, start_ports, left_ports}
use Rattle.fm_mean.specs.Referring.{names_in}
use Rattle.fm_gen_relation.specs.Sound.{IsSoundUnit}
use Rattle.fm_gen_relation.specs.Standing.{Slots, IsResultOf, values_in}
use Rattle.fm_gen_relation.specs.Operands.{MeanBack, BacksStand, code_back}
use Rattle.fm_gen_relation.specs.Formals.{ports_of}
use Rattle.fm_gen_relation.specs.Frames.{AreResults, ResultsFit, IsResultBy, IsResultAt, evaluates, IsReferred, Where, BelowStand}
use Rattle.fm_gen_relation.specs.Laws.{given_words, GivesAlike}
use Rattle.fm_gen_relation.proofs.Giving.{gives_alike}
use Rattle.fm_gen_relation.proofs.Held.{held_alike, started_alike}
use Rattle.fm_gen.specs.Entries.{statement_address}
use Rattle.fm_gen.specs.Units.{unit_of_code}
use Rattle.fm_gen.specs.Programs.{code_of}
use Rattle.fm_gen.specs.Steps.{ReturnsAlike, ResultsAlike}
use Rattle.fm_gen.specs.Kept.{site_at}
use Rattle.fm_gen.specs.Bodies.{StandsFor, DoesAlike}
use Rattle.fm_gen.proofs.StandLaws.{unit_found, evaluates_by, backs_of_units, same_below, stands_after}

-- One result more.

the_tree : (t u : Tree) → Some t ≡ Some u → t ≡ u
the_tree t u e = cc

the_word : (v w : ℤ) → Some v ≡ Some w → v ≡ w
the_word v w e = cc

before_last : (xs : List ℤ) (x y : ℤ) (i : ℕ) → i < length xs → slice_get (xs ++ x ∷ []) i ≡ Some y → slice_get xs i ≡ Some y
before_last [] x y i less at = absurd (omega (arith, less))
before_last (z ∷ xs) x y zero less at = at
before_last (z ∷ xs) x y (suc i) less at = before_last xs x y i (omega (arith, less)) at

at_last : (xs : List ℤ) (x y : ℤ) (i : ℕ) → length xs ≤ i → slice_get (xs ++ x ∷ []) i ≡ Some y → (i ≡ length xs) × (x ≡ y)
at_last [] x y zero le at = (refl, the_word x y at)
at_last [] x y (suc i) le at = absurd (cc)
at_last (z ∷ xs) x y zero le at = absurd (omega (arith, le))
at_last (z ∷ xs) x y (suc i) le at = let rest = at_last xs x y i (omega (arith, le)) at in (ap suc rest.0, rest.1)

-- the result of the reference that comes next
pub one_result : (p : Program) (u : ProgramUnit) (e : Entry) (results : List ℤ) (t : Tree) (w : ℤ) → AreResults p u e results → next_reference e (length results) ≡ Some t → IsResultAt p u t w → AreResults p u e (results ++ w ∷ [])
one_result p u e results t w h next fits i q v there at = ⊎_elim
    (λ (l : i < length results). h i q v there (before_last results w v i l at))
    (λ (l : length results ≤ i).
    let last = at_last results w v i l at in
    let same : t ≡ q = the_tree t q (sym next ∙ ap (next_reference e) (sym last.0) ∙ there) in
    subst (λ z. IsResultAt p u q z) last.1 (subst (λ z. IsResultAt p u z w) same fits))
    (cases_lt i (length results))

the_unit : (u v : ProgramUnit) → Some u ≡ Some v → u ≡ v
the_unit u v e = cc

the_point : (d e : Point) → Some d ≡ Some e → d ≡ e
the_point d e h = cc

module _ (p : Program) (slots : Slots) where
  -- a FUNCTION's result is one of the reference to it
  result_fits : (f g : mean.Frame) (u v : ProgramUnit) (w : ℤ) → unit_at p f.unit ≡ Some u → unit_at p g.unit ≡ Some v → IsResultOf (result_variable u) w
      → IsReferred p f g → ResultsFit p v (point_at v g.entry) g.results → ResultsFit p v (point_at v g.entry) (g.results ++ w ∷ [])
  result_fits f g u v w here there fits r results =
      let same : r.unit ≡ v = the_unit r.unit v (sym r.there ∙ there) in
      let at : point_at v g.entry ≡ Some r.point = subst (λ z. point_at z g.entry ≡ Some r.point) same r.at in
      let callee : u ≡ r.callee = the_unit u r.callee (sym here ∙ named_at p r.name f.unit r.callee (reference_is (names_in p r.unit) r.name f.unit r.callee r.means)) in
      let means : reference_of (names_in p v) r.name ≡ Call f.unit u = subst (λ z. reference_of (names_in p z) r.name ≡ Call f.unit u) same (r.means ∙ ap (Call f.unit) (sym callee)) in
      subst (λ o. ResultsFit p v o (g.results ++ w ∷ [])) (sym at)
      (one_result p v r.point.entry g.results (Ref r.name r.arguments) w (subst (λ o. ResultsFit p v o g.results) at results) r.next (subst (λ z. IsResultBy z w) (sym means) fits))

module _ (p : Program) (slots : Slots) (x : Proc) (b : Body) (s : StandsFor p (code_of p) slots x b) (running : x.phase ≡ Running) (e : Point) (sound : (number : ℕ) (u : ProgramUnit) → unit_at p number ≡ Some u → IsSoundUnit u) where
  abbrev here : ProgramUnit
  here = s.first.unit

  own_unit : code_actions.unit_at b b.frame.unit ≡ Some (unit_of_code p s.first.unit)
  own_unit = ap (code_actions.unit_at b) s.first.number ∙ unit_found p b s.loaded s.frame.unit s.first.unit s.first.there

  -- what a frame with these words still holds, and its starts
  left_alike : (ws : List ℤ) → map slots (left_ports b ws) ≡ map slots (ports_in (ports_of here.names.variables) ws) ++ started_ports s.frame.starts
  left_alike ws =
      ap (λ o. map slots (ports_in (code_actions.ports_of o) ws ++ start_ports b b.frame.starts)) own_unit
      ∙ map-append slots (ports_in (ports_of here.names.variables) ws) (start_ports b b.frame.starts)
      ∙ ap (λ l. map slots (ports_in (ports_of here.names.variables) ws) ++ l)
      (started_alike p slots b (λ n u there. ap code_actions.ports_of (unit_found p b s.loaded n u there)) here.names.variables s.frame.starts b.frame.starts s.first.starts)

  module _ (g : mean.Frame) (fs : List mean.Frame) (c : Frame) (ns : List Frame) (below : BelowStand p (statement_address p) slots s.frame b.frame (g ∷ fs) (c ∷ ns)) where
    abbrev unit : ProgramUnit
    unit = below.0.unit

    -- A SUBROUTINE.

    abbrev bs : List MeanBack
    bs = s.frame.backs

    abbrev cs : List Back
    cs = map (code_back unit.names.variables here.names.variables) bs

    backs : BacksStand unit.names.variables here.names.variables bs b.frame.backs
    backs = backs_of_units p g.unit s.frame.unit below.0.unit s.first.unit below.0.there s.first.there s.frame.backs b.frame.backs below.1

    gives : GivesAlike slots below.0.unit s.first.unit c.words b.frame.words s.frame.backs
    gives =
        gives_alike slots below.0.unit s.first.unit c.words b.frame.words s.frame.backs (sound g.unit below.0.unit below.0.there) (sound s.frame.unit s.first.unit s.first.there)
        below.0.stands.sized s.first.stands.sized backs.whole

    abbrev words : Given
    words = given_words below.0.unit s.first.unit c.words b.frame.words s.frame.backs

    abbrev values : Returned
    values = returned g.values s.frame.values s.frame.backs

    abbrev code_caller : Frame
    code_caller = record c { words = words.mine }

    abbrev caller : mean.Frame
    caller = record g { values = values.mine }

    -- by what goes back
    abbrev code_gives_by : List Back → Action
    code_gives_by bk =
        let r = give_all bk (record { mine = c.words; theirs = b.frame.words; drops = [] }) in
        cond (backs_fit (length c.words) (length b.frame.words) bk) (Own (record b { frame = record c { words = r.mine }; below = ns }) [] (r.drops ++ left_ports b r.theirs) (1 + back_words bk)) Stuck

    abbrev code_gave : Action
    code_gave = Own (record b { frame = code_caller; below = ns }) [] (words.drops ++ left_ports b words.theirs) (1 + back_words cs)

    code_gives : code_actions.gives_back b (c ∷ ns) ≡ code_gave
    code_gives = ap code_gives_by backs.same ∙ ap (λ t. cond t code_gave Stuck) gives.fit

    mine_stand : values.mine ≡ values_in slots unit.names.variables words.mine
    mine_stand = (λ i. (returned (below.0.stands.values i) (s.first.stands.values i) s.frame.backs).mine) ∙ gives.stand

    drops_alike : values.drops ++ started_ports s.frame.starts ≡ map slots (words.drops ++ left_ports b words.theirs)
    drops_alike =
        let held = ports_in (ports_of here.names.variables) words.theirs in
        ap (λ l. l ++ started_ports s.frame.starts) ((λ i. (returned (below.0.stands.values i) (s.first.stands.values i) s.frame.backs).drops) ∙ gives.drops ∙ map-append slots words.drops held)
        ∙ append_assoc (map slots words.drops) (map slots held) (started_ports s.frame.starts)
        ∙ ap (λ l. map slots words.drops ++ l) (sym (left_alike words.theirs))
        ∙ sym (map-append slots words.drops (left_ports b words.theirs))

    pub gives_below : evaluates p s.frame ≡ false → DoesAlike p (code_of p) slots x b s e (code_actions.gives_back b (c ∷ ns)) (mean_actions.gives_back x.execution s.frame (g ∷ fs))
    gives_below evaluated = subst (λ t. DoesAlike p (code_of p) slots x b s e t (mean_actions.gives_back x.execution s.frame (g ∷ fs))) (sym code_gives) (record {
      execution = framed x.execution (caller ∷ fs);
      does = λ i. mean_actions.Own (framed x.execution (caller ∷ fs)) [] (drops_alike i) (1 + gives.cost i);
      stands = stands_after p (code_of p) slots x b s running caller fs code_caller ns [] (record {
        unit = below.0.unit;
        there = below.0.there;
        number = below.0.number;
        address = below.0.address ∙ ap (λ z. statement_address p below.0.unit g.entry (cond z (suc (length g.results)) (length g.results))) evaluated;
        stands = record { values = mine_stand; sized = gives.count ∙ below.0.stands.sized; results = below.0.stands.results; loops = below.0.stands.loops };
        results = below.0.results;
        starts = below.0.starts;
      }) (same_below p slots g caller c code_caller refl refl refl fs ns below.3);
    })

    -- A FUNCTION.

    more : (w : ℤ) → suc (length g.results) ≡ length (g.results ++ w ∷ [])
    more w = omega (arith, length-append g.results (w ∷ []))

    held_here : frame_ports s.frame ≡ map slots (left_ports b b.frame.words)
    held_here =
        ap (λ l. l ++ started_ports s.frame.starts) (ap message_ports s.first.stands.values ∙ sym (held_alike slots here.names.variables b.frame.words))
        ∙ sym (left_alike b.frame.words)

    pub results_below : (w : ℤ) → evaluates p s.frame ≡ true → w ≡ word_at s.frame.values (scalar_place (result_variable s.first.unit)) → IsResultOf (result_variable s.first.unit) w
        → DoesAlike p (code_of p) slots x b s e (code_actions.results_in b w (c ∷ ns)) (mean_actions.results_in x.execution s.first.unit s.frame (g ∷ fs))
    results_below w evaluated result typed = record {
      execution = framed x.execution (with_result ∷ fs);
      does = λ i. mean_actions.Own (framed x.execution (record g { results = g.results ++ sym result i ∷ [] } ∷ fs)) [] (held_here i) 1;
      stands = stands_after p (code_of p) slots x b s running with_result fs code_result ns [] (record {
        unit = below.0.unit;
        there = below.0.there;
        number = below.0.number;
        address =
            below.0.address
            ∙ ap (λ z. statement_address p below.0.unit g.entry (cond z (suc (length g.results)) (length g.results))) evaluated
            ∙ ap (statement_address p below.0.unit g.entry) (more w);
        stands = record { values = below.0.stands.values; sized = below.0.stands.sized; results = ap (λ l. l ++ w ∷ []) below.0.stands.results; loops = below.0.stands.loops };
        results = result_fits p slots s.frame g s.first.unit below.0.unit w s.first.there below.0.there typed (subst (λ z. Where z (IsReferred p s.frame g)) evaluated below.2) below.0.results;
        starts = below.0.starts;
      }) (same_below p slots g with_result c code_result refl refl refl fs ns below.3);
    }
      where
        with_result : mean.Frame
        with_result = record g { results = g.results ++ w ∷ [] }

        code_result : Frame
        code_result = record c { results = c.results ++ w ∷ [] }

  -- the frame of a process alone has nothing below it, and ends
  gives_to : (fs : List mean.Frame) (ns : List Frame) → BelowStand p (statement_address p) slots s.frame b.frame fs ns → evaluates p s.frame ≡ false
      → DoesAlike p (code_of p) slots x b s e (code_actions.gives_back b ns) (mean_actions.gives_back x.execution s.frame fs)
  gives_to [] [] below evaluated = refl
  gives_to [] (c ∷ ns) below evaluated = absurd below
  gives_to (g ∷ fs) [] below evaluated = absurd below
  gives_to (g ∷ fs) (c ∷ ns) below evaluated = gives_below g fs c ns below evaluated

  results_to : (fs : List mean.Frame) (ns : List Frame) → BelowStand p (statement_address p) slots s.frame b.frame fs ns → (w : ℤ) → evaluates p s.frame ≡ true
      → w ≡ word_at s.frame.values (scalar_place (result_variable s.first.unit)) → IsResultOf (result_variable s.first.unit) w
      → DoesAlike p (code_of p) slots x b s e (code_actions.results_in b w ns) (mean_actions.results_in x.execution s.first.unit s.frame fs)
  results_to [] [] below w evaluated result typed = refl
  results_to [] (c ∷ ns) below w evaluated result typed = absurd below
  results_to (g ∷ fs) [] below w evaluated result typed = absurd below
  results_to (g ∷ fs) (c ∷ ns) below w evaluated result typed = results_below g fs c ns below w evaluated result typed

  pub returns_alike : (a : mean_actions.Action) → ReturnsAlike (site_at p s.first.unit slots x.execution e s.frame s.below b.frame) a → DoesAlike p (code_of p) slots x b s e (code_actions.gives_back b b.below) a
  returns_alike a h =
      subst (DoesAlike p (code_of p) slots x b s e (code_actions.gives_back b b.below)) (sym h.does)
      (gives_to s.below b.below s.others (evaluates_by p s.frame.unit s.first.unit s.first.there false (ap is_function h.kind)))

  pub results_alike : (w : ℤ) (a : mean_actions.Action) → ResultsAlike (site_at p s.first.unit slots x.execution e s.frame s.below b.frame) w a → DoesAlike p (code_of p) slots x b s e (code_actions.results_in b w b.below) a
  results_alike w a h =
      subst (DoesAlike p (code_of p) slots x b s e (code_actions.results_in b w b.below)) (sym h.does)
      (results_to s.below b.below s.others w (evaluates_by p s.frame.unit s.first.unit s.first.there true (ap is_function h.kind)) h.result h.typed)
