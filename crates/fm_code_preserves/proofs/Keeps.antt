-- A statement that concerns the body alone keeps its frames as their kinds tell, and loses no port word.
use Rattle.std.proofs.Common.{◌≡◌, ℕ, suc, ◌+◌, ◌≤◌, ◌<◌, ℤ, pos, Bool, true, false, cond, Option, Some, None, List, [], ◌∷◌, ◌++◌, length, set, get_or, slice_get, Result, Ok, Err, refl, sym, ap, subst, ◌∙◌, arith, length-append}
use Rattle.std.specs.List.{AllByRecursion, flat_map}
use Rattle.std.proofs.lemmas.Grind.{flat_map-append}
use Rattle.std.proofs.lemmas.List.{length-replicate, length-set}
use Rattle.fm_base.specs.declared.fault.Fault.{Fault}
use Rattle.fm_base.specs.declared.output.Printed.{Printed}
use Rattle.fm_map.specs.Placement.{Seat}
use Rattle.fm_code.specs.declared.ask.Ask.{Ask}
use Rattle.fm_code.specs.declared.ask.Operand.{Operand}
use Rattle.fm_code.specs.declared.body.Back.{Back}
use Rattle.fm_code.specs.declared.body.Body.{Body}
use Rattle.fm_code.specs.declared.body.Frame.{Frame}
use Rattle.fm_code.specs.declared.body.Start.{Start}
use Rattle.fm_code.specs.declared.body.Trips.{Trips}
use Rattle.fm_code.specs.declared.code.Code.{Code}
use Rattle.fm_code.specs.declared.code.Unit as code_unit
use Rattle.fm_code.specs.declared.instr.Instr.{Instr}
use Rattle.fm_code.specs.declared.scratch.Place.{Place}
use Rattle.fm_code.specs.Acts.{StatementEnd, statement}
use Rattle.fm_code.specs.Acts as acts
use Rattle.fm_code.specs.Passing.{back_words, backs_fit, live, nulls, ports_in}
use Rattle.fm_code.specs.Statements as code
use Rattle.fm_code.specs.Statements.{Action, CodeUnit, action_by, action_of, at_statement, calls, code_in, entered, fitted_in, given, gives_back, is_passed, is_stuck, left_ports, moved, new_frame, opened, pended, ports_of, refers, results_in, seat_of, start_ports, starts, starts_at, statement_end_of, unit_at, with_frame, word_at}
use Rattle.fm_code_kinds.specs.declared.sorts.Cell.{Cell}
use Rattle.fm_code_kinds.specs.declared.sorts.Shape.{Shape}
use Rattle.fm_code_kinds.specs.declared.sorts.Shapes.{Shapes}
use Rattle.fm_code_kinds.specs.Bodies.{GivesBack, IsUnit, coded}
use Rattle.fm_code_kinds.specs.Effects.{cells_of, heading_of}
use Rattle.fm_code_kinds.specs.Fitting.{Fitted}
use Rattle.fm_code_kinds.specs.Kinded.{IsAt, Kinded, results}
use Rattle.fm_code_kinds.specs.Shapes.{is_function, words_of}
use Rattle.fm_code_kinds.proofs.NotStuck.{not_stuck}
use Rattle.fm_code_kinds.proofs.Places.{AreInside}
use Rattle.fm_code_preserves.specs.Rooms.{BacksFit, IsLaidUnit, cells_at, is_port_word}
use Rattle.fm_code_preserves.specs.Standing.{BelowStand, BodyStands, HasWords, IsStanding, StartFits, owed_by}
use Rattle.fm_code_preserves.specs.Endings.{AsksFine, Begins, EndsFine, HasValues, IsPortWord}
use Rattle.fm_code_preserves.specs.Weights.{IsParted, body_ports, heavy, masked, weight}
use Rattle.fm_code_preserves.proofs.Masks.{live_weighs, masked_set, masked_small, nulls_weigh, weight-append}
use Rattle.fm_code_preserves.proofs.Sorted.{frame_weighs}
use Rattle.fm_code_preserves.proofs.Passing.{GoesOver, all_more, passed_over}
use Rattle.fm_code_preserves.proofs.Giving.{GivesOver, backs_found, given_over}
use Rattle.fm_code_preserves.proofs.Statements.{cells_are, frame_leads}

-- ---- port words of frames, by the code alone

abbrev pub starts_in : Code → List Start → List ℤ
starts_in code = flat_map (λ (s : Start). ports_in (ports_of (slice_get code.units s.unit)) s.words)

abbrev pub frame_in : Code → Frame → List ℤ
frame_in code m = ports_in (ports_of (slice_get code.units m.unit)) m.words ++ starts_in code m.starts

abbrev pub frames_in : Code → List Frame → List ℤ
frames_in code = flat_map (frame_in code)

body_in : (b : Body) → body_ports b ≡ frame_in b.code b.frame ++ frames_in b.code b.below
body_in b = refl

-- ---- frames

module _ (ss : Shapes) (code : Code) where
  -- what is below stands as well below another frame of the unit that gives the same back
  pub below_same : (m n : Frame) → n.unit ≡ m.unit → n.backs ≡ m.backs → (below : List Frame) → BelowStand ss code m below → BelowStand ss code n below
  below_same m n unit backs [] h = tt
  below_same m n unit backs (c ∷ below) h = (
    subst (λ (k : ℕ). IsStanding ss code (owed_by ss k) c) (sym unit) h.0,
    h.1,
    subst (λ (bs : List Back). BacksFit (cells_at ss c.unit) (cells_at ss n.unit) bs) (sym backs) (subst (λ (k : ℕ). BacksFit (cells_at ss c.unit) (cells_at ss k) m.backs) (sym unit) h.2),
    h.3,
  )

  -- a frame of the same unit at another statement
  pub standing_at : (owed : ℕ) (m : Frame) (stands : IsStanding ss code owed m) (n : Frame) → n.unit ≡ m.unit → length n.loops ≡ length m.loops → (to : ℕ) → n.address ≡ to → Begins (coded stands.own) stands.lists to → (owes : ℕ) → IsStanding ss code owes n
  standing_at owed m stands n unit loops to address begins owes = record {
    unit = stands.unit;
    there = ap (slice_get ss.units) unit ∙ stands.there;
    own = stands.own;
    own_there = ap (slice_get code.units) unit ∙ stands.own_there;
    lists = stands.lists;
    kinds = stands.kinds;
    done = 0;
    inside = subst (λ (k : ℕ). k < length stands.own.code) (sym address) begins.inside;
    list = ap stands.lists address ∙ begins.list;
    enough = omega arith;
    counts = omega (arith, stands.counts, loops);
  }

  -- with other words of the same number
  pub words_of_frame : (m n : Frame) → HasWords ss m → n.unit ≡ m.unit → length n.words ≡ length m.words → n.starts ≡ m.starts → HasWords ss n
  words_of_frame m n has unit count starts = record {
    unit = has.unit;
    there = ap (slice_get ss.units) unit ∙ has.there;
    words = count ∙ has.words ∙ ap (λ k. words_of (cells_at ss k)) (sym unit);
    starts = subst (λ (k : ℕ). AllByRecursion (StartFits ss k) n.starts) (sym unit) (subst (AllByRecursion (StartFits ss m.unit)) (sym starts) has.starts);
  }

-- ---- bodies

module _ (ss : Shapes) (b : Body) (stands : BodyStands ss b) where
  abbrev m : Frame
  m = b.frame

  abbrev u : Shape
  u = stands.frame.unit

  abbrev mask : ℕ → Bool
  mask = is_port_word (cells_at ss m.unit)

  cells : cells_at ss m.unit ≡ u.cells
  cells = cells_are ss b.code stands.code m stands.frame stands.words

  inside : AreInside (words_of u.cells) u.cells
  inside = stands.code.typed.within m.unit u stands.frame.there

  -- what a frame's port words weigh
  pub frame_parts : (n : Frame) → HasWords ss n → (g : ℤ → ℕ) → weight g (frame_in b.code n) ≡ masked (is_port_word (cells_at ss n.unit)) g 0 n.words + weight g (starts_in b.code n.starts)
  frame_parts n has g =
      weight-append g (ports_in (ports_of (slice_get b.code.units n.unit)) n.words) (starts_in b.code n.starts)
      ∙ ap (λ k. k + weight g (starts_in b.code n.starts)) (frame_weighs ss b stands.code n.unit has.unit has.there n.words has.words g)

  abbrev Kept : Action → Type 0
  Kept code.Stuck = Unit {0}
  Kept (code.Own after lines drops cost) = BodyStands ss after × IsParted (body_ports b) (body_ports after) drops
  Kept (code.Meets k) = AsksFine u (coded stands.frame.own) stands.frame.lists m k

  kept_if : (t : Bool) (a : Action) → Kept a → Kept (cond t a code.Stuck)
  kept_if true a h = h
  kept_if false a h = tt

  -- one frame gives way to another of its unit
  pub frame_kept : (n : Frame) (drops : List ℤ) (to : ℕ) → n.unit ≡ m.unit → n.backs ≡ m.backs → length n.loops ≡ length m.loops → n.address ≡ to → Begins (coded stands.frame.own) stands.frame.lists to → HasWords ss n
      → ((g : ℤ → ℕ) → weight g (frame_in b.code m) ≡ weight g (frame_in b.code n) + weight g drops)
      → BodyStands ss (with_frame b n) × IsParted (body_ports b) (body_ports (with_frame b n)) drops
  frame_kept n drops to unit backs loops address begins has weighs = (
    record {
      code = stands.code;
      frame = standing_at ss b.code 0 m stands.frame n unit loops to address begins 0;
      words = has;
      below = below_same ss b.code m n unit backs b.below stands.below;
    },
    λ g. omega (
      arith,
      weight-append g (frame_in b.code m) (frames_in b.code b.below),
      weight-append g (frame_in b.code n) (frames_in b.code b.below),
      weighs g,
    ),
  )

  nothing_weighs : (g : ℤ → ℕ) → weight g [] ≡ 0
  nothing_weighs g = refl

  pub mine_parts : (n : Frame) → HasWords ss n → n.unit ≡ m.unit → (g : ℤ → ℕ) → weight g (frame_in b.code n) ≡ masked mask g 0 n.words + weight g (starts_in b.code n.starts)
  mine_parts n has unit g = frame_parts n has g ∙ ap (λ k. masked (is_port_word (cells_at ss k)) g 0 n.words + weight g (starts_in b.code n.starts)) unit

  goes_kept : (to : ℕ) (n : Frame) → HasValues u.cells m n → Begins (coded stands.frame.own) stands.frame.lists to → Kept (action_by b (acts.Goes to n))
  goes_kept to n has begins =
      let after : Frame = at_statement n to in
      let words : HasWords ss after = words_of_frame ss b.code m after stands.words has.unit has.count has.starts in
      frame_kept after [] to has.unit has.backs has.loops refl begins words
      (λ g. omega (
        arith,
        frame_parts m stands.words g,
        mine_parts after words has.unit g,
        ap (λ (s : List Start). weight g (starts_in b.code s)) has.starts,
        has.weighs g,
        ap (λ (cs : List Cell). masked (is_port_word cs) g 0 n.words) cells,
        ap (λ (cs : List Cell). masked (is_port_word cs) g 0 m.words) cells,
      ))

  prints_kept : (to : ℕ) (line : List Printed) → Begins (coded stands.frame.own) stands.frame.lists to → Kept (action_by b (acts.Prints to line))
  prints_kept to line begins =
      let after : Frame = at_statement m to in
      let words : HasWords ss after = words_of_frame ss b.code m after stands.words refl refl refl in
      frame_kept after [] to refl refl refl refl begins words (λ g. omega (arith, frame_parts m stands.words g, mine_parts after words refl g))

  -- ---- ports

  abbrev port_at : ℕ → Type 0
  port_at k = IsPortWord u.cells m k

  mask_on : (k : ℕ) → port_at k → mask (0 + k) ≡ true
  mask_on k p =
      let e : 0 + k ≡ k = omega arith in
      ap mask e ∙ ap (λ (cs : List Cell). is_port_word cs k) cells ∙ p.port

  set_port : (ws : List ℤ) (k : ℕ) (v : ℤ) → k < length ws → port_at k → (g : ℤ → ℕ) → masked mask g 0 (set ws k v) + heavy g (get_or ws k (pos 0)) ≡ masked mask g 0 ws + heavy g v
  set_port ws k v low p g =
      omega (
        arith,
        masked_set mask g 0 ws k v low,
        ap (λ (b : Bool). cond b (heavy g v) 0) (mask_on k p),
        ap (λ (b : Bool). cond b (heavy g (get_or ws k (pos 0))) 0) (mask_on k p),
      )

  closes_kept : (k to : ℕ) → port_at k → Begins (coded stands.frame.own) stands.frame.lists to → Kept (action_by b (acts.Closes k to))
  closes_kept k to p begins =
      let after : Frame = at_statement (record m { words = set m.words k (pos 0) }) to in
      let words : HasWords ss after = words_of_frame ss b.code m after stands.words refl (length-set m.words k (pos 0)) refl in
      frame_kept after (live (word_at m.words k ∷ [])) to refl refl refl refl begins words
      (λ g. omega (
        arith,
        frame_parts m stands.words g,
        mine_parts after words refl g,
        set_port m.words k (pos 0) p.inside p g,
        live_weighs g (word_at m.words k ∷ []),
        null_weight g,
      ))
    where
      null_weight : (g : ℤ → ℕ) → heavy g (pos 0) ≡ 0
      null_weight g = refl

  moves_kept : (from into to : ℕ) → port_at from → port_at into → Begins (coded stands.frame.own) stands.frame.lists to → Kept (action_by b (acts.Moves from into to))
  moves_kept from into to p q begins =
      let after : Frame = at_statement (record m { words = moved m.words from into }) to in
      let cleared = set m.words from (pos 0) in
      let count : length (moved m.words from into) ≡ length m.words = length-set cleared into (word_at m.words from) ∙ length-set m.words from (pos 0) in
      let words : HasWords ss after = words_of_frame ss b.code m after stands.words refl count refl in
      frame_kept after (live (word_at cleared into ∷ [])) to refl refl refl refl begins words
      (λ g. omega (
        arith,
        frame_parts m stands.words g,
        mine_parts after words refl g,
        set_port m.words from (pos 0) p.inside p g,
        set_port cleared into (word_at m.words from) (omega (arith, q.inside, length-set m.words from (pos 0))) q g,
        live_weighs g (word_at cleared into ∷ []),
        null_weight g,
      ))
    where
      null_weight : (g : ℤ → ℕ) → heavy g (pos 0) ≡ 0
      null_weight g = refl

  -- ---- calls

  module _ (n : ℕ) (os : List Operand) (f : Fitted ss u n os) where
    callee : (c : code_unit.Unit) × (slice_get b.code.units n ≡ Some c) × IsUnit f.callee c
    callee = stands.code.typed.unit n f.callee f.there

    laid : IsLaidUnit f.callee callee.0
    laid = stands.code.units n f.callee callee.0 f.there callee.1

    their_cells : cells_at ss n ≡ f.callee.cells
    their_cells = ap cells_of f.there

    over : GoesOver (cells_at ss m.unit) (cells_at ss n) (record { mine = m.words; theirs = nulls callee.0.words; backs = [] }) (entered callee.0 b os)
    over =
        let here = passed_over u.cells f.callee.cells inside (stands.code.typed.within n f.callee f.there) laid.laid callee.0.formals f.passed os callee.2.formals f.fit f.all
        m.words callee.0.words (stands.words.words ∙ ap words_of cells) callee.2.words in
        subst (λ (cs : List Cell). GoesOver cs (cells_at ss n) (record { mine = m.words; theirs = nulls callee.0.words; backs = [] }) (entered callee.0 b os)) (sym cells)
        (subst (λ (cs : List Cell). GoesOver u.cells cs (record { mine = m.words; theirs = nulls callee.0.words; backs = [] }) (entered callee.0 b os)) (sym their_cells) here)

    mine_count : length (entered callee.0 b os).mine ≡ length m.words
    mine_count = over.so.mine_count ∙ sym stands.words.words

    kinds : Kinded ss f.callee (coded callee.0)
    kinds = stands.code.typed.kinds n f.callee callee.0 f.there callee.1

    -- what went over, and what stays
    weighs : (g : ℤ → ℕ) → masked mask g 0 (entered callee.0 b os).mine + masked (is_port_word (cells_at ss n)) g 0 (entered callee.0 b os).theirs ≡ masked mask g 0 m.words
    weighs g = omega (arith, over.weighs g, masked_small (is_port_word (cells_at ss n)) g 0 (nulls callee.0.words), nulls_weigh g callee.0.words)

    new_stands : (ws : List ℤ) (backs : List Back) → IsStanding ss b.code 0 (new_frame n callee.0 ws backs)
    new_stands ws backs = record {
      unit = f.callee;
      there = f.there;
      own = callee.0;
      own_there = callee.1;
      lists = kinds.0;
      kinds = kinds.1;
      done = 0;
      inside = omega (arith, laid.begins);
      list = kinds.1.first;
      enough = omega arith;
      counts = omega (arith, length-replicate callee.0.loops no_trips);
    }
      where
        no_trips : Option Trips
        no_trips = None

    new_words : (ws : List ℤ) (backs : List Back) → length ws ≡ words_of (cells_at ss n) → HasWords ss (new_frame n callee.0 ws backs)
    new_words ws backs count = record { unit = f.callee; there = f.there; words = count; starts = tt }

    -- a frame is opened on the caller
    opened_kept : (caller : Frame) (backs : List Back) → caller.unit ≡ m.unit → caller.backs ≡ m.backs → caller.starts ≡ m.starts → caller.words ≡ (entered callee.0 b os).mine → IsStanding ss b.code (owed_by ss n) caller → BacksFit (cells_at ss m.unit) (cells_at ss n) backs
        → BodyStands ss (opened n callee.0 b caller (entered callee.0 b os).theirs backs) × IsParted (body_ports b) (body_ports (opened n callee.0 b caller (entered callee.0 b os).theirs backs)) []
    opened_kept caller backs unit given_back begun words is fit =
        let e = entered callee.0 b os in
        let has : HasWords ss caller = words_of_frame ss b.code m caller stands.words unit (ap length words ∙ mine_count) begun in
        let new = new_frame n callee.0 e.theirs backs in
        let theirs = new_words e.theirs backs over.so.theirs_count in (
          record {
            code = stands.code;
            frame = new_stands e.theirs backs;
            words = theirs;
            below = (is, has, subst (λ (k : ℕ). BacksFit (cells_at ss k) (cells_at ss n) backs) (sym unit) fit, below_same ss b.code m caller unit given_back b.below stands.below);
          },
          λ g. omega (
            arith,
            weight-append g (frame_in b.code m) (frames_in b.code b.below),
            weight-append g (frame_in b.code new) (frame_in b.code caller ++ frames_in b.code b.below),
            weight-append g (frame_in b.code caller) (frames_in b.code b.below),
            frame_parts m stands.words g,
            frame_parts new theirs g,
            mine_parts caller has unit g,
            ap (λ (s : List Start). weight g (starts_in b.code s)) begun,
            ap (λ (ws : List ℤ). masked mask g 0 ws) words,
            weighs g,
          ),
        )

    calls_kept : (to : ℕ) → Begins (coded stands.frame.own) stands.frame.lists to → Kept (calls n (unit_at b n) b to os)
    calls_kept to begins =
        let e = entered callee.0 b os in
        let caller : Frame = at_statement (record m { words = e.mine }) to in
        subst (λ (o : Option CodeUnit). Kept (calls n o b to os)) (sym callee.1)
        (kept_if (is_passed callee.0 b os) (code.Own (opened n callee.0 b caller e.theirs e.backs) [] [] (1 + callee.0.words))
        (opened_kept caller e.backs refl refl refl refl (standing_at ss b.code 0 m stands.frame caller refl refl to refl begins (owed_by ss n)) over.so.backs))

    starts_kept : (to : ℕ) (place : Place) → Begins (coded stands.frame.own) stands.frame.lists to → Kept (starts n (unit_at b n) b to os place)
    starts_kept to place begins = subst (λ (o : Option CodeUnit). Kept (starts n o b to os place)) (sym callee.1) (go (fitted_in callee.0 (seat_of b place)))
      where
        go : (r : Result Seat Fault) → Kept (starts_at n callee.0 b to os r)
        go (Err fault) = tt
        go (Ok seat) =
            let e = entered callee.0 b os in
            let start : Start = record { unit = n; words = e.theirs; backs = e.backs; machine = seat.0; node = seat.1 } in
            let after : Frame = at_statement (record m { words = e.mine; starts = m.starts ++ start ∷ [] }) to in
            let fits : StartFits ss m.unit start = record { unit = f.callee; there = f.there; words = over.so.theirs_count; backs = over.so.backs } in
            let has : HasWords ss after = record {
              unit = stands.words.unit;
              there = stands.words.there;
              words = over.so.mine_count;
              starts = all_more (StartFits ss m.unit) m.starts (start ∷ []) stands.words.starts (fits, tt);
            } in
            kept_if (is_passed callee.0 b os) (code.Own (pended n callee.0 b to e seat) [] [] (1 + callee.0.words))
            (frame_kept after [] to refl refl refl refl begins has
            (λ g. omega (
              arith,
              frame_parts m stands.words g,
              mine_parts after has refl g,
              weighs g,
              ap (weight g) (flat_map-append (λ (s : Start). ports_in (ports_of (slice_get b.code.units s.unit)) s.words) m.starts (start ∷ [])),
              weight-append g (starts_in b.code m.starts) (starts_in b.code (start ∷ [])),
              weight-append g (ports_in (ports_of (slice_get b.code.units n)) e.theirs) [],
              frame_weighs ss b stands.code n f.callee f.there e.theirs over.so.theirs_count g,
            )))

    refers_kept : (to : ℕ) → heading_of (slice_get ss.units n) is_function ≡ true → (done : ℕ) → done ≤ length m.results → IsAt stands.frame.own.code stands.frame.lists to (results (suc done)) → Kept (refers n (unit_at b n) b to os)
    refers_kept to function done enough at =
        let e = entered callee.0 b os in
        let caller : Frame = record m { words = e.mine; address = to } in
        let owed : owed_by ss n ≡ 1 = ap (λ (t : Bool). cond t 1 0) function in
        let is : IsStanding ss b.code (owed_by ss n) caller = record {
          unit = u;
          there = stands.frame.there;
          own = stands.frame.own;
          own_there = stands.frame.own_there;
          lists = stands.frame.lists;
          kinds = stands.frame.kinds;
          done = suc done;
          inside = at.inside;
          list = at.list;
          enough = omega (arith, enough, owed);
          counts = stands.frame.counts;
        } in
        subst (λ (o : Option CodeUnit). Kept (refers n o b to os)) (sym callee.1)
        (kept_if (is_passed callee.0 b os) (code.Own (opened n callee.0 b caller e.theirs []) [] [] (1 + callee.0.words))
        (opened_kept caller [] refl refl refl refl is tt))

  -- ---- returns

  returns_kept : is_function u.heading ≡ false → (below : List Frame) → b.below ≡ below → BelowStand ss b.code m below → Kept (gives_back b below)
  returns_kept e [] is h = tt
  returns_kept e (c ∷ below) is h =
      let g = given b c in
      let theirs = stands.words in
      let over : GivesOver (cells_at ss c.unit) (cells_at ss m.unit) (record { mine = c.words; theirs = m.words; drops = [] }) g =
      given_over (cells_at ss c.unit) (cells_at ss m.unit) (inside_at c.unit h.1.unit h.1.there) (inside_at m.unit theirs.unit theirs.there) m.backs h.2 (record { mine = c.words; theirs = m.words; drops = [] })
      (record { mine_count = h.1.words; theirs_count = theirs.words }) in
      let after : Frame = record c { words = g.mine } in
      let has : HasWords ss after = record { unit = h.1.unit; there = h.1.there; words = over.so.mine_count; starts = h.1.starts } in
      let left = ports_in (ports_of (unit_at b m.unit)) g.theirs in
      kept_if (backs_fit (length c.words) (length m.words) m.backs) (code.Own (record b { frame = after; below = below }) [] (g.drops ++ left_ports b g.theirs) (1 + back_words m.backs)) (
        record {
          code = stands.code;
          frame = not_owed c after (owed_none e) h.0 refl refl refl refl;
          words = has;
          below = below_same ss b.code c after refl refl below h.3;
        },
        λ f. omega (
          arith,
          weight-append f (frame_in b.code m) (frames_in b.code b.below),
          ap (λ (ms : List Frame). weight f (frames_in b.code ms)) is,
          weight-append f (frame_in b.code c) (frames_in b.code below),
          weight-append f (frame_in b.code after) (frames_in b.code below),
          frame_parts m theirs f,
          frame_parts c h.1 f,
          frame_parts after has f,
          over.weighs f,
          weight-append f g.drops (left_ports b g.theirs),
          weight-append f left (starts_in b.code m.starts),
          frame_weighs ss b stands.code m.unit theirs.unit theirs.there g.theirs over.so.theirs_count f,
        ),
      )
    where
      inside_at : (n : ℕ) (v : Shape) → slice_get ss.units n ≡ Some v → AreInside (words_of (cells_at ss n)) (cells_at ss n)
      inside_at n v there = subst (λ (cs : List Cell). AreInside (words_of cs) cs) (sym (ap cells_of there)) (stands.code.typed.within n v there)

      owed_none : is_function u.heading ≡ false → owed_by ss m.unit ≡ 0
      owed_none e = ap (λ (o : Option Shape). cond (heading_of o is_function) 1 0) stands.frame.there ∙ ap (λ (t : Bool). cond t 1 0) e

      not_owed : (c n : Frame) → owed_by ss m.unit ≡ 0 → IsStanding ss b.code (owed_by ss m.unit) c → n.unit ≡ c.unit → n.address ≡ c.address → length n.loops ≡ length c.loops → length n.results ≡ length c.results → IsStanding ss b.code 0 n
      not_owed c n none s unit address loops count = record {
        unit = s.unit;
        there = ap (slice_get ss.units) unit ∙ s.there;
        own = s.own;
        own_there = ap (slice_get b.code.units) unit ∙ s.own_there;
        lists = s.lists;
        kinds = s.kinds;
        done = s.done;
        inside = subst (λ (k : ℕ). k < length s.own.code) (sym address) s.inside;
        list = ap s.lists address ∙ s.list;
        enough = omega (arith, s.enough, none, count);
        counts = omega (arith, s.counts, loops);
      }

  results_kept : (v : ℤ) (below : List Frame) → b.below ≡ below → BelowStand ss b.code m below → Kept (results_in b v below)
  results_kept v [] is h = tt
  results_kept v (c ∷ below) is h =
      let after : Frame = record c { results = c.results ++ v ∷ [] } in
      let has : HasWords ss after = record { unit = h.1.unit; there = h.1.there; words = h.1.words; starts = h.1.starts } in
      let s = h.0 in (
        record {
          code = stands.code;
          frame = record {
            unit = s.unit;
            there = s.there;
            own = s.own;
            own_there = s.own_there;
            lists = s.lists;
            kinds = s.kinds;
            done = s.done;
            inside = s.inside;
            list = s.list;
            enough = omega (arith, s.enough, length-append c.results (v ∷ []), one_owed (heading_of (slice_get ss.units m.unit) is_function));
            counts = s.counts;
          };
          words = has;
          below = below_same ss b.code c after refl refl below h.3;
        },
        λ f. omega (
          arith,
          weight-append f (frame_in b.code m) (frames_in b.code b.below),
          ap (λ (ms : List Frame). weight f (frames_in b.code ms)) is,
          weight-append f (frame_in b.code c) (frames_in b.code below),
          weight-append f (frame_in b.code after) (frames_in b.code below),
          frame_parts c h.1 f,
          frame_parts after has f,
        ),
      )
    where
      one_owed : (t : Bool) → cond t 1 0 ≤ 1
      one_owed true = omega arith
      one_owed false = omega arith

  -- ---- each end

  ends_kept : (t : StatementEnd) → EndsFine ss u (coded stands.frame.own) stands.frame.lists m t → Kept (action_by b t)
  ends_kept (acts.Goes to n) f = goes_kept to n f.0 f.1
  ends_kept (acts.Prints to line) f = prints_kept to line f
  ends_kept (acts.Calls n to os) f = calls_kept n os f.0 to f.2
  ends_kept (acts.Refers n to os) f = refers_kept n os f.0 to f.1 f.2.done f.2.enough f.2.at
  ends_kept acts.Returns f = returns_kept f b.below refl stands.below
  ends_kept (acts.ReturnsValue v) f = results_kept v b.below refl stands.below
  ends_kept (acts.Starts n to os place) f = starts_kept n os f.0 to place f.1
  ends_kept (acts.Closes k to) f = closes_kept k to f.0 f.1
  ends_kept (acts.Moves from into to) f = moves_kept from into to f.0 f.1 f.2
  ends_kept (acts.Fails fault) f = tt
  ends_kept (acts.Asks a) f = f
  ends_kept acts.Stuck f = absurd f

  own_code : code_in (unit_at b m.unit) ≡ stands.frame.own.code
  own_code = ap code_in stands.frame.own_there

  pub action_kept : Kept (action_of b)
  action_kept =
      ends_kept (statement_end_of b)
      (subst (λ (is : List Instr). EndsFine ss u (coded stands.frame.own) stands.frame.lists m (statement is m.address m)) (sym own_code) (frame_leads ss b.code stands.code m stands.frame stands.words))

  -- the law of statements
  pub keeps : (after : Body) (lines : List (List ℕ)) (drops : List ℤ) (cost : ℕ) → action_of b ≡ code.Own after lines drops cost → BodyStands ss after × IsParted (body_ports b) (body_ports after) drops
  keeps after lines drops cost e = subst Kept e action_kept

  -- what is asked names words of the frame, and goes on to where a statement begins
  pub asks_fine : (k : Ask) → action_of b ≡ code.Meets k → AsksFine u (coded stands.frame.own) stands.frame.lists m k
  asks_fine k e = subst Kept e action_kept

  gives_back_fits : (below : List Frame) → BelowStand ss b.code m below → GivesBack m below
  gives_back_fits [] h = tt
  gives_back_fits (c ∷ below) h =
      backs_found (cells_at ss c.unit) (cells_at ss m.unit) (inside_at c.unit h.1.unit h.1.there) (inside_at m.unit stands.words.unit stands.words.there) m.backs h.2 (length c.words) (length m.words) h.1.words stands.words.words
    where
      inside_at : (n : ℕ) (v : Shape) → slice_get ss.units n ≡ Some v → AreInside (words_of (cells_at ss n)) (cells_at ss n)
      inside_at n v there = subst (λ (cs : List Cell). AreInside (words_of cs) cs) (sym (ap cells_of there)) (stands.code.typed.within n v there)

  pub never_stuck : is_stuck b ≡ false
  never_stuck = not_stuck ss b (record {
    code = stands.code.typed;
    frame = record {
      unit = u;
      there = stands.frame.there;
      own = stands.frame.own;
      own_there = stands.frame.own_there;
      lists = stands.frame.lists;
      kinds = stands.frame.kinds;
      done = stands.frame.done;
      inside = stands.frame.inside;
      list = stands.frame.list;
      frame = record { words = stands.words.words ∙ ap words_of cells; counts = stands.frame.counts; done = omega (arith, stands.frame.enough) };
    };
    backs = gives_back_fits b.below stands.below;
  })
