-- The references of an entry, and then its statement, are walked through; so is the code of a unit, from its first entry to the
-- last.
use Rattle.std.proofs.Common.{◌≡◌, ℕ, zero, suc, ◌+◌, ◌-◌, ◌<◌, ◌≤◌, true, false, cond, ◌&&◌, ◌==◌, Option, Some, None, List, [], ◌∷◌, ◌++◌, length, map, reverse, refl, sym, ap, subst, ◌∙◌, arith, append_assoc, length-append}
use Rattle.std.specs.Prelude.{slice_get}
use Rattle.std.proofs.lemmas.Bool.{eq-eqb}
use Rattle.std.proofs.lemmas.Option.{slice_get_within}
use Rattle.fm_tree.specs.Tree.{Trees, Ref}
use Rattle.fm_tree.specs.References.{applied_each, applied_in, reference_at}
use Rattle.fm_tree.specs.declared.program_unit.Entry as tree
use Rattle.fm_tree.specs.declared.statement.Stmt.{Stmt}
use Rattle.fm_rules.specs.Links.{marks_of, links_at, links_of}
use Rattle.fm_rules.specs.declared.program.Program.{Program}
use Rattle.fm_mean.specs.Names.{ProgramUnit, Point, unit_at, point_at, kind_of}
use Rattle.fm_mean.specs.Evaluate.{Call, reference_of, refs_in_all}
use Rattle.fm_mean.specs.Referring.{names_in, calls_among}
use Rattle.fm_mean.specs.ValueTypes.{ArgumentsAreOf}
use Rattle.fm_mean.proofs.Points.{point_there}
use Rattle.fm_code.specs.declared.code.Entry.{Entry}
use Rattle.fm_code.specs.declared.instr.End.TheVariants as end
use Rattle.fm_code.specs.declared.instr.Instr.{Instr}
use Rattle.fm_code.specs.declared.instr.Instr.TheVariants as instr
use Rattle.fm_code_kinds.specs.declared.sorts.Cell.{Cell}
use Rattle.fm_code_kinds.specs.declared.sorts.Shape.{Shape}
use Rattle.fm_code_kinds.specs.declared.sorts.Shapes.{Shapes}
use Rattle.fm_code_kinds.specs.Bodies.{coded}
use Rattle.fm_code_kinds.specs.Shapes.{is_function}
use Rattle.fm_code_kinds.specs.Effects.{Effect, Over, Ill, only_results, results_in, operands_on, operands_over, calls_fit, effect}
use Rattle.fm_code_kinds.specs.Kinded.{IsAt, Kinded, results}
use Rattle.fm_code_kinds.specs.Leading.{is_join, JoinsStand}
use Rattle.fm_gen_relation.specs.Sound.{IsSoundUnit, IsFull}
use Rattle.fm_gen_operands.specs.Places.{arguments_code}
use Rattle.fm_gen.specs.Statements.{statement_code, reference_operands, reference_end, refer}
use Rattle.fm_gen.specs.Entries.{reference_code, references_code, references_length, entry_code, entries_code, address_of, unit_code}
use Rattle.fm_gen.specs.Units.{entries_at, loop_count, unit_of_code}
use Rattle.fm_gen.proofs.LineLaws.{addresses_rise}
use Rattle.fm_gen.proofs.ReferenceLaws.{references_same, all_references}
use Rattle.fm_gen.proofs.UnitLaws.{entries_length, standing, entry_there}
use Rattle.fm_object.specs.declared.image.FieldImage.{FieldImage}
use Rattle.fm_compile_law.specs.Counted.{AreCounted}
use Rattle.fm_image.specs.Types.{types_of}
use Rattle.fm_compile_law.specs.Units.{heading_by, shape_by, shapes_of}
use Rattle.fm_compile_law.specs.Walks.{behind, IsNotEmpty, Next, StepsWell, Joined, Steps, Walks, walked}
use Rattle.fm_compile_law.proofs.Straight.{operands_results}
use Rattle.fm_compile_law.proofs.Expressions.{Kinds, cs}
use Rattle.fm_compile_law.proofs.Arguments.{arguments_leave}
use Rattle.fm_compile_law.proofs.Calling.{calls_so}
use Rattle.fm_compile_law.proofs.Joins.{got_behind, first_front, joins_by}
use Rattle.fm_compile_law.proofs.Walks.{some_behind, walks_then, straight_then, walked_end, kinded_by}

not_empty : (is : List Instr) → 0 < length is → IsNotEmpty is
not_empty [] less = absurd (omega (arith, less))
not_empty (i ∷ is) less = λ none. absurd cc

only_all : (j : ℕ) → only_results (results j) ≡ true
only_all zero = refl
only_all (suc j) = only_all j

count_all : (j : ℕ) → results_in (results j) ≡ j
count_all zero = refl
count_all (suc j) = ap suc (count_all j)

-- the start of an entry
pub record IsStart (p : Program) (u : ProgramUnit) (a : ℕ) : Type 0 where
  pub number : ℕ
  pub point : Point
  pub there : point_at u number ≡ Some point
  pub is : a ≡ address_of p u number

-- what is known of the reference at a place, before which so many of its entry stand
pub record IsReference (p : Program) (u : ProgramUnit) (s : Stmt) (j place : ℕ) : Type 0 where
  pub name : List ℕ
  pub arguments : Trees
  pub stands : reference_at s place ≡ Some (Ref name arguments)
  pub unit : ℕ
  pub callee : ProgramUnit
  pub means : reference_of (names_in p u) name ≡ Call unit callee
  pub there : unit_at p unit ≡ Some callee
  pub function : is_function (heading_by (kind_of callee)) ≡ true
  pub before : refs_in_all (names_in p u) arguments ≤ j
  pub counted : AreCounted p u (applied_each arguments)
  pub types : ArgumentsAreOf (names_in p u) callee 1 arguments
  pub full : IsFull callee arguments

module _ (p : Program) (u : ProgramUnit) (sound : IsSoundUnit u) (n : ℕ) where
  abbrev ts : List (List FieldImage)
  ts = types_of p

  abbrev ss : Shapes
  ss = shapes_of p

  abbrev me : Shape
  me = shape_by ts u

  abbrev all : List Cell
  all = cs p u sound ts n

  abbrev pub Good : ℕ → Type 0
  Good a = IsStart p u a

  abbrev pub Goes : ℕ → List Instr → Kinds → Kinds → Type 0
  Goes at is ks ms = Walks Good ss me n at is ks ms

  -- a reference, and what comes behind it
  one_reference : (s : Stmt) (here j r b : ℕ) → IsReference p u s j r → (more : List Instr) (ls : Kinds) → IsNotEmpty more → b ≡ here + length (reference_code p u s here j r) → Goes b more (results (suc j)) ls
      → Goes here (reference_code p u s here j r ++ more) (results j) ls
  one_reference s here j r b h more ls some at w =
      let args = h.arguments in
      let k = j - refs_in_all (names_in p u) args in
      let ops = arguments_code p u args k in
      let next = here + suc (length ops) in
      let last = instr.End (end.Refer h.unit next) in
      let code : reference_code p u s here j r ≡ ops ++ last ∷ [] =
      ap (λ o. reference_operands p u j o ++ reference_end p u o (here + suc (length (reference_operands p u j o))) ∷ []) h.stands ∙ ap (λ x. ops ++ refer x next ∷ []) h.means in
      let x = arguments_leave p u sound ts n args k (results j) (omega (arith, h.before, count_all j)) h.counted in
      let ms = operands_over (reverse x.operands) (results j) in
      let a = here + length ops in
      let fits : calls_fit ss me h.unit is_function (operands_on ms) ≡ true =
      calls_so p u sound n Good h.unit h.callee h.there is_function h.function args x.operands (results j) (only_all j) x.are h.types h.full in
      let step : next ≡ suc a = omega arith in
      let goes : (next == suc a) ≡ true = eq-eqb next (suc a) step in
      let left : suc (results_in ms) ≡ suc j = ap suc (operands_results (reverse x.operands) (results j) ∙ count_all j) in
      let ends : effect ss me n a last ms ≡ Over (next ∷ []) (suc j) =
      (λ i. cond (fits i && (next == suc a)) (Over (next ∷ []) (suc (results_in ms))) Ill)
      ∙ ap (λ c. cond c (Over (next ∷ []) (suc (results_in ms))) Ill) goes
      ∙ ap (λ m. Over (next ∷ []) m) left in
      let long = length-append ops (last ∷ []) in
      let there : b ≡ suc a = omega (arith, at, ap length code, long) in
      subst (λ (c : List Instr). Goes here c (results j) ls) (sym (append_assoc ops (last ∷ []) more) ∙ ap (λ c. c ++ more) (sym code))
      (straight_then Good ss me n here a ops (last ∷ more) (results j) ms ls refl x.leaves (λ none. absurd cc) (
        refl,
        subst (λ (e : Effect). StepsWell Good a more e × Joined last more × Steps Good ss me n (suc a) more (behind e) ls) (sym ends)
            (Next (ap (λ m. m ∷ []) step) some, w.0, subst (λ (m : ℕ). Steps Good ss me n m more (results (suc j)) ls) there w.1),
      ))

  -- all of them
  references_walk : (s : Stmt) (rs : List ℕ) (here j b m : ℕ) → ((i r : ℕ) → slice_get rs i ≡ Some r → IsReference p u s (j + i) r) → (more : List Instr) (ls : Kinds) → IsNotEmpty more
      → b ≡ here + length (references_code p u s here j rs) → m ≡ j + length rs → Goes b more (results m) ls → Goes here (references_code p u s here j rs ++ more) (results j) ls
  references_walk s [] here j b m are more ls some at count w =
      let same : b ≡ here = omega (arith, at) in
      let alike : m ≡ j = omega (arith, count) in
      subst (λ (b : ℕ). Goes b more (results j) ls) same (subst (λ (m : ℕ). Goes b more (results m) ls) alike w)
  references_walk s (r ∷ rs) here j b m are more ls some at count w =
      let first = reference_code p u s here j r in
      let others = references_code p u s (here + length first) (suc j) rs in
      let number : j + 0 ≡ j = omega arith in
      let long = length-append first others in
      subst (λ (c : List Instr). Goes here c (results j) ls) (sym (append_assoc first others more))
      (one_reference s here j r (here + length first) (subst (λ (k : ℕ). IsReference p u s k r) number (are 0 r refl)) (others ++ more) ls (some_behind others more some) refl
      (references_walk s rs (here + length first) (suc j) b m
      (λ i q there. let next : j + suc i ≡ suc j + i = omega arith in subst (λ (k : ℕ). IsReference p u s k q) next (are (suc i) q there)) more ls some (omega (arith, at, long)) (omega (arith, count)) w))

  -- a statement is walked through from the results of its references
  pub record StatementWalks (k : ℕ) (e : Point) : Type 0 where
    pub some : (here : ℕ) → IsNotEmpty (statement_code p u (address_of p u) here k e e.entry.stmt)
    pub walks : (here : ℕ) (ks : Kinds) → only_results ks ≡ true → length (calls_among p u (applied_in e.entry.stmt)) ≤ results_in ks → Goes here (statement_code p u (address_of p u) here k e e.entry.stmt) ks []

  pub entry_walks : (k : ℕ) (e : Point) → StatementWalks k e → length (calls_among p u (applied_in e.entry.stmt)) ≤ length e.entry.refs
      → ((i r : ℕ) → slice_get e.entry.refs i ≡ Some r → IsReference p u e.entry.stmt i r) → Goes (address_of p u k) (entry_code p u (address_of p u) k (Some e)) [] []
  entry_walks k e h count are =
      let s = e.entry.stmt in
      let refs = e.entry.refs in
      let at = address_of p u k in
      let here = at + references_length p u e.entry (length refs) in
      let r = length refs in
      let place : here ≡ at + length (references_code p u s at 0 refs) = omega (arith, all_references p u e.entry (length refs) (omega arith), references_same p u s at 0 0 refs) in
      references_walk s refs at 0 here r (λ i q there. let same : i ≡ 0 + i = omega arith in subst (λ (k : ℕ). IsReference p u s k q) same (are i q there)) (statement_code p u (address_of p u) here k e s) [] (h.some here) place (omega arith)
      (h.walks here (results r) (only_all r) (omega (arith, count, count_all r)))

  -- all entries
  module _ (each : (k : ℕ) (e : Point) → point_at u k ≡ Some e → Goes (address_of p u k) (entry_code p u (address_of p u) k (Some e)) [] []) where
    pub entries_walk : (k : ℕ) → Goes 0 (entries_code p u (address_of p u) k) [] []
    entries_walk zero = (refl, refl)
    entries_walk (suc k) =
        walks_then Good ss me n 0 (address_of p u k) (entries_code p u (address_of p u) k) (entry_code p u (address_of p u) k (point_at u k)) [] [] [] (omega (arith, entries_length p u (λ j. 0) (address_of p u) k))
        (entries_walk k) (go (point_at u k) refl)
      where
        go : (o : Option Point) → point_at u k ≡ o → Goes (address_of p u k) (entry_code p u (address_of p u) k o) [] []
        go None is = (refl, refl)
        go (Some e) is = each k e is

    abbrev lists_at : ℕ → Kinds
    lists_at b = walked ss me n 0 b (unit_code p u) []

    entry_within : (k : ℕ) (e : Point) → point_at u k ≡ Some e → k < length u.tree.body
    entry_within k e is = slice_get_within u.tree.body k e.entry (entry_there (slice_get u.tree.body k) (slice_get (links_of u.tree.body) k) e is)

    good_start : (a : ℕ) → Good a → IsAt (unit_code p u) lists_at a []
    good_start a h =
        let addresses = address_of p u in
        let less = entry_within h.number h.point h.there in
        let found = standing p u addresses (length u.tree.body) h.number less in
        let front = entries_code p u addresses h.number in
        let rest = entry_code p u addresses h.number (point_at u h.number) ++ found.0 in
        let begins : a ≡ length front = h.is ∙ entries_length p u (λ j. 0) addresses h.number in
        let rise = (addresses_rise p u).rise h.number (length u.tree.body) h.point h.there less in
        record {
          inside = omega (arith, h.is, rise, entries_length p u (λ j. 0) addresses (length u.tree.body));
          list = (λ i. walked ss me n 0 (begins i) (found.1 i) []) ∙ walked_end Good ss me n 0 front rest [] [] (entries_walk h.number).1;
        }

    -- no entry begins with what joins a block
    apart : (a : ℕ) → Good a → is_join (slice_get (unit_code p u) a) ≡ false
    apart a h =
        let addresses = address_of p u in
        let k = h.number in
        let found = standing p u addresses (length u.tree.body) k (entry_within k h.point h.there) in
        let front = entries_code p u addresses k in
        let own = entry_code p u addresses k (point_at u k) in
        let begins : a ≡ length front = h.is ∙ entries_length p u (λ j. 0) addresses k in
        let rise = (addresses_rise p u).rise k (suc k) h.point h.there (omega arith) in
        let long : 0 < length own = omega (arith, rise, entries_length p u (λ j. 0) addresses k, entries_length p u (λ j. 0) addresses (suc k), length-append front own) in
        let starts : Goes (address_of p u k) own [] [] = subst (λ (o : Option Point). Goes (address_of p u k) (entry_code p u addresses k o) [] []) (sym h.there) (each k h.point h.there) in
        (λ i. is_join (slice_get (found.1 i) (begins i))) ∙ ap is_join (got_behind front (own ++ found.0)) ∙ ap is_join (first_front own found.0 (not_empty own long)) ∙ starts.0

    -- where its entries begin
    same_number : (a b : ℕ) → Some a ≡ Some b → a ≡ b
    same_number a b e = cc

    begins_at : (k : ℕ) (es : List tree.Entry) (i a : ℕ) → slice_get (map (λ (e : Entry). e.address) (entries_at (address_of p u) k es)) i ≡ Some a → (e : tree.Entry) × (slice_get es i ≡ Some e) × (a ≡ address_of p u (k + i))
    begins_at k [] i a is = absurd cc
    begins_at k (e ∷ es) zero a is = let here : k ≡ k + 0 = omega arith in (e, refl, sym (same_number (address_of p u k) a is) ∙ ap (address_of p u) here)
    begins_at k (e ∷ es) (suc i) a is =
        let x = begins_at (suc k) es i a is in
        let next : suc k + i ≡ k + suc i = omega arith in
        (x.0, x.1, x.2 ∙ ap (address_of p u) next)

    entry_starts : (i a : ℕ) → slice_get (map (λ (e : Entry). e.address) (entries_at (address_of p u) 0 u.tree.body)) i ≡ Some a → Good a
    entry_starts i a is =
        let x = begins_at 0 u.tree.body i a is in
        let here : 0 + i ≡ i = omega arith in
        record { number = i; point = record { entry = x.0; links = links_at u.tree.body (marks_of u.tree.body) i }; there = point_there u i x.0 x.1; is = x.2 ∙ ap (address_of p u) here }

  -- a unit each of whose entries is walked through joins its blocks, and has its kinds
  pub unit_joins : n ≡ loop_count u.tree.body → ((k : ℕ) (e : Point) → point_at u k ≡ Some e → Goes (address_of p u k) (entry_code p u (address_of p u) k (Some e)) [] []) → JoinsStand (coded (unit_of_code p u))
  unit_joins loops each =
      subst (λ (m : ℕ). JoinsStand (record { entries = map (λ (e : Entry). e.address) (entries_at (address_of p u) 0 u.tree.body); loops = m; code = unit_code p u })) loops
      (joins_by Good ss me (record { entries = map (λ (e : Entry). e.address) (entries_at (address_of p u) 0 u.tree.body); loops = n; code = unit_code p u }) [] (entries_walk each (length u.tree.body)) (apart each) (entry_starts each))

  pub unit_kinded : n ≡ loop_count u.tree.body → ((k : ℕ) (e : Point) → point_at u k ≡ Some e → Goes (address_of p u k) (entry_code p u (address_of p u) k (Some e)) [] []) → Kinded ss me (coded (unit_of_code p u))
  unit_kinded loops each =
      subst (λ (m : ℕ). Kinded ss me (record { entries = map (λ (e : Entry). e.address) (entries_at (address_of p u) 0 u.tree.body); loops = m; code = unit_code p u })) loops
      (kinded_by Good ss me (record { entries = map (λ (e : Entry). e.address) (entries_at (address_of p u) 0 u.tree.body); loops = n; code = unit_code p u }) [] (entries_walk each (length u.tree.body)) (good_start each) (entry_starts each))
