-- The code of the image of a program and its code is that code.
use Rattle.std.proofs.Common.{◌≡◌, ℕ, zero, suc, ◌+◌, ◌<◌, ◌≤◌, ◌==◌, Bool, true, false, cond, ◌&&◌, not, Option, Some, List, [], ◌∷◌, ◌++◌, map, length, slice_get, refl, sym, ap, ◌∙◌, subst, arith}
use Rattle.std.proofs.lemmas.Bool.{eqb-true}
use Rattle.fm_tree.specs.PortReading.{kind_of}
use Rattle.fm_tree.specs.declared.port_type.Kind.{Kind}
use Rattle.fm_tree.specs.declared.port_type.Kind.TheVariants as kind
use Rattle.fm_tree.specs.declared.program_unit.Entry as tree_entry
use Rattle.fm_tree.specs.declared.program_unit.Unit as tree
use Rattle.fm_tree.specs.declared.statement.LoopHead.{LoopHead}
use Rattle.fm_tree.specs.declared.statement.Stmt.{Stmt}
use Rattle.fm_tree.specs.declared.statement.Stmt.TheVariants as stmt
use Rattle.fm_symbols.specs.declared.names.UnitNames.{UnitNames}
use Rattle.fm_symbols.specs.declared.names.Variable.{Variable}
use Rattle.fm_rules.specs.declared.program.Program.{Program}
use Rattle.fm_rules.specs.Links.{links_at, marks_of}
use Rattle.fm_mean.specs.Actions as actions
use Rattle.fm_mean.specs.Names.{Point, ProgramUnit, formal_from, point_at, unit_at, unit_with}
use Rattle.fm_mean.proofs.Points.{point_there}
use Rattle.fm_code.specs.declared.code.Formal.{Formal}
use Rattle.fm_code.specs.declared.code.Unit as code_unit
use Rattle.fm_code.specs.declared.instr.End.TheVariants as end
use Rattle.fm_code.specs.declared.instr.Instr.{Instr}
use Rattle.fm_code.specs.declared.instr.Instr.TheVariants as instr
use Rattle.fm_code_kinds.specs.Bodies as kinds
use Rattle.fm_code_kinds.specs.Bodies.{coded}
use Rattle.fm_code_kinds.specs.Shapes.{formal_at, is_word, words_of}
use Rattle.fm_gen_relation.specs.Formals as own
use Rattle.fm_gen_relation.specs.Frames.{counts_trips, loop_number, opens_counted}
use Rattle.fm_gen_relation.specs.Sound as sound
use Rattle.fm_gen_relation.proofs.Units.{sound_unit}
use Rattle.fm_gen.specs.Statements.{bounds_code, do_code, loop_code, statement_code}
use Rattle.fm_gen.specs.Entries.{address_of, entries_code, entry_code, references_code, references_length, unit_code}
use Rattle.fm_gen.specs.Programs.{code_of}
use Rattle.fm_gen.specs.Units.{loop_count, unit_of_code}
use Rattle.fm_gen.proofs.ProgramLaws.{unit_there}
use Rattle.fm_object.specs.declared.image.FieldImage.{FieldImage}
use Rattle.fm_image.specs.ImageOf.{cell_image, image_of, unit_image, units_image}
use Rattle.fm_image.specs.Types.{types_of}
use Rattle.fm_compile_law.specs.Types.{sort_by}
use Rattle.fm_compile_law.specs.Units as program
use Rattle.fm_compile_law.specs.Units.{cell_by, cells_by, shape_by}
use Rattle.fm_compile_law.proofs.Cells.{cells_words}
use Rattle.fm_compile_law.proofs.Generated.{generated_kinded}
use Rattle.fm_compile_law.proofs.Loops.{loops_below}
use Rattle.fm_image_typed.specs.Codes as image_code
use Rattle.fm_image_typed.specs.Shapes.{cell_of, loops_of}
use Rattle.fm_image_typed.specs.Typed.{how_many, is_formal}
use Rattle.fm_compile_law.proofs.Formals as formals
use Rattle.fm_compile_law.proofs.Images.{all_coded, as_many}
use Rattle.fm_compile_law.proofs.Sense.{loops_under}
use Rattle.fm_compile_law.proofs.Shapes.{cells_alike}

-- ---- ports

words_alike : (ts : List (List FieldImage)) (k : Kind) → is_word (sort_by ts (kind_of k)) ≡ sound.is_word k
words_alike ts kind.Integer = refl
words_alike ts kind.Logical = refl
words_alike ts (kind.In t) = refl
words_alike ts (kind.Out t) = refl

ports_alike : (ts : List (List FieldImage)) (vs : List Variable) → image_code.ports_of (cells_by ts vs) ≡ own.ports_of vs
ports_alike ts [] = refl
ports_alike ts (v ∷ vs) = let more = ports_alike ts vs in λ i. cond (words_alike ts v.kind i) (more i) (own.span_of v ∷ more i)

-- ---- formals

formal_back : (formal input : Bool) → formal ≡ false → not (not formal && not input) ≡ input
formal_back true input e = absurd cc
formal_back false true e = refl
formal_back false false e = refl

formal_alike : (ts : List (List FieldImage)) (v : Variable) → (v.formal == 0) ≡ false → kinds.formal_of (cell_by ts v) ≡ own.formal_of v
formal_alike ts v e = λ i. record { span = own.span_of v; port = not (words_alike ts v.kind i); input = formal_back (v.formal == 0) v.input e i }

not_none : (m n : ℕ) → m ≡ suc n → (m == 0) ≡ false
not_none m n e = ap (λ (k : ℕ). k == 0) e ∙ none n
  where
    none : (n : ℕ) → (suc n == 0) ≡ false
    none n = go (suc n == 0) refl
      where
        go : (b : Bool) → (suc n == 0) ≡ b → b ≡ false
        go true is = absurd (omega (arith, eqb-true (suc n) 0 is))
        go false is = refl

next_place : (b n : ℕ) (vs : List Variable) → formal_from (suc b) n vs ≡ suc (formal_from b n vs)
next_place b n [] = refl
next_place b n (v ∷ vs) = go (v.formal == n) (next_place (suc b) n vs)
  where
    go : (c : Bool) → formal_from (suc (suc b)) n vs ≡ suc (formal_from (suc b) n vs) → cond c (suc b) (formal_from (suc (suc b)) n vs) ≡ suc (cond c b (formal_from (suc b) n vs))
    go true e = refl
    go false e = e

formal_there : (ts : List (List FieldImage)) (n : ℕ) (vs : List Variable) → image_code.formal_in (formal_at (cells_by ts vs) (suc n)) ≡ own.formal_if (slice_get vs (formal_from 0 (suc n) vs))
formal_there ts n [] = refl
formal_there ts n (v ∷ vs) = go (v.formal == suc n) refl (formal_there ts n vs)
  where
    go : (b : Bool) → (v.formal == suc n) ≡ b → image_code.formal_in (formal_at (cells_by ts vs) (suc n)) ≡ own.formal_if (slice_get vs (formal_from 0 (suc n) vs)) → image_code.formal_in (cond b (Some (cell_by ts v)) (formal_at (cells_by ts vs) (suc n))) ≡ own.formal_if (slice_get (v ∷ vs) (cond b 0 (formal_from 1 (suc n) vs)))
    go true is rest = ap (λ (f : Formal). f ∷ []) (formal_alike ts v (not_none v.formal n (eqb-true v.formal (suc n) is)))
    go false is rest = rest ∙ ap (λ (k : ℕ). own.formal_if (slice_get (v ∷ vs) k)) (sym (next_place 0 (suc n) vs))

formals_alike : (ts : List (List FieldImage)) (vs : List Variable) (n k : ℕ) → image_code.formals_from (cells_by ts vs) (suc n) k ≡ own.formals_from vs (suc n) k
formals_alike ts vs n zero = refl
formals_alike ts vs n (suc k) = let one = formal_there ts n vs in let more = formals_alike ts vs (suc n) k in λ i. one i ++ more i

-- ---- loops

loops_behind : (a b : List Instr) → loops_of b ≤ loops_of (a ++ b)
loops_behind [] b = omega arith
loops_behind (i ∷ is) b = omega (arith, loops_behind is b)

loops_before : (a b : List Instr) → loops_of a ≤ loops_of (a ++ b)
loops_before [] b = omega arith
loops_before (i ∷ is) b = omega (arith, loops_before is b)

next_loop : (es : List tree_entry.Entry) (k : ℕ) (e : tree_entry.Entry) → slice_get es k ≡ Some e → loop_number es (suc k) ≡ cond (opens_counted e) (suc (loop_number es k)) (loop_number es k)
next_loop [] k e at = absurd cc
next_loop (x ∷ es) zero e at = ap (λ (m : ℕ). cond (opens_counted x) (suc m) m) (none es) ∙ ap (λ (y : tree_entry.Entry). cond (opens_counted y) (suc zero) zero) (the_entry x e at)
  where
    the_entry : (a b : tree_entry.Entry) → Some a ≡ Some b → a ≡ b
    the_entry a b e = cc

    none : (es : List tree_entry.Entry) → loop_number es 0 ≡ 0
    none [] = refl
    none (x ∷ es) = refl
next_loop (x ∷ es) (suc k) e at = go (opens_counted x) (next_loop es k e at)
  where
    go : (b : Bool) → loop_number es (suc k) ≡ cond (opens_counted e) (suc (loop_number es k)) (loop_number es k)
        → cond b (suc (loop_number es (suc k))) (loop_number es (suc k)) ≡ cond (opens_counted e) (suc (cond b (suc (loop_number es k)) (loop_number es k))) (cond b (suc (loop_number es k)) (loop_number es k))
    go true h = ap suc h ∙ inside (opens_counted e)
      where
        inside : (c : Bool) → suc (cond c (suc (loop_number es k)) (loop_number es k)) ≡ cond c (suc (suc (loop_number es k))) (suc (loop_number es k))
        inside true = refl
        inside false = refl
    go false h = h

module _ (p : Program) (u : ProgramUnit) where
  abbrev body : List tree_entry.Entry
  body = u.tree.body

  do_loops : (h : LoopHead) (n inside behind : ℕ) → suc n ≤ loops_of (do_code p u h n inside behind)
  do_loops h n inside behind = omega (arith, loops_behind (bounds_code p u h) (loop_code u n h.variable ∷ instr.End (end.Enter inside behind) ∷ []))

  opener_loops : (s : Stmt) (address : ℕ → ℕ) (here k : ℕ) (e : Point) → counts_trips (actions.loop_of s) ≡ true → suc (loop_number body k) ≤ loops_of (statement_code p u address here k e s)
  opener_loops (stmt.Do h) address here k e is = do_loops h (loop_number body k) (address e.entry.after) (address e.links.other)
  opener_loops (stmt.ProcessDo h) address here k e is = do_loops h (loop_number body k) (address e.entry.after) (address e.links.other)
  opener_loops s address here k e is = absurd cc

  entry_loops : (k : ℕ) (e : tree_entry.Entry) → slice_get body k ≡ Some e → opens_counted e ≡ true → suc (loop_number body k) ≤ loops_of (entry_code p u (address_of p u) k (point_at u k))
  entry_loops k e at is =
      let there = point_there u k e at in
      let x : Point = record { entry = e; links = links_at body (marks_of body) k } in
      subst (λ (o : Option Point). suc (loop_number body k) ≤ loops_of (entry_code p u (address_of p u) k o)) (sym there) (own_loops x is)
    where
      own_loops : (x : Point) → opens_counted x.entry ≡ true → suc (loop_number body k) ≤ loops_of (entry_code p u (address_of p u) k (Some x))
      own_loops x is =
          let a = address_of p u k in
          let refs = references_code p u x.entry.stmt a 0 x.entry.refs in
          let here = a + references_length p u x.entry (length x.entry.refs) in
          let code = statement_code p u (address_of p u) here k x x.entry.stmt in
          omega (arith, loops_behind refs code, opener_loops x.entry.stmt (address_of p u) here k x is)

  no_loops : (es : List tree_entry.Entry) → loop_number es 0 ≤ 0
  no_loops [] = omega arith
  no_loops (e ∷ es) = omega arith

  got : (es : List tree_entry.Entry) (k : ℕ) → k < length es → (e : tree_entry.Entry) × (slice_get es k ≡ Some e)
  got [] k less = absurd (omega (arith, less))
  got (e ∷ es) zero less = (e, refl)
  got (e ∷ es) (suc k) less = got es k (omega (arith, less))

  loops_so_far : (n : ℕ) → n ≤ length body → loop_number body n ≤ loops_of (entries_code p u (address_of p u) n)
  loops_so_far zero le = no_loops body
  loops_so_far (suc n) le =
      let e = got body n (omega (arith, le)) in
      let before = entries_code p u (address_of p u) n in
      let here = entry_code p u (address_of p u) n (point_at u n) in
      let count : loop_number body (suc n) ≡ cond (opens_counted e.0) (suc (loop_number body n)) (loop_number body n) = next_loop body n e.0 e.1 in
      let most : cond (opens_counted e.0) (suc (loop_number body n)) (loop_number body n) ≤ loops_of (before ++ here) =
      go (opens_counted e.0) refl (loops_so_far n (omega (arith, le))) (loops_before before here) (loops_behind before here) (entry_loops n e.0 e.1) in
      omega (arith, count, most)
    where
      go : {x y z m : ℕ} (b : Bool) {c : Bool} → c ≡ b → m ≤ x → x ≤ z → y ≤ z → (c ≡ true → suc m ≤ y) → cond b (suc m) m ≤ z
      go true is h before behind opens = omega (arith, behind, opens is)
      go false is h before behind opens = omega (arith, before, h)

  pub all_loops : loop_count body ≤ loops_of (unit_code p u)
  all_loops = loops_so_far (length body) (omega arith)

-- ---- units

module _ (p : Program) (number : ℕ) (u : ProgramUnit) (here : unit_at p number ≡ Some u) where
  abbrev ts : List (List FieldImage)
  ts = types_of p

  abbrev vs : List Variable
  vs = u.names.variables

  loops_same : loops_of (unit_code p u) ≡ loop_count u.tree.body
  loops_same =
      let code = unit_of_code p u in
      let under = loops_under code.loops code.code (loops_below (program.shapes_of p) (shape_by ts u) (coded code) (generated_kinded p number u here)) in
      omega (arith, under, all_loops p u)

  cells_are : map cell_of (map (cell_image ts) vs) ≡ cells_by ts vs
  cells_are = cells_alike ts vs

  words_same : words_of (map cell_of (map (cell_image ts) vs)) ≡ u.names.words
  words_same = ap words_of cells_are ∙ cells_words ts vs ∙ sym (sound_unit p number u here).counted

  ports_same : image_code.ports_of (map cell_of (map (cell_image ts) vs)) ≡ own.ports_of vs
  ports_same = ap image_code.ports_of cells_are ∙ ports_alike ts vs

  formals_same : image_code.formals_from (map cell_of (map (cell_image ts) vs)) 1 (how_many is_formal (map (cell_image ts) vs)) ≡ own.formals_of vs
  formals_same =
      let many = formals.as_many p number u here ts in
      (λ i. image_code.formals_from (cells_are i) 1 (many i)) ∙ formals_alike ts vs 0 (length (sound.formals_among vs))

  pub unit_same : image_code.unit_of (unit_image ts u.tree u.names (unit_of_code p u)) ≡ unit_of_code p u
  unit_same =
      let code = unit_of_code p u in
      λ i. record { code = code.code; entries = code.entries; words = words_same i; ports = ports_same i; formals = formals_same i; loops = loops_same i; extents = u.names.extents }

units_same : (ts : List (List FieldImage)) (us : List tree.Unit) (ns : List UnitNames) (cs : List code_unit.Unit) → length ns ≡ length us → length cs ≡ length us
    → ((k : ℕ) (u : tree.Unit) (n : UnitNames) (c : code_unit.Unit) → slice_get us k ≡ Some u → slice_get ns k ≡ Some n → slice_get cs k ≡ Some c → image_code.unit_of (unit_image ts u n c) ≡ c)
    → map image_code.unit_of (units_image ts us ns cs) ≡ cs
units_same ts [] ns [] e f each = refl
units_same ts [] ns (c ∷ cs) e f each = absurd (omega (arith, f))
units_same ts (u ∷ us) [] cs e f each = absurd (omega (arith, e))
units_same ts (u ∷ us) (n ∷ ns) [] e f each = absurd (omega (arith, f))
units_same ts (u ∷ us) (n ∷ ns) (c ∷ cs) e f each =
    let one = each zero u n c refl refl refl in
    let more = units_same ts us ns cs (omega (arith, e)) (omega (arith, f)) (λ k u n c a b d. each (suc k) u n c a b d) in
    λ i. one i ∷ more i

pub same_code : (p : Program) → image_code.code_of (image_of p (code_of p)) ≡ code_of p
same_code p =
    let ts = types_of p in
    let same = units_same ts p.units.units p.names.units (code_of p).units (as_many p) (all_coded p) each in
    λ i. record { units = same i }
  where
    the_code : (a b : code_unit.Unit) → Some a ≡ Some b → a ≡ b
    the_code a b e = cc

    each : (k : ℕ) (u : tree.Unit) (n : UnitNames) (c : code_unit.Unit) → slice_get p.units.units k ≡ Some u → slice_get p.names.units k ≡ Some n → slice_get (code_of p).units k ≡ Some c
        → image_code.unit_of (unit_image (types_of p) u n c) ≡ c
    each k u n c a b d =
        let x : ProgramUnit = record { tree = u; names = n } in
        let here : unit_at p k ≡ Some x = λ i. unit_with (a i) (b i) in
        let is = the_code (unit_of_code p x) c (sym (unit_there p k x here) ∙ d) in
        subst (λ (y : code_unit.Unit). image_code.unit_of (unit_image (types_of p) u n y) ≡ y) is (unit_same p k x here)
