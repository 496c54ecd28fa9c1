-- Each unit of the code that is generated for a checked program has its kinds.
use Rattle.std.proofs.Common.{◌≡◌, ℕ, ◌≤◌, true, Option, Some, None, [], ◌++◌, length, slice_get, refl, subst, arith}
use Rattle.std.specs.Option.{option_map}
use Rattle.std.specs.List.{flat_map}
use Rattle.fm_net.specs.Typed.{AllIn}
use Rattle.fm_tree.specs.Tree.{trees_from}
use Rattle.fm_tree.specs.References.{applied_in, in_exprs, in_extra, in_simple, in_var, in_vars}
use Rattle.fm_tree.specs.declared.statement.Simple.{Simple}
use Rattle.fm_tree.specs.declared.statement.Simple.TheVariants as simple
use Rattle.fm_tree.specs.declared.statement.Stmt.{Stmt}
use Rattle.fm_tree.specs.declared.statement.Stmt.TheVariants as stmt
use Rattle.fm_rules.specs.Links.{links_of}
use Rattle.fm_rules.specs.declared.program.Program.{Program}
use Rattle.fm_mean.specs.Leads.{IsPoint, JumpsTo, SimpleLeads, StatementLeads}
use Rattle.fm_mean.specs.Names.{ProgramUnit, Point, point_at, unit_at}
use Rattle.fm_mean.specs.Evaluate.{Scope}
use Rattle.fm_mean.specs.Referring.{names_in, calls_among}
use Rattle.fm_mean.specs.TypedTrees.{IsIn, SimpleHasTypes, StatementHasTypes}
use Rattle.fm_mean.proofs.JudgedItems.{all_left, all_right}
use Rattle.fm_mean.proofs.Leading.{all_lead}
use Rattle.fm_code_kinds.specs.Bodies.{coded}
use Rattle.fm_code_kinds.specs.Effects.{only_results, results_in}
use Rattle.fm_code_kinds.specs.Kinded.{Kinded}
use Rattle.fm_code_kinds.specs.Leading.{JoinsStand}
use Rattle.fm_gen_relation.specs.Sound.{IsSoundSimple, IsSoundStatement}
use Rattle.fm_gen_relation.proofs.Done.{count_both, refs_exprs_count, refs_extras_count, refs_var_count, refs_vars_count}
use Rattle.fm_gen_relation.proofs.Entries.{sound_entry}
use Rattle.fm_gen_relation.proofs.Targets.{targets_fit}
use Rattle.fm_gen_relation.proofs.Units.{sound_unit}
use Rattle.fm_gen.specs.Statements.{simple_code}
use Rattle.fm_gen.specs.Entries.{address_of, entry_code}
use Rattle.fm_gen.specs.Units.{loop_count, unit_of_code}
use Rattle.fm_gen.proofs.UnitLaws.{entry_there}
use Rattle.fm_compile_law.specs.Counted.{IsCounted, AreCounted, VariablesFit}
use Rattle.fm_image.specs.Types.{types_of}
use Rattle.fm_compile_law.specs.Units.{shape_by, shapes_of}
use Rattle.fm_compile_law.specs.Walks.{Walks}
use Rattle.fm_compile_law.proofs.Expressions.{Kinds}
use Rattle.fm_compile_law.proofs.Places.{each_of}
use Rattle.fm_compile_law.proofs.Asking.{close_ends}
use Rattle.fm_compile_law.proofs.Closing.{closes_outport}
use Rattle.fm_compile_law.proofs.Counting.{counted_entry}
use Rattle.fm_compile_law.proofs.Entries.{IsStart, unit_joins, unit_kinded}
use Rattle.fm_compile_law.proofs.Receiving.{leads_to, receive_ends}
use Rattle.fm_compile_law.proofs.Sending.{send_ends}
use Rattle.fm_compile_law.proofs.Statements.{IsLater, entry_walked}

module _ (p : Program) (number : ℕ) (u : ProgramUnit) (here : unit_at p number ≡ Some u) (k : ℕ) (e : Point) (at : point_at u k ≡ Some e) where
  abbrev now : Scope
  now = names_in p u

  abbrev n : ℕ
  n = loop_count u.tree.body

  abbrev Good : ℕ → Type 0
  Good a = IsStart p u a

  abbrev address : ℕ → ℕ
  address j = address_of p u j

  inside : IsIn p u (names_in p u)
  inside = record { unit = refl; program = refl }

  entry_is : slice_get u.tree.body k ≡ Some e.entry
  entry_is = entry_there (slice_get u.tree.body k) (slice_get (links_of u.tree.body) k) e at

  started : (j : ℕ) → IsPoint u j → Good (address j)
  started j x = record { number = j; point = x.0; there = x.1; is = refl }

  led : (o : Option ℕ) → JumpsTo u o → (next : ℕ) → Good next → AllIn Good (leads_to p number u here (sound_unit p number u here) n Good (option_map address o) next)
  led None jumps next good = (good, tt)
  led (Some j) jumps next good = (started j (jumps j refl), (good, tt))

  abbrev Ends : ℕ → Simple → Kinds → Type 0
  Ends a s ks = Walks (IsStart p u) (shapes_of p) (shape_by (types_of p) u) n a (simple_code p u (address_of p u) e s) ks []

  asking_walks : (s : Simple) → IsLater s → e.entry.stmt ≡ stmt.Simple s → SimpleHasTypes p u s → IsSoundSimple p u s → SimpleLeads p u e s → VariablesFit u s → AreCounted p u (in_simple s)
      → (a : ℕ) (ks : Kinds) → only_results ks ≡ true → length (calls_among p u (in_simple s)) ≤ results_in ks → Ends a s ks
  unfolding in_simple
  asking_walks (simple.Assignment v t) is same types meant leads fits trees a ks only done = absurd is
  asking_walks (simple.Goto l) is same types meant leads fits trees a ks only done = absurd is
  asking_walks simple.Continue is same types meant leads fits trees a ks only done = absurd is
  asking_walks simple.Return is same types meant leads fits trees a ks only done = absurd is
  asking_walks simple.Stop is same types meant leads fits trees a ks only done = absurd is
  asking_walks (simple.Call name args) is same types meant leads fits trees a ks only done = absurd is
  asking_walks (simple.Print items) is same types meant leads fits trees a ks only done = absurd is
  asking_walks (simple.Write unit items) is same types meant leads fits trees a ks only done = absurd is
  asking_walks (simple.Channel in_first i o) is same types meant leads fits trees a ks only done = absurd is
  asking_walks (simple.Merger i os) is same types meant leads fits trees a ks only done = absurd is
  asking_walks (simple.MovePort from to) is same types meant leads fits trees a ks only done = absurd is
  asking_walks (simple.Probe named q empty) is same types meant leads fits trees a ks only done = absurd is
  asking_walks (simple.Send named q items) is same types meant leads fits trees a ks only done =
      send_ends p number u here (sound_unit p number u here) n Good a q (trees_from items) types.0 (address e.entry.after) types.1 (types.2 now inside) fits (started e.entry.after leads) ks only
      (omega (arith, done, count_both p u (in_var q) (in_exprs items), refs_var_count p u now inside q, refs_exprs_count p u now inside items))
      (all_left (IsCounted p u) (in_var q) (in_exprs items) trees) (rw each_of (all_right (IsCounted p u) (in_var q) (in_exprs items) trees))
  asking_walks (simple.Receive named q extras items) is same types meant leads fits trees a ks only done =
      let x = targets_fit p number u k e.entry here entry_is named q extras items same in
      let front = in_var q ++ flat_map in_extra extras in
      let first = all_left (IsCounted p u) front (in_vars items) trees in
      receive_ends p number u here (sound_unit p number u here) n Good a q extras items (option_map address e.links.jump) x.0 (address e.entry.after) x.1 x.2 meant.1 types.3 fits.0 fits.1 fits.2
      (led e.links.jump leads.0 (address e.entry.after) (started e.entry.after leads.1)) ks only
      (omega (arith, done, count_both p u front (in_vars items), count_both p u (in_var q) (flat_map in_extra extras), refs_var_count p u now inside q, refs_extras_count p u now inside extras, refs_vars_count p u now inside items))
      (all_left (IsCounted p u) (in_var q) (flat_map in_extra extras) first) (all_right (IsCounted p u) (in_var q) (flat_map in_extra extras) first) (all_right (IsCounted p u) front (in_vars items) trees)
  asking_walks (simple.EndChannel named q) is same types meant leads fits trees a ks only done =
      let x = closes_outport p number u k e.entry here entry_is named q same in
      close_ends p u (sound_unit p number u here) (types_of p) n (shapes_of p) Good a q x.0 (address e.entry.after) x.1 fits (started e.entry.after leads) ks only (omega (arith, done, refs_var_count p u now inside q)) trees

  later_walks : (s : Simple) → IsLater s → e.entry.stmt ≡ stmt.Simple s → (a : ℕ) (ks : Kinds) → only_results ks ≡ true → length (calls_among p u (in_simple s)) ≤ results_in ks → Ends a s ks
  unfolding applied_in
  later_walks s is same =
      let sound = sound_entry p number u k e.entry here entry_is in
      let counted = counted_entry p number u k e.entry here entry_is in
      asking_walks s is same (subst (StatementHasTypes p u) same sound.types.statement) (subst (IsSoundStatement p u) same sound.statement) (subst (StatementLeads p u e) same (all_lead p number u k e here at).statement)
      (counted.variables s same) (subst (λ (s : Stmt). AreCounted p u (applied_in s)) same counted.trees)

-- each entry of a unit is walked through
every_entry : (p : Program) (number : ℕ) (u : ProgramUnit) → unit_at p number ≡ Some u → (k : ℕ) (e : Point) → point_at u k ≡ Some e
    → Walks (IsStart p u) (shapes_of p) (shape_by (types_of p) u) (loop_count u.tree.body) (address_of p u k) (entry_code p u (address_of p u) k (Some e)) [] []
every_entry p number u here k e at = entry_walked p number u here (λ k e at. later_walks p number u here k e at) k e at

-- each unit of a program has its kinds
pub generated_kinded : (p : Program) (number : ℕ) (u : ProgramUnit) → unit_at p number ≡ Some u → Kinded (shapes_of p) (shape_by (types_of p) u) (coded (unit_of_code p u))
generated_kinded p number u here = unit_kinded p u (sound_unit p number u here) (loop_count u.tree.body) refl (every_entry p number u here)

-- and joins its blocks
pub generated_joins : (p : Program) (number : ℕ) (u : ProgramUnit) → unit_at p number ≡ Some u → JoinsStand (coded (unit_of_code p u))
generated_joins p number u here = unit_joins p u (sound_unit p number u here) (loop_count u.tree.body) refl (every_entry p number u here)
