-- What stands for a process after a step: its frames one on another, a new one, and one at another entry.
use Rattle.std.proofs.Common.{◌≡◌, ℕ, zero, suc, ◌<◌, Bool, true, false, cond, Option, Some, None, List, [], ◌∷◌, ◌++◌, length, replicate, refl, sym, ap, subst, ◌∙◌, arith}
use Rattle.std.specs.Prelude.{slice_get}
use Rattle.std.specs.Option.{option_map}
use Rattle.std.specs.FinMap as finite
use Rattle.std.specs.FinMap.{get-empty}
use Rattle.std.specs.Ordering.{nat_cmp}
use Rattle.fm_tree.specs.declared.program_unit.Entry.{Entry}
use Rattle.fm_symbols.specs.Headings.{is_function}
use Rattle.fm_symbols.specs.declared.names.Variable.{Variable}
use Rattle.fm_rules.specs.declared.program.Program.{Program}
use Rattle.fm_mean.specs.Names.{ProgramUnit, Point, unit_at, point_at, kind_of}
use Rattle.fm_mean.specs.Evaluate.{Call}
use Rattle.fm_mean.specs.Process as mean
use Rattle.fm_mean.specs.Process.{Running, Proc, framed}
use Rattle.fm_mean.specs.Calls.{variables_in}
use Rattle.fm_mean.specs.Fits.{variables_of}
use Rattle.fm_mean.specs.Actions.{gone_on}
use Rattle.fm_code.specs.declared.body.Back.{Back}
use Rattle.fm_code.specs.declared.body.Body.{Body}
use Rattle.fm_code.specs.declared.body.Frame.{Frame}
use Rattle.fm_code.specs.declared.body.Start.{Start}
use Rattle.fm_code.specs.declared.code.Code.{Code}
use Rattle.fm_code.specs.Statements as code_actions
use Rattle.fm_gen_relation.specs.Standing.{Slots}
use Rattle.fm_gen_relation.specs.Operands.{MeanBack, BacksStand}
use Rattle.fm_gen_relation.specs.Frames.{opens_counted, loop_number, trips_read, LoopsStand, ResultsFit, Stands, StartStands, StartsStand, FrameStands, is_function_unit, evaluates, IsReferred, Where, BelowStand}
use Rattle.fm_gen.specs.Entries.{address_of, statement_in, statement_address}
use Rattle.fm_gen.specs.Units.{loop_count, unit_of_code}
use Rattle.fm_gen.specs.Programs.{code_of}
use Rattle.fm_gen.specs.Bodies.{next_address, IsAlive, StandsFor}
use Rattle.fm_gen.proofs.ProgramLaws.{unit_there}

-- Addresses.

-- a statement begins at its first reference
pub statement_begins : (p : Program) (u : ProgramUnit) (k : ℕ) → statement_address p u k 0 ≡ address_of p u k
statement_begins p u k = go (point_at u k)
  where
    go : (o : Option Point) → statement_in p u (address_of p u k) o 0 ≡ address_of p u k
    go None = refl
    go (Some e) = omega arith

pub unit_found : (p : Program) (b : Body) → b.code ≡ code_of p → (n : ℕ) (u : ProgramUnit) → unit_at p n ≡ Some u → code_actions.unit_at b n ≡ Some (unit_of_code p u)
unit_found p b loaded n u there = (λ i. slice_get ((loaded i).units) n) ∙ unit_there p n u there

-- Results.

pub no_results : (p : Program) (u : ProgramUnit) (o : Option Point) → ResultsFit p u o []
no_results p u None = tt
no_results p u (Some e) = λ i t w next there. absurd (cc there)

-- Frames one on another.

pub evaluates_by : (p : Program) (n : ℕ) (u : ProgramUnit) → unit_at p n ≡ Some u → (b : Bool) → is_function (kind_of u) ≡ b → is_function_unit (unit_at p n) ≡ b
evaluates_by p n u there b kind = ap is_function_unit there ∙ kind

pub backs_by : (p : Program) (k n : ℕ) (u v : ProgramUnit) → unit_at p k ≡ Some u → unit_at p n ≡ Some v → (bs : List MeanBack) (cs : List Back)
    → BacksStand u.names.variables v.names.variables bs cs → BacksStand (variables_of p k) (variables_of p n) bs cs
backs_by p k n u v here there bs cs h = subst (λ o. BacksStand (variables_in o) (variables_of p n) bs cs) (sym here) (subst (λ o. BacksStand u.names.variables (variables_in o) bs cs) (sym there) h)

pub backs_of_units : (p : Program) (k n : ℕ) (u v : ProgramUnit) → unit_at p k ≡ Some u → unit_at p n ≡ Some v → (bs : List MeanBack) (cs : List Back)
    → BacksStand (variables_of p k) (variables_of p n) bs cs → BacksStand u.names.variables v.names.variables bs cs
backs_of_units p k n u v here there bs cs h = subst (λ o. BacksStand u.names.variables (variables_in o) bs cs) there (subst (λ o. BacksStand (variables_in o) (variables_of p n) bs cs) here h)

where_then : (b : Bool) (A B : Type 0) → (A → B) → Where b A → Where b B
where_then true A B f h = f h
where_then false A B f h = tt

-- what stands below a frame stands below one of the same unit that gives back the same
module _ (p : Program) (slots : Slots) (f g : mean.Frame) (m n : Frame) (units : g.unit ≡ f.unit) (backs : g.backs ≡ f.backs) (codes : n.backs ≡ m.backs) where
  refers_same : (h : mean.Frame) → IsReferred p f h → IsReferred p g h
  refers_same h r = record {
    unit = r.unit;
    there = r.there;
    point = r.point;
    at = r.at;
    name = r.name;
    arguments = r.arguments;
    next = r.next;
    callee = r.callee;
    means = r.means ∙ ap (λ k. Call k r.callee) (sym units);
  }

  pub same_below : (fs : List mean.Frame) (ns : List Frame) → BelowStand p (statement_address p) slots f m fs ns → BelowStand p (statement_address p) slots g n fs ns
  same_below [] [] h = tt
  same_below [] (c ∷ ns) h = absurd h
  same_below (d ∷ fs) [] h = absurd h
  same_below (d ∷ fs) (c ∷ ns) h = (
    subst (λ k. FrameStands p slots (λ u. statement_address p u d.entry (cond (is_function_unit (unit_at p k)) (suc (length d.results)) (length d.results))) d c) (sym units) h.0,
    subst (λ cs. BacksStand (variables_of p d.unit) (variables_of p g.unit) g.backs cs) (sym codes)
        (subst (λ bs. BacksStand (variables_of p d.unit) (variables_of p g.unit) bs m.backs) (sym backs)
        (subst (λ k. BacksStand (variables_of p d.unit) (variables_of p k) f.backs m.backs) (sym units) h.1)),
    subst (λ k. Where (is_function_unit (unit_at p k)) (IsReferred p g d)) (sym units) (where_then (evaluates p f) (IsReferred p f d) (IsReferred p g d) (refers_same d) h.2),
    h.3,
  )

-- A new frame.

same_entry : (a b : Entry) → Some a ≡ Some b → a ≡ b
same_entry a b e = cc

number_less : (body : List Entry) (k : ℕ) (e : Entry) → slice_get body k ≡ Some e → opens_counted e ≡ true → loop_number body k < loop_number body (length body)
number_less [] k e at c = absurd (cc)
number_less (x ∷ body) zero e at c =
    let counts : opens_counted x ≡ true = ap opens_counted (same_entry x e at) ∙ c in
    subst (λ n. 0 < n) (sym (ap (λ b. cond b (suc (loop_number body (length body))) (loop_number body (length body))) counts)) (omega arith)
number_less (x ∷ body) (suc k) e at c = go (opens_counted x) (number_less body k e at c)
  where
    go : (b : Bool) → loop_number body k < loop_number body (length body) → cond b (suc (loop_number body k)) (loop_number body k) < cond b (suc (loop_number body (length body))) (loop_number body (length body))
    go true h = omega (arith, h)
    go false h = h

one_of : {X : Type 0} (n k : ℕ) (x : X) → k < n → slice_get (replicate n x) k ≡ Some x
one_of zero k x less = absurd (omega (arith, less))
one_of (suc n) zero x less = refl
one_of (suc n) (suc k) x less = one_of n k x (omega (arith, less))

-- no loop is begun
pub none_begun : (body : List Entry) → LoopsStand body finite.empty (replicate (loop_count body) None)
none_begun body k l = ap (option_map trips_read) (one_of (loop_count body) (loop_number body k) None (number_less body k l.entry l.at l.counted)) ∙ ap Some (sym (get-empty nat_cmp k))

-- at the first statement of a unit
pub begun : (p : Program) (slots : Slots) (n : ℕ) (u : ProgramUnit) → unit_at p n ≡ Some u → (f : mean.Frame) (m : Frame) → f.unit ≡ n → f.entry ≡ 0 → f.results ≡ [] → m.unit ≡ n → m.address ≡ 0
    → Stands u slots f m → StartsStand p slots u.names.variables f.starts m.starts → FrameStands p slots (λ v. statement_address p v f.entry (length f.results)) f m
begun p slots n u there f m unit entry results number address stands starts = record {
  unit = u;
  there = ap (unit_at p) unit ∙ there;
  number = number ∙ sym unit;
  address = address ∙ sym (statement_begins p u 0) ∙ (λ i. statement_address p u (sym entry i) (length (sym results i)));
  stands = stands;
  results = subst (ResultsFit p u (point_at u f.entry)) (sym results) (no_results p u (point_at u f.entry));
  starts = starts;
}

-- Starts.

pub one_more : (p : Program) (slots : Slots) (mine : List Variable) (ss : List mean.Start) (cs : List Start) (s : mean.Start) (c : Start)
    → StartsStand p slots mine ss cs → StartStands p slots mine s c → StartsStand p slots mine (ss ++ s ∷ []) (cs ++ c ∷ [])
one_more p slots mine [] [] s c h one = (one, tt)
one_more p slots mine [] (d ∷ cs) s c h one = absurd h
one_more p slots mine (t ∷ ss) [] s c h one = absurd h
one_more p slots mine (t ∷ ss) (d ∷ cs) s c h one = (h.0, one_more p slots mine ss cs s c h.1 one)

-- A process that runs.

module _ (p : Program) (code : Code) (slots : Slots) (x : Proc) (b : Body) (s : StandsFor p code slots x b) (running : x.phase ≡ Running) where
  -- its next statement is at its entry
  pub begins : b.frame.address ≡ statement_address p s.first.unit s.frame.entry (length s.frame.results)
  begins = s.first.address ∙ ap (λ h. next_address p h s.frame s.first.unit) running

  -- with other frames it goes on
  pub stands_after : (f : mean.Frame) (fs : List mean.Frame) (m : Frame) (ns : List Frame) (lines : List (List ℕ))
      → FrameStands p slots (λ u. statement_address p u f.entry (length f.results)) f m → BelowStand p (statement_address p) slots f m fs ns
      → StandsFor p code slots (gone_on x (framed x.execution (f ∷ fs)) lines) (record b { frame = m; below = ns })
  stands_after f fs m ns lines h others = record {
    frame = f;
    below = fs;
    frames = refl;
    loaded = s.loaded;
    machine = s.machine;
    node = s.node;
    first = record {
      unit = h.unit;
      there = h.there;
      number = h.number;
      address = h.address ∙ ap (λ q. next_address p q f h.unit) (sym running);
      stands = h.stands;
      results = h.results;
      starts = h.starts;
    };
    others = others;
    alive = subst (λ q. IsAlive q h.unit f) (sym running) tt;
  }
