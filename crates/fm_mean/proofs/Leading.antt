-- Each entry of a checked program leads on to one that is there.
use Rattle.std.proofs.Common.{◌≡◌, ℕ, zero, suc, ◌-◌, ◌<◌, Bool, true, false, cond, not, Option, Some, None, option_map, List, [], ◌∷◌, ◌++◌, length, slice_get, refl, sym, ap, ◌∙◌, subst, arith}
use Rattle.std.specs.Prelude.{if◌then◌else◌, option_and_then}
use Rattle.std.specs.FinMap.{get}
use Rattle.std.specs.List.{filter}
use Rattle.std.proofs.lemmas.Option.{slice_get-map}
use Rattle.fm_base.specs.declared.name.Label.{Label}
use Rattle.fm_base.specs.declared.rule.Rule.TheVariants.{E28}
use Rattle.fm_base.specs.Verdict.{place}
use Rattle.fm_tree.specs.Tree.{Tree, Trees, Number, Truth, Named, Ref, Paren, Signed, Not, Binary, trees_from}
use Rattle.fm_tree.specs.References.{applied_in, reference_at}
use Rattle.fm_tree.specs.Statements.{IsWellShapedStatement}
use Rattle.fm_tree.specs.Structure.{form_of, is_end}
use Rattle.fm_tree.specs.Layout.{laid_out}
use Rattle.fm_tree.specs.Units.{cut_of, lacks_end, put_first, unit_of}
use Rattle.fm_tree.specs.declared.program_unit.Entry.{Entry}
use Rattle.fm_tree.specs.declared.program_unit.Placed.{Placed}
use Rattle.fm_tree.specs.declared.program_unit.Unit as tree
use Rattle.fm_tree.specs.declared.statement.CallPart.{CallPart}
use Rattle.fm_tree.specs.declared.statement.Simple.{Simple}
use Rattle.fm_tree.specs.declared.statement.Simple.TheVariants as simple
use Rattle.fm_tree.specs.declared.statement.Stmt.{Stmt}
use Rattle.fm_tree.specs.declared.statement.Stmt.TheVariants as stmt
use Rattle.fm_tree_blocks.proofs.LaidMarks.{AreOfSource, IsOfSource}
use Rattle.fm_symbols.specs.Context.{scope_of}
use Rattle.fm_symbols.specs.declared.context.Context.{Context}
use Rattle.fm_symbols.specs.declared.context.Scope as symbols
use Rattle.fm_symbols.specs.declared.names.UnitNames.{UnitNames}
use Rattle.fm_rules.specs.BrokenStructure as source
use Rattle.fm_rules.specs.BrokenUnit.{broken_in_unit}
use Rattle.fm_rules.specs.UnitTitles.{is_function_named, titles_of}
use Rattle.fm_rules.specs.Links.{links_at, links_of, marks_of}
use Rattle.fm_rules.specs.declared.entry_links.EntryLinks.{EntryLinks}
use Rattle.fm_rules.specs.Program.{AreShaped}
use Rattle.fm_rules.specs.declared.calls.CallKind.{CallKind}
use Rattle.fm_rules.specs.declared.calls.CallKind.TheVariants as call_kind
use Rattle.fm_rules.specs.declared.typing.Referent.TheVariants as referent
use Rattle.fm_rules.specs.Flags.{e43}
use Rattle.fm_rules.specs.Expressions.{arguments_judged, reference_judged}
use Rattle.fm_rules.specs.TypeStatements.{call_flags, callee_at, callee_in, position_flags, simple_flags, typed_flags}
use Rattle.fm_net.specs.Typed.{AllIn}
use Rattle.fm_rules.specs.declared.program.Program.{Program}
use Rattle.fm_mean.specs.Names.{ProgramUnit, Point, unit_at, numbered, unit_named, context, point_with}
use Rattle.fm_mean.specs.Evaluate.{Reference, Element, Call, Built, Unknown, reference_of}
use Rattle.fm_mean.specs.Process.{Frame}
use Rattle.fm_mean.specs.Actions as action
use Rattle.fm_mean.specs.Actions.{Loop, Counted, While, NoLoop, loop_of, next_reference}
use Rattle.fm_mean.specs.Referring.{names_in, calls_one, is_call, calls_among}
use Rattle.fm_mean.specs.Leads.{IsPoint, Begins, CallsOne, JumpsTo, SimpleLeads, IsALoop, LoopLeads, Both, StatementLeads, ReferenceLeads, EntryLeads, AllLead}
use Rattle.fm_mean.proofs.Unbroken.{Unbroken, from_rules, left_empty, right_empty, each_empty, not_when}
use Rattle.fm_mean.proofs.Unflagged.{IsUnflagged, left_unflagged, right_unflagged}
use Rattle.fm_mean.proofs.Members.{from_map}
use Rattle.fm_mean.proofs.Sizes.{in_all, parts_of}
use Rattle.fm_mean.proofs.Points.{point_there}
use Rattle.fm_mean.proofs.JudgedValues.{scope_by, scopes_there}
use Rattle.fm_mean.proofs.JudgedPrograms.{flags_here}
use Rattle.fm_mean.proofs.JudgedReferences.{reference_calls}
use Rattle.fm_mean.proofs.ProgramMeanings.{meanings}
use Rattle.fm_mean.proofs.References.{entry_references}
use Rattle.fm_mean.proofs.BodyRules.{got_some}
use Rattle.fm_mean.proofs.BodyEntries.{LeadsIn, begins, ends_loop, ends_unit, is_done, leads_in, links_in, turns}

never : true ≡ false → ⊥
never e = absurd (cc)

-- ---- the statements of each unit

of_source : (s : Stmt) → IsWellShapedStatement s → IsOfSource s
of_source stmt.LoopEnd h = h
of_source s h = tt

all_of_source : (ps : List Placed) → AreShaped ps → AreOfSource ps
all_of_source [] h = tt
all_of_source (p ∷ ps) h = (of_source p.stmt h.0, all_of_source ps h.1)

put_source : (p : Placed) (cs : List (List Placed)) → IsOfSource p.stmt → AllIn AreOfSource cs → AllIn AreOfSource (put_first p cs)
put_source p [] h all = ((h, tt), tt)
put_source p (c ∷ cs) h all = ((h, all.0), all.1)

cut_source : (ps : List Placed) → AreOfSource ps → AllIn AreOfSource (cut_of ps)
cut_source [] h = tt
cut_source (p ∷ ps) h =
    let rest = cut_source ps h.1 in
    elim (is_end (form_of p.stmt)) as (λ (b : Bool). AllIn AreOfSource (if b then (p ∷ []) ∷ cut_of ps else put_first p (cut_of ps))) [ true ↦ ((h.0, tt), rest) | false ↦ put_source p (cut_of ps) h.0 rest ]

abbrev EndsWell : List Placed → Type 0
EndsWell c = lacks_end c ≡ false

put_ends : (p : Placed) (cs : List (List Placed)) → (cs ≡ [] → ⊥) → AllIn EndsWell cs → AllIn EndsWell (put_first p cs)
put_ends p [] some all = absurd (some refl)
put_ends p ([] ∷ cs) some all = absurd (never all.0)
put_ends p ((q ∷ c) ∷ cs) some all = all

put_some : (p : Placed) (cs : List (List Placed)) → put_first p cs ≡ [] → ⊥
put_some p [] e = absurd (cc)
put_some p (c ∷ cs) e = absurd (cc)

cut_some : (p : Placed) (ps : List Placed) → cut_of (p ∷ ps) ≡ [] → ⊥
cut_some p ps =
    elim (is_end (form_of p.stmt)) as (λ (b : Bool). (if b then (p ∷ []) ∷ cut_of ps else put_first p (cut_of ps)) ≡ [] → ⊥) [ true ↦ not_none (p ∷ []) (cut_of ps) | false ↦ put_some p (cut_of ps) ]
  where
    not_none : (c : List Placed) (cs : List (List Placed)) → c ∷ cs ≡ [] → ⊥
    not_none c cs e = absurd (cc)

cut_ends : (p : Placed) (ps : List Placed) → lacks_end (p ∷ ps) ≡ false → AllIn EndsWell (cut_of (p ∷ ps))
cut_ends p [] e =
    elim (is_end (form_of p.stmt)) as (λ (b : Bool). is_end (form_of p.stmt) ≡ b → AllIn EndsWell (if b then (p ∷ []) ∷ [] else (p ∷ []) ∷ [])) [ true ↦ λ is. (e, tt) | false ↦ λ is. (e, tt) ] refl
cut_ends p (q ∷ ps) e =
    let rest = cut_ends q ps e in
    elim (is_end (form_of p.stmt)) as (λ (b : Bool). is_end (form_of p.stmt) ≡ b → AllIn EndsWell (if b then (p ∷ []) ∷ cut_of (q ∷ ps) else put_first p (cut_of (q ∷ ps)))) [
      | true ↦ λ is. (ap not is, rest)
      | false ↦ λ is. put_ends p (cut_of (q ∷ ps)) (cut_some q ps) rest
    ] refl

last_is : (p : Placed) (ps : List Placed) → (x : Placed) × (slice_get (p ∷ ps) (length ps) ≡ Some x) × (lacks_end (p ∷ ps) ≡ not (is_end (form_of x.stmt)))
last_is p [] = (p, refl, refl)
last_is p (q ∷ ps) = last_is q ps

all_end : (ps : List Placed) → source.missing_end ps ≡ [] → AllIn EndsWell (cut_of ps)
all_end [] e = tt
all_end (p ∷ ps) e =
    let x = last_is p ps in
    let n : length (p ∷ ps) - 1 ≡ length ps = omega arith in
    let at : slice_get (p ∷ ps) (length (p ∷ ps) - 1) ≡ Some x.0 = ap (slice_get (p ∷ ps)) n ∙ x.1 in
    cut_ends p ps (x.2 ∙ not_when (not (is_end (form_of x.0.stmt))) (place x.0.line.0 E28) (sym (ap source.unended at) ∙ e))

-- ---- a unit

record UnitLeads (u : tree.Unit) : Type 0 where
  entries : (k : ℕ) (e : Entry) → slice_get u.body k ≡ Some e → LeadsIn u.body k e
  begins : 0 < length u.body

-- the statements from which a unit is laid out
pub record IsLaidUnit (u : tree.Unit) : Type 0 where
  pub test : List ℕ → Bool
  pub statements : List Placed
  pub source_shaped : AreOfSource statements
  pub clean : broken_in_unit (laid_out statements) ≡ []
  pub last : lacks_end statements ≡ false
  pub is : unit_of test statements ≡ u

laid_unit : (us : List tree.Unit) (ns : List UnitNames) → Unbroken us ns → (n : ℕ) (u : tree.Unit) → slice_get us n ≡ Some u → IsLaidUnit u
laid_unit us ns h n u at =
    let ps = h.statements in
    let test = is_function_named (titles_of (cut_of ps)) in
    let x = from_map (unit_of test) (cut_of ps) n u (subst (λ (l : List tree.Unit). slice_get l n ≡ Some u) h.units_are at) in
    let wrong = source.wrong_programs (source.program_lines ps) in
    let ends = source.missing_end ps in
    let titles = source.wrong_titles (titles_of (cut_of ps)) 0 (cut_of ps) in
    let units = source.broken_in_units (cut_of ps) in
    let clean = each_empty (λ (c : List Placed). broken_in_unit (laid_out c)) (cut_of ps) n x.0 (right_empty (wrong ++ ends ++ titles) units h.structure) x.1 in
    let missing = right_empty wrong ends (left_empty (wrong ++ ends) titles (left_empty (wrong ++ ends ++ titles) units h.structure)) in
    let of_c = in_all AreOfSource (cut_of ps) n x.0 (cut_source ps (all_of_source ps h.shaped)) x.1 in
    let last = in_all EndsWell (cut_of ps) n x.0 (all_end ps missing) x.1 in
    record { test = test; statements = x.0; source_shaped = of_c; clean = clean; last = last; is = x.2 }

unit_leads : (us : List tree.Unit) (ns : List UnitNames) → Unbroken us ns → (n : ℕ) (u : tree.Unit) → slice_get us n ≡ Some u → UnitLeads u
unit_leads us ns h n u at =
    let l = laid_unit us ns h n u at in
    subst UnitLeads l.is (record { entries = leads_in l.test l.statements l.source_shaped l.clean l.last; begins = begins l.test l.statements l.source_shaped l.clean l.last })

-- what refutes the layout of a unit of a program
pub refuted_by_unit : (p : Program) (n : ℕ) (u : ProgramUnit) → unit_at p n ≡ Some u → (IsLaidUnit u.tree → ⊥) → ⊥
refuted_by_unit p n u is f = from_rules p ⊥ (λ a b. absurd a) (λ h. f (laid_unit p.units.units p.names.units h n u.tree (parts_of p n u is).0))

-- ---- a unit of a program

module _ (p : Program) where
  refuted : (Unbroken p.units.units p.names.units → ⊥) → ⊥
  refuted f = from_rules p ⊥ (λ a b. absurd a) f

  by_unit : (n : ℕ) (u : ProgramUnit) → unit_at p n ≡ Some u → (UnitLeads u.tree → ⊥) → ⊥
  by_unit n u is f = refuted (λ h. f (unit_leads p.units.units p.names.units h n u.tree (parts_of p n u is).0))

  a_point : (n : ℕ) (u : ProgramUnit) → unit_at p n ≡ Some u → (k : ℕ) → (UnitLeads u.tree → k < length u.tree.body) → IsPoint u k
  a_point n u is k inside = go (slice_get u.tree.body k) refl
    where
      none : (e : Entry) → None ≡ Some e → ⊥
      none e h = absurd (cc)

      go : (o : Option Entry) → slice_get u.tree.body k ≡ o → IsPoint u k
      go None at = absurd (by_unit n u is (λ h. let x = got_some u.tree.body k (inside h) in none x.0 (sym at ∙ x.1)))
      go (Some d) at = (record { entry = d; links = links_at u.tree.body (marks_of u.tree.body) k }, point_there u k d at)

  pub unit_begins : (n : ℕ) (u : ProgramUnit) → unit_at p n ≡ Some u → Begins p n
  unit_begins n u is = (u, is, a_point n u is 0 (λ h. h.begins))

  -- ---- calls

  callee_there : (c : Context) (kd : CallKind) (o : Option ℕ) (sc : symbols.Scope) (ts : Trees) → IsUnflagged (reference_judged c (callee_at c kd o) (arguments_judged c sc (callee_at c kd o) 0 ts)).flags
      → (k : ℕ) × (o ≡ Some k) × (s : symbols.Scope) × (slice_get c.scopes k ≡ Some s)
  callee_there c kd None sc ts h = absurd (never (right_unflagged (arguments_judged c sc referent.Unknown 0 ts).flags (e43 true) h).e43)
  callee_there c kd (Some k) sc ts h = go (slice_get c.scopes k) refl
    where
      go : (o : Option symbols.Scope) → slice_get c.scopes k ≡ o → (j : ℕ) × (Some k ≡ Some j) × (s : symbols.Scope) × (slice_get c.scopes j ≡ Some s)
      go None is =
          absurd (never (right_unflagged (arguments_judged c sc referent.Unknown 0 ts).flags (e43 true)
          (subst (λ (o : Option symbols.Scope). IsUnflagged (reference_judged c (callee_in kd k o) (arguments_judged c sc (callee_in kd k o) 0 ts)).flags) is h)).e43)
      go (Some s) is = (k, refl, s, is)

  calls_one_unit : (kd : CallKind) (name : List ℕ) (sc : symbols.Scope) (ts : Trees)
      → IsUnflagged (reference_judged (context p) (callee_at (context p) kd (get (context p).units name)) (arguments_judged (context p) sc (callee_at (context p) kd (get (context p).units name)) 0 ts)).flags → CallsOne p (unit_named p name)
  calls_one_unit kd name sc ts h =
      let x = callee_there (context p) kd (get (context p).units name) sc ts h in
      go x.0 x.1 x.2 (unit_at p x.0) refl (sym (scopes_there p.units.units p.names.units x.0) ∙ x.3)
    where
      no_scope : (s : symbols.Scope) → None ≡ Some s → ⊥
      no_scope s e = absurd (cc)

      go : (k : ℕ) → get (context p).units name ≡ Some k → (s : symbols.Scope) → (o : Option ProgramUnit) → unit_at p k ≡ o → scope_by (unit_at p k) ≡ Some s → CallsOne p (unit_named p name)
      go k number s None is at = absurd (no_scope s (sym (ap scope_by is) ∙ at))
      go k number s (Some w) is at = ((k, w), ap (numbered p) number ∙ ap (option_map {U = ℕ × ProgramUnit} (λ u. (k, u))) is, unit_begins k w is)

  -- ---- references

  kept_passes : (test : Tree → Bool) (ts : List Tree) (i : ℕ) (t : Tree) → slice_get (filter test ts) i ≡ Some t → test t ≡ true
  kept_passes test [] i t e = absurd (cc e)
  kept_passes test (x ∷ ts) i t e = go (test x) refl i e (λ j h. kept_passes test ts j t h)
    where
      the_tree : (a b : Tree) → Some a ≡ Some b → a ≡ b
      the_tree a b h = cc

      go : (b : Bool) → test x ≡ b → (i : ℕ) → slice_get (cond b (x ∷ filter test ts) (filter test ts)) i ≡ Some t → ((j : ℕ) → slice_get (filter test ts) j ≡ Some t → test t ≡ true) → test t ≡ true
      go true is zero e rest = ap test (sym (the_tree x t e)) ∙ is
      go true is (suc i) e rest = rest i e
      go false is i e rest = rest i e

  some_inside : (o : Option Tree) (t : Tree) → option_map {U = Option Tree} Some o ≡ Some (Some t) → o ≡ Some t
  some_inside None t e = absurd (cc e)
  some_inside (Some x) t e = cc e

  module _ (n : ℕ) (u : ProgramUnit) (is : unit_at p n ≡ Some u) (k : ℕ) (e : Entry) (at : slice_get u.tree.body k ≡ Some e) where
    next_calls : (i : ℕ) (t : Tree) → next_reference e i ≡ Some t → is_call p u t ≡ true
    next_calls i t next = kept_passes (is_call p u) (applied_in e.stmt) i t (some_inside (slice_get (calls_among p u (applied_in e.stmt)) i) t (sym (slice_get-map Some (calls_among p u (applied_in e.stmt)) i) ∙ sym (ap (λ (l : List (Option Tree)). slice_get l i) (entry_references p n u k e is at)) ∙ slice_get-map (reference_at e.stmt) e.refs i ∙ go (slice_get e.refs i) next))
      where
        go : (o : Option ℕ) → option_and_then (reference_at e.stmt) o ≡ Some t → option_map (reference_at e.stmt) o ≡ Some (Some t)
        go None h = absurd (cc h)
        go (Some j) h = ap (λ (x : Option Tree). Some x) h

    call_there : (r : Reference) → calls_one r ≡ true → (j : ℕ) × (w : ProgramUnit) × (r ≡ Call j w)
    call_there (Call j w) h = (j, w, refl)
    call_there (Element i v) h = absurd (cc h)
    call_there (Built g) h = absurd (cc h)
    call_there Unknown h = absurd (cc h)

    reference_leads : (f : Frame) (t : Tree) → is_call p u t ≡ true → ReferenceLeads p (action.scope_of p u f) t
    reference_leads f (Ref name args) h =
        let x = call_there (reference_of (names_in p u) name) h in
        (x.0, x.1, x.2, unit_begins x.0 x.1 (reference_calls p (names_in p u) name refl x.0 x.1 x.2).1)
    reference_leads f (Number m) h = absurd (cc h)
    reference_leads f (Truth b) h = absurd (cc h)
    reference_leads f (Named name) h = absurd (cc h)
    reference_leads f (Paren t) h = absurd (cc h)
    reference_leads f (Signed op t) h = absurd (cc h)
    reference_leads f (Not t) h = absurd (cc h)
    reference_leads f (Binary op a b) h = absurd (cc h)

  -- ---- entries

  module _ (n : ℕ) (u : ProgramUnit) (is : unit_at p n ≡ Some u) (k : ℕ) (e : Point) (at : slice_get u.tree.body k ≡ Some e.entry) (linked : e.links ≡ links_in u.tree.body k) where
    entry_leads : UnitLeads u.tree → LeadsIn u.tree.body k e.entry
    entry_leads h = h.entries k e.entry at

    after_point : (s : Stmt) → e.entry.stmt ≡ s → ends_unit s ≡ false → IsPoint u e.entry.after
    after_point s here stays = a_point n u is e.entry.after (λ h. (entry_leads h).after (ap ends_unit here ∙ stays))

    both_points : (s : Stmt) → e.entry.stmt ≡ s → ends_unit s ≡ false → turns s ≡ true → Both u e
    both_points s here stays t =
        (after_point s here stays, a_point n u is e.links.other (λ h. subst (λ (l : EntryLinks). l.other < length u.tree.body) (sym linked) ((entry_leads h).other (ap turns here ∙ t))))

    jump_points : JumpsTo u e.links.jump
    jump_points m to = a_point n u is m (λ h. (entry_leads h).jump m (sym (ap (λ (l : EntryLinks). l.jump) linked) ∙ to))

    goto_point : (label : Label) → e.entry.stmt ≡ stmt.Simple (simple.Goto label) → (m : ℕ) × (e.links.jump ≡ Some m) × IsPoint u m
    goto_point label here = go e.links.jump refl
      where
        go : (o : Option ℕ) → e.links.jump ≡ o → (m : ℕ) × (e.links.jump ≡ Some m) × IsPoint u m
        go None to = absurd (by_unit n u is (λ h. (entry_leads h).goto label here (sym (ap (λ (l : EntryLinks). l.jump) linked) ∙ to)))
        go (Some m) to = (m, to, jump_points m to)

    the_opener : (a b : ℕ) → Some a ≡ Some b → a ≡ b
    the_opener a b h = cc

    the_entry : (a b : Entry) → Some a ≡ Some b → a ≡ b
    the_entry a b h = cc

    no_opener : (o : ℕ) → None ≡ Some o → ⊥
    no_opener o h = absurd (cc)

    no_entry : (d : Entry) → None ≡ Some d → ⊥
    no_entry d h = absurd (cc)

    loop_leads : (s : Stmt) → e.entry.stmt ≡ s → ends_unit s ≡ false → ends_loop s ≡ true → LoopLeads u e
    loop_leads s here stays ends = by_mate e.entry.mate refl
      where
        rule : (h : UnitLeads u.tree) → (o : ℕ) × (d : Entry) × (e.entry.mate ≡ Some o) × (slice_get u.tree.body o ≡ Some d) × (loop_of d.stmt ≡ NoLoop → ⊥) × (d.after < length u.tree.body)
        rule h = (entry_leads h).loop (ap ends_loop here ∙ ends)

        by_loop : (o : ℕ) (d : Entry) → e.entry.mate ≡ Some o → slice_get u.tree.body o ≡ Some d → (l : Loop) → loop_of d.stmt ≡ l → IsALoop l
        by_loop o d mate there (Counted name) is' = tt
        by_loop o d mate there While is' = tt
        by_loop o d mate there NoLoop is' =
            by_unit n u is
            (λ h.
            let x = rule h in
            let same : x.0 ≡ o = the_opener x.0 o (sym x.2 ∙ mate) in
            let alike : x.1 ≡ d = the_entry x.1 d (sym x.3 ∙ ap (slice_get u.tree.body) same ∙ there) in
            x.4 (ap (λ (y : Entry). loop_of y.stmt) alike ∙ is'))

        by_entry : (o : ℕ) → e.entry.mate ≡ Some o → (x : Option Entry) → slice_get u.tree.body o ≡ x → LoopLeads u e
        by_entry o mate None there =
            absurd (by_unit n u is (λ h. let x = rule h in let same : x.0 ≡ o = the_opener x.0 o (sym x.2 ∙ mate) in no_entry x.1 (sym there ∙ ap (slice_get u.tree.body) (sym same) ∙ x.3)))
        by_entry o mate (Some d) there = record {
          opener = o;
          opens = d;
          mate = mate;
          there = there;
          loop = by_loop o d mate there (loop_of d.stmt) refl;
          again = (record { entry = d; links = links_at u.tree.body (marks_of u.tree.body) o }, point_there u o d there);
          inside = a_point n u is d.after
              (λ h.
              let x = rule h in
              let same : x.0 ≡ o = the_opener x.0 o (sym x.2 ∙ mate) in
              subst (λ (y : Entry). y.after < length u.tree.body) (the_entry x.1 d (sym x.3 ∙ ap (slice_get u.tree.body) same ∙ there)) x.5);
          behind = after_point s here stays;
        }

        by_mate : (o : Option ℕ) → e.entry.mate ≡ o → LoopLeads u e
        by_mate None mate = absurd (by_unit n u is (λ h. let x = rule h in no_opener x.0 (sym mate ∙ x.2)))
        by_mate (Some o) mate = by_entry o mate (slice_get u.tree.body o) refl

    not_done : (s : Stmt) → e.entry.stmt ≡ s → is_done s ≡ false → ⊥
    not_done s here undone = by_unit n u is (λ h. never (sym (entry_leads h).done ∙ ap is_done here ∙ undone))

    abbrev flags_at : Stmt → Type 0
    flags_at s = IsUnflagged (typed_flags (context p) (scope_of u.tree u.names) u.names.variables s)

    flags : (s : Stmt) → e.entry.stmt ≡ s → flags_at s
    flags s here = subst flags_at here (flags_here p (meanings p) n u is k e.entry at)

    call_one : (name : List ℕ) (args : Option (List Tree)) → flags_at (stmt.Simple (simple.Call name args)) → CallsOne p (unit_named p name)
    unfolding typed_flags simple_flags
    call_one name None h = calls_one_unit call_kind.Call name (scope_of u.tree u.names) (trees_from []) h
    call_one name (Some ts) h = calls_one_unit call_kind.Call name (scope_of u.tree u.names) (trees_from ts) h

    process_call_one : (name : List ℕ) (part : Option CallPart) → flags_at (stmt.ProcessCall name part) → CallsOne p (unit_named p name)
    unfolding typed_flags
    process_call_one name None h = calls_one_unit call_kind.ProcessCall name (scope_of u.tree u.names) (trees_from []) h
    process_call_one name (Some c) h =
        calls_one_unit call_kind.ProcessCall name (scope_of u.tree u.names) (trees_from c.arguments)
        (left_unflagged (call_flags (context p) (scope_of u.tree u.names) call_kind.ProcessCall name c.arguments) (position_flags (context p) (scope_of u.tree u.names) c.place) h)

    simple_leads : (s : Simple) → e.entry.stmt ≡ stmt.Simple s → SimpleLeads p u e s
    simple_leads (simple.Assignment v t) here = after_point (stmt.Simple (simple.Assignment v t)) here refl
    simple_leads (simple.Goto label) here = goto_point label here
    simple_leads simple.Continue here = after_point (stmt.Simple simple.Continue) here refl
    simple_leads simple.Return here = tt
    simple_leads simple.Stop here = tt
    simple_leads (simple.Call name args) here = (call_one name args (flags (stmt.Simple (simple.Call name args)) here), after_point (stmt.Simple (simple.Call name args)) here refl)
    simple_leads (simple.Print items) here = after_point (stmt.Simple (simple.Print items)) here refl
    simple_leads (simple.Write unit items) here = after_point (stmt.Simple (simple.Write unit items)) here refl
    simple_leads (simple.Channel in_first i o) here = after_point (stmt.Simple (simple.Channel in_first i o)) here refl
    simple_leads (simple.Merger i os) here = after_point (stmt.Simple (simple.Merger i os)) here refl
    simple_leads (simple.Send named q items) here = after_point (stmt.Simple (simple.Send named q items)) here refl
    simple_leads (simple.Receive named q extras items) here = (jump_points, after_point (stmt.Simple (simple.Receive named q extras items)) here refl)
    simple_leads (simple.EndChannel named q) here = after_point (stmt.Simple (simple.EndChannel named q)) here refl
    simple_leads (simple.MovePort from to) here = after_point (stmt.Simple (simple.MovePort from to)) here refl
    simple_leads (simple.Probe named q empty) here = after_point (stmt.Simple (simple.Probe named q empty)) here refl

    statement_leads : (s : Stmt) → e.entry.stmt ≡ s → StatementLeads p u e s
    statement_leads (stmt.Program name) here = absurd (not_done (stmt.Program name) here refl)
    statement_leads (stmt.Process name formals) here = absurd (not_done (stmt.Process name formals) here refl)
    statement_leads (stmt.Subroutine name formals) here = absurd (not_done (stmt.Subroutine name formals) here refl)
    statement_leads (stmt.Function name formals) here = absurd (not_done (stmt.Function name formals) here refl)
    statement_leads (stmt.IntegerFunction name formals) here = absurd (not_done (stmt.IntegerFunction name formals) here refl)
    statement_leads (stmt.LogicalFunction name formals) here = absurd (not_done (stmt.LogicalFunction name formals) here refl)
    statement_leads stmt.ImplicitNone here = absurd (not_done stmt.ImplicitNone here refl)
    statement_leads (stmt.Integer ds) here = absurd (not_done (stmt.Integer ds) here refl)
    statement_leads (stmt.Logical ds) here = absurd (not_done (stmt.Logical ds) here refl)
    statement_leads (stmt.Dimension ds) here = absurd (not_done (stmt.Dimension ds) here refl)
    statement_leads (stmt.Parameter ds) here = absurd (not_done (stmt.Parameter ds) here refl)
    statement_leads (stmt.Inport t ds) here = absurd (not_done (stmt.Inport t ds) here refl)
    statement_leads (stmt.Outport t ds) here = absurd (not_done (stmt.Outport t ds) here refl)
    statement_leads (stmt.Intent way names) here = absurd (not_done (stmt.Intent way names) here refl)
    statement_leads (stmt.Processors es) here = absurd (not_done (stmt.Processors es) here refl)
    statement_leads (stmt.Simple s) here = simple_leads s here
    statement_leads (stmt.LogicalIf t s) here = both_points (stmt.LogicalIf t s) here refl refl
    statement_leads (stmt.BlockIf t) here = both_points (stmt.BlockIf t) here refl refl
    statement_leads (stmt.ElseIf t) here = both_points (stmt.ElseIf t) here refl refl
    statement_leads stmt.Else here = after_point stmt.Else here refl
    statement_leads stmt.EndIf here = after_point stmt.EndIf here refl
    statement_leads (stmt.Do h) here = both_points (stmt.Do h) here refl refl
    statement_leads (stmt.DoWhile t) here = both_points (stmt.DoWhile t) here refl refl
    statement_leads stmt.EndDo here = loop_leads stmt.EndDo here refl refl
    statement_leads stmt.End here = tt
    statement_leads stmt.Processes here = after_point stmt.Processes here refl
    statement_leads stmt.EndProcesses here = after_point stmt.EndProcesses here refl
    statement_leads (stmt.ProcessCall name part) here = (process_call_one name part (flags (stmt.ProcessCall name part) here), after_point (stmt.ProcessCall name part) here refl)
    statement_leads (stmt.ProcessDo h) here = both_points (stmt.ProcessDo h) here refl refl
    statement_leads stmt.EndProcessDo here = loop_leads stmt.EndProcessDo here refl refl
    statement_leads stmt.LoopEnd here = loop_leads stmt.LoopEnd here refl refl

    here_leads : EntryLeads p u e
    here_leads = record {
      statement = statement_leads e.entry.stmt refl;
      references = λ i t f next. reference_leads n u is k e.entry at f t (next_calls n u is k e.entry at i t next);
    }

the_point : (a b : Point) → Some a ≡ Some b → a ≡ b
the_point a b e = cc

no_point : (e : Point) → None ≡ Some e → ⊥
no_point e h = absurd (cc)

pub all_lead : (p : Program) → AllLead p
all_lead p n u k e is at = go (slice_get u.tree.body k) refl
  where
    go : (o : Option Entry) → slice_get u.tree.body k ≡ o → EntryLeads p u e
    go None there = absurd (no_point e (sym (ap (λ (o : Option Entry). point_with o (slice_get (links_of u.tree.body) k)) there) ∙ at))
    go (Some d) there =
        let same = the_point (record { entry = d; links = links_at u.tree.body (marks_of u.tree.body) k }) e (sym (point_there u k d there) ∙ at) in
        here_leads p n u is k e (there ∙ ap (λ (x : Point). Some x.entry) same) (sym (ap (λ (x : Point). x.links) same))
