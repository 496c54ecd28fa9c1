-- Statements on channels do what the meaning does.
use Rattle.std.proofs.Common.{◌≡◌, ℕ, ◌+◌, ◌≤◌, ℤ, pos, Bool, true, false, cond, Option, Some, None, List, [], ◌∷◌, ◌++◌, map, refl, sym, ap, subst, ◌∙◌, arith, append_assoc, Result, Ok, Err}
use Rattle.std.specs.Prelude.{slice_get}
use Rattle.std.specs.Option.{option_map}
use Rattle.std.specs.Ordering.{int_eq}
use Rattle.fm_base.specs.declared.fault.Fault.{Fault}
use Rattle.fm_base.specs.declared.fault.Fault.TheVariants.{NullPort}
use Rattle.fm_base.specs.declared.port.PortValue.{PortValue}
use Rattle.fm_base.specs.declared.port.PortValue.TheVariants.{Writer, Reader}
use Rattle.fm_net.specs.Typed.{AllIn}
use Rattle.fm_tree.specs.Tree.{Trees, trees_from}
use Rattle.fm_tree.specs.PortFields.{PortFields, FieldKind, Integer, In, Out}
use Rattle.fm_tree.specs.PortReading as reading
use Rattle.fm_tree.specs.declared.port_type.Kind.{Kind}
use Rattle.fm_tree.specs.declared.port_type.Kind.TheVariants as kind
use Rattle.fm_tree.specs.declared.statement.Var.{Var}
use Rattle.fm_tree.specs.declared.statement.Extra.{Extra}
use Rattle.fm_tree.specs.declared.statement.Extra.TheVariants as extra
use Rattle.fm_tree.specs.declared.statement.Simple.{Simple}
use Rattle.fm_tree.specs.declared.statement.Simple.TheVariants as simple
use Rattle.fm_tree.specs.declared.statement.Stmt.TheVariants as stmt
use Rattle.fm_symbols.specs.declared.names.Variable.{Variable}
use Rattle.fm_rules.specs.declared.program.Program.{Program}
use Rattle.fm_mean.specs.Operands.{◌>>=◌}
use Rattle.fm_mean.specs.Names.{ProgramUnit, Point, unit_at, line_of, variable_of}
use Rattle.fm_mean.specs.Process as mean
use Rattle.fm_mean.specs.Process.{Execution}
use Rattle.fm_mean.specs.Places.{port_at, emptied_place}
use Rattle.fm_mean.specs.declared.place.Actual.{Actual}
use Rattle.fm_mean.specs.Evaluate.{Scope, place_of, places_of, actuals_of, refs_in_var}
use Rattle.fm_mean.specs.Fits.{sort_of_variable, sort_at, PortFits, MayStand}
use Rattle.fm_mean.specs.Typing.{sort_of, ExtraFits}
use Rattle.fm_mean.specs.TypedTrees.{SimpleHasTypes, StatementHasTypes}
use Rattle.fm_mean.specs.Actions.{Action, fails, cut_items, sent_items, sent, sends, fields_at, iostat_of, receives_at, receives, receive_places, closed, closes, moves, probes_at, probes, two_places, makes, merges, channel_places, merger_places, simple_action}
use Rattle.fm_mean.proofs.Sorts.{parts, place_sort}
use Rattle.fm_code.specs.declared.ask.Ask.TheVariants as ask
use Rattle.fm_code.specs.declared.body.Frame.{Frame}
use Rattle.fm_code.specs.declared.instr.Instr.{Instr}
use Rattle.fm_code.specs.declared.instr.Instr.TheVariants as instr
use Rattle.fm_code.specs.declared.instr.Build.TheVariants as build
use Rattle.fm_code.specs.declared.instr.Meet.TheVariants as meet
use Rattle.fm_code.specs.declared.scratch.Scratch.{Scratch}
use Rattle.fm_code.specs.Acts as acts
use Rattle.fm_code.specs.Acts.{StatementEnd, Act, On, Over, Fails, found, at_word, by_port, at_port, asks, then_work, work, nothing}
use Rattle.fm_mean.specs.Referring.{names_in}
use Rattle.fm_gen_relation.specs.Sound.{is_word, IsVariable, IsWord, IsPort, IsSoundUnit, IsSoundEntry, IsSoundSimple, IsSoundStatement, count_iostat}
use Rattle.fm_gen_relation.specs.Standing.{Slots, port_by, scope_in, IsFrame, AreAllDone}
use Rattle.fm_gen_relation.specs.Operands.{MeanSpan, word_number, holds_words, IsPlace, IsActual, item_of, IsItem, operand_of, target_of}
use Rattle.fm_gen_relation.specs.Targets.{TargetsFit}
use Rattle.fm_gen_relation.proofs.Units.{sound_unit}
use Rattle.fm_gen_relation.proofs.Targets.{targets_fit}
use Rattle.fm_gen_relation.specs.Frames.{Stands}
use Rattle.fm_gen_relation.specs.Calls.{VarDone, VarsDone, ExtrasDone, PairDone, ChannelDone, SimpleDone, refs_in_extras}
use Rattle.fm_gen_relation.proofs.Actuals.{actuals_whole, place_whole, places_whole, port_whole, port_places_whole, inport_there, outport_there}
use Rattle.fm_gen_operands.specs.Places.{var_code, arguments_code, targets_code}
use Rattle.fm_gen_operands.specs.Keeps.{then, with_operands}
use Rattle.fm_gen_operands.proofs.Follows.{all_refs_same, then_with}
use Rattle.fm_gen_operands.proofs.PlaceLaws.{keeps_place}
use Rattle.fm_gen_operands.proofs.ActualLaws.{keeps_actuals, keeps_targets}
use Rattle.fm_gen.specs.Statements.{Addresses, cuts_code, send_code, extras_code, refs_behind, receive_end, receive_code, channel_code, merger_code, close_code, two_code, simple_code}
use Rattle.fm_gen.specs.Steps.{Site, IsStatus, Agree}
use Rattle.fm_gen.specs.Asking.{IsAsking}
use Rattle.fm_gen.proofs.StoreLaws.{agree_then}
use Rattle.fm_gen.proofs.CutLaws.{items_whole, actuals_are, null_fails, cuts_follow}
use Rattle.fm_gen.proofs.PortPlaces.{emptied_port, at_place, port_here}

-- A name that has a sort is that of a variable.

sorted_there : (r : FieldKind) (o : Option (ℕ × Variable)) → option_map (λ v. (sort_of_variable v.1)) o ≡ Some r → (w : ℕ × Variable) × (o ≡ Some w)
sorted_there r None e = absurd (cc e)
sorted_there r (Some w) e = (w, refl)

variable_there : (u : ProgramUnit) (name : List ℕ) (r : FieldKind) → sort_of u name ≡ Some r → IsVariable u name
variable_there u name r e = sorted_there r (variable_of u name) e

-- one that has the sort of an integer is that of a word
is_word_of : (q : Kind) → reading.kind_of q ≡ Integer → is_word q ≡ true
is_word_of kind.Integer e = refl
is_word_of kind.Logical e = refl
is_word_of (kind.In t) e = absurd (cc)
is_word_of (kind.Out t) e = absurd (cc)

word_there : (u : ProgramUnit) (name : List ℕ) → sort_of u name ≡ Some Integer → IsWord u name
word_there u name e = go (variable_of u name) refl e
  where
    the_sort : (a b : FieldKind) → Some a ≡ Some b → a ≡ b
    the_sort a b e = cc

    go : (o : Option (ℕ × Variable)) → variable_of u name ≡ o → option_map (λ v. (sort_of_variable v.1)) o ≡ Some Integer → IsWord u name
    go None at e = absurd (cc e)
    go (Some w) at e = (w, at, is_word_of w.1.kind (the_sort (sort_of_variable w.1) Integer e))

variables_there : (u : ProgramUnit) (r : FieldKind) (vs : List Var) → AllIn (λ (v : Var). sort_of u v.name ≡ Some r) vs → AllIn (λ (v : Var). IsVariable u v.name) vs
variables_there u r [] all = tt
variables_there u r (v ∷ vs) all = (variable_there u v.name r all.0, variables_there u r vs all.1)

-- both instructions of a RECEIVE do the same, with what END leads to or without
receive_ends : (to : Option ℕ) (next : ℕ) (x : ℤ) (s : List ℤ) (b : Scratch) (m : Frame)
    → work (receive_end to next ∷ []) (x ∷ s) b m ≡ then_work (acts.receives b m x to next) (λ s b. work [] s b m)
receive_ends None next x s b m = refl
receive_ends (Some n) next x s b m = refl

module _ (p : Program) (number : ℕ) (u : ProgramUnit) (here : unit_at p number ≡ Some u) (slots : Slots) (m : Frame) (frame : IsFrame u slots m)
    (w : Execution) (e : Point) (f : mean.Frame) (below : List mean.Frame) (address : Addresses) (behind join : ℕ) (stands : Stands u slots f m) where
  abbrev site : Site
  site = record { program = p; unit = u; slots = slots; address = address; behind = behind; join = join; runs = w; point = e; frame = f; below = below; code = m }

  abbrev now : Scope
  now = scope_in p u slots m

  abbrev vars : List Variable
  vars = u.names.variables

  abbrev word : MeanSpan → ℕ
  word = word_number u.names.variables

  abbrev next : ℕ
  next = address e.entry.after

  abbrev refs : Var → ℕ
  refs v = refs_in_var (scope_in p u slots m) v

  sound : IsSoundUnit u
  sound = sound_unit p number u here

  refs_same : (v : Var) → refs_in_var now v ≡ refs_in_var (names_in p u) v
  refs_same v = all_refs_same p u slots m (trees_from v.subscripts)

  -- One part after another, in both.

  place_then : (v : Var) (n : ℕ) → VarDone now v n → (is : List Instr) (s : List ℤ) (b : Scratch) (a : Result MeanSpan Fault → Action) → ((fault : Fault) → a (Err fault) ≡ fails (line_of e) fault)
      → ((q : MeanSpan) → place_of now v n ≡ Ok q → Agree site (work is (pos (word q) ∷ s) b m) (a (Ok q)))
      → Agree site (work (var_code p u v n ++ is) s b m) (a (place_of now v n))
  place_then v n done is s b a fail go =
      subst (λ t. Agree site t (a (place_of now v n))) (sym (keeps_place p number u sound here v n slots m frame done is s b)) (agree_then site (place_of now v n) _ a fail go)

  actuals_then : (ts : Trees) (n : ℕ) → AreAllDone now ts n → (is : List Instr) (s : List ℤ) (b : Scratch) (a : Result (List Actual) Fault → Action) → ((fault : Fault) → a (Err fault) ≡ fails (line_of e) fault)
      → ((xs : List Actual) → actuals_of now ts n ≡ Ok xs → Agree site (work is s (with_operands b (map (operand_of vars) xs)) m) (a (Ok xs)))
      → Agree site (work (arguments_code p u ts n ++ is) s b m) (a (actuals_of now ts n))
  actuals_then ts n done is s b a fail go =
      subst (λ t. Agree site t (a (actuals_of now ts n))) (sym (keeps_actuals p number u sound here ts n slots m frame done is s b)) (agree_then site (actuals_of now ts n) _ a fail go)

  targets_then : (vs : List Var) (n : ℕ) → AllIn (λ (v : Var). IsVariable u v.name) vs → VarsDone now vs n → (is : List Instr) (s : List ℤ) (b : Scratch) (a : Result (List MeanSpan) Fault → Action)
      → ((fault : Fault) → a (Err fault) ≡ fails (line_of e) fault)
      → ((qs : List MeanSpan) → places_of now vs n ≡ Ok qs → Agree site (work is s (with_operands b (map (target_of vars) qs)) m) (a (Ok qs)))
      → Agree site (work (targets_code p u vs n ++ is) s b m) (a (places_of now vs n))
  targets_then vs n known done is s b a fail go =
      subst (λ t. Agree site t (a (places_of now vs n))) (sym (keeps_targets p number u sound here vs n known slots m frame done is s b)) (agree_then site (places_of now vs n) _ a fail go)

  -- two places, one after the other
  pair_then : (v o : Var) → PairDone now v o → (i : Instr) (pair : MeanSpan → MeanSpan → MeanSpan × MeanSpan) (a : Result (MeanSpan × MeanSpan) Fault → Action)
      → ((fault : Fault) → a (Err fault) ≡ fails (line_of e) fault)
      → ((x y : MeanSpan) → place_of now v 0 ≡ Ok x → place_of now o (refs v) ≡ Ok y → Agree site (work (i ∷ []) (pos (word y) ∷ pos (word x) ∷ []) nothing m) (a (Ok (pair x y))))
      → Agree site (work (two_code p u v o i) [] nothing m) (a (place_of now v 0 >>= λ x. place_of now o (refs v) >>= λ y. Ok (pair x y)))
  pair_then v o done i pair a fail go =
      place_then v 0 done.0 _ [] nothing (λ r. a (r >>= λ x. place_of now o (refs v) >>= λ y. Ok (pair x y))) fail (λ x is.
      subst (λ k. Agree site (work (var_code p u o k ++ i ∷ []) (pos (word x) ∷ []) nothing m) (a (place_of now o (refs v) >>= λ y. Ok (pair x y)))) (refs_same v)
      (place_then o (refs v) done.1 (i ∷ []) (pos (word x) ∷ []) nothing (λ r. a (r >>= λ y. Ok (pair x y))) fail (λ y at. go x y is at)))

  -- Words of ports.

  word_agrees : (slot : ℤ) (i : ℕ) (null : Bool) (g : ℤ → Act) (j : List ℤ → Scratch → StatementEnd) (a : Option PortValue → Action) → a None ≡ fails (line_of e) NullPort
      → ((r : FieldKind) → sort_at vars i ≡ Some r → MayStand frame.types r (cond null None (Some (slots slot))))
      → (null ≡ false → ((r : FieldKind) → sort_at vars i ≡ Some r → PortFits frame.types r (slots slot)) → Agree site (then_work (g slot) j) (a (Some (slots slot))))
      → Agree site (then_work (cond null (Over (Fails NullPort)) (g slot)) j) (a (cond null None (Some (slots slot))))
  word_agrees slot i true g j a none fits live = none
  word_agrees slot i false g j a none fits live = live refl fits

  -- where the word of a port is 0 both fail
  port_agrees : (q : MeanSpan) → IsPlace vars false q → 1 ≤ q.count → (g : ℤ → Act) (j : List ℤ → Scratch → StatementEnd) (a : Option PortValue → Action) → a None ≡ fails (line_of e) NullPort
      → ((slot : ℤ) → int_eq slot (pos 0) ≡ false → port_at f.values q ≡ Some (slots slot) → ((r : FieldKind) → sort_at vars q.variable ≡ Some r → PortFits frame.types r (slots slot))
      → Agree site (then_work (g slot) j) (a (Some (slots slot))))
      → Agree site (then_work (at_port m (pos (word q)) g) j) (a (port_at f.values q))
  port_agrees q place some g j a none live =
      let h = port_here u slots m frame q place some in
      let there : port_at f.values q ≡ port_by slots h.slot = ap (λ xs. port_at xs q) stands.values ∙ h.port in
      subst (λ c. Agree site (then_work c j) (a (port_at f.values q))) (sym (at_place u slots m frame false q place some (λ k. by_port m k g)))
      (subst (λ o. Agree site (then_work (found o (λ v. cond (int_eq v (pos 0)) (Over (Fails NullPort)) (g v))) j) (a (port_at f.values q))) (sym h.at)
      (subst (λ o. Agree site (then_work (cond (int_eq h.slot (pos 0)) (Over (Fails NullPort)) (g h.slot)) j) (a o)) (sym there)
      (word_agrees h.slot q.variable (int_eq h.slot (pos 0)) g j a none h.fits (λ null fits. live h.slot null (there ∙ ap (λ b. cond b None (Some (slots h.slot))) null) fits))))

  -- two words of the frame
  two_words : (x y : MeanSpan) (c d : Bool) → IsPlace vars c x × (1 ≤ x.count) → IsPlace vars d y × (1 ≤ y.count) → (g : ℕ → ℕ → Act)
      → at_word m (pos (word x)) (λ i. at_word m (pos (word y)) (λ k. g i k)) ≡ g (word x) (word y)
  two_words x y c d one two g =
      at_place u slots m frame c x one.0 one.1 (λ i. at_word m (pos (word y)) (λ k. g i k)) ∙ at_place u slots m frame d y two.0 two.1 (λ k. g (word x) k)

  -- SEND

  -- at a port that isn't NULL both cut the items alike, and send them
  sent_by : (t fields : PortFields) (x slot : ℤ) (xs : List Actual) → AllIn (IsItem vars f.values) xs → int_eq slot (pos 0) ≡ false → ((g : ℤ → Act) → at_port m x g ≡ g slot)
      → (z : PortValue) → slots slot ≡ z → PortFits frame.types (Out t) z
      → Agree site (work (cuts_code 0 fields ++ instr.Meet (meet.Send next) ∷ []) (x ∷ []) (record nothing { operands = map (item_of vars) xs }) m) (sent e fields (Some z) xs)
  sent_by t fields x slot xs whole live at (Reader c) is fits = absurd fits
  sent_by t fields x slot xs whole live at (Writer c k) is fits =
      subst (λ t. Agree site t (sent_items e c k (cut_items [] fields xs))) (sym (cuts_follow vars slots m f.values stands.values x slot next at fields [] xs tt whole))
      (agree_then site (cut_items [] fields xs) _ (λ r. sent_items e c k r) (λ fault. refl) (λ items are.
      record { channel = c; writer = k; actuals = items; live = live; port = is; same = refl; whole = items_whole vars f.values fields [] xs items whole are; leads = refl; does = refl }))

  sent_follows : (t fields : PortFields) (x slot : ℤ) (xs : List Actual) → AllIn (IsItem vars f.values) xs
      → (null : Bool) → int_eq slot (pos 0) ≡ null → ((g : ℤ → Act) → at_port m x g ≡ cond null (Over (Fails NullPort)) (g slot)) → MayStand frame.types (Out t) (cond null None (Some (slots slot)))
      → Agree site (work (cuts_code 0 fields ++ instr.Meet (meet.Send next) ∷ []) (x ∷ []) (record nothing { operands = map (item_of vars) xs }) m)
      (sent e fields (cond null None (Some (slots slot))) xs)
  sent_follows t fields x slot xs whole true live at fits =
      subst (λ t. Agree site t (fails (line_of e) NullPort)) (sym (null_fails m x next at fields 0 (record nothing { operands = map (item_of vars) xs }))) refl
  sent_follows t fields x slot xs whole false live at fits = sent_by t fields x slot xs whole live at (slots slot) refl fits

  send_follows : (t : PortFields) (q : Var) (ts : Trees) → sort_of u q.name ≡ Some (Out t) → VarDone now q 0 → AreAllDone now ts (refs q)
      → Agree site (work (send_code p u q ts next) [] nothing m) (sends e (fields_at u q) f (place_of now q 0) (actuals_of now ts (refs q)))
  send_follows t q ts sort done all =
      let fields = fields_at u q in
      let code = cuts_code 0 fields ++ instr.Meet (meet.Send next) ∷ [] in
      place_then q 0 done _ [] nothing (λ r. sends e fields f r (actuals_of now ts (refs q))) (λ fault. refl) (λ x is.
      let stack = pos (word x) ∷ [] in
      subst (λ k. Agree site (work (arguments_code p u ts k ++ code) stack nothing m) (sends e fields f (Ok x) (actuals_of now ts (refs q)))) (refs_same q)
      (actuals_then ts (refs q) all code stack nothing (λ r. sends e fields f (Ok x) r) (λ fault. refl) (λ xs are.
      let at = port_whole now sound q 0 x (outport_there u q.name t sort) is in
      let whole : AllIn (IsActual vars f.values) xs = subst (λ l. AllIn (IsActual vars l) xs) (sym stands.values) (actuals_whole now sound.sized ts (refs q) xs are).0 in
      let items = actuals_are u sound slots m frame.sized f.values stands.values xs whole in
      let h = port_here u slots m frame x at.0 at.1 in
      let there : port_at f.values x ≡ port_by slots h.slot = ap (λ xs. port_at xs x) stands.values ∙ h.port in
      subst (λ os. Agree site (work code stack (record nothing { operands = os }) m) (sent e fields (port_at f.values x) xs)) items.1
      (subst (λ o. Agree site (work code stack (record nothing { operands = map (item_of vars) xs }) m) (sent e fields o xs)) (sym there)
      (sent_follows t fields (pos (word x)) h.slot xs items.0 (int_eq h.slot (pos 0)) refl (λ g. at_place u slots m frame false x at.0 at.1 (λ k. by_port m k g) ∙ ap (λ o. found o (λ v. cond (int_eq v (pos 0)) (Over (Fails NullPort)) (g v))) h.at)
      (h.fits (Out t) (place_sort now q 0 x (Out t) is sort)))))))

  -- RECEIVE

  -- a statement has one IOSTAT at most
  no_status : (es : List Extra) (n : ℕ) → count_iostat es ≡ 0 → extras_code p u es n ≡ []
  no_status [] n none = refl
  no_status (extra.End l ∷ es) n none = no_status es n none
  no_status (extra.Iostat v ∷ es) n none = absurd (omega (arith, none))

  no_place : (es : List Extra) (n : ℕ) → count_iostat es ≡ 0 → iostat_of now es n ≡ Ok (None, n)
  no_place [] n none = refl
  no_place (extra.End l ∷ es) n none = no_place es n none
  no_place (extra.Iostat v ∷ es) n none = absurd (omega (arith, none))

  abbrev statused : Option MeanSpan → Scratch
  statused o = record nothing { status = option_map word o }

  extras_follow : (es : List Extra) (n : ℕ) → count_iostat es ≤ 1 → AllIn (ExtraFits u) es → ExtrasDone now es n → (is : List Instr) (s : List ℤ)
      → work (extras_code p u es n ++ is) s nothing m ≡ then (iostat_of now es n) (λ r. work is s (statused r.0) m)
  extras_follow [] n few fit done is s = refl
  extras_follow (extra.End l ∷ es) n few fit done is s = extras_follow es n few fit.1 done is s
  extras_follow (extra.Iostat v ∷ es) n few fit done is s =
      let none : count_iostat es ≡ 0 = omega (arith, few) in
      let named = variable_there u v.name Integer fit.0 in
      let k = n + refs_in_var (names_in p u) v in
      ap (λ c. work c s nothing m) (append_assoc (var_code p u v n) (instr.Build build.Status ∷ extras_code p u es k) is)
      ∙ keeps_place p number u sound here v n slots m frame done.0 (instr.Build build.Status ∷ (extras_code p u es k ++ is)) s nothing
      ∙ then_with (place_of now v n) _ _ _ (λ q at.
      let one = place_whole now sound named.0 v n q named.1 at in
      ap (λ c. work (instr.Build build.Status ∷ (c ++ is)) (pos (word q) ∷ s) nothing m) (no_status es k none)
      ∙ ap (λ a. then_work a (λ s b. work is s b m)) (at_place u slots m frame (is_word named.0.1.kind) q one.0 one.1 (λ k. On s (record nothing { status = Some k })))
      ∙ sym (ap (λ r. then {A = Option MeanSpan × ℕ} (r >>= λ r. Ok (Some q, r.1)) (λ r. work is s (statused r.0) m)) (no_place es (n + refs v) none)))

  the_status : (a b : Option MeanSpan × ℕ) → ◌≡◌ {A = Result (Option MeanSpan × ℕ) Fault} (Ok a) (Ok b) → a ≡ b
  the_status a b is = cc

  the_number : (a b : Option MeanSpan × ℕ) → ◌≡◌ {A = Result (Option MeanSpan × ℕ) Fault} (Ok a) (Ok b) → a.1 ≡ b.1
  the_number a b is = ap (λ (x : Option MeanSpan × ℕ). x.1) (the_status a b is)

  -- how many references stand before the items
  behind_extras : (es : List Extra) (n : ℕ) (r : Option MeanSpan × ℕ) → iostat_of now es n ≡ Ok r → r.1 ≡ refs_behind now es n
  behind_extras [] n r is = sym (the_number (None, n) r is)
  behind_extras (extra.End l ∷ es) n r is = behind_extras es n r is
  behind_extras (extra.Iostat v ∷ es) n r is =
      let a = parts (place_of now v n) _ r is in
      let b = parts (iostat_of now es (n + refs v)) _ r a.2 in
      sym (the_number (Some a.0, b.0.1) r b.2) ∙ behind_extras es (n + refs v) b.0 b.1

  behind_same : (es : List Extra) (n : ℕ) → refs_behind now es n ≡ refs_behind (names_in p u) es n
  behind_same [] n = refl
  behind_same (extra.End l ∷ es) n = behind_same es n
  behind_same (extra.Iostat v ∷ es) n = ap (λ k. refs_behind now es (n + k)) (refs_same v) ∙ behind_same es (n + refs_in_var (names_in p u) v)

  -- they are counted
  behind_counted : (es : List Extra) (n : ℕ) → refs_behind now es n ≡ n + refs_in_extras now es
  behind_counted [] n = omega arith
  behind_counted (extra.End l ∷ es) n = behind_counted es n
  behind_counted (extra.Iostat v ∷ es) n = behind_counted es (n + refs v) ∙ omega arith

  -- IOSTAT stands at a word
  status_there : (es : List Extra) (n : ℕ) (r : Option MeanSpan × ℕ) → AllIn (ExtraFits u) es → iostat_of now es n ≡ Ok r → IsStatus site r.0
  status_there [] n r fit is = subst (λ (r : Option MeanSpan × ℕ). IsStatus site r.0) (the_status (None, n) r is) tt
  status_there (extra.End l ∷ es) n r fit is = status_there es n r fit.1 is
  status_there (extra.Iostat v ∷ es) n r fit is =
      let named = word_there u v.name fit.0 in
      let a = parts (place_of now v n) _ r is in
      let b = parts (iostat_of now es (n + refs v)) _ r a.2 in
      let one : IsPlace vars true a.0 × (1 ≤ a.0.count) = subst (λ c. IsPlace vars c a.0 × (1 ≤ a.0.count)) named.2 (place_whole now sound named.0 v n a.0 named.1 a.1) in
      subst (λ (r : Option MeanSpan × ℕ). IsStatus site r.0) (the_status (Some a.0, b.0.1) r b.2) one

  abbrev to : Option ℕ
  to = option_map address e.links.jump

  received : (t : PortFields) (vs : List Var) (n : ℕ) → TargetsFit u t vs → (slot : ℤ) (x : MeanSpan) (status : Option MeanSpan) (qs : List MeanSpan) → places_of now vs n ≡ Ok qs
      → AllIn (λ (q : MeanSpan). IsPlace vars (holds_words vars q.variable) q) qs → IsStatus site status → int_eq slot (pos 0) ≡ false
      → sort_at vars x.variable ≡ Some (In t) → port_at f.values x ≡ Some (slots slot) → (z : PortValue) → slots slot ≡ z → PortFits frame.types (In t) z
      → Agree site (acts.Asks (ask.Receive slot (map (target_of vars) qs) (option_map word status) to next)) (receives_at e (x, status, qs) (Some z))
  received t vs n targets slot x status qs are whole status_whole live sort stood (Writer c k) is fits = absurd fits
  received t vs n targets slot x status qs are whole status_whole live sort stood (Reader c) is fits = record {
    channel = c;
    places = qs;
    iostat = status;
    live = live;
    port = is;
    same = refl;
    whole = whole;
    fields = t;
    inport = x;
    stands = stood ∙ ap Some is;
    sort = sort;
    targets = vs;
    done = n;
    evaluated = are;
    fit = targets;
    status_whole = status_whole;
    status_is = refl;
    at_end_is = refl;
    leads = refl;
    does = refl;
  }

  receive_follows : (t : PortFields) (q : Var) (es : List Extra) (vs : List Var) → sort_of u q.name ≡ Some (In t) → TargetsFit u t vs → count_iostat es ≤ 1 → AllIn (ExtraFits u) es → AllIn (λ (v : Var). IsVariable u v.name) vs
      → VarDone now q 0 → ExtrasDone now es (refs q) → VarsDone now vs (refs_behind now es (refs q))
      → Agree site (work (receive_code p u q es vs to next) [] nothing m) (receives e f (receive_places now q es vs))
  receive_follows t q es vs sort targets few fit known done extras_done all =
      place_then q 0 done _ [] nothing (λ r. receives e f (r >>= λ x. iostat_of now es (refs q) >>= λ r. places_of now vs r.1 >>= λ is. Ok (x, r.0, is))) (λ fault. refl) (λ x is.
      let at = port_whole now sound q 0 x (inport_there u q.name t sort) is in
      let ends = receive_end to next ∷ [] in
      let stack = pos (word x) ∷ [] in
      subst (λ k. Agree site (work (extras_code p u es k ++ (targets_code p u vs (refs_behind (names_in p u) es k) ++ ends)) stack nothing m)
      (receives e f (iostat_of now es (refs q) >>= λ r. places_of now vs r.1 >>= λ is. Ok (x, r.0, is)))) (refs_same q)
      (subst (λ t. Agree site t (receives e f (iostat_of now es (refs q) >>= λ r. places_of now vs r.1 >>= λ is. Ok (x, r.0, is))))
      (sym (extras_follow es (refs q) few fit extras_done (targets_code p u vs (refs_behind (names_in p u) es (refs q)) ++ ends) stack))
      (agree_then site (iostat_of now es (refs q)) _ (λ o. receives e f (o >>= λ r. places_of now vs r.1 >>= λ is. Ok (x, r.0, is))) (λ fault. refl) (λ r got.
      let before : r.1 ≡ refs_behind now es (refs q) = behind_extras es (refs q) r got in
      subst (λ k. Agree site (work (targets_code p u vs k ++ ends) stack (statused r.0) m) (receives e f (places_of now vs r.1 >>= λ is. Ok (x, r.0, is)))) (before ∙ behind_same es (refs q))
      (targets_then vs r.1 known (subst (λ k. VarsDone now vs k) (sym before) all) ends stack (statused r.0) (λ l. receives e f (l >>= λ is. Ok (x, r.0, is))) (λ fault. refl) (λ qs are.
      subst (λ t. Agree site t (receives_at e (x, r.0, qs) (port_at f.values x))) (sym (receive_ends to next (pos (word x)) [] (with_operands (statused r.0) (map (target_of vars) qs)) m))
      (port_agrees x at.0 at.1 (λ slot. asks (ask.Receive slot (map (target_of vars) qs) (option_map word r.0) to next)) (λ s b. work [] s b m) (λ o. receives_at e (x, r.0, qs) o) refl (λ slot live stood fits.
      let at_sort = place_sort now q 0 x (In t) is sort in
      received t vs r.1 targets slot x r.0 qs are (places_whole now sound vs r.1 qs known are) (status_there es (refs q) r fit got) live at_sort stood (slots slot) refl (fits (In t) at_sort)))))))))

  -- CHANNEL and MERGER

  made : (x y : MeanSpan) → IsPlace vars false x × (1 ≤ x.count) → IsPlace vars false y × (1 ≤ y.count) → Agree site (acts.Asks (ask.Channel (word x) (word y) next)) (makes e (Ok (x, y)))
  made x y one two =
      record { i = x; o = y; first = record { place = one.0; some = one.1 }; second = record { place = two.0; some = two.1 }; inport_is = refl; outport_is = refl; leads = refl; does = refl }

  channel_follows : (in_first : Bool) (i o : Var) → IsPort u i.name → IsPort u o.name → ChannelDone now in_first i o
      → Agree site (work (channel_code p u in_first i o next) [] nothing m) (makes e (channel_places now in_first i o))
  channel_follows true i o inport outport done =
      pair_then i o done (instr.Meet (meet.Channel next)) (λ x y. (x, y)) (λ r. makes e r) (λ fault. refl) (λ x y is at.
      let one = port_whole now sound i 0 x inport is in
      let two = port_whole now sound o (refs i) y outport at in
      subst (λ c. Agree site (then_work c (λ s b. work [] s b m)) (makes e (Ok (x, y)))) (sym (two_words x y false false one two (λ k n. asks (ask.Channel k n next)))) (made x y one two))
  channel_follows false i o inport outport done =
      pair_then o i done (instr.Meet (meet.ChannelFrom next)) (λ x y. (y, x)) (λ r. makes e r) (λ fault. refl) (λ x y is at.
      let one = port_whole now sound o 0 x outport is in
      let two = port_whole now sound i (refs o) y inport at in
      subst (λ c. Agree site (then_work c (λ s b. work [] s b m)) (makes e (Ok (y, x)))) (sym (two_words x y false false one two (λ k n. asks (ask.Channel n k next)))) (made y x two one))

  merger_follows : (t : PortFields) (i : Var) (os : List Var) → IsPort u i.name → AllIn (λ (v : Var). sort_of u v.name ≡ Some (Out t)) os → VarDone now i 0 → VarsDone now os (refs i)
      → Agree site (work (merger_code p u i os next) [] nothing m) (merges e (merger_places now i os))
  merger_follows t i os inport sorts done all =
      place_then i 0 done _ [] nothing (λ r. merges e (r >>= λ x. places_of now os (refs i) >>= λ ys. Ok (x, ys))) (λ fault. refl) (λ x is.
      let one = port_whole now sound i 0 x inport is in
      subst (λ k. Agree site (work (targets_code p u os k ++ instr.Meet (meet.Merger next) ∷ []) (pos (word x) ∷ []) nothing m) (merges e (places_of now os (refs i) >>= λ ys. Ok (x, ys)))) (refs_same i)
      (targets_then os (refs i) (variables_there u (Out t) os sorts) all (instr.Meet (meet.Merger next) ∷ []) (pos (word x) ∷ []) nothing (λ r. merges e (r >>= λ ys. Ok (x, ys))) (λ fault. refl) (λ ys are.
      subst (λ c. Agree site (then_work c (λ s b. work [] s b m)) (merges e (Ok (x, ys)))) (sym (at_place u slots m frame false x one.0 one.1 (λ k. asks (ask.Merger k (map (target_of vars) ys) next))))
      (record { i = x; os = ys; first = record { place = one.0; some = one.1 }; others = port_places_whole now sound t os (refs i) ys sorts are; inport_is = refl; outports_are = refl; leads = refl; does = refl }))))

  -- ENDCHANNEL, MOVEPORT and PROBE

  close_agrees : (x : MeanSpan) → IsPlace vars false x → 1 ≤ x.count → (slot : ℤ) → slice_get m.words (word x) ≡ Some slot → (null : Bool) → int_eq slot (pos 0) ≡ null
      → (emptied_place f.values x).1 ≡ cond null None (Some (slots slot))
      → Agree site (then_work (cond null (Over (Fails NullPort)) (Over (acts.Closes (word x) next))) (λ s b. work [] s b m)) (closes w e f below (Ok x))
  close_agrees x place some slot at true null is = ap (λ o. closed w e f below (emptied_place f.values x).0 o) is
  close_agrees x place some slot at false null is =
      record { span = x; slot = slot; holds = record { place = place; some = some; at = at; live = null }; number = refl; leads = refl; does = refl }

  close_follows : (q : Var) → IsPort u q.name → VarDone now q 0 → Agree site (work (close_code p u q next) [] nothing m) (closes w e f below (place_of now q 0))
  close_follows q port done =
      place_then q 0 done (instr.Meet (meet.EndChannel next) ∷ []) [] nothing (λ r. closes w e f below r) (λ fault. refl) (λ x is.
      let one = port_whole now sound q 0 x port is in
      let h = port_here u slots m frame x one.0 one.1 in
      subst (λ c. Agree site (then_work c (λ s b. work [] s b m)) (closes w e f below (Ok x))) (sym (at_place u slots m frame false x one.0 one.1 (λ k. acts.closes m next k)))
      (subst (λ o. Agree site (then_work (found o (λ v. cond (int_eq v (pos 0)) (Over (Fails NullPort)) (Over (acts.Closes (word x) next)))) (λ s b. work [] s b m)) (closes w e f below (Ok x))) (sym h.at)
      (close_agrees x one.0 one.1 h.slot h.at (int_eq h.slot (pos 0)) refl (emptied_port f.values x ∙ ap (λ xs. port_at xs x) stands.values ∙ h.port))))

  move_follows : (from into : Var) → IsPort u from.name → IsPort u into.name → PairDone now from into
      → Agree site (work (two_code p u from into (instr.Meet (meet.MovePort next))) [] nothing m) (moves w e f below (two_places now from into))
  move_follows from into port other done =
      pair_then from into done (instr.Meet (meet.MovePort next)) (λ x y. (x, y)) (λ r. moves w e f below r) (λ fault. refl) (λ x y is at.
      let one = port_whole now sound from 0 x port is in
      let two = port_whole now sound into (refs from) y other at in
      subst (λ c. Agree site (then_work c (λ s b. work [] s b m)) (moves w e f below (Ok (x, y)))) (sym (two_words x y false false one two (λ k n. Over (acts.Moves k n next))))
      (record { source = x; target = y; first = record { place = one.0; some = one.1 }; second = record { place = two.0; some = two.1 }; from_is = refl; into_is = refl; leads = refl; does = refl }))

  probed : (t : PortFields) (slot : ℤ) (y : MeanSpan) → IsPlace vars true y → 1 ≤ y.count → int_eq slot (pos 0) ≡ false → (z : PortValue) → slots slot ≡ z → PortFits frame.types (In t) z
      → Agree site (acts.Asks (ask.Probe slot (word y) next)) (probes_at e y (Some z))
  probed t slot y whole some live (Writer c k) is fits = absurd fits
  probed t slot y whole some live (Reader c) is fits = record { channel = c; place = y; live = live; port = is; whole = whole; some = some; number = refl; leads = refl; does = refl }

  probe_follows : (t : PortFields) (q empty : Var) → sort_of u q.name ≡ Some (In t) → IsWord u empty.name → PairDone now q empty
      → Agree site (work (two_code p u q empty (instr.Meet (meet.Probe next))) [] nothing m) (probes e f (two_places now q empty))
  probe_follows t q empty sort named done =
      pair_then q empty done (instr.Meet (meet.Probe next)) (λ x y. (x, y)) (λ r. probes e f r) (λ fault. refl) (λ x y is at.
      let one = port_whole now sound q 0 x (inport_there u q.name t sort) is in
      let two : IsPlace vars true y × (1 ≤ y.count) = subst (λ b. IsPlace vars b y × (1 ≤ y.count)) named.2 (place_whole now sound named.0 empty (refs q) y named.1 at) in
      subst (λ c. Agree site (then_work c (λ s b. work [] s b m)) (probes e f (Ok (x, y)))) (sym (at_place u slots m frame true y two.0 two.1 (λ k. at_port m (pos (word x)) (λ slot. asks (ask.Probe slot k next)))))
      (port_agrees x one.0 one.1 (λ slot. asks (ask.Probe slot (word y) next)) (λ s b. work [] s b m) (λ o. probes_at e y o) refl (λ slot live stood fits.
      probed t slot y two.0 two.1 live (slots slot) refl (fits (In t) (place_sort now q 0 x (In t) is sort)))))

  -- All of them.

  simple_follows : (s : Simple) → slice_get u.tree.body f.entry ≡ Some e.entry → e.entry.stmt ≡ stmt.Simple s → IsAsking s → SimpleHasTypes p u s → IsSoundSimple p u s → SimpleDone now s
      → Agree site (work (simple_code p u address e s) [] nothing m) (simple_action p w u e f below now s)
  simple_follows (simple.Assignment v t) here_at is h types checked done = absurd h
  simple_follows (simple.Goto l) here_at is h types checked done = absurd h
  simple_follows simple.Continue here_at is h types checked done = absurd h
  simple_follows simple.Return here_at is h types checked done = absurd h
  simple_follows simple.Stop here_at is h types checked done = absurd h
  simple_follows (simple.Call name args) here_at is h types checked done = absurd h
  simple_follows (simple.Print items) here_at is h types checked done = absurd h
  simple_follows (simple.Write unit items) here_at is h types checked done = absurd h
  simple_follows (simple.Channel in_first i o) here_at is h types checked done =
      channel_follows in_first i o (inport_there u i.name types.0 types.1) (outport_there u o.name types.0 types.2.0) done
  simple_follows (simple.Merger i os) here_at is h types checked done = merger_follows types.0 i os (inport_there u i.name types.0 types.1) types.2 done.0 done.1
  simple_follows (simple.Send named q items) here_at is h types checked done = send_follows types.0 q (trees_from items) types.1 done.0 done.1
  simple_follows (simple.Receive named q extras items) here_at is h types checked done =
      let taken = targets_fit p number u f.entry e.entry here here_at named q extras items is in
      receive_follows taken.0 q extras items taken.1 taken.2 checked.0 types.3 checked.1 done.0 done.1 (subst (VarsDone now items) (sym (behind_counted extras (refs q))) done.2)
  simple_follows (simple.EndChannel named q) here_at is h types checked done = close_follows q checked done
  simple_follows (simple.MovePort from to) here_at is h types checked done = move_follows from to checked.0 checked.1 done
  simple_follows (simple.Probe named q empty) here_at is h types checked done = probe_follows checked.0.0 q empty checked.0.1 checked.1 done

  pub asks_follow : (s : Simple) → slice_get u.tree.body f.entry ≡ Some e.entry → e.entry.stmt ≡ stmt.Simple s → IsAsking s → IsSoundEntry p u e.entry → SimpleDone (scope_in p u slots m) s
      → Agree (record { program = p; unit = u; slots = slots; address = address; behind = behind; join = join; runs = w; point = e; frame = f; below = below; code = m })
      (work (simple_code p u address e s) [] nothing m) (simple_action p w u e f below (scope_in p u slots m) s)
  asks_follow s here_at is h checked done =
      simple_follows s here_at is h (subst (StatementHasTypes p u) is checked.types.statement) (subst (IsSoundStatement p u) is checked.statement) done
