-- Where the statement of a frame ends that stands as its kinds tell.
use Rattle.std.proofs.Common.{◌≡◌, ℕ, zero, suc, ◌+◌, ◌-◌, ◌<◌, ℤ, Option, Some, None, List, [], ◌∷◌, length, get_or, drop, drop-cons, reverse, refl, sym, ap, subst, ◌∙◌, arith}
use Rattle.std.proofs.lemmas.Option.{slice_get-get_or}
use Rattle.fm_code.specs.declared.body.Frame.{Frame}
use Rattle.fm_code.specs.declared.code.Code.{Code}
use Rattle.fm_code.specs.declared.instr.Meet.TheVariants as meet
use Rattle.fm_code.specs.declared.instr.Instr.{Instr}
use Rattle.fm_code.specs.declared.instr.Instr.TheVariants as instr
use Rattle.fm_code.specs.declared.scratch.Scratch.{Scratch}
use Rattle.fm_code.specs.Acts.{Act, StatementEnd, evaluates, builds, ends, meets, act, then_work, work, nothing, statement}
use Rattle.fm_code.specs.Acts as acts
use Rattle.fm_code_kinds.specs.declared.sorts.Cell.{Cell}
use Rattle.fm_code_kinds.specs.declared.sorts.Shape.{Shape}
use Rattle.fm_code_kinds.specs.declared.sorts.Shapes.{Shapes}
use Rattle.fm_code_kinds.specs.Bodies.{coded}
use Rattle.fm_code_kinds.specs.Shapes.{words_of}
use Rattle.fm_code_kinds.specs.declared.kinds.Kind.{Kind}
use Rattle.fm_code_kinds.specs.Effects.{cells_of, results_in, evaluated, built, goes_on, effect}
use Rattle.fm_code_kinds.specs.Fitting.{Stands, last_loop, LoopStands, FrameFits, Fits, GoesOn, FailsAlone}
use Rattle.fm_code_kinds.specs.Kinded.{Coded, Lists, IsFine, AreKinds, results}
use Rattle.fm_code_kinds.proofs.Places.{AreInside}
use Rattle.fm_code_kinds.proofs.Evaluating.{evaluates_goes}
use Rattle.fm_code_kinds.proofs.Building.{builds_goes}
use Rattle.fm_code_preserves.specs.Rooms.{IsLaidCode, cells_at}
use Rattle.fm_code_preserves.specs.Endings.{StatusFits, EndsFine}
use Rattle.fm_code_preserves.specs.Standing.{IsStanding, HasWords}
use Rattle.fm_code_preserves.proofs.Along.{ArePlain, StatusAct, evaluated_plain, built_plain, evaluates_status, builds_status}
use Rattle.fm_code_preserves.proofs.Endings.{Ends, ends_lead, meets_lead}

-- ---- where a statement begins

all_results : (n : ℕ) → results_in (results n) ≡ n
all_results zero = refl
all_results (suc n) = ap suc (all_results n)

nothing_stands : (n : ℕ) → Stands (results n) [] []
nothing_stands zero = refl
nothing_stands (suc n) = nothing_stands n

no_loop : (cells : List Cell) (loops n : ℕ) → LoopStands cells loops (last_loop (results n)) None
no_loop cells loops zero = tt
no_loop cells loops (suc n) = no_loop cells loops n

results_plain : (cells : List Cell) (n : ℕ) → ArePlain cells (results n)
results_plain cells zero = tt
results_plain cells (suc n) = results_plain cells n

module _ (ss : Shapes) (u : Shape) (inside : AreInside (words_of u.cells) u.cells) (c : Coded) (lists : Lists) (kinds_are : AreKinds ss u c lists) (m : Frame) where
  abbrev Leads : StatementEnd → Type 0
  Leads = EndsFine ss u c lists m

  fails_lead : (t : StatementEnd) → FailsAlone t → Leads t
  fails_lead (acts.Goes to after) f = absurd f
  fails_lead (acts.Prints to line) f = absurd f
  fails_lead (acts.Calls n to operands) f = absurd f
  fails_lead (acts.Refers n to operands) f = absurd f
  fails_lead acts.Returns f = absurd f
  fails_lead (acts.ReturnsValue v) f = absurd f
  fails_lead (acts.Starts n to operands place) f = absurd f
  fails_lead (acts.Closes port to) f = absurd f
  fails_lead (acts.Moves from into to) f = absurd f
  fails_lead (acts.Fails fault) f = tt
  fails_lead (acts.Asks a) f = absurd f
  fails_lead acts.Stuck f = absurd f

  -- what stands along the statement
  pub record Along (ks : List Kind) (s : List ℤ) (b : Scratch) : Type 0 where
    pub fits : Fits u.cells c.loops ks s b m
    pub plain : ArePlain u.cells ks
    pub status : StatusFits u.cells m b.status

  goes_with : (out : List Kind) (a : Act) (f : List ℤ → Scratch → StatementEnd) → GoesOn u.cells c.loops out m a → StatusAct u.cells m a → ArePlain u.cells out → ((s : List ℤ) (b : Scratch) → Along out s b → Leads (f s b)) → Leads (then_work a f)
  goes_with out (acts.On s b) f g status plain h = h s b (record { fits = g; plain = plain; status = status })
  goes_with out (acts.Over t) f g status plain h = fails_lead t g

  ends_with : (at : ℕ) (a : Act) (f : List ℤ → Scratch → StatementEnd) → Ends ss u inside c lists m at a → Leads (then_work a f)
  ends_with at (acts.On s b) f e = absurd e
  ends_with at (acts.Over t) f e = e

  abbrev Next : ℕ → Type 0
  Next a = suc a < length c.code → (s : List ℤ) (b : Scratch) → Along (lists (suc a)) s b → Leads (work (drop (suc a) c.code) s b m)

  on_leads : (a : ℕ) (o : Option (List Kind)) (x : Act) → IsFine c.code lists a (goes_on o) → ((out : List Kind) → o ≡ Some out → GoesOn u.cells c.loops out m x × StatusAct u.cells m x × ArePlain u.cells out) → Next a
      → Leads (then_work x (λ s b. work (drop (suc a) c.code) s b m))
  on_leads a None x fine goes next = absurd fine
  on_leads a (Some out) x fine goes next =
      let g = goes out refl in
      goes_with out x (λ s b. work (drop (suc a) c.code) s b m) g.0 g.1 g.2
      (λ s b along. next fine.inside s b (subst (λ (ks : List Kind). Along ks s b) (sym fine.list) along))

  step : (a : ℕ) (i : Instr) → IsFine c.code lists a (effect ss u c.loops a i (lists a)) → Next a → (s : List ℤ) (b : Scratch) → Along (lists a) s b → Leads (then_work (act i s b m) (λ s b. work (drop (suc a) c.code) s b m))
  step a (instr.Eval i) fine next s b along =
      on_leads a (evaluated u.cells i (lists a)) (evaluates i s b m) fine
      (λ out is. (evaluates_goes u.cells c.loops inside m i (lists a) out s b along.fits is, evaluates_status u.cells m i s b along.status, evaluated_plain u.cells i (lists a) along.plain out is)) next
  step a (instr.Build i) fine next s b along =
      on_leads a (built u.cells c.loops i (lists a)) (builds i s b m) fine
      (λ out is. (
        builds_goes u.cells c.loops inside m i (lists a) out s b along.fits is,
        builds_status u.cells m inside along.fits.frame.words c.loops i (lists a) out s (reverse b.operands) b along.fits.stands is along.status,
        built_plain u.cells c.loops i (lists a) along.plain out is,
      )) next
  step a (instr.End i) fine next s b along = ends_with a (ends i s b m) (λ s b. work (drop (suc a) c.code) s b m) (ends_lead ss u inside c lists m a i (lists a) s b along.fits along.plain fine)
  step a (instr.Meet i) fine next s b along = ends_with a (meets i s b m) (λ s b. work (drop (suc a) c.code) s b m) (meets_lead ss u inside c lists m a i (lists a) s b along.fits along.status fine)

  stop : Instr
  stop = instr.Meet meet.Stop

  walk : (n a : ℕ) → a + n ≡ length c.code → a < length c.code → (s : List ℤ) (b : Scratch) → Along (lists a) s b → Leads (work (drop a c.code) s b m)
  walk zero a whole low s b along = absurd (omega (arith, whole, low))
  walk (suc n) a whole low s b along =
      let i = get_or c.code a stop in
      let here : drop a c.code ≡ i ∷ drop (suc a) c.code = drop-cons c.code a stop low in
      let fine = kinds_are.each a i (slice_get-get_or c.code a stop low) in
      subst (λ (is : List Instr). Leads (work is s b m)) (sym here) (step a i fine (λ next. walk n (suc a) (omega (arith, whole)) next) s b along)

  -- a statement that begins where no more than results are on the list
  pub statement_leads : (a n : ℕ) → a < length c.code → lists a ≡ results n → FrameFits u.cells c.loops n m → Leads (statement c.code a m)
  statement_leads a n low list frame =
      walk (length c.code - a) a (omega (arith, low)) low [] nothing (subst (λ (ks : List Kind). Along ks [] nothing) (sym list) begun)
    where
      begun : Along (results n) [] nothing
      begun = record {
        fits = record { stands = nothing_stands n; counts = no_loop u.cells c.loops n; frame = subst (λ (k : ℕ). FrameFits u.cells c.loops k m) (sym (all_results n)) frame };
        plain = results_plain u.cells n;
        status = tt;
      }

-- what a frame that stands says of its statement
module _ (ss : Shapes) (code : Code) (laid : IsLaidCode ss code) (m : Frame) (stands : IsStanding ss code 0 m) (has : HasWords ss m) where
  pub inside : AreInside (words_of stands.unit.cells) stands.unit.cells
  inside = laid.typed.within m.unit stands.unit stands.there

  pub cells_are : cells_at ss m.unit ≡ stands.unit.cells
  cells_are = ap cells_of stands.there

  pub frame_leads : EndsFine ss stands.unit (coded stands.own) stands.lists m (statement stands.own.code m.address m)
  frame_leads =
      statement_leads ss stands.unit inside (coded stands.own) stands.lists stands.kinds m m.address stands.done stands.inside stands.list
      (record { words = has.words ∙ ap words_of cells_are; counts = stands.counts; done = omega (arith, stands.enough) })
