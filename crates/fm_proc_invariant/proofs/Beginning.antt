-- The starts of a good process begin as good children, and their ports go over to them.
use Rattle.std.proofs.Common.{◌≡◌, ℕ, ◌+◌, ℤ, Option, Some, None, List, [], ◌∷◌, ◌++◌, slice_get, refl, sym, ap, subst, ◌∙◌, arith}
use Rattle.std.specs.List.{AllByRecursion}
use Rattle.std.proofs.lemmas.List.{length-replicate}
use Rattle.fm_base.specs.declared.port.PortValue.{PortValue}
use Rattle.fm_code.specs.declared.body.Body.{Body}
use Rattle.fm_code.specs.declared.body.Frame.{Frame}
use Rattle.fm_code.specs.declared.body.Start.{Start}
use Rattle.fm_code.specs.declared.body.Trips.{Trips}
use Rattle.fm_code.specs.declared.code.Span.{Span}
use Rattle.fm_code.specs.declared.code.Unit as code_unit
use Rattle.fm_code.specs.Passing.{ports_in}
use Rattle.fm_code.specs.Statements.{ports_of, unit_at}
use Rattle.fm_code_kinds.specs.declared.sorts.Shapes.{Shapes}
use Rattle.fm_code_kinds.specs.Bodies.{IsUnit, coded}
use Rattle.fm_code_kinds.specs.Effects.{cells_of}
use Rattle.fm_code_kinds.specs.Kinded.{Kinded}
use Rattle.fm_code_kinds.specs.Shapes.{words_of}
use Rattle.fm_net.specs.Lawful.{holds, sum_of}
use Rattle.fm_net.specs.Owned.{count}
use Rattle.fm_net.specs.Typed.{AllIn}
use Rattle.fm_net.proofs.Counts.{count-append, count-nil}
use Rattle.fm_code_preserves.specs.Rooms.{IsLaidCode, IsLaidUnit, cells_at, port_spans}
use Rattle.fm_code_preserves.specs.Standing.{HasWords, IsStanding, StartFits}
use Rattle.fm_code_preserves.specs.Weights.{body_ports, weight}
use Rattle.fm_code_preserves.proofs.Keeps.{starts_in}
use Rattle.fm_code_preserves.proofs.Masks.{weight-append}
use Rattle.fm_proc_language.specs.Slots.{Slots, no_slots}
use Rattle.fm_proc_language.specs.Frames.{moved_over}
use Rattle.fm_proc_language.specs.Processes.{Running, child_of, child_with, children_of, code_language, first_frame, loops_in}
use Rattle.fm_proc_invariant.specs.Moves.{IsUsed, Moves, port_weight, same_word}
use Rattle.fm_proc_invariant.specs.Held.{GoesOver}
use Rattle.fm_proc_invariant.proofs.Slots.{moves_like, stays_so, then_moves}
use Rattle.fm_proc_invariant.proofs.Children.{goes_over, none_used}
use Rattle.fm_proc_invariant.specs.Good.{IsGood}
use Rattle.fm_proc_invariant.proofs.Steps.{good_body, holds_weighs}

module _ (ss : Shapes) (b : Body) (laid : IsLaidCode ss b.code) (parent : ℕ) where
  -- one start
  module _ (s : Start) (fits : StartFits ss parent s) (slots : Slots) (rest : List ℤ) where
    abbrev spans : List Span
    spans = ports_of (unit_at b s.unit)

    own : (c : code_unit.Unit) × (slice_get b.code.units s.unit ≡ Some c) × IsUnit fits.unit c
    own = laid.typed.unit s.unit fits.unit fits.there

    unit_laid : IsLaidUnit fits.unit own.0
    unit_laid = laid.units s.unit fits.unit own.0 fits.there own.1

    spans_are : spans ≡ port_spans fits.unit.cells
    spans_are = ap ports_of own.1 ∙ unit_laid.ports

    cells : cells_at ss s.unit ≡ fits.unit.cells
    cells = ap cells_of fits.there

    kinds : Kinded ss fits.unit (coded own.0)
    kinds = laid.typed.kinds s.unit fits.unit own.0 fits.there own.1

    module _ (used : IsUsed slots (ports_in spans s.words ++ rest)) where
      pub over : GoesOver spans 0 s.words slots no_slots rest []
      over =
          subst (λ (l : List Span). GoesOver l 0 s.words slots no_slots rest []) (sym spans_are)
          (goes_over fits.unit.cells 0 s.words slots no_slots rest [] unit_laid.laid (omega (arith, fits.words, ap words_of cells))
          (subst (λ (l : List Span). IsUsed slots (ports_in l s.words ++ rest)) spans_are used) none_used)

      abbrev moved : List ℤ × (Slots × Slots)
      moved = moved_over spans s.words slots no_slots

      abbrev frame : Frame
      frame = first_frame b s moved.0

      abbrev body : Body
      body = record { code = b.code; machine = s.machine; node = s.node; frame = frame; below = [] }

      abbrev no_trips : Option Trips
      no_trips = None

      standing : IsStanding ss b.code 0 frame
      standing = record {
        unit = fits.unit;
        there = fits.there;
        own = own.0;
        own_there = own.1;
        lists = kinds.0;
        kinds = kinds.1;
        done = 0;
        inside = omega (arith, unit_laid.begins);
        list = kinds.1.first;
        enough = omega arith;
        counts = omega (arith, length-replicate (loops_in (unit_at b s.unit)) no_trips, ap loops_in own.1);
      }

      has : HasWords ss frame
      has = record { unit = fits.unit; there = fits.there; words = over.same_count ∙ fits.words; starts = tt }

      child_weighs : (g : ℤ → ℕ) → weight g (body_ports body) ≡ weight g (ports_in spans moved.0 ++ [])
      child_weighs g = omega (arith, weight-append g (ports_in spans moved.0 ++ []) [], weight-append g (ports_in spans moved.0) [])

      child_used : IsUsed moved.1.1 (body_ports body)
      child_used =
          let u = over.child.used none_used in
          record { slots = u.slots; once = λ w. omega (arith, u.once w, child_weighs (same_word w)) }

      pub child_good : IsGood ss (child_with b s moved.0 moved.1.1)
      child_good = good_body ss (child_with b s moved.0 moved.1.1) Running moved.1.1 body refl refl refl
          (record { laid = laid; words = has; fits = record { code = laid; frame = standing; words = has; below = tt }; used = child_used })

      pub child_holds : (z : PortValue) → holds code_language z (child_with b s moved.0 moved.1.1) ≡ count z over.outs
      child_holds z = omega (arith, holds_weighs (child_with b s moved.0 moved.1.1) body refl z, child_weighs (port_weight moved.1.1 z), over.child.same none_used z, count-nil z)

  -- all starts of a block
  pub record ChildrenOver (starts : List Start) (slots : Slots) (rest : List ℤ) : Type 0 where
    pub outs : List PortValue
    pub moves : Moves slots (starts_in b.code starts ++ rest) (children_of b slots starts).1 rest [] outs
    pub good : AllIn (IsGood ss) (children_of b slots starts).0
    pub held : (z : PortValue) → sum_of (holds code_language z) (children_of b slots starts).0 ≡ count z outs

  pub children_over : (starts : List Start) (slots : Slots) (rest : List ℤ) → AllByRecursion (StartFits ss parent) starts → IsUsed slots (starts_in b.code starts ++ rest) → ChildrenOver starts slots rest
  children_over [] slots rest fits used = record { outs = []; moves = stays_so slots rest rest (λ g. refl); good = tt; held = λ z. sym (count-nil z) }
  children_over (s ∷ starts) slots rest fits used =
      let words = ports_in (ports_of (unit_at b s.unit)) s.words in
      let more = starts_in b.code starts ++ rest in
      let order = stays_so slots ((words ++ starts_in b.code starts) ++ rest) (words ++ more)
      (λ g. omega (arith, weight-append g (words ++ starts_in b.code starts) rest, weight-append g words (starts_in b.code starts), weight-append g words more, weight-append g (starts_in b.code starts) rest)) in
      let mine = order.used used in
      let one = over s fits.0 slots more mine in
      let others = children_over starts (child_of b slots s).1 rest fits.1 (one.parent.used mine) in
      record {
        outs = one.outs ++ others.outs;
        moves = moves_like (then_moves order (then_moves one.parent others.moves)) (λ z. refl) (λ z. refl);
        good = (child_good s fits.0 slots more mine, others.good);
        held = λ z. omega (arith, child_holds s fits.0 slots more mine z, others.held z, count-append z one.outs others.outs);
      }
