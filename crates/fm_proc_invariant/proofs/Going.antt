-- A process that goes on with other words in its innermost frame.
use Rattle.std.proofs.Common.{◌≡◌, ℕ, ◌+◌, ℤ, Bool, true, false, List, [], ◌∷◌, ◌++◌, length, refl, sym, ap, subst, ◌∙◌, arith}
use Rattle.std.specs.List.{AllByRecursion}
use Rattle.fm_base.specs.declared.port.PortValue.{PortValue}
use Rattle.fm_code.specs.declared.ask.Operand.{Operand}
use Rattle.fm_code.specs.declared.ask.Operand.TheVariants as operand
use Rattle.fm_code.specs.declared.body.Body.{Body}
use Rattle.fm_code.specs.declared.body.Frame.{Frame}
use Rattle.fm_code.specs.declared.code.Span.{Span}
use Rattle.fm_code.specs.Statements.{at_statement}
use Rattle.fm_code_kinds.specs.declared.sorts.Cell.{Cell}
use Rattle.fm_code_kinds.specs.declared.sorts.Shapes.{Shapes}
use Rattle.fm_code_kinds.specs.Bodies.{coded}
use Rattle.fm_code_kinds.specs.Shapes.{words_of}
use Rattle.fm_code_kinds.proofs.Places.{AreInside, sorted_inside}
use Rattle.fm_code_preserves.specs.Rooms.{IsRoom, IsSendable, IsTarget, cells_at, is_port_word}
use Rattle.fm_code_preserves.specs.Standing.{BodyStands, HasWords}
use Rattle.fm_code_preserves.specs.Endings.{Begins, IsPlainWord, IsPortWord}
use Rattle.fm_code_preserves.specs.Weights.{body_ports, weight}
use Rattle.fm_code_preserves.proofs.Masks.{weight-append}
use Rattle.fm_code_preserves.proofs.Sorted.{room_words}
use Rattle.fm_code_preserves.proofs.Statements.{cells_are}
use Rattle.fm_code_preserves.proofs.Keeps.{below_same, frame_in, frame_parts, frames_in, mine_parts, standing_at, starts_in, words_of_frame}
use Rattle.fm_proc_language.specs.Slots.{Slots}
use Rattle.fm_proc_language.specs.Frames.{Held}
use Rattle.fm_proc_language.specs.Processes.{Running}
use Rattle.fm_proc_invariant.specs.Moves.{IsUsed, Moves, port_weight, same_word}
use Rattle.fm_proc_invariant.specs.Held.{AreMasked, HeldMoves, MaySend, MayStore, UsedBy, with_others}
use Rattle.fm_proc_invariant.proofs.Exchange.{others_weigh}
use Rattle.fm_proc_invariant.specs.Good.{BodyIsGood}

module _ (ss : Shapes) (b : Body) (stands : BodyStands ss b) where
  abbrev pub m : Frame
  m = b.frame

  abbrev pub mask : ℕ → Bool
  mask = is_port_word (cells_at ss m.unit)

  -- the port words beside those of the innermost frame's variables
  abbrev pub others : List ℤ
  others = starts_in b.code m.starts ++ frames_in b.code b.below

  abbrev pub of_frame : List ℤ → List ℤ
  of_frame ws = with_others mask ws others

  cells : cells_at ss m.unit ≡ stands.frame.unit.cells
  cells = cells_are ss b.code stands.code m stands.frame stands.words

  pub body_weighs : (g : ℤ → ℕ) → weight g (of_frame m.words) ≡ weight g (body_ports b)
  body_weighs g = omega (
    arith,
    others_weigh mask m.words others g,
    weight-append g (starts_in b.code m.starts) (frames_in b.code b.below),
    weight-append g (frame_in b.code m) (frames_in b.code b.below),
    frame_parts ss b stands m stands.words g,
  )

  pub used_frame : (s : Slots) → IsUsed s (body_ports b) → UsedBy mask others (record { words = m.words; slots = s })
  used_frame s used = record { slots = used.slots; once = λ w. omega (arith, used.once w, body_weighs (same_word w)) }

  -- at another statement
  abbrev pub after_with : ℕ → Held → Body
  after_with next h = record b { frame = at_statement (record m { words = h.words }) next }

  module _ (s : Slots) (used : IsUsed s (body_ports b)) (next : ℕ) (begins : Begins (coded stands.frame.own) stands.frame.lists next) (h : Held) (ins outs : List PortValue) (moves : HeldMoves mask others (record { words = m.words; slots = s }) h ins outs) where
    abbrev n : Frame
    n = at_statement (record m { words = h.words }) next

    has : HasWords ss n
    has = words_of_frame ss b.code m n stands.words refl moves.count refl

    pub goes_on_standing : BodyStands ss (after_with next h)
    goes_on_standing = record {
      code = stands.code;
      frame = standing_at ss b.code 0 m stands.frame n refl refl next refl begins 0;
      words = has;
      below = below_same ss b.code m n refl refl b.below stands.below;
    }

    after_weighs : (g : ℤ → ℕ) → weight g (body_ports (after_with next h)) ≡ weight g (of_frame h.words)
    after_weighs g = omega (
      arith,
      others_weigh mask h.words others g,
      weight-append g (starts_in b.code m.starts) (frames_in b.code b.below),
      weight-append g (frame_in b.code n) (frames_in b.code b.below),
      mine_parts ss b stands n has refl g,
    )

    pub goes_on_moves : Moves s (body_ports b) h.slots (body_ports (after_with next h)) ins outs
    goes_on_moves = record {
      used = λ used. record { slots = (moves.moves.used (used_frame s used)).slots; once = λ w. omega (arith, (moves.moves.used (used_frame s used)).once w, after_weighs (same_word w)) };
      same = λ used z. omega (arith, moves.moves.same (used_frame s used) z, after_weighs (port_weight h.slots z), body_weighs (port_weight s z));
    }

    pub goes_on_good : BodyIsGood ss Running h.slots (after_with next h)
    goes_on_good = record { laid = stands.code; words = has; fits = goes_on_standing; used = goes_on_moves.used used }

  -- ---- rooms

  inside : AreInside (words_of (cells_at ss m.unit)) (cells_at ss m.unit)
  inside = subst (λ (cs : List Cell). AreInside (words_of cs) cs) (sym cells) (stands.code.typed.within m.unit stands.frame.unit stands.frame.there)

  pub room_masked : (s : Span) (p : Bool) → IsRoom stands.frame.unit.cells s p → AreMasked mask (length m.words) s p
  room_masked s p r =
      let mine : IsRoom (cells_at ss m.unit) s p = subst (λ (cs : List Cell). IsRoom cs s p) (sym cells) r in
      record {
        end = omega (arith, sorted_inside (words_of (cells_at ss m.unit)) (cells_at ss m.unit) inside s mine.sort mine.at, stands.words.words);
        kind = λ k low high. room_words (cells_at ss m.unit) s p mine k low high;
      }

  pub may_send : (os : List Operand) → AllByRecursion (IsSendable stands.frame.unit.cells) os → AllByRecursion (MaySend mask (length m.words)) os
  may_send [] all = tt
  may_send (operand.Value v ∷ os) all = (tt, may_send os all.1)
  may_send (operand.Words s ∷ os) all = (tt, may_send os all.1)
  may_send (operand.Ports s ∷ os) all = (room_masked s true all.0, may_send os all.1)

  pub may_store : (os : List Operand) → AllByRecursion (IsTarget stands.frame.unit.cells) os → AllByRecursion (MayStore mask (length m.words)) os
  may_store [] all = tt
  may_store (operand.Value v ∷ os) all = absurd all.0
  may_store (operand.Words s ∷ os) all = (room_masked s false all.0, may_store os all.1)
  may_store (operand.Ports s ∷ os) all = (room_masked s true all.0, may_store os all.1)

  pub port_on : (k : ℕ) → IsPortWord stands.frame.unit.cells m k → mask k ≡ true
  port_on k p = ap (λ (cs : List Cell). is_port_word cs k) cells ∙ p.port

  pub plain_off : (k : ℕ) → IsPlainWord stands.frame.unit.cells m k → mask k ≡ false
  plain_off k p = ap (λ (cs : List Cell). is_port_word cs k) cells ∙ p.plain
