-- The verdict on cards, one after the other.
use Rattle.std.proofs.Common.{◌≡◌, inl, inr, ⊎_elim, ℕ, List, [], ◌∷◌, ◌++◌, subst}
use Rattle.std.specs.Prelude.{Option, Some, None}
use Rattle.fm_base.specs.declared.rule.CheckFail.{CheckFail}
use Rattle.fm_base.specs.declared.rule.Refusal.{Refusal}
use Rattle.fm_base.specs.Verdict.{Either, IsClean, IsLeast, IsVerdict, IsRefusal, earliest, first_of}
use Rattle.fm_base.proofs.Least.{verdict_same}
use Rattle.fm_base.proofs.Phases.{verdict_join}
use Rattle.fm_cards.specs.Broken as cards
use Rattle.fm_cards.specs.Cards.{cards_of}
use Rattle.fm_cards.specs.declared.card.Card.{Card}
use Rattle.fm_stmt.specs.Checked as card
use Rattle.fm_stmt.specs.Checked.{IsStatementOf}
use Rattle.fm_tree.specs.declared.program_unit.Placed.{Placed}
use Rattle.fm_rules.specs.Program.{AreShaped}
use Rattle.fm_front.proofs.Phases.{refused_first, then_next}
use Rattle.fm_verdict.specs.Verdict.{AreStatementsOf, IsBroken, IsBrokenCard, IsBrokenForm, IsBrokenLater, IsVerdictOn}
use Rattle.fm_front.specs.Reading.{HasRead}

split : (cs : List Card) (c : Card) (q : Refusal) → IsBrokenCard (cs ++ c ∷ []) q → Either (IsBrokenCard cs) (card.IsBroken c) q
split [] c q (inl b) = inr b
split [] c q (inr b) = absurd b
split (d ∷ cs) c q (inl b) = inl (inl b)
split (d ∷ cs) c q (inr b) = ⊎_elim (λ x. inl (inr x)) (λ y. inr y) (split cs c q b)

join : (cs : List Card) (c : Card) (q : Refusal) → Either (IsBrokenCard cs) (card.IsBroken c) q → IsBrokenCard (cs ++ c ∷ []) q
join [] c q (inl b) = absurd b
join [] c q (inr b) = inl b
join (d ∷ cs) c q (inl (inl b)) = inl b
join (d ∷ cs) c q (inl (inr b)) = inr (join cs c q (inl b))
join (d ∷ cs) c q (inr b) = inr (join cs c q (inr b))

more : (cs : List Card) (c : Card) (a b : Option Refusal) → IsVerdict (IsBrokenCard cs) a → IsVerdict (card.IsBroken c) b → IsVerdict (IsBrokenCard (cs ++ c ∷ [])) (first_of a b)
more cs c a b v w =
    verdict_same (Either (IsBrokenCard cs) (card.IsBroken c)) (IsBrokenCard (cs ++ c ∷ [])) (join cs c) (split cs c) (first_of a b) (verdict_join (IsBrokenCard cs) (card.IsBroken c) a b v w)

statements_more : (cs : List Card) (ps : List Placed) (c : Card) (p : Placed) → AreStatementsOf cs ps → IsStatementOf c p → AreStatementsOf (cs ++ c ∷ []) (ps ++ p ∷ [])
statements_more [] [] c p h k = (k, tt)
statements_more [] (q ∷ ps) c p h k = absurd h
statements_more (d ∷ cs) [] c p h k = absurd h
statements_more (d ∷ cs) (q ∷ ps) c p h k = (h.0, statements_more cs ps c p h.1 k)

-- no card was read
pub none_read : HasRead [] [] None
none_read = record { read = λ e. tt; verdict = λ q b. b }

-- a card that breaks no rule
pub read_one : (cs : List Card) (ps : List Placed) (best : Option Refusal) (c : Card) (p : Placed) → HasRead cs ps best → IsStatementOf c p → IsClean (card.IsBroken c) → HasRead (cs ++ c ∷ []) (ps ++ p ∷ []) best
read_one cs ps best c p h k clean = record {
  read = λ e. statements_more cs ps c p (h.read e) k;
  verdict = more cs c best None h.verdict clean;
}

not_none : (best : Option Refusal) (q : Refusal) → earliest best q ≡ None → ⊥
not_none None q e = absurd (cc e)
not_none (Some p) q e = absurd (cc e)

-- a card that breaks a rule
pub refused_one : (cs : List Card) (ps : List Placed) (best : Option Refusal) (c : Card) (q : Refusal) → HasRead cs ps best → IsLeast (card.IsBroken c) q → HasRead (cs ++ c ∷ []) ps (earliest best q)
refused_one cs ps best c q h k = record {
  read = λ e. absurd (not_none best q e);
  verdict = more cs c best (Some q) h.verdict k;
}

-- The phases.

pub form_refused : (source : List ℕ) (e : CheckFail) → IsRefusal (cards.IsBroken source) e → IsRefusal (IsBrokenForm source) e
form_refused source e h = refused_first (cards.IsBroken source) (IsBrokenCard (cards_of source)) e h

pub later_next : (source : List ℕ) (b : Option Refusal) → IsClean (IsBrokenForm source) → IsVerdict (IsBrokenLater source) b → IsVerdictOn source b
later_next source b clean v = then_next (IsBrokenForm source) (IsBrokenLater source) b clean v

-- what is broken in the form or on a card is broken in the source
pub refused_form : (source : List ℕ) (e : CheckFail) → IsRefusal (IsBrokenForm source) e → IsRefusal (IsBroken source) e
refused_form source e h = refused_first (IsBrokenForm source) (IsBrokenLater source) e h

-- the verdict on the cards that were read, where the form breaks nothing
cards_verdict : (source : List ℕ) (cs : List Card) (ps : List Placed) (best v : Option Refusal) → cs ≡ cards_of source → IsClean (cards.IsBroken source) → HasRead cs ps best → best ≡ v → IsVerdict (IsBrokenForm source) v
cards_verdict source cs ps best v e clean h is =
    then_next (cards.IsBroken source) (IsBrokenCard (cards_of source)) v clean (subst (λ (l : List Card). IsVerdict (IsBrokenCard l) v) e (subst (IsVerdict (IsBrokenCard cs)) is h.verdict))

pub cards_refused : (source : List ℕ) (cs : List Card) (ps : List Placed) (best : Option Refusal) (q : Refusal) → cs ≡ cards_of source → IsClean (cards.IsBroken source) → HasRead cs ps best → best ≡ Some q → IsLeast (IsBrokenForm source) q
cards_refused source cs ps best q e clean h is = cards_verdict source cs ps best (Some q) e clean h is

pub cards_clean : (source : List ℕ) (cs : List Card) (ps : List Placed) (best : Option Refusal) → cs ≡ cards_of source → IsClean (cards.IsBroken source) → HasRead cs ps best → best ≡ None → IsClean (IsBrokenForm source)
cards_clean source cs ps best e clean h is = cards_verdict source cs ps best None e clean h is

-- statements of cards have a form of the grammar
pub are_shaped : (cs : List Card) (ps : List Placed) → AreStatementsOf cs ps → AreShaped ps
are_shaped [] [] h = tt
are_shaped [] (p ∷ ps) h = absurd h
are_shaped (c ∷ cs) [] h = absurd h
are_shaped (c ∷ cs) (p ∷ ps) h = (h.0.tree.1.1.shaped, are_shaped cs ps h.1)

pub cards_read : (source : List ℕ) (cs : List Card) (ps : List Placed) (best : Option Refusal) → cs ≡ cards_of source → HasRead cs ps best → best ≡ None → AreStatementsOf (cards_of source) ps
cards_read source cs ps best e h is = subst (λ (l : List Card). AreStatementsOf l ps) e (h.read is)
