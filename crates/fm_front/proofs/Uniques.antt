-- A source has one list of statements, one verdict, and one program or one refusal.
use Rattle.std.proofs.Common.{◌≡◌, ℕ, List, [], ◌∷◌, refl, sym, ap, subst, ◌∙◌}
use Rattle.std.specs.Prelude.{Option, Some, None, Result, Ok, Err, IfOk, IfErr}
use Rattle.fm_base.specs.declared.rule.CheckFail.{CheckFail}
use Rattle.fm_base.specs.declared.rule.CheckFail.TheVariants.{Refused, NoMemory}
use Rattle.fm_base.specs.declared.rule.Refusal.{Refusal}
use Rattle.fm_base.specs.Verdict.{IsClean, IsRefusal, IsVerdict}
use Rattle.fm_base.proofs.Least.{verdict_same}
use Rattle.fm_base.proofs.OneVerdict.{verdict_one}
use Rattle.fm_cards.specs.Cards.{cards_of}
use Rattle.fm_cards.specs.declared.card.Card.{Card}
use Rattle.fm_stmt.specs.Checked.{OneStatement}
use Rattle.fm_tree.specs.declared.program_unit.Placed.{Placed}
use Rattle.fm_tree.specs.declared.program_unit.Unit.{Unit}
use Rattle.fm_tree.specs.declared.program_unit.Units.{Units}
use Rattle.fm_symbols.specs.declared.names.Names.{Names}
use Rattle.fm_symbols.specs.declared.names.UnitNames.{UnitNames}
use Rattle.fm_rules.specs.Units.{units_of}
use Rattle.fm_rules.specs.Names.{names_of}
use Rattle.fm_rules.specs.declared.program.Program.{Program}
use Rattle.fm_rules.specs.Broken.{IsBrokenStatement}
use Rattle.fm_rules.specs.Program.{IsChecked}
use Rattle.fm_front.proofs.CardVerdicts.{later_next}
use Rattle.fm_front.proofs.OnePrograms as programs
use Rattle.fm_verdict.specs.Verdict.{AreStatementsOf, IsBroken, IsBrokenForm, IsBrokenLater, IsVerdictOn}
use Rattle.fm_verdict.specs.Program.{IsCheckedOf}
use Rattle.fm_front.specs.Laws.{OneVerdict, OneProgram, ProgramIsClean, ProgramOrRefusal}

pub one_verdict : OneVerdict
one_verdict source = verdict_one (IsBroken source)

pub program_is_clean : ProgramIsClean
program_is_clean source a h = h.clean

pub program_or_refusal : ProgramOrRefusal
program_or_refusal source a q h v = h.clean q v.broken

-- units and names are known by their lists
units_are : (a b : Units) → a.units ≡ b.units → a ≡ b
units_are a b e = ap (λ (l : List Unit). record { units = l }) e

names_are : (a b : Names) → a.units ≡ b.units → a ≡ b
names_are a b e = ap (λ (l : List UnitNames). record { units = l }) e

module _ (one : OneStatement) where
  pub one_list : (cs : List Card) (ps qs : List Placed) → AreStatementsOf cs ps → AreStatementsOf cs qs → ps ≡ qs
  one_list [] [] [] h k = refl
  one_list [] [] (q ∷ qs) h k = absurd k
  one_list [] (p ∷ ps) qs h k = absurd h
  one_list (c ∷ cs) [] qs h k = absurd h
  one_list (c ∷ cs) (p ∷ ps) [] h k = absurd k
  one_list (c ∷ cs) (p ∷ ps) (q ∷ qs) h k =
      let first = one c p q h.0 k.0 in
      let rest = one_list cs ps qs h.1 k.1 in
      λ i. first i ∷ rest i

  pub one_program : OneProgram
  one_program source a b h k =
      let same : h.statements ≡ k.statements = one_list (cards_of source) h.statements k.statements h.read k.read in
      programs.one_program a b
      (units_are a.units b.units (h.checked.units_are ∙ ap units_of same ∙ sym k.checked.units_are))
      (names_are a.names b.names (h.checked.names_are ∙ ap (λ l. names_of (units_of l)) same ∙ sym k.checked.names_are))

  -- the verdict on the statements, where they are known
  later_verdict : (source : List ℕ) (ps : List Placed) (v : Option Refusal) → AreStatementsOf (cards_of source) ps → IsVerdict (IsBrokenStatement ps) v → IsVerdict (IsBrokenLater source) v
  later_verdict source ps v h w = verdict_same (IsBrokenStatement ps) (IsBrokenLater source)
      (λ q c. (ps, h, c))
      (λ q b. subst (λ (l : List Placed). IsBrokenStatement l q) (one_list (cards_of source) b.0 ps b.1 h) b.2) v w

  -- the verdict of a source whose form and cards break no rule
  pub statements_decide : (source : List ℕ) (ps : List Placed) (v : Option Refusal) → AreStatementsOf (cards_of source) ps → IsClean (IsBrokenForm source) → IsVerdict (IsBrokenStatement ps) v → IsVerdictOn source v
  statements_decide source ps v h clean w = later_next source v clean (later_verdict source ps v h w)

  -- what a check of the statements answers
  pub checked : (ps : List Placed) (r : Result Program CheckFail) → IfOk r (λ p. IsChecked ps p.units p.names)
      → IfOk r (λ p. (source : List ℕ) → AreStatementsOf (cards_of source) ps → IsClean (IsBrokenForm source) → IsCheckedOf source p)
  checked ps (Ok p) h = λ source read clean. record { statements = ps; read = read; clean = statements_decide source ps None read clean h.clean; checked = h }
  checked ps (Err e) h = tt

  refusal_in : (source : List ℕ) (ps : List Placed) (e : CheckFail) → AreStatementsOf (cards_of source) ps → IsClean (IsBrokenForm source) → IsRefusal (IsBrokenStatement ps) e → IsRefusal (IsBroken source) e
  refusal_in source ps (Refused q) read clean h = statements_decide source ps (Some q) read clean h
  refusal_in source ps NoMemory read clean h = tt

  pub check_refused : (ps : List Placed) (r : Result Program CheckFail) → IfErr r (IsRefusal (IsBrokenStatement ps))
      → IfErr r (λ e. (source : List ℕ) → AreStatementsOf (cards_of source) ps → IsClean (IsBrokenForm source) → IsRefusal (IsBroken source) e)
  check_refused ps (Ok p) h = tt
  check_refused ps (Err e) h = λ source read clean. refusal_in source ps e read clean h
