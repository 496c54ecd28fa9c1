-- Ports that are exchanged one after the other.
use Rattle.std.proofs.Common.{◌≡◌, ℕ, suc, Option, List, ◌∷◌, ◌++◌, sym, ap, append_assoc, ◌∙◌}
use Rattle.std.specs.Prelude.{option_to_list}
use Rattle.fm_base.specs.declared.port.PortValue.{PortValue}
use Rattle.fm_proc_language.specs.Frames.{Held, all_exchanged, exchanged}

module _ (h h' : Held) (k k' : ℕ) (x out : Option PortValue) (all rest : List (Option PortValue)) (next : all ≡ x ∷ rest) (step : k' ≡ suc k) (is : (h', out) ≡ exchanged h k x) where
  pub both_next : (end : Held) → (all_exchanged h k all).0 ≡ end → (all_exchanged h' k' rest).0 ≡ end
  both_next end so =
      ap (λ n. (all_exchanged h' n rest).0) step
      ∙ ap (λ (p : Held × Option PortValue). (all_exchanged p.0 (suc k) rest).0) is
      ∙ ap (λ l. (all_exchanged h k l).0) (sym next) ∙ so

  pub out_next : (before after end : List PortValue) → before ++ (all_exchanged h k all).1 ≡ end → after ≡ before ++ option_to_list out → after ++ (all_exchanged h' k' rest).1 ≡ end
  out_next before after end so more =
      ap (λ l. l ++ (all_exchanged h' k' rest).1) more
      ∙ ap (λ n. (before ++ option_to_list out) ++ (all_exchanged h' n rest).1) step
      ∙ ap (λ (p : Held × Option PortValue). (before ++ option_to_list p.1) ++ (all_exchanged p.0 (suc k) rest).1) is
      ∙ append_assoc before (option_to_list (exchanged h k x).1) (all_exchanged (exchanged h k x).0 (suc k) rest).1
      ∙ ap (λ l. before ++ (all_exchanged h k l).1) (sym next) ∙ so
