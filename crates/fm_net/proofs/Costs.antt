-- Each step of a lawful language costs a turn.
use Rattle.std.proofs.Common.{◌≡◌, ℕ, ◌≤◌, Some, subst}
use Rattle.fm_net.specs.Machine.{Place, State, made}
use Rattle.fm_net.specs.Language.{Language, language_step}
use Rattle.fm_net.specs.Lawful.{IsLawfulAsk, IsLawfulStep, IsLawfulLanguage}
use Rattle.fm_net.proofs.Taken.{taken}

pub step_costs : {Proc : Type 0} (language : Language Proc) → IsLawfulLanguage language → (s : State Proc) (p : Place) (r : State Proc × ℕ) → language_step language s p ≡ Some r → 1 ≤ r.1
step_costs {Proc} language laws s p r e =
    let k = taken language s p r e in
    let t = k.start in
    let law : IsLawfulStep language t.self t.need t.goes = subst (IsLawfulAsk language t.self) t.asks (laws.goes t.self) in
    subst (λ (u : State Proc × ℕ). 1 ≤ u.1) k.there (law.costs (made p t.need) t.reply)
