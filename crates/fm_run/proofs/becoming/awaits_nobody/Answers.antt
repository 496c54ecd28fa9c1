use Rattle.std.proofs.Common.{◌≡◌, ℕ, Bool, true, false, not, refl, sym, subst}
use Rattle.fm_run.specs.Waiting.{AreKnown}
use Rattle.fm_run.proofs.becoming.awaits_nobody.Goals as goal

not_false : (b : Bool) → not b ≡ false → b ≡ true
not_false true e = refl
not_false false e = absurd (cc e)

false_not : (b : Bool) → b ≡ true → not b ≡ false
false_not true e = refl
false_not false e = absurd (cc e)

pub returns-clause-left : goal.returns-clause-left
returns-clause-left g c = λ p q x sound at is known.
    let waits = c.in_ok-known.known.waits in
    let told = c.in_ok-known.ensures.children p q x sound at is (subst (λ (k : ℕ). AreKnown (g.N.Net.play p) (g.N.Net.state p c.args.net.now) q x k) (sym c.count_at-before.ensures) known) in
    (λ e. told.waits.0 (not_false waits e), λ left. false_not waits (told.waits.1 left))
