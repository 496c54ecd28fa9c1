-- Ports that are given back one by one, seen from the last.
use Rattle.std.proofs.Common.{◌≡◌, refl, ℕ, zero, suc, ◌+◌, ap, ap₂, sym, subst, arith, ◌∙◌}
use Rattle.fm_proc_language.specs.Frames.{Joined, port_given, ports_given}
use Rattle.fm_proc_slots.specs.Joins.{GivesAlike, GivesSo, joined}
use Rattle.fm_proc_slots.specs.declared.joining.Child.{Child}
use Rattle.fm_proc_slots.specs.declared.joining.Gains.{Gains}
use Rattle.fm_proc_slots.proofs.Alike.{alike_on, port_alike}

last_given : (j : Joined) (from to n a b : ℕ) → a ≡ from + n → b ≡ to + n → ports_given j from to (suc n) ≡ port_given (ports_given j from to n) a b
last_given j from to zero a b e f =
    let first : from ≡ a = omega arith in
    let second : to ≡ b = omega arith in
    ap₂ (λ (x y : ℕ). port_given j x y) first second
last_given j from to (suc n) a b e f = last_given (port_given j from to) (suc from) (suc to) n a b (omega arith) (omega arith)

pub one_more : (j : Joined) (g h : Gains) (c d : Child) (from to n : ℕ) → GivesSo (ports_given j from to n) g c → GivesSo (port_given (joined g c) (from + n) (to + n)) h d → GivesSo (ports_given j from to (n + 1)) h d
one_more j g h c d from to n e f =
    let next : suc n ≡ n + 1 = omega arith in
    let all : port_given (ports_given j from to n) (from + n) (to + n) ≡ ports_given j from to (n + 1) = sym (last_given j from to n (from + n) (to + n) refl refl) ∙ ap (ports_given j from to) next in
    let on = alike_on _ _ _ (port_alike (ports_given j from to n) (joined g c) (from + n) (to + n) e) f in
    subst (λ (x : Joined). GivesAlike x (joined h d)) all on
