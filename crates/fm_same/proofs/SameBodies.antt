-- An instruction is known by its parts, and a list by its reverse.
use Rattle.std.specs.Prelude.{◌≡◌, Bool, true, false, List, Some, unwrap_or, reverse}
use Rattle.std.proofs.Common.{sym, ◌∙◌, ap}
use Rattle.std.proofs.lemmas.List.{reverse-reverse}
use Rattle.fm_code.specs.Parts.{Parts, parts_of, instr_of}
use Rattle.fm_code.specs.declared.instr.Instr.{Instr}
use Rattle.fm_same.specs.Same.{IsSameTest}

some_same : {T : Type 0} (a b : T) → Some a ≡ Some b → a ≡ b
some_same a b e = ap (λ o. unwrap_or o a) e

pub by_parts : (r : Bool) (a b : Instr) (p q : Parts) → p ≡ parts_of a → q ≡ parts_of b
    → instr_of p.0 p.1 p.2 ≡ Some a → instr_of q.0 q.1 q.2 ≡ Some b → IsSameTest r p q → IsSameTest r a b
by_parts true a b p q e f h g s = some_same a b (sym h ∙ ap (λ (t : Parts). instr_of t.0 t.1 t.2) s ∙ g)
by_parts false a b p q e f h g s = λ same. s (e ∙ ap parts_of same ∙ sym f)

pub by_reverse : {T : Type 0} (r : Bool) (a b x y : List T) → x ≡ reverse a → y ≡ reverse b → IsSameTest r x y → IsSameTest r a b
by_reverse true a b x y e f s = sym (reverse-reverse a) ∙ ap reverse (sym e ∙ s ∙ f) ∙ reverse-reverse b
by_reverse false a b x y e f s = λ same. s (e ∙ ap reverse same ∙ sym f)
