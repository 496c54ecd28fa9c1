-- What the parts of an assignment's code come to.
use Rattle.std.proofs.Common.{◌≡◌, ◌≢◌, ℕ, Some, List, [], ◌∷◌, ◌++◌, length, refl, sym, ap, ◌∙◌, append_assoc}
use Rattle.fm_tree.specs.Tree.{Tree, trees_from}
use Rattle.fm_symbols.specs.declared.names.Variable.{Variable}
use Rattle.fm_code.specs.declared.instr.Instr.{Instr}
use Rattle.fm_rules.specs.declared.program.Program.{Program}
use Rattle.fm_mean.specs.Names.{ProgramUnit}
use Rattle.fm_gen_operands.specs.Code.{place_code, expressions_code}
use Rattle.fm_gen_operands.proofs.Counts.{trees_count-from, added_twice}
use Rattle.fm_gen.specs.Statements.{locate_code, element_store, assigned_code}

-- the code of an assignment to an element, in four parts
pub element_assigned : (p : Program) (u : ProgramUnit) (i : ℕ) (v : Variable) (ts : List Tree) (value : List Instr) (next : ℕ) (old a b c new : List Instr) → (length ts ≢ 0)
    → a ≡ old ++ expressions_code p u (trees_from ts) 0 → b ≡ a ++ place_code v (length ts) (locate_code v.kind v.first) → c ≡ b ++ value → new ≡ c ++ element_store v.kind next ∷ []
    → new ≡ old ++ assigned_code p u (Some (i, v)) (trees_from ts) value next
element_assigned p u i v [] value next old a b c new some e f g h = absurd (some refl)
element_assigned p u i v (t ∷ ts) value next old a b c new some e f g h =
    let first = expressions_code p u (trees_from (t ∷ ts)) 0 in
    let place = place_code v (length (t ∷ ts)) (locate_code v.kind v.first) in
    let store = element_store v.kind next ∷ [] in
    h
    ∙ ap (λ l. l ++ store) g
    ∙ append_assoc b value store
    ∙ ap (λ l. l ++ (value ++ store)) (added_twice old first a place b e f)
    ∙ append_assoc old (first ++ place) (value ++ store)
    ∙ ap (λ l. old ++ l) (append_assoc first place (value ++ store))
    ∙ ap (λ n. old ++ (first ++ (place_code v n (locate_code v.kind v.first) ++ (value ++ store)))) (sym (trees_count-from (t ∷ ts)))
