-- No FUNCTION has a statement that FUNCTIONs may not have.
use Rattle.std.proofs.Common.{◌≡◌, ℕ, zero, suc, Bool, true, false, ◌&&◌, Some, List, [], ◌∷◌, ◌++◌, slice_get, refl, sym, ap, ◌∙◌}
use Rattle.std.specs.List.{flat_map}
use Rattle.fm_tree.specs.declared.program_unit.Entry.{Entry}
use Rattle.fm_symbols.specs.Context.{scope_of}
use Rattle.fm_symbols.specs.Headings.{is_function}
use Rattle.fm_symbols.specs.declared.context.Context.{Context}
use Rattle.fm_symbols.specs.declared.context.Scope as symbols
use Rattle.fm_symbols.specs.declared.names.Variable.{Variable}
use Rattle.fm_rules.specs.BrokenTypes as types
use Rattle.fm_rules.specs.TypeStatements.{flags_of, is_barred, typed_flags}
use Rattle.fm_rules.specs.declared.program.Program.{Program}
use Rattle.fm_mean.specs.Names.{context}
use Rattle.fm_mean.proofs.FunctionFormals.{unit_types}
use Rattle.fm_mean.proofs.Unbroken.{left_empty, right_empty, or_right}
use Rattle.fm_mean.proofs.Unflagged.{line_unflagged}
use Rattle.fm_flow_law.proofs.MainWalk.{AreCalm}

the_entry : (a b : Entry) → Some a ≡ Some b → a ≡ b
the_entry a b e = cc

one_empty : {Y : Type 0} (f : Entry → List Y) (xs : List Entry) (k : ℕ) (x : Entry) → flat_map f xs ≡ [] → slice_get xs k ≡ Some x → f x ≡ []
one_empty f [] k x e at = absurd (cc at)
one_empty f (y ∷ xs) zero x e at = ap f (sym (the_entry y x at)) ∙ left_empty (f y) (flat_map f xs) e
one_empty f (y ∷ xs) (suc k) x e at = one_empty f xs k x (right_empty (f y) (flat_map f xs) e) at

allowed : (c : Context) (s : symbols.Scope) (vs : List Variable) (e : Entry) → is_function s.kind ≡ true → types.broken_in_entry c s vs e ≡ [] → is_barred e.stmt ≡ false
allowed c s vs e function none =
    let f = flags_of c s vs e.stmt in
    sym (ap (λ (b : Bool). b && is_barred e.stmt) function)
    ∙ or_right (typed_flags c s vs e.stmt).e46 (is_function s.kind && is_barred e.stmt) (line_unflagged e.line.0 (record f { e50 = false }) none refl).e46

pub functions_calm : (p : Program) → AreCalm p
functions_calm p n c is kind k e at =
    let sc = scope_of c.tree c.names in
    let vs = c.names.variables in
    let heading = types.broken_in_statement (context p) sc vs c.tree.heading in
    let specs = flat_map (types.broken_in_statement (context p) sc vs) c.tree.specs in
    let body = flat_map (types.broken_in_entry (context p) sc vs) c.tree.body in
    allowed (context p) sc vs e kind (one_empty (types.broken_in_entry (context p) sc vs) c.tree.body k e (right_empty specs body (right_empty heading (specs ++ body) (unit_types p n c is))) at)
