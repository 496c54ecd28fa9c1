-- The code of a unit does what the meaning does.
use Rattle.std.proofs.Common.{◌≡◌, ℕ, zero, suc, ◌+◌, ◌≤◌, Option, Some, None, List, [], ◌∷◌, ◌++◌, length, map, take, refl, sym, ap, subst, ◌∙◌, arith, length-append}
use Rattle.std.specs.Prelude.{slice_get, option_and_then}
use Rattle.std.specs.Option.{option_map}
use Rattle.std.proofs.lemmas.Option.{slice_get-map}
use Rattle.fm_rules.specs.Links.{links_of}
use Rattle.fm_tree.specs.Tree.{Tree, Trees}
use Rattle.fm_tree.specs.References.{applied_in, reference_at}
use Rattle.fm_tree.specs.declared.program_unit.Entry.{Entry}
use Rattle.fm_rules.specs.declared.program.Program.{Program}
use Rattle.fm_mean.specs.Names.{ProgramUnit, Point, unit_at, point_at}
use Rattle.fm_mean.specs.Process as mean
use Rattle.fm_mean.specs.Process.{Execution}
use Rattle.fm_mean.specs.Actions.{action_by, next_reference}
use Rattle.fm_code.specs.declared.body.Frame.{Frame}
use Rattle.fm_code.specs.Acts.{work, nothing, statement}
use Rattle.fm_mean.specs.Referring.{calls_among}
use Rattle.fm_gen_relation.specs.Sound.{IsSoundEntry}
use Rattle.fm_gen_relation.specs.Standing.{Slots, IsFrame}
use Rattle.fm_gen_relation.specs.Frames.{Stands, AreResults}
use Rattle.fm_gen_relation.proofs.Done.{all_done}
use Rattle.fm_gen_operands.specs.Places.{arguments_code}
use Rattle.fm_gen_operands.specs.Keeps.{KeepsActuals}
use Rattle.fm_gen.specs.Statements.{statement_code, reference_operands, reference_end}
use Rattle.fm_gen.specs.Entries.{reference_code, references_code, address_of, statement_in, statement_address, join_in, join_address, unit_code}
use Rattle.fm_gen.specs.Steps.{Site, Agree}
use Rattle.fm_gen.specs.Kept.{site_at, KeepsUnit}
use Rattle.fm_gen.proofs.Ends.{whole_alone}
use Rattle.fm_gen_relation.proofs.Units.{sound_unit}
use Rattle.fm_gen_relation.proofs.Entries.{sound_entry}
use Rattle.fm_gen_operands.proofs.ActualLaws.{keeps_actuals}
use Rattle.fm_gen.proofs.CallStatements.{reference_follows}
use Rattle.fm_gen.proofs.ReferenceLaws.{reference_ended}
use Rattle.fm_gen.proofs.UnitLaws.{entry_there, statement_ended}
use Rattle.fm_gen.proofs.Standings.{reference_stands, reference_next, statement_stands}
use Rattle.fm_gen.proofs.StatementLaws.{statement_follows}

-- Places of references.

all_before : (rs : List ℕ) (n : ℕ) → slice_get rs n ≡ None → take n rs ≡ rs
all_before [] zero e = refl
all_before [] (suc n) e = refl
all_before (r ∷ rs) zero e = absurd (cc)
all_before (r ∷ rs) (suc n) e = ap (λ l. r ∷ l) (all_before rs n e)

all_taken : (rs : List ℕ) → take (length rs) rs ≡ rs
all_taken [] = refl
all_taken (r ∷ rs) = ap (λ l. r ∷ l) (all_taken rs)

none_behind : (rs : List ℕ) (n : ℕ) → slice_get rs n ≡ None → length rs ≤ n
none_behind [] n e = omega arith
none_behind (r ∷ rs) zero e = absurd (cc)
none_behind (r ∷ rs) (suc n) e = omega (arith, none_behind rs n e)

-- what is the same in a list as one of trees that are there is there
there : (o c : Option Tree) → Some o ≡ option_map Some c → (t : Tree) × (o ≡ Some t)
there o None e = absurd (cc)
there o (Some t) e = (t, same o (Some t) e)
  where
    same : (a b : Option Tree) → Some a ≡ Some b → a ≡ b
    same a b e = cc

module _ (p : Program) (u : ProgramUnit) (e : Entry) (references : map (reference_at e.stmt) e.refs ≡ map Some (calls_among p u (applied_in e.stmt))) where
  reference_there : (n r : ℕ) → slice_get e.refs n ≡ Some r → (t : Tree) × (reference_at e.stmt r ≡ Some t)
  reference_there n r is =
      there (reference_at e.stmt r) (slice_get (calls_among p u (applied_in e.stmt)) n)
      (sym (ap (option_map (reference_at e.stmt)) is)
      ∙ sym (slice_get-map (reference_at e.stmt) e.refs n)
      ∙ ap (λ l. slice_get l n) references
      ∙ slice_get-map Some (calls_among p u (applied_in e.stmt)) n)

-- behind the last reference comes the statement, and behind its first instruction the join of a block
join_behind : (p : Program) (u : ProgramUnit) (a n : ℕ) (e : Point) (o : Option Point) → o ≡ Some e → slice_get e.entry.refs n ≡ None → suc (statement_in p u a o n) ≡ join_in p u a o
join_behind p u a n e o at none =
    ap (λ o. suc (statement_in p u a o n)) at
    ∙ ap (λ l. suc (a + length (references_code p u e.entry.stmt 0 0 l))) (all_before e.entry.refs n none ∙ sym (all_taken e.entry.refs))
    ∙ sym (ap (join_in p u a) at)

module _ (p : Program) (number : ℕ) (u : ProgramUnit) (here : unit_at p number ≡ Some u) where
  abbrev passes : (ts : Trees) (n : ℕ) → KeepsActuals p u ts n (arguments_code p u ts n)
  passes ts n = keeps_actuals p number u (sound_unit p number u here) here ts n

  module _ (slots : Slots) (m : Frame) (frame : IsFrame u slots m) (w : Execution) (e : Point) (f : mean.Frame) (below : List mean.Frame) (stands : Stands u slots f m)
      (sound : IsSoundEntry p u e.entry) (results : AreResults p u e.entry f.results) (at : point_at u f.entry ≡ Some e) where
    abbrev site : Site
    site = site_at p u slots w e f below m

    abbrev count : ℕ
    count = length f.results

    abbrev start : ℕ
    start = statement_address p u f.entry count

    -- where this place of a reference comes next
    reference_kept : (r : ℕ) → slice_get e.entry.refs count ≡ Some r → Agree site (statement (unit_code p u) start m) (action_by p w u e f below (next_reference e.entry count))
    reference_kept r is =
        let s = e.entry.stmt in
        let found = reference_stands p u f.entry e at count r is in
        let t = reference_there p u e.entry sound.references count r is in
        let next : next_reference e.entry count ≡ Some t.0 = ap (option_and_then (reference_at s)) is ∙ t.1 in
        let operands = reference_operands p u count (Some t.0) in
        let address = start + suc (length operands) in
        let last = reference_end p u (Some t.0) address ∷ [] in
        let code : reference_code p u s start count r ≡ operands ++ last =
        ap (λ o. reference_operands p u count o ++ reference_end p u o (start + suc (length (reference_operands p u count o))) ∷ []) t.1 in
        let leads : address ≡ statement_address p u f.entry (suc count) = omega (arith, reference_next p u f.entry e at count r is, ap length code, length-append operands last) in
        let end_is : statement (unit_code p u) start m ≡ work (operands ++ last) [] nothing m =
        ap (λ c. work c [] nothing m) found.1
        ∙ whole_alone (reference_code p u s start count r) (reference_ended p u s start count r) found.0 [] nothing m
        ∙ ap (λ c. work c [] nothing m) code in
        subst (λ o. Agree site (statement (unit_code p u) start m) (action_by p w u e f below o)) (sym next)
        (subst (λ t'. Agree site t' (action_by p w u e f below (Some t.0))) (sym end_is)
        (reference_follows p number u here slots m frame w e f below (address_of p u) (statement_address p u f.entry (suc count)) (join_address p u f.entry) stands passes sound results t.0 next address leads))

    -- where all have their results
    statement_kept : slice_get e.entry.refs count ≡ None → Agree site (statement (unit_code p u) start m) (action_by p w u e f below (next_reference e.entry count))
    statement_kept is =
        let s = e.entry.stmt in
        let none : next_reference e.entry count ≡ None = ap (option_and_then (reference_at s)) is in
        let found = statement_stands p u f.entry e at count (none_behind e.entry.refs count is) in
        let end_is : statement (unit_code p u) start m ≡ work (statement_code p u (address_of p u) start f.entry e s) [] nothing m =
        ap (λ c. work c [] nothing m) found.1
        ∙ whole_alone (statement_code p u (address_of p u) start f.entry e s) (statement_ended p u (address_of p u) e start f.entry s) found.0 [] nothing m in
        subst (λ o. Agree site (statement (unit_code p u) start m) (action_by p w u e f below o)) (sym none)
        (subst (λ t. Agree site t (action_by p w u e f below None)) (sym end_is)
        (statement_follows p number u here slots m frame w e f below (address_of p u) (statement_address p u f.entry (suc count)) (join_address p u f.entry) stands
        sound (all_done p u e.entry sound.references f.results results none) start
        (join_behind p u (address_of p u f.entry) count e (point_at u f.entry) at is) (entry_there (slice_get u.tree.body f.entry) (slice_get (links_of u.tree.body) f.entry) e at)))

    kept : (o : Option ℕ) → slice_get e.entry.refs count ≡ o → Agree site (statement (unit_code p u) start m) (action_by p w u e f below (next_reference e.entry count))
    kept None is = statement_kept is
    kept (Some r) is = reference_kept r is

  pub keeps_unit : KeepsUnit p u (unit_code p u)
  keeps_unit k e at slots m frame w f below is stands results =
      subst (λ j. Agree (site_at p u slots w e f below m) (statement (unit_code p u) (statement_address p u j (length f.results)) m) (action_by p w u e f below (next_reference e.entry (length f.results)))) is
      (kept slots m frame w e f below stands (sound_entry p number u k e.entry here (entry_there (slice_get u.tree.body k) (slice_get (links_of u.tree.body) k) e at)) results (ap (point_at u) is ∙ at)
      (slice_get e.entry.refs (length f.results)) refl)
