-- Each entry of a unit is a program point.
use Rattle.std.proofs.Common.{◌≡◌, ℕ, zero, suc, ◌+◌, Some, List, [], ◌∷◌, slice_get, ap, ◌∙◌, arith}
use Rattle.std.specs.Option.{option_map}
use Rattle.std.proofs.lemmas.Option.{slice_get-map}
use Rattle.fm_tree.specs.declared.entry_mark.EntryMark.{EntryMark}
use Rattle.fm_tree.specs.declared.program_unit.Entry.{Entry}
use Rattle.fm_rules.specs.Links.{mark_of, marks_of, links_at, links_from, links_of}
use Rattle.fm_mean.specs.Names.{ProgramUnit, point_with, point_at}

links_among : (body : List Entry) (marks : List EntryMark) (k : ℕ) (ms : List EntryMark) (i : ℕ) (m : EntryMark) → slice_get ms i ≡ Some m → slice_get (links_from body marks k ms) i ≡ Some (links_at body marks (k + i))
links_among body marks k [] i m e = absurd (cc)
links_among body marks k (n ∷ ms) zero m e = ap (λ j. Some (links_at body marks j)) (omega arith)
links_among body marks k (n ∷ ms) (suc i) m e = links_among body marks (k + 1) ms i m e ∙ ap (λ j. Some (links_at body marks j)) (omega arith)

pub links_there : (body : List Entry) (k : ℕ) (e : Entry) → slice_get body k ≡ Some e → slice_get (links_of body) k ≡ Some (links_at body (marks_of body) k)
links_there body k e is =
    links_among body (marks_of body) 0 (marks_of body) k (mark_of e) (slice_get-map mark_of body k ∙ ap (option_map mark_of) is)
    ∙ ap (λ j. Some (links_at body (marks_of body) j)) (omega arith)

pub point_there : (u : ProgramUnit) (k : ℕ) (e : Entry) → slice_get u.tree.body k ≡ Some e → point_at u k ≡ Some (record { entry = e; links = links_at u.tree.body (marks_of u.tree.body) k })
point_there u k e is = ap (λ o. point_with o (slice_get (links_of u.tree.body) k)) is ∙ ap (point_with (Some e)) (links_there u.tree.body k e is)
