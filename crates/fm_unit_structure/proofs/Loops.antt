-- One more end behind a statement.
use Rattle.std.proofs.Common.{◌≡◌, ℕ, ◌<◌, Some, None, Option, List, [], ◌∷◌, ◌++◌, length, drop, refl, sym, ◌∙◌, ap, arith, append_assoc}
use Rattle.fm_base.specs.declared.name.Label.{Label}
use Rattle.fm_base.specs.declared.name.Line.{Line}
use Rattle.fm_tree.specs.declared.form.Bracket.TheVariants.{Closes}
use Rattle.fm_tree.specs.declared.form.Form.{Form}
use Rattle.fm_tree.specs.declared.form.Terminal.{Terminal}
use Rattle.fm_tree.specs.declared.entry_mark.EntryMark.{EntryMark}
use Rattle.fm_tree.specs.declared.entry_mark.Open.{Open}
use Rattle.fm_tree.specs.Structure.{bracket_of}
use Rattle.fm_tree.specs.Blocks.{behind, head_of, turned}
use Rattle.fm_tree.specs.Layout.{closing, end_form, label_left, marks_of, put_end}
use Rattle.fm_unit_structure.specs.Steps.{next_end}
use Rattle.fm_tree_blocks.proofs.Counts.{behind_push}

-- behind an end fewer blocks are open
behind_closed : (entries : List EntryMark) (e : EntryMark) → bracket_of e.form ≡ Closes → behind (entries ++ e ∷ []) ≡ drop 1 (behind entries)
behind_closed entries e is = behind_push entries e ∙ ap (λ b. turned b (length entries) e.form (behind entries)) is

one_end : (t : Terminal) (label : Option Label) (os : List Open) (f : Form) → next_end t label os ≡ Some f → closing t label os ≡ f ∷ closing t label (drop 1 os)
one_end t label [] f h = absurd (cc)
one_end t label (o ∷ os) f h = ap (λ x. put_end x (closing t label os)) h

pub no_end : (t : Terminal) (label : Option Label) (os : List Open) → next_end t label os ≡ None → closing t label os ≡ []
no_end t label [] h = refl
no_end t label (o ∷ os) h = ap (λ x. put_end x (closing t label os)) h

fewer : (t : Terminal) (label : Option Label) (os : List Open) (f : Form) → next_end t label os ≡ Some f → length (drop 1 os) < length os
fewer t label [] f h = absurd (cc)
fewer t label (o ∷ os) f h = omega arith

none_left : (fs : List Form) → label_left None fs ≡ None
none_left [] = refl
none_left (f ∷ fs) = refl

module _ (t : Terminal) (label : Option Label) (line : Line) (tag : Option Label) (place : ℕ) (entries : List EntryMark) (f : Form)
    (here : next_end t label (behind entries) ≡ Some f) (closes : bracket_of f ≡ Closes) where
  abbrev the_end : EntryMark
  the_end = record { line = line; label = tag; form = f; place = place }

  closing_more : closing t label (behind entries) ≡ f ∷ closing t label (behind (entries ++ the_end ∷ []))
  closing_more = one_end t label (behind entries) f here ∙ ap (λ os. f ∷ closing t label os) (sym (behind_closed entries the_end closes))

  pub whole_more : (entries ++ the_end ∷ []) ++ marks_of line None place (closing t label (behind (entries ++ the_end ∷ [])))
      ≡ entries ++ marks_of line tag place (closing t label (behind entries))
  whole_more =
      append_assoc entries (the_end ∷ []) (marks_of line None place (closing t label (behind (entries ++ the_end ∷ []))))
      ∙ ap (λ fs. entries ++ marks_of line tag place fs) (sym closing_more)

  pub left_more : label_left None (closing t label (behind (entries ++ the_end ∷ []))) ≡ label_left tag (closing t label (behind entries))
  left_more = none_left (closing t label (behind (entries ++ the_end ∷ []))) ∙ sym (ap (label_left tag) closing_more)

  pub behind_fewer : length (behind (entries ++ the_end ∷ [])) < length (behind entries)
  behind_fewer =
      let l = fewer t label (behind entries) f here in
      let b = ap length (behind_closed entries the_end closes) in
      omega (arith, l, b)

pub next_of_first : (t : Terminal) (label : Option Label) (os : List Open) (o : Open) → head_of os ≡ Some o → next_end t label os ≡ end_form t label o
next_of_first t label [] o h = absurd (cc)
next_of_first t label (p ∷ os) o h = let q : p ≡ o = cc in ap (end_form t label) q
