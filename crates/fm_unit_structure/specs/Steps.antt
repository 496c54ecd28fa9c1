-- A step of laying out.
-- Source: this profile.
use Rattle.std.specs.Prelude.{Option, None, List, [], ◌∷◌}
use Rattle.fm_base.specs.declared.name.Label.{Label}
use Rattle.fm_tree.specs.declared.form.Form.{Form}
use Rattle.fm_tree.specs.declared.form.Terminal.{Terminal}
use Rattle.fm_tree.specs.declared.entry_mark.Open.{Open}
use Rattle.fm_tree.specs.Layout.{end_form}

-- what ends the innermost of these blocks behind a statement
abbrev pub next_end : Terminal → Option Label → List Open → Option Form
next_end t label [] = None
next_end t label (o ∷ os) = end_form t label o
