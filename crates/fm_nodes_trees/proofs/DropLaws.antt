-- Ports on their way out, list after list.
use Rattle.std.proofs.Common.{◌≡◌, true, false, Option, Some, None, List, [], ◌∷◌, ◌++◌, sym, ap, ◌∙◌}
use Rattle.std.specs.Prelude.{IfNone, is_some, option_to_list}
use Rattle.std.specs.List.{flat_map}
use Rattle.fm_base.specs.declared.port.PortValue.{PortValue}
use Rattle.fm_rules.specs.declared.program.Program.{Program}
use Rattle.fm_plain_frame.specs.declared.let_go.LetGo.{LetGo}
use Rattle.fm_plain_frame.specs.LetGo.{let_go_ports}
use Rattle.fm_plain_frame.specs.Leaving.{Yields}
use Rattle.fm_plain_frame.proofs.LeavingLaws.{yields_none}

-- the list at hand had one more
pub yields_more : (whole a b later : List PortValue) (o : Option PortValue) → whole ≡ a ++ later → Yields a o b → is_some o ≡ true → Yields whole o (b ++ later)
yields_more whole a b later None is yields some = absurd (cc some)
yields_more whole a b later (Some z) is yields some = is ∙ ap (λ zs. zs ++ later) yields

-- the next port, and what is left
pub yields_list : (whole : List PortValue) (o : Option PortValue) (later : List PortValue) → Yields whole o later → whole ≡ option_to_list o ++ later
yields_list whole None later yields = yields.0 ∙ sym yields.1
yields_list whole (Some z) later yields = yields

-- where none is next, none is left
pub yields_last : (whole : List PortValue) (o : Option PortValue) (later : List PortValue) → Yields whole o later → IfNone o (later ≡ [])
yields_last whole None later yields = yields.1
yields_last whole (Some z) later yields = tt

module _ (p : Program) (whole a b : List PortValue) (rest : List LetGo) (o : Option PortValue) (is : a ++ flat_map (let_go_ports p) rest ≡ whole) (yields : Yields a o b) (none : is_some o ≡ false) where
  -- the list at hand is empty, so those that come later are all
  all_later : whole ≡ flat_map (let_go_ports p) rest
  all_later = sym is ∙ ap (λ zs. zs ++ flat_map (let_go_ports p) rest) (yields_none a b o none yields).0

  -- the next list is at hand
  pub next_at_hand : (first : LetGo) (others : List LetGo) → rest ≡ first ∷ others → (zs : List PortValue) → zs ≡ let_go_ports p first → zs ++ flat_map (let_go_ports p) others ≡ whole
  next_at_hand first others more zs at_hand = ap (λ ys. ys ++ flat_map (let_go_ports p) others) at_hand ∙ sym (all_later ∙ ap (flat_map (let_go_ports p)) more)

  -- or none is left
  pub all_gone : (others : List LetGo) → rest ≡ [] → others ≡ [] → (whole ≡ []) × (b ++ flat_map (let_go_ports p) others ≡ [])
  all_gone others no_more none_left = (
    all_later ∙ ap (flat_map (let_go_ports p)) no_more,
    ap (λ zs. zs ++ flat_map (let_go_ports p) others) (yields_none a b o none yields).1 ∙ ap (flat_map (let_go_ports p)) none_left,
  )
