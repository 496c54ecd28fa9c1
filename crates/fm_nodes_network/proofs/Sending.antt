-- A message that is sent is the load that carries its words.
use Rattle.std.proofs.Common.{◌≡◌, ℤ, List, [], ◌∷◌, map, refl, sym, ap, ◌∙◌}
use Rattle.fm_base.specs.Channels.{Words}
use Rattle.fm_link.specs.declared.load.Load.TheVariants as load
use Rattle.fm_link.specs.Ends.{Outgoing, with_load}
use Rattle.fm_link_law.specs.Loads.{words_in}
use Rattle.fm_link_law.specs.Channels.{LinkedChan, pushed}

words_back : (ws : List (List ℤ)) → map words_in (map Words ws) ≡ ws
words_back [] = refl
words_back (w ∷ ws) = ap (λ vs. w ∷ vs) (words_back ws)

pub sent : (old : LinkedChan) (o : Outgoing) (ws : List (List ℤ)) → o ≡ with_load old.outgoing (load.Words ws) → record { outgoing = o; incoming = old.incoming; is_open = old.is_open; lives = old.lives } ≡ pushed (map Words ws) old
sent old o ws is = ap (λ (o : Outgoing). record { outgoing = o; incoming = old.incoming; is_open = old.is_open; lives = old.lives }) (is ∙ ap (λ vs. with_load old.outgoing (load.Words vs)) (sym (words_back ws)))
