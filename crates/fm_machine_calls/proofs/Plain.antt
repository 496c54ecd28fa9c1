-- Where no port is given back, none is displaced, and the giver keeps its words.
use Rattle.std.proofs.Common.{◌≡◌, ℤ, Bool, true, false, ◌||◌, ◌++◌, Some, List, [], ◌∷◌, length, refl, sym, ap, ◌∙◌}
use Rattle.std.specs.List.{list_any}
use Rattle.fm_code.specs.declared.body.Back.{Back}
use Rattle.fm_code.specs.declared.body.Body.{Body}
use Rattle.fm_code.specs.declared.body.Frame.{Frame}
use Rattle.fm_code.specs.Passing.{Given, backs_fit, give, give_words, give_all, ports_in}
use Rattle.fm_code.specs.Statements.{CodeUnit, given, gives_back, left_ports, ports_of, start_ports, unit_at}
use Rattle.fm_machine_calls.specs.declared.looking.Look.TheVariants as look
use Rattle.fm_machine_calls.specs.Looks.{look_by, look_in}

both_false : (x y : Bool) → (x || y) ≡ false → (x ≡ false) × (y ≡ false)
both_false false y e = (refl, e)
both_false true y e = absurd (cc)

words_given : (b : Back) (g : Given) → b.port ≡ false → give b g ≡ give_words b g
words_given b g e = rw e refl

pub plain_theirs : (bs : List Back) (g : Given) → list_any (λ (b : Back). b.port) bs ≡ false → (give_all bs g).theirs ≡ g.theirs
plain_theirs [] g e = refl
plain_theirs (b ∷ bs) g e =
    let p = both_false b.port (list_any (λ (b : Back). b.port) bs) e in
    ap (λ x. (give_all bs x).theirs) (words_given b g p.0) ∙ plain_theirs bs (give_words b g) p.1

pub plain_drops : (bs : List Back) (g : Given) → list_any (λ (b : Back). b.port) bs ≡ false → (give_all bs g).drops ≡ g.drops
plain_drops [] g e = refl
plain_drops (b ∷ bs) g e =
    let p = both_false b.port (list_any (λ (b : Back). b.port) bs) e in
    ap (λ x. (give_all bs x).drops) (words_given b g p.0) ∙ plain_drops bs (give_words b g) p.1

-- a frame with no port words and no starts leaves no port
pub leaves_none : (b : Body) (u : CodeUnit) (ws : List ℤ) → unit_at b b.frame.unit ≡ Some u → u.ports ≡ [] → b.frame.starts ≡ [] → left_ports b ws ≡ []
leaves_none b u ws is ports starts =
    ap (λ o. ports_in (ports_of o) ws ++ start_ports b b.frame.starts) is
    ∙ (ap (λ spans. ports_in spans ws ++ start_ports b b.frame.starts) ports
    ∙ ap (λ ss. start_ports b ss) starts)

fits_look : (fit : Bool) (b : Body) (c : Frame) → fit ≡ true → fit ≡ backs_fit (length c.words) (length b.frame.words) b.frame.backs → (below : List Frame) → look_in (gives_back b (c ∷ below)) ≡ look_by ((given b c).drops ++ left_ports b (given b c).theirs)
fits_look fit b c is e below = rw (sym e ∙ is) refl

-- where no port is given back or left, none is let go
pub returns_plainly : (b : Body) (c : Frame) (below below' : List Frame) → below ≡ c ∷ below' → ((ws : List ℤ) → left_ports b ws ≡ []) → backs_fit (length c.words) (length b.frame.words) b.frame.backs ≡ true → list_any (λ (b : Back). b.port) b.frame.backs ≡ false → look_in (gives_back b below) ≡ look.Goes
returns_plainly b c below below' is none fit plain =
    ap (λ l. look_in (gives_back b l)) is
    ∙ (fits_look true b c refl (sym fit) below'
    ∙ (ap (λ ds. look_by (ds ++ left_ports b (given b c).theirs)) (plain_drops b.frame.backs _ plain)
    ∙ ap look_by (none (given b c).theirs)))
