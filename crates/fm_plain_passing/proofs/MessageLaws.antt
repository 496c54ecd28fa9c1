-- The items of a message one by one.
use Rattle.std.proofs.Common.{◌≡◌, Option, Some, None, option_to_list, List, [], ◌∷◌, ◌++◌, length, refl, ap, sym, ◌∙◌, arith}
use Rattle.std.proofs.lemmas.List.{append_assoc, append-nil}
use Rattle.fm_base.specs.declared.port.PortValue.{PortValue}
use Rattle.fm_base.specs.Channels.{Item, Message, item_ports, message_ports}
use Rattle.fm_mean.specs.declared.place.Span.{Span}
use Rattle.fm_mean.specs.Places.{exchange, live, stored_all, placed_all}
use Rattle.fm_plain_passing.specs.declared.item.Item.{Item as Kept}
use Rattle.fm_plain_passing.specs.Items.{item_of, message_of}
use Rattle.fm_plain_passing.proofs.PassLaws.{live-push}

pub keeps_one : (room new : List (Option PortValue)) (p : Option PortValue) (rest : List (Option PortValue)) (out : List PortValue) → new ≡ room ++ p ∷ [] → live room ++ live (p ∷ rest) ≡ out → live new ++ live rest ≡ out
keeps_one room new None rest out put is = ap (λ l. live l ++ live rest) put ∙ ap (λ l. l ++ live rest) (live-push room None ∙ append-nil (live room)) ∙ is
keeps_one room new (Some z) rest out put is = ap (λ l. live l ++ live rest) put ∙ ap (λ l. l ++ live rest) (live-push room (Some z)) ∙ append_assoc (live room) (z ∷ []) (live rest) ∙ is

-- ---- no places are left

stored_none : (vs : List Item) (ms : Message) → (stored_all vs [] ms).0 ≡ vs
stored_none vs [] = refl
stored_none vs (m ∷ ms) = refl

let_go : (vs : List Item) (ms : Message) → (stored_all vs [] ms).1 ≡ message_ports ms
let_go vs [] = refl
let_go vs (m ∷ ms) = refl

pub stored_past : (vs : List Item) (left : List Span) (x : Kept) (old rest : List Kept) (room new : List PortValue) (all : List Item) (out : List PortValue)
    → length left ≡ 0 → old ≡ x ∷ rest → new ≡ room ++ item_ports (item_of x)
    → (stored_all vs left (message_of old)).0 ≡ all → room ++ (stored_all vs left (message_of old)).1 ≡ out
    → ((stored_all vs left (message_of rest)).0 ≡ all) × (new ++ (stored_all vs left (message_of rest)).1 ≡ out)
stored_past vs (s ∷ ss) x old rest room new all out none items put memory drops = absurd (omega arith)
stored_past vs [] x old rest room new all out none items put memory drops = (
  stored_none vs (message_of rest) ∙ sym (stored_none vs (message_of old)) ∙ memory,
  ap (λ l. new ++ l) (let_go vs (message_of rest)) ∙ ap (λ l. l ++ message_ports (message_of rest)) put
      ∙ append_assoc room (item_ports (item_of x)) (message_ports (message_of rest))
      ∙ ap (λ l. room ++ (stored_all vs [] (message_of l)).1) (sym items) ∙ drops,
)

placed_none : (vs : List Item) (ps : List PortValue) → (placed_all vs [] ps).0 ≡ vs
placed_none vs [] = refl
placed_none vs (p ∷ ps) = refl

placed_out : (vs : List Item) (ps : List PortValue) → (placed_all vs [] ps).1 ≡ ps
placed_out vs [] = refl
placed_out vs (p ∷ ps) = refl

pub placed_past : (vs : List Item) (left : List Span) (p : PortValue) (old rest : List PortValue) (room new : List (Option PortValue)) (all : List Item) (out : List PortValue)
    → length left ≡ 0 → old ≡ p ∷ rest → new ≡ room ++ Some p ∷ []
    → (placed_all vs left old).0 ≡ all → live room ++ (placed_all vs left old).1 ≡ out
    → ((placed_all vs left rest).0 ≡ all) × (live new ++ (placed_all vs left rest).1 ≡ out)
placed_past vs (s ∷ ss) p old rest room new all out none items put memory drops = absurd (omega arith)
placed_past vs [] p old rest room new all out none items put memory drops = (
  placed_none vs rest ∙ sym (placed_none vs old) ∙ memory,
  ap (λ l. live new ++ l) (placed_out vs rest) ∙ ap (λ l. live l ++ rest) put ∙ ap (λ l. l ++ rest) (live-push room (Some p)) ∙ append_assoc (live room) (p ∷ []) rest
      ∙ ap (λ l. live room ++ l) (sym items) ∙ ap (λ l. live room ++ l) (sym (placed_out vs old)) ∙ drops,
)

-- ---- a place is left

placed_more : (vs next : List Item) (s : Span) (ss : List Span) (p : PortValue) (ps : List PortValue) (q : Option PortValue) (room new : List (Option PortValue)) (out : List PortValue)
    → next ≡ (exchange vs s.variable s.first (Some p)).0 → q ≡ (exchange vs s.variable s.first (Some p)).1 → new ≡ room ++ q ∷ []
    → live room ++ (placed_all vs (s ∷ ss) (p ∷ ps)).1 ≡ out → live new ++ (placed_all next ss ps).1 ≡ out
placed_more vs next s ss p ps q room new out is q_is put rest =
    let on = (exchange vs s.variable s.first (Some p)).0 in
    ap (λ v. live new ++ (placed_all v ss ps).1) is
    ∙ ap (λ l. live l ++ (placed_all on ss ps).1) put
    ∙ ap (λ l. l ++ (placed_all on ss ps).1) (live-push room q)
    ∙ append_assoc (live room) (option_to_list q) (placed_all on ss ps).1
    ∙ ap (λ x. live room ++ (option_to_list x ++ (placed_all on ss ps).1)) q_is
    ∙ rest

pub placed_next : (vs next : List Item) (left ss : List Span) (s : Span) (p : PortValue) (old ps : List PortValue) (q : Option PortValue) (room new : List (Option PortValue)) (all : List Item) (out : List PortValue)
    → left ≡ s ∷ ss → old ≡ p ∷ ps → next ≡ (exchange vs s.variable s.first (Some p)).0 → q ≡ (exchange vs s.variable s.first (Some p)).1 → new ≡ room ++ q ∷ []
    → (placed_all vs left old).0 ≡ all → live room ++ (placed_all vs left old).1 ≡ out
    → ((placed_all next ss ps).0 ≡ all) × (live new ++ (placed_all next ss ps).1 ≡ out)
placed_next vs next left ss s p old ps q room new all out places items is q_is put memory drops =
    let same : placed_all vs left old ≡ placed_all vs (s ∷ ss) (p ∷ ps) = ap (λ l. placed_all vs l old) places ∙ ap (placed_all vs (s ∷ ss)) items in (
      ap (λ v. (placed_all v ss ps).0) is ∙ sym (ap (λ (t : List Item × List PortValue). t.0) same) ∙ memory,
      placed_more vs next s ss p ps q room new out is q_is put (sym (ap (λ (t : List Item × List PortValue). live room ++ t.1) same) ∙ drops),
    )
