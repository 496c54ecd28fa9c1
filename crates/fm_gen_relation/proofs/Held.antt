-- The slots that the words of a frame hold, and its starts, are the ports of the values for which they stand.
use Rattle.std.proofs.Common.{◌≡◌, ℕ, ℤ, pos, Bool, true, false, not, cond, Some, None, List, [], ◌∷◌, ◌++◌, map, take, drop, refl, sym, ap, ◌∙◌}
use Rattle.std.specs.List.{flat_map, filter_map}
use Rattle.std.specs.Ordering.{int_eq}
use Rattle.std.proofs.lemmas.List.{map-append}
use Rattle.std.proofs.lemmas.List.Elements.{filter-append}
use Rattle.fm_base.specs.declared.port.PortValue.{PortValue}
use Rattle.fm_base.specs.Channels.{item_ports, message_ports}
use Rattle.fm_tree.specs.declared.port_type.Kind.{Kind}
use Rattle.fm_tree.specs.declared.port_type.Kind.TheVariants as kind
use Rattle.fm_symbols.specs.declared.names.Variable.{Variable}
use Rattle.fm_rules.specs.declared.program.Program.{Program}
use Rattle.fm_mean.specs.Names.{ProgramUnit, unit_at}
use Rattle.fm_mean.specs.Process as mean
use Rattle.fm_mean.specs.Process.{started_ports}
use Rattle.fm_code.specs.declared.code.Span.{Span}
use Rattle.fm_code.specs.declared.body.Body.{Body}
use Rattle.fm_code.specs.declared.body.Start.{Start}
use Rattle.fm_code.specs.Acts.{span_of as words_at}
use Rattle.fm_code.specs.Passing.{is_port, live, ports_in}
use Rattle.fm_code.specs.Statements as code
use Rattle.fm_code.specs.Statements.{start_ports}
use Rattle.fm_gen_relation.specs.Sound.{is_word}
use Rattle.fm_gen_relation.specs.Standing.{Slots, port_by, item_by, values_in}
use Rattle.fm_gen_relation.specs.Formals.{span_of, ports_of}
use Rattle.fm_gen_relation.specs.Frames.{StartsStand}

live_alike : (slots : Slots) (zs : List ℤ) → map slots (live zs) ≡ filter_map (λ p. p) (map (port_by slots) zs)
live_alike slots [] = refl
live_alike slots (z ∷ zs) = go (int_eq z (pos 0)) (live_alike slots zs)
  where
    go : (b : Bool) → map slots (live zs) ≡ filter_map (λ p. p) (map (port_by slots) zs)
        → map slots (cond (not b) (z ∷ live zs) (live zs)) ≡ filter_map (λ p. p) (cond b None (Some (slots z)) ∷ map (port_by slots) zs)
    go true rest = rest
    go false rest = ap (λ l. slots z ∷ l) rest

-- the words of one variable, and those behind them
port_held : (slots : Slots) (zs ys : List ℤ) (ports : List PortValue) → map slots (live ys) ≡ ports → map slots (live (zs ++ ys)) ≡ filter_map (λ p. p) (map (port_by slots) zs) ++ ports
port_held slots zs ys ports rest =
    ap (map slots) (filter-append is_port zs ys)
    ∙ map-append slots (live zs) (live ys)
    ∙ ap (λ l. l ++ map slots (live ys)) (live_alike slots zs)
    ∙ ap (λ l. filter_map (λ p. p) (map (port_by slots) zs) ++ l) rest

pub held_alike : (slots : Slots) (vs : List Variable) (ws : List ℤ) → map slots (ports_in (ports_of vs) ws) ≡ message_ports (values_in slots vs ws)
held_alike slots [] ws = refl
held_alike slots (v ∷ vs) ws = go v.kind (held_alike slots vs ws)
  where
    go : (k : Kind) → map slots (ports_in (ports_of vs) ws) ≡ message_ports (values_in slots vs ws)
        → map slots (ports_in (cond (is_word k) (ports_of vs) (span_of v ∷ ports_of vs)) ws) ≡ item_ports (item_by slots k (take v.words (drop v.first ws))) ++ message_ports (values_in slots vs ws)
    go kind.Integer rest = rest
    go kind.Logical rest = rest
    go (kind.In t) rest = port_held slots (take v.words (drop v.first ws)) (flat_map (words_at ws) (ports_of vs)) (message_ports (values_in slots vs ws)) rest
    go (kind.Out t) rest = port_held slots (take v.words (drop v.first ws)) (flat_map (words_at ws) (ports_of vs)) (message_ports (values_in slots vs ws)) rest

-- the same of starts, where a unit's ports have these words
pub starts_alike : (p : Program) (slots : Slots) (spans : ℕ → List Span) → ((n : ℕ) (u : ProgramUnit) → unit_at p n ≡ Some u → spans n ≡ ports_of u.names.variables)
    → (mine : List Variable) (ss : List mean.Start) (cs : List Start) → StartsStand p slots mine ss cs → map slots (flat_map (λ (c : Start). ports_in (spans c.unit) c.words) cs) ≡ started_ports ss
starts_alike p slots spans has mine [] [] h = refl
starts_alike p slots spans has mine [] (c ∷ cs) h = absurd h
starts_alike p slots spans has mine (s ∷ ss) [] h = absurd h
starts_alike p slots spans has mine (s ∷ ss) (c ∷ cs) h =
    let vs = h.0.unit.names.variables in
    map-append slots (ports_in (spans c.unit) c.words) (flat_map (λ (c : Start). ports_in (spans c.unit) c.words) cs)
    ∙ ap (λ l. l ++ map slots (flat_map (λ (c : Start). ports_in (spans c.unit) c.words) cs))
    (ap (λ n. map slots (ports_in (spans n) c.words)) h.0.number ∙ ap (λ l. map slots (ports_in l c.words)) (has s.unit h.0.unit h.0.there) ∙ held_alike slots vs c.words ∙ ap message_ports (sym h.0.values))
    ∙ ap (λ l. message_ports s.values ++ l) (starts_alike p slots spans has mine ss cs h.1)

-- in a body whose code tells the ports of each unit
pub started_alike : (p : Program) (slots : Slots) (b : Body) → ((n : ℕ) (u : ProgramUnit) → unit_at p n ≡ Some u → code.ports_of (code.unit_at b n) ≡ ports_of u.names.variables)
    → (mine : List Variable) (ss : List mean.Start) (cs : List Start) → StartsStand p slots mine ss cs → map slots (start_ports b cs) ≡ started_ports ss
started_alike p slots b has mine ss cs h = starts_alike p slots (λ n. code.ports_of (code.unit_at b n)) has mine ss cs h
