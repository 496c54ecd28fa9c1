use Rattle.std.proofs.Common.{◌≡◌, ◌∙◌, ℕ, ◌+◌, ◌<◌, ◌++◌, [], ◌∷◌, List, length, map, take, set, sym, ap, arith}
use Rattle.std.proofs.lemmas.List.{length-map, length_push, take_all}
use Rattle.fm_graph.specs.declared.search.Mark.{Mark}
use Rattle.fm_graph.specs.declared.search.Mark.TheVariants.{Done}
use Rattle.fm_graph.specs.Search.{IsKnown, IsPlaced, closed}
use Rattle.fm_graph.proofs.Marks.{Popped, node_popped, none_closed, on_path_within, one_closed, popped}
use Rattle.fm_graph.proofs.search.close.Goals as goal

pub nodes-init : goal.nodes-init
nodes-init c = record {
  within = c.requires.within;
  marks = none_closed c.args.segment.node c.args.marks.now.items c.args.path.now.items c.requires.known;
  path = sym (take_all (length c.args.path.now.items) c.args.path.now.items (omega arith));
}

within : (ms : List Mark) (path path' : List ℕ) (node : ℕ) → IsPlaced ms path → Popped path path' node → node < length ms
within ms path path' node placed (popped a l e) = on_path_within ms node (length path') (placed (length path') node l e)

marks : (node : ℕ) (ms : List Mark) (path path' : List ℕ) (v n : ℕ) → IsKnown ms path → IsPlaced ms path → Popped path path' v → n ≡ length path' + 1
    → set (map (closed node n) ms) v (Done node) ≡ map (closed node (length path')) ms
marks node ms path path' v n known placed (popped a l e) is = ap (λ k. set (map (closed node k) ms) v (Done node)) is ∙ one_closed node ms path v (length path') known placed l e

taken : (path path' : List ℕ) (v : ℕ) → Popped path path' v → path' ≡ take (length path') path
taken path path' v (popped a l e) = a

pub index_mut-requires : goal.index_mut-requires
index_mut-requires c =
    let items : c.nodes.path.items ≡ c.pop.new.self.items ++ c.in-Some.node ∷ [] = c.in-Some.ensures.items in
    let p = node_popped c.args.path.now.items c.nodes.path.items c.pop.new.self.items c.in-Some.node c.nodes.invariant.path items in
    let w = within c.args.marks.now.items c.args.path.now.items c.pop.new.self.items c.in-Some.node c.requires.placed p in
    let a = ap length c.nodes.invariant.marks in
    let b = length-map c.args.marks.now.items (closed c.args.segment.node (length c.nodes.path.items)) in
    omega (arith, w, a, b, c.nodes.marks.ok.0)

pub nodes-preserved-in-Some : goal.nodes-preserved-in-Some
nodes-preserved-in-Some c =
    let items : c.nodes.path.items ≡ c.pop.new.self.items ++ c.in-Some.node ∷ [] = c.in-Some.ensures.items in
    let n : length c.nodes.path.items ≡ length c.pop.new.self.items + 1 = ap length items ∙ length_push c.pop.new.self.items c.in-Some.node in
    let p = node_popped c.args.path.now.items c.nodes.path.items c.pop.new.self.items c.in-Some.node c.nodes.invariant.path items in
    record {
      within = omega (arith, n, c.nodes-test.true);
      marks = ap (λ (ms : List Mark). set ms c.in-Some.node (Done c.args.segment.node)) c.nodes.invariant.marks
          ∙ marks c.args.segment.node c.args.marks.now.items c.args.path.now.items c.pop.new.self.items c.in-Some.node (length c.nodes.path.items) c.requires.known c.requires.placed p n;
      path = taken c.args.path.now.items c.pop.new.self.items c.in-Some.node p;
    }
