-- Frames and processes as the meaning's.
use Rattle.std.proofs.Common.{◌≡◌, ℕ, ◌+◌, ◌*◌, ◌<◌, ◌≤◌, ◌&&◌, Bool, true, false, Option, Some, None, unwrap_or, List, [], ◌∷◌, ◌++◌, length, drop, get_or, map, reverse, option_to_list, option_map, refl, sym, ap, append_assoc, ◌∙◌}
use Rattle.std.specs.FinMap as finite
use Rattle.std.specs.Ordering.{nat_cmp}
use Rattle.std.proofs.lemmas.List.{append-nil, drop_all, drop_more}
use Rattle.std.proofs.Math.Nat.{mul_assoc, mul-one}
use Rattle.fm_finmap.specs.Map.{map_of, map_values}
use Rattle.fm_finmap.proofs.Keys.{nat_order}
use Rattle.fm_finmap.proofs.Maps.{map_of-nil, map_values-empty, map_values-insert}
use Rattle.std.specs.BTreeMap.{BTreeMap}
use Rattle.fm_mean.specs.Fits.{variables_of}
use Rattle.fm_symbols.specs.declared.names.Variable.{Variable}
use Rattle.fm_rules.specs.declared.program.Program.{Program}
use Rattle.fm_rules.specs.Main.{main_of}
use Rattle.fm_mean.specs.Names.{ProgramUnit, unit_at, all_unset}
use Rattle.fm_map.specs.Placement.{product}
use Rattle.fm_mean.specs.Calls.{new_frame, variables_in}
use Rattle.fm_mean.specs.Steps.{nodes_of, main_in, main_by, first_proc}
use Rattle.fm_mean.specs.Steps as mean
use Rattle.fm_mean.specs.Process as process
use Rattle.fm_mean.specs.Process.{frame_ports, frames_ports}
use Rattle.fm_mean.specs.Places.{live}
use Rattle.fm_mean.specs.declared.place.Back.{Back}
use Rattle.fm_mean.proofs.Main.{main_is}
use Rattle.fm_mean.proofs.MainUnit.{main_there}
use Rattle.fm_plain_frame.specs.declared.frame.Frame.{Frame}
use Rattle.fm_plain_frame.specs.declared.let_go.LetGo.{LetGo}
use Rattle.fm_plain_frame.specs.declared.word.Word.{Word}
use Rattle.fm_plain_frame.specs.declared.frame.Trips.{Trips}
use Rattle.fm_plain_frame.specs.Frames.{frame_of, frames_of, loops_of, start_of, trips_of}
use Rattle.fm_plain_frame.specs.Memory.{values_of}
use Rattle.fm_plain_frame.specs.LetGo.{let_go_ports}
use Rattle.fm_plain_frame.proofs.Scans.{is_nil, not_zero, turned}

-- one frame at most
pub alone_frames : (p : Program) (top : Option Frame) (below : List Frame) → below ≡ [] → frames_of p top below ≡ option_to_list (option_map (frame_of p) top)
alone_frames p top below none = ap (frames_of p top) none ∙ append-nil (option_to_list (option_map (frame_of p) top))

-- no loop is at work
pub no_loops : (es : List (ℕ × Trips)) → es ≡ [] → map_values trips_of (map_of nat_cmp es) ≡ finite.empty
no_loops es none = ap (map_values trips_of) (map_of-nil nat_cmp es none) ∙ map_values-empty trips_of

-- Nodes.

pub nodes_product : (es : List ℕ) → nodes_of es ≡ product es
nodes_product [] = refl
nodes_product (e ∷ es) = refl

-- one more extent
pub more_nodes : (es : List ℕ) (i n m all : ℕ) → i < length es → m ≡ n * get_or es i 0 → n * product (drop i es) ≡ all → m * product (drop (i + 1) es) ≡ all
more_nodes es i n m all less made so =
    ap (λ k. k * product (drop (i + 1) es)) made
    ∙ mul_assoc n (get_or es i 0) (product (drop (i + 1) es))
    ∙ ap (λ k. n * k) (ap product (sym (drop_more es i 0 less)))
    ∙ so

pub all_nodes : (es : List ℕ) (i n : ℕ) → length es ≤ i → n * product (drop i es) ≡ product es → n ≡ nodes_of es
all_nodes es i n end so = sym (mul-one n) ∙ ap (λ l. n * product l) (sym (drop_all i es end)) ∙ so ∙ sym (nodes_product es)

-- Main.

-- the unit that the program names is its main one
pub main_unit : (p : Program) (n : ℕ) (o : Option ProgramUnit) → n ≡ unwrap_or (main_of p.units.units) 0 → o ≡ unit_at p n → first_proc p ≡ mean.proc_of (main_in n o)
main_unit p n o is at =
    let m = main_there p in
    let same : m.number ≡ n = sym (main_is p m.number m.is) ∙ sym is in
    ap (λ k. mean.proc_of (main_by p k)) (m.is ∙ ap Some same) ∙ ap (λ u. mean.proc_of (main_in n u)) (sym at)

-- it is there
pub main_not_none : (p : Program) (n : ℕ) → n ≡ unwrap_or (main_of p.units.units) 0 → None ≡ unit_at p n → ⊥
main_not_none p n is none =
    let m = main_there p in
    let same : m.number ≡ n = sym (main_is p m.number m.is) ∙ sym is in
    absurd (nothing m.unit (none ∙ ap (unit_at p) (sym same) ∙ m.here))
  where
    nothing : (u : ProgramUnit) → None ≡ Some u → ⊥
    nothing u e = absurd (cc)

-- Frames.

-- a frame in which nothing was done
pub new_is : (p : Program) (f : Frame) → f.entry ≡ 0 → f.loops.entries ≡ [] → f.results.items ≡ [] → f.starts.items ≡ []
    → frame_of p f ≡ new_frame f.unit (values_of (variables_of p f.unit) f.memory.items) f.backs
new_is p f entry loops results starts = λ i. record {
  unit = f.unit;
  entry = entry i;
  values = values_of (variables_of p f.unit) f.memory.items;
  loops = no_loops f.loops.entries loops i;
  results = results i;
  starts = ap (map (start_of p)) starts i;
  backs = f.backs;
}

-- a loop at work
pub set_loops : (old new : BTreeMap ℕ Trips) (k : ℕ) (t : Trips) → map_of nat_cmp new.entries ≡ finite.insert (map_of nat_cmp old.entries) k t → loops_of new ≡ finite.insert (loops_of old) k (trips_of t)
set_loops old new k t e = ap (map_values trips_of) e ∙ map_values-insert trips_of nat_order (map_of nat_cmp old.entries) k t

-- main as it is made
pub main_made : (p : Program) (n : ℕ) (u : ProgramUnit) (f : process.Frame) (m : List Word) (vs : List Variable) (backs : List Back) (count : ℕ) → n ≡ unwrap_or (main_of p.units.units) 0 → Some u ≡ unit_at p n
    → f ≡ new_frame n (values_of (variables_of p n) m) backs → backs ≡ [] → vs ≡ u.names.variables → values_of vs m ≡ all_unset vs → count ≡ nodes_of u.names.extents
    → mean.proc_of (record { frames = f ∷ []; machine = record { first = 0; count = count }; node = 0 }) ≡ first_proc p
main_made p n u f m vs backs count is here frame none mine unset nodes =
    let values : values_of (variables_of p n) m ≡ all_unset u.names.variables = ap (λ o. values_of (variables_in o) m) (sym here) ∙ ap (λ l. values_of l m) (sym mine) ∙ unset ∙ ap all_unset mine in
    let made : f ≡ new_frame n (all_unset u.names.variables) [] = frame ∙ ap (λ l. new_frame n l backs) values ∙ ap (new_frame n (all_unset u.names.variables)) none in
    ap (λ g. mean.proc_of (record { frames = g ∷ []; machine = record { first = 0; count = count }; node = 0 })) made
    ∙ ap (λ k. mean.proc_of (record { frames = new_frame n (all_unset u.names.variables) [] ∷ []; machine = record { first = 0; count = k }; node = 0 })) nodes
    ∙ sym (main_unit p n (Some u) is here)

-- Ports that are let go.

-- none is let go where none is in any part
pub none_at_all : (p : Program) (l : LetGo) (a b c d : Bool) → a ≡ is_nil (live l.replaced.items) → b ≡ is_nil (frames_ports (option_to_list (option_map (frame_of p) l.top)))
    → c ≡ is_nil (frames_ports (map (frame_of p) l.below.items)) → d ≡ is_nil (live l.taken.items) → (a && b && c && d) ≡ is_nil (let_go_ports p l)
none_at_all p l a b c d first top below last =
    let tops = option_to_list (option_map (frame_of p) l.top) in
    let others = map (frame_of p) l.below.items in
    sym (
    nil-append (live l.replaced.items ++ frames_ports (frames_of p l.top l.below.items)) (live l.taken.items)
    ∙ ap (λ x. x && is_nil (live l.taken.items)) (
    nil-append (live l.replaced.items) (frames_ports (frames_of p l.top l.below.items))
    ∙ ap (λ x. is_nil (live l.replaced.items) && x) (
    ap is_nil (ports-append tops (reverse others))
    ∙ nil-append (frames_ports tops) (frames_ports (reverse others))
    ∙ ap (λ x. is_nil (frames_ports tops) && x) (turned frame_ports others)
    )
    )
    ∙ and_four (is_nil (live l.replaced.items)) (is_nil (frames_ports tops)) (is_nil (frames_ports others)) (is_nil (live l.taken.items))
    ∙ ap (λ x. x && is_nil (frames_ports tops) && is_nil (frames_ports others) && is_nil (live l.taken.items)) (sym first)
    ∙ ap (λ x. a && x && is_nil (frames_ports others) && is_nil (live l.taken.items)) (sym top)
    ∙ ap (λ x. a && b && x && is_nil (live l.taken.items)) (sym below)
    ∙ ap (λ x. a && b && c && x) (sym last)
    )
  where
    and_four : (x y z w : Bool) → ((x && (y && z)) && w) ≡ (x && y && z && w)
    and_four true y z w = refl
    and_four false y z w = refl

    nil-append : {Y : Type 0} (xs ys : List Y) → is_nil (xs ++ ys) ≡ (is_nil xs && is_nil ys)
    nil-append [] ys = refl
    nil-append (x ∷ xs) ys = not_zero (length (xs ++ ys)) ∙ sym (ap (λ b. b && is_nil ys) (not_zero (length xs)))

    ports-append : (fs gs : List process.Frame) → frames_ports (fs ++ gs) ≡ frames_ports fs ++ frames_ports gs
    ports-append [] gs = refl
    ports-append (f ∷ fs) gs = ap (λ l. frame_ports f ++ l) (ports-append fs gs) ∙ sym (append_assoc (frame_ports f) (frames_ports fs) (frames_ports gs))
