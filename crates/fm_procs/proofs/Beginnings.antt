-- The children of a block, one after the other, and the block as the machine sees it.
use Rattle.std.proofs.Common.{◌≡◌, ◌<◌, ℕ, suc, ◌+◌, true, Some, List, [], ◌∷◌, ◌++◌, length, map, drop, get_or, refl, sym, ap, ap₂, append_assoc, add-one, ◌∙◌}
use Rattle.std.proofs.Math.Seq.{drop-cons}
use Rattle.std.proofs.lemmas.List.{length-map, map_push}
use Rattle.std.specs.List.{AllByRecursion}
use Rattle.fm_base.specs.Channels.{Chans}
use Rattle.fm_code.specs.declared.ask.Ask.TheVariants as ask
use Rattle.fm_code.specs.declared.body.Body.{Body}
use Rattle.fm_code.specs.declared.body.Start.{Start}
use Rattle.fm_machine_calls.specs.declared.looking.Look.TheVariants.{Asks}
use Rattle.fm_discards.proofs.Shedding.{all_shed-nil}
use Rattle.fm_net.specs.Machine.{Place, Nothing, reply_with}
use Rattle.fm_proc_language.specs.Slots.{Slots}
use Rattle.fm_proc_language.specs.Processes.{CodeProc, Kid, Joining, kid_of, child_of, children_of, began}
use Rattle.fm_procs.specs.declared.beginning.Draft.{Draft}
use Rattle.fm_procs.specs.Drafts.{IsReady, blank, child_in, begun, all_begun}
use Rattle.fm_proc_events.specs.Told.{look_of, is_running}
use Rattle.fm_proc_events.specs.Performs.{Performs}
use Rattle.fm_proc_events.proofs.Asked.{asks_running}

-- The children.

pub all_ready : (ds : List Draft) (d : Draft) → AllByRecursion IsReady ds → IsReady d → AllByRecursion IsReady (ds ++ d ∷ [])
all_ready [] d rs r = (r, tt)
all_ready (x ∷ ds) d rs r = (rs.0, all_ready ds d rs.1 r)

-- one more is drafted
pub one_drafted : (b : Body) (ds ds' : List Draft) (d : Draft) (starts : List Start) (i : ℕ) (s : Start) (all : List CodeProc) → i < length starts → s ≡ get_or starts i s → ds' ≡ ds ++ d ∷ [] → child_in d ≡ blank b s
    → map child_in ds ++ map (blank b) (drop i starts) ≡ all → map child_in ds' ++ map (blank b) (drop (i + 1) starts) ≡ all
one_drafted b ds ds' d starts i s all lt at more is before =
    let rest : List CodeProc = map (blank b) (drop (i + 1) starts) in
    let here : drop i starts ≡ s ∷ drop (i + 1) starts = drop-cons starts i s lt ∙ (λ j. sym at j ∷ drop (sym (add-one i) j) starts) in
    ap (λ (l : List Draft). map child_in l ++ rest) more
    ∙ ap (λ (l : List CodeProc). l ++ rest) (map_push child_in ds d)
    ∙ append_assoc (map child_in ds) (child_in d ∷ []) rest
    ∙ ap (λ (y : CodeProc). map child_in ds ++ y ∷ rest) is
    ∙ ap (λ (l : List Start). map child_in ds ++ map (blank b) l) (sym here)
    ∙ before

-- after one child began, the rest begins as all do
pub record BeginsOn (held : Slots) (cs : List CodeProc) (ss : List Start) (done : List CodeProc) (all : List CodeProc × Slots) : Type 0 where
  pub begun : done ++ (all_begun held cs ss).0 ≡ all.0
  pub slots : (all_begun held cs ss).1 ≡ all.1

pub one_begun : (slots slots' : Slots) (cs cs' : List CodeProc) (c : CodeProc) (ss ss' : List Start) (s : Start) (y : CodeProc) (done done' : List CodeProc) (all : List CodeProc × Slots) → cs ≡ c ∷ cs' → ss ≡ s ∷ ss' → (y, slots') ≡ begun slots c s → done' ≡ done ++ y ∷ []
    → done ++ (all_begun slots cs ss).0 ≡ all.0 → (all_begun slots cs ss).1 ≡ all.1 → BeginsOn slots' cs' ss' done' all
one_begun slots slots' cs cs' c ss ss' s y done done' all is with_start one more e f =
    let first : y ≡ (begun slots c s).0 = ap (λ (p : CodeProc × Slots). p.0) one in
    let behind : slots' ≡ (begun slots c s).1 = ap (λ (p : CodeProc × Slots). p.1) one in
    let on : all_begun slots (c ∷ cs') (s ∷ ss') ≡ all_begun slots cs ss = ap₂ (λ (l : List CodeProc) (m : List Start). all_begun slots l m) (sym is) (sym with_start) in
    record {
      begun =
          ap₂ (λ (d : List CodeProc) (t : Slots). d ++ (all_begun t cs' ss').0) more behind
          ∙ append_assoc done (y ∷ []) (all_begun (begun slots c s).1 cs' ss').0
          ∙ ap (λ (z : CodeProc). done ++ z ∷ (all_begun (begun slots c s).1 cs' ss').0) first
          ∙ ap (λ (p : List CodeProc × Slots). done ++ p.0) on
          ∙ e;
      slots = ap (λ (t : Slots). (all_begun t cs' ss').1) behind ∙ ap (λ (p : List CodeProc × Slots). p.1) on ∙ f;
    }

-- they are those of the starts
pub all_children : (b : Body) (slots : Slots) (ss : List Start) → all_begun slots (map (blank b) ss) ss ≡ children_of b slots ss
all_children b slots [] = refl
all_children b slots (s ∷ ss) = ap (λ (p : List CodeProc × Slots). ((child_of b slots s).0 ∷ p.0, p.1)) (all_children b (child_of b slots s).1 ss)

-- as many drafts as starts
pub as_many : (b : Body) (ds : List Draft) (ss : List Start) → map child_in ds ≡ map (blank b) ss → length ds ≡ length ss
as_many b ds ss is = sym (length-map ds child_in) ∙ (ap (λ (l : List CodeProc). length l) is ∙ length-map ss (blank b))

-- The block.

begun_self : (y : CodeProc) (b b' : Body) (next n : ℕ) (starts : List CodeProc) (slots : Slots) (kids : List Kid) → kids ≡ map kid_of b.frame.starts → (starts, slots) ≡ children_of b y.slots b.frame.starts → b' ≡ record b { frame = record b.frame { starts = []; address = next } } → n ≡ suc y.next_block → record y { phase = Joining y.next_block kids; body = Some b'; slots = slots; next_block = n } ≡ (began y b next).self
begun_self y b b' next n starts slots kids e f g h =
    ap (λ ks. record y { phase = Joining y.next_block ks; body = Some b'; slots = slots; next_block = n }) e
    ∙ (ap (λ (x : List CodeProc × Slots). record y { phase = Joining y.next_block (map kid_of b.frame.starts); body = Some b'; slots = x.1; next_block = n }) f
    ∙ (ap (λ x. record y { phase = Joining y.next_block (map kid_of b.frame.starts); body = Some x; slots = (children_of b y.slots b.frame.starts).1; next_block = n }) g
    ∙ ap (λ x. record y { phase = Joining y.next_block (map kid_of b.frame.starts); body = Some (record b { frame = record b.frame { starts = []; address = next } }); slots = (children_of b y.slots b.frame.starts).1; next_block = x }) h))

pub began_so : (p : Place) (y : CodeProc) (cs : Chans) (b b' : Body) (next n cost : ℕ) (starts : List CodeProc) (slots : Slots) (kids : List Kid) → look_of y ≡ Asks (ask.Begin next) → is_running y ≡ true → y.body ≡ Some b → kids ≡ map kid_of b.frame.starts → (starts, slots) ≡ children_of b y.slots b.frame.starts → b' ≡ record b { frame = record b.frame { starts = []; address = next } } → n ≡ suc y.next_block → cost ≡ 1 + length b.frame.starts → Performs p y cs (record y { phase = Joining y.next_block kids; body = Some b'; slots = slots; next_block = n }) starts cs cost
began_so p y cs b b' next n cost starts slots kids looks runs is e f g h paid = record {
  need = Nothing;
  goes = λ c r. began y b next;
  asks_so = asks_running y b (ask.Begin next) looks runs refl is;
  reply = reply_with [];
  comes = refl;
  on = record {
    self = begun_self y b b' next n starts slots kids e f g h;
    block = refl;
    starts_are = ap (λ (x : List CodeProc × Slots). x.0) f;
    chans = sym (all_shed-nil cs);
    cost_is = paid;
  };
}
