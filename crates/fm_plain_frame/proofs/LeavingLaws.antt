-- Ports on their way out.
use Rattle.std.proofs.Common.{◌≡◌, ℕ, zero, suc, ◌+◌, Bool, true, false, cond, Option, Some, None, is_some, List, [], ◌∷◌, ◌++◌, map, take, drop, slice_get, reverse, option_to_list, refl, sym, ap, arith, append_assoc, ◌∙◌}
use Rattle.std.proofs.Math.Seq.{drop-nil}
use Rattle.std.proofs.lemmas.List.{drop-drop, reverse-append, map-append}
use Rattle.fm_base.specs.declared.port.PortValue.{PortValue}
use Rattle.fm_base.specs.Channels.{item_ports, message_ports}
use Rattle.fm_tree.specs.declared.port_type.Kind.{Kind}
use Rattle.fm_tree.specs.declared.port_type.Kind.TheVariants as kind
use Rattle.fm_symbols.specs.declared.names.Variable.{Variable}
use Rattle.fm_rules.specs.declared.program.Program.{Program}
use Rattle.fm_mean.specs.Fits.{variables_of}
use Rattle.fm_mean.specs.Layout.{AreLaidOut}
use Rattle.fm_mean.specs.Places.{live}
use Rattle.fm_mean.specs.Process.{started_ports, frame_ports, frames_ports}
use Rattle.fm_mean.specs.Process as mean
use Rattle.fm_plain_frame.specs.declared.word.Word.{Word}
use Rattle.fm_plain_frame.specs.declared.frame.Frame.{Frame}
use Rattle.fm_plain_frame.specs.declared.frame.Start.{Start}
use Rattle.fm_plain_frame.specs.declared.let_go.LetGo.{LetGo}
use Rattle.fm_plain_frame.specs.Memory.{port_in, holds_ports, item_by, values_of}
use Rattle.fm_plain_frame.specs.Frames.{frame_of, frames_of, start_of}
use Rattle.fm_plain_frame.specs.LetGo.{let_go_ports}
use Rattle.fm_plain_frame.specs.declared.leaving.Row.{Row}
use Rattle.fm_plain_frame.specs.Leaving.{word_ports, following_ports, row_by, row_ports, later_ports, later_count, Opens, Pops, Yields}
use Rattle.fm_plain_frame.specs.declared.leaving.Leaving.{Leaving}
use Rattle.fm_plain_frame.proofs.UnitLaws.{laid_out}

-- Memory, word after word.

take-nil : {A : Type 0} (n : ℕ) → ◌≡◌ {A = List A} (take n []) []
take-nil zero = refl
take-nil (suc n) = refl

no_words : (b : Bool) → word_ports b [] ≡ []
no_words true = refl
no_words false = refl

pub following-nil : (vs : List Variable) → following_ports vs [] ≡ []
following-nil [] = refl
following-nil (v ∷ vs) =
    ap (λ l. word_ports (holds_ports v.kind) l ++ following_ports vs (drop v.words [])) (take-nil v.words)
    ∙ ap (λ l. l ++ following_ports vs (drop v.words [])) (no_words (holds_ports v.kind))
    ∙ ap (following_ports vs) (drop-nil v.words)
    ∙ following-nil vs

item_words : (k : Kind) (ws : List Word) → item_ports (item_by k ws) ≡ word_ports (holds_ports k) ws
item_words kind.Integer ws = refl
item_words kind.Logical ws = refl
item_words (kind.In t) ws = refl
item_words (kind.Out t) ws = refl

following_from : (n : ℕ) (vs : List Variable) (m : List Word) → AreLaidOut n vs → message_ports (values_of vs m) ≡ following_ports vs (drop n m)
following_from n [] m laid = refl
following_from n (v ∷ vs) m laid =
    ap (λ l. l ++ message_ports (values_of vs m)) (item_words v.kind (take v.words (drop v.first m)) ∙ ap (λ k. word_ports (holds_ports v.kind) (take v.words (drop k m))) laid.0)
    ∙ ap (λ l. word_ports (holds_ports v.kind) (take v.words (drop n m)) ++ l) (following_from (n + v.words) vs m laid.1 ∙ ap (following_ports vs) (sym (drop-drop v.words n m)))

-- the ports of a memory are those of its words in turn
pub following : (p : Program) (n : ℕ) (m : List Word) → message_ports (values_of (variables_of p n) m) ≡ following_ports (variables_of p n) m
following p n m = following_from 0 (variables_of p n) m (laid_out p n)

-- What is left of a memory: b says whether the variable at hand holds ports, k how many words it has left.
abbrev pub row_of : List Variable → Bool → (k : ℕ) → List Word → (next : ℕ) → List PortValue
row_of vs b k ws next = word_ports b (take k ws) ++ following_ports (drop next vs) (drop k ws)

pub begun : (vs : List Variable) (b : Bool) (ws : List Word) → row_of vs b 0 ws 0 ≡ following_ports vs ws
begun vs b ws = ap (λ l. l ++ following_ports vs ws) (no_words b)

-- behind the last word
pub run_out : (vs : List Variable) (b : Bool) (k : ℕ) (ws : List Word) (i : ℕ) → ws ≡ [] → row_of vs b k ws i ≡ []
run_out vs b k ws i none =
    ap (λ l. row_of vs b k l i) none
    ∙ ap (λ l. word_ports b l ++ following_ports (drop i vs) (drop k [])) (take-nil k)
    ∙ ap (λ l. l ++ following_ports (drop i vs) (drop k [])) (no_words b)
    ∙ ap (following_ports (drop i vs)) (drop-nil k)
    ∙ following-nil (drop i vs)

-- a word of ports
abbrev pub word_list : Bool → Word → List PortValue
word_list b w = cond b (option_to_list (port_in w)) []

one_word : (b : Bool) (w : Word) (ws : List Word) → word_ports b (w ∷ ws) ≡ word_list b w ++ word_ports b ws
one_word true w ws = go (port_in w)
  where
    go : (o : Option PortValue) → live (o ∷ map port_in ws) ≡ option_to_list o ++ live (map port_in ws)
    go None = refl
    go (Some z) = refl
one_word false w ws = refl

pub by_word : (vs : List Variable) (b : Bool) (k j : ℕ) (w : Word) (ws all : List Word) (i : ℕ) → k ≡ j + 1 → all ≡ w ∷ ws → row_of vs b k all i ≡ word_list b w ++ row_of vs b j ws i
by_word vs b k j w ws all i e is =
    ap (λ l. row_of vs b k l i) is
    ∙ ap (λ n. row_of vs b n (w ∷ ws) i) more
    ∙ ap (λ l. l ++ following_ports (drop i vs) (drop j ws)) (one_word b w (take j ws))
    ∙ append_assoc (word_list b w) (word_ports b (take j ws)) (following_ports (drop i vs) (drop j ws))
  where
    more : k ≡ suc j
    more = omega (arith, e)

-- Lists of ports.

pub yields_front : (a a' z : List PortValue) (o : Option PortValue) → is_some o ≡ true → Yields a o a' → Yields (a ++ z) o (a' ++ z)
yields_front a a' z None some y = absurd (cc)
yields_front a a' z (Some x) some y = ap (λ l. l ++ z) y

pub yields_behind : (a b b' : List PortValue) (o : Option PortValue) → a ≡ [] → Yields b o b' → Yields (a ++ b) o (a ++ b')
yields_behind a b b' None none y = (ap (λ l. l ++ b) none ∙ y.0, ap (λ l. l ++ b') none ∙ y.1)
yields_behind a b b' (Some x) none y = ap (λ l. l ++ b) none ∙ y ∙ ap (λ l. x ∷ (l ++ b')) (sym none)

pub yields_none : (a a' : List PortValue) (o : Option PortValue) → is_some o ≡ false → Yields a o a' → (a ≡ []) × (a' ≡ [])
yields_none a a' None none y = y
yields_none a a' (Some x) none y = absurd (cc)

pub yields_same : (a b b' : List PortValue) (o : Option PortValue) → a ≡ b → Yields b o b' → Yields a o b'
yields_same a b b' None e y = (e ∙ y.0, y.1)
yields_same a b b' (Some x) e y = e ∙ y

pub yields_new : (a b b' : List PortValue) (o : Option PortValue) → b ≡ b' → Yields a o b → Yields a o b'
yields_new a b b' None e y = (y.0, sym e ∙ y.1)
yields_new a b b' (Some x) e y = y ∙ ap (λ l. x ∷ l) e

-- Frames.

turned_last : {A B : Type 0} (f : A → B) (xs : List A) (x : A) → reverse (map f (xs ++ x ∷ [])) ≡ f x ∷ reverse (map f xs)
turned_last f xs x = ap reverse (map-append f xs (x ∷ [])) ∙ reverse-append (map f xs) (f x ∷ [])

-- where the frame that was put last comes first
pub last_frame : (p : Program) (below : List Frame) (f : Frame) → frames_of p None (below ++ f ∷ []) ≡ frame_of p f ∷ frames_of p None below
last_frame p below f = turned_last (frame_of p) below f

-- a call: the frame that was on top comes below the new one
pub pushed : (p : Program) (f g : Frame) (below : List Frame) → frames_of p (Some f) (below ++ g ∷ []) ≡ frame_of p f ∷ frames_of p (Some g) below
pushed p f g below = ap (λ l. frame_of p f ∷ l) (turned_last (frame_of p) below g)

-- the same, as a return finds it
pub popped : (p : Program) (f g : Frame) (below all : List Frame) → all ≡ below ++ g ∷ [] → frames_of p (Some f) all ≡ frame_of p f ∷ frames_of p (Some g) below
popped p f g below all e = ap (frames_of p (Some f)) e ∙ pushed p f g below

-- All ports.

-- at first all stand as they were let go
pub made : (p : Program) (l : LetGo) (replaced taken : List (Option PortValue)) (row : List PortValue) (starts : List Start) → replaced ≡ l.replaced.items → row ≡ [] → starts ≡ [] → taken ≡ l.taken.items
    → live replaced ++ (row ++ (started_ports (map (start_of p) starts) ++ frames_ports (frames_of p l.top l.below.items) ++ live taken)) ≡ let_go_ports p l
made p l replaced taken row starts is no_row no_starts same =
    let frames = frames_ports (frames_of p l.top l.below.items) in
    ap (λ ps. live ps ++ (row ++ (started_ports (map (start_of p) starts) ++ frames ++ live taken))) is
    ∙ ap (λ r. live l.replaced.items ++ (r ++ (started_ports (map (start_of p) starts) ++ frames ++ live taken))) no_row
    ∙ ap (λ ss. live l.replaced.items ++ (started_ports (map (start_of p) ss) ++ frames ++ live taken)) no_starts
    ∙ ap (λ ps. live l.replaced.items ++ (frames ++ live ps)) same
    ∙ sym (append_assoc (live l.replaced.items) frames (live l.taken.items))

-- a start that comes next
pub start_opens : (p : Program) (s : Start) (starts all : List Start) (frames row : List PortValue) → all ≡ s ∷ starts → row ≡ following_ports (variables_of p s.unit) s.memory.items
    → row ++ (started_ports (map (start_of p) starts) ++ frames) ≡ started_ports (map (start_of p) all) ++ frames
start_opens p s starts all frames row is here =
    ap (λ l. l ++ (started_ports (map (start_of p) starts) ++ frames)) (here ∙ sym (following p s.unit s.memory.items))
    ∙ sym (append_assoc (message_ports (values_of (variables_of p s.unit) s.memory.items)) (started_ports (map (start_of p) starts)) frames)
    ∙ ap (λ l. started_ports (map (start_of p) l) ++ frames) (sym is)

-- a frame that comes next, with its starts
pub frame_opens : (p : Program) (f : Frame) (row : List PortValue) (old starts : List Start) (all rest : List mean.Frame) → old ≡ [] → starts ≡ f.starts.items
    → all ≡ frame_of p f ∷ rest → row ≡ following_ports (variables_of p f.unit) f.memory.items
    → row ++ (started_ports (map (start_of p) starts) ++ frames_ports rest) ≡ started_ports (map (start_of p) old) ++ frames_ports all
frame_opens p f row old starts all rest none same is here =
    ap (λ l. l ++ (started_ports (map (start_of p) starts) ++ frames_ports rest)) (here ∙ sym (following p f.unit f.memory.items))
    ∙ ap (λ l. message_ports (values_of (variables_of p f.unit) f.memory.items) ++ (started_ports (map (start_of p) l) ++ frames_ports rest)) same
    ∙ sym (append_assoc (message_ports (values_of (variables_of p f.unit) f.memory.items)) (started_ports (map (start_of p) f.starts.items)) (frames_ports rest))
    ∙ ap frames_ports (sym is)
    ∙ ap (λ l. started_ports (map (start_of p) l) ++ frames_ports all) (sym none)

-- nothing comes
pub nothing_opens : (p : Program) (starts : List Start) (all : List mean.Frame) → starts ≡ [] → all ≡ [] → started_ports (map (start_of p) starts) ++ frames_ports all ≡ []
nothing_opens p starts all none is = ap (λ l. started_ports (map (start_of p) l) ++ frames_ports all) none ∙ ap frames_ports is

-- the memory at hand as it is made
pub row_made : (p : Program) (r : Row) (unit : ℕ) (ws m : List Word) → r.unit ≡ unit → ((vs : List Variable) → row_by vs r ≡ following_ports vs ws) → ws ≡ m → row_ports p r ≡ following_ports (variables_of p unit) m
row_made p r unit ws m is ports same = ports (variables_of p r.unit) ∙ ap (following_ports (variables_of p r.unit)) same ∙ ap (λ k. following_ports (variables_of p k) m) is

-- Steps.

-- a port that was taken, or none
pub moved : (old new : List PortValue) (o : Option PortValue) → is_some o ≡ true → old ≡ option_to_list o ++ new → Yields old o new
moved old new None some e = absurd (cc)
moved old new (Some x) some e = e

pub not_moved : (old new : List PortValue) (o : Option PortValue) → is_some o ≡ false → old ≡ option_to_list o ++ new → old ≡ new
not_moved old new None none e = e
not_moved old new (Some x) none e = absurd (cc)

-- the first frame that is left
pub only_top : (p : Program) (f : Frame) (below : List Frame) → Pops (frames_of p (Some f) below) (Some (frame_of p f)) (frames_of p None below)
only_top p f below = refl

pub no_frames : (p : Program) (below : List Frame) → below ≡ [] → Pops (frames_of p None below) None (frames_of p None below)
no_frames p below none = (ap (frames_of p None) none, ap (frames_of p None) none)

-- the memory that was at hand has no port left
pub row_empty : (a r r' l t old : List PortValue) → old ≡ a ++ (r ++ (l ++ t)) → r ≡ [] → r' ≡ [] → old ≡ a ++ (r' ++ (l ++ t))
row_empty a r r' l t old is none none' = is ∙ ap (λ x. a ++ (x ++ (l ++ t))) (none ∙ sym none')

-- another one is opened
pub row_opened : (a r r' l l' t old : List PortValue) → old ≡ a ++ (r ++ (l ++ t)) → r ≡ [] → r' ++ l' ≡ l → old ≡ a ++ (r' ++ (l' ++ t))
row_opened a r r' l l' t old is none opens =
    is ∙ ap (λ x. a ++ (x ++ (l ++ t))) none ∙ ap (λ x. a ++ (x ++ t)) (sym opens) ∙ ap (λ x. a ++ x) (append_assoc r' l' t)

-- a port of the memory at hand
pub from_row : (a r r' l t old : List PortValue) (o : Option PortValue) → old ≡ a ++ (r ++ (l ++ t)) → a ≡ [] → is_some o ≡ true → Yields r o r' → Yields old o (a ++ (r' ++ (l ++ t)))
from_row a r r' l t old o is none some y = yields_same old (a ++ (r ++ (l ++ t))) (a ++ (r' ++ (l ++ t))) o is (yields_behind a (r ++ (l ++ t)) (r' ++ (l ++ t)) o none (yields_front r r' (l ++ t) o some y))

-- what was taken out of a frame that stays comes last
pub from_taken : (a a' r r' l l' t s t' old : List PortValue) (o : Option PortValue) → old ≡ a ++ (r ++ (l ++ t)) → a ≡ [] → a' ≡ [] → r ≡ [] → r' ≡ [] → l ≡ [] → l' ≡ [] → s ≡ t → Yields s o t'
    → Yields old o (a' ++ (r' ++ (l' ++ t')))
from_taken a a' r r' l l' t s t' old o is a_none a'_none r_none r'_none l_none l'_none same y =
    yields_same old s (a' ++ (r' ++ (l' ++ t'))) o (is ∙ ap (λ x. x ++ (r ++ (l ++ t))) a_none ∙ ap (λ x. x ++ (l ++ t)) r_none ∙ ap (λ x. x ++ t) l_none ∙ sym same)
    (yields_new s t' (a' ++ (r' ++ (l' ++ t'))) o (sym (ap (λ x. x ++ (r' ++ (l' ++ t'))) a'_none ∙ ap (λ x. x ++ (l' ++ t')) r'_none ∙ ap (λ x. x ++ t') l'_none)) y)

-- without a start that could come next nothing changes
pub none_popped : (p : Program) (old old' new : Leaving) (b : Bool) → later_ports p old ≡ later_ports p old' → later_count old ≡ later_count old' → old'.row ≡ old.row → Opens p old' b new → Opens p old b new
none_popped p old old' new true ports count row o = (o.0 ∙ sym ports, count ∙ o.1)
none_popped p old old' new false ports count row o = (ports ∙ o.0, o.1, o.2 ∙ ap (row_ports p) row)

-- Variables.

drop_none : (vs : List Variable) (i : ℕ) → None ≡ slice_get vs i → drop i vs ≡ []
drop_none [] zero e = refl
drop_none [] (suc i) e = refl
drop_none (v ∷ vs) zero e = absurd (cc)
drop_none (v ∷ vs) (suc i) e = drop_none vs i e

drop_some : (vs : List Variable) (i : ℕ) (v : Variable) → Some v ≡ slice_get vs i → drop i vs ≡ v ∷ drop (suc i) vs
drop_some [] i v e = absurd (cc)
drop_some (u ∷ vs) zero v e = ap (λ x. x ∷ vs) (sym (the_variable v u e))
  where
    the_variable : (a b : Variable) → Some a ≡ Some b → a ≡ b
    the_variable a b h = cc
drop_some (u ∷ vs) (suc i) v e = drop_some vs i v e

-- there is no other variable
pub ends : (vs : List Variable) (b : Bool) (k : ℕ) (ws : List Word) (i : ℕ) → k ≡ 0 → None ≡ slice_get vs i → row_of vs b k ws i ≡ []
ends vs b k ws i none e = ap (λ j. row_of vs b j ws i) none ∙ ap (λ l. l ++ following_ports (drop i vs) ws) (no_words b) ∙ ap (λ l. following_ports l ws) (drop_none vs i e)

-- the next variable
pub begins : (vs : List Variable) (b : Bool) (k : ℕ) (ws : List Word) (i : ℕ) (v : Variable) → k ≡ 0 → Some v ≡ slice_get vs i → row_of vs b k ws i ≡ row_of vs (holds_ports v.kind) v.words ws (i + 1)
begins vs b k ws i v none e =
    let next : suc i ≡ i + 1 = omega arith in
    ap (λ j. row_of vs b j ws i) none
    ∙ ap (λ l. l ++ following_ports (drop i vs) ws) (no_words b)
    ∙ ap (λ l. following_ports l ws) (drop_some vs i v e)
    ∙ ap (λ j. row_of vs (holds_ports v.kind) v.words ws j) next
