-- A unit without PROCESSDO has no block of its own round one.
use Rattle.std.proofs.Common.{◌≡◌, ℕ, zero, suc, ◌+◌, Bool, true, false, not, ◌&&◌, Option, Some, None, List, [], ◌∷◌, ◌++◌, length, reverse, slice_get, refl, sym, ap, ◌∙◌, subst, append_assoc}
use Rattle.std.specs.Prelude.{if◌then◌else◌}
use Rattle.fm_base.specs.declared.name.Label.{Label}
use Rattle.fm_base.specs.declared.name.Line.{Line}
use Rattle.fm_tree.specs.Blocks.{behind, counted, head_of, open_blocks, part_first}
use Rattle.fm_tree.specs.Layout.{closing, ends_behind, fitted, is_closed_by, is_parallel, label_left, laid_behind, laid_out, marks_of, own_behind, own_forms, put_end, with_statement, wrapped}
use Rattle.fm_tree.specs.Structure.{bracket_of, contained_form, form_of, is_process_loop, is_wrap, simple_form_of, terminal_of}
use Rattle.fm_tree.specs.declared.entry_mark.EntryMark.{EntryMark}
use Rattle.fm_tree.specs.declared.entry_mark.Open.{Open}
use Rattle.fm_tree.specs.declared.form.Bracket.{Bracket}
use Rattle.fm_tree.specs.declared.form.Bracket.TheVariants.{Opens, Closes, Parts, Stays}
use Rattle.fm_tree.specs.declared.form.Form.{Form}
use Rattle.fm_tree.specs.declared.form.Form.TheVariants as form
use Rattle.fm_tree.specs.declared.form.Terminal.{Terminal}
use Rattle.fm_tree.specs.declared.program_unit.Placed.{Placed}
use Rattle.fm_tree.specs.declared.statement.Simple.{Simple}
use Rattle.fm_tree.specs.declared.statement.Simple.TheVariants as simple
use Rattle.fm_tree.specs.declared.statement.Stmt.{Stmt}
use Rattle.fm_tree.specs.declared.statement.Stmt.TheVariants as stmt
use Rattle.fm_tree_blocks.proofs.LaidMarks.{onto, onto_none}
use Rattle.fm_net.specs.Typed.{AllIn}
use Rattle.fm_mean.proofs.Sizes.{all_append}

never : true ≡ false → ⊥
never e = absurd (cc)

abbrev pub is_of_wrap : Form → Bool
is_of_wrap form.Wrap = true
is_of_wrap form.EndWrap = true
is_of_wrap f = false

abbrev pub IsNoWrapForm : Form → Type 0
IsNoWrapForm f = is_of_wrap f ≡ false

abbrev pub IsNoWrapMark : EntryMark → Type 0
IsNoWrapMark m = is_of_wrap m.form ≡ false

abbrev pub IsNoLoopForm : Form → Type 0
IsNoLoopForm f = is_process_loop f ≡ false

abbrev pub IsNoLoopMark : EntryMark → Type 0
IsNoLoopMark m = is_process_loop m.form ≡ false

abbrev IsNoWrapBlock : Open → Type 0
IsNoWrapBlock o = is_wrap o.form ≡ false

-- ---- lists

all_left : {X : Type 0} (P : X → Type 0) (xs ys : List X) → AllIn P (xs ++ ys) → AllIn P xs
all_left P [] ys h = tt
all_left P (x ∷ xs) ys h = (h.0, all_left P xs ys h.1)

all_right : {X : Type 0} (P : X → Type 0) (xs ys : List X) → AllIn P (xs ++ ys) → AllIn P ys
all_right P [] ys h = h
all_right P (x ∷ xs) ys h = all_right P xs ys h.1

all_onto : (P : EntryMark → Type 0) (ms before : List EntryMark) → AllIn P ms → AllIn P before → AllIn P (onto ms before)
all_onto P [] before h g = g
all_onto P (m ∷ ms) before h g = all_onto P ms (m ∷ before) h.1 (h.0, g)

all_reversed : (P : EntryMark → Type 0) (ms : List EntryMark) → AllIn P ms → AllIn P (reverse ms)
all_reversed P ms h = subst (AllIn P) (onto_none ms) (all_onto P ms [] h tt)

pub all_points : {X : Type 0} (P : X → Type 0) (xs : List X) → ((k : ℕ) (x : X) → slice_get xs k ≡ Some x → P x) → AllIn P xs
all_points P [] h = tt
all_points P (x ∷ xs) h = (h 0 x refl, all_points P xs (λ k y e. h (suc k) y e))

-- ---- forms of statements

simple_no_wrap : (s : Simple) → IsNoWrapForm (simple_form_of s)
unfolding simple_form_of
simple_no_wrap (simple.Goto label) = refl
simple_no_wrap simple.Continue = refl
simple_no_wrap simple.Return = refl
simple_no_wrap simple.Stop = refl
simple_no_wrap (simple.Receive named port extras items) = refl
simple_no_wrap s = refl

form_no_wrap : (s : Stmt) → IsNoWrapForm (form_of s)
unfolding form_of
form_no_wrap (stmt.Simple k) = simple_no_wrap k
form_no_wrap s = refl

the_form : (a b : Form) → Some a ≡ Some b → a ≡ b
the_form a b e = cc

contained_no_wrap : (s : Stmt) (f : Form) → contained_form s ≡ Some f → IsNoWrapForm f
unfolding contained_form
contained_no_wrap (stmt.LogicalIf e k) f is = subst IsNoWrapForm (the_form (simple_form_of k) f is) (simple_no_wrap k)
contained_no_wrap s f is = absurd (cc is)

fitted_no_wrap : (f : Form) (inner : Option Open) → IsNoWrapForm f → IsNoWrapForm (fitted f inner)
fitted_no_wrap (form.ElseIf fits) inner h = refl
fitted_no_wrap (form.Else fits) inner h = refl
fitted_no_wrap f inner h = h

wrapped_no_wrap : (f : Form) (inner : Option Open) → IsNoWrapForm f → AllIn IsNoLoopForm (wrapped f inner) → AllIn IsNoWrapForm (wrapped f inner)
wrapped_no_wrap f inner h calm = go (is_process_loop f) refl (not (is_parallel inner)) calm
  where
    go : (b : Bool) → is_process_loop f ≡ b → (c : Bool) → AllIn IsNoLoopForm (if b && c then form.Wrap ∷ f ∷ [] else fitted f inner ∷ []) → AllIn IsNoWrapForm (if b && c then form.Wrap ∷ f ∷ [] else fitted f inner ∷ [])
    go true is true k = absurd (never (sym is ∙ k.1.0))
    go true is false k = (fitted_no_wrap f inner h, tt)
    go false is c k = (fitted_no_wrap f inner h, tt)

own_no_wrap : (s : Stmt) (inner : Option Open) → AllIn IsNoLoopForm (own_forms (form_of s) (contained_form s) inner) → AllIn IsNoWrapForm (own_forms (form_of s) (contained_form s) inner)
own_no_wrap s inner calm = go (contained_form s) refl calm
  where
    go : (o : Option Form) → contained_form s ≡ o → AllIn IsNoLoopForm (own_forms (form_of s) o inner) → AllIn IsNoWrapForm (own_forms (form_of s) o inner)
    go (Some f) is k = (form_no_wrap s, (contained_no_wrap s f is, tt))
    go None is k = wrapped_no_wrap (form_of s) inner (form_no_wrap s) k

-- ---- marks of forms

marks_no_wrap : (line : Line) (label : Option Label) (place : ℕ) (fs : List Form) → AllIn IsNoWrapForm fs → AllIn IsNoWrapMark (marks_of line label place fs)
marks_no_wrap line label place [] h = tt
marks_no_wrap line label place (f ∷ fs) h = (h.0, marks_no_wrap line None place fs h.1)

marks_no_loop : (line : Line) (label : Option Label) (place : ℕ) (fs : List Form) → AllIn IsNoLoopMark (marks_of line label place fs) → AllIn IsNoLoopForm fs
marks_no_loop line label place [] h = tt
marks_no_loop line label place (f ∷ fs) h = (h.0, marks_no_loop line None place fs h.1)

-- ---- open blocks

form_opens_none : (f : Form) → IsNoWrapForm f → is_wrap f ≡ false
form_opens_none form.Wrap h = absurd (never h)
form_opens_none f h = refl

parted_no_wrap : (at : ℕ) (f : Form) (os : List Open) → AllIn IsNoWrapBlock os → AllIn IsNoWrapBlock (part_first at f os)
parted_no_wrap at f [] h = tt
parted_no_wrap at f (o ∷ os) h = (h.0, h.1)

blocks_no_wrap : (before : List EntryMark) (c : ℕ) → AllIn IsNoWrapMark before → AllIn IsNoWrapBlock (open_blocks before c)
blocks_no_wrap [] c h = tt
blocks_no_wrap (e ∷ before) c h = go (bracket_of e.form) c (λ d. blocks_no_wrap before d h.1)
  where
    go : (b : Bracket) (c : ℕ) → ((d : ℕ) → AllIn IsNoWrapBlock (open_blocks before d)) → AllIn IsNoWrapBlock (counted b (length before) e.form (open_blocks before) c)
    go Opens zero rest = (form_opens_none e.form h.0, rest zero)
    go Opens (suc c) rest = rest c
    go Closes c rest = rest (suc c)
    go Parts zero rest = parted_no_wrap (length before) e.form (open_blocks before zero) (rest zero)
    go Parts (suc c) rest = rest (suc c)
    go Stays c rest = rest c

closing_no_wrap : (t : Terminal) (label : Option Label) (os : List Open) → AllIn IsNoWrapBlock os → AllIn IsNoWrapForm (closing t label os)
closing_no_wrap t label [] h = tt
closing_no_wrap t label (o ∷ os) h =
    subst (λ (b : Bool). AllIn IsNoWrapForm (put_end (if b then Some form.EndWrap else if is_closed_by label o then Some (form.LoopEnd t) else None) (closing t label os))) (sym h.0)
    (go (is_closed_by label o) (closing_no_wrap t label os h.1))
  where
    go : (b : Bool) → AllIn IsNoWrapForm (closing t label os) → AllIn IsNoWrapForm (put_end (if b then Some (form.LoopEnd t) else None) (closing t label os))
    go true rest = (refl, rest)
    go false rest = tt

behind_no_wrap : (entries : List EntryMark) → AllIn IsNoWrapMark entries → AllIn IsNoWrapBlock (behind entries)
behind_no_wrap entries h = blocks_no_wrap (reverse entries) zero (all_reversed IsNoWrapMark entries h)

-- ---- statement by statement

own_kept : (p : Placed) (label : Option Label) (place : ℕ) (entries : List EntryMark) → AllIn IsNoWrapMark entries → AllIn IsNoLoopMark (own_behind p label place entries) → AllIn IsNoWrapMark (own_behind p label place entries)
own_kept p label place entries h calm =
    let inner = head_of (behind entries) in
    let fs = own_forms (form_of p.stmt) (contained_form p.stmt) inner in
    all_append IsNoWrapMark entries (marks_of p.line label place fs) h (marks_no_wrap p.line label place fs (own_no_wrap p.stmt inner (marks_no_loop p.line label place fs (all_right IsNoLoopMark entries (marks_of p.line label place fs) calm))))

ends_kept : (p : Placed) (label : Option Label) (place : ℕ) (entries : List EntryMark) → AllIn IsNoWrapMark entries → AllIn IsNoWrapMark (entries ++ marks_of p.line label place (ends_behind p (behind entries)))
ends_kept p label place entries h =
    let fs = ends_behind p (behind entries) in
    all_append IsNoWrapMark entries (marks_of p.line label place fs) h (marks_no_wrap p.line label place fs (closing_no_wrap (terminal_of (form_of p.stmt)) p.label (behind entries) (behind_no_wrap entries h)))

ends_after : (entries : List EntryMark) (place : ℕ) (p : Placed) → AllIn IsNoWrapMark entries
    → AllIn IsNoLoopMark (own_behind p p.label place entries ++ marks_of p.line None place (ends_behind p (behind (own_behind p p.label place entries))))
    → AllIn IsNoWrapMark (own_behind p p.label place entries ++ marks_of p.line None place (ends_behind p (behind (own_behind p p.label place entries))))
ends_after entries place p h calm =
    let own = own_behind p p.label place entries in
    ends_kept p None place own (own_kept p p.label place entries h (all_left IsNoLoopMark own (marks_of p.line None place (ends_behind p (behind own))) calm))

with_kept : (b : Bracket) (entries : List EntryMark) (place : ℕ) (p : Placed) → AllIn IsNoWrapMark entries → AllIn IsNoLoopMark (with_statement b entries place p) → AllIn IsNoWrapMark (with_statement b entries place p)
with_kept Opens entries place p h calm =
    let ended = ends_behind p (behind entries) in
    own_kept p (label_left p.label ended) place (entries ++ marks_of p.line p.label place ended) (ends_kept p p.label place entries h) calm
with_kept Closes entries place p h calm = ends_after entries place p h calm
with_kept Parts entries place p h calm = ends_after entries place p h calm
with_kept Stays entries place p h calm = ends_after entries place p h calm

-- ---- more comes behind

abbrev IsMore : List EntryMark → List EntryMark → Type 0
IsMore ms ns = (more : List EntryMark) × (ns ≡ ms ++ more)

more_again : (a b c : List EntryMark) → IsMore a b → IsMore b c → IsMore a c
more_again a b c h g = (h.0 ++ g.0, g.1 ∙ ap (λ (xs : List EntryMark). xs ++ g.0) h.1 ∙ append_assoc a h.0 g.0)

own_more : (p : Placed) (label : Option Label) (place : ℕ) (entries : List EntryMark) → IsMore entries (own_behind p label place entries)
own_more p label place entries = (_, refl)

with_more : (b : Bracket) (entries : List EntryMark) (place : ℕ) (p : Placed) → IsMore entries (with_statement b entries place p)
with_more Opens entries place p =
    let ended = ends_behind p (behind entries) in
    let first = entries ++ marks_of p.line p.label place ended in
    more_again entries first (own_behind p (label_left p.label ended) place first) (_, refl) (own_more p (label_left p.label ended) place first)
with_more Closes entries place p = more_again entries (own_behind p p.label place entries) _ (own_more p p.label place entries) (_, refl)
with_more Parts entries place p = more_again entries (own_behind p p.label place entries) _ (own_more p p.label place entries) (_, refl)
with_more Stays entries place p = more_again entries (own_behind p p.label place entries) _ (own_more p p.label place entries) (_, refl)

laid_more : (entries : List EntryMark) (place : ℕ) (ps : List Placed) → IsMore entries (laid_behind entries place ps)
laid_more entries place [] = ([], sym (nothing entries))
  where
    nothing : (xs : List EntryMark) → xs ++ [] ≡ xs
    nothing [] = refl
    nothing (x ∷ xs) = ap (λ (ys : List EntryMark). x ∷ ys) (nothing xs)
laid_more entries place (p ∷ ps) =
    let next = with_statement (bracket_of (form_of p.stmt)) entries place p in
    more_again entries next (laid_behind next (place + 1) ps) (with_more (bracket_of (form_of p.stmt)) entries place p) (laid_more next (place + 1) ps)

laid_kept : (entries : List EntryMark) (place : ℕ) (ps : List Placed) → AllIn IsNoWrapMark entries → AllIn IsNoLoopMark (laid_behind entries place ps) → AllIn IsNoWrapMark (laid_behind entries place ps)
laid_kept entries place [] h calm = h
laid_kept entries place (p ∷ ps) h calm =
    let next = with_statement (bracket_of (form_of p.stmt)) entries place p in
    let more = laid_more next (place + 1) ps in
    let here = all_left IsNoLoopMark next more.0 (subst (AllIn IsNoLoopMark) more.1 calm) in
    laid_kept next (place + 1) ps (with_kept (bracket_of (form_of p.stmt)) entries place p h here) calm

-- where no PROCESSDO stands, nothing is put round one
pub no_wraps : (c : List Placed) → AllIn IsNoLoopMark (laid_out c) → AllIn IsNoWrapMark (laid_out c)
no_wraps c calm = laid_kept [] 0 c tt calm
