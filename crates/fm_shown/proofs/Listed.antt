-- Processes one after the other, in path order.
use Rattle.std.proofs.Common.{Bor, ◌≡◌, ◌<◌, ◌≤◌, ℕ, Some, List, [], ◌∷◌, ◌++◌, Bool, true, false, true≢false, suc, arith, ◌&&◌, ◌==◌, cond, not, None, Option, get_or, length, map, refl, sym, ap, take, ◌∙◌}
use Rattle.std.proofs.lemmas.Bool.Decides.{nat_tests}
use Rattle.std.specs.Prelude.{filter, is_some, option_map, option_to_list, slice_get}
use Rattle.std.specs.List.{AllByRecursion, flat_map}
use Rattle.std.specs.Map.Iter.{deref_pair}
use Rattle.std.specs.FinMap.{entries}
use Rattle.std.proofs.lemmas.List.{take_all}
use Rattle.std.proofs.lemmas.Option.{slice_get-map, slice_get_read}
use Rattle.fm_base.specs.declared.path.Path.{Path}
use Rattle.fm_finmap.specs.Rows.{numbered_map}
use Rattle.fm_finmap.proofs.Rows.{all_at}
use Rattle.fm_net.specs.Machine.{Ask, Place, Procs, Stop}
use Rattle.fm_mean.specs.declared.outcome.At.{At}
use Rattle.fm_mean.specs.Holders.{holding}
use Rattle.fm_code.specs.declared.body.Body.{Body}
use Rattle.fm_proc_language.specs.Needs.{need_in}
use Rattle.fm_proc_language.specs.Processes.{CodeProc, Phase, Running, Joining, Ended, Faulted, asks_by, has_ended, held_by, is_ended}
use Rattle.fm_proc_language.specs.Slots.{Slots}
use Rattle.fm_shown.specs.Outcome.{fault_at, fault_in, holder_path, holdings_at, line_in, lines_at, wait_at, waits_by}
use Rattle.fm_procs.specs.Kept.{AreKept, IsNext}
use Rattle.fm_procs.specs.Readings.{awaits, code_of, Entries, Entry, proc_in, procs_of}
use Rattle.fm_shown.specs.declared.rows.Part.{Part}
use Rattle.fm_shown.specs.declared.rows.Part.TheVariants as part
use Rattle.fm_shown.specs.Parts.{gives, row_gives}
use Rattle.fm_net_procs.proofs.Listed as shared
use Rattle.fm_net_procs.proofs.Maps as table

abbrev pub entries_of : List (Place × Entry) → List (Place × CodeProc)
entries_of es = table.entries_of code_of es

-- what each of them does next is told, and its children
abbrev pub IsListed : Entries → Place × Entry → Type 0
IsListed x e = shared.IsListed code_of IsNext awaits x e

all_kept : {X : Type 0} (P : X → Type 0) (keep : X → Bool) (xs : List X) → AllByRecursion P xs → AllByRecursion P (filter keep xs)
all_kept P keep [] all = tt
all_kept P keep (x ∷ xs) all = go (keep x) (all_kept P keep xs all.1)
  where
    go : (b : Bool) → AllByRecursion P (filter keep xs) → AllByRecursion P (cond b (x ∷ filter keep xs) (filter keep xs))
    go true rest = (all.0, rest)
    go false rest = rest

-- ---- rows as they are shown, one after the other

module _ (rows : List (Bor Path × Bor Entry)) (i : ℕ) (row : Bor Path × Bor Entry) (within : i < length rows) (is : row ≡ get_or rows i row) where
  pub row_listed : (part : Part) (x : Entries) → AreKept x → map (deref_pair {K = Path} {X = Entry}) rows ≡ filter (row_gives part) (entries (numbered_map x.rows)) → IsListed x (row.0.now, row.1.now)
  row_listed part x kept all =
      let show = deref_pair {K = Path} {X = Entry} in
      all_at (IsListed x) (filter (row_gives part) (entries (numbered_map x.rows))) i (row.0.now, row.1.now) (all_kept (IsListed x) (row_gives part) (entries (numbered_map x.rows)) (shared.listed code_of IsNext awaits x kept.told kept.families))
      (ap (λ (es : List (Place × Entry)). slice_get es i) (sym all) ∙ slice_get-map show rows i ∙ ap (option_map show) (slice_get_read rows (length rows) i row refl within is))

module _ {B : Type 0} (f : Place × CodeProc → List B) (part : Part) (nothing : (q : Place) (y : CodeProc) → gives part y ≡ false → f (q, y) ≡ []) where
  -- those that give nothing can be left out
  only_givers : (es : List (Place × Entry)) → flat_map f (entries_of (filter (row_gives part) es)) ≡ flat_map f (entries_of es)
  only_givers [] = refl
  only_givers (e ∷ es) = go (row_gives part e) refl (only_givers es)
    where
      go : (b : Bool) → row_gives part e ≡ b → flat_map f (entries_of (filter (row_gives part) es)) ≡ flat_map f (entries_of es)
          → flat_map f (entries_of (cond b (e ∷ filter (row_gives part) es) (filter (row_gives part) es))) ≡ flat_map f (entries_of (e ∷ es))
      go true is rest = ap (λ (l : List B). f (e.0, proc_in e.1) ++ l) rest
      go false is rest = rest ∙ sym (ap (λ (l : List B). l ++ flat_map f (entries_of es)) (nothing e.0 (proc_in e.1) is))

  pub entries_all : (x : Entries) (rows : List (Bor Path × Bor Entry)) (i : ℕ) → length rows ≤ i → map (deref_pair {K = Path} {X = Entry}) rows ≡ filter (row_gives part) (entries (numbered_map x.rows))
      → flat_map f (entries_of (map (deref_pair {K = Path} {X = Entry}) (take i rows))) ≡ flat_map f (entries (procs_of x))
  entries_all x rows i past all =
      ap (λ (rs : List (Bor Path × Bor Entry)). flat_map f (entries_of (map (deref_pair {K = Path} {X = Entry}) rs))) (take_all i rows past) ∙ ap (λ (es : List (Place × Entry)). flat_map f (entries_of es)) all
      ∙ only_givers (entries (numbered_map x.rows)) ∙ ap (flat_map f) (sym (table.entries_are code_of x))

-- ---- what a process that gives nothing to a part shows

none_left : {A : Type 0} (xs : List A) (b : Bool) → not ((length xs == 0) && b) ≡ false → xs ≡ []
none_left [] b is = refl
none_left (x ∷ xs) b is = absurd (true≢false (ap (λ (a : Bool). not (a && b)) (sym (some_left (length xs))) ∙ is))
  where
    some_left : (n : ℕ) → (suc n == 0) ≡ false
    some_left n = grind (arith, nat_tests)

second_of : (a b : Bool) → not (a && b) ≡ false → b ≡ true
second_of true true is = refl
second_of true false is = absurd (cc is)
second_of false b is = absurd (cc is)

ended_phase : (phase : Phase) → is_ended phase ≡ true → phase ≡ Ended
ended_phase Running is = absurd (cc is)
ended_phase (Joining block kids) is = absurd (cc is)
ended_phase Ended is = refl
ended_phase (Faulted line fault) is = absurd (cc is)

phase_ended : (y : CodeProc) → gives part.Shown y ≡ false → y.phase ≡ Ended
phase_ended y is = ended_phase y.phase (second_of (length y.lines == 0) (has_ended y) is)

pub no_lines : (q : Place) (y : CodeProc) → gives part.Shown y ≡ false → lines_at (q, y) ≡ []
no_lines q y is = ap (map (λ (line : List ℕ). record { path = q; bytes = line })) (none_left y.lines (has_ended y) is)

pub no_fault : (q : Place) (y : CodeProc) → gives part.Shown y ≡ false → fault_at (q, y) ≡ []
no_fault q y is = ap (fault_in q) (phase_ended y is)

stops : (y : CodeProc) (b : Option Body) → asks_by y Ended b ≡ Stop
stops y None = refl
stops y (Some b) = refl

pub no_wait : (m : Procs CodeProc) (q : Place) (y : CodeProc) → gives part.Shown y ≡ false → wait_at m (q, y) ≡ []
no_wait m q y is =
    ap (λ (a : Ask CodeProc). map (λ (at : At). record { path = q; line = record { 0 = line_in y.body }; at = at }) (option_to_list (waits_by m q (need_in a))))
    (ap (λ (phase : Phase). asks_by y phase y.body) (phase_ended y is) ∙ stops y y.body)

nothing_held : (path : Place) (s : Slots) (b : Option Body) → is_some b ≡ false → flat_map (holding path) (held_by b s) ≡ []
nothing_held path s None is = refl
nothing_held path s (Some b) is = absurd (cc is)

pub no_holding : (q : Place) (y : CodeProc) → gives part.Held y ≡ false → holdings_at (q, y) ≡ []
no_holding q y is = nothing_held (holder_path (q, y)) y.slots y.body is
