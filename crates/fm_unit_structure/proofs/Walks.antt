-- One entry further in a walk over what is broken.
use Rattle.std.proofs.Common.{◌≡◌, ℕ, ◌+◌, ◌<◌, Bool, Option, List, ◌++◌, length, drop, sym, ◌∙◌, ap}
use Rattle.std.proofs.lemmas.List.{drop_more}
use Rattle.fm_base.specs.declared.rule.Refusal.{Refusal}
use Rattle.fm_base.specs.declared.rule.Rule.{Rule}
use Rattle.fm_base.specs.declared.name.Line.{Line}
use Rattle.fm_base.specs.Verdict.{least_from, place, when}
use Rattle.fm_base.proofs.Least.{least_from_append}
use Rattle.fm_tree.specs.declared.entry_mark.EntryMark.{EntryMark}
use Rattle.fm_tree.specs.Units.{blank_mark}
use Rattle.fm_rules.specs.BrokenUnit.{broken_at, broken_from}

pub broken_more : (entries : List EntryMark) (k : ℕ) (best : Option Refusal) → k < length entries
    → least_from (least_from best (broken_at entries k)) (broken_from entries (k + 1) (drop (k + 1) entries)) ≡ least_from best (broken_from entries k (drop k entries))
broken_more entries k best l =
    sym (least_from_append best (broken_at entries k) (broken_from entries (k + 1) (drop (k + 1) entries)))
    ∙ ap (λ es. least_from best (broken_from entries k es)) (sym (drop_more entries k blank_mark l))

-- what is kept behind a place
pub kept : (best next : Option Refusal) (b broken : Bool) (l line : Line) (rule : Rule) → next ≡ least_from best (when b (place l.0 rule)) → b ≡ broken → l ≡ line
    → next ≡ least_from best (when broken (place line.0 rule))
kept best next b broken l line rule e f g = e ∙ ap (λ c. least_from best (when c (place l.0 rule))) f ∙ ap (λ (m : Line). least_from best (when broken (place m.0 rule))) g

-- and behind some more
pub kept_more : (first best next : Option Refusal) (ps qs : List Refusal) → best ≡ least_from first ps → next ≡ least_from best qs → next ≡ least_from first (ps ++ qs)
kept_more first best next ps qs e f = f ∙ ap (λ b. least_from b qs) e ∙ sym (least_from_append first ps qs)

-- seven lists of places
pub kept_seven : (b0 b1 b2 b3 b4 b5 b6 b7 : Option Refusal) (q1 q2 q3 q4 q5 q6 q7 : List Refusal)
    → b1 ≡ least_from b0 q1 → b2 ≡ least_from b1 q2 → b3 ≡ least_from b2 q3 → b4 ≡ least_from b3 q4 → b5 ≡ least_from b4 q5 → b6 ≡ least_from b5 q6
    → b7 ≡ least_from b6 q7 → b7 ≡ least_from b0 (q1 ++ q2 ++ q3 ++ q4 ++ q5 ++ q6 ++ q7)
kept_seven b0 b1 b2 b3 b4 b5 b6 b7 q1 q2 q3 q4 q5 q6 q7 e1 e2 e3 e4 e5 e6 e7 =
    kept_more b0 b6 b7 (q1 ++ q2 ++ q3 ++ q4 ++ q5 ++ q6) q7
    (kept_more b0 b5 b6 (q1 ++ q2 ++ q3 ++ q4 ++ q5) q6
    (kept_more b0 b4 b5 (q1 ++ q2 ++ q3 ++ q4) q5
    (kept_more b0 b3 b4 (q1 ++ q2 ++ q3) q4
    (kept_more b0 b2 b3 (q1 ++ q2) q3
    (kept_more b0 b1 b2 q1 q2 e1 e2) e3) e4) e5) e6) e7
