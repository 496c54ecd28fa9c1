-- What an instruction does to the kinds leads where the instruction says that it goes.
use Rattle.std.proofs.Common.{◌≡◌, ℕ, suc, Bool, true, false, cond, ◌&&◌, ◌==◌, Option, Some, None, List, [], ◌∷◌, reverse, refl}
use Rattle.fm_code.specs.declared.instr.End.{End}
use Rattle.fm_code.specs.declared.instr.End.TheVariants as end
use Rattle.fm_code.specs.declared.instr.Meet.{Meet}
use Rattle.fm_code.specs.declared.instr.Meet.TheVariants as meet
use Rattle.fm_code_kinds.specs.declared.kinds.Kind.{Kind}
use Rattle.fm_code_kinds.specs.declared.kinds.Kind.TheVariants.{Returned, Word, Operand, LoopOf}
use Rattle.fm_code_kinds.specs.declared.sorts.Cell.{Cell}
use Rattle.fm_code_kinds.specs.declared.sorts.Shape.{Shape}
use Rattle.fm_code_kinds.specs.declared.sorts.Shapes.{Shapes}
use Rattle.fm_code_kinds.specs.declared.sorts.Sort.{Sort}
use Rattle.fm_code_kinds.specs.declared.sorts.Sort.TheVariants as sort
use Rattle.fm_code_kinds.specs.Effects.{Effect, On, Over, Ill, only_results, results_in, operands_on, without_words, with_word, with_place, given_where, is_port_sort, fit_fields, fits_sent, fits_received, all_outports, over_where, sorted, at_port, at_two, if_in, if_out, ending, ends_word, calls_fit, at_loop, ended, met}
use Rattle.fm_code_kinds.specs.Shapes.{single, is_word, same_sort, sort_at, are_words, is_function, is_subroutine, is_process, fields_of}
use Rattle.fm_code_kinds.specs.Leading.{end_leads, meet_leads}

-- what it leads to, where it ends its statement
abbrev pub Leads : List ℕ → Effect → Type 0
Leads l (On ks) = ⊥
Leads l (Over to n) = to ≡ l
Leads l Ill = Unit {0}

module _ (l : List ℕ) where
  chosen : (b : Bool) (e : Effect) → Leads l e → Leads l (cond b e Ill)
  chosen true e h = h
  chosen false e h = tt

  where_leads : (b : Bool) → Leads l (over_where b l)
  where_leads b = chosen b (Over l 0) refl

  ending_leads : (o : Option (List Kind)) → Leads l (ending l o)
  ending_leads None = tt
  ending_leads (Some ks) = where_leads (only_results ks)

  loop_leads : (ks : List Kind) (n : ℕ) → Leads l (at_loop ks n l)
  loop_leads [] n = tt
  loop_leads (Returned ∷ ks) n = tt
  loop_leads (Word s ∷ ks) n = tt
  loop_leads (Operand o ∷ ks) n = tt
  loop_leads (LoopOf x ∷ ks) n = ending_leads (without_words n ks)

  sorted_leads : (o : Option Sort) (f : Sort → Effect) → ((s : Sort) → Leads l (f s)) → Leads l (sorted o f)
  sorted_leads None f h = tt
  sorted_leads (Some s) f h = h s

  port_leads : (cs : List Cell) (ks : List Kind) (f : Sort → Effect) → ((s : Sort) → Leads l (f s)) → Leads l (at_port cs ks f)
  port_leads cs [] f h = tt
  port_leads cs (Returned ∷ ks) f h = tt
  port_leads cs (Word None ∷ ks) f h = tt
  port_leads cs (Word (Some x) ∷ ks) f h = sorted_leads (sort_at cs x) (λ s. cond (only_results ks) (f s) Ill) (λ s. chosen (only_results ks) (f s) (h s))
  port_leads cs (Operand o ∷ ks) f h = tt
  port_leads cs (LoopOf x ∷ ks) f h = tt

  two_lead : (cs : List Cell) (ks : List Kind) (f : Sort → Sort → Effect) → ((r s : Sort) → Leads l (f r s)) → Leads l (at_two cs ks f)
  two_lead cs [] f h = tt
  two_lead cs (Returned ∷ ks) f h = tt
  two_lead cs (Word None ∷ ks) f h = tt
  two_lead cs (Word (Some x) ∷ ks) f h = sorted_leads (sort_at cs x) (λ t. at_port cs ks (λ r. f r t)) (λ t. port_leads cs ks (λ r. f r t) (λ r. h r t))
  two_lead cs (Operand o ∷ ks) f h = tt
  two_lead cs (LoopOf x ∷ ks) f h = tt

  in_leads : (s : Sort) (f : ℕ → Effect) → ((t : ℕ) → Leads l (f t)) → Leads l (if_in s f)
  in_leads sort.Integer f h = tt
  in_leads sort.Logical f h = tt
  in_leads (sort.In t) f h = h t
  in_leads (sort.Out t) f h = tt

  out_leads : (s : Sort) (f : ℕ → Effect) → ((t : ℕ) → Leads l (f t)) → Leads l (if_out s f)
  out_leads sort.Integer f h = tt
  out_leads sort.Logical f h = tt
  out_leads (sort.In t) f h = tt
  out_leads (sort.Out t) f h = h t

module _ (ss : Shapes) (u : Shape) (at : ℕ) where
  pub ended_leads : (i : End) (ks : List Kind) → Leads (end_leads i) (ended ss u at i ks)
  ended_leads (end.Goto to) ks = where_leads (to ∷ []) (only_results ks)
  ended_leads (end.Test holding failing) ks = ending_leads (holding ∷ failing ∷ []) (with_word ks (λ s ks. Some ks))
  ended_leads (end.Store k to) ks = chosen (to ∷ []) (are_words u.cells (single k)) (ends_word ks (to ∷ [])) (ending_leads (to ∷ []) (with_word ks (λ s ks. Some ks)))
  ended_leads (end.StoreAt to) ks = ending_leads (to ∷ []) (with_word ks (λ s ks. with_place ks (λ t ks. given_where (are_words u.cells t) ks)))
  ended_leads (end.Enter body behind) ks = loop_leads (body ∷ behind ∷ []) ks 3
  ended_leads (end.Again body behind) ks = loop_leads (body ∷ behind ∷ []) ks 0
  ended_leads (end.Print to) ks = where_leads (to ∷ []) (only_results ks)
  ended_leads (end.Call n to) ks = where_leads (to ∷ []) (calls_fit ss u n is_subroutine (operands_on ks))
  ended_leads (end.Refer n to) ks = chosen (to ∷ []) (calls_fit ss u n is_function (operands_on ks) && (to == suc at)) (Over (to ∷ []) (suc (results_in ks))) refl
  ended_leads end.Return ks = where_leads [] (is_subroutine u.heading && only_results ks)
  ended_leads (end.ReturnValue k) ks = where_leads [] (is_function u.heading && (are_words u.cells (single k) && only_results ks))
  ended_leads (end.Start n to) ks = where_leads (to ∷ []) (calls_fit ss u n is_process (operands_on ks))

  received_leads : (l : List ℕ) (ks : List Kind)
      → Leads l (at_port u.cells (operands_on ks).rest (λ s. if_in s (λ type. over_where (fit_fields (fits_received u.cells) (fields_of ss type) (reverse (operands_on ks).operands)) l)))
  received_leads l ks =
      port_leads l u.cells (operands_on ks).rest (λ s. if_in s (λ type. over_where (fit_fields (fits_received u.cells) (fields_of ss type) (reverse (operands_on ks).operands)) l))
      (λ s. in_leads l s (λ type. over_where (fit_fields (fits_received u.cells) (fields_of ss type) (reverse (operands_on ks).operands)) l)
      (λ type. where_leads l (fit_fields (fits_received u.cells) (fields_of ss type) (reverse (operands_on ks).operands))))

  pub met_leads : (i : Meet) (ks : List Kind) → Leads (meet_leads i) (met ss u at i ks)
  met_leads meet.Stop ks = where_leads [] (only_results ks)
  met_leads (meet.Send next) ks =
      let l = next ∷ [] in
      port_leads l u.cells (operands_on ks).rest (λ s. if_out s (λ type. over_where (fit_fields (fits_sent u.cells) (fields_of ss type) (reverse (operands_on ks).operands)) l))
      (λ s. out_leads l s (λ type. over_where (fit_fields (fits_sent u.cells) (fields_of ss type) (reverse (operands_on ks).operands)) l)
      (λ type. where_leads l (fit_fields (fits_sent u.cells) (fields_of ss type) (reverse (operands_on ks).operands))))
  met_leads (meet.Receive next) ks = received_leads (next ∷ []) ks
  met_leads (meet.ReceiveOr at_end next) ks = received_leads (at_end ∷ next ∷ []) ks
  met_leads (meet.Channel next) ks =
      let l = next ∷ [] in
      two_lead l u.cells ks (λ i o. if_in i (λ type. over_where (same_sort o (sort.Out type)) l))
      (λ i o. in_leads l i (λ type. over_where (same_sort o (sort.Out type)) l) (λ type. where_leads l (same_sort o (sort.Out type))))
  met_leads (meet.ChannelFrom next) ks =
      let l = next ∷ [] in
      two_lead l u.cells ks (λ o i. if_in i (λ type. over_where (same_sort o (sort.Out type)) l))
      (λ o i. in_leads l i (λ type. over_where (same_sort o (sort.Out type)) l) (λ type. where_leads l (same_sort o (sort.Out type))))
  met_leads (meet.Merger next) ks =
      let l = next ∷ [] in
      port_leads l u.cells (operands_on ks).rest (λ s. if_in s (λ type. over_where (all_outports u.cells type (reverse (operands_on ks).operands)) l))
      (λ s. in_leads l s (λ type. over_where (all_outports u.cells type (reverse (operands_on ks).operands)) l) (λ type. where_leads l (all_outports u.cells type (reverse (operands_on ks).operands))))
  met_leads (meet.EndChannel next) ks =
      let l = next ∷ [] in
      port_leads l u.cells ks (λ s. if_out s (λ type. Over l 0)) (λ s. out_leads l s (λ type. Over l 0) (λ type. refl))
  met_leads (meet.MovePort next) ks =
      let l = next ∷ [] in
      two_lead l u.cells ks (λ a b. over_where (same_sort a b && is_port_sort (Some a)) l) (λ a b. where_leads l (same_sort a b && is_port_sort (Some a)))
  met_leads (meet.Probe next) ks =
      let l = next ∷ [] in
      two_lead l u.cells ks (λ q e. if_in q (λ type. over_where (is_word e) l)) (λ q e. in_leads l q (λ type. over_where (is_word e) l) (λ type. where_leads l (is_word e)))
  met_leads (meet.Begin next) ks = where_leads (next ∷ []) (only_results ks && (next == suc at))
  met_leads (meet.Join next) ks = where_leads (next ∷ []) (only_results ks)
