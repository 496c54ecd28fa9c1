-- The process with which a program of stack code begins stands for the one with which the program does.
use Rattle.std.proofs.Common.{◌≡◌, ℕ, zero, suc, pos, Option, Some, None, List, [], ◌∷◌, ◌++◌, take, drop, refl, sym, ap, ◌∙◌, subst}
use Rattle.std.specs.List.{flat_map}
use Rattle.std.proofs.lemmas.List.{length-replicate}
use Rattle.std.proofs.lemmas.List.Elements.{filter-append}
use Rattle.fm_net.specs.Typed.{AllIn}
use Rattle.fm_rules.specs.declared.program.Program.{Program}
use Rattle.fm_mean.specs.Names.{ProgramUnit, unit_at, main_number, all_unset}
use Rattle.fm_mean.specs.Calls as mean_calls
use Rattle.fm_mean.specs.Steps.{proc_of, main_in, main_by, first_proc}
use Rattle.fm_code.specs.declared.code.Span.{Span}
use Rattle.fm_code.specs.Acts.{span_of}
use Rattle.fm_code.specs.Passing.{is_port, live, nulls, ports_in}
use Rattle.fm_code.specs.Statements as statements
use Rattle.fm_gen_relation.proofs.Units.{sound_unit}
use Rattle.fm_gen_relation.proofs.Passing.{unset_stands}
use Rattle.fm_proc_language.specs.Slots.{no_slots, port_in}
use Rattle.fm_proc_language.specs.Processes.{body_words}
use Rattle.fm_proc_simulation.specs.SlotWords.{IsHeld}
use Rattle.fm_gen.proofs.StandLaws.{none_begun, begun}
use Rattle.fm_proc_simulation.specs.Corresponds.{BodyStands, Corresponds}
use Rattle.fm_shown.specs.First.{process_of}
use Rattle.fm_proc_simulation.specs.Shown.{first_body, body_in, body_by, first_process}

-- No words.

null_part : (k j n : ℕ) → live (take k (drop j (nulls n))) ≡ []
null_part zero j n = refl
null_part (suc k) zero zero = refl
null_part (suc k) zero (suc n) = null_part k zero n
null_part (suc k) (suc j) zero = refl
null_part (suc k) (suc j) (suc n) = null_part (suc k) j n

no_ports : (spans : List Span) (n : ℕ) → ports_in spans (nulls n) ≡ []
no_ports [] n = refl
no_ports (s ∷ ss) n =
    filter-append is_port (span_of (nulls n) s) (flat_map (λ r. span_of (nulls n) r) ss)
    ∙ (λ i. null_part s.count s.first n i ++ no_ports ss n i)

-- Main.

module _ (p : Program) (n : ℕ) (u : ProgramUnit) (there : unit_at p n ≡ Some u) where
  no_words : body_words (first_body p n u) ≡ []
  no_words = ap (λ l. (l ++ []) ++ []) (no_ports (statements.ports_of (statements.unit_at (first_body p n u) n)) u.names.words)

  main_stands : BodyStands p no_slots (proc_of (main_in n (Some u))) (first_body p n u)
  main_stands = record {
    frame = mean_calls.new_frame n (all_unset u.names.variables) [];
    below = [];
    frames = refl;
    loaded = refl;
    machine = refl;
    node = refl;
    first = begun p (port_in no_slots) n u there (mean_calls.new_frame n (all_unset u.names.variables) []) (first_body p n u).frame refl refl refl refl refl
        (record {
          values = unset_stands (port_in no_slots) u (sound_unit p n u there);
          sized = length-replicate u.names.words (pos 0);
          results = refl;
          loops = none_begun u.tree.body;
        })
        tt;
    others = tt;
    ends = tt;
    held = subst (AllIn (IsHeld no_slots)) (sym no_words) tt;
  }

  main_first : Corresponds p (process_of (body_in p n (Some u))) (proc_of (main_in n (Some u)))
  main_first = record { phase = tt; lines = refl; next_block = refl; next_channel = refl; slots = record { empty = tt; once = tt }; body = main_stands }

module _ (p : Program) where
  by_unit : (n : ℕ) (o : Option ProgramUnit) → unit_at p n ≡ o → Corresponds p (process_of (body_in p n o)) (proc_of (main_in n o))
  by_unit n None e = record { phase = tt; lines = refl; next_block = refl; next_channel = refl; slots = record { empty = tt; once = tt }; body = refl }
  by_unit n (Some u) e = main_first p n u e

  by_number : (o : Option ℕ) → Corresponds p (process_of (body_by p o)) (proc_of (main_by p o))
  by_number None = record { phase = tt; lines = refl; next_block = refl; next_channel = refl; slots = record { empty = tt; once = tt }; body = refl }
  by_number (Some n) = by_unit n (unit_at p n) refl

  pub first_alike : Corresponds p (first_process p) (first_proc p)
  first_alike = by_number (main_number p)
