-- The sample program runs to its end.
use Rattle.std.proofs.Common.{◌≡◌, ℕ, Option, Some, None, List, [], ◌∷◌, true, refl, sym, ap, ◌∙◌, subst}
use Rattle.std.specs.FinMap.{get, insert, empty, get-empty}
use Rattle.fm_base.specs.declared.path.ChanName.{ChanName}
use Rattle.fm_base.specs.declared.port.PortValue.TheVariants.{Writer, Reader}
use Rattle.fm_base.specs.PathOrder.{path_cmp}
use Rattle.fm_base.specs.Channels.{Chan, Chans, Item, Push, Pop, fresh, all_shed}
use Rattle.fm_finmap.proofs.Keys.{decide}
use Rattle.fm_finmap.proofs.Inserts.{insert_here, insert_there, insert_again}
use Rattle.fm_sched.specs.Schedule.{IsEnding, Leads}
use Rattle.fm_sched.proofs.Runs.{leads_nowhere, leads_first}
use Rattle.fm_net.specs.Machine.{Place, State}
use Rattle.fm_net.specs.Language.{language_step}
use Rattle.fm_net.specs.Owned.{name_of}
use Rattle.fm_net.specs.Small.{Instr, Channel, Send, Receive, Proc, language, null, port, first_state, sample, sample_choices}
use Rattle.fm_net.proofs.Keys.{path_order, channel_order}
use Rattle.fm_net.proofs.Cases.{step_absent, step_stopped, channel_step, event_step}
use Rattle.fm_discards.proofs.Shedding.{all_shed-nil}

abbrev step : State Proc → Place → Option (State Proc × ℕ)
step = language_step (language sample)

abbrev main_with : Proc → Chans → State Proc
main_with x m = record { procs = insert empty [] x; chans = m }

abbrev named : ChanName
named = name_of [] 1

abbrev doing : List Instr → List Item → ℕ → Proc
doing code vars next = record { code = code; vars = vars; next_block = 1; next_channel = next; joins = None }

abbrev ports : List Item
ports = port (Writer named 0) ∷ port (Reader named) ∷ []

abbrev ports_and_null : List Item
ports_and_null = port (Writer named 0) ∷ port (Reader named) ∷ null ∷ []

-- main, before its first step and after each
abbrev x0 : Proc
x0 = doing (Channel 0 1 ∷ Send 0 2 ∷ Receive 1 2 ∷ []) [] 1

abbrev x1 : Proc
x1 = doing (Send 0 2 ∷ Receive 1 2 ∷ []) ports 2

abbrev x2 : Proc
x2 = doing (Receive 1 2 ∷ []) ports_and_null 2

abbrev x3 : Proc
x3 = doing [] ports_and_null 2

-- the channel with the message
abbrev sent : Chan
sent = record { queue = (null ∷ []) ∷ []; writers = 0 ∷ []; lives = true }

abbrev with_channel : Chan → Chans
with_channel ch = insert empty named ch

main_found : (x : Proc) (m : Chans) → get (main_with x m).procs [] ≡ Some x
main_found x m = insert_here path_order empty [] x

-- what a step of main leaves, where nothing is discarded
left_by : (x y : Proc) (m n : Chans) (cost : ℕ) → m ≡ n → ◌≡◌ {A = Option (State Proc × ℕ)} (Some (record { procs = insert (main_with x m).procs [] y; chans = all_shed [] m }, cost)) (Some (main_with y n, cost))
left_by x y m n cost same = λ i. Some (record { procs = insert_again path_order empty [] x y i; chans = (all_shed-nil m ∙ same) i }, cost)

first_step : step (main_with x0 empty) [] ≡ Some (main_with x1 (with_channel (fresh 1)), 1)
first_step = channel_step (language sample) (main_with x0 empty) [] x0 (main_found x0 empty) 1 1 _ _ refl refl refl ∙ left_by x0 x1 (with_channel (fresh 1)) (with_channel (fresh 1)) 1 refl

second_step : step (main_with x1 (with_channel (fresh 1))) [] ≡ Some (main_with x2 (with_channel sent), 1)
second_step =
    event_step (language sample) (main_with x1 (with_channel (fresh 1))) [] x1 (main_found x1 (with_channel (fresh 1))) named (Push 0 (null ∷ [])) _ refl (fresh 1) (insert_here channel_order empty named (fresh 1)) _ refl refl refl
    ∙ left_by x1 x2 (insert (with_channel (fresh 1)) named sent) (with_channel sent) 1 (insert_again channel_order empty named (fresh 1) sent)

third_step : step (main_with x2 (with_channel sent)) [] ≡ Some (main_with x3 (with_channel (fresh 1)), 1)
third_step =
    event_step (language sample) (main_with x2 (with_channel sent)) [] x2 (main_found x2 (with_channel sent)) named (Pop []) _ refl sent (insert_here channel_order empty named sent) _ refl refl refl
    ∙ left_by x2 x3 (insert (with_channel sent) named (fresh 1)) (with_channel (fresh 1)) 1 (insert_again channel_order empty named sent (fresh 1))

nobody : (p : Place) → step (main_with x3 (with_channel (fresh 1))) p ≡ None
nobody p = elim (decide path_order p []) [
  | yes e ↦ ap (step (main_with x3 (with_channel (fresh 1)))) e ∙ step_stopped (language sample) (main_with x3 (with_channel (fresh 1))) [] x3 (main_found x3 (with_channel (fresh 1))) refl
  | no other ↦ step_absent (language sample) (main_with x3 (with_channel (fresh 1))) p (insert_there path_order empty [] x3 p other ∙ get-empty path_cmp p)
]

leads : Leads step (first_state sample) sample_choices (main_with x3 (with_channel (fresh 1))) 3
leads =
    leads_first step (main_with x0 empty) [] (main_with x1 (with_channel (fresh 1)), 1) ([] ∷ [] ∷ []) (main_with x3 (with_channel (fresh 1))) 2 first_step
    (leads_first step (main_with x1 (with_channel (fresh 1))) [] (main_with x2 (with_channel sent), 1) ([] ∷ []) (main_with x3 (with_channel (fresh 1))) 1 second_step
    (leads_first step (main_with x2 (with_channel sent)) [] (main_with x3 (with_channel (fresh 1)), 1) [] (main_with x3 (with_channel (fresh 1))) 0 third_step (leads_nowhere step (main_with x3 (with_channel (fresh 1))))))

pub sample_ends : IsEnding step (first_state sample) sample_choices
sample_ends = (leads.legal, λ p. subst (λ s. step s p ≡ None) (sym leads.there) (nobody p))
