-- The events that made what there is, through one event more.
use Rattle.std.proofs.Common.{◌≡◌, ℕ, Bool, true, false, List, [], ◌∷◌, ◌++◌, Option, Some, refl, sym, ap, ap₂, subst, ◌∙◌, append_assoc, append-nil}
use Rattle.std.specs.Prelude.{Result, Ok, Err}
use Rattle.fm_base.specs.declared.memory.NoMemory.{NoMemory}
use Rattle.fm_base.specs.declared.path.ChanName.{ChanName}
use Rattle.fm_base.specs.declared.schedule.Turn.{Turn}
use Rattle.fm_net.specs.Machine.{Place}
use Rattle.fm_net.specs.Language.{Language}
use Rattle.fm_net.specs.Starts.{choices_of, starts_at}
use Rattle.fm_net.proofs.Histories.{choices_more}
use Rattle.fm_rules.specs.declared.program.Program.{Program}
use Rattle.fm_mean.specs.Process.{Proc}
use Rattle.fm_mean.specs.Steps.{first, first_proc, language}
use Rattle.fm_mean.proofs.Lawful.{lawful}
use Rattle.fm_mean.proofs.Laws.{first_owned}
use Rattle.fm_link_law.specs.Hosts.{Hosts, Carried, state_of, sent, answered, delivered, lost}
use Rattle.fm_link_law.specs.Play as play
use Rattle.fm_link_law.specs.Play.{HostEvent, came_of, stepped_to, happens, hosts_after, steps_of}
use Rattle.fm_link_channels.specs.Links.{GoesByLink}
use Rattle.fm_link_channels.proofs.Following.{goes_by_link}
use Rattle.fm_nodes_plain.specs.Plain.{IsPlainProgram, first_hosts}
use Rattle.fm_nodes_plain.proofs.Hosted.{asks_for_words, plays_program}
use Rattle.fm_nodes_hosts.specs.Ends.{outlasts}
use Rattle.fm_nodes_hosts.specs.Runs.{Run, HasStepped, IsMoved, IsTried, first_run, one_step_of}
use Rattle.fm_nodes_rounds.specs.declared.hosts.NodeEvent.{NodeEvent}
use Rattle.fm_nodes_rounds.specs.declared.hosts.NodeEvent.TheVariants.{Step, Send, Answer, Deliver, Lose, Restart}
use Rattle.fm_nodes.specs.Nodes.{Hosted, IsDone, IsRestarted, host_in}
use Rattle.fm_nodes.specs.Made.{IsMade}

-- ---- one event behind others

module _ {Proc : Type 0} (language : Language Proc) where
  hosts_after-push : (es : List HostEvent) (h : Hosts Proc) (e : HostEvent) → hosts_after language h (es ++ e ∷ []) ≡ (happens language (hosts_after language h es) e).hosts
  hosts_after-push [] h e = refl
  hosts_after-push (d ∷ es) h e = hosts_after-push es (happens language h d).hosts e

  steps_of-push : (es : List HostEvent) (h : Hosts Proc) (e : HostEvent) → steps_of language h (es ++ e ∷ []) ≡ steps_of language h es ++ (happens language (hosts_after language h es) e).steps
  steps_of-push [] h e = append-nil (happens language h e).steps
  steps_of-push (d ∷ es) h e =
      ap (λ zs. (happens language h d).steps ++ zs) (steps_of-push es (happens language h d).hosts e)
      ∙ sym (append_assoc (happens language h d).steps (steps_of language (happens language h d).hosts es) (happens language (hosts_after language (happens language h d).hosts es) e).steps)

module _ (p : Program) where
  pub made_first : (run : Run Proc) → run ≡ first_run (first_proc p) → IsMade p run
  made_first run e = record {
    events = [];
    hosts = sym (ap (λ (r : Run Proc). r.hosts) e);
    steps = ap (λ (r : Run Proc). choices_of r.history r.order) e;
  }

  module _ (old new : Run Proc) where
    pub made_same : new ≡ old → IsMade p old → IsMade p new
    made_same e made = subst (IsMade p) (sym e) made

    -- an event leads to the new hosts, and its steps are told behind the others
    made_more : (e : HostEvent) → (happens (language p) old.hosts e).hosts ≡ new.hosts
        → ((cs : List Place) → choices_of old.history old.order ≡ Some cs → choices_of new.history new.order ≡ Some (cs ++ (happens (language p) old.hosts e).steps))
        → IsMade p old → IsMade p new
    made_more e hosts steps made =
        let behind = steps_of (language p) (first_hosts p) made.events in
        record {
          events = made.events ++ e ∷ [];
          hosts = hosts_after-push (language p) made.events (first_hosts p) e ∙ ap (λ (h : Hosts Proc). (happens (language p) h e).hosts) made.hosts ∙ hosts;
          steps =
              steps behind made.steps
              ∙ ap Some (ap (λ (h : Hosts Proc). behind ++ (happens (language p) h e).steps) (sym made.hosts) ∙ sym (steps_of-push (language p) made.events (first_hosts p) e));
        }

    -- without a step
    made_still : (e : HostEvent) → (happens (language p) old.hosts e).hosts ≡ new.hosts → (happens (language p) old.hosts e).steps ≡ [] → new.history ≡ old.history → new.order ≡ old.order → IsMade p old → IsMade p new
    made_still e hosts none history order made =
        made_more e hosts (λ cs told.
        ap₂ (λ (ts : List Turn) (qs : List Place). choices_of ts qs) history order ∙ told
        ∙ ap Some (sym (append-nil cs) ∙ ap (λ zs. cs ++ zs) (sym none))) made

    -- what the network does
    made_moved : (e : HostEvent) (later : Option (Hosts Proc)) → happens (language p) old.hosts e ≡ came_of old.hosts later → (r : Result Bool NoMemory) → IsMoved later old new r → IsMade p old → IsMade p new
    made_moved e later does (Ok true) is made =
        made_still e (ap (λ (a : play.EventEnd Proc). a.hosts) does ∙ ap (λ (o : Option (Hosts Proc)). (came_of old.hosts o).hosts) is.0)
        (ap (λ (a : play.EventEnd Proc). a.steps) does ∙ ap (λ (o : Option (Hosts Proc)). (came_of old.hosts o).steps) is.0)
        (ap (λ (r : Run Proc). r.history) is.1) (ap (λ (r : Run Proc). r.order) is.1) made
    made_moved e later does (Ok false) is made = made_same is.1 made
    made_moved e later does (Err want) is made = made_same is made

    -- a step
    made_stepped : (q : Place) → HasStepped (language p) q old new → IsMade p old → IsMade p new
    made_stepped q does made =
        made_more (play.Step q) (ap (λ (o : Option (Hosts Proc × ℕ)). (stepped_to old.hosts q o).hosts) does.steps)
        (λ cs told.
        ap₂ (λ (ts : List Turn) (qs : List Place). choices_of ts qs) does.history_is does.order_is
        ∙ choices_more old.history old.order (starts_at (language p) (state_of old.hosts) q) cs (one_step_of does.number) q told does.who
        ∙ ap (λ zs. Some (cs ++ zs)) (sym (ap (λ (o : Option (Hosts Proc × ℕ)). (stepped_to old.hosts q o).steps) does.steps))) made

    pub made_tried : (q : Place) (r : Result Bool NoMemory) → IsTried (language p) q old new r → IsMade p old → IsMade p new
    made_tried q (Ok true) is made = made_stepped q is made
    made_tried q (Ok false) is made = made_same is.1 made
    made_tried q (Err want) is made = made_same is made

module _ (h : Hosted) (new : Run Proc) where
  made_restarted : (host : ℕ) (r : Result Bool NoMemory) → IsRestarted h host new r → IsMade h.program h.run → IsMade h.program new
  made_restarted host (Ok true) is made =
      made_still h.program h.run new (play.Restart (λ (e : Carried). outlasts (language h.program) (host_in h) h.run.hosts.procs h.run.order host e.0)) (ap (λ (r : Run Proc). r.hosts) (sym is.1)) refl
      (ap (λ (r : Run Proc). r.history) is.1) (ap (λ (r : Run Proc). r.order) is.1) made
  made_restarted host (Ok false) is made = made_same h.program h.run new is.1 made
  made_restarted host (Err want) is made = made_same h.program h.run new is made

  pub made_done : (event : NodeEvent) (r : Result Bool NoMemory) → IsDone h event new r → IsMade h.program h.run → IsMade h.program new
  made_done (Step q) r is made = made_tried h.program h.run new q r is made
  made_done (Send c k) r is made = made_moved h.program h.run new (play.Send c k) (sent h.run.hosts c k) refl r is made
  made_done (Answer c) r is made = made_moved h.program h.run new (play.Answer c) (answered h.run.hosts c) refl r is made
  made_done (Deliver i) r is made = made_moved h.program h.run new (play.Deliver i) (delivered h.run.hosts i) refl r is made
  made_done (Lose i) r is made = made_moved h.program h.run new (play.Lose i) (lost h.run.hosts i) refl r is made
  made_done (Restart host) r is made = made_restarted host r is made

-- ---- each channel of a plain program on hosts is a link

pub links_of : (p : Program) → IsPlainProgram p → (es : List HostEvent) (c : ChanName) → GoesByLink (language p) (first_hosts p) es c
links_of p plain es c =
    let begins = plays_program p plain [] in
    goes_by_link (language p) (first p) (lawful p) (first_owned p) (asks_for_words p plain) (first_hosts p) begins.1 ([], tt, begins.0.there) refl refl es c
