-- From what is asked of main's steps to the end of main: each process keeps its fact along every schedule, a child by the call
-- that started it, and where nobody can step main has ended.
use Rattle.std.proofs.Common.{◌≡◌, ℕ, zero, suc, ◌+◌, ◌≤◌, ◌<◌, Bool, true, false, Option, Some, None, List, [], ◌∷◌, length, slice_get, refl, sym, ap, ◌∙◌, subst, arith}
use Rattle.std.specs.FinMap.{empty, get, get-empty}
use Rattle.fm_base.specs.declared.path.ChanName.{ChanName}
use Rattle.fm_base.specs.declared.port.PortValue.{PortValue}
use Rattle.fm_base.specs.declared.port.PortValue.TheVariants.{Writer, Reader}
use Rattle.fm_base.specs.PathOrder.{path_cmp, channel_cmp}
use Rattle.fm_base.specs.Channels.{Chan, Message, Push, Pop, Look, channel_of, message_ports, queue_ports}
use Rattle.fm_finmap.proofs.Keys.{decide}
use Rattle.fm_finmap.proofs.Inserts.{insert_here, insert_there}
use Rattle.fm_sched.specs.Schedule.{Throughout, play}
use Rattle.fm_tree.specs.PortFields.{PortFields, NoFields}
use Rattle.fm_tree.specs.declared.program_unit.Entry.{Entry}
use Rattle.fm_tree.specs.declared.statement.Stmt.{Stmt}
use Rattle.fm_tree.specs.declared.statement.Stmt.TheVariants as stmt
use Rattle.fm_net.specs.Machine.{Place, State, Need, Nothing, New, Children, Reply, Onward, Ask, Stop, Go, child, made}
use Rattle.fm_net.specs.Machine as net
use Rattle.fm_net.specs.Owned.{count}
use Rattle.fm_net.specs.Lawful.{MayBring, given_by, got}
use Rattle.fm_net.specs.Typed.{AllIn, SentFits, CameFits, MadeFits, IsTypedAsk, IsTypedLanguage, IsTypedStep}
use Rattle.fm_net.proofs.Counts.{count-append}
use Rattle.fm_net.proofs.Keys.{path_order}
use Rattle.fm_rules.specs.declared.program.Program.{Program}
use Rattle.fm_mean.specs.Names.{ProgramUnit, unit_at, main_number, all_unset}
use Rattle.fm_mean.specs.Calls.{variables_in}
use Rattle.fm_mean.specs.Fits.{Types, ValuesFit, Fits, IsFine, variables_of}
use Rattle.fm_mean.specs.Process.{Proc, emptied, has_ended, held, is_ended}
use Rattle.fm_mean.specs.Steps.{ask, first, first_proc, language, main_by, main_in, proc_of, step}
use Rattle.fm_mean.specs.TypedTrees.{HasTypes}
use Rattle.fm_mean.proofs.Fitting.{all_unset_fits}
use Rattle.fm_mean.proofs.Lawful.{lawful}
use Rattle.fm_mean.proofs.Laws.{first_owned}
use Rattle.fm_mean.proofs.Leading.{all_lead}
use Rattle.fm_mean.proofs.Lively.{IsLiveAsk, IsLiveStep, has_next}
use Rattle.fm_mean.proofs.ProgramMeanings.{program_has_types}
use Rattle.fm_mean.proofs.Rests.{AreLive, live_along}
use Rattle.fm_mean.proofs.Sorts.{named_at}
use Rattle.fm_mean.proofs.TypedLanguage.{typed_language}
use Rattle.fm_mean.proofs.TypedTrees.{typed_program}
use Rattle.fm_flow_law.specs.Ends.{ComesToItsEnd}
use Rattle.fm_flow_law.specs.Flow.{IsFlowSafe, IsRiskIn, Makes, edges, keeps, keeps_outport, makes, risky, sends_ports, started}
use Rattle.fm_flow_law.specs.Pipes.{IsChildNeed, IsMainNeed, IsPiped, MainAsks}
use Rattle.fm_flow_law.specs.Ports.{GivesIn, GivesOut}
use Rattle.fm_flow_law.proofs.Edges.{gives_edges, safe_acyclic}
use Rattle.fm_flow_law.proofs.KidSteps.{IsKid, KidGoes, kid_goes}
use Rattle.fm_flow_law.proofs.Labelled.{AreLabels, IsLabelled, Joined, KeepsAsk, KeepsLanguage, labels_throughout}
use Rattle.fm_flow_law.proofs.MainThere.{main_along}
use Rattle.fm_flow_law.proofs.Ready.{Gives, is_child, may_go}
use Rattle.fm_flow_law.proofs.Whole.{HasNoFault, comes_to_its_end}

never : true ≡ false → ⊥
never e = absurd (cc)

no_go : (need : Need) (f : ChanName → Reply Proc → Onward Proc) → Stop ≡ Go need f → ⊥
no_go need f e = absurd (cc)

-- ---- labels

-- the label of a channel: the entry of its CHANNEL, and its port type
abbrev pub Labels : Type 0
Labels = ChanName → ℕ × PortFields

abbrev pub types_in : Labels → Types
types_in l c = (l c).1

abbrev pub places_in : Labels → ChanName → ℕ
places_in l c = (l c).0

abbrev pub IsBare : Message → Type 0
IsBare m = (z : PortValue) → count z (message_ports m) ≡ 0

-- a message of its channel's type without ports
abbrev pub FlowFits : Labels → ChanName → Message → Type 0
FlowFits l c m = Fits (types_in l) c m × IsBare m

abbrev NoneAsked : Labels → Proc → Type 0
NoneAsked l x = Unit {0}

-- ---- units that are started

pub started_there : (p : Program) (s : Stmt) (j : ℕ) (c : ProgramUnit) → started p s ≡ Some (j, c) → unit_at p j ≡ Some c
unfolding started
started_there p (stmt.ProcessCall name part) j c e = named_at p name j c e
started_there p s j c e = absurd (cc e)

-- ---- small facts

nothing_held : (z : PortValue) → 1 ≤ count z [] → ⊥
unfolding count
nothing_held z h = absurd (omega (arith, h))

none_held : (z : PortValue) → count z [] ≡ 0
unfolding count
none_held z = refl

got_bare : (o : Option Message) → ((m : Message) → o ≡ Some m → IsBare m) → (z : PortValue) → count z (got o) ≡ 0
got_bare None h z = none_held z
got_bare (Some m) h z = h m refl z

none_some : (m : Message) → None ≡ Some m → ⊥
none_some m e = absurd (cc)

of_length : (ys : List Proc) → length ys ≡ 0 → ys ≡ []
of_length [] e = refl
of_length (y ∷ ys) e = absurd (omega (arith, e))

module _ (p : Program) (u : ProgramUnit) where
  -- the call at this place starts a process of this unit
  pub record IsCallOf (root place : ℕ) : Type 0 where
    pub call : Entry
    pub there : slice_get u.tree.body place ≡ Some call
    pub callee : ProgramUnit
    pub starts : started p call.stmt ≡ Some (root, callee)

  -- a child of such a call
  pub record IsChildOf (l : Labels) (x : Proc) : Type 0 where
    pub root : ℕ
    pub place : ℕ
    pub call : IsCallOf root place
    pub kid : IsKid p root (Gives u (places_in l) place) (types_in l) x

  -- what main may need: a channel, or its children, when it holds no outport
  abbrev pub IsMainsNeed : Proc → Need → Type 0
  IsMainsNeed x Nothing = Unit {0}
  IsMainsNeed x (net.Event c a) = ⊥
  IsMainsNeed x (New n k) = Unit {0}
  IsMainsNeed x (Children b n) = (c : ChanName) (w : ℕ) → count (Writer c w) (held x) ≡ 0

  abbrev pub IsMadeAt : Labels → Need → ChanName → ℕ → Type 0
  IsMadeAt l Nothing c place = Unit {0}
  IsMadeAt l (net.Event d a) c place = Unit {0}
  IsMadeAt l (New n k) c place = places_in l c ≡ place
  IsMadeAt l (Children b n) c place = Unit {0}

  abbrev pub AreKids : Labels → Need → Reply Proc → Type 0
  AreKids l Nothing r = Unit {0}
  AreKids l (net.Event c a) r = Unit {0}
  AreKids l (New n k) r = Unit {0}
  AreKids l (Children b n) r = (length r.children ≡ n) × AllIn (λ (y : Proc). (has_ended y ≡ true) × IsChildOf l y) r.children

  module _ (Main : Labels → Proc → Type 0) where
    -- a step of main, which keeps its fact and starts children of calls
    pub record MainStep (x : Proc) (need : Need) (f : ChanName → Reply Proc → Onward Proc) : Type 0 where
      pub place_made : ℕ
      pub needs : (l : Labels) → IsFine p (types_in l) x → Main l x → IsMainsNeed x need
      pub goes_on : (l : Labels) → IsFine p (types_in l) x → Main l x → (r : Reply Proc) → MayBring need r → IsMadeAt l need (made [] need) place_made → AreKids l need r
          → IsFine p (types_in l) (f (made [] need) r).self → AllIn (IsFine p (types_in l)) (f (made [] need) r).starts
          → Main l (f (made [] need) r).self × AllIn (IsChildOf l) (f (made [] need) r).starts

    -- what is asked of main: its fact holds at first, is kept by its steps, and looks at labels of its own ports alone
    pub record MainPart : Type 0 where
      pub begins : (l : Labels) → Main l (first_proc p)
      pub goes : (x : Proc) (need : Need) (f : ChanName → Reply Proc → Onward Proc) → ask p x ≡ Go need f → MainStep x need f
      pub empties : (l : Labels) (x : Proc) → has_ended x ≡ true → Main l x → Main l (emptied x)
      pub agrees : (l others : Labels) (x : Proc) → ((z : PortValue) → 1 ≤ count z (held x) → l (channel_of z) ≡ others (channel_of z)) → Main l x → Main others x

    abbrev pub Fact : Labels → Place → Proc → Type 0
    Fact l [] x = IsFine p (types_in l) x × Main l x
    Fact l (h ∷ q) x = IsChildOf l x

-- ---- the program is safe

module _ (p : Program) (number : ℕ) (u : ProgramUnit) (is_main : main_number p ≡ Some number) (here : unit_at p number ≡ Some u) (safe : IsFlowSafe p) where
  pub no_risk : (line : ℕ) → IsRiskIn p u line → ⊥
  no_risk line r = safe line (record { main = number; unit = u; starts = is_main; there = here; risk = r })

  makes_none : (root place : ℕ) → IsCallOf p u root place → Makes p root → ⊥
  makes_none root place call m = no_risk call.call.line.0 (risky (place, call.call, record { there = call.there; same = refl }, makes (root, call.callee) call.starts m))

  keeps_none : (root place : ℕ) → IsCallOf p u root place → keeps_outport (variables_of p root) ≡ false
  keeps_none root place call =
      ap (λ (o : Option ProgramUnit). keeps_outport (variables_in o)) (started_there p call.call.stmt root call.callee call.starts) ∙ go (keeps_outport call.callee.names.variables) refl
    where
      go : (b : Bool) → keeps_outport call.callee.names.variables ≡ b → b ≡ false
      go false e = refl
      go true e = absurd (no_risk call.call.line.0 (risky (place, call.call, record { there = call.there; same = refl }, keeps (root, call.callee) call.starts e)))

  typed : HasTypes p
  typed = program_has_types p

  types : IsTypedLanguage (language p) (IsFine p) Fits
  types = typed_language p (typed_program p typed)

  runs : (x : Proc) (need : Need) (f : ChanName → Reply Proc → Onward Proc) → ask p x ≡ Go need f → is_ended x.phase ≡ false
  runs x need f asks = go (is_ended x.phase) refl
    where
      go : (b : Bool) → is_ended x.phase ≡ b → b ≡ false
      go false e = refl
      go true e = absurd (no_go need f (sym ((lawful p).stops x e) ∙ asks))

  -- ---- labels and types

  came_types : (l : Labels) (need : Need) (o : Option Message) → CameFits (language p) NoneAsked FlowFits l need o → CameFits (language p) (IsFine p) Fits (types_in l) need o
  came_types l Nothing o h = tt
  came_types l (net.Event c a) o h = λ m is. (h m is).0
  came_types l (New n k) o h = tt
  came_types l (Children b n) o h = tt

  made_types : (l : Labels) (need : Need) (c : ChanName) (n : ℕ) (t : PortFields) → MadeFits (language p) NoneAsked FlowFits l need c (n, t) → MadeFits (language p) (IsFine p) Fits (types_in l) need c t
  made_types l Nothing c n t h = tt
  made_types l (net.Event d a) c n t h = tt
  made_types l (New m k) c n t h = ap (λ (x : ℕ × PortFields). x.1) h
  made_types l (Children b m) c n t h = tt

  made_places : (l : Labels) (need : Need) (c : ChanName) (n : ℕ) (t : PortFields) → MadeFits (language p) NoneAsked FlowFits l need c (n, t) → IsMadeAt p u l need c n
  made_places l Nothing c n t h = tt
  made_places l (net.Event d a) c n t h = tt
  made_places l (New m k) c n t h = ap (λ (x : ℕ × PortFields). x.0) h
  made_places l (Children b m) c n t h = tt

  gives_same : (labels others : ChanName → ℕ) (k : ℕ) (z : PortValue) → labels (channel_of z) ≡ others (channel_of z) → Gives u labels k z → Gives u others k z
  gives_same labels others k (Writer c w) e g =
      record { channel = g.channel; call = g.call; made = subst (λ (n : ℕ). slice_get u.tree.body n ≡ Some g.channel) e g.made; there = g.there; gives = g.gives }
  gives_same labels others k (Reader c) e g =
      record { channel = g.channel; call = g.call; made = subst (λ (n : ℕ). slice_get u.tree.body n ≡ Some g.channel) e g.made; there = g.there; gives = g.gives }

  -- ---- a child's steps

  kid_sends : (l : Labels) (need : Need) → SentFits (language p) (IsFine p) Fits (types_in l) need → ((z : PortValue) → count z (given_by need) ≡ 0) → SentFits (language p) NoneAsked FlowFits l need
  kid_sends l Nothing s bare = tt
  kid_sends l (net.Event c (Push w m)) s bare = (s, bare)
  kid_sends l (net.Event c (Pop limits)) s bare = tt
  kid_sends l (net.Event c Look) s bare = tt
  kid_sends l (New n k) s bare = tt
  kid_sends l (Children b n) s bare = tt

  came_bare : (l : Labels) (need : Need) (r : Reply Proc) → MayBring need r → CameFits (language p) NoneAsked FlowFits l need r.message → (m : Message) → r.message ≡ Some m → IsBare m
  came_bare l Nothing r may came m is = absurd (none_some m (sym may.0 ∙ is))
  came_bare l (net.Event c a) r may came m is = (came m is).1
  came_bare l (New n k) r may came m is = absurd (none_some m (sym may.0 ∙ is))
  came_bare l (Children b n) r may came m is = absurd (none_some m (sym may ∙ is))

  module _ (Main : Labels → Proc → Type 0) where
    no_children : (l : Labels) (q : Place) (need : Need) (r : Reply Proc) → IsChildNeed need → MayBring need r → Joined (language p) (Fact p u Main) FlowFits l q need r → r.children ≡ []
    no_children l q Nothing r lone may joined = may.1
    no_children l q (net.Event c a) r lone may joined = may.1
    no_children l q (New n k) r lone may joined = absurd lone
    no_children l q (Children b n) r lone may joined = of_length r.children (joined.0 ∙ lone)

    kid_keeps : (h : ℕ × ℕ) (q : Place) (x : Proc) (a : Ask Proc) → ask p x ≡ a → KeepsAsk (language p) (Fact p u Main) FlowFits (h ∷ q) x a
    kid_keeps h q x Stop asks = tt
    kid_keeps h q x (Go need f) asks = record {
      label_made = (0, NoFields);
      sends = λ l kid. let g = goes l kid in kid_sends l need g.sends_fit g.sends_none;
      goes_on = λ l kid r may made_fits came joined.
          let g = goes l kid in
          let none = no_children l (h ∷ q) need r g.lone may joined in
          let on = g.goes_on (made (h ∷ q) need) r (record { may = may; came = came_types l need r.message came; bare = got_bare r.message (came_bare l need r may came); none = none }) in (
            record { root = kid.root; place = kid.place; call = kid.call; kid = on.0 },
            subst (AllIn (λ (y : Proc). (i : ℕ) → IsChildOf p u l y)) (sym on.1) tt,
          );
    }
      where
        goes : (l : Labels) (kid : IsChildOf p u l x) → KidGoes p kid.root (Gives u (places_in l) kid.place) typed (makes_none kid.root kid.place kid.call) (keeps_none kid.root kid.place kid.call) (types_in l) x need f
        goes l kid = kid_goes p kid.root (Gives u (places_in l) kid.place) typed (makes_none kid.root kid.place kid.call) (keeps_none kid.root kid.place kid.call) (types_in l) x (runs x need f asks) kid.kid need f asks

    kid_empties : (l : Labels) (x : Proc) → IsChildOf p u l x → IsChildOf p u l (emptied x)
    kid_empties l x kid = record {
      root = kid.root;
      place = kid.place;
      call = kid.call;
      kid = record {
        fine = types.empties (types_in l) x kid.kid.fine;
        inside = (tt, kid.kid.inside.1, tt);
        simple = λ z h. absurd (nothing_held z h);
        has = λ z h. absurd (nothing_held z h);
        gives_none = λ done c w. none_held (Writer c w);
      };
    }

    kid_agrees : (l others : Labels) (x : Proc) → ((z : PortValue) → 1 ≤ count z (held x) → l (channel_of z) ≡ others (channel_of z)) → IsChildOf p u l x → IsChildOf p u others x
    kid_agrees l others x same kid = record {
      root = kid.root;
      place = kid.place;
      call = kid.call;
      kid = record {
        fine = types.agrees (types_in l) (types_in others) x (λ z h. ap (λ (t : ℕ × PortFields). t.1) (same z h)) kid.kid.fine;
        inside = kid.kid.inside;
        simple = λ z h. ap (λ (t : ℕ × PortFields). sends_ports t.1) (sym (same z h)) ∙ kid.kid.simple z h;
        has = λ z h. gives_same (places_in l) (places_in others) kid.place z (ap (λ (t : ℕ × PortFields). t.0) (same z h)) (kid.kid.has z h);
        gives_none = kid.kid.gives_none;
      };
    }

    -- ---- main's steps

    module _ (part : MainPart p u Main) where
      main_sends : (l : Labels) (x : Proc) (need : Need) → IsMainsNeed p u x need → SentFits (language p) NoneAsked FlowFits l need
      main_sends l x Nothing h = tt
      main_sends l x (net.Event c a) h = absurd h
      main_sends l x (New n k) h = tt
      main_sends l x (Children b n) h = tt

      kids_are : (l : Labels) (b : ℕ) (ys : List Proc) → AllIn (λ (y : Proc). (has_ended y ≡ true) × (i : ℕ) × IsChildOf p u l y) ys → AllIn (λ (y : Proc). (has_ended y ≡ true) × IsChildOf p u l y) ys
      kids_are l b [] all = tt
      kids_are l b (y ∷ ys) all = ((all.0.0, all.0.2), kids_are l b ys all.1)

      joined_kids : (l : Labels) (need : Need) (r : Reply Proc) → Joined (language p) (Fact p u Main) FlowFits l [] need r → AreKids p u l need r
      joined_kids l Nothing r h = tt
      joined_kids l (net.Event c a) r h = tt
      joined_kids l (New n k) r h = tt
      joined_kids l (Children b n) r h = (h.0, kids_are l b r.children h.1)

      all_fine : (l : Labels) (ys : List Proc) → AllIn (λ (y : Proc). (has_ended y ≡ true) × IsChildOf p u l y) ys → AllIn (IsFine p (types_in l)) ys
      all_fine l [] all = tt
      all_fine l (y ∷ ys) all = (all.0.1.kid.fine, all_fine l ys all.1)

      kids_fine : (l : Labels) (need : Need) (r : Reply Proc) → MayBring need r → AreKids p u l need r → AllIn (IsFine p (types_in l)) r.children
      kids_fine l Nothing r may kids = subst (AllIn (IsFine p (types_in l))) (sym may.1) tt
      kids_fine l (net.Event c a) r may kids = subst (AllIn (IsFine p (types_in l))) (sym may.1) tt
      kids_fine l (New n k) r may kids = subst (AllIn (IsFine p (types_in l))) (sym may.1) tt
      kids_fine l (Children b n) r may kids = all_fine l r.children kids.1

      spread : (l : Labels) (xs : List Proc) → AllIn (IsChildOf p u l) xs → AllIn (λ (y : Proc). (i : ℕ) → IsChildOf p u l y) xs
      spread l [] all = tt
      spread l (x ∷ xs) all = ((λ i. all.0), spread l xs all.1)

      main_keeps : (x : Proc) (a : Ask Proc) → ask p x ≡ a → KeepsAsk (language p) (Fact p u Main) FlowFits [] x a
      main_keeps x Stop asks = tt
      main_keeps x (Go need f) asks = record {
        label_made = (main.place_made, step_typed.type_made);
        sends = λ l fact. main_sends l x need (main.needs l fact.0 fact.1);
        goes_on = λ l fact r may made_fits came joined.
            let c = made [] need in
            let kids = joined_kids l need r joined in
            let fine = step_typed.goes_on (types_in l) fact.0 c r (made_types l need c main.place_made step_typed.type_made made_fits) (came_types l need r.message came) (kids_fine l need r may kids) in
            let on = main.goes_on l fact.0 fact.1 r may (made_places l need c main.place_made step_typed.type_made made_fits) kids fine.0 fine.1 in
            ((fine.0, on.0), spread l (f c r).starts on.1);
      }
        where
          main : MainStep p u Main x need f
          main = part.goes x need f asks

          step_typed : IsTypedStep (language p) (IsFine p) Fits x need f
          step_typed = subst (IsTypedAsk (language p) (IsFine p) Fits x) asks (types.goes x)

      keeps_fact : (q : Place) (x : Proc) → KeepsAsk (language p) (Fact p u Main) FlowFits q x (ask p x)
      keeps_fact [] x = main_keeps x (ask p x) refl
      keeps_fact (h ∷ q) x = kid_keeps h q x (ask p x) refl

      empties_fact : (l : Labels) (q : Place) (x : Proc) → has_ended x ≡ true → Fact p u Main l q x → Fact p u Main l q (emptied x)
      empties_fact l [] x done fact = (types.empties (types_in l) x fact.0, part.empties l x done fact.1)
      empties_fact l (h ∷ q) x done kid = kid_empties l x kid

      agrees_fact : (l others : Labels) (q : Place) (x : Proc) → ((z : PortValue) → 1 ≤ count z (held x) → l (channel_of z) ≡ others (channel_of z)) → Fact p u Main l q x → Fact p u Main others q x
      agrees_fact l others [] x same fact = (types.agrees (types_in l) (types_in others) x (λ z h. ap (λ (t : ℕ × PortFields). t.1) (same z h)) fact.0, part.agrees l others x same fact.1)
      agrees_fact l others (h ∷ q) x same kid = kid_agrees l others x same kid

      keeps_language : KeepsLanguage (language p) (Fact p u Main) FlowFits
      keeps_language = record {
        goes = keeps_fact;
        empties = empties_fact;
        agrees = agrees_fact;
        message_agrees = λ l others c m e same fits. (types.message_agrees (types_in l) (types_in others) c m (ap (λ (t : ℕ × PortFields). t.1) e) (λ z h. ap (λ (t : ℕ × PortFields). t.1) (same z h)) fits.0, fits.1);
      }

      -- ---- the first state

      main_fine : (t : Types) (n : ℕ) (o : Option ProgramUnit) → unit_at p n ≡ o → IsFine p t (proc_of (main_in n o))
      main_fine t n None is = (tt, tt)
      main_fine t n (Some w) is = ((subst (λ vs. ValuesFit t vs (all_unset w.names.variables)) (sym (ap variables_in is)) (all_unset_fits t w.names.variables), tt), tt)

      proc_fine : (t : Types) (o : Option ℕ) → IsFine p t (proc_of (main_by p o))
      proc_fine t None = (tt, tt)
      proc_fine t (Some n) = main_fine t n (unit_at p n) refl

      none_made : Labels
      none_made c = (0, NoFields)

      first_labels : IsLabelled (language p) (Fact p u Main) FlowFits (first p)
      first_labels = (
        none_made,
        record {
          each = λ q x is. elim (decide path_order q []) [
            | yes e ↦ let same : first_proc p ≡ x = cc (sym (insert_here path_order empty [] (first_proc p)) ∙ ap (get (first p).procs) (sym e) ∙ is) in
                subst (λ (r : Place). Fact p u Main none_made r x) (sym e) (subst (Fact p u Main none_made []) same (proc_fine (types_in none_made) (main_number p), part.begins none_made))
            | no n ↦ absurd (cc (sym (insert_there path_order empty [] (first_proc p) q n ∙ get-empty path_cmp q) ∙ is))
          ];
          queues = λ c ch is. absurd (cc (sym (get-empty {X = Chan} channel_cmp c) ∙ is));
        },
      )

      labelled_along : Throughout (step p) (IsLabelled (language p) (Fact p u Main) FlowFits) (first p)
      labelled_along = labels_throughout (language p) (Fact p u Main) FlowFits keeps_language (lawful p) (first p) (first_owned p) first_labels

      -- ---- a state without faults

      queue_bare : (l : Labels) (c : ChanName) (ms : List Message) → AllIn (FlowFits l c) ms → (z : PortValue) → count z (queue_ports ms) ≡ 0
      queue_bare l c [] all z = none_held z
      queue_bare l c (m ∷ ms) all z =
          let both = count-append z (message_ports m) (queue_ports ms) in
          let here = all.0.1 z in
          let more = queue_bare l c ms all.1 z in
          omega (arith, both, here, more)

      module _ (s : State Proc) (ok : HasNoFault s) (live : AreLive p s) (l : Labels) (labels : AreLabels (language p) (Fact p u Main) FlowFits l s) where
        lively : (q : Place) (x : Proc) → get s.procs q ≡ Some x → has_ended x ≡ false → IsLiveAsk p x.phase (ask p x)
        lively q x is on = has_next p (all_lead p) x (live.0 q x is) (may_go x.phase on (ok q x is))

        main_needs : (x : Proc) → get s.procs [] ≡ Some x → (need : Need) (f : ChanName → Reply Proc → Onward Proc) → IsLiveStep p x.phase need f → IsMainsNeed p u x need
            → IsMainNeed (language p) (edges u) (GivesOut u (places_in l)) (GivesIn u (places_in l)) s x need
        main_needs x is Nothing f step_live h = tt
        main_needs x is (net.Event c a) f step_live h = h
        main_needs x is (New n k) f step_live h = tt
        main_needs x is (Children b n) f step_live h = (h, λ i low high. kid i low high)
          where
            kid : (i : ℕ) → 1 ≤ i → i < n + 1 → (y : Proc) × (get s.procs (child [] b i) ≡ Some y)
            kid zero low high = absurd (omega (arith, low))
            kid (suc i) low high =
                let w = step_live.waits in
                let count_is = w.2 in
                live.1 [] x is b w.0 w.1 i (omega (arith, high, count_is))

        main_asks : (x : Proc) → get s.procs [] ≡ Some x → (a : Ask Proc) → ask p x ≡ a → IsLiveAsk p x.phase a → MainAsks (language p) (edges u) (GivesOut u (places_in l)) (GivesIn u (places_in l)) s x a
        main_asks x is Stop asks h = h
        main_asks x is (Go need f) asks h =
            let fact = labels.each [] x is in
            main_needs x is need f h ((part.goes x need f asks).needs l fact.0 fact.1)

        pub piped : (x : Proc) → get s.procs [] ≡ Some x → IsPiped (language p) (edges u) (GivesOut u (places_in l)) (GivesIn u (places_in l)) s
        piped x is = record {
          main = x;
          is_main = is;
          main_asks = λ on. main_asks x is (ask p x) refl (lively [] x is on);
          children = λ h q y at.
              let kid = labels.each (h ∷ q) y at in
              is_child p u (places_in l) (types_in l) kid.root kid.place kid.call.call y (all_lead p) (makes_none kid.root kid.place kid.call) kid.call.there kid.kid (live.0 (h ∷ q) y at) (ok (h ∷ q) y at);
          unsent = λ c ch z at. queue_bare l c ch.queue (labels.queues c ch at) z;
        }

      -- a safe program comes to its end
      pub safe_ends : ComesToItsEnd p
      safe_ends =
          comes_to_its_end p (edges u) (λ (l : Labels). GivesOut u (places_in l)) (λ (l : Labels). GivesIn u (places_in l)) (λ l. gives_edges u p (places_in l)) (safe_acyclic p number u is_main here safe)
          (λ cs legal ok.
          let labelled = labelled_along cs legal in
          let main = main_along p cs legal in
          (labelled.0, piped (play (step p) (first p) cs) ok (live_along p cs legal).1 labelled.0 labelled.1 main.0 main.1))
