-- The join of a block: what its children give back, and what of them is let go, is that of the meaning.
use Rattle.std.proofs.Common.{◌≡◌, ℕ, suc, ◌+◌, ◌≤◌, ◌==◌, ℤ, Bool, true, false, Option, Some, None, List, [], ◌∷◌, ◌++◌, length, map, refl, sym, ap, subst, ◌∙◌, append_assoc}
use Rattle.std.specs.List.{flat_map}
use Rattle.std.proofs.lemmas.Bool.{eqb-true}
use Rattle.std.proofs.lemmas.List.{map-append}
use Rattle.std.proofs.lemmas.Option.{same_Some}
use Rattle.fm_base.specs.declared.port.PortValue.{PortValue}
use Rattle.fm_base.specs.Channels.{Item, message_ports}
use Rattle.fm_net.specs.Machine.{Place, Need, Children, Reply}
use Rattle.fm_net.specs.Owned.{count}
use Rattle.fm_net.specs.Typed.{AllIn}
use Rattle.fm_net.specs.Correspondence.{Pairwise, RepliesCorrespond, OnwardsCorrespond, AsksCorrespond}
use Rattle.fm_symbols.specs.declared.names.Variable.{Variable}
use Rattle.fm_rules.specs.declared.program.Program.{Program}
use Rattle.fm_mean.specs.Names.{ProgramUnit, unit_at}
use Rattle.fm_mean.specs.Places.{Returned}
use Rattle.fm_mean.specs.Calls as mean_calls
use Rattle.fm_mean.specs.Process as mean
use Rattle.fm_mean.specs.Process.{Joining, Proc, held, started_ports, frames_ports}
use Rattle.fm_mean.specs.Fits.{Types, IsFine}
use Rattle.fm_mean.specs.Actions.{Join, Meets}
use Rattle.fm_mean.specs.Steps as mean_steps
use Rattle.fm_mean.specs.Steps.{ask_at, ask_event, ask_for}
use Rattle.fm_code.specs.declared.ask.Ask.TheVariants as ask
use Rattle.fm_code.specs.declared.body.Back.{Back}
use Rattle.fm_code.specs.declared.body.Body.{Body}
use Rattle.fm_code.specs.declared.body.Frame.{Frame}
use Rattle.fm_code.specs.Passing.{back_words, ports_in}
use Rattle.fm_code.specs.Statements as code_statements
use Rattle.fm_code.specs.Statements.{start_ports, left_ports}
use Rattle.fm_gen_relation.specs.Sound.{IsSoundUnit}
use Rattle.fm_gen_relation.proofs.Units.{sound_unit}
use Rattle.fm_gen_relation.specs.Operands.{MeanBack, BacksStand, code_back}
use Rattle.fm_gen_relation.specs.Formals.{ports_of}
use Rattle.fm_gen_relation.specs.Frames.{FrameStands, BelowStand}
use Rattle.fm_gen_relation.proofs.Held.{started_alike}
use Rattle.fm_proc_language.specs.Slots.{Slots, no_slots, port_in, vacated}
use Rattle.fm_proc_language.specs.Frames.{Held, Joined}
use Rattle.fm_proc_language.specs.Processes as code
use Rattle.fm_proc_language.specs.Processes.{CodeProc, Kid, frame_words, body_words, holding, joins_by}
use Rattle.fm_proc_simulation.specs.SlotWords.{IsHeld, AreOnce, IsSlots, HeldStands, GoesTo}
use Rattle.fm_proc_simulation.specs.Joining.{JoinsAlike}
use Rattle.fm_proc_simulation.proofs.Exchange.{goes_on, goes_nowhere}
use Rattle.fm_proc_simulation.proofs.Joining.{all_given_alike, rest_alike}
use Rattle.fm_proc_simulation.proofs.Same.{TellsPorts, frames_held}
use Rattle.fm_proc_simulation.proofs.Slots.{maps_same, vacated_held}
use Rattle.fm_gen.specs.Entries.{address_of, statement_address}
use Rattle.fm_gen.specs.Programs.{code_of}
use Rattle.fm_gen.proofs.StandLaws.{unit_found}
use Rattle.fm_proc_simulation.specs.Corresponds.{KidStands, KidsStand, BodyAlike, Corresponds}
use Rattle.fm_proc_simulation.specs.Here.{Here, other_words}
use Rattle.fm_proc_simulation.proofs.Context.{goes_on_alike}
use Rattle.fm_proc_simulation.proofs.Owned.{once_here}

-- ---- costs

words_back : (mine theirs : List Variable) (bs : List MeanBack) → back_words (map (code_back mine theirs) bs) ≡ mean_calls.back_words bs
words_back mine theirs [] = refl
words_back mine theirs (b ∷ bs) = ap (λ n. b.place.count + n) (words_back mine theirs bs)

words_of_kids : (p : Program) (mine : List Variable) (kids : List mean.Kid) (cs : List Kid) → KidsStand p mine kids cs → code.joining_words cs ≡ mean_steps.joining_words kids
words_of_kids p mine [] [] stand = refl
words_of_kids p mine [] (c ∷ cs) stand = absurd stand
words_of_kids p mine (k ∷ ks) [] stand = absurd stand
words_of_kids p mine (k ∷ ks) (c ∷ cs) stand =
    ap (λ n. n + code.joining_words cs) (ap back_words stand.0.backs.same ∙ words_back mine stand.0.unit.names.variables k.backs)
    ∙ ap (λ n. mean_calls.back_words k.backs + n) (words_of_kids p mine ks cs stand.1)

pub as_many_kids : (p : Program) (mine : List Variable) (kids : List mean.Kid) (cs : List Kid) → KidsStand p mine kids cs → length cs ≡ length kids
as_many_kids p mine [] [] stand = refl
as_many_kids p mine [] (c ∷ cs) stand = absurd stand
as_many_kids p mine (k ∷ ks) [] stand = absurd stand
as_many_kids p mine (k ∷ ks) (c ∷ cs) stand = ap suc (as_many_kids p mine ks cs stand.1)

-- ---- the words of a child

tells_ports : (p : Program) (b : Body) → b.code ≡ code_of p → TellsPorts p b
tells_ports p b loaded n u there = ap code_statements.ports_of (unit_found p b loaded n u there)

-- the frames below hold what they do in the meaning
below_held : (p : Program) (slots : Slots) (b : Body) → TellsPorts p b → (f : mean.Frame) (m : Frame) (fs : List mean.Frame) (ms : List Frame) → BelowStand p (statement_address p) (port_in slots) f m fs ms
    → map (port_in slots) (flat_map (frame_words b) ms) ≡ frames_ports fs
below_held p slots b tells f m [] [] stand = refl
below_held p slots b tells f m [] (n ∷ ms) stand = absurd stand
below_held p slots b tells f m (g ∷ fs) [] stand = absurd stand
below_held p slots b tells f m (g ∷ fs) (n ∷ ms) stand = frames_held p (statement_address p) (port_in slots) b tells _ g n fs ms stand.0 stand.3

module _
    (p : Program) (slots : Slots) (b : Body) (loaded : b.code ≡ code_of p) (begin : ProgramUnit → ℕ) (f : mean.Frame) (fs : List mean.Frame) (first : FrameStands p (port_in slots) begin f b.frame)
    (others_stand : BelowStand p (statement_address p) (port_in slots) f b.frame fs b.below) where
  abbrev theirs : ProgramUnit
  theirs = first.unit

  abbrev tv : List Variable
  tv = theirs.names.variables

  abbrev its : Held
  its = record { words = b.frame.words; slots = slots }

  ports_told : code_statements.ports_of (code_statements.unit_at b b.frame.unit) ≡ ports_of tv
  ports_told = tells_ports p b loaded b.frame.unit theirs (ap (unit_at p) first.number ∙ first.there)

  -- the port words of its variables, and the others
  words_parted : (ws : List ℤ) → left_ports b ws ++ flat_map (frame_words b) b.below ≡ ports_in (ports_of tv) ws ++ other_words b
  words_parted ws =
      append_assoc (ports_in (code_statements.ports_of (code_statements.unit_at b b.frame.unit)) ws) (start_ports b b.frame.starts) (flat_map (frame_words b) b.below)
      ∙ ap (λ spans. ports_in spans ws ++ other_words b) ports_told

  its_held : IsSlots slots → AllIn (IsHeld slots) (body_words b) → AreOnce (body_words b) → HeldStands tv (other_words b) its f.values
  its_held is held once = record {
    values = first.stands.values;
    slots = is;
    held = subst (AllIn (IsHeld slots)) (words_parted b.frame.words) held;
    once = subst AreOnce (words_parted b.frame.words) once;
  }

  -- its starts and the frames below hold what they do in the meaning
  others_held : map (port_in slots) (other_words b) ≡ started_ports f.starts ++ frames_ports fs
  others_held =
      map-append (port_in slots) (start_ports b b.frame.starts) (flat_map (frame_words b) b.below)
      ∙ ap (λ l. l ++ map (port_in slots) (flat_map (frame_words b) b.below)) (started_alike p (port_in slots) b (tells_ports p b loaded) tv f.starts b.frame.starts first.starts)
      ∙ ap (λ l. started_ports f.starts ++ l) (below_held p slots b (tells_ports p b loaded) f b.frame fs b.below others_stand)

  -- what is left of it after giving back
  left_alike : (h : Held) (ys : List Item) → GoesTo tv (other_words b) its h ys
      → vacated h.slots (left_ports b h.words ++ flat_map (frame_words b) b.below) ≡ message_ports ys ++ (started_ports f.starts ++ frames_ports fs)
  left_alike h ys goes =
      ap (vacated h.slots) (words_parted h.words)
      ∙ vacated_held h.slots (ports_in (ports_of tv) h.words ++ other_words b) goes.stands.held goes.stands.once
      ∙ map-append (port_in h.slots) (ports_in (ports_of tv) h.words) (other_words b)
      ∙ ap (λ l. l ++ map (port_in h.slots) (other_words b)) (rest_alike theirs (other_words b) h ys goes.stands)
      ∙ ap (λ l. message_ports ys ++ l) (maps_same (other_words b) slots h.slots goes.same ∙ others_held)

-- ---- what children give back

module _ (p : Program) (mine : ProgramUnit) (sound : IsSoundUnit mine) (others : List ℤ) (h : Held) (sized : length h.words ≡ mine.names.words) where
  abbrev mv : List Variable
  mv = mine.names.variables

  -- the parent's frame, which began as this one, goes to what it is in the meaning, and the same ports were let go
  record GivesTo (j : Joined) (r : Returned) : Type 0 where
    pub goes : GoesTo mv others h j.mine r.mine
    pub drops : j.drops ≡ r.drops

  -- what a child gives back, if it is of a unit which is this one
  abbrev BacksOf : mean.Kid → Kid → Type 0
  BacksOf k c = (u : ProgramUnit) → unit_at p k.unit ≡ Some u → BacksStand mv u.names.variables k.backs c.backs

  backs_of : (k : mean.Kid) (c : Kid) → KidStands p mv k c → BacksOf k c
  backs_of k c stands u there =
      subst (λ (v : ProgramUnit). BacksStand mv v.names.variables k.backs c.backs) (same_Some stands.unit u (sym stands.there ∙ there)) stands.backs

  -- a child beyond those that are known gives nothing back
  no_backs : BacksOf (record { unit = 0; backs = [] }) (record { unit = 0; backs = [] })
  no_backs u there = record { same = refl; whole = tt }

  module _ (theirs : ProgramUnit) (their_sound : IsSoundUnit theirs) (their_others : List ℤ) (k : Held) (ys : List Item) (their_size : length k.words ≡ theirs.names.words)
      (stands : HeldStands theirs.names.variables their_others k ys) (j : Joined) (r : Returned) (so_far : GivesTo j r) where
    abbrev Gives : Joined → Returned → Type 0
    Gives = JoinsAlike mv theirs.names.variables others their_others j.mine k

    gives : (bs : List MeanBack) (cs : List Back) → BacksStand mv theirs.names.variables bs cs
        → Gives (code.given_back true (record j { theirs = k }) cs) (mean_steps.given_back true (record r { theirs = ys }) bs)
    gives bs cs backs =
        subst (λ l. Gives (code.given_back true (record j { theirs = k }) l) (mean_steps.given_back true (record r { theirs = ys }) bs)) (sym backs.same)
        (subst (λ l. Gives (code.given_back true (record { mine = j.mine; theirs = k; drops = l }) (map (code_back mv theirs.names.variables) bs)) (mean_steps.given_back true (record r { theirs = ys }) bs)) (sym so_far.drops)
        (all_given_alike mine theirs sound their_sound others their_others j.mine k r.mine ys (so_far.goes.count ∙ sized) their_size so_far.goes.stands stands bs backs.whole r.drops))

    gives_nothing : (bs : List MeanBack) (cs : List Back) → Gives (code.given_back false (record j { theirs = k }) cs) (mean_steps.given_back false (record r { theirs = ys }) bs)
    gives_nothing bs cs = record {
      mine = goes_nowhere mv others j.mine r.mine so_far.goes.stands;
      theirs = goes_nowhere theirs.names.variables their_others k ys stands;
      drops = so_far.drops;
    }

    gives_if : (same : Bool) (bs : List MeanBack) (cs : List Back) → (same ≡ true → BacksStand mv theirs.names.variables bs cs)
        → Gives (code.given_back same (record j { theirs = k }) cs) (mean_steps.given_back same (record r { theirs = ys }) bs)
    gives_if true bs cs backs = gives bs cs (backs refl)
    gives_if false bs cs backs = gives_nothing bs cs

  -- what it gives back, and then what it still has
  body_gives : (j : Joined) (r : Returned) → GivesTo j r → (k : mean.Kid) (c : Kid) → c.unit ≡ k.unit → BacksOf k c → (slots : Slots) (b : Body) → b.code ≡ code_of p → (begin : ProgramUnit → ℕ)
      → (f : mean.Frame) (fs : List mean.Frame) → FrameStands p (port_in slots) begin f b.frame → BelowStand p (statement_address p) (port_in slots) f b.frame fs b.below
      → IsSlots slots → AllIn (IsHeld slots) (body_words b) → AreOnce (body_words b) → GivesTo (code.kid_back j c slots (Some b)) (mean_steps.kid_back r k (f ∷ fs))
  body_gives j r so_far k c number backs slots b loaded begin f fs first below is held once =
      let theirs : ProgramUnit = first.unit in
      let its : Held = record { words = b.frame.words; slots = slots } in
      let stands : HeldStands theirs.names.variables (other_words b) its f.values = its_held p slots b loaded begin f fs first below is held once in
      let given : Bool → Joined = λ t. code.given_back t (record j { theirs = its }) c.backs in
      let meant : Bool → Returned = λ t. mean_steps.given_back t (record r { theirs = f.values }) k.backs in
      let same : Bool = f.unit == k.unit in
      let ours : JoinsAlike mv theirs.names.variables others (other_words b) j.mine its (given same) (meant same) =
      gives_if theirs (sound_unit p f.unit theirs first.there) (other_words b) its f.values first.stands.sized stands j r so_far same k.backs c.backs
      (λ e. backs theirs (ap (unit_at p) (sym (eqb-true f.unit k.unit e)) ∙ first.there)) in
      let numbers : same ≡ (b.frame.unit == c.unit) = λ i. sym first.number i == sym number i in
      subst (λ t. GivesTo (code.rest_dropped b (given t)) (mean_steps.kid_back r k (f ∷ fs))) numbers
      (record {
        goes = goes_on mv others h j.mine (given same).mine r.mine (meant same).mine so_far.goes ours.mine;
        drops = (λ i. ours.drops i ++ left_alike p slots b loaded begin f fs first below (given same).theirs (meant same).theirs ours.theirs i)
            ∙ sym (append_assoc (meant same).drops (message_ports (meant same).theirs) (started_ports f.starts ++ frames_ports fs));
      })

  -- All children.

  child_gives : (j : Joined) (r : Returned) → GivesTo j r → (k : mean.Kid) (c : Kid) → c.unit ≡ k.unit → BacksOf k c → (slots : Slots) → IsSlots slots → (w : Proc) → ((z : PortValue) → count z (held w) ≤ 1)
      → (o : Option Body) → BodyAlike p slots w o → GivesTo (code.kid_back j c slots o) (mean_steps.kid_back r k w.execution.frames)
  child_gives j r so_far k c number backs slots is w single None none = subst (λ fs. GivesTo j (mean_steps.kid_back r k fs)) (sym none) so_far
  child_gives j r so_far k c number backs slots is w single (Some b) stands =
      subst (λ fs. GivesTo (code.kid_back j c slots (Some b)) (mean_steps.kid_back r k fs)) (sym stands.frames)
      (body_gives j r so_far k c number backs slots b stands.loaded _ stands.frame stands.below stands.first stands.others is stands.held (once_here p slots w b stands single))

  abbrev IsSingle : Proc → Type 0
  IsSingle w = (z : PortValue) → count z (held w) ≤ 1

  children_give : (zs : List CodeProc) (ws : List Proc) → Pairwise (Corresponds p) zs ws → AllIn IsSingle ws → (kids : List mean.Kid) (cs : List Kid) → KidsStand p mv kids cs
      → (j : Joined) (r : Returned) → GivesTo j r → GivesTo (code.kids_back j cs zs) (mean_steps.kids_back r kids ws)
  children_give [] [] pairs single kids cs stand j r so_far = so_far
  children_give [] (w ∷ ws) pairs single kids cs stand j r so_far = absurd pairs
  children_give (z ∷ zs) [] pairs single kids cs stand j r so_far = absurd pairs
  children_give (z ∷ zs) (w ∷ ws) pairs single [] [] stand j r so_far =
      children_give zs ws pairs.1 single.1 [] [] stand
      (code.kid_back j (record { unit = 0; backs = [] }) z.slots z.body) (mean_steps.kid_back r (record { unit = 0; backs = [] }) w.execution.frames)
      (child_gives j r so_far (record { unit = 0; backs = [] }) (record { unit = 0; backs = [] }) refl no_backs z.slots pairs.0.slots w single.0 z.body pairs.0.body)
  children_give (z ∷ zs) (w ∷ ws) pairs single [] (c ∷ cs) stand j r so_far = absurd stand
  children_give (z ∷ zs) (w ∷ ws) pairs single (k ∷ ks) [] stand j r so_far = absurd stand
  children_give (z ∷ zs) (w ∷ ws) pairs single (k ∷ ks) (c ∷ cs) stand j r so_far =
      children_give zs ws pairs.1 single.1 ks cs stand.1
      (code.kid_back j c z.slots z.body) (mean_steps.kid_back r k w.execution.frames)
      (child_gives j r so_far k c stand.0.number (backs_of k c stand.0) z.slots pairs.0.slots w single.0 z.body pairs.0.body)

-- ---- the law

abbrev pub FineAndSingle : Program → Types → Proc → Type 0
FineAndSingle p types z = IsFine p types z × ((w : PortValue) → count w (held z) ≤ 1)

singles : (p : Program) (types : Types) (zs : List Proc) → AllIn (FineAndSingle p types) zs → AllIn (λ z. (w : PortValue) → count w (held z) ≤ 1) zs
singles p types [] all = tt
singles p types (z ∷ zs) all = (all.0.1, singles p types zs all.1)

-- a process joins the children of its block as in the meaning
pub joins_alike : (p : Program) (types : Types) (y : CodeProc) (x : Proc) (b : Body) (h : Here p types y x b) → (block : ℕ) (kids : List mean.Kid) (cs : List Kid)
    → x.phase ≡ Joining block kids → y.phase ≡ code.Joining block cs → KidsStand p h.stands.first.unit.names.variables kids cs
    → (next entry : ℕ) → next ≡ address_of p h.stands.first.unit entry
    → (Comes : Place → Need → Reply Proc → Type 0) (q : Place) → ((r : Reply Proc) → Comes q (Children block (length kids)) r → AllIn (FineAndSingle p types) r.children)
    → AsksCorrespond (Corresponds p) Comes q (joins_by y b block cs (ask.Join next)) (ask_at p x h.stands.below h.stands.frame (Join block kids entry))
joins_alike p types y x b h block kids cs joining joins stand next entry leads Comes q known = (ap (Children block) (as_many_kids p vs kids cs stand), goes)
  where
    vs : List Variable
    vs = h.stands.first.unit.names.variables

    begin : Joined
    begin = record { mine = holding y b; theirs = record { words = []; slots = no_slots }; drops = [] }

    meant : Returned
    meant = record { mine = h.stands.frame.values; theirs = []; drops = [] }

    stands : HeldStands vs (other_words b) (holding y b) h.stands.frame.values
    stands = its_held p y.slots b h.stands.loaded _ h.stands.frame h.stands.below h.stands.first h.stands.others h.slots h.held h.once

    goes : (u : Reply CodeProc) (r : Reply Proc) → Comes q (Children block (length kids)) r → RepliesCorrespond (Corresponds p) u r
        → OnwardsCorrespond (Corresponds p) (code.joined y b next cs u.children) (mean_steps.joined x h.stands.below h.stands.frame entry kids r.children)
    goes u r comes alike =
        let mine : ProgramUnit = h.stands.first.unit in
        let all = children_give p mine (sound_unit p h.stands.frame.unit mine h.stands.first.there) (other_words b) (holding y b) h.stands.first.stands.sized
        u.children r.children alike.children (singles p types r.children (known r comes)) kids cs stand begin meant
        (record { goes = goes_nowhere vs (other_words b) (holding y b) h.stands.frame.values stands; drops = refl }) in
        record {
          self = goes_on_alike p types y x b h (code.kids_back begin cs u.children).mine (mean_steps.kids_back meant kids r.children).mine all.goes next entry leads;
          block = h.next_block;
          starts = tt;
          drops = all.drops;
          cost = ap (λ n. 1 + n) (words_of_kids p vs kids cs stand);
        }

-- the same of what the process asks for by its action
pub joins_asked_alike : (p : Program) (types : Types) (y : CodeProc) (x : Proc) (b : Body) (h : Here p types y x b) → (block : ℕ) (kids : List mean.Kid) (cs : List Kid)
    → x.phase ≡ Joining block kids → y.phase ≡ code.Joining block cs → KidsStand p h.stands.first.unit.names.variables kids cs
    → (next entry : ℕ) → next ≡ address_of p h.stands.first.unit entry
    → (Comes : Place → Need → Reply Proc → Type 0) (q : Place) → ((r : Reply Proc) → Comes q (Children block (length kids)) r → AllIn (FineAndSingle p types) r.children)
    → AsksCorrespond (Corresponds p) Comes q (joins_by y b block cs (ask.Join next)) (ask_for p x (Meets (Join block kids entry)))
joins_asked_alike p types y x b h block kids cs joining joins stand next entry leads Comes q known =
    subst (λ fs. AsksCorrespond (Corresponds p) Comes q (joins_by y b block cs (ask.Join next)) (ask_event p x (Join block kids entry) fs)) (sym h.stands.frames)
    (joins_alike p types y x b h block kids cs joining joins stand next entry leads Comes q known)
