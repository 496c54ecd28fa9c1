-- Where its processes are good, the language of stack code is lawful.
use Rattle.std.proofs.Common.{◌≡◌, ℕ, ◌+◌, ℤ, true, Option, Some, None, List, [], ◌∷◌, ◌++◌, length, map, refl, ap, ◌∙◌, arith}
use Rattle.std.specs.List.{AllByRecursion}
use Rattle.fm_base.specs.declared.port.PortValue.{PortValue}
use Rattle.fm_code.specs.declared.ask.Ask as code_ask
use Rattle.fm_code.specs.declared.ask.Ask.TheVariants as ask
use Rattle.fm_code.specs.declared.body.Body.{Body}
use Rattle.fm_code.specs.declared.body.Frame.{Frame}
use Rattle.fm_code.specs.declared.body.Start.{Start}
use Rattle.fm_code.specs.Statements as code
use Rattle.fm_code.specs.Statements.{action_of}
use Rattle.fm_code_kinds.specs.declared.sorts.Shapes.{Shapes}
use Rattle.fm_code_kinds.specs.Bodies.{coded}
use Rattle.fm_net.specs.Machine.{Nothing, Children, Stop}
use Rattle.fm_net.specs.Lawful.{holds, sum_of}
use Rattle.fm_net.specs.Owned.{count}
use Rattle.fm_net.specs.Typed.{AllIn}
use Rattle.fm_net.proofs.Counts.{count-append, count-nil}
use Rattle.fm_net_invariant.specs.Good.{IsGoodAsk, IsGoodStep, IsLawfulWhere}
use Rattle.fm_code_preserves.specs.Rooms.{cells_at, is_port_word}
use Rattle.fm_code_preserves.specs.Standing.{BodyStands, HasWords, StartFits}
use Rattle.fm_code_preserves.specs.Endings.{AsksFine, Begins}
use Rattle.fm_code_preserves.specs.Weights.{body_ports}
use Rattle.fm_code_preserves.proofs.Keeps.{asks_fine, below_same, frame_in, frames_in, frame_parts, mine_parts, standing_at, starts_in}
use Rattle.fm_code_preserves.proofs.Masks.{weight-append}
use Rattle.fm_proc_language.specs.Slots.{all_drained, no_slots, vacated}
use Rattle.fm_proc_language.specs.Frames.{Joined}
use Rattle.fm_proc_language.specs.Processes.{CodeProc, Ended, Faulted, Joining, Kid, Phase, Running, asks, asks_by, began, children_of, code_language, ended, ended_frame, has_ended, holding, is_ended, joined, joining_by, joins_by, kid_of, kids_back, running_by, runs_by}
use Rattle.fm_proc_invariant.specs.Moves.{Moves}
use Rattle.fm_proc_invariant.specs.Held.{HeldMoves, UsedBy, with_others}
use Rattle.fm_proc_invariant.proofs.Slots.{all_drain, moves_like, stays_so, then_moves}
use Rattle.fm_proc_invariant.proofs.Exchange.{others_weigh}
use Rattle.fm_proc_invariant.specs.Good.{BodyIsGood, HasGoodBody, IsGood, KidFits}
use Rattle.fm_proc_invariant.proofs.Steps.{emptied_holds, good_body, holds_weighs, quiet_step}
use Rattle.fm_proc_invariant.proofs.Going.{after_with, goes_on_good, goes_on_moves, mask, others, used_frame}
use Rattle.fm_proc_invariant.proofs.Running.{channel_step, fault_step, merger_step, none_got, none_in, own, probe_step, receive_step, send_step}
use Rattle.fm_proc_invariant.proofs.Beginning.{ChildrenOver, children_over}
use Rattle.fm_proc_invariant.proofs.Joining.{ComesBack, kids_over}
use Rattle.fm_proc_invariant.proofs.Ending.{EndsSo, below_words, ends_so}

-- ---- a block begins

module _ (ss : Shapes) (y : CodeProc) (b : Body) (phase_is : y.phase ≡ Running) (body_is : y.body ≡ Some b) (good : BodyIsGood ss Running y.slots b) where
  abbrev stands : BodyStands ss b
  stands = good.fits

  abbrev m : Frame
  m = b.frame

  abbrev begun : ℕ → Body
  begun next = record b { frame = record m { starts = []; address = next } }

  -- the words that stay, behind those of the starts
  abbrev staying : List ℤ
  staying = with_others (is_port_word (cells_at ss m.unit)) m.words (frames_in b.code b.below)

  starts_first : Moves y.slots (body_ports b) y.slots (starts_in b.code m.starts ++ staying) [] []
  starts_first = stays_so y.slots (body_ports b) (starts_in b.code m.starts ++ staying)
      (λ g. omega (
        arith,
        weight-append g (starts_in b.code m.starts) staying,
        others_weigh (is_port_word (cells_at ss m.unit)) m.words (frames_in b.code b.below) g,
        weight-append g (frame_in b.code m) (frames_in b.code b.below),
        frame_parts ss b stands m stands.words g,
      ))

  over : ChildrenOver ss b stands.code m.unit m.starts y.slots staying
  over = children_over ss b stands.code m.unit m.starts y.slots staying stands.words.starts (starts_first.used good.used)

  module _ (next : ℕ) (begins : Begins (coded stands.frame.own) stands.frame.lists next) where
    begun_words : HasWords ss (record m { starts = []; address = next })
    begun_words = record { unit = stands.words.unit; there = stands.words.there; words = stands.words.words; starts = tt }

    begun_stands : BodyStands ss (begun next)
    begun_stands = record {
      code = stands.code;
      frame = standing_at ss b.code 0 m stands.frame (record m { starts = []; address = next }) refl refl next refl begins 0;
      words = begun_words;
      below = below_same ss b.code m (record m { starts = []; address = next }) refl refl b.below stands.below;
    }

    last : Moves (children_of b y.slots m.starts).1 staying (children_of b y.slots m.starts).1 (body_ports (begun next)) [] []
    last = stays_so (children_of b y.slots m.starts).1 staying (body_ports (begun next))
        (λ g. omega (
          arith,
          others_weigh (is_port_word (cells_at ss m.unit)) m.words (frames_in b.code b.below) g,
          weight-append g (frame_in b.code (record m { starts = []; address = next })) (frames_in b.code b.below),
          mine_parts ss b stands (record m { starts = []; address = next }) begun_words refl g,
        ))

    whole : Moves y.slots (body_ports b) (children_of b y.slots m.starts).1 (body_ports (begun next)) [] over.outs
    whole = moves_like (then_moves starts_first (then_moves over.moves last)) (λ z. refl) (λ z. omega (arith, count-append z over.outs [], count-nil z))

    kids_fit : (starts : List Start) → AllByRecursion (StartFits ss m.unit) starts → AllByRecursion (KidFits ss m.unit) (map kid_of starts)
    kids_fit [] all = tt
    kids_fit (s ∷ starts) all = (record { backs = all.0.backs }, kids_fit starts all.1)

    pub begin_step : IsGoodStep code_language (IsGood ss) y Nothing (λ c r. began y b next)
    begin_step = record {
      uses = tt;
      numbered = tt;
      block_is = λ c r. refl;
      later_block = λ c r. omega arith;
      passed_block = λ c r h. omega arith;
      later_channel = λ c r. omega arith;
      passed_channel = λ c r n k e. absurd (cc);
      costs = λ c r. omega arith;
      stays_good = λ c r all served. (
        good_body ss (began y b next).self (Joining y.next_block (map kid_of m.starts)) (children_of b y.slots m.starts).1 (begun next) refl refl refl
            (record { laid = stands.code; words = begun_words; fits = (begun_stands, kids_fit m.starts stands.words.starts); used = whole.used good.used }),
        over.good,
      );
      account = λ c r all served may x. omega (
        arith,
        whole.same good.used x,
        over.held x,
        holds_weighs (began y b next).self (begun next) refl x,
        holds_weighs y b body_is x,
        none_got x r.message may.0,
        none_in (holds code_language x) r.children may.1,
        emptied_holds x r.children,
        count-nil x,
      );
    }

  -- ---- the process ends

  abbrev last_frame : Frame × List ℤ
  last_frame = ended_frame b m b.below

  so : EndsSo ss b stands.code m b.below last_frame
  so = ends_so ss b stands.code b.below m stands.words (below_words ss b stands.code m b.below stands.below)

  abbrev closed : Body
  closed = record b { frame = last_frame.0; below = [] }

  leaves : Moves y.slots (body_ports b) (all_drained y.slots last_frame.1) (body_ports closed) [] (vacated y.slots last_frame.1)
  leaves = all_drain y.slots last_frame.1 (body_ports b) (body_ports closed)
      (λ g. omega (arith, so.weighs g, weight-append g (frame_in b.code m) (frames_in b.code b.below), weight-append g (frame_in b.code last_frame.0) [])) good.used

  pub end_step : IsGoodStep code_language (IsGood ss) y Nothing (λ c r. ended y b)
  end_step =
      quiet_step ss y Nothing (λ c r. ended y b) tt tt
      (λ c r. record { block = refl; next_block = refl; next_channel = refl; starts = refl; cost = omega arith })
      (λ c r all served. good_body ss (ended y b).self Ended (all_drained y.slots last_frame.1) closed refl refl refl (record { laid = stands.code; words = so.words; fits = refl; used = leaves.used good.used }))
      (λ c r all served may x. omega (
        arith,
        leaves.same good.used x,
        holds_weighs (ended y b).self closed refl x,
        holds_weighs y b body_is x,
        none_got x r.message may.0,
        none_in (holds code_language x) r.children may.1,
        count-nil x,
      ))

  -- ---- all that a process does that runs

  meets_good : (k : code_ask.Ask) → AsksFine stands.frame.unit (coded stands.frame.own) stands.frame.lists m k → IsGoodAsk code_language (IsGood ss) y (runs_by y b k)
  meets_good (ask.Fail line fault) f = fault_step ss y b phase_is body_is good line.0 fault
  meets_good (ask.LetGo drops) f = tt
  meets_good (ask.Channel i o next) f = channel_step ss y b phase_is body_is good i o next f.0 f.1 f.2
  meets_good (ask.Merger i os next) f = merger_step ss y b phase_is body_is good i os next f.0 f.1 f.2
  meets_good (ask.Send slot items next) f = send_step ss y b phase_is body_is good slot items next f.0 f.1 f.2
  meets_good (ask.Receive slot items status at_end next) f = receive_step ss y b phase_is body_is good next items status at_end f.1 f.2 f.3 f.4 slot f.0
  meets_good (ask.Probe slot empty next) f = probe_step ss y b phase_is body_is good slot empty next f.0 f.1 f.2
  meets_good (ask.Begin next) f = begin_step next f
  meets_good (ask.Join next) f = tt
  meets_good ask.End f = end_step

  pub runs_good : IsGoodAsk code_language (IsGood ss) y (running_by y b (action_of b))
  runs_good = go (action_of b) refl
    where
      go : (a : code.Action) → action_of b ≡ a → IsGoodAsk code_language (IsGood ss) y (running_by y b a)
      go code.Stuck e = tt
      go (code.Own after lines drops cost) e = own ss y b phase_is body_is good after lines drops cost e
      go (code.Meets k) e = meets_good k (asks_fine ss b stands k e)

-- ---- one that joins

module _ (ss : Shapes) (y : CodeProc) (b : Body) (block : ℕ) (kids : List Kid) (phase_is : y.phase ≡ Joining block kids) (body_is : y.body ≡ Some b) (good : BodyIsGood ss (Joining block kids) y.slots b) where
  abbrev standing : BodyStands ss b
  standing = good.fits.0

  abbrev first : Joined
  first = record { mine = holding y b; theirs = record { words = []; slots = no_slots }; drops = [] }

  mine_used : UsedBy (mask ss b standing) (others ss b standing) (holding y b)
  mine_used = used_frame ss b standing y.slots good.used

  back : (zs : List CodeProc) → AllIn (IsGood ss) zs → ComesBack ss b.frame.unit standing.frame.unit (standing.code.typed.within b.frame.unit standing.frame.unit standing.frame.there) standing.frame.there (others ss b standing) first (kids_back first kids zs) (λ x. sum_of (holds code_language x) zs)
  back zs all = kids_over ss b.frame.unit standing.frame.unit (standing.code.typed.within b.frame.unit standing.frame.unit standing.frame.there) standing.frame.there (others ss b standing) zs kids first good.fits.1 all mine_used standing.words.words

  moved : (zs : List CodeProc) (all : AllIn (IsGood ss) zs) (ins : List PortValue) → ((x : PortValue) → count x ins ≡ sum_of (holds code_language x) zs)
      → HeldMoves (mask ss b standing) (others ss b standing) (holding y b) (kids_back first kids zs).mine ins (kids_back first kids zs).drops
  moved zs all ins same = record {
    moves = record { used = λ used. (back zs all).used; same = λ used x. omega (arith, (back zs all).same x, same x, count-nil x) };
    count = (back zs all).same_count;
  }

  -- the ports of all children
  all_held : List CodeProc → List PortValue
  all_held [] = []
  all_held (z ∷ zs) = code_language.held z ++ all_held zs

  held_all : (zs : List CodeProc) (x : PortValue) → count x (all_held zs) ≡ sum_of (holds code_language x) zs
  unfolding all_held
  held_all [] x = count-nil x
  held_all (z ∷ zs) x = count-append x (code_language.held z) (all_held zs) ∙ ap (λ n. holds code_language x z + n) (held_all zs x)

  join_step : (next : ℕ) → Begins (coded standing.frame.own) standing.frame.lists next → IsGoodStep code_language (IsGood ss) y (Children block (length kids)) (λ c r. joined y b next kids r.children)
  join_step next begins =
      quiet_step ss y (Children block (length kids)) (λ c r. joined y b next kids r.children) tt tt
      (λ c r. record { block = refl; next_block = refl; next_channel = refl; starts = refl; cost = omega arith })
      (λ c r all served.
      good_body ss (joined y b next kids r.children).self Running (kids_back first kids r.children).mine.slots (after_with ss b standing next (kids_back first kids r.children).mine) refl refl refl
      (goes_on_good ss b standing y.slots good.used next begins (kids_back first kids r.children).mine (all_held r.children) (kids_back first kids r.children).drops (moved r.children all (all_held r.children) (held_all r.children))))
      (λ c r all served may x.
      let moves = goes_on_moves ss b standing y.slots good.used next begins (kids_back first kids r.children).mine (all_held r.children) (kids_back first kids r.children).drops (moved r.children all (all_held r.children) (held_all r.children)) in
      omega (
        arith,
        moves.same good.used x,
        holds_weighs (joined y b next kids r.children).self (after_with ss b standing next (kids_back first kids r.children).mine) refl x,
        holds_weighs y b body_is x,
        held_all r.children x,
        none_got x r.message may,
        count-nil x,
      ))

  joins_good : (k : code_ask.Ask) → AsksFine standing.frame.unit (coded standing.frame.own) standing.frame.lists b.frame k → IsGoodAsk code_language (IsGood ss) y (joins_by y b block kids k)
  joins_good (ask.Fail line fault) f = tt
  joins_good (ask.LetGo drops) f = tt
  joins_good (ask.Channel i o next) f = tt
  joins_good (ask.Merger i os next) f = tt
  joins_good (ask.Send slot items next) f = tt
  joins_good (ask.Receive slot items status at_end next) f = tt
  joins_good (ask.Probe slot empty next) f = tt
  joins_good (ask.Begin next) f = tt
  joins_good (ask.Join next) f = join_step next f
  joins_good ask.End f = tt

  pub joining_good : IsGoodAsk code_language (IsGood ss) y (joining_by y b block kids (action_of b))
  joining_good = go (action_of b) refl
    where
      go : (a : code.Action) → action_of b ≡ a → IsGoodAsk code_language (IsGood ss) y (joining_by y b block kids a)
      go code.Stuck e = tt
      go (code.Own after lines drops cost) e = tt
      go (code.Meets k) e = joins_good k (asks_fine ss b standing k e)

-- ---- every process

module _ (ss : Shapes) where
  goes : (y : CodeProc) → IsGood ss y → IsGoodAsk code_language (IsGood ss) y (asks y)
  goes y good = go y.phase y.body refl refl good.body
    where
      go : (phase : Phase) (body : Option Body) → y.phase ≡ phase → y.body ≡ body → HasGoodBody ss phase y.slots body → IsGoodAsk code_language (IsGood ss) y (asks_by y phase body)
      go Running None e f h = tt
      go Running (Some b) e f h = runs_good ss y b e f h
      go (Joining block kids) None e f h = tt
      go (Joining block kids) (Some b) e f h = joining_good ss y b block kids e f h
      go Ended None e f h = tt
      go Ended (Some b) e f h = tt
      go (Faulted line fault) None e f h = tt
      go (Faulted line fault) (Some b) e f h = tt

  stops : (y : CodeProc) → has_ended y ≡ true → asks y ≡ Stop
  stops y done = go y.phase y.body done
    where
      go : (phase : Phase) (body : Option Body) → is_ended phase ≡ true → asks_by y phase body ≡ Stop
      go Running body h = absurd (cc)
      go (Joining block kids) body h = absurd (cc)
      go Ended None h = refl
      go Ended (Some b) h = refl
      go (Faulted line fault) body h = absurd (cc)

  pub lawful_where : IsLawfulWhere code_language (IsGood ss)
  lawful_where = record {
    stops = λ y good done. stops y done;
    stays_ended = λ y good done. done;
    same_block = λ y good. refl;
    same_channel = λ y good. refl;
    empties = λ y good. record { body = tt };
    goes = goes;
  }
