-- The end of a process, as the machine sees it.
use Rattle.std.proofs.Common.{◌≡◌, ℤ, Bool, true, false, cond, Some, List, [], ◌∷◌, ◌++◌, refl, sym, ap, ap₂, append-nil, ◌∙◌}
use Rattle.fm_base.specs.Channels.{Chans, all_shed}
use Rattle.fm_base.specs.declared.port.PortValue.{PortValue}
use Rattle.fm_code.specs.declared.ask.Ask.TheVariants as ask
use Rattle.fm_code.specs.declared.body.Body.{Body}
use Rattle.fm_code.specs.declared.body.Frame.{Frame}
use Rattle.fm_code.specs.declared.code.Code.{Code}
use Rattle.fm_code.specs.declared.code.Formal.{Formal}
use Rattle.fm_code.specs.declared.code.Span.{Span}
use Rattle.fm_code.specs.Acts.{span_of}
use Rattle.fm_code.specs.Passing.{live}
use Rattle.fm_machine_calls.specs.declared.looking.Look.TheVariants.{Asks}
use Rattle.fm_net.specs.Machine.{Place, Nothing, reply_with}
use Rattle.fm_proc_language.specs.Slots.{Slots, vacated}
use Rattle.fm_proc_language.specs.Frames.{is_kept, kept, nulled}
use Rattle.fm_proc_language.specs.Processes.{CodeProc, Ended, ended, ended_frame, frame_words}
use Rattle.fm_proc_events.specs.Discards.{all_discarded}
use Rattle.fm_proc_events.specs.Told.{look_of, is_running}
use Rattle.fm_proc_events.specs.Performs.{Performs}
use Rattle.fm_proc_events.proofs.Asked.{asks_running}
use Rattle.fm_proc_events.proofs.Discards.{all_discarded-append, discarded_first, discarded_none}
use Rattle.fm_procs.specs.Rooms.{words_by}

-- What stays of the words of a frame, span by span.

abbrev emptied : (fs : List Formal) (s : Span) (ss : List Span) (ws : List ℤ) → List ℤ × List ℤ
emptied fs s ss ws = ((kept fs ss (nulled ws s)).0, live (span_of ws s) ++ (kept fs ss (nulled ws s)).1)

one_kept : (b : Bool) (fs : List Formal) (s : Span) (ss : List Span) (ws : List ℤ) → is_kept fs s ≡ b → kept fs (s ∷ ss) ws ≡ cond {A = List ℤ × List ℤ} b (kept fs ss ws) (emptied fs s ss ws)
one_kept b fs s ss ws e = ap (λ (x : Bool). cond {A = List ℤ × List ℤ} x (kept fs ss ws) (emptied fs s ss ws)) e

-- the words of a span, and the rest
record SpanFirst (b : Bool) (fs : List Formal) (s : Span) (ss : List Span) (ws ws' : List ℤ) : Type 0 where
  keeps : (kept fs (s ∷ ss) ws).0 ≡ (kept fs ss ws').0
  gives : (kept fs (s ∷ ss) ws).1 ≡ cond {A = List ℤ} b [] (live (span_of ws s)) ++ (kept fs ss ws').1

span_first : (b : Bool) (fs : List Formal) (s : Span) (ss : List Span) (ws ws' : List ℤ) → is_kept fs s ≡ b → ws' ≡ cond {A = List ℤ} b ws (nulled ws s) → SpanFirst b fs s ss ws ws'
span_first true fs s ss ws ws' e f = record {
  keeps = ap (λ (p : List ℤ × List ℤ). p.0) (one_kept true fs s ss ws e) ∙ ap (λ (w : List ℤ). (kept fs ss w).0) (sym f);
  gives = ap (λ (p : List ℤ × List ℤ). p.1) (one_kept true fs s ss ws e) ∙ ap (λ (w : List ℤ). (kept fs ss w).1) (sym f);
}
span_first false fs s ss ws ws' e f = record {
  keeps = ap (λ (p : List ℤ × List ℤ). p.0) (one_kept false fs s ss ws e) ∙ ap (λ (w : List ℤ). (kept fs ss w).0) (sym f);
  gives = ap (λ (p : List ℤ × List ℤ). p.1) (one_kept false fs s ss ws e) ∙ ap (λ (w : List ℤ). live (span_of ws s) ++ (kept fs ss w).1) (sym f);
}

-- what the rest of the spans gives is what all gave
pub record EndsOn (fs : List Formal) (ss : List Span) (ws : List ℤ) (slots : Slots) (cs : Chans) (words : List ℤ) (all : Slots × Chans) : Type 0 where
  pub keeps : (kept fs ss ws).0 ≡ words
  pub gone : all_discarded slots cs (kept fs ss ws).1 ≡ all

pub span_ended : (b : Bool) (fs : List Formal) (s : Span) (rest ss : List Span) (ws ws' words : List ℤ) (slots slots' : Slots) (cs cs' : Chans) (all : Slots × Chans) → rest ≡ s ∷ ss → b ≡ is_kept fs s → ws' ≡ cond {A = List ℤ} b ws (nulled ws s)
    → (slots', cs') ≡ all_discarded slots cs (cond {A = List ℤ} b [] (live (span_of ws s))) → (kept fs rest ws).0 ≡ words → all_discarded slots cs (kept fs rest ws).1 ≡ all → EndsOn fs ss ws' slots' cs' words all
span_ended b fs s rest ss ws ws' words slots slots' cs cs' all is e f done keeps gone =
    let first = span_first b fs s ss ws ws' (sym e) f in
    record {
      keeps = sym first.keeps ∙ ap (λ (l : List Span). (kept fs l ws).0) (sym is) ∙ keeps;
      gone = discarded_first (cond {A = List ℤ} b [] (live (span_of ws s))) (kept fs ss ws').1 (kept fs rest ws).1 slots slots' cs cs' all (ap (λ (l : List Span). (kept fs l ws).1) is ∙ first.gives) done gone;
    }

-- a span that stays
pub nothing_gone : (b : Bool) (s : Slots) (cs : Chans) (zs : List ℤ) → b ≡ true → (s, cs) ≡ all_discarded s cs (cond {A = List ℤ} b [] zs)
nothing_gone b s cs zs e = discarded_none (cond {A = List ℤ} b [] zs) s cs (all_discarded s cs (cond {A = List ℤ} b [] zs)) (ap (λ (x : Bool). cond {A = List ℤ} x [] zs) e) refl

-- where no span is left
pub spans_kept : (fs gs : List Formal) (rest ss ts : List Span) (ws all : List ℤ) → rest ≡ [] → fs ≡ gs → ss ≡ ts → (kept fs rest ws).0 ≡ (kept fs ss all).0 → ws ≡ (kept gs ts all).0
spans_kept fs gs rest ss ts ws all none e f so = ap (λ (l : List Span). (kept fs l ws).0) (sym none) ∙ so ∙ ap₂ (λ (l : List Formal) (m : List Span). (kept l m all).0) e f

pub spans_gone : (fs gs : List Formal) (rest ss ts : List Span) (ws all : List ℤ) (s t : Slots) (cs ds : Chans) → rest ≡ [] → fs ≡ gs → ss ≡ ts → all_discarded s cs (kept fs rest ws).1 ≡ all_discarded t ds (kept fs ss all).1
    → (s, cs) ≡ all_discarded t ds (kept gs ts all).1
spans_gone fs gs rest ss ts ws all s t cs ds none e f so =
    discarded_none (kept fs rest ws).1 s cs (all_discarded t ds (kept fs ss all).1) (ap (λ (l : List Span). (kept fs l ws).1) none) so
    ∙ ap₂ (λ (l : List Formal) (m : List Span). all_discarded t ds (kept l m all).1) e f

-- Frames.

-- the ports of a frame that ends are the first
pub frame_first : (b : Body) (code : Code) (m n : Frame) (rest below : List Frame) (s t : Slots) (cs ds : Chans) (all : Slots × Chans) → code ≡ b.code → below ≡ n ∷ rest → (t, ds) ≡ all_discarded s cs (words_by code m)
    → all_discarded s cs (ended_frame b m below).1 ≡ all → all_discarded t ds (ended_frame b n rest).1 ≡ all
frame_first b code m n rest below s t cs ds all same is done so =
    discarded_first (frame_words b m) (ended_frame b n rest).1 (ended_frame b m below).1 s t cs ds all (ap (λ (l : List Frame). (ended_frame b m l).1) is)
    (done ∙ ap (λ (c : Code). all_discarded s cs (words_by c m)) same) so

-- two lists of ports, one after the other
pub then_discarded : (ys zs : List ℤ) (s t r : Slots) (cs ds es : Chans) → (t, ds) ≡ all_discarded s cs ys → (r, es) ≡ all_discarded t ds zs → (r, es) ≡ all_discarded s cs (ys ++ zs)
then_discarded ys zs s t r cs ds es first then = then ∙ ap (λ (x : Slots × Chans). all_discarded x.0 x.1 zs) first ∙ sym (all_discarded-append ys zs s cs)

-- the body that is left
pub body_left : (b c : Body) → c ≡ record b { frame = c.frame; below = [] } → (ended_frame b c.frame []).0 ≡ (ended_frame b b.frame b.below).0
    → record c { frame = (ended_frame c c.frame []).0 } ≡ record b { frame = (ended_frame b b.frame b.below).0; below = [] }
body_left b c is so = ap (λ (x : Body). record x { frame = (ended_frame x c.frame []).0 }) is ∙ ap (λ (m : Frame). record b { frame = m; below = [] }) so

pub frame_gone : (b c : Body) → c ≡ record b { frame = c.frame; below = [] } → (ended_frame c c.frame []).1 ≡ (ended_frame b c.frame []).1
frame_gone b c is = ap (λ (x : Body). (ended_frame x c.frame []).1) is

-- The process.

pub ended_so : (p : Place) (y : CodeProc) (cs after : Chans) (b b' : Body) (slots : Slots) → look_of y ≡ Asks ask.End → is_running y ≡ true → y.body ≡ Some b → b' ≡ record b { frame = (ended_frame b b.frame b.below).0; below = [] }
    → (slots, after) ≡ all_discarded y.slots cs (ended_frame b b.frame b.below).1 → Performs p y cs (record y { phase = Ended; body = Some b'; slots = slots }) [] after 1
ended_so p y cs after b b' slots looks runs is e gone =
    let ports = (ended_frame b b.frame b.below).1 in
    record {
      need = Nothing;
      goes = λ c r. ended y b;
      asks_so = asks_running y b ask.End looks runs refl is;
      reply = reply_with [];
      comes = refl;
      on = record {
        self =
            ap (λ x. record y { phase = Ended; body = Some x; slots = slots }) e
            ∙ ap (λ (x : Slots × Chans). record y { phase = Ended; body = Some (record b { frame = (ended_frame b b.frame b.below).0; below = [] }); slots = x.0 }) gone;
        block = refl;
        starts_are = refl;
        chans = ap (λ (x : Slots × Chans). x.1) gone ∙ ap (λ (l : List PortValue). all_shed l cs) (sym (append-nil (vacated y.slots ports)));
        cost_is = refl;
      };
    }
