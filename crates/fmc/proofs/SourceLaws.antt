-- Replies whatever the bytes of a source are, and what is written of them.
use Rattle.std.proofs.Common.{◌≡◌, inl, inr, ℕ, suc, ◌<◌, Bool, true, false, List, [], length, refl, sym, ap, subst, ◌∙◌, arith}
use Rattle.std.specs.Prelude.{◌≢◌, Option, Some, None, is_none, IfSome, replicate, codes}
use Rattle.std.specs.Io.KnownBytes.{Appends}
use Rattle.std.proofs.lemmas.Bool.{false≢true}
use Rattle.std.proofs.lemmas.List.{length-replicate}
use Rattle.fm_base.specs.declared.schedule.Turn.{Turn}
use Rattle.fm_io.specs.Streams.{WritesFront}
use Rattle.fm_net.specs.Machine.{Place}
use Rattle.fm_make.specs.Made.{made_text}
use Rattle.fm_make.proofs.Short.{made_text_short}
use Rattle.fm_words.specs.declared.command.Command.{Command}
use Rattle.fm_words.specs.declared.command.Command.TheVariants as command
use Rattle.fmc.specs.declared.answer.Exit.{Exit}
use Rattle.fmc.specs.declared.answer.Exit.TheVariants.{Usage, ReadFault, WriteFault, NoMemory, TooLong}
use Rattle.fmc.specs.declared.answer.Reply.{Reply}
use Rattle.fmc.specs.Exits.{is_of_reading}
use Rattle.fmc.specs.Executes.{SaysExec}
use Rattle.fmc.specs.Outcomes.{IsUnplayed, usage_text}
use Rattle.fmc.specs.Plain.{PlainOrNot}
use Rattle.fmc.specs.Replay.{SaysReplay}
use Rattle.fmc.specs.Answer.{Answers, ForBytes, HasGround, Says, SaysRun, SaysNodes, SaysTold, TellsList, TellsDeterminism, TellsFlow, TellsObject, SaysOf, are_reading, is_reading, limit_of, report_asked, summary_asked, trace_asked}
use Rattle.fmc.specs.Decided.{IsDecidedBy}
use Rattle.fmc.specs.Reply.{bytes_of, places_in, IsReply, IsReplyFor, IsReplyOf}
use Rattle.fmc.proofs.AnswerLaws.{no_memory_apart, not_played, read_fault_apart, too_long_apart}
use Rattle.fmc.proofs.SaidLaws.{decided_by, no_read_fault, says_history}

-- what is said of a command that doesn't read is said whatever the source has
pub says_unread : (c : Command) (b other : List ℕ) (exit : Exit) (h : List Turn) (ps : List Place) (t : List ℕ) → is_reading c ≡ false → Says c b exit h ps t → Says c other exit h ps t
says_unread (command.Run setup vars) b other exit h ps t e k = absurd (false≢true (sym e))
says_unread (command.Trace setup) b other exit h ps t e k = absurd (false≢true (sym e))
says_unread (command.Replay vars) b other exit h ps t e k = absurd (false≢true (sym e))
says_unread command.Check b other exit h ps t e k = absurd (false≢true (sym e))
says_unread command.List b other exit h ps t e k = absurd (false≢true (sym e))
says_unread command.Flow b other exit h ps t e k = absurd (false≢true (sym e))
says_unread command.Compile b other exit h ps t e k = absurd (false≢true (sym e))
says_unread (command.Exec turns vars) b other exit h ps t e k = absurd (false≢true (sym e))
says_unread (command.Make number) b other exit h ps t e k = k
says_unread (command.Demo number setup) b other exit h ps t e k = k
says_unread (command.Nodes number setup vars) b other exit h ps t e k = absurd (false≢true (sym e))

-- want of memory says nothing of the bytes
pub no_memory_says : (o : Option Command) (b : List ℕ) (exit : Exit) (h : List Turn) (ps : List Place) (t : List ℕ) → is_none o ≡ false → exit ≡ NoMemory → IsUnplayed h ps t (codes "no memory\n") → SaysOf o b exit h ps t
no_memory_says None b exit h ps t c e u = absurd (false≢true (sym c))
no_memory_says (Some (command.Run setup vars)) b exit h ps t c e u = subst (λ (x : Exit). SaysRun (report_asked setup.turns vars []) b x h ps t) (sym e) u
no_memory_says (Some (command.Trace setup)) b exit h ps t c e u = (subst (λ (x : Exit). SaysRun (trace_asked setup.turns b) b x h ps t) (sym e) u, λ p. absurd (not_played NoMemory exit e no_memory_apart p))
no_memory_says (Some (command.Replay vars)) b exit h ps t c e u = subst (λ (x : Exit). SaysReplay vars b x h ps t) (sym e) u
no_memory_says (Some command.Check) b exit h ps t c e u = subst (λ (x : Exit). SaysTold TellsDeterminism b x h ps t) (sym e) u
no_memory_says (Some command.List) b exit h ps t c e u = subst (λ (x : Exit). SaysTold TellsList b x h ps t) (sym e) u
no_memory_says (Some command.Flow) b exit h ps t c e u = subst (λ (x : Exit). SaysTold TellsFlow b x h ps t) (sym e) u
no_memory_says (Some command.Compile) b exit h ps t c e u = subst (λ (x : Exit). SaysTold TellsObject b x h ps t) (sym e) u
no_memory_says (Some (command.Exec turns vars)) b exit h ps t c e u = subst (λ (x : Exit). SaysExec turns vars b x h ps t) (sym e) u
no_memory_says (Some (command.Make number)) b exit h ps t c e u = inr (e, u)
no_memory_says (Some (command.Demo number setup)) b exit h ps t c e u = (ap is_of_reading e, subst (λ (x : Exit). SaysRun (summary_asked setup.turns) (made_text number) x h ps t) (sym e) u)
no_memory_says (Some (command.Nodes number setup vars)) b exit h ps t c e u = subst (λ (x : Exit). SaysNodes (report_asked setup.turns vars []) b x h ps t) (sym e) u

-- nor does usage
pub usage_says : (o : Option Command) (b : List ℕ) (exit : Exit) (h : List Turn) (ps : List Place) (t : List ℕ) → is_none o ≡ true → exit ≡ Usage → IsUnplayed h ps t usage_text → SaysOf o b exit h ps t
usage_says None b exit h ps t c e u = (e, u)
usage_says (Some command) b exit h ps t c e u = absurd (false≢true c)

-- the same of what the words say
said_of : (o : Option Command) (c : Command) (b : List ℕ) (exit : Exit) (h : List Turn) (ps : List Place) (t : List ℕ) → o ≡ Some c → SaysOf o b exit h ps t → Says c b exit h ps t
said_of o c b exit h ps t e k = subst (λ (x : Option Command). SaysOf x b exit h ps t) e k

-- a read fault says nothing of the bytes, and a source that is too long nothing but that
read_fault_says : (c : Command) (b : List ℕ) (exit : Exit) (h : List Turn) (ps : List Place) (t : List ℕ) → is_reading c ≡ true → exit ≡ ReadFault → IsUnplayed h ps t (codes "read fault\n") → Says c b exit h ps t
read_fault_says (command.Run setup vars) b exit h ps t c e u = subst (λ (x : Exit). SaysRun (report_asked setup.turns vars []) b x h ps t) (sym e) u
read_fault_says (command.Trace setup) b exit h ps t c e u = (subst (λ (x : Exit). SaysRun (trace_asked setup.turns b) b x h ps t) (sym e) u, λ p. absurd (not_played ReadFault exit e read_fault_apart p))
read_fault_says (command.Replay vars) b exit h ps t c e u = subst (λ (x : Exit). SaysReplay vars b x h ps t) (sym e) u
read_fault_says command.Check b exit h ps t c e u = subst (λ (x : Exit). SaysTold TellsDeterminism b x h ps t) (sym e) u
read_fault_says command.List b exit h ps t c e u = subst (λ (x : Exit). SaysTold TellsList b x h ps t) (sym e) u
read_fault_says command.Flow b exit h ps t c e u = subst (λ (x : Exit). SaysTold TellsFlow b x h ps t) (sym e) u
read_fault_says command.Compile b exit h ps t c e u = subst (λ (x : Exit). SaysTold TellsObject b x h ps t) (sym e) u
read_fault_says (command.Exec turns vars) b exit h ps t c e u = subst (λ (x : Exit). SaysExec turns vars b x h ps t) (sym e) u
read_fault_says (command.Make number) b exit h ps t c e u = absurd (false≢true c)
read_fault_says (command.Demo number setup) b exit h ps t c e u = absurd (false≢true c)
read_fault_says (command.Nodes number setup vars) b exit h ps t c e u = subst (λ (x : Exit). SaysNodes (report_asked setup.turns vars []) b x h ps t) (sym e) u

too_long_says : (c : Command) (b : List ℕ) (exit : Exit) (h : List Turn) (ps : List Place) (t : List ℕ) → is_reading c ≡ true → exit ≡ TooLong → limit_of c < length b → IsUnplayed h ps t (codes "source too long\n") → Says c b exit h ps t
too_long_says (command.Run setup vars) b exit h ps t c e l u = subst (λ (x : Exit). SaysRun (report_asked setup.turns vars []) b x h ps t) (sym e) (l, u)
too_long_says (command.Trace setup) b exit h ps t c e l u = (subst (λ (x : Exit). SaysRun (trace_asked setup.turns b) b x h ps t) (sym e) (l, u), λ p. absurd (not_played TooLong exit e too_long_apart p))
too_long_says (command.Replay vars) b exit h ps t c e l u = subst (λ (x : Exit). SaysReplay vars b x h ps t) (sym e) (inl l, u)
too_long_says command.Check b exit h ps t c e l u = subst (λ (x : Exit). SaysTold TellsDeterminism b x h ps t) (sym e) (l, u)
too_long_says command.List b exit h ps t c e l u = subst (λ (x : Exit). SaysTold TellsList b x h ps t) (sym e) (l, u)
too_long_says command.Flow b exit h ps t c e l u = subst (λ (x : Exit). SaysTold TellsFlow b x h ps t) (sym e) (l, u)
too_long_says command.Compile b exit h ps t c e l u = subst (λ (x : Exit). SaysTold TellsObject b x h ps t) (sym e) (l, u)
too_long_says (command.Exec turns vars) b exit h ps t c e l u = subst (λ (x : Exit). SaysExec turns vars b x h ps t) (sym e) (l, u)
too_long_says (command.Make number) b exit h ps t c e l u = absurd (false≢true c)
too_long_says (command.Demo number setup) b exit h ps t c e l u = absurd (false≢true c)
too_long_says (command.Nodes number setup vars) b exit h ps t c e l u = subst (λ (x : Exit). SaysNodes (report_asked setup.turns vars []) b x h ps t) (sym e) (l, u)

-- what holds of all bytes; of those that were read
for_any : (reads : Bool) (left : Option (List ℕ)) (P : List ℕ → Type 0) → ((b : List ℕ) → P b) → ForBytes reads left P
for_any false left P f = f
for_any true None P f = ([], f [])
for_any true (Some b) P f = f b

for_read : (reads : Bool) (left : Option (List ℕ)) (P : List ℕ → Type 0) (b : List ℕ) → reads ≡ true → IfSome left (λ l. b ≡ l) → P b → ForBytes reads left P
for_read false left P b e h k = absurd (false≢true e)
for_read true None P b e h k = (b, k)
for_read true (Some l) P b e h k = subst P h k

-- what follows for all bytes, follows for those of a call
pub for_each : (reads : Bool) (left : Option (List ℕ)) (P Q : List ℕ → Type 0) → ((b : List ℕ) → P b → Q b) → ForBytes reads left P → ForBytes reads left Q
for_each false left P Q f k = λ b. f b (k b)
for_each true None P Q f k = (k.0, f k.0 k.1)
for_each true (Some b) P Q f k = f b k

-- for those that are told, and for any where nothing is read
for_told : (reads : Bool) (left : Option (List ℕ)) (P : List ℕ → Type 0) → ForBytes reads left P → IfSome left P
for_told false None P k = tt
for_told false (Some b) P k = k b
for_told true None P k = tt
for_told true (Some b) P k = k

for_unread : (reads : Bool) (left : Option (List ℕ)) (P : List ℕ → Type 0) → reads ≡ false → ForBytes reads left P → (b : List ℕ) → P b
for_unread false left P e k b = k b
for_unread true left P e k b = absurd (false≢true (sym e))

pub reply_to_any : (o : Option Command) (left : Option (List ℕ)) (r : Reply) → ((b : List ℕ) → IsReplyFor o b r) → IsReplyOf o left r
reply_to_any o left r f = for_any (are_reading o) left (λ b. IsReplyFor o b r) f

pub reply_to_read : (c : Command) (left : Option (List ℕ)) (read bytes : List ℕ) (r : Reply) → is_reading c ≡ true → read ≡ bytes → IfSome left (λ l. bytes ≡ l) → IsReply c read r → IsReplyOf (Some c) left r
reply_to_read c left read bytes r reads e h k = for_read (is_reading c) left (λ b. IsReply c b r) bytes reads h (subst (λ (b : List ℕ). IsReply c b r) e k)

pub reply_to_fault : (c : Command) (left : Option (List ℕ)) (r : Reply) → is_reading c ≡ true → r.ran.exit ≡ ReadFault → IsUnplayed r.ran.history.items (places_in r.ran) (bytes_of r.text) (codes "read fault\n") → IsReplyOf (Some c) left r
reply_to_fault c left r reads e u = reply_to_any (Some c) left r (λ b. read_fault_says c b r.ran.exit r.ran.history.items (places_in r.ran) (bytes_of r.text) reads e u)

-- more bytes than the limit
long_bytes : (limit : ℕ) → (b : List ℕ) × (limit < length b)
long_bytes limit = let counted : length {A = ℕ} (replicate (suc limit) 0) ≡ suc limit = length-replicate (suc limit) 0 in (replicate (suc limit) 0, omega (arith, counted))

module _ (c : Command) (r : Reply) (reads : is_reading c ≡ true) (e : r.ran.exit ≡ TooLong) (u : IsUnplayed r.ran.history.items (places_in r.ran) (bytes_of r.text) (codes "source too long\n")) where
  long_reply : (b : List ℕ) → limit_of c < length b → IsReply c b r
  long_reply b l = too_long_says c b r.ran.exit r.ran.history.items (places_in r.ran) (bytes_of r.text) reads e l u

  pub reply_to_long : (left : Option (List ℕ)) → IfSome left (λ l. limit_of c < length l) → IsReplyOf (Some c) left r
  reply_to_long None l = for_read (is_reading c) None (λ b. IsReply c b r) (long_bytes (limit_of c)).0 reads tt (long_reply (long_bytes (limit_of c)).0 (long_bytes (limit_of c)).1)
  reply_to_long (Some b) l = for_read (is_reading c) (Some b) (λ x. IsReply c x r) b reads refl (long_reply b l)

-- the same for words that are this command
pub reply_of_words : (o : Option Command) (c : Command) (left : Option (List ℕ)) (r : Reply) → o ≡ Some c → IsReplyOf (Some c) left r → IsReplyOf o left r
reply_of_words o c left r e k = subst (λ (x : Option Command). IsReplyOf x left r) (sym e) k

pub unread_words : (o : Option Command) (c : Command) (b other : List ℕ) (r : Reply) → o ≡ Some c → is_reading c ≡ false → IsReply c b r → IsReplyFor o other r
unread_words o c b other r e unread k =
    subst (λ (x : Option Command). IsReplyFor x other r) (sym e) (says_unread c b other r.ran.exit r.ran.history.items (places_in r.ran) (bytes_of r.text) unread k)

-- the reply was written, whole or a front of it
pub answered : (o : Option Command) (b : List ℕ) (r : Reply) (exit : Exit) (before after : ℕ) (left old new : Option (List ℕ))
    → IsReplyFor o b r → HasGround (are_reading o) r.ran.exit before after left
    → (exit ≢ WriteFault → (exit ≡ r.ran.exit) × Appends old new (bytes_of r.text)) → (exit ≡ WriteFault → WritesFront old new (bytes_of r.text))
    → Answers o b exit r.ran.history.items (places_in r.ran) before after left old new
answered o b r exit before after left old new says ground whole cut = record {
  kept = says_history o b r.ran.exit r.ran.history.items (places_in r.ran) (bytes_of r.text) says;
  whole_text = λ told. (bytes_of r.text, subst (λ (x : Exit). SaysOf o b x r.ran.history.items (places_in r.ran) (bytes_of r.text)) (sym (whole told).0) says, (whole told).1);
  cut_short = λ fault. (r.ran.exit, bytes_of r.text, says, ground, cut fault);
}

-- and its exit is decided
module _ (o : Option Command) (c : Command) (is : o ≡ Some c) (left : Option (List ℕ)) (r : Reply) (exit : Exit) (same : exit ≡ r.ran.exit) (apart : PlainOrNot) (reply : IsReplyOf o left r) where
  reply_decided : (b : List ℕ) → (r.ran.exit ≡ ReadFault → ⊥) → Says c b r.ran.exit r.ran.history.items (places_in r.ran) (bytes_of r.text) → IsDecidedBy c b exit
  reply_decided b no_read says = subst (IsDecidedBy c b) (sym same) (decided_by c b r.ran.exit r.ran.history.items (places_in r.ran) (bytes_of r.text) says no_read made_text_short apart)

  pub told_decided : (r.ran.exit ≡ ReadFault → ⊥) → IfSome left (λ b. IsDecidedBy c b exit)
  told_decided no_read =
      for_told (are_reading o) left (λ b. IsDecidedBy c b exit)
      (for_each (are_reading o) left (λ b. IsReplyFor o b r) (λ b. IsDecidedBy c b exit)
      (λ b says. reply_decided b no_read (said_of o c b r.ran.exit r.ran.history.items (places_in r.ran) (bytes_of r.text) is says)) reply)

  pub unread_decided : is_reading c ≡ false → (b : List ℕ) → IsDecidedBy c b exit
  unread_decided unread b =
      let says = said_of o c b r.ran.exit r.ran.history.items (places_in r.ran) (bytes_of r.text) is (for_unread (are_reading o) left (λ x. IsReplyFor o x r) (ap are_reading is ∙ unread) reply b) in
      reply_decided b (no_read_fault c b r.ran.exit r.ran.history.items (places_in r.ran) (bytes_of r.text) unread says) says
