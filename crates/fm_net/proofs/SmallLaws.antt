-- The small language is lawful.
use Rattle.std.proofs.Common.{◌≡◌, ℕ, ◌+◌, ◌≤◌, Option, Some, None, List, [], ◌∷◌, true, refl, ap, arith}
use Rattle.fm_base.specs.declared.port.PortValue.{PortValue}
use Rattle.fm_base.specs.declared.port.PortValue.TheVariants.{Writer, Reader}
use Rattle.fm_base.specs.Channels.{Item, Words, item_ports, message_ports}
use Rattle.fm_net.specs.Machine.{Nothing, Ask, Stop, Go}
use Rattle.fm_net.specs.Owned.{count, IsOwned, HasOneWriter}
use Rattle.fm_net.specs.Lawful.{got, sum_of, IsLawfulAsk, IsLawfulLanguage}
use Rattle.fm_net.specs.Small.{Instr, Set, Move, Channel, Send, Receive, Close, Block, Proc, language, is_done, value_at, value_set, first_port, port, null, left, goes_on, sends, receives, ask_next, ask_by, first_state, starting, unit_at}
use Rattle.fm_net.proofs.Counts.{count-nil, count-cons, count-append}
use Rattle.fm_net.proofs.First.{main_owned, no_channel}
use Rattle.fm_net.specs.Plain.{IsPlainAsk, KeepsPlain, AllPlain}
use Rattle.fm_net.specs.Typed.{AllIn}
use Rattle.fm_net.proofs.SmallPorts.{swapped, left_ports, there, came, held_sum, shared, given_back}

abbrev LawOf : List (List Instr) → Proc → Ask Proc → Type 0
LawOf us x a = IsLawfulAsk (language us) x a

-- joined children keep no ports
abbrev kept_sum : PortValue → List Proc → ℕ
kept_sum z ks = sum_of (λ (k : Proc). count z (message_ports [])) ks

none_kept : (z : PortValue) (ks : List Proc) → kept_sum z ks ≡ 0
none_kept z [] = refl
none_kept z (k ∷ ks) = omega (arith, none_kept z ks, count-nil z)

-- a step of its own: what stays and what is let go is what was held
own : (us : List (List Instr)) (x : Proc) (code : List Instr) (vs : List Item) (drops : List PortValue) (cost : ℕ) → 1 ≤ cost → ((z : PortValue) → count z (message_ports vs) + count z drops ≡ count z (message_ports x.vars)) → LawOf us x (Go Nothing (λ c r. goes_on x code vs drops cost))
own us x code vs drops cost some same = record {
  costs = λ c r. some;
  uses = tt;
  numbered = tt;
  block_is = λ c r. refl;
  later_block = λ c r. omega arith;
  passed_block = λ c r h. absurd (omega arith);
  later_channel = λ c r. omega arith;
  passed_channel = λ c r n k e. absurd (cc);
  account = λ c r may z. omega (arith, same z, none_kept z r.children, ap (held_sum z) may.1, ap (λ m. count z (got m)) may.0, count-nil z);
}

sent : (us : List (List Instr)) (x : Proc) (code : List Instr) (i j : ℕ) (v : Option PortValue) → first_port (item_ports (value_at x.vars i)) ≡ v → LawOf us x (sends x code j v)
sent us x code i j (Some (Reader c)) e = own us x [] x.vars [] 1 (omega arith) (λ z. omega (arith, count-nil z))
sent us x code i j None e = own us x [] x.vars [] 1 (omega arith) (λ z. omega (arith, count-nil z))
sent us x code i j (Some (Writer c w)) e = record {
  costs = λ c r. omega arith;
  uses = there (Writer c w) x.vars i e;
  numbered = tt;
  block_is = λ c r. refl;
  later_block = λ c r. omega arith;
  passed_block = λ c r h. absurd (omega arith);
  later_channel = λ c r. omega arith;
  passed_channel = λ c r n k e. absurd (cc);
  account = λ c r may z.
      omega (
        arith,
        swapped z x.vars j (left (value_at x.vars j)),
        left_ports z (value_at x.vars j),
        count-append z (item_ports (value_at x.vars j)) [],
        none_kept z r.children,
        ap (held_sum z) may.1,
        ap (λ m. count z (got m)) may.0,
        count-nil z,
      );
}

taken : (us : List (List Instr)) (x : Proc) (code : List Instr) (i j : ℕ) (v : Option PortValue) → first_port (item_ports (value_at x.vars i)) ≡ v → LawOf us x (receives x code j v)
taken us x code i j (Some (Writer c w)) e = own us x [] x.vars [] 1 (omega arith) (λ z. omega (arith, count-nil z))
taken us x code i j None e = own us x [] x.vars [] 1 (omega arith) (λ z. omega (arith, count-nil z))
taken us x code i j (Some (Reader c)) e = record {
  costs = λ c r. omega arith;
  uses = there (Reader c) x.vars i e;
  numbered = tt;
  block_is = λ c r. refl;
  later_block = λ c r. omega arith;
  passed_block = λ c r h. absurd (omega arith);
  later_channel = λ c r. omega arith;
  passed_channel = λ c r n k e. absurd (cc);
  account = λ c r may z. omega (arith, came x.vars j r.message z, none_kept z r.children, ap (held_sum z) may.1, count-nil z);
}

next_law : (us : List (List Instr)) (x : Proc) (code : List Instr) → LawOf us x (ask_next us x code)
next_law us x [] = tt
next_law us x (Set i n ∷ code) = own us x code _ _ 1 (omega arith) (λ z. omega (arith, swapped z x.vars i (Words (n ∷ [])), count-nil z))
next_law us x (Move i j ∷ code) = own us x code _ _ 2 (omega arith) (λ z. omega (arith, swapped z x.vars i (left (value_at x.vars i)), swapped z (value_set x.vars i (left (value_at x.vars i))) j (value_at x.vars i), left_ports z (value_at x.vars i)))
next_law us x (Send i j ∷ code) = sent us x code i j (first_port (item_ports (value_at x.vars i))) refl
next_law us x (Receive i j ∷ code) = taken us x code i j (first_port (item_ports (value_at x.vars i))) refl
next_law us x (Close i ∷ code) = own us x code _ _ 1 (omega arith) (λ z. omega (arith, swapped z x.vars i null, count-nil z))
next_law us x (Channel i j ∷ code) = record {
  costs = λ c r. omega arith;
  uses = tt;
  numbered = refl;
  block_is = λ c r. refl;
  later_block = λ c r. omega arith;
  passed_block = λ c r h. absurd (omega arith);
  later_channel = λ c r. omega arith;
  passed_channel = λ c r n k e. omega arith;
  account = λ c r may z.
      omega (
        arith,
        swapped z x.vars i (port (Writer c 0)),
        swapped z (value_set x.vars i (port (Writer c 0))) j (port (Reader c)),
        none_kept z r.children,
        ap (held_sum z) may.1,
        ap (λ m. count z (got m)) may.0,
        count-nil z,
        count-append z (item_ports (value_at x.vars i)) (item_ports (value_at (value_set x.vars i (port (Writer c 0))) j)),
        count-cons z (Writer c 0) [],
        count-cons z (Reader c) [],
        count-cons z (Reader c) (Writer c 0 ∷ []),
      );
}
next_law us x (Block es ∷ code) = record {
  costs = λ c r. omega arith;
  uses = tt;
  numbered = tt;
  block_is = λ c r. refl;
  later_block = λ c r. omega arith;
  passed_block = λ c r h. omega arith;
  later_channel = λ c r. omega arith;
  passed_channel = λ c r n k e. absurd (cc);
  account = λ c r may z. omega (arith, shared us es x.vars z, none_kept z r.children, ap (held_sum z) may.1, ap (λ m. count z (got m)) may.0, count-nil z);
}

law : (us : List (List Instr)) (x : Proc) (joins : Option (ℕ × ℕ)) → LawOf us x (ask_by us x joins)
law us x None = next_law us x x.code
law us x (Some b) = record {
  costs = λ c r. omega arith;
  uses = tt;
  numbered = tt;
  block_is = λ c r. refl;
  later_block = λ c r. omega arith;
  passed_block = λ c r h. absurd (omega arith);
  later_channel = λ c r. omega arith;
  passed_channel = λ c r n k e. absurd (cc);
  account = λ c r may z. omega (arith, given_back 0 r.children x.vars z, none_kept z r.children, ap (λ m. count z (got m)) may, count-nil z);
}

stops_at : (us : List (List Instr)) (x : Proc) (code : List Instr) (joins : Option (ℕ × ℕ)) → x.code ≡ code → is_done code joins ≡ true → ask_by us x joins ≡ Stop
stops_at us x [] None e h = ap (ask_next us x) e
stops_at us x [] (Some b) e h = absurd (cc)
stops_at us x (i ∷ code) joins e h = absurd (cc)

pub laws : (us : List (List Instr)) → IsLawfulLanguage (language us)
laws us = record {
  stops = λ x h. stops_at us x x.code x.joins refl h;
  stays_ended = λ x h. h;
  same_block = λ x. refl;
  same_channel = λ x. refl;
  goes = λ x. law us x x.joins;
}

-- in this language everybody is plain
abbrev pub Plain : Proc → Type 0
Plain x = Unit {0}

all_plain : (us : List (List Instr)) (xs : List Proc) → AllIn Plain xs
all_plain us [] = tt
all_plain us (x ∷ xs) = (tt, all_plain us xs)

abbrev PlainAsk : List (List Instr) → Ask Proc → Type 0
PlainAsk us = IsPlainAsk (language us) Plain

sends_plain : (us : List (List Instr)) (x : Proc) (code : List Instr) (j : ℕ) (v : Option PortValue) → PlainAsk us (sends x code j v)
sends_plain us x code j (Some (Writer c w)) = record { single = tt; goes_on = λ c r all. (tt, tt) }
sends_plain us x code j (Some (Reader c)) = record { single = tt; goes_on = λ c r all. (tt, tt) }
sends_plain us x code j None = record { single = tt; goes_on = λ c r all. (tt, tt) }

receives_plain : (us : List (List Instr)) (x : Proc) (code : List Instr) (j : ℕ) (v : Option PortValue) → PlainAsk us (receives x code j v)
receives_plain us x code j (Some (Writer c w)) = record { single = tt; goes_on = λ c r all. (tt, tt) }
receives_plain us x code j (Some (Reader c)) = record { single = tt; goes_on = λ c r all. (tt, tt) }
receives_plain us x code j None = record { single = tt; goes_on = λ c r all. (tt, tt) }

next_plain : (us : List (List Instr)) (x : Proc) (code : List Instr) → PlainAsk us (ask_next us x code)
next_plain us x [] = tt
next_plain us x (Set i n ∷ code) = record { single = tt; goes_on = λ c r all. (tt, tt) }
next_plain us x (Move i j ∷ code) = record { single = tt; goes_on = λ c r all. (tt, tt) }
next_plain us x (Channel i j ∷ code) = record { single = omega arith; goes_on = λ c r all. (tt, tt) }
next_plain us x (Send i j ∷ code) = sends_plain us x code j (first_port (item_ports (value_at x.vars i)))
next_plain us x (Receive i j ∷ code) = receives_plain us x code j (first_port (item_ports (value_at x.vars i)))
next_plain us x (Close i ∷ code) = record { single = tt; goes_on = λ c r all. (tt, tt) }
next_plain us x (Block es ∷ code) = record { single = tt; goes_on = λ c r all. (tt, all_plain us _) }

plain_by : (us : List (List Instr)) (x : Proc) (joins : Option (ℕ × ℕ)) → PlainAsk us (ask_by us x joins)
plain_by us x None = next_plain us x x.code
plain_by us x (Some b) = record { single = tt; goes_on = λ c r all. (tt, tt) }

pub plain : (us : List (List Instr)) → KeepsPlain (language us) Plain
plain us = record { goes = λ x h. plain_by us x x.joins; empties = λ x h. tt }

pub first_owned : (us : List (List Instr)) → IsOwned (language us) (first_state us)
first_owned us = main_owned (language us) (starting (unit_at us 0) []) refl

pub first_sole : (us : List (List Instr)) → IsOwned (language us) (first_state us) × (AllPlain (language us) Plain (first_state us).procs × HasOneWriter (first_state us).chans)
first_sole us = (first_owned us, ((λ q x is. tt), no_channel))
