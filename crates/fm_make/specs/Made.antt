-- The program that a number makes: FEED sends whole numbers into a chain of stages, each stage adds
-- its step to what goes through, and TAKE prints the sum of what comes out. Each text is told by its
-- pieces, and each line ends with a line feed.
-- Source: this profile.
use Rattle.std.specs.Prelude.{ℕ, ◌+◌, ◌*◌, ◌%◌, List, [], ◌∷◌, ◌++◌, codes}
use Rattle.std.specs.List.{concat, flat_map, range_with_len}
use Rattle.std.specs.Fmt.{decimal}

-- how many stages the chain has
abbrev pub stages_of : (number : ℕ) → ℕ
stages_of number = 20 + number % 180

-- how many messages go through it
abbrev pub messages_of : (number : ℕ) → ℕ
messages_of number = 100 + number % 900

-- what a stage adds to a message
abbrev pub step_of : (number stage : ℕ) → ℕ
step_of number stage = (number + 7 * stage) % 100

-- a text for each stage, in order, from 1 on
abbrev pub for_stages : (ℕ → List ℕ) → (stages : ℕ) → List ℕ
for_stages text stages = flat_map text (range_with_len 1 stages)

-- a stage receives from the channel of its number and sends to the next one
abbrev pub call_pieces : (stage : ℕ) → List (List ℕ)
call_pieces stage =
    codes "      PROCESSCALL S" ∷ decimal stage ∷ codes "(P(" ∷ decimal stage ∷ codes "),Q(" ∷ decimal (stage + 1) ∷ codes "))\n"
    ∷ []

abbrev pub call_text : (stage : ℕ) → List ℕ
call_text stage = concat (call_pieces stage)

-- one channel more than there are stages, and a block that begins with FEED
abbrev pub opening_pieces : (stages : ℕ) → List (List ℕ)
opening_pieces stages =
    codes "      PROGRAM MADE\n"
    ∷ codes "      INPORT (INTEGER) P(" ∷ decimal (stages + 1) ∷ codes ")\n"
    ∷ codes "      OUTPORT (INTEGER) Q(" ∷ decimal (stages + 1) ∷ codes ")\n"
    ∷ codes "      DO 10 I = 1, " ∷ decimal (stages + 1) ∷ codes "\n"
    ∷ codes "      CHANNEL(IN=P(I),OUT=Q(I))\n"
    ∷ codes "   10 CONTINUE\n"
    ∷ codes "      PROCESSES\n"
    ∷ codes "      PROCESSCALL FEED(Q(1))\n"
    ∷ []

abbrev pub opening_text : (stages : ℕ) → List ℕ
opening_text stages = concat (opening_pieces stages)

-- TAKE receives from the last channel
abbrev pub closing_pieces : (stages : ℕ) → List (List ℕ)
closing_pieces stages =
    codes "      PROCESSCALL TAKE(P(" ∷ decimal (stages + 1) ∷ codes "))\n"
    ∷ codes "      ENDPROCESSES\n"
    ∷ codes "      END\n"
    ∷ []

abbrev pub closing_text : (stages : ℕ) → List ℕ
closing_text stages = concat (closing_pieces stages)

abbrev pub program_text : (stages : ℕ) → List ℕ
program_text stages = opening_text stages ++ (for_stages call_text stages ++ closing_text stages)

abbrev pub feed_pieces : (messages : ℕ) → List (List ℕ)
feed_pieces messages =
    codes "      PROCESS FEED(Q)\n"
    ∷ codes "      OUTPORT (INTEGER) Q\n"
    ∷ codes "      DO 10 I = 1, " ∷ decimal messages ∷ codes "\n"
    ∷ codes "      SEND(Q) I\n"
    ∷ codes "   10 CONTINUE\n"
    ∷ codes "      ENDCHANNEL(Q)\n"
    ∷ codes "      END\n"
    ∷ []

abbrev pub feed_text : (messages : ℕ) → List ℕ
feed_text messages = concat (feed_pieces messages)

abbrev pub stage_pieces : (stage step : ℕ) → List (List ℕ)
stage_pieces stage step =
    codes "      PROCESS S" ∷ decimal stage ∷ codes "(P,Q)\n"
    ∷ codes "      INPORT (INTEGER) P\n"
    ∷ codes "      OUTPORT (INTEGER) Q\n"
    ∷ codes "   10 RECEIVE(P,END=20) I\n"
    ∷ codes "      SEND(Q) MOD(I+" ∷ decimal step ∷ codes ",1009)\n"
    ∷ codes "      GOTO 10\n"
    ∷ codes "   20 ENDCHANNEL(Q)\n"
    ∷ codes "      END\n"
    ∷ []

abbrev pub stage_text : (stage step : ℕ) → List ℕ
stage_text stage step = concat (stage_pieces stage step)

abbrev pub take_pieces : List (List ℕ)
take_pieces =
    codes "      PROCESS TAKE(P)\n"
    ∷ codes "      INPORT (INTEGER) P\n"
    ∷ codes "      J = 0\n"
    ∷ codes "   10 RECEIVE(P,END=20) I\n"
    ∷ codes "      J = J+I\n"
    ∷ codes "      GOTO 10\n"
    ∷ codes "   20 PRINT *, J\n"
    ∷ codes "      END\n"
    ∷ []

abbrev pub take_text : List ℕ
take_text = concat take_pieces

-- the units, in order
abbrev pub made_text : (number : ℕ) → List ℕ
made_text number =
    program_text (stages_of number)
    ++ (feed_text (messages_of number)
    ++ (for_stages (λ stage. stage_text stage (step_of number stage)) (stages_of number)
    ++ take_text))
