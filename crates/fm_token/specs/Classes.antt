-- The class of a statement's text: the first form that fits. Blanks outside of constants are dropped already.
-- Source: A. H. J. Sale, "The classification of FORTRAN statements" (1971), with the statements of Fortran M.
use Rattle.std.specs.Prelude.{ℕ, Bool, true, false, not, ◌&&◌, Option, Some, None, List, [], ◌∷◌, ◌==◌, if◌then◌else◌, codes, take, drop, length, nat_eq, unwrap_or, find}
use Rattle.std.specs.Option.{option_map}
use Rattle.std.specs.Cmp.Lexicographic.{pointwise}
use Rattle.fm_base.specs.declared.token.Class.{Class}
use Rattle.fm_base.specs.declared.token.Class.TheVariants.{BlockIf, LogicalIf, Assignment, ProcessDo, Do, End, EndIf, EndDo, EndProcesses, EndProcessDo, Else, Continue, Return, Stop, Processes, ImplicitNone, ElseIf, DoWhile, Goto, EndChannel, Channel, Merger, Send, Receive, MovePort, Probe, ProcessCall, Processors, Process, Program, Subroutine, IntegerFunction, LogicalFunction, Function, Call, Print, Write, Integer, Logical, Dimension, Parameter, Inport, Outport, Intent, Nothing}
use Rattle.fm_base.specs.Tokens.{keyword_text}
use Rattle.fm_token.specs.TopLevel.{has_top, close_of}

abbrev pub is_same_text : List ℕ → List ℕ → Bool
is_same_text text word = pointwise nat_eq text word

abbrev pub begins : List ℕ → List ℕ → Bool
begins text word = is_same_text (take (length word) text) word

-- a byte other than an equals sign stands first
abbrev pub goes_on : List ℕ → Bool
goes_on [] = false
goes_on (b ∷ bs) = not (b == 61)

abbrev pub end_if_goes_on : List ℕ → Option ℕ → Option ℕ
end_if_goes_on text None = None
end_if_goes_on text (Some n) = if goes_on (drop n text) then Some n else None

-- Of an IF: how many bytes there are up to and with the parenthesis that closes. Where nothing stands behind, or an
-- equals sign, the text is no IF: `IF(I)=5` is an assignment to an element of IF, and `IF(I)=1,2` has no form.
unfoldable pub condition_end : List ℕ → Option ℕ
condition_end text = if begins text (codes "IF(") then end_if_goes_on text (close_of text) else None

-- a loop, if the text begins as one
unfoldable pub loop_class : List ℕ → Class
loop_class text =
    if begins text (codes "PROCESSDO") then ProcessDo else if begins text (codes "DO") then Do else Nothing

-- the classes whose statements are one word
unfoldable pub whole_words : List Class
whole_words = End ∷ EndIf ∷ EndDo ∷ EndProcesses ∷ EndProcessDo ∷ Else ∷ Continue ∷ Return ∷ Stop ∷ Processes ∷ ImplicitNone ∷ []

-- the classes whose statements begin with a word, in the order of trial, with the sign that has to stand behind the word
unfoldable pub first_words : List (Class × Option ℕ)
first_words =
    (ElseIf, Some 40)
    ∷ (DoWhile, Some 40)
    ∷ (Goto, None)
    ∷ (EndChannel, Some 40)
    ∷ (Channel, Some 40)
    ∷ (Merger, Some 40)
    ∷ (Send, Some 40)
    ∷ (Receive, Some 40)
    ∷ (MovePort, Some 40)
    ∷ (Probe, Some 40)
    ∷ (ProcessCall, None)
    ∷ (Processors, Some 40)
    ∷ (Process, None)
    ∷ (Program, None)
    ∷ (Subroutine, None)
    ∷ (IntegerFunction, None)
    ∷ (LogicalFunction, None)
    ∷ (Function, None)
    ∷ (Call, None)
    ∷ (Print, Some 42)
    ∷ (Write, Some 40)
    ∷ (Integer, None)
    ∷ (Logical, None)
    ∷ (Dimension, None)
    ∷ (Parameter, Some 40)
    ∷ (Inport, Some 40)
    ∷ (Outport, Some 40)
    ∷ (Intent, Some 40)
    ∷ []

abbrev pub has_sign : Option ℕ → List ℕ → Bool
has_sign None behind = true
has_sign (Some sign) [] = false
has_sign (Some sign) (b ∷ bs) = b == sign

abbrev pub is_whole : List ℕ → Class → Bool
is_whole text class = is_same_text text (keyword_text class)

abbrev pub begins_so : List ℕ → Class × Option ℕ → Bool
begins_so text entry = begins text (keyword_text entry.0) && has_sign entry.1 (drop (length (keyword_text entry.0)) text)

-- the class of the first word that the text begins with
unfoldable pub first_word_class : List ℕ → Class
first_word_class text = unwrap_or (option_map (λ (entry : Class × Option ℕ). entry.0) (find (begins_so text) first_words)) Nothing

-- the class of a text without an equals sign at top level
unfoldable pub word_class : List ℕ → Class
word_class text = unwrap_or (find (is_whole text) whole_words) (first_word_class text)

-- the class of a text that is no IF
unfoldable pub plain_class : List ℕ → Class
plain_class text = if has_top 61 text then if has_top 44 text then loop_class text else Assignment else word_class text

abbrev pub class_from : List ℕ → Option ℕ → Class
class_from text None = plain_class text
class_from text (Some n) = if is_same_text (drop n text) (codes "THEN") then BlockIf else LogicalIf

-- The class: an IF comes before all else, then an equals sign at top level, then the words. No word is reserved:
-- `CALLX(2)=5` is an assignment to CALLX, `DOUBLE=1,2` a loop over UBLE, `PROCESSDO` alone a process named DO.
unfoldable pub class_of : List ℕ → Class
class_of text = class_from text (condition_end text)
