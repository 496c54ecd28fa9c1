-- How tokens are written in a source text.
-- Source: ANSI X3.9-1978, sections 2.2 (names, keywords), 4.3.1, 4.7.1 and 4.8.1 (integer, logical and character
-- constants), 6.1.1, 6.3.1 and 6.4.1 (operators), and the Fortran M report for the words of processes and channels.
use Rattle.std.specs.Prelude.{ℕ, if◌then◌else◌, ◌==◌, List, [], ◌∷◌, ◌++◌, codes}
use Rattle.std.specs.List.{flat_map}
use Rattle.std.specs.Fmt.{signed_decimal}
use Rattle.fm_base.specs.declared.token.Class.{Class}
use Rattle.fm_base.specs.declared.token.Class.TheVariants as class
use Rattle.fm_base.specs.declared.token.Op.{Op}
use Rattle.fm_base.specs.declared.token.Op.TheVariants as op
use Rattle.fm_base.specs.declared.token.Token.{Token}
use Rattle.fm_base.specs.declared.token.Token.TheVariants as token

-- the word that a statement of the class begins with, if it has one, without parenthesis or star
abbrev pub keyword_text : Class → List ℕ
keyword_text class.BlockIf = codes "IF"
keyword_text class.LogicalIf = codes "IF"
keyword_text class.Assignment = []
keyword_text class.ProcessDo = codes "PROCESSDO"
keyword_text class.Do = codes "DO"
keyword_text class.End = codes "END"
keyword_text class.EndIf = codes "ENDIF"
keyword_text class.EndDo = codes "ENDDO"
keyword_text class.EndProcesses = codes "ENDPROCESSES"
keyword_text class.EndProcessDo = codes "ENDPROCESSDO"
keyword_text class.Else = codes "ELSE"
keyword_text class.Continue = codes "CONTINUE"
keyword_text class.Return = codes "RETURN"
keyword_text class.Stop = codes "STOP"
keyword_text class.Processes = codes "PROCESSES"
keyword_text class.ImplicitNone = codes "IMPLICITNONE"
keyword_text class.ElseIf = codes "ELSEIF"
keyword_text class.DoWhile = codes "DOWHILE"
keyword_text class.Goto = codes "GOTO"
keyword_text class.EndChannel = codes "ENDCHANNEL"
keyword_text class.Channel = codes "CHANNEL"
keyword_text class.Merger = codes "MERGER"
keyword_text class.Send = codes "SEND"
keyword_text class.Receive = codes "RECEIVE"
keyword_text class.MovePort = codes "MOVEPORT"
keyword_text class.Probe = codes "PROBE"
keyword_text class.ProcessCall = codes "PROCESSCALL"
keyword_text class.Processors = codes "PROCESSORS"
keyword_text class.Process = codes "PROCESS"
keyword_text class.Program = codes "PROGRAM"
keyword_text class.Subroutine = codes "SUBROUTINE"
keyword_text class.IntegerFunction = codes "INTEGERFUNCTION"
keyword_text class.LogicalFunction = codes "LOGICALFUNCTION"
keyword_text class.Function = codes "FUNCTION"
keyword_text class.Call = codes "CALL"
keyword_text class.Print = codes "PRINT"
keyword_text class.Write = codes "WRITE"
keyword_text class.Integer = codes "INTEGER"
keyword_text class.Logical = codes "LOGICAL"
keyword_text class.Dimension = codes "DIMENSION"
keyword_text class.Parameter = codes "PARAMETER"
keyword_text class.Inport = codes "INPORT"
keyword_text class.Outport = codes "OUTPORT"
keyword_text class.Intent = codes "INTENT"
keyword_text class.Nothing = []

abbrev pub op_text : Op → List ℕ
op_text op.Eqv = codes ".EQV."
op_text op.Neqv = codes ".NEQV."
op_text op.Or = codes ".OR."
op_text op.And = codes ".AND."
op_text op.Not = codes ".NOT."
op_text op.Eq = codes ".EQ."
op_text op.Ne = codes ".NE."
op_text op.Lt = codes ".LT."
op_text op.Le = codes ".LE."
op_text op.Gt = codes ".GT."
op_text op.Ge = codes ".GE."
op_text op.Add = codes "+"
op_text op.Sub = codes "-"
op_text op.Mul = codes "*"
op_text op.Div = codes "/"
op_text op.Pow = codes "**"

-- an apostrophe inside a constant is written twice
abbrev pub doubled : ℕ → List ℕ
doubled b = if b == 39 then 39 ∷ 39 ∷ [] else b ∷ []

abbrev pub constant_text : List ℕ → List ℕ
constant_text bytes = 39 ∷ (flat_map doubled bytes ++ 39 ∷ [])

-- a number over 2^63 - 1 stands for no text of its own, and no tree spells it
abbrev pub token_text : Token → List ℕ
token_text (token.Key c) = keyword_text c
token_text (token.Named name) = name
token_text (token.Number n) = signed_decimal n
token_text token.Big = []
token_text (token.Constant bytes) = constant_text bytes
token_text token.Open = 40 ∷ []
token_text token.Close = 41 ∷ []
token_text token.Comma = 44 ∷ []
token_text token.Equals = 61 ∷ []
token_text token.Colon = 58 ∷ []
token_text token.True = codes ".TRUE."
token_text token.False = codes ".FALSE."
token_text (token.Sign o) = op_text o
