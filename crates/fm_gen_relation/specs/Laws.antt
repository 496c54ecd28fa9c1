-- What opening a frame, and giving back, are to the frames for which those of code stand.
-- Source: this profile.
use Rattle.std.specs.Prelude.{◌≡◌, ℤ, true, List, [], ◌++◌, length, map}
use Rattle.fm_net.specs.Typed.{AllIn}
use Rattle.fm_mean.specs.Names.{ProgramUnit}
use Rattle.fm_mean.specs.Places.{returned}
use Rattle.fm_mean.specs.Calls as mean_calls
use Rattle.fm_mean.specs.Calls.{entered, backs_of}
use Rattle.fm_mean.specs.declared.place.Actual.{Actual}
use Rattle.fm_code.specs.Passing.{Passed, all_fit, pass_all, Given, backs_fit, give_all, back_words, nulls, ports_in}
use Rattle.fm_gen_relation.specs.Standing.{Slots, values_in}
use Rattle.fm_gen_relation.specs.Operands.{MeanBack, operand_of, code_back, IsBack}
use Rattle.fm_gen_relation.specs.Formals.{formals_of, ports_of}

-- the words of a caller and of a callee when these arguments were passed
abbrev pub passed_words : (mine callee : ProgramUnit) → List ℤ → List Actual → Passed
passed_words mine callee ws args =
    pass_all (formals_of callee.names.variables) (map (operand_of mine.names.variables) args) (record { mine = ws; theirs = nulls callee.names.words; backs = [] })

-- the operands fit; what the words then stand for, and what goes back, is that of the meaning, which lets nothing go
pub record OpensAlike (slots : Slots) (mine callee : ProgramUnit) (ws : List ℤ) (args : List Actual) : Type 0 where
  pub fit : all_fit (length ws) callee.names.words (formals_of callee.names.variables) (map (operand_of mine.names.variables) args) ≡ true
  pub mine_count : length (passed_words mine callee ws args).mine ≡ length ws
  pub theirs_count : length (passed_words mine callee ws args).theirs ≡ callee.names.words
  pub mine_stand : (entered callee (values_in slots mine.names.variables ws) args).mine ≡ values_in slots mine.names.variables (passed_words mine callee ws args).mine
  pub theirs_stand : (entered callee (values_in slots mine.names.variables ws) args).theirs ≡ values_in slots callee.names.variables (passed_words mine callee ws args).theirs
  pub backs : (passed_words mine callee ws args).backs ≡ map (code_back mine.names.variables callee.names.variables) (backs_of callee args)
  pub whole : AllIn (IsBack mine.names.variables callee.names.variables) (backs_of callee args)
  pub drops : (entered callee (values_in slots mine.names.variables ws) args).drops ≡ []

-- the words of the one who gets and of the one who gives, when this was given back
abbrev pub given_words : (mine theirs : ProgramUnit) → (ws ts : List ℤ) → List MeanBack → Given
given_words mine theirs ws ts bs = give_all (map (code_back mine.names.variables theirs.names.variables) bs) (record { mine = ws; theirs = ts; drops = [] })

-- the places fit; what the words then stand for, what is let go in which order, and what it costs, is that of the meaning
pub record GivesAlike (slots : Slots) (mine theirs : ProgramUnit) (ws ts : List ℤ) (bs : List MeanBack) : Type 0 where
  pub fit : backs_fit (length ws) (length ts) (map (code_back mine.names.variables theirs.names.variables) bs) ≡ true
  pub count : length (given_words mine theirs ws ts bs).mine ≡ length ws
  pub stand : (returned (values_in slots mine.names.variables ws) (values_in slots theirs.names.variables ts) bs).mine ≡ values_in slots mine.names.variables (given_words mine theirs ws ts bs).mine
  pub drops : (returned (values_in slots mine.names.variables ws) (values_in slots theirs.names.variables ts) bs).drops
      ≡ map slots ((given_words mine theirs ws ts bs).drops ++ ports_in (ports_of theirs.names.variables) (given_words mine theirs ws ts bs).theirs)
  pub cost : mean_calls.back_words bs ≡ back_words (map (code_back mine.names.variables theirs.names.variables) bs)
