-- What is compiled is the text of an image that makes sense, with the program's code.
use Rattle.std.proofs.Common.{◌≡◌, ℕ, ◌≤◌, List, length, sym, subst}
use Rattle.fm_base.specs.declared.schedule.Turn.{Turn}
use Rattle.fm_net.specs.Machine.{Place}
use Rattle.fm_rules.specs.declared.program.Program.{Program}
use Rattle.fm_verdict.specs.Program.{IsCheckedOf}
use Rattle.fm_gen.specs.Bodies.{KeepsProgram}
use Rattle.fm_gen.specs.Programs.{code_of}
use Rattle.fm_gen.proofs.BodyLaws.{keeps_program}
use Rattle.fm_object.specs.Texts.{HasNames, IsImage, IsObjectText}
use Rattle.fm_object.specs.declared.image.Image.{Image}
use Rattle.fm_object.proofs.MalformedLaws.{no_line_of_an_object}
use Rattle.fm_image_typed.specs.Typed.{Typed}
use Rattle.fm_image.specs.ImageOf.{NamesAreNames, image_of}
use Rattle.fm_compile_law.proofs.Variables.{checked_named}
use Rattle.fm_compile_law.proofs.Codes.{same_code}
use Rattle.fm_compile_law.proofs.Makes.{makes_sense}
use Rattle.fm_execute_law.proofs.SameTexts.{typed_named}
use Rattle.fm_words.specs.declared.command.Command.TheVariants as command
use Rattle.fmc.specs.declared.answer.Exit.TheVariants.{Done}
use Rattle.fmc.specs.Answer.{Says}
use Rattle.fmc.specs.Compiled.{IsCompiledOf}
use Rattle.fmc.specs.Outcomes.{source_limit}
use Rattle.fmc.proofs.ExecSaid.{typed_or_bad}

-- what was written of the image of a program tells that this is within its ranges
pub written_fits : (p : Program) (i : Image) (text : List ℕ) → i ≡ image_of p (code_of p) → (HasNames i → IsObjectText text i) → NamesAreNames p → IsImage (image_of p (code_of p))
written_fits p i text is readable named =
    let own : IsObjectText text i = readable (subst HasNames (sym is) (typed_named (image_of p (code_of p)) (makes_sense p named))) in
    subst IsImage is own.0

-- the text is that of the source's program
pub record IsTextOfSource (source text : List ℕ) : Type 0 where
  pub within : length source ≤ source_limit
  pub program : Program
  pub lawful : IsCheckedOf source program
  pub object : IsObjectText text (image_of program (code_of program))
  pub sense : Typed (image_of program (code_of program))

pub compiled_text : (b : List ℕ) (h : List Turn) (ps : List Place) (t : List ℕ) → Says command.Compile b Done h ps t → IsTextOfSource b t
compiled_text b h ps t k =
    let p = k.tells.program in
    let lawful : IsCheckedOf b p = record { statements = k.statements; read = k.read; clean = k.clean; checked = k.tells.checked } in
    record {
      within = k.within;
      program = p;
      lawful = lawful;
      object = subst (λ (u : List ℕ). IsObjectText u (image_of p (code_of p))) (sym k.unplayed.text_is) k.tells.object;
      sense = makes_sense p (checked_named b p lawful);
    }

pub compiled : (b : List ℕ) (h : List Turn) (ps : List Place) (t : List ℕ) → Says command.Compile b Done h ps t → IsCompiledOf b t
compiled b h ps t k =
    let c = compiled_text b h ps t k in
    let p = c.program in
    let own = image_of p (code_of p) in
    record {
      program = p;
      lawful = c.lawful;
      image = own;
      object = c.object;
      sense = c.sense;
      code = same_code p;
      keeps = subst (KeepsProgram p) (sym (same_code p)) (keeps_program p);
      formed = λ line bad. no_line_of_an_object t own c.object line bad;
      verified = λ unit bad. typed_or_bad t own c.object c.sense unit bad;
      runs = λ short. (short, own, c.object, c.sense);
    }
