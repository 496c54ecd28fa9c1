-- The greater numbers of kinds and of headings.
use Rattle.std.proofs.Common.{◌≡◌, ℕ, zero, suc, ◌≤◌, refl, arith}
use Rattle.fm_code_kinds.specs.declared.sorts.Heading.TheVariants as heading
use Rattle.fm_code_kinds.specs.declared.sorts.Sort.TheVariants as sort
use Rattle.fm_image_typed.specs.Shapes.{heading_of, sort_of}

pub out_from : (kind of : ℕ) → 3 ≤ kind → sort_of kind of ≡ sort.Out of
out_from zero of l = absurd (omega (arith, l))
out_from (suc zero) of l = absurd (omega (arith, l))
out_from (suc (suc zero)) of l = absurd (omega (arith, l))
out_from (suc (suc (suc k))) of l = refl

pub function_from : (number : ℕ) → 3 ≤ number → heading_of number ≡ heading.Function
function_from zero l = absurd (omega (arith, l))
function_from (suc zero) l = absurd (omega (arith, l))
function_from (suc (suc zero)) l = absurd (omega (arith, l))
function_from (suc (suc (suc n))) l = refl
