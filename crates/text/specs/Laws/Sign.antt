-- Sign and size of a signed number.
use Rattle.std.specs.Prelude.{◌≡◌, refl, ◌+◌, true, false, [], T, ℤ, pos, negsuc, nat_abs}
use Rattle.std.proofs.Common.{sym, ap, subst, ◌∙◌, arith, ltb-true}
use Rattle.std.proofs.Math.IntN.{+ℤ_idr}
use Rattle.std.specs.Int.Signed.{lt_z}
use Rattle.arith.specs.Gap.{gap}
use Rattle.arith.specs.Laws.Gap.{gap_abs}
use Rattle.text.specs.Letters.{letters}
use Rattle.text.specs.Text.{sign}

pub below_sign : (z : ℤ) → lt_z z (pos 0) ≡ true → sign z ≡ letters "-"
unfolding sign
below_sign (pos n) e = absurd (omega (arith, ltb-true n 0 e))
below_sign (negsuc n) e = refl

pub above_sign : (z : ℤ) → lt_z z (pos 0) ≡ false → sign z ≡ []
unfolding sign
above_sign (pos n) e = refl
above_sign (negsuc n) e = absurd (subst T e tt)

pub size_gaps : (z : ℤ) → gap z (pos 0) + gap (pos 0) z ≡ nat_abs z
size_gaps z = sym (gap_abs z (pos 0)) ∙ ap nat_abs (+ℤ_idr z)

pub ruleset signs = (below_sign, above_sign)
