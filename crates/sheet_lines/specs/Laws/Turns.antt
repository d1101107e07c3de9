-- One turn of each loop, and each case of a function.
use Rattle.std.specs.Prelude.{◌≡◌, refl, ℕ, zero, suc, ◌+◌, ◌-◌, List, [], ◌∷◌, ◌++◌, ℤ, pos, length, get_or, take, drop, replicate}
use Rattle.std.proofs.Common.{ap, arith, length-drop, take_all}
use Rattle.std.proofs.lemmas.List.{replicate-append-replicate}
use Rattle.text.specs.Text.{signed}
use Rattle.sheet_lines.specs.Line.{field_width, field_text}

-- how long the text of a field is at most: a row number of 64 bits has 20 figures
abbrev pub longest_text : ℕ
longest_text = 20

-- n spaces
abbrev pub spaces : ℕ → List ℕ
spaces n = replicate n 32

pub spaces_more : (i : ℕ) → spaces i ++ (32 ∷ []) ≡ spaces (i + 1)
spaces_more i = replicate-append-replicate i 1 32

pub part_from : (t : List ℕ) (from k : ℕ) → from ≡ k → take (length t - from) (drop from t) ≡ drop k t
part_from t from k e = rw e (take_all (length t - k) (drop k t) (omega (arith, length-drop k t)))

pub width_other : (j : ℕ) → (j ≡ 0 → ⊥) → (j ≡ 1 → ⊥) → 12 ≡ field_width j
unfolding field_width
width_other zero a b = absurd (a refl)
width_other (suc zero) a b = absurd (b refl)
width_other (suc (suc j)) a b = refl

pub text_other : (r : ℕ) (row : List ℤ) (j : ℕ) → (j ≡ 0 → ⊥) → (j ≡ 1 → ⊥)
    → signed (get_or row (j - 1) (pos 0)) ≡ field_text r row j
unfolding field_text
text_other r row zero a b = absurd (a refl)
text_other r row (suc zero) a b = absurd (b refl)
text_other r row (suc (suc j)) a b =
    let e : suc (suc j) - 1 ≡ suc j = omega arith in ap (λ (k : ℕ). signed (get_or row k (pos 0))) e

pub part_rest : (t : List ℕ) (k : ℕ) → take (length t - k) (drop k t) ≡ drop k t
part_rest t k = part_from t k k refl
