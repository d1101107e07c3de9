-- Each text of a line fits its places, whatever the figures.
use Rattle.std.specs.Prelude.{◌≡◌, List, ◌++◌, ℤ, pos, length, get_or, replicate}
use Rattle.std.proofs.Common.{length-append}
use Prim.Native.Nat.{ℕ, zero, suc, ◌-◌, ◌<◌, ◌≤◌}
use native.Mathlib.Omega.{arith}
use Rattle.std.proofs.lemmas.Grind.{common_steps}
use Rattle.std.specs.Int.Signed.{mag}
use Rattle.text.specs.Laws.Text.{decimal_short, value_short, hundredths_short}
use Rattle.sheet_lines.specs.Line.{padded, field_width, field_text, foot_text}

-- w places, whatever the text
pub padded_long : (w : ℕ) (t : List ℕ) → length (padded w t) ≡ w
unfolding padded
padded_long w t = grind (arith, common_steps)

-- a text that fits stands there whole
pub padded_whole : (w : ℕ) (t : List ℕ) → length t ≤ w → padded w t ≡ replicate (w - length t) 32 ++ t
unfolding padded
padded_whole w t h = let e : length t - w ≡ 0 = omega arith in rw e

-- ---- no figure overflows its places

module _ (r : ℕ) (row : List ℤ) where
  -- the value that field j shows, if any, is one of 32 bits
  abbrev pub Fits : ℕ → Type 0
  Fits j = mag (get_or row (j - 1) (pos 0)) < 2147483648

  pub field_fits : (j : ℕ) → r < 10000 → Fits j → length (field_text r row j) ≤ field_width j
  unfolding field_text field_width
  field_fits zero h f = decimal_short 3 r h
  field_fits (suc zero) h f = let s = hundredths_short (get_or row 0 (pos 0)) f in omega arith
  field_fits (suc (suc j)) h f =
      let e : suc (suc j) - 1 ≡ suc j = omega arith in
      let s = value_short (get_or row (suc j) (pos 0)) (rw e at f) in omega arith

  -- "all to the right": each text stands whole at the right end of its places
  pub field_whole : (j : ℕ) → r < 10000 → Fits j
      → padded (field_width j) (field_text r row j)
      ≡ replicate (field_width j - length (field_text r row j)) 32 ++ field_text r row j
  field_whole j h f = padded_whole (field_width j) (field_text r row j) (field_fits j h f)

  -- the text of a field, by where its value was read
  module _ (j : ℕ) where
    pub number_short : j ≡ 0 → r < 18446744073709551616 → length (field_text r row j) ≤ 20
    unfolding field_text
    number_short e h = rw e (decimal_short 19 r (omega arith))

    pub hours_short : j ≡ 1 → mag (get_or row 0 (pos 0)) < 2147483648 → length (field_text r row j) ≤ 20
    unfolding field_text
    hours_short e f = rw e (let s = hundredths_short (get_or row 0 (pos 0)) f in omega arith)

  pub column_short : (j : ℕ) → (j ≡ 0 → ⊥) → (j ≡ 1 → ⊥) → Fits j → length (field_text r row j) ≤ 20
  unfolding field_text
  column_short zero a b f = absurd (a (omega arith))
  column_short (suc zero) a b f = absurd (b (omega arith))
  column_short (suc (suc j)) a b f =
      let e : suc (suc j) - 1 ≡ suc j = omega arith in
      let s = value_short (get_or row (suc j) (pos 0)) (rw e at f) in omega arith

pub foot_short : (page pages : ℕ) → page < 18446744073709551616 → pages < 18446744073709551616
    → length (foot_text page pages) ≤ 49
unfolding foot_text
foot_short page pages h i =
    simp length-append (omega (arith, decimal_short 19 page (omega arith), decimal_short 19 pages (omega arith)))

pub foot_whole : (page pages : ℕ) → page < 18446744073709551616 → pages < 18446744073709551616
    → padded 101 (foot_text page pages) ≡ replicate (101 - length (foot_text page pages)) 32 ++ foot_text page pages
foot_whole page pages h i =
    padded_whole 101 (foot_text page pages) (let s = foot_short page pages h i in omega arith)
