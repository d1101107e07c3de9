-- A part of a table, row by row: what the loops over a log go by.
use Rattle.std.specs.Prelude.{◌≡◌, List, length, set}
use Rattle.std.proofs.Math.Path.{refl}
use Rattle.std.proofs.Common.{◌∙◌, add-one}
use Prim.Native.Nat.{ℕ, zero, suc, ◌+◌, ◌*◌}
use Rattle.std.proofs.Math.ListN.{length-set}
use Rattle.level_table.specs.Filled.{with_part}

module _ (f : ℕ → ℕ) (k : ℕ) (t : List ℕ) where
  pub with_part_more : (r : ℕ) → set (with_part f k r t) (8 * r + k) (f r) ≡ with_part f k (r + 1) t
  unfolding with_part
  with_part_more r = rw (add-one r)

  pub with_part_length : (n : ℕ) → length (with_part f k n t) ≡ length t
  unfolding with_part
  with_part_length zero = refl
  with_part_length (suc n) = length-set (with_part f k n t) (8 * n + k) (f n) ∙ with_part_length n

pub with_part_cong : (f g : ℕ → ℕ) (k : ℕ) (t : List ℕ) (n : ℕ) → ((r : ℕ) → f r ≡ g r)
    → with_part f k n t ≡ with_part g k n t
unfolding with_part
with_part_cong f g k t zero h = refl
with_part_cong f g k t (suc n) h = rw (with_part_cong f g k t n h, h n)
