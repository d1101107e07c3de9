-- The level table of a log: its length, where it was stored, and its levels, which are those of the runs.
use Rattle.std.specs.Prelude.{◌≡◌, Bool, true, false, ℤ, length, get_or, take, drop}
use Rattle.std.proofs.Math.Path.{refl}
use Rattle.std.proofs.Common.{sym, ap, ◌∙◌, mod-eq_of_lt, length-append, take_at, length-take-le}
use Prim.Native.Nat.{ℕ, ◌+◌, ◌*◌, ◌/◌, ◌%◌, ◌<◌, ◌≤◌}
use native.Mathlib.Omega.{arith}
use mathlib.Core.List.{List, ◌++◌}
use Rattle.std.proofs.Math.ListN.{replicate}
use Rattle.std.proofs.lemmas.List.{length-replicate}
use Rattle.std.proofs.lemmas.List.Edits.{sets}
use Rattle.std.proofs.Math.Seq.{length-sets}
use borrow.Author.Tests.{le-ltb, ltb-true, ltb-false}
use Rattle.laws.specs.Laws.Joined.{singles_at, singles_length}
use Rattle.laws.specs.Laws.Stores.{stored_at, stored_before, take_replicate}
use Rattle.run_log.specs.Log.{row_count, row_at}
use Rattle.preference.specs.Valid.{list_refusal}
use Rattle.preference.specs.Parts.{levels, max_levels, row_refusal}
use Rattle.preference.specs.Laws.Parts.{within_at, at_most_at, max_levels_small, levels_within}
use Rattle.preference.specs.declared.PreferenceList.{PreferenceList}
use Rattle.level_table.specs.Table.{part_at, plane_of, is_wide, table_length, with_planes, table_of, with_table}

-- ---- its length

-- eight numbers to a row, and the same behind the longest plane where there are more than eight parts
pub table_narrow : (l : PreferenceList) (log : List ℤ) → is_wide l ≡ false → table_length l log ≡ 8 * row_count log
unfolding table_length
table_narrow l log e = rw e

pub table_wide : (l : PreferenceList) (log : List ℤ) → is_wide l ≡ true → table_length l log ≡ 8192 + 8 * row_count log
unfolding table_length
table_wide l log e = rw e

-- at most eight parts where there is one plane, and more where there are two
pub narrow_few : (l : PreferenceList) → is_wide l ≡ false → length (max_levels l) ≤ 8
unfolding is_wide
narrow_few l e = ltb-false 8 (length (max_levels l)) e

pub wide_more : (l : PreferenceList) → is_wide l ≡ true → 8 < length (max_levels l)
unfolding is_wide
wide_more l e = ltb-true 8 (length (max_levels l)) e

plane_long : (l : PreferenceList) (log : List ℤ) (first : ℕ) → length (plane_of l log first) ≡ 8 * row_count log
unfolding plane_of
plane_long l log first = singles_length (λ (i : ℕ). part_at l log (first + i % 8) (i / 8)) (8 * row_count log)

pub planes_long : (wide : Bool) (l : PreferenceList) (log : List ℤ) (table : List ℕ)
    → length (with_planes wide l log table) ≡ length table
planes_long true l log table =
    length-sets (sets table 0 (plane_of l log 0)) 8192 (plane_of l log 8) ∙ length-sets table 0 (plane_of l log 0)
planes_long false l log table = length-sets table 0 (plane_of l log 0)

zeros_long : (n : ℕ) → length (replicate {A = ℕ} n 0) ≡ n
zeros_long n = length-replicate n 0

pub table_long : (l : PreferenceList) (log : List ℤ) → length (table_of l log) ≡ table_length l log
unfolding table_of
table_long l log =
    planes_long (is_wide l) l log (replicate (table_length l log) 0) ∙ zeros_long (table_length l log)

-- room for every table of at most 1,024 rows
pub table_fits : (l : PreferenceList) (log : List ℤ) → row_count log ≤ 1024 → table_length l log ≤ 16384
table_fits l log h = go (is_wide l) refl
  where
    go : (t : Bool) → is_wide l ≡ t → table_length l log ≤ 16384
    go true e = omega (arith, table_wide l log e)
    go false e = omega (arith, table_narrow l log e)

-- ---- filled into the front of a list of zeros, which is handed on

pub handed_long : (n m : ℕ) → n ≤ m → length (take n (replicate {A = ℕ} m 0)) ≡ n
handed_long n m h = length-take-le n (replicate m 0) (omega (arith, zeros_long m))

module _ (l : PreferenceList) (log : List ℤ) (m n : ℕ) (e : n ≡ table_length l log) (h : n ≤ m)
    (last : List ℕ) (f : last ≡ with_table l log (take n (replicate m 0))) where
  last_is : last ≡ table_of l log
  unfolding with_table table_of
  last_is =
      let long = zeros_long (table_length l log) in
      f ∙ rw (take_replicate n m 0 h, e, long, le-ltb (table_length l log) (table_length l log) (omega arith))

  last_long : length last ≡ n
  last_long = ap length last_is ∙ table_long l log ∙ sym e

  pub handed_fits : n ≤ length (last ++ drop n (replicate m 0))
  handed_fits = rw (length-append last (drop n (replicate m 0))) (omega (arith, last_long))

  pub table_handed : take n (last ++ drop n (replicate m 0)) ≡ table_of l log
  table_handed = take_at last (drop n (replicate m 0)) n last_long ∙ last_is

-- ---- its levels

-- a row that its checks accept stands in the table with its level vector
module _ (l : PreferenceList) (log : List ℤ) (e : list_refusal l ≡ 0) (r : ℕ)
    (f : row_refusal l (row_at log r) ≡ 0) where
  level_small : (k : ℕ) → get_or (levels l (row_at log r)) k 0 < 65536
  level_small k =
      let w = levels_within l e (row_at log r) f in
      let top = at_most_at 65535 (max_levels l) (max_levels_small l e) k in
      omega (arith, within_at (max_levels l) (levels l (row_at log r)) w k, top)

  plane_levels : (first k : ℕ) → r < row_count log → k < 8
      → get_or (plane_of l log first) (8 * r + k) 0 ≡ get_or (levels l (row_at log r)) (first + k) 0
  unfolding plane_of
  plane_levels first k h j =
      let p : (8 * r + k) / 8 ≡ r = omega arith in
      let q : (8 * r + k) % 8 ≡ k = omega arith in
      singles_at (λ (i : ℕ). part_at l log (first + i % 8) (i / 8)) (8 * row_count log) (8 * r + k) (omega arith)
      ∙ rw (p, q) (mod-eq_of_lt (level_small (first + k)))

  module _ (k : ℕ) (h : r < row_count log) (j : k < 8) where
    first_plane : (t : List ℕ) → 8 * row_count log ≤ length t
        → get_or (sets t 0 (plane_of l log 0)) (8 * r + k) 0 ≡ get_or (levels l (row_at log r)) k 0
    first_plane t b =
        let n = plane_long l log 0 in
        let i : 0 + (8 * r + k) ≡ 8 * r + k = omega arith in
        rw i at (stored_at t 0 (plane_of l log 0) (8 * r + k) (omega arith) (omega arith))
        ∙ plane_levels 0 k h j
        ∙ ap (λ (p : ℕ). get_or (levels l (row_at log r)) p 0) (omega arith)

    -- the first eight parts, and those behind them
    pub table_levels : row_count log ≤ 1024
        → get_or (table_of l log) (8 * r + k) 0 ≡ get_or (levels l (row_at log r)) k 0
    unfolding table_of
    table_levels few = go (is_wide l) refl
      where
        zeros : List ℕ
        zeros = replicate (table_length l log) 0

        go : (t : Bool) → is_wide l ≡ t
            → get_or (with_planes t l log zeros) (8 * r + k) 0 ≡ get_or (levels l (row_at log r)) k 0
        go true w =
            let n = zeros_long (table_length l log) in
            stored_before (sets zeros 0 (plane_of l log 0)) 8192 (plane_of l log 8) (8 * r + k) (omega arith)
            ∙ first_plane zeros (omega (arith, table_wide l log w))
        go false w =
            let n = zeros_long (table_length l log) in
            first_plane zeros (omega (arith, table_narrow l log w))

    pub table_more : is_wide l ≡ true
        → get_or (table_of l log) (8192 + 8 * r + k) 0 ≡ get_or (levels l (row_at log r)) (8 + k) 0
    unfolding table_of
    table_more w =
        let zeros : List ℕ = replicate (table_length l log) 0 in
        let n = zeros_long (table_length l log) in
        let m = plane_long l log 8 in
        let i : 8192 + 8 * r + k ≡ 8192 + (8 * r + k) = omega arith in
        rw (w, i)
        (stored_at (sets zeros 0 (plane_of l log 0)) 8192 (plane_of l log 8) (8 * r + k)
        (omega (arith, length-sets zeros 0 (plane_of l log 0), table_wide l log w)) (omega arith)
        ∙ plane_levels 8 k h j)
