-- Pages: how many, their rows, their lines, the length of a sheet.
use Rattle.std.specs.Prelude.{◌≡◌, refl, ℤ, drop}
use Rattle.std.proofs.Common.{sym, ◌∙◌, length-take, length-drop, take_all, ne_eqb}
use Rattle.std.proofs.Math.Path.{ap}
use Prim.Native.Nat.{ℕ, zero, suc, ◌+◌, ◌*◌, ◌-◌, ◌/◌, ◌<◌, ◌≤◌}
use native.Mathlib.Omega.{arith}
use mathlib.Core.List.{List, [], ◌∷◌, ◌++◌}
use Rattle.std.proofs.Math.ListN.{length, take, length-append}
use Rattle.std.proofs.Math.Seq.{take-add}
use Rattle.laws.specs.Lists.{joined}
use Rattle.arith.specs.Ceil.{ceil_div}
use Rattle.arith.specs.Laws.Ceil.{ceil_le, le_ceil}
use Rattle.run_log.specs.Log.{row_at}
use Rattle.sheet_lines.specs.Line.{heading_line, row_line, foot_line}
use Rattle.sheet_lines.specs.Laws.Lines.{Lined, lined_none, lined_then, row_lined, heading_lined, foot_lined}
use Rattle.sheet_pages.specs.Pages.{lines_of, page_count, page_rows, page_of, pages_of}

-- ---- how many pages

pub count_none : page_count 0 ≡ 1
unfolding page_count
count_none = refl

pub count_some : (s : ℕ) → (s ≡ 0 → ⊥) → (s - 1) / 50 + 1 ≡ page_count s
unfolding page_count
count_some s h =
    let most = ceil_le s 50 ((s - 1) / 50 + 1) (omega arith) (omega arith) in
    let least = le_ceil s 50 (ceil_div s 50) (omega arith) (omega arith) in
    rw (ne_eqb s 0 h) (omega arith)

-- the pages before the last are full, and the last has room for the rest
pub record Enough (s pages : ℕ) : Type 0 where
  pub one : 0 < pages
  pub full : 50 * (pages - 1) ≤ s
  pub all : s ≤ 50 * pages

pub count_enough : (s : ℕ) → Enough s (page_count s)
count_enough zero = rw count_none (record { one = omega arith; full = omega arith; all = omega arith })
count_enough (suc s) =
    rw (sym (count_some (suc s) (λ e. omega arith)))
    (record { one = omega arith; full = omega arith; all = omega arith })

pub count_few : (s : ℕ) → s ≤ 1024 → page_count s ≤ 21
count_few s h = let e = count_enough s in omega (arith, e.one, e.full)

-- ---- the rows of the pages are the rows, one page after the other

rows_up_to : (rows : List ℕ) (p : ℕ) → joined (page_rows rows) p ≡ take (50 * p) rows
unfolding joined page_rows
rows_up_to rows zero = refl
rows_up_to rows (suc p) =
    let e : 50 * suc p ≡ 50 * p + 50 = omega arith in
    rw (e, rows_up_to rows p) (sym (take-add (50 * p) 50 rows))

pub all_rows : (rows : List ℕ) → joined (page_rows rows) (page_count (length rows)) ≡ rows
all_rows rows =
    rows_up_to rows (page_count (length rows))
    ∙ take_all (50 * page_count (length rows)) rows (count_enough (length rows)).all

pub full_page : (rows : List ℕ) (p : ℕ) → p + 1 < page_count (length rows) → length (page_rows rows p) ≡ 50
unfolding page_rows
full_page rows p h =
    let e = count_enough (length rows) in
    length-take 50 (drop (50 * p) rows) ∙ omega (arith, length-drop (50 * p) rows, e.full)

-- ---- their lines

module _ (log : List ℤ) where
  lines_lined : (rows : List ℕ) → Lined (lines_of log rows) (length rows)
  unfolding lines_of
  lines_lined [] = lined_none
  lines_lined (r ∷ rows) =
      let e : suc (length rows) ≡ 1 + length rows = omega arith in
      rw e (lined_then (row_line r (row_at log r)) (lines_of log rows) 1 (length rows) (row_lined r (row_at log r))
      (lines_lined rows))

  module _ (rows : List ℕ) where
    page_lined : (p : ℕ) → Lined (page_of log rows p) (length (page_rows rows p) + 2)
    unfolding page_of
    page_lined p =
        let n = length (page_rows rows p) in
        let e : n + 2 ≡ 1 + n + 1 = omega arith in
        rw e (lined_then (heading_line ++ lines_of log (page_rows rows p))
        (foot_line (p + 1) (page_count (length rows)))
        (1 + n) 1
        (lined_then heading_line (lines_of log (page_rows rows p)) 1 n heading_lined (lines_lined (page_rows rows p)))
        (foot_lined (p + 1) (page_count (length rows))))

    -- the lines of the first p pages
    pub up_to : (p : ℕ) → Lined (joined (page_of log rows) p) (length (take (50 * p) rows) + 2 * p)
    unfolding joined page_rows
    up_to zero = lined_none
    up_to (suc p) =
        let e : 50 * suc p ≡ 50 * p + 50 = omega arith in
        let n = length (take (50 * p) rows) in
        let long =
        ap length (ap (λ (k : ℕ). take k rows) e ∙ take-add (50 * p) 50 rows)
        ∙ length-append (take (50 * p) rows) (take 50 (drop (50 * p) rows)) in
        let sum : length (take (50 * suc p) rows) + 2 * suc p ≡ (n + 2 * p) + (length (page_rows rows p) + 2) =
        omega (arith, long) in
        rw sum (lined_then (joined (page_of log rows) p) (page_of log rows p) (n + 2 * p)
        (length (page_rows rows p) + 2) (up_to p) (page_lined p))

    -- a line for each run, and two for each page
    pub pages_lined : Lined (pages_of log rows) (length rows + 2 * page_count (length rows))
    unfolding pages_of
    pages_lined =
        let q = page_count (length rows) in
        rw (take_all (50 * q) rows (count_enough (length rows)).all) at (up_to q)

    pub pages_long : length (pages_of log rows) ≡ 102 * (length rows + 2 * page_count (length rows))
    pages_long = pages_lined.long

    -- 21 pages for 1,024 runs
    pub pages_short : length rows ≤ 1024 → length (pages_of log rows) ≤ 108732
    pages_short h = omega (arith, pages_long, count_few (length rows) h)
