-- One turn of each loop, and each case of a function inside the crate.
use Rattle.std.specs.Prelude.{◌≡◌, refl, ℕ, ◌+◌, ◌*◌, ◌-◌, ◌≤◌, Bool, true, false, cond, List, [], ◌∷◌, ◌++◌, ltb, ℤ, length, take, drop}
use Rattle.std.proofs.Common.{sym, ap, ◌∙◌, arith, append_assoc, append-nil, length-drop, take_all, ltb-true}
use Rattle.run_log.specs.Log.{row_at}
use Rattle.sheet_lines.specs.Line.{row_line}
use Rattle.sheet_pages.specs.Pages.{lines_of, page_rows}
use Rattle.sheet_pages.specs.Inside.{page_end}

pub lines_more : (log : List ℤ) (r : ℕ) (rows : List ℕ)
    → lines_of log rows ++ row_line r (row_at log r) ≡ lines_of log (rows ++ r ∷ [])
unfolding lines_of
lines_more log r [] = sym (append-nil (row_line r (row_at log r)))
lines_more log r (s ∷ rows) =
    append_assoc (row_line s (row_at log s)) (lines_of log rows) (row_line r (row_at log r))
    ∙ ap (λ (x : List ℕ). row_line s (row_at log s) ++ x) (lines_more log r rows)

-- the rows from one place to another are a page's
pub page_part : (rows : List ℕ) (p : ℕ) → 50 * p ≤ length rows
    → take (page_end (50 * p) (length rows) - 50 * p) (drop (50 * p) rows) ≡ page_rows rows p
unfolding page_end page_rows
page_part rows p h = by_room (ltb (length rows - 50 * p) 50) refl
  where
    by_room : (t : Bool) → ltb (length rows - 50 * p) 50 ≡ t
        → take (cond t (length rows) (50 * p + 50) - 50 * p) (drop (50 * p) rows) ≡ take 50 (drop (50 * p) rows)
    by_room true e =
        let l = ltb-true (length rows - 50 * p) 50 e in
        let n = length-drop (50 * p) rows in
        take_all (length rows - 50 * p) (drop (50 * p) rows) (omega (arith, n))
        ∙ sym (take_all 50 (drop (50 * p) rows) (omega (arith, n)))
    by_room false e = let q : 50 * p + 50 - 50 * p ≡ 50 = omega arith in rw q
