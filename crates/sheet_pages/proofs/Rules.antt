-- What the proofs of several functions use.
use Rattle.std.specs.Prelude.{◌≡◌, refl, ℕ, zero, suc, ◌+◌, ◌*◌, ◌-◌, ◌/◌, ◌%◌, ◌<◌, ◌≤◌, min, max, List, [], ◌++◌, ℤ, length, get_or, take, drop}
use Rattle.std.proofs.Common.{sym, ap, ◌∙◌, arith, add-one}
use Rattle.std.proofs.lemmas.List.{take_more}
use Rattle.std.proofs.lemmas.Bool.Decides.{nat_tests}
use Rattle.laws.specs.Lists.{joined}
use Rattle.run_log.specs.Log.{row_at, marked_rows}
use Rattle.run_log.specs.Laws.Marks.{marked_in_order}
use Rattle.output.specs.Writes.{Contents, with_bytes}
use Rattle.output.specs.Laws.Writes.{writing, with_none, with_then}
use Rattle.sheet_lines.specs.Line.{row_line}
use Rattle.sheet_pages.specs.Pages.{lines_of, page_count, page_rows}
use Rattle.sheet_pages.specs.Inside.{picked, page_end}
use Rattle.sheet_pages.specs.Laws.Pages.{count_none, count_some, count_enough}
use Rattle.sheet_pages.specs.Laws.Turns.{lines_more, page_part}

-- ---- the lines of some rows: none, and one more

pub no_line : (c : Contents) (log : List ℤ) → with_bytes c (lines_of log []) ≡ c
unfolding lines_of
no_line c log = with_none c

pub one_line : (c : Contents) (log : List ℤ) (rows : List ℕ) (i : ℕ) → i < length rows
    → with_bytes c (lines_of log (take (i + 1) rows))
    ≡ with_bytes (with_bytes c (lines_of log (take i rows))) (row_line (get_or rows i 0) (row_at log (get_or rows i 0)))
one_line c log rows i h =
    let r = get_or rows i 0 in
    ap (λ (k : List ℕ). with_bytes c (lines_of log k)) (take_more rows i 0 h)
    ∙ ap (with_bytes c) (sym (lines_more log r (take i rows)))
    ∙ with_then c (lines_of log (take i rows)) (row_line r (row_at log r))

-- ---- the marked rows: none, and those up to one more

pub none_marked : (marks : List ℕ) → marked_rows marks 0 ≡ []
unfolding marked_rows joined
none_marked marks = refl

pub one_marked : (marks : List ℕ) (r : ℕ) → marked_rows marks (r + 1) ≡ marked_rows marks r ++ picked marks r
unfolding marked_rows joined
one_marked marks r = rw add-one refl

pub few_marked : (marks : List ℕ) (n : ℕ) → length (marked_rows marks n) ≤ n
few_marked marks n = (marked_in_order marks n).few

pub ruleset listed = (none_marked, one_marked, few_marked)

-- ---- pages

pub count_is : (s : ℕ) → max (s / 50 + min 1 (s % 50)) 1 ≡ page_count s
count_is zero = rw count_none refl
count_is (suc s) = rw (sym (count_some (suc s) (λ e. omega arith))) (omega arith)

-- where a page of so many rows ends
end_is : (from s : ℕ) → from ≤ s → min s (from + 50) ≡ page_end from s
unfolding page_end
end_is from s h = grind (arith, nat_tests)

pub page_slice : (rows : List ℕ) (p : ℕ) → 50 * p ≤ length rows
    → take (min (length rows) (50 * p + 50) - 50 * p) (drop (50 * p) rows) ≡ page_rows rows p
page_slice rows p h =
    ap (λ (k : ℕ). take (k - 50 * p) (drop (50 * p) rows)) (end_is (50 * p) (length rows) h) ∙ page_part rows p h

-- the pages before the last are full
pub page_begun : (s p : ℕ) → p < page_count s → 50 * p ≤ s
page_begun s p h = let e = count_enough s in omega (arith, h, e.one, e.full)

pub ruleset pages = (writing, no_line, one_line, count_is, page_slice, page_begun)
