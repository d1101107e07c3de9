-- Document 02, order 1, for every log and all marks. That figures are the papers' is Laws/Examples.antt of this crate
-- and of `text`: -5 is `-0.05`.
use Rattle.std.specs.Prelude.{◌≡◌, ℕ, ◌+◌, ◌*◌, ◌-◌, ◌/◌, ◌<◌, ◌≤◌, List, [], ◌∷◌, ◌++◌, eqb, ℤ, pos, length, get_or, take, replicate}
use Rattle.std.proofs.Math.Path.{ap}
use Rattle.std.proofs.Common.{◌∙◌, arith, get_or-append-add}
use Rattle.std.proofs.Math.Bool.{cond}
use Rattle.std.proofs.Math.Dec.{ltb}
use Rattle.std.specs.Int.Signed.{mag}
use Rattle.std.proofs.Math.ListN.{drop}
use Rattle.std.proofs.Math.Seq.{take-append_seam, get_or-drop}
use Rattle.laws.specs.Checks.{◌gives◌}
use Rattle.laws.specs.Lists.{joined}
use Rattle.laws.specs.Outcome.{accepted}
use Rattle.laws.specs.Laws.Checks.{then_none}
use Rattle.laws.specs.Laws.First.{any_cong}
use Rattle.laws.specs.Laws.Joined.{joined_cong}
use Rattle.laws.specs.Laws.Passing.{Passing}
use Rattle.run_log.specs.Log.{row_count, row_at, marked_rows, mark_values_refusal}
use Rattle.run_log.specs.Laws.Marks.{is_marked, marked_in_order}
use Rattle.sheet_lines.specs.Line.{padded, field_width, field_text, row_line}
use Rattle.sheet_lines.specs.Laws.Fields.{field_whole}
use Rattle.sheet_lines.specs.Laws.Lines.{Lined}
use Rattle.sheet_pages.specs.Pages.{page_count, page_rows, pages_of, sheet_of}
use Rattle.sheet_pages.specs.Call.{handed_refusal, sheet_refusal, SheetLeft}
use Rattle.sheet_pages.specs.Laws.Pages.{all_rows, full_page, pages_lined}
use Rattle.sheet_pages.specs.Laws.Places.{run_read}
use Rattle.sheet_pages.specs.Laws.Left.{accepted_left, room_fits}

module _ (log : List ℤ) (marks : List ℕ) where
  -- the rows of a sheet, and how many there are
  abbrev pub rows_of : List ℕ
  rows_of = marked_rows marks (row_count log)

  abbrev pub runs : ℕ
  runs = length rows_of

  -- "each of 101 characters and a line feed": every line has 102 bytes, the last of which is a line feed
  pub each_line : Lined (sheet_of log marks) (runs + 2 * page_count runs)
  unfolding sheet_of
  each_line = pages_lined log rows_of

  pub sheet_long : length (sheet_of log marks) ≡ 102 * (runs + 2 * page_count runs)
  sheet_long = each_line.long

  -- "shortlisted runs by row number": every marked row once, in order, and no other row
  pub rows_are_marked : Passing (is_marked marks) (row_count log) rows_of
  rows_are_marked = marked_in_order marks (row_count log)

  -- the pages print these rows, one page after the other
  pub pages_hold_rows : joined (page_rows rows_of) (page_count runs) ≡ rows_of
  pages_hold_rows = all_rows rows_of

  -- run number i of these is line i + 2 × (i / 50) + 1 of the sheet, lines counted from 0
  pub run_stands : (i : ℕ) → i < runs
      → take 102 (drop (102 * (i + 2 * (i / 50) + 1)) (sheet_of log marks))
      ≡ row_line (get_or rows_of i 0) (row_at log (get_or rows_of i 0))
  unfolding sheet_of
  run_stands i h = run_read log rows_of i h

  -- "the next 50 .. (fewer only on the last page)"
  pub page_full : (p : ℕ) → p + 1 < page_count runs → length (page_rows rows_of p) ≡ 50
  page_full p h = full_page rows_of p h

  -- "all to the right": whatever number of 32 bits a column holds, its text is no longer than its places, so that it
  -- stands there whole behind spaces
  pub never_cut : (r j : ℕ) → r < 1024 → mag (get_or (row_at log r) (j - 1) (pos 0)) < 2147483648
      → let t = field_text r (row_at log r) j in
      padded (field_width j) t ≡ replicate (field_width j - length t) 32 ++ t
  never_cut r j h f = field_whole r (row_at log r) j (omega arith) f

  -- marks past the rows are not looked at
  pub marks_past : (marks' : List ℕ) → ((r : ℕ) → r < row_count log → get_or marks r 0 ≡ get_or marks' r 0)
      → (sheet_of log marks ≡ sheet_of log marks') × (mark_values_refusal log marks ≡ mark_values_refusal log marks')
  unfolding sheet_of marked_rows mark_values_refusal
  marks_past marks' h = (
    ap (pages_of log)
        (joined_cong (λ r. cond (eqb (get_or marks r 0) 1) (r ∷ []) [])
        (λ r. cond (eqb (get_or marks' r 0) 1) (r ∷ []) [])
        (row_count log) (λ r b. ap (λ (k : ℕ). cond (eqb k 1) (r ∷ []) []) (h r b))),
    ap (λ (t : _). t gives 14)
        (any_cong (λ r. ltb 1 (get_or marks r 0)) (λ r. ltb 1 (get_or marks' r 0)) (row_count log)
        (λ r b. ap (λ (k : ℕ). ltb 1 k) (h r b))),
  )

  -- "The length comes back; bytes past it are unchanged."
  pub record SheetPrinted (out out' : List ℕ) (n : ℕ) : Type 0 where
    pub length_is : n ≡ 102 * (runs + 2 * page_count runs)
    pub room : n ≤ length out
    pub sheet : take n out' ≡ sheet_of log marks
    pub past : (i : ℕ) → get_or out' (n + i) 0 ≡ get_or out (n + i) 0

  pub sheet_printed : (out out' : List ℕ) (n : ℕ)
      → SheetLeft (sheet_refusal log marks (length out)) (sheet_of log marks) out (accepted n) out'
      → SheetPrinted out out' n
  unfolding sheet_refusal
  sheet_printed out out' n a =
      let p = accepted_left _ (sheet_of log marks) out out' n a in
      let fits = room_fits (sheet_of log marks) (length out) (then_none (handed_refusal log marks) _ p.0).1 in
      let rest = drop (length (sheet_of log marks)) out in
      record {
        length_is = p.1 ∙ sheet_long;
        room = omega (arith, p.1);
        sheet = rw (p.1, p.2) (take-append_seam (sheet_of log marks) rest);
        past = λ i. rw (p.1, p.2)
            (get_or-append-add (sheet_of log marks) rest i 0 ∙ get_or-drop (length (sheet_of log marks)) out i 0);
      }
