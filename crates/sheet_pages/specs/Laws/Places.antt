-- Where each line of a sheet stands.
use Rattle.std.specs.Prelude.{◌≡◌, ℤ, take, drop}
use Rattle.std.proofs.Math.Path.{refl, ap}
use Rattle.std.proofs.Common.{sym, ◌∙◌, not-suc-le-zero, eq-or-lt_of_le, le_of_suc-le-suc, ⊎_elim, take_at, drop_at}
use Prim.Native.Nat.{ℕ, zero, suc, ◌+◌, ◌*◌, ◌/◌, ◌%◌, ◌<◌, ◌≤◌}
use native.Mathlib.Omega.{arith}
use mathlib.Core.List.{List, [], ◌∷◌, ◌++◌, append_assoc, append-nil}
use Rattle.std.proofs.Math.ListN.{length, get_or, length-append, length-take, length-drop}
use Rattle.std.proofs.Math.Seq.{get_or-take, get_or-drop}
use Rattle.laws.specs.Lists.{joined}
use Rattle.run_log.specs.Log.{row_at}
use Rattle.sheet_lines.specs.Line.{heading_line, row_line, foot_line}
use Rattle.sheet_lines.specs.Laws.Lines.{row_lined, heading_lined}
use Rattle.sheet_pages.specs.Pages.{lines_of, page_count, page_rows, page_of, pages_of}
use Rattle.sheet_pages.specs.Laws.Pages.{count_enough, up_to}

-- y stands in x at a place
record Within (x y : List ℕ) (at : ℕ) : Type 0 where
  first : List ℕ
  last : List ℕ
  is : x ≡ first ++ (y ++ last)
  long : length first ≡ at

within_read : (x y : List ℕ) (at : ℕ) → Within x y at → take (length y) (drop at x) ≡ y
within_read x y at w =
    ap (λ (z : List ℕ). take (length y) (drop at z)) w.is
    ∙ ap (take (length y)) (drop_at w.first (y ++ w.last) at w.long)
    ∙ take_at y w.last (length y) refl

within_then : (x y z : List ℕ) (a b : ℕ) → Within x y a → Within y z b → Within x z (a + b)
within_then x y z a b v w =
    record {
      first = v.first ++ w.first;
      last = w.last ++ v.last;
      is = v.is ∙ ap (λ (t : List ℕ). v.first ++ (t ++ v.last)) w.is ∙ simp append_assoc;
      long = length-append v.first w.first ∙ omega (arith, v.long, w.long);
    }

within_more : (x y t : List ℕ) (a : ℕ) → Within x y a → Within (x ++ t) y a
within_more x y t a w =
    record {
      first = w.first;
      last = w.last ++ t;
      is = ap (λ (z : List ℕ). z ++ t) w.is ∙ simp append_assoc;
      long = w.long;
    }

joined_within : (f : ℕ → List ℕ) (n p : ℕ) → p < n → Within (joined f n) (f p) (length (joined f p))
unfolding joined
joined_within f zero p h = absurd (not-suc-le-zero h)
joined_within f (suc n) p h =
    ⊎_elim
    (λ (e : p ≡ n). rw e
    (record {
      first = joined f n;
      last = [];
      is = ap (λ (z : List ℕ). joined f n ++ z) (sym (append-nil (f n)));
      long = refl;
    }))
    (λ (l : p < n). within_more (joined f n) (f p) (f n) (length (joined f p)) (joined_within f n p l))
    (eq-or-lt_of_le (le_of_suc-le-suc h))

module _ (log : List ℤ) where
  -- the line of a row of the log
  abbrev pub line_at : ℕ → List ℕ
  line_at r = row_line r (row_at log r)

  lines_within : (rows : List ℕ) (k : ℕ) → k < length rows
      → Within (lines_of log rows) (line_at (get_or rows k 0)) (102 * k)
  unfolding lines_of
  lines_within [] k h = absurd (not-suc-le-zero h)
  lines_within (r ∷ rows) zero h = record { first = []; last = lines_of log rows; is = refl; long = refl }
  lines_within (r ∷ rows) (suc k) h =
      let w = lines_within rows k (le_of_suc-le-suc h) in
      record {
        first = line_at r ++ w.first;
        last = w.last;
        is = ap (λ (z : List ℕ). line_at r ++ z) w.is ∙ simp append_assoc;
        long = length-append (line_at r) w.first ∙ omega (arith, (row_lined r (row_at log r)).long, w.long);
      }

  module _ (rows : List ℕ) where
    -- a page begins after the lines of the full pages before it
    page_begins : (p : ℕ) → 50 * p ≤ length rows → length (joined (page_of log rows) p) ≡ 102 * (52 * p)
    page_begins p h = (up_to log rows p).long ∙ omega (arith, length-take (50 * p) rows)

    page_lines : (p : ℕ) → Within (page_of log rows p) (lines_of log (page_rows rows p)) 102
    unfolding page_of
    page_lines p =
        record {
          first = heading_line;
          last = foot_line (p + 1) (page_count (length rows));
          is =
              append_assoc heading_line (lines_of log (page_rows rows p))
              (foot_line (p + 1) (page_count (length rows)));
          long = heading_lined.long;
        }

    row_there : (p k : ℕ) → k < 50 → get_or (page_rows rows p) k 0 ≡ get_or rows (50 * p + k) 0
    unfolding page_rows
    row_there p k h = get_or-take 50 (drop (50 * p) rows) k 0 h ∙ get_or-drop (50 * p) rows k 0

    row_on_page : (p k : ℕ) → k < 50 → 50 * p + k < length rows → k < length (page_rows rows p)
    unfolding page_rows
    row_on_page p k l h = omega (arith, length-take 50 (drop (50 * p) rows), length-drop (50 * p) rows)

    -- run number i stands on page i / 50, after i lines of runs, a heading, and heading and foot of each page before
    run_within : (i : ℕ) → i < length rows
        → Within (pages_of log rows) (line_at (get_or rows i 0)) (102 * (i + 2 * (i / 50) + 1))
    unfolding pages_of
    run_within i h =
        let p = i / 50 in
        let k = i % 50 in
        let here : 50 * p + k ≡ i = omega arith in
        let pages = joined (page_of log rows) (page_count (length rows)) in
        let page =
        joined_within (page_of log rows) (page_count (length rows)) p
        (omega (arith, (count_enough (length rows)).all)) in
        let lines =
        within_then pages (page_of log rows p) (lines_of log (page_rows rows p))
        (length (joined (page_of log rows) p)) 102
        page (page_lines p) in
        let many : k < length (page_rows rows p) = row_on_page p k (omega arith) (omega arith) in
        let row =
        within_then pages (lines_of log (page_rows rows p)) (line_at (get_or (page_rows rows p) k 0)) _ (102 * k) lines
        (lines_within (page_rows rows p) k many) in
        let place : length (joined (page_of log rows) p) + 102 + 102 * k ≡ 102 * (i + 2 * (i / 50) + 1) =
        omega (arith, page_begins p (omega arith), here) in
        let is : get_or (page_rows rows p) k 0 ≡ get_or rows i 0 =
        row_there p k (omega arith) ∙ ap (λ (j : ℕ). get_or rows j 0) here in
        rw (place, is) at row

    pub run_read : (i : ℕ) → i < length rows
        → take 102 (drop (102 * (i + 2 * (i / 50) + 1)) (pages_of log rows)) ≡ line_at (get_or rows i 0)
    run_read i h =
        let r = get_or rows i 0 in
        let w = within_read (pages_of log rows) (line_at r) (102 * (i + 2 * (i / 50) + 1)) (run_within i h) in
        rw (row_lined r (row_at log r)).long at w
