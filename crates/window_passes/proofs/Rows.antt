-- Rows wait at the start, put into the work list one by one; at the end those of the window are marked.
use Rattle.std.proofs.Common.{◌≡◌, refl, sym, ap, ◌∙◌, add-one, ℕ, ◌+◌, ◌-◌, ◌*◌, ◌<◌, List, [], ◌∷◌, ◌++◌, map, length, take, get_or, set}
use Rattle.std.proofs.lemmas.List.{map-append}
use Rattle.std.proofs.Math.Seq.{take-suc}
use Rattle.window_machine.specs.Machine.{Entry, marked, unread}
use Rattle.window_entries.specs.Entries.{entry_at, entries, put_entry}
use Rattle.window_entries.specs.Laws.Entries.{entries_put, mark_one}

pub rows_none : (l : List ℕ) (w : ℕ) (rows : List ℕ) → entries l w 0 ≡ map unread (take 0 rows)
unfolding entries
rows_none l w rows = refl

-- one row more waits
pub rows_more : (l : List ℕ) (w i : ℕ) (rows : List ℕ) → i < length rows → entries l w i ≡ map unread (take i rows) → 2 * (w + i) + 1 < length l
    → entries (put_entry l (w + i) (get_or rows i 0) 0) w (i + 1) ≡ map unread (take (i + 1) rows)
rows_more l w i rows b h room =
    entries_put l w i (get_or rows i 0) 0 room
    ∙ ap (λ (es : List Entry). es ++ (unread (get_or rows i 0) ∷ [])) h
    ∙ sym (map-append unread (take i rows) (get_or rows i 0 ∷ []))
    ∙ rw (add-one i, take-suc rows i 0 b)

-- one entry more marks its row
pub mark_read : (l : List ℕ) (n i : ℕ) (m : List ℕ) → i < n → (e : Entry) → e ≡ entry_at l i
    → marked (entries l i (n - i)) m ≡ marked (entries l (i + 1) (n - (i + 1))) (set m e.row 1)
unfolding entry_at
mark_read l n i m h e q = mark_one l n i m h ∙ rw q
