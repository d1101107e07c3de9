-- A work list filtered in place, entry by entry; and the marks that its entries still make.
use Prim.Native.Nat.{ℕ, zero, suc, ◌+◌, ◌-◌, ◌*◌, ◌≤◌, ◌<◌}
use native.Mathlib.Omega.{arith}
use native.Mathlib.Numerals.{add-one}
use native.Mathlib.Nat.{zero-add}
use mathlib.Core.Path.{◌≡◌, refl, sym, ap, ◌∙◌}
use mathlib.Core.Bool.{true, false}
use mathlib.Core.List.{List, [], ◌∷◌, ◌++◌, append-nil, append_assoc}
use lib.ListN.{set, length}
use Rattle.window_machine.specs.Machine.{Entry, keep, marked}
use Rattle.window_entries.specs.Entries.{entry_at, entries, put_entry, Test, Filtered}
use Rattle.window_entries.specs.Laws.Entries.{entries_step, entries_done, entries_snoc, length_put, put_other, entries_put0}

-- l is l₀ with its first i of n entries packed by the test p: m of them stay
pub record Packed (p : Test) (l₀ l : List ℕ) (n i m : ℕ) : Type 0 where
  pub ordered : m ≤ i
  pub within : i ≤ n
  pub long : length l ≡ length l₀
  pub rest : (j : ℕ) → i ≤ j → entry_at l j ≡ entry_at l₀ j
  pub done : entries l 0 m ++ keep p (entries l₀ i (n - i)) ≡ keep p (entries l₀ 0 n)

module _ (p : Test) (l₀ : List ℕ) (n : ℕ) where
  pub pack_start : Packed p l₀ l₀ n 0 0
  unfolding entries
  pack_start = record { ordered = omega arith; within = omega arith; long = refl; rest = λ j h. refl; done = let e : n - 0 ≡ n = omega arith in rw e }

  pub keep_yes : (i : ℕ) → i < n → p (entry_at l₀ i) ≡ true → keep p (entries l₀ i (n - i)) ≡ entry_at l₀ i ∷ keep p (entries l₀ (i + 1) (n - (i + 1)))
  unfolding keep
  keep_yes i h q = rw (entries_step l₀ i n h, q)

  pub keep_no : (i : ℕ) → i < n → p (entry_at l₀ i) ≡ false → keep p (entries l₀ i (n - i)) ≡ keep p (entries l₀ (i + 1) (n - (i + 1)))
  unfolding keep
  keep_no i h q = rw (entries_step l₀ i n h, q)

  -- entry i stays, behind those that stayed before it
  done_keep : (front front' : List Entry) (i : ℕ) → i < n → p (entry_at l₀ i) ≡ true → front' ≡ front ++ (entry_at l₀ i ∷ [])
      → front ++ keep p (entries l₀ i (n - i)) ≡ keep p (entries l₀ 0 n)
      → front' ++ keep p (entries l₀ (i + 1) (n - (i + 1))) ≡ keep p (entries l₀ 0 n)
  done_keep front front' i h q e d =
      ap (λ (x : List Entry). x ++ keep p (entries l₀ (i + 1) (n - (i + 1)))) e
      ∙ append_assoc front (entry_at l₀ i ∷ []) (keep p (entries l₀ (i + 1) (n - (i + 1))))
      ∙ ap (λ (x : List Entry). front ++ x) (sym (keep_yes i h q))
      ∙ d

  -- the first i entries stay where they are
  pub pack_from : (i : ℕ) → i ≤ n → ((j : ℕ) → j < i → p (entry_at l₀ j) ≡ true) → Packed p l₀ l₀ n i i
  pack_from zero h f = pack_start
  pack_from (suc i) h f =
      let z = pack_from i (omega arith) (λ j k. f j (omega arith)) in
      let e : i + 1 ≡ suc i = add-one i in
      record {
        ordered = omega arith;
        within = h;
        long = refl;
        rest = λ j k. refl;
        done = rw e at (done_keep _ _ i h (f i (omega arith)) (rw (zero-add i) at (entries_snoc l₀ 0 i)) z.done);
      }

  -- e is the entry at place i, as it was read
  module _ {l : List ℕ} {i m : ℕ} (h : i < n) (z : Packed p l₀ l n i m) (e : Entry) (read : e ≡ entry_at l i) where
    pub read_is : e ≡ entry_at l₀ i
    read_is = read ∙ z.rest i (omega arith)

    pub pack_skip : p e ≡ false → Packed p l₀ l n (i + 1) m
    pack_skip q = record {
      ordered = omega (arith, z.ordered);
      within = omega arith;
      long = z.long;
      rest = λ j k. z.rest j (omega arith);
      done = rw (← (keep_no i h (ap p (sym read_is) ∙ q))) z.done;
    }

    pub pack_keep : p e ≡ true → 2 * n ≤ length l₀ → Packed p l₀ (put_entry l m e.row e.timestamp) n (i + 1) (m + 1)
    pack_keep q room = record {
      ordered = omega (arith, z.ordered);
      within = omega arith;
      long = length_put l m e.row e.timestamp ∙ z.long;
      rest = λ j k. put_other l m e.row e.timestamp j (omega (arith, z.ordered)) ∙ z.rest j (omega arith);
      done =
          done_keep _ _ i h (ap p (sym read_is) ∙ q)
          (entries_put0 l m e.row e.timestamp (omega (arith, z.long, z.ordered)) ∙ ap (λ (x : Entry). entries l 0 m ++ (x ∷ [])) read_is)
          z.done;
    }

  pub pack_end : {l : List ℕ} {i m : ℕ} → n ≤ i → Packed p l₀ l n i m → entries l 0 m ≡ keep p (entries l₀ 0 n)
  unfolding keep
  pack_end {l} {i} {m} h z = sym (append-nil (entries l 0 m)) ∙ ap (λ (x : List Entry). entries l 0 m ++ keep p x) (sym (entries_done l₀ i n h)) ∙ z.done

-- the marks that the entries from i on still make, e at place i among them
module _ (p : Test) (l : List ℕ) (n i : ℕ) (m : List ℕ) (h : i < n) (e : Entry) (read : e ≡ entry_at l i) where
  pub mark_yes : p e ≡ true → marked (keep p (entries l i (n - i))) m ≡ marked (keep p (entries l (i + 1) (n - (i + 1)))) (set m e.row 1)
  unfolding marked
  mark_yes q = rw (keep_yes p l n i h (ap p (sym read) ∙ q), read)

  pub mark_no : p e ≡ false → marked (keep p (entries l i (n - i))) m ≡ marked (keep p (entries l (i + 1) (n - (i + 1)))) m
  mark_no q = rw (keep_no p l n i h (ap p (sym read) ∙ q))

pub mark_end : (p : Test) (l : List ℕ) (n i : ℕ) (m : List ℕ) → n ≤ i → marked (keep p (entries l i (n - i))) m ≡ m
unfolding marked keep
mark_end p l n i m h = rw (entries_done l i n h)

pub pack_filtered : (p : Test) (l₀ l : List ℕ) (n i m : ℕ) → n ≤ i → Packed p l₀ l n i m → Filtered p l₀ l n m
pack_filtered p l₀ l n i m h z =
    record { few = omega (arith, z.ordered, z.within); long = z.long; kept = pack_end p l₀ n h z; rest = λ j k. z.rest j (omega (arith, z.within)) }
