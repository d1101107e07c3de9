-- The entries that a work list holds, and one stored among them.
use Rattle.std.specs.Prelude.{ℕ, zero, suc, ◌+◌, ◌-◌, ◌*◌, ◌≤◌, ◌<◌, ◌≡◌, refl, true, List, [], ◌∷◌, ◌++◌, get_or, set, length}
use Rattle.std.proofs.Common.{arith, add-one, zero-add, add-zero, ap, ap₂, ◌∙◌, length-set, get_or-set_same, get_or-set_other}
use Rattle.window_machine.specs.Machine.{Entry, keep, marked}
use Rattle.window_entries.specs.Entries.{entry_at, entries, put_entry, Test, Filtered}

pub length_entries : (l : List ℕ) (i n : ℕ) → length (entries l i n) ≡ n
unfolding entries
length_entries l i zero = refl
length_entries l i (suc n) = ap suc (length_entries l (suc i) n)

pub entries_step : (l : List ℕ) (i n : ℕ) → i < n → entries l i (n - i) ≡ entry_at l i ∷ entries l (i + 1) (n - (i + 1))
unfolding entries
entries_step l i n h = let e : n - i ≡ suc (n - (i + 1)) = omega arith in rw (e, add-one i)

pub entries_done : (l : List ℕ) (i n : ℕ) → n ≤ i → entries l i (n - i) ≡ []
unfolding entries
entries_done l i n h = let e : n - i ≡ 0 = omega arith in rw e

pub length_put : (l : List ℕ) (i r s : ℕ) → length (put_entry l i r s) ≡ length l
unfolding put_entry
length_put l i r s = length-set (set l (2 * i) r) (2 * i + 1) s ∙ length-set l (2 * i) r

pub put_same : (l : List ℕ) (i r s : ℕ) → 2 * i + 1 < length l
    → entry_at (put_entry l i r s) i ≡ record { row = r; timestamp = s }
unfolding put_entry entry_at
put_same l i r s h = ap₂ (λ (a b : ℕ). record { row = a; timestamp = b })
    (get_or-set_other (set l (2 * i) r) (2 * i + 1) (2 * i) s 0 (omega arith)
    ∙ get_or-set_same l (2 * i) r 0 (omega arith))
    (get_or-set_same (set l (2 * i) r) (2 * i + 1) s 0 (omega (arith, length-set l (2 * i) r)))

pub put_other : (l : List ℕ) (i r s j : ℕ) → (j ≡ i → ⊥) → entry_at (put_entry l i r s) j ≡ entry_at l j
unfolding put_entry entry_at
put_other l i r s j h = ap₂ (λ (a b : ℕ). record { row = a; timestamp = b })
    (get_or-set_other (set l (2 * i) r) (2 * i + 1) (2 * j) s 0 (omega arith)
    ∙ get_or-set_other l (2 * i) (2 * j) r 0 (omega arith))
    (get_or-set_other (set l (2 * i) r) (2 * i + 1) (2 * j + 1) s 0 (omega arith)
    ∙ get_or-set_other l (2 * i) (2 * j + 1) r 0 (omega arith))

pub entries_agree : (l l' : List ℕ) (i n : ℕ) → ((j : ℕ) → i ≤ j → j < i + n → entry_at l j ≡ entry_at l' j)
    → entries l i n ≡ entries l' i n
unfolding entries
entries_agree l l' i zero h = refl
entries_agree l l' i (suc n) h =
    ap₂ (λ (e : Entry) (es : List Entry). e ∷ es) (h i (omega arith) (omega arith))
    (entries_agree l l' (suc i) n (λ j p q. h j (omega arith) (omega arith)))

pub entries_snoc : (l : List ℕ) (i n : ℕ) → entries l i (suc n) ≡ entries l i n ++ (entry_at l (i + n) ∷ [])
unfolding entries
entries_snoc l i zero = rw (add-zero i)
entries_snoc l i (suc n) =
    let e : suc i + n ≡ i + suc n =
    omega arith in rw (← e) (ap (λ (es : List Entry). entry_at l i ∷ es) (entries_snoc l (suc i) n))

-- an entry stored behind n entries
pub entries_put : (l : List ℕ) (i n r s : ℕ) → 2 * (i + n) + 1 < length l
    → entries (put_entry l (i + n) r s) i (n + 1) ≡ entries l i n ++ (record { row = r; timestamp = s } ∷ [])
entries_put l i n r s h =
    rw (
      add-one n,
      entries_snoc (put_entry l (i + n) r s) i n,
      put_same l (i + n) r s h,
      entries_agree (put_entry l (i + n) r s) l i n (λ j p q. put_other l (i + n) r s j (omega arith)),
    )

pub entries_put0 : (l : List ℕ) (n r s : ℕ) → 2 * n + 1 < length l
    → entries (put_entry l n r s) 0 (n + 1) ≡ entries l 0 n ++ (record { row = r; timestamp = s } ∷ [])
entries_put0 l n r s h = rw (zero-add n) at (entries_put l 0 n r s (omega arith))

-- a test that takes none out
pub filtered_none : (p : Test) (l : List ℕ) (n : ℕ) → ((j : ℕ) → j < n → p (entry_at l j) ≡ true) → Filtered p l l n n
unfolding entries keep
filtered_none p l n f =
    record { few = omega arith; long = refl; kept = kept 0 n (λ j a. f j (omega arith)); rest = λ j k. refl }
  where
    kept : (i k : ℕ) → ((j : ℕ) → j < i + k → p (entry_at l j) ≡ true) → entries l i k ≡ keep p (entries l i k)
    kept i zero g = refl
    kept i (suc k) g =
        rw (g i (omega arith)) (ap (λ (es : List Entry). entry_at l i ∷ es) (kept (suc i) k (λ j a. g j (omega arith))))

-- ---- the marks that the entries from i on still make

pub mark_one : (l : List ℕ) (n i : ℕ) (m : List ℕ) → i < n
    → marked (entries l i (n - i)) m ≡ marked (entries l (i + 1) (n - (i + 1))) (set m (get_or l (2 * i) 0) 1)
unfolding marked entry_at
mark_one l n i m h = rw (entries_step l i n h)

pub mark_all_end : (l : List ℕ) (n i : ℕ) (m : List ℕ) → n ≤ i → marked (entries l i (n - i)) m ≡ m
unfolding marked
mark_all_end l n i m h = rw (entries_done l i n h)
