-- A row compared with the entries in order, and the flags that this leaves.
use Rattle.std.proofs.Common.{◌≡◌, refl, sym, ◌∙◌, arith, ℕ, ◌+◌, ◌-◌, ◌*◌, ◌≤◌, ◌<◌, Bool, true, false, not, ◌||◌, List, get_or, set, length, get_or-set_same, get_or-set_other}
use Rattle.std.proofs.Math.Decide.{ℕ_discrete}
use borrow.Author.Count.{below_more}
use borrow.Author.Tests.{not-false}
use Rattle.laws.specs.Lists.{any_of}
use Rattle.laws.specs.Laws.Bools.{neither}
use Rattle.pareto.specs.Table.{first_dominates, second_dominates, compared}
use Rattle.pareto.specs.declared.table.Relation.{Relation}
use Rattle.pareto.specs.declared.table.Relation.TheVariants.{Equal}
use Rattle.window_machine.specs.Machine.{dominated, compares, spares}
use Rattle.window_entries.specs.Entries.{entry_at, Test}
use Rattle.window_entries.specs.Laws.Entries.{entries_step, entries_done}
use Rattle.window_step.specs.Work.{table_dominates}
use Rattle.window_step.specs.Scans.{Undropped, Apart, FrontAt, DroppedAfter, Undominated, SparesAll, RemovesFrom}
use Rattle.window_step.specs.declared.scanning.Front.{Front}
use Rattle.window_step.proofs.Comparing.{first_told, second_told}

-- ---- the entries that do not dominate the row, one by one

module _ (dom : ℕ → ℕ → Bool) (r : ℕ) (l : List ℕ) (n : ℕ) where
  undropped_start : Undropped dom r l n 0
  undropped_start = let e : n - 0 ≡ n = omega arith in record { within = omega arith; dominated_left = rw e; compares_left = rw e (omega arith) }

  pub apart_none : Apart dom r l n 0
  apart_none = record { undropped = undropped_start; spared = λ j h. absurd (omega arith) }

  module _ {i : ℕ} (z : Undropped dom r l n i) where
    undropped_more : i < n → dom (get_or l (2 * i) 0) r ≡ false → Undropped dom r l n (i + 1)
    unfolding dominated compares any_of entry_at
    undropped_more h q =
        record {
          within = omega arith;
          dominated_left = rw (entries_step l i n h, q) at z.dominated_left;
          compares_left = omega (arith, rw (entries_step l i n h, q) at z.compares_left);
        }

    undropped_end : n ≤ i → Undominated dom r l n
    unfolding dominated compares any_of
    undropped_end h = record {
      dominated_is = sym (rw (entries_done l i n h) at z.dominated_left);
      count_is = omega (arith, z.within, rw (entries_done l i n h) at z.compares_left);
    }

    -- the entry that dominates the row is the last that is compared
    pub undropped_hit : i < n → dom (get_or l (2 * i) 0) r ≡ true → DroppedAfter dom r l n (i + 1)
    unfolding dominated compares any_of entry_at
    undropped_hit h q = record {
      dominated_is = sym (rw (entries_step l i n h, q) at z.dominated_left);
      count_is = rw (entries_step l i n h, q) at z.compares_left;
    }

  pub apart_more : {i : ℕ} → Apart dom r l n i → i < n → dom (get_or l (2 * i) 0) r ≡ false → spares dom r (entry_at l i) ≡ true
      → Apart dom r l n (i + 1)
  apart_more {i} z h q s = record {
    undropped = undropped_more z.undropped h q;
    spared = below_more (λ (j : ℕ). spares dom r (entry_at l j) ≡ true) i z.spared s;
  }

  -- all of them are apart
  pub apart_all : Apart dom r l n n → SparesAll dom r l n
  apart_all z = record { undominated = undropped_end z.undropped (omega arith); spared = z.spared }

-- the flags from place s on, and one more
told_more : (p : Test) (l : List ℕ) (s i : ℕ) (f : List Relation) (x : Relation)
    → ((j : ℕ) → s ≤ j → j < i → second_dominates (get_or f j Equal) ≡ not (p (entry_at l j))) → i < length f → second_dominates x ≡ not (p (entry_at l i))
    → (j : ℕ) → s ≤ j → j < i + 1 → second_dominates (get_or (set f i x) j Equal) ≡ not (p (entry_at l j))
told_more p l s i f x h room e j a k = go (ℕ_discrete j i)
  where
    go : Dec (j ≡ i) → second_dominates (get_or (set f i x) j Equal) ≡ not (p (entry_at l j))
    go (yes q) = rw (q, get_or-set_same f i x Equal room) e
    go (no q) = rw (get_or-set_other f i j x Equal q) (h j a (omega arith))

-- ---- the entries from the front on, one by one

-- the flags tell of those from place `from` on, up to place i; d says that the row dominates one of all up to there
pub record Scanning (t : List ℕ) (r : ℕ) (l : List ℕ) (n from : ℕ) (f : List Relation) (i : ℕ) (d : Bool) : Type 0 where
  pub undropped : Undropped (table_dominates t) r l n i
  pub front : (j : ℕ) → j < from → spares (table_dominates t) r (entry_at l j) ≡ true
  pub told : (j : ℕ) → from ≤ j → j < i → second_dominates (get_or f j Equal) ≡ not (spares (table_dominates t) r (entry_at l j))
  pub none : d ≡ false → (j : ℕ) → j < i → spares (table_dominates t) r (entry_at l j) ≡ true

pub scanning_start : {t l : List ℕ} {r n : ℕ} {g : Front} (f : List Relation) → FrontAt t r l n g → Scanning t r l n g.at f g.at false
scanning_start f z =
    record { undropped = z.apart.undropped; front = z.apart.spared; told = λ j a b. absurd (omega arith); none = λ _. z.apart.spared }

-- the front dominates the row
pub front_hit : {t l : List ℕ} {r n : ℕ} {g : Front} → FrontAt t r l n g → first_dominates g.relation ≡ true
    → DroppedAfter (table_dominates t) r l n (g.at + 1)
front_hit {t} {l} {r} {n} {g} z q = undropped_hit (table_dominates t) r l n z.apart.undropped z.is_entry (sym (first_told t l r g.at z.relation_is) ∙ q)

module _ {t : List ℕ} {r : ℕ} {l : List ℕ} {n from : ℕ} {f : List Relation} {i : ℕ} {d : Bool} (z : Scanning t r l n from f i d) where
  -- entry i dominates the row: it is the last that is compared
  pub scanning_hit : i < n → first_dominates (compared t (get_or l (2 * i) 0) r) ≡ true → DroppedAfter (table_dominates t) r l n (i + 1)
  scanning_hit h q = undropped_hit (table_dominates t) r l n z.undropped h (sym (first_told t l r i refl) ∙ q)

  -- x is the compare with entry i
  module _ (h : i < n) {x : Relation} (e : x ≡ compared t (get_or l (2 * i) 0) r) where
    -- it does not
    pub scanning_more : first_dominates x ≡ false → n ≤ length f → Scanning t r l n from (set f i x) (i + 1) (d || second_dominates x)
    scanning_more q room = record {
      undropped = undropped_more (table_dominates t) r l n z.undropped h (sym (first_told t l r i e) ∙ q);
      front = z.front;
      told = told_more (spares (table_dominates t) r) l from i f x z.told (omega arith) (second_told t l r i e);
      none = λ y.
          let b = neither d (second_dominates x) y in
          below_more (λ (j : ℕ). spares (table_dominates t) r (entry_at l j) ≡ true) i (z.none b.0)
          (not-false (spares (table_dominates t) r (entry_at l i)) (sym (second_told t l r i e) ∙ b.1));
    }

  -- the row stays: it dominates one from the front on, or none
  module _ (h : n ≤ i) where
    pub scanning_some : from ≤ n → RemovesFrom (table_dominates t) r l n from f
    scanning_some k = record {
      undominated = undropped_end (table_dominates t) r l n z.undropped h;
      few = k;
      flags_are = record { front = z.front; told = λ j a b. z.told j a (omega arith) };
    }

    pub scanning_none : d ≡ false → SparesAll (table_dominates t) r l n
    scanning_none q = record {
      undominated = undropped_end (table_dominates t) r l n z.undropped h;
      spared = λ j a. z.none q j (omega arith);
    }
