-- The competing rows. `competes_same` and `every_competes` alone look into what `competes` says; all else holds
-- whichever rows compete.
use Rattle.std.specs.Prelude.{◌≡◌, Bool, true, false, cond, length, get_or, set, take}
use Rattle.std.proofs.Math.Path.{refl}
use Prim.Native.Nat.{ℕ, zero, suc, ◌+◌, ◌<◌, ◌≤◌}
use Rattle.std.proofs.Common.{add-one, zero-add, not-suc-le-zero, le_of_suc-le-suc}
use native.Mathlib.Omega.{arith}
use mathlib.Core.List.Memᴰ
use mathlib.Core.List.{List, [], ◌∷◌, ◌++◌, append-nil, Memᴰ}
use Rattle.std.proofs.Math.Logic.{⊎_elim}
use Rattle.std.proofs.Math.ListN.{length-append}
use Rattle.std.proofs.lemmas.List.{take_all}
use Rattle.std.proofs.lemmas.List.Edits.{sets}
use Rattle.laws.specs.Lists.{joined, passing}
use Rattle.laws.specs.Laws.Stores.{sets_append, stored_front}
use Rattle.run_log.specs.Log.{Log, row_count, row_at}
use Rattle.pareto.specs.Best.{competes, competing}

-- whether a row competes is told by the row
pub competes_same : (log log' : Log) (r p : ℕ) → row_at log'.values p ≡ row_at log.values r
    → competes log' p ≡ competes log r
unfolding competes
competes_same log log' r p e = refl

-- document 01: "Every run competes."
pub every_competes : (log : Log) (r : ℕ) → competes log r ≡ true
unfolding competes
every_competes log r = refl

-- ---- the rows that compete, as a list

module _ (c : ℕ → Bool) where
  one_few : (b : Bool) (n : ℕ) → length (cond b (n ∷ []) []) ≤ 1
  one_few true n = omega arith
  one_few false n = omega arith

  pub passing_few : (n : ℕ) → length (passing c n) ≤ n
  unfolding joined
  passing_few zero = omega arith
  passing_few (suc n) =
      omega (arith, length-append (passing c n) (cond (c n) (n ∷ []) []), one_few (c n) n, passing_few n)

  -- the numbers below n + 1 that pass, by whether n does
  pub passing_none : passing c 0 ≡ []
  unfolding joined
  passing_none = refl

  pub passing_more : (n : ℕ) → c n ≡ true → passing c (n + 1) ≡ passing c n ++ (n ∷ [])
  unfolding joined
  passing_more n e = rw (add-one n, e)

  pub passing_same : (n : ℕ) → c n ≡ false → passing c (n + 1) ≡ passing c n
  unfolding joined
  passing_same n e = rw (add-one n, e) (append-nil (passing c n))

  one_below : (b : Bool) (n r : ℕ) → Memᴰ r (cond b (n ∷ []) []) → r < suc n
  one_below true n r k = omega (arith, Memᴰ.eq_of_singleton k)
  one_below false n r k = absurd (Memᴰ.not-nil k)

  passing_below : (n r : ℕ) → Memᴰ r (passing c n) → r < n
  unfolding joined
  passing_below zero r k = absurd (Memᴰ.not-nil k)
  passing_below (suc n) r k =
      ⊎_elim
      (λ (m : Memᴰ r (passing c n)). omega (arith, passing_below n r m))
      (λ (m : Memᴰ r (cond (c n) (n ∷ []) [])). one_below (c n) n r m)
      (Memᴰ.append_cases (passing c n) k)

pub competing_few : (log : Log) → length (competing log) ≤ row_count log.values
unfolding competing
competing_few log = passing_few (competes log) (row_count log.values)

pub competing_below : (log : Log) (r : ℕ) → Memᴰ r (competing log) → r < row_count log.values
unfolding competing
competing_below log = passing_below (competes log) (row_count log.values)

-- a log that is no longer than engines take has room for all of them in 1,024 places
pub competing_whole : (log : Log) → row_count log.values ≤ 1024 → take 1024 (competing log) ≡ competing log
competing_whole log h = take_all 1024 (competing log) (omega (arith, competing_few log))

at_place : (xs : List ℕ) (i : ℕ) → i < length xs → Memᴰ (get_or xs i 0) xs
at_place [] i h = absurd (not-suc-le-zero h)
at_place (x ∷ xs) zero h = Memᴰ.head refl
at_place (x ∷ xs) (suc i) h = Memᴰ.tail (at_place xs i (le_of_suc-le-suc h))

pub competing_at : (log : Log) (i : ℕ) → i < length (competing log) → get_or (competing log) i 0 < row_count log.values
competing_at log i h = competing_below log (get_or (competing log) i 0) (at_place (competing log) i h)

-- they stand at the front of a list that they were stored in
pub competing_front : (log : Log) (lent rows : List ℕ) (n : ℕ) → row_count log.values ≤ length lent
    → n ≡ length (competing log) → rows ≡ sets lent 0 (competing log) → take n rows ≡ competing log
competing_front log lent rows n h e f = rw (e, f) (stored_front lent (competing log) (omega (arith, competing_few log)))

-- ---- the list as it is written, row by row

-- n rows below r compete, and stand at the front of a list
pub record Listed (c : ℕ → Bool) (lent : List ℕ) (r n : ℕ) (rows : List ℕ) : Type 0 where
  pub counted : n ≡ length (passing c r)
  pub few : n ≤ r
  pub stored : rows ≡ sets lent 0 (passing c r)

module _ (c : ℕ → Bool) (lent : List ℕ) where
  pub listed_none : Listed c lent 0 0 lent
  unfolding joined
  listed_none = record { counted = refl; few = omega arith; stored = refl }

  module _ (r n : ℕ) (rows : List ℕ) (s : Listed c lent r n rows) where
    pub listed_one : c r ≡ true → Listed c lent (r + 1) (n + 1) (set rows n r)
    listed_one e = record {
      counted = rw (passing_more c r e) (omega (arith, length-append (passing c r) (r ∷ []), s.counted));
      few = omega (arith, s.few);
      stored = rw (passing_more c r e, sets_append lent 0 (passing c r) (r ∷ []), zero-add, ← s.counted, ← s.stored);
    }

    pub listed_other : c r ≡ false → Listed c lent (r + 1) n rows
    listed_other e = record {
      counted = rw (passing_same c r e) s.counted;
      few = omega (arith, s.few);
      stored = rw (passing_same c r e) s.stored;
    }
