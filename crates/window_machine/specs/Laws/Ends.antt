-- The machine's count is at most m (m - 1) / 2 over m rows, and its passes end.
use Prim.Native.Nat.{ℕ, zero, suc, ◌+◌, ◌*◌, ◌-◌, ◌/◌, ◌≤◌, ◌<◌}
use native.Mathlib.Omega.{arith}
use Rattle.std.proofs.Common.{add-one, suc-add, ltb-false, lt-ltb}
use Rattle.std.specs.Prelude.{◌≡◌, ◌⊎◌, Bool, not, ltb}
use Rattle.std.proofs.Math.Path.{refl, ap}
use Rattle.std.proofs.Math.Logic.{⊎_elim}
use Rattle.std.proofs.Math.Bool.{true, false, cond}
use Rattle.std.proofs.lemmas.Bool.{false≢true}
use mathlib.Core.List.Memᴰ
use mathlib.Core.List.{List, [], ◌∷◌, ◌++◌, map, append_assoc, append-nil}
use Rattle.std.proofs.Math.ListN.{length, length-append, length-map}
use Rattle.window_machine.specs.Order.{Mem, Stamped}
use Rattle.window_machine.specs.Laws.Lists.{keep_in, keep_shorter, keep_fewer, keep_twice, keep_append, keep_none}
use Rattle.window_machine.specs.Machine.{Entry, State, keep, older, younger, release, dominated, compares, spares}
use Rattle.window_machine.specs.Machine.{tick, remove, enter, set_aside, place, judge, read, pass, renew, finish}
use Rattle.window_machine.specs.Machine.{is_empty, passes, unread, enough, start, machine}

-- the number of pairs among n things
unfoldable tri : ℕ → ℕ
tri zero = 0
tri (suc n) = n + tri n

-- the pairs of a waiting row and a window entry that is not older than the row's timestamp
unfoldable pairs : List Entry → List Entry → ℕ
pairs [] W = 0
pairs (x ∷ Q) W = length (keep (younger x.timestamp) W) + pairs Q W

-- the compares that may still come
unfoldable due : List Entry → List Entry → ℕ
due Q W = tri (length Q) + pairs Q W

pairs_keep : (q : Entry → Bool) (Q W : List Entry) → pairs Q (keep q W) ≤ pairs Q W
unfolding pairs
pairs_keep q [] W = omega arith
pairs_keep q (x ∷ Q) W = omega (arith, pairs_keep q Q W, keep_fewer (younger x.timestamp) q W)

pairs_more : (Q W : List Entry) (e : Entry) → pairs Q (W ++ (e ∷ [])) ≤ pairs Q W + length Q
unfolding pairs
pairs_more [] W e = omega arith
pairs_more (x ∷ Q) W e =
    rw (
      keep_append (younger x.timestamp) W (e ∷ []),
      length-append (keep (younger x.timestamp) W) (keep (younger x.timestamp) (e ∷ [])),
    )
    (omega (arith, pairs_more Q W e, keep_shorter (younger x.timestamp) (e ∷ [])))

pairs_append : (Q R W : List Entry) → pairs (Q ++ R) W ≡ pairs Q W + pairs R W
unfolding pairs
pairs_append [] R W = omega arith
pairs_append (x ∷ Q) R W = omega (arith, pairs_append Q R W)

pub compares_le : (dom : ℕ → ℕ → Bool) (r : ℕ) (W : List Entry) → compares dom r W ≤ length W
unfolding compares
compares_le dom r [] = omega arith
compares_le dom r (e ∷ W) = go (compares_le dom r W) (dom e.row r)
  where
    go : compares dom r W ≤ length W → (b : Bool) → suc (cond b 0 (compares dom r W)) ≤ suc (length W)
    go h true = omega arith
    go h false = omega arith

pairs_fresh : (W : List Entry) (r t : ℕ) → Stamped W t → pairs (record { row = r; timestamp = t + 1 } ∷ []) W ≡ 0
unfolding pairs younger older
pairs_fresh W r t h =
    rw (keep_none (younger (t + 1)) W (λ e k. ap not (lt-ltb e.timestamp (t + 1) (omega (arith, h e k)))))

-- a row set aside at the clock's next tick is due a compare with each other waiting row, and with no entry
due_push : (Q W : List Entry) (r t : ℕ) → Stamped W t
    → due (Q ++ (record { row = r; timestamp = t + 1 } ∷ [])) W ≡ length Q + tri (length Q) + pairs Q W
unfolding due tri
due_push Q W r t h =
    rw (
      length-append Q (record { row = r; timestamp = t + 1 } ∷ []),
      pairs_append Q (record { row = r; timestamp = t + 1 } ∷ []) W,
      pairs_fresh W r t h,
      add-one (length Q),
    )
    (omega arith)

-- what reading x leaves: the count grows by no more than `due` falls, and `due` and the waiting list together get
-- smaller
record Spent (Q : List Entry) (st : State) (Q' : List Entry) (st' : State) : Type 0 where
  stamped : Stamped st'.window st'.clock
  falls : st'.count + due Q' st'.window ≤ st.count + due Q st.window
  less : due Q' st'.window + length Q' < due Q st.window + length Q

-- whether one of the first `fuel` passes sets nothing aside
unfoldable pub ends : (ℕ → ℕ → Bool) → ℕ → ℕ → List Entry → State → Bool
ends dom w zero xs st = false
ends dom w (suc fuel) xs st =
    let st' = pass dom w xs (renew st) in
    let more = ends dom w fuel st'.overflow st' in
    cond (is_empty st'.overflow) true more

module _ (dom : ℕ → ℕ → Bool) (w : ℕ) (pos : 1 ≤ w) where
  module _ (r s : ℕ) (xs : List Entry) (st : State) (h : Stamped st.window st.clock)
      (young : keep (younger s) st.window ≡ st.window) where
    abbrev waiting : List Entry
    waiting = xs ++ st.overflow

    abbrev before : List Entry
    before = record { row = r; timestamp = s } ∷ waiting

    abbrev now : Entry
    now = record { row = r; timestamp = st.clock + 1 }

    abbrev left : List Entry
    left = keep (spares dom r) st.window

    more : pairs waiting (left ++ (now ∷ [])) ≤ pairs waiting left + length waiting
    more = pairs_more waiting left now

    fewer : pairs waiting left ≤ pairs waiting st.window
    fewer = pairs_keep (spares dom r) waiting st.window

    dropped : Spent before st waiting (tick dom r st)
    unfolding tick due pairs tri
    dropped = record {
      stamped = λ e k. omega (arith, h e k);
      falls = rw young (omega (arith, compares_le dom r st.window));
      less = omega arith;
    }

    entered : Spent before st waiting (enter r (remove dom r (tick dom r st)))
    unfolding enter remove tick due pairs tri
    entered = record {
      stamped = λ e k. ⊎_elim
          (λ k'. omega (arith, h e (keep_in (spares dom r) st.window k').0))
          (λ k'. let q = Memᴰ.eq_of_singleton k' in omega (arith, ap (λ (z : Entry). z.timestamp) q))
          (Memᴰ.append_cases left k);
      falls = rw young (omega (arith, compares_le dom r st.window, more, fewer));
      less = omega (arith, more, fewer);
    }

    overflowed : w ≤ length left
        → Spent before st (xs ++ (st.overflow ++ (now ∷ []))) (set_aside r (remove dom r (tick dom r st)))
    unfolding set_aside remove tick due pairs tri
    overflowed full = rw (← (append_assoc xs st.overflow (now ∷ []))) (record {
      stamped = λ e k. omega (arith, h e (keep_in (spares dom r) st.window k).0);
      falls = rw young (omega (arith, pushed, fewer, compares_le dom r st.window));
      less =
          rw young (omega
          (arith, length-append waiting (now ∷ []), pushed, fewer, keep_shorter (spares dom r) st.window));
    })
      where
        kept : Stamped left st.clock
        kept e k = h e (keep_in (spares dom r) st.window k).0

        pushed : due (waiting ++ (now ∷ [])) left ≡ length waiting + tri (length waiting) + pairs waiting left
        pushed = due_push waiting left r st.clock kept

    judged : Spent before st (xs ++ (judge dom w r st).overflow) (judge dom w r st)
    unfolding judge place enter set_aside remove tick
    judged = go (dominated dom r st.window)
      where
        next : State
        next = remove dom r (tick dom r st)

        go₂ : (b : Bool) → ltb (length next.window) w ≡ b
            → Spent before st (xs ++ (cond b (enter r next) (set_aside r next)).overflow)
            (cond b (enter r next) (set_aside r next))
        go₂ true e = entered
        go₂ false e = overflowed (ltb-false _ _ e)

        go : (b : Bool)
            → Spent before st (xs ++ (cond b (tick dom r st) (place w r next)).overflow)
            (cond b (tick dom r st) (place w r next))
        go true = dropped
        go false = go₂ (ltb (length next.window) w) refl

  -- one read
  reads : (x : Entry) (xs : List Entry) (st : State) → Stamped st.window st.clock
      → Spent (x ∷ xs ++ st.overflow) st (xs ++ (read dom w x st).overflow) (read dom w x st)
  unfolding read release due
  reads x xs st h =
      record { stamped = z.stamped; falls = omega (arith, z.falls, fewer); less = omega (arith, z.less, fewer) }
    where
      z : Spent (x ∷ xs ++ st.overflow) (release x.timestamp st)
          (xs ++ (judge dom w x.row (release x.timestamp st)).overflow)
          (judge dom w x.row (release x.timestamp st))
      z =
          judged x.row x.timestamp xs (release x.timestamp st)
          (λ e k. h e (keep_in (younger x.timestamp) st.window k).0)
          (keep_twice (younger x.timestamp) st.window)

      fewer : pairs (x ∷ xs ++ st.overflow) (keep (younger x.timestamp) st.window)
          ≤ pairs (x ∷ xs ++ st.overflow) st.window
      fewer = pairs_keep (younger x.timestamp) (x ∷ xs ++ st.overflow) st.window

  -- one pass: as one read for each row, or nothing for no row
  record PassSpent (xs : List Entry) (st st' : State) : Type 0 where
    stamped : Stamped st'.window st'.clock
    falls : st'.count + due st'.overflow st'.window ≤ st.count + due (xs ++ st.overflow) st.window
    less : due st'.overflow st'.window + length st'.overflow + length xs
        ≤ due (xs ++ st.overflow) st.window + length (xs ++ st.overflow)

  passed : (xs : List Entry) (st : State) → Stamped st.window st.clock → PassSpent xs st (pass dom w xs st)
  unfolding pass
  passed [] st h = record { stamped = h; falls = omega arith; less = omega arith }
  passed (x ∷ xs) st h =
      let one = reads x xs st h in
      let rest = passed xs (read dom w x st) one.stamped in
      record {
        stamped = rest.stamped;
        falls = omega (arith, one.falls, rest.falls);
        less = omega (arith, one.less, rest.less);
      }

  abbrev Within : ℕ → Type 0
  Within fuel =
      (xs : List Entry) (st : State) → Stamped st.window st.clock
      → (passes dom w fuel xs st).count ≤ st.count + due xs st.window

  -- however many passes are made, the count stays within what was due
  counted : (fuel : ℕ) → Within fuel
  unfolding passes renew finish
  counted zero xs st h = omega arith
  counted (suc fuel) xs st h =
      go (pass dom w xs (renew st)) (passed xs (renew st) h) (counted fuel)
      (is_empty (pass dom w xs (renew st)).overflow)
    where
      go : (st' : State) → PassSpent xs (renew st) st' → Within fuel → (b : Bool)
          → (cond b (finish st') (passes dom w fuel st'.overflow st')).count ≤ st.count + due xs st.window
      go st' z below true = omega (arith, z.falls, ap (λ (l : List Entry). due l st.window) (append-nil xs))
      go st' z below false =
          omega (
            arith,
            z.falls,
            below st'.overflow st' z.stamped,
            ap (λ (l : List Entry). due l st.window) (append-nil xs),
          )

  abbrev Ended : ℕ → Type 0
  Ended fuel =
      (xs : List Entry) (st : State) → Stamped st.window st.clock → due xs st.window + length xs < fuel
      → ends dom w fuel xs st ≡ true

  -- with more fuel than what is due and what waits, some pass sets nothing aside
  ended : (fuel : ℕ) → Ended fuel
  unfolding ends pass renew is_empty
  ended zero xs st h small = absurd (omega arith)
  ended (suc fuel) [] st h small = refl
  ended (suc fuel) (x ∷ xs) st h small =
      go (pass dom w (x ∷ xs) (renew st)) (passed (x ∷ xs) (renew st) h) (ended fuel)
      (is_empty (pass dom w (x ∷ xs) (renew st)).overflow)
    where
      go : (st' : State) → PassSpent (x ∷ xs) (renew st) st' → Ended fuel → (b : Bool)
          → cond b true (ends dom w fuel st'.overflow st') ≡ true
      go st' z below true = refl
      go st' z below false =
          below st'.overflow st' z.stamped
          (omega (arith, z.less, ap (λ (l : List Entry). due l st.window + length l) (append-nil (x ∷ xs))))

tri_is : (n : ℕ) → tri n + tri n + n ≡ n * n
unfolding tri
tri_is zero = refl
tri_is (suc n) = omega (arith, tri_is n)

pairs_nil : (Q : List Entry) → pairs Q [] ≡ 0
unfolding pairs keep
pairs_nil [] = refl
pairs_nil (x ∷ Q) = omega (arith, pairs_nil Q)

due_start : (rows : List ℕ) → due (map unread rows) [] ≡ tri (length rows)
unfolding due
due_start rows = rw (pairs_nil (map unread rows), length-map rows unread) (omega arith)

square : (n : ℕ) → n * (n - 1) + n ≡ n * n
square zero = refl
square (suc m) = let e : suc m - 1 ≡ m = omega arith in rw e (omega arith)

-- once a pass has set nothing aside, more passes change nothing
abbrev Enough : (ℕ → ℕ → Bool) → ℕ → ℕ → ℕ → Type 0
Enough dom w fuel more =
    (xs : List Entry) (st : State) → ends dom w fuel xs st ≡ true
    → passes dom w (fuel + more) xs st ≡ passes dom w fuel xs st

pub more_fuel : (dom : ℕ → ℕ → Bool) (w fuel more : ℕ) → Enough dom w fuel more
unfolding ends passes
more_fuel dom w zero more xs st h = absurd (false≢true h)
more_fuel dom w (suc fuel) more xs st h =
    rw (suc-add fuel more)
    (go (more_fuel dom w fuel more) (pass dom w xs (renew st)) (is_empty (pass dom w xs (renew st)).overflow) h)
  where
    go : Enough dom w fuel more
        → (after : State) (b : Bool) → cond b true (ends dom w fuel after.overflow after) ≡ true
        → cond b (finish after) (passes dom w (fuel + more) after.overflow after)
        ≡ cond b (finish after) (passes dom w fuel after.overflow after)
    go below after true q = refl
    go below after false q = below after.overflow after q

module _ (dom : ℕ → ℕ → Bool) (w : ℕ) (rows : List ℕ) (n : ℕ) (pos : 1 ≤ w) where
  -- Theorem: over m rows the count is at most m (m - 1) / 2
  pub count_bound : 2 * (machine dom w rows n).count ≤ length rows * (length rows - 1)
  unfolding machine start
  count_bound =
      let c = counted dom w pos (enough rows) (map unread rows) (start n) (λ e k. absurd (Memᴰ.not-nil k)) in
      omega (arith, c, due_start rows, tri_is (length rows), square (length rows))

  pub count_bound_half : (machine dom w rows n).count ≤ length rows * (length rows - 1) / 2
  count_bound_half = omega (arith, count_bound)

  -- Theorem: the machine ends, within the passes that its definition gives it
  pub machine_ends : ends dom w (enough rows) (map unread rows) (start n) ≡ true
  unfolding start
  machine_ends =
      let long = length-map rows unread in
      ended dom w pos (enough rows) (map unread rows) (start n) (λ e k. absurd (Memᴰ.not-nil k))
      (omega (arith, due_start rows, tri_is (length rows), long))

  -- Theorem: more passes change nothing
  pub machine_more : (more : ℕ) → passes dom w (enough rows + more) (map unread rows) (start n) ≡ machine dom w rows n
  unfolding machine
  machine_more more = more_fuel dom w (enough rows) more (map unread rows) (start n) machine_ends
