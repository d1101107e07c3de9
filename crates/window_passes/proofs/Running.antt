-- The passes, one by one.
use Rattle.std.proofs.Common.{◌≡◌, refl, sym, ap, ◌∙◌, arith, ℕ, zero, suc, ◌+◌, ◌-◌, ◌*◌, ◌≤◌, ◌<◌, Bool, false, cond, List, map, length, replicate}
use mathlib.Core.List.Memᴰ
use Rattle.window_machine.specs.Order.{Ordered}
use Rattle.window_machine.specs.Machine.{Entry, State, marked, pass, passes, renew, finish, is_empty, unread, start, machine}
use Rattle.window_entries.specs.Entries.{entries}
use Rattle.window_step.specs.Work.{state_of}
use Rattle.window_step.specs.Reads.{state_held, dominates_in, Same}
use Rattle.window_step.specs.Laws.Reads.{same_refl, same_trans}
use Rattle.window_step.specs.declared.Machine.{Machine}
use Rattle.window_step.specs.declared.Standing.{Standing}
use Rattle.window_passes.specs.Passes.{PassReady, Passed, RunReady, PassesRan}

-- the state after at most so many passes over the n entries that wait
abbrev pub after : ℕ → ℕ → Machine → State
after fuel n m = passes (dominates_in m) m.capacity fuel (entries m.work.now m.capacity n) (state_held m)

-- what is told of a state at the end: its count and its marks
abbrev told : State → ℕ × List ℕ
told st = (st.count, st.marks)

-- `left` passes may still come, over the entries that wait now
pub record Running (n fuel : ℕ) (m m' : Machine) (left waiting : ℕ) : Type 0 where
  pub same : Same m m'
  pub ordered : Ordered (state_held m')
  pub none : m'.standing.overflow ≡ 0
  pub fewer : waiting ≤ n
  pub early : m'.standing.clock + 1024 * left ≤ 1024 * fuel
  pub small : m'.standing.count + 1048576 * left ≤ 1048576 * fuel
  pub ends_alike : told (after left waiting m') ≡ told (after fuel n m)

module _ (dom : ℕ → ℕ → Bool) (w : ℕ) where
  -- a new pass forgets what was set aside
  renew_alike : (f : ℕ) (xs : List Entry) (st : State) → told (passes dom w f xs (renew st)) ≡ told (passes dom w f xs st)
  unfolding passes renew
  renew_alike zero xs st = refl
  renew_alike (suc f) xs st = refl

  passes_step : (f g : ℕ) (xs : List Entry) (st : State) → f ≡ suc g →
      passes dom w f xs st
      ≡ cond (is_empty (pass dom w xs (renew st)).overflow) (finish (pass dom w xs (renew st)))
      (passes dom w g (pass dom w xs (renew st)).overflow (pass dom w xs (renew st)))
  unfolding passes
  passes_step f g xs st e = rw e

renewed : (m : Machine) → m.standing.overflow ≡ 0 → renew (state_held m) ≡ state_held m
unfolding renew state_of entries
renewed m e = rw e

filled : (l : List ℕ) (w n : ℕ) → 0 < n → is_empty (entries l w n) ≡ false
unfolding is_empty entries
filled l w zero h = absurd (omega arith)
filled l w (suc n) h = refl

-- a pass that may come was made
module _ {n left : ℕ} {m m' : Machine} (none : m.standing.overflow ≡ 0) (h : 0 < left) (t : Passed n m m') where
  read_all : pass (dominates_in m) m.capacity (entries m.work.now m.capacity n) (renew (state_held m)) ≡ state_held m'
  read_all = rw (renewed m none) (sym t.state)

  e : left ≡ suc (left - 1)
  e = omega arith

  ends : m'.standing.overflow ≡ 0 → after left n m ≡ finish (state_held m')
  unfolding is_empty entries state_of
  ends s = passes_step (dominates_in m) m.capacity left (left - 1) (entries m.work.now m.capacity n) (state_held m) e ∙ rw (read_all, s)

  goes_on : 0 < m'.standing.overflow → after left n m ≡ after (left - 1) m'.standing.overflow m'
  unfolding state_of
  goes_on s =
      passes_step (dominates_in m) m.capacity left (left - 1) (entries m.work.now m.capacity n) (state_held m) e
      ∙ rw (read_all, filled m'.work.now m'.capacity m'.standing.overflow s, ← t.same.capacity, ← t.same.table)

module _ {n fuel : ℕ} {m : Machine} (g : RunReady n fuel m) where
  pub running_start : Running n fuel m m fuel n
  unfolding state_of entries
  running_start = record {
    same = same_refl m;
    ordered = rw g.zeros (record { rises = tt; given = λ e k. absurd (Memᴰ.not-nil k) });
    none = ap (λ (p : Standing). p.overflow) g.zeros;
    fewer = omega arith;
    early = omega (arith, ap (λ (p : Standing). p.clock) g.zeros);
    small = omega (arith, ap (λ (p : Standing). p.count) g.zeros);
    ends_alike = refl;
  }

  module _ {m₁ : Machine} {left waiting : ℕ} (z : Running n fuel m m₁ left waiting) where
    pub running_ready : 0 < left → PassReady waiting m₁
    running_ready h = record {
      rows = omega (arith, g.rows, z.fewer);
      none = z.none;
      room = omega (arith, g.room, z.fewer, z.same.work_long, z.same.capacity);
      early = omega (arith, z.early, g.turns, g.rows, z.fewer);
      small = omega (arith, z.small, g.turns, g.rows, z.fewer);
    }

    module _ (h : 0 < left) {m₂ : Machine} (t : Passed waiting m₁ m₂) {m₃ : Machine} (s : Same m₂ m₃) where
      -- nothing set aside: the window is released
      pub running_last : m₂.standing.overflow ≡ 0 → m₃.marks.now ≡ marked (entries m₂.work.now 0 m₂.standing.occupied) m₂.marks.now
          → m₃.standing.count ≡ m₂.standing.count → PassesRan n fuel m m₃
      unfolding finish state_of
      running_last o d c =
          let e = ap told (sym (ends z.none h t o)) ∙ z.ends_alike in
          record {
            marks_same = s.marks ∙ t.same.marks ∙ z.same.marks;
            count_is = c ∙ ap (λ (x : ℕ × List ℕ). x.0) e;
            marks_are = d ∙ ap (λ (x : ℕ × List ℕ). x.1) e;
          }

      pub running_more : 0 < m₂.standing.overflow → m₃.work.now ≡ m₂.work.now → m₃.marks.now ≡ m₂.marks.now
          → m₃.standing ≡ record m₂.standing { overflow = 0 } → Running n fuel m m₃ (left - 1) m₂.standing.overflow
      unfolding renew state_of entries
      running_more o l d p = record {
        same = same_trans z.same (same_trans t.same s);
        ordered = rw (l, p) (record { rises = t.ordered.rises; given = t.ordered.given });
        none = ap (λ (p : Standing). p.overflow) p;
        fewer = omega (arith, t.few, z.fewer);
        early = omega (arith, t.ticks, z.early, g.rows, z.fewer, ap (λ (p : Standing). p.clock) p);
        small = omega (arith, t.small, z.small, g.rows, z.fewer, ap (λ (p : Standing). p.count) p);
        ends_alike =
            ap told renews
            ∙ renew_alike (dominates_in m₂) m₂.capacity (left - 1) (entries m₂.work.now m₂.capacity m₂.standing.overflow) (state_held m₂)
            ∙ ap told (sym (goes_on z.none h t o)) ∙ z.ends_alike;
      }
        where
          renews : after (left - 1) m₂.standing.overflow m₃
              ≡ passes (dominates_in m₂) m₂.capacity (left - 1) (entries m₂.work.now m₂.capacity m₂.standing.overflow) (renew (state_held m₂))
          renews = rw (s.table, s.capacity, l, d, p)

    pub running_out : left ≤ 0 → PassesRan n fuel m m₁
    unfolding passes state_of
    running_out h =
        let o : left ≡ 0 = omega arith in
        let e = rw o at z.ends_alike in
        record { marks_same = z.same.marks; count_is = ap (λ (x : ℕ × List ℕ). x.0) e; marks_are = ap (λ (x : ℕ × List ℕ). x.1) e }

-- what the passes over rows that wait leave is the machine's result
module _ (n : ℕ) (rows : List ℕ) {m m' : Machine} (z : PassesRan (length rows) (length rows * length rows + 1) m m')
    (stands : m.standing ≡ record { occupied = 0; overflow = 0; clock = 0; count = 0 })
    (waits : entries m.work.now m.capacity (length rows) ≡ map unread rows) (cleared : m.marks.now ≡ replicate n 0) where
  ran : after (length rows * length rows + 1) (length rows) m ≡ machine (dominates_in m) m.capacity rows n
  unfolding machine start state_of entries
  ran = rw (waits, cleared, stands)

  pub ran_count : m'.standing.count ≡ (machine (dominates_in m) m.capacity rows n).count
  ran_count = z.count_is ∙ ap (λ (st : State). st.count) ran

  pub ran_marks : m'.marks.now ≡ (machine (dominates_in m) m.capacity rows n).marks
  ran_marks = z.marks_are ∙ ap (λ (st : State). st.marks) ran
