-- A row judged by the machine, on the lists that hold its state.
use Prim.Native.Nat.{ℕ, ◌+◌, ◌*◌, ◌≤◌, ◌<◌}
use native.Mathlib.Omega.{arith}
use mathlib.Core.Path.{◌≡◌, refl, ap, ◌∙◌}
use mathlib.Core.Bool.{Bool, true, false}
use mathlib.Core.List.{List, [], ◌∷◌, ◌++◌}
use lib.ListN.{length}
use borrow.Author.Tests.{lt-ltb, le-ltb}
use Rattle.window_machine.specs.Laws.Ends.{compares_le}
use Rattle.window_machine.specs.Machine.{Entry, dominated, compares, spares, tick, remove, enter, set_aside, place, judge}
use Rattle.window_entries.specs.Entries.{entry_at, entries, put_entry, Filtered}
use Rattle.window_entries.specs.Laws.Entries.{length_entries, entries_agree, entries_put, entries_put0, put_other}
use Rattle.window_step.specs.Work.{state_of}
use Rattle.window_step.specs.Scans.{DroppedAfter, Undominated}
use Rattle.window_step.specs.Reads.{state_at, dominates_in, Ready, Same, Judged}
use Rattle.window_step.specs.declared.Machine.{Machine}
use Rattle.window_step.specs.declared.Standing.{Standing}

-- ---- the judgement, in each of its three ways

module _ (dom : ℕ → ℕ → Bool) (w r : ℕ) (l m : List ℕ) (occupied aside clock count k : ℕ) (counted : k ≡ compares dom r (entries l 0 occupied)) where
  judge_drop : dominated dom r (entries l 0 occupied) ≡ true
      → state_of w l m occupied aside (clock + 1) (count + k) ≡ judge dom w r (state_of w l m occupied aside clock count)
  unfolding judge tick state_of
  judge_drop q = rw (counted, q)

  module _ (l' : List ℕ) (occupied' : ℕ) (fit : occupied ≤ w) (q : dominated dom r (entries l 0 occupied) ≡ false)
      (f : Filtered (spares dom r) l l' occupied occupied') where
    judge_enter : occupied' < w → 2 * occupied' + 1 < length l'
        → state_of w (put_entry l' occupied' r (clock + 1)) m (occupied' + 1) aside (clock + 1) (count + k)
        ≡ judge dom w r (state_of w l m occupied aside clock count)
    unfolding judge tick state_of place remove enter
    judge_enter small room =
        rw (counted, q, ← f.kept, length_entries l' 0 occupied', lt-ltb occupied' w small)
        (λ i. record {
          window = entries_put0 l' occupied' r (clock + 1) room i;
          overflow = same i;
          marks = m;
          clock = clock + 1;
          count = count + compares dom r (entries l 0 occupied);
        })
      where
        same : entries (put_entry l' occupied' r (clock + 1)) w aside ≡ entries l w aside
        same =
            entries_agree (put_entry l' occupied' r (clock + 1)) l w aside
            (λ j p t. put_other l' occupied' r (clock + 1) j (omega arith) ∙ f.rest j (omega arith))

    judge_aside : w ≤ occupied' → 2 * (w + aside) + 1 < length l'
        → state_of w (put_entry l' (w + aside) r (clock + 1)) m occupied' (aside + 1) (clock + 1) (count + k)
        ≡ judge dom w r (state_of w l m occupied aside clock count)
    unfolding judge tick state_of place remove set_aside
    judge_aside full room =
        rw (counted, q, ← f.kept, length_entries l' 0 occupied', le-ltb occupied' w full)
        (λ i. record { window = same i; overflow = pushed i; marks = m; clock = clock + 1; count = count + compares dom r (entries l 0 occupied) })
      where
        same : entries (put_entry l' (w + aside) r (clock + 1)) 0 occupied' ≡ entries l' 0 occupied'
        same = entries_agree (put_entry l' (w + aside) r (clock + 1)) l' 0 occupied' (λ j p t. put_other l' (w + aside) r (clock + 1) j (omega (arith, f.few)))

        pushed : entries (put_entry l' (w + aside) r (clock + 1)) w (aside + 1) ≡ entries l w aside ++ (record { row = r; timestamp = clock + 1 } ∷ [])
        pushed =
            entries_put l' w aside r (clock + 1) room
            ∙ ap (λ (x : List Entry). x ++ (record { row = r; timestamp = clock + 1 } ∷ [])) (entries_agree l' l w aside (λ j p t. f.rest j (omega arith)))

-- row r was judged, on the work list alone
pub record Judging (dom : ℕ → ℕ → Bool) (w r : ℕ) (l m : List ℕ) (p : Standing) (l' : List ℕ) (p' : Standing) : Type 0 where
  pub state : state_at w l' m p' ≡ judge dom w r (state_at w l m p)
  pub few : p'.overflow ≤ p.overflow + 1
  pub ticks : p'.clock ≡ p.clock + 1
  pub small : p'.count ≤ p.count + 1024
  pub rest : (j : ℕ) → w + p.overflow + 1 ≤ j → entry_at l' j ≡ entry_at l j

pub judged : {r : ℕ} {m m' : Machine} → Same m m' → m'.marks.now ≡ m.marks.now
    → Judging (dominates_in m) m.capacity r m.work.now m.marks.now m.standing m'.work.now m'.standing → Judged r m m'
judged s e j = record {
  same = s;
  state = rw (s.capacity, e) j.state;
  onward = record { few = j.few; ticks = j.ticks; small = j.small; rest = j.rest };
}

module _ {m : Machine} (g : Ready m) where
  module _ {r k : ℕ} (d : DroppedAfter (dominates_in m) r m.work.now m.standing.occupied k) where
    pub dropped_few : k ≤ 1024
    dropped_few =
        omega (
          arith,
          d.count_is,
          compares_le (dominates_in m) r (entries m.work.now 0 m.standing.occupied),
          length_entries m.work.now 0 m.standing.occupied,
          m.fit,
          m.narrow,
        )

    pub judging_drop : Judging (dominates_in m) m.capacity r m.work.now m.marks.now m.standing m.work.now
        (record { occupied = m.standing.occupied; overflow = m.standing.overflow; clock = m.standing.clock + 1; count = m.standing.count + k })
    judging_drop = record {
      state =
          judge_drop (dominates_in m) m.capacity r m.work.now m.marks.now m.standing.occupied m.standing.overflow m.standing.clock
          m.standing.count k d.count_is d.dominated_is;
      few = omega arith;
      ticks = refl;
      small = omega (arith, dropped_few);
      rest = λ j i. refl;
    }

  -- left are the entries that row r spares
  module _ {r : ℕ} (v : Undominated (dominates_in m) r m.work.now m.standing.occupied) {l₁ : List ℕ} {left : ℕ}
      (filtered : Filtered (spares (dominates_in m) r) m.work.now l₁ m.standing.occupied left) where
    pub judging_enter : left < m.capacity → {l₂ : List ℕ} → l₂ ≡ put_entry l₁ left r (m.standing.clock + 1)
        → Judging (dominates_in m) m.capacity r m.work.now m.marks.now m.standing l₂
        (record { occupied = left + 1; overflow = m.standing.overflow; clock = m.standing.clock + 1; count = m.standing.count + m.standing.occupied })
    judging_enter h t = record {
      state =
          rw t
          (judge_enter (dominates_in m) m.capacity r m.work.now m.marks.now m.standing.occupied m.standing.overflow m.standing.clock
          m.standing.count m.standing.occupied v.count_is l₁ left m.fit v.dominated_is filtered h (omega (arith, filtered.long, g.room)));
      few = omega arith;
      ticks = refl;
      small = omega (arith, m.fit, m.narrow);
      rest = λ j i. rw t (put_other l₁ left r (m.standing.clock + 1) j (omega arith) ∙ filtered.rest j (omega (arith, m.fit)));
    }

    pub judging_aside : m.capacity ≤ left → {l₂ : List ℕ} → l₂ ≡ put_entry l₁ (m.capacity + m.standing.overflow) r (m.standing.clock + 1)
        → Judging (dominates_in m) m.capacity r m.work.now m.marks.now m.standing l₂
        (record { occupied = left; overflow = m.standing.overflow + 1; clock = m.standing.clock + 1; count = m.standing.count + m.standing.occupied })
    judging_aside h t = record {
      state =
          rw t
          (judge_aside (dominates_in m) m.capacity r m.work.now m.marks.now m.standing.occupied m.standing.overflow m.standing.clock
          m.standing.count m.standing.occupied v.count_is l₁ left m.fit v.dominated_is filtered h (omega (arith, filtered.long, g.room)));
      few = omega arith;
      ticks = refl;
      small = omega (arith, m.fit, m.narrow);
      rest = λ j i.
          rw t
          (put_other l₁ (m.capacity + m.standing.overflow) r (m.standing.clock + 1) j (omega arith) ∙ filtered.rest j (omega (arith, m.fit)));
    }
