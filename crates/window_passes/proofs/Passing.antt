-- A pass, read by read.
use Rattle.std.proofs.Common.{◌≡◌, sym, ap, ap₂, subst, ◌∙◌, arith, add-zero, ℕ, suc, ◌+◌, ◌-◌, ◌*◌, ◌≤◌, ◌<◌, List, ◌∷◌}
use Rattle.window_machine.specs.Order.{Rising, Ordered}
use Rattle.window_machine.specs.Laws.Order.{read_ordered}
use Rattle.window_machine.specs.Machine.{Entry, State, read, pass}
use Rattle.window_entries.specs.Entries.{entry_at, entries}
use Rattle.window_entries.specs.Laws.Entries.{entries_agree}
use Rattle.window_step.specs.Work.{table_dominates, state_of}
use Rattle.window_step.specs.Reads.{state_held, dominates_in, Ready, Same, Read}
use Rattle.window_step.specs.Laws.Reads.{same_refl, same_trans}
use Rattle.window_step.specs.declared.Machine.{Machine}
use Rattle.window_passes.specs.Passes.{PassReady, Passed}

-- i of the n entries that wait are read
pub record Passing (n : ℕ) (m m' : Machine) (i : ℕ) : Type 0 where
  pub within : i ≤ n
  pub same : Same m m'
  pub state : pass (dominates_in m) m.capacity (entries m'.work.now (m.capacity + i) (n - i)) (state_held m')
      ≡ pass (dominates_in m) m.capacity (entries m.work.now m.capacity n) (state_held m)
  pub ordered : Ordered (state_held m')
  pub few : m'.standing.overflow ≤ i
  pub ticks : m'.standing.clock ≡ m.standing.clock + i
  pub small : m'.standing.count ≤ m.standing.count + 1024 * i

waiting_step : (l : List ℕ) (w i n : ℕ) → i < n → entries l (w + i) (n - i) ≡ entry_at l (w + i) ∷ entries l (w + (i + 1)) (n - (i + 1))
unfolding entries
waiting_step l w i n h =
    let e : n - i ≡ suc (n - (i + 1)) = omega arith in
    let d : w + (i + 1) ≡ suc (w + i) = omega arith in
    rw (e, d)

module _ {n : ℕ} {m : Machine} (g : PassReady n m) where
  pub passing_start : Ordered (state_held m) → Passing n m m 0
  passing_start o = record {
    within = omega arith;
    same = same_refl m;
    state = let e : n - 0 ≡ n = omega arith in rw (e, add-zero m.capacity);
    ordered = o;
    few = omega (arith, g.none);
    ticks = omega arith;
    small = omega arith;
  }

  module _ {m₁ : Machine} {i : ℕ} (z : Passing n m m₁ i) where
    pub passing_ready : i < n → Ready m₁
    passing_ready h = record {
      few = omega (arith, g.rows, z.few);
      room = omega (arith, g.room, z.few, z.same.work_long, z.same.capacity);
      early = omega (arith, g.early, z.ticks);
      small = omega (arith, g.small, z.small);
    }

    pub passing_rising : Rising (entries m₁.work.now 0 m₁.standing.occupied)
    unfolding state_of
    passing_rising = z.ordered.rises

    pub passing_step : i < n → {x : Entry} → x ≡ entry_at m₁.work.now (m₁.capacity + i) → {m₂ : Machine} → Read x m₁ m₂ → Passing n m m₂ (i + 1)
    unfolding pass
    passing_step h {x} e {m₂} t = record {
      within = omega arith;
      same = same_trans z.same t.same;
      state =
          ap₂ (λ (xs : List Entry) (st : State). pass (dominates_in m) m.capacity xs st)
          (entries_agree m₂.work.now m₁.work.now (m.capacity + (i + 1)) (n - (i + 1))
          (λ j a b. t.onward.rest j (omega (arith, z.few, z.same.capacity))))
          (t.state ∙ here)
          ∙ ap (λ (xs : List Entry). pass (dominates_in m) m.capacity xs (state_held m₁)) (sym (waiting_step m₁.work.now m.capacity i n h))
          ∙ z.state;
      ordered = subst Ordered (sym t.state) (read_ordered (dominates_in m₁) m₁.capacity x (state_held m₁) z.ordered);
      few = omega (arith, t.onward.few, z.few);
      ticks = omega (arith, t.onward.ticks, z.ticks);
      small = omega (arith, t.onward.small, z.small);
    }
      where
        here : read (dominates_in m₁) m₁.capacity x (state_held m₁)
            ≡ read (dominates_in m) m.capacity (entry_at m₁.work.now (m.capacity + i)) (state_held m₁)
        here =
            ap₂ (λ (table : List ℕ) (w : ℕ). read (table_dominates table) w x (state_held m₁)) z.same.table z.same.capacity
            ∙ ap (λ (y : Entry). read (dominates_in m) m.capacity y (state_held m₁))
            (e ∙ ap (λ (w : ℕ). entry_at m₁.work.now (w + i)) z.same.capacity)

    pub passing_end : n ≤ i → Passed n m m₁
    unfolding pass entries
    passing_end h = record {
      same = z.same;
      state = (let e : n - i ≡ 0 = omega arith in rw e at z.state);
      ordered = z.ordered;
      few = omega (arith, z.few, z.within);
      ticks = omega (arith, z.ticks, z.within);
      small = omega (arith, z.small, z.within);
    }
