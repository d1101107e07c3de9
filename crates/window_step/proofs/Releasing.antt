-- The release before a row is judged, on the lists that hold the machine's state.
use Rattle.std.proofs.Common.{◌≡◌, ap, ◌∙◌, arith, ℕ, ◌+◌, ◌≤◌, List}
use Rattle.window_machine.specs.Machine.{release, read}
use Rattle.window_entries.specs.Entries.{entries, Released}
use Rattle.window_entries.specs.Laws.Entries.{entries_agree}
use Rattle.window_step.specs.Work.{state_of}
use Rattle.window_step.specs.Reads.{state_held, Same, Judged, Read}
use Rattle.window_step.specs.Laws.Reads.{same_trans}
use Rattle.window_step.specs.declared.Machine.{Machine}
use Rattle.window_step.specs.declared.Standing.{Standing}

release_is : (w s : ℕ) (l l' m m' : List ℕ) (occupied occupied' aside clock count : ℕ) → occupied ≤ w → Released s l l' occupied occupied' m m'
    → state_of w l' m' occupied' aside clock count ≡ release s (state_of w l m occupied aside clock count)
unfolding release state_of
release_is w s l l' m m' occupied occupied' aside clock count fit f =
    λ i. record { window = f.filtered.kept i; overflow = same i; marks = f.marks_are i; clock = clock; count = count }
  where
    same : entries l' w aside ≡ entries l w aside
    same = entries_agree l' l w aside (λ j p t. f.filtered.rest j (omega arith))

-- the machine m₁ is m with its older entries released, m' is m₁ with row r judged
module _ {m m₁ m' : Machine} {s r : ℕ} (e : Same m m₁)
    (f : Released s m.work.now m₁.work.now m.standing.occupied m₁.standing.occupied m.marks.now m₁.marks.now)
    (stands : m₁.standing ≡ record m.standing { occupied = m₁.standing.occupied }) (j : Judged r m₁ m') where
  released : state_held m₁ ≡ release s (state_held m)
  released =
      rw (stands, e.capacity)
      (release_is m.capacity s m.work.now m₁.work.now m.marks.now m₁.marks.now m.standing.occupied m₁.standing.occupied
      m.standing.overflow m.standing.clock m.standing.count m.fit f)

  overflow_is : m₁.standing.overflow ≡ m.standing.overflow
  overflow_is = ap (λ (p : Standing). p.overflow) stands

  pub read_released : Read (record { row = r; timestamp = s }) m m'
  unfolding read
  read_released = record {
    same = same_trans e j.same;
    state = rw (← released, ← e.capacity, ← e.table) j.state;
    onward = record {
      few = omega (arith, j.onward.few, overflow_is);
      ticks = j.onward.ticks ∙ ap (λ (p : Standing). p.clock + 1) stands;
      small = omega (arith, j.onward.small, ap (λ (p : Standing). p.count) stands);
      rest = λ i h. j.onward.rest i (omega (arith, e.capacity, overflow_is)) ∙ f.filtered.rest i (omega (arith, m.fit));
    };
  }
