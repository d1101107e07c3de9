use Rattle.std.specs.Prelude.{ℕ, suc, ◌≡◌, ◌*◌, ◌≤◌, Bool, ltb, length}
use Rattle.laws.specs.First.{first_at}
use Rattle.laws.specs.Lists.{joined}
use Rattle.preference.specs.Parts.{max_parts}
use Rattle.preference.specs.declared.PreferenceList.{PreferenceList}
use Rattle.levels.proofs.part_at.Given as goal

-- the preferences up to place i have more than k parts
abbrev pub more : PreferenceList → ℕ → ℕ → Bool
more list k i = ltb k (length (joined (max_parts list) (suc i)))

abbrev pub invariant-loop-place : goal.invariant-loop-place
invariant-loop-place l =
    (l.before ≤ 2 * l.place) × (l.before ≤ l.k) × (l.before ≡ length (joined (max_parts l.fn.list) l.place))
    × (first_at (more l.fn.list l.k) l.place ≡ l.place)
