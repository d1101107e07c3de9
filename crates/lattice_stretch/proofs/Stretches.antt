-- Edges to nodes that stand side by side, and those of a part.
use Rattle.std.proofs.Common.{◌≡◌, ℕ, ◌+◌, ◌-◌, ◌*◌, ◌<◌, ◌≤◌, List, [], ◌++◌, refl, add-one, arith, length, get_or, set, length-append}
use Rattle.laws.specs.Lists.{joined}
use Rattle.lattice_nodes.specs.Steps.{stretch, part_edges, updated, entered_byte}
use Rattle.lattice_nodes.specs.Laws.Stretch.{stretch_length, updated_stretch}
use Rattle.lattice_nodes.specs.Laws.Whole.{joined_none, joined_add}

-- a stretch of one edge
pub one_entered : (a : ℕ) (b : List ℕ) → updated entered_byte (stretch a 1) b ≡ set b a (entered_byte (get_or b a 0))
unfolding updated stretch
one_entered a b = refl

pub ruleset stretches = (stretch_length, updated_stretch, one_entered)

-- a part with one level has no edge
pub no_edges : (span w c : ℕ) → span ≤ w → part_edges span w c ≡ []
unfolding part_edges
no_edges span w c e =
    let none : span - w ≡ 0 = omega arith in
    joined_none _ c (λ q. rw none (unfold stretch in refl))

pub one_more : (span w k : ℕ) → part_edges span w (k + 1) ≡ part_edges span w k ++ stretch (k * span + w) (span - w)
unfolding part_edges joined
one_more span w k = rw add-one refl

pub grows : (span w k n : ℕ) → k < n → length (part_edges span w k ++ stretch (k * span + w) (span - w)) ≤ length (part_edges span w n)
unfolding part_edges
grows span w k n h =
    let more : k + 1 + (n - (k + 1)) ≡ n = omega arith in
    rw (← one_more span w k, ← more, joined_add (λ q. stretch (q * span + w) (span - w)) (k + 1) (n - (k + 1)), length-append) (omega arith)

pub no_blocks : (span w : ℕ) → part_edges span w 0 ≡ []
unfolding part_edges joined
no_blocks span w = refl

pub none_entered : (b : List ℕ) → updated entered_byte [] b ≡ b
unfolding updated
none_entered b = refl

pub ruleset nothing = (no_edges, no_blocks, none_entered)
