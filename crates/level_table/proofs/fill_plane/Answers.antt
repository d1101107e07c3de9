use mathlib.Core.Path.{◌≡◌, refl, ap, ◌∙◌}
use Prim.Native.Nat.{ℕ, ◌+◌, ◌/◌}
use lib.ListN.{length}
use mathlib.Core.List.{List}
use native.Mathlib.Numerals.{add-one}
use native.Mathlib.Omega.{arith}
use Rattle.level_table.specs.Table.{part_at, plane_of}
use Rattle.level_table.specs.Filled.{with_parts}
use Rattle.level_table.specs.Laws.Filled.{parts_length, filled}
use Rattle.level_table.proofs.fill_plane.Goals as goal

-- the table keeps its length
long : (f : ℕ → ℕ → ℕ) (k rows : ℕ) (t t' : List ℕ) → t' ≡ with_parts f k rows t → length t' ≡ length t
long f k rows t t' e = ap length e ∙ parts_length f rows t k

pub loop-k-init : goal.loop-k-init
unfolding with_parts
loop-k-init c = refl

pub fill_part-requires : goal.fill_part-requires
fill_part-requires c =
    record { rows = omega (arith, c.requires.1, long _ c.loop-k.k _ c.args.table.now _ c.loop-k.invariant); column = omega (arith, c.loop-k-test.true) }

pub loop-k-preserved : goal.loop-k-preserved
unfolding with_parts
loop-k-preserved c =
    c.fill_part.ensures ∙ rw (c.loop-k.invariant, add-one c.loop-k.k)

pub shape_of-table : goal.shape_of-table
shape_of-table c = long _ c.loop-k.k _ c.args.table.now _ c.loop-k.invariant

pub returns : goal.returns
unfolding plane_of
returns c =
    let d = c.loop-k in
    let a = c.args in
    let e : d.k ≡ 8 = omega arith in
    rw e at d.invariant
    ∙ filled (λ j. part_at a.list.now a.log.now (a.first + j)) (length a.log.now / 8) a.table.now
