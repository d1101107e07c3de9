use Rattle.std.proofs.Common.{◌≡◌, refl, sym, ap, ◌∙◌, arith, Bool, not}
use Rattle.std.proofs.Math.Bool.{not-not}
use denote.Enum.Bare.{sameb}
use Rattle.pareto.specs.Table.{second_dominates}
use Rattle.pareto.specs.Laws.Relation.{same_second}
use Rattle.pareto.specs.contracts.table.Relation.{the_type}
use Rattle.pareto.specs.declared.table.Relation.{Relation}
use Rattle.pareto.specs.declared.table.Relation.TheVariants.{SecondDominates}
use Rattle.window_entries.proofs.Packed.{pack_from, read_is, pack_skip, pack_keep, pack_filtered}
use Rattle.window_entries.proofs.remove.Goals as goal
use Rattle.window_entries.proofs.remove.Goals.{then-ne, else-ne}

-- an entry stays where its flag does not say that the row dominates it
stays : (x : Relation) (r b : Bool) → r ≡ not (sameb the_type x SecondDominates) → second_dominates x ≡ not b → b ≡ r
stays x r b e t = sym (e ∙ ap not (same_second x ∙ t) ∙ not-not b)

pub loop-i-init : goal.loop-i-init
loop-i-init c = let a = c.args in (omega arith, λ p f. pack_from p a.work.now a.occupied a.from c.requires.1 f.front)

pub loop-i-preserved : goal.loop-i-preserved
loop-i-preserved c =
    let l = c.loop-i in
    let a = c.args in
    let h = c.loop-i-test.true in
    elim c.if-ne.branch [
      | then-ne w ↦
          rw (w.work-is ∙ w.put_entry.ensures, w.stay-is) (
            omega arith,
            λ p f.
                let z = l.invariant.1 p f in
                pack_keep p a.work.now a.occupied h z _ w.entry_at-entry.ensures
                (ap p (read_is p a.work.now a.occupied h z _ w.entry_at-entry.ensures)
                ∙ stays _ _ _ c.ne.ensures (f.told l.i c.loop-i.auto.i h) ∙ w.if-ne.true) (omega arith),
          )
      | else-ne w ↦
          rw (w.work-is, w.stay-is) (
            omega arith,
            λ p f.
                let z = l.invariant.1 p f in
                pack_skip p a.work.now a.occupied h z _ refl
                (ap p (read_is p a.work.now a.occupied h z _ refl)
                ∙ stays _ _ _ c.ne.ensures (f.told l.i c.loop-i.auto.i h) ∙ w.if-ne.false),
          )
    ]

pub returns : goal.returns
returns c = λ p f. pack_filtered p c.args.work.now c.loop-i.work c.args.occupied c.loop-i.i c.loop-i.stay (omega arith) (c.loop-i.invariant.1 p f)
