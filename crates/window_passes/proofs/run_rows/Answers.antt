use Rattle.std.proofs.Common.{◌≡◌, rules, length, replicate}
use Rattle.window_step.specs.declared.Standing.{Standing}
use Rattle.window_passes.proofs.Running.{ran_count, ran_marks}
use Rattle.window_passes.proofs.run_rows.Goals as goal

-- where the machine stands at the start
zeros : {p : Standing} → (p.occupied ≡ 0) × ((p.overflow ≡ 0) × ((p.clock ≡ 0) × (p.count ≡ 0)))
    → p ≡ record { occupied = 0; overflow = 0; clock = 0; count = 0 }
zeros z = λ i. record { occupied = z.0 i; overflow = z.1.0 i; clock = z.1.1.0 i; count = z.1.1.1 i }

pub returns : goal.returns
returns c =
    let n = length c.args.marks.now in
    let stands = zeros c.default.ensures in
    let cleared : c.fill.new.self ≡ replicate n 0 = search rules in (
      ran_count n c.args.rows.now c.all_passes.ensures stands c.fill_waiting.ensures cleared,
      rw (← (ran_marks n c.args.rows.now c.all_passes.ensures stands c.fill_waiting.ensures cleared)) (search rules),
    )
