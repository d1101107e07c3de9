-- The marked cases hold: the answers of the whole table are computed, and one law gives the statement of each case.
use Rattle.std.specs.Prelude.{◌≡◌, refl, List, [], ◌∷◌, map}
use Rattle.laws.specs.Checks.{◌gives◌, ◌then◌}
use Rattle.laws.specs.First.{first_at, any_below, first_refusal}
use Rattle.laws.specs.Outcome.{outcome}
use Rattle.arith.specs.Gap.{gap}
use Rattle.arith.specs.Ceil.{ceil_div}
use Rattle.constructor.specs.Level.{distance, inside, max_level}
use Rattle.constructor.specs.Side.{side_by, side_of, parts_of, tops_of}
use Rattle.constructor.specs.Valid.{sound, constructor_refusal, layer_refusal}
use Rattle.preference.specs.Valid.{column_refusal, preference_refusal, named_refusal, list_refusal}
use Rattle.preference.specs.Level.{layer_of, level_at, side_at, max_at, value_refusal, level_refusal}
use Rattle.preference.specs.Parts.{levels, max_levels, row_refusal}
use Rattle.laws.specs.Lists.{joined, any_of}
use Rattle.run_log.specs.Log.{log_refusal}
use Rattle.pareto.specs.Dominance.{none_above, some_below, dominates}
use Rattle.pareto.specs.Best.{competes, competing, vector_at, row_dominates, is_best, marks_of}
use Rattle.pareto.specs.Checked.{rows_refusal, checked_refusal}
use Rattle.lattice_nodes.specs.Lattice.{node_count, node_id, levels_of, held, dominated_node, reached, edges_from, edges}
use Rattle.lattice_nodes.specs.Lattice.{crossed_at, crossings, bound_from, bound}
use Rattle.lattice.specs.Walked.{lattice_tops, lattice_row, lattice_rows}
use Rattle.lattice.specs.Engine.{lattice_refusal}
use Rattle.window_machine.specs.Machine as machines
use Rattle.window.specs.Engine.{sizes_refusal, window_refusal, machine_of}
use Rattle.marked_cases.specs.Question.{Answer, answer, Case, Holds, Each}
use Rattle.marked_cases.specs.Table.{cases}

answers : List Case → List Answer
answers = map (λ c. answer c.asks)

expected : List Case → List Answer
expected = map (λ c. c.expects)

each : (cs : List Case) → answers cs ≡ expected cs → Each cs
unfolding answers expected Holds
each [] e = tt
each (c ∷ cs) e = (cc, each cs (cc))

pub marked_cases : Each cases
unfolding answers expected answer outcome ◌gives◌ ◌then◌ first_at any_below first_refusal gap ceil_div distance inside
    max_level sound constructor_refusal layer_refusal column_refusal preference_refusal named_refusal list_refusal
    layer_of
    level_at side_at side_by side_of parts_of tops_of max_at value_refusal level_refusal
    levels max_levels row_refusal joined any_of log_refusal none_above some_below
    dominates competes competing vector_at row_dominates is_best marks_of rows_refusal checked_refusal node_count
    node_id
    levels_of held dominated_node reached edges_from edges crossed_at crossings bound_from bound lattice_tops
    lattice_row
    lattice_rows lattice_refusal sizes_refusal window_refusal machine_of machines.keep machines.marked machines.older
    machines.younger machines.release machines.dominated machines.compares machines.tick machines.spares machines.remove
    machines.enter machines.set_aside machines.renew machines.finish machines.is_empty machines.place machines.judge
    machines.read machines.pass machines.passes machines.start machines.machine
marked_cases = each cases refl
