-- Texts computed from the definitions. Document 01, "Harbour log and marked cases": "Given all this as a stream,
-- `shortlist` prints" five lines; and two examples of its table of numbers: "empty stream", "Harbour log, 1,001 cubic
-- metres".
use Rattle.std.specs.Prelude.{ℕ, ◌≡◌, refl, List, [], ◌∷◌, ◌++◌}
use Rattle.laws.specs.Checks.{◌gives◌, ◌then◌}
use Rattle.laws.specs.First.{first_at, any_below, first_refusal}
use Rattle.laws.specs.Lists.{joined, any_of}
use Rattle.arith.specs.Gap.{gap}
use Rattle.arith.specs.Ceil.{ceil_div}
use Rattle.constructor.specs.Level.{distance, inside, max_level}
use Rattle.constructor.specs.Valid.{sound, constructor_refusal, layer_refusal}
use Rattle.constructor.specs.Side.{side_by, side_of, parts_of, tops_of}
use Rattle.preference.specs.Valid.{column_refusal, preference_refusal, named_refusal, list_refusal}
use Rattle.preference.specs.Level.{layer_of, level_at, side_at, max_at, value_refusal, level_refusal}
use Rattle.preference.specs.Parts.{levels, max_levels, row_refusal}
use Rattle.run_log.specs.Log.{log_refusal}
use Rattle.word.specs.Word.{word_at, int_at, word_bytes}
use Rattle.stream_format.specs.Kinds.{kinds, kind_of}
use Rattle.stream_format.specs.Read.{constructor_of, ints_at, ends_layered, out_of_place, figures_refusal, record_refusal}
use Rattle.stream_format.specs.Read.{with_record}
use Rattle.stream_format.specs.Read.{take_record, step, steps, records, end_refusal, finish, read_of, values_from, values_of}
use Rattle.pareto.specs.Dominance.{none_above, some_below, dominates}
use Rattle.pareto.specs.Best.{competes, competing, vector_at, row_dominates, is_best, best_matches}
use Rattle.pareto.specs.Checked.{rows_refusal, checked_refusal}
use Rattle.lattice_nodes.specs.Lattice.{node_count, node_id, levels_of, held, dominated_node, reached, edges_from, edges}
use Rattle.lattice_nodes.specs.Lattice.{crossed_at}
use Rattle.lattice_nodes.specs.Lattice.{crossings}
use Rattle.lattice.specs.Walked.{lattice_tops, lattice_row, lattice_rows}
use Rattle.lattice.specs.Engine.{lattice_refusal}
use Rattle.selection.specs.Selection.{either_refusal}
use Rattle.text.specs.Letters.{letters}
use Rattle.text.specs.Text.{decimal_by, decimal, sign, signed}
use Rattle.report_lines.specs.Lines.{refused_text, head_text, fields_text, line_text}
use Rattle.report.specs.Report.{lines_text, text_of, report_of}

-- a run of hours, cubic metres and density, the rest 0
abbrev run : ℕ → ℕ → ℕ → List ℕ
run hours metres density =
    7 ∷ word_bytes hours ++ word_bytes metres ++ word_bytes density ++ word_bytes 0 ++ word_bytes 0 ++ word_bytes 0
    ++ word_bytes 0 ++ word_bytes 0

-- most cubic metres, 0 to 1,000 by 100; density near 1,250, 1,000 to 1,600 by 50; five runs, the second of so many
-- cubic metres
abbrev pub harbour_with : ℕ → List ℕ
harbour_with metres =
    2 ∷ 1 ∷ 0 ∷ 0 ∷ 0 ∷ 0 ∷ 232 ∷ 3 ∷ 0 ∷ 0 ∷ 100 ∷ 0 ∷ 0 ∷ 0 ∷ []
    ++ 3 ∷ 2 ∷ word_bytes 1000 ++ word_bytes 1600 ++ word_bytes 50 ++ word_bytes 1250
    ++ run 800 900 1300
    ++ run 650 metres 1400
    ++ run 700 850 1250
    ++ run 720 880 1210
    ++ run 810 900 1270

abbrev pub printed : List ℕ
printed = letters "runs 5 best 4\n0 800 900\n1 650 1000\n2 700 850\n4 810 900\n"

pub examples : (report_of (harbour_with 1000) ≡ printed) × (report_of (harbour_with 1001) ≡ letters "refused 8\n")
    × (report_of [] ≡ letters "refused 1\n")
unfolding report_of text_of lines_text refused_text head_text fields_text line_text decimal_by decimal sign signed
    either_refusal lattice_tops lattice_row lattice_rows lattice_refusal checked_refusal rows_refusal log_refusal
    node_count
    node_id levels_of held dominated_node reached edges_from edges crossed_at crossings none_above some_below dominates
    competes competing vector_at row_dominates is_best best_matches read_of values_from values_of finish end_refusal
    records
    steps step take_record with_record record_refusal ints_at word_at int_at word_bytes kind_of kinds ends_layered
    out_of_place
    figures_refusal constructor_of column_refusal preference_refusal named_refusal list_refusal layer_of level_at max_at
    value_refusal level_refusal side_at side_by side_of parts_of tops_of levels max_levels row_refusal
    distance inside max_level sound constructor_refusal
    layer_refusal gap ceil_div joined any_of first_at any_below first_refusal ◌gives◌ ◌then◌
examples = (refl, refl, refl)
