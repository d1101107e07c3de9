use Rattle.std.specs.Prelude.{◌≡◌, ℕ, ◌<◌, Option, Some, None}
use Rattle.std.specs.Option.{unwrap_or, ok_or}
use Rattle.std.proofs.Common.{rules, sym, ◌∙◌, arith, refl}
use Rattle.laws.specs.Laws.Checks.{then_none}
use Rattle.refusal.specs.Laws.Refusal.{number_some}
use Rattle.refusal.specs.declared.Refusal.TheVariants.{Shortlisted}
use Rattle.preference.specs.Valid.{list_refusal}
use Rattle.run_log.specs.Log.{log_of, row_count}
use Rattle.pareto.specs.Checked.{checked_refusal}
use Rattle.pareto.specs.Laws.Checked.{refused_first, by_rows}
use Rattle.dominator.specs.First.{first_dominator, dominator_or, RowAsked}
use Rattle.dominator.specs.Laws.First.{some_found, none_found}
use Rattle.dominator.specs.Engine.{Answered}
use Rattle.dominator.specs.Laws.Answer.{exit, no_row, accepted, beaten, shortlisted}
use Rattle.dominator.proofs.of.Goals.{Else-row_count-asked, In_ok-first}
use Rattle.dominator.proofs.of.Goals as goal

-- the checks up to 8 have passed, and the asked row is one of the log's
asked : (c : Else-row_count-asked) → let log = log_of c.args.log.now in
    (0 ≡ checked_refusal c.args.list log 0) × RowAsked c.args.list log c.args.row
asked c =
    let z = by_rows c.args.list (log_of c.args.log.now) 0 _ c.in_ok-check.ensures refl c.in_ok-check_rows.ensures in
    (z, accepted _ _ c.args.row 0 z refl (search rules))

pub returns-in_err-check : goal.returns-in_err-check
returns-in_err-check c =
    exit _ _ c.args.row _ (refused_first _ (log_of c.args.log.now) 0 _ c.in_err-check.ensures)
    _ _ c.from_residual.ensures.1 refl

pub returns-in_err-check_rows : goal.returns-in_err-check_rows
returns-in_err-check_rows c =
    exit _ _ c.args.row _ (by_rows _ (log_of c.args.log.now) 0 _ c.in_ok-check.ensures refl c.in_err-check_rows.ensures)
    _ _ c.from_residual-in_err-check_rows.ensures.1 refl

pub returns-then-row_count-asked : goal.returns-then-row_count-asked
returns-then-row_count-asked c =
    let a = c.args in
    let log = log_of a.log.now in
    no_row a.list log a.row 0 (by_rows a.list log 0 _ c.in_ok-check.ensures refl c.in_ok-check_rows.ensures) refl (search rules)

pub lend_table-requires : goal.lend_table-requires
lend_table-requires c =
    let g = (asked (goal.at.lend_table-requires c).Else-row_count-asked).1 in
    record { callable = λ z p e. search rules }

-- the table of a log that the checks accepted is always lent
pub returns-in_err-first : goal.returns-in_err-first
returns-in_err-first c =
    let z = (then_none (list_refusal c.args.list) _ (sym c.in_ok-check.ensures)).1 in
    absurd (number_some _ (c.in_err-first.ensures.refused ∙ z))

-- what the search found
told : (c : In_ok-first) (none : ℕ)
    → unwrap_or c.in_ok-first.first none ≡ dominator_or c.args.list (log_of c.args.log.now) c.args.row none
told c = search rules

found : (c : In_ok-first) (best : ℕ) → c.in_ok-first.first ≡ Some best
    → let k = first_dominator c.args.list (log_of c.args.log.now) c.args.row in (k < row_count c.args.log.now) × (best ≡ k)
found c best e =
    some_found (row_count c.args.log.now) (first_dominator c.args.list (log_of c.args.log.now) c.args.row) best
    (λ none. rw e at (told c none))

pub map-requires : goal.map-requires
map-requires c =
    let g = (asked (goal.at.map-requires c).Else-row_count-asked).1 in
    λ x e.
    let s : x < 4294967296 = let f = found c x e in omega (arith, g.few, f.0, f.1) in
    search rules

answered : (c : In_ok-first) (first : Option ℕ) → c.in_ok-first.first ≡ first
    → Answered c.args.list (log_of c.args.log.now) c.args.row (ok_or first Shortlisted)
answered c (Some best) e =
    let f = found c best e in
    let a = asked (goal.at.map-requires c).Else-row_count-asked in
    beaten _ _ c.args.row 0 a.0 refl a.1.is_row best f.1 (rw f.1 f.0)
answered c None e =
    let n = none_found (row_count c.args.log.now) (first_dominator c.args.list (log_of c.args.log.now) c.args.row) (λ none. rw e at (told c none)) in
    let a = asked (goal.at.map-requires c).Else-row_count-asked in
    shortlisted _ _ c.args.row 0 a.0 refl a.1.is_row _ refl n

pub returns : goal.returns
returns c =
    let same : c.map.result ≡ c.in_ok-first.first = search rules in
    rw (c.ok_or.ensures.value, same) (answered (goal.at.returns c).In_ok-first _ refl)
