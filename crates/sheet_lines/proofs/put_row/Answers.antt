use Rattle.std.proofs.Common.{◌≡◌, ◌≤◌, ◌+◌, ◌-◌, ℕ, List, get_or, arith, rules, sym, to_z, of_z, to_z-of_z}
use Rattle.std.specs.Prelude.{◌<◌, ℤ, pos}
use Rattle.std.specs.Int.{w32}
use Rattle.std.specs.Int.Signed.{mag}
use Rattle.output.specs.Writes.{Writes}
use Rattle.laws.specs.Lists.{joined}
use Rattle.output.specs.Laws.Stored.{writes_then, writes_turn}
use Rattle.text.specs.Text.{decimal, signed, hundredths}
use Rattle.text.specs.Laws.Text.{decimal_short, value_short, hundredths_short}
use Rattle.sheet_lines.specs.Line.{padded, field_width, field_text, fields_of, row_line}
use Rattle.sheet_lines.specs.Laws.Turns.{text_other, width_other}
use Rattle.sheet_lines.proofs.put_row.Goals as goal

-- what a closure captures is held as its bits
held : (v : ℤ) → mag v < 2147483648 → to_z w32 (of_z w32 v) ≡ v
held v f = to_z-of_z {w = w32} {z = v} (record { sfits = f })

-- the field of a column but the hours
column_field : (r : ℕ) (row : List ℤ) (k : ℕ) → 1 ≤ k
    → padded 12 (signed (get_or row k (pos 0))) ≡ padded (field_width (k + 1)) (field_text r row (k + 1))
column_field r row k h =
    let e : k + 1 - 1 ≡ k = omega arith in
    rw (
      sym (width_other (k + 1) (λ z. omega arith) (λ z. omega arith)),
      sym (text_other r row (k + 1) (λ z. omega arith) (λ z. omega arith)),
      e,
    )

pub loop-column-init : goal.loop-column-init
unfolding joined field_width field_text
loop-column-init c =
    let hours = c.unwrap_or-hours.result in
    let is : hours ≡ get_or c.args.row.now 0 (pos 0) = search rules in
    let number_short = decimal_short 19 c.args.r (omega arith) in
    let short = hundredths_short hours c.unwrap_or-hours.type_inv in
    rw (← is)
    (writes_then (c.put_right.ensures (decimal c.args.r) (omega arith) (λ a b h. search rules))
    (c.put_right-2.ensures (hundredths hours) (omega arith)
    (λ a b h.
    let put : Writes a b (hundredths (to_z w32 (of_z w32 hours))) = search rules in
    rw (held hours c.unwrap_or-hours.type_inv) at put)))

pub loop-column-preserved : goal.loop-column-preserved
loop-column-preserved c =
    let k = c.loop-column.column in
    let figure = c.unwrap_or-figure.result in
    let is : figure ≡ get_or c.args.row.now k (pos 0) = search rules in
    let short = value_short figure c.unwrap_or-figure.type_inv in
    let put =
    c.put_right-in-loop-column.ensures (signed figure) (omega arith)
    (λ a b h.
    let put : Writes a b (signed (to_z w32 (of_z w32 figure))) = search rules in
    rw (held figure c.unwrap_or-figure.type_inv) at put) in
    writes_turn _ (k + 1) c.loop-column.invariant
    (rw (← column_field c.args.r c.args.row.now k (omega arith), ← is) put)

pub returns : goal.returns
unfolding row_line fields_of
returns c =
    let e : c.loop-column.column + 1 ≡ 9 = omega arith in
    writes_then (rw e at c.loop-column.invariant) c.put_byte.ensures
