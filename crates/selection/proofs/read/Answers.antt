use Rattle.std.specs.Prelude.{◌≡◌, ℕ, ◌*◌, ◌≤◌, List, ℤ, take, length}
use Rattle.std.proofs.Common.{sym, ap, ◌∙◌, arith}
use Rattle.preference.specs.declared.PreferenceList.{PreferenceList}
use Rattle.stream_format.specs.Read.{read_of, reading, values_of, log_after}
use Rattle.stream_format.specs.ReadAnswer.{ReadAnswer}
use Rattle.stream_format.specs.Laws.Accepted.{read_accepted}
use Rattle.stream_format.specs.Laws.Rows.{log_read}
use Rattle.selection.proofs.read.Goals as goal

-- a stream that reading accepts, into so many numbers
module _ (s : List ℕ) (room place rows : ℕ) (l : PreferenceList) (e : reading place rows l ≡ read_of s room) where
  none : (read_of s room).refusal ≡ 0
  none = ap (λ (r : ReadAnswer). r.refusal) (sym e)

  rows_are : rows ≡ (read_of s room).rows
  rows_are = ap (λ (r : ReadAnswer). r.rows) e

  fits : 8 * rows ≤ room
  fits =
      let a = read_accepted s room none in
      omega (arith, a.fits, rows_are, ap (λ (r : ReadAnswer). r.rows) a.answer)

-- the front of the numbers is the log
front : (s : List ℕ) (lent log : List ℤ) (place rows : ℕ) (l : PreferenceList)
    → reading place rows l ≡ read_of s (length lent) → log ≡ log_after s lent → take (8 * rows) log ≡ values_of s
front s lent log place rows l e f =
    rw (f, rows_are s (length lent) place rows l e) (log_read s lent (none s (length lent) place rows l e))

pub invariant_of-result : goal.invariant_of-result
invariant_of-result c =
    let a = c.args in
    let f = fits a.stream.now (length a.numbers.now) _ _ _ c.in_ok-read.ensures.answer in record { fits = omega (arith, c.told-numbers) }

pub returns-clause-held : goal.returns-clause-held
returns-clause-held c =
    let a = c.args in (
      ap (λ (r : ReadAnswer). r.list) c.in_ok-read.ensures.answer ∙ ap (λ (n : ℕ). (read_of a.stream.now n).list) c.told-numbers,
      front a.stream.now a.numbers.now c.read.new.log _ _ _ c.in_ok-read.ensures.answer c.in_ok-read.ensures.left,
    )
