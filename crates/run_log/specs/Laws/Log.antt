-- What an accepted log has, and which logs are accepted.
use Rattle.std.specs.Prelude.{◌≡◌, ℕ, ◌*◌, ◌%◌, ◌<◌, ◌≤◌, List, not, ◌||◌, ltb, eqb, ℤ, length, drop}
use Rattle.std.proofs.Common.{arith, length-drop, length-take-le, eqb-true, ltb-false, eq-eqb, le-ltb}
use Rattle.std.proofs.lemmas.Bool.{not-false}
use Rattle.laws.specs.Laws.Bools.{neither}
use Rattle.laws.specs.Laws.Checks.{gives_none, gives_no}
use Rattle.run_log.specs.Log.{row_count, row_at, log_refusal}

pub record LogAccepted (log : List ℤ) : Type 0 where
  pub eights : length log ≡ 8 * row_count log
  pub few : row_count log ≤ 1024

pub accepted : (log : List ℤ) → log_refusal log ≡ 0 → LogAccepted log
unfolding log_refusal
accepted log e =
    let n = length log in
    let p = neither (not (eqb (n % 8) 0)) (ltb 8192 n) (gives_none (not (eqb (n % 8) 0) || ltb 8192 n) 9 e) in
    let whole : n % 8 ≡ 0 = eqb-true (n % 8) 0 (not-false (eqb (n % 8) 0) p.0) in
    let short : n ≤ 8192 = ltb-false 8192 n p.1 in
    record { eights = omega arith; few = omega arith }

pub accepted_rows : (log : List ℤ) (n : ℕ) → length log ≡ 8 * n → n ≤ 1024 → log_refusal log ≡ 0
unfolding log_refusal
accepted_rows log n e h =
    let whole : length log % 8 ≡ 0 = omega arith in
    gives_no (not (eqb (length log % 8) 0) || ltb 8192 (length log)) 10
    (rw (eq-eqb (length log % 8) 0 whole, le-ltb 8192 (length log) (omega arith)))

-- each row of an accepted log is eight numbers
pub row_long : (log : List ℤ) (r : ℕ) → r < row_count log → length (row_at log r) ≡ 8
row_long log r h = length-take-le 8 (drop (8 * r) log) (omega (arith, length-drop (8 * r) log))
