-- Storing the values of runs, one run after the other.
use Rattle.std.specs.Prelude.{◌≡◌, ℕ, suc, ◌+◌, ◌-◌, ◌*◌, ◌<◌, List, ℤ, drop}
use Rattle.std.proofs.Common.{sym, ap, ◌∙◌, arith, drop-drop}
use Rattle.std.proofs.lemmas.List.Edits.{sets}
use Rattle.laws.specs.Laws.Stores.{sets_append}
use Rattle.stream_format.specs.Read.{ints_at}
use Rattle.stream_reader.specs.Runs.{run_values}
use Rattle.stream_reader.proofs.Part.{lent, part}

pub next : (log : List ℤ) (runs : List ℕ) (rows row : ℕ) → row < rows
    → sets (sets log (8 * row) (ints_at 8 (lent runs (33 * row)) 1)) (8 * (row + 1)) (run_values (rows - (row + 1)) (drop (33 * (row + 1)) runs))
    ≡ sets log (8 * row) (run_values (rows - row) (drop (33 * row) runs))
unfolding run_values ints_at
next log runs rows row h =
    let bs = drop (33 * row) runs in
    let e : rows - row ≡ suc (rows - (row + 1)) = omega arith in
    let to : 8 * (row + 1) ≡ 8 * row + 8 = omega arith in
    let at : drop (33 * (row + 1)) runs ≡ drop 33 bs = ap (λ (i : ℕ). drop i runs) (omega arith) ∙ sym (drop-drop 33 (33 * row) runs) in
    rw (part runs (33 * row), e, to, at) (sym (sets_append log (8 * row) (ints_at 8 bs 1) (run_values (rows - (row + 1)) (drop 33 bs))))

pub done : (log : List ℤ) (runs : List ℕ) (rows row : ℕ) → row ≡ rows
    → sets log (8 * row) (run_values (rows - row) (drop (33 * row) runs)) ≡ log
unfolding run_values
done log runs rows row e = let z : rows - row ≡ 0 = omega arith in rw z

pub ruleset run_by_run = (next, done)
