-- What the proofs of this crate's functions use.
use Rattle.std.specs.Prelude.{◌≡◌, ℕ, ◌+◌, ◌<◌, List, ℤ, pos, length, get_or, take}
use Rattle.std.proofs.Common.{sym, ap, ◌∙◌}
use Rattle.word.specs.Word.{int_bytes}
use Rattle.output.specs.Writes.{Contents, with_bytes}
use Rattle.output.specs.Laws.Writes.{with_then}
use Rattle.stream_format.specs.Write.{ints_bytes}
use Rattle.output.specs.Laws.Writes.{writing, byte_by_byte}
use Rattle.word.specs.Laws.Word.{int_held}
use Rattle.stream_record_writer.specs.Laws.Puts.{ints_turn}

-- figures put out one after the other
pub ruleset figures = (writing, int_held)

-- and single bytes before them
pub ruleset fields = (writing, byte_by_byte, int_held)

-- the numbers of a row: one more
pub with_ints : (c : Contents) (vs : List ℤ) (j : ℕ) → j < length vs
    → with_bytes c (ints_bytes (take (j + 1) vs))
    ≡ with_bytes (with_bytes c (ints_bytes (take j vs))) (int_bytes (get_or vs j (pos 0)))
with_ints c vs j h =
    ap (with_bytes c) (sym (ints_turn vs j h))
    ∙ with_then c (ints_bytes (take j vs)) (int_bytes (get_or vs j (pos 0)))

pub ruleset numbers = (writing, int_held, with_ints)
