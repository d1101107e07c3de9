-- The values that a stream of bytes gives fit 32 bits.
use Rattle.std.specs.Prelude.{ℕ, zero, suc, ◌+◌, ◌<◌, List, [], ◌∷◌, ◌++◌, ℤ, length, drop}
use Rattle.std.proofs.Common.{arith, get_or-drop}
use Rattle.std.specs.Int.Signed.{mag}
use Rattle.word.specs.Word.{int_at}
use Rattle.word.specs.Laws.Word.{Bytes, int_fits}
use Rattle.stream_format.specs.Kinds.{class_of, body_of}
use Rattle.stream_format.specs.Read.{ints_at, values_under, values_from, values_of}
use Rattle.stream_format.specs.Kinds.{Class}
use Rattle.stream_format.specs.Kinds.{Unknown, PreferenceRecord, NamedRecord, RunRecord}
use Rattle.report_lines.specs.Laws.Lengths.{Values}

none_fit : Values []
none_fit i = omega arith

more_fit : (v : ℤ) (vs : List ℤ) → mag v < 2147483648 → Values vs → Values (v ∷ vs)
more_fit v vs h f zero = h
more_fit v vs h f (suc i) = f i

both_fit : (a b : List ℤ) → Values a → Values b → Values (a ++ b)
both_fit [] b f g = g
both_fit (v ∷ a) b f g = more_fit v (a ++ b) (f 0) (both_fit a b (λ i. f (suc i)) g)

ints_fit : (n : ℕ) (bs : List ℕ) (at : ℕ) → Bytes bs → Values (ints_at n bs at)
unfolding ints_at
ints_fit zero bs at b = none_fit
ints_fit (suc n) bs at b =
    more_fit (int_at bs at) (ints_at n bs (at + 4)) (int_fits bs at b).sfits (ints_fit n bs (at + 4) b)

under_fit : (class : Class) (bs : List ℕ) → Bytes bs → Values (values_under class bs)
under_fit Unknown bs b = none_fit
under_fit PreferenceRecord bs b = none_fit
under_fit NamedRecord bs b = none_fit
under_fit RunRecord bs b = ints_fit 8 bs 1 b

from_fit : (n : ℕ) (bs : List ℕ) → Bytes bs → Values (values_from n bs)
unfolding values_from
from_fit zero bs b = none_fit
from_fit (suc n) bs b =
    let rest = drop (1 + body_of bs) bs in
    both_fit (values_under (class_of bs) bs) (values_from n rest) (under_fit (class_of bs) bs b)
    (from_fit n rest (λ i. rw (get_or-drop (1 + body_of bs) bs i 0) (b (1 + body_of bs + i))))

pub values_fit : (s : List ℕ) → Bytes s → Values (values_of s)
unfolding values_of
values_fit s b = from_fit (length s) s b
