-- The library's test over the numbers below n, place by place.
use Rattle.std.specs.Prelude.{◌≡◌, ℕ, Bool}
use Rattle.std.specs.List.{list_any, range_with_len}
use Rattle.std.proofs.Common.{ap, sym, ◌∙◌, arith, zero-add}
use Rattle.std.proofs.lemmas.List.{take_all}
use Rattle.std.proofs.lemmas.List.FromFn.{length-range_with_len, get_or-range_with_len}
use Rattle.laws.specs.First.{any_below}
use Rattle.laws.specs.Laws.First.{any_cong}
use Rattle.laws.specs.Laws.Places.{list_any_below}

pub list_any_range : (f : ℕ → Bool) (n : ℕ) → list_any f (range_with_len 0 n) ≡ any_below f n
list_any_range f n =
    let xs = range_with_len 0 n in
    let long = length-range_with_len 0 n in
    ap (list_any f) (sym (take_all n xs (omega (arith, long))))
    ∙ list_any_below f 0 xs n (omega (arith, long))
    ∙ any_cong _ f n (λ i l. ap f (get_or-range_with_len 0 n i 0 l ∙ zero-add i))
