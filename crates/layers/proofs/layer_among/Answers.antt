use Rattle.std.specs.Prelude.{◌≡◌, refl, true, false, ℕ, ◌<◌, ◌≤◌, List, ℤ, take, get_or, pos, length, Bool, cond, ltb}
use Rattle.std.proofs.Common.{rules, sym, ◌∙◌, arith, ltb-true, ltb-false}
use Rattle.std.proofs.Math.ListN.{get_or-eq_default}
use Rattle.std.proofs.lemmas.List.{get_or-take, get_or_default, length-take-le}
use Rattle.laws.specs.First.{first_at}
use Rattle.scan.specs.Laws.{first_found}
use Rattle.arith.specs.Gap.{eq_z}
use Rattle.arith.specs.Laws.Local.{num}
use Rattle.preference.specs.Names.{is_value}
use Rattle.layers.proofs.layer_among.Goals as goal

-- what the search among the first n values tells, said of all of them
found : (values : List ℤ) (v w : ℤ) (n k : ℕ) → w ≡ v → n ≤ length values → k ≤ n
    → ((i : ℕ) → i < k → false ≡ eq_z (get_or (take n values) i (pos 0)) w)
    → (k < n → true ≡ eq_z (get_or (take n values) k (pos 0)) w)
    → first_at (is_value values v) n ≡ k
found values v w n k e m h before there =
    first_found (is_value values v) n k h
    (λ i l. rw (← get_or-take n values i (pos 0) (omega arith), ← e) (sym (before i l)))
    (λ l. rw (← get_or-take n values k (pos 0) l, ← e) (sym (there l)))

-- what is picked is what the search hits, or the other number
picked : (layers : List ℕ) (n k others : ℕ) → n ≤ length layers → (t : Bool) → ltb k n ≡ t
    → get_or (take n layers) k others ≡ cond t (get_or layers k 0) others
picked layers n k others h true e =
    let l : k < n = ltb-true k n e in
    get_or-take n layers k others l ∙ get_or_default layers k others 0 (omega arith)
picked layers n k others h false e =
    get_or-eq_default (take n layers) others (omega (arith, length-take-le n layers h, ltb-false k n e))

pub returns : goal.returns
returns c =
    let a = c.args in
    let n = c.min-counted.result in
    let k = c.first_place-first in
    let m : n ≤ length a.values.now = omega arith in
    let z = length-take-le n a.values.now m in
    let e = found a.values.now a.v _ n k.result (num a.v c.ranges.v.sfits) m (omega arith)
    (λ i l. k.ensures.before i (pos 0) (omega arith) l) (λ l. k.ensures.there (omega arith) (pos 0)) in
    let p : c.unwrap_or.result ≡ get_or (take n a.layers.now) k.result a.others = search rules in
    p ∙ rw (← c.min.ensures, ← c.min-counted.ensures, e) (picked a.layers.now n k.result a.others (omega arith) (ltb k.result n) refl)
