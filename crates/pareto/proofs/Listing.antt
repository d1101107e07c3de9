-- The list of the rows that compete, as it is made row by row with room for n.
use Rattle.std.proofs.Common.{◌≡◌, ◌∙◌, sym, ℕ, ◌+◌, ◌<◌, ◌≤◌, Bool, true, false, List, [], ◌∷◌, ◌++◌, arith, eqb, length, take, length-append}
use Rattle.std.proofs.lemmas.List.{length-take, take_all, take-append-le}
use Rattle.std.proofs.lemmas.Bool.Decides.{nat_tests}
use Rattle.laws.specs.Lists.{passing}
use Rattle.pareto.specs.Laws.Competing.{passing_more, passing_same}

-- what the test whether a list is full says
pub has_room : (full : Bool) (m n : ℕ) → full ≡ eqb m n → full ≡ false → m ≤ n → m < n
has_room full m n e f h = grind (arith, nat_tests)

pub is_filled : (full : Bool) (m n : ℕ) → full ≡ eqb m n → full ≡ true → n ≤ m
is_filled full m n e f = grind (arith, nat_tests)

module _ (p : ℕ → Bool) (n r : ℕ) (rows : List ℕ) (e : rows ≡ take n (passing p r)) where
  abbrev before : List ℕ
  before = passing p r

  -- row r competes, and there is room: what was listed is all before it
  pub listed : p r ≡ true → length rows < n → rows ++ (r ∷ []) ≡ take n (passing p (r + 1))
  listed q h =
      let few : length before < n = omega (arith, length-take n before, rw e at h) in
      let all : rows ≡ before = e ∙ take_all n before (omega arith) in
      rw (all, passing_more p r q) (sym (take_all n (before ++ (r ∷ [])) (omega (arith, length-append before (r ∷ [])))))

  -- there is none
  pub left_out : p r ≡ true → n ≤ length rows → rows ≡ take n (passing p (r + 1))
  left_out q h =
      rw (passing_more p r q) (e ∙ sym (take-append-le n before (r ∷ []) (omega (arith, length-take n before, rw e at h))))

  pub passed : p r ≡ false → rows ≡ take n (passing p (r + 1))
  passed q = rw (passing_same p r q) e
