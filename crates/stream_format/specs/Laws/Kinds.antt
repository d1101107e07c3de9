-- What every row of the table of kinds has, by one computed test of the table.
use Rattle.std.specs.Prelude.{◌≡◌, refl, ℕ, zero, suc, ◌*◌, ◌<◌, ◌≤◌, Bool, true, ◌&&◌, List, [], ◌∷◌, leb, get_or}
use Rattle.std.proofs.Common.{ap, arith, leb-true}
use lib.ListN.{get_or-eq_default}
use Rattle.laws.specs.Laws.Bools.{both}
use Rattle.stream_format.specs.Kinds.{kind, kinds, kind_of}
use Rattle.stream_format.specs.Kinds.{Class}
use Rattle.stream_format.specs.Kinds.{Unknown, PreferenceRecord, NamedRecord, RunRecord}
use Rattle.stream_format.specs.Kinds.{Kind}

every : (Kind → Bool) → List Kind → Bool
every p [] = true
every p (k ∷ ks) = p k && every p ks

of_every : (p : Kind → Bool) (ks : List Kind) (i : ℕ) (d : Kind) → every p ks ≡ true → p d ≡ true
    → p (get_or ks i d) ≡ true
unfolding every
of_every p [] i d e q = q
of_every p (k ∷ ks) zero d e q = (both (p k) (every p ks) e).0
of_every p (k ∷ ks) (suc i) d e q = of_every p ks i d (both (p k) (every p ks) e).1 q

pub body_short : (k : ℕ) → (kind_of k).body ≤ 32
unfolding kind_of kinds every
body_short k = leb-true _ _ (of_every (λ (r : Kind). leb r.body 32) kinds k (kind Unknown 0) refl refl)

-- the longest body of a class
abbrev pub longest : Class → ℕ
longest Unknown = 0
longest PreferenceRecord = 21
longest NamedRecord = 5
longest RunRecord = 32

pub body_longest : (k : ℕ) → (kind_of k).body ≤ longest (kind_of k).class
unfolding kind_of kinds every
body_longest k =
    leb-true _ _ (of_every (λ (r : Kind). leb r.body (longest r.class)) kinds k (kind Unknown 0) refl refl)

-- the numbers that a record of a class brings to the log: its body has four bytes for each
abbrev pub values_in : Class → ℕ
values_in Unknown = 0
values_in PreferenceRecord = 0
values_in NamedRecord = 0
values_in RunRecord = 8

pub body_holds : (k : ℕ) → 4 * values_in (kind_of k).class ≤ (kind_of k).body
unfolding kind_of kinds every
body_holds k =
    leb-true _ _ (of_every (λ (r : Kind). leb (4 * values_in r.class) r.body) kinds k (kind Unknown 0) refl refl)

-- the table knows no kind before 01, and none after 08
pub none : (k : ℕ) → k < 1 → (kind_of k).class ≡ Unknown
unfolding kind_of kinds
none zero h = refl
none (suc k) h = absurd (omega arith)

pub past : (k : ℕ) → 9 ≤ k → (kind_of k).class ≡ Unknown
unfolding kind_of kinds
past k h = ap (λ (r : Kind). r.class) (get_or-eq_default kinds (kind Unknown 0) h)

pub ruleset outside = (none, past)
