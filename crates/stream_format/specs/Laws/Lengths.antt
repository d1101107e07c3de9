-- How long the bytes of a record are: one of kind, and the body that the kind fixes.
use Rattle.std.specs.Prelude.{◌≡◌, refl, ℕ, suc, ◌+◌, ◌*◌, ◌≤◌, List, [], ◌∷◌, Bool, true, false, cond, eqb, ℤ, length, drop}
use Rattle.std.proofs.Common.{ap, ◌∙◌, arith, length-append, length-take}
use Rattle.word.specs.Word.{word_bytes, int_bytes}
use Rattle.run_log.specs.Log.{row_at}
use Rattle.preference.specs.List.{preference_at, named_at}
use Rattle.laws.specs.Lists.{joined}
use Rattle.laws.specs.Laws.Joined.{joined_short}
use Rattle.preference.specs.declared.Preference.{Preference}
use Rattle.preference.specs.declared.Named.{Named}
use Rattle.preference.specs.declared.PreferenceList.{PreferenceList}
use Rattle.constructor.specs.declared.Constructor.{Constructor}
use Rattle.constructor.specs.declared.Constructor.TheVariants.{Lowest, Highest, Around, Between, Layered}
use Rattle.constructor.specs.declared.Constructor.TheVariants.{BetweenTrivial}
use Rattle.stream_format.specs.Kinds.{kinds, kind_of}
use Rattle.stream_format.specs.Laws.Kinds.{longest, body_longest}
use Rattle.stream_format.specs.Kinds.{PreferenceRecord}
use Rattle.stream_format.specs.Write.{kind_for, constructor_bytes, preference_bytes, named_bytes, ints_bytes, run_bytes}
use Rattle.stream_format.specs.Write.{named_bytes_of, preference_records, row_bytes}

pub int_long : (z : ℤ) → length (int_bytes z) ≡ 4
unfolding int_bytes word_bytes
int_long z = refl

-- a column and the figures are the body
pub constructor_long : (c : Constructor) → suc (length (constructor_bytes c)) ≡ (kind_of (kind_for c)).body
unfolding kind_of kinds int_bytes word_bytes
constructor_long (Lowest lo hi step) = refl
constructor_long (Highest lo hi step) = refl
constructor_long (Around lo hi step z) = refl
constructor_long (Between lo hi step low up) = refl
constructor_long (Layered top others) = refl
constructor_long (BetweenTrivial lo hi step low up) = refl

pub preference_long : (p : Preference) → length (preference_bytes p) ≡ 1 + (kind_of (kind_for p.constructor)).body
unfolding preference_bytes
preference_long p = omega (arith, constructor_long p.constructor)

-- each form has a kind of a preference
pub kind_class : (c : Constructor) → (kind_of (kind_for c)).class ≡ PreferenceRecord
unfolding kind_of kinds
kind_class (Lowest lo hi step) = refl
kind_class (Highest lo hi step) = refl
kind_class (Around lo hi step z) = refl
kind_class (Between lo hi step low up) = refl
kind_class (Layered top others) = refl
kind_class (BetweenTrivial lo hi step low up) = refl

pub preference_short : (p : Preference) → length (preference_bytes p) ≤ 22
preference_short p =
    let k = kind_for p.constructor in
    omega (arith, preference_long p, body_longest k, ap longest (kind_class p.constructor))

pub named_long : (e : Named) → length (named_bytes e) ≡ 6
unfolding named_bytes int_bytes word_bytes
named_long e = refl

pub ints_long : (vs : List ℤ) → length (ints_bytes vs) ≡ 4 * length vs
unfolding ints_bytes
ints_long [] = refl
ints_long (v ∷ vs) = length-append (int_bytes v) (ints_bytes vs) ∙ omega (arith, int_long v, ints_long vs)

pub run_long : (vs : List ℤ) → length (run_bytes vs) ≡ 1 + 4 * length vs
unfolding run_bytes
run_long vs = omega (arith, ints_long vs)

-- ---- parts of a stream

-- at most the bytes of one record
one_or_none : (b : Bool) (e : Named) → length (cond b (named_bytes e) []) ≤ 6
one_or_none true e = omega (arith, named_long e)
one_or_none false e = omega arith

pub names_short : (l : PreferenceList) (i n : ℕ) → length (joined (named_bytes_of l i) n) ≤ 6 * n
names_short l i n =
    joined_short (named_bytes_of l i) 6 n (λ k h. one_or_none (eqb (named_at l k).preference i) (named_at l k))

part_short : (l : PreferenceList) (i : ℕ) → l.namedcount ≤ 64 → length (preference_records l i) ≤ 406
unfolding preference_records
part_short l i h =
    let p = preference_bytes (preference_at l i) in
    omega (
      arith,
      length-append p (joined (named_bytes_of l i) l.namedcount),
      preference_short (preference_at l i),
      names_short l i l.namedcount,
    )

pub parts_short : (l : PreferenceList) (n : ℕ) → l.namedcount ≤ 64 → length (joined (preference_records l) n) ≤ 406 * n
parts_short l n h = joined_short (preference_records l) 406 n (λ i k. part_short l i h)

pub rows_short : (log : List ℤ) (n : ℕ) → length (joined (row_bytes log) n) ≤ 33 * n
rows_short log n =
    joined_short (row_bytes log) 33 n (λ r h. omega (arith, run_long (row_at log r), length-take 8 (drop (8 * r) log)))
