-- Each of the two codings of a record undoes the other.
use Rattle.std.specs.Prelude.{◌≡◌, ℤ, length, get_or, take, drop}
use Rattle.std.proofs.Math.Path.{refl}
use Rattle.std.proofs.Common.{sym, ap, ◌∙◌, length-append, take-add, drop-drop, drop-cons, get_or-append-add, SFits}
use Prim.Native.Nat.{ℕ, zero, suc, ◌+◌, ◌*◌, ◌<◌, ◌≤◌}
use native.Mathlib.Omega.{arith}
use mathlib.Core.List.{List, [], ◌∷◌, ◌++◌, append_assoc}
use Rattle.std.specs.Int.{w32}
use Rattle.word.specs.Word.{word_at, int_at, word_bytes, int_bytes}
use Rattle.word.specs.Laws.Word.{Bytes, again_word, again_int, four_at, word_bytes_at, int_bytes_at, int_of_bytes}
use Rattle.constructor.specs.declared.Constructor.{Constructor}
use Rattle.constructor.specs.declared.Constructor.TheVariants.{Lowest, Highest, Around, Between, Layered}
use Rattle.constructor.specs.declared.Constructor.TheVariants.{BetweenTrivial}
use Rattle.preference.specs.declared.Preference.{Preference}
use Rattle.preference.specs.declared.Named.{Named}
use Rattle.stream_format.specs.Kinds.{kinds, kind_of, kind_byte, class_of, body_of}
use Rattle.stream_format.specs.Read.{constructor_of, preference_of, named_of, ints_at}
use Rattle.stream_format.specs.Write.{kind_for, between_bytes, constructor_bytes, preference_bytes, named_bytes}
use Rattle.stream_format.specs.Write.{ints_bytes, run_bytes}
use Rattle.stream_format.specs.Laws.Lengths.{int_long}
use Rattle.stream_format.specs.Kinds.{Class}
use Rattle.stream_format.specs.Kinds.{Unknown, PreferenceRecord, NamedRecord, RunRecord}
use Rattle.stream_roundtrip.specs.Terms.{ConstructorFits, LogFits}

-- ---- what is read where a record was written

constructor_back : (c : Constructor) (column : ℕ) (rest : List ℕ) → ConstructorFits c
    → constructor_of (kind_for c) (kind_for c ∷ column ∷ constructor_bytes c ++ rest) ≡ c
unfolding constructor_of int_at word_at int_bytes word_bytes
constructor_back (Lowest lo hi step) column rest h = cc (again_int lo h.0, again_int hi h.1, again_word step)
constructor_back (Highest lo hi step) column rest h = cc (again_int lo h.0, again_int hi h.1, again_word step)
constructor_back (Around lo hi step z) column rest h =
    cc (again_int lo h.0, again_int hi h.1, again_word step, again_int z h.2)
constructor_back (Between lo hi step low up) column rest h =
    cc (again_int lo h.0, again_int hi h.1, again_word step, again_int low h.2, again_int up h.3)
constructor_back (Layered top others) column rest h = refl
constructor_back (BetweenTrivial lo hi step low up) column rest h =
    cc (again_int lo h.0, again_int hi h.1, again_word step, again_int low h.2, again_int up h.3)

pub preference_back : (p : Preference) (rest : List ℕ) → ConstructorFits p.constructor
    → preference_of (preference_bytes p ++ rest) ≡ p
unfolding preference_bytes
preference_back p rest h =
    ap (λ (c : Constructor). record { column = p.column; constructor = c })
    (constructor_back p.constructor p.column rest h)

pub named_back : (e : Named) (rest : List ℕ) → SFits w32 e.value → named_of e.preference (named_bytes e ++ rest) ≡ e
unfolding named_bytes int_at word_at int_bytes word_bytes
named_back e rest h =
    ap (λ (v : ℤ). record { preference = e.preference; value = v; layer = e.layer }) (again_int e.value h)

int_seam : (p q : List ℕ) → int_at (p ++ q) (length p) ≡ int_at q 0
unfolding int_at word_at
int_seam p q =
    let e : get_or (p ++ q) (length p) 0 ≡ get_or q 0 0 =
    ap (λ (k : ℕ). get_or (p ++ q) k 0) (omega arith) ∙ get_or-append-add p q 0 0 in
    rw (e, get_or-append-add p q 1 0, get_or-append-add p q 2 0, get_or-append-add p q 3 0)

ints_back : (vs : List ℤ) (p rest : List ℕ) → LogFits vs
    → ints_at (length vs) (p ++ (ints_bytes vs ++ rest)) (length p) ≡ vs
unfolding ints_bytes ints_at
ints_back [] p rest f = refl
ints_back (v ∷ vs) p rest f =
    let tail = ints_bytes vs ++ rest in
    let a : (int_bytes v ++ ints_bytes vs) ++ rest
    ≡ int_bytes v ++ tail = append_assoc (int_bytes v) (ints_bytes vs) rest in
    let q : p ++ (int_bytes v ++ tail) ≡ (p ++ int_bytes v) ++ tail = sym (append_assoc p (int_bytes v) tail) in
    let n : length p + 4 ≡ length (p ++ int_bytes v) = omega (arith, length-append p (int_bytes v), int_long v) in
    let h : int_at (p ++ (int_bytes v ++ tail)) (length p) ≡ v =
    int_seam p (int_bytes v ++ tail) ∙ int_of_bytes v tail (f 0) in
    let t : ints_at (length vs) (p ++ (int_bytes v ++ tail)) (length p + 4) ≡ vs =
    ap (λ (s : List ℕ). ints_at (length vs) s (length p + 4)) q
    ∙ ap (ints_at (length vs) ((p ++ int_bytes v) ++ tail)) n
    ∙ ints_back vs (p ++ int_bytes v) rest (λ j. f (suc j)) in
    rw (a, h, t)

pub run_back : (vs : List ℤ) (rest : List ℕ) → length vs ≡ 8 → LogFits vs → ints_at 8 (run_bytes vs ++ rest) 1 ≡ vs
unfolding run_bytes
run_back vs rest e f = ap (λ (n : ℕ). ints_at n (7 ∷ ints_bytes vs ++ rest) 1) (sym e) ∙ ints_back vs (7 ∷ []) rest f

-- ---- what is written of a record that was read

head_at : (s : List ℕ) (n : ℕ) → 1 ≤ length s → take (suc n) s ≡ get_or s 0 0 ∷ take n (drop 1 s)
head_at [] n h = absurd (omega arith)
head_at (a ∷ s) n h = refl

pair_at : (s : List ℕ) (n : ℕ) → 2 ≤ length s → take (suc (suc n)) s ≡ get_or s 0 0 ∷ get_or s 1 0 ∷ take n (drop 2 s)
pair_at [] n h = absurd (omega arith)
pair_at (a ∷ s) n h = ap (λ (t : List ℕ). a ∷ t) (head_at s n (omega arith))

one_at : (s : List ℕ) (at : ℕ) → at < length s → get_or s at 0 ∷ [] ≡ take 1 (drop at s)
one_at s at h = sym (rw (drop-cons s at 0 h) refl)

-- n bytes, and m more
more_at : (s : List ℕ) (at n m : ℕ) {x y : List ℕ} → x ≡ take n (drop at s) → y ≡ take m (drop (at + n) s)
    → x ++ y ≡ take (n + m) (drop at s)
more_at s at n m e f = rw (e, f, ← drop-drop n at s) (sym (take-add n m (drop at s)))

-- the record that s begins with has n bytes, and is written again as it was read
abbrev pub Again : List ℕ → ℕ → Class → Type 0
Again s n Unknown = Unit {0}
Again s n PreferenceRecord = preference_bytes (preference_of s) ≡ take n s
Again s n NamedRecord = (i : ℕ) → named_bytes (named_of i s) ≡ take n s
Again s n RunRecord = run_bytes (ints_at 8 s 1) ≡ take n s

module _ (s : List ℕ) (b : Bytes s) where
  int_more : (n : ℕ) {x : List ℕ} → 2 + n + 4 ≤ length s → x ≡ take n (drop 2 s)
      → x ++ int_bytes (int_at s (2 + n)) ≡ take (n + 4) (drop 2 s)
  int_more n h e = more_at s 2 n 4 e (int_bytes_at s (2 + n) h b)

  range_bytes : 14 ≤ length s
      → int_bytes (int_at s 2) ++ int_bytes (int_at s 6) ++ word_bytes (word_at s 10) ≡ take 12 (drop 2 s)
  range_bytes h =
      more_at s 2 8 4 (int_more 4 (omega arith) (int_bytes_at s 2 (omega arith) b)) (word_bytes_at s 10 (omega arith) b)

  ints_bytes_lem : (n at : ℕ) → at + 4 * n ≤ length s → ints_bytes (ints_at n s at) ≡ take (4 * n) (drop at s)
  unfolding ints_bytes ints_at
  ints_bytes_lem zero at h = refl
  ints_bytes_lem (suc n) at h =
      let e : 4 * suc n ≡ 4 + 4 * n = omega arith in
      rw e (more_at s at 4 (4 * n) (int_bytes_at s at (omega arith) b) (ints_bytes_lem n (at + 4) (omega arith)))

  between_bytes_lem : 22 ≤ length s
      → between_bytes (int_at s 2) (int_at s 6) (word_at s 10) (int_at s 14) (int_at s 18) ≡ take 20 (drop 2 s)
  between_bytes_lem h = int_more 16 (omega arith) (int_more 12 (omega arith) (range_bytes (omega arith)))

  by_kind : (k : ℕ) → kind_byte s ≡ k → (kind_of k).body < length s → Again s (suc (kind_of k).body) (kind_of k).class
  unfolding preference_bytes named_bytes run_bytes constructor_of kind_of kinds
  by_kind zero e h = tt
  by_kind (suc zero) e h = rw (e, range_bytes (omega arith), pair_at s 12 (omega arith), e)
  by_kind (suc (suc zero)) e h = rw (e, range_bytes (omega arith), pair_at s 12 (omega arith), e)
  by_kind (suc (suc (suc zero))) e h =
      rw (e, int_more 12 (omega arith) (range_bytes (omega arith)), pair_at s 16 (omega arith), e)
  by_kind (suc (suc (suc (suc zero)))) e h = rw (e, between_bytes_lem (omega arith), pair_at s 20 (omega arith), e)
  by_kind (suc (suc (suc (suc (suc zero))))) e h = rw e (sym (rw (four_at s 0 (omega arith), e) refl))
  by_kind (suc (suc (suc (suc (suc (suc zero)))))) e h =
      λ i. rw (head_at s 5 (omega arith), e)
      (ap (λ (x : List ℕ). 6 ∷ x) (more_at s 1 4 1 (int_bytes_at s 1 (omega arith) b) (one_at s 5 (omega arith))))
  by_kind (suc (suc (suc (suc (suc (suc (suc zero))))))) e h =
      rw (head_at s 32 (omega arith), e, ints_bytes_lem 8 1 (omega arith))
  by_kind (suc (suc (suc (suc (suc (suc (suc (suc zero)))))))) e h =
      rw (e, between_bytes_lem (omega arith), pair_at s 20 (omega arith), e)
  by_kind (suc (suc (suc (suc (suc (suc (suc (suc (suc k))))))))) e h = tt

  pub written_again : body_of s < length s → Again s (suc (body_of s)) (class_of s)
  written_again h = by_kind (kind_byte s) refl h
