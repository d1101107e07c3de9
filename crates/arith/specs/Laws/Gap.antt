-- Laws of the gap: its order, and that it is the difference and the distance that document 01 writes.
use Rattle.std.specs.Prelude.{◌≡◌, refl, ℕ, zero, suc, ◌+◌, ◌-◌, ◌<◌, ◌≤◌, Bool, true, false, cond, ltb, ℤ, pos, negsuc, ◌-ℤ◌, nat_abs}
use Rattle.std.proofs.Common.{sym, ◌∙◌, arith, le_trans, le_of_lt, leb-true, leb-false, ltb-true, ltb-false, le-leb}
use Rattle.std.specs.Int.Signed.{le_z, mag}
use Rattle.std.specs.Int.{int_max}
use Rattle.laws.specs.Laws.Bools.{false_true}
use Rattle.arith.specs.Gap.{gap, clip}

-- the gap by the two signs
flat : ℤ → ℤ → ℕ
flat (pos a) (pos b) = a - b
flat (pos a) (negsuc b) = a + suc b
flat (negsuc a) (pos b) = 0
flat (negsuc a) (negsuc b) = b - a

sub_flat : (a b : ℕ) (t : Bool) → ltb a b ≡ t → clip (cond t (negsuc (b - suc a)) (pos (a - b))) ≡ a - b
sub_flat a b true e = let h : a < b = ltb-true a b e in omega arith
sub_flat a b false e = refl

gap_flat : (a b : ℤ) → gap a b ≡ flat a b
unfolding gap flat
gap_flat (pos a) (pos zero) = omega arith
gap_flat (pos a) (pos (suc b)) = sub_flat a (suc b) (ltb a (suc b)) refl
gap_flat (pos a) (negsuc b) = refl
gap_flat (negsuc a) (pos zero) = sub_flat 0 (suc a) (ltb 0 (suc a)) refl ∙ omega arith
gap_flat (negsuc a) (pos (suc b)) = refl
gap_flat (negsuc a) (negsuc b) = sub_flat (suc b) (suc a) (ltb (suc b) (suc a)) refl ∙ omega arith

none : (a b : ℤ) → le_z a b ≡ true → flat a b ≡ 0
unfolding flat
none (pos a) (pos b) h = let l = leb-true a b h in omega arith
none (pos a) (negsuc b) h = false_true h
none (negsuc a) (pos b) h = refl
none (negsuc a) (negsuc b) h = let l = leb-true b a h in omega arith

some : (a b : ℤ) → le_z a b ≡ false → 0 < flat a b
unfolding flat
some (pos a) (pos b) h = let l = leb-false a b h in omega arith
some (pos a) (negsuc b) h = omega arith
some (negsuc a) (pos b) h = false_true (sym h)
some (negsuc a) (negsuc b) h = let l = leb-false b a h in omega arith

up : (a b c : ℤ) → le_z a b ≡ true → flat a c ≤ flat b c
unfolding flat
up (pos a) (pos b) (pos c) h = let l = leb-true a b h in omega arith
up (pos a) (pos b) (negsuc c) h = let l = leb-true a b h in omega arith
up (pos a) (negsuc b) c h = false_true h
up (negsuc a) (pos b) (pos c) h = omega arith
up (negsuc a) (pos b) (negsuc c) h = omega arith
up (negsuc a) (negsuc b) (pos c) h = omega arith
up (negsuc a) (negsuc b) (negsuc c) h = let l = leb-true b a h in omega arith

down : (a b c : ℤ) → le_z a b ≡ true → flat c b ≤ flat c a
unfolding flat
down (pos a) (pos b) (pos c) h = let l = leb-true a b h in omega arith
down (pos a) (pos b) (negsuc c) h = omega arith
down (pos a) (negsuc b) c h = false_true h
down (negsuc a) (pos b) (pos c) h = omega arith
down (negsuc a) (pos b) (negsuc c) h = omega arith
down (negsuc a) (negsuc b) (pos c) h = let l = leb-true b a h in omega arith
down (negsuc a) (negsuc b) (negsuc c) h = let l = leb-true b a h in omega arith

through : (a b c : ℤ) → le_z b a ≡ true → le_z c b ≡ true → flat a b + flat b c ≡ flat a c
unfolding flat
through (pos a) (pos b) (pos c) h k = let l = leb-true b a h in let m = leb-true c b k in omega arith
through (pos a) (pos b) (negsuc c) h k = let l = leb-true b a h in omega arith
through (pos a) (negsuc b) (pos c) h k = false_true k
through (pos a) (negsuc b) (negsuc c) h k = let m = leb-true b c k in omega arith
through (negsuc a) (pos b) c h k = false_true h
through (negsuc a) (negsuc b) (pos c) h k = false_true k
through (negsuc a) (negsuc b) (negsuc c) h k = let l = leb-true a b h in let m = leb-true b c k in omega arith

small : (a b : ℤ) → mag a < 2147483648 → mag b < 2147483648 → flat a b < 4294967296
unfolding flat
small (pos a) (pos b) h k = omega arith
small (pos a) (negsuc b) h k = omega arith
small (negsuc a) (pos b) h k = omega arith
small (negsuc a) (negsuc b) h k = omega arith

-- ---- the order of signed numbers

pub le_refl_z : (a : ℤ) → le_z a a ≡ true
le_refl_z (pos a) = le-leb a a (omega arith)
le_refl_z (negsuc a) = le-leb a a (omega arith)

pub not_le_z : (a b : ℤ) → le_z a b ≡ false → le_z b a ≡ true
not_le_z (pos a) (pos b) h = le-leb b a (le_of_lt (leb-false a b h))
not_le_z (pos a) (negsuc b) h = refl
not_le_z (negsuc a) (pos b) h = false_true (sym h)
not_le_z (negsuc a) (negsuc b) h = le-leb a b (le_of_lt (leb-false b a h))

pub le_trans_z : (a b c : ℤ) → le_z a b ≡ true → le_z b c ≡ true → le_z a c ≡ true
le_trans_z (pos a) (pos b) (pos c) h k = le-leb a c (le_trans (leb-true a b h) (leb-true b c k))
le_trans_z (pos a) (pos b) (negsuc c) h k = false_true k
le_trans_z (pos a) (negsuc b) c h k = false_true h
le_trans_z (negsuc a) (pos b) (pos c) h k = refl
le_trans_z (negsuc a) (pos b) (negsuc c) h k = false_true k
le_trans_z (negsuc a) (negsuc b) (pos c) h k = refl
le_trans_z (negsuc a) (negsuc b) (negsuc c) h k = le-leb c a (le_trans (leb-true c b k) (leb-true b a h))

-- ---- the order of gaps

pub gap_none : (a b : ℤ) → le_z a b ≡ true → gap a b ≡ 0
gap_none a b h = gap_flat a b ∙ none a b h

pub gap_some : (a b : ℤ) → le_z a b ≡ false → 0 < gap a b
gap_some a b h = rw (gap_flat a b) (some a b h)

pub gap_up : (a b c : ℤ) → le_z a b ≡ true → gap a c ≤ gap b c
gap_up a b c h = omega (arith, gap_flat a c, gap_flat b c, up a b c h)

pub gap_down : (a b c : ℤ) → le_z a b ≡ true → gap c b ≤ gap c a
gap_down a b c h = omega (arith, gap_flat c b, gap_flat c a, down a b c h)

-- down from a to b, and from there down to c
pub gap_through : (a b c : ℤ) → le_z b a ≡ true → le_z c b ≡ true → gap a b + gap b c ≡ gap a c
gap_through a b c h k = omega (arith, gap_flat a b, gap_flat b c, gap_flat a c, through a b c h k)

-- the gap of two i32 fits 32 bits
pub gap_small : (a b : ℤ) → mag a < 2147483648 → mag b < 2147483648 → gap a b < 4294967296
gap_small a b h k = rw (gap_flat a b) (small a b h k)

-- how far v lies outside low..up is one gap
module _ (low up v : ℤ) (m : ℕ) (below : gap low v < m) (above : gap v up < m) (across : gap low up < m) where
  outside_by : (s t : Bool) → le_z low v ≡ s → le_z v up ≡ t → gap low v + gap v up < m
  outside_by true t e f = omega (arith, gap_none low v e)
  outside_by false true e f = omega (arith, gap_none v up f)
  outside_by false false e f = omega (arith, gap_through low v up (not_le_z low v e) (not_le_z v up f))

  pub outside_small : gap low v + gap v up < m
  outside_small = outside_by (le_z low v) (le_z v up) refl refl

-- ---- document 01's words: a - b where b is not above a, and |a - b|

sub_pos : (a b : ℕ) (t : Bool) → ltb a b ≡ t → b ≤ a
    → pos (clip (cond t (negsuc (b - suc a)) (pos (a - b)))) ≡ cond t (negsuc (b - suc a)) (pos (a - b))
sub_pos a b true e h = let q : a < b = ltb-true a b e in let z : ⊥ = omega arith in absurd z
sub_pos a b false e h = refl

pub gap_exact : (a b : ℤ) → le_z b a ≡ true → pos (gap a b) ≡ a -ℤ b
unfolding gap
gap_exact (pos a) (pos zero) h = refl
gap_exact (pos a) (pos (suc b)) h = sub_pos a (suc b) (ltb a (suc b)) refl (leb-true (suc b) a h)
gap_exact (pos a) (negsuc b) h = refl
gap_exact (negsuc a) (pos b) h = false_true h
gap_exact (negsuc a) (negsuc b) h =
    let l = leb-true a b h in sub_pos (suc b) (suc a) (ltb (suc b) (suc a)) refl (omega arith)

sub_abs : (a b : ℕ) (t : Bool) → ltb a b ≡ t → nat_abs (cond t (negsuc (b - suc a)) (pos (a - b))) ≡ (a - b) + (b - a)
sub_abs a b true e = let h : a < b = ltb-true a b e in omega arith
sub_abs a b false e = let h : b ≤ a = ltb-false a b e in omega arith

abs_flat : (a b : ℤ) → nat_abs (a -ℤ b) ≡ flat a b + flat b a
unfolding flat
abs_flat (pos a) (pos zero) = omega arith
abs_flat (pos a) (pos (suc b)) = sub_abs a (suc b) (ltb a (suc b)) refl
abs_flat (pos a) (negsuc b) = omega arith
abs_flat (negsuc a) (pos zero) = sub_abs 0 (suc a) (ltb 0 (suc a)) refl ∙ omega arith
abs_flat (negsuc a) (pos (suc b)) = omega arith
abs_flat (negsuc a) (negsuc b) = sub_abs (suc b) (suc a) (ltb (suc b) (suc a)) refl ∙ omega arith

pub gap_abs : (a b : ℤ) → nat_abs (a -ℤ b) ≡ gap a b + gap b a
gap_abs a b = abs_flat a b ∙ rw (gap_flat a b, gap_flat b a)

-- as the code has it: the difference, no less than 0, without its sign
max_of : (n : ℕ) (t : Bool) → ltb 0 n ≡ t → nat_abs (cond t (pos n) (pos 0)) ≡ n
max_of n true e = refl
max_of n false e = let h = ltb-false 0 n e in omega arith

max_clip : (z : ℤ) → nat_abs (int_max z (pos 0)) ≡ clip z
max_clip (pos n) = max_of n (ltb 0 n) refl
max_clip (negsuc n) = refl

pub gap_max : (a b : ℤ) → nat_abs (int_max (a -ℤ b) (pos 0)) ≡ gap a b
unfolding gap
gap_max a b = max_clip (a -ℤ b)
