-- Lists of the same numbers, as many: entering the nodes of one comes to the same as entering those of the other.
use Rattle.std.specs.Prelude.{◌≡◌, refl, Bool, true, false, ◌||◌, List, ◌++◌, ℕ, ◌<◌, length}
use Rattle.std.proofs.Common.{sym, ◌∙◌, arith, length-append, ext_get_or}
use Rattle.lattice_nodes.specs.Steps.{updated, entered_byte}
use Rattle.lattice_nodes.specs.Laws.Some.{among, among_append}
use Rattle.lattice_nodes.specs.Laws.Steps.{length_updated, get_or_updated, entered_once}

pub record Alike (xs ys : List ℕ) : Type 0 where
  pub size : length xs ≡ length ys
  pub same : (y : ℕ) → among y xs ≡ among y ys

pub alike_equal : (xs ys : List ℕ) → xs ≡ ys → Alike xs ys
alike_equal xs ys e = rw e (record { size = refl; same = λ y. refl })

pub alike_then : (xs ys zs : List ℕ) → Alike xs ys → Alike ys zs → Alike xs zs
alike_then xs ys zs a b = record { size = a.size ∙ b.size; same = λ y. a.same y ∙ b.same y }

pub alike_both : (a b c d : List ℕ) → Alike a b → Alike c d → Alike (a ++ c) (b ++ d)
alike_both a b c d p q =
    record {
      size = omega (arith, length-append a c, length-append b d, p.size, q.size);
      same = λ y. among_append y a c ∙ rw (p.same y, q.same y) (sym (among_append y b d));
    }

swapped : (a b c d : Bool) → (a || b) || (c || d) ≡ (a || c) || (b || d)
swapped true b c d = refl
swapped false true true d = refl
swapped false true false d = refl
swapped false false true d = refl
swapped false false false d = refl

pub alike_swap : (a b c d : List ℕ) → Alike ((a ++ b) ++ (c ++ d)) ((a ++ c) ++ (b ++ d))
alike_swap a b c d =
    record {
      size = simp length-append (omega arith);
      same = λ y. simp among_append (swapped (among y a) (among y b) (among y c) (among y d));
    }

turned : (a b c : Bool) → a || (b || c) ≡ (a || c) || b
turned true b c = refl
turned false true true = refl
turned false true false = refl
turned false false true = refl
turned false false false = refl

-- the order does not matter
pub alike_turn : (a b c : List ℕ) → Alike (a ++ (b ++ c)) ((a ++ c) ++ b)
alike_turn a b c =
    record {
      size = simp length-append (omega arith);
      same = λ y. simp among_append (turned (among y a) (among y b) (among y c));
    }

-- what is done at r and s, and once more
regroup : (x r s e p : Bool) → (x || (r || s)) || (e || p) ≡ x || ((r || e) || (s || p))
regroup true r s e p = refl
regroup false r s e p = swapped r s e p

pub alike_more : (t x r s e p r' : List ℕ) → Alike t (x ++ (r ++ s)) → Alike r' (r ++ e)
    → Alike (t ++ (e ++ p)) (x ++ (r' ++ (s ++ p)))
alike_more t x r s e p r' a g =
    record {
      size = simp length-append (omega (arith, simp length-append at a.size, simp length-append at g.size));
      same =
          λ y. simp among_append
          (rw (simp among_append at (a.same y), simp among_append at (g.same y))
          (regroup (among y x) (among y r) (among y s) (among y e) (among y p)));
    }

-- only the places matter
pub same_updated : (xs ys b : List ℕ) → ((y : ℕ) → among y xs ≡ among y ys)
    → updated entered_byte xs b ≡ updated entered_byte ys b
same_updated xs ys b same =
    ext_get_or 0 (updated entered_byte xs b) (updated entered_byte ys b)
    (length_updated entered_byte xs b ∙ sym (length_updated entered_byte ys b))
    (λ y k.
    let h : y < length b = omega (arith, k, length_updated entered_byte xs b) in
    get_or_updated entered_byte entered_once xs b y h
    ∙ rw (same y) (sym (get_or_updated entered_byte entered_once ys b y h)))
