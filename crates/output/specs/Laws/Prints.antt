-- Texts one after the other.
use Rattle.std.specs.Prelude.{◌≡◌, refl, ℕ, zero, suc, ◌+◌, ◌-◌, ◌<◌, ◌≤◌, Bool, true, false, List, [], ◌∷◌, ◌++◌, ltb, length, set, take}
use Rattle.std.proofs.Common.{sym, ap, ◌∙◌, arith, add-one, length-take, take_all, ltb-true, ltb-false}
use Rattle.std.proofs.Math.Seq.{take-nil}
use Rattle.laws.specs.Lists.{joined}
use Rattle.output.specs.Puts.{Puts}
use Rattle.output.specs.Laws.Puts.{Stands, puts_none, puts_byte, puts_then, puts_same, puts_length, puts_stands}
use Rattle.output.specs.Prints.{within, Prints}

take_then : (k : ℕ) (x y : List ℕ) → take k (x ++ y) ≡ take k x ++ take (k - length x) y
take_then zero x y = let e : 0 - length x ≡ 0 = omega arith in rw e
take_then (suc k) [] y = let e : suc k - 0 ≡ suc k = omega arith in rw e
take_then (suc k) (a ∷ x) y =
    let e : suc k - suc (length x) ≡ k - length x = omega arith in rw e (ap (λ (l : List ℕ). a ∷ l) (take_then k x y))

pub within_then : (at : ℕ) (x y : List ℕ) → within at (x ++ y) ≡ within at x ++ within (at + length (within at x)) y
unfolding within
within_then at x y =
    take_then (4294967296 - at) x y
    ∙ ap (λ (k : ℕ). take (4294967296 - at) x ++ take k y) (go (ltb (length x) (4294967296 - at)) refl)
  where
    go : (t : Bool) → ltb (length x) (4294967296 - at) ≡ t
        → 4294967296 - at - length x ≡ 4294967296 - (at + length (take (4294967296 - at) x))
    go true e =
        let h = ltb-true (length x) (4294967296 - at) e in rw (take_all (4294967296 - at) x (omega arith)) (omega arith)
    go false e = let h = ltb-false (length x) (4294967296 - at) e in omega (arith, length-take (4294967296 - at) x)

pub prints_none : (out : List ℕ) (at : ℕ) → Prints out out at at []
unfolding within
prints_none out at = record { puts = puts_same (sym (take-nil (4294967296 - at))) (puts_none out at) }

pub prints_byte : {out last : List ℕ} {at next b : ℕ} → at < 4294967296 → next ≡ at + 1 → last ≡ set out at b
    → Prints out last at next (b ∷ [])
unfolding within
prints_byte {out} {last} {at} {next} {b} h n e =
    record { puts = puts_same (sym (take_all (4294967296 - at) (b ∷ []) (omega arith))) (puts_byte n e) }

-- past the last place nothing is put
pub prints_past : (out : List ℕ) (at : ℕ) (x : List ℕ) → 4294967296 ≤ at → Prints out out at at x
unfolding within
prints_past out at x h = let e : 4294967296 - at ≡ 0 = omega arith in record { puts = rw e (puts_none out at) }

pub prints_then : {out mid last : List ℕ} {at next end : ℕ} {x y : List ℕ} → Prints out mid at next x
    → Prints mid last next end y
    → Prints out last at end (x ++ y)
prints_then {out} {mid} {last} {at} {next} {end} {x} {y} p q =
    record {
      puts =
          puts_same (ap (λ (k : ℕ). within at x ++ within k y) p.puts.next_is ∙ sym (within_then at x y))
          (puts_then p.puts q.puts);
    }

-- one turn of a loop
pub prints_turn : (f : ℕ → List ℕ) (k : ℕ) {out mid last : List ℕ} {at next end : ℕ}
    → Prints out mid at next (joined f k) → Prints mid last next end (f k)
    → Prints out last at end (joined f (k + 1))
unfolding joined
prints_turn f k p q = rw (add-one k) (prints_then p q)

pub prints_same : {out last : List ℕ} {at next : ℕ} {x y : List ℕ} → x ≡ y → Prints out last at next x
    → Prints out last at next y
prints_same e p = rw e at p

-- stores keep the length
pub prints_length : {out last : List ℕ} {at next : ℕ} {x : List ℕ} → Prints out last at next x
    → length last ≡ length out
prints_length p = puts_length p.puts

-- a text that ends below the last place is put whole
pub prints_whole : (out last : List ℕ) (at next : ℕ) (x : List ℕ) → at + length x ≤ 4294967296
    → Prints out last at next x → Puts out last at next x
unfolding within
prints_whole out last at next x h p = puts_same (take_all (4294967296 - at) x (omega arith)) p.puts

pub prints_stands : {out last : List ℕ} {n : ℕ} {x : List ℕ} → length x ≤ 4294967296 → length x ≤ length out
    → Prints out last 0 n x → Stands last x n
prints_stands {out} {last} {n} {x} s h p = puts_stands h (prints_whole out last 0 n x (omega arith) p)
