-- Stores one after the other.
use Rattle.std.specs.Prelude.{◌≡◌, refl, ℕ, ◌+◌, ◌≤◌, List, [], ◌∷◌, ◌++◌, length, set, take}
use Rattle.std.proofs.Common.{sym, ap, ◌∙◌, arith, add-one, length-append}
use Rattle.std.proofs.lemmas.List.Edits.{sets}
use Rattle.std.proofs.Math.Seq.{length-sets}
use Rattle.laws.specs.Laws.Stores.{sets_append, stored_front}
use Rattle.laws.specs.Lists.{joined}
use Rattle.word.specs.Word.{word_bytes}
use Rattle.output.specs.Puts.{Puts}

pub puts_none : (out : List ℕ) (at : ℕ) → Puts out out at at []
puts_none out at = record { next_is = omega arith; last_is = refl }

-- one figure, by the functions of `word`
pub puts_byte : {out last : List ℕ} {at next b : ℕ} → next ≡ at + 1 → last ≡ set out at b
    → Puts out last at next (b ∷ [])
puts_byte n e = record { next_is = n; last_is = e }

pub puts_word : (u : ℕ) {out last : List ℕ} {at next : ℕ} → next ≡ at + 4 → last ≡ sets out at (word_bytes u)
    → Puts out last at next (word_bytes u)
unfolding word_bytes
puts_word u n e = record { next_is = n; last_is = e }

pub puts_then : {out mid last : List ℕ} {at next end : ℕ} {x y : List ℕ} → Puts out mid at next x
    → Puts mid last next end y → Puts out last at end (x ++ y)
puts_then {out} {mid} {last} {at} {next} {end} {x} {y} p q =
    record {
      next_is = q.next_is ∙ omega (arith, p.next_is, length-append x y);
      last_is =
          q.last_is ∙ ap (λ (k : ℕ). sets mid k y) p.next_is
          ∙ ap (λ (m : List ℕ). sets m (at + length x) y) p.last_is ∙ sym (sets_append out at x y);
    }

-- one turn of a loop
pub puts_turn : (f : ℕ → List ℕ) (k : ℕ) {out mid last : List ℕ} {at next end : ℕ} → Puts out mid at next (joined f k)
    → Puts mid last next end (f k) → Puts out last at end (joined f (k + 1))
unfolding joined
puts_turn f k p q = rw (add-one k) (puts_then p q)

pub puts_same : {out last : List ℕ} {at next : ℕ} {x y : List ℕ} → x ≡ y → Puts out last at next x
    → Puts out last at next y
puts_same e p = rw e at p

-- stores keep the length
pub puts_length : {out last : List ℕ} {at next : ℕ} {x : List ℕ} → Puts out last at next x → length last ≡ length out
puts_length {out} {last} {at} {next} {x} p = ap length p.last_is ∙ length-sets out at x

-- x stands at the front of a list, up to place n
pub record Stands (last x : List ℕ) (n : ℕ) : Type 0 where
  pub size : n ≡ length x
  pub long : n ≡ length (take n last)
  pub whole : take n last ≡ x

-- what is put at the front of a list with room for it
pub puts_stands : {out last : List ℕ} {n : ℕ} {x : List ℕ} → length x ≤ length out → Puts out last 0 n x
    → Stands last x n
puts_stands {out} {last} {n} {x} h p =
    let e : n ≡ length x = omega (arith, p.next_is) in
    let w : take n last ≡ x = rw (e, p.last_is) (stored_front out x h) in
    record { size = e; long = e ∙ sym (ap length w); whole = w }
