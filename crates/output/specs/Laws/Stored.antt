-- What was put out stands in the lent bytes.
use Rattle.std.specs.Prelude.{◌≡◌, refl, ℕ, suc, ◌+◌, ◌-◌, ◌≤◌, Bool, true, false, cond, List, [], ◌∷◌, ◌++◌, ltb, length, set, take, drop}
use Rattle.std.proofs.Common.{sym, ap, ◌∙◌, arith, ltb-true, ltb-false, append_assoc, drop-drop}
use Rattle.std.proofs.Math.Seq.{take-nil}
use Rattle.std.proofs.lemmas.List.{take_all}
use Rattle.std.proofs.lemmas.List.Edits.{sets, sets-eq}
use Rattle.laws.specs.Lists.{joined}
use Rattle.laws.specs.Laws.Stores.{sets_out}
use Rattle.output.specs.declared.Output.{Output}
use Rattle.output.specs.Prints.{output_end, within, Prints}
use Rattle.output.specs.Laws.Writes.{with_then, with_turn}
use Rattle.output.specs.Laws.Puts.{puts_stands}
use Rattle.output.specs.Puts.{Puts}
use Rattle.output.specs.Writes.{Contents, contents, with_byte, with_bytes, Writes}

-- the bytes y are stored, all of them
abbrev stored : Contents → List ℕ → Contents
stored c y = record { bytes = sets c.bytes c.at y; at = c.at + length y; limit = c.limit }

-- one byte more
stored_more : (c : Contents) (b : ℕ) (x : List ℕ)
    → ((d : Contents) → with_bytes d x ≡ stored d (take (d.limit - d.at) x)) → (t : Bool) → ltb c.at c.limit ≡ t
    → with_bytes (cond t (record { bytes = set c.bytes c.at b; at = c.at + 1; limit = c.limit }) c) x
    ≡ stored c (take (c.limit - c.at) (b ∷ x))
stored_more c b x rest true e =
    let h = ltb-true c.at c.limit e in
    let k : c.limit - c.at ≡ suc (c.limit - (c.at + 1)) = omega arith in
    rw (k, rest (record { bytes = set c.bytes c.at b; at = c.at + 1; limit = c.limit })) (grind arith)
stored_more c b x rest false e =
    let h = ltb-false c.at c.limit e in
    let k : c.limit - c.at ≡ 0 = omega arith in
    rw k (rw k at (rest c))

-- what of the bytes stands before the limit is stored
pub with_within : (c : Contents) (x : List ℕ) → with_bytes c x ≡ stored c (take (c.limit - c.at) x)
unfolding with_bytes with_byte
with_within c [] = rw (take-nil (c.limit - c.at)) (grind arith)
with_within c (b ∷ x) = stored_more c b x (λ d. with_within d x) (ltb c.at c.limit) refl

-- bytes that stay before the limit, where there is room for all of them, or for none
module _ (c : Contents) (x : List ℕ) (fits : length x ≤ c.limit - c.at) where
  abbrev ended : List ℕ → Contents
  ended bytes = record { bytes = bytes; at = c.at + length x; limit = c.limit }

  whole : with_bytes c x ≡ ended (sets c.bytes c.at x)
  whole = rw (take_all (c.limit - c.at) x fits) at (with_within c x)

  pub with_whole : c.at + length x ≤ length c.bytes
      → with_bytes c x ≡ ended (take c.at c.bytes ++ (x ++ drop (length x) (drop c.at c.bytes)))
  with_whole h =
      let e = sets-eq x c.bytes c.at h ∙ append_assoc (take c.at c.bytes) x (drop (c.at + length x) c.bytes) in
      let b : sets c.bytes c.at x ≡ take c.at c.bytes ++ (x ++ drop (length x) (drop c.at c.bytes)) =
      rw (drop-drop (length x) c.at c.bytes) e in
      whole ∙ ap ended b

  pub with_past : length c.bytes ≤ c.at → with_bytes c x ≡ ended c.bytes
  with_past h = whole ∙ ap ended (sets_out c.bytes c.at x h)

pub writes_puts : {a b : Output} {x : List ℕ} → Writes a b x
    → Puts a.bytes.now b.bytes.now a.at b.at (take (a.limit - a.at) x)
writes_puts {a} {b} {x} w =
    let e = w.holds ∙ with_within (contents a) x in
    record { next_is = ap (λ (c : Contents). c.at) e; last_is = ap (λ (c : Contents). c.bytes) e }

-- bytes that stay before the limit are stored whole, as far as there is room
pub writes_all : {a b : Output} {x : List ℕ} → Writes a b x → a.at + length x ≤ a.limit
    → Puts a.bytes.now b.bytes.now a.at b.at x
writes_all {a} {b} {x} w h = rw (take_all (a.limit - a.at) x (omega arith)) at (writes_puts w)

pub writes_prints : {a b : Output} {x : List ℕ} → Writes a b x → a.limit ≡ output_end
    → Prints a.bytes.now b.bytes.now a.at b.at x
unfolding within
writes_prints {a} {b} {x} w e = record { puts = rw e at (writes_puts w) }

-- one after the other
pub writes_then : {a b c : Output} {x y : List ℕ} → Writes a b x → Writes b c y → Writes a c (x ++ y)
writes_then {a} {b} {c} {x} {y} p q =
    record { same = q.same ∙ p.same; holds = q.holds ∙ rw p.holds (sym (with_then (contents a) x y)) }

-- one turn of a loop
pub writes_turn : (f : ℕ → List ℕ) (k : ℕ) {a b c : Output} → Writes a b (joined f k) → Writes b c (f k)
    → Writes a c (joined f (k + 1))
writes_turn f k {a} {b} {c} p q =
    record { same = q.same ∙ p.same; holds = q.holds ∙ rw p.holds (sym (with_turn (contents a) f k)) }

-- what is put out from place 0 on, short enough, is stored whole, as far as there is room for it
pub writes_whole : {a b : Output} {x : List ℕ} → Writes a b x → a.at ≡ 0 → length x ≤ a.limit
    → Puts a.bytes.now b.bytes.now 0 b.at x
writes_whole {a} {b} {x} w z short = rw z at (writes_all w (omega arith))

-- and is what is written where there is room for all of it
pub written_whole : {a b : Output} {x : List ℕ} → Writes a b x → a.at ≡ 0 → length x ≤ length a.bytes.now
    → length x ≤ a.limit → take b.at b.bytes.now ≡ x
written_whole w z room short = (puts_stands room (writes_whole w z short)).whole
