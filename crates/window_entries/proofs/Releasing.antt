-- The entries released by a row's timestamp, one by one; none where it is not above the first entry's.
use Prim.Native.Nat.{ℕ, zero, suc, ◌+◌, ◌-◌, ◌*◌, ◌≤◌, ◌<◌}
use native.Mathlib.Omega.{arith}
use mathlib.Core.Path.{◌≡◌, refl, sym, ap, ◌∙◌}
use mathlib.Core.Bool.{Bool, true, false, not}
use mathlib.Core.List.Memᴰ
use mathlib.Core.List.{List, [], ◌∷◌}
use mathlib.Core.Logic.{⊎_elim}
use lib.Dec.{ltb}
use lib.ListN.{set, length}
use borrow.Author.Tests.{lt-ltb, le-ltb}
use Rattle.std.proofs.Math.Decide.{dec_lt}
use Rattle.window_machine.specs.Order.{Mem, Rising}
use Rattle.window_machine.specs.Laws.Lists.{keep_none}
use Rattle.window_machine.specs.Machine.{Entry, keep, marked, older, younger}
use Rattle.window_entries.specs.Entries.{entry_at, entries, put_entry, Released}
use Rattle.window_entries.proofs.Packed.{Packed, pack_start, pack_skip, pack_keep, pack_filtered, mark_yes, mark_no, mark_end}

-- l₀ and the marks m₀ with i of n entries looked at: k of them stay, the rows of the others are marked
pub record Releasing (s n : ℕ) (l₀ m₀ l m : List ℕ) (i k : ℕ) : Type 0 where
  pub packed : Packed (younger s) l₀ l n i k
  pub marks_left : marked (keep (older s) (entries l₀ i (n - i))) m ≡ marked (keep (older s) (entries l₀ 0 n)) m₀

pub releasing_start : (s n : ℕ) (l m : List ℕ) → Releasing s n l m l m 0 0
releasing_start s n l m = record { packed = pack_start (younger s) l n; marks_left = let e : n - 0 ≡ n = omega arith in rw e }

module _ {s n i k : ℕ} {l₀ m₀ l m : List ℕ} (z : Releasing s n l₀ m₀ l m i k) where
  -- e is the entry at place i, as it was read: it is released, or put where it stays
  module _ (h : i < n) (room : 2 * n ≤ length l₀) (e : Entry) (read : e ≡ entry_at l i) where
    first_read : e ≡ entry_at l₀ i
    first_read = read ∙ z.packed.rest i (omega arith)

    out : e.timestamp < s → Releasing s n l₀ m₀ l (set m e.row 1) (i + 1) k
    unfolding older younger
    out q =
        let o : ltb e.timestamp s ≡ true = lt-ltb e.timestamp s q in
        record {
          packed = pack_skip (younger s) l₀ n h z.packed e read (ap not o);
          marks_left = sym (mark_yes (older s) l₀ n i m h e first_read o) ∙ z.marks_left;
        }

    stays : s ≤ e.timestamp → Releasing s n l₀ m₀ (put_entry l k e.row e.timestamp) m (i + 1) (k + 1)
    unfolding older younger
    stays q =
        let o : ltb e.timestamp s ≡ false = le-ltb e.timestamp s q in
        record {
          packed = pack_keep (younger s) l₀ n h z.packed e read (ap not o) room;
          marks_left = sym (mark_no (older s) l₀ n i m h e first_read o) ∙ z.marks_left;
        }

    pub releasing_more : {l' m' : List ℕ} {k' : ℕ} → (e.timestamp < s → (l' ≡ l) × (m' ≡ set m e.row 1) × (k' ≡ k))
        → (s ≤ e.timestamp → (l' ≡ put_entry l k e.row e.timestamp) × (m' ≡ m) × (k' ≡ k + 1)) → Releasing s n l₀ m₀ l' m' (i + 1) k'
    releasing_more {l'} {m'} {k'} f g = go (dec_lt e.timestamp s)
      where
        go : Dec (e.timestamp < s) → Releasing s n l₀ m₀ l' m' (i + 1) k'
        go (yes q) = let w = f q in rw (w.0, w.1, w.2) (out q)
        go (no q) = let p : s ≤ e.timestamp = omega arith in let w = g p in rw (w.0, w.1, w.2) (stays p)

  pub releasing_end : n ≤ i → Released s l₀ l n k m₀ m
  releasing_end h =
      record {
        filtered = pack_filtered (younger s) l₀ l n i k h z.packed;
        marks_are = sym (mark_end (older s) l₀ n i m h) ∙ z.marks_left;
      }

-- the window's timestamps rise, so none is below the first
first_least : (l : List ℕ) (n : ℕ) → Rising (entries l 0 n) → (e : Entry) → Mem e (entries l 0 n) → (entry_at l 0).timestamp ≤ e.timestamp
unfolding entries
first_least l zero r e k = absurd (Memᴰ.not-nil k)
first_least l (suc n) r e k =
    ⊎_elim
    (λ (q : e ≡ entry_at l 0). omega (arith, ap (λ (x : Entry). x.timestamp) q))
    (λ (k' : Mem e (entries l 1 n)). omega (arith, r.0 e k'))
    (Memᴰ.cases_cons k)

keep_every : (p : Entry → Bool) (es : List Entry) → ((e : Entry) → Mem e es → p e ≡ true) → keep p es ≡ es
unfolding keep
keep_every p [] h = refl
keep_every p (x ∷ es) h = rw (h x (Memᴰ.head refl)) (ap (λ (xs : List Entry). x ∷ xs) (keep_every p es (λ e k. h e (Memᴰ.tail k))))

pub unreleased : (s n : ℕ) (l m : List ℕ) → Rising (entries l 0 n) → (first : Entry) → first ≡ entry_at l 0 → s ≤ first.timestamp
    → Released s l l n n m m
unfolding marked older younger
unreleased s n l m r first q h = record {
  filtered =
      record { few = omega arith; long = refl; kept = sym (keep_every (younger s) (entries l 0 n) (λ e k. ap not (none_older e k))); rest = λ j k. refl };
  marks_are = rw (keep_none (older s) (entries l 0 n) none_older);
}
  where
    none_older : (e : Entry) → Mem e (entries l 0 n) → older s e ≡ false
    none_older e k = le-ltb e.timestamp s (omega (arith, first_least l n r e k, ap (λ (x : Entry). x.timestamp) q))
