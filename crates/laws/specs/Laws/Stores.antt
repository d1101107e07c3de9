-- Runs of stores, one after the other.
use Rattle.std.specs.Prelude.{ℕ, zero, suc, ◌+◌, ◌<◌, ◌≤◌, ◌≡◌, refl, List, [], ◌∷◌, ◌++◌, length, get_or, set, take, drop, replicate}
use Rattle.std.proofs.Common.{zero-add, suc-add, not-suc-le-zero, le_of_suc-le-suc, arith, sym, ap, ◌∙◌, append_assoc, take-append-drop, length-take-le, get_or-append-add, get_or-set_other}
use Rattle.std.proofs.Math.ListN.{get_or-append}
use Rattle.std.proofs.lemmas.List.Edits.{sets, sets-eq}
use Rattle.std.proofs.Math.Seq.{set_out, take-append_seam}

pub sets_append : {A : Type 0} (l : List A) (i : ℕ) (a b : List A)
    → sets l i (a ++ b) ≡ sets (sets l i a) (i + length a) b
sets_append l i [] b = ap (λ (k : ℕ). sets l k b) (omega arith)
sets_append l i (x ∷ a) b =
    sets_append (set l i x) (suc i) a b ∙ ap (λ (k : ℕ). sets (sets l i (x ∷ a)) k b) (omega arith)

-- a store past the end does nothing
pub sets_out : {A : Type 0} (l : List A) (i : ℕ) (vs : List A) → length l ≤ i → sets l i vs ≡ l
sets_out l i [] h = refl
sets_out l i (a ∷ vs) h = ap (λ (m : List _). sets m (suc i) vs) (set_out l i a h) ∙ sets_out l (suc i) vs (omega arith)

-- a list with room for what is stored at its front begins with that
pub stored_front : {A : Type 0} (l x : List A) → length x ≤ length l → take (length x) (sets l 0 x) ≡ x
stored_front l x h = ap (take (length x)) (sets-eq x l 0 (omega arith)) ∙ take-append_seam x (drop (0 + length x) l)

-- what is stored from p on stands there, and what is before it stays
pub stored_at : (l : List ℕ) (p : ℕ) (vs : List ℕ) (i : ℕ) → p + length vs ≤ length l → i < length vs
    → get_or (sets l p vs) (p + i) 0 ≡ get_or vs i 0
stored_at l p vs i h k =
    let n = length-take-le p l (omega arith) in
    let e : p + i ≡ length (take p l) + i = omega arith in
    ap (λ (xs : List ℕ). get_or xs (p + i) 0) (sets-eq vs l p h)
    ∙ rw (append_assoc (take p l) vs (drop (p + length vs) l), e)
    (get_or-append-add (take p l) (vs ++ drop (p + length vs) l) i 0 ∙ get_or-append vs (drop (p + length vs) l) 0 i k)

pub stored_before : (l : List ℕ) (p : ℕ) (vs : List ℕ) (i : ℕ) → i < p → get_or (sets l p vs) i 0 ≡ get_or l i 0
stored_before l p [] i h = refl
stored_before l p (a ∷ vs) i h =
    stored_before (set l p a) (suc p) vs i (omega arith) ∙ get_or-set_other l p i a 0 (λ e. absurd (omega arith))

-- a store behind the first of two lists is a store in the second
set_behind : (xs ys : List ℕ) (i a : ℕ) → set (xs ++ ys) (length xs + i) a ≡ xs ++ set ys i a
set_behind [] ys i a = rw (zero-add i)
set_behind (x ∷ xs) ys i a = rw (suc-add (length xs) i) (ap (λ (r : List ℕ). x ∷ r) (set_behind xs ys i a))

sets_behind : (xs ys : List ℕ) (i : ℕ) (vs : List ℕ) → sets (xs ++ ys) (length xs + i) vs ≡ xs ++ sets ys i vs
sets_behind xs ys i [] = refl
sets_behind xs ys i (a ∷ vs) =
    ap (λ (l : List ℕ). sets l (suc (length xs + i)) vs) (set_behind xs ys i a)
    ∙ ap (λ (k : ℕ). sets (xs ++ set ys i a) k vs) (omega arith)
    ∙ sets_behind xs (set ys i a) (suc i) vs

-- and so what is stored at the front of the part from p on is stored at p
pub stored_part : (l : List ℕ) (p : ℕ) (vs : List ℕ) → p ≤ length l
    → take p l ++ sets (drop p l) 0 vs ≡ sets l p vs
stored_part l p vs h =
    sym (ap (λ (k : List ℕ). sets k p vs) (sym (take-append-drop p l))
    ∙ ap (λ (q : ℕ). sets (take p l ++ drop p l) q vs) (omega (arith, length-take-le p l h))
    ∙ sets_behind (take p l) (drop p l) 0 vs)

pub take_replicate : (n m a : ℕ) → n ≤ m → take n (replicate m a) ≡ replicate n a
take_replicate zero m a h = refl
take_replicate (suc n) zero a h = absurd (not-suc-le-zero h)
take_replicate (suc n) (suc m) a h = ap (λ (r : List ℕ). a ∷ r) (take_replicate n m a (le_of_suc-le-suc h))
