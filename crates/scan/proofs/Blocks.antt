-- A list taken apart block by block from the front.
use Rattle.std.proofs.Common.{◌≡◌, ℕ, ◌+◌, ◌-◌, ◌<◌, ◌≤◌, List, ◌++◌, subst, sym, ◌∙◌, ap, ⊎_elim, arith, length, get_or, drop, length-append, length-drop}
use Rattle.std.proofs.Math.ListN.{get_or-append}
use Rattle.std.proofs.lemmas.List.{drop_at, drop-drop, get_or-drop}
use Rattle.std.proofs.lemmas.Bool.{cases_lt}
use Rattle.std.specs.List.{AllWithin}

-- the block of n elements after those in front, and what is left
module _ {T : Type 0} (xs : List T) (front n : ℕ) (block rest : List T) (within : front ≤ length xs)
    (parts : drop front xs ≡ block ++ rest) (size : length block ≡ n)
  where
    pub block_within : front + n ≤ length xs
    block_within = omega (arith, length-drop front xs, ap length parts, length-append block rest)

    pub block_left : rest ≡ drop (front + n) xs
    block_left = sym (drop_at block rest n size) ∙ ap (drop n) (sym parts) ∙ drop-drop n front xs

    pub block_before : (P : T → Type 0) → AllWithin P xs 0 front → AllWithin P block 0 (length block) → AllWithin P xs 0 (front + n)
    block_before P before here k d z h =
        ⊎_elim (λ l. before k d z l)
        (λ (l : front ≤ k).
        let i : ℕ = k - front in
        let in_block : i < length block = omega arith in
        let there : front + i ≡ k = omega arith in
        subst P
        (sym (get_or-append block rest d i in_block) ∙ ap (λ l. get_or l i d) (sym parts) ∙ get_or-drop front xs i d ∙ ap (λ j. get_or xs j d) there)
        (here i d (omega arith) in_block))
        (cases_lt k front)
