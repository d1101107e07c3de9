-- What the loops over rows do: nodes are held, and marks are written.
use Rattle.std.proofs.Common.{◌≡◌, ℕ, ◌+◌, ◌<◌, List, [], ◌∷◌, sym, ◌∙◌, arith, length, get_or, set, take, ext_get_or}
use Rattle.std.proofs.lemmas.List.{take_more}
use Rattle.laws.specs.Laws.Joined.{singles_at, singles_length}
use Rattle.lattice_nodes.specs.Steps.{updated, held_byte, byte_mark, marked_by}
use Rattle.lattice_nodes.specs.Laws.Steps.{updated_append}

-- one row's node more
pub one_held : (ids nodes : List ℕ) (i : ℕ) → i < length ids
    → updated held_byte (take (i + 1) ids) nodes ≡ set (updated held_byte (take i ids) nodes) (get_or ids i 0) 1
unfolding updated
one_held ids nodes i h = rw (take_more ids i 0 h) (updated_append held_byte (take i ids) (get_or ids i 0 ∷ []) nodes)

-- every row's mark
pub all_marked : (nodes ids marks : List ℕ) → length marks ≡ length ids
    → ((k : ℕ) → k < length ids → get_or marks k 0 ≡ byte_mark (get_or nodes (get_or ids k 0) 0)) → marks ≡ marked_by nodes ids
unfolding marked_by
all_marked nodes ids marks e each =
    let mark : ℕ → ℕ = λ r. byte_mark (get_or nodes (get_or ids r 0) 0) in
    ext_get_or 0 _ _ (e ∙ sym (singles_length mark (length ids)))
    (λ k h. each k (omega arith) ∙ sym (singles_at mark (length ids) k (omega arith)))
