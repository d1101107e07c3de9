-- What each method that puts bytes out does to the output.
use Rattle.std.specs.Prelude.{◌≡◌, ℕ, ◌+◌, cond, List, [], ◌∷◌, ltb, set}
use Rattle.output.specs.declared.Output.{Output}

-- what the lent bytes hold, the place up to which they are written, and the one that nothing goes past
pub record Contents : Type 0 where
  pub bytes : List ℕ
  pub at : ℕ
  pub limit : ℕ

abbrev pub content : List ℕ → ℕ → ℕ → Contents
content bytes at limit = record { bytes = bytes; at = at; limit = limit }

abbrev pub contents : Output → Contents
contents o = content o.bytes.now o.at o.limit

-- one byte more, as far as there is room; nothing goes past the limit
unfoldable pub with_byte : Contents → ℕ → Contents
with_byte c b = cond (ltb c.at c.limit) (record { bytes = set c.bytes c.at b; at = c.at + 1; limit = c.limit }) c

-- the bytes x, one after the other
unfoldable pub with_bytes : Contents → List ℕ → Contents
with_bytes c [] = c
with_bytes c (b ∷ x) = with_bytes (with_byte c b) x

-- the bytes x are put out, into the same lent bytes as before
pub record Writes (before after : Output) (x : List ℕ) : Type 0 where
  pub same : after.bytes.ghost_name ≡ before.bytes.ghost_name
  pub holds : contents after ≡ with_bytes (contents before) x
