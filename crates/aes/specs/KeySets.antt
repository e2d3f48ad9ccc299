-- What a key set holds.
-- Assumes nothing.
use Rattle.std.specs.Prelude.{ℕ, List, map}
use Rattle.aes.specs.declared.keys.KeySet.{KeySet}
use Rattle.aes.specs.Keys.{row}

-- its round keys, as lists
abbrev pub rows_of : KeySet → List (List ℕ)
rows_of k = map (λ r. r.bytes) k.rows

-- the key that it was made from: its first round key
abbrev pub key_of : KeySet → List ℕ
key_of k = row (rows_of k) 0
