-- Rounds over a run of round keys, where the same tweak goes into each.
-- Assumes nothing.
use Rattle.std.specs.Prelude.{ℕ, List, reverse}
use Rattle.std.specs.List.{fold}
use Rattle.aes.specs.Block.{xored, add_round_key, full_round, inv_full_round, inv_sub_bytes, inv_shift_rows, inv_mix_columns}
use Rattle.aes.specs.declared.keys.KeySet.{KeySet}
use Rattle.aes.specs.declared.keys.RoundKey.{RoundKey}
use Rattle.aes.specs.KeySets.{key_of}
use Rattle.aes.specs.Keys.{round_key}

-- a round key with t in it, where t is a tweak at the places of a block
abbrev pub subkey : List ℕ → RoundKey → List ℕ
subkey t k = xored 16 k.bytes t

-- subkey i of a key set
abbrev pub subkeys : KeySet → List ℕ → ℕ → List ℕ
subkeys keys t i = xored 16 (round_key (key_of keys) i) t

-- each of the keys in turn, and a full round after it
abbrev pub rounds : List ℕ → List RoundKey → List ℕ → List ℕ
rounds t keys s = fold (λ s k. full_round (add_round_key s (subkey t k))) s keys

-- these undone, from the last one on
abbrev pub inv_rounds : List ℕ → List RoundKey → List ℕ → List ℕ
inv_rounds t keys s = fold (λ s k. add_round_key (inv_full_round s) (subkey t k)) s (reverse keys)

-- the rounds of AES-128 with each of the keys in turn, and those of its inverse from the last one on
abbrev pub plain_rounds : List RoundKey → List ℕ → List ℕ
plain_rounds keys s = fold (λ s k. add_round_key (full_round s) k.bytes) s keys

abbrev pub inv_plain_rounds : List RoundKey → List ℕ → List ℕ
inv_plain_rounds keys s = fold (λ s k. inv_mix_columns (add_round_key (inv_sub_bytes (inv_shift_rows s)) k.bytes)) s (reverse keys)
