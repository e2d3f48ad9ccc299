-- AES-128. FIPS 197: "CIPHER()" and "INVCIPHER()". Assumes nothing.
use Rattle.std.specs.Prelude.{ℕ, zero, suc, List}
use Rattle.aes.specs.Block.{add_round_key, sub_bytes, inv_sub_bytes, shift_rows, inv_shift_rows, mix_columns, inv_mix_columns}
use Rattle.aes.specs.Keys.{round_key}

-- the rounds 1 to n
unfoldable pub aes_rounds : List ℕ → ℕ → List ℕ → List ℕ
aes_rounds key zero s = s
aes_rounds key (suc n) s = add_round_key (mix_columns (shift_rows (sub_bytes (aes_rounds key n s)))) (round_key key (suc n))

-- round key 0, nine rounds, and a tenth that does not mix
unfoldable pub aes : List ℕ → List ℕ → List ℕ
aes key b = add_round_key (shift_rows (sub_bytes (aes_rounds key 9 (add_round_key b (round_key key 0))))) (round_key key 10)

-- the rounds n to 1 of the inverse
unfoldable pub inv_aes_rounds : List ℕ → ℕ → List ℕ → List ℕ
inv_aes_rounds key zero s = s
inv_aes_rounds key (suc n) s =
    inv_aes_rounds key n (inv_mix_columns (add_round_key (inv_sub_bytes (inv_shift_rows s)) (round_key key (suc n))))

unfoldable pub inv_aes : List ℕ → List ℕ → List ℕ
inv_aes key b =
    add_round_key (inv_sub_bytes (inv_shift_rows (inv_aes_rounds key 9 (add_round_key b (round_key key 10))))) (round_key key 0)
