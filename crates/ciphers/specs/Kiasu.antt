-- KIASU-BC, whose subkeys are the tweaked keys. KIASU v1: "Encryption" and "Decryption". Assumes nothing.
use Rattle.std.specs.Prelude.{ℕ, zero, suc, List}
use Rattle.aes.specs.Block.{add_round_key, sub_bytes, inv_sub_bytes, shift_rows, inv_shift_rows, mix_columns, inv_mix_columns}
use Rattle.interfaces.specs.Maps.{Map}
use Rattle.ciphers.specs.Tweaks.{tweaked_key}

-- the rounds 1 to n under the subkeys ks
unfoldable pub kiasu_rounds : (ℕ → List ℕ) → ℕ → List ℕ → List ℕ
kiasu_rounds ks zero s = s
kiasu_rounds ks (suc n) s = add_round_key (mix_columns (shift_rows (sub_bytes (kiasu_rounds ks n s)))) (ks (suc n))

-- subkey 0, nine rounds, and a tenth that does not mix
unfoldable pub kiasu : List ℕ → List ℕ → List ℕ → List ℕ
kiasu key t b =
    let ks = tweaked_key key t in add_round_key (shift_rows (sub_bytes (kiasu_rounds ks 9 (add_round_key b (ks 0))))) (ks 10)

-- the rounds n to 1, each step undone and in reverse
unfoldable pub inv_kiasu_rounds : (ℕ → List ℕ) → ℕ → List ℕ → List ℕ
inv_kiasu_rounds ks zero s = s
inv_kiasu_rounds ks (suc n) s =
    inv_kiasu_rounds ks n (inv_sub_bytes (inv_shift_rows (inv_mix_columns (add_round_key s (ks (suc n))))))

unfoldable pub inv_kiasu : List ℕ → List ℕ → List ℕ → List ℕ
inv_kiasu key t b =
    let ks = tweaked_key key t in
    add_round_key (inv_kiasu_rounds ks 9 (inv_sub_bytes (inv_shift_rows (add_round_key b (ks 10))))) (ks 0)

-- both, as a tweakable cipher has them
abbrev pub kiasu_map : List ℕ → Map
kiasu_map key = record { image = kiasu key; origin = inv_kiasu key }
