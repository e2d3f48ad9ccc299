-- Under the zero tweak KIASU-BC is AES-128, forward and back, and so AES-128's two ways undo each other.
-- Assumes nothing.
use Rattle.std.proofs.Common.{◌≡◌, ℕ, zero, suc, List, sym, refl, ap, ◌∙◌, ap₂}
use Rattle.aes.specs.Block.{Bytes, add_round_key, sub_bytes, inv_sub_bytes, shift_rows, inv_shift_rows, mix_columns, inv_mix_columns}
use Rattle.aes.specs.Keys.{round_key}
use Rattle.ciphers.specs.Aes.{aes_rounds, aes, inv_aes_rounds, inv_aes}
use Rattle.ciphers.specs.Kiasu.{kiasu_rounds, kiasu, inv_kiasu_rounds, inv_kiasu}
use Rattle.ciphers.specs.Tweaks.{tweaked_key, zero_tweak}
use Rattle.ciphers.specs.Laws.{kiasu_undone, kiasu_redone}
use Rattle.ciphers.specs.Subkeys.{tweaked_key_zero, zero_tweak_bytes}

module _ (key : List ℕ) (bk : Bytes 16 key) where
  same : (i : ℕ) → round_key key i ≡ tweaked_key key zero_tweak i
  same i = sym (tweaked_key_zero key bk i)

  rounds_same : (n : ℕ) (s : List ℕ) → aes_rounds key n s ≡ kiasu_rounds (tweaked_key key zero_tweak) n s
  unfolding aes_rounds kiasu_rounds
  rounds_same zero s = refl
  rounds_same (suc n) s = ap₂ (λ x k. add_round_key (mix_columns (shift_rows (sub_bytes x))) k) (rounds_same n s) (same (suc n))

  pub aes_untweaked : (b : List ℕ) → aes key b ≡ kiasu key zero_tweak b
  unfolding aes kiasu
  aes_untweaked b =
      ap₂ (λ x k. add_round_key (shift_rows (sub_bytes x)) k)
      (rounds_same 9 (add_round_key b (round_key key 0)) ∙ ap (λ k. kiasu_rounds (tweaked_key key zero_tweak) 9 (add_round_key b k)) (same 0)) (same 10)

  -- the inverse of AES-128 takes the steps of a round in another grouping
  inv_rounds_same : (n : ℕ) (s : List ℕ) → inv_sub_bytes (inv_shift_rows (inv_aes_rounds key n s)) ≡ inv_kiasu_rounds (tweaked_key key zero_tweak) n (inv_sub_bytes (inv_shift_rows s))
  unfolding inv_aes_rounds inv_kiasu_rounds
  inv_rounds_same zero s = refl
  inv_rounds_same (suc n) s =
      let next : List ℕ → List ℕ = λ k. inv_mix_columns (add_round_key (inv_sub_bytes (inv_shift_rows s)) k) in
      inv_rounds_same n (next (round_key key (suc n)))
      ∙ ap (λ k. inv_kiasu_rounds (tweaked_key key zero_tweak) n (inv_sub_bytes (inv_shift_rows (next k)))) (same (suc n))

  pub inv_aes_untweaked : (b : List ℕ) → inv_aes key b ≡ inv_kiasu key zero_tweak b
  unfolding inv_aes inv_kiasu
  inv_aes_untweaked b =
      ap₂ add_round_key
      (inv_rounds_same 9 (add_round_key b (round_key key 10))
      ∙ ap (λ k. inv_kiasu_rounds (tweaked_key key zero_tweak) 9 (inv_sub_bytes (inv_shift_rows (add_round_key b k)))) (same 10))
      (same 0)

  pub aes_undone : (b : List ℕ) → Bytes 16 b → inv_aes key (aes key b) ≡ b
  aes_undone b h =
      ap (inv_aes key) (aes_untweaked b) ∙ inv_aes_untweaked (kiasu key zero_tweak b) ∙ kiasu_undone key zero_tweak bk zero_tweak_bytes b h

  pub aes_redone : (b : List ℕ) → Bytes 16 b → aes key (inv_aes key b) ≡ b
  aes_redone b h =
      ap (aes key) (inv_aes_untweaked b) ∙ aes_untweaked (inv_kiasu key zero_tweak b) ∙ kiasu_redone key zero_tweak bk zero_tweak_bytes b h
