-- Tweaked keys are bytes, and under the zero tweak they are the round keys.
-- Assumes nothing.
use Rattle.std.specs.Prelude.{◌≡◌, ℕ, ◌+◌, ◌*◌, ◌/◌, ◌%◌, ◌<◌, Bool, true, false, cond, List, replicate, bit_xor, nat_lt}
use Rattle.std.proofs.Common.{sym, ap, ◌∙◌, lit<}
use Rattle.std.specs.Int.Bits.{xor_zero_r}
use Rattle.std.proofs.lemmas.List.{get_or-replicate}
use Rattle.aes.specs.Block.{Bytes, at, xored}
use Rattle.aes.specs.Keys.{round_key}
use Rattle.aes.proofs.Blocks.{xored_bytes}
use Rattle.aes.proofs.Schedule.{round_key_bytes}
use Rattle.aes.proofs.Table.{same_table, relisted, listed_bytes}
use Rattle.ciphers.specs.Tweaks.{spread, tweaked_key, zero_tweak}

cond_byte : (c : Bool) (a : ℕ) → a < 256 → cond c a 0 < 256
cond_byte true a h = h
cond_byte false a h = lit< tt

spread_bytes : (t : List ℕ) → Bytes 8 t → Bytes 16 (spread t)
spread_bytes t b =
    listed_bytes 16 (λ j. cond (nat_lt (j % 4) 2) (at t (2 * (j / 4) + j % 4)) 0)
    (λ j h. cond_byte (nat_lt (j % 4) 2) (at t (2 * (j / 4) + j % 4)) (b.1 (2 * (j / 4) + j % 4)))

-- subkeys that are bytes
abbrev pub Small : (ℕ → List ℕ) → Type 0
Small ks = (i j : ℕ) → at (ks i) j < 256

pub tweaked_key_small : (key t : List ℕ) → Bytes 16 key → Bytes 8 t → Small (tweaked_key key t)
tweaked_key_small key t bk bt i =
    (xored_bytes 16 (round_key key i) (spread t) (round_key_bytes key bk i).1 (spread_bytes t bt).1).1

pub zero_tweak_bytes : Bytes 8 zero_tweak
zero_tweak_bytes = listed_bytes 8 (λ j. 0) (λ j h. lit< tt)

pub tweaked_key_zero : (key : List ℕ) → Bytes 16 key → (i : ℕ) → tweaked_key key zero_tweak i ≡ round_key key i
unfolding xored
tweaked_key_zero key bk i =
    let r = round_key key i in
    same_table 16 (λ j. bit_xor (at r j) (at (replicate 16 0) j)) (at r)
    (λ j h. ap (bit_xor (at r j)) (get_or-replicate 16 j 0 0 h) ∙ xor_zero_r (at r j))
    ∙ sym (relisted 16 r (round_key_bytes key bk i))
