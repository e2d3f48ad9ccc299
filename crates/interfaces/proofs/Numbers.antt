-- A number in bytes is a list of bytes.
-- Assumes nothing.
use Rattle.std.proofs.Common.{◌≡◌, ℕ, zero, suc, ◌/◌, ◌^◌, ◌<◌, length, refl, ap, lit<}
use Rattle.std.proofs.lemmas.Nat.{mod_below}
use Rattle.aes.specs.Block.{Bytes, at}
use Rattle.interfaces.specs.Numbers.{big_endian}

big_endian-length : (n x : ℕ) → length (big_endian n x) ≡ n
big_endian-length zero x = refl
big_endian-length (suc n) x = ap suc (big_endian-length n x)

big_endian_small : (n x k : ℕ) → at (big_endian n x) k < 256
big_endian_small zero x k = lit< tt
big_endian_small (suc n) x zero = mod_below (x / 256 ^ n) 256 (lit< tt)
big_endian_small (suc n) x (suc k) = big_endian_small n x k

pub big_endian_bytes : (n x : ℕ) → Bytes n (big_endian n x)
big_endian_bytes n x = (big_endian-length n x, big_endian_small n x)
