-- The tweak in the round keys.
-- KIASU v1: "KIASU-BC: a Tweakable Block Cipher" (AddRoundTweakey). Assumes nothing.
use Rattle.std.specs.Prelude.{ℕ, ◌+◌, ◌*◌, ◌/◌, ◌%◌, cond, List, replicate, nat_lt}
use Rattle.aes.specs.Block.{at, listed, xored}
use Rattle.aes.specs.Keys.{round_key}

-- tweak bytes 2c and 2c + 1 at the places 4c and 4c + 1 of a block, its two top rows, and 0 elsewhere
abbrev pub spread : List ℕ → List ℕ
spread t = listed 16 λ j. cond (nat_lt (j % 4) 2) (at t (2 * (j / 4) + j % 4)) 0

-- round key i of a key with the tweak in it
abbrev pub tweaked_key : List ℕ → List ℕ → ℕ → List ℕ
tweaked_key key t i = xored 16 (round_key key i) (spread t)

abbrev pub zero_tweak : List ℕ
zero_tweak = replicate 8 0
