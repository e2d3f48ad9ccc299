-- ForkAES, whose subkeys are the tweaked keys. ForkAES: "Specification". Assumes nothing.
use Rattle.std.specs.Prelude.{ℕ, zero, suc, ◌+◌, List}
use Rattle.aes.specs.Block.{add_round_key, full_round, inv_full_round}
use Rattle.interfaces.specs.declared.sides.Side.{Side}
use Rattle.interfaces.specs.declared.sides.Side.TheVariants.{Left, Right}
use Rattle.interfaces.specs.Maps.{Maps}
use Rattle.ciphers.specs.Tweaks.{tweaked_key}

-- n times from i on: subkey i, then a full round
unfoldable pub run : (ℕ → List ℕ) → ℕ → ℕ → List ℕ → List ℕ
run ks i zero s = s
run ks i (suc n) s = full_round (add_round_key (run ks i n s) (ks (i + n)))

-- the same undone, from the last round to the first
unfoldable pub inv_run : (ℕ → List ℕ) → ℕ → ℕ → List ℕ → List ℕ
inv_run ks i zero s = s
inv_run ks i (suc n) s = inv_run ks i n (add_round_key (inv_full_round s) (ks (i + n)))

-- the stem takes the subkeys 0 to 4
abbrev pub stem : (ℕ → List ℕ) → List ℕ → List ℕ
stem ks s = run ks 0 5 s

abbrev pub inv_stem : (ℕ → List ℕ) → List ℕ → List ℕ
inv_stem ks s = inv_run ks 0 5 s

-- the left branch takes the subkeys 5 to 10, the right one 11 to 16
abbrev pub start : Side → ℕ
start Left = 5
start Right = 11

-- a branch: five rounds, all of which mix, and a last subkey
abbrev pub branch : (ℕ → List ℕ) → Side → List ℕ → List ℕ
branch ks side s = add_round_key (run ks (start side) 5 s) (ks (start side + 5))

abbrev pub inv_branch : (ℕ → List ℕ) → Side → List ℕ → List ℕ
inv_branch ks side s = inv_run ks (start side) 5 (add_round_key s (ks (start side + 5)))

-- the image of a block on a side, and the block of an image
unfoldable pub fork_aes : List ℕ → Side → List ℕ → List ℕ → List ℕ
fork_aes key side t b = let ks = tweaked_key key t in branch ks side (stem ks b)

unfoldable pub inv_fork_aes : List ℕ → Side → List ℕ → List ℕ → List ℕ
inv_fork_aes key side t b = let ks = tweaked_key key t in inv_stem ks (inv_branch ks side b)

-- both, as a forkcipher has them
abbrev pub fork_aes_maps : List ℕ → Maps
fork_aes_maps key = record { image = fork_aes key; origin = inv_fork_aes key }
