-- KIASU-BC and ForkAES: either way undoes the other. The lemmas that end in `_made` are the contracts, from what the code computes.
-- Assumes nothing.
use Rattle.std.specs.Prelude.{◌≡◌, ℕ, ◌+◌, List}
use Rattle.std.proofs.Math.Path.{sym, ap}
use Rattle.std.proofs.Common.{◌∙◌}
use Rattle.aes.specs.Block.{Bytes, add_round_key, sub_bytes, inv_sub_bytes, shift_rows, inv_shift_rows}
use Rattle.aes.specs.Step.{Step}
use Rattle.aes.proofs.Blocks.{xored_twice, sub_bytes_bytes, inv_sub_bytes_bytes, inv_sub_bytes-sub_bytes, sub_bytes-inv_sub_bytes, shift_rows_bytes, inv_shift_rows_bytes, inv_shift_rows-shift_rows, shift_rows-inv_shift_rows}
use Rattle.aes.proofs.Table.{step}
use Rattle.interfaces.specs.declared.sides.Side.{Side}
use Rattle.interfaces.specs.Maps.{Inverse, Lawful}
use Rattle.ciphers.specs.Forks.{run, inv_run, stem, inv_stem, start, branch, inv_branch, fork_aes, inv_fork_aes, fork_aes_maps}
use Rattle.ciphers.specs.Kiasu.{inv_kiasu_rounds, kiasu, inv_kiasu}
use Rattle.ciphers.specs.Tweaks.{tweaked_key}
use Rattle.ciphers.specs.Runs.{kiasu_rounds_run, inv_kiasu_rounds_run, keyed_bytes, run_bytes, inv_run_bytes, inv_run_run, run_inv_run, keyed_run_undone, keyed_run_redone}
use Rattle.ciphers.specs.Subkeys.{Small, tweaked_key_small}

-- the tenth round, which does not mix, and its subkey k
module _ (k s : List ℕ) (b : Bytes 16 s) where
  last_undone : inv_sub_bytes (inv_shift_rows (add_round_key (add_round_key (shift_rows (sub_bytes s)) k) k)) ≡ s
  last_undone =
      let bs = sub_bytes_bytes s b in
      ap (λ x. inv_sub_bytes (inv_shift_rows x)) (xored_twice 16 (shift_rows (sub_bytes s)) k (shift_rows_bytes (sub_bytes s) bs))
      ∙ ap inv_sub_bytes (inv_shift_rows-shift_rows (sub_bytes s) bs)
      ∙ inv_sub_bytes-sub_bytes s b

  last_redone : Bytes 16 (add_round_key s k) → add_round_key (shift_rows (sub_bytes (inv_sub_bytes (inv_shift_rows (add_round_key s k))))) k ≡ s
  last_redone bk =
      let a = add_round_key s k in
      ap (λ x. add_round_key (shift_rows x) k) (sub_bytes-inv_sub_bytes (inv_shift_rows a) (inv_shift_rows_bytes a bk))
      ∙ ap (λ x. add_round_key x k) (shift_rows-inv_shift_rows a bk)
      ∙ xored_twice 16 s k b

module _ (key t : List ℕ) (bk : Bytes 16 key) (bt : Bytes 8 t) where
  abbrev subkey : ℕ → List ℕ
  subkey = tweaked_key key t

  small : Small subkey
  small = tweaked_key_small key t bk bt

  pub kiasu_undone : (b : List ℕ) → Bytes 16 b → inv_kiasu key t (kiasu key t b) ≡ b
  unfolding kiasu inv_kiasu
  kiasu_undone b h =
      let ks = subkey in
      let s = add_round_key (run ks 0 9 b) (ks 9) in
      ap (λ x. inv_kiasu key t (add_round_key (shift_rows (sub_bytes x)) (ks 10))) (kiasu_rounds_run ks 9 b)
      ∙ ap (λ x. add_round_key (inv_kiasu_rounds ks 9 x) (ks 0)) (last_undone (ks 10) s (keyed_bytes ks small 9 _ (run_bytes ks small 0 9 b h)))
      ∙ inv_kiasu_rounds_run ks 9 s
      ∙ keyed_run_undone ks small 0 9 9 b h

  pub kiasu_redone : (b : List ℕ) → Bytes 16 b → kiasu key t (inv_kiasu key t b) ≡ b
  unfolding kiasu inv_kiasu
  kiasu_redone b h =
      let ks = subkey in
      let bs = keyed_bytes ks small 10 b h in
      let s = inv_sub_bytes (inv_shift_rows (add_round_key b (ks 10))) in
      ap (kiasu key t) (inv_kiasu_rounds_run ks 9 s)
      ∙ ap (λ x. add_round_key (shift_rows (sub_bytes x)) (ks 10))
      (kiasu_rounds_run ks 9 (inv_run ks 0 9 (add_round_key s (ks 9))) ∙ keyed_run_redone ks small 0 9 9 s (inv_sub_bytes_bytes _ (inv_shift_rows_bytes _ bs)))
      ∙ last_redone (ks 10) b h bs

  kiasu_bytes : (b : List ℕ) → Bytes 16 b → Bytes 16 (kiasu key t b)
  unfolding kiasu
  kiasu_bytes b h =
      let ks = subkey in
      let last = keyed_bytes ks small 9 (run ks 0 9 b) (run_bytes ks small 0 9 b h) in
      rw (kiasu_rounds_run ks 9 b) (keyed_bytes ks small 10 _ (shift_rows_bytes _ (sub_bytes_bytes _ last)))

  inv_kiasu_bytes : (b : List ℕ) → Bytes 16 b → Bytes 16 (inv_kiasu key t b)
  unfolding inv_kiasu
  inv_kiasu_bytes b h =
      let ks = subkey in
      let last = inv_sub_bytes_bytes _ (inv_shift_rows_bytes _ (keyed_bytes ks small 10 b h)) in
      rw (inv_kiasu_rounds_run ks 9 (inv_sub_bytes (inv_shift_rows (add_round_key b (ks 10))))) (inv_run_bytes ks small 0 9 _ (keyed_bytes ks small 9 _ last))

  -- the code's grouping: each subkey before its round
  pub kiasu_made : (b r : List ℕ) → Bytes 16 b → r ≡ add_round_key (shift_rows (sub_bytes (add_round_key (run subkey 0 9 b) (subkey 9)))) (subkey 10)
      → Step (kiasu key t) (inv_kiasu key t) b r
  unfolding kiasu
  kiasu_made b r h e =
      step (kiasu key t) (inv_kiasu key t) b r
      (e ∙ sym (ap (λ x. add_round_key (shift_rows (sub_bytes x)) (subkey 10)) (kiasu_rounds_run subkey 9 b))) (kiasu_undone b h)

  pub inv_kiasu_made : (b r : List ℕ) → Bytes 16 b → r ≡ inv_run subkey 0 9 (add_round_key (inv_sub_bytes (inv_shift_rows (add_round_key b (subkey 10)))) (subkey 9))
      → Step (inv_kiasu key t) (kiasu key t) b r
  unfolding inv_kiasu
  inv_kiasu_made b r h e =
      step (inv_kiasu key t) (kiasu key t) b r
      (e ∙ sym (inv_kiasu_rounds_run subkey 9 (inv_sub_bytes (inv_shift_rows (add_round_key b (subkey 10)))))) (kiasu_redone b h)

  fork_undone : (side : Side) (b : List ℕ) → Bytes 16 b → inv_fork_aes key side t (fork_aes key side t b) ≡ b
  unfolding fork_aes inv_fork_aes
  fork_undone side b h =
      let ks = subkey in
      ap (inv_run ks 0 5) (keyed_run_undone ks small (start side) 5 (start side + 5) (stem ks b) (run_bytes ks small 0 5 b h))
      ∙ inv_run_run ks small 0 5 b h

  stem_redone : (side : Side) (b : List ℕ) → Bytes 16 b → stem subkey (inv_fork_aes key side t b) ≡ inv_branch subkey side b
  unfolding inv_fork_aes
  stem_redone side b h =
      let ks = subkey in
      run_inv_run ks small 0 5 _ (inv_run_bytes ks small (start side) 5 _ (keyed_bytes ks small (start side + 5) b h))

  fork_redone : (side : Side) (b : List ℕ) → Bytes 16 b → fork_aes key side t (inv_fork_aes key side t b) ≡ b
  unfolding fork_aes
  fork_redone side b h =
      ap (branch subkey side) (stem_redone side b h) ∙ keyed_run_redone subkey small (start side) 5 (start side + 5) b h

  fork_aes_bytes : (side : Side) (b : List ℕ) → Bytes 16 b → Bytes 16 (fork_aes key side t b)
  unfolding fork_aes
  fork_aes_bytes side b h =
      let ks = subkey in
      keyed_bytes ks small (start side + 5) _ (run_bytes ks small (start side) 5 _ (run_bytes ks small 0 5 b h))

  inv_fork_aes_bytes : (side : Side) (b : List ℕ) → Bytes 16 b → Bytes 16 (inv_fork_aes key side t b)
  unfolding inv_fork_aes
  inv_fork_aes_bytes side b h =
      let ks = subkey in
      inv_run_bytes ks small 0 5 _ (inv_run_bytes ks small (start side) 5 _ (keyed_bytes ks small (start side + 5) b h))

  pub fork_aes_made : (side : Side) (b r : List ℕ) → Bytes 16 b → r ≡ branch subkey side (stem subkey b) → Step (fork_aes key side t) (inv_fork_aes key side t) b r
  unfolding fork_aes
  fork_aes_made side b r h e = step (fork_aes key side t) (inv_fork_aes key side t) b r e (fork_undone side b h)

  pub inv_fork_aes_made : (side : Side) (b r : List ℕ) → Bytes 16 b → r ≡ inv_stem subkey (inv_branch subkey side b) → Step (inv_fork_aes key side t) (fork_aes key side t) b r
  unfolding inv_fork_aes
  inv_fork_aes_made side b r h e = step (inv_fork_aes key side t) (fork_aes key side t) b r e (fork_redone side b h)

  -- from one side to the other there is no need to go through the stem
  pub crossed : (from to : Side) (b : List ℕ) → Bytes 16 b → branch subkey to (inv_branch subkey from b) ≡ fork_aes key to t (inv_fork_aes key from t b)
  unfolding fork_aes
  crossed from to b h = sym (ap (branch subkey to) (stem_redone from b h))

-- the laws that the interfaces ask for
pub kiasu_inverse : (key : List ℕ) → Bytes 16 key → Inverse (kiasu key) (inv_kiasu key)
kiasu_inverse key bk = record {
  image_block = λ t b w v. kiasu_bytes key t bk w b v;
  origin_block = λ t b w v. inv_kiasu_bytes key t bk w b v;
  origin_image = λ t b w v. kiasu_undone key t bk w b v;
  image_origin = λ t b w v. kiasu_redone key t bk w b v;
}

pub fork_aes_lawful : (key : List ℕ) → Bytes 16 key → Lawful (fork_aes_maps key)
fork_aes_lawful key bk s = record {
  image_block = λ t b w v. fork_aes_bytes key t bk w s b v;
  origin_block = λ t b w v. inv_fork_aes_bytes key t bk w s b v;
  origin_image = λ t b w v. fork_undone key t bk w s b v;
  image_origin = λ t b w v. fork_redone key t bk w s b v;
}
