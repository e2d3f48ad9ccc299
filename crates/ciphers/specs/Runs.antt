-- Runs of rounds: their steps, and that either way undoes the other.
-- Assumes nothing.
use Rattle.std.specs.Prelude.{◌≡◌, ℕ, zero, suc, ◌+◌, ◌-◌, ◌<◌, List}
use Rattle.std.proofs.Math.Path.{refl, ap}
use Rattle.std.proofs.Common.{sym, ◌∙◌, zero-add, add-one, arith}
use Rattle.aes.specs.Block.{Bytes, add_round_key, full_round, inv_full_round}
use Rattle.aes.proofs.Blocks.{xored_bytes, xored_twice, full_round_bytes, inv_full_round_bytes, inv_full_round-full_round, full_round-inv_full_round}
use Rattle.ciphers.specs.Forks.{run, inv_run}
use Rattle.ciphers.specs.Kiasu.{kiasu_rounds, inv_kiasu_rounds}
use Rattle.ciphers.specs.Subkeys.{Small}

module _ (ks : ℕ → List ℕ) where
  pub run_more : (i n : ℕ) (s : List ℕ) → run ks i (n + 1) s ≡ full_round (add_round_key (run ks i n s) (ks (i + n)))
  unfolding run
  run_more i n s = ap (λ m. run ks i m s) (add-one n)

  pub inv_run_more : (i n : ℕ) (s : List ℕ) → 0 < n
      → inv_run ks i n s ≡ inv_run ks i (n - 1) (add_round_key (inv_full_round s) (ks (i + (n - 1))))
  unfolding inv_run
  inv_run_more i n s h = let e : n ≡ suc (n - 1) = omega arith in ap (λ m. inv_run ks i m s) e

  -- the rounds of KIASU-BC, regrouped: each subkey goes before a full round, and one is left
  pub kiasu_rounds_run : (n : ℕ) (s : List ℕ) → kiasu_rounds ks n (add_round_key s (ks 0)) ≡ add_round_key (run ks 0 n s) (ks n)
  unfolding kiasu_rounds run
  kiasu_rounds_run zero s = refl
  kiasu_rounds_run (suc n) s =
      ap (λ x. add_round_key (full_round x) (ks (suc n))) (kiasu_rounds_run n s ∙ ap (λ i. add_round_key (run ks 0 n s) (ks i)) (sym (zero-add n)))

  pub inv_kiasu_rounds_run : (n : ℕ) (s : List ℕ) → add_round_key (inv_kiasu_rounds ks n s) (ks 0) ≡ inv_run ks 0 n (add_round_key s (ks n))
  unfolding inv_kiasu_rounds inv_run
  inv_kiasu_rounds_run zero s = refl
  inv_kiasu_rounds_run (suc n) s =
      inv_kiasu_rounds_run n (inv_full_round (add_round_key s (ks (suc n))))
      ∙ ap (λ i. inv_run ks 0 n (add_round_key (inv_full_round (add_round_key s (ks (suc n)))) (ks i))) (sym (zero-add n))

module _ (ks : ℕ → List ℕ) (kb : Small ks) where
  pub keyed_bytes : (i : ℕ) (s : List ℕ) → Bytes 16 s → Bytes 16 (add_round_key s (ks i))
  keyed_bytes i s b = xored_bytes 16 s (ks i) b.1 (kb i)

  pub run_bytes : (i n : ℕ) (s : List ℕ) → Bytes 16 s → Bytes 16 (run ks i n s)
  unfolding run
  run_bytes i zero s b = b
  run_bytes i (suc n) s b = full_round_bytes _ (keyed_bytes (i + n) (run ks i n s) (run_bytes i n s b))

  pub inv_run_bytes : (i n : ℕ) (s : List ℕ) → Bytes 16 s → Bytes 16 (inv_run ks i n s)
  unfolding inv_run
  inv_run_bytes i zero s b = b
  inv_run_bytes i (suc n) s b = inv_run_bytes i n _ (keyed_bytes (i + n) (inv_full_round s) (inv_full_round_bytes s b))

  pub inv_run_run : (i n : ℕ) (s : List ℕ) → Bytes 16 s → inv_run ks i n (run ks i n s) ≡ s
  unfolding run inv_run
  inv_run_run i zero s b = refl
  inv_run_run i (suc n) s b =
      let k = ks (i + n) in
      let f = run ks i n s in
      let bf = run_bytes i n s b in
      ap (λ x. inv_run ks i n (add_round_key x k)) (inv_full_round-full_round (add_round_key f k) (keyed_bytes (i + n) f bf))
      ∙ ap (inv_run ks i n) (xored_twice 16 f k bf)
      ∙ inv_run_run i n s b

  pub run_inv_run : (i n : ℕ) (s : List ℕ) → Bytes 16 s → run ks i n (inv_run ks i n s) ≡ s
  unfolding run inv_run
  run_inv_run i zero s b = refl
  run_inv_run i (suc n) s b =
      let k = ks (i + n) in
      let bu = inv_full_round_bytes s b in
      ap (λ x. full_round (add_round_key x k)) (run_inv_run i n (add_round_key (inv_full_round s) k) (keyed_bytes (i + n) (inv_full_round s) bu))
      ∙ ap full_round (xored_twice 16 (inv_full_round s) k bu)
      ∙ full_round-inv_full_round s b

  -- a run and a subkey after it
  pub keyed_run_undone : (i n j : ℕ) (s : List ℕ) → Bytes 16 s → inv_run ks i n (add_round_key (add_round_key (run ks i n s) (ks j)) (ks j)) ≡ s
  keyed_run_undone i n j s b =
      ap (inv_run ks i n) (xored_twice 16 (run ks i n s) (ks j) (run_bytes i n s b)) ∙ inv_run_run i n s b

  pub keyed_run_redone : (i n j : ℕ) (s : List ℕ) → Bytes 16 s → add_round_key (run ks i n (inv_run ks i n (add_round_key s (ks j)))) (ks j) ≡ s
  keyed_run_redone i n j s b =
      ap (λ x. add_round_key x (ks j)) (run_inv_run i n (add_round_key s (ks j)) (keyed_bytes j s b)) ∙ xored_twice 16 s (ks j) b
