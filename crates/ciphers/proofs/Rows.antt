-- What folds over the rows of a key set make, by the numbers of the rounds.
-- Assumes nothing.
use Rattle.std.proofs.Common.{◌≡◌, ℕ, zero, suc, ◌+◌, ◌-◌, ◌<◌, ◌≤◌, List, [], ◌∷◌, ◌++◌, length, get_or, take, drop, reverse, sym, refl, ap, ap₂, subst, ◌∙◌, add-one, arith}
use Rattle.std.specs.List.{fold}
use Rattle.std.proofs.lemmas.List.{get_or-map, get_or-drop, length-map, length-drop, take_more, reverse-append}
use Rattle.std.proofs.lemmas.List.Sums.{fold_push}
use Rattle.aes.specs.declared.keys.KeySet.{KeySet}
use Rattle.aes.specs.declared.keys.RoundKey.{RoundKey}
use Rattle.aes.specs.Block.{xored, add_round_key, full_round, inv_full_round, inv_sub_bytes, inv_shift_rows, inv_mix_columns}
use Rattle.aes.specs.KeySets.{rows_of, key_of}
use Rattle.aes.specs.Keys.{round_key, schedule}
use Rattle.aes.proofs.Schedule.{scheduled_row}
use Rattle.ciphers.specs.Aes.{aes_rounds, inv_aes_rounds}
use Rattle.interfaces.specs.declared.sides.Side.{Side}
use Rattle.interfaces.specs.declared.sides.Side.TheVariants.{Left, Right}
use Rattle.ciphers.specs.Forks.{run, inv_run, start}
use Rattle.ciphers.specs.Runs.{run_more, inv_run_more}
use Rattle.ciphers.specs.Rounds.{subkeys, rounds, inv_rounds, plain_rounds, inv_plain_rounds}

abbrev bytes : RoundKey → List ℕ
bytes k = k.bytes

-- the subkeys of a branch are there
pub branch_within : (side : Side) → start side + 5 ≤ 17
branch_within Left = omega arith
branch_within Right = omega arith

module _ (keys : KeySet) where
  rows_length : length keys.rows ≡ 17
  unfolding schedule
  rows_length = sym (length-map keys.rows bytes) ∙ ap length keys.scheduled.1

  pub row_key : (i : ℕ) (d : RoundKey) → i < 17 → (get_or keys.rows i d).bytes ≡ round_key (key_of keys) i
  row_key i d h =
      let l : i < length keys.rows = rw rows_length h in
      sym (get_or-map bytes keys.rows i d [] l) ∙ scheduled_row (rows_of keys) keys.scheduled i h

  -- n rows from i on
  abbrev part : ℕ → ℕ → List RoundKey
  part i n = take n (drop i keys.rows)

  abbrev first : RoundKey
  first = record { bytes = key_of keys }

  -- one row more
  more : (i n : ℕ) → i + n < 17 → (k : RoundKey) × (part i (n + 1) ≡ part i n ++ (k ∷ [])) × (k.bytes ≡ round_key (key_of keys) (i + n))
  more i n h =
      let l : n < length (drop i keys.rows) = rw (length-drop i keys.rows, rows_length) (omega arith) in
      (get_or (drop i keys.rows) n first, take_more (drop i keys.rows) n first l, ap bytes (get_or-drop i keys.rows n first) ∙ row_key (i + n) first h)

  module _ (h : List ℕ → List ℕ → List ℕ) (i n : ℕ) (s : List ℕ) (l : i + n < 17) where
    abbrev over : List RoundKey → List ℕ → List ℕ
    over ks a = fold (λ a k. h a k.bytes) a ks

    -- the fold over one row more, from the first row on and from the last
    fold_next : over (part i (n + 1)) s ≡ h (over (part i n) s) (round_key (key_of keys) (i + n))
    fold_next =
        let m = more i n l in
        ap (λ ks. over ks s) m.1 ∙ fold_push (λ a k. h a k.bytes) s (part i n) m.0 ∙ ap (h (over (part i n) s)) m.2

    fold_back : over (reverse (part i (n + 1))) s ≡ over (reverse (part i n)) (h s (round_key (key_of keys) (i + n)))
    fold_back =
        let m = more i n l in
        ap (λ ks. over (reverse ks) s) m.1
        ∙ ap (λ ks. over ks s) (reverse-append (part i n) (m.0 ∷ []))
        ∙ ap (λ b. over (reverse (part i n)) (h s b)) m.2

  module _ (t : List ℕ) (i : ℕ) where
    pub rounds_run : (n : ℕ) (s : List ℕ) → i + n ≤ 17 → rounds t (part i n) s ≡ run (subkeys keys t) i n s
    unfolding run
    rounds_run zero s l = refl
    rounds_run (suc n) s l =
        let ks = subkeys keys t in
        subst (λ m. rounds t (part i m) s ≡ run ks i m s) (add-one n)
        (fold_next (λ a b. full_round (add_round_key a (xored 16 b t))) i n s (omega arith)
        ∙ ap (λ x. full_round (add_round_key x (ks (i + n)))) (rounds_run n s (omega arith))
        ∙ sym (run_more ks i n s))

    pub inv_rounds_run : (n : ℕ) (s : List ℕ) → i + n ≤ 17 → inv_rounds t (part i n) s ≡ inv_run (subkeys keys t) i n s
    unfolding inv_run
    inv_rounds_run zero s l = refl
    inv_rounds_run (suc n) s l =
        let ks = subkeys keys t in
        let undone : ℕ → List ℕ = λ m. inv_run ks i m (add_round_key (inv_full_round s) (ks (i + m))) in
        let last : n ≡ suc n - 1 = omega arith in
        ap (λ m. inv_rounds t (part i m) s) (sym (add-one n))
        ∙ fold_back (λ a b. add_round_key (inv_full_round a) (xored 16 b t)) i n s (omega arith)
        ∙ inv_rounds_run n (add_round_key (inv_full_round s) (ks (i + n))) (omega arith)
        ∙ ap undone last
        ∙ sym (inv_run_more ks i (suc n) s (omega arith))

  -- the rounds of AES-128 begin with row 1
  pub aes_rounds_run : (n : ℕ) (s : List ℕ) → n ≤ 16 → plain_rounds (part 1 n) s ≡ aes_rounds (key_of keys) n s
  unfolding aes_rounds
  aes_rounds_run zero s l = refl
  aes_rounds_run (suc n) s l =
      ap (λ m. plain_rounds (part 1 m) s) (sym (add-one n))
      ∙ fold_next (λ a b. add_round_key (full_round a) b) 1 n s (omega arith)
      ∙ ap₂ (λ x m. add_round_key (full_round x) (round_key (key_of keys) m)) (aes_rounds_run n s (omega arith)) (omega arith)

  pub inv_aes_rounds_run : (n : ℕ) (s : List ℕ) → n ≤ 16 → inv_plain_rounds (part 1 n) s ≡ inv_aes_rounds (key_of keys) n s
  unfolding inv_aes_rounds
  inv_aes_rounds_run zero s l = refl
  inv_aes_rounds_run (suc n) s l =
      let next : ℕ → List ℕ = λ m. inv_mix_columns (add_round_key (inv_sub_bytes (inv_shift_rows s)) (round_key (key_of keys) m)) in
      ap (λ m. inv_plain_rounds (part 1 m) s) (sym (add-one n))
      ∙ fold_back (λ a b. inv_mix_columns (add_round_key (inv_sub_bytes (inv_shift_rows a)) b)) 1 n s (omega arith)
      ∙ inv_aes_rounds_run n (next (1 + n)) (omega arith)
      ∙ ap (λ m. inv_aes_rounds (key_of keys) n (next m)) (omega arith)
