-- Each step on a block keeps it a block, and is undone by its inverse.
-- Assumes nothing.
use Rattle.std.proofs.Common.{◌≡◌, ℕ, ◌+◌, ◌*◌, ◌/◌, ◌%◌, ◌<◌, List, ◌++◌, sym, ap, ◌∙◌, ap₂}
use Rattle.std.specs.Int.Bits.{bit_xor, xor_lt}
use Rattle.aes.specs.Field.{s_box, inv_s_box}
use Rattle.aes.specs.Block.{Bytes, at, listed, xored, sub_bytes, inv_sub_bytes, shift_rows, inv_shift_rows, column, quarter, columns, mix, inv_mix, full_round, inv_full_round}
use Rattle.aes.proofs.AllBytes.{s_box_byte, inv_s_box_byte, inv_s_box-s_box, s_box-inv_s_box}
use Rattle.aes.proofs.Matrices.{Undoes, column_bytes, column_undone, inv_mix-mix, mix-inv_mix}
use Rattle.aes.proofs.Linear.{xor_twice}
use Rattle.aes.proofs.Table.{entry, same_table, relisted, listed_bytes}

pub xored_bytes : (n : ℕ) (a b : List ℕ) → ((j : ℕ) → at a j < 256) → ((j : ℕ) → at b j < 256) → Bytes n (xored n a b)
unfolding xored
xored_bytes n a b ha hb =
    listed_bytes n (λ j. bit_xor (at a j) (at b j)) (λ j h. xor_lt 8 (at a j) (at b j) (ha j) (hb j))

pub xored_twice : (n : ℕ) (a b : List ℕ) → Bytes n a → xored n (xored n a b) b ≡ a
unfolding xored
xored_twice n a b ha =
    same_table n (λ j. bit_xor (at (xored n a b) j) (at b j)) (at a)
    (λ j h. ap (λ x. bit_xor x (at b j)) (entry (λ j. bit_xor (at a j) (at b j)) n j 0 h) ∙ xor_twice (at a j) (at b j))
    ∙ sym (relisted n a ha)

module _ (f : ℕ → ℕ) (f_byte : (b : ℕ) → b < 256 → f b < 256) where
  each_bytes : (s : List ℕ) → Bytes 16 s → Bytes 16 (listed 16 λ j. f (at s j))
  each_bytes s b = listed_bytes 16 (λ j. f (at s j)) (λ j h. f_byte (at s j) (b.1 j))

  each_undone : (g : ℕ → ℕ) → ((b : ℕ) → b < 256 → g (f b) ≡ b) → (s : List ℕ) → Bytes 16 s → (listed 16 λ j. g (at (listed 16 λ i. f (at s i)) j)) ≡ s
  each_undone g e s b =
      same_table 16 (λ j. g (at (listed 16 λ i. f (at s i)) j)) (at s)
      (λ j h. ap g (entry (λ i. f (at s i)) 16 j 0 h) ∙ e (at s j) (b.1 j))
      ∙ sym (relisted 16 s b)

pub sub_bytes_bytes : (s : List ℕ) → Bytes 16 s → Bytes 16 (sub_bytes s)
unfolding sub_bytes
sub_bytes_bytes = each_bytes s_box s_box_byte

pub inv_sub_bytes_bytes : (s : List ℕ) → Bytes 16 s → Bytes 16 (inv_sub_bytes s)
unfolding inv_sub_bytes
inv_sub_bytes_bytes = each_bytes inv_s_box inv_s_box_byte

pub inv_sub_bytes-sub_bytes : (s : List ℕ) → Bytes 16 s → inv_sub_bytes (sub_bytes s) ≡ s
unfolding sub_bytes inv_sub_bytes
inv_sub_bytes-sub_bytes = each_undone s_box s_box_byte inv_s_box inv_s_box-s_box

pub sub_bytes-inv_sub_bytes : (s : List ℕ) → Bytes 16 s → sub_bytes (inv_sub_bytes s) ≡ s
unfolding sub_bytes inv_sub_bytes
sub_bytes-inv_sub_bytes = each_undone inv_s_box inv_s_box_byte s_box s_box-inv_s_box

-- bytes moved from one place to another
moved_bytes : (p : ℕ → ℕ) (s : List ℕ) → Bytes 16 s → Bytes 16 (listed 16 λ j. at s (p j))
moved_bytes p s b = listed_bytes 16 (λ j. at s (p j)) (λ j l. b.1 (p j))

pub shift_rows_bytes : (s : List ℕ) → Bytes 16 s → Bytes 16 (shift_rows s)
unfolding shift_rows
shift_rows_bytes = moved_bytes (λ j. (j + 4 * (j % 4)) % 16)

pub inv_shift_rows_bytes : (s : List ℕ) → Bytes 16 s → Bytes 16 (inv_shift_rows s)
unfolding inv_shift_rows
inv_shift_rows_bytes = moved_bytes (λ j. (j + 12 * (j % 4)) % 16)

-- at sixteen known places both sides compute
pub inv_shift_rows-shift_rows : (s : List ℕ) → Bytes 16 s → inv_shift_rows (shift_rows s) ≡ s
unfolding shift_rows inv_shift_rows
inv_shift_rows-shift_rows s b = sym (relisted 16 s b)

pub shift_rows-inv_shift_rows : (s : List ℕ) → Bytes 16 s → shift_rows (inv_shift_rows s) ≡ s
unfolding shift_rows inv_shift_rows
shift_rows-inv_shift_rows s b = sym (relisted 16 s b)

quarter_bytes : (s : List ℕ) → Bytes 16 s → (c : ℕ) → Bytes 4 (quarter s c)
quarter_bytes s b c = listed_bytes 4 (λ i. at s (4 * c + i)) (λ i l. b.1 (4 * c + i))

columns_bytes : (m s : List ℕ) → Bytes 16 s → Bytes 16 (columns m s)
unfolding columns
columns_bytes m s b =
    listed_bytes 16 (λ j. at (column m (quarter s (j / 4))) (j % 4))
    (λ j h. (column_bytes m (quarter s (j / 4)) (quarter_bytes s b (j / 4))).1 (j % 4))

pub columns_undone : (n m : List ℕ) → Undoes n m → (s : List ℕ) → Bytes 16 s → columns n (columns m s) ≡ s
unfolding columns column
columns_undone n m u s b =
    let q : (c : ℕ) → column n (column m (quarter s c)) ≡ quarter s c = λ c. column_undone n m u (quarter s c) (quarter_bytes s b c) in
    ap₂ ◌++◌ (q 0) (ap₂ ◌++◌ (q 1) (ap₂ ◌++◌ (q 2) (q 3)))
    ∙ sym (relisted 16 s b)

-- ---- a full round

pub full_round_bytes : (s : List ℕ) → Bytes 16 s → Bytes 16 (full_round s)
full_round_bytes s b = columns_bytes mix _ (shift_rows_bytes _ (sub_bytes_bytes s b))

pub inv_full_round_bytes : (s : List ℕ) → Bytes 16 s → Bytes 16 (inv_full_round s)
inv_full_round_bytes s b = inv_sub_bytes_bytes _ (inv_shift_rows_bytes _ (columns_bytes inv_mix s b))

pub inv_full_round-full_round : (s : List ℕ) → Bytes 16 s → inv_full_round (full_round s) ≡ s
inv_full_round-full_round s b =
    let b1 = sub_bytes_bytes s b in
    let b2 = shift_rows_bytes (sub_bytes s) b1 in
    ap (λ x. inv_sub_bytes (inv_shift_rows x)) (columns_undone inv_mix mix inv_mix-mix (shift_rows (sub_bytes s)) b2)
    ∙ ap inv_sub_bytes (inv_shift_rows-shift_rows (sub_bytes s) b1)
    ∙ inv_sub_bytes-sub_bytes s b

pub full_round-inv_full_round : (s : List ℕ) → Bytes 16 s → full_round (inv_full_round s) ≡ s
full_round-inv_full_round s b =
    let b1 = columns_bytes inv_mix s b in
    let b2 = inv_shift_rows_bytes (columns inv_mix s) b1 in
    ap (λ x. columns mix (shift_rows x)) (sub_bytes-inv_sub_bytes (inv_shift_rows (columns inv_mix s)) b2)
    ∙ ap (columns mix) (shift_rows-inv_shift_rows (columns inv_mix s) b1)
    ∙ columns_undone mix inv_mix mix-inv_mix s b
