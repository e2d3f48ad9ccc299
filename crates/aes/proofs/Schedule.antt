-- The round keys of a key, and the loop that makes them.
-- Assumes nothing.
use Rattle.std.proofs.Common.{◌≡◌, ℕ, zero, suc, ◌+◌, ◌<◌, ◌≤◌, List, [], ◌∷◌, map, length, get_or, set, sym, refl, ap, ◌∙◌, subst, ⊎_elim, add-one, arith}
use Rattle.std.specs.Int.Bits.{bit_xor, xor_assoc, xor_lt}
use Rattle.std.proofs.lemmas.List.{length-set, length-map, map-set, get_or-map, get_or-set_same, get_or-set_other}
use Rattle.std.proofs.lemmas.Bool.{cases_eq}
use Rattle.std.proofs.lemmas.List.FromFn.{fill_by_all}
use Rattle.aes.specs.Field.{doubled, s_box}
use Rattle.aes.specs.Block.{Bytes, at, listed, xored, quarter, joined, four}
use Rattle.aes.specs.Keys.{round_constants, Doubling, key_byte, next_key, round_key, schedule, row, Scheduled}
use Rattle.aes.proofs.AllBytes.{s_box_byte}
use Rattle.aes.proofs.Table.{entry, every, all_small, listed_bytes}

-- the round key after k, column by column: s has S of the bytes of the last one
pub next_key_made : (k : List ℕ) (n : ℕ) (s a b c d r : List ℕ) → s ≡ listed 4 (λ i. s_box (at (quarter k 3) i))
    → a ≡ xored 4 (quarter k 0) (bit_xor (at s 1) n ∷ at s 2 ∷ at s 3 ∷ at s 0 ∷ []) → b ≡ xored 4 (quarter k 1) a
    → c ≡ xored 4 (quarter k 2) b → d ≡ xored 4 (quarter k 3) c → r ≡ joined (four a b c d) → r ≡ next_key k n
unfolding xored next_key key_byte
next_key_made k n s a b c d r es ea eb ec ed er =
    simp (er, ed, ec, eb, ea, es, xor_assoc (at k 0) (s_box (at k 13)) n)

-- the round keys up to i are made
abbrev pub Keyed : List ℕ → List (List ℕ) → ℕ → Type 0
Keyed key rows i = (length rows ≡ 17) × ((k : ℕ) → k ≤ i → row rows k ≡ round_key key k)

module _ (key : List ℕ) (rows : List (List ℕ)) (i : ℕ) (w : Keyed key rows i) where
  keyed_more : i < 16 → (new : List ℕ) → new ≡ next_key (row rows i) (at round_constants i) → Keyed key (set rows (i + 1) new) (i + 1)
  unfolding round_key
  keyed_more h new e =
      let l : i + 1 < length rows = rw w.0 (omega arith) in
      let made : new ≡ round_key key (suc i) = e ∙ ap (λ k. next_key k (at round_constants i)) (w.1 i (omega arith)) in (
        length-set rows (i + 1) new ∙ w.0,
        λ k le.
            ⊎_elim
            (λ (eq : k ≡ i + 1). ap (row (set rows (i + 1) new)) eq ∙ get_or-set_same rows (i + 1) new [] l ∙ made ∙ ap (round_key key) (sym (eq ∙ add-one i)))
            (λ ne. get_or-set_other rows (i + 1) k new [] ne ∙ w.1 k (omega arith))
            (cases_eq k (i + 1)),
      )

  pub keyed_all : 16 ≤ i → rows ≡ schedule key
  unfolding schedule
  keyed_all h = fill_by_all (round_key key) rows 17 [] w.0 (λ k l. w.1 k (omega arith))

pub keyed_none : (rows : List (List ℕ)) → length rows ≡ 17 → Keyed (row rows 0) rows 0
unfolding round_key
keyed_none rows e =
    (e, λ k le. let z : k ≡ 0 = omega arith in ap (row rows) z ∙ sym (ap (round_key (row rows 0)) z))

-- the same step where the rows are the parts f of a list's elements
pub keyed_step : {X : Type 0} (f : X → List ℕ) (key : List ℕ) (xs : List X) (i : ℕ) (d new : X) → Keyed key (map f xs) i → i < 16
    → f new ≡ next_key (f (get_or xs i d)) (at round_constants i) → Keyed key (map f (set xs (i + 1) new)) (i + 1)
keyed_step f key xs i d new w h e =
    let n : length xs ≡ 17 = sym (length-map xs f) ∙ w.0 in
    let l : i < length xs = rw n (omega arith) in
    rw (map-set f xs (i + 1) new)
    (keyed_more key (map f xs) i w h (f new) (e ∙ ap (λ k. next_key k (at round_constants i)) (sym (get_or-map f xs i d [] l))))

-- the schedule of a key is that of its first row
pub scheduled : (key : List ℕ) (rows : List (List ℕ)) → Bytes 16 key → rows ≡ schedule key → Scheduled rows
unfolding schedule round_key
scheduled key rows b e =
    let first : key ≡ row rows 0 = sym (ap (λ r. row r 0) e) in
    (subst (Bytes 16) first b, e ∙ ap schedule first)

-- the first is 1 and each other one the double of the one before, by one test over the table
pub doubling : Doubling round_constants
unfolding doubled
doubling = record { first = refl; doubles = every 15 (λ i. at round_constants (i + 1)) (λ i. doubled (at round_constants i)) refl }

-- ---- round keys are bytes

key_byte_byte : (k : List ℕ) → ((j : ℕ) → at k j < 256) → (c : ℕ) → c < 256 → (j : ℕ) → key_byte k c j < 256
unfolding key_byte
key_byte_byte k b c h zero =
    xor_lt 8 (bit_xor (at k 0) (s_box (at k 13))) c (xor_lt 8 (at k 0) (s_box (at k 13)) (b 0) (s_box_byte (at k 13) (b 13))) h
key_byte_byte k b c h (suc zero) = xor_lt 8 (at k 1) (s_box (at k 14)) (b 1) (s_box_byte (at k 14) (b 14))
key_byte_byte k b c h (suc (suc zero)) = xor_lt 8 (at k 2) (s_box (at k 15)) (b 2) (s_box_byte (at k 15) (b 15))
key_byte_byte k b c h (suc (suc (suc zero))) = xor_lt 8 (at k 3) (s_box (at k 12)) (b 3) (s_box_byte (at k 12) (b 12))
key_byte_byte k b c h (suc (suc (suc (suc j)))) =
    xor_lt 8 (at k (j + 4)) (key_byte k c j) (b (j + 4)) (key_byte_byte k b c h j)

constant_bytes : Bytes 16 (listed 16 (at round_constants))
constant_bytes = listed_bytes 16 (at round_constants) (all_small 16 (at round_constants) refl)

pub round_key_bytes : (key : List ℕ) → Bytes 16 key → (i : ℕ) → Bytes 16 (round_key key i)
unfolding round_key next_key
round_key_bytes key b zero = b
round_key_bytes key b (suc i) =
    listed_bytes 16 (key_byte (round_key key i) (at round_constants i))
    (λ j h. key_byte_byte (round_key key i) (round_key_bytes key b i).1 (at round_constants i) (constant_bytes.1 i) j)

-- a row of a schedule is the round key of its place
pub scheduled_row : (rows : List (List ℕ)) → Scheduled rows → (i : ℕ) → i < 17 → row rows i ≡ round_key (row rows 0) i
unfolding schedule
scheduled_row rows w i l = ap (λ r. row r i) w.1 ∙ entry (round_key (row rows 0)) 17 i [] l
