-- Stamps: a row that differs shows in the sum, and the loop that adds up the rows.
-- Assumes nothing.
use Rattle.std.proofs.Common.{◌≡◌, ℕ, zero, suc, ◌+◌, ◌<◌, ◌≤◌, List, [], ◌∷◌, length, get_or, drop, set, sym, refl, ap, ◌∙◌, subst, ap₂, le_of_suc-le-suc, not-suc-le-zero, add-zero, add-suc, suc-add, add-one, zero-add, All}
use Rattle.std.specs.Int.Bits.{bit_xor, xor_comm}
use Rattle.std.proofs.lemmas.List.{drop_all, drop_more, get_or_default, length-set}
use Rattle.std.proofs.lemmas.List.Elements.{All-get_or, All-head, All-tail}
use Rattle.aes.specs.Block.{at, xored}
use Rattle.aes.proofs.Blocks.{xored_bytes, xored_twice}
use Rattle.aes.proofs.Table.{same_table}
use Rattle.interfaces.specs.Maps.{Lawful, Maps}
use Rattle.interfaces.specs.declared.sides.Side.TheVariants.{Left, Right}
use Rattle.strips.specs.declared.place.Place.{Place}
use Rattle.ledgers.specs.Rows.{Piles, IsBlock, row_tweak, header_tweak, each_row, plain}
use Rattle.ledgers.specs.Stamps.{header, mixed, right_of, head_of, stamp}
use Rattle.ledgers.proofs.Cells.{get_or-each_row, length-each_row}
use Rattle.ledgers.proofs.Places.{tweak_bytes, header_block}

-- ---- XOR
xored_comm : (a b : List ℕ) → xored 16 a b ≡ xored 16 b a
unfolding xored
xored_comm a b = same_table 16 (λ j. bit_xor (at a j) (at b j)) (λ j. bit_xor (at b j) (at a j)) (λ j h. xor_comm (at a j) (at b j))

xored_long : (a b : List ℕ) → length (xored 16 a b) ≡ 16
unfolding xored
xored_long a b = refl

cancel : (a b c : List ℕ) → IsBlock a → IsBlock b → xored 16 a c ≡ xored 16 b c → a ≡ b
cancel a b c ha hb e = sym (xored_twice 16 a c ha) ∙ ap (λ w. xored 16 w c) e ∙ xored_twice 16 b c hb

cancel_left : (a b c : List ℕ) → IsBlock a → IsBlock b → xored 16 c a ≡ xored 16 c b → a ≡ b
cancel_left a b c ha hb e = cancel a b c ha hb (xored_comm a c ∙ e ∙ xored_comm c b)

mixed_more : (f : ℕ → List ℕ → List ℕ) (sum sum' b x : List ℕ) (i : ℕ) (rows : List (List ℕ)) → i < length rows → b ≡ get_or rows i [] → x ≡ f i b → sum' ≡ xored 16 sum x
    → mixed f sum' (i + 1) (drop (i + 1) rows) ≡ mixed f sum i (drop i rows)
mixed_more f sum sum' b x i rows lt eb ex es =
    ap₂ (λ s k. mixed f s k (drop (i + 1) rows)) (es ∙ ap (xored 16 sum) (ex ∙ ap (f i) eb)) (add-one i) ∙ sym (ap (mixed f sum i) (drop_more rows i [] lt))

-- ---- a loop that XORs the right image of one row after the other: the first i of the stored rows cs are in the sum
pub record Mixing (piles : Piles) (p : Place) (cs : List (List ℕ)) (i : ℕ) (sum : List ℕ) : Type 0 where
  pub long : length sum ≡ 16
  pub rest : mixed (right_of (piles p.pile) p.number) sum i (drop i (each_row (plain piles p) 0 cs)) ≡ stamp piles p (each_row (plain piles p) 0 cs)

module _ (piles : Piles) (p : Place) (cs : List (List ℕ)) where
  abbrev rows : List (List ℕ)
  rows = each_row (plain piles p) 0 cs

  long : length rows ≡ length cs
  long = length-each_row (plain piles p) 0 cs

  pub mixing_none : (n : ℕ) (sum : List ℕ) → length cs ≡ n → length sum ≡ 16 → sum ≡ head_of (piles p.pile) p.number n → Mixing piles p cs 0 sum
  mixing_none n sum count size e = record {
    long = size;
    rest = ap (λ x. mixed (right_of (piles p.pile) p.number) x 0 rows) (e ∙ ap (head_of (piles p.pile) p.number) (sym (long ∙ count)));
  }

  pub mixing_more : (i : ℕ) (sum sum' b : List ℕ) → Mixing piles p cs i sum → i < length cs → b ≡ get_or cs i b
      → sum' ≡ xored 16 sum (right_of (piles p.pile) p.number i (plain piles p i b)) → Mixing piles p cs (i + 1) sum'
  mixing_more i sum sum' b m lt is es =
      let at_i : plain piles p i b ≡ get_or rows i []
      = ap (plain piles p i) (is ∙ get_or_default cs i b [] lt) ∙ sym (get_or-each_row (plain piles p) 0 cs i [] lt ∙ ap (λ j. plain piles p j (get_or cs i [])) (zero-add i)) in
      record {
        long = ap length es ∙ xored_long sum _;
        rest = mixed_more (right_of (piles p.pile) p.number) sum sum' (plain piles p i b) _ i rows (subst (λ k. i < k) (sym long) lt) at_i refl es ∙ m.rest;
      }

  pub mixing_all : (i : ℕ) (sum : List ℕ) → Mixing piles p cs i sum → length cs ≤ i → sum ≡ stamp piles p rows
  mixing_all i sum m le =
      sym (ap (mixed (right_of (piles p.pile) p.number) sum i) (drop_all i rows (subst (λ k. k ≤ i) (sym long) le))) ∙ m.rest

-- ---- sums in which one row differs
module _ (f : ℕ → List ℕ → List ℕ) (block : (k : ℕ) (b : List ℕ) → IsBlock b → IsBlock (f k b)) where
  added : (sum : List ℕ) (k : ℕ) (b : List ℕ) → IsBlock sum → IsBlock b → IsBlock (xored 16 sum (f k b))
  added sum k b hs hb = xored_bytes 16 sum (f k b) hs.1 (block k b hb).1

  mixed_cancel : (xs ys : List ℕ) (k : ℕ) (bs : List (List ℕ)) → IsBlock xs → IsBlock ys → All IsBlock bs → mixed f xs k bs ≡ mixed f ys k bs → xs ≡ ys
  mixed_cancel xs ys k [] hx hy h e = e
  mixed_cancel xs ys k (b ∷ bs) hx hy h e =
      let hb = All-head IsBlock b bs h in
      cancel xs ys (f k b) hx hy
      (mixed_cancel (xored 16 xs (f k b)) (xored 16 ys (f k b)) (suc k) bs (added xs k b hx hb) (added ys k b hy hb) (All-tail IsBlock b bs h) e)

  -- where one row is another, that row's part is the same
  mixed_one : (sum : List ℕ) (k : ℕ) (bs : List (List ℕ)) (i : ℕ) (c : List ℕ) → IsBlock sum → All IsBlock bs → IsBlock c → i < length bs
      → mixed f sum k bs ≡ mixed f sum k (set bs i c) → f (k + i) (get_or bs i []) ≡ f (k + i) c
  mixed_one sum k [] i c hs h hc lt e = absurd (not-suc-le-zero lt)
  mixed_one sum k (b ∷ bs) zero c hs h hc lt e =
      let hb = All-head IsBlock b bs h in
      let same = mixed_cancel (xored 16 sum (f k b)) (xored 16 sum (f k c)) (suc k) bs (added sum k b hs hb) (added sum k c hs hc) (All-tail IsBlock b bs h) e in
      ap (λ j. f j b) (add-zero k) ∙ cancel_left (f k b) (f k c) sum (block k b hb) (block k c hc) same ∙ ap (λ j. f j c) (sym (add-zero k))
  mixed_one sum k (b ∷ bs) (suc i) c hs h hc lt e =
      let on = add-suc k i ∙ sym (suc-add k i) in
      ap (λ j. f j (get_or bs i [])) on
      ∙ mixed_one (xored 16 sum (f k b)) (suc k) bs i c (added sum k b hs (All-head IsBlock b bs h)) (All-tail IsBlock b bs h) hc (le_of_suc-le-suc lt) e
      ∙ ap (λ j. f j c) (sym on)

module _ (m : Maps) (ok : Lawful m) (number : ℕ) where
  right_block : (k : ℕ) (b : List ℕ) → IsBlock b → IsBlock (right_of m number k b)
  right_block k b h = (ok Right).image_block (row_tweak number k) b (tweak_bytes 0 number k) h

  right_tells : (k : ℕ) (b c : List ℕ) → IsBlock b → IsBlock c → right_of m number k b ≡ right_of m number k c → b ≡ c
  right_tells k b c hb hc e =
      let t = tweak_bytes 0 number k in
      sym ((ok Right).origin_image (row_tweak number k) b t hb) ∙ ap (m.origin Right (row_tweak number k)) e ∙ (ok Right).origin_image (row_tweak number k) c t hc

  head_block : (n : ℕ) → IsBlock (head_of m number n)
  head_block n = (ok Left).image_block (header_tweak number) (header n) (tweak_bytes 1 number 0) (header_block n)

  abbrev pub stamp_by : List (List ℕ) → List ℕ
  stamp_by rows = mixed (right_of m number) (head_of m number (length rows)) 0 rows

  pub stamp_one : (rows : List (List ℕ)) (i : ℕ) (c : List ℕ) → All IsBlock rows → IsBlock c → i < length rows → stamp_by rows ≡ stamp_by (set rows i c) → get_or rows i [] ≡ c
  stamp_one rows i c h hc lt e =
      right_tells (0 + i) (get_or rows i []) c (All-get_or IsBlock rows i [] lt h) hc
      (mixed_one (right_of m number) right_block (head_of m number (length rows)) 0 rows i c (head_block (length rows)) h hc lt
      (e ∙ ap (λ n. mixed (right_of m number) (head_of m number n) 0 (set rows i c)) (length-set rows i c)))
