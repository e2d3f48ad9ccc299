-- A place's piles under the law. Assumes nothing.
use Rattle.std.proofs.Common.{◌≡◌, ℕ, zero, suc, ◌+◌, ◌*◌, ◌^◌, ◌<◌, List, [], ◌∷◌, ◌++◌, length, get_or, take, drop, replicate, sym, refl, ap, ◌∙◌, subst, zero-add, arith, lit<, All}
use Rattle.std.proofs.lemmas.List.{ext_get_or, get_or-drop, length-drop, length-take-le}
use Rattle.std.proofs.lemmas.List.Elements.{All-cons, All-get_or, All-nil}
use Rattle.std.specs.List.{concat}
use Rattle.aes.specs.Block.{Bytes}
use Rattle.interfaces.specs.Numbers.{big_endian}
use Rattle.interfaces.specs.Maps.{Lawful, Maps}
use Rattle.interfaces.specs.declared.sides.Side.{Side}
use Rattle.strips.specs.declared.place.Pile.TheVariants.{Home, Away}
use Rattle.strips.specs.declared.place.Place.{Place}
use Rattle.strips.specs.declared.place.Station.{Station}
use Rattle.strips.specs.declared.place.Station.TheVariants.{Plain, Left, Right}
use Rattle.ledgers.specs.Rows.{Piles, IsBlock, Small, both, tweak, at_station, stored, plain, each_row, cells, sealed, opened}
use Rattle.ledgers.specs.Stamps.{header}
use Rattle.ledgers.specs.Ledgers.{Ledger}
use Rattle.ledgers.specs.Machine.{State, restored, moved}
use Rattle.ledgers.specs.Laws.{BothLawful, StandsFor, ledger_of}
use Rattle.interfaces.proofs.Numbers.{big_endian_bytes}
use Rattle.ledgers.proofs.Cells.{Sized, length-concat, cells-concat, length-cells, concat-cells, get_or-cells, length-each_row, get_or-each_row, all_each_row, each_row_twice, each_row_same}

pub both_lawful : {h a : Maps} → Lawful h → Lawful a → BothLawful (both h a)
both_lawful h a Home = h
both_lawful h a Away = a

pub tweak_bytes : (u n r : ℕ) → Bytes 8 (tweak u n r)
tweak_bytes u n r = big_endian_bytes 8 (u * 2 ^ 61 + n * 2 ^ 29 + r)

-- ---- blocks
-- zeros are bytes, also behind others
zeros : (n k : ℕ) → get_or (replicate n 0) k 0 < 256
zeros zero k = lit< tt
zeros (suc n) zero = lit< tt
zeros (suc n) (suc k) = zeros n k

pub small_filled : (xs : List ℕ) (n : ℕ) → Small xs → Small (xs ++ replicate n 0)
small_filled [] n h k = zeros n k
small_filled (x ∷ xs) n h zero = h 0
small_filled (x ∷ xs) n h (suc k) = small_filled xs n (λ j. h (suc j)) k

small_drop : (n : ℕ) (xs : List ℕ) → Small xs → Small (drop n xs)
small_drop n xs h k = rw (get_or-drop n xs k 0) (h (n + k))

small_take : (n : ℕ) (xs : List ℕ) → Small xs → Small (take n xs)
small_take zero xs h k = lit< tt
small_take (suc n) [] h k = h k
small_take (suc n) (x ∷ xs) h zero = h 0
small_take (suc n) (x ∷ xs) h (suc k) = small_take n xs (λ j. h (suc j)) k

pub cell_blocks : (n : ℕ) (bytes : List ℕ) → length bytes ≡ 16 * n → Small bytes → All IsBlock (cells n bytes)
cell_blocks zero bytes e h = All-nil IsBlock
cell_blocks (suc n) bytes e h =
    All-cons IsBlock _ _ (length-take-le 16 bytes (omega arith), small_take 16 bytes h)
    (cell_blocks n (drop 16 bytes) (omega (arith, length-drop 16 bytes)) (small_drop 16 bytes h))

pub header_block : (n : ℕ) → IsBlock (header n)
header_block n = (refl, small_filled (big_endian 4 n) 12 (big_endian_bytes 4 n).1)

module _ (m : Maps) (ok : Lawful m) (t b : List ℕ) (ht : Bytes 8 t) (hb : IsBlock b) where
  at_block : (s : Station) → IsBlock (at_station s m.image t b)
  at_block Plain = hb
  at_block Left = (ok Side.Left).image_block t b ht hb
  at_block Right = (ok Side.Right).image_block t b ht hb

  at_plain : (s : Station) → IsBlock (at_station s m.origin t b)
  at_plain Plain = hb
  at_plain Left = (ok Side.Left).origin_block t b ht hb
  at_plain Right = (ok Side.Right).origin_block t b ht hb

  at_back : (s : Station) → at_station s m.origin t (at_station s m.image t b) ≡ b
  at_back Plain = refl
  at_back Left = (ok Side.Left).origin_image t b ht hb
  at_back Right = (ok Side.Right).origin_image t b ht hb

  at_forth : (s : Station) → at_station s m.image t (at_station s m.origin t b) ≡ b
  at_forth Plain = refl
  at_forth Left = (ok Side.Left).image_origin t b ht hb
  at_forth Right = (ok Side.Right).image_origin t b ht hb

module _ (piles : Piles) (ok : BothLawful piles) where
  pub stored_block : (p : Place) (k : ℕ) (b : List ℕ) → IsBlock b → IsBlock (stored piles p k b)
  stored_block p k b hb = at_block (piles p.pile) (ok p.pile) _ b (tweak_bytes 0 p.number k) hb p.station

  pub stored_back : (p : Place) (k : ℕ) (b : List ℕ) → IsBlock b → plain piles p k (stored piles p k b) ≡ b
  stored_back p k b hb = at_back (piles p.pile) (ok p.pile) _ b (tweak_bytes 0 p.number k) hb p.station

  pub stored_sized : (p : Place) (rows : List (List ℕ)) → All IsBlock rows → All Sized (each_row (stored piles p) 0 rows)
  stored_sized p rows h = all_each_row (stored piles p) IsBlock Sized (λ k b hb. (stored_block p k b hb).0) 0 rows h

  pub cells-sealed : (p : Place) (rows : List (List ℕ)) → All IsBlock rows → cells (length rows) (sealed piles p rows) ≡ each_row (stored piles p) 0 rows
  cells-sealed p rows h =
      ap (λ n. cells n (sealed piles p rows)) (sym (length-each_row (stored piles p) 0 rows)) ∙ cells-concat _ (stored_sized p rows h)

  -- the rows come out again
  pub rows_back : (p : Place) (rows : List (List ℕ)) → All IsBlock rows → each_row (plain piles p) 0 (each_row (stored piles p) 0 rows) ≡ rows
  rows_back p rows h = each_row_twice (stored piles p) (plain piles p) (λ _ b. b) IsBlock (stored_back p) 0 rows h ∙ each_row_same 0 rows

  pub opened-sealed : (p : Place) (rows : List (List ℕ)) → All IsBlock rows → opened piles p (length rows) (sealed piles p rows) ≡ rows
  opened-sealed p rows h = ap (each_row (plain piles p) 0) (cells-sealed p rows h) ∙ rows_back p rows h

  pub stands_sealed : (s : State) (l : Ledger) → StandsFor piles s l → s.bytes ≡ sealed piles s.place l.rows
  stands_sealed s l h =
      let f = stored piles s.place in
      sym (concat-cells s.rows s.bytes h.size)
      ∙ ap concat (ext_get_or [] (cells s.rows s.bytes) (each_row f 0 l.rows)
      (length-cells s.rows s.bytes ∙ h.count ∙ sym (length-each_row f 0 l.rows))
      (λ k lt.
      let inside : k < s.rows = subst (λ m. k < m) (length-cells s.rows s.bytes) lt in
      let below : k < length l.rows = subst (λ m. k < m) h.count inside in
      get_or-cells s.rows s.bytes k inside ∙ h.each k inside
      ∙ sym (get_or-each_row f 0 l.rows k [] below ∙ ap (λ j. f j (get_or l.rows k [])) (zero-add k))))

  pub sealed_stands : (l : Ledger) → All IsBlock l.rows → StandsFor piles (record { rows = length l.rows; place = l.place; bytes = sealed piles l.place l.rows }) l
  sealed_stands l h =
      let f = stored piles l.place in
      let rows = l.rows in
      record {
        count = refl;
        same_place = refl;
        size = length-concat _ (stored_sized l.place rows h) ∙ ap (λ n. 16 * n) (length-each_row f 0 rows);
        each = λ k lt.
            sym (get_or-cells (length rows) (sealed piles l.place rows) k lt)
            ∙ ap (λ cs. get_or cs k []) (cells-sealed l.place rows h)
            ∙ get_or-each_row f 0 rows k [] lt
            ∙ ap (λ j. f j (get_or rows k [])) (zero-add k);
        blocks = h;
      }

  -- every block is stored for the place where it is as it is
  pub restored_same : (p : Place) (k : ℕ) (b : List ℕ) → IsBlock b → restored piles p p k b ≡ b
  restored_same p k b hb = at_forth (piles p.pile) (ok p.pile) _ b (tweak_bytes 0 p.number k) hb p.station

  pub moved_same : (p : Place) (n : ℕ) (bytes : List ℕ) → length bytes ≡ 16 * n → Small bytes → concat (moved piles p p (cells n bytes)) ≡ bytes
  moved_same p n bytes e h =
      let cs = cells n bytes in
      ap concat (ap (each_row (restored piles p p) 0) (sym (each_row_same 0 cs))
      ∙ each_row_twice (λ _ b. b) (restored piles p p) (λ _ b. b) IsBlock (restored_same p) 0 cs (cell_blocks n bytes e h)
      ∙ each_row_same 0 cs) ∙ concat-cells n bytes e

  plain_block : (p : Place) (k : ℕ) (b : List ℕ) → IsBlock b → IsBlock (plain piles p k b)
  plain_block p k b hb = at_plain (piles p.pile) (ok p.pile) _ b (tweak_bytes 0 p.number k) hb p.station

  -- every strip whose bytes fit it stands for a ledger
  pub strips_stand : (s : State) → length s.bytes ≡ 16 * s.rows → Small s.bytes → StandsFor piles s (ledger_of piles s)
  strips_stand s e h =
      let p = s.place in
      let cs = cells s.rows s.bytes in
      let blocks = cell_blocks s.rows s.bytes e h in
      record {
        count = sym (length-each_row (plain piles p) 0 cs ∙ length-cells s.rows s.bytes);
        same_place = refl;
        size = e;
        each = λ k lt.
            let inside : k < length cs = subst (λ n. k < n) (sym (length-cells s.rows s.bytes)) lt in
            let shown : get_or (each_row (plain piles p) 0 cs) k [] ≡ plain piles p k (get_or cs k [])
            = get_or-each_row (plain piles p) 0 cs k [] inside ∙ ap (λ j. plain piles p j (get_or cs k [])) (zero-add k) in
            sym (get_or-cells s.rows s.bytes k lt)
            ∙ sym (restored_same p k (get_or cs k []) (All-get_or IsBlock cs k [] inside blocks))
            ∙ ap (stored piles p k) (sym shown);
        blocks = all_each_row (plain piles p) IsBlock IsBlock (plain_block p) 0 cs blocks;
      }
