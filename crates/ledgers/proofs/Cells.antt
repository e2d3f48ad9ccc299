-- Rows in bytes: what is put together comes apart again. Assumes nothing.
use Rattle.std.proofs.Common.{◌≡◌, ℕ, zero, suc, ◌+◌, ◌*◌, ◌<◌, ◌≤◌, ◌≢◌, List, [], ◌∷◌, ◌++◌, length, get_or, take, drop, set, sym, refl, ap, ◌∙◌, subst, ap₂, le_of_suc-le-suc, not-suc-le-zero, add-zero, add-suc, suc-add, zero-add, arith, take-add, below_more, All}
use Rattle.std.proofs.lemmas.List.{take_at, drop_at, length-append, drop-drop, length-drop, take-append-drop, nil_from_length, length-take-le, append_assoc, length-set, get_or-set_same, get_or-set_other, ext_get_or}
use Rattle.std.proofs.lemmas.List.Elements.{All-cons, All-head, All-nil, All-set, All-tail}
use Rattle.std.specs.List.{concat}
use Rattle.ledgers.specs.Rows.{each_row, cells}

-- a block's length is all that matters here
abbrev pub Sized : List ℕ → Type 0
Sized b = length b ≡ 16

pub length-concat : (bs : List (List ℕ)) → All Sized bs → length (concat bs) ≡ 16 * length bs
length-concat [] h = refl
length-concat (b ∷ bs) h = omega (arith, length-append b (concat bs), All-head Sized b bs h, length-concat bs (All-tail Sized b bs h))

pub cells-concat : (bs : List (List ℕ)) → All Sized bs → cells (length bs) (concat bs) ≡ bs
cells-concat [] h = refl
cells-concat (b ∷ bs) h =
    let hb = All-head Sized b bs h in
    ap₂ ◌∷◌ (take_at b (concat bs) 16 hb) (ap (cells (length bs)) (drop_at b (concat bs) 16 hb) ∙ cells-concat bs (All-tail Sized b bs h))

pub length-cells : (n : ℕ) (bytes : List ℕ) → length (cells n bytes) ≡ n
length-cells zero bytes = refl
length-cells (suc n) bytes = ap suc (length-cells n (drop 16 bytes))

pub concat-cells : (n : ℕ) (bytes : List ℕ) → length bytes ≡ 16 * n → concat (cells n bytes) ≡ bytes
concat-cells zero bytes e = sym (nil_from_length bytes e)
concat-cells (suc n) bytes e =
    ap (λ rest. take 16 bytes ++ rest) (concat-cells n (drop 16 bytes) (omega (arith, length-drop 16 bytes))) ∙ take-append-drop 16 bytes

pub get_or-cells : (n : ℕ) (bytes : List ℕ) (k : ℕ) → k < n → get_or (cells n bytes) k [] ≡ take 16 (drop (16 * k) bytes)
get_or-cells zero bytes k h = absurd (not-suc-le-zero h)
get_or-cells (suc n) bytes zero h = refl
get_or-cells (suc n) bytes (suc k) h =
    get_or-cells n (drop 16 bytes) k (le_of_suc-le-suc h) ∙ ap (take 16) (drop-drop (16 * k) 16 bytes)
    ∙ ap (λ j. take 16 (drop j bytes)) (more k)
  where
    more : (j : ℕ) → 16 + 16 * j ≡ 16 * suc j
    more j = omega arith

module _ (f : ℕ → List ℕ → List ℕ) where
  pub length-each_row : (k : ℕ) (bs : List (List ℕ)) → length (each_row f k bs) ≡ length bs
  length-each_row k [] = refl
  length-each_row k (b ∷ bs) = ap suc (length-each_row (suc k) bs)

  pub get_or-each_row : (k : ℕ) (bs : List (List ℕ)) (i : ℕ) (d : List ℕ) → i < length bs → get_or (each_row f k bs) i d ≡ f (k + i) (get_or bs i d)
  get_or-each_row k [] i d h = absurd (not-suc-le-zero h)
  get_or-each_row k (b ∷ bs) zero d h = ap (λ j. f j b) (sym (add-zero k))
  get_or-each_row k (b ∷ bs) (suc i) d h = get_or-each_row (suc k) bs i d (le_of_suc-le-suc h) ∙ ap (λ j. f j (get_or bs i d)) (suc-add k i ∙ sym (add-suc k i))

  pub set-each_row : (k : ℕ) (bs : List (List ℕ)) (i : ℕ) (b : List ℕ) → set (each_row f k bs) i (f (k + i) b) ≡ each_row f k (set bs i b)
  set-each_row k [] i b = refl
  set-each_row k (a ∷ bs) zero b = ap (λ j. f j b ∷ each_row f (suc k) bs) (add-zero k)
  set-each_row k (a ∷ bs) (suc i) b =
      ap (λ j. f k a ∷ set (each_row f (suc k) bs) i (f j b)) (add-suc k i ∙ sym (suc-add k i)) ∙ ap (λ cs. f k a ∷ cs) (set-each_row (suc k) bs i b)

  pub all_each_row : (P Q : List ℕ → Type 0) → ((k : ℕ) (b : List ℕ) → P b → Q (f k b)) → (k : ℕ) (bs : List (List ℕ)) → All P bs → All Q (each_row f k bs)
  all_each_row P Q g k [] h = All-nil Q
  all_each_row P Q g k (b ∷ bs) h = All-cons Q _ _ (g k b (All-head P b bs h)) (all_each_row P Q g (suc k) bs (All-tail P b bs h))

-- two functions over the rows, one after the other
pub each_row_twice :
    (f g h : ℕ → List ℕ → List ℕ) (P : List ℕ → Type 0) → ((k : ℕ) (b : List ℕ) → P b → g k (f k b) ≡ h k b)
    → (k : ℕ) (bs : List (List ℕ)) → All P bs → each_row g k (each_row f k bs) ≡ each_row h k bs
each_row_twice f g h P e k [] a = refl
each_row_twice f g h P e k (b ∷ bs) a = ap₂ ◌∷◌ (e k b (All-head P b bs a)) (each_row_twice f g h P e (suc k) bs (All-tail P b bs a))

pub each_row_same : (k : ℕ) (bs : List (List ℕ)) → each_row (λ _ b. b) k bs ≡ bs
each_row_same k [] = refl
each_row_same k (b ∷ bs) = ap (λ cs. b ∷ cs) (each_row_same (suc k) bs)

-- ---- one row put into bytes
length-concat_set : (bs : List (List ℕ)) (i : ℕ) (b : List ℕ) → All Sized bs → i < length bs → length (concat (set bs i b)) + 16 ≡ 16 * length bs + length b
length-concat_set [] i b h lt = absurd (not-suc-le-zero lt)
length-concat_set (a ∷ bs) zero b h lt = omega (arith, length-append b (concat bs), length-concat bs (All-tail Sized a bs h))
length-concat_set (a ∷ bs) (suc i) b h lt = omega (arith, length-append a (concat (set bs i b)), All-head Sized a bs h, length-concat_set bs i b (All-tail Sized a bs h) (le_of_suc-le-suc lt))

pub sized_cells : (n : ℕ) (bytes : List ℕ) → length bytes ≡ 16 * n → All Sized (cells n bytes)
sized_cells zero bytes e = All-nil Sized
sized_cells (suc n) bytes e =
    All-cons Sized _ _ (length-take-le 16 bytes (omega arith)) (sized_cells n (drop 16 bytes) (omega (arith, length-drop 16 bytes)))

abbrev pub put : List ℕ → ℕ → List ℕ → List ℕ
put bytes k b = take (16 * k) bytes ++ (b ++ drop (16 * k + 16) bytes)

pub put_concat : (n : ℕ) (bytes : List ℕ) (k : ℕ) (b : List ℕ) → length bytes ≡ 16 * n → k < n → put bytes k b ≡ concat (set (cells n bytes) k b)
put_concat zero bytes k b e lt = absurd (not-suc-le-zero lt)
put_concat (suc n) bytes zero b e lt = ap (λ rest. b ++ rest) (sym (concat-cells n (drop 16 bytes) (omega (arith, length-drop 16 bytes))))
put_concat (suc n) bytes (suc k) b e lt =
    let front : take (16 * suc k) bytes ≡ take 16 bytes ++ take (16 * k) (drop 16 bytes)
    = ap (λ j. take j bytes) (more k) ∙ take-add 16 (16 * k) bytes in
    let back : drop (16 * suc k + 16) bytes ≡ drop (16 * k + 16) (drop 16 bytes)
    = ap (λ j. drop j bytes) (more_on k) ∙ sym (drop-drop (16 * k + 16) 16 bytes) in
    ap₂ (λ x y. x ++ (b ++ y)) front back
    ∙ append_assoc (take 16 bytes) (take (16 * k) (drop 16 bytes)) (b ++ drop (16 * k + 16) (drop 16 bytes))
    ∙ ap (λ rest. take 16 bytes ++ rest) (put_concat n (drop 16 bytes) k b (omega (arith, length-drop 16 bytes)) (le_of_suc-le-suc lt))
  where
    more : (j : ℕ) → 16 * suc j ≡ 16 + 16 * j
    more j = omega arith

    more_on : (j : ℕ) → 16 * suc j + 16 ≡ 16 + (16 * j + 16)
    more_on j = omega arith

pub put_cells : (n : ℕ) (bytes : List ℕ) (k : ℕ) (b : List ℕ) → length bytes ≡ 16 * n → k < n → Sized b → cells n (put bytes k b) ≡ set (cells n bytes) k b
put_cells n bytes k b e lt hb =
    ap₂ cells (sym (length-set (cells n bytes) k b ∙ length-cells n bytes)) (put_concat n bytes k b e lt)
    ∙ cells-concat (set (cells n bytes) k b) (All-set Sized (cells n bytes) k b hb (sized_cells n bytes e))

pub put_length : (n : ℕ) (bytes : List ℕ) (k : ℕ) (b : List ℕ) → length bytes ≡ 16 * n → k < n → Sized b → length (put bytes k b) ≡ 16 * n
put_length n bytes k b e lt hb =
    ap length (put_concat n bytes k b e lt) ∙ length-concat (set (cells n bytes) k b) (All-set Sized (cells n bytes) k b hb (sized_cells n bytes e))
    ∙ ap (λ j. 16 * j) (length-set (cells n bytes) k b ∙ length-cells n bytes)

-- one row put in, and then another
pub put_twice : (n : ℕ) (bytes once twice : List ℕ) (i j : ℕ) (x y : List ℕ) → length bytes ≡ 16 * n → Sized x
    → once ≡ concat (set (cells n bytes) i x) → twice ≡ concat (set (cells n once) j y) → twice ≡ concat (set (set (cells n bytes) i x) j y)
put_twice n bytes once twice i j x y e hx e1 e2 =
    e2 ∙ ap (λ cs. concat (set cs j y))
    (ap₂ cells (sym (length-set (cells n bytes) i x ∙ length-cells n bytes)) e1 ∙ cells-concat (set (cells n bytes) i x) (All-set Sized (cells n bytes) i x hx (sized_cells n bytes e)))

-- ---- a loop that puts F of each row in its place: the first i are done
pub record Swept (F : ℕ → List ℕ → List ℕ) (n : ℕ) (before now : List ℕ) (i : ℕ) : Type 0 where
  pub size : length now ≡ 16 * n
  pub done : (k : ℕ) → k < i → get_or (cells n now) k [] ≡ F k (get_or (cells n before) k [])
  pub left : (k : ℕ) → i ≤ k → get_or (cells n now) k [] ≡ get_or (cells n before) k []

module _ (F : ℕ → List ℕ → List ℕ) (n : ℕ) (before : List ℕ) where
  swept_put : (now : List ℕ) (i : ℕ) (b : List ℕ) → Swept F n before now i → i < n → Sized b → b ≡ F i (take 16 (drop (16 * i) now)) → Swept F n before (put now i b) (i + 1)
  swept_put now i b s lt hb e =
      let is = put_cells n now i b s.size lt hb in
      let inside : i < length (cells n now) = subst (λ j. i < j) (sym (length-cells n now)) lt in
      record {
        size = put_length n now i b s.size lt hb;
        done = below_more (λ k. get_or (cells n (put now i b)) k [] ≡ F k (get_or (cells n before) k [])) i
            (λ k h. let ne : k ≢ i = omega arith in ap (λ cs. get_or cs k []) is ∙ get_or-set_other (cells n now) i k b [] ne ∙ s.done k h)
            (ap (λ cs. get_or cs i []) is ∙ get_or-set_same (cells n now) i b [] inside ∙ e
            ∙ ap (F i) (sym (get_or-cells n now i lt) ∙ s.left i (omega arith)));
        left = λ k h. let ne : k ≢ i = omega arith in ap (λ cs. get_or cs k []) is ∙ get_or-set_other (cells n now) i k b [] ne ∙ s.left k (omega arith);
      }

  pub swept_more : (now after : List ℕ) (i : ℕ) → Swept F n before now i → i < n → length after ≡ 16 * n → after ≡ concat (set (cells n now) i (F i (get_or (cells n now) i []))) → Swept F n before after (i + 1)
  swept_more now after i s lt long is =
      let b = F i (get_or (cells n now) i []) in
      let inside : i < length (cells n now) = subst (λ j. i < j) (sym (length-cells n now)) lt in
      let sized : Sized b = omega (arith, length-concat_set (cells n now) i b (sized_cells n now s.size) inside, ap length is, length-cells n now) in
      subst (λ m. Swept F n before m (i + 1)) (put_concat n now i b s.size lt ∙ sym is) (swept_put now i b s lt sized (ap (F i) (get_or-cells n now i lt)))

  pub swept_all : (now : List ℕ) → Swept F n before now n → now ≡ concat (each_row F 0 (cells n before))
  swept_all now s =
      sym (concat-cells n now s.size)
      ∙ ap concat (ext_get_or [] (cells n now) (each_row F 0 (cells n before)) (length-cells n now ∙ sym (length-each_row F 0 (cells n before) ∙ length-cells n before))
      (λ k h.
      let lt : k < n = subst (λ j. k < j) (length-cells n now) h in
      s.done k lt
      ∙ sym (get_or-each_row F 0 (cells n before) k [] (subst (λ j. k < j) (sym (length-cells n before)) lt) ∙ ap (λ j. F j (get_or (cells n before) k [])) (zero-add k))))
