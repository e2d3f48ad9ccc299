-- Verdicts one after another, and one turn over the entries.
use Rattle.std.proofs.Common.{◌≡◌, ℕ, zero, suc, ◌+◌, ◌-◌, ◌*◌, ◌<◌, true, List, sym, refl, ap, ◌∙◌, add-one, arith}
use Rattle.std.proofs.lemmas.List.FromFn.{sum_by-map-range_with_len_more}
use Rattle.files.specs.Faults.{Fault, Verdict, sound, refused, is_sound}
use Rattle.files.specs.Layout.{entry_start, entry, number, rows, rows_before}
use Rattle.files.specs.Verdict.{◌and_then◌, least_number, fields_verdict, entry_verdict, entries_verdict}

pub sound_from : (v : Verdict) → is_sound v ≡ true → v ≡ sound
sound_from sound h = refl
sound_from (refused f) h = absurd (grind arith)

pub refused_first : {v : Verdict} {f : Fault} (w : Verdict) → refused f ≡ v → refused f ≡ (v and_then w)
unfolding ◌and_then◌
refused_first w h = ap (λ x. x and_then w) h

pub sound_first : {v : Verdict} (w : Verdict) → sound ≡ v → w ≡ (v and_then w)
unfolding ◌and_then◌
sound_first w h = ap (λ x. x and_then w) h

pub both_sound : (v w : Verdict) → (v and_then w) ≡ sound → (v ≡ sound) × (w ≡ sound)
unfolding ◌and_then◌
both_sound sound w h = (refl, h)
both_sound (refused f) w h = absurd (grind arith)

module _ (bs : List ℕ) where
  -- what a check of an entry's fields says of the entry
  pub fields_of : {v : Verdict} (i at least sum : ℕ) (e : List ℕ) → e ≡ entry bs i → at ≡ entry_start bs i → least ≡ least_number bs i → sum ≡ rows_before bs i → v ≡ fields_verdict i e at least (16 * sum) → v ≡ entry_verdict bs i
  fields_of i at least sum e is p q r h = h ∙ (λ j. fields_verdict i (is j) (p j) (q j) (16 * r j))

  pub rows_more : (i : ℕ) → rows_before bs (i + 1) ≡ rows_before bs i + rows (entry bs i)
  unfolding rows_before
  rows_more i = sum_by-map-range_with_len_more (λ x. x) (λ j. rows (entry bs j)) 0 i i (omega arith)

  pub least_more : (i : ℕ) → least_number bs (i + 1) ≡ number (entry bs i) + 1
  unfolding least_number
  least_more i = ap (least_number bs) (add-one i)

  entries_more : (i : ℕ) → entries_verdict bs (i + 1) ≡ (entries_verdict bs i and_then entry_verdict bs i)
  unfolding entries_verdict
  entries_more i = ap (entries_verdict bs) (add-one i)

  -- one entry more is sound
  pub entries_sound : (i : ℕ) → sound ≡ entries_verdict bs i → sound ≡ entry_verdict bs i → sound ≡ entries_verdict bs (i + 1)
  entries_sound i h e = e ∙ sound_first _ h ∙ sym (entries_more i)

  -- one entry is refused, and so are all
  stays_refused : (f : Fault) (i k : ℕ) → refused f ≡ entries_verdict bs (i + 1) → refused f ≡ entries_verdict bs (i + 1 + k)
  stays_refused f i zero h = h ∙ ap (entries_verdict bs) (omega arith)
  stays_refused f i (suc k) h =
      let e : i + 1 + suc k ≡ i + 1 + k + 1 = omega arith in
      rw e (refused_first _ (stays_refused f i k h) ∙ sym (entries_more (i + 1 + k)))

  pub entries_refused : (f : Fault) (n i : ℕ) → i < n → sound ≡ entries_verdict bs i → refused f ≡ entry_verdict bs i → refused f ≡ entries_verdict bs n
  entries_refused f n i lt h e =
      let all : i + 1 + (n - (i + 1)) ≡ n = omega arith in
      let here : refused f ≡ entries_verdict bs (i + 1) = e ∙ sound_first _ h ∙ sym (entries_more i) in
      stays_refused f i (n - (i + 1)) here ∙ ap (entries_verdict bs) all
