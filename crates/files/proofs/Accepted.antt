-- A verdict is sound exactly for a strip file.
use Rattle.std.proofs.Common.{◌≡◌, ℕ, zero, suc, ◌+◌, ◌-◌, ◌*◌, ◌<◌, ◌≤◌, true, List, length, slice_index_or, is_ok, None, Ok, Err, Decides, Result, sym, refl, ap, ◌∙◌, subst, ⊎_elim, arith}
use Rattle.std.proofs.lemmas.Bool.{cases_eq}
use Rattle.std.proofs.lemmas.Bool.Decides.{nat_tests}
use Rattle.files.specs.declared.fault.FileFault.{FileFault}
use Rattle.files.specs.declared.record.Record.{Record}
use Rattle.files.specs.declared.fault.FileFault.TheVariants.{Short}
use Rattle.std.proofs.lemmas.List.FromFn.{length-map-range_with_len, get_or-map-range_with_len}
use Rattle.strips.specs.Rows.{most_rows}
use Rattle.std.specs.Result.{result_err, IsOk}
use Rattle.files.specs.Checks.{faulty_field}
use Rattle.files.specs.Faults.{sound, is_sound, answer}
use Rattle.files.specs.Layout.{trailer, entries_start, count, most_entries, entries, entry, number, rows, body_start, rows_before}
use Rattle.files.specs.Records.{first_records, record_of, records}
use Rattle.files.specs.Sound.{EntryFits, IsStripFile}
use Rattle.files.specs.Verdict.{refuse, ◌and_then◌, trailer_verdict, least_number, entry_verdict, entries_verdict, end_verdict, rest_verdict, verdict}
use Rattle.files.proofs.Verdicts.{both_sound, sound_first, sound_from, rows_more}

ok_of : {T E : Type 0} (r : Result T E) → result_err r ≡ None → IsOk r
ok_of (Ok x) h = refl
ok_of (Err e) h = cc

module _ (len : ℕ) (t : List ℕ) (h : trailer_verdict len t ≡ sound) where
  pub trailer_few : count t ≤ most_entries
  trailer_few = grind (arith, nat_tests)

  pub trailer_whole : entries_start t + 32 * count t + 16 ≡ len
  trailer_whole = grind (arith, nat_tests)

module _ (bs : List ℕ) where
  pub short_verdict : length bs < 16 → refuse Short ≡ verdict bs
  unfolding verdict
  short_verdict short = grind (arith, nat_tests)

  pub long_verdict : 16 ≤ length bs → (trailer_verdict (length bs) (trailer bs) and_then rest_verdict bs) ≡ verdict bs
  unfolding verdict
  long_verdict long = grind (arith, nat_tests)

  each_sound : (n : ℕ) → entries_verdict bs n ≡ sound → (i : ℕ) → i < n → entry_verdict bs i ≡ sound
  unfolding entries_verdict
  each_sound zero h i lt = absurd (omega arith)
  each_sound (suc n) h i lt =
      let both = both_sound _ _ h in
      ⊎_elim
      (λ e. subst (λ k. entry_verdict bs k ≡ sound) (sym e) both.1)
      (λ ne. each_sound n both.0 i (omega arith))
      (cases_eq i n)

  fits : (i : ℕ) → entry_verdict bs i ≡ sound → EntryFits bs i
  fits i h = record {
    station_known = grind (arith, nat_tests);
    pile_known = grind (arith, nat_tests);
    rows_few = grind (arith, nat_tests);
    zeros_zero = grind (arith, nat_tests);
    body_follows = grind (arith, nat_tests);
  }

  least : (i : ℕ) → entry_verdict bs i ≡ sound → least_number bs i ≤ number (entry bs i)
  least i h = grind (arith, nat_tests)

  above : (j : ℕ) → ((i : ℕ) → i ≤ j → least_number bs i ≤ number (entry bs i)) → (i : ℕ) → i < j → number (entry bs i) < number (entry bs j)
  unfolding least_number
  above zero h i lt = absurd (omega arith)
  above (suc j) h i lt =
      ⊎_elim
      (λ e. subst (λ k. number (entry bs k) < number (entry bs (suc j))) (sym e) (omega (arith, h (suc j) (omega arith))))
      (λ ne. omega (arith, h (suc j) (omega arith), above j (λ k le. h k (omega arith)) i (omega arith)))
      (cases_eq i j)

  -- what is accepted is a strip file
  pub accepted : verdict bs ≡ sound → IsStripFile bs
  unfolding verdict
  accepted h =
      let long : 16 ≤ length bs = grind (arith, nat_tests) in
      let parts : (trailer_verdict (length bs) (trailer bs) and_then rest_verdict bs) ≡ sound = grind (arith, nat_tests) in
      let t = (both_sound _ _ parts).0 in
      let es = (both_sound _ _ (both_sound _ _ parts).1).0 in
      let end = (both_sound _ _ (both_sound _ _ parts).1).1 in
      let each = each_sound (entries bs) es in
      record {
        has_trailer = long;
        has_mark = grind (arith, nat_tests);
        edition_one = grind (arith, nat_tests);
        entries_few = trailer_few (length bs) (trailer bs) t;
        spare_zero = grind (arith, nat_tests);
        entries_end = trailer_whole (length bs) (trailer bs) t;
        entries_fit = λ i lt. fits i (each i lt);
        numbers_rise = λ i j lt below. above j (λ k le. least k (each k (omega arith))) i lt;
        bodies_end = grind (arith, nat_tests);
        total_is_sum = grind (arith, nat_tests);
      }

  -- and a strip file is accepted
  fits_sound : (i : ℕ) → EntryFits bs i → least_number bs i ≤ number (entry bs i) → entry_verdict bs i ≡ sound
  fits_sound i fit low = grind (arith, nat_tests)

  all_sound : (n : ℕ) → ((i : ℕ) → i < n → entry_verdict bs i ≡ sound) → sound ≡ entries_verdict bs n
  unfolding entries_verdict
  all_sound zero each = refl
  all_sound (suc n) each = sym (each n (omega arith)) ∙ sound_first _ (all_sound n (λ i lt. each i (omega arith)))

  least_below : IsStripFile bs → (i : ℕ) → i < entries bs → least_number bs i ≤ number (entry bs i)
  unfolding least_number
  least_below f zero lt = omega arith
  least_below f (suc i) lt = omega (arith, f.numbers_rise i (suc i) (omega arith) lt)

  sound_trailer : IsStripFile bs → sound ≡ trailer_verdict (length bs) (trailer bs)
  sound_trailer f = grind (arith, nat_tests)

  sound_end : IsStripFile bs → sound ≡ end_verdict (length bs) (trailer bs) (entries bs) (rows_before bs (entries bs))
  sound_end f = grind (arith, nat_tests)

  pub complete : IsStripFile bs → sound ≡ verdict bs
  complete f =
      let each = all_sound (entries bs) (λ i lt. fits_sound i (f.entries_fit i lt) (least_below f i lt)) in
      sound_end f ∙ sound_first _ each ∙ sound_first _ (sound_trailer f) ∙ long_verdict f.has_trailer

  ok_sound : {T : Type 0} (r : Result T FileFault) → Decides (is_ok r) (answer r ≡ sound)
  ok_sound (Ok x) = (λ _. refl, λ _. refl)
  ok_sound (Err e) = (λ h. absurd (grind arith), λ h. absurd (grind arith))

  pub decides : {T : Type 0} (r : Result T FileFault) → answer r ≡ verdict bs → Decides (is_ok r) (IsStripFile bs)
  decides r h = (λ ok. accepted (sym h ∙ (ok_sound r).0 ok), λ f. (ok_sound r).1 (h ∙ sym (complete f)))

  rows_below : (n k : ℕ) → rows_before bs n ≤ rows_before bs (n + k)
  rows_below n zero = let e : n + 0 ≡ n = omega arith in rw e (omega arith)
  rows_below n (suc k) =
      let e : n + suc k ≡ n + k + 1 = omega arith in
      rw e (omega (arith, rows_more bs (n + k), rows_below n k))

  module _ (h : is_sound (verdict bs) ≡ true) where
    pub file_accepted : IsStripFile bs
    file_accepted = accepted (sound_from (verdict bs) h)

    -- an entry that there is reads as a record
    pub entry_sound : (i : ℕ) → i < entries bs → faulty_field (entry bs i) ≡ None
    entry_sound i lt = let fit = file_accepted.entries_fit i lt in grind (arith, nat_tests)

    pub entry_read : (i : ℕ) (e : List ℕ) (r : Result Record ℕ) → i < entries bs → e ≡ entry bs i → result_err r ≡ faulty_field e → IsOk r
    entry_read i e r lt is read = ok_of r (read ∙ ap faulty_field is ∙ entry_sound i lt)

    pub records_few : (i : ℕ) (d : Record) → i < length (records bs) → (slice_index_or (records bs) i d).rows ≤ most_rows
    unfolding first_records
    records_few i d lt =
        let n = length-map-range_with_len (λ k. record_of (entry bs k)) 0 (entries bs) in
        let here = get_or-map-range_with_len (λ k. record_of (entry bs k)) 0 (entries bs) i i d (omega arith) (omega arith) in
        omega (arith, ap (λ r. r.rows) here, (file_accepted.entries_fit i (omega arith)).rows_few)

    -- and its body ends before the entries
    pub body_within : (i : ℕ) (e : List ℕ) → i < entries bs → e ≡ entry bs i → body_start e + 16 * rows e ≤ length bs
    body_within i e lt is =
        let n : i + 1 + (entries bs - (i + 1)) ≡ entries bs = omega arith in
        let below : rows_before bs (i + 1) ≤ rows_before bs (entries bs) = subst (λ m. rows_before bs (i + 1) ≤ rows_before bs m) n (rows_below (i + 1) (entries bs - (i + 1))) in
        omega (arith, ap body_start is, ap rows is, (file_accepted.entries_fit i lt).body_follows, rows_more bs i, file_accepted.bodies_end, file_accepted.entries_end)
