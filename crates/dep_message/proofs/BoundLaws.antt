-- How long a body that fits a shape is at most.
use Rattle.std.proofs.Common.{◌≡◌, ℕ, zero, suc, ◌+◌, ◌*◌, ◌<◌, ◌≤◌, min, Bool, true, ◌&&◌, leb, eqb, count_by, Some, None, List, [], ◌∷◌, length, take, drop, ap, subst, arith}
use Rattle.std.specs.Int.RustNames.{count_ones}
use Rattle.std.proofs.lemmas.Bool.{and_parts, ltb-true, ltb-false, leb-true, eqb-true}
use Rattle.std.proofs.lemmas.List.{length-drop, length-take}
use Rattle.std.proofs.lemmas.List.Elements.{All-head, All-tail, All-drop}
use Rattle.std.proofs.lemmas.List.Sums.{count_by-le-length}
use Rattle.std.proofs.lemmas.Nat.{mul-le, ones-le}
use Rattle.std.proofs.lemmas.Option.{cond_some}
use Rattle.dep_layout.specs.Judgement.{is_set, mark_len, pairs_in, refusal_of, started}
use Rattle.dep_layout.proofs.SpellingLaws.{sound_parts, passed}
use Rattle.body_shape.specs.declared.shape.BodyShape.TheVariants.{Refresh, Dep, Update, Push, Tally, Verdict}
use Rattle.body_shape.specs.Fit.{are_rows, are_updates, behind_update, bit_len, bits_in, is_mask, is_push, is_ruling, is_tally, is_verdict, words_len}
use Rattle.body_shape.proofs.UpdateLaws.{some_from_test}
use Rattle.dep_message.specs.Laws.{AreBytes, FitIsBounded}
use Rattle.state_laws.proofs.Options.{none_of}

length-rows : (count words bools : ℕ) (bytes : List ℕ) → are_rows count words bools bytes ≡ true →
    length bytes ≡ 8 * words * count
length-rows count words bools bytes fit = eqb-true _ _ (and_parts _ _ fit).0

-- no more are counted among the first of a list than are looked at
count-le : (p : ℕ → Bool) (n : ℕ) (xs : List ℕ) → count_by p (take n xs) ≤ n
count-le p n xs = omega (arith, count_by-le-length p (take n xs), length-take n xs)

-- ---- updates

mask_bits : (place bits : ℕ) → bits < 256 → is_mask place bits ≡ true → count_ones bits ≤ min place 8
mask_bits place bits byte mask = omega (arith, ones-le place bits (ltb-true _ _ mask), ones-le 8 bits byte)

pub record IsBehind (slots reduced : ℕ) (bytes others : List ℕ) : Type 0 where
  pub bound : length bytes ≤ (2 + 8 * min slots 8 + 8 * min reduced 8) + length others
  pub fits : AreBytes others

update-le : (slots reduced : ℕ) (bytes rest : List ℕ) → AreBytes bytes → behind_update slots reduced bytes ≡ Some rest
    → IsBehind slots reduced bytes rest
update-le slots reduced [] rest fits found = absurd (cc)
update-le slots reduced (low ∷ []) rest fits found = absurd (cc)
update-le slots reduced (low ∷ high ∷ bytes) rest fits found =
    let P : ℕ → Type 0 = λ byte. byte < 256 in
    let size = words_len low high in
    let low_byte : low < 256 = All-head P low (high ∷ bytes) fits in
    let others = All-tail P low (high ∷ bytes) fits in
    let high_byte : high < 256 = All-head P high bytes others in
    let test = cond_some (is_mask slots low && (is_mask reduced high && leb size (length bytes))) (drop size bytes)
    rest found in
    let first = and_parts (is_mask slots low) (is_mask reduced high && leb size (length bytes)) test.0 in
    let second = and_parts (is_mask reduced high) (leb size (length bytes)) first.1 in
    let enough : words_len low high ≤ length bytes = leb-true _ _ second.1 in
    record {
      bound = omega (
        arith,
        mask_bits slots low low_byte first.0,
        mask_bits reduced high high_byte second.0,
        enough,
        length-drop size bytes,
        ap length test.1,
      );
      fits = subst (λ (bs : List ℕ). AreBytes bs) test.1 (All-drop P size bytes (All-tail P high bytes others));
    }

updates-le : (slots reduced vertices : ℕ) (bytes : List ℕ) → AreBytes bytes → are_updates slots reduced vertices bytes
    ≡ true → length bytes ≤ (2 + 8 * min slots 8 + 8 * min reduced 8) * vertices
updates-le slots reduced zero bytes fits fit = omega (arith, eqb-true _ _ fit)
updates-le slots reduced (suc vertices) bytes fits fit =
    let found = some_from_test (are_updates slots reduced vertices) _ fit in
    let first = update-le slots reduced bytes found.0 fits found.1 in
    more (2 + 8 * min slots 8 + 8 * min reduced 8) vertices (length bytes) (length found.0) first.bound
    (updates-le slots reduced vertices found.0 first.fits found.2)
  where
    more : (most n all rest : ℕ) → all ≤ most + rest → rest ≤ most * n → all ≤ most * suc n
    more most n all rest one others = omega arith

-- ---- marks

-- marks, and a row for each vertex at most
marked-le : (marks words vertices count : ℕ) (body : List ℕ) → marks ≤ length body →
    length (drop marks body) ≡ 8 * words * count → count ≤ vertices → length body ≤ marks + 8 * words * vertices
marked-le marks words vertices count body enough rows few =
    omega (arith, length-drop marks body, mul-le (8 * words) count (8 * words) vertices (omega arith) few)

push-le : (vertices words bools : ℕ) (body : List ℕ) → is_push vertices words bools body ≡ true →
    length body ≤ bit_len vertices + 8 * words * vertices
push-le vertices words bools body fit =
    let whole = and_parts _ _ fit in
    let parts = and_parts _ _ whole.1 in
    let marks = take (bit_len vertices) body in
    let count = count_by is_set (take vertices (bits_in marks)) in
    marked-le (bit_len vertices) words vertices count body (leb-true _ _ whole.0)
    (length-rows count words bools _ parts.1) (count-le is_set vertices (bits_in marks))

dep-le : (vertices words bools : ℕ) (body : List ℕ) → refusal_of words vertices bools body ≡ None →
    length body ≤ mark_len vertices + 8 * words * vertices
dep-le vertices words bools body accepted =
    let whole = passed _ _ _ accepted in
    let marks = take (mark_len vertices) body in
    let sound = sound_parts words bools vertices marks (drop (mark_len vertices) body) whole.1 in
    marked-le (mark_len vertices) words vertices (started (take vertices (pairs_in marks))) body
    (ltb-false _ _ whole.0) sound.count (count-le is_set vertices (pairs_in marks))

length-tally : (totals : ℕ) (body : List ℕ) → is_tally totals body ≡ true → length body ≡ 24 + 8 * totals
length-tally totals body fit = eqb-true _ _ (and_parts _ _ fit).0

verdict-le : (dense sparse : Bool) (totals : ℕ) (body : List ℕ) → is_verdict dense sparse totals body ≡ true →
    length body ≤ 1 + 8 * totals
verdict-le dense sparse totals [] fit = absurd (cc)
verdict-le dense sparse totals (ruling ∷ words) fit =
    omega (
      arith,
      eqb-true (length words) (8 * totals)
          (and_parts (is_ruling dense sparse ruling) (eqb (length words) (8 * totals)) fit).1,
    )

pub bounded_law : FitIsBounded
bounded_law (Refresh vertices words bools) body fits fit = omega (arith, length-rows vertices words bools body fit)
bounded_law (Dep vertices words bools) body fits fit = dep-le vertices words bools body (none_of _ fit)
bounded_law (Update vertices slots reduced) body fits fit = updates-le slots reduced vertices body fits fit
bounded_law (Push vertices words bools) body fits fit = push-le vertices words bools body fit
bounded_law (Tally totals) body fits fit = omega (arith, length-tally totals body fit)
bounded_law (Verdict dense sparse totals) body fits fit = verdict-le dense sparse totals body fit
