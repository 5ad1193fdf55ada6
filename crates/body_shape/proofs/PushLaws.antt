-- The laws of pushes.
use Rattle.std.proofs.Common.{◌≡◌, ℕ, ◌*◌, ◌<◌, ◌≤◌, leb, ℤ, Bool, true, false, not, ◌&&◌, count_by, Option, List, ◌++◌, length, take, drop, replicate, refl, sym, ap, subst, ◌∙◌, arith}
use Rattle.std.specs.List.{AllByRecursion, list_all, list_any}
use Rattle.std.proofs.lemmas.Bool.{and_parts, and_from, eqb-true, eq-eqb, leb-true, le-leb}
use Rattle.std.proofs.lemmas.List.{length-append, length-map, length-take-le, take_at, drop_at, take-append-drop}
use Rattle.std.proofs.lemmas.List.Elements.{All-take}
use Rattle.dep_layout.specs.Spelling.{are_typed}
use Rattle.dep_layout.specs.Judgement.{is_set, rows_in}
use Rattle.dep_layout.proofs.WordLaws.{drop_below}
use Rattle.dep_layout.proofs.SpellingLaws.{below_from_All}
use Rattle.body_shape.specs.Fit.{bits_in, bit_len, are_rows}
use Rattle.body_shape.specs.Places.{there, places, set_count, placed}
use Rattle.body_shape.specs.Refresh.{IsWords, rows_bytes}
use Rattle.body_shape.specs.Push.{bytes_with, bit_bytes, push_body, flags_in, padded, senders, sends_read, PushReadsBack, PushFits, PushSuits, PushIsSpelled}
use Rattle.body_shape.proofs.PlaceLaws.{placed-there, length-there, there-placed, places-placed, length-placed}
use Rattle.body_shape.proofs.FlagLaws.{behind_flags, count_flags, has_set, length-padded, padded_front, none_set, length-bytes_with, flags_again, bytes_again}
use Rattle.body_shape.proofs.RowLaws.{rows_whole, length-rows_bytes, bytes_whole, length-rows_in, each-rows_in}

-- ---- the parts of what is spelled

record HasParts (count : ℕ) (sends : List (Option (List ℤ))) : Type 0 where
  long : bit_len count ≤ length (push_body sends)
  front : take (bit_len count) (push_body sends) ≡ bit_bytes (places sends)
  behind : drop (bit_len count) (push_body sends) ≡ rows_bytes (there sends)
  flags : padded count (flags_in (bit_bytes (places sends))) ≡ places sends
  none : has_set (drop count (flags_in (bit_bytes (places sends)))) ≡ false

parts_of : (count : ℕ) (sends : List (Option (List ℤ))) → length sends ≡ count → HasParts count sends
parts_of count sends many =
    let flags = places sends in
    let marks = bit_bytes flags in
    let rows = rows_bytes (there sends) in
    let size : length (places sends) ≡ count = length-map sends _ ∙ many in
    let bytes : length (bit_bytes (places sends)) ≡ bit_len count = length-bytes_with (bit_len (length flags)) flags
    ∙ ap bit_len size in
    let room : length (places sends) ≤ 8 * bit_len (length (places sends)) = omega arith in
    let again = flags_again (bit_len (length flags)) flags room in
    record {
      long = omega (arith, bytes, length-append (bit_bytes (places sends)) (rows_bytes (there sends)));
      front = take_at marks rows (bit_len count) bytes;
      behind = drop_at marks rows (bit_len count) bytes;
      flags = ap (padded count) again.1 ∙ ap (λ n. padded n (flags ++ replicate again.0 false)) (sym size)
          ∙ padded_front flags (replicate again.0 false);
      none = ap (λ fs. has_set (drop count fs)) again.1
          ∙ ap has_set (drop_at flags (replicate again.0 false) count size)
          ∙ none_set again.0;
    }

senders_are : (count : ℕ) (sends : List (Option (List ℤ))) → HasParts count sends →
    senders count (push_body sends) ≡ places sends
senders_are count sends parts = ap (λ marks. padded count (flags_in marks)) parts.front ∙ parts.flags

pub push_back : PushReadsBack
push_back count words sends many each =
    let parts = parts_of count sends many in
    let body = push_body sends in
    ap (λ flags. placed flags (rows_in words (set_count flags) (drop (bit_len count) body)))
    (senders_are count sends parts)
    ∙ ap (λ bytes. placed (places sends) (rows_in words (set_count (places sends)) bytes)) parts.behind
    ∙ ap (placed (places sends)) (rows_whole words (set_count (places sends)) (there sends) (length-there sends) each)
    ∙ placed-there sends

pub push_fits : PushFits
push_fits count words bools sends suit =
    let parts = parts_of count sends suit.count in
    let marks = bit_bytes (places sends) in
    let rows = rows_bytes (there sends) in
    let none : list_any is_set (drop count (bits_in (bit_bytes (places sends)))) ≡ false = behind_flags count marks
    ∙ parts.none in
    let many : count_by is_set (take count (bits_in (bit_bytes (places sends)))) ≡ set_count (places sends) =
    count_flags count marks ∙ ap set_count parts.flags in
    let long : length (rows_bytes (there sends)) ≡ 8 * words * set_count (places sends) =
    length-rows_bytes words (there sends) suit.each ∙ ap (λ n. 8 * words * n) (length-there sends) in
    let fit : are_rows (set_count (places sends)) words bools (rows_bytes (there sends)) ≡ true =
    and_from _ _ (eq-eqb _ _ long)
    (ap (list_all (are_typed bools)) (rows_whole words (set_count (places sends)) (there sends) (length-there sends)
    suit.each) ∙ suit.typed) in
    let judged : (not (list_any is_set (drop count (bits_in (bit_bytes (places sends)))))
    && are_rows (count_by is_set (take count (bits_in (bit_bytes (places sends))))) words bools
    (rows_bytes (there sends))) ≡ true =
    and_from _ _ (ap not none) (ap (λ n. are_rows n words bools rows) many ∙ fit) in
    and_from _ _ (le-leb _ _ parts.long)
    (ap (λ m. not (list_any is_set (drop count (bits_in m)))
    && are_rows (count_by is_set (take count (bits_in m))) words bools (drop (bit_len count) (push_body sends)))
    parts.front
    ∙ ap (λ r. not (list_any is_set (drop count (bits_in marks)))
    && are_rows (count_by is_set (take count (bits_in marks))) words bools r) parts.behind
    ∙ judged)

-- ---- the parts of a body that fits

record IsParted (count words bools : ℕ) (body : List ℕ) : Type 0 where
  long : bit_len count ≤ length body
  none : has_set (drop count (flags_in (take (bit_len count) body))) ≡ false
  size : length (drop (bit_len count) body) ≡ 8 * words * set_count (senders count body)
  typed : list_all (are_typed bools) (rows_in words (set_count (senders count body)) (drop (bit_len count) body)) ≡ true
  rows : there (sends_read words count body)
      ≡ rows_in words (set_count (senders count body)) (drop (bit_len count) body)
  flags : places (sends_read words count body) ≡ senders count body

parted : (count words bools : ℕ) (body : List ℕ) →
    (leb (bit_len count) (length body) && (not (list_any is_set (drop count (bits_in (take (bit_len count) body))))
    && are_rows (count_by is_set (take count (bits_in (take (bit_len count) body)))) words bools
    (drop (bit_len count) body))) ≡ true →
    IsParted count words bools body
parted count words bools body fit =
    let marks = take (bit_len count) body in
    let bytes = drop (bit_len count) body in
    let whole = and_parts _ _ fit in
    let two = and_parts _ _ whole.1 in
    let P : ℕ → Type 0 = λ n. are_rows n words bools (drop (bit_len count) body) ≡ true in
    let rows = and_parts _ _ (subst P (count_flags count marks) two.1) in
    let many = length-rows_in words (set_count (senders count body)) bytes in
    record {
      long = leb-true _ _ whole.0;
      none = sym (behind_flags count marks) ∙ not_true _ two.0;
      size = eqb-true _ _ rows.0;
      typed = rows.1;
      rows = there-placed (senders count body) _ many;
      flags = places-placed (senders count body) _ many;
    }
  where
    not_true : (b : Bool) → not b ≡ true → b ≡ false
    not_true false e = refl
    not_true true e = absurd (cc)

pub push_suits : PushSuits
push_suits count words bools body fit =
    let parts = parted count words bools body fit in
    let bytes = drop (bit_len count) body in
    let rows = rows_in words (set_count (senders count body)) bytes in
    let Q : List (List ℤ) → Type 0 = λ rs. AllByRecursion (IsWords words) rs in
    record {
      count = length-placed (senders count body) rows ∙ length-padded count (flags_in (take (bit_len count) body));
      each = subst Q (sym parts.rows) (each-rows_in words (set_count (senders count body)) bytes);
      typed = ap (list_all (are_typed bools)) parts.rows ∙ parts.typed;
    }

pub push_spelled : PushIsSpelled
push_spelled count words bools body fits fit =
    let parts = parted count words bools body fit in
    let marks = take (bit_len count) body in
    let bytes = drop (bit_len count) body in
    let rows = rows_in words (set_count (senders count body)) bytes in
    let flags = senders count body in
    let long : length (take (bit_len count) body) ≡ bit_len count = length-take-le (bit_len count) body parts.long in
    let room : count ≤ 8 * length (take (bit_len count) body) = omega (arith, long) in
    let size : bit_len (length (senders count body)) ≡ length (take (bit_len count) body) =
    ap bit_len (length-padded count (flags_in (take (bit_len count) body))) ∙ sym long in
    ap (λ fs. bit_bytes fs ++ rows_bytes (there (sends_read words count body))) parts.flags
    ∙ ap (λ rs. bit_bytes flags ++ rows_bytes rs) parts.rows
    ∙ ap (λ n. bytes_with n flags ++ rows_bytes rows) size
    ∙ ap (λ front. front ++ rows_bytes rows)
    (bytes_again count marks (All-take (λ b. b < 256) (bit_len count) body fits) room parts.none)
    ∙ ap (λ end. marks ++ end) (bytes_whole words (set_count flags) bytes parts.size
    (drop_below (bit_len count) body (below_from_All body fits)))
    ∙ take-append-drop (bit_len count) body
