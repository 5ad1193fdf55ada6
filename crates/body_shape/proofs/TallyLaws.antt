-- The laws of tallies.
use Rattle.std.proofs.Common.{◌≡◌, ℕ, ◌+◌, ◌*◌, ◌^◌, ◌<◌, ◌≤◌, true, List, ◌++◌, length, take, drop, refl, sym, ap, ◌∙◌, arith}
use Rattle.std.proofs.lemmas.Bool.{and_parts, and_from, eqb-true, eq-eqb, leb-true, le-leb}
use Rattle.std.proofs.lemmas.Nat.{le_bytes_8, from_le_bytes-to_le_bytes_8}
use Rattle.std.proofs.lemmas.List.{length-append, length-drop, length-take-le, take_at, drop_at, drop-drop, take-append-drop}
use Rattle.dep_layout.specs.Judgement.{words_in}
use Rattle.dep_layout.proofs.WordLaws.{AreBelow, drop_below, take_below}
use Rattle.dep_layout.proofs.SpellingLaws.{below_from_All}
use Rattle.body_shape.specs.Fit.{number_of, is_count}
use Rattle.body_shape.specs.Refresh.{words_bytes}
use Rattle.body_shape.specs.Tally.{Counted, number_bytes, tally_body, TallyReadsBack, TallyFits, TallySuits, TallyIsSpelled}
use Rattle.body_shape.proofs.RowLaws.{words_whole, words_spelled, are_words_in, words_count}

-- ---- numbers of eight bytes

length-number : (n : ℕ) → length (number_bytes n) ≡ 8
unfolding number_bytes
length-number n = refl

number_again : (n : ℕ) → n < 2 ^ 64 → number_of (number_bytes n) ≡ n
unfolding number_bytes number_of
number_again n below = from_le_bytes-to_le_bytes_8 n below

eight_again : (bytes : List ℕ) → length bytes ≡ 8 → AreBelow bytes → number_bytes (number_of bytes) ≡ bytes
unfolding number_bytes number_of
eight_again bytes count fits = le_bytes_8 bytes _ count fits refl

number_front : (n : ℕ) (rest : List ℕ) → take 8 (number_bytes n ++ rest) ≡ number_bytes n
number_front n rest = take_at (number_bytes n) rest 8 (length-number n)

number_past : (n : ℕ) (rest : List ℕ) → drop 8 (number_bytes n ++ rest) ≡ rest
number_past n rest = drop_at (number_bytes n) rest 8 (length-number n)

front_bytes : (bytes : List ℕ) → 8 ≤ length bytes → AreBelow bytes → number_bytes (number_of (take 8 bytes))
    ++ drop 8 bytes ≡ bytes
front_bytes bytes room fits =
    ap (λ front. front ++ drop 8 bytes) (eight_again (take 8 bytes) (length-take-le 8 bytes room)
    (take_below 8 bytes fits)) ∙ take-append-drop 8 bytes

-- ---- the parts of what is spelled

record HasNumbers (c : Counted) : Type 0 where
  first : take 8 (tally_body c) ≡ number_bytes c.active
  second : take 8 (drop 8 (tally_body c)) ≡ number_bytes c.edges
  third : take 8 (drop 16 (tally_body c)) ≡ number_bytes c.reads
  behind : drop 24 (tally_body c) ≡ words_bytes c.totals

numbers_of : (c : Counted) → HasNumbers c
numbers_of c =
    let words = words_bytes c.totals in
    let three = number_bytes c.reads ++ words in
    let two = number_bytes c.edges ++ three in
    let one = number_past c.active two in
    let both : drop 16 (tally_body c) ≡ number_bytes c.reads ++ words_bytes c.totals =
    sym (drop-drop 8 8 (tally_body c)) ∙ ap (drop 8) one ∙ number_past c.edges three in
    record {
      first = number_front c.active two;
      second = ap (take 8) one ∙ number_front c.edges three;
      third = ap (take 8) both ∙ number_front c.reads words;
      behind = sym (drop-drop 8 16 (tally_body c)) ∙ ap (drop 8) both ∙ number_past c.reads words;
    }

-- ---- the laws

pub tally_back : TallyReadsBack
tally_back totals c is =
    let parts = numbers_of c in
    let active = ap number_of parts.first ∙ number_again c.active is.active in
    let edges = ap number_of parts.second ∙ number_again c.edges is.edges in
    let reads = ap number_of parts.third ∙ number_again c.reads is.reads in
    let words = ap (words_in totals) parts.behind ∙ words_whole totals c.totals is.totals in
    λ i. record { active = active i; edges = edges i; reads = reads i; totals = words i }

counts : (n : ℕ) (bytes : List ℕ) → take 8 bytes ≡ number_bytes n → n < 1 + 2 ^ 32 → is_count bytes ≡ true
counts n bytes front below =
    let same : number_of (take 8 bytes) ≡ n = ap number_of front ∙ number_again n (omega arith) in
    le-leb _ _ (omega (arith, same))

pub tally_fits : TallyFits
tally_fits totals c is =
    let parts = numbers_of c in
    let words = words_bytes c.totals in
    let long : length (tally_body c) ≡ 24 + 8 * totals =
    omega (
      arith,
      length-append (number_bytes c.active) (number_bytes c.edges ++ (number_bytes c.reads ++ words_bytes c.totals)),
      length-append (number_bytes c.edges) (number_bytes c.reads ++ words_bytes c.totals),
      length-append (number_bytes c.reads) (words_bytes c.totals),
      length-number c.active,
      length-number c.edges,
      length-number c.reads,
      words_count totals c.totals is.totals,
    ) in
    and_from _ _ (eq-eqb _ _ long)
    (and_from _ _ (counts c.active (tally_body c) parts.first is.active)
    (and_from _ _ (counts c.edges (drop 8 (tally_body c)) parts.second is.edges)
    (counts c.reads (drop 16 (tally_body c)) parts.third is.reads)))

counted : (bytes : List ℕ) → is_count bytes ≡ true → number_of (take 8 bytes) < 1 + 2 ^ 32
counted bytes e = let most : number_of (take 8 bytes) ≤ 2 ^ 32 = leb-true _ _ e in omega (arith, most)

pub tally_suits : TallySuits
tally_suits totals body fit =
    let one = and_parts _ _ fit in
    let two = and_parts _ _ one.1 in
    let three = and_parts _ _ two.1 in
    record {
      active = counted body two.0;
      edges = counted (drop 8 body) three.0;
      reads = counted (drop 16 body) three.1;
      totals = are_words_in totals (drop 24 body);
    }

pub tally_spelled : TallyIsSpelled
tally_spelled totals body bytes fit =
    let one = and_parts _ _ fit in
    let long : length body ≡ 24 + 8 * totals = eqb-true _ _ one.0 in
    let fits = below_from_All body bytes in
    let past8 = length-drop 8 body in
    let past16 = length-drop 16 body in
    let past24 = length-drop 24 body in
    let a = number_bytes (number_of (take 8 body)) in
    let b = number_bytes (number_of (take 8 (drop 8 body))) in
    let c = number_bytes (number_of (take 8 (drop 16 body))) in
    ap (λ end. a ++ (b ++ (c ++ end))) (words_spelled totals (drop 24 body) (omega (arith, long, past24))
    (drop_below 24 body fits))
    ∙ ap (λ end. a ++ (b ++ (c ++ end))) (sym (drop-drop 8 16 body))
    ∙ ap (λ end. a ++ (b ++ end)) (front_bytes (drop 16 body) (omega (arith, long, past16)) (drop_below 16 body fits))
    ∙ ap (λ end. a ++ (b ++ end)) (sym (drop-drop 8 8 body))
    ∙ ap (λ end. a ++ end) (front_bytes (drop 8 body) (omega (arith, long, past8)) (drop_below 8 body fits))
    ∙ front_bytes body (omega (arith, long)) fits
