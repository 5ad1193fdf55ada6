-- The bytes of a part are cut into its sections again, and each number is read as it was written.
use Rattle.std.proofs.Common.{◌≡◌, ℕ, ◌+◌, ◌*◌, ◌^◌, ◌<◌, ◌≤◌, ◌∙◌, Some, List, [], ◌∷◌, ◌++◌, length, map, take, drop, refl, sym, ap, subst, arith, append_assoc, length-append, FitsSigned, ℤ}
use Rattle.std.specs.Option.{option_and_then}
use Rattle.std.specs.Int.{w32, cast_signed, cast_unsigned}
use Rattle.std.specs.List.{AllByRecursion, flat_map}
use Rattle.std.proofs.Math.Facts.{Fits-of_z}
use Rattle.std.proofs.Math.Nat.{mul-suc, mul-zero}
use Rattle.std.proofs.lemmas.Bool.{cond-false, le-ltb}
use Rattle.std.proofs.lemmas.Int.{to_z-of_z}
use Rattle.byteorder.specs.Endian.{little_number}
use Rattle.byteorder.specs.Numbers.{little_number-reads_back}
use Rattle.vert_base.specs.declared.graph.Edge.{Edge}
use Rattle.vert_base.specs.HeaderBytes.{four_bytes}
use Rattle.vert_base.specs.Neighbours.{source, target}
use Rattle.edge_reader.specs.EdgePairs.{units_of}
use Rattle.edge_reader.proofs.UnitLaws.{units_next, units_none}
use Rattle.symple_face.specs.declared.degree.Degree.{Degree}
use Rattle.worker_stream.specs.PartFiles.{behind_count, degree_bytes, degree_of_unit, edge_bytes, edge_in, eight_bytes}
use Rattle.worker_stream.specs.Sections.{counted, cut_at}

pub four_read : (n : ℕ) (rest : List ℕ) → n < 2 ^ 32 → little_number 4 (four_bytes n ++ rest) ≡ n
unfolding four_bytes
four_read n rest low = little_number-reads_back 4 n rest low

pub four_again : (n : ℕ) → n < 2 ^ 32 → little_number 4 (four_bytes n) ≡ n
unfolding four_bytes
four_again n low = little_number-reads_back 4 n [] low

pub four_length : (n : ℕ) → length (four_bytes n) ≡ 4
unfolding four_bytes
four_length n = refl

pub eight_read : (n : ℕ) (rest : List ℕ) → n < 2 ^ 64 → little_number 8 (eight_bytes n ++ rest) ≡ n
unfolding eight_bytes
eight_read n rest low = little_number-reads_back 8 n rest low

pub eight_drop : (n : ℕ) (rest : List ℕ) → drop 8 (eight_bytes n ++ rest) ≡ rest
unfolding eight_bytes
eight_drop n rest = refl

pub four_drop : (n : ℕ) (rest : List ℕ) → drop 4 (four_bytes n ++ rest) ≡ rest
unfolding four_bytes
four_drop n rest = refl

front_taken : {X : Type 0} (xs ys : List X) → take (length xs) (xs ++ ys) ≡ xs
front_taken [] ys = refl
front_taken (x ∷ xs) ys = ap (λ q. x ∷ q) (front_taken xs ys)

front_dropped : {X : Type 0} (xs ys : List X) → drop (length xs) (xs ++ ys) ≡ ys
front_dropped [] ys = refl
front_dropped (x ∷ xs) ys = front_dropped xs ys

-- a front of the right length is cut off
pub cut_front : (len : ℕ) (front rest : List ℕ) → length front ≡ len → cut_at len (front ++ rest) ≡ Some (front, rest)
cut_front len front rest is =
    let P : ℕ → Type 0 = λ q. cut_at q (front ++ rest) ≡ Some (front, rest) in
    let count = length-append front rest in
    let long : length front ≤ length (front ++ rest) = omega (arith, count) in
    subst P is
    (cond-false _ _ _ (le-ltb _ _ long)
    ∙ (ap (λ q. Some (q, drop (length front) (front ++ rest))) (front_taken front rest)
    ∙ ap (λ q. Some (front, q)) (front_dropped front rest)))

-- items behind their count are cut off
pub counted_front : (size count : ℕ) (items rest : List ℕ) → count < 2 ^ 32 → length items ≡ size * count →
    counted size (behind_count count items ++ rest) ≡ Some (items, rest)
counted_front size count items rest low is =
    let four = four_bytes count in
    let cut_four : cut_at 4 (behind_count count items ++ rest) ≡ Some (four, items ++ rest) =
    ap (cut_at 4) (append_assoc four items rest) ∙ cut_front 4 four (items ++ rest) (four_length count) in
    ap (option_and_then (λ c. cut_at (size * little_number 4 c.0) c.1)) cut_four
    ∙ (ap (λ q. cut_at (size * q) (items ++ rest)) (four_again count low)
    ∙ cut_front (size * count) items rest is)

-- ---- lists of units
pub units_back : {X : Type 0} (f : List ℕ → X) (g : X → List ℕ) (size : ℕ) (xs : List X) → 0 < size →
    AllByRecursion (λ x. (length (g x) ≡ size) × (f (g x) ≡ x)) xs → map f (units_of size (flat_map g xs)) ≡ xs
units_back f g size [] some all = ap (map f) (units_none size [] some)
units_back f g size (x ∷ xs) some all =
    let front = g x in
    let rest = flat_map g xs in
    let len : length front ≡ size = all.0.0 in
    let count = length-append front rest in
    let long : size ≤ length (front ++ rest) = omega (arith, count) in
    let taken : take size (front ++ rest) ≡ front =
    ap (λ q. take q (front ++ rest)) (sym len) ∙ front_taken front rest in
    let dropped : drop size (front ++ rest) ≡ rest =
    ap (λ q. drop q (front ++ rest)) (sym len) ∙ front_dropped front rest in
    ap (map f)
    (units_next size (front ++ rest) some long
    ∙ (ap (λ q. q ∷ units_of size (drop size (front ++ rest))) taken
    ∙ ap (λ q. front ∷ units_of size q) dropped))
    ∙ (ap (λ q. q ∷ map f (units_of size rest)) all.0.1 ∙ ap (λ q. x ∷ q) (units_back f g size xs some all.1))

pub units_long : {X : Type 0} (g : X → List ℕ) (size : ℕ) (xs : List X) → ((x : X) → length (g x) ≡ size) →
    length (flat_map g xs) ≡ size * length xs
units_long g size [] each = sym (mul-zero size)
units_long g size (x ∷ xs) each =
    length-append (g x) (flat_map g xs)
    ∙ (ap (λ q. q + length (flat_map g xs)) (each x)
    ∙ (ap (λ q. size + q) (units_long g size xs each)
    ∙ (let more = mul-suc size (length xs) in omega (arith, more))))

pub edge_length : (e : Edge) → length (edge_bytes e) ≡ 12
unfolding four_bytes
edge_length e = refl

pub degree_length : (d : Degree) → length (degree_bytes d) ≡ 12
unfolding four_bytes
degree_length d = refl

last_bytes : (a b c : ℕ) → drop 8 (four_bytes a ++ (four_bytes b ++ four_bytes c)) ≡ four_bytes c
unfolding four_bytes
last_bytes a b c = refl

unsigned_low : (z : ℤ) → FitsSigned w32 z → cast_unsigned w32 z < 2 ^ 32
unsigned_low z fits = let h = Fits-of_z {w = w32} {z = z} fits in omega (arith, h)

pub edge_again : (e : Edge) → source e < 2 ^ 32 → target e < 2 ^ 32 → FitsSigned w32 e.weight →
    edge_in (edge_bytes e) ≡ e
edge_again e from to weight =
    let z = cast_unsigned w32 e.weight in
    let tail = four_bytes (target e) ++ four_bytes z in
    let first : little_number 4 (edge_bytes e) ≡ source e = four_read (source e) tail from in
    let second : little_number 4 (drop 4 (edge_bytes e)) ≡ target e =
    ap (little_number 4) (four_drop (source e) tail) ∙ four_read (target e) (four_bytes z) to in
    let third : cast_signed w32 (little_number 4 (drop 8 (edge_bytes e))) ≡ e.weight =
    ap (cast_signed w32) (ap (little_number 4) (last_bytes (source e) (target e) z)
    ∙ four_again z (unsigned_low e.weight weight))
    ∙ to_z-of_z w32 e.weight weight in
    ap (λ q. record {
      from = record { 0 = q };
      to = record { 0 = little_number 4 (drop 4 (edge_bytes e)) };
      weight = cast_signed w32 (little_number 4 (drop 8 (edge_bytes e)));
    }) first
    ∙ (ap (λ q. record {
      from = e.from;
      to = record { 0 = q };
      weight = cast_signed w32 (little_number 4 (drop 8 (edge_bytes e)));
    }) second
    ∙ ap (λ q. record { from = e.from; to = e.to; weight = q }) third)

pub degree_again : (d : Degree) → d.id.0 < 2 ^ 32 → d.ins < 2 ^ 32 → d.outs < 2 ^ 32 →
    degree_of_unit (degree_bytes d) ≡ d
degree_again d id ins outs =
    let tail = four_bytes d.ins ++ four_bytes d.outs in
    let first : little_number 4 (degree_bytes d) ≡ d.id.0 = four_read d.id.0 tail id in
    let second : little_number 4 (drop 4 (degree_bytes d)) ≡ d.ins =
    ap (little_number 4) (four_drop d.id.0 tail) ∙ four_read d.ins (four_bytes d.outs) ins in
    let third : little_number 4 (drop 8 (degree_bytes d)) ≡ d.outs =
    ap (little_number 4) (last_bytes d.id.0 d.ins d.outs) ∙ four_again d.outs outs in
    ap (λ q. record {
      id = record { 0 = q };
      ins = little_number 4 (drop 4 (degree_bytes d));
      outs = little_number 4 (drop 8 (degree_bytes d));
    }) first
    ∙ (ap (λ q. record { id = d.id; ins = q; outs = little_number 4 (drop 8 (degree_bytes d)) }) second
    ∙ ap (λ q. record { id = d.id; ins = d.ins; outs = q }) third)
