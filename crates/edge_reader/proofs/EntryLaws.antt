use Rattle.std.proofs.Common.{◌≡◌, ℕ, ◌<◌, Bool, true, false, cond, ◌||◌, nat_lt, min, lit<, refl, sym, arith, Option, Some, None}
use Rattle.std.specs.Option.{option_map}
use Rattle.std.proofs.lemmas.Bool.{false≢true}
use Rattle.std.proofs.lemmas.Bool.Decides.{nat_tests}
use Rattle.edge_reader.specs.declared.entry.Entry.{Entry}
use Rattle.edge_reader.specs.declared.entry.Entry.TheVariants.{TooLarge}
use Rattle.edge_reader.specs.declared.entry.Weight.{Weight}
use Rattle.edge_reader.specs.Lines.{edge_of, entry_of_numbers, capped}

above_min : (k n most : ℕ) → k < most → nat_lt k (min n most) ≡ nat_lt k n
above_min k n most h = grind (arith, nat_tests)

not_above : (k n most : ℕ) → k < most → nat_lt k n ≡ false → min n most ≡ n
not_above k n most h test = grind (arith, nat_tests)

or_false : (s t : Bool) → (s || t) ≡ false → (s ≡ false) × (t ≡ false)
or_false true t h = absurd (false≢true (sym h))
or_false false t h = (refl, h)

if_same : (t : Bool) (z x y : Entry) → (t ≡ false → x ≡ y) → cond t z x ≡ cond t z y
if_same true z x y h = refl
if_same false z x y h = h refl

weight_limit : (negative : Bool) → cond negative 2147483648 2147483647 < 1099511627776
weight_limit true = lit< tt
weight_limit false = lit< tt

-- numbers above the cap are as large as the cap
pub edge_capped : (a b : ℕ) (w : Weight) →
    edge_of (min a 1099511627776) (min b 1099511627776) (capped 1099511627776 w) ≡ edge_of a b w
edge_capped a b w =
    let small : cond w.negative 2147483648 2147483647 < 1099511627776 = weight_limit w.negative in
    let most : ℕ = 1099511627776 in
    let id : 4294967295 < most = lit< tt in
    let tests = nat_lt 4294967295 a || nat_lt 4294967295 b || nat_lt (cond w.negative 2147483648 2147483647) w.size in
    rw (
      above_min 4294967295 a most id,
      above_min 4294967295 b most id,
      above_min (cond w.negative 2147483648 2147483647) w.size most small,
    )
    (if_same tests TooLarge _ _ (λ (fits : tests ≡ false).
    let last = or_false (nat_lt 4294967295 a || nat_lt 4294967295 b) _ fits in
    let ids = or_false (nat_lt 4294967295 a) (nat_lt 4294967295 b) last.0 in
    rw (
      not_above 4294967295 a most id ids.0,
      not_above 4294967295 b most id ids.1,
      not_above (cond w.negative 2147483648 2147483647) w.size most small last.1,
    ) refl))

pub numbers_capped : (a b : Option ℕ) (w : Option Weight) →
    entry_of_numbers (option_map (λ value. min value 1099511627776) a)
    (option_map (λ value. min value 1099511627776) b) (option_map (capped 1099511627776) w) ≡ entry_of_numbers a b w
numbers_capped (Some a) (Some b) (Some w) = edge_capped a b w
numbers_capped (Some a) (Some b) None = refl
numbers_capped (Some a) None w = refl
numbers_capped None b w = refl
