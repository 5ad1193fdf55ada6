-- The edges from active vertices.
use Rattle.std.proofs.Common.{◌≡◌, ℕ, zero, suc, ◌+◌, ◌≤◌, Bool, true, false, List, [], ◌∷◌, map, length, refl, ap, sym, ◌∙◌, arith, length-append, ⊎_elim}
use Rattle.std.specs.Prelude.{◌==◌, sum, if◌then◌else◌}
use Rattle.std.specs.List.{range_with_len}
use Rattle.std.proofs.lemmas.Bool.{cases_eq, eq-eqb, ne_eqb}
use Rattle.std.proofs.lemmas.List.Sums.{sum-map, sum_by-le-sum_by, sum_by_push}
use Rattle.std.proofs.lemmas.List.FromFn.{map-range_with_len_more}
use Rattle.vert_base.specs.declared.value.Row.{Row}
use Rattle.vert_base.specs.Neighbours.{in_order, source}
use Rattle.vert_eval.specs.Rounds.{Graph, outdegree, row_at}
use Rattle.vert_base.specs.Neighbours.{bucket}

-- the sum of a list made by the number, with one more
pub sum_more : (f : ℕ → ℕ) (m : ℕ) → sum (map f (range_with_len 0 (m + 1))) ≡ sum (map f (range_with_len 0 m)) + f m
sum_more f m = ap sum (map-range_with_len_more f 0 m m (omega arith))
    ∙ sum_by_push (λ x. x) (map f (range_with_len 0 m)) (f m)

-- an element with a key at n or above is in no bucket below n
length-in_order_out : {X : Type 0} (key : X → ℕ) (n : ℕ) (x : X) (xs : List X) → n ≤ key x →
    length (in_order key n (x ∷ xs)) ≡ length (in_order key n xs)
length-in_order_out key zero x xs le = refl
length-in_order_out key (suc n) x xs le =
    let low : n ≤ key x = omega arith in
    let other : (key x == n) ≡ false = ne_eqb _ _ (λ e. omega arith) in
    let same : bucket key n (x ∷ xs) ≡ bucket key n xs = rw other refl in
    omega (
      arith,
      length-append (in_order key n (x ∷ xs)) (bucket key n (x ∷ xs)),
      length-append (in_order key n xs) (bucket key n xs),
      length-in_order_out key n x xs low,
      ap length same,
    )

length-in_order_in : {X : Type 0} (key : X → ℕ) (n : ℕ) (x : X) (xs : List X) →
    length (in_order key n (x ∷ xs)) ≤ length (in_order key n xs) + 1
length-in_order_in key zero x xs = omega arith
length-in_order_in key (suc n) x xs =
    ⊎_elim
    (λ (e : key x ≡ n).
    let here : (key x == n) ≡ true = eq-eqb _ _ e in
    let more : bucket key n (x ∷ xs) ≡ x ∷ bucket key n xs = rw here refl in
    let low : n ≤ key x = omega arith in
    omega (
      arith,
      length-append (in_order key n (x ∷ xs)) (bucket key n (x ∷ xs)),
      length-append (in_order key n xs) (bucket key n xs),
      length-in_order_out key n x xs low,
      ap length more,
    ))
    (λ (ne : key x ≡ n → ⊥).
    let other : (key x == n) ≡ false = ne_eqb _ _ ne in
    let same : bucket key n (x ∷ xs) ≡ bucket key n xs = rw other refl in
    omega (
      arith,
      length-append (in_order key n (x ∷ xs)) (bucket key n (x ∷ xs)),
      length-append (in_order key n xs) (bucket key n xs),
      length-in_order_in key n x xs,
      ap length same,
    ))
    (cases_eq (key x) n)

in_order-nil : {X : Type 0} (key : X → ℕ) (n : ℕ) → length (in_order key n []) ≡ 0
in_order-nil key zero = refl
in_order-nil key (suc n) = omega (arith, length-append (in_order key n []) (bucket key n []), in_order-nil key n)

length-in_order : {X : Type 0} (key : X → ℕ) (n : ℕ) (xs : List X) → length (in_order key n xs) ≤ length xs
length-in_order key n [] = omega (arith, in_order-nil key n)
length-in_order key n (x ∷ xs) = omega (arith, length-in_order_in key n x xs, length-in_order key n xs)

buckets_sum : {X : Type 0} (key : X → ℕ) (n : ℕ) (xs : List X) →
    sum (map (λ v. length (bucket key v xs)) (range_with_len 0 n)) ≡ length (in_order key n xs)
buckets_sum key zero xs = refl
buckets_sum key (suc n) xs =
    let f : ℕ → ℕ = λ v. length (bucket key v xs) in
    let one : suc n ≡ n + 1 = omega arith in
    ap (λ q. sum (map f (range_with_len 0 q))) one
    ∙ (sum_more f n
    ∙ (ap (λ q. q + length (bucket key n xs)) (buckets_sum key n xs)
    ∙ sym (length-append (in_order key n xs) (bucket key n xs))))

some_le : (b : Bool) (x : ℕ) → (if b then x else 0) ≤ x
some_le true x = omega arith
some_le false x = omega arith

sum_some : (test : ℕ → Bool) (f : ℕ → ℕ) (vs : List ℕ) → sum (map (λ v. if test v then f v else 0) vs) ≤ sum (map f vs)
sum_some test f vs =
    let g : ℕ → ℕ = λ v. if test v then f v else 0 in
    omega (arith, sum-map g vs, sum-map f vs, sum_by-le-sum_by g f vs (λ v. some_le (test v) (f v)))

-- the edges that leave the active ones of the first m vertices
abbrev pub active_sum : Graph → List Row → ℕ → ℕ
active_sum g rows m = sum (map (λ v. if (row_at rows v).active then outdegree g v else 0) (range_with_len 0 m))

-- they are some of the edges
pub active_sum-le : (g : Graph) (rows : List Row) (m : ℕ) → active_sum g rows m ≤ length g.edges
active_sum-le g rows m =
    omega (
      arith,
      sum_some (λ v. (row_at rows v).active) (outdegree g) (range_with_len 0 m),
      buckets_sum source m g.edges,
      length-in_order source m g.edges,
    )

-- one vertex more
pub active_sum-on : (g : Graph) (rows : List Row) (m : ℕ) (row : Row) → row ≡ row_at rows m → row.active ≡ true →
    active_sum g rows (m + 1) ≡ active_sum g rows m + outdegree g m
active_sum-on g rows m row e on =
    sum_more (λ v. if (row_at rows v).active then outdegree g v else 0) m
    ∙ ap (λ b. active_sum g rows m + (if b then outdegree g m else 0)) (ap (λ r. r.active) (sym e) ∙ on)

pub active_sum-off : (g : Graph) (rows : List Row) (m : ℕ) (row : Row) → row ≡ row_at rows m → row.active ≡ false →
    active_sum g rows (m + 1) ≡ active_sum g rows m
active_sum-off g rows m row e off =
    sum_more (λ v. if (row_at rows v).active then outdegree g v else 0) m
    ∙ (ap (λ b. active_sum g rows m + (if b then outdegree g m else 0)) (ap (λ r. r.active) (sym e) ∙ off)
    ∙ (let none : active_sum g rows m + 0 ≡ active_sum g rows m = omega arith in none))
