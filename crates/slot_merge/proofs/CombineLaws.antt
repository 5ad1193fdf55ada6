-- Combining goes by parts, and for all kinds but `First` in any order.
use Rattle.std.proofs.Common.{◌≡◌, ◌≢◌, ℤ, ◌+ℤ◌, List, [], ◌∷◌, ◌++◌, fold, refl, sym, ap, ◌∙◌, arith, w64, Bool, true, false, true≢false, Option, Some, None}
use Rattle.std.specs.Int.{int_wrap}
use Rattle.std.specs.List.{flat_map}
use Rattle.std.specs.Option.{option_to_list}
use Rattle.std.proofs.lemmas.Int.{ints, clamps, int_wrap-add_left, int_wrap-add_right}
use Rattle.std.proofs.lemmas.List.Sums.{fold-append}
use Rattle.vert_base.specs.declared.value.Combine.{Combine}
use Rattle.vert_base.specs.declared.value.Combine.TheVariants.{Min, Max, Sum, First}
use Rattle.slot_merge.specs.Combine.{combined_of, combined, neutral, total_of, is_first}

pub Min≢First : Min ≢ First
Min≢First e = true≢false (sym (ap is_first e))

pub Max≢First : Max ≢ First
Max≢First e = true≢false (sym (ap is_first e))

pub Sum≢First : Sum ≢ First
Sum≢First e = true≢false (sym (ap is_first e))

sum-assoc : (x y z : ℤ) → (x +ℤ y) +ℤ z ≡ x +ℤ (y +ℤ z)
sum-assoc x y z = omega (arith, ints)

sum-comm : (x y : ℤ) → x +ℤ y ≡ y +ℤ x
sum-comm x y = omega (arith, ints)

pub combined_of-assoc : (op : Combine) (x y z : ℤ) →
    combined_of op (combined_of op x y) z ≡ combined_of op x (combined_of op y z)
combined_of-assoc Min x y z = omega (arith, ints, clamps)
combined_of-assoc Max x y z = omega (arith, ints, clamps)
combined_of-assoc Sum x y z =
    int_wrap-add_left w64 (x +ℤ y) z ∙ ap (int_wrap w64) (sum-assoc x y z) ∙ sym (int_wrap-add_right w64 x (y +ℤ z))
combined_of-assoc First x y z = refl

pub combined_of-comm : (op : Combine) → op ≢ First → (x y : ℤ) → combined_of op x y ≡ combined_of op y x
combined_of-comm Min other x y = omega (arith, ints, clamps)
combined_of-comm Max other x y = omega (arith, ints, clamps)
combined_of-comm Sum other x y = ap (int_wrap w64) (sum-comm x y)
combined_of-comm First other x y = absurd (other refl)

-- the first word may be combined last
pub combined_of-fold : (op : Combine) (x y : ℤ) (ys : List ℤ) →
    fold (combined_of op) (combined_of op x y) ys ≡ combined_of op x (fold (combined_of op) y ys)
combined_of-fold op x y [] = refl
combined_of-fold op x y (z ∷ zs) =
    ap (λ w. fold (combined_of op) w zs) (combined_of-assoc op x y z) ∙ combined_of-fold op x (combined_of op y z) zs

-- a word before what is combined
abbrev pub joined : Combine → ℤ → Option ℤ → Option ℤ
joined op x None = Some x
joined op x (Some y) = Some (combined_of op x y)

pub combined-cons : (op : Combine) (x : ℤ) (xs : List ℤ) → combined op (x ∷ xs) ≡ joined op x (combined op xs)
combined-cons op x [] = refl
combined-cons op x (y ∷ ys) = ap (λ w. Some w) (combined_of-fold op x y ys)

pub joined-comm : (op : Combine) → op ≢ First → (x y : ℤ) (o : Option ℤ) →
    joined op x (joined op y o) ≡ joined op y (joined op x o)
joined-comm op other x y None = ap (λ w. Some w) (combined_of-comm op other x y)
joined-comm op other x y (Some z) =
    ap (λ w. Some w) (sym (combined_of-assoc op x y z) ∙ ap (λ w. combined_of op w z) (combined_of-comm op other x y)
    ∙ combined_of-assoc op y x z)

-- what two lists of words are combined to, given what each one is
abbrev pub both_of : Combine → Option ℤ → Option ℤ → Option ℤ
both_of op None o = o
both_of op (Some x) o = joined op x o

joined-both : (op : Combine) (x : ℤ) (o q : Option ℤ) → joined op x (both_of op o q) ≡ both_of op (joined op x o) q
joined-both op x None q = refl
joined-both op x (Some y) None = refl
joined-both op x (Some y) (Some z) = ap (λ w. Some w) (sym (combined_of-assoc op x y z))

pub combined-append : (op : Combine) (xs ys : List ℤ) →
    combined op (xs ++ ys) ≡ both_of op (combined op xs) (combined op ys)
combined-append op [] ys = refl
combined-append op (x ∷ xs) ys =
    combined-cons op x (xs ++ ys)
    ∙ ap (joined op x) (combined-append op xs ys)
    ∙ joined-both op x (combined op xs) (combined op ys)
    ∙ sym (ap (λ o. both_of op o (combined op ys)) (combined-cons op x xs))

combined-word : (op : Combine) (xs : List ℤ) → combined op (option_to_list (combined op xs)) ≡ combined op xs
combined-word op [] = refl
combined-word op (x ∷ xs) = refl

-- words may be combined in parts, and then the parts in their order
pub combined-parts : {X : Type 0} (op : Combine) (f : X → List ℤ) (parts : List X) →
    combined op (flat_map (λ part. option_to_list (combined op (f part))) parts) ≡ combined op (flat_map f parts)
combined-parts op f [] = refl
combined-parts op f (part ∷ parts) =
    combined-append op (option_to_list (combined op (f part)))
    (flat_map (λ p. option_to_list (combined op (f p))) parts)
    ∙ ap (λ o. both_of op o (combined op (flat_map (λ p. option_to_list (combined op (f p))) parts)))
    (combined-word op (f part))
    ∙ ap (both_of op (combined op (f part))) (combined-parts op f parts)
    ∙ sym (combined-append op (f part) (flat_map f parts))

-- what a total begins with changes nothing
neutral-twice : (op : Combine) → combined_of op (neutral op) (neutral op) ≡ neutral op
unfolding int_wrap
neutral-twice Min = refl
neutral-twice Max = refl
neutral-twice Sum = refl
neutral-twice First = refl

-- a total with what it begins with once more
neutral-last : (op : Combine) → op ≢ First → (xs : List ℤ) →
    combined_of op (total_of op xs) (neutral op) ≡ total_of op xs
neutral-last op other xs =
    combined_of-comm op other (total_of op xs) (neutral op)
    ∙ sym (combined_of-fold op (neutral op) (neutral op) xs)
    ∙ ap (λ n. fold (combined_of op) n xs) (neutral-twice op)

-- the total of words in parts is that of the parts' totals
pub total_of-append : (op : Combine) → op ≢ First → (xs ys : List ℤ) →
    total_of op (xs ++ ys) ≡ combined_of op (total_of op xs) (total_of op ys)
total_of-append op other xs ys =
    fold-append (combined_of op) (neutral op) xs ys
    ∙ sym (ap (λ n. fold (combined_of op) n ys) (neutral-last op other xs))
    ∙ combined_of-fold op (total_of op xs) (neutral op) ys
