-- A pass over a list that puts a new element into each place.
use Rattle.std.proofs.Common.{◌≡◌, ◌<◌, ◌≤◌, ◌+◌, ◌-◌, ◌++◌, ℕ, List, [], ◌∷◌, drop, get_or, length, map, set, sym, ap, ◌∙◌, append_assoc, append-nil, arith, length-append, length-drop}
use Rattle.std.specs.List.{range_with_len}
use Rattle.std.proofs.Math.ListN.{drop_of_length-le}
use Rattle.std.proofs.lemmas.List.{drop_more, get_or-append_right, get_or-drop, set-append_right}
use Rattle.std.proofs.lemmas.List.FromFn.{length-map-range_with_len, map-range_with_len_more}

-- the new elements of the first places, told by numbers from one on, and then the old ones
abbrev pub passed : {X : Type 0} → (ℕ → X) → ℕ → List X → ℕ → List X
passed f start xs i = map f (range_with_len start i) ++ drop i xs

module _ {X : Type 0} (f : ℕ → X) (start i : ℕ) (xs now : List X) (is : now ≡ passed f start xs i) (le : i ≤ length xs)
  where
    -- it is as long
    pub pass_length : length now ≡ length xs
    pass_length =
        let parts = length-append (map f (range_with_len start i)) (drop i xs) in
        let front = length-map-range_with_len f start i in
        let back = length-drop i xs in
        omega (arith, ap length is, parts, front, back)

    -- and whole at the end
    pub pass_done : length xs ≤ i → now ≡ map f (range_with_len start (length xs))
    pass_done end =
        let last : i ≡ length xs = omega arith in
        is ∙ ap (λ ys. map f (range_with_len start i) ++ ys) (drop_of_length-le xs end)
        ∙ append-nil (map f (range_with_len start i)) ∙ ap (λ n. map f (range_with_len start n)) last

    module _ (d : X) (lt : i < length xs) where
      none_past : i - i ≡ 0
      none_past = omega arith

      -- at the place it has the old element
      pub pass_here : get_or now i d ≡ get_or xs i d
      pass_here =
          let at : i + (i - i) ≡ i = omega arith in
          ap (λ ys. get_or ys i d) is
          ∙ get_or-append_right (map f (range_with_len start i)) (drop i xs) i i d
          (length-map-range_with_len f start i) (omega arith)
          ∙ get_or-drop i xs (i - i) d ∙ ap (λ k. get_or xs k d) at

      -- a new one there
      pub pass_more : (y : X) → y ≡ f (start + i) → set now i y ≡ passed f start xs (i + 1)
      pass_more y new =
          let front : List X = map f (range_with_len start i) in
          ap (λ ys. set ys i y) is
          ∙ set-append_right front (drop i xs) i i y (length-map-range_with_len f start i) (omega arith)
          ∙ ap (λ k. front ++ set (drop i xs) k y) none_past
          ∙ ap (λ ys. front ++ set ys 0 y) (drop_more xs i d lt)
          ∙ ap (λ z. front ++ z ∷ drop (i + 1) xs) new
          ∙ sym (append_assoc front (f (start + i) ∷ []) (drop (i + 1) xs))
          ∙ ap (λ ys. ys ++ drop (i + 1) xs) (sym (map-range_with_len_more f start i (start + i) (omega arith)))
