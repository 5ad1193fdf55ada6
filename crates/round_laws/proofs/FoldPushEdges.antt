-- Emissions over edges in turn, each under the key of its source, fill the buckets of the sources that sent.
use Rattle.std.proofs.Common.{◌≡◌, ◌<◌, ◌≤◌, ℕ, ℤ, Bool, true, false, List, [], ◌∷◌, ◌++◌, refl, sym, ap, subst, ◌∙◌, append-nil, cond, arith, ⊎_elim}
use Rattle.std.specs.Prelude.{◌==◌, ◌&&◌, ◌||◌, if◌then◌else◌, nat_le, nat_lt}
use Rattle.std.specs.List.{AllByRecursion, filter, flat_map}
use Rattle.std.proofs.lemmas.Bool.{cases_lt}
use Rattle.std.proofs.lemmas.Bool.Decides.{nat_tests}
use Rattle.std.proofs.lemmas.List.{append_assoc}
use Rattle.std.proofs.lemmas.List.Elements.{filter-append}
use Rattle.vert_base.specs.declared.graph.Edge.{Edge}
use Rattle.vert_base.specs.declared.value.Combine.{Combine}
use Rattle.vert_base.specs.Neighbours.{bucket, ins_of, source, target, turned}
use Rattle.vert_base.proofs.Orders.{bucket_keys, filter_comm, in_order_below}
use Rattle.graph_table.proofs.FilterLaws.{all_filter, filter_all, filter_filter, filter_none, flat_map_same}
use Rattle.slot_merge.specs.declared.partial.Partial.{Partial}
use Rattle.slot_merge.specs.Combine.{Emission, words_for}
use Rattle.slot_merge.specs.Filled.{AreFilled, with_more}
use Rattle.slot_merge.specs.Partials.{with_emissions}
use Rattle.slot_merge.proofs.FillLaws.{fills_emissions}
use Rattle.symple_face.specs.CoreSparse.{key_of}
use Rattle.round_laws.proofs.DenseRound.{words_for-append}
use Rattle.round_laws.proofs.Keys.{key_above, key_below}

-- ---- edges in turn
-- partials with what each edge brings under its key
abbrev pub emitted_in_turn : (Edge → ℕ) → (Edge → List Emission) → List Edge → List Partial → List Partial
emitted_in_turn key emits [] qs = qs
emitted_in_turn key emits (e ∷ es) qs = emitted_in_turn key emits es (with_emissions (key e) qs (emits e))

module _ (ops : List Combine) (bound : ℕ) (key : Edge → ℕ) (emits : Edge → List Emission) where
  one_bucket : (bucket_words : List ℤ) (place k : ℕ) (e : Edge) (es : List Edge) (b : Bool) → (key e == k) ≡ b →
      (if key e == k then bucket_words ++ words_for place (emits e) else bucket_words)
      ++ words_for place (flat_map emits (bucket key k es)) ≡
      bucket_words ++ words_for place (flat_map emits (bucket key k (e ∷ es)))
  one_bucket ws place k e es true is =
      ap (λ b. (if b then ws ++ words_for place (emits e) else ws)
      ++ words_for place (flat_map emits (bucket key k es))) is
      ∙ append_assoc ws (words_for place (emits e)) (words_for place (flat_map emits (bucket key k es)))
      ∙ ap (λ more. ws ++ more) (sym (words_for-append place (emits e) (flat_map emits (bucket key k es))))
      ∙ ap (λ b. ws ++ words_for place (flat_map emits (cond b (e ∷ bucket key k es) (bucket key k es)))) (sym is)
  one_bucket ws place k e es false is =
      ap (λ b. (if b then ws ++ words_for place (emits e) else ws)
      ++ words_for place (flat_map emits (bucket key k es))) is
      ∙ ap (λ b. ws ++ words_for place (flat_map emits (cond b (e ∷ bucket key k es) (bucket key k es)))) (sym is)

  pub fills_in_turn : (es : List Edge) → AllByRecursion (λ e. key e < bound) es → (buckets : ℕ → ℕ → List ℤ)
      (qs : List Partial) →
      AreFilled 0 ops buckets bound qs →
      AreFilled 0 ops (λ place k. buckets place k ++ words_for place (flat_map emits (bucket key k es))) bound
      (emitted_in_turn key emits es qs)
  fills_in_turn [] low buckets qs are =
      subst (λ ws. AreFilled 0 ops ws bound qs) (λ i place k. sym (append-nil (buckets place k)) i) are
  fills_in_turn (e ∷ es) low buckets qs are =
      subst (λ ws. AreFilled 0 ops ws bound (emitted_in_turn key emits (e ∷ es) qs))
      (λ i place k. one_bucket (buckets place k) place k e es (key e == k) refl i)
      (fills_in_turn es low.1 (λ place. with_more (buckets place) (key e) (words_for place (emits e)))
      (with_emissions (key e) qs (emits e))
      (fills_emissions ops buckets bound (key e) (emits e) qs low.0 are))

-- ---- members with one source
-- where no source of one key sent before, its members bring what they emit at once
module _ (place u : ℕ) (emits : Edge → List Emission) (came new both : ℕ → Bool) (xs : List Edge) where
  at_once : AllByRecursion (λ e. source e ≡ u) xs → (b c : Bool) → came u ≡ b → new u ≡ c → (b && c) ≡ false →
      both u ≡ (b || c) →
      words_for place (flat_map emits (filter (λ e. came (source e)) xs)) ++ words_for place (flat_map (λ e. if
      new (source e) then emits e else []) xs) ≡ words_for place (flat_map emits (filter (λ e. both (source
      e)) xs))
  at_once of_u b c is_came is_new apart is_both =
      ap (λ es. words_for place (flat_map emits es) ++ words_for place (flat_map (λ e. if new (source e) then emits
      e else
      []) xs)) (kept came b is_came)
      ∙ ap (λ es. words_for place (flat_map emits (if b then xs else [])) ++ words_for place es) (brought c is_new)
      ∙ by b c apart
      ∙ sym (ap (λ es. words_for place (flat_map emits es)) (kept both (b || c) is_both))
    where
      all_are : (f : ℕ → Bool) (d : Bool) → f u ≡ d → (ys : List Edge) → AllByRecursion (λ e. source e ≡ u) ys →
          AllByRecursion (λ e. f (source e) ≡ d) ys
      all_are f d is [] all = tt
      all_are f d is (y ∷ ys) all = (ap f all.0 ∙ is, all_are f d is ys all.1)

      kept : (f : ℕ → Bool) (d : Bool) → f u ≡ d → filter (λ e. f (source e)) xs ≡ (if d then xs else [])
      kept f true is = filter_all (λ e. f (source e)) xs (all_are f true is xs of_u)
      kept f false is = filter_none (λ e. f (source e)) xs (all_are f false is xs of_u)

      same : (d : Bool) (ys : List Edge) → AllByRecursion (λ e. new (source e) ≡ d) ys →
          AllByRecursion (λ e. (if new (source e) then emits e else []) ≡ (if d then emits e else [])) ys
      same d [] all = tt
      same d (y ∷ ys) all = (ap (λ x. if x then emits y else []) all.0, same d ys all.1)

      nothing : (ys : List Edge) → flat_map (λ (e : Edge). let none : List Emission = [] in none) ys ≡ []
      nothing [] = refl
      nothing (y ∷ ys) = nothing ys

      brought : (d : Bool) → new u ≡ d →
          flat_map (λ e. if new (source e) then emits e else []) xs ≡ (if d then flat_map emits xs else [])
      brought true is =
          flat_map_same (λ e. if new (source e) then emits e else []) emits xs
          (same true xs (all_are new true is xs of_u))
      brought false is =
          flat_map_same (λ e. if new (source e) then emits e else []) (λ e. []) xs
          (same false xs (all_are new false is xs of_u))
          ∙ nothing xs

      by : (b c : Bool) → (b && c) ≡ false →
          words_for place (flat_map emits (if b then xs else [])) ++ words_for place (if c then flat_map emits xs
          else [])
          ≡ words_for place (flat_map emits (if b || c then xs else []))
      by true true wrong = cc
      by true false apart = append-nil (words_for place (flat_map emits xs))
      by false c apart = none c
        where
          none : (d : Bool) → words_for place (if d then flat_map emits xs else []) ≡
              words_for place (flat_map emits (if d then xs else []))
          none true = refl
          none false = refl

-- members with one source stand as they stood where the list turns
turned_one : (t u : ℕ) (xs : List Edge) → AllByRecursion (λ e. source e ≡ u) xs → turned t xs ≡ xs
turned_one t u xs of_u =
    ⊎_elim
    (λ (below : u < t).
    ap (λ ys. ys ++ filter (λ e. nat_lt (source e) t) xs)
    (filter_none (λ e. nat_le t (source e)) xs (low below xs of_u))
    ∙ filter_all (λ e. nat_lt (source e) t) xs (lower below xs of_u))
    (λ (above : t ≤ u).
    ap (λ ys. ys ++ filter (λ e. nat_lt (source e) t) xs)
    (filter_all (λ e. nat_le t (source e)) xs (high above xs of_u))
    ∙ ap (λ ys. xs ++ ys) (filter_none (λ e. nat_lt (source e) t) xs (higher above xs of_u))
    ∙ append-nil xs)
    (cases_lt u t)
  where
    not_le : (a b : ℕ) → a < b → nat_le b a ≡ false
    not_le a b lt = grind (arith, nat_tests)

    is_lt : (a b : ℕ) → a < b → nat_lt a b ≡ true
    is_lt a b lt = grind (arith, nat_tests)

    is_le : (a b : ℕ) → b ≤ a → nat_le b a ≡ true
    is_le a b le = grind (arith, nat_tests)

    not_lt : (a b : ℕ) → b ≤ a → nat_lt a b ≡ false
    not_lt a b le = grind (arith, nat_tests)

    low : u < t → (ys : List Edge) → AllByRecursion (λ e. source e ≡ u) ys →
        AllByRecursion (λ e. nat_le t (source e) ≡ false) ys
    low lt [] all = tt
    low lt (y ∷ ys) all = (ap (nat_le t) all.0 ∙ not_le u t lt, low lt ys all.1)

    lower : u < t → (ys : List Edge) → AllByRecursion (λ e. source e ≡ u) ys →
        AllByRecursion (λ e. nat_lt (source e) t ≡ true) ys
    lower lt [] all = tt
    lower lt (y ∷ ys) all = (ap (λ x. nat_lt x t) all.0 ∙ is_lt u t lt, lower lt ys all.1)

    high : t ≤ u → (ys : List Edge) → AllByRecursion (λ e. source e ≡ u) ys →
        AllByRecursion (λ e. nat_le t (source e) ≡ true) ys
    high le [] all = tt
    high le (y ∷ ys) all = (ap (nat_le t) all.0 ∙ is_le u t le, high le ys all.1)

    higher : t ≤ u → (ys : List Edge) → AllByRecursion (λ e. source e ≡ u) ys →
        AllByRecursion (λ e. nat_lt (source e) t ≡ false) ys
    higher le [] all = tt
    higher le (y ∷ ys) all = (ap (λ x. nat_lt x t) all.0 ∙ not_lt u t le, higher le ys all.1)

-- different vertices have different keys
key_once : (n t u w : ℕ) → t ≤ n → u < n → w < n → key_of n t u ≡ key_of n t w → u ≡ w
key_once n t u w le low other same =
    ⊎_elim
    (λ (below : u < t).
    ⊎_elim
    (λ (down : w < t).
    let a = key_below n t u below le in let b = key_below n t w down le in omega (arith, a, b, same))
    (λ (up : t ≤ w).
    let a = key_below n t u below le in let b = key_above n t w up other in omega (arith, a, b, same))
    (cases_lt w t))
    (λ (above : t ≤ u).
    ⊎_elim
    (λ (down : w < t).
    let a = key_above n t u above low in let b = key_below n t w down le in omega (arith, a, b, same))
    (λ (up : t ≤ w).
    let a = key_above n t u above low in let b = key_above n t w up other in omega (arith, a, b, same))
    (cases_lt w t))
    (cases_lt u t)

-- ---- buckets
module _ (n t v : ℕ) (edges : List Edge) (le : t ≤ n) where
  abbrev key : Edge → ℕ
  key e = key_of n t (source e)

  abbrev ins : List Edge
  ins = ins_of n edges v

  low_sources : AllByRecursion (λ e. source e < n) ins
  low_sources = in_order_below source n (filter (λ e. target e == v) edges)

  -- elements with one key have one source
  one_source : (k : ℕ) (e : Edge) (es : List Edge) → AllByRecursion (λ x. key x ≡ k) (e ∷ es) →
      AllByRecursion (λ x. source x < n) (e ∷ es) → (ys : List Edge) → AllByRecursion (λ x. key x ≡ k) ys →
      AllByRecursion (λ x. source x < n) ys → AllByRecursion (λ x. source x ≡ source e) ys
  one_source k e es keys lows [] of_key low = tt
  one_source k e es keys lows (y ∷ ys) of_key low = (
    key_once n t (source y) (source e) le low.0 lows.0 (of_key.0 ∙ sym keys.0),
    one_source k e es keys lows ys of_key.1 low.1,
  )

  -- the members with one key, in the order of the loop, are those in the order of in(v)
  key_bucket : (k : ℕ) → bucket key k (turned t ins) ≡ bucket key k ins
  key_bucket k =
      filter-append (λ e. key e == k) (filter (λ e. nat_le t (source e)) ins) (filter (λ e. nat_lt (source e) t) ins)
      ∙ ap (λ ys. ys ++ bucket key k (filter (λ e. nat_lt (source e) t) ins))
      (filter_comm (λ e. key e == k) (λ e. nat_le t (source e)) ins)
      ∙ ap (λ ys. filter (λ e. nat_le t (source e)) (bucket key k ins) ++ ys)
      (filter_comm (λ e. key e == k) (λ e. nat_lt (source e) t) ins)
      ∙ by (bucket key k ins) (bucket_keys key k ins) (all_filter (λ e. source e < n) (λ e. key e == k) ins low_sources)
    where
      by : (xs : List Edge) → AllByRecursion (λ x. key x ≡ k) xs → AllByRecursion (λ x. source x < n) xs →
          turned t xs ≡ xs
      by [] of_key low = refl
      by (e ∷ es) of_key low =
          turned_one t (source e) (e ∷ es) (one_source k e es of_key low (e ∷ es) of_key low)

  -- what the members whose sends came now bring, behind what those brought whose sends came before
  pub buckets_grow : (emits : Edge → List Emission) (came new both : ℕ → Bool) →
      ((u : ℕ) → u < n → (came u && new u) ≡ false) → ((u : ℕ) → u < n → both u ≡ (came u || new u)) →
      (place k : ℕ) →
      words_for place (flat_map emits (filter (λ e. key e == k && came (source e)) (turned t ins)))
      ++ words_for place (flat_map (λ e. if new (source e) then emits e else []) (bucket key k ins)) ≡
      words_for place (flat_map emits (filter (λ e. key e == k && both (source e)) (turned t ins)))
  buckets_grow emits came new both apart union place k =
      ap (λ es. words_for place (flat_map emits es)
      ++ words_for place (flat_map (λ e. if new (source e) then emits e else []) (bucket key k ins))) (of_key came)
      ∙ by (bucket key k ins) (bucket_keys key k ins) (all_filter (λ e. source e < n) (λ e. key e == k) ins low_sources)
      ∙ sym (ap (λ es. words_for place (flat_map emits es)) (of_key both))
    where
      of_key : (f : ℕ → Bool) → filter (λ e. key e == k && f (source e)) (turned t ins) ≡
          filter (λ e. f (source e)) (bucket key k ins)
      of_key f = sym (filter_filter (λ e. f (source e)) (λ e. key e == k) (turned t ins))
          ∙ ap (filter (λ e. f (source e))) (key_bucket k)

      by : (xs : List Edge) → AllByRecursion (λ x. key x ≡ k) xs → AllByRecursion (λ x. source x < n) xs →
          words_for place (flat_map emits (filter (λ e. came (source e)) xs))
          ++ words_for place (flat_map (λ e. if new (source e) then emits e else []) xs) ≡
          words_for place (flat_map emits (filter (λ e. both (source e)) xs))
      by [] keys low = refl
      by (e ∷ es) keys low =
          at_once place (source e) emits came new both (e ∷ es) (one_source k e es keys low (e ∷ es) keys low)
          (came (source e)) (new (source e)) refl refl (apart (source e) low.0) (union (source e) low.0)
