-- What a partial holds after words and after other partials.
use Rattle.std.proofs.Common.{◌≡◌, ◌≢◌, ℕ, ℤ, ◌<◌, ◌≤◌, List, [], ◌∷◌, map, fold, cond, refl, sym, ap, ◌∙◌, ⊎_elim, arith, Bool, true, false, Some, nat_lt, nat_le}
use Rattle.std.proofs.lemmas.Bool.{cases_lt, lt-ltb, le-ltb, le-leb, leb-true, false_from_ne_true}
use Rattle.vert_base.specs.declared.value.Combine.{Combine}
use Rattle.vert_base.specs.declared.value.Combine.TheVariants.{Min, Max, Sum, First}
use Rattle.slot_merge.specs.declared.partial.Partial.{Partial}
use Rattle.slot_merge.specs.Combine.{combined_of, combined}
use Rattle.slot_merge.specs.Partials.{with_word, with_words, ordered}
use Rattle.slot_merge.specs.Laws.{partial_of}
use Rattle.slot_merge.proofs.CombineLaws.{combined-cons, joined, joined-comm, Min≢First, Max≢First, Sum≢First}
use Rattle.slot_merge.proofs.OrderLaws.{Keyed, placed, placed-before, placed-behind, by_key, ordered-by_key}

-- a partial with a value
abbrev pub holding : Combine → ℕ → ℤ → Partial
holding op key x = record { op = op; key = key; value = Some x }

abbrev words : List Keyed → List ℤ
words ws = map (λ w. w.1) ws

-- the first of a list to be combined by its key
abbrev front : Keyed → List Keyed → Keyed
front w [] = w
front w (v ∷ vs) = cond (nat_le w.0 v.0) w v

-- of two words the one with the lesser key, of equal keys the first
abbrev pub nearer : Keyed → Keyed → Keyed
nearer w v = cond (nat_lt v.0 w.0) v w

abbrev pub hold : Keyed → Partial
hold w = holding First w.0 w.1

-- kinds without keys: the words are combined in any order

placed-cases : (op : Combine) → op ≢ First → (w v : Keyed) (vs : List Keyed) (b : Bool) →
    combined op (words (placed w vs)) ≡ combined op (w.1 ∷ words vs) →
    combined op (words (cond b (w ∷ v ∷ vs) (v ∷ placed w vs))) ≡ combined op (w.1 ∷ v.1 ∷ words vs)
placed-cases op other w v vs true h = refl
placed-cases op other w v vs false h =
    combined-cons op v.1 (words (placed w vs))
    ∙ ap (joined op v.1) (h ∙ combined-cons op w.1 (words vs))
    ∙ joined-comm op other v.1 w.1 (combined op (words vs))
    ∙ ap (joined op w.1) (sym (combined-cons op v.1 (words vs)))
    ∙ sym (combined-cons op w.1 (v.1 ∷ words vs))

combined-placed : (op : Combine) → op ≢ First → (w : Keyed) (ws : List Keyed) →
    combined op (words (placed w ws)) ≡ combined op (w.1 ∷ words ws)
combined-placed op other w [] = refl
combined-placed op other w (v ∷ vs) = placed-cases op other w v vs (nat_le w.0 v.0) (combined-placed op other w vs)

combined-by_key : (op : Combine) → op ≢ First → (ws : List Keyed) →
    combined op (words (by_key ws)) ≡ combined op (words ws)
combined-by_key op other [] = refl
combined-by_key op other (w ∷ ws) =
    combined-placed op other w (by_key ws)
    ∙ combined-cons op w.1 (words (by_key ws))
    ∙ ap (joined op w.1) (combined-by_key op other ws)
    ∙ sym (combined-cons op w.1 (words ws))

value_after : (op : Combine) → op ≢ First → (key : ℕ) (y : ℤ) (ws : List Keyed) →
    (with_words ws (holding op key y)).value ≡ Some (fold (combined_of op) y (words ws))
value_after op other key y [] = refl
value_after Min other key y (w ∷ ws) = value_after Min other key (combined_of Min y w.1) ws
value_after Max other key y (w ∷ ws) = value_after Max other key (combined_of Max y w.1) ws
value_after Sum other key y (w ∷ ws) = value_after Sum other key (combined_of Sum y w.1) ws
value_after First other key y (w ∷ ws) = absurd (other refl)

-- `First`: the word of the least key, of equal keys the earlier one

nearer-next : (w v : Keyed) → v.0 < w.0 → nearer w v ≡ v
nearer-next w v h = ap (λ b. cond b v w) (lt-ltb v.0 w.0 h)

nearer-same : (w v : Keyed) → w.0 ≤ v.0 → nearer w v ≡ w
nearer-same w v h = ap (λ b. cond b v w) (le-ltb v.0 w.0 h)

pub nearer-assoc : (u v w : Keyed) → nearer u (nearer v w) ≡ nearer (nearer u v) w
nearer-assoc u v w = ⊎_elim
    (λ near.
    ⊎_elim
    (λ last. ap (nearer u) (nearer-next v w last) ∙ nearer-next u w (omega arith) ∙ sym (nearer-next v w last))
    (λ more. ap (nearer u) (nearer-same v w more) ∙ nearer-next u v near ∙ sym (nearer-same v w more))
    (cases_lt w.0 v.0)
    ∙ ap (λ x. nearer x w) (sym (nearer-next u v near)))
    (λ far.
    ⊎_elim
    (λ last. ap (nearer u) (nearer-next v w last))
    (λ more. ap (nearer u) (nearer-same v w more) ∙ nearer-same u v far ∙ sym (nearer-same u w (omega arith)))
    (cases_lt w.0 v.0)
    ∙ ap (λ x. nearer x w) (sym (nearer-same u v far)))
    (cases_lt v.0 u.0)

pub nearer-comm : (w v : Keyed) → w.0 ≢ v.0 → nearer w v ≡ nearer v w
nearer-comm w v other = ⊎_elim
    (λ h. nearer-next w v h ∙ sym (nearer-same v w (omega arith)))
    (λ h. nearer-same w v h ∙ sym (nearer-next v w (omega (arith, other))))
    (cases_lt v.0 w.0)

hold-cases : (w v : Keyed) (b : Bool) → cond b (hold v) (hold w) ≡ hold (cond b v w)
hold-cases w v true = refl
hold-cases w v false = refl

pub word-First : (w v : Keyed) → with_word v.0 v.1 (hold w) ≡ hold (nearer w v)
word-First w v = hold-cases w v (nat_lt v.0 w.0)

-- the word that is left of a list
abbrev least : Keyed → List Keyed → Keyed
least w [] = w
least w (v ∷ vs) = least (nearer w v) vs

words-First : (w : Keyed) (ws : List Keyed) → with_words ws (hold w) ≡ hold (least w ws)
words-First w [] = refl
words-First w (v ∷ vs) = ap (with_words vs) (word-First w v) ∙ words-First (nearer w v) vs

front-before : (w v : Keyed) (vs : List Keyed) → w.0 ≤ v.0 → front w (v ∷ vs) ≡ w
front-before w v vs h = ap (λ b. cond b w v) (le-leb w.0 v.0 h)

front-behind : (w v : Keyed) (vs : List Keyed) → v.0 < w.0 → front w (v ∷ vs) ≡ v
front-behind w v vs h =
    ap (λ b. cond b w v) (false_from_ne_true (nat_le w.0 v.0) (λ e. omega (arith, leb-true w.0 v.0 e)))

front-nearer : (w v : Keyed) (ws : List Keyed) → front (nearer w v) ws ≡ front w (placed v ws)
front-nearer w v [] = ⊎_elim
    (λ h. nearer-next w v h ∙ sym (front-behind w v [] h))
    (λ h. nearer-same w v h ∙ sym (front-before w v [] h))
    (cases_lt v.0 w.0)
front-nearer w v (u ∷ us) = ⊎_elim
    (λ up.
    ⊎_elim
    (λ h. ap (λ x. front x (u ∷ us)) (nearer-next w v h) ∙ front-behind v u us up
    ∙ sym (front-behind w u (placed v us) (omega arith)))
    (λ h. ap (λ x. front x (u ∷ us)) (nearer-same w v h))
    (cases_lt v.0 w.0)
    ∙ ap (front w) (sym (placed-behind v u us up)))
    (λ down.
    ⊎_elim
    (λ h. ap (λ x. front x (u ∷ us)) (nearer-next w v h) ∙ front-before v u us down ∙ sym (front-behind w v (u ∷ us) h))
    (λ h. ap (λ x. front x (u ∷ us)) (nearer-same w v h) ∙ front-before w u us (omega arith)
    ∙ sym (front-before w v (u ∷ us) h))
    (cases_lt v.0 w.0)
    ∙ ap (front w) (sym (placed-before v u us down)))
    (cases_lt u.0 v.0)

least-front : (w : Keyed) (ws : List Keyed) → least w ws ≡ front w (by_key ws)
least-front w [] = refl
least-front w (v ∷ vs) = least-front (nearer w v) vs ∙ front-nearer w v (by_key vs)

fold-First : (x : ℤ) (xs : List ℤ) → fold (combined_of First) x xs ≡ x
fold-First x [] = refl
fold-First x (y ∷ ys) = fold-First x ys

front-cases : (w v : Keyed) (vs : List Keyed) (b : Bool) →
    combined First (words (cond b (w ∷ v ∷ vs) (v ∷ placed w vs))) ≡ Some (cond b w v).1
front-cases w v vs true = ap (λ x. Some x) (fold-First w.1 (words (v ∷ vs)))
front-cases w v vs false = ap (λ x. Some x) (fold-First v.1 (words (placed w vs)))

combined-front : (w : Keyed) (ws : List Keyed) → combined First (words (placed w ws)) ≡ Some (front w ws).1
combined-front w [] = refl
combined-front w (v ∷ vs) = front-cases w v vs (nat_le w.0 v.0)

-- a partial has the value of its words by key and then by turn

added_without_keys : (op : Combine) → op ≢ First → (key : ℕ) (w : Keyed) (ws : List Keyed) →
    (with_words ws (holding op key w.1)).value ≡ combined op (ordered (w ∷ ws))
added_without_keys op other key w ws =
    value_after op other key w.1 ws
    ∙ sym (combined-by_key op other (w ∷ ws))
    ∙ ap (combined op) (sym (ordered-by_key (w ∷ ws)))

pub added_in_any_order : (op : Combine) (ws : List Keyed) → (partial_of op ws).value ≡ combined op (ordered ws)
added_in_any_order op [] = refl
added_in_any_order Min (w ∷ ws) = added_without_keys Min Min≢First 0 w ws
added_in_any_order Max (w ∷ ws) = added_without_keys Max Max≢First 0 w ws
added_in_any_order Sum (w ∷ ws) = added_without_keys Sum Sum≢First 0 w ws
added_in_any_order First (w ∷ ws) =
    ap (λ p. p.value) (words-First w ws)
    ∙ ap (λ v. Some v.1) (least-front w ws)
    ∙ sym (combined-front w (by_key ws))
    ∙ ap (combined First) (sym (ordered-by_key (w ∷ ws)))
