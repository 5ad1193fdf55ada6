-- Words by ascending key, equal keys by turn: what a further word changes.
use Rattle.std.proofs.Common.{◌≡◌, ℕ, ℤ, zero, suc, ◌<◌, ◌≤◌, List, [], ◌∷◌, ◌++◌, map, filter, cond, refl, sym, ap, ◌∙◌, ⊎_elim, arith, append_assoc, nat_le, ◌==◌}
use Rattle.std.proofs.lemmas.Bool.{cases_lt, cases_eq, eq-eqb, ne_eqb, le-leb, leb-true, false_from_ne_true}
use Rattle.vert_base.specs.Neighbours.{in_order}
use Rattle.slot_merge.specs.Partials.{above, ordered}

abbrev pub Keyed : Type 0
Keyed = ℕ × ℤ

abbrev pub key_of : Keyed → ℕ
key_of w = w.0

-- before the first one with a key at or above its own
abbrev pub placed : Keyed → List Keyed → List Keyed
placed w [] = w ∷ []
placed w (v ∷ vs) = cond (nat_le w.0 v.0) (w ∷ v ∷ vs) (v ∷ placed w vs)

abbrev pub by_key : List Keyed → List Keyed
by_key [] = []
by_key (w ∷ ws) = placed w (by_key ws)

-- the words under one key
abbrev under : ℕ → List Keyed → List Keyed
under m ws = filter (λ w. w.0 == m) ws

under-here : (m : ℕ) (w : Keyed) (ws : List Keyed) → w.0 ≡ m → under m (w ∷ ws) ≡ w ∷ under m ws
under-here m w ws h = ap (λ b. cond b (w ∷ under m ws) (under m ws)) (eq-eqb w.0 m h)

under-other : (m : ℕ) (w : Keyed) (ws : List Keyed) → (w.0 ≡ m → ⊥) → under m (w ∷ ws) ≡ under m ws
under-other m w ws h = ap (λ b. cond b (w ∷ under m ws) (under m ws)) (ne_eqb w.0 m h)

pub placed-before : (w v : Keyed) (vs : List Keyed) → w.0 ≤ v.0 → placed w (v ∷ vs) ≡ w ∷ v ∷ vs
placed-before w v vs h = ap (λ b. cond b (w ∷ v ∷ vs) (v ∷ placed w vs)) (le-leb w.0 v.0 h)

pub placed-behind : (w v : Keyed) (vs : List Keyed) → v.0 < w.0 → placed w (v ∷ vs) ≡ v ∷ placed w vs
placed-behind w v vs h =
    ap (λ b. cond b (w ∷ v ∷ vs) (v ∷ placed w vs))
    (false_from_ne_true (nat_le w.0 v.0) (λ e. omega (arith, leb-true w.0 v.0 e)))

-- it goes in front of the words under a key at or above its own
placed-under : (m : ℕ) (w : Keyed) (ws : List Keyed) → w.0 ≤ m → placed w (under m ws) ≡ w ∷ under m ws
placed-under m w [] h = refl
placed-under m w (v ∷ vs) h = ⊎_elim
    (λ e. ap (placed w) (under-here m v vs e) ∙ placed-before w v (under m vs) (omega arith)
    ∙ ap (λ l. w ∷ l) (sym (under-here m v vs e)))
    (λ n. ap (placed w) (under-other m v vs n) ∙ placed-under m w vs h ∙ ap (λ l. w ∷ l) (sym (under-other m v vs n)))
    (cases_eq v.0 m)

-- it goes behind the words under a lesser key
placed-past_under : (m : ℕ) (w : Keyed) (ws more : List Keyed) → m < w.0 →
    placed w (under m ws ++ more) ≡ under m ws ++ placed w more
placed-past_under m w [] more h = refl
placed-past_under m w (v ∷ vs) more h = ⊎_elim
    (λ e.
    ap (λ l. placed w (l ++ more)) (under-here m v vs e)
    ∙ placed-behind w v (under m vs ++ more) (omega arith)
    ∙ ap (λ l. v ∷ l) (placed-past_under m w vs more h)
    ∙ ap (λ l. l ++ placed w more) (sym (under-here m v vs e)))
    (λ n. ap (λ l. placed w (l ++ more)) (under-other m v vs n) ∙ placed-past_under m w vs more h
    ∙ ap (λ l. l ++ placed w more) (sym (under-other m v vs n)))
    (cases_eq v.0 m)

placed-past : (m : ℕ) (w : Keyed) (ws more : List Keyed) → m ≤ w.0 →
    placed w (in_order key_of m ws ++ more) ≡ in_order key_of m ws ++ placed w more
placed-past zero w ws more h = refl
placed-past (suc m) w ws more h =
    ap (placed w) (append_assoc (in_order key_of m ws) (under m ws) more)
    ∙ placed-past m w ws (under m ws ++ more) (omega arith)
    ∙ ap (λ l. in_order key_of m ws ++ l) (placed-past_under m w ws more (omega arith))
    ∙ sym (append_assoc (in_order key_of m ws) (under m ws) (placed w more))

-- further words under a key at or above its own stay behind it
placed-more : (m : ℕ) (w : Keyed) (ls ws : List Keyed) → w.0 ≤ m →
    placed w ls ++ under m ws ≡ placed w (ls ++ under m ws)
placed-more m w [] ws h = sym (placed-under m w ws h)
placed-more m w (v ∷ vs) ws h = ⊎_elim
    (λ lt.
    ap (λ l. l ++ under m ws) (placed-behind w v vs lt)
    ∙ ap (λ l. v ∷ l) (placed-more m w vs ws h)
    ∙ sym (placed-behind w v (vs ++ under m ws) lt))
    (λ le. ap (λ l. l ++ under m ws) (placed-before w v vs le) ∙ sym (placed-before w v (vs ++ under m ws) le))
    (cases_lt v.0 w.0)

in_order-skip : (m : ℕ) (w : Keyed) (ws : List Keyed) → m ≤ w.0 → in_order key_of m (w ∷ ws) ≡ in_order key_of m ws
in_order-skip zero w ws h = refl
in_order-skip (suc m) w ws h =
    ap (λ l. l ++ under m (w ∷ ws)) (in_order-skip m w ws (omega arith))
    ∙ ap (λ l. in_order key_of m ws ++ l) (under-other m w ws (λ e. omega arith))

in_order-placed : (n : ℕ) (w : Keyed) (ws : List Keyed) → w.0 < n →
    in_order key_of n (w ∷ ws) ≡ placed w (in_order key_of n ws)
in_order-placed zero w ws h = absurd (omega arith)
in_order-placed (suc m) w ws h = ⊎_elim
    (λ e.
    ap (λ l. l ++ under m (w ∷ ws)) (in_order-skip m w ws (omega arith))
    ∙ ap (λ l. in_order key_of m ws ++ l) (under-here m w ws e ∙ sym (placed-under m w ws (omega arith)))
    ∙ sym (placed-past m w ws (under m ws) (omega arith)))
    (λ n.
    ap (λ l. l ++ under m (w ∷ ws)) (in_order-placed m w ws (omega arith))
    ∙ ap (λ l. placed w (in_order key_of m ws) ++ l) (under-other m w ws n)
    ∙ placed-more m w (in_order key_of m ws) ws (omega arith))
    (cases_eq w.0 m)

in_order-nil : (n : ℕ) → in_order key_of n [] ≡ []
in_order-nil zero = refl
in_order-nil (suc n) = ap (λ l. l ++ []) (in_order-nil n)

in_order-by_key : (n : ℕ) (ws : List Keyed) → above ws ≤ n → in_order key_of n ws ≡ by_key ws
in_order-by_key n [] h = in_order-nil n
in_order-by_key n (w ∷ ws) h = in_order-placed n w ws (omega arith) ∙ ap (placed w) (in_order-by_key n ws (omega arith))

pub ordered-by_key : (ws : List Keyed) → ordered ws ≡ map (λ w. w.1) (by_key ws)
ordered-by_key ws = ap (map (λ w. w.1)) (in_order-by_key (above ws) ws (omega arith))

-- any number above each key gives the same order
pub ordered-below : (n : ℕ) (ws : List Keyed) → above ws ≤ n → map (λ w. w.1) (in_order (λ w. w.0) n ws) ≡ ordered ws
ordered-below n ws h = ap (map (λ w. w.1)) (in_order-by_key n ws h) ∙ sym (ordered-by_key ws)
