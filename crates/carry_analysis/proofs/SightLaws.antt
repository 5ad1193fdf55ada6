-- What was seen after some marks: none, one, or those of two parts.
use Rattle.std.proofs.Common.{◌≡◌, ◌<◌, ◌≤◌, ◌+◌, ℕ, zero, suc, Bool, true, false, ◌⊎◌, inl, inr, List, [], ◌∷◌, ◌++◌, length, get_or, set, refl, sym, ap, ◌∙◌, arith}
use Rattle.std.specs.Prelude.{if◌then◌else◌}
use Rattle.std.proofs.lemmas.List.{get_or_default, length-set}
use Rattle.std.proofs.lemmas.Bool.{cases_lt, eq-eqb, ne_eqb}
use Rattle.carry_analysis.specs.declared.seen.Use.{Use}
use Rattle.carry_analysis.specs.declared.seen.Seen.{Seen}
use Rattle.carry_analysis.specs.declared.seen.Seen.TheVariants.{Nowhere}
use Rattle.carry_analysis.specs.Classes.{Mark, Uses, Breaks, has_break, uses_of}
use Rattle.carry_analysis.specs.Walks.{Sight, seen_after, walk_after, with_mark, with_use}
use Rattle.carry_analysis.proofs.StatementMarks.{uses-append}

seen-append : (s : Seen) (us vs : List Use) → seen_after s (us ++ vs) ≡ seen_after (seen_after s us) vs
seen-append s [] vs = refl
seen-append s (u ∷ us) vs = seen-append (with_use s u) us vs

-- what was seen of the lets from this place on
abbrev pub lets_after : ℕ → List Seen → List Mark → List Seen
lets_after i [] ms = []
lets_after i (s ∷ ss) ms = seen_after s (uses_of i ms) ∷ lets_after (i + 1) ss ms

lets-append : (i : ℕ) (ss : List Seen) (a b : List Mark) → lets_after i ss (a ++ b) ≡ lets_after i (lets_after i ss a) b
lets-append i [] a b = refl
lets-append i (s ∷ ss) a b =
    ap (λ x. x ∷ lets_after (i + 1) ss (a ++ b))
    (ap (seen_after s) (uses-append i a b) ∙ seen-append s (uses_of i a) (uses_of i b))
    ∙ ap (λ l. seen_after (seen_after s (uses_of i a)) (uses_of i b) ∷ l) (lets-append (i + 1) ss a b)

pub lets-none : (i : ℕ) (ss : List Seen) → lets_after i ss [] ≡ ss
lets-none i [] = refl
lets-none i (s ∷ ss) = ap (λ l. s ∷ l) (lets-none (i + 1) ss)

pub lets-break : (i : ℕ) (ss : List Seen) → lets_after i ss (Breaks ∷ []) ≡ ss
lets-break i [] = refl
lets-break i (s ∷ ss) = ap (λ l. s ∷ l) (lets-break (i + 1) ss)

-- a let before this place
lets-before : (i j : ℕ) (ss : List Seen) (u : Use) → j < i → lets_after i ss (Uses j u ∷ []) ≡ ss
lets-before i j [] u lt = refl
lets-before i j (s ∷ ss) u lt =
    ap (λ t. seen_after s (if t then u ∷ [] else []) ∷ lets_after (i + 1) ss (Uses j u ∷ []))
    (ne_eqb i j (λ e. omega arith))
    ∙ ap (λ l. s ∷ l) (lets-before (i + 1) j ss u (omega arith))

-- a let behind them all
lets-behind : (i j : ℕ) (ss : List Seen) (u : Use) → i + length ss ≤ j → lets_after i ss (Uses j u ∷ []) ≡ ss
lets-behind i j [] u le = refl
lets-behind i j (s ∷ ss) u le =
    ap (λ t. seen_after s (if t then u ∷ [] else []) ∷ lets_after (i + 1) ss (Uses j u ∷ []))
    (ne_eqb i j (λ e. omega arith))
    ∙ ap (λ l. s ∷ l) (lets-behind (i + 1) j ss u (omega arith))

-- one of the lets
lets-at : (i j k : ℕ) (ss : List Seen) (u : Use) (d : Seen) → k ≡ i + j → j < length ss →
    lets_after i ss (Uses k u ∷ []) ≡ set ss j (with_use (get_or ss j d) u)
lets-at i j k [] u d e lt = absurd (omega arith)
lets-at i zero k (s ∷ ss) u d e lt =
    ap (λ t. seen_after s (if t then u ∷ [] else []) ∷ lets_after (i + 1) ss (Uses k u ∷ [])) (eq-eqb i k (omega arith))
    ∙ ap (λ l. with_use s u ∷ l) (lets-before (i + 1) k ss u (omega arith))
lets-at i (suc j) k (s ∷ ss) u d e lt =
    ap (λ t. seen_after s (if t then u ∷ [] else []) ∷ lets_after (i + 1) ss (Uses k u ∷ []))
    (ne_eqb i k (λ f. omega arith))
    ∙ ap (λ l. s ∷ l) (lets-at (i + 1) j k ss u d (omega arith) (omega arith))

set-behind : (ss : List Seen) (i : ℕ) (x : Seen) → length ss ≤ i → set ss i x ≡ ss
set-behind [] i x le = refl
set-behind (s ∷ ss) zero x le = absurd (omega arith)
set-behind (s ∷ ss) (suc i) x le = ap (λ l. s ∷ l) (set-behind ss i x (omega arith))

abbrev pub sight : List Seen → Bool → Sight
sight ss t = record { lets = ss; breaks = t }

pub after-append : (s : Sight) (a b : List Mark) → walk_after s (a ++ b) ≡ walk_after (walk_after s a) b
after-append s [] b = refl
after-append s (m ∷ a) b = after-append (with_mark s m) a b

pub after-use : (s : Sight) (i : ℕ) (u : Use) (d : Seen) → i < length s.lets →
    sight (set s.lets i (with_use (get_or s.lets i d) u)) s.breaks ≡ walk_after s (Uses i u ∷ [])
after-use s i u d lt = ap (λ x. sight (set s.lets i (with_use x u)) s.breaks) (get_or_default s.lets i d Nowhere lt)

pub after-other : (s : Sight) (i : ℕ) (u : Use) → length s.lets ≤ i → s ≡ walk_after s (Uses i u ∷ [])
after-other s i u le = sym (ap (λ l. sight l s.breaks) (set-behind s.lets i (with_use (get_or s.lets i Nowhere) u) le))

-- one more mark, let by let
one-mark : (s : Sight) (m : Mark) → (with_mark s m).lets ≡ lets_after 0 s.lets (m ∷ [])
one-mark s (Uses i u) = by (cases_lt i (length s.lets))
  where
    by : (i < length s.lets) ⊎ (length s.lets ≤ i) →
        set s.lets i (with_use (get_or s.lets i Nowhere) u) ≡ lets_after 0 s.lets (Uses i u ∷ [])
    by (inl lt) = sym (lets-at 0 i i s.lets u Nowhere (omega arith) lt)
    by (inr le) = set-behind s.lets i (with_use (get_or s.lets i Nowhere) u) le
        ∙ sym (lets-behind 0 i s.lets u (omega arith))
one-mark s Breaks = sym (lets-break 0 s.lets)

pub lets-seen : (s : Sight) (ms : List Mark) → (walk_after s ms).lets ≡ lets_after 0 s.lets ms
lets-seen s [] = sym (lets-none 0 s.lets)
lets-seen s (m ∷ ms) =
    lets-seen (with_mark s m) ms
    ∙ ap (λ l. lets_after 0 l ms) (one-mark s m)
    ∙ sym (lets-append 0 s.lets (m ∷ []) ms)

stays : (s : Sight) (ms : List Mark) → s.breaks ≡ true → (walk_after s ms).breaks ≡ true
stays s [] e = e
stays s (m ∷ ms) e = stays (with_mark s m) ms (kept m)
  where
    kept : (m : Mark) → (with_mark s m).breaks ≡ true
    kept (Uses i u) = e
    kept Breaks = refl

pub break-seen : (s : Sight) (ms : List Mark) → s.breaks ≡ false → (walk_after s ms).breaks ≡ has_break ms
break-seen s [] e = e
break-seen s (Uses i u ∷ ms) e = break-seen (with_mark s (Uses i u)) ms e
break-seen s (Breaks ∷ ms) e = stays (with_mark s Breaks) ms refl

-- a walk keeps the number of lets
pub after-length : (s : Sight) (ms : List Mark) → length (walk_after s ms).lets ≡ length s.lets
after-length s [] = refl
after-length s (Uses i u ∷ ms) =
    after-length (with_mark s (Uses i u)) ms ∙ length-set s.lets i (with_use (get_or s.lets i Nowhere) u)
after-length s (Breaks ∷ ms) = after-length (with_mark s Breaks) ms
