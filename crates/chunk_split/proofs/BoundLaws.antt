-- Each chunk ends at the least vertex that gives it its share.
use Rattle.std.proofs.Common.{◌≡◌, ℕ, zero, suc, ◌+◌, ◌-◌, ◌*◌, ◌<◌, ◌≤◌, List, ◌∷◌, length, take, drop, sum, get_or, refl, ap, sym, subst, ◌∙◌, arith, ⊎_elim, length-drop}
use Rattle.std.specs.Int.{div_ceil}
use Rattle.std.proofs.lemmas.List.{drop_more, drop-drop}
use Rattle.std.proofs.lemmas.List.FromFn.{fill_by_all, get_or-map-range_with_len, length-map-range_with_len}
use Rattle.std.proofs.lemmas.Grind.{div_ceil_times}
use Rattle.std.proofs.lemmas.Bool.{cases_lt, cases_eq}
use Rattle.vert_base.specs.declared.graph.Edge.{Edge}
use Rattle.edge_reader.specs.EdgeList.{Graph}
use Rattle.graph_table.specs.Tables.{IsTableOf}
use Rattle.vert_base.specs.Ends.{start_of}
use Rattle.chunk_split.specs.Bounds.{AreBounds, IsLeast, cost_of, costs_of, ends_from, ends_of, reach}
use Rattle.chunk_split.proofs.ReachLaws.{reach_fewest, sum_step}
use Rattle.chunk_split.proofs.EndLaws.{ends_length}

-- each vertex costs something
abbrev pub Positive : List ℕ → Type 0
Positive costs = (k : ℕ) → k < length costs → 0 < get_or costs k 0

share_positive : (rest q : ℕ) → 0 < q → 0 < rest → 0 < div_ceil rest q
share_positive rest q some left =
    ⊎_elim
    (λ (none : div_ceil rest q ≡ 0).
    let most : rest ≤ div_ceil rest q * q = (div_ceil_times rest q some).0 in
    let nothing : rest ≤ 0 * q = subst (λ (d : ℕ). rest ≤ d * q) none most in
    absurd (omega arith))
    (λ (ne : div_ceil rest q ≡ 0 → ⊥).
    ⊎_elim
    (λ (low : div_ceil rest q < 1). let none : div_ceil rest q ≡ 0 = omega arith in absurd (ne none))
    (λ (high : 1 ≤ div_ceil rest q). omega arith)
    (cases_lt (div_ceil rest q) 1))
    (cases_eq (div_ceil rest q) 0)

rest_positive : (costs : List ℕ) (start : ℕ) → Positive costs → start < length costs → 0 < sum (drop start costs)
rest_positive costs start h lt =
    let first = h start lt in
    omega (
      arith,
      sum_step (get_or costs start 0) (drop start costs) (drop (start + 1) costs)
          (drop_more costs start 0 lt),
    )

-- the first chunk of q from `start` on
pub first_least : (q start : ℕ) (costs : List ℕ) → 0 < q → Positive costs → start ≤ length costs →
    let need = div_ceil (sum (drop start costs)) q in IsLeast need costs start (start + reach need (drop start costs))
first_least q start costs some positive le =
    let rest = drop start costs in
    let need = div_ceil (sum rest) q in
    let len = reach need rest in
    let fewest = reach_fewest need rest in
    let size : length rest ≡ length costs - start = length-drop start costs in
    let there : start + len - start ≡ len = omega arith in
    record {
      within = omega (arith, fewest.within);
      above = λ lt.
          ⊎_elim
          (λ (low : len < 1).
          let none : len ≡ 0 = omega arith in
          let inner : len < length rest = omega arith in
          let from : start < length costs = omega arith in
          let reached : need ≤ sum (take 0 rest) =
          subst (λ (n : ℕ). need ≤ sum (take n rest)) none (fewest.reached inner) in
          let more = share_positive (sum rest) q some (rest_positive costs start positive from) in
          absurd (omega arith))
          (λ (high : 1 ≤ len). omega arith)
          (cases_lt len 1);
      reached = λ lt.
          let inner : len < length rest = omega arith in
          subst (λ (n : ℕ). need ≤ sum (take n rest)) (sym there) (fewest.reached inner);
      least = λ k low high. let inner : k - start < len = omega arith in fewest.least (k - start) inner;
    }

-- where chunk i begins among those from `start` on
abbrev start_at : ℕ → List ℕ → ℕ → ℕ
start_at start ends zero = start
start_at start ends (suc i) = get_or ends i 0

start_shift : (end : ℕ) (ends : List ℕ) (i : ℕ) → get_or (end ∷ ends) i 0 ≡ start_at end ends i
start_shift end ends zero = refl
start_shift end ends (suc i) = refl

start_none : (ends : List ℕ) (i : ℕ) → start_of ends i ≡ start_at 0 ends i
start_none ends zero = refl
start_none ends (suc i) = refl

abbrev LeastAt : ℕ → List ℕ → ℕ → ℕ → Type 0
LeastAt q costs start e = IsLeast (div_ceil (sum (drop start costs)) q) costs start e

leasts : (i q start : ℕ) (costs : List ℕ) → Positive costs → start ≤ length costs → i + 1 < q →
    let ends = ends_from q start (drop start costs) in LeastAt (q - i) costs (start_at start ends i) (get_or ends i 0)
leasts i zero start costs positive le lt = absurd (omega arith)
leasts i (suc zero) start costs positive le lt = absurd (omega arith)
leasts zero (suc (suc p)) start costs positive le lt =
    let some : 0 < suc (suc p) = omega arith in
    let all : suc (suc p) - 0 ≡ suc (suc p) = omega arith in
    rw all (first_least (suc (suc p)) start costs some positive le)
leasts (suc i) (suc (suc p)) start costs positive le lt =
    let some : 0 < suc (suc p) = omega arith in
    let len = reach (div_ceil (sum (drop start costs)) (suc (suc p))) (drop start costs) in
    let end = start + len in
    let ends = ends_from (suc p) end (drop end costs) in
    let within : end ≤ length costs = (first_least (suc (suc p)) start costs some positive le).within in
    let inner : i + 1 < suc p = omega arith in
    let less : suc (suc p) - suc i ≡ suc p - i = omega arith in
    let same : ends_from (suc (suc p)) start (drop start costs) ≡ end ∷ ends =
    ap (λ ys. end ∷ ends_from (suc p) end ys) (drop-drop len start costs) in
    let more : LeastAt (suc p - i) costs (start_at end ends i) (get_or ends i 0) =
    leasts i (suc p) end costs positive within inner in
    let shifted : LeastAt (suc p - i) costs (get_or (end ∷ ends) i 0) (get_or ends i 0) =
    subst (λ (s : ℕ). LeastAt (suc p - i) costs s (get_or ends i 0)) (sym (start_shift end ends i)) more in
    let counted : LeastAt (suc (suc p) - suc i) costs (get_or (end ∷ ends) i 0) (get_or ends i 0) =
    subst (λ (q : ℕ). LeastAt q costs (get_or (end ∷ ends) i 0) (get_or ends i 0)) (sym less) shifted in
    subst (λ (ys : List ℕ). LeastAt (suc (suc p) - suc i) costs (get_or ys i 0) (get_or ys (suc i) 0)) (sym same)
    counted

pub ends_cover : (q start k : ℕ) (costs : List ℕ) → k + 1 ≡ q → get_or (ends_from q start costs) k 0 ≡ start
    + length costs
ends_cover zero start k costs e = absurd (omega arith)
ends_cover (suc zero) start k costs e = let first : k ≡ 0 = omega arith in rw first refl
ends_cover (suc (suc p)) start zero costs e = absurd (omega arith)
ends_cover (suc (suc p)) start (suc k) costs e =
    let need = div_ceil (sum costs) (suc (suc p)) in
    let len = reach need costs in
    let e' : k + 1 ≡ suc p = omega arith in
    omega (
      arith,
      ends_cover (suc p) (start + len) k (drop len costs) e',
      (reach_fewest need costs).within,
      length-drop len costs,
    )

-- the ends are those of `Bounds`
pub are_bounds : (p : ℕ) (costs ends : List ℕ) → 1 ≤ p → (2 ≤ p → Positive costs) → ends ≡ ends_from p 0 costs →
    AreBounds p costs ends
are_bounds p costs ends some positive e = record {
  count = ap length e ∙ ends_length p 0 costs;
  each = λ i lt.
      let two : 2 ≤ p = omega arith in
      let le : 0 ≤ length costs = omega arith in
      rw (start_none ends i, e) (leasts i p 0 costs (positive two) le lt);
  last =
      let one : p - 1 + 1 ≡ p = omega arith in
      let none : 0 + length costs ≡ length costs = omega arith in
      ap (λ ys. get_or ys (p - 1) 0) e ∙ (ends_cover p 0 (p - 1) costs one ∙ none);
}

pub costs_length : (p n : ℕ) (edges : List Edge) → length (costs_of p n edges) ≡ n
costs_length p n edges = length-map-range_with_len (cost_of p n edges) 0 n

pub costs_positive : (p n : ℕ) (edges : List Edge) → 2 ≤ p → Positive (costs_of p n edges)
costs_positive p n edges two = λ k lt.
    let below : k < n = omega (arith, costs_length p n edges) in
    omega (arith, get_or-map-range_with_len (cost_of p n edges) 0 n k k 0 below (omega arith))

-- a table gives its graph's ends
pub ends_same : (p n : ℕ) (edges : List Edge) (table : Graph) → IsTableOf n edges table →
    ends_of p n table.list ≡ ends_of p n edges
ends_same p n edges table h =
    ap (ends_from p 0)
    (fill_by_all (cost_of p n edges) (costs_of p n table.list) n 0 (costs_length p n table.list)
    (λ v lt. get_or-map-range_with_len (cost_of p n table.list) 0 n v v 0 lt (omega arith)
    ∙ ap (λ es. 8 * (p - 1) + length es) (h.outs v lt)))
