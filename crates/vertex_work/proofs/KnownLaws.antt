-- Where the degrees of a chunk's vertices stand among those that a part holds.
use Rattle.std.proofs.Common.{◌≡◌, ℕ, zero, suc, ◌+◌, ◌-◌, ◌<◌, ◌≤◌, true, false, cond, List, [], ◌∷◌, ◌++◌, length, get_or, map, take, drop, refl, ap, sym, subst, ◌∙◌, arith}
use Rattle.std.specs.Prelude.{◌==◌, if◌then◌else◌, slice_index, slice_index_or}
use Rattle.std.specs.List.{flat_map, range_with_len}
use Rattle.std.specs.List.Sorted.{IsStrictlyIncreasing}
use Rattle.std.proofs.lemmas.Bool.{eq-eqb, ne_eqb}
use Rattle.std.proofs.lemmas.List.{get_or-append-add, get_or_append_left, get_or-drop, get_or-map, get_or-take, length-append, length-drop, length-map, length-take-le}
use Rattle.std.proofs.lemmas.List.Concat.{flat_map-append}
use Rattle.std.proofs.lemmas.List.FromFn.{get_or-range_with_len, length-range_with_len}
use Rattle.chunk_split.specs.Chunks.{AreEnds, vertices_of}
use Rattle.circulant_plan.proofs.SpanLaws.{range_split}
use Rattle.graph_table.proofs.FilterLaws.{map-map, map_itself}
use Rattle.vert_base.specs.declared.limits.TheConstants.{VERTICES}
use Rattle.vert_base.specs.declared.graph.VertexId.{VertexId}
use Rattle.vert_base.specs.Ends.{start_of}
use Rattle.vert_base.specs.Neighbours.{target}
use Rattle.symple_face.specs.declared.degree.Degree.{Degree}
use Rattle.symple_face.specs.CoreSight.{degree_among, degree_of}
use Rattle.symple_face.specs.Parts.{IsPart, PlainPart, chunk_vertices, degree_in, edges_between, known_vertices, refresh_list}
use Rattle.symple_face.specs.PartsOf.{known_of}
use Rattle.symple_face.proofs.ChunkLaws.{chunk_rises, chunk_within}
use Rattle.symple_face.proofs.ListLaws.{ends_met_few, other_list}
use Rattle.mirror_table.proofs.AscendLaws.{degrees_ascend}
use Rattle.machine_parts.specs.Neighbours.{no_degree}
use Rattle.vertex_work.specs.Known.{AreDegreesOf, known_in}

-- ---- degrees in the order of their ids
next_is : (xs : List ℕ) → IsStrictlyIncreasing xs → (i j : ℕ) → j ≡ suc i → j < length xs →
    get_or xs i 0 < get_or xs j 0
next_is xs up i j e lt =
    let one : suc i ≡ i + 1 = omega arith in
    subst (λ (k : ℕ). get_or xs i 0 < get_or xs k 0) (sym (e ∙ one)) (up i (omega arith))

-- the first is below each later one
first_below : (xs : List ℕ) → IsStrictlyIncreasing xs → (i : ℕ) → suc i < length xs →
    get_or xs 0 0 < get_or xs (suc i) 0
first_below xs up zero lt = next_is xs up 0 1 refl lt
first_below xs up (suc i) lt =
    let a : get_or xs 0 0 < get_or xs (suc i) 0 = first_below xs up i (omega arith) in
    let b : get_or xs (suc i) 0 < get_or xs (suc (suc i)) 0 = next_is xs up (suc i) (suc (suc i)) refl lt in
    omega arith

later_up : (x : ℕ) (xs : List ℕ) → IsStrictlyIncreasing (x ∷ xs) → IsStrictlyIncreasing xs
later_up x xs up k lt =
    let e : k + 1 ≡ suc k = omega arith in
    let h : get_or xs k 0 < get_or (x ∷ xs) (suc (k + 1)) 0 = next_is (x ∷ xs) up (suc k) (suc (k + 1)) (ap suc e)
    (omega arith) in
    h

-- each is found by its id
found_at : (ds : List Degree) (i : ℕ) → i < length ds → IsStrictlyIncreasing (map (λ (d : Degree). d.id.0) ds) →
    degree_among ds (get_or ds i no_degree).id.0 ≡ get_or ds i no_degree
found_at [] i lt up = absurd (omega arith)
found_at (d ∷ ds) zero lt up = ap (λ b. if b then d else degree_among ds d.id.0) (eq-eqb d.id.0 d.id.0 refl)
found_at (d ∷ ds) (suc i) lt up =
    let u : ℕ = (get_or ds i no_degree).id.0 in
    let some : i < length ds = omega arith in
    let xs : List ℕ = map (λ (d : Degree). d.id.0) ds in
    let here : get_or xs i 0 ≡ u = get_or-map (λ (d : Degree). d.id.0) ds i no_degree 0 some in
    let below : d.id.0 < get_or xs i 0 =
    first_below (d.id.0 ∷ xs) up i (omega (arith, length-map ds (λ (d : Degree). d.id.0))) in
    ap (λ b. if b then d else degree_among ds u) (ne_eqb d.id.0 u (λ e. omega arith))
    ∙ found_at ds i some (later_up d.id.0 xs up)

-- ---- chunk by chunk
module _ (part : PlainPart) (is : IsPart part) where
  -- a list of vertices whose rows another machine tells
  pub mirrors_known : (k : ℕ) (list : List VertexId) → k < part.at.machines → (k == part.at.machine) ≡ false →
      map (λ v. v.0) list ≡ slice_index_or part.refresh_of k [] →
      length list ≡ length (known_in part k)
  mirrors_known k list lt other here =
      sym (length-map list (λ v. v.0))
      ∙ ap length
      (here
      ∙ ap (λ ls. slice_index_or ls k []) is.refresh_of
      ∙ other_list part.at.machines part.at.machine k (λ k. refresh_list part.ends k part.at.machine part.scan) lt other
      ∙ ap (λ b. if b then chunk_vertices part.ends k else refresh_list part.ends k part.at.machine part.scan)
      (sym other))

  pub own_known : (k : ℕ) → k ≡ part.at.machine →
      length (chunk_vertices part.ends part.at.machine) ≡ length (known_in part k)
  own_known k e =
      ap (λ m. length (chunk_vertices part.ends m)) (sym e)
      ∙ ap (λ b. length (if b then chunk_vertices part.ends k else refresh_list part.ends k part.at.machine part.scan))
      (sym (eq-eqb k part.at.machine e))

  module _ (ends : AreEnds 64 part.ends) where
    pub start_few : part.at.machine < part.at.machines → start_of part.ends part.at.machine ≤ VERTICES
    start_few lt =
        let count = is.machine in
        let a = chunk_rises 64 part.ends ends part.at.machine (omega arith) in
        let b = chunk_within 64 part.ends ends part.at.machine (omega arith) in
        let c = is.within in
        omega arith

    chunk_few : (k : ℕ) → k < part.at.machines → length (chunk_vertices part.ends k) ≤ VERTICES
    chunk_few k lt =
        let count = is.machine in
        let b = chunk_within 64 part.ends ends k (omega arith) in
        let c = is.within in
        omega (arith, length-range_with_len (start_of part.ends k) (slice_index part.ends k - start_of part.ends k))

    list_few : (k : ℕ) → length (refresh_list part.ends k part.at.machine part.scan) ≤ VERTICES
    list_few k =
        let c = is.within in
        omega (
          arith,
          ends_met_few target (vertices_of part.ends)
              (edges_between part.ends part.at.machine k part.scan),
        )

    pub known_few : (k : ℕ) → k < part.at.machines → length (known_in part k) ≤ VERTICES
    known_few k lt =
        elim (k == part.at.machine) as (λ b. length (cond b (chunk_vertices part.ends k)
        (refresh_list part.ends k part.at.machine part.scan)) ≤ VERTICES)
        [ true ↦ chunk_few k lt | false ↦ list_few k ]

    known_up : IsStrictlyIncreasing (known_vertices part)
    known_up =
        let edges = part.scan in
        let made = known_of part.ends edges part.at.machine in
        let same : map (λ (d : Degree). d.id.0) (map (degree_in edges edges) made) ≡ made =
        map-map (λ (d : Degree). d.id.0) (degree_in edges edges) made ∙ map_itself made in
        let counted : made ≡ known_vertices part =
        ap (λ n. flat_map (known_in part) (range_with_len 0 n)) (sym is.machine) in
        subst (λ (xs : List ℕ). IsStrictlyIncreasing xs) (same ∙ counted)
        (degrees_ascend 64 part.ends part.draws edges part.at.machine ends)

    module _ (k : ℕ) (lt : k < part.at.machines) where
      abbrev before : List ℕ
      before = flat_map (known_in part) (range_with_len 0 k)

      abbrev behind : List ℕ
      behind = flat_map (known_in part) (range_with_len (k + 1) (part.at.machines - (k + 1)))

      cut : known_vertices part ≡ before ++ (known_in part k ++ behind)
      cut =
          let rest : ℕ = part.at.machines - (k + 1) in
          let e : part.at.machines ≡ k + suc rest = omega arith in
          ap (λ n. flat_map (known_in part) (range_with_len 0 n)) e
          ∙ ap (flat_map (known_in part)) (range_split k (suc rest) 0 k (omega arith))
          ∙ flat_map-append (known_in part) (range_with_len 0 k) (k ∷ range_with_len (k + 1) rest)

      pub enough : length before + length (known_in part k) ≤ length part.degrees
      enough =
          let all = sym (length-map part.degrees (λ (d : Degree). d.id.0)) ∙ ap length (is.known ∙ cut)
          ∙ length-append before (known_in part k ++ behind) in
          omega (arith, length-append (known_in part k) behind)

      stands_at : (i : ℕ) → i < length (known_in part k) →
          get_or part.degrees (length before + i) no_degree ≡ degree_of part (get_or (known_in part k) i 0)
      stands_at i low =
          let ds : List Degree = part.degrees in
          let place : ℕ = length before + i in
          let fits = enough in
          let there : place < length ds = omega arith in
          let id : (get_or ds place no_degree).id.0 ≡ get_or (known_in part k) i 0 =
          sym (get_or-map (λ (d : Degree). d.id.0) ds place no_degree 0 there)
          ∙ ap (λ xs. get_or xs place 0) (is.known ∙ cut)
          ∙ get_or-append-add before (known_in part k ++ behind) i 0
          ∙ get_or_append_left (known_in part k) behind 0 i low in
          let up : IsStrictlyIncreasing (map (λ (d : Degree). d.id.0) ds) =
          subst (λ (xs : List ℕ). IsStrictlyIncreasing xs) (sym is.known) known_up in
          sym (found_at ds place there up) ∙ ap (degree_among ds) id

      pub degrees_stand : (a n : ℕ) → a ≡ length before → n ≡ length (known_in part k) →
          AreDegreesOf part (known_in part k) (take n (drop a part.degrees))
      degrees_stand a n is_before is_count =
          let fits = enough in
          record {
            each = length-take-le n (drop a part.degrees) (omega (arith, length-drop a part.degrees)) ∙ is_count;
            at = λ i low.
                get_or-take n (drop a part.degrees) i no_degree (omega arith)
                ∙ get_or-drop a part.degrees i no_degree
                ∙ ap (λ b. get_or part.degrees (b + i) no_degree) is_before
                ∙ stands_at i low;
          }

pub own_in : (part : PlainPart) (m : ℕ) → m ≡ part.at.machine →
    known_in part m ≡ chunk_vertices part.ends part.at.machine
own_in part m same =
    ap (λ b. if b then chunk_vertices part.ends m else refresh_list part.ends m part.at.machine part.scan)
    (eq-eqb m part.at.machine same)
    ∙ ap (chunk_vertices part.ends) same

-- the degrees of the own vertices, by their places
pub own_is_known : (part : PlainPart) (m : ℕ) (degrees : List Degree) (i : ℕ) → m ≡ part.at.machine →
    AreDegreesOf part (known_in part m) degrees → i < length (chunk_vertices part.ends part.at.machine) →
    get_or degrees i no_degree ≡ degree_of part (start_of part.ends part.at.machine + i)
own_is_known part m degrees i same are low =
    let a : ℕ = start_of part.ends part.at.machine in
    let n : ℕ = slice_index part.ends part.at.machine - a in
    let own = own_in part m same in
    are.at i (omega (arith, ap length own, low))
    ∙ ap (λ vs. degree_of part (slice_index vs i)) own
    ∙ ap (degree_of part) (get_or-range_with_len a n i 0 (omega (arith, low, length-range_with_len a n)))
