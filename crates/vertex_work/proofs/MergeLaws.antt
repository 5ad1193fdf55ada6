-- The own vertices of which other machines are told, and what their updates tell.
use Rattle.std.proofs.Common.{◌≡◌, ℕ, zero, suc, ◌+◌, ◌-◌, ◌<◌, ◌≤◌, Bool, true, false, List, [], ◌∷◌, ◌++◌, None, length, get_or, map, refl, ap, sym, subst, ◌∙◌, arith, ⊎_elim, replicate}
use Rattle.std.specs.Prelude.{◌==◌, if◌then◌else◌, slice_index, slice_index_or}
use Rattle.std.specs.List.{All, filter, range_with_len}
use Rattle.std.specs.List.Sorted.{IsNonDecreasingBy, IsStrictlyIncreasing}
use Rattle.std.proofs.lemmas.Bool.{cases_eq, cases_lt}
use Rattle.std.proofs.lemmas.List.{get_or-map, length-map}
use Rattle.std.proofs.lemmas.List.Elements.{All-filter}
use Rattle.std.proofs.lemmas.List.FromFn.{get_or-map-range_with_len, get_or-range_with_len, length-range_with_len}
use Rattle.std.proofs.lemmas.List.Kept.{AllPairs-from_increasing, IsStrictlyIncreasing-filter}
use Rattle.std.proofs.Math.ListN.{get_or-eq_default}
use Rattle.chunk_split.specs.Chunks.{AreEnds}
use Rattle.graph_table.proofs.FilterLaws.{all_true, map_same}
use Rattle.vert_base.specs.declared.graph.VertexId.{VertexId}
use Rattle.vert_base.specs.declared.message.Name.{Name}
use Rattle.vert_base.specs.Ends.{start_of}
use Rattle.slot_merge.specs.declared.partial.Partial.{Partial}
use Rattle.body_shape.specs.Update.{Sent, sents_read}
use Rattle.symple_face.specs.CoreSight.{beside, is_within, own_vertices, those_within}
use Rattle.symple_face.specs.CoreTakes.{slot_count, unsent, update_list, update_of, with_sent, with_update, with_values}
use Rattle.symple_face.specs.Parts.{IsPart, PlainPart, chunk_vertices, for_others, refresh_list}
use Rattle.symple_face.specs.Shapes.{reduced_in}
use Rattle.symple_face.specs.State.{State, machine}
use Rattle.round_laws.proofs.Vertices.{refreshed_law}
use Rattle.round_laws.specs.Vertices.{are_some, members_at}
use Rattle.work_laws.proofs.Partials.{IsAmong, over_range}
use Rattle.machine_parts.specs.Neighbours.{ArePlaced}
use Rattle.machine_parts.specs.Updates.{nothing, with_sents}
use Rattle.vertex_work.specs.Known.{number}

-- ---- lists of some of the own vertices
-- those of a list that pass a test
pub record AreSome (all list : List ℕ) : Type 0 where
  pub test : ℕ → Bool
  pub kept : list ≡ filter test all

none_pass : (xs : List ℕ) → [] ≡ filter (λ v. false) xs
none_pass [] = refl
none_pass (x ∷ xs) = none_pass xs

-- a range ascends
pub range_up : (a n : ℕ) → IsStrictlyIncreasing (range_with_len a n)
range_up a n k lt =
    let inside : k + 1 < n = omega (arith, length-range_with_len a n) in
    omega (arith, get_or-range_with_len a n k 0 (omega arith), get_or-range_with_len a n (k + 1) 0 inside)

pub within_up : (range : ℕ × ℕ) (xs : List ℕ) → IsStrictlyIncreasing xs → IsStrictlyIncreasing (those_within range xs)
within_up range xs up = IsStrictlyIncreasing-filter (is_within range) xs up

pub within_from : (a n : ℕ) (range : ℕ × ℕ) (xs : List ℕ) → All (IsAmong a n) xs →
    All (IsAmong a n) (those_within range xs)
within_from a n range xs all = All-filter (is_within range) (IsAmong a n) xs all

module _ (a n : ℕ) (list : List ℕ) (some : AreSome (range_with_len a n) list) where
  some_up : IsStrictlyIncreasing list
  some_up = subst (λ (xs : List ℕ). IsStrictlyIncreasing xs) (sym some.kept)
      (IsStrictlyIncreasing-filter some.test (range_with_len a n) (range_up a n))

  some_from : All (IsAmong a n) list
  some_from = subst (All (IsAmong a n)) (sym some.kept)
      (All-filter some.test (IsAmong a n) (range_with_len a n)
      (over_range (IsAmong a n) a n (λ v low high. (low, high))))

-- ---- vertices by their numbers
pub up_by : (vs : List VertexId) → IsStrictlyIncreasing (map number vs) → IsNonDecreasingBy number vs
up_by vs up i j d le lt =
    ⊎_elim
    (λ (same : i ≡ j). let here : number (get_or vs i d) ≡ number (get_or vs j d) =
    ap (λ k. number (get_or vs k d)) same in omega arith)
    (λ (other : i ≡ j → ⊥).
    let low : i < j = omega arith in
    let within : j < length (map number vs) = omega (arith, length-map vs number) in
    let above = AllPairs-from_increasing (map number vs) up i j 0 low within in
    omega (arith, above, get_or-map number vs i d 0 (omega arith), get_or-map number vs j d 0 lt))
    (cases_eq i j)

pub placed_by : (a n : ℕ) (vs : List VertexId) → All (IsAmong a n) (map number vs) → ArePlaced a n vs
placed_by a n vs all k d lt =
    let h = all k 0 (omega (arith, length-map vs number)) in
    let here : get_or (map number vs) k 0 ≡ number (get_or vs k d) = get_or-map number vs k d 0 lt in
    let low = h.0 in
    let high = h.1 in
    (omega arith, omega arith)

-- ---- what other machines are told of
module _ (part : PlainPart) (is : IsPart part) (ends : AreEnds 64 part.ends)
    (place : part.at.machine < part.at.machines) where
  abbrev own : List ℕ
  own = chunk_vertices part.ends part.at.machine

  abbrev told : ℕ → List ℕ
  told k = refresh_list part.ends part.at.machine k part.push

  told_some : (k : ℕ) → k < part.at.machines → AreSome own (told k)
  told_some k lt = record {
    test = λ v. are_some (members_at part.ends part.push k v);
    kept = refreshed_law 64 part.ends part.push part.at.machine k ends (omega (arith, is.machine, place))
        (omega (arith, is.machine, lt));
  }

  other_some : (b : Bool) (list : List ℕ) → AreSome own list → AreSome own (if b then [] else list)
  other_some true list some = record { test = λ v. false; kept = none_pass own }
  other_some false list some = some

  pub refresh_some : (k : ℕ) → AreSome own (slice_index_or part.refresh_to k [])
  refresh_some k =
      subst (λ (ls : List (List ℕ)). AreSome own (slice_index_or ls k [])) (sym is.refresh_to)
      (⊎_elim
      (λ (lt : k < part.at.machines).
      subst (λ (xs : List ℕ). AreSome own xs)
      (sym (get_or-map-range_with_len (λ k. if k == part.at.machine then [] else told k) 0 part.at.machines k k [] lt
      (omega arith)))
      (other_some (k == part.at.machine) (told k) (told_some k lt)))
      (λ (past : part.at.machines ≤ k).
      subst (λ (xs : List ℕ). AreSome own xs)
      (sym (get_or-eq_default (for_others part.at.machines part.at.machine told) [] (omega (
        arith,
        length-map (range_with_len 0 part.at.machines) (λ k. if k == part.at.machine then [] else told k),
        length-range_with_len 0 part.at.machines,
      ))))
      (record { test = λ v. false; kept = none_pass own }))
      (cases_lt k part.at.machines))

  pub refresh_up : (k : ℕ) → IsStrictlyIncreasing (slice_index_or part.refresh_to k [])
  refresh_up k = some_up (start_of part.ends part.at.machine)
      (slice_index part.ends part.at.machine - start_of part.ends part.at.machine)
      (slice_index_or part.refresh_to k []) (refresh_some k)

  pub refresh_from : (k : ℕ) → All (IsAmong (start_of part.ends part.at.machine) (length own))
      (slice_index_or part.refresh_to k [])
  refresh_from k =
      let a = start_of part.ends part.at.machine in
      let n = slice_index part.ends part.at.machine - a in
      subst (λ (c : ℕ). All (IsAmong a c) (slice_index_or part.refresh_to k [])) (sym (length-range_with_len a n))
      (some_from a n (slice_index_or part.refresh_to k []) (refresh_some k))

-- ---- what an update tells
none_added : (key m n : ℕ) (ps : List Partial) → with_values key (replicate m None ++ replicate n None) ps ≡ ps
none_added key zero zero ps = refl
none_added key zero (suc n) [] = refl
none_added key zero (suc n) (p ∷ ps) = ap (λ qs. p ∷ qs) (none_added key zero n ps)
none_added key (suc m) n [] = refl
none_added key (suc m) n (p ∷ ps) = ap (λ qs. p ∷ qs) (none_added key m n ps)

nothing_told : (s : State) (key v : ℕ) (vs : List ℕ) (sents : List Sent) (ps : List Partial) →
    with_sent key (beside nothing v vs sents) ps ≡ with_sent key (beside (unsent s.split) v vs sents) ps
nothing_told s key v [] sents ps = sym (none_added key (slot_count s.split) (length (reduced_in s.split.dense)) ps)
nothing_told s key v (u ∷ us) [] ps = sym (none_added key (slot_count s.split) (length (reduced_in s.split.dense)) ps)
nothing_told s key v (u ∷ us) (x ∷ xs) ps =
    elim (u == v) as (λ b. with_sent key (if b then x else beside nothing v us xs) ps
    ≡ with_sent key (if b then x else beside (unsent s.split) v us xs) ps)
    [ true ↦ refl | false ↦ nothing_told s key v us xs ps ]

pub update_told : (s : State) (x : Name) (body vs : List ℕ) (all : List (List Partial)) →
    vs ≡ update_list s x.from x.half → s.partials ≡ all → length all ≡ length (own_vertices s) →
    with_sents (start_of s.part.ends (machine s)) x.step vs
    (sents_read (slot_count s.split) (length (reduced_in s.split.dense)) (length vs) body) all
    ≡ with_update s x body
update_told s x body vs all list is count =
    let a = start_of s.part.ends (machine s) in
    let n = slice_index s.part.ends (machine s) - a in
    let read : List ℕ → List Sent = λ us.
    sents_read (slot_count s.split) (length (reduced_in s.split.dense)) (length us) body in
    ap (λ us. with_sents a x.step us (read us) all) list
    ∙ ap (λ c. map (λ v. with_sent x.step (beside nothing v (update_list s x.from x.half)
    (read (update_list s x.from x.half))) (slice_index_or all (v - a) [])) (range_with_len a c))
    (count ∙ length-range_with_len a n)
    ∙ ap (λ ps. map (λ v. with_sent x.step (beside nothing v (update_list s x.from x.half)
    (read (update_list s x.from x.half))) (slice_index_or ps (v - a) [])) (own_vertices s)) (sym is)
    ∙ map_same (λ v. with_sent x.step (beside nothing v (update_list s x.from x.half)
    (read (update_list s x.from x.half))) (slice_index_or s.partials (v - a) []))
    (λ v. with_sent x.step (update_of s x body v) (slice_index_or s.partials (v - a) [])) (own_vertices s)
    (all_true (λ v. with_sent x.step (beside nothing v (update_list s x.from x.half)
    (read (update_list s x.from x.half))) (slice_index_or s.partials (v - a) [])
    ≡ with_sent x.step (update_of s x body v) (slice_index_or s.partials (v - a) []))
    (λ v. nothing_told s x.step v (update_list s x.from x.half) (read (update_list s x.from x.half))
    (slice_index_or s.partials (v - a) [])) (own_vertices s))

-- the same by what a machine holds in its place
module _ (s : State) (x : Name) (body : List ℕ) (list : List VertexId) (all : List (List Partial))
    (start key slots reduced : ℕ) where
  pub merged_told : start ≡ start_of s.part.ends (machine s) → key ≡ x.step → slots ≡ slot_count s.split →
      reduced ≡ length (reduced_in s.split.dense) → map number list ≡ update_list s x.from x.half →
      s.partials ≡ all → length all ≡ length (own_vertices s) →
      with_sents start key (map number list) (sents_read slots reduced (length list) body) all ≡ with_update s x
      body
  merged_told starts keyed is_slots is_reduced here is count =
      ap (λ a. with_sents a key (map number list) (sents_read slots reduced (length list) body) all) starts
      ∙ ap (λ k. with_sents (start_of s.part.ends (machine s)) k (map number list)
      (sents_read slots reduced (length list) body) all) keyed
      ∙ ap (λ n. with_sents (start_of s.part.ends (machine s)) x.step (map number list)
      (sents_read n reduced (length list) body) all) is_slots
      ∙ ap (λ n. with_sents (start_of s.part.ends (machine s)) x.step (map number list)
      (sents_read (slot_count s.split) n (length list) body) all) is_reduced
      ∙ ap (λ n. with_sents (start_of s.part.ends (machine s)) x.step (map number list)
      (sents_read (slot_count s.split) (length (reduced_in s.split.dense)) n body) all) (sym (length-map list number))
      ∙ update_told s x body (map number list) all here is count
