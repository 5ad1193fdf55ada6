-- The close of a sparse round at a vertex makes the source's row.
use Rattle.std.proofs.Common.{◌≡◌, ◌<◌, ℕ, Bool, true, false, List, [], ◌∷◌, ◌++◌, length, refl, sym, ap, ◌∙◌}
use Rattle.std.specs.Prelude.{◌==◌, ◌&&◌, nat_le, nat_lt, take}
use Rattle.std.specs.List.{AllByRecursion, filter, flat_map, range_with_len}
use Rattle.std.proofs.lemmas.List.{length-map}
use Rattle.std.proofs.lemmas.List.Concat.{flat_map-append}
use Rattle.vert_base.specs.declared.graph.Edge.{Edge}
use Rattle.vert_base.specs.declared.value.Combine.{Combine}
use Rattle.vert_base.specs.declared.value.Ruling.TheVariants as ruling
use Rattle.vert_base.specs.Neighbours.{bucket, ins_of, source, target, turn_of, turned}
use Rattle.vert_base.proofs.Orders.{in_order_below, all_append}
use Rattle.graph_table.proofs.FilterLaws.{all_filter, all_true, all_weaker, filter_same, flat_map_same}
use Rattle.slot_merge.specs.Combine.{Emission, combined, slot_values, words_for}
use Rattle.vert_eval.specs.declared.environment.Env.{Env}
use Rattle.vert_eval.specs.Rounds.{emitted_over, env_at, gathered, members_of, slot_ops, sparse_part, updated}
use Rattle.symple_face.specs.CoreClose.{values_of}
use Rattle.symple_face.specs.CoreSight.{none, program_of}
use Rattle.symple_face.specs.CoreSparse.{key_of}
use Rattle.symple_face.specs.CoreTakes.{classes_of, reduced_ops, slot_count}
use Rattle.symple_face.specs.Sight.{seen_env}
use Rattle.round_laws.specs.SparseClose.{ClosesSparse, push_buckets}
use Rattle.round_laws.proofs.DenseRound.{words_for-joined}
use Rattle.round_laws.proofs.Keys.{keys_rise}
use Rattle.round_laws.proofs.Partials.{filled_first, slots_filled}
use Rattle.round_laws.proofs.Seen.{seen_environment}

-- joined lists joined
flat_map-flat_map : {X Y Z : Type 0} (g : Y → List Z) (f : X → List Y) (xs : List X) →
    flat_map g (flat_map f xs) ≡ flat_map (λ x. flat_map g (f x)) xs
flat_map-flat_map g f [] = refl
flat_map-flat_map g f (x ∷ xs) =
    flat_map-append g (f x) (flat_map f xs) ∙ ap (λ l. flat_map g (f x) ++ l) (flat_map-flat_map g f xs)

and_true : (b c : Bool) → c ≡ true → (b && c) ≡ b
and_true true c is = is
and_true false c is = refl

-- the sources of the members of a vertex are vertices
pub members_below : (n t v : ℕ) (edges : List Edge) → AllByRecursion (λ e. source e < n) (turned t (ins_of n edges v))
members_below n t v edges =
    let low : AllByRecursion (λ e. source e < n) (ins_of n edges v) =
    in_order_below source n (filter (λ e. target e == v) edges) in
    all_append (λ e. source e < n) (filter (λ e. nat_le t (source e)) (ins_of n edges v))
    (filter (λ e. nat_lt (source e) t) (ins_of n edges v))
    (all_filter (λ e. source e < n) (λ e. nat_le t (source e)) (ins_of n edges v) low)
    (all_filter (λ e. source e < n) (λ e. nat_lt (source e) t) (ins_of n edges v) low)

pub closes_sparse : ClosesSparse
closes_sparse split sparse g s v ps is all here low came each filled =
    let slots : List Combine = slot_ops (program_of split) in
    let many : length slots ≡ slot_count split = length-map (program_of split).slots.items (λ x. x.op) in
    let env : Env = env_at s v (none split) in
    let n : ℕ = s.graph.vertices in
    let t : ℕ = turn_of s.graph.ends v in
    let members : List Edge = members_of s.graph v in
    let emits : Edge → List Emission = emitted_over s slots sparse env in
    let key : Edge → ℕ = λ e. key_of n t (source e) in
    let source_emits : List Emission = (gathered (program_of split) ruling.Sparse s v).emitted in
    let there : source_emits ≡ flat_map emits members = ap (λ o. (sparse_part s slots o members env).emitted) is in
    let by_key : (j : ℕ) → flat_map (push_buckets split sparse s v came j) (range_with_len 0 n) ≡
    words_for j (flat_map emits members) =
    λ j. flat_map_same (push_buckets split sparse s v came j)
    (λ k. words_for j (flat_map emits (bucket key k members))) (range_with_len 0 n)
    (all_true _ (λ k. ap (λ l. words_for j (flat_map emits l))
    (filter_same (λ e. key e == k && came (source e)) (λ e. key e == k) members
    (all_weaker (λ e. source e < n) (λ e. (key e == k && came (source e)) ≡ (key e == k))
    (λ e lt. and_true (key e == k) (came (source e)) (each (source e) lt)) members
    (members_below n t v s.graph.edges)))) (range_with_len 0 n))
    ∙ sym (words_for-joined j (λ k. flat_map emits (bucket key k members)) (range_with_len 0 n))
    ∙ ap (words_for j) (sym (flat_map-flat_map emits (λ k. bucket key k members) (range_with_len 0 n))
    ∙ ap (flat_map emits) (keys_rise n t v s.graph.edges low)) in
    let values : values_of (take (slot_count split) ps) ≡ slot_values 0 slots source_emits =
    ap (λ k. values_of (take k ps)) (sym many)
    ∙ slots_filled slots (push_buckets split sparse s v came) n source_emits (take (length slots) ps)
    (filled_first 0 slots (reduced_ops (classes_of split.dense)) (push_buckets split sparse s v came) n ps filled)
    (λ j op at. ap (combined op) (by_key j ∙ ap (words_for j) (sym there))) in
    ap (λ xs. updated (program_of split).update.items (seen_env g v 0 xs)) values
    ∙ ap (updated (program_of split).update.items)
    (seen_environment g s v 0 (slot_values 0 slots source_emits) all here)
