use Rattle.std.proofs.Common.{◌≡◌, ◌∙◌, ℕ, ap, sym, subst, length, map, List}
use Rattle.std.specs.List.{All}
use Rattle.std.specs.List.Sorted.{IsStrictlyIncreasing}
use Rattle.std.specs.Prelude.{slice_index_or, []}
use Rattle.flat_table.specs.Grids.{Rows}
use Rattle.slot_merge.specs.declared.partial.Partial.{Partial}
use Rattle.symple_face.specs.CoreSight.{those_within}
use Rattle.symple_face.specs.CoreTakes.{slot_count}
use Rattle.symple_face.specs.Parts.{PlainPart, chunk_vertices, lists_of}
use Rattle.symple_face.specs.PartViews.{plain_of}
use Rattle.symple_face.specs.Shapes.{half_in, reduced_in}
use Rattle.instrument.specs.declared.split.Split.{Split}
use Rattle.vert_base.specs.Ends.{start_of}
use Rattle.machine_parts.specs.Neighbours.{ArePlaced}
use Rattle.vertex_work.specs.Known.{number}
use Rattle.work_laws.proofs.Partials.{IsAmong}
use Rattle.vertex_work.proofs.MergeLaws.{merged_told, placed_by, refresh_from, refresh_up, up_by, within_from, within_up}
use Rattle.vertex_work.proofs.updates.add_update.Goals as goal

pub vertices_within-list-requires : goal.vertices_within-list-requires
vertices_within-list-requires c =
    let can = c.args.ground.now.can in
    let part = plain_of c.args.ground.now.part in
    let told : map number c.list_at-told.result.now ≡ slice_index_or part.refresh_to c.args.name.now.from [] =
    c.list_at-told.ensures ∙ ap (λ ls. slice_index_or (lists_of ls) c.args.name.now.from []) c.deref.ensures.value in
    up_by c.list_at-told.result.now
    (subst (λ (xs : List ℕ). IsStrictlyIncreasing xs) (sym told)
    (refresh_up part can.whole can.ends can.place c.args.name.now.from))

pub merge_update-requires-clause-placed : goal.merge_update-requires-clause-placed
merge_update-requires-clause-placed c =
    let can = c.args.ground.now.can in
    let part = plain_of c.args.ground.now.part in
    let k = c.args.name.now.from in
    let a = start_of part.ends part.at.machine in
    let n = length (chunk_vertices part.ends part.at.machine) in
    let told : map number c.list_at-told.result.now ≡ slice_index_or part.refresh_to k [] =
    c.list_at-told.ensures ∙ ap (λ ls. slice_index_or (lists_of ls) k []) c.deref.ensures.value in
    let list = c.vertices_within-list.result.now in
    let within : map number list ≡ those_within c.half.result (slice_index_or part.refresh_to k []) =
    c.vertices_within-list.ensures ∙ ap (those_within c.half.result) told in
    let all : All (IsAmong a n) (map number list) =
    subst (All (IsAmong a n)) (sym within) (within_from a n c.half.result (slice_index_or part.refresh_to k [])
    (refresh_from part can.whole can.ends can.place k)) in
    subst (λ (b : ℕ). ArePlaced b (length c.args.partials.now.rows) list) (sym c.start.ensures.start)
    (subst (λ (b : ℕ). ArePlaced a b list) (sym c.requires.count) (placed_by a n list all))

pub merge_update-requires-clause-order : goal.merge_update-requires-clause-order
merge_update-requires-clause-order c =
    let can = c.args.ground.now.can in
    let part = plain_of c.args.ground.now.part in
    let k = c.args.name.now.from in
    let told : map number c.list_at-told.result.now ≡ slice_index_or part.refresh_to k [] =
    c.list_at-told.ensures ∙ ap (λ ls. slice_index_or (lists_of ls) k []) c.deref.ensures.value in
    let list = c.vertices_within-list.result.now in
    let within : map number list ≡ those_within c.half.result (slice_index_or part.refresh_to k []) =
    c.vertices_within-list.ensures ∙ ap (those_within c.half.result) told in
    subst (λ (xs : List ℕ). IsStrictlyIncreasing xs) (sym within)
    (within_up c.half.result (slice_index_or part.refresh_to k [])
    (refresh_up part can.whole can.ends can.place k))

pub returns : goal.returns
returns c = λ s shows.
    let part = plain_of c.args.ground.now.part in
    let split = c.args.ground.now.part.split.value in
    let x = c.args.name.now in
    let told : map number c.list_at-told.result.now ≡ slice_index_or part.refresh_to x.from [] =
    c.list_at-told.ensures ∙ ap (λ ls. slice_index_or (lists_of ls) x.from []) c.deref.ensures.value in
    let list = c.vertices_within-list.result.now in
    let range : c.half.result ≡ half_in part.ends part.at.machine x.half =
    c.half.ensures ∙ ap (λ m. half_in part.ends m x.half) c.machine.ensures.number in
    let within : map number list
    ≡ those_within (half_in part.ends part.at.machine x.half) (slice_index_or part.refresh_to x.from []) =
    c.vertices_within-list.ensures ∙ ap (those_within c.half.result) told
    ∙ ap (λ r. those_within r (slice_index_or part.refresh_to x.from [])) range in
    let old : Rows Partial = c.args.partials.now in
    c.merge_update.ensures
    ∙ ap (λ (rows : List (List Partial)). record old { rows = rows })
    (merged_told s x c.args.body.now list c.args.partials.now.rows c.start.result c.from-key.result
    c.sent_words.result.slots c.sent_words.result.reduced
    (c.start.ensures.start ∙ ap (λ (p : PlainPart). start_of p.ends p.at.machine) (sym shows.part))
    c.from-key.ensures
    (c.sent_words.ensures.slots ∙ ap slot_count (sym shows.split))
    (c.sent_words.ensures.reduced ∙ ap (λ (q : Split). length (reduced_in q.dense)) (sym shows.split))
    (within
    ∙ ap (λ (p : PlainPart). those_within (half_in p.ends p.at.machine x.half) (slice_index_or p.refresh_to x.from []))
    (sym shows.part))
    shows.partials
    (c.requires.count ∙ ap (λ (p : PlainPart). length (chunk_vertices p.ends p.at.machine)) (sym shows.part)))
