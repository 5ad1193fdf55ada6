-- The edges into a vertex in the parts of machines.
use Rattle.std.proofs.Common.{◌≡◌, ◌+◌, suc, List, sym, ap, ◌∙◌, arith}
use Rattle.std.specs.Prelude.{◌==◌}
use Rattle.std.specs.List.{filter, range_with_len}
use Rattle.vert_base.specs.declared.graph.Edge.{Edge}
use Rattle.vert_base.specs.Neighbours.{bucket, in_order, ins_of, source, target}
use Rattle.vert_base.proofs.Orders.{bucket-in_order, filter_comm, filter-in_order, part-two_orders}
use Rattle.chunk_split.specs.Chunks.{vertices_of}
use Rattle.circulant_plan.specs.Ring.{lies_in, members_by_steps, members_with, order_of}
use Rattle.circulant_plan.proofs.ReadingLaws.{reads_in_turn}
use Rattle.graph_table.proofs.BucketLaws.{bucket_kept}
use Rattle.graph_table.proofs.FilterLaws.{all_true, flat_map_same}
use Rattle.symple_face.specs.PartsOf.{scan_of}
use Rattle.round_laws.proofs.Ranges.{steps_more}
use Rattle.round_laws.specs.Members.{PushMembers, ScanMembers, ScansReadInTurn, StepsMembers}

pub scan_members : ScanMembers
scan_members ends edges m v lt =
    let n = vertices_of ends in
    let lies : Edge → _ = λ e. lies_in ends m (source e) in
    part-two_orders target source n (filter lies edges) v lt
    ∙ ap (in_order source n) (filter_comm (λ e. target e == v) lies edges)
    ∙ sym (filter-in_order lies source n (bucket target v edges))

pub push_members : PushMembers
push_members ends edges m v lt lies =
    let n = vertices_of ends in
    let own : List Edge = filter (λ e. lies_in ends m (target e)) edges in
    filter-in_order (λ e. target e == v) source n (in_order target n own)
    ∙ ap (in_order source n) (bucket-in_order target v n own lt ∙ bucket_kept target (lies_in ends m) v edges lies)

pub steps_members : StepsMembers
steps_members ends p d count members =
    let one : count + 1 ≡ suc count = omega arith in
    ap (λ k. members_by_steps ends p d 0 k members) one ∙ steps_more ends p d count members

pub scans_in_turn : ScansReadInTurn
scans_in_turn ends edges p d v are lt lies within =
    flat_map_same (λ step. bucket target v (scan_of ends edges (order_of d step p)))
    (λ step. members_with ends (order_of d step p) (ins_of (vertices_of ends) edges v)) (range_with_len 0 p)
    (all_true _ (λ step. scan_members ends edges (order_of d step p) v within) (range_with_len 0 p))
    ∙ reads_in_turn (vertices_of ends) p d v ends edges are lt lies
