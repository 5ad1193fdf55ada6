-- No list of a part has more vertices than there are.
use Rattle.std.proofs.Common.{◌≡◌, ◌≤◌, ℕ, List, [], length, map, arith, get_or}
use Rattle.vert_base.specs.declared.graph.Edge.{Edge}
use Rattle.vert_base.specs.declared.graph.VertexId.{VertexId}
use Rattle.vert_base.specs.declared.limits.TheConstants.{VERTICES}
use Rattle.vert_base.specs.Neighbours.{source, target}
use Rattle.chunk_split.specs.Chunks.{vertices_of}
use Rattle.symple_face.specs.Parts.{PlainPart, IsPart, edges_between, push_list, refresh_list}
use Rattle.symple_face.proofs.ListLaws.{ends_met_few, short_lists}

module _ (p : PlainPart) (i : ℕ) (list : List VertexId) (is : IsPart p) where
  refresh_few : (k m : ℕ) (edges : List Edge) → length (refresh_list p.ends k m edges) ≤ VERTICES
  refresh_few k m edges = let within = is.within in
      omega (arith, ends_met_few target (vertices_of p.ends) (edges_between p.ends m k edges))

  push_few : (m k : ℕ) (edges : List Edge) → length (push_list p.ends m k edges) ≤ VERTICES
  push_few m k edges = let within = is.within in
      omega (arith, ends_met_few source (vertices_of p.ends) (edges_between p.ends m k edges))

  pub refresh_to_few : map (λ v. v.0) list ≡ get_or p.refresh_to i [] → length list ≤ VERTICES
  refresh_to_few here = short_lists (λ v. v.0) VERTICES p.at.machines p.at.machine i (λ k.
      refresh_list p.ends p.at.machine k p.push) p.refresh_to list is.refresh_to here (λ k.
      refresh_few p.at.machine k p.push)

  pub refresh_of_few : map (λ v. v.0) list ≡ get_or p.refresh_of i [] → length list ≤ VERTICES
  refresh_of_few here = short_lists (λ v. v.0) VERTICES p.at.machines p.at.machine i (λ k.
      refresh_list p.ends k p.at.machine p.scan) p.refresh_of list is.refresh_of here (λ k.
      refresh_few k p.at.machine p.scan)

  pub push_to_few : map (λ v. v.0) list ≡ get_or p.push_to i [] → length list ≤ VERTICES
  push_to_few here = short_lists (λ v. v.0) VERTICES p.at.machines p.at.machine i (λ k.
      push_list p.ends p.at.machine k p.scan) p.push_to list is.push_to here (λ k. push_few p.at.machine k p.scan)

  pub push_of_few : map (λ v. v.0) list ≡ get_or p.push_of i [] → length list ≤ VERTICES
  push_of_few here = short_lists (λ v. v.0) VERTICES p.at.machines p.at.machine i (λ k.
      push_list p.ends k p.at.machine p.push) p.push_of list is.push_of here (λ k. push_few k p.at.machine p.push)
