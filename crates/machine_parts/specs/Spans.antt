-- Where the edges of each vertex stand in a list of edges.
use Rattle.std.specs.Prelude.{◌≡◌, ◌≤◌, ◌<◌, ℕ, List, length, map, slice_range}
use Rattle.std.specs.List.{All, filter}
use Rattle.std.specs.List.Sorted.{IsNonDecreasingBy}
use Rattle.vert_base.specs.declared.graph.Edge.{Edge}
use Rattle.vert_base.specs.Neighbours.{bucket, source, target}
use Rattle.chunk_split.specs.Chunks.{vertices_of}
use Rattle.circulant_plan.specs.Ring.{lies_in}
use Rattle.symple_face.specs.Parts.{IsPart, PlainPart, ends_met, refresh_list}
use Rattle.machine_parts.specs.declared.groups.Groups.{Groups}
use Rattle.machine_parts.specs.declared.spans.Span.{Span}

abbrev pub vertex_of : Span → ℕ
vertex_of s = s.vertex.0

-- the edges that have the vertex at this end stand side by side, and there are some
pub record IsSpan (end : Edge → ℕ) (edges : List Edge) (s : Span) : Type 0 where
  pub some : s.start < s.end
  pub within : s.end ≤ length edges
  pub stand : slice_range edges s.start s.end ≡ bucket end s.vertex.0 edges

-- a span for each vertex below n that is an end of an edge, ascending
pub record AreSpans (end : Edge → ℕ) (n : ℕ) (edges : List Edge) (spans : List Span) : Type 0 where
  pub vertices : map vertex_of spans ≡ ends_met end n edges
  pub each : All (IsSpan end edges) spans

-- spans stand by ascending vertex
abbrev pub SpansRise : Type 0
SpansRise = (end : Edge → ℕ) (n : ℕ) (edges : List Edge) (spans : List Span) → AreSpans end n edges spans →
    IsNonDecreasingBy vertex_of spans

-- the tables of a part: the targets of what is scanned, the sources of what is pushed over, each with its edges,
-- and the source of each edge that is scanned
pub record AreGroups (part : PlainPart) (groups : Groups) : Type 0 where
  pub targets : AreSpans target (vertices_of part.ends) part.scan groups.targets.items
  pub senders : AreSpans source (vertices_of part.ends) part.push groups.senders.items
  pub sources : map (λ v. v.0) groups.sources.items ≡ map source part.scan

-- the targets in a chunk are the vertices of it whose rows its machine tells
abbrev pub TargetsAreTold : Type 0
TargetsAreTold =
    (part : PlainPart) (k : ℕ) (spans : List Span) → IsPart part →
    AreSpans target (vertices_of part.ends) part.scan spans →
    map vertex_of (filter (λ s. lies_in part.ends k (vertex_of s)) spans) ≡
    refresh_list part.ends k part.at.machine part.scan
