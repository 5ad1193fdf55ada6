-- Ascending lists of vertices, cut at two numbers.
use Rattle.std.proofs.Common.{◌≡◌, ℕ, ◌≤◌, Bool, true, false, List, get_or, map, refl, sym, ap, subst, ◌∙◌, arith}
use Rattle.std.specs.Prelude.{◌&&◌, nat_le, nat_lt}
use Rattle.std.specs.List.{filter}
use Rattle.std.specs.List.Sorted.{IsNonDecreasingBy, IsPartitionedBy}
use Rattle.std.proofs.lemmas.Bool.Decides.{nat_tests}
use Rattle.std.proofs.lemmas.List.Kept.{IsNonDecreasingBy-filter}
use Rattle.std.proofs.lemmas.List.Elements.{filter_agree}
use Rattle.graph_table.proofs.FilterLaws.{filter-map, filter_filter}
use Rattle.symple_face.specs.CoreSight.{is_within, those_within}
use Rattle.vert_base.specs.declared.graph.VertexId.{VertexId}
use Rattle.vertex_work.specs.Known.{number}
use Rattle.machine_parts.proofs.SpanLaws.{below_too}

abbrev pub no_vertex : VertexId
no_vertex = record { 0 = 0 }

-- the vertices below one stand in front of the others
pub vertices_in_front : (v : ℕ) (list : List VertexId) → IsNonDecreasingBy number list →
    IsPartitionedBy (λ u. nat_lt (number u) v) list
vertices_in_front v list up = λ i j d le within h.
    below_too (number (get_or list i d)) (number (get_or list j d)) v (up i j d le within) h

pub below_ascends : (b : ℕ) (list below : List VertexId) → below ≡ filter (λ u. nat_lt (number u) b) list →
    IsNonDecreasingBy number list → IsNonDecreasingBy number below
below_ascends b list below is up =
    subst (IsNonDecreasingBy number) (sym is) (IsNonDecreasingBy-filter number (λ u. nat_lt (number u) b) list up)

both_ways : (x y : Bool) → (x && y) ≡ (y && x)
both_ways true true = refl
both_ways true false = refl
both_ways false true = refl
both_ways false false = refl

pub within_both : (a b : ℕ) (list below : List VertexId) → below ≡ filter (λ u. nat_lt (number u) b) list →
    map number (filter (λ u. nat_le a (number u)) below) ≡ those_within (a, b) (map number list)
within_both a b list below is =
    ap (map number)
    (ap (filter (λ u. nat_le a (number u))) is
    ∙ filter_filter (λ u. nat_le a (number u)) (λ u. nat_lt (number u) b) list
    ∙ filter_agree (λ u. nat_lt (number u) b && nat_le a (number u)) (λ u. nat_le a (number u) && nat_lt (number u) b)
    (λ u. both_ways (nat_lt (number u) b) (nat_le a (number u))) list)
    ∙ sym (filter-map (is_within (a, b)) number list)
