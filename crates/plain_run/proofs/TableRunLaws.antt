-- A table as a graph is like the edges that it was made of.
use Rattle.std.proofs.Common.{◌≡◌, ℕ, ◌<◌, ◌≤◌, false, List, [], length, ap, sym, ◌∙◌, arith, ⊎_elim}
use Rattle.std.specs.Prelude.{◌==◌}
use Rattle.std.proofs.lemmas.Bool.{cases_lt, ne_eqb}
use Rattle.std.proofs.lemmas.List.Elements.{recursion_from_All}
use Rattle.edge_reader.specs.EdgeList as edges
use Rattle.graph_table.specs.Tables.{IsTableOf}
use Rattle.graph_table.proofs.FilterLaws.{filter_none}
use Rattle.graph_table.proofs.TableLaws.{by_target_below, table_length}
use Rattle.vert_base.specs.declared.graph.Edge.{Edge}
use Rattle.vert_base.specs.Neighbours.{AreBelow, in_order, ins_of, outs_of, source, target, turn_of, turned}
use Rattle.plain_run.specs.Laws.{RunsByTable}
use Rattle.plain_run.specs.Lists.{plain_graph}
use Rattle.plain_run.proofs.AlikeLaws.{AreAlike, source_same}
use Rattle.plain_run.proofs.GraphLaws.{ins_count, outs_count}

-- no edge leads to what is no vertex, and none from there
no_ins : (n : ℕ) (list : List Edge) (v : ℕ) → AreBelow n list → n ≤ v → ins_of n list v ≡ in_order source n []
no_ins n list v below le =
    ap (in_order source n) (filter_none (λ e. target e == v) list
    (recursion_from_All (λ e. (target e == v) ≡ false) list
    (λ k d lt. let low = (below k d lt).1 in ne_eqb _ _ (λ e. omega arith))))

no_outs : (n : ℕ) (list : List Edge) (v : ℕ) → AreBelow n list → n ≤ v → outs_of n list v ≡ in_order target n []
no_outs n list v below le =
    ap (in_order target n) (filter_none (λ e. source e == v) list
    (recursion_from_All (λ e. (source e == v) ≡ false) list
    (λ k d lt. let low = (below k d lt).0 in ne_eqb _ _ (λ e. omega arith))))

module _ (n : ℕ) (list : List Edge) (table : edges.Graph) (below : AreBelow n list) (is : IsTableOf n list table) where
  held_below : AreBelow n table.list
  held_below = by_target_below n list table.list below is.list

  ins_same : (v : ℕ) → ins_of n table.list v ≡ ins_of n list v
  ins_same v =
      ⊎_elim (λ (lt : v < n). is.ins v lt) (λ (le : n ≤ v). no_ins n table.list v held_below le
      ∙ sym (no_ins n list v below le)) (cases_lt v n)

  outs_same : (v : ℕ) → outs_of n table.list v ≡ outs_of n list v
  outs_same v =
      ⊎_elim (λ (lt : v < n). is.outs v lt) (λ (le : n ≤ v). no_outs n table.list v held_below le
      ∙ sym (no_outs n list v below le)) (cases_lt v n)

  table_alike : (ends : List ℕ) → AreAlike (plain_graph table.vertices ends table.list) (plain_graph n ends list)
  table_alike ends = record {
    vertices = is.vertices;
    members = λ v. ap (turned (turn_of ends v)) (ap (λ q. ins_of q table.list v) is.vertices ∙ ins_same v);
    indegrees = λ v. sym (ins_count n table.list v held_below) ∙ (ap length (ins_same v) ∙ ins_count n list v below);
    outdegrees = λ v. sym (outs_count n table.list v held_below)
        ∙ (ap length (outs_same v) ∙ outs_count n list v below);
    count = table_length n list table below is;
  }

pub runs_by_table : RunsByTable
runs_by_table program n ends list draws table below is =
    source_same program draws (plain_graph table.vertices ends table.list) (plain_graph n ends list)
    (table_alike n list table below is ends)
