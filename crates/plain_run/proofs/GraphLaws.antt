-- The lists of a vertex in a graph.
use Rattle.std.proofs.Common.{◌≡◌, ℕ, ◌<◌, Bool, true, false, not, List, length, ap, sym, ◌∙◌, refl, length-append}
use Rattle.std.specs.Prelude.{◌==◌, nat_le, nat_lt}
use Rattle.std.specs.List.{All, filter}
use Rattle.std.specs.List.Sorted.{IsNonDecreasingBy}
use Rattle.std.proofs.lemmas.Bool.{le-ltb, leb-false, leb-true, lt-ltb}
use Rattle.std.proofs.lemmas.List.Elements.{All-filter}
use Rattle.std.proofs.lemmas.List.Filters.{length-filter_both}
use Rattle.vert_base.specs.declared.graph.Edge.{Edge}
use Rattle.vert_base.specs.Neighbours.{AreBelow, ins_of, outs_of, source, target, turned}
use Rattle.vert_base.proofs.Orders.{All-in_order, in_order_rises}
use Rattle.graph_table.proofs.SplitLaws.{by_index}
use Rattle.graph_table.proofs.StartLaws.{start_all}

-- an order of the edges at a vertex has as many as there are
pub ins_count : (n : ℕ) (edges : List Edge) (v : ℕ) → AreBelow n edges →
    length (ins_of n edges v) ≡ length (filter (λ e. target e == v) edges)
ins_count n edges v below =
    start_all source n (filter (λ e. target e == v) edges)
    (All-filter (λ e. target e == v) (λ e. source e < n) edges (λ k d lt. (below k d lt).0))

pub outs_count : (n : ℕ) (edges : List Edge) (v : ℕ) → AreBelow n edges →
    length (outs_of n edges v) ≡ length (filter (λ e. source e == v) edges)
outs_count n edges v below =
    start_all target n (filter (λ e. source e == v) edges)
    (All-filter (λ e. source e == v) (λ e. target e < n) edges (λ k d lt. (below k d lt).1))

-- the sources of the edges into a vertex are vertices
pub ins_below : (n : ℕ) (edges : List Edge) (v : ℕ) → AreBelow n edges → All (λ e. source e < n) (ins_of n edges v)
ins_below n edges v below =
    let P : Edge → Type 0 = λ e. source e < n in
    All-in_order P source n (filter (λ e. target e == v) edges)
    (All-filter (λ e. target e == v) P edges (λ k d lt. (below k d lt).0))

-- the edges into a vertex stand by ascending source
pub ins_rise : (n : ℕ) (edges : List Edge) (v : ℕ) → IsNonDecreasingBy source (ins_of n edges v)
ins_rise n edges v = by_index source (ins_of n edges v) (in_order_rises source n (filter (λ e. target e == v) edges))

by_test : (u w : ℕ) (b : Bool) → nat_le w u ≡ b → nat_lt u w ≡ not (nat_le w u)
by_test u w true is = le-ltb u w (leb-true w u is) ∙ sym (ap not is)
by_test u w false is = lt-ltb u w (leb-false w u is) ∙ sym (ap not is)

-- a turn keeps how many there are
pub turned_count : (t : ℕ) (members : List Edge) → length (turned t members) ≡ length members
turned_count t members =
    length-append (filter (λ e. nat_le t (source e)) members) (filter (λ e. nat_lt (source e) t) members)
    ∙ length-filter_both (λ e. nat_le t (source e)) (λ e. nat_lt (source e) t) (λ e.
    by_test (source e) t (nat_le t (source e)) refl) members
