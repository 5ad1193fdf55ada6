-- Receivers run the sparse body edge after edge.
use Rattle.std.proofs.Common.{◌≡◌, ℕ, ℤ, ◌+◌, ◌-◌, ◌<◌, ◌≤◌, true, Option, Some, List, [], ◌++◌, length, get_or, set, take, drop, refl, sym, ap, subst, ◌∙◌, arith}
use Rattle.std.specs.Prelude.{◌==◌}
use Rattle.std.specs.List.{All}
use Rattle.std.proofs.lemmas.List.{drop_all, drop_more}
use Rattle.std.proofs.lemmas.List.Elements.{All-filter}
use Rattle.vert_base.specs.declared.graph.Edge.{Edge}
use Rattle.vert_base.specs.Neighbours.{bucket, source, target}
use Rattle.flat_table.specs.Grids.{Rows}
use Rattle.slot_merge.specs.declared.partial.Partial.{Partial}
use Rattle.slot_merge.specs.Combine.{Emission}
use Rattle.slot_merge.specs.Partials.{with_emissions}
use Rattle.vert_eval.specs.declared.environment.Env.{Env}
use Rattle.vert_eval.specs.Values.{counts_of}
use Rattle.vert_code.specs.Machine.{run_code}
use Rattle.vert_code.specs.Valid.{list_names}
use Rattle.vert_code.specs.declared.instr.Instr.{Instr}
use Rattle.machine_parts.proofs.TotalLaws.{settled}
use Rattle.vertex_work.specs.Pushing.{CanReceive, Receiving, edge_added, edges_added, emitted_at, key_in, received_at, received_counts, receiving}
use Rattle.vertex_work.specs.Received.{IsReceived}
use Rattle.vertex_work.specs.declared.receivers.Receivers.{Receivers}
use Rattle.vertex_work.proofs.EmissionLaws.{AreBelow, emitted_below, row_emitted}

-- the words of each kind that the receiver of an edge has
received_names : (rs : Receivers) (e : Edge) (first at : Env) →
    at ≡ received_at (receiving rs) first first.sends.items e →
    length at.row.words.items ≡ rs.rows.now.width →
    list_names (received_counts rs.rows.now.width (length first.sends.items) first) (receiving rs).list ≡ true →
    list_names (counts_of at) (receiving rs).list ≡ true
received_names rs e first at here wide names =
    let width : length (received_at (receiving rs) first first.sends.items e).row.words.items ≡ rs.rows.now.width =
    ap (λ (env : Env). length env.row.words.items) (sym here) ∙ wide in
    ap (λ (env : Env). list_names (counts_of env) (receiving rs).list) here
    ∙ ap (λ n. list_names (received_counts n (length first.sends.items) first) (receiving rs).list) width
    ∙ names

-- what was emitted at the receiver of an edge is written to its partials
module _ (rs : Receivers) (e : Edge) (first at : Env) (loaded emitted : List Partial) (old new : Rows Partial)
    (slots : ℕ) where
  pub edge_worked : IsReceived rs.start (length rs.degrees.now) (length rs.rows.now.rows) rs.vertices e →
      CanReceive rs (length first.sends.items) first old →
      at ≡ received_at (receiving rs) first first.sends.items e →
      length at.row.words.items ≡ rs.rows.now.width → slots ≡ length at.slots.items →
      loaded ≡ take slots (get_or old.rows (target e - rs.start) []) →
      emitted ≡ with_emissions at.key loaded (run_code (receiving rs).list at).emitted →
      new ≡ record old {
        rows = set old.rows (target e - rs.start) (emitted ++ drop (length emitted) (get_or
            old.rows (target e - rs.start) []));
      } →
      new ≡ record old { rows = edge_added (receiving rs) first e (Some first.sends.items) old.rows }
  edge_worked lies can here wide count load run store =
      let list : List Instr = (receiving rs).list in
      let row : List Partial = get_or old.rows (target e - rs.start) [] in
      let es : List Emission = (run_code (receiving rs).list at).emitted in
      let within : target e - rs.start < length old.rows = omega (arith, lies.2, can.count) in
      let size : length (get_or old.rows (target e - rs.start) []) ≡ old.width =
      can.each (target e - rs.start) [] within in
      let same : length at.slots.items ≡ length first.slots.items = ap (λ (env : Env). length env.slots.items) here in
      let le : slots ≤ length (get_or old.rows (target e - rs.start) []) = omega (
        arith,
        can.slots,
        count,
        same,
        size,
      ) in
      let names = received_names rs e first at here wide can.names in
      let low = subst (λ n. AreBelow n (run_code (receiving rs).list at).emitted) (sym count)
      (emitted_below (counts_of at) list at names) in
      let ran = run ∙ ap (λ ps. with_emissions at.key ps (run_code (receiving rs).list at).emitted) load in
      store
      ∙ ap (λ (ps : List Partial). record old { rows = set old.rows (target e - rs.start) ps })
      (row_emitted at.key slots row emitted es le low ran
      ∙ ap
      (λ (env : Env).
      with_emissions env.key (get_or old.rows (target e - rs.start) []) (run_code (receiving rs).list env).emitted)
      here)

-- ---- the edges of a vertex
-- what is added goes by what of an environment stays
pub added_settled : (r : Receiving) (now first : Env) (e : Edge) (sends : List ℤ) (all : List (List Partial)) →
    settled now ≡ settled first → edge_added r now e (Some sends) all ≡ edge_added r first e (Some sends) all
added_settled r now first e sends all same =
    ap
    (λ env. set all (target e - r.start)
    (with_emissions (key_in r e) (get_or all (target e - r.start) []) (emitted_at r env sends e)))
    same

-- the edges that are left, over the partials so far, come to the same as all over those at first
pub record IsAdding (rs : Receivers) (first : Env) (old : Rows Partial) (all left : List Edge) (env : Env)
    (now : Rows Partial) : Type 0 where
  pub kept : settled env ≡ settled first
  pub same : env.sends.items ≡ first.sends.items
  pub can : CanReceive rs (length first.sends.items) env now
  pub width : now.width ≡ old.width
  pub rows : edges_added (receiving rs) first (λ sender. Some first.sends.items) left now.rows
      ≡ edges_added (receiving rs) first (λ sender. Some first.sends.items) all old.rows

pub adding_none : (rs : Receivers) (first : Env) (old : Rows Partial) (all : List Edge) →
    CanReceive rs (length first.sends.items) first old → IsAdding rs first old all (drop 0 all) first old
adding_none rs first old all can = record { kept = refl; same = refl; can = can; width = refl; rows = refl }

module _ (rs : Receivers) (first : Env) (old : Rows Partial) (all : List Edge) (i : ℕ) (d : Edge)
    (env next : Env) (now new : Rows Partial) where
  pub adding_more : i < length all →
      new ≡ record now { rows = edge_added (receiving rs) env (get_or all i d) (Some env.sends.items) now.rows }
      → settled next ≡ settled env → next.sends.items ≡ env.sends.items →
      CanReceive rs (length env.sends.items) next new → IsAdding rs first old all (drop i all) env now →
      IsAdding rs first old all (drop (i + 1) all) next new
  adding_more lt added kept same can so_far =
      let r : Receiving = receiving rs in
      let e : Edge = get_or all i d in
      let f : ℕ → Option (List ℤ) = λ sender. Some first.sends.items in
      let one : new.rows ≡ edge_added (receiving rs) first (get_or all i d) (Some first.sends.items) now.rows =
      ap (λ (t : Rows Partial). t.rows) added
      ∙ added_settled r env first e env.sends.items now.rows so_far.kept
      ∙ ap (λ sends. edge_added (receiving rs) first (get_or all i d) (Some sends) now.rows) so_far.same in
      record {
        kept = kept ∙ so_far.kept;
        same = same ∙ so_far.same;
        can = subst (λ (sends : List ℤ). CanReceive rs (length sends) next new) so_far.same can;
        width = ap (λ (t : Rows Partial). t.width) added ∙ so_far.width;
        rows =
            ap (edges_added r first f (drop (i + 1) all)) one
            ∙ sym (ap (λ es. edges_added r first f es now.rows) (drop_more all i d lt))
            ∙ so_far.rows;
      }

module _ (rs : Receivers) (first : Env) (old : Rows Partial) (all edges : List Edge) (i : ℕ) (env : Env)
    (now : Rows Partial) where
  pub adding_all : length all ≤ i → all ≡ edges → IsAdding rs first old all (drop i all) env now →
      now ≡ record old {
        rows = edges_added (receiving rs) first (λ sender. Some first.sends.items) edges
            old.rows;
      }
  adding_all past same so_far =
      let f : ℕ → Option (List ℤ) = λ sender. Some first.sends.items in
      let rows = sym (ap (λ es. edges_added (receiving rs) first f es now.rows) (drop_all i all past))
      ∙ so_far.rows ∙ ap (λ es. edges_added (receiving rs) first f es old.rows) same in
      λ j. record { width = so_far.width j; rows = rows j }

-- each edge of a vertex leads to an own one
module _ (P : Edge → Type 0) (v : ℕ) (edges all : List Edge) (i : ℕ) (d : Edge) where
  pub span_received : All P edges → all ≡ bucket source v edges → i < length all → P (get_or all i d)
  span_received each is lt =
      (subst (All P) (sym is) (All-filter (λ e. source e == v) P edges each)) i d lt
