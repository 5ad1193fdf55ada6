-- What own vertices send is worked vertex by vertex.
use Rattle.std.proofs.Common.{◌≡◌, ℕ, ℤ, ◌+◌, ◌-◌, ◌<◌, ◌≤◌, Bool, true, false, ◌&&◌, ◌||◌, cond, Option, None, Some, List, [], ◌∷◌, drop, get_or, length, map, refl, sym, ap, subst, ◌∙◌, arith}
use Rattle.std.specs.Prelude.{◌==◌, if◌then◌else◌, nat_le, nat_lt}
use Rattle.std.specs.List.{AllByRecursion, filter, list_any, range_with_len}
use Rattle.std.proofs.lemmas.Bool.{and_parts, leb-true, ltb-true}
use Rattle.std.proofs.lemmas.List.{drop_all, drop_more, get_or-map, length-map}
use Rattle.std.proofs.lemmas.List.Elements.{All-from_recursion}
use Rattle.vert_base.specs.declared.graph.Edge.{Edge}
use Rattle.vert_base.specs.declared.value.Row.{Row}
use Rattle.vert_base.specs.Neighbours.{bucket, source}
use Rattle.graph_table.proofs.FilterLaws.{all_passes, filter_filter}
use Rattle.flat_table.specs.Grids.{Rows}
use Rattle.slot_merge.specs.declared.partial.Partial.{Partial}
use Rattle.vert_tree.specs.declared.program.Sparse.{Sparse}
use Rattle.vert_eval.specs.declared.environment.Env.{Env}
use Rattle.vert_eval.specs.Rounds.{row_at, sent_by}
use Rattle.vert_eval.specs.Values.{value_of}
use Rattle.vert_eval.specs.Words.{is_set}
use Rattle.symple_face.specs.declared.degree.Degree.{Degree}
use Rattle.symple_face.specs.CoreSight.{is_within}
use Rattle.symple_face.specs.Parts.{ends_met}
use Rattle.machine_parts.specs.declared.spans.Span.{Span}
use Rattle.machine_parts.specs.Counting.{own_counts, own_env}
use Rattle.machine_parts.specs.Entering.{entered}
use Rattle.vert_eval.specs.SourceRun.{with_row}
use Rattle.machine_parts.specs.Sending.{AreSendsPlaced, own_sends}
use Rattle.machine_parts.specs.Spans.{vertex_of}
use Rattle.machine_parts.proofs.TotalLaws.{own_here, settled}
use Rattle.vertex_work.specs.Pushing.{AreOwnSenders, CanReceive, Receiving, edges_added, receiving, sent_within}
use Rattle.vertex_work.specs.declared.receivers.Receivers.{Receivers}
use Rattle.vertex_work.proofs.SenderLaws.{by_senders, edges_settled, no_sender, none_sent, sender_is, senders_added}

-- where nothing is sent over edges all stays as it is
pub silent_edges : (r : Receiving) (first : Env) (o : Option (List ℤ)) (es : List Edge) (table : Rows Partial) →
    o ≡ None → table ≡ record table { rows = edges_added r first (λ sender. o) es table.rows }
silent_edges r first o es table none =
    let same = ap (λ p. edges_added r first (λ sender. p) es table.rows) none ∙ none_sent r first es table.rows in
    λ j. record table { rows = sym same j }

module _ (sparse : Sparse) (rows : List Row) (degrees : List Degree) (start v : ℕ) (first : Env) where
  abbrev place : ℕ
  place = v - start

  -- a vertex that isn't active sends nothing
  pub inactive_silent : (row_at rows (v - start)).active ≡ false →
      own_sends sparse rows degrees start first (v - start) ≡ None
  inactive_silent is =
      let at : Env = own_env rows degrees start first (v - start) in
      ap (λ b. cond (b && is_set (value_of sparse.when_test at)) (Some (sent_by sparse at)) None) is

  module _ (at read : Env) (d : Degree) (low : start ≤ v) (inside : v - start < length degrees)
      (read_is : read ≡ with_row (row_at rows (v - start)) first)
      (entered_is : at ≡ entered v (get_or degrees (v - start) d) 0 read) where
    here : at ≡ own_env rows degrees start first (v - start)
    here =
        let whole : v ≡ start + (v - start) = omega arith in
        own_here rows degrees start (v - start) first first read at d refl read_is
        (entered_is ∙ ap (λ u. entered u (get_or degrees (v - start) d) 0 read) whole) inside

    pub settled_at : settled at ≡ settled first
    settled_at = ap settled here

    -- one whose test is false either
    pub untrue_silent : is_set (value_of sparse.when_test at) ≡ false →
        own_sends sparse rows degrees start first (v - start) ≡ None
    untrue_silent is =
        ap
        (λ (env : Env).
        cond (env.row.active && is_set (value_of sparse.when_test env)) (Some (sent_by sparse env)) None)
        (sym here)
        ∙ ap (λ b. cond (at.row.active && b) (Some (sent_by sparse at)) None) is
        ∙ never at.row.active
      where
        never : (b : Bool) → cond (b && false) (Some (sent_by sparse at)) None ≡ None
        never true = refl
        never false = refl

    pub active_sends : (row_at rows (v - start)).active ≡ true → is_set (value_of sparse.when_test at) ≡ true →
        own_sends sparse rows degrees start first (v - start) ≡ Some (sent_by sparse at)
    active_sends active is =
        let active_at = ap (λ (env : Env). env.row.active) here ∙ active in
        ap
        (λ (env : Env).
        cond (env.row.active && is_set (value_of sparse.when_test env)) (Some (sent_by sparse env)) None)
        (sym here)
        ∙ ap (λ b. cond (b && is_set (value_of sparse.when_test at)) (Some (sent_by sparse at)) None) active_at
        ∙ ap (λ b. cond b (Some (sent_by sparse at)) None) is

-- the words that were sent are worked over
module _ (r : Receiving) (first read : Env) (o : Option (List ℤ)) (es : List Edge) (table new : Rows Partial) where
  pub sent_edges : o ≡ Some read.sends.items → settled read ≡ settled first →
      new ≡ record table { rows = edges_added r read (λ sender. Some read.sends.items) es table.rows } →
      new ≡ record table { rows = edges_added r first (λ sender. o) es table.rows }
  sent_edges sent same added =
      added
      ∙ ap (λ (rows : List (List Partial)). record table { rows = rows })
      (edges_settled r first read (λ sender. Some read.sends.items) es table.rows same
      ∙ ap (λ p. edges_added r first (λ sender. p) es table.rows) (sym sent))

-- ---- vertex by vertex
none_met : (p : Edge → Bool) (es : List Edge) → list_any p es ≡ false → filter p es ≡ []
none_met p [] none = refl
none_met p (e ∷ es) none = by (p e) (none_met p es) none
  where
    by : (b : Bool) → (list_any p es ≡ false → filter p es ≡ []) → (b || list_any p es) ≡ false →
        cond b (e ∷ filter p es) (filter p es) ≡ []
    by true rest is = cc
    by false rest is = rest is

module _ (sparse : Sparse) (rs : Receivers) (spans : List Span) (first : Env) (old : Rows Partial) where
  abbrev pub count : ℕ
  count = length sparse.sends.items

  abbrev pub sends : ℕ → Option (List ℤ)
  sends = sent_within sparse rs first

  abbrev add : List ℕ → List (List Partial) → List (List Partial)
  add = senders_added (receiving rs) first sends rs.edges.now

  -- the senders that are left, over the partials so far, come to the same as all over those at first
  pub record IsSending (at : ℕ) (env : Env) (now : Rows Partial) : Type 0 where
    pub kept : settled env ≡ settled first
    pub names : AreSendsPlaced (own_counts rs.rows.now.width env) sparse
    pub can : CanReceive rs (length sparse.sends.items) env now
    pub width : now.width ≡ old.width
    pub rows : senders_added (receiving rs) first (sent_within sparse rs first) rs.edges.now
        (drop at (map vertex_of spans)) now.rows
        ≡ senders_added (receiving rs) first (sent_within sparse rs first) rs.edges.now (map vertex_of spans) old.rows

  pub sending_none : AreSendsPlaced (own_counts rs.rows.now.width first) sparse →
      CanReceive rs (length sparse.sends.items) first old → IsSending 0 first old
  sending_none names can = record { kept = refl; names = names; can = can; width = refl; rows = refl }

  module _ (are : AreOwnSenders rs.vertices (rs.start, rs.end) rs.edges.now spans) where
    within : ℕ → Bool
    within = is_within (rs.start, rs.end)

    -- each sender is an own vertex
    pub own_sender : (at : ℕ) (d : Span) → at < length spans →
        is_within (rs.start, rs.end) (vertex_of (get_or spans at d)) ≡ true
    own_sender at d lt =
        let met : List ℕ = ends_met source rs.vertices rs.edges.now in
        let all = all_passes (is_within (rs.start, rs.end)) met in
        let listed = subst (AllByRecursion (λ u. is_within (rs.start, rs.end) u ≡ true)) (sym are.vertices) all in
        let here = All-from_recursion (λ u. is_within (rs.start, rs.end) u ≡ true) (map vertex_of spans) listed at 0
        (omega (arith, length-map spans vertex_of)) in
        ap (is_within (rs.start, rs.end)) (sym (get_or-map vertex_of spans at d 0 lt)) ∙ here

    pub own_low : (at : ℕ) (d : Span) → at < length spans → rs.start ≤ vertex_of (get_or spans at d)
    own_low at d lt =
        let v : ℕ = vertex_of (get_or spans at d) in
        leb-true rs.start v (and_parts (nat_le rs.start v) (nat_lt v rs.end) (own_sender at d lt)).0

    pub own_high : (at : ℕ) (d : Span) → at < length spans → vertex_of (get_or spans at d) < rs.end
    own_high at d lt =
        let v : ℕ = vertex_of (get_or spans at d) in
        ltb-true v rs.end (and_parts (nat_le rs.start v) (nat_lt v rs.end) (own_sender at d lt)).1

    module _ (at : ℕ) (d : Span) (env next : Env) (now new : Rows Partial) where
      pub sending_more : at < length spans → IsSending at env now →
          new ≡ record now {
            rows = edges_added (receiving rs) env (λ sender. own_sends sparse rs.rows.now.rows
                rs.degrees.now rs.start env (vertex_of (get_or spans at d) - rs.start)) (bucket source (vertex_of
                (get_or spans at d)) rs.edges.now) now.rows;
          } → settled next ≡ settled env →
          CanReceive rs (length sparse.sends.items) next new → IsSending (at + 1) next new
      sending_more lt so_far added same can =
          let v : ℕ = vertex_of (get_or spans at d) in
          let r : Receiving = receiving rs in
          let own : Env → Option (List ℤ) = λ e. own_sends sparse rs.rows.now.rows rs.degrees.now rs.start e
          (vertex_of (get_or spans at d) - rs.start) in
          let edges : List Edge = bucket source (vertex_of (get_or spans at d)) rs.edges.now in
          let sent = ap (λ b. if b then own first else None) (own_sender at d lt) in
          let here = ap (λ (t : Rows Partial). t.rows) added
          ∙ edges_settled r first env (λ sender. own env) edges now.rows so_far.kept
          ∙ ap (λ e. edges_added r first (λ sender. own e) edges now.rows) so_far.kept
          ∙ sym (sender_is r first sends rs.edges.now (own first) v now.rows sent) in
          record {
            kept = same ∙ so_far.kept;
            names = subst (λ (e : Env). AreSendsPlaced (own_counts rs.rows.now.width e) sparse) (sym same)
                so_far.names;
            can = can;
            width = ap (λ (t : Rows Partial). t.width) added ∙ so_far.width;
            rows =
                ap (add (drop (at + 1) (map vertex_of spans))) here
                ∙ sym (ap (λ vs. add vs now.rows)
                (drop_more (map vertex_of spans) at 0 (omega (arith, length-map spans vertex_of))
                ∙ ap (λ u. u ∷ drop (at + 1) (map vertex_of spans)) (get_or-map vertex_of spans at d 0 lt)))
                ∙ so_far.rows;
          }

    -- a vertex that is no source, or not an own one, changes nothing
    others : (v : ℕ) (all : List (List Partial)) →
        (list_any (λ e. source e == v) rs.edges.now && is_within (rs.start, rs.end) v) ≡ false →
        edges_added (receiving rs) first sends (bucket source v rs.edges.now) all ≡ all
    others v all none = by (list_any (λ e. source e == v) rs.edges.now) (is_within (rs.start, rs.end) v) refl refl none
      where
        by : (met own : Bool) → list_any (λ e. source e == v) rs.edges.now ≡ met →
            is_within (rs.start, rs.end) v ≡ own → (met && own) ≡ false →
            edges_added (receiving rs) first sends (bucket source v rs.edges.now) all ≡ all
        by true true is at h = cc
        by true false is at h =
            no_sender (receiving rs) first sends rs.edges.now v all
            (ap
            (λ b. if b then own_sends sparse rs.rows.now.rows rs.degrees.now rs.start first (v - rs.start) else None)
            at)
        by false own is at h =
            ap (λ es. edges_added (receiving rs) first sends es all)
            (none_met (λ e. source e == v) rs.edges.now is)

    pub sending_all : (at : ℕ) (env : Env) (now : Rows Partial) → length spans ≤ at → IsSending at env now →
        now
        ≡ record old {
          rows = edges_added (receiving rs) first (sent_within sparse rs first) rs.edges.now old.rows;
        }
    sending_all at env now past so_far =
        let met : ℕ → Bool = λ v. list_any (λ e. source e == v) rs.edges.now in
        let passes : ℕ → Bool = λ v. met v && is_within (rs.start, rs.end) v in
        let rows = sym (ap (λ vs. add vs now.rows)
        (drop_all at (map vertex_of spans) (omega (arith, length-map spans vertex_of))))
        ∙ so_far.rows
        ∙ ap (λ vs. add vs old.rows)
        (are.vertices ∙ filter_filter (is_within (rs.start, rs.end)) met (range_with_len 0 rs.vertices))
        ∙ by_senders (receiving rs) first sends rs.edges.now passes others rs.vertices old.rows are.order in
        λ j. record { width = so_far.width j; rows = rows j }
