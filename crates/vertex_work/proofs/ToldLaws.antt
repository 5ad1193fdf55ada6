-- What a push tells is worked sender by sender.
use Rattle.std.proofs.Common.{◌≡◌, ℕ, ℤ, ◌+◌, ◌*◌, ◌<◌, ◌≤◌, ◌≢◌, Bool, true, false, cond, Option, None, Some, List, ◌∷◌, length, get_or, take, drop, map, refl, sym, ap, subst, ◌∙◌, arith}
use Rattle.std.specs.List.{AllByRecursion, AllPairs, range_with_len}
use Rattle.std.proofs.lemmas.List.{drop_all, drop_more, get_or-map, length-map}
use Rattle.std.proofs.lemmas.List.FromFn.{length-range_with_len}
use Rattle.vert_base.specs.declared.graph.Edge.{Edge}
use Rattle.vert_base.specs.Neighbours.{bucket, source}
use Rattle.flat_table.specs.Grids.{Rows}
use Rattle.slot_merge.specs.declared.partial.Partial.{Partial}
use Rattle.dep_layout.proofs.WordLaws.{length-words_in}
use Rattle.body_shape.specs.Fit.{bit_len}
use Rattle.body_shape.specs.Places.{set_count}
use Rattle.body_shape.specs.Push.{flags_in, send_at, senders, sends_read}
use Rattle.body_shape.proofs.FlagLaws.{length-padded}
use Rattle.body_shape.proofs.ReadLaws.{push_in_place}
use Rattle.vert_eval.specs.declared.environment.Env.{Env}
use Rattle.vert_code.specs.Blocks.{list_of}
use Rattle.vert_code.specs.Valid.{list_names}
use Rattle.vert_code.specs.declared.instr.Block.TheVariants.{SparseBody}
use Rattle.symple_face.specs.CoreSight.{beside}
use Rattle.symple_face.proofs.ListLaws.{filter_few}
use Rattle.machine_parts.specs.declared.spans.Span.{Span}
use Rattle.machine_parts.specs.Spans.{vertex_of}
use Rattle.vertex_work.specs.declared.receivers.Receivers.{Receivers}
use Rattle.machine_parts.proofs.TotalLaws.{settled}
use Rattle.vertex_work.specs.Pushing.{AreSenders, CanReceive, edges_added, received_counts, receiving}
use Rattle.vertex_work.proofs.SenderLaws.{beside_at, beside_out, by_senders, edges_settled, no_sender, not_passing, passing_rise, sender_is, senders_added, set_count-more}

module _ (rs : Receivers) (spans : List Span) (body : List ℕ) (words : ℕ) (first : Env) (old : Rows Partial) where
  abbrev pub vertices : List ℕ
  vertices = map vertex_of spans

  -- what the push tells of a vertex
  abbrev pub told : ℕ → Option (List ℤ)
  told u = beside None u vertices (sends_read words (length spans) body)

  -- the senders that are left, over the partials so far, come to the same as all over those at first
  pub record IsTelling (at earlier : ℕ) (env : Env) (now : Rows Partial) : Type 0 where
    pub kept : settled env ≡ settled first
    pub can : CanReceive rs words env now
    pub width : now.width ≡ old.width
    pub low : earlier ≤ at
    pub count : earlier ≡ set_count (take at (senders (length spans) body))
    pub rows : senders_added (receiving rs) first told rs.edges.now (drop at vertices) now.rows
        ≡ senders_added (receiving rs) first told rs.edges.now vertices old.rows

  -- the same of equal values
  module _ (at earlier other : ℕ) (env same_env : Env) (now same : Rows Partial) where
    pub telling_here : other ≡ earlier → same_env ≡ env → same ≡ now → IsTelling at earlier env now →
        IsTelling at other same_env same
    telling_here e f g so_far =
        subst (λ (n : ℕ). IsTelling at n same_env same) (sym e)
        (subst (λ (x : Env). IsTelling at earlier x same) (sym f)
        (subst (λ (t : Rows Partial). IsTelling at earlier env t) (sym g) so_far))

  pub telling_none : CanReceive rs words first old → IsTelling 0 0 first old
  telling_none can = record { kept = refl; can = can; width = refl; low = omega arith; count = refl; rows = refl }

  module _ (are : AreSenders rs.vertices rs.edges.now spans) where
    abbrev Table : Type 0
    Table = List (List Partial)

    abbrev flags : List Bool
    flags = senders (length spans) body

    abbrev add : List ℕ → List (List Partial) → List (List Partial)
    add = senders_added (receiving rs) first told rs.edges.now

    pub few_spans : length spans ≤ rs.vertices
    few_spans =
        let all : List ℕ = range_with_len 0 rs.vertices in
        omega (
          arith,
          length-map spans vertex_of,
          ap length are.vertices,
          filter_few are.passes all,
          length-range_with_len 0
              rs.vertices,
        )

    rise : AllPairs (λ u v. u < v) (map vertex_of spans)
    rise = subst (AllPairs (λ u v. u < v)) (sym are.vertices) (passing_rise are.passes rs.vertices)

    module _ (at earlier : ℕ) (d : Span) (env : Env) (now : Rows Partial) (lt : at < length spans)
        (so_far : IsTelling at earlier env now) where
      v : ℕ
      v = vertex_of (get_or spans at d)

      -- what the next sender sends
      told_next : told (vertex_of (get_or spans at d)) ≡
          cond (get_or (senders (length spans) body) at false)
          (Some (send_at words (length spans) earlier body)) None
      told_next =
          ap told (sym (get_or-map vertex_of spans at d 0 lt))
          ∙ beside_at None (map vertex_of spans) (sends_read words (length spans) body) at 0 rise
          (omega (arith, length-map spans vertex_of))
          ∙ push_in_place (length spans) words at body lt
          ∙ ap
          (λ k. cond (get_or (senders (length spans) body) at false) (Some (send_at words (length spans) k body)) None)
          (sym so_far.count)

      -- the senders from it on
      from_next : (all : List (List Partial)) →
          add (drop at (map vertex_of spans)) all ≡
          add (drop (at + 1) (map vertex_of spans))
          (edges_added (receiving rs) first told (bucket source (vertex_of (get_or spans at d)) rs.edges.now) all)
      from_next all =
          ap (λ vs. add vs all)
          (drop_more (map vertex_of spans) at 0 (omega (arith, length-map spans vertex_of))
          ∙ ap (λ u. u ∷ drop (at + 1) (map vertex_of spans)) (get_or-map vertex_of spans at d 0 lt))

      count_next : earlier + cond (get_or (senders (length spans) body) at false) 1 0 ≡
          set_count (take (at + 1) (senders (length spans) body))
      count_next =
          ap (λ k. k + cond (get_or (senders (length spans) body) at false) 1 0) so_far.count
          ∙ sym (set_count-more flags at (omega (
            arith,
            length-padded (length spans) (flags_in (take (bit_len (length
                spans)) body)),
          )))

      -- one that sends nothing
      pub telling_same : get_or (senders (length spans) body) at false ≡ false → IsTelling (at + 1) earlier env now
      telling_same none =
          let silent = told_next
          ∙ ap (λ b. cond b (Some (send_at words (length spans) earlier body)) None) none in
          let more : earlier + 0 ≡ earlier = omega arith in
          record {
            kept = so_far.kept;
            can = so_far.can;
            width = so_far.width;
            low = omega (arith, so_far.low);
            count = sym more ∙ sym (ap (λ b. earlier + cond b 1 0) none) ∙ count_next;
            rows =
                ap (add (drop (at + 1) (map vertex_of spans)))
                (sym (no_sender (receiving rs) first told rs.edges.now (vertex_of (get_or spans at d)) now.rows silent))
                ∙ sym (from_next now.rows)
                ∙ so_far.rows;
          }

      -- one that sends
      module _ (read next : Env) (new : Rows Partial) (count : ℕ) where
        pub telling_more : get_or (senders (length spans) body) at false ≡ true → settled read ≡ settled env →
            read.sends.items ≡ send_at words (length spans) earlier body →
            new ≡ record now {
              rows = edges_added (receiving rs) read (λ sender. Some read.sends.items) (bucket
                  source (vertex_of (get_or spans at d)) rs.edges.now) now.rows;
            } → settled next ≡ settled read →
            CanReceive rs (length read.sends.items) next new → count ≡ earlier + 1 →
            IsTelling (at + 1) count next new
        telling_more sends kept words_are added same can one =
            let sent = told_next
            ∙ ap (λ b. cond b (Some (send_at words (length spans) earlier body)) None) sends
            ∙ ap Some (sym words_are) in
            let size = ap length words_are
            ∙ length-words_in words (drop (8 * words * earlier) (drop (bit_len (length spans)) body)) in
            let edges : List Edge = bucket source (vertex_of (get_or spans at d)) rs.edges.now in
            let here = ap (λ (t : Rows Partial). t.rows) added
            ∙ edges_settled (receiving rs) first read (λ sender. Some read.sends.items) edges now.rows
            (kept ∙ so_far.kept)
            ∙ sym (sender_is (receiving rs) first told rs.edges.now (Some read.sends.items)
            (vertex_of (get_or spans at d)) now.rows sent) in
            record {
              kept = same ∙ kept ∙ so_far.kept;
              can = subst (λ (n : ℕ). CanReceive rs n next new) size can;
              width = ap (λ (t : Rows Partial). t.width) added ∙ so_far.width;
              low = omega (arith, so_far.low, one);
              count = one ∙ sym (ap (λ b. earlier + cond b 1 0) sends) ∙ count_next;
              rows =
                  ap (add (drop (at + 1) (map vertex_of spans))) here ∙ sym (from_next now.rows) ∙ so_far.rows;
            }

    -- when all is told
    pub telling_all : (at earlier : ℕ) (env : Env) (now : Rows Partial) → length spans ≤ at →
        IsTelling at earlier env now →
        now ≡ record old { rows = edges_added (receiving rs) first told rs.edges.now old.rows }
    telling_all at earlier env now past so_far =
        let rows = sym (ap (λ vs. add vs now.rows)
        (drop_all at (map vertex_of spans) (omega (arith, length-map spans vertex_of))))
        ∙ so_far.rows
        ∙ ap (λ vs. add vs old.rows) are.vertices
        ∙ by_senders (receiving rs) first told rs.edges.now are.passes
        (λ u all none. no_sender (receiving rs) first told rs.edges.now u all
        (beside_out None u (map vertex_of spans) (sends_read words (length spans) body)
        (subst (AllByRecursion (λ w. w ≢ u)) (sym are.vertices)
        (not_passing are.passes u (range_with_len 0 rs.vertices) none))))
        rs.vertices old.rows are.order in
        λ j. record { width = so_far.width j; rows = rows j }

-- what receivers need stays where the numbers of the round do
pub can_settled : (rs : Receivers) (sends : ℕ) (now first : Env) (table : Rows Partial) → settled now ≡ settled first →
    CanReceive rs sends first table → CanReceive rs sends now table
can_settled rs sends now first table same can = record {
  names = ap (λ env. list_names (received_counts rs.rows.now.width sends env) (list_of rs.code.now SparseBody)) same
      ∙ can.names;
  round = subst (λ (n : ℕ). n ≤ 10000) (sym (ap (λ (env : Env). env.round) same)) can.round;
  slots = subst (λ (n : ℕ). n ≤ table.width) (sym (ap (λ (env : Env). length env.slots.items) same)) can.slots;
  each = can.each;
  count = can.count;
}

-- a receiver of the sends that were read
module _ (rs : Receivers) (body : List ℕ) (words count earlier : ℕ) (read env : Env) (table : Rows Partial) where
  pub can_read : settled read ≡ settled env → read.sends.items ≡ send_at words count earlier body →
      CanReceive rs words env table → CanReceive rs (length read.sends.items) read table
  can_read same is can =
      let size = ap length is ∙ length-words_in words (drop (8 * words * earlier) (drop (bit_len count) body)) in
      subst (λ (n : ℕ). CanReceive rs n read table) (sym size) (can_settled rs words read env table same can)
