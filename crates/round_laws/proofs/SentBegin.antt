-- What a machine sends at the begin of a round has the bodies that the source's run says.
use Rattle.std.proofs.Common.{◌≡◌, ◌≢◌, ◌<◌, ◌+◌, ◌-◌, ℕ, true, List, map, refl, sym, ap, subst, ◌∙◌, Option, None, Some, arith}
use Rattle.std.specs.Prelude.{slice_index}
use Rattle.std.specs.List.{AllByRecursion, range_with_len}
use Rattle.std.proofs.lemmas.Bool.{ne_eqb}
use Rattle.vert_base.specs.declared.graph.Edge.{Edge}
use Rattle.vert_base.specs.declared.message.Name.{Name}
use Rattle.vert_base.specs.declared.value.Ruling.{Ruling}
use Rattle.vert_base.specs.declared.value.Ruling.TheVariants as ruling
use Rattle.vert_base.specs.Neighbours.{bucket, source}
use Rattle.vert_tree.specs.declared.program.Program.{Program}
use Rattle.vert_tree.specs.declared.program.Sparse.{Sparse}
use Rattle.vert_eval.specs.declared.environment.Env.{Env}
use Rattle.vert_eval.specs.Rounds.{env_at, no_values, row_at, slot_ops}
use Rattle.circulant_plan.specs.declared.spot.Spot.TheVariants.{Begin}
use Rattle.circulant_plan.specs.Names.{push_name, refresh_name}
use Rattle.circulant_plan.specs.Ring.{lies_in}
use Rattle.vert_base.specs.Ends.{start_of}
use Rattle.circulant_plan.specs.Table.{begin_gives, others_of}
use Rattle.graph_table.proofs.FilterLaws.{all_filter, all_map, all_range, map_same}
use Rattle.vert_base.proofs.Orders.{all_append}
use Rattle.body_shape.specs.Push.{push_body}
use Rattle.body_shape.specs.Refresh.{plain_row, refresh_body}
use Rattle.symple_face.specs.CoreSight.{known, none, own_row, own_sight, program_of}
use Rattle.symple_face.specs.CoreSparse.{own_sends, sends_at}
use Rattle.symple_face.specs.CoreWork.{push_sent, refresh_sent, sent_at}
use Rattle.symple_face.specs.Ideal.{ideal_body, ideal_send, machines_of, send_with}
use Rattle.symple_face.specs.Parts.{chunk_vertices, push_list, refresh_list}
use Rattle.symple_face.specs.PartsOf.{part_of, push_of}
use Rattle.symple_face.specs.Source.{Source, scene, stand}
use Rattle.symple_face.specs.State.{State}
use Rattle.symple_face.proofs.ChunkLaws.{lies_is}
use Rattle.symple_face.proofs.ListLaws.{other_list}
use Rattle.round_laws.specs.FoldJudge.{IsCountedRound}
use Rattle.round_laws.specs.IsIdeal.{IsIdeal}
use Rattle.round_laws.specs.Sent.{BeginSendsIdeal, SendsIdeal}
use Rattle.round_laws.specs.Sights.{StandsIn}
use Rattle.round_laws.specs.Vertices.{are_some, members_at}
use Rattle.round_laws.proofs.Seen.{seen_environment}
use Rattle.round_laws.proofs.Sights.{own_are_seen, row_of_own}
use Rattle.round_laws.proofs.Vertices.{pushed_law, refreshed_law}

-- what holds of each machine but one holds of the others
all_others : (P : ℕ → Type 0) (p m : ℕ) → m < p → ((k : ℕ) → k < p → k ≢ m → P k) → AllByRecursion P (others_of p m)
all_others P p m low each =
    all_append P (range_with_len 0 m) (range_with_len (m + 1) (p - 1 - m))
    (all_range P 0 m (λ k from to. each k (omega (arith, low, to)) (λ e. omega (arith, e, to))))
    (all_range P (m + 1) (p - 1 - m)
    (λ k from to. each k (omega (arith, low, from, to)) (λ e. omega (arith, e, from))))

module _ (src : Source) (most m round : ℕ) (state : State) (fits : IsCountedRound src most round)
    (machine : m < machines_of src) where
  abbrev ends : List ℕ
  ends = src.job.graph.ends

  abbrev edges : List Edge
  edges = src.job.graph.edges

  abbrev p : ℕ
  p = machines_of src

  abbrev s : State
  s = record state {
    part = part_of ends src.job.draws edges m;
    split = src.split;
    at = record { spot = Begin round; round = round };
  }

  -- what holds of each own vertex
  all_own : (P : ℕ → Type 0) → ((v : ℕ) → lies_in ends m v ≡ true → P v) → AllByRecursion P (chunk_vertices ends m)
  all_own P each =
      all_range P (start_of ends m) (slice_index ends m - start_of ends m)
      (λ v low high. each v (lies_is (start_of ends m) (slice_index ends m) v low (omega (arith, low, high))))

  module _ (is : IsIdeal src m s) (knows : known s ≡ true) where
    stands : StandsIn m s (scene src round)
    stands =
        record { machine = machine; part = refl; sized = fits.sized; rows = is.rows; totals = is.totals knows }

    -- ---- rows
    row_is : (v : ℕ) → lies_in ends m v ≡ true → plain_row (own_row s v) ≡ plain_row (row_at (stand src round).rows v)
    row_is v lies =
        ap plain_row (ap (λ l. row_at l (v - start_of ends m)) is.rows
        ∙ row_of_own (stand src round).rows ends m v lies)

    refresh_is : (k : ℕ) → k < p → k ≢ m → refresh_sent s k ≡ ideal_body src (refresh_name round m k)
    refresh_is k low other =
        ap (λ vs. refresh_body (map (λ v. plain_row (own_row s v)) vs))
        (other_list p m k (λ j. refresh_list ends m j edges) low (ne_eqb k m other))
        ∙ ap refresh_body (map_same (λ v. plain_row (own_row s v)) (λ v. plain_row (row_at (stand src round).rows v))
        (refresh_list ends m k edges)
        (subst (AllByRecursion RowIs) (sym (refreshed_law most ends edges m k fits.ends machine low))
        (all_filter RowIs (λ v. are_some (members_at ends edges k v)) (chunk_vertices ends m) (all_own RowIs row_is))))
      where
        RowIs : ℕ → Type 0
        RowIs v = plain_row (own_row s v) ≡ plain_row (row_at (stand src round).rows v)

    -- ---- sends
    abbrev env : Program → ℕ → Env
    env program v = env_at (scene src round) v (no_values (slot_ops program))

    sends_same : (o : Option Sparse) (v : ℕ) → sends_at o (env src.job.program v) ≡ send_with src round v o
    sends_same None v = refl
    sends_same (Some sparse) v = refl

    send_is : (v : ℕ) → lies_in ends m v ≡ true → own_sends s round v ≡ ideal_send src round v
    send_is v lies =
        let seen = own_are_seen most m s (scene src round) fits.ends stands in
        ap (sends_at (program_of src.split).sparse)
        (seen_environment (own_sight s round) (scene src round) v 0 (none src.split) seen.0 (seen.1 v lies))
        ∙ ap (λ program. sends_at program.sparse (env program v)) fits.program
        ∙ sends_same src.job.program.sparse v

    push_is : (k : ℕ) → k < p → k ≢ m → push_sent s round k ≡ ideal_body src (push_name round m k)
    push_is k low other =
        ap (λ vs. push_body (map (own_sends s round) vs))
        (other_list p m k (λ j. push_list ends m j edges) low (ne_eqb k m other))
        ∙ ap push_body (map_same (own_sends s round) (ideal_send src round) (push_list ends m k edges)
        (subst (AllByRecursion SendIs) (sym (pushed_law most ends edges k m fits.ends low machine))
        (all_filter SendIs (λ u. are_some (bucket source u (push_of ends edges k))) (chunk_vertices ends m)
        (all_own SendIs send_is))))
      where
        SendIs : ℕ → Type 0
        SendIs v = own_sends s round v ≡ ideal_send src round v

    -- ---- both
    abbrev IsIdealName : Name → Type 0
    IsIdealName x = sent_at s s.at.spot x ≡ ideal_body src x

    names : (q : Ruling) → AllByRecursion IsIdealName (begin_gives p m round q)
    names ruling.Stop = tt
    names ruling.Dense =
        all_map IsIdealName (refresh_name round m) (others_of p m)
        (all_others (λ k. IsIdealName (refresh_name round m k)) p m machine refresh_is)
    names ruling.Sparse =
        all_map IsIdealName (push_name round m) (others_of p m)
        (all_others (λ k. IsIdealName (push_name round m k)) p m machine push_is)

    sends : SendsIdeal src s
    sends =
        all_map (λ l. l.body ≡ ideal_body src l.name) (λ x. record { name = x; body = sent_at s s.at.spot x })
        (begin_gives p m round state.ruling) (names state.ruling)

pub begin_sends_ideal : BeginSendsIdeal
begin_sends_ideal src most m round state fits machine is at knows =
    let t : State = s src most m round state fits machine in
    let same : state ≡ t = λ i. record state { part = is.part i; split = is.split i; at = at i } in
    subst (SendsIdeal src) (sym same)
    (sends src most m round state fits machine (subst (IsIdeal src m) same is) (subst (λ x. known x ≡ true) same knows))
