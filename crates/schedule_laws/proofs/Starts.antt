-- Behind the judge of a round the machines tell what stands before the next one.
use Rattle.std.proofs.Common.{◌≡◌, ◌≤◌, ◌+◌, ◌^◌, ℕ, true, List, length, map, None, Some, refl, sym, ap, subst, ◌∙◌, arith, slice_get}
use Rattle.std.specs.Prelude.{◌==◌, if◌then◌else◌, option_map}
use Rattle.vert_base.specs.declared.value.Ruling.{Ruling}
use Rattle.vert_base.specs.declared.value.Ruling.TheVariants.{Stop, Dense, Sparse}
use Rattle.vert_eval.specs.Rounds.{row_at}
use Rattle.circulant_plan.specs.declared.spot.Spot.TheVariants.{Judge}
use Rattle.circulant_plan.specs.Skeleton.{Skeleton, first_skeleton}
use Rattle.circulant_plan.specs.Standing.{Standing}
use Rattle.circulant_plan.specs.Table.{after_judge}
use Rattle.symple_face.specs.Cluster.{IsOneRun, World, after, all_possible, can_act, first_world, possible, step}
use Rattle.symple_face.specs.Cluster as cluster
use Rattle.symple_face.specs.CoreFirst.{ahead_at}
use Rattle.symple_face.specs.CoreSight.{program_of}
use Rattle.symple_face.specs.CoreWork.{core_go, core_work}
use Rattle.symple_face.specs.Parts.{PlainPart, chunk_vertices}
use Rattle.symple_face.specs.Source.{Source, stand}
use Rattle.symple_face.specs.State.{State, Sums, machine}
use Rattle.work_laws.specs.Sound.{FitsSpot}
use Rattle.work_laws.proofs.Whole.{core_lawful}
use Rattle.schedule_laws.specs.Runs.{IsSourceRun}
use Rattle.schedule_laws.proofs.Stands.{few as few_rounds, stands_in_words}
use Rattle.schedule_laws.specs.Laws.{whole_run}
use Rattle.schedule_laws.specs.Layout.{row_in, vertices_in}
use Rattle.schedule_laws.specs.Starts.{EveryStartIsTold, ahead_with, start_at, start_by, start_told, start_with}
use Rattle.schedule_laws.proofs.Follows.{Follows, gone_to, judges_so, known_zero}
use Rattle.schedule_laws.proofs.Printed.{f', goes_to, has_parts, rows_are, there_zero}
use Rattle.schedule_laws.proofs.Printing.{all_follow}
use Rattle.schedule_laws.proofs.Shown.{rows_shown}
use Rattle.schedule_laws.proofs.Whole.{whole_follows, whole_is_a_run}
use Rattle.schedule_laws.specs.Texts.{no_lines}
use Rattle.state_laws.proofs.Rulings.{judged_on}

module _ (src : Source) (parts : List PlainPart) (one : IsOneRun parts) (run : IsSourceRun src)
    (same_ends : src.job.graph.ends ≡ one.ends) (w : World) (k : Skeleton) (f : Follows src parts w k) (s : State)
    (at : slice_get w.sites 0 ≡ Some s) (ready : can_act (Some s) ≡ true) (r : ℕ) (spot : s.at.spot ≡ Judge r) where
  abbrev gone : World
  gone = cluster.go_at core_work w 0 (Some s)

  abbrev t : State
  t = core_go s

  abbrev behind : Skeleton
  behind = gone_to src parts one run same_ends w k f 0 s at ready

  goes : Follows src parts gone behind
  goes = f' no_lines src parts one run same_ends w k f s at ready r spot

  small : r + 1 ≤ 2 ^ 31
  small =
      let is = f.alike.machines 0 s at in
      let limit = few_rounds src run in
      let within : r ≤ src.job.program.limit =
      subst (λ p. r ≤ p.limit) (ap program_of is.split_is ∙ run.program)
      (subst (FitsSpot s) spot is.is_sound.spot).1 in
      omega (arith, within, limit)

  -- rows
  rows_told : map (row_in core_work gone) (vertices_in gone) ≡ (stand src (r + 1)).rows
  rows_told =
      rows_shown src gone (has_parts no_lines src parts one run same_ends gone behind goes) (stand src (r + 1)).rows
      (stands_in_words src run (r + 1) small).count
      (λ j u there.
      (goes.machines j u there).ideal.rows
      ∙ ap (λ n. map (row_at (stand src n).rows) (chunk_vertices src.job.graph.ends j))
      (sym (rows_are no_lines src parts one run same_ends w k f s at ready r spot j u there)))

  -- what machine 0 tells
  zero : slice_get gone.sites 0 ≡ Some t
  zero = there_zero no_lines src parts one run same_ends w k f s at ready r spot

  round : t.at.round ≡ r + 1
  round =
      ap (λ (q : Standing). q.round) (goes_to no_lines src parts one run same_ends w k f s at ready r spot)
      ∙ judged_on r (core_work.judge s)

  number : machine t ≡ 0
  number =
      ap (λ (part : PlainPart). part.at.machine) (core_lawful.go_part s) ∙ (f.alike.machines 0 s at).number

  ruling_is : t.ruling ≡ (stand src (r + 1)).ruling
  ruling_is =
      (goes.machines 0 t zero).ideal.ruling (known_zero t number (omega (arith, round)))
      ∙ ap (λ n. (stand src n).ruling) round

  judged_is : t.judged ≡ record {
    active = (stand src (r + 1)).active;
    edges = (stand src (r + 1)).edges;
    totals = (stand src (r + 1)).totals;
  }
  judged_is =
      (goes.machines 0 t zero).ideal.judged refl (omega (arith, round))
      ∙ ap (λ n. let sums : Sums = record {
        active = (stand src n).active;
        edges = (stand src n).edges;
        totals = (stand src n).totals;
      } in sums) round

  spot_is : t.at.spot ≡ after_judge r (stand src (r + 1)).ruling
  spot_is =
      ap (λ (q : Standing). q.spot) (goes_to no_lines src parts one run same_ends w k f s at ready r spot)
      ∙ ap (after_judge r) (judges_so src parts one run same_ends w k f 0 s at ready refl r spot)

  by_ruling : (q : Ruling) →
      option_map (start_with (stand src (r + 1)).rows) (ahead_at (record t {
        ruling = (stand src (r + 1)).ruling;
        judged = record {
          active = (stand src (r + 1)).active;
          edges = (stand src (r + 1)).edges;
          totals = (stand src (r + 1)).totals;
        };
      }) (after_judge r q)) ≡ start_by q (start_at src (r + 1))
  by_ruling Stop = refl
  by_ruling Dense = refl
  by_ruling Sparse = refl

  pub start_is : start_told core_work gone ≡ start_by (stand src (r + 1)).ruling (start_at src (r + 1))
  start_is =
      ap (λ o. option_map (start_with (map (row_in core_work gone) (vertices_in gone))) (ahead_with core_work o)) zero
      ∙ ap (λ rows. option_map (start_with rows) (core_work.ahead t)) rows_told
      ∙ ap (λ n. option_map (start_with (stand src (r + 1)).rows) (if n == 0 then ahead_at t t.at.spot else None))
      number
      ∙ ap (λ q. option_map (start_with (stand src (r + 1)).rows) (ahead_at t q)) spot_is
      ∙ ap (λ (q : Ruling). option_map (start_with (stand src (r + 1)).rows)
      (ahead_at (record t { ruling = q }) (after_judge r (stand src (r + 1)).ruling))) ruling_is
      ∙ ap (λ (q : Sums). option_map (start_with (stand src (r + 1)).rows)
      (ahead_at (record t { ruling = (stand src (r + 1)).ruling; judged = q })
      (after_judge r (stand src (r + 1)).ruling))) judged_is
      ∙ by_ruling (stand src (r + 1)).ruling

pub every_start_is_told : EveryStartIsTold
every_start_is_told split parts one es s r fits can at spot ready =
    let src : Source = whole_run split parts one in
    let first : World = first_world core_work split parts in
    let w : World = after core_work first es in
    let run : IsSourceRun src = whole_is_a_run split parts one fits in
    let behind =
    all_follow src parts one run refl first (first_skeleton (length parts)) (whole_follows split parts one fits) es
    can in
    ap (λ o. start_told core_work (cluster.go_at core_work w 0 o)) at
    ∙ start_is src parts one run refl w behind.0 behind.1 s at (subst (λ o. can_act o ≡ true) at ready) r spot
