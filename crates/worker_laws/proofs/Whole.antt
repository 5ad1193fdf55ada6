-- A whole run.
use Rattle.std.proofs.Common.{◌≡◌, ℕ, ◌+◌, ◌<◌, true, ◌∙◌, List, [], length, map, Some, refl, sym, ap, subst, arith, slice_get}
use Rattle.std.specs.Prelude.{if◌then◌else◌, nat_le}
use Rattle.std.proofs.lemmas.Bool.{and_parts}
use Rattle.std.proofs.lemmas.Option.{get_or_from_slice_get, slice_get_within}
use Rattle.vert_base.specs.declared.message.Event.{Event}
use Rattle.vert_base.specs.declared.value.Row.{Row}
use Rattle.vert_eval.specs.Rounds.{row_at}
use Rattle.vert_eval.specs.SourceRun.{Run}
use Rattle.word_kinds.specs.Fits.{IsFitting}
use Rattle.circulant_plan.specs.Skeleton.{Skeleton, first_skeleton}
use Rattle.instrument.specs.declared.split.Split.{Split}
use Rattle.symple_face.specs.Cluster.{IsOneRun, World, after, all_possible, finished, first_world, is_complete}
use Rattle.symple_face.specs.CoreFirst.{core_first}
use Rattle.symple_face.specs.CoreSight.{row_in}
use Rattle.symple_face.specs.CoreWork.{core_work}
use Rattle.symple_face.specs.Ideal.{machines_of}
use Rattle.symple_face.specs.Lawful.{CanRun}
use Rattle.symple_face.specs.Parts.{PlainPart, chunk_vertices}
use Rattle.symple_face.specs.PartsOf.{part_of}
use Rattle.symple_face.specs.Source.{Source}
use Rattle.symple_face.specs.State.{State}
use Rattle.work_laws.specs.Sound.{core_sound}
use Rattle.work_laws.proofs.Whole.{core_lawful}
use Rattle.cluster_run.proofs.PartsAt.{part_at}
use Rattle.cluster_run.proofs.SiteLists.{map_get}
use Rattle.round_laws.proofs.Sights.{row_of_own}
use Rattle.schedule_laws.specs.Laws.{whole_run}
use Rattle.schedule_laws.specs.OutputText.{run_of}
use Rattle.schedule_laws.specs.Runs.{IsSourceRun}
use Rattle.schedule_laws.proofs.Follows.{Follows}
use Rattle.schedule_laws.proofs.Parts.{parts_run}
use Rattle.schedule_laws.proofs.RunLaws.{run_at}
use Rattle.schedule_laws.proofs.Saying.{first_run}
use Rattle.schedule_laws.proofs.Whole.{first_site, whole_follows, whole_is_a_run}
use Rattle.worker_stream.specs.Prompt.{sent_by, taken_by}
use Rattle.worker_stream.specs.Sent.{spelled_letters}
use Rattle.worker_stream.specs.Worker.{Finishes, Served}
use Rattle.worker_stream.proofs.StateWalks.{first_walks}
use Rattle.worker_laws.specs.Alone.{CompleteRunsAreServed, IsServedAlone}
use Rattle.worker_laws.proofs.Along.{IsAlong}
use Rattle.worker_laws.proofs.Bytes.{taken_bytes}
use Rattle.worker_laws.proofs.Rows.{rows_at_end}
use Rattle.worker_laws.proofs.Serving.{ServesOn, serves_on}

module _ (split : Split) (parts : List PlainPart) (one : IsOneRun parts) (es : List Event) (m : ℕ) (part : PlainPart)
    (rest : List ℕ) (fits : IsFitting split.program.program) (there : slice_get parts m ≡ Some part)
    (complete : is_complete core_work (first_world core_work split parts) es ≡ true) where
  abbrev src : Source
  src = whole_run split parts one

  abbrev w : World
  w = first_world core_work split parts

  abbrev k : Skeleton
  k = first_skeleton (length parts)

  run : IsSourceRun src
  run = whole_is_a_run split parts one fits

  follows : Follows src parts w k
  follows = whole_follows split parts one fits

  done : (all_possible core_work w es ≡ true) × (finished (after core_work w es) ≡ true)
  done = and_parts (all_possible core_work w es) (finished (after core_work w es)) complete

  low : m < machines_of src
  low = (part_at parts one m part there).1

  part_is : part ≡ part_of one.ends one.draws one.edges m
  part_is = (part_at parts one m part there).0

  abbrev first : State
  first = core_first part split

  site : slice_get w.sites m ≡ Some first
  site = map_get (λ (p : PlainPart). core_first p split) parts m part there

  can_run : CanRun part split
  can_run =
      let P : PlainPart → Type 0 = λ p. CanRun p split in
      subst P (get_or_from_slice_get parts m part part there)
      (parts_run split parts one fits m part (slice_get_within parts m part there))

  along : IsAlong src m [] first.at 0 first
  along = record {
    truth = follows.machines m first site;
    sound = core_lawful.first_sound part split can_run;
    walks = first_walks core_work core_sound core_lawful part split can_run;
    agrees = λ going x. refl;
    led = tt;
    at = refl;
  }

  serves : ServesOn src m 0 first w es [] rest
  serves = serves_on src parts one run refl m low rest es 0 w k follows first site 0 first along done.0 done.1
      (taken_bytes src parts one run refl m es w k follows done.0)

  abbrev rows : List Row
  rows = (run_of src).last.rows

  rows_are : serves.last.rows ≡ map (row_at rows) (chunk_vertices one.ends m)
  rows_are =
      let zero_site = first_site split parts one fits in
      rows_at_end src parts one run refl m serves.there serves.last serves.truth serves.ends es w k follows zero_site.0
      zero_site.1 (done.0, done.1) serves.stands
      ∙ ap (λ (r : ℕ). map (row_at (run_at src r).last.rows) (chunk_vertices one.ends m))
      (ap (λ (n : ℕ). if nat_le 1 n then n else 1) zero_site.2)
      ∙ ap (λ (r : Run). map (row_at r.last.rows) (chunk_vertices one.ends m)) (first_run src)

  pub served_alone : IsServedAlone core_work split parts one es m part rest
  served_alone = record {
    last = serves.last;
    served = serves.served
        ∙ ap (λ (text : List ℕ). (let r : Served = record {
          used = 0 + length (spelled_letters (taken_by core_work m w es));
          text = text;
          end = Finishes serves.last;
        } in r)) serves.joined
        ∙ ap (λ (n : ℕ). (let r : Served = record {
          used = n;
          text = spelled_letters (sent_by core_work m w es);
          end = Finishes serves.last;
        } in r)) (let e : 0 + length (spelled_letters (taken_by core_work m w es))
        ≡ length (spelled_letters (taken_by core_work m w es)) = omega arith in e);
    part_is = serves.truth.ideal.part ∙ sym part_is;
    split_is = serves.truth.ideal.split;
    rows = λ v lies.
        ap (λ (p : PlainPart). row_in p serves.last.rows v) serves.truth.ideal.part
        ∙ ap (λ (rs : List Row). row_in (part_of one.ends one.draws one.edges m) rs v) rows_are
        ∙ row_of_own rows one.ends m v lies;
  }

pub complete_runs : CompleteRunsAreServed core_work
complete_runs split parts one es m part rest fits there complete =
    served_alone split parts one es m part rest fits there complete
