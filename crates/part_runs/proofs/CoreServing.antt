-- The course of `worker` at a core, over what its machine took in a complete run.
use Rattle.std.proofs.Common.{◌≡◌, ℕ, ◌+◌, ◌<◌, ◌≤◌, ◌∙◌, true, List, ◌++◌, Some, length, refl, sym, ap, subst, arith, slice_get}
use Rattle.std.specs.Prelude.{◌==◌, ◌-◌, flat_map, if◌then◌else◌, slice_index}
use Rattle.vert_base.specs.declared.message.Event.{Event}
use Rattle.vert_tree.specs.declared.program.Program.{Program}
use Rattle.vert_base.specs.Ends.{start_of}
use Rattle.vert_eval.specs.Rounds.{row_at}
use Rattle.array_text.specs.Tables.{header_text, row_text}
use Rattle.circulant_plan.specs.Ring.{lies_in}
use Rattle.graph_table.proofs.FilterLaws.{all_range, flat_map_same}
use Rattle.command_steps.specs.Orders.{IsOver, Keeps}
use Rattle.instrument.specs.declared.split.Split.{Split}
use Rattle.symple_face.specs.Cluster.{IsOneRun, first_world}
use Rattle.symple_face.specs.Parts.{PlainPart, chunk_vertices}
use Rattle.symple_face.specs.State.{machine}
use Rattle.symple_face.specs.Work.{Work}
use Rattle.symple_face.proofs.ChunkLaws.{chunk_rises, lies_is}
use Rattle.cluster_run.proofs.PartsAt.{part_at}
use Rattle.worker_laws.specs.Alone as alone
use Rattle.worker_laws.specs.Alone.{IsServedAlone}
use Rattle.worker_laws.specs.Chunks.{chunk_lines, chunk_text, last_rows}
use Rattle.worker_stream.specs.PartFiles.{spelled_part}
use Rattle.worker_stream.specs.Prompt.{sent_by, taken_by}
use Rattle.worker_stream.specs.Sent.{spelled_letters}
use Rattle.worker_stream.specs.Worker.{Served, worker}
use Rattle.part_runs.specs.CoreServing.{CompleteRunsAreServed, ServesItsPart, ServesSo}
use Rattle.part_runs.specs.Serving.{IsPart, IsRefused, IsServing, course_after, own_line, own_lines, rows_file, serving}
use Rattle.part_runs.proofs.PartBack.{none_refused, part_one, writable}

module _ (work : Work) (law : alone.CompleteRunsAreServed work) where
  -- the lines that a machine keeps are those of its chunk
  module _ (split : Split) (parts : List PlainPart) (one : IsOneRun parts) (es : List Event) (m : ℕ)
      (part : PlainPart) (there : slice_get parts m ≡ Some part) (rest : List ℕ)
      (is : IsServedAlone work split parts one es m part rest) where
    abbrev p : Program
    p = split.program.program

    ends_are : part.ends ≡ one.ends
    ends_are = ap (λ (q : PlainPart). q.ends) (part_at parts one m part there).0

    number : machine is.last ≡ m
    number = ap (λ (q : PlainPart). q.at.machine) (is.part_is ∙ (part_at parts one m part there).0)

    low : m < length one.ends
    low = (part_at parts one m part there).1

    row_text_of : (v : ℕ) → lies_in one.ends m v ≡ true →
        own_line work is.last v ≡ row_text p v (row_at (last_rows split parts one) v)
    row_text_of v lies =
        ap (λ (q : Split). row_text q.program.program v (work.row is.last v)) is.split_is
        ∙ ap (row_text p v) (is.rows v lies)

    lies : (v : ℕ) → start_of one.ends m ≤ v →
        v < start_of one.ends m + (slice_index one.ends m - start_of one.ends m) → lies_in one.ends m v ≡ true
    lies v from to =
        let rises = chunk_rises 64 one.ends one.chunks m low in
        lies_is (start_of one.ends m) (slice_index one.ends m) v from (omega arith)

    lines_are : own_lines work is.last ≡ chunk_lines p one.ends (last_rows split parts one) m
    lines_are =
        ap (λ (q : PlainPart). flat_map (own_line work is.last) (chunk_vertices q.ends (machine is.last))) is.part_is
        ∙ ap (λ (ends : List ℕ). flat_map (own_line work is.last) (chunk_vertices ends (machine is.last))) ends_are
        ∙ ap (λ (j : ℕ). flat_map (own_line work is.last) (chunk_vertices one.ends j)) number
        ∙ flat_map_same (own_line work is.last) (λ v. row_text p v (row_at (last_rows split parts one) v))
        (chunk_vertices one.ends m)
        (all_range (λ v. own_line work is.last v ≡ row_text p v (row_at (last_rows split parts one) v))
        (start_of one.ends m) (slice_index one.ends m - start_of one.ends m)
        (λ v from to. row_text_of v (lies v from to)))

    rows_are : rows_file work is.last ≡ chunk_text p one.ends (last_rows split parts one) m
    rows_are =
        ap (λ (j : ℕ). if j == 0 then header_text is.last.split.program.program ++ own_lines work is.last
        else own_lines work is.last) number
        ∙ ap (λ (q : Split). if m == 0 then header_text q.program.program ++ own_lines work is.last
        else own_lines work is.last) is.split_is
        ∙ ap (λ (text : List ℕ). if m == 0 then header_text p ++ text else text) lines_are

    serves_so : (name : List ℕ) → ServesSo (spelled_letters (taken_by work m (first_world work split parts) es))
        (spelled_letters (sent_by work m (first_world work split parts) es))
        (chunk_text p one.ends (last_rows split parts one) m) name
        (spelled_letters (taken_by work m (first_world work split parts) es) ++ rest) (serving work part split name)
    serves_so name = record {
      uses = λ bytes. (worker work part split bytes).used;
      puts = λ bytes. (worker work part split bytes).text;
      next = λ bytes. course_after work name (worker work part split bytes).end;
      course_is = refl;
      uses_them = ap (λ (w : Served). w.used) is.served;
      puts_it = ap (λ (w : Served). w.text) is.served;
      keeps_them = ap (λ (w : Served). course_after work name w.end) is.served
          ∙ ap (λ (text : List ℕ). Keeps name text IsOver) rows_are;
    }

  pub runs_served : CompleteRunsAreServed work
  runs_served parts one m part text name course small accepted there is = by is
    where
      by : IsServing work (spelled_part part text) name course → ServesItsPart work parts one m text name course
      by (IsRefused why other reads course_is) =
          absurd (none_refused part text (writable parts one text small accepted m part there) why other reads)
      by (IsPart read split file course_is) =
          let same = part_one part text (writable parts one text small accepted m part there) read split file in
          record {
            split = split;
            says = same.1;
            serves = λ es rest complete.
                let so = serves_so split parts one es m part there rest
                (law split parts one es m part rest file.fits there complete) name in
                subst (ServesSo (spelled_letters (taken_by work m (first_world work split parts) es))
                (spelled_letters (sent_by work m (first_world work split parts) es))
                (chunk_text split.program.program one.ends (last_rows split parts one) m) name
                (spelled_letters (taken_by work m (first_world work split parts) es) ++ rest))
                (sym (course_is ∙ ap (λ (q : PlainPart). serving work q split name) same.0))
                so;
          }
