use Rattle.std.proofs.Common.{◌≡◌, ◌≤◌, ◌*◌, length, map}
use Rattle.std.specs.List.{range_with_len}
use Rattle.vert_eval.specs.Rounds.{gathered, row_after}
use Rattle.plain_run.specs.Lists.{id_lists_of}
use Rattle.plain_run.specs.Told.{kept_reads, read_in}
use Rattle.plain_run.specs.Views.{AreWide, program_of, scene_of}
use Rattle.plain_run.proofs.round.round.Given as goal

abbrev pub invariant-loop-v : goal.invariant-loop-v
invariant-loop-v l =
    let scene = scene_of l.scene in
    let program = program_of l.scene in
    record {
      rows : l.rows.items ≡ map (row_after program l.ruling scene) (range_with_len 0 l.v);
      read : l.read ≡ read_in (map (λ v. (gathered program l.ruling scene v).reads) (range_with_len 0 l.v));
      few : l.read ≤ l.v * 8388608;
      reads : id_lists_of l.reads ≡ kept_reads l.kept
          (map (λ v. (gathered program l.ruling scene v).reads) (range_with_len 0 l.v));
      wide : AreWide (length program.fields.items) l.rows.items;
    }
