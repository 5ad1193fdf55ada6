-- What sights that see the same of a vertex tell of it.
use Rattle.std.proofs.Common.{◌≡◌, ℕ, ℤ, pos, Bool, true, false, List, [], refl, ap, take, ◌∙◌, Option, Some, None}
use Rattle.std.specs.Prelude.{if◌then◌else◌}
use Rattle.vert_tree.specs.declared.program.Dense.{Dense}
use Rattle.slot_merge.specs.declared.partial.Partial.{Partial}
use Rattle.slot_merge.specs.Partials.{with_emissions}
use Rattle.dep_layout.specs.Spelling.{State as LoopState}
use Rattle.vert_eval.specs.Rounds.{updated}
use Rattle.vert_eval.specs.Runs.{run}
use Rattle.vert_eval.specs.Values.{value_of}
use Rattle.vert_eval.specs.Words.{is_set}
use Rattle.instrument.specs.declared.split.Split.{Split}
use Rattle.symple_face.specs.CoreClose.{closed_row, tail_at, tail_env, values_of}
use Rattle.symple_face.specs.CoreSight.{none, program_of}
use Rattle.symple_face.specs.CoreTakes.{slot_count}
use Rattle.symple_face.specs.Sight.{Sight, seen_env}
use Rattle.vertex_work.specs.Closing.{SeesAlike, ended_row, ending_partials, with_block}

module _ (g h : Sight) (v : ℕ) (same : SeesAlike g h v) where
  -- the same environment
  pub seen_alike : (key : ℕ) (slots : List (Option ℤ)) → seen_env g v key slots ≡ seen_env h v key slots
  seen_alike key slots = λ j. record {
    id = record { 0 = v };
    n = same.n j;
    round = same.round j;
    indeg = same.ins j;
    outdeg = same.outs j;
    draws = same.draws j;
    row = same.row j;
    next_active = false;
    locals = record { items = [] };
    touched = 0;
    other = record { id = record { 0 = v }; weight = pos 0; indeg = same.ins j; outdeg = same.outs j };
    other_row = same.row j;
    sends = record { items = [] };
    slots = record { items = slots };
    totals = record { items = same.totals j };
    key = key;
  }

  tail_alike : (split : Split) (dense : Dense) (key : ℕ) (ps : List Partial) (st : LoopState) →
      tail_at split dense g key ps st v ≡ tail_at split dense h key ps st v
  tail_alike split dense key ps st =
      ap
      (λ env. if is_set (value_of dense.when_test env)
      then with_emissions key ps (run dense.tail.items (tail_env split dense env ps st)).emitted else ps)
      (seen_alike key (none split))

  block_alike : (o : Option Dense) (split : Split) (key : ℕ) (ps : List Partial) (st : LoopState) →
      with_block o split g key ps st v ≡ with_block o split h key ps st v
  block_alike None split key ps st = refl
  block_alike (Some dense) split key ps st = tail_alike split dense key ps st

  partials_alike : (tail : Bool) (split : Split) (key : ℕ) (ps : List Partial) (st : LoopState) →
      ending_partials tail split g key ps st v ≡ ending_partials tail split h key ps st v
  partials_alike true split key ps st = block_alike (program_of split).dense split key ps st
  partials_alike false split key ps st = refl

  -- and so the same row after the round
  pub ended_alike : (tail : Bool) (split : Split) (key : ℕ) (ps : List Partial) (st : LoopState) →
      ended_row tail split g key ps st v ≡ ended_row tail split h key ps st v
  ended_alike tail split key ps st =
      let left : List Partial = ending_partials tail split h key ps st v in
      ap (λ qs. closed_row split g qs v) (partials_alike tail split key ps st)
      ∙ ap (updated (program_of split).update.items)
      (seen_alike 0 (values_of (take (slot_count split) left)))
