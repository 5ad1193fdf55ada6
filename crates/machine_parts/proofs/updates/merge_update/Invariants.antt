-- What is left to be told, over the partials so far, comes to the same as all over those at first.
use Rattle.std.proofs.Common.{◌≡◌, ◌-◌, length, map, drop}
use Rattle.std.specs.List.{All}
use Rattle.body_shape.specs.Update.{sents_read}
use Rattle.machine_parts.proofs.UpdateLaws.{merged}
use Rattle.machine_parts.proofs.updates.merge_update.Given as goal

abbrev pub invariant-loop-vertex : goal.invariant-loop-vertex
invariant-loop-vertex l =
    let sents = sents_read l.words.slots l.words.reduced (length l.list) l.body in
    let left = sents_read l.words.slots l.words.reduced (length l.list - l.vertex-index) l.rest in
    let ids = map (λ v. v.0) l.list in
    record {
      width : l.partials.width ≡ l.initial.partials.width;
      count : length l.partials.rows ≡ length l.initial.partials.rows;
      each : All (λ ps. length ps ≡ l.initial.partials.width) l.partials.rows;
      all : merged l.start l.key (drop l.vertex-index ids) left l.partials.rows
          ≡ merged l.start l.key ids sents l.initial.partials.rows;
    }
