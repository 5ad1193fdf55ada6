use Rattle.std.proofs.Common.{◌≡◌, ◌++◌, length, map, take, drop}
use Rattle.vert_base.specs.Neighbours.{source}
use Rattle.vert_eval.specs.Rounds.{loop}
use Rattle.plain_run.specs.Frames.{SameEnd, SameCounts}
use Rattle.plain_run.specs.Views.{scene_of}
use Rattle.plain_run.proofs.dense.run_members.Given as goal

-- the loop over the members that are left ends as the loop over all does
abbrev pub invariant-loop-member : goal.invariant-loop-member
invariant-loop-member l =
    let act = loop (scene_of l.scene) l.body in record {
      ends : SameEnd l.env.key l.emits.slots.items (act (drop l.member-index l.members) l.env) l.initial.env.key
          l.initial.emits.slots.items (act l.members l.initial.env);
      read : l.read ≡ l.member-index;
      reads : map source (take l.member-index l.members) ++ (act (drop l.member-index l.members) l.env).reads
          ≡ (act l.members l.initial.env).reads;
      kept : SameCounts l.initial.env l.env;
      partials : length l.emits.slots.items ≡ length l.initial.emits.slots.items;
    }
