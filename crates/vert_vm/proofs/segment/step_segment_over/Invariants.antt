use Rattle.std.proofs.Common.{◌≡◌, [], length}
use Rattle.std.specs.List.{All}
use Rattle.vert_eval.specs.Frames.{SameFrame, beside}
use Rattle.vert_vm.specs.Segments.{IsWide, loop_code}
use Rattle.vert_vm.specs.Ends.{SameEnd}
use Rattle.vert_vm.proofs.SegmentLaws.{Feeding}
use Rattle.vert_vm.proofs.segment.step_segment_over.Given as goal

-- the loop over the neighbours that are left ends as the loop over all does
abbrev pub invariant-loop-neighbour : goal.invariant-loop-neighbour
invariant-loop-neighbour g l =
    let left = g.F.Feed.left in
    let given = g.F.Feed.given in
    let act = loop_code l.list in record {
      ends : SameEnd l.env.key l.emits.slots.items (act (left l.feed) l.env) l.initial.env.key
          l.initial.emits.slots.items (act (left l.initial.feed) l.initial.env);
      fed : Feeding (given l.initial.feed) (left l.initial.feed) (given l.feed) (left l.feed)
          (act (left l.feed) l.env).reads (act (left l.initial.feed) l.initial.env).reads;
      rows : All (IsWide l.initial.env) (left l.feed);
      stack : l.stack ≡ [];
      kept : SameFrame (beside l.initial.env l.env) l.env;
      partials : length l.emits.slots.items ≡ length l.initial.emits.slots.items;
    }

abbrev pub decreases-loop-neighbour : goal.decreases-loop-neighbour
decreases-loop-neighbour g l = length (g.F.Feed.left l.feed)
