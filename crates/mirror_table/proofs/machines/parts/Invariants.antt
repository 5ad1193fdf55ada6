-- The parts so far are those of the machines before the next one, and the edges of the others are left.
use Rattle.std.proofs.Common.{◌≡◌, map}
use Rattle.std.specs.List.{All, range_with_len}
use Rattle.symple_face.specs.PartViews.{plain_of}
use Rattle.symple_face.specs.PartsOf.{part_of}
use Rattle.mirror_table.proofs.ShareLaws.{AreLeft, lists_in}
use Rattle.mirror_table.proofs.machines.parts.Given as goal

abbrev pub invariant-loop-m : goal.invariant-loop-m
invariant-loop-m l = record {
  parts : map plain_of l.parts.items ≡ map (part_of l.cuts l.draws l.fn.table.list) (range_with_len 0 l.m);
  split : All (λ part. part.split.value ≡ l.split.value) l.parts.items;
  left : AreLeft l.cuts l.fn.table.list l.m (lists_in l.shares.scans.items) (lists_in l.shares.pushes.items);
}
