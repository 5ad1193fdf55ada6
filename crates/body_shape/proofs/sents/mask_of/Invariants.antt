use Rattle.std.proofs.Common.{◌≡◌, ◌≤◌, length, drop}
use Rattle.body_shape.specs.Places.{mask_of}
use Rattle.body_shape.proofs.sents.mask_of.Given as goal

abbrev pub invariant-places : goal.invariant-places
invariant-places l = record {
  within : l.place ≤ length l.values;
  value : l.mask ≡ mask_of (drop l.place l.values);
}

abbrev pub decreases-places : goal.decreases-places
decreases-places l = l.place
