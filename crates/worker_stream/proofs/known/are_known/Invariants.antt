-- What is left of both lists decides.
use Rattle.std.proofs.Common.{◌≡◌, drop, map}
use Rattle.worker_stream.specs.Degrees.{are_known}
use Rattle.worker_stream.proofs.known.are_known.Given as goal

abbrev pub invariant-loop-degree : goal.invariant-loop-degree
invariant-loop-degree l =
    are_known (drop l.degree-index l.degrees) (map (λ v. v.0) l.rest) ≡ are_known l.degrees (map (λ v. v.0) l.vertices)
