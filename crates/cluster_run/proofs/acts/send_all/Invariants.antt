use Rattle.std.proofs.Common.{◌≡◌, map, vec_len}
use mathlib.Core.List.{reverse}
use Rattle.vert_base.specs.Letters.{letter_of}
use Rattle.symple_face.specs.Cluster.{all_placed}
use Rattle.cluster_run.specs.Sends.{CanSend}
use Rattle.cluster_run.proofs.acts.send_all.Given as goal

abbrev pub invariant-loop-message : goal.invariant-loop-message
invariant-loop-message l = record {
  rest : all_placed (map letter_of (reverse l.out.items)) l.flight
      ≡ all_placed (map letter_of l.fn.out.items) l.fn.flight;
  can : CanSend (map letter_of (reverse l.out.items)) l.flight;
}

abbrev pub decreases-loop-message : goal.decreases-loop-message
decreases-loop-message l = vec_len l.out
