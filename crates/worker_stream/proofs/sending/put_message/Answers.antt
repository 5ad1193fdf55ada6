-- A body that fits a short form is short.
use Rattle.std.proofs.Common.{◌≤◌, List, ℕ, length, subst, arith}
use Rattle.body_shape.specs.Shapes.{longest_of}
use Rattle.dep_message.specs.Laws.{AreBytes}
use Rattle.dep_message.proofs.BoundLaws.{bounded_law}
use Rattle.worker_stream.proofs.sending.put_message.Goals as goal

pub encode-requires : goal.encode-requires
encode-requires g c =
    let body = c.args.msg.now.body.items in
    let bytes = subst (λ (bs : List ℕ). AreBytes bs) c.deref.ensures.value c.are_bytes.ensures in
    let most : length body ≤ longest_of c.requires.shape = bounded_law c.requires.shape body bytes c.requires.fits in
    omega (arith, c.requires.short)
