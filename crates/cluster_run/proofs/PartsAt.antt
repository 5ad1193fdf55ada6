-- The parts of one run, each at its place.
use Rattle.std.proofs.Common.{◌≡◌, ℕ, zero, suc, ◌+◌, ◌<◌, ◌≤◌, true, List, length, Some, ap, sym, ◌∙◌, subst, arith, slice_get}
use Rattle.std.specs.List.{range_with_len}
use Rattle.std.proofs.lemmas.List.{length-map}
use Rattle.std.proofs.lemmas.List.FromFn.{length-range_with_len}
use Rattle.vert_base.specs.Letters.{Letter}
use Rattle.instrument.specs.declared.split.Split.{Split}
use Rattle.body_shape.specs.declared.shape.BodyShape.{BodyShape}
use Rattle.body_shape.specs.Fit.{is_fit}
use Rattle.symple_face.specs.Cluster.{IsOneRun}
use Rattle.symple_face.specs.Parts.{PlainPart}
use Rattle.symple_face.specs.PartsOf.{part_of}
use Rattle.symple_face.specs.Shapes.{shape_of}
use Rattle.symple_face.proofs.ShapeLaws.{shapes_agree}
use Rattle.cluster_run.proofs.SiteLists.{map_get_back}

range_at : (a n m x : ℕ) → slice_get (range_with_len a n) m ≡ Some x → (x ≡ a + m) × (m < n)
range_at a zero m x e = cc
range_at a (suc n) zero x e = (let same : a ≡ x = cc in omega arith, omega arith)
range_at a (suc n) (suc m) x e = let rest = range_at (a + 1) n m x e in let at = rest.0 in
    let lt = rest.1 in (omega arith, omega arith)

-- a part of one run is that of its place
pub part_at : (parts : List PlainPart) (one : IsOneRun parts) (m : ℕ) (part : PlainPart) →
    slice_get parts m ≡ Some part →
    (part ≡ part_of one.ends one.draws one.edges m) × (m < length one.ends)
part_at parts one m part at =
    let found = map_get_back (part_of one.ends one.draws one.edges) (range_with_len 0 (length one.ends)) m part
    (subst (λ ps. slice_get ps m ≡ Some part) one.parts_are at) in
    let place = range_at 0 (length one.ends) m found.0 found.1 in
    let same : found.0 ≡ m = (let e = place.0 in omega arith) in
    (sym found.2 ∙ ap (part_of one.ends one.draws one.edges) same, place.1)

pub parts_count : (parts : List PlainPart) (one : IsOneRun parts) → length parts ≡ length one.ends
parts_count parts one =
    ap length one.parts_are
    ∙ length-map (range_with_len 0 (length one.ends)) (part_of one.ends one.draws one.edges)
    ∙ length-range_with_len 0 (length one.ends)

pub parts_few : (parts : List PlainPart) (one : IsOneRun parts) → length parts ≤ 64
parts_few parts one = let count = parts_count parts one in let few = one.chunks.1 in omega arith

pub parts_some : (parts : List PlainPart) (one : IsOneRun parts) → 1 ≤ length parts
parts_some parts one = let count = parts_count parts one in let some = one.chunks.0 in omega arith

-- a body fits at the receiver where it fits at the sender
module _ (split : Split) (parts : List PlainPart) (one : IsOneRun parts) (l : Letter) (from to : PlainPart) where
  pub fits_along : slice_get parts l.name.from ≡ Some from → slice_get parts l.name.to ≡ Some to →
      (shape : BodyShape) → shape_of split from l.name ≡ Some shape → is_fit shape l.body ≡ true →
      (shape : BodyShape) × (shape_of split to l.name ≡ Some shape) × (is_fit shape l.body ≡ true)
  fits_along at_from at_to shape has fits =
      let f = part_at parts one l.name.from from at_from in
      let t = part_at parts one l.name.to to at_to in (
        shape,
        ap (λ part. shape_of split part l.name) t.0
            ∙ sym (shapes_agree split one.ends one.draws one.edges l.name f.1 t.1)
            ∙ sym (ap (λ part. shape_of split part l.name) f.0)
            ∙ has,
        fits,
      )
