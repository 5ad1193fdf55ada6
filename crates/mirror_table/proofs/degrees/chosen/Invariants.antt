-- The degrees so far are those of the vertices that were read.
use Rattle.std.proofs.Common.{◌≡◌, ℕ, length, map, take}
use Rattle.std.specs.List.{range_with_len}
use Rattle.symple_face.specs.declared.degree.Degree.{Degree}
use Rattle.mirror_table.proofs.degrees.chosen.Given as goal

abbrev pub invariant-loop-v : goal.invariant-loop-v
invariant-loop-v l = (f : ℕ → Degree) → l.degrees ≡ map f (range_with_len 0 (length l.degrees)) →
    l.list.items ≡ map f (map (λ v. v.0) (take l.v-index l.vertices))
