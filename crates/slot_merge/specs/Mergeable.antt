-- Which partials may be merged.
use Rattle.std.specs.Prelude.{◌≡◌, ◌≢◌, List, [], ◌∷◌, ⊤, IsSome}
use Rattle.std.specs.List.{AllByRecursion}
use Rattle.vert_base.specs.declared.value.Combine.TheVariants.{First}
use Rattle.slot_merge.specs.declared.partial.Partial.{Partial}

-- partials of one slot, where `First` has different keys if both have a value
pub record CanMerge (p q : Partial) : Type 0 where
  pub op : q.op ≡ p.op
  pub keys : p.op ≡ First → IsSome p.value → IsSome q.value → p.key ≢ q.key

-- each one with each later one
abbrev pub CanAllMerge : List Partial → Type 0
CanAllMerge [] = ⊤
CanAllMerge (p ∷ ps) = AllByRecursion (CanMerge p) ps × CanAllMerge ps
