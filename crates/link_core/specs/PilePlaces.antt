-- Where the pile of a name stands in a list of piles, or would stand.
use Rattle.std.specs.Prelude.{◌≡◌, ◌<◌, ◌≤◌, ℕ, suc, if◌then◌else◌, List, [], ◌∷◌, length, slice_index_or, slice_set}
use Rattle.std.specs.List.{insert, remove}
use Rattle.vert_base.specs.declared.message.Name.{Name}
use Rattle.vert_base.specs.Names.{is_before}
use Rattle.link_core.specs.declared.pile.Pile.{Pile}
use Rattle.link_core.specs.Piles.{count_of, fallen, fewer, more, one_of, risen}

-- how many piles stand before the first one whose name isn't before this one
abbrev pub place_of : Name → List Pile → ℕ
place_of x [] = 0
place_of x (p ∷ ps) = if is_before p.name x then suc (place_of x ps) else 0

-- the pile of a name stands here
pub record IsPileAt (x : Name) (ps : List Pile) (at : ℕ) : Type 0 where
  pub within : at < length ps
  pub count : (d : Pile) → count_of x ps ≡ (slice_index_or ps at d).count
  pub more_is : (d : Pile) → more x ps ≡ slice_set ps at (risen (slice_index_or ps at d))
  pub last_is : (d : Pile) → (slice_index_or ps at d).count ≤ 1 → fewer x ps ≡ remove ps at
  pub fewer_is : (d : Pile) → 1 < (slice_index_or ps at d).count →
      fewer x ps ≡ slice_set ps at (fallen (slice_index_or ps at d))

-- no pile has the name, and here it would stand
pub record HasNoPile (x : Name) (ps : List Pile) (at : ℕ) : Type 0 where
  pub within : at ≤ length ps
  pub none : count_of x ps ≡ 0
  pub more_is : more x ps ≡ insert ps at (one_of x)
  pub fewer_is : fewer x ps ≡ ps
