-- Equal things on the wire, counted by name: a list in the order of names.
use Rattle.std.specs.Prelude.{◌≡◌, ◌≤◌, ◌+◌, ◌-◌, ℕ, min, nat_le, true, if◌then◌else◌, List, [], ◌∷◌, map}
use Rattle.std.specs.List.{AllByRecursion}
use Rattle.vert_base.specs.declared.message.Name.{Name}
use Rattle.vert_base.specs.Names.{is_before, same_name}
use Rattle.link_core.specs.declared.pile.Pile.{Pile}

-- how many there are of a name
abbrev pub count_of : Name → List Pile → ℕ
count_of x [] = 0
count_of x (p ∷ ps) = if same_name p.name x then p.count else count_of x ps

abbrev pub one_of : Name → Pile
one_of x = record { name = x; count = 1 }

-- one more, unless 255 are there
abbrev pub risen : Pile → Pile
risen p = record { name = p.name; count = min (p.count + 1) 255 }

abbrev pub fallen : Pile → Pile
fallen p = record { name = p.name; count = p.count - 1 }

-- with one more of a name, unless 255 are there
abbrev pub more : Name → List Pile → List Pile
more x [] = one_of x ∷ []
more x (p ∷ ps) =
    if is_before p.name x then p ∷ more x ps
    else if same_name p.name x then risen p ∷ ps
    else one_of x ∷ p ∷ ps

-- with one fewer of a name, where there is one
abbrev pub fewer : Name → List Pile → List Pile
fewer x [] = []
fewer x (p ∷ ps) =
    if same_name p.name x then if nat_le p.count 1 then ps else fallen p ∷ ps
    else p ∷ fewer x ps

abbrev pub names_of : List Pile → List Name
names_of ps = map (λ p. p.name) ps

-- each name is before those of all later ones
abbrev pub Ascend : List Pile → Type 0
Ascend [] = Unit {0}
Ascend (p ∷ ps) = AllByRecursion (λ q. is_before p.name q.name ≡ true) ps × Ascend ps

-- a pile has 1 to 255 things
pub record IsPile (p : Pile) : Type 0 where
  pub some : 1 ≤ p.count
  pub few : p.count ≤ 255

pub record ArePiles (ps : List Pile) : Type 0 where
  pub ascend : Ascend ps
  pub each : AllByRecursion IsPile ps
