-- The events that may come next, in the order of choices, and what is missing of a run.
use Rattle.std.specs.Prelude.{zero, suc, ℕ, ◌&&◌, not, Bool, false, if◌then◌else◌, Option, Some, None, List, [], ◌∷◌, ◌++◌, map, length, slice_get}
use Rattle.std.specs.Option.{option_map_or}
use Rattle.std.specs.List.{filter, range_with_len}
use Rattle.vert_base.specs.declared.message.Name.{Name}
use Rattle.vert_base.specs.declared.message.Event.{Event}
use Rattle.vert_base.specs.declared.message.Event.TheVariants.{Go, Take}
use Rattle.vert_base.specs.declared.value.Ruling.{Ruling}
use Rattle.vert_base.specs.Names.{is_before, same_name}
use Rattle.circulant_plan.specs.Skeleton.{step_of, Skeleton, Blocks, is_over, is_ready, is_possible}
use Rattle.circulant_plan.specs.Runs.{ruled}
use Rattle.circulant_plan.specs.declared.spot.Ring.{Ring}
use Rattle.circulant_plan.specs.Standing.{Standing}

-- a name put into an ascending list, once
abbrev pub name_placed : Name → List Name → List Name
name_placed x [] = x ∷ []
name_placed x (y ∷ ys) =
    if same_name x y then y ∷ ys
    else if is_before x y then x ∷ y ∷ ys
    else y ∷ name_placed x ys

-- the names of a list, ascending, each once
abbrev pub names_in_order : List Name → List Name
names_in_order [] = []
names_in_order (x ∷ xs) = name_placed x (names_in_order xs)

-- the events that may come next: goes by machine, then takes by name
abbrev pub goes_of : Ring → Blocks → Ruling → Skeleton → List ℕ
goes_of ring blocks ruling k =
    filter (λ m. is_possible ring blocks ruling (Go m) k) (range_with_len 0 (length k.standings))

abbrev pub choices_of : Ring → Blocks → Ruling → Skeleton → List Event
choices_of ring blocks ruling k =
    map (λ m. Go m) (goes_of ring blocks ruling k) ++ map (λ x. Take x) (names_in_order k.under_way)

-- the plain event is the first of them
abbrev pub plain_of : Ring → Blocks → Ruling → Skeleton → Option Event
plain_of ring blocks ruling k = slice_get (choices_of ring blocks ruling k) 0

-- the plain events from a state, where the judges rule by `ruling`, and no more than `bound` of them
abbrev pub plain_events : Ring → Blocks → (ℕ → Ruling) → ℕ → Skeleton → List Event
plain_events ring blocks ruling zero k = []
plain_events ring blocks ruling (suc bound) k =
    option_map_or
    (λ e. e ∷ plain_events ring blocks ruling bound (step_of ring (ruled ruling k) e k))
    (plain_of ring blocks (ruled ruling k) k)
    []

-- whether a machine isn't over and has taken what it needs
abbrev pub could_act : Ring → ℕ → Option Standing → List Name → Bool
could_act ring m None taken = false
could_act ring m (Some s) taken = not (is_over s.spot) && is_ready ring m s taken

abbrev pub ready_machines : Ring → Skeleton → List ℕ
ready_machines ring k =
    filter (λ m. could_act ring m (slice_get k.standings m) k.taken) (range_with_len 0 (length k.standings))

-- what is missing of a run: the take of the least name under way, or where there is none the go of the least
-- ready machine
abbrev pub missing_of : Ring → Skeleton → Option Event
missing_of ring k =
    slice_get (map (λ x. Take x) (names_in_order k.under_way) ++ map (λ m. Go m) (ready_machines ring k)) 0
