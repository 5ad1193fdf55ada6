-- The events that are possible in a world, and what it lacks.
use Rattle.std.specs.Prelude.{◌≡◌, ◌<◌, ◌↔◌, ℕ, true, false, Some, None, [], map, length}
use Rattle.std.specs.List.{Contains}
use Rattle.vert_base.specs.declared.message.Name.{Name}
use Rattle.vert_base.specs.declared.message.Event.{Event}
use Rattle.vert_base.specs.declared.message.Event.TheVariants.{Go, Take}
use Rattle.vert_base.specs.Names.{is_before}
use Rattle.skeleton_laws.specs.Laws.{EachOnce, NamesRise}
use Rattle.symple_face.specs.Cluster.{World, choices_of, finished, missing_of, plain_of, possible}
use Rattle.cluster_run.specs.Faults.{fault_of}

-- the choices are exactly the possible events, each once, and the takes among them rise by name
pub record AreChoices (w : World) : Type 0 where
  pub are_possible : (e : Event) → Contains (choices_of w) e → possible w e ≡ true
  pub listed : (e : Event) → possible w e ≡ true → Contains (choices_of w) e
  pub once : EachOnce (choices_of w)
  pub rise : NamesRise (map (λ l. l.name) w.under_way)

-- a take that is missing is of the least message under way; a go that is missing is of the least machine that is
-- ready, and nothing is under way
pub record IsLeast (w : World) : Type 0 where
  pub take_flies : (x : Name) → missing_of w ≡ Some (Take x) → possible w (Take x) ≡ true
  pub take_least : (x y : Name) → missing_of w ≡ Some (Take x) → possible w (Take y) ≡ true → is_before y x ≡ false
  pub go_alone : (m : ℕ) → missing_of w ≡ Some (Go m) → w.under_way ≡ []
  pub go_ready : (m : ℕ) → missing_of w ≡ Some (Go m) → possible w (Go m) ≡ true
  pub go_least : (m j : ℕ) → missing_of w ≡ Some (Go m) → j < m → possible w (Go j) ≡ false

-- an event is played where it is possible. Some can be chosen, one is the plain one, and something is missing exactly
-- where the run isn't finished
pub record GoesOn (w : World) : Type 0 where
  pub played : (e : Event) → (possible w e ≡ true) ↔ (fault_of w e ≡ None)
  pub chosen : (length (choices_of w) ≡ 0) ↔ (finished w ≡ true)
  pub plain : (plain_of w ≡ None) ↔ (finished w ≡ true)
  pub missing : (missing_of w ≡ None) ↔ (finished w ≡ true)
