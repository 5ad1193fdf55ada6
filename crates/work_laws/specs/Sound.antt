-- What a core keeps of its own state, whatever bodies it takes.
use Rattle.std.specs.Prelude.{◌≡◌, ◌≢◌, ◌≤◌, ◌<◌, ◌+◌, ◌^◌, ◌++◌, ◌⊎◌, ◌==◌, ⊤, ℕ, ℤ, true, false, List, [], ◌∷◌, Option, Some, filter, length, map}
use Rattle.std.specs.Int.{w64}
use Rattle.std.specs.Int.RustNames.{FitsSigned}
use Rattle.std.specs.List.{All, AllByRecursion}
use Rattle.vert_base.specs.declared.graph.Edge.{Edge}
use Rattle.vert_base.specs.declared.value.Ruling.TheVariants.{Stop}
use Rattle.vert_base.specs.Letters.{Letter}
use Rattle.vert_base.specs.Neighbours.{target}
use Rattle.vert_tree.specs.declared.program.Dense.{Dense}
use Rattle.vert_tree.specs.Kinds.{kinds_of}
use Rattle.word_kinds.specs.Fits.{IsRow}
use Rattle.slot_merge.specs.declared.partial.Partial.{Partial}
use Rattle.dep_layout.specs.Spelling.{State as LoopState, IsState}
use Rattle.circulant_plan.specs.declared.spot.Spot.{Spot}
use Rattle.circulant_plan.specs.declared.spot.Spot.TheVariants.{Tell, Judge, Begin, Scan, Close, Over}
use Rattle.circulant_plan.specs.Skeleton.{may_rule}
use Rattle.circulant_plan.specs.Standing.{round_of}
use Rattle.vert_eval.specs.Rounds.{slot_ops}
use Rattle.instrument.specs.declared.split.Split.{Split}
use Rattle.instrument.specs.declared.split.SplitLoop.{SplitLoop}
use Rattle.body_shape.specs.Shapes.{bool_bits}
use Rattle.symple_face.specs.CoreSight.{known, program_of, targets_of}
use Rattle.symple_face.specs.CoreTakes.{classes_of, reduced_ops}
use Rattle.symple_face.specs.Lawful.{CanRun, IsSmall}
use Rattle.symple_face.specs.Parts.{PlainPart, chunk_vertices}
use Rattle.symple_face.specs.Plans.{blocks_of, loop_carry}
use Rattle.symple_face.specs.Shapes.{carried_in, types_at, types_of, words_in}
use Rattle.vert_tree.specs.Places.{lets_in}
use Rattle.symple_face.specs.State.{State, Sums, machine, p_of}
use Rattle.state_laws.specs.Letters.{FitsForm}

-- ---- what is kept of each vertex
-- one for each own vertex, and each such
abbrev pub OfOwn : {X : Type 0} → PlainPart → (X → Type 0) → List X → Type 0
OfOwn part P xs = (length xs ≡ length (chunk_vertices part.ends part.at.machine)) × All P xs

-- its value, where it has one, is a word
abbrev pub HasWord : Partial → Type 0
HasWord q = (z : ℤ) → q.value ≡ Some z → FitsSigned w64 z

-- partials of the slots and then of the reduced lets, by their operators
pub record ArePartials (split : Split) (ps : List Partial) : Type 0 where
  pub ops : map (λ q. q.op) ps ≡ slot_ops (program_of split) ++ reduced_ops (classes_of split.dense)
  pub words : All HasWord ps

-- a state with as many words as the loop of a dense block carries, each of the type of its let
abbrev pub IsStateIn : Option Dense → Option SplitLoop → LoopState → Type 0
IsStateIn dense split st =
    IsState (words_in (loop_carry split)) (bool_bits (types_at (types_of (lets_in dense)) (carried_in split))) st

abbrev pub IsLoopState : Split → LoopState → Type 0
IsLoopState split st = IsStateIn (program_of split).dense split.dense st

-- the edges from own vertices into a vertex
abbrev pub members_in : PlainPart → ℕ → List Edge
members_in part v = filter (λ e. target e == v) part.scan

-- lists beside vertices, each at most as long as the vertex has members with the part's machine
abbrev pub AreWithin : PlainPart → List ℕ → List (List ℕ) → Type 0
AreWithin part [] [] = ⊤
AreWithin part [] (xs ∷ more) = ⊥
AreWithin part (v ∷ vs) [] = ⊥
AreWithin part (v ∷ vs) (xs ∷ more) = (length xs ≤ length (members_in part v)) × AreWithin part vs more

-- ---- what is held
-- it does, or was merged or dropped
abbrev pub IsHeld : Split → PlainPart → Letter → Type 0
IsHeld split part l = (l.body ≡ []) ⊎ FitsForm split part l

-- sums below 2^40, and totals that are words
pub record AreSums (sums : Sums) : Type 0 where
  pub active : sums.active < 2 ^ 40
  pub edges : sums.edges < 2 ^ 40
  pub totals : All (FitsSigned w64) sums.totals

-- all that a state of a part and program holds fits
pub record HoldsFit (part : PlainPart) (split : Split) (s : State) : Type 0 where
  pub rows : OfOwn part (IsRow (kinds_of (program_of split).fields.items)) s.rows
  pub partials : OfOwn part (ArePartials split) s.partials
  pub ring : OfOwn part (IsLoopState split) s.ring
  pub held : AllByRecursion (IsHeld split part) s.held
  pub reading : AreWithin part (targets_of part) s.reading
  pub reads : AreWithin part (targets_of part) s.reads
  pub judged : AreSums s.judged
  pub report : IsSmall s.report

-- ---- the spot
-- the ruling of a round isn't stop, and the program may rule so
abbrev pub IsRuled : State → ℕ → Type 0
IsRuled s r = (s.ruling ≢ Stop) × (may_rule (blocks_of s.split) r s.ruling ≡ true)

-- the round takes place within the limit
abbrev pub TakesPlace : State → ℕ → Type 0
TakesPlace s r = (1 ≤ r) × (r ≤ (program_of s.split).limit)

-- the spot goes with the program: machine 0 judges, scans and closes are of blocks that there are
abbrev pub FitsSpot : State → Spot → Type 0
FitsSpot s Tell = ⊤
FitsSpot s (Judge r) = (machine s ≡ 0) × (r ≤ (program_of s.split).limit)
FitsSpot s (Begin r) = (1 ≤ r) × (r ≤ (program_of s.split).limit + 1) × (known s ≡ true → IsRuled s r)
FitsSpot s (Scan r step h) = ((blocks_of s.split).dense ≡ true) × TakesPlace s r × (step < p_of s) × (h ≤ 1)
FitsSpot s (Close r true) = ((blocks_of s.split).dense ≡ true) × TakesPlace s r
FitsSpot s (Close r false) = ((blocks_of s.split).sparse ≡ true) × TakesPlace s r
FitsSpot s Over = ⊤

pub record core_sound (s : State) : Type 0 where
  pub can : CanRun s.part s.split
  pub fits : HoldsFit s.part s.split s
  pub round : s.at.round ≡ round_of s.at.round s.at.spot
  pub spot : FitsSpot s s.at.spot
