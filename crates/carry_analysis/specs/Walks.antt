-- What a walk over a loop body has seen.
use Rattle.std.specs.Prelude.{Bool, true, false, List, [], ◌∷◌, slice_index_or, slice_set, if◌then◌else◌}
use Rattle.vert_base.specs.declared.value.Combine.TheVariants as combine
use Rattle.vert_tree.specs.declared.statement.AssignOp.{AssignOp}
use Rattle.vert_tree.specs.declared.statement.AssignOp.TheVariants as assign
use Rattle.carry_analysis.specs.declared.seen.Use.{Use}
use Rattle.carry_analysis.specs.declared.seen.Use.TheVariants.{Read, Assigned}
use Rattle.carry_analysis.specs.declared.seen.Seen.{Seen}
use Rattle.carry_analysis.specs.declared.seen.Seen.TheVariants.{Nowhere, Always, Mixed}
use Rattle.carry_analysis.specs.declared.seen.Walk.{Walk}
use Rattle.carry_analysis.specs.declared.classes.Class.{Class}
use Rattle.carry_analysis.specs.declared.classes.Class.TheVariants.{Constant, Reduced, Carried}
use Rattle.carry_analysis.specs.Classes.{Mark, Uses, Breaks}

abbrev pub same_op : AssignOp → AssignOp → Bool
same_op assign.Set assign.Set = true
same_op assign.Add assign.Add = true
same_op assign.Least assign.Least = true
same_op assign.Greatest assign.Greatest = true
same_op _ _ = false

abbrev pub same_use : Use → Use → Bool
same_use Read Read = true
same_use (Assigned a) (Assigned b) = same_op a b
same_use _ _ = false

-- one more use of a let
abbrev pub with_use : Seen → Use → Seen
with_use Nowhere u = Always u
with_use (Always before) u = if same_use before u then Always before else Mixed
with_use Mixed u = Mixed

abbrev pub seen_after : Seen → List Use → Seen
seen_after s [] = s
seen_after s (u ∷ us) = seen_after (with_use s u) us

-- the class by what was seen
abbrev pub class_seen : Seen → Class
class_seen Nowhere = Constant
class_seen (Always Read) = Constant
class_seen (Always (Assigned assign.Set)) = Carried
class_seen (Always (Assigned assign.Add)) = Reduced combine.Sum
class_seen (Always (Assigned assign.Least)) = Reduced combine.Min
class_seen (Always (Assigned assign.Greatest)) = Reduced combine.Max
class_seen Mixed = Carried

-- what was seen of the lets, and whether there was a break
pub record Sight : Type 0 where
  pub lets : List Seen
  pub breaks : Bool

abbrev pub walk_of : Walk → Sight
walk_of w = record { lets = w.lets; breaks = w.breaks }

abbrev pub with_mark : Sight → Mark → Sight
with_mark s (Uses i u) = record {
  lets = slice_set s.lets i (with_use (slice_index_or s.lets i Nowhere) u);
  breaks = s.breaks;
}
with_mark s Breaks = record { lets = s.lets; breaks = true }

-- the sight after some more marks
abbrev pub walk_after : Sight → List Mark → Sight
walk_after s [] = s
walk_after s (m ∷ ms) = walk_after (with_mark s m) ms
