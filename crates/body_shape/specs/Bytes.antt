-- What is spelled is bytes, and two examples.
use Rattle.std.specs.Prelude.{◌≡◌, ℕ, ◌≤◌, ℤ, pos, Option, None, Some, List, [], ◌∷◌, length}
use Rattle.std.specs.Int.{w64}
use Rattle.std.specs.Int.RustNames.{FitsSigned}
use Rattle.std.specs.List.{AllByRecursion}
use Rattle.dep_layout.specs.Laws.{AreBytes}
use Rattle.body_shape.specs.Places.{there}
use Rattle.body_shape.specs.Refresh.{PlainRow, refresh_body}
use Rattle.body_shape.specs.Update.{AreValues, IsSent, update_body, Sent}
use Rattle.body_shape.specs.Push.{push_body}
use Rattle.body_shape.specs.Tally.{Counted, tally_body}
use Rattle.body_shape.specs.Verdict.{Judged, verdict_body}

abbrev pub RefreshIsBytes : Type 0
RefreshIsBytes = (rows : List PlainRow) → AreBytes (refresh_body rows)

-- where the masks are bytes
abbrev pub UpdateIsBytes : Type 0
UpdateIsBytes = (slots reduced : ℕ) (sents : List Sent) → AllByRecursion (IsSent slots reduced) sents →
    AreBytes (update_body sents)

abbrev pub PushIsBytes : Type 0
PushIsBytes = (sends : List (Option (List ℤ))) → AreBytes (push_body sends)

abbrev pub TallyIsBytes : Type 0
TallyIsBytes = (c : Counted) → AreBytes (tally_body c)

abbrev pub VerdictIsBytes : Type 0
VerdictIsBytes = (j : Judged) → AreBytes (verdict_body j)

-- a mask of at most eight places is a byte
abbrev pub FewPlaces : Type 0
FewPlaces = (values : List (Option ℤ)) → length values ≤ 8 → AllByRecursion (FitsSigned w64) (there values) →
    AreValues (length values) values

-- one vertex with a slot that has the value 0
abbrev pub UpdateExample : Type 0
UpdateExample = update_body (record { values = Some (pos 0) ∷ []; operands = [] } ∷ []) ≡ 1 ∷ 0 ∷ 0 ∷ 0 ∷ 0 ∷ 0 ∷ 0
    ∷ 0 ∷ 0 ∷ 0 ∷ []

-- the first and the third of three vertices send, the third the word 258
abbrev pub PushExample : Type 0
PushExample = push_body (Some [] ∷ None ∷ Some (pos 258 ∷ []) ∷ []) ≡ 5 ∷ 2 ∷ 1 ∷ 0 ∷ 0 ∷ 0 ∷ 0 ∷ 0 ∷ 0 ∷ []
