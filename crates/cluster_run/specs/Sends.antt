-- Messages that can be put under way.
use Rattle.std.specs.Prelude.{◌≡◌, ◌≤◌, ◌+◌, ◌^◌, None, Option, Some, List, [], ◌∷◌, length}
use Rattle.vert_base.specs.Letters.{Letter, found, placed}
use Rattle.symple_face.specs.State.{State}
use Rattle.symple_face.specs.Work.{Work}

-- each has a name that isn't under way yet
abbrev pub AreNew : List Letter → List Letter → Type 0
AreNew [] under_way = Unit {0}
AreNew (l ∷ ls) under_way = (found l.name under_way ≡ None) × AreNew ls (placed l under_way)

-- and there is room for them
pub record CanSend (ls under_way : List Letter) : Type 0 where
  pub new : AreNew ls under_way
  pub room : length ls + length under_way ≤ 2 ^ 31

-- what a machine sends in an event
abbrev pub sent_with : Work → Option State → List Letter
sent_with work None = []
sent_with work (Some s) = work.sent s
