-- The begin of a round leaves a machine as the source's run says, and what it sends of a sparse one is ideal.
use Rattle.std.specs.Prelude.{◌≡◌, ◌≢◌, ◌<◌, ℕ, true, List}
use Rattle.std.specs.List.{AllByRecursion}
use Rattle.vert_base.specs.declared.message.Name.{Name}
use Rattle.vert_base.specs.declared.message.NameKind.TheVariants as kind
use Rattle.vert_base.specs.declared.value.Ruling.TheVariants as ruling
use Rattle.vert_base.specs.Letters.{Letter}
use Rattle.vert_tree.specs.declared.program.Sparse.{Sparse}
use Rattle.circulant_plan.specs.declared.spot.Spot.TheVariants.{Begin}
use Rattle.circulant_plan.specs.Names.{push_name}
use Rattle.symple_face.specs.CoreSight.{known}
use Rattle.symple_face.specs.CoreWork.{core_go, sent_at}
use Rattle.symple_face.specs.Ideal.{ideal_body, machines_of}
use Rattle.symple_face.specs.Source.{Source, stand}
use Rattle.symple_face.specs.State.{State}
use Rattle.round_laws.specs.FoldPushes.{RunsSparse, SendsWords}
use Rattle.round_laws.specs.IsIdeal.{IsIdeal}

-- the machine begins this round, of which it knows the ruling and the totals
pub record BeginsRound (src : Source) (m round : ℕ) (s : State) : Type 0 where
  pub spot : s.at ≡ record { spot = Begin round; round = round }
  pub knows : known s ≡ true

-- in a dense round no push is held
abbrev pub BeginsDense : Type 0
BeginsDense =
    (src : Source) (m round : ℕ) (s : State) → m < machines_of src → IsIdeal src m s → BeginsRound src m round s →
    (stand src round).ruling ≡ ruling.Dense → AllByRecursion (λ l. l.name.kind ≢ kind.Push) s.held →
    IsIdeal src m (core_go s)

-- the name is that of a push of another machine to m in a round
pub record IsPushName (src : Source) (m round : ℕ) (x : Name) : Type 0 where
  pub sender : ℕ
  pub machine : sender < machines_of src
  pub other : sender ≢ m
  pub name : x ≡ push_name round sender m

abbrev pub PushesAreNamed : Source → ℕ → ℕ → List Letter → Type 0
PushesAreNamed src m round held = AllByRecursion (λ l. l.name.kind ≡ kind.Push → IsPushName src m round l.name) held

-- in a sparse round each push that is held is one of the round, and tells words
abbrev pub BeginsSparse : Type 0
BeginsSparse =
    (src : Source) (sparse : Sparse) (most m round : ℕ) (s : State) → RunsSparse src sparse most m →
    IsIdeal src m s → BeginsRound src m round s → (stand src round).ruling ≡ ruling.Sparse →
    ((k : ℕ) → k < machines_of src → k ≢ m → SendsWords src round k m) → PushesAreNamed src m round s.held →
    IsIdeal src m (core_go s)

-- each push that it sends is ideal
abbrev pub SendsPushes : Type 0
SendsPushes =
    (src : Source) (sparse : Sparse) (most m k round : ℕ) (s : State) → RunsSparse src sparse most m →
    k < machines_of src → k ≢ m → IsIdeal src m s → BeginsRound src m round s →
    sent_at s s.at.spot (push_name round m k) ≡ ideal_body src (push_name round m k)
