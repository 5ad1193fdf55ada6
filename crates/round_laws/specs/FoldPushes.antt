-- A take of an ideal push leaves a machine as the source's run says.
use Rattle.std.specs.Prelude.{◌≡◌, ◌≢◌, ◌<◌, ℕ, true, false, Some, None, length, map}
use Rattle.std.specs.List.{AllByRecursion}
use Rattle.vert_base.specs.declared.value.Ruling.TheVariants as ruling
use Rattle.vert_base.specs.Letters.{Letter, found}
use Rattle.vert_tree.specs.declared.program.Sparse.{Sparse}
use Rattle.vert_tree.specs.Typed.{is_typed}
use Rattle.chunk_split.specs.Chunks.{AreEnds, vertices_of}
use Rattle.circulant_plan.specs.Names.{push_name}
use Rattle.body_shape.specs.Places.{there}
use Rattle.body_shape.specs.Refresh.{IsWords}
use Rattle.symple_face.specs.CoreSight.{known, program_of}
use Rattle.symple_face.specs.CoreWork.{core_take}
use Rattle.symple_face.specs.Ideal.{ideal_body, ideal_send, machines_of}
use Rattle.symple_face.specs.Parts.{push_list}
use Rattle.vert_tree.specs.Places.{sends_in}
use Rattle.symple_face.specs.Source.{Source, stand}
use Rattle.symple_face.specs.State.{State}
use Rattle.round_laws.specs.IsIdeal.{IsIdeal, awaits_begin, is_open}

-- machine m is one of the run's, whose program has this sparse block
pub record RunsSparse (src : Source) (sparse : Sparse) (most m : ℕ) : Type 0 where
  pub program : program_of src.split ≡ src.job.program
  pub block : src.job.program.sparse ≡ Some sparse
  pub typed : is_typed src.job.program ≡ true
  pub ends : AreEnds most src.job.graph.ends
  pub sized : src.job.graph.vertices ≡ vertices_of src.job.graph.ends
  pub machine : m < machines_of src

-- what machine k sends to m in a sparse round is words for each vertex that sends
abbrev pub SendsWords : Source → ℕ → ℕ → ℕ → Type 0
SendsWords src round k m =
    AllByRecursion (IsWords (length (sends_in (program_of src.split).sparse)))
    (there (map (ideal_send src round) (push_list src.job.graph.ends k m src.job.graph.edges)))

-- the message is the push of a machine that wasn't taken yet, in a sparse round
pub record IsPush (src : Source) (m : ℕ) (s : State) (l : Letter) : Type 0 where
  pub sender : ℕ
  pub machine : sender < machines_of src
  pub other : sender ≢ m
  pub name : l.name ≡ push_name s.at.round sender m
  pub new : found l.name s.held ≡ None
  pub sparse : (stand src s.at.round).ruling ≡ ruling.Sparse
  pub words : SendsWords src s.at.round sender m

-- where the totals of the round are known its edges are worked at once, and no body is kept
abbrev pub TakesPushesAtOnce : Type 0
TakesPushesAtOnce =
    (src : Source) (sparse : Sparse) (most m : ℕ) (s : State) (l : Letter) → RunsSparse src sparse most m →
    IsIdeal src m s → IsPush src m s l → known s ≡ true → is_open s.at.spot ≡ true →
    l.body ≡ ideal_body src l.name → IsIdeal src m (core_take s l)

-- else it is kept until the round begins
abbrev pub TakesPushesEarly : Type 0
TakesPushesEarly =
    (src : Source) (sparse : Sparse) (most m : ℕ) (s : State) (l : Letter) → RunsSparse src sparse most m →
    IsIdeal src m s → IsPush src m s l → known s ≡ false → awaits_begin s.at.spot ≡ true →
    l.body ≡ ideal_body src l.name → IsIdeal src m (core_take s l)
