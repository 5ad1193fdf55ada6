-- The messages that a machine sends have the bodies that the source's run says.
use Rattle.std.specs.Prelude.{◌≡◌, ◌<◌, ◌+◌, ℕ, Bool, true, map}
use Rattle.std.specs.List.{AllByRecursion}
use Rattle.vert_tree.specs.declared.program.Dense.{Dense}
use Rattle.vert_eval.specs.Rounds.{row_at}
use Rattle.circulant_plan.specs.declared.spot.Spot.TheVariants.{Begin, Close, Judge}
use Rattle.circulant_plan.specs.Standing.{first_standing}
use Rattle.symple_face.specs.declared.action.Action.TheVariants.{Ready}
use Rattle.symple_face.specs.CoreClose.{closed_rows}
use Rattle.symple_face.specs.CoreSight.{known}
use Rattle.symple_face.specs.CoreWork.{core_sent}
use Rattle.symple_face.specs.Ideal.{ideal_body, ideal_reads, machines_of}
use Rattle.symple_face.specs.Parts.{chunk_vertices}
use Rattle.symple_face.specs.Source.{Source, stand}
use Rattle.symple_face.specs.State.{State, action_of}
use Rattle.round_laws.specs.FoldJudge.{IsCountedRound}
use Rattle.round_laws.specs.FoldScan.{IsDenseRound, StandsAtScan}
use Rattle.round_laws.specs.IsIdeal.{IsIdeal, reads_held}

abbrev pub SendsIdeal : Source → State → Type 0
SendsIdeal src s = AllByRecursion (λ l. l.body ≡ ideal_body src l.name) (core_sent s)

-- before the first round the tally
abbrev pub TellSendsIdeal : Type 0
TellSendsIdeal =
    (src : Source) (most m : ℕ) (s : State) → IsCountedRound src most 0 → m < machines_of src → IsIdeal src m s →
    s.at ≡ first_standing → SendsIdeal src s

-- at the judge the verdicts
abbrev pub JudgeSendsIdeal : Type 0
JudgeSendsIdeal =
    (src : Source) (most round : ℕ) (s : State) → IsCountedRound src most round → IsIdeal src 0 s →
    s.at ≡ record { spot = Judge round; round = round } → action_of s ≡ Ready → SendsIdeal src s

-- at the begin of a round the rows of a dense one, and the sends of a sparse one
abbrev pub BeginSendsIdeal : Type 0
BeginSendsIdeal =
    (src : Source) (most m round : ℕ) (s : State) → IsCountedRound src most round → m < machines_of src →
    IsIdeal src m s → s.at ≡ record { spot = Begin round; round = round } → known s ≡ true → SendsIdeal src s

-- at a scan the update, and in a loop with a carry the loop states
abbrev pub ScanSendsIdeal : Type 0
ScanSendsIdeal =
    (src : Source) (d : Dense) (most m round step h : ℕ) (s : State) → IsDenseRound src d most round →
    StandsAtScan src m round step h s → IsIdeal src m s → SendsIdeal src s

-- at the close of a round whose rows and reads are ideal the tally
abbrev pub CloseSendsIdeal : Type 0
CloseSendsIdeal =
    (src : Source) (most m round : ℕ) (dense : Bool) (s : State) → IsCountedRound src most round →
    m < machines_of src → IsIdeal src m s → s.at ≡ record { spot = Close round dense; round = round } →
    closed_rows s round dense ≡ map (row_at (stand src (round + 1)).rows) (chunk_vertices src.job.graph.ends m) →
    ((v : ℕ) → reads_held src m s.at v ≡ ideal_reads src round m v) → SendsIdeal src s
