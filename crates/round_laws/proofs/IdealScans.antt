-- A scan at a vertex is ideal.
use Rattle.std.proofs.Common.{◌≡◌, ◌+◌, ℕ, suc, List, ◌++◌, sym, ap, subst, ◌∙◌, None, Some, arith}
use Rattle.vert_base.specs.declared.graph.Edge.{Edge}
use Rattle.vert_tree.specs.declared.program.Dense.{Dense}
use Rattle.vert_tree.specs.declared.program.Program.{Program}
use Rattle.slot_merge.specs.Combine.{slot_values}
use Rattle.vert_eval.specs.declared.environment.Env.{Env}
use Rattle.vert_eval.specs.Rounds.{Scene, slot_ops}
use Rattle.instrument.specs.Continued.{IsSplit}
use Rattle.instrument.specs.Loops.{loop_split}
use Rattle.dep_layout.specs.Spelling.{State as LoopState}
use Rattle.symple_face.specs.CoreScan.{Scanned, fresh, scanned, sent_by_segment}
use Rattle.symple_face.specs.CoreSight.{program_of}
use Rattle.symple_face.specs.Ideal.{block_env, first_members, ideal_ran, ideal_sent, machines_of, members_in, ran_with, ring_with, state_at, told_state}
use Rattle.symple_face.specs.Ring.{operands}
use Rattle.symple_face.specs.Sight.{Sight}
use Rattle.symple_face.specs.Source.{Source, scene}
use Rattle.round_laws.specs.IdealScans.{FreshScansAreIdeal, IsIdealScan, ScansAreIdeal, step_members}
use Rattle.round_laws.specs.Scans.{ScansAs, Sees, ran_behind, ring_after, width_of}
use Rattle.round_laws.proofs.Ranges.{steps_more}
use Rattle.round_laws.proofs.Scans.{reduced_are, scans_afresh, scans_the_ring}

-- a run by a program
abbrev pub with_program : Source → Program → Source
with_program src program = record src { job = record src.job { program = program } }

module _ (src : Source) (d : Dense) (g : Sight) (round v c step key : ℕ)
    (dense : (program_of src.split).dense ≡ Some d) where
  abbrev run : Source
  run = with_program src (program_of src.split)

  abbrev s : Scene
  s = scene run round

  abbrev env : Env
  env = block_env run round v

  abbrev before : List Edge
  before = first_members run v c step

  abbrev here : List Edge
  here = step_members run v c step

  ring_is : (count : ℕ) → state_at run round v c count ≡
      told_state (width_of src.split) (ring_after s d env (first_members run v c count))
  ring_is count = ap (λ o. told_state (width_of src.split) (ring_with run round v c count o)) dense

  ran_is : ideal_ran run round v c step ≡ ran_behind s d env before here
  ran_is = ap (ran_with run round v c step) dense

  sent_is : IsSplit (program_of src.split) d env → ideal_sent run round v c step ≡
      sent_by_segment src.split d (ran_behind s d env before here)
  sent_is h = λ i. record {
    values = slot_values 0 (slot_ops (program_of src.split)) (ran_is i).emitted;
    operands = operands (reduced_are src.split d env h i) (ran_is i).env;
  }

  ideal_by : (got : Scanned) → IsSplit (program_of src.split) d env →
      ScansAs src.split d got (ran_behind s d env before here) →
      IsIdealScan run round v c step got
  ideal_by got h like = record {
    sent = like.sent ∙ sym (sent_is h);
    reads = like.reads
        ∙ sym (ap (λ r. r.reads) ran_is);
  }

  next_is : first_members run v c (step + 1) ≡ before ++ here
  next_is =
      let one : step + 1 ≡ suc step = omega arith in
      ap (λ count. first_members run v c count) one
      ∙ steps_more run.job.graph.ends (machines_of run) c step (members_in run v)

  scan_ideal : IsSplit (program_of src.split) d env → Sees g s v here →
      let got : Scanned = scanned src.split d g key here v (state_at run round v c step) in
      (got.state ≡ state_at run round v c (step + 1)) × IsIdealScan run round v c step got
  scan_ideal h sees =
      let scan : LoopState → Scanned = λ st. scanned src.split d g key here v st in
      let runs = scans_the_ring src.split d g s key v before here h sees in (
        ap (λ st. (scan st).state) (ring_is step) ∙ runs.0
            ∙ ap (λ l. told_state (width_of src.split) (ring_after s d env l)) (sym next_is) ∙ sym (ring_is (step + 1)),
        subst (λ st. IsIdealScan run round v c step (scan st)) (sym (ring_is step))
            (ideal_by (scan (told_state (width_of src.split) (ring_after s d env before))) h runs.1),
      )

  fresh_ideal : IsSplit (program_of src.split) d env → Sees g s v here → (loop_split d).carry ≡ None →
      IsIdealScan run round v c step (scanned src.split d g key here v (fresh src.split))
  fresh_ideal h sees free =
      ideal_by (scanned src.split d g key here v (fresh src.split)) h
      (scans_afresh src.split d g s key v before here h sees free)

pub scans_ideal : ScansAreIdeal
scans_ideal src d g round v c step key runs =
    subst
    (λ program. (let of : Source = with_program src program in
    IsSplit program d (block_env of round v) → Sees g (scene of round) v (step_members of v c step) →
    ((scanned src.split d g key (step_members of v c step) v (state_at of round v c step)).state ≡
    state_at of round v c (step + 1))
    × IsIdealScan of round v c step
    (scanned src.split d g key (step_members of v c step) v (state_at of round v c step))))
    runs.program
    (scan_ideal src d g round v c step key (ap (λ p. p.dense) runs.program ∙ runs.dense))

pub fresh_scans_ideal : FreshScansAreIdeal
fresh_scans_ideal src d g round v c step key runs =
    subst
    (λ program. (let of : Source = with_program src program in
    IsSplit program d (block_env of round v) → Sees g (scene of round) v (step_members of v c step) →
    (loop_split d).carry ≡ None →
    IsIdealScan of round v c step (scanned src.split d g key (step_members of v c step) v (fresh src.split))))
    runs.program
    (fresh_ideal src d g round v c step key (ap (λ p. p.dense) runs.program ∙ runs.dense))
