-- Which messages a machine sends and takes in a program, of all rounds.
use Rattle.std.specs.Prelude.{◌==◌, ◌+◌, ◌-◌, ◌&&◌, ◌||◌, not, nat_le, nat_lt, ℕ, Bool, true, Option, None, Some, is_some}
use Rattle.vert_base.specs.declared.message.Name.{Name}
use Rattle.vert_base.specs.declared.message.NameKind.{NameKind}
use Rattle.vert_base.specs.declared.message.NameKind.TheVariants.{Refresh, Dep, Update, Push, Tally, Verdict}
use Rattle.circulant_plan.specs.declared.spot.Ring.{Ring}
use Rattle.circulant_plan.specs.Ring.{chunk_of, after_machine}
use Rattle.circulant_plan.specs.Skeleton.{Blocks}
use Rattle.carry_analysis.specs.declared.carry.Carry.{Carry}
use Rattle.instrument.specs.declared.split.Split.{Split}
use Rattle.instrument.specs.declared.split.SplitLoop.{SplitLoop}

-- what the loop of a program hands on
abbrev pub loop_carry : Option SplitLoop → Option Carry
loop_carry None = None
loop_carry (Some l) = l.carry

-- the ring of p machines with a program
abbrev pub ring_of : Split → ℕ → Ring
ring_of split p = record { machines = p; carry = is_some (loop_carry split.dense) }

-- the blocks of a program and its limit of rounds
abbrev pub blocks_of : Split → Blocks
blocks_of split = record {
  limit = split.program.program.limit;
  dense = is_some split.program.program.dense;
  sparse = is_some split.program.program.sparse;
}

-- the message goes from one machine of p to another one, and m is one of the two
abbrev pub concerns : ℕ → ℕ → Name → Bool
concerns p m x = nat_lt x.from p && (nat_lt x.to p && (not (x.from == x.to) && (x.from == m || x.to == m)))

-- the name is one of a kind without step and half
abbrev pub is_whole : Name → Bool
is_whole x = x.step == 0 && x.half == 0

-- the name is one of a half in a step before the last
abbrev pub is_half : ℕ → Name → Bool
is_half p x = nat_lt x.step (p - 1) && nat_le x.half 1

-- the message goes between these machines by the plan: a loop state to the next machine, an update to the
-- owner of the step's chunk, a tally to machine 0 and a verdict from it
abbrev pub goes_by_plan : Ring → NameKind → Name → Bool
goes_by_plan ring Refresh x = is_whole x
goes_by_plan ring Dep x = is_half ring.machines x && (ring.carry && x.to == after_machine x.from ring.machines)
goes_by_plan ring Update x = is_half ring.machines x && x.to == chunk_of x.from x.step ring.machines
goes_by_plan ring Push x = is_whole x
goes_by_plan ring Tally x = is_whole x && x.to == 0
goes_by_plan ring Verdict x = is_whole x && x.from == 0

-- the program has the block that the message serves
abbrev pub serves : Blocks → NameKind → Bool
serves blocks Refresh = blocks.dense
serves blocks Dep = blocks.dense
serves blocks Update = blocks.dense
serves blocks Push = blocks.sparse
serves blocks Tally = true
serves blocks Verdict = true

-- the round is one of the kind's: from 0 for a tally, up to one above the limit for a verdict
abbrev pub is_in_range : ℕ → NameKind → ℕ → Bool
is_in_range limit Refresh r = nat_le 1 r && nat_le r limit
is_in_range limit Dep r = nat_le 1 r && nat_le r limit
is_in_range limit Update r = nat_le 1 r && nat_le r limit
is_in_range limit Push r = nat_le 1 r && nat_le r limit
is_in_range limit Tally r = nat_le r limit
is_in_range limit Verdict r = nat_le 1 r && nat_le r (limit + 1)

-- machine m of p sends or takes a message of this name, in some run of the program
abbrev pub is_planned : Split → ℕ → ℕ → Name → Bool
is_planned split p m x =
    concerns p m x
    && (goes_by_plan (ring_of split p) x.kind x
    && (serves (blocks_of split) x.kind
    && is_in_range (blocks_of split).limit x.kind x.round))
