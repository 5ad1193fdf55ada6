-- Runs are bounded: what is left of a run bounds its events.
use Rattle.std.proofs.Common.{◌≡◌, ℕ, zero, suc, ◌+◌, ◌-◌, ◌*◌, ◌≤◌, true, List, [], ◌∷◌, length, ap, ◌∙◌, arith}
use Rattle.std.specs.Prelude.{replicate}
use Rattle.std.proofs.lemmas.Bool.{and_parts}
use Rattle.vert_base.specs.declared.message.Event.{Event}
use Rattle.vert_base.specs.declared.value.Ruling.{Ruling}
use Rattle.circulant_plan.specs.declared.spot.Spot.TheVariants.{Begin}
use Rattle.circulant_plan.specs.Standing.{Standing, first_standing, standing_at}
use Rattle.circulant_plan.specs.Skeleton.{Blocks, first_skeleton, resumed_skeleton, is_possible, step_of, all_possible}
use Rattle.circulant_plan.specs.Remaining.{way_left, ways_left, events_left}
use Rattle.skeleton_laws.specs.Laws.{FirstRunsAreBounded, ResumedRunsAreBounded}
use Rattle.skeleton_laws.proofs.Settled.{SettledState}
use Rattle.skeleton_laws.proofs.GoFacts.{may_limit}
use Rattle.skeleton_laws.proofs.FirstSettles.{first_settles, resumed_settles}
use Rattle.skeleton_laws.proofs.ReachedSettles.{state_after}
use Rattle.skeleton_laws.proofs.NearerLaws.{nearer}

pub bounded : (es : List (Event × Ruling)) (state : SettledState) →
    all_possible state.ring state.blocks es state.k ≡ true → length es ≤ events_left state.blocks state.k
bounded [] state all = omega arith
bounded (e ∷ es) state all =
    let parts =
    and_parts (is_possible state.ring state.blocks e.1 e.0 state.k)
    (all_possible state.ring state.blocks es (step_of state.ring e.1 e.0 state.k)) all in
    let less = nearer state e.1 e.0 parts.0 in
    let more = bounded es (state_after state e.1 e.0 parts.0) parts.1 in
    omega arith

-- where all machines stand alike
ways_alike : (blocks : Blocks) (n : ℕ) (s : Standing) → ways_left blocks (replicate n s) ≡ n * way_left blocks s
ways_alike blocks zero s = omega arith
ways_alike blocks (suc n) s = let more = ways_alike blocks n s in omega arith

pub first_runs_are_bounded : FirstRunsAreBounded
first_runs_are_bounded ring blocks es some few all =
    let state : SettledState = record {
      ring = ring;
      few = few;
      some = some;
      blocks = blocks;
      k = first_skeleton ring.machines;
      settled = first_settles ring few some blocks;
    } in
    let most = bounded es state all in
    let way : way_left blocks first_standing ≡ 256 * blocks.limit + 3 = omega arith in
    let ways : ways_left blocks (first_skeleton ring.machines).standings ≡ ring.machines * (256 * blocks.limit + 3)
    = ways_alike blocks ring.machines first_standing ∙ ap (λ n. ring.machines * n) way in
    omega arith

pub resumed_runs_are_bounded : ResumedRunsAreBounded
resumed_runs_are_bounded ring blocks q ruling es some few later may on all =
    let state : SettledState = record {
      ring = ring;
      few = few;
      some = some;
      blocks = blocks;
      k = resumed_skeleton ring.machines q ruling;
      settled = resumed_settles ring few some blocks q ruling later may on;
    } in
    let most = bounded es state all in
    let within = may_limit blocks q ruling may on in
    let way : way_left blocks (standing_at q (Begin q)) ≡ 256 * (blocks.limit + 1 - q) + 1 = omega arith in
    let ways : ways_left blocks (resumed_skeleton ring.machines q ruling).standings ≡ ring.machines *
    (256 * (blocks.limit + 1 - q) + 1)
    = ways_alike blocks ring.machines (standing_at q (Begin q)) ∙ ap (λ n. ring.machines * n) way in
    omega arith
