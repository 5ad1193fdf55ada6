-- A turn of a loop, with the partials that its emissions leave.
use Rattle.std.proofs.Common.{◌≡◌, ◌+◌, ◌<◌, get_or, drop, ℕ, List, length, map, sym, ap, ◌∙◌}
use Rattle.slot_merge.specs.declared.partial.Partial.{Partial}
use Rattle.slot_merge.specs.Partials.{with_emissions}
use Rattle.slot_merge.proofs.SlotLaws.{with_emissions-append}
use Rattle.vert_eval.specs.declared.environment.Env.{Env}
use Rattle.vert_eval.specs.declared.environment.Flow.TheVariants.{Going}
use Rattle.vert_eval.specs.Runs.{Act, Ran, in_turn}
use Rattle.vert_eval.proofs.RunLaws.{turn_going}
use Rattle.plain_run.specs.Frames.{SameEnd, SameCounts}

module _ {X : Type 0} (act : X → Act) (xs : List X) (i : ℕ) (x : X) (env : Env) (lt : i < length xs)
    (is : x ≡ get_or xs i x) where
  -- what is left after a turn ends as what was left before it
  pub turn_ends :
      (left : Env) (ps qs : List Partial) →
      left ≡ (act x env).env → Going ≡ (act x env).flow → qs ≡ with_emissions env.key ps (act x env).emitted →
      left.key ≡ env.key →
      SameEnd left.key qs (in_turn (map act (drop (i + 1) xs)) left) env.key ps (in_turn (map act (drop i xs)) env)
  turn_ends left ps qs e goes eps ek =
      let rest = in_turn (map act (drop (i + 1) xs)) left in
      let same = sym (turn_going act xs i x env lt is left e goes) in
      record {
        env = ap (λ r. r.env) same;
        flow = ap (λ r. r.flow) same;
        partials =
            ap (λ k. with_emissions k qs rest.emitted) ek
            ∙ ap (λ ps'. with_emissions env.key ps' rest.emitted) eps
            ∙ sym (with_emissions-append env.key ps (act x env).emitted rest.emitted)
            ∙ ap (λ r. with_emissions env.key ps r.emitted) same;
      }

module _ (i j k : ℕ) (ps qs rs : List Partial) (a b c : Ran) where
  pub SameEnd-trans : SameEnd i ps a j qs b → SameEnd j qs b k rs c → SameEnd i ps a k rs c
  SameEnd-trans p q = record {
    env = p.env ∙ q.env;
    flow = p.flow ∙ q.flow;
    partials = p.partials
        ∙ q.partials;
  }

pub SameCounts-trans : (a b c : Env) → SameCounts a b → SameCounts b c → SameCounts a c
SameCounts-trans a b c p q = record {
  counts = q.counts ∙ p.counts;
  id = q.id ∙ p.id;
  round = q.round ∙ p.round;
  key = q.key ∙ p.key;
}
