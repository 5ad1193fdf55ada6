-- Laws of runs that end alike.
use Rattle.std.proofs.Common.{◌≡◌, ℕ, List, refl, sym, ap, ◌∙◌}
use Rattle.slot_merge.specs.declared.partial.Partial.{Partial}
use Rattle.slot_merge.specs.Partials.{with_emissions}
use Rattle.slot_merge.proofs.SlotLaws.{with_emissions-append}
use Rattle.vert_eval.specs.declared.environment.Env.{Env}
use Rattle.vert_eval.specs.declared.environment.Flow.TheVariants.{Going, Broke}
use Rattle.vert_eval.specs.Runs.{Act, Ran, after, followed_by}
use Rattle.vert_eval.proofs.RunLaws.{followed-Broke, followed-Going}
use Rattle.vert_vm.specs.Ends.{SameEnd}

pub SameEnd-refl : (key : ℕ) (ps : List Partial) (r : Ran) → SameEnd key ps r key ps r
SameEnd-refl key ps r = record { env = refl; flow = refl; partials = refl }

module _ (i j k : ℕ) (ps qs rs : List Partial) (a b c : Ran) where
  pub SameEnd-trans : SameEnd i ps a j qs b → SameEnd j qs b k rs c → SameEnd i ps a k rs c
  SameEnd-trans p q = record {
    env = p.env ∙ q.env;
    flow = p.flow ∙ q.flow;
    partials = p.partials
        ∙ q.partials;
  }

-- a run that goes on, and then the rest in the environment that it left
module _ (key : ℕ) (ps qs : List Partial) (r : Ran) (next : Act) (whole : Ran) (left : Env) where
  pub going_ends : whole ≡ followed_by r next → left ≡ r.env → Going ≡ r.flow →
      qs ≡ with_emissions key ps r.emitted → left.key ≡ key → SameEnd left.key qs (next left) key ps whole
  going_ends is e goes eps ek =
      let rest = next left in
      let same = ap next e in
      let all = is ∙ followed-Going r next (sym goes) in
      record {
        env = ap (λ x. x.env) same ∙ sym (ap (λ x. x.env) all);
        flow = ap (λ x. x.flow) same ∙ sym (ap (λ x. x.flow) all);
        partials =
            ap (λ k. with_emissions k qs rest.emitted) ek
            ∙ ap (λ ps'. with_emissions key ps' rest.emitted) eps
            ∙ sym (with_emissions-append key ps r.emitted rest.emitted)
            ∙ sym (ap (λ x. with_emissions key ps x.emitted) (all ∙ sym (after_same r next left e)));
      }
    where
      after_same : (r : Ran) (next : Act) (left : Env) → left ≡ r.env → after r (next left) ≡ after r (next r.env)
      after_same r next left e = ap (λ x. after r (next x)) e

  -- a run that broke is the whole
  pub broke_ends : whole ≡ followed_by r next → left ≡ r.env → Broke ≡ r.flow →
      qs ≡ with_emissions key ps r.emitted →
      (left ≡ whole.env) × (Broke ≡ whole.flow) × (qs ≡ with_emissions key ps whole.emitted)
  broke_ends is e broke eps =
      let all = is ∙ followed-Broke r next (sym broke) in (
        e ∙ sym (ap (λ x. x.env) all),
        broke ∙ sym (ap (λ x. x.flow) all),
        eps ∙ sym (ap (λ x. with_emissions key ps x.emitted) all),
      )
