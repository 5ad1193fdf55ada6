-- Runs that are alike: what they emit, how they end, and what they leave but for the neighbour.
use Rattle.std.proofs.Common.{◌≡◌, IsTrue, List, ◌++◌, sym, ap, ◌∙◌}
use Rattle.vert_tree.specs.declared.statement.Stmt.{Stmt}
use Rattle.vert_tree.specs.Readable.{body_read, in_tests}
use Rattle.vert_eval.specs.declared.environment.Env.{Env}
use Rattle.vert_eval.specs.declared.environment.Flow.{Flow}
use Rattle.vert_eval.specs.declared.environment.Flow.TheVariants.{Going, Broke}
use Rattle.vert_eval.specs.Runs.{Act, Ran, after, by_flow, run}
use Rattle.order_laws.specs.Agreement.{SameButNeighbour}
use Rattle.order_laws.proofs.Blindness as blindness
use Rattle.order_laws.proofs.Loops.{SameButNeighbour-sym, SameButNeighbour-trans}

-- runs that emit the same, end in the same way and leave the same but for the neighbour
pub record Alike (a b : Ran) : Type 0 where
  pub env : SameButNeighbour a.env b.env
  pub emitted : b.emitted ≡ a.emitted
  pub flow : b.flow ≡ a.flow

pub alike_sym : (a b : Ran) → Alike a b → Alike b a
alike_sym a b p = record { env = SameButNeighbour-sym a.env b.env p.env; emitted = sym p.emitted; flow = sym p.flow }

pub alike_trans : (a b c : Ran) → Alike a b → Alike b c → Alike a c
alike_trans a b c p q =
    record {
      env = SameButNeighbour-trans a.env b.env c.env p.env q.env;
      emitted = q.emitted ∙ p.emitted;
      flow = q.flow
          ∙ p.flow;
    }

-- an act that runs alike
pub record Blind (f : Act) : Type 0 where
  pub alike : (a b : Env) → SameButNeighbour a b → Alike (f a) (f b)

-- a run that goes on, by how both runs end
module _ (x y p q : Ran) where
  pub next_alike : (v w : Flow) → w ≡ v → Alike x y → Alike p q →
      Alike (by_flow v x (after x p)) (by_flow w y (after y q))
  next_alike Going Going e h k =
      record {
        env = k.env;
        emitted = ap (λ es. es ++ q.emitted) h.emitted
            ∙ ap (λ es. x.emitted ++ es) k.emitted;
        flow = k.flow;
      }
  next_alike Broke Broke e h k = h
  next_alike Going Broke e h k = cc
  next_alike Broke Going e h k = cc

-- a block that reads no neighbour runs alike wherever the loop is
pub run_blind : (body : List Stmt) → IsTrue (body_read in_tests body) → Blind (run body)
run_blind body h = record {
  alike = λ a b same. let runs =
      blindness.run_blind body h a b same in record { env = runs.env; emitted = runs.emitted; flow = runs.flow };
}
