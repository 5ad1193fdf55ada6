-- What a run of statements leaves as it was, and how two runs end alike.
use Rattle.std.specs.Prelude.{◌≡◌, ℕ, List}
use Rattle.slot_merge.specs.declared.partial.Partial.{Partial}
use Rattle.slot_merge.specs.Partials.{with_emissions}
use Rattle.vert_eval.specs.declared.environment.Env.{Env}
use Rattle.vert_eval.specs.Values.{counts_of}
use Rattle.vert_eval.specs.Runs.{Ran}

-- what stays the same in a run
pub record SameCounts (old new : Env) : Type 0 where
  pub counts : counts_of new ≡ counts_of old
  pub id : new.id ≡ old.id
  pub round : new.round ≡ old.round
  pub key : new.key ≡ old.key

-- two runs end alike, each with the partials that stood when it began and the key of its words
pub record SameEnd (key : ℕ) (ps : List Partial) (r : Ran) (other_key : ℕ) (qs : List Partial) (s : Ran) : Type 0 where
  pub env : r.env ≡ s.env
  pub flow : r.flow ≡ s.flow
  pub partials : with_emissions key ps r.emitted ≡ with_emissions other_key qs s.emitted

-- what the lets leave as it was
pub record SameDraws (old new : Env) : Type 0 where
  pub id : new.id ≡ old.id
  pub round : new.round ≡ old.round
  pub key : new.key ≡ old.key
