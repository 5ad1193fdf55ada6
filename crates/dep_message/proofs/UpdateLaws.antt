-- Bodies with an update for each vertex.
use Rattle.std.proofs.Common.{◌≡◌, ℕ, ◌+◌, ◌-◌, ◌<◌, Bool, false, Some, List, sym, ap, ◌∙◌}
use Rattle.std.specs.Option.{option_map_or}
use Rattle.dep_layout.proofs.LoopLaws.{turns_left}
use Rattle.body_shape.specs.Fit.{are_updates, behind_update}

-- an update at the front leaves the answer to the bytes behind it
module _ (slots reduced n i : ℕ) (rest others : List ℕ) (r : Bool) where
  pub update_step : i < n → behind_update slots reduced rest ≡ Some others →
      are_updates slots reduced (n - i) rest ≡ r → are_updates slots reduced (n - (i + 1)) others ≡ r
  update_step within found whole =
      sym (ap (λ o. option_map_or (are_updates slots reduced (n - (i + 1))) o false) found)
      ∙ sym (ap (λ k. are_updates slots reduced k rest) (turns_left n i within))
      ∙ whole
