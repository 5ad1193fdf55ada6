-- The names of messages that a machine among p can take.
use Rattle.std.specs.Prelude.{◌≡◌, ◌≢◌, ◌<◌, ◌≤◌, ◌+◌, ℕ}
use Rattle.vert_base.specs.declared.message.Name.{Name}
use Rattle.vert_base.specs.declared.message.NameKind.{NameKind}
use Rattle.vert_base.specs.declared.message.NameKind.TheVariants.{Refresh, Dep, Update, Push, Tally, Verdict}
use Rattle.circulant_plan.specs.Ring.{order_of, before_machine}

-- from another machine, for the whole round
pub record IsOfRound (p : ℕ) (x : Name) : Type 0 where
  pub from : x.from < p
  pub to : x.to < p
  pub other : x.from ≢ x.to
  pub step : x.step ≡ 0
  pub half : x.half ≡ 0

-- from this sender, for a half in a step before the last
pub record IsOfStep (p sender : ℕ) (x : Name) : Type 0 where
  pub from : x.from ≡ sender
  pub to : x.to < p
  pub step : x.step + 1 < p
  pub half : x.half ≤ 1

abbrev pub CanTakeKind : NameKind → ℕ → Name → Type 0
CanTakeKind Refresh p x = IsOfRound p x
CanTakeKind Dep p x = IsOfStep p (before_machine x.to p) x
CanTakeKind Update p x = IsOfStep p (order_of x.to x.step p) x
CanTakeKind Push p x = IsOfRound p x
CanTakeKind Tally p x = IsOfRound p x × (x.to ≡ 0)
CanTakeKind Verdict p x = IsOfRound p x × (x.from ≡ 0)

-- the machine to which the name is addressed can take it in its round
abbrev pub CanTake : ℕ → Name → Type 0
CanTake p x = CanTakeKind x.kind p x
