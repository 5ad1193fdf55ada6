use Rattle.std.specs.Prelude.{ℕ}

-- where a machine stands: its number, and how many machines there are
pub record Position : Type 0 where
  pub machine : ℕ
  pub machines : ℕ
