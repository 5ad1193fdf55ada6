-- The names of messages, by what they tell.
use Rattle.std.specs.Prelude.{ℕ}
use Rattle.vert_base.specs.declared.message.Name.{Name}
use Rattle.vert_base.specs.declared.message.NameKind.TheVariants.{Refresh, Dep, Update, Push, Tally, Verdict}

-- the rows of machine k that machine m reads in round r
abbrev pub refresh_name : ℕ → ℕ → ℕ → Name
refresh_name r k m = record { kind = Refresh; round = r; step = 0; half = 0; from = k; to = m }

-- the loop states of a half after step s, from machine k to m
abbrev pub dep_name : ℕ → ℕ → ℕ → ℕ → ℕ → Name
dep_name r s h k m = record { kind = Dep; round = r; step = s; half = h; from = k; to = m }

-- what machine k emitted in step s to a half of the chunk of machine m
abbrev pub update_name : ℕ → ℕ → ℕ → ℕ → ℕ → Name
update_name r s h k m = record { kind = Update; round = r; step = s; half = h; from = k; to = m }

-- the sends of machine k to the chunk of machine m
abbrev pub push_name : ℕ → ℕ → ℕ → Name
push_name r k m = record { kind = Push; round = r; step = 0; half = 0; from = k; to = m }

-- the counts and totals of machine k after round r, for the judge
abbrev pub tally_name : ℕ → ℕ → Name
tally_name r k = record { kind = Tally; round = r; step = 0; half = 0; from = k; to = 0 }

-- the judge's ruling for round r, for machine m
abbrev pub verdict_name : ℕ → ℕ → Name
verdict_name r m = record { kind = Verdict; round = r; step = 0; half = 0; from = 0; to = m }
