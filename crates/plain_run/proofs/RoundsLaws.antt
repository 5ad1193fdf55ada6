-- The rounds of a run, one by one.
use Rattle.std.proofs.Common.{◌≡◌, ◌≢◌, ℕ, zero, suc, ◌+◌, Bool, List, [], ◌∷◌, ◌++◌, refl, ap, sym, subst, ◌∙◌, append_assoc}
use Rattle.std.proofs.lemmas.List.{append-nil}
use Rattle.vert_base.specs.declared.value.Ruling.{Ruling}
use Rattle.vert_base.specs.declared.value.Ruling.TheVariants as ruling
use Rattle.vert_eval.specs.SourceRun.{Job, Run, Standing, by_ruling, next_standing, played_at, rounds_from, then_runs}
use Rattle.plain_run.specs.Told.{Told, rounds_told, told_played}

-- what was told and what is left make the whole
pub record IsLeft (kept : Bool) (told : List Told) (left whole : Run) : Type 0 where
  pub rows : left.last.rows ≡ whole.last.rows
  pub rounds : told ++ rounds_told kept left ≡ rounds_told kept whole

going : (r : Ruling) (ended going : Run) → r ≢ ruling.Stop → by_ruling r ended going ≡ going
going ruling.Stop a b ne = absurd (ne refl)
going ruling.Dense a b ne = refl
going ruling.Sparse a b ne = refl

-- a round that takes place
pub left_more :
    (kept : Bool) (j : Job) (fuel less round : ℕ) (s next : Standing) (told : List Told) (one : Told) (whole : Run) →
    fuel ≡ suc less →
    s.ruling ≢ ruling.Stop →
    one ≡ told_played kept (played_at j round s) →
    next ≡ next_standing j round s →
    IsLeft kept told (rounds_from fuel j round s) whole →
    IsLeft kept (told ++ one ∷ []) (rounds_from less j (round + 1) next) whole
left_more kept j fuel less round s next told one whole e ne is here h =
    let rest = rounds_from less j (round + 1) (next_standing j round s) in
    let step : rounds_from fuel j round s ≡ then_runs (played_at j round s) rest =
    ap (λ n. rounds_from n j round s) e ∙ going s.ruling (record { rounds = []; last = s })
    (then_runs (played_at j round s) rest) ne in
    let same : rounds_from less j (round + 1) next ≡ rest = ap (rounds_from less j (round + 1)) here in
    record {
      rows = ap (λ r. r.last.rows) same ∙ (ap (λ r. r.last.rows) (sym step) ∙ h.rows);
      rounds =
          ap (λ r. (told ++ one ∷ []) ++ rounds_told kept r) same
          ∙ (ap (λ t. (told ++ t ∷ []) ++ rounds_told kept rest) is
          ∙ (append_assoc told (told_played kept (played_at j round s) ∷ []) (rounds_told kept rest)
          ∙ (ap (λ r. told ++ rounds_told kept r) (sym step) ∙ h.rounds)));
    }

stopped : (j : Job) (fuel round : ℕ) (s : Standing) → s.ruling ≡ ruling.Stop →
    rounds_from fuel j round s ≡ record { rounds = []; last = s }
stopped j zero round s e = refl
stopped j (suc less) round s e =
    ap (λ r. by_ruling r (record { rounds = []; last = s })
    (then_runs (played_at j round s) (rounds_from less j (round + 1) (next_standing j round s)))) e

-- a run that has ended
module _ (kept : Bool) (j : Job) (round : ℕ) (s : Standing) (told : List Told) (left whole : Run) where
  pub left_none : left ≡ record { rounds = []; last = s } → IsLeft kept told left whole →
      IsLeft kept told (record { rounds = []; last = s }) whole
  left_none e h = subst (λ (r : Run). IsLeft kept told r whole) e h

pub rows_ended : (kept : Bool) (s : Standing) (told : List Told) (whole : Run) →
    IsLeft kept told (record { rounds = []; last = s }) whole → s.rows ≡ whole.last.rows
rows_ended kept s told whole h = h.rows

pub rounds_ended : (kept : Bool) (s : Standing) (told : List Told) (whole : Run) →
    IsLeft kept told (record { rounds = []; last = s }) whole → told ≡ rounds_told kept whole
rounds_ended kept s told whole h = sym (append-nil told) ∙ h.rounds

module _ (kept : Bool) (j : Job) (fuel round : ℕ) (s : Standing) (told : List Told) (whole : Run) where
  pub left_stopped : s.ruling ≡ ruling.Stop → IsLeft kept told (rounds_from fuel j round s) whole →
      IsLeft kept told (record { rounds = []; last = s }) whole
  left_stopped e h = left_none kept j round s told (rounds_from fuel j round s) whole
      (stopped j fuel round s e) h

  pub left_over : fuel ≡ zero → IsLeft kept told (rounds_from fuel j round s) whole →
      IsLeft kept told (record { rounds = []; last = s }) whole
  left_over e h = left_none kept j round s told (rounds_from fuel j round s) whole
      (ap (λ n. rounds_from n j round s) e) h
