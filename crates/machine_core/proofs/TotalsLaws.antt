-- How many totals a machine knows.
use Rattle.std.proofs.Common.{◌≡◌, ℕ, Bool, true, false, List, [], ◌∷◌, length, refl}
use Rattle.std.specs.Prelude.{◌==◌, if◌then◌else◌}
use Rattle.body_shape.specs.Verdict.{judged_read}
use Rattle.circulant_plan.specs.Names.{verdict_name}
use Rattle.dep_layout.proofs.WordLaws.{length-words_in}
use Rattle.symple_face.specs.CoreSight.{held_body, known_totals, total_count}
use Rattle.symple_face.specs.State.{State, machine}

judged_count : (count : ℕ) (body : List ℕ) → length (judged_read count body).totals ≡ count
judged_count count [] = length-words_in count []
judged_count count (byte ∷ bytes) = length-words_in count bytes

-- a verdict tells as many as the program has, and machine 0 knows those that it summed
pub known_count : (s : State) → ((machine s == 0) ≡ true → length s.judged.totals ≡ total_count s.split) →
    length (known_totals s) ≡ total_count s.split
known_count s summed = by (machine s == 0) summed
  where
    by : (b : Bool) → (b ≡ true → length s.judged.totals ≡ total_count s.split) →
        length
        (if b then s.judged.totals
        else (judged_read (total_count s.split) (held_body s (verdict_name s.at.round (machine s)))).totals) ≡
        total_count s.split
    by true told = told refl
    by false told =
        judged_count (total_count s.split) (held_body s (verdict_name s.at.round (machine s)))
