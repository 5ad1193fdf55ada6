-- The work of a core is lawful.
use Rattle.std.proofs.Common.{◌≡◌, ℕ, List, [], ◌∷◌, map, refl, sym, subst}
use Rattle.std.specs.List.{AllByRecursion}
use Rattle.vert_base.specs.declared.message.Name.{Name}
use Rattle.vert_base.specs.Letters.{Letter}
use Rattle.circulant_plan.specs.declared.spot.Spot.{Spot}
use Rattle.circulant_plan.specs.declared.spot.Spot.TheVariants.{Judge}
use Rattle.circulant_plan.specs.Table.{gives_of}
use Rattle.symple_face.specs.CoreJudge.{core_judge, judge_at, sums_at}
use Rattle.symple_face.specs.CoreWork.{core_acting, core_sent, core_work, sent_at}
use Rattle.symple_face.specs.Lawful.{IsLawful, Judges, Rules}
use Rattle.symple_face.specs.Plans.{ring_of}
use Rattle.symple_face.specs.Restarts.{IsRestartLawful}
use Rattle.symple_face.specs.State.{State, machine, p_of}
use Rattle.work_laws.specs.Sound.{core_sound}
use Rattle.work_laws.proofs.Firsts.{ahead_round, ahead_ruling, ahead_there, begins_at, first_sound, restarted_sound}
use Rattle.work_laws.proofs.Gone.{go_sound, judge_may}
use Rattle.work_laws.proofs.Moves.{acted_part, acted_ruling, acted_split, go_held, sent_names, take_other, take_verdict, taken_at, taken_held, taken_part, taken_split}
use Rattle.work_laws.proofs.Sent.{own_is_row, sent_fit}
use Rattle.work_laws.proofs.Taken.{take_sound}

-- each body of a judge tells its ruling
rules_all : (s : State) (r : ℕ) (xs : List Name) →
    AllByRecursion (Rules (judge_at s (Judge r)))
    (map (λ x. let l : Letter = record { name = x; body = sent_at s (Judge r) x } in l) xs)
rules_all s r [] = tt
rules_all s r (x ∷ xs) = (((sums_at s r).totals, refl), rules_all s r xs)

rules_at : (s : State) (r : ℕ) (spot : Spot) → spot ≡ Judge r → (xs : List Name) →
    AllByRecursion (Rules (judge_at s spot)) (map
    (λ x. let l : Letter = record { name = x; body = sent_at s spot x } in l) xs)
rules_at s r spot e xs =
    subst
    (λ spot. AllByRecursion (Rules (judge_at s spot))
    (map (λ x. let l : Letter = record { name = x; body = sent_at s spot x } in l) xs)) (sym e) (rules_all s r xs)

sent_rulings : (s : State) (r : ℕ) → Judges s r → AllByRecursion (Rules (core_judge s)) (core_sent s)
sent_rulings s r judges =
    rules_at s r s.at.spot judges (gives_of (ring_of s.split (p_of s)) (machine s) s.at.spot (core_acting s))

pub core_lawful : IsLawful core_work core_sound
core_lawful = record {
  first_part = λ part split. refl;
  first_split = λ part split. refl;
  first_at = λ part split. refl;
  first_held = λ part split. refl;
  first_sound = first_sound;
  go_part = λ s. acted_part s s.at.spot;
  go_split = λ s. acted_split s s.at.spot;
  go_at = λ s. refl;
  go_held = go_held;
  go_ruling = λ s. acted_ruling s s.at.spot;
  go_sound = go_sound;
  sent_names = sent_names;
  sent_fit = sent_fit;
  sent_rulings = sent_rulings;
  judge_may = judge_may;
  take_part = λ s l. taken_part l.name.kind s l;
  take_split = λ s l. taken_split l.name.kind s l;
  take_at = λ s l. taken_at l.name.kind s l;
  take_held = λ s l x. taken_held l.name.kind s l x;
  take_verdict = take_verdict;
  take_other = take_other;
  take_sound = take_sound;
  row_typed = λ s v sound lies. own_is_row s sound v lies;
  report_small = λ s sound. sound.fits.report;
}

pub core_restarts : IsRestartLawful core_work core_sound
core_restarts = record {
  begins = begins_at;
  begins_sound = λ part split start can is. restarted_sound part split can start is;
  ahead_there = ahead_there;
  ahead_round = ahead_round;
  ahead_ruling = ahead_ruling;
}
