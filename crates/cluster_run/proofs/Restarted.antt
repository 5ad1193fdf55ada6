-- The machines of a run from a start stand where its round begins.
use Rattle.std.proofs.Common.{◌≡◌, ◌≢◌, ◌≤◌, ℕ, true, ◌&&◌, not, nat_le, List, [], ◌∷◌, length, Some, refl, ap, sym, ◌∙◌, subst, arith, slice_get}
use Rattle.std.specs.Prelude.{◌==◌}
use Rattle.std.specs.List.{All}
use Rattle.std.proofs.lemmas.Bool.{and_from, false≢true}
use Rattle.std.proofs.lemmas.Bool.Decides.{nat_tests}
use Rattle.std.proofs.lemmas.List.{length-map}
use Rattle.vert_base.specs.declared.value.Ruling.{Ruling}
use Rattle.vert_base.specs.declared.value.Ruling.TheVariants.{Stop, Dense, Sparse}
use Rattle.vert_base.specs.Names.{same_name}
use Rattle.circulant_plan.specs.Names.{verdict_name}
use Rattle.circulant_plan.specs.Skeleton.{Blocks, may_rule}
use Rattle.instrument.specs.declared.split.Split.{Split}
use Rattle.symple_face.specs.Cluster.{IsOneRun, World, restarted_world}
use Rattle.symple_face.specs.Lawful.{CanRun, IsLawful}
use Rattle.symple_face.specs.Parts.{PlainPart}
use Rattle.symple_face.specs.Planned.{has_block}
use Rattle.symple_face.specs.Plans.{blocks_of}
use Rattle.symple_face.specs.Restarts.{IsRestartLawful, IsStart}
use Rattle.symple_face.specs.State.{State}
use Rattle.symple_face.specs.Work.{PlainStart, Work}
use Rattle.cluster_run.specs.Driven.{BeginsRound, IsRestarted}
use Rattle.cluster_run.proofs.FirstWorlds.{all_at}
use Rattle.cluster_run.proofs.PartsAt.{part_at, parts_some}
use Rattle.cluster_run.proofs.SiteLists.{map_get_back}

within : (a b : ℕ) → a ≤ b → nat_le a b ≡ true
within a b le = grind (arith, nat_tests)

-- a ruling whose block the program has, for a round within the limit, is one that a judge may make
ruled_by_block : (blocks : Blocks) (round : ℕ) (ruling : Ruling) → has_block blocks ruling ≡ true →
    round ≤ blocks.limit → (ruling ≢ Stop) × (may_rule blocks round ruling ≡ true)
ruled_by_block blocks round Stop has le = absurd (false≢true has)
ruled_by_block blocks round Dense has le =
    ((λ e. cc), and_from blocks.dense (nat_le round blocks.limit) has (within round blocks.limit le))
ruled_by_block blocks round Sparse has le =
    ((λ e. cc), and_from blocks.sparse (nat_le round blocks.limit) has (within round blocks.limit le))

-- a machine that was just made of a part has it, and can begin at a start of it
pub record CanBegin (work : Work) (part : PlainPart) (split : Split) (start : PlainStart) (s : State) : Type 0 where
  pub made : s ≡ work.first s.part s.split
  pub starts : IsStart s.part s.split start
  pub begins : work.restarted s.part s.split start ≡ work.restarted part split start

module _ (work : Work) (sound : State → Type 0) where
  pub can_begin : IsLawful work sound → (part : PlainPart) (split : Split) (start : PlainStart) (s : State) →
      s ≡ work.first part split → IsStart part split start → CanBegin work part split start s
  can_begin lawful part split start s is starts =
      let has_part : part ≡ s.part = sym (ap (λ (q : State). q.part) is ∙ lawful.first_part part split) in
      let has_split : split ≡ s.split = sym (ap (λ (q : State). q.split) is ∙ lawful.first_split part split) in
      record {
        made = is ∙ ap (λ p. work.first p split) has_part ∙ ap (λ q. work.first s.part q) has_split;
        starts = subst (λ p. IsStart p s.split start) has_part (subst (λ q. IsStart part q start) has_split starts);
        begins = ap (λ p. work.restarted p s.split start) (sym has_part)
            ∙ ap (λ q. work.restarted part q start) (sym has_split);
      }

one_holds : {X : Type 0} (P : X → Type 0) (xs : List X) → 1 ≤ length xs → All P xs → (x : X) × P x
one_holds P [] some all = absurd (omega arith)
one_holds P (x ∷ xs) some all = (x, all 0 x (omega arith))

module _ (work : Work) (sound : State → Type 0) (restarts : IsRestartLawful work sound) (split : Split)
    (parts : List PlainPart) (one : IsOneRun parts) (can_run : All (λ part. CanRun part split) parts)
    (start : PlainStart) (starts : All (λ part. IsStart part split start) parts) where
  abbrev begun : World
  begun = restarted_world work split parts start

  begins_round : (m : ℕ) (s : State) → slice_get begun.sites m ≡ Some s →
      BeginsRound sound split parts start.round start.ruling m s
  begins_round m s at =
      let made = map_get_back (λ part. work.restarted part split start) parts m s at in
      let place = part_at parts one m made.0 made.1 in
      let number : made.0.at.machine ≡ m = ap (λ (q : PlainPart). q.at.machine) place.0 in
      let is = restarts.begins made.0 split start in
      subst (BeginsRound sound split parts start.round start.ruling m) made.2 (record {
        part = made.1 ∙ ap (λ part. Some part) (sym is.part);
        split_is = is.split;
        at = is.at;
        ruling_is = is.ruling;
        held = λ x. is.held x
            ∙ ap (λ n. not (n == 0) && same_name (verdict_name start.round n) x) number;
        is_sound = restarts.begins_sound made.0 split start
            (all_at (λ part. CanRun part split) parts m made.0 can_run made.1)
            (all_at (λ part. IsStart part split start) parts m made.0 starts made.1);
      })

  pub is_restarted : IsRestarted sound split parts start.round start.ruling begun
  is_restarted =
      let first = (one_holds (λ part. IsStart part split start) parts (parts_some parts one) starts).1 in
      let late = first.late in
      let ruled = ruled_by_block (blocks_of split) start.round start.ruling first.block first.within in
      record {
        late = omega arith;
        mode = ruled.0;
        may = ruled.1;
        still = refl;
        count = length-map parts (λ part. work.restarted part split start);
        each = begins_round;
      }
