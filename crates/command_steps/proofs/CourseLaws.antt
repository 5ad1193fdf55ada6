-- What stands of a run: all that it puts before its end or its refusal, or a first part of it.
use Rattle.std.proofs.Common.{◌≡◌, inl, inr, ℕ, List, [], Option, refl, sym, ap, ◌∙◌, subst}
use Rattle.outside.specs.Bytes.{gained, GainedPart}
use Rattle.outside.proofs.BytesLaws.{gained-gained, gained-nothing, no_part, part_after, part_of_longer}
use Rattle.command_steps.specs.Courses.{Stands, TakesNothing, course_end, course_text}
use Rattle.command_steps.specs.Leaves.{Gained, Leaves, NotPut, NotStored, Refused, Stored, Wants, WantsAtPut, WantsAtRefusal, WantsAtStore}
use Rattle.command_steps.specs.Notes.{Fault}
use Rattle.command_steps.specs.Orders.{Course, Fails, IsOver, Keeps, Prints, Takes, Task, follows}
use Rattle.command_steps.specs.States.{Outside}

same_bytes : (w new : Outside) → new ≡ w → new.out.bytes ≡ w.out.bytes
same_bytes w new is = ap (λ (o : Outside). o.out.bytes) is

-- nothing was put, and memory was wanting
none_put : (w new : Outside) (outcome : Option Fault) (course : Course) → Wants w new outcome →
    Stands course w.out.bytes new.out.bytes outcome
none_put w new outcome course wants =
    let P : Option (List ℕ) → Type 0 = λ bytes. GainedPart w.out.bytes bytes (course_text course) in
    inr (inr wants.memory, subst P (sym (same_bytes w new wants.same)) (no_part w.out.bytes (course_text course)))

-- all was put, and the run ended so
all_put : (w new : Outside) (outcome : Option Fault) (course : Course) → new ≡ w → course_text course ≡ [] →
    outcome ≡ course_end course → Stands course w.out.bytes new.out.bytes outcome
all_put w new outcome course same none is =
    inl (is, same_bytes w new same ∙ sym (gained-nothing w.out.bytes) ∙ ap (gained w.out.bytes) (sym none))

-- the text and then what stands of the rest
after_print : (text : List ℕ) (rest : Course) (old new : Option (List ℕ)) (outcome : Option Fault) →
    Stands rest (gained old text) new outcome → Stands (Prints text rest) old new outcome
after_print text rest old new outcome (inl (is, whole)) = inl (is, whole ∙ gained-gained old text (course_text rest))
after_print text rest old new outcome (inr (why, part)) = inr (
  why,
  part_after old (gained old text) new text (course_text rest) refl part,
)

module _ (courses : Task → Course → Type 0) where
  pub course_stands : (course : Course) → TakesNothing course → (w new : Outside) (outcome : Option Fault) →
      Leaves courses (follows course) w new outcome → Stands course w.out.bytes new.out.bytes outcome
  course_stands IsOver calm w new outcome done = all_put w new outcome IsOver done.same refl done.fine
  course_stands (Fails fault) calm w new outcome (Refused ends) = all_put w new outcome (Fails fault) ends.same refl
      ends.fault_is
  course_stands (Fails fault) calm w new outcome (WantsAtRefusal wants) = none_put w new outcome (Fails fault) wants
  course_stands (Prints text rest) calm w new outcome (Gained spare spared leaves) =
      after_print text rest w.out.bytes new.out.bytes outcome (course_stands rest calm _ new outcome leaves)
  course_stands (Prints text rest) calm w new outcome (NotPut fails same is) = inr (
    inl is,
    part_of_longer w.out.bytes new.out.bytes text (course_text rest) fails.part,
  )
  course_stands (Prints text rest) calm w new outcome (WantsAtPut wants) = none_put w new outcome (Prints text rest)
      wants
  course_stands (Keeps name bytes rest) calm w new outcome (Stored leaves) = course_stands rest calm _ new outcome
      leaves
  course_stands (Keeps name bytes rest) calm w new outcome (NotStored fails same is) =
      let P : Option (List ℕ) → Type 0 = λ now. GainedPart w.out.bytes now (course_text rest) in
      inr (inl is, subst P (sym (ap (λ (o : Outside). o.out.bytes) same)) (no_part w.out.bytes (course_text rest)))
  course_stands (Keeps name bytes rest) calm w new outcome (WantsAtStore wants) = none_put w new outcome
      (Keeps name bytes rest) wants
  course_stands (Takes used text rest) calm w new outcome leaves = absurd calm
