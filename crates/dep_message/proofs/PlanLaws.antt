-- The names of the messages that a machine sends or takes.
use Rattle.std.proofs.Common.{◌≡◌, ℕ, Bool, true, false, ◌&&◌, ◌||◌, eqb, cond, Option, Some, None, List, refl, ap, ◌∙◌}
use Rattle.std.proofs.lemmas.Bool.{and_parts, cond-true}
use Rattle.vert_base.specs.declared.message.Name.{Name}
use Rattle.vert_base.specs.declared.message.NameKind.{NameKind}
use Rattle.vert_base.specs.declared.message.NameKind.TheVariants.{Refresh, Dep, Update, Push, Tally, Verdict}
use Rattle.body_shape.specs.declared.shape.BodyShape.{BodyShape}
use Rattle.symple_face.specs.declared.part.Part.{Part}
use Rattle.symple_face.specs.Plans.{goes_by_plan, ring_of}
use Rattle.body_shape.specs.Fit.{is_fit}
use Rattle.dep_message.specs.Laws.{SpelledIsAccepted}
use Rattle.vert_base.specs.HeaderBytes.{has_steps, is_proper}
use Rattle.dep_message.specs.Messages.{forms_of, refusal_of_body, refusal_of_named}
use Rattle.dep_message.proofs.MessageLaws.{refusal_of-spelled}

-- a name by the plan has no step where its kind has none
proper_by_plan : (part : Part) (kind : NameKind) (x : Name) →
    goes_by_plan (ring_of part.split.value part.at.machines) kind x ≡ true →
    (has_steps kind || (eqb x.step 0 && eqb x.half 0)) ≡ true
proper_by_plan part Refresh x planned = planned
proper_by_plan part Dep x planned = refl
proper_by_plan part Update x planned = refl
proper_by_plan part Push x planned = planned
proper_by_plan part Tally x planned = (and_parts _ _ planned).0
proper_by_plan part Verdict x planned = (and_parts _ _ planned).0

given : {X : Type 0} (b : Bool) (x y : X) → cond b (Some x) None ≡ Some y → b ≡ true
given true x y e = refl
given false x y e = absurd (cc)

-- a name with a form is proper
pub proper_from_form : (part : Part) (x : Name) (shape : BodyShape) → forms_of part x ≡ Some shape → is_proper x ≡ true
proper_from_form part x shape found =
    let planned = given _ _ shape found in
    proper_by_plan part x.kind x (and_parts _ _ (and_parts _ _ planned).1).0

fitting : (forms : Name → Option BodyShape) (x : Name) (body : List ℕ) (shape : BodyShape) → is_proper x ≡ true →
    forms x ≡ Some shape → is_fit shape body ≡ true → refusal_of_named forms (Some x) body ≡ None
fitting forms x body shape proper found fit =
    cond-true _ _ _ proper ∙ ap (λ o. refusal_of_body o body) found ∙ cond-true _ _ _ fit

pub back_law : SpelledIsAccepted
back_law part x body shape spelling found fit =
    refusal_of-spelled (forms_of part) x body spelling
    ∙ fitting (forms_of part) x body shape (proper_from_form part x shape found) found fit
