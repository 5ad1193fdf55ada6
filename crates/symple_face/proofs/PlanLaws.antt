-- What the plan says of the numbers in a name.
use Rattle.std.proofs.Common.{◌≡◌, ◌<◌, ◌-◌, ℕ, true, ap, sym, ◌∙◌, arith}
use Rattle.std.specs.Prelude.{nat_le, nat_lt}
use Rattle.std.proofs.lemmas.Bool.{and_parts, ltb-true}
use Rattle.vert_base.specs.declared.message.Name.{Name}
use Rattle.vert_base.specs.declared.message.NameKind.TheVariants.{Dep}
use Rattle.instrument.specs.declared.split.Split.{Split}
use Rattle.symple_face.specs.Plans.{concerns, goes_by_plan, is_half, is_planned, ring_of}

-- the step of a loop state is below the number of machines
pub dep_step : (split : Split) (p m : ℕ) (x : Name) → is_planned split p m x ≡ true → x.kind ≡ Dep → x.step < p
dep_step split p m x planned dep =
    let goes : goes_by_plan (ring_of split p) x.kind x ≡ true =
    (and_parts (goes_by_plan (ring_of split p) x.kind x) _ (and_parts (concerns p m x) _ planned).1).0 in
    let half : is_half p x ≡ true = (and_parts (is_half p x) _ (ap (λ k. goes_by_plan (ring_of split p) k x) (sym dep)
    ∙ goes)).0 in
    let step : x.step < p - 1 = ltb-true x.step (p - 1) (and_parts (nat_lt x.step (p - 1)) (nat_le x.half 1) half).0 in
    omega arith
