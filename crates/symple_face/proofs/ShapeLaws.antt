-- Sender and receiver see one form of a message's body.
use Rattle.std.proofs.Common.{◌≡◌, ℕ, ◌<◌, ◌≢◌, Bool, true, false, cond, not, ◌&&◌, ◌||◌, List, [], ◌∷◌, ◌++◌, length, refl, ap, sym, ◌∙◌, Some, None}
use Rattle.std.specs.Prelude.{◌==◌, if◌then◌else◌, nat_lt, slice_index_or}
use Rattle.std.proofs.lemmas.Bool.{and_parts, eq-eqb, ne_eqb, true≢false, or_right, or_left}
use Rattle.vert_base.specs.declared.graph.Edge.{Edge}
use Rattle.vert_base.specs.declared.message.Name.{Name}
use Rattle.vert_base.specs.declared.message.NameKind.{NameKind}
use Rattle.vert_base.specs.declared.message.NameKind.TheVariants.{Refresh, Dep, Update, Push, Tally, Verdict}
use Rattle.vert_base.specs.declared.value.ValueType.{ValueType}
use Rattle.vert_base.specs.declared.value.ValueType.TheVariants as value
use Rattle.instrument.specs.declared.split.Split.{Split}
use Rattle.body_shape.specs.declared.shape.BodyShape.TheVariants as shape
use Rattle.symple_face.specs.Parts.{push_list, refresh_list}
use Rattle.symple_face.specs.Plans.{blocks_of, concerns, goes_by_plan, is_in_range, is_planned, ring_of, serves}
use Rattle.body_shape.specs.Shapes.{bool_bits}
use Rattle.symple_face.specs.Shapes.{count_within, form_of, half_in, pushed, reduced_in, refreshed, types_of, updated}
use Rattle.vert_tree.specs.Places.{sends_in}
use Rattle.symple_face.specs.PartsOf.{ShapesAgree, part_of}
use Rattle.symple_face.proofs.ListLaws.{other_list}

same_self : (a : ℕ) → (a == a) ≡ true
same_self a = eq-eqb a a refl

-- both or neither take part
planned_same : (split : Split) (p : ℕ) (x : Name) → is_planned split p x.from x ≡ is_planned split p x.to x
planned_same split p x =
    let here : ((x.from == x.from) || (x.to == x.from)) ≡ ((x.from == x.to) || (x.to == x.to)) =
    or_left (x.from == x.from) (x.to == x.from) (same_self x.from)
    ∙ sym (or_right (x.from == x.to) (x.to == x.to) (same_self x.to)) in
    ap (λ b. (nat_lt x.from p && (nat_lt x.to p && (not (x.from == x.to) && b)))
    && (goes_by_plan (ring_of split p) x.kind x
    && (serves (blocks_of split) x.kind && is_in_range (blocks_of split).limit x.kind x.round))) here

module _ (split : Split) (ends : List ℕ) (draws : ℕ) (edges : List Edge) (x : Name) (from : x.from < length ends)
    (to : x.to < length ends) (apart : x.from ≢ x.to) where
  there : (x.from == x.to) ≡ false
  there = ne_eqb x.from x.to apart

  back : (x.to == x.from) ≡ false
  back = ne_eqb x.to x.from (λ e. apart (sym e))

  refreshed_same : refreshed (part_of ends draws edges x.from) x ≡ refreshed (part_of ends draws edges x.to) x
  refreshed_same =
      let p = part_of ends draws edges x.from in
      let q = part_of ends draws edges x.to in
      ap (λ b. if b then slice_index_or p.refresh_to x.to [] else slice_index_or p.refresh_of x.from [])
      (same_self x.from)
      ∙ (other_list (length ends) x.from x.to (λ k. refresh_list ends x.from k edges) to back
      ∙ (sym (other_list (length ends) x.to x.from (λ k. refresh_list ends k x.to edges) from there)
      ∙ sym (ap (λ b. if b then slice_index_or q.refresh_to x.to [] else slice_index_or q.refresh_of x.from []) there)))

  updated_same : updated (part_of ends draws edges x.from) x ≡ updated (part_of ends draws edges x.to) x
  updated_same =
      let p = part_of ends draws edges x.from in
      let q = part_of ends draws edges x.to in
      ap (λ b. if b then slice_index_or p.refresh_of x.to [] else slice_index_or p.refresh_to x.from [])
      (same_self x.from)
      ∙ (other_list (length ends) x.from x.to (λ k. refresh_list ends k x.from edges) to back
      ∙ (sym (other_list (length ends) x.to x.from (λ k. refresh_list ends x.to k edges) from there)
      ∙ sym (ap (λ b. if b then slice_index_or q.refresh_of x.to [] else slice_index_or q.refresh_to x.from []) there)))

  pushed_same : pushed (part_of ends draws edges x.from) x ≡ pushed (part_of ends draws edges x.to) x
  pushed_same =
      let p = part_of ends draws edges x.from in
      let q = part_of ends draws edges x.to in
      ap (λ b. if b then slice_index_or p.push_to x.to [] else slice_index_or p.push_of x.from []) (same_self x.from)
      ∙ (other_list (length ends) x.from x.to (λ k. push_list ends x.from k edges) to back
      ∙ (sym (other_list (length ends) x.to x.from (λ k. push_list ends k x.to edges) from there)
      ∙ sym (ap (λ b. if b then slice_index_or q.push_to x.to [] else slice_index_or q.push_of x.from []) there)))

  form_same : (k : NameKind) → form_of split (part_of ends draws edges x.from) k x
      ≡ form_of split (part_of ends draws edges x.to) k x
  form_same Refresh =
      let types : List ValueType = types_of split.program.program.fields.items ++ value.Bool ∷ [] in
      ap (λ l. shape.Refresh (length l) (length types) (bool_bits types)) refreshed_same
  form_same Dep = refl
  form_same Update = ap (λ l. shape.Update (count_within (half_in ends x.to x.half) l)
      (length split.program.program.slots.items) (length (reduced_in split.dense))) updated_same
  form_same Push = ap (λ l. shape.Push (length l) (length (types_of (sends_in split.program.program.sparse)))
      (bool_bits (types_of (sends_in split.program.program.sparse)))) pushed_same
  form_same Tally = refl
  form_same Verdict = refl

and_keeps : (b : Bool) {X : Type 0} (x y : X) → (b ≡ true → x ≡ y) → cond b (Some x) None ≡ cond b (Some y) None
and_keeps true x y h = ap Some (h refl)
and_keeps false x y h = refl

pub shapes_agree : ShapesAgree
shapes_agree split ends draws edges x from to =
    let planned = planned_same split (length ends) x in
    let apart : is_planned split (length ends) x.from x ≡ true → x.from ≢ x.to = λ h e.
    let met : concerns (length ends) x.from x ≡ true = (and_parts (concerns (length ends) x.from x) _ h).0 in
    let other : not (x.from == x.to) ≡ true =
    (and_parts (not (x.from == x.to)) _
    (and_parts (nat_lt x.to (length ends)) _ (and_parts (nat_lt x.from (length ends)) _ met).1).1).0 in
    true≢false (sym other ∙ ap not (eq-eqb x.from x.to e)) in
    and_keeps (is_planned split (length ends) x.from x) (form_of split (part_of ends draws edges x.from) x.kind x)
    (form_of split (part_of ends draws edges x.to) x.kind x)
    (λ h. form_same split ends draws edges x from to (apart h) x.kind)
    ∙ ap (λ b. if b then Some (form_of split (part_of ends draws edges x.to) x.kind x) else None) planned
