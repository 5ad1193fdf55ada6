-- Merging a list of partials gives one result for each order of the list.
use Rattle.std.proofs.Common.{◌≡◌, List, [], ◌∷◌, IsPermutation, refl, sym, ap, subst, ◌∙◌}
use Rattle.std.specs.List.{AllByRecursion}
use Rattle.vert_base.specs.declared.value.Combine.{Combine}
use Rattle.slot_merge.specs.declared.partial.Partial.{Partial}
use Rattle.slot_merge.specs.Partials.{with_partial, with_partials}
use Rattle.slot_merge.specs.Mergeable.{CanMerge, CanAllMerge}
use Rattle.slot_merge.proofs.MergeLaws.{partial-partial, partial-op}
use Rattle.slot_merge.proofs.Permutations.{IsKept, permutation-kept}

abbrev AllOf : Combine → List Partial → Type 0
AllOf op ps = AllByRecursion (λ p. p.op ≡ op) ps

-- the one list is as good as the other
record Alike (ps qs : List Partial) : Type 0 where
  each : (p : Partial) → AllByRecursion (CanMerge p) ps → AllByRecursion (CanMerge p) qs
  kind : (op : Combine) → AllOf op ps → AllOf op qs
  all : CanAllMerge ps → CanAllMerge qs
  merged : CanAllMerge ps → (p : Partial) → AllOf p.op ps → with_partials qs p ≡ with_partials ps p

alike-same : (ps : List Partial) → Alike ps ps
alike-same ps = record {
  each = λ p h. h;
  kind = λ op h. h;
  all = λ h. h;
  merged = λ h p k. refl;
}

alike-both : (ps qs rs : List Partial) → Alike ps qs → Alike qs rs → Alike ps rs
alike-both ps qs rs a b = record {
  each = λ p h. b.each p (a.each p h);
  kind = λ op h. b.kind op (a.kind op h);
  all = λ h. b.all (a.all h);
  merged = λ h p k. b.merged (a.all h) p (a.kind p.op k) ∙ a.merged h p k;
}

alike-under : (x : Partial) (ps qs : List Partial) → Alike ps qs → Alike (x ∷ ps) (x ∷ qs)
alike-under x ps qs a = record {
  each = λ p h. (h.0, a.each p h.1);
  kind = λ op h. (h.0, a.kind op h.1);
  all = λ h. (a.each x h.0, a.all h.1);
  merged = λ h p k. a.merged h.1 (with_partial x p) (subst (λ op. AllOf op ps) (sym (partial-op x p)) k.1);
}

turned : (p q : Partial) → CanMerge p q → CanMerge q p
turned p q can = record {
  op = sym can.op;
  keys = λ e hq hp same. can.keys (sym can.op ∙ e) hp hq (sym same);
}

alike-flip : (x y : Partial) (ps : List Partial) → Alike (x ∷ y ∷ ps) (y ∷ x ∷ ps)
alike-flip x y ps = record {
  each = λ p h. (h.1.0, (h.0, h.1.1));
  kind = λ op h. (h.1.0, (h.0, h.1.1));
  all = λ h. ((turned x y h.0.0, h.1.0), (h.0.1, h.1.1));
  merged = λ h p k. ap (with_partials ps)
      (partial-partial p y x (λ e hy hx same. h.0.0.keys (k.0 ∙ e) hx hy (sym same)));
}

kept : IsKept Alike
kept = record {
  same = alike-same;
  under = alike-under;
  flip = alike-flip;
  both = alike-both;
}

kinds : (p : Partial) (qs : List Partial) → AllByRecursion (CanMerge p) qs → AllOf p.op qs
kinds p [] h = h
kinds p (q ∷ qs) h = (h.0.op, kinds p qs h.1)

pub merged_in_any_order : (p : Partial) (ps qs : List Partial) → CanAllMerge (p ∷ ps) → IsPermutation ps qs →
    with_partials qs p ≡ with_partials ps p
merged_in_any_order p ps qs can moved = (permutation-kept Alike kept ps qs moved).merged can.1 p (kinds p ps can.0)
