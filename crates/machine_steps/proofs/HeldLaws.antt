-- A body that is dropped: the message is taken out and put in again without a byte.
use Rattle.std.proofs.Common.{◌≡◌, Bool, true, false, List, [], ◌∷◌, Option, None, Some, refl, sym, ap, subst, ◌∙◌}
use Rattle.std.specs.Prelude.{◌||◌, if◌then◌else◌, is_some}
use Rattle.vert_base.specs.declared.message.Name.{Name}
use Rattle.vert_base.specs.Letters.{Ascends, Letter, found, placed, without}
use Rattle.vert_base.specs.Names.{is_before, same_name}
use Rattle.vert_base.proofs.LetterLaws.{Behind, names_law, none_behind, not_later, not_same, one_way}
use Rattle.symple_face.specs.CoreTakes.{emptied}
use Rattle.state_laws.specs.Letters.{bare}

-- where there is no such message nothing is dropped
pub not_held : (x : Name) (ms : List Letter) → found x ms ≡ None → emptied (x ∷ []) ms ≡ ms
not_held x [] none = refl
not_held x (z ∷ zs) none =
    ap (λ b. (if b || false then record z { body = [] } else z) ∷ emptied (x ∷ []) zs)
    (not_same (same_name z.name x) z (found x zs) none)
    ∙ ap (λ ms. z ∷ ms) (not_held x zs (not_later (same_name z.name x) z (found x zs) none))

placed_first : (m : Letter) (ms : List Letter) → Behind m.name ms → placed m ms ≡ m ∷ ms
placed_first m [] behind = refl
placed_first m (z ∷ zs) behind =
    ap (λ b. if b then z ∷ placed m zs else m ∷ z ∷ zs) (one_way m.name z.name behind.0)

-- a message that is found behind another one has a later name
found_behind : (y x : Name) (ms : List Letter) → Behind y ms → is_some (found x ms) ≡ true → is_before y x ≡ true
found_behind y x [] behind some = cc
found_behind y x (z ∷ zs) behind some = by (found_behind y x zs behind.1) (same_name z.name x) refl some
  where
    by : (is_some (found x zs) ≡ true → is_before y x ≡ true) → (b : Bool) → same_name z.name x ≡ b →
        is_some (if b then Some z else found x zs) ≡ true → is_before y x ≡ true
    by later true same some = subst (λ (n : Name). is_before y n ≡ true) (names_law z.name x same) behind.0
    by later false other some = later some

pub dropped : (x : Name) (ms : List Letter) → Ascends ms → is_some (found x ms) ≡ true →
    placed (bare x) (without x ms) ≡ emptied (x ∷ []) ms
dropped x [] up some = cc
dropped x (z ∷ zs) up some = by (dropped x zs up.1) (same_name z.name x) refl some
  where
    by : (is_some (found x zs) ≡ true → placed (bare x) (without x zs) ≡ emptied (x ∷ []) zs) → (b : Bool) →
        same_name z.name x ≡ b →
        is_some (if b then Some z else found x zs) ≡ true → placed (bare x) (if b then zs else z ∷ without x zs)
        ≡ (if b || false then record z { body = [] } else z) ∷ emptied (x ∷ []) zs
    by later true same some =
        let name : z.name ≡ x = names_law z.name x same in
        let behind : Behind x zs = subst (λ (n : Name). Behind n zs) name up.0 in
        placed_first (bare x) zs behind
        ∙ ap (λ (n : Name). bare n ∷ zs) (sym name)
        ∙ ap (λ ms. bare z.name ∷ ms) (sym (not_held x zs (none_behind x zs behind).missing))
    by later false other some =
        ap (λ b. if b then z ∷ placed (bare x) (without x zs) else bare x ∷ z ∷ without x zs)
        (found_behind z.name x zs up.0 some)
        ∙ ap (λ ms. z ∷ ms) (later some)
