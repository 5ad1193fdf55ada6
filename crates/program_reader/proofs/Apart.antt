-- Texts that are inserted one after another, each where it isn't there yet, stand once.
use Rattle.std.proofs.Common.{◌≡◌, ◌<◌, ◌-◌, ℕ, zero, suc, Bool, true, false, List, [], ◌∷◌, ◌++◌, length, map, get_or, refl, sym, ap, subst, ◌∙◌, true≢false, length-append, inl, inr, arith}
use Rattle.std.specs.Prelude.{◌⊎◌, if◌then◌else◌, nat_lt}
use Rattle.std.specs.List.{list_any}
use Rattle.std.specs.Str.{bytes_eq}
use Rattle.std.specs.String.{string_bytes}
use Rattle.std.specs.declared.alloc.Global.{Global}
use Rattle.std.specs.declared.string.String.{String}
use Rattle.std.proofs.lemmas.Bool.{ltb-true, ltb-false}
use Rattle.std.proofs.lemmas.List.{get_or_append_left, get_or-append_right, length-map}
use Rattle.std.proofs.lemmas.List.Folds.{list_any_at}
use Rattle.std.proofs.lemmas.Slice.Eq.{bytes_eq-Decides}
use Rattle.indexmap.specs.IndexSet.{insert_all, insert_key}
use Rattle.vert_tree.specs.Views.{text_of}

abbrev Texts : Type 0
Texts = List (List ℕ)

-- no text stands twice
abbrev Differ : Texts → Type 0
Differ ts = (i j : ℕ) → i < length ts → j < length ts → get_or ts i [] ≡ get_or ts j [] → i ≡ j

module _ (ts : Texts) (t : List ℕ) (none : list_any (bytes_eq t) ts ≡ false) where
  other : (i : ℕ) → i < length ts → t ≡ get_or ts i [] → ⊥
  other i lt e = true≢false (sym (list_any_at (bytes_eq t) ts i [] lt ((bytes_eq-Decides t (get_or ts i [])).1 e))
      ∙ none)

  -- one of the texts, or the new one
  abbrev Stands : ℕ → Type 0
  Stands i = ((i < length ts) × (get_or (ts ++ t ∷ []) i [] ≡ get_or ts i [])) ⊎
      ((i ≡ length ts) × (get_or (ts ++ t ∷ []) i [] ≡ t))

  stands : (i : ℕ) → i < length (ts ++ t ∷ []) → Stands i
  stands i lt = go (nat_lt i (length ts)) refl
    where
      go : (b : Bool) → nat_lt i (length ts) ≡ b → Stands i
      go true e = let less : i < length ts = ltb-true i (length ts) e in
          inl (less, get_or_append_left ts (t ∷ []) [] i less)
      go false e =
          let more = ltb-false i (length ts) e in
          let long = length-append ts (t ∷ []) in
          let last : i ≡ length ts = omega arith in
          inr (
            last,
            ap (λ k. get_or (ts ++ t ∷ []) k []) last
                ∙ get_or-append_right ts (t ∷ []) (length ts) (length ts) [] refl (omega arith)
                ∙ ap (λ k. get_or (t ∷ []) k []) (zero_of (length ts)),
          )
        where
          zero_of : (n : ℕ) → n - n ≡ 0
          zero_of n = omega arith

  pushed : Differ ts → Differ (ts ++ t ∷ [])
  pushed h i j less more e = go (stands i less) (stands j more)
    where
      go : Stands i → Stands j → i ≡ j
      go (inl a) (inl b) = h i j a.0 b.0 (sym a.1 ∙ e ∙ b.1)
      go (inl a) (inr b) = absurd (other i a.0 (sym b.1 ∙ sym e ∙ a.1))
      go (inr a) (inl b) = absurd (other j b.0 (sym a.1 ∙ e ∙ b.1))
      go (inr a) (inr b) = a.0 ∙ sym b.0

key_differ : (ts : Texts) (t : List ℕ) → Differ ts → Differ (insert_key bytes_eq ts t)
key_differ ts t h = go (list_any (bytes_eq t) ts) refl
  where
    go : (b : Bool) → list_any (bytes_eq t) ts ≡ b → Differ (if b then ts else ts ++ t ∷ [])
    go true e = h
    go false e = pushed ts t e h

all_differ : (ts more : Texts) → Differ ts → Differ (insert_all bytes_eq ts more)
all_differ ts [] h = h
all_differ ts (t ∷ more) h = all_differ (insert_key bytes_eq ts t) more (key_differ ts t h)

text_at : (names : List (String Global)) (i : ℕ) → text_of names i ≡ get_or (map string_bytes names) i []
text_at [] i = refl
text_at (x ∷ names) zero = refl
text_at (x ∷ names) (suc i) = text_at names i

-- the names whose texts are made so have each text once
pub apart : (names : List (String Global)) (texts : Texts) → map string_bytes names ≡ insert_all bytes_eq [] texts
    → (i j : ℕ) → i < length names → j < length names → text_of names i ≡ text_of names j → i ≡ j
apart names texts made i j less more e =
    let wide = length-map names string_bytes in
    subst Differ (sym made) (all_differ [] texts (λ k l lt more e. absurd (omega arith))) i j (omega arith)
    (omega arith) (sym (text_at names i) ∙ e ∙ text_at names j)
