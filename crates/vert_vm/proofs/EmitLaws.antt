-- An emission into a partial that stands in its place.
use Rattle.std.proofs.Common.{◌≡◌, ◌<◌, ◌∙◌, ℕ, ℤ, List, length, get_or, take, drop, ◌++◌, ap, sym}
use Rattle.std.specs.List.{refill}
use Rattle.std.proofs.Math.ListN.{set}
use Rattle.std.proofs.Math.Seq.{take-append_seam}
use Rattle.std.proofs.lemmas.List.{length-set}
use Rattle.std.proofs.lemmas.Option.{slice_get-get_or}
use Rattle.slot_merge.specs.declared.partial.Partial.{Partial}
use Rattle.slot_merge.specs.Partials.{put_word, with_emission, with_word}

-- a list that is as long stands whole
filled_whole : (xs ws : List Partial) → length ws ≡ length xs → refill (length xs) xs ws ≡ ws
filled_whole xs ws same =
    ap (λ n. take n (ws ++ drop (length ws) xs)) (sym same) ∙ take-append_seam ws (drop (length ws) xs)

module _ (key : ℕ) (xs ys : List Partial) (i j : ℕ) (p d : Partial) (word : ℤ) where
  pub emitted : ys ≡ xs → j ≡ i → i < length xs → p ≡ with_word key word (get_or ys j d) →
      refill (length xs) xs (set ys j p) ≡ with_emission key xs (record { slot = i; word = word })
  emitted same at within is =
      let stands : p ≡ with_word key word (get_or xs i d) =
      is ∙ ap (λ zs. with_word key word (get_or zs j d)) same ∙ ap (λ k. with_word key word (get_or xs k d)) at in
      let put : set ys j p ≡ set xs i (with_word key word (get_or xs i d)) =
      ap (λ zs. set zs j p) same ∙ ap (λ k. set xs k p) at ∙ ap (set xs i) stands in
      ap (refill (length xs) xs) put
      ∙ filled_whole xs (set xs i (with_word key word (get_or xs i d)))
      (length-set xs i (with_word key word (get_or xs i d)))
      ∙ sym (ap (λ o. put_word o key xs i word) (slice_get-get_or xs i d within))
