-- What stands behind a word at the front of a line.
use Rattle.std.proofs.Common.{◌≡◌, ◌≢◌, Bor, IfSome, None, Option, Some, ℕ, List, ◌++◌, length, drop, refl, ap, sym, ◌∙◌}
use Rattle.std.specs.Option.{IsSomeAnd, MatchOption}
use Rattle.std.proofs.lemmas.List.{drop_at}

pub stripped : (line word : List ℕ) (r : Option (Bor (List ℕ))) →
    MatchOption r ((rest : List ℕ) → line ≢ word ++ rest) (λ x. line ≡ word ++ x.now) →
    IfSome r (λ x. line ≡ word ++ x.now)
stripped line word None h = tt
stripped line word (Some x) h = h

pub stripped_found : (line word : List ℕ) (r : Option (Bor (List ℕ))) →
    MatchOption r ((rest : List ℕ) → line ≢ word ++ rest) (λ x. line ≡ word ++ x.now) → (rest : List ℕ) →
    line ≡ word ++ rest → IsSomeAnd r (λ x. x.now ≡ rest)
stripped_found line word None h rest e = absurd (h rest e)
stripped_found line word (Some x) h rest e =
    sym (drop_at word x.now (length word) refl)
    ∙ ap (drop (length word)) (sym h ∙ e)
    ∙ drop_at word rest (length word) refl
