-- The words of the fields, one after another.
use Rattle.std.proofs.Common.{◌≡◌, ◌-◌, ◌++◌, List, ℤ, [], ◌∷◌, Some, codes, length, take, drop, slice_get, ap, ◌∙◌}
use Rattle.std.proofs.lemmas.List.{take_rest}
use Rattle.vert_tree.specs.declared.program.Decl.{Decl}
use Rattle.array_text.specs.Tables.{word_text, words_text}

-- a field with its word, and then the others
pub words_more : (fields : List Decl) (words : List ℤ) (field : Decl) (word : ℤ) → Some field ≡ slice_get fields 0 →
    Some word ≡ slice_get words 0 → (codes " " ++ word_text field.kind word)
    ++ words_text (drop 1 fields) (drop 1 words) ≡ words_text fields words
words_more [] words field word is same = cc
words_more (first ∷ fields) [] field word is same = cc
words_more (first ∷ fields) (front ∷ words) field word is same =
    let one : field ≡ first = cc in
    let other : word ≡ front = cc in
    ap (λ (f : Decl). codes " " ++ word_text f.kind word ++ words_text fields words) one
    ∙ ap (λ (w : ℤ). codes " " ++ word_text first.kind w ++ words_text fields words) other

-- the others as a slice has them
pub words_rest : (fields : List Decl) (words : List ℤ) →
    words_text (take (length fields - 1) (drop 1 fields)) (take (length words - 1) (drop 1 words))
    ≡ words_text (drop 1 fields) (drop 1 words)
words_rest fields words =
    ap (λ (fs : List Decl). words_text fs (take (length words - 1) (drop 1 words))) (take_rest fields 1)
    ∙ ap (λ (ws : List ℤ). words_text (drop 1 fields) ws) (take_rest words 1)
