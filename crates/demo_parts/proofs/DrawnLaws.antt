-- The words of a generator are taken two by two.
use Rattle.std.proofs.Common.{◌≡◌, ℕ, zero, suc, ◌+◌, ◌-◌, ◌*◌, ◌<◌, ◌≤◌, List, [], ◌∷◌, ◌++◌, refl, sym, ap, ◌∙◌, arith, append_assoc, append-nil}
use Rattle.rand_pcg.specs.Lcg.{Lcg}
use Rattle.vert_base.specs.declared.graph.Edge.{Edge}
use Rattle.vert_base.specs.Neighbours.{source, target}
use Rattle.demo_parts.specs.DrawnGraphs.{edge_of, edges_of}
use Rattle.demo_parts.specs.WordStreams.{behind_word, word_of, words_of}

first_edge : (n : ℕ) (g : Lcg) →
    edges_of (words_of (suc (suc n)) g)
    ≡ edge_of (word_of g) (word_of (behind_word g)) ∷ edges_of (words_of n (behind_word (behind_word g)))
unfolding words_of edges_of
first_edge n g = refl

no_edge : (g : Lcg) → edges_of (words_of zero g) ≡ []
unfolding words_of edges_of
no_edge g = refl

-- one more edge is pushed, and one fewer is left
pub edge_pushed : (items : List Edge) (n k : ℕ) (g : Lcg) (whole : List Edge) → k < n →
    items ++ edges_of (words_of (2 * (n - k)) g) ≡ whole →
    (items ++ edge_of (word_of g) (word_of (behind_word g)) ∷ [])
    ++ edges_of (words_of (2 * (n - (k + 1))) (behind_word (behind_word g))) ≡ whole
edge_pushed items n k g whole more is =
    let two : 2 * (n - k) ≡ suc (suc (2 * (n - (k + 1)))) = omega arith in
    let rest : List Edge = edges_of (words_of (2 * (n - (k + 1))) (behind_word (behind_word g))) in
    append_assoc items (edge_of (word_of g) (word_of (behind_word g)) ∷ []) rest
    ∙ ap (λ (t : List Edge). items ++ t) (sym (first_edge (2 * (n - (k + 1))) g))
    ∙ ap (λ (m : ℕ). items ++ edges_of (words_of m g)) (sym two)
    ∙ is

-- none is left
pub edges_over : (items : List Edge) (n k : ℕ) (g : Lcg) (whole : List Edge) → n ≤ k →
    items ++ edges_of (words_of (2 * (n - k)) g) ≡ whole → items ≡ whole
edges_over items n k g whole over is =
    let none : 2 * (n - k) ≡ zero = omega arith in
    sym (append-nil items)
    ∙ ap (λ (t : List Edge). items ++ t) (sym (ap (λ (m : ℕ). edges_of (words_of m g)) none ∙ no_edge g))
    ∙ is

-- its ends are vertices
pub drawn_below : (from to : ℕ) → (source (edge_of from to) < 20000) × (target (edge_of from to) < 20000)
drawn_below from to = (omega arith, omega arith)
