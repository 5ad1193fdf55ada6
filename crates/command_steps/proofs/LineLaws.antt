-- Lines made of pieces.
use Rattle.std.proofs.Common.{◌≡◌, ℕ, List, [], ◌++◌, ◌∙◌, ap, append-nil, append_assoc, codes}

pub same_name : (front a v : List ℕ) → a ≡ v → front ++ (a ++ (codes "\n" ++ [])) ≡ front ++ (v ++ codes "\n")
same_name front a v p = cc

pub same_pair : (front between a b v w : List ℕ) → a ≡ v → b ≡ w →
    front ++ (a ++ (between ++ (b ++ (codes "\n" ++ [])))) ≡ front ++ (v ++ (between ++ (w ++ codes "\n")))
same_pair front between a b v w p q = cc

pub same_place :
    (front at colon a b c d v w x y : List ℕ) → a ≡ v → b ≡ w → c ≡ x → d ≡ y →
    front ++ (a ++ (b ++ (at ++ (c ++ (colon ++ (d ++ (codes "\n" ++ []))))))) ≡ front
    ++ (v ++ (w ++ (at ++ (x ++ (colon ++ (y ++ codes "\n"))))))
same_place front at colon a b c d v w x y p q r s = cc

-- a number or a name between two texts, and what comes behind
pub ends_in_nothing : (front a v behind : List ℕ) → a ≡ v → front ++ (a ++ (behind ++ [])) ≡ front ++ (v ++ behind)
ends_in_nothing front a v behind p =
    ap (λ (x : List ℕ). front ++ (x ++ (behind ++ []))) p ∙ ap (λ (x : List ℕ). front ++ (v ++ x)) (append-nil behind)

pub three_more : (front a behind more : List ℕ) →
    (front ++ (a ++ behind)) ++ more ≡ front ++ (a ++ (behind ++ more))
three_more front a behind more = append_assoc front (a ++ behind) more
    ∙ ap (λ (x : List ℕ). front ++ x) (append_assoc a behind more)

pub four_more : (front a behind more last : List ℕ) →
    ((front ++ (a ++ behind)) ++ more) ++ last ≡ front ++ (a ++ (behind ++ (more ++ last)))
four_more front a behind more last = append_assoc (front ++ (a ++ behind)) more last
    ∙ three_more front a behind (more ++ last)
