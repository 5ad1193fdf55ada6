-- What is hashed for a key has one reading.
use Rattle.std.proofs.Common.{◌≡◌, ℕ, ◌^◌, ◌<◌, Option, Some, None, IfSome, List, ◌∷◌, ◌++◌, length, take, drop, refl, sym, ap, ◌∙◌, arith, append_assoc}
use Rattle.std.specs.Prelude.{unwrap_or}
use Rattle.std.proofs.lemmas.List.{drop_at, take_at}
use Rattle.vert_base.specs.HeaderBytes.{four_bytes, number_of_four}
use Rattle.body_shape.specs.Fit.{number_of}
use Rattle.body_shape.specs.Tally.{number_bytes}
use Rattle.check_point.specs.Keys.{Keyed, KeysTell, bytes_of_key, counted_bytes}
use Rattle.check_point.specs.Keys.{KeysTell}
use Rattle.check_point.proofs.BackLaws.{eight_back, length-eight, length-four}
use Rattle.state_laws.proofs.Words.{four_back}

-- fronts of one length in front of the same
same_fronts : (a b x y : List ℕ) (n : ℕ) → length a ≡ n → length b ≡ n → a ++ x ≡ b ++ y → (a ≡ b) × (x ≡ y)
same_fronts a b x y n long_a long_b e = (
  sym (take_at a x n long_a) ∙ ap (take n) e ∙ take_at b y n long_b,
  sym (drop_at a x n long_a) ∙ ap (drop n) e ∙ drop_at b y n long_b,
)

same_numbers : (m n : ℕ) → m < 2 ^ 64 → n < 2 ^ 64 → number_bytes m ≡ number_bytes n → m ≡ n
same_numbers m n p q e = sym (eight_back m p) ∙ ap number_of e ∙ eight_back n q

same_fours : (m n : ℕ) → m < 2 ^ 32 → n < 2 ^ 32 → four_bytes m ≡ four_bytes n → m ≡ n
same_fours m n p q e = sym (four_back m p) ∙ ap number_of_four e ∙ four_back n q

-- counted bytes in front of the same
same_counted : (a b x y : List ℕ) → length a < 2 ^ 64 → length b < 2 ^ 64 →
    counted_bytes a ++ x ≡ counted_bytes b ++ y → (a ≡ b) × (x ≡ y)
same_counted a b x y p q e =
    let m = number_bytes (length a) in
    let n = number_bytes (length b) in
    let apart = sym (append_assoc m a x) ∙ e ∙ append_assoc n b y in
    let heads = same_fronts m n (a ++ x) (b ++ y) 8 (length-eight (length a)) (length-eight (length b)) apart in
    let long = same_numbers (length a) (length b) p q heads.0 in
    same_fronts a b x y (length b) long refl heads.1

-- a number of vertices, and the one that stands for none
abbrev stands : Option ℕ → ℕ
stands v = unwrap_or v 4294967295

stands_small : (v : Option ℕ) → IfSome v (λ n. n < 4294967295) → stands v < 2 ^ 32
stands_small None fits = omega arith
stands_small (Some n) fits = omega (arith, fits)

same_vertices : (v w : Option ℕ) → IfSome v (λ n. n < 4294967295) → IfSome w (λ n. n < 4294967295) →
    stands v ≡ stands w → v ≡ w
same_vertices None None p q e = refl
same_vertices None (Some n) p q e = absurd (omega (arith, q, e))
same_vertices (Some n) None p q e = absurd (omega (arith, p, e))
same_vertices (Some m) (Some n) p q e = ap Some e

same_heads : (x y : ℕ) (xs ys : List ℕ) → x ∷ xs ≡ y ∷ ys → (x ≡ y) × (xs ≡ ys)
same_heads x y xs ys e = (cc, ap (drop 1) e)

-- the parts of what is hashed, each in front of the others
abbrev apart : Keyed → List ℕ
apart k =
    counted_bytes k.program ++ (counted_bytes k.graph ++ (four_bytes (stands k.vertices)
    ++ (k.flags ∷ k.machines ∷ number_bytes k.draws)))

regrouped : (k : Keyed) → bytes_of_key k ≡ apart k
regrouped k = simp append_assoc refl

pub keys_are : KeysTell
keys_are a b p q e =
    let same : apart a ≡ apart b = sym (regrouped a) ∙ e ∙ regrouped b in
    let first = same_counted a.program b.program _ _ p.program_fits q.program_fits same in
    let second = same_counted a.graph b.graph _ _ p.graph_fits q.graph_fits first.1 in
    let third =
    same_fronts (four_bytes (stands a.vertices)) (four_bytes (stands b.vertices)) _ _ 4
    (length-four (stands a.vertices)) (length-four (stands b.vertices)) second.1 in
    let fourth = same_heads a.flags b.flags _ _ third.1 in
    let fifth = same_heads a.machines b.machines _ _ fourth.1 in
    let number =
    same_fours (stands a.vertices) (stands b.vertices) (stands_small a.vertices p.vertices_fit)
    (stands_small b.vertices q.vertices_fit) third.0 in
    let vertices = same_vertices a.vertices b.vertices p.vertices_fit q.vertices_fit number in
    let draws = same_numbers a.draws b.draws p.draws_fit q.draws_fit fifth.1 in
    λ i. record {
      program = first.0 i;
      graph = second.0 i;
      vertices = vertices i;
      flags = fourth.0 i;
      machines = fifth.0 i;
      draws = draws i;
    }
