-- Tokens are refused once, and they are no program then.
use Rattle.std.proofs.Common.{◌≡◌, List, [], ◌∷◌, ◌++◌, refl, sym, ap, subst, ◌∙◌, append_assoc}
use Rattle.std.proofs.lemmas.List.{append-nil}
use Rattle.vert_base.specs.declared.text.Span.{Span}
use Rattle.vert_lex.specs.Text.{Placed}
use Rattle.vert_tree.specs.Trees.{ProgramTree}
use Rattle.vert_grammar.specs.Grammar.{limits, ReadsProgram, IsShallow, IsSmall}
use Rattle.vert_grammar.specs.Faults.{Why, Unexpected, TooDeep, TooMany, IsAny, IsFront, IsCause, spot}
use Rattle.program_laws.specs.Readings.{IsRefusedOnce, RefusesNoProgram, HasOneFault}

-- ---- fronts
-- with the next token apart
apart : (used : List Placed) (t : Placed) (more : List Placed) → (used ++ t ∷ []) ++ more ≡ used ++ t ∷ more
apart used t more = append_assoc used (t ∷ []) more

-- the front of a front is one
shorter : (P : ProgramTree → Type 0) (used : List Placed) (t : Placed) (more : List Placed) →
    IsFront P (used ++ t ∷ more) → IsFront P (used ++ t ∷ [])
shorter P used t more f = (
  more ++ f.0,
  f.1,
  subst (ReadsProgram f.1) (append_assoc used (t ∷ more) f.0 ∙ sym (apart used t (more ++ f.0))) f.2,
  f.3,
)

wider_front : (P Q : ProgramTree → Type 0) (u : List Placed) → ((p : ProgramTree) → P p → Q p) → IsFront P u →
    IsFront Q u
wider_front P Q u h f = (f.0, f.1, f.2, h f.1 f.3)

-- ---- one refusal
-- two ways to cut a list
pub data Cuts (a b c d : List Placed) : Type 0 where
  Alike : a ≡ c → b ≡ d → Cuts a b c d
  Before : (t : Placed) (mid : List Placed) → c ≡ a ++ t ∷ mid → b ≡ t ∷ (mid ++ d) → Cuts a b c d
  Behind : (t : Placed) (mid : List Placed) → a ≡ c ++ t ∷ mid → d ≡ t ∷ (mid ++ b) → Cuts a b c d

cuts : (a b c d : List Placed) → a ++ b ≡ c ++ d → Cuts a b c d
cuts [] b [] d e = Alike refl e
cuts [] b (y ∷ c) d e = Before y c refl e
cuts (x ∷ a) b [] d e = Behind x a refl (sym e)
cuts (x ∷ a) b (y ∷ c) d e = go (cuts a b c d (tails e)) (heads e)
  where
    heads : x ∷ (a ++ b) ≡ y ∷ (c ++ d) → x ≡ y
    heads e = cc

    tails : x ∷ (a ++ b) ≡ y ∷ (c ++ d) → a ++ b ≡ c ++ d
    tails e = cc

    go : Cuts a b c d → x ≡ y → Cuts (x ∷ a) b (y ∷ c) d
    go (Alike p q) h = let z : x ∷ a ≡ y ∷ c = cc in Alike z q
    go (Before t mid p q) h = let z : y ∷ c ≡ (x ∷ a) ++ t ∷ mid = cc in Before t mid z q
    go (Behind t mid p q) h = let z : x ∷ a ≡ (y ∷ c) ++ t ∷ mid = cc in Behind t mid z q

-- behind a refusal there is no front within the limits
no_front : (why : Why) (used : List Placed) (t : Placed) (rest mid : List Placed) → IsCause why used (t ∷ rest) →
    IsFront (IsSmall limits) (used ++ t ∷ mid) → ⊥
no_front Unexpected used t rest mid c f = c
    (wider_front (IsSmall limits) IsAny (used ++ t ∷ []) (λ p h. tt) (shorter (IsSmall limits) used t mid f))
no_front TooDeep used t rest mid c f = c.1
    (wider_front (IsSmall limits) (IsShallow limits.depth) (used ++ t ∷ []) (λ p h. h.shallow)
    (shorter (IsSmall limits) used t mid f))
no_front TooMany used t rest mid c f = c.1 (shorter (IsSmall limits) used t mid f)

one_cause : (v w : Why) (used rest : List Placed) → IsCause v used rest → IsCause w used rest → v ≡ w
one_cause Unexpected Unexpected used rest c d = refl
one_cause TooDeep TooDeep used rest c d = refl
one_cause TooMany TooMany used rest c d = refl
one_cause Unexpected TooDeep used [] c d = absurd d
one_cause Unexpected TooMany used [] c d = absurd d
one_cause TooDeep Unexpected used [] c d = absurd c
one_cause TooDeep TooMany used [] c d = absurd c
one_cause TooMany Unexpected used [] c d = absurd c
one_cause TooMany TooDeep used [] c d = absurd c
one_cause Unexpected TooDeep used (t ∷ rest) c d = absurd (c d.0)
one_cause Unexpected TooMany used (t ∷ rest) c d = absurd
    (c (wider_front (IsShallow limits.depth) IsAny (used ++ t ∷ []) (λ p h. tt) d.0))
one_cause TooDeep Unexpected used (t ∷ rest) c d = absurd (d c.0)
one_cause TooDeep TooMany used (t ∷ rest) c d = absurd (c.1 d.0)
one_cause TooMany Unexpected used (t ∷ rest) c d = absurd
    (d (wider_front (IsShallow limits.depth) IsAny (used ++ t ∷ []) (λ p h. tt) c.0))
one_cause TooMany TooDeep used (t ∷ rest) c d = absurd (d.1 c.0)

pub refused_once : (tokens : List Placed) → IsRefusedOnce tokens
refused_once tokens v w rest behind h k = go (cuts h.used rest k.used behind (sym h.parts ∙ k.parts))
  where
    go : Cuts h.used rest k.used behind → (v ≡ w) × (rest ≡ behind)
    go (Alike p q) = (
      one_cause v w k.used behind
          (subst (λ u. IsCause v u behind) p (subst (IsCause v h.used) q h.cause)) k.cause,
      q,
    )
    go (Before t mid p q) = absurd (no_front v h.used t (mid ++ behind) mid (subst (IsCause v h.used) q h.cause)
        (subst (IsFront (IsSmall limits)) p k.front))
    go (Behind t mid p q) = absurd (no_front w k.used t (mid ++ rest) mid (subst (IsCause w k.used) q k.cause)
        (subst (IsFront (IsSmall limits)) p h.front))

pub refuses_no_program : (tokens : List Placed) → RefusesNoProgram tokens
refuses_no_program tokens why rest p h k = go why rest h.parts h.cause
  where
    go : (why : Why) (rest : List Placed) → tokens ≡ h.used ++ rest → IsCause why h.used rest → ⊥
    go Unexpected [] e c = c p (subst (ReadsProgram p) (e ∙ append-nil h.used) k.reads)
    go TooDeep [] e c = c
    go TooMany [] e c = c
    go why (t ∷ rest) e c = no_front why h.used t rest rest c (
      [],
      p,
      subst (ReadsProgram p) (e ∙ sym (append-nil (h.used ++ t ∷ rest))) k.reads,
      k.small,
    )

pub one_fault : (tokens : List Placed) (end : Span) → HasOneFault tokens end
one_fault tokens end why other at place h k =
    let e = refused_once tokens why other h.rest k.rest h.refused k.refused in
    (e.0, h.place ∙ ap (spot end) e.1 ∙ sym k.place)
