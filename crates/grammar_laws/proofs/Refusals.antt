-- A fault of a reader is a refusal by the grammar.
use Rattle.std.proofs.Common.{◌≡◌, List, [], ◌∷◌, ◌++◌, Ok, refl, sym, ap, subst, ◌∙◌, append_assoc}
use Rattle.std.proofs.lemmas.List.{append-nil}
use Rattle.vert_lex.specs.Text.{Placed}
use Rattle.vert_grammar.specs.Grammar.{Limits}
use Rattle.vert_grammar.specs.Faults.{Why, Unexpected, TooDeep, TooMany}
use Rattle.vert_grammar.specs.Reading.{Stop, Parser, stop}
use Rattle.grammar_laws.specs.Notions.{Grows, SameHead, Notion, Complete, Front, Any, Beyond, Fault}
use Rattle.grammar_laws.specs.Refusals.{CauseOf, RefusedAs, IsBounded}
use Rattle.grammar_laws.proofs.Readers.{ok_is, not_ok}

module _ {A : Type 0} (N : Notion A) (run : Limits → Parser A) (complete : (l : Limits) → Complete N l (run l))
    (bounded : IsBounded N) where
  -- a whole one is read to the end
  pub whole_read : (l : Limits) (x : A) (u : List Placed) → N.form x u → N.within l x → run l u ≡ Ok (x, [])
  whole_read l x u h w = ap (run l) (sym (append-nil u)) ∙ complete l x u [] h w (bounded.whole x)

  -- what stops is no whole one
  never : (l : Limits) (x : A) (u : List Placed) (w : Why) (rest : List Placed) → N.form x u → N.within l x →
      run l u ≡ stop w rest → ⊥
  never l x u w rest h fits e = not_ok _ _ (sym (whole_read l x u h fits) ∙ e)

  -- where the reader stops whatever comes behind the next token, no front within these limits goes on
  module _ (l : Limits) (W : A → Type 0) (w : Why) (used rest : List Placed) (t : Placed) where
    stops_fronts : ((x : A) → W x → (m : Limits) × Grows w l m × N.within m x) →
        ((m : Limits) (more : List Placed) → Grows w l m → SameHead more (t ∷ rest) → run m (used ++ more) ≡
        stop w more) → Front N.form W (used ++ t ∷ []) → ⊥
    stops_fronts enough stays f =
        let m = enough f.1 f.3 in
        let whole : (used ++ t ∷ []) ++ f.0 ≡ used ++ t ∷ f.0 = append_assoc used (t ∷ []) f.0 in
        never m.0 f.1 (used ++ t ∷ f.0) w (t ∷ f.0) (subst (N.form f.1) whole f.2) m.2 (stays m.0 (t ∷ f.0) m.1 refl)

  cause_of : (l : Limits) (w : Why) (used rest : List Placed) →
      ((m : Limits) (more : List Placed) → Grows w l m → SameHead more rest → run m (used ++ more) ≡ stop w more) →
      Beyond N l w used rest → CauseOf N l w used rest
  cause_of l Unexpected used [] stays b = λ x h.
      let m = bounded.wide l x in
      never m.0 x used Unexpected [] h m.2 (ap (run m.0) (sym (append-nil used)) ∙ stays m.0 [] m.1 tt)
  cause_of l Unexpected used (t ∷ rest) stays b = stops_fronts l Any Unexpected used rest t (λ x w. bounded.wide l x)
      stays
  cause_of l TooDeep used [] stays b = b
  cause_of l TooDeep used (t ∷ rest) stays b = (
    b,
    stops_fronts l (N.shallow l.depth) TooDeep used rest t (λ x w.
        let m = bounded.high l x w in (m.0, (m.1, m.2), m.3)) stays,
  )
  cause_of l TooMany used [] stays b = b
  cause_of l TooMany used (t ∷ rest) stays b = (
    b,
    stops_fronts l (N.within l) TooMany used rest t (λ x w. (l, refl, w)) stays,
  )

  pub fault_refuses : (l : Limits) (ts : List Placed) (s : Stop) → Fault N run l ts s → RefusedAs N l ts s
  fault_refuses l ts s f = record {
    used = f.used;
    parts = f.parts;
    front = f.front;
    cause = cause_of l s.why f.used s.rest f.stays f.beyond;
  }

  -- tokens are one value at most
  pub one_value : (x y : A) (u : List Placed) → N.form x u → N.form y u → x ≡ y
  one_value x y u h g =
      let l = bounded.wide (record { depth = 0; fields = 0; slots = 0; totals = 0; lets = 0; sends = 0 }) x in
      let m = bounded.wide l.0 y in
      ap (λ (w : A × List Placed). w.0) (ok_is _ _ (sym (whole_read m.0 x u h (N.wider l.0 m.0 x m.1 l.2))
      ∙ whole_read m.0 y u g m.2))
