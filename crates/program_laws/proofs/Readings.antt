-- What is read is a program within the limits, such a program is read, and where reading stops is the first fault.
use Rattle.std.proofs.Common.{◌≡◌, ℕ, List, [], ◌∷◌, ◌++◌, Option, None, Some, Ok, Err, refl, sym, ap, subst, ◌∙◌, append_assoc, arith, inl, inr}
use Rattle.std.proofs.lemmas.List.{append-nil}
use Rattle.vert_base.specs.declared.text.Span.{Span}
use Rattle.vert_lex.specs.Text.{Placed}
use Rattle.vert_tree.specs.Trees.{Tree, ProgramTree}
use Rattle.vert_grammar.specs.Grammar.{Limits, limits, ReadsProgram, IsSmall}
use Rattle.vert_grammar.specs.Faults.{Why, Unexpected, TooDeep, TooMany, IsReading, IsAny, IsFront, IsCause, IsRefused}
use Rattle.vert_grammar.specs.Reading.{Stop, Res, is_stop, program_at, ended, all_of, reading}
use Rattle.grammar_laws.specs.Refusals.{CauseOf, IsBounded}
use Rattle.grammar_laws.proofs.Readers.{bind_err, ok_is, err_is, not_ok}
use Rattle.vert_grammar.proofs.Steps.{bind_ok}
use Rattle.grammar_laws.proofs.Either.{MaybeEnds}
use Rattle.grammar_laws.proofs.Refusals.{whole_read, fault_refuses, one_value}
use Rattle.program_laws.specs.Readings.{ReadsSoundly, ReadsFully, IsReadOnce, RefusesSoundly, RefusesFully, IsJudged, StopsAtFault}
use Rattle.program_laws.proofs.Enough.{enough, enough_names}
use Rattle.program_laws.proofs.Programs.{ProgramEnds, stop_notion, small_wider, program_notion, program_reader}
use Rattle.program_laws.proofs.Refusals.{refused_once, refuses_no_program}

-- ---- each program is within some limits
at_end : (version : ℕ) (o : Option Tree) → MaybeEnds (stop_notion version) (is_stop version) o []
at_end version None = refl
at_end version (Some x) = tt

bounded : IsBounded program_notion
bounded = record { whole = λ p. at_end p.version p.stop; wide = enough; high = enough_names }

-- a whole program is read to its end
to_its_end : (m : Limits) (p : ProgramTree) (u : List Placed) → ReadsProgram p u → IsSmall m p →
    program_at m u ≡ Ok (p, [])
to_its_end m p u h w = whole_read program_notion (λ l. program_at l) program_reader.complete bounded m p u h w

-- a token too much
surplus : (p : ProgramTree) (used : List Placed) (t : Placed) (rest : List Placed) → ReadsProgram p used →
    IsSmall limits p → ProgramEnds p (t ∷ rest) → IsFront IsAny (used ++ t ∷ []) → ⊥
surplus p used t rest h small ends f =
    let n = enough limits f.1 in
    let e1 : program_at n.0 (used ++ t ∷ f.0) ≡ Ok (p, t ∷ f.0) =
    program_reader.complete n.0 p used (t ∷ f.0) h (small_wider limits n.0 p n.1 small)
    (program_notion.ahead p (t ∷ f.0) (t ∷ rest) refl ends) in
    let e2 = to_its_end n.0 f.1 (used ++ t ∷ f.0) (subst (ReadsProgram f.1) (append_assoc used (t ∷ []) f.0) f.2) n.2 in
    let z : t ∷ f.0 ≡ [] = ap (λ (w : ProgramTree × List Placed). w.1) (ok_is _ _ (sym e1 ∙ e2)) in absurd cc

program_cause : (w : Why) (used rest : List Placed) → CauseOf program_notion limits w used rest → IsCause w used rest
program_cause Unexpected used [] c = c
program_cause Unexpected used (t ∷ rest) c = c
program_cause TooDeep used [] c = c
program_cause TooDeep used (t ∷ rest) c = c
program_cause TooMany used [] c = c
program_cause TooMany used (t ∷ rest) c = c

-- ---- the laws
pub reads_soundly : (tokens : List Placed) → ReadsSoundly tokens
unfolding all_of
reads_soundly tokens p r e =
    let s = bind_ok (program_at limits tokens) (λ x. ended x.0 x.1) (p, r) e in
    let t = program_reader.sound limits tokens s.0.0 s.0.1 s.1 in
    go s.0.1 s.0.0 t.used t.parts t.reads t.fits s.2
  where
    go : (q : List Placed) (x : ProgramTree) (u : List Placed) → tokens ≡ u ++ q → ReadsProgram x u →
        IsSmall limits x → ended x q ≡ Ok (p, r) → IsReading tokens p × (r ≡ [])
    go [] x u parts reads small e =
        let same = ok_is {A = ProgramTree × List Placed} (x, []) (p, r) e in (
          subst (IsReading tokens) (ap (λ (w : ProgramTree × List Placed). w.0) same)
              (record { reads = subst (ReadsProgram x) (sym (parts ∙ append-nil u)) reads; small = small }),
          sym (ap (λ (w : ProgramTree × List Placed). w.1) same),
        )
    go (t ∷ q) x u parts reads small e = absurd cc

pub reads_fully : (tokens : List Placed) → ReadsFully tokens
unfolding all_of
reads_fully tokens p h = let e = to_its_end limits p tokens h.reads h.small in rw e refl

pub read_once : (tokens : List Placed) → IsReadOnce tokens
read_once tokens p q h k = one_value program_notion (λ l. program_at l) program_reader.complete bounded p q tokens h k

pub refuses_soundly : (tokens : List Placed) → RefusesSoundly tokens
unfolding all_of
refuses_soundly tokens s e =
    elim (bind_err (program_at limits tokens) (λ x. ended x.0 x.1) s e) [
      | inl h ↦
          let f = fault_refuses program_notion (λ l. program_at l) program_reader.complete bounded limits tokens s
          (program_reader.first limits (omega arith) tokens s h) in
          record { used = f.used; parts = f.parts; front = f.front; cause = program_cause s.why f.used s.rest f.cause }
      | inr h ↦
          let t = program_reader.sound limits tokens h.0.0 h.0.1 h.1 in
          go h.0.1 h.0.0 t.used t.parts t.reads t.fits t.ends h.2
    ]
  where
    go : (q : List Placed) (x : ProgramTree) (u : List Placed) → tokens ≡ u ++ q → ReadsProgram x u →
        IsSmall limits x → ProgramEnds x q → ended x q ≡ Err s → IsRefused s.why tokens s.rest
    go [] x u parts reads small ends e = absurd (not_ok _ _ e)
    go (t ∷ q) x u parts reads small ends e = subst (λ (z : Stop). IsRefused z.why tokens z.rest)
        (err_is (ProgramTree × List Placed) _ _ e)
        (record {
          used = u;
          parts = parts;
          front = ([], x, subst (ReadsProgram x) (sym (append-nil u)) reads, small);
          cause = surplus x u t q reads small ends;
        })

-- reading ends with a program or with a fault
module _ (tokens : List Placed) where
  pub judged : IsJudged tokens
  judged = go (reading tokens) refl
    where
      go : (w : Res ProgramTree) → reading tokens ≡ w → IsJudged tokens
      go (Ok x) e = inl (x.0, (reads_soundly tokens x.0 x.1 e).0)
      go (Err s) e = inr (s.why, s.rest, refuses_soundly tokens s e)

  stop_is : (s : Stop) (why : Why) (rest : List Placed) → s.why ≡ why → s.rest ≡ rest →
      ◌≡◌ {A = Res ProgramTree} (Err s) (Err (record { why = why; rest = rest }))
  stop_is s why rest a b =
      subst (λ (w : Why). ◌≡◌ {A = Res ProgramTree} (Err s) (Err (record { why = w; rest = rest }))) a
      (subst (λ (r : List Placed). ◌≡◌ {A = Res ProgramTree} (Err s) (Err (record { why = s.why; rest = r }))) b refl)

  pub refuses_fully : RefusesFully tokens
  refuses_fully why rest h = go (reading tokens) refl
    where
      go : (w : Res ProgramTree) → reading tokens ≡ w → reading tokens ≡ Err (record { why = why; rest = rest })
      go (Ok x) e = absurd (refuses_no_program tokens why rest x.0 h (reads_soundly tokens x.0 x.1 e).0)
      go (Err s) e = let k = refused_once tokens s.why why s.rest rest (refuses_soundly tokens s e) h in
          e ∙ stop_is s why rest k.0 k.1

pub stops_at_fault : (tokens : List Placed) (end : Span) → StopsAtFault tokens end
stops_at_fault tokens end s e = record { rest = s.rest; place = refl; refused = refuses_soundly tokens s e }
