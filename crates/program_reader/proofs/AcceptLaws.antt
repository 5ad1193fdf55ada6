-- A text is one program or has one refusal, and never both.
use Rattle.std.proofs.Common.{◌≡◌, ℕ, List, [], Option, Some, None, Result, Ok, Err, refl, sym, ap, subst, ◌∙◌, inl, inr}
use Rattle.std.specs.Str.{bytes_eq}
use Rattle.indexmap.specs.IndexSet.{insert_all}
use Rattle.vert_base.specs.declared.text.Span.{Span}
use Rattle.vert_lex.specs.declared.token.LexFault.{LexFault}
use Rattle.vert_lex.specs.Text.{Placed, origin, through, tokens_of}
use Rattle.vert_tree.specs.Trees.{ProgramTree}
use Rattle.vert_tree.specs.Views.{view_program}
use Rattle.vert_grammar.specs.Faults.{IsFirstFault, IsReading, spot}
use Rattle.vert_parse.specs.Names.{program_names}
use Rattle.vert_types.specs.declared.fault.Finding.{Finding}
use Rattle.vert_types.specs.Typing.{first_fault}
use Rattle.program_laws.specs.Readings.{IsJudged}
use Rattle.program_laws.proofs.Readings.{judged as tokens_judged, read_once}
use Rattle.program_laws.proofs.Refusals.{one_fault, refuses_no_program}
use Rattle.program_reader.specs.declared.refusal.Refusal.{Refusal}
use Rattle.program_reader.specs.declared.refusal.Stage.TheVariants.{Grammar, Typing}
use Rattle.program_reader.specs.declared.refusal.Stage.{Stage}
use Rattle.program_reader.proofs.SmallTokens.{tokens_refused}
use Rattle.program_reader.specs.Accepted.{HasNoTokens, IsNoProgram, IsText, IsUntyped, lex_refusal, number_of}
use Rattle.program_reader.specs.Laws.{AcceptedIsUnrefused, HasOneRefusal, IsDecided, SaidIsAccepted, SaysNoneRefused, SaysOneTree}

-- ---- results
ok_same : (a b : List Placed) → ◌≡◌ {A = Result (List Placed) LexFault} (Ok a) (Ok b) → a ≡ b
ok_same a b e = cc

err_same : (a b : LexFault) → ◌≡◌ {A = Result (List Placed) LexFault} (Err a) (Err b) → a ≡ b
err_same a b e = cc

not_both : (a : List Placed) (b : LexFault) → ◌≡◌ {A = Result (List Placed) LexFault} (Ok a) (Err b) → ⊥
not_both a b e = cc

some_same : {A : Type 0} (a b : A) → Some a ≡ Some b → a ≡ b
some_same a b e = cc

not_some : {A : Type 0} (a : A) → None ≡ Some a → ⊥
not_some a e = cc

told : (stage : Stage) (n m : ℕ) (s t : Span) → n ≡ m → s ≡ t →
    ◌≡◌ {A = Refusal} (record { stage = stage; number = n; span = s }) (record { stage = stage; number = m; span = t })
told stage n m s t e f =
    ap (λ (x : ℕ). let r : Refusal = record { stage = stage; number = x; span = s } in r) e
    ∙ ap (λ (x : Span). let r : Refusal = record { stage = stage; number = m; span = x } in r) f

module _ (text : List ℕ) where
  same_tokens : (a b : List Placed) → tokens_of text ≡ Ok a → tokens_of text ≡ Ok b → a ≡ b
  same_tokens a b e f = ok_same a b (sym e ∙ f)

  -- ---- one tree
  one_tree : (t v : ProgramTree) → IsText text t → IsText text v → t ≡ v
  one_tree t v h k = read_once h.placed t v h.reading.reads
      (subst (λ u. IsReading u v) (same_tokens k.placed h.placed k.tokens h.tokens) k.reading).reads

  pub says_one_tree : SaysOneTree text
  says_one_tree p q h k =
      let same = one_tree (view_program p) (view_program q) h.tree k.tree in
      (same, h.names ∙ ap (λ t. insert_all bytes_eq [] (program_names t)) same ∙ sym k.names)

  -- ---- one refusal
  no_tokens : (a b : Refusal) → HasNoTokens text a → HasNoTokens text b → a ≡ b
  no_tokens a b h k = some_same a b (sym h.refused
      ∙ ap lex_refusal (err_same h.fault k.fault (sym h.tokens ∙ k.tokens)) ∙ k.refused)

  no_program : (a b : Refusal) → IsNoProgram text a → IsNoProgram text b → a ≡ b
  no_program a b h k =
      let first = subst (λ (u : List Placed). IsFirstFault k.why b.span u (through origin text))
      (same_tokens k.placed h.placed k.tokens h.tokens) k.first in
      let e = one_fault h.placed (through origin text) h.why k.why a.span b.span h.first first in
      h.refused ∙ told Grammar _ _ a.span b.span (ap number_of e.0) e.1 ∙ sym k.refused

  untyped : (a b : Refusal) → IsUntyped text a → IsUntyped text b → a ≡ b
  untyped a b h k =
      let e = some_same _ _ (sym h.first ∙ ap first_fault (one_tree h.tree k.tree h.is k.is) ∙ k.first) in
      h.refused ∙ told Typing a.number b.number a.span b.span (ap (λ (f : Finding). f.code) e)
      (ap (λ (f : Finding). f.span) e) ∙ sym k.refused

  tokens_or_none : {A : Type 0} (a : Refusal) (placed : List Placed) → HasNoTokens text a → tokens_of text ≡ Ok placed
      → A
  tokens_or_none a placed h e = absurd (not_both placed h.fault (sym e ∙ h.tokens))

  -- a tree of these tokens, which are refused
  read_or_none : {A : Type 0} (a : Refusal) (tree : ProgramTree) → IsNoProgram text a → IsText text tree → A
  read_or_none a tree h k =
      absurd (refuses_no_program h.placed h.why h.first.rest tree h.first.refused
      (subst (λ (u : List Placed). IsReading u tree) (same_tokens k.placed h.placed k.tokens h.tokens) k.reading))

  pub has_one_refusal : HasOneRefusal text
  has_one_refusal a b (inl h) (inl k) = no_tokens a b h k
  has_one_refusal a b (inl h) (inr (inl k)) = tokens_or_none a k.placed h k.tokens
  has_one_refusal a b (inl h) (inr (inr k)) = tokens_or_none a k.is.placed h k.is.tokens
  has_one_refusal a b (inr (inl h)) (inl k) = tokens_or_none b h.placed k h.tokens
  has_one_refusal a b (inr (inl h)) (inr (inl k)) = no_program a b h k
  has_one_refusal a b (inr (inl h)) (inr (inr k)) = read_or_none a k.tree h k.is
  has_one_refusal a b (inr (inr h)) (inl k) = tokens_or_none b h.is.placed k h.is.tokens
  has_one_refusal a b (inr (inr h)) (inr (inl k)) = read_or_none b h.tree k h.is
  has_one_refusal a b (inr (inr h)) (inr (inr k)) = untyped a b h k

  -- ---- never both
  pub accepted_is_unrefused : AcceptedIsUnrefused text
  accepted_is_unrefused a it (inl h) = tokens_or_none a it.1.placed h it.1.tokens
  accepted_is_unrefused a it (inr (inl h)) = read_or_none a it.0 h it.1
  accepted_is_unrefused a it (inr (inr h)) =
      not_some _ (sym it.2 ∙ ap first_fault (one_tree it.0 h.tree it.1 h.is) ∙ h.first)

  pub said_is_accepted : SaidIsAccepted text
  said_is_accepted p k = (view_program p, k.tree, k.accepted)

  pub says_none_refused : SaysNoneRefused text
  says_none_refused a p h k = accepted_is_unrefused a (said_is_accepted p k) h

  -- ---- one of the two
  typed_or_not : (tree : ProgramTree) → IsText text tree → (o : Option Finding) → first_fault tree ≡ o → IsDecided text
  typed_or_not tree is None e = inl (tree, is, e)
  typed_or_not tree is (Some f) e = inr (
    record { stage = Typing; number = f.code; span = f.span },
    inr (inr (record { tree = tree; is = is; first = e; refused = refl })),
  )

  read_or_not : (placed : List Placed) → tokens_of text ≡ Ok placed → IsJudged placed → IsDecided text
  read_or_not placed e (inl h) = typed_or_not h.0 (record { placed = placed; tokens = e; reading = h.1 })
      (first_fault h.0) refl
  read_or_not placed e (inr h) = inr (
    record { stage = Grammar; number = number_of h.0; span = spot (through origin text) h.1 },
    inr (inl (record {
      placed = placed;
      tokens = e;
      why = h.0;
      first = record { rest = h.1; place = refl; refused = h.2 };
      refused = refl;
    })),
  )

  lexed_or_not : (w : Result (List Placed) LexFault) → tokens_of text ≡ w → IsDecided text
  lexed_or_not (Ok placed) e = read_or_not placed e (tokens_judged placed)
  lexed_or_not (Err fault) e = let r = tokens_refused text fault e in
      inr (r.0, inl (record { fault = fault; tokens = e; refused = r.1 }))

  pub is_decided : IsDecided text
  is_decided = lexed_or_not (tokens_of text) refl
