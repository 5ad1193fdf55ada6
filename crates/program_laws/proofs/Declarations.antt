-- Fields, lets and sends, slots and totals.
use Rattle.std.proofs.Common.{◌≡◌, ℕ, ◌≤◌, true, List, [], ◌∷◌, ◌++◌, refl, ap, ◌∙◌, arith}
use Rattle.std.specs.Prelude.{IsTrue}
use Rattle.vert_base.specs.declared.text.Span.{Span}
use Rattle.vert_base.specs.declared.value.Combine.{Combine}
use Rattle.vert_base.specs.declared.value.ValueType.{ValueType}
use Rattle.vert_lex.specs.declared.marks.TheConstants as mark
use Rattle.vert_lex.specs.declared.words.TheConstants as word
use Rattle.vert_lex.specs.Text.{Placed}
use Rattle.vert_lex.specs.Tokens.{Kind, Reserved, Mark, Name}
use Rattle.vert_tree.specs.Trees.{Named, Tree, depth, Declaration, SlotDeclaration, TotalDeclaration}
use Rattle.vert_grammar.specs.Grammar.{Then, Sign, TheName, TheWord, Reads, ReadsDeclaration, ReadsSlot, ReadsTotal}
use Rattle.vert_grammar.specs.Reading.{begins, declaration_at, slot_at, total_at}
use Rattle.vert_grammar.specs.Signs.{same, type_word, combine_word, is_fold, total_text}
use Rattle.grammar_laws.specs.Notions.{Notion, IsReader, IsImage, free_notion}
use Rattle.grammar_laws.proofs.Signs.{same-true, same-refl}
use Rattle.grammar_laws.proofs.Laws.{made_reader}
use Rattle.grammar_laws.proofs.Trees.{free_semicolon}
use Rattle.program_laws.proofs.Parts.{Reader, Values, sign, then, sign_then, name_then, value_then, keeps, signs, then_map, known, signed, then_values, begins_front}
use Rattle.program_laws.proofs.Words.{a_type, a_combination, FoldWord, a_fold}

-- ---- what begins with a token of its own
pub opens_with : {Q : List Placed → Type 0} (k : Kind) (u r : List Placed) → Then (Sign k) Q u →
    begins (λ x. same x k) (u ++ r) ≡ true
opens_with k u r h = begins_front (λ x. same x k) h.first.0 k u h.back r (h.whole ∙ ap (λ l. l ++ h.back) h.first.1)
    ∙ same-refl k

-- with another such token in front
pub reopened : {Q : List Placed → Type 0} (k : Kind) (t : Placed) (u : List Placed) → same t.kind k ≡ true →
    (h : Then (Sign k) Q u) → Then (Sign k) Q (t ∷ h.back)
reopened k t u e h =
    record {
      front = t ∷ [];
      back = h.back;
      whole = refl;
      first = (t.span, ap (λ (x : Kind). record { span = t.span; kind = x } ∷ []) (same-true t.kind k e));
      second = h.second;
    }

-- ---- what is read
abbrev pub declaration_notion : ℕ → Notion Declaration
declaration_notion keyword = record {
  form = ReadsDeclaration keyword;
  within = λ l d. depth d.value ≤ l.depth;
  shallow = λ b d. depth d.value ≤ b;
  follow = λ d r. Unit {0};
  wider = λ l m d c h. (let k = c.depth in omega arith);
  weaker = λ l d h. h;
  ahead = λ d a b sh h. tt;
}

abbrev pub slot_notion : Notion SlotDeclaration
slot_notion = free_notion ReadsSlot

abbrev pub total_notion : Notion TotalDeclaration
total_notion = record {
  form = ReadsTotal;
  within = λ l d. depth d.value ≤ l.depth;
  shallow = λ b d. depth d.value ≤ b;
  follow = λ d r. Unit {0};
  wider = λ l m d c h. (let k = c.depth in omega arith);
  weaker = λ l d h. h;
  ahead = λ d a b sh h. tt;
}

-- the word of a total's combination, which has no first value
abbrev the_fold : (c : Combine) → IsTrue (is_fold c) → Values FoldWord (TheWord (combine_word c))
the_fold c e u h = (c, (e, h))

-- ---- slots
abbrev SlotParts : Type 0
SlotParts = Span × (Named × (Span × (Combine × Span)))

abbrev slot_parts : Reader SlotParts
slot_parts = sign_then (Reserved word.SLOT)
    (name_then (sign_then (Mark mark.COLON) (then a_combination (sign (Mark mark.SEMICOLON)) (λ x y v r h f. tt))))

abbrev slot_of : SlotParts → SlotDeclaration
slot_of x = record { name = x.1.0; op = x.1.1.1.0 }

slot_image : IsImage slot_parts.notion slot_notion slot_of
slot_image = record {
  form = λ x. then_map (signs x.0 (Reserved word.SLOT))
      (then_map (keeps (TheName x.1.0)) (then_map (signs x.1.1.0 (Mark mark.COLON))
      (then_map (keeps (TheWord (combine_word x.1.1.1.0))) (signs x.1.1.1.1 (Mark mark.SEMICOLON)))));
  within = λ l x h. tt;
  shallow = λ b x h. tt;
  follow = λ x r h. tt;
  back = λ y u h.
      let b = then_values (signed (Reserved word.SLOT))
      (then_values (known TheName y.name)
      (then_values (signed (Mark mark.COLON))
      (then_values (known (λ c. TheWord (combine_word c)) y.op) (signed (Mark mark.SEMICOLON))))) u h in
      (b.0, refl, b.1, λ l w. (tt, (tt, (tt, (tt, tt)))));
  follow_back = λ x r h. tt;
}

pub slot_reader : IsReader slot_notion (λ l. slot_at)
unfolding slot_at
slot_reader = made_reader slot_parts.notion slot_notion slot_of slot_parts.run slot_image slot_parts.law

-- ---- fields, lets and sends
abbrev DeclarationParts : Type 0
DeclarationParts = Span × (Named × (Span × (ValueType × (Span × (Tree × Span)))))

abbrev declaration_parts : ℕ → Reader DeclarationParts
declaration_parts keyword =
    sign_then (Reserved keyword) (name_then
    (sign_then (Mark mark.COLON) (then a_type
    (sign_then (Mark mark.ASSIGN) (value_then mark.SEMICOLON free_semicolon)) (λ x y v r h f. tt))))

abbrev declaration_of : DeclarationParts → Declaration
declaration_of x = record { name = x.1.0; kind = x.1.1.1.0; value = x.1.1.1.1.1.0 }

declaration_image : (keyword : ℕ) → IsImage (declaration_parts keyword).notion (declaration_notion keyword)
    declaration_of
declaration_image keyword = record {
  form = λ x.
      then_map (signs x.0 (Reserved keyword))
      (then_map (keeps (TheName x.1.0))
      (then_map (signs x.1.1.0 (Mark mark.COLON)) (then_map (keeps (TheWord (type_word x.1.1.1.0)))
      (then_map (signs x.1.1.1.1.0 (Mark mark.ASSIGN))
      (then_map (keeps (Reads 6 x.1.1.1.1.1.0)) (signs x.1.1.1.1.1.1 (Mark mark.SEMICOLON)))))));
  within = λ l x h. h.1.1.1.1.1.0;
  shallow = λ b x h. h.1.1.1.1.1.0;
  follow = λ x r h. tt;
  back = λ y u h.
      let b = then_values (signed (Reserved keyword))
      (then_values (known TheName y.name)
      (then_values (signed (Mark mark.COLON)) (then_values (known (λ t. TheWord (type_word t)) y.kind)
      (then_values (signed (Mark mark.ASSIGN))
      (then_values (known (Reads 6) y.value) (signed (Mark mark.SEMICOLON))))))) u h in
      (b.0, refl, b.1, λ l w. (tt, (tt, (tt, (tt, (tt, (w, tt)))))));
  follow_back = λ x r h. tt;
}

pub declaration_reader : (keyword : ℕ) → IsReader (declaration_notion keyword) (λ l. declaration_at keyword l.depth)
unfolding declaration_at
declaration_reader keyword =
    made_reader (declaration_parts keyword).notion (declaration_notion keyword) declaration_of
    (declaration_parts keyword).run (declaration_image keyword) (declaration_parts keyword).law

-- ---- totals
abbrev TotalParts : Type 0
TotalParts = Span × (Named × (Span × (Combine × (Span × (Tree × Span)))))

abbrev total_parts : Reader TotalParts
total_parts =
    sign_then (Name total_text) (name_then
    (sign_then (Mark mark.COLON) (then a_fold
    (sign_then (Mark mark.ASSIGN) (value_then mark.SEMICOLON free_semicolon)) (λ x y v r h f. tt))))

abbrev total_of : TotalParts → TotalDeclaration
total_of x = record { name = x.1.0; op = x.1.1.1.0; value = x.1.1.1.1.1.0 }

total_image : IsImage total_parts.notion total_notion total_of
total_image = record {
  form = λ x u h. (
    h.second.second.second.first.0,
    then_map (signs x.0 (Name total_text))
        (then_map (keeps (TheName x.1.0)) (then_map (signs x.1.1.0 (Mark mark.COLON)) (then_map (fold_word x.1.1.1.0)
        (then_map (signs x.1.1.1.1.0 (Mark mark.ASSIGN))
        (then_map (keeps (Reads 6 x.1.1.1.1.1.0)) (signs x.1.1.1.1.1.1 (Mark mark.SEMICOLON))))))) u h,
  );
  within = λ l x h. h.1.1.1.1.1.0;
  shallow = λ b x h. h.1.1.1.1.1.0;
  follow = λ x r h. tt;
  back = λ y u h.
      let b = then_values (signed (Name total_text))
      (then_values (known TheName y.name) (then_values (signed (Mark mark.COLON)) (then_values (the_fold y.op h.0)
      (then_values (signed (Mark mark.ASSIGN))
      (then_values (known (Reads 6) y.value) (signed (Mark mark.SEMICOLON))))))) u h.1 in
      (b.0, refl, b.1, λ l w. (tt, (tt, (tt, (tt, (tt, (w, tt)))))));
  follow_back = λ x r h. tt;
}
  where
    fold_word : (c : Combine) (u : List Placed) → FoldWord c u → TheWord (combine_word c) u
    fold_word c u h = h.1

pub total_reader : IsReader total_notion (λ l. total_at l.depth)
unfolding total_at
total_reader = made_reader total_parts.notion total_notion total_of total_parts.run total_image total_parts.law
