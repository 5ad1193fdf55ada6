-- What is read as a statement, and the statements other than `if`.
use Rattle.std.proofs.Common.{◌≡◌, ℕ, ◌≤◌, false, List, refl, ◌∙◌, arith}
use Rattle.std.specs.Prelude.{IsTrue}
use Rattle.vert_base.specs.declared.text.Span.{Span}
use Rattle.vert_lex.specs.declared.marks.TheConstants as mark
use Rattle.vert_lex.specs.declared.words.TheConstants as word
use Rattle.vert_lex.specs.Text.{Placed}
use Rattle.vert_lex.specs.Tokens.{Reserved, Mark}
use Rattle.vert_tree.specs.declared.statement.AssignOp.{AssignOp}
use Rattle.vert_tree.specs.Trees.{Named, Tree, Statement, Assign, SetActive, If, IfElse, Emit, Break, statement_depth}
use Rattle.vert_grammar.specs.Grammar.{Form, Limits, Rights, Is, Reads, ReadsOp, TheName, ReadsStatement}
use Rattle.vert_grammar.specs.Reading.{begins, assign_at, set_active_at, emit_at, break_at}
use Rattle.vert_grammar.specs.Signs.{is_word}
use Rattle.grammar_laws.specs.Notions.{Notion, SameHead, IsReader, IsImage, only}
use Rattle.grammar_laws.proofs.Readers.{begins_same}
use Rattle.grammar_laws.proofs.Laws.{made_reader}
use Rattle.grammar_laws.proofs.Trees.{free_semicolon}
use Rattle.program_laws.proofs.Parts.{Reader, sign, then, sign_then, name_then, value_then, keeps, signs, then_map, known, signed, then_values}
use Rattle.program_laws.proofs.Words.{an_op}

-- No `else` may follow an `if` that has none.
abbrev pub StatementEnds : Statement → Form
StatementEnds (Assign target op value) r = Unit {0}
StatementEnds (SetActive s value) r = Unit {0}
StatementEnds (If s test held) r = begins (is_word word.ELSE) r ≡ false
StatementEnds (IfElse s test held otherwise) r = Unit {0}
StatementEnds (Emit s slot value) r = Unit {0}
StatementEnds (Break s) r = Unit {0}

pub StatementEnds-same : (x : Statement) (a b : List Placed) → SameHead a b → StatementEnds x b → StatementEnds x a
StatementEnds-same (Assign target op value) a b sh h = tt
StatementEnds-same (SetActive s value) a b sh h = tt
StatementEnds-same (If s test held) a b sh h = begins_same (is_word word.ELSE) a b sh ∙ h
StatementEnds-same (IfElse s test held otherwise) a b sh h = tt
StatementEnds-same (Emit s slot value) a b sh h = tt
StatementEnds-same (Break s) a b sh h = tt

abbrev pub statement_notion : Rights → Notion Statement
statement_notion rights = record {
  form = ReadsStatement rights;
  within = λ l x. statement_depth x ≤ l.depth;
  shallow = λ b x. statement_depth x ≤ b;
  follow = StatementEnds;
  wider = λ l m x c h. (let d = c.depth in omega arith);
  weaker = λ l x h. h;
  ahead = StatementEnds-same;
}

-- the sorts of statements
abbrev pub sort : Statement → ℕ
sort (Assign target op value) = 0
sort (SetActive s value) = 1
sort (If s test held) = 2
sort (IfElse s test held otherwise) = 2
sort (Emit s slot value) = 3
sort (Break s) = 4

abbrev pub sort_notion : Rights → ℕ → Notion Statement
sort_notion rights n = only (statement_notion rights) (λ x. sort x ≡ n)

-- ---- break
abbrev break_parts : Reader (Span × Span)
break_parts = sign_then (Reserved word.BREAK) (sign (Mark mark.SEMICOLON))

break_image : (rights : Rights) → IsTrue rights.breaks →
    IsImage break_parts.notion (sort_notion rights 4) (λ x. Break x.0)
break_image rights right = record {
  form = λ x u h. (
    (right, then_map (keeps (Is x.0 (Reserved word.BREAK))) (signs x.1 (Mark mark.SEMICOLON)) u h),
    refl,
  );
  within = λ l x h. omega arith;
  shallow = λ b x h. omega arith;
  follow = λ x r h. tt;
  back = back;
  follow_back = λ x r h. tt;
}
  where
    back : (y : Statement) (u : List Placed) → (sort_notion rights 4).form y u → (x : Span × Span) × (Break x.0 ≡ y) ×
        break_parts.notion.form x u × ((l : Limits) → (sort_notion rights 4).within l y → break_parts.notion.within l x)
    back (Assign target op value) u h = absurd (omega arith)
    back (SetActive s value) u h = absurd (omega arith)
    back (If s test held) u h = absurd (omega arith)
    back (IfElse s test held otherwise) u h = absurd (omega arith)
    back (Emit s slot value) u h = absurd (omega arith)
    back (Break s) u h =
        let b = then_values (known (λ s. Is s (Reserved word.BREAK)) s) (signed (Mark mark.SEMICOLON)) u h.0.1 in
        (b.0, refl, b.1, λ l w. (tt, tt))

pub break_reader : (rights : Rights) → IsTrue rights.breaks → IsReader (sort_notion rights 4) (λ l. break_at)
unfolding break_at
break_reader rights right = made_reader break_parts.notion (sort_notion rights 4) (λ x. Break x.0) break_parts.run
    (break_image rights right) break_parts.law

-- ---- assignments
abbrev assign_parts : Reader (Named × (AssignOp × (Tree × Span)))
assign_parts = name_then (then an_op (value_then mark.SEMICOLON free_semicolon) (λ x y v r h f. tt))

abbrev assign_of : Named × (AssignOp × (Tree × Span)) → Statement
assign_of x = Assign x.0 x.1.0 x.1.1.0

assign_image : (rights : Rights) → IsTrue rights.assigns → IsImage assign_parts.notion (sort_notion rights 0) assign_of
assign_image rights right = record {
  form = λ x u h. (
    (
      right,
      then_map (keeps (TheName x.0))
          (then_map (keeps (ReadsOp x.1.0))
          (then_map (keeps (Reads 6 x.1.1.0)) (signs x.1.1.1 (Mark mark.SEMICOLON)))) u
          h,
    ),
    refl,
  );
  within = λ l x h. h.1.1.0;
  shallow = λ b x h. h.1.1.0;
  follow = λ x r h. tt;
  back = back;
  follow_back = λ x r h. tt;
}
  where
    back : (y : Statement) (u : List Placed) → (sort_notion rights 0).form y u →
        (x : Named × (AssignOp × (Tree × Span))) × (assign_of x ≡ y) × assign_parts.notion.form x u ×
        ((l : Limits) → (sort_notion rights 0).within l y → assign_parts.notion.within l x)
    back (SetActive s value) u h = absurd (omega arith)
    back (If s test held) u h = absurd (omega arith)
    back (IfElse s test held otherwise) u h = absurd (omega arith)
    back (Emit s slot value) u h = absurd (omega arith)
    back (Break s) u h = absurd (omega arith)
    back (Assign target op value) u h =
        let b = then_values (known TheName target)
        (then_values (known ReadsOp op) (then_values (known (Reads 6) value) (signed (Mark mark.SEMICOLON)))) u
        h.0.1 in
        (b.0, refl, b.1, λ l w. (tt, (tt, (w, tt))))

pub assign_reader : (rights : Rights) → IsTrue rights.assigns → IsReader (sort_notion rights 0) (λ l. assign_at l.depth)
unfolding assign_at
assign_reader rights right = made_reader assign_parts.notion (sort_notion rights 0) assign_of assign_parts.run
    (assign_image rights right) assign_parts.law

-- ---- active
abbrev active_parts : Reader (Span × (Span × (Tree × Span)))
active_parts = sign_then (Reserved word.ACTIVE)
    (sign_then (Mark mark.ASSIGN) (value_then mark.SEMICOLON free_semicolon))

abbrev active_of : Span × (Span × (Tree × Span)) → Statement
active_of x = SetActive x.0 x.1.1.0

active_image : (rights : Rights) → IsTrue rights.activates →
    IsImage active_parts.notion (sort_notion rights 1) active_of
active_image rights right = record {
  form = λ x u h. (
    (
      right,
      then_map (keeps (Is x.0 (Reserved word.ACTIVE)))
          (then_map (signs x.1.0 (Mark mark.ASSIGN))
          (then_map (keeps (Reads 6 x.1.1.0)) (signs x.1.1.1 (Mark mark.SEMICOLON)))) u h,
    ),
    refl,
  );
  within = λ l x h. h.1.1.0;
  shallow = λ b x h. h.1.1.0;
  follow = λ x r h. tt;
  back = back;
  follow_back = λ x r h. tt;
}
  where
    back : (y : Statement) (u : List Placed) → (sort_notion rights 1).form y u → (x : Span × (Span × (Tree × Span))) ×
        (active_of x ≡ y) × active_parts.notion.form x u ×
        ((l : Limits) → (sort_notion rights 1).within l y → active_parts.notion.within l x)
    back (Assign target op value) u h = absurd (omega arith)
    back (If s test held) u h = absurd (omega arith)
    back (IfElse s test held otherwise) u h = absurd (omega arith)
    back (Emit s slot value) u h = absurd (omega arith)
    back (Break s) u h = absurd (omega arith)
    back (SetActive s value) u h =
        let b = then_values (known (λ s. Is s (Reserved word.ACTIVE)) s)
        (then_values (signed (Mark mark.ASSIGN))
        (then_values (known (Reads 6) value) (signed (Mark mark.SEMICOLON)))) u h.0.1 in
        (b.0, refl, b.1, λ l w. (tt, (tt, (w, tt))))

pub active_reader : (rights : Rights) → IsTrue rights.activates →
    IsReader (sort_notion rights 1) (λ l. set_active_at l.depth)
unfolding set_active_at
active_reader rights right = made_reader active_parts.notion (sort_notion rights 1) active_of active_parts.run
    (active_image rights right) active_parts.law

-- ---- emissions
abbrev emit_parts : Reader (Span × (Named × (Tree × Span)))
emit_parts = sign_then (Reserved word.EMIT) (name_then (value_then mark.SEMICOLON free_semicolon))

abbrev emit_of : Span × (Named × (Tree × Span)) → Statement
emit_of x = Emit x.0 x.1.0 x.1.1.0

emit_image : (rights : Rights) → IsTrue rights.emits → IsImage emit_parts.notion (sort_notion rights 3) emit_of
emit_image rights right = record {
  form = λ x u h. (
    (
      right,
      then_map (keeps (Is x.0 (Reserved word.EMIT)))
          (then_map (keeps (TheName x.1.0))
          (then_map (keeps (Reads 6 x.1.1.0)) (signs x.1.1.1 (Mark mark.SEMICOLON)))) u
          h,
    ),
    refl,
  );
  within = λ l x h. h.1.1.0;
  shallow = λ b x h. h.1.1.0;
  follow = λ x r h. tt;
  back = back;
  follow_back = λ x r h. tt;
}
  where
    back : (y : Statement) (u : List Placed) → (sort_notion rights 3).form y u → (x : Span × (Named × (Tree × Span)))
        × (emit_of x ≡ y) × emit_parts.notion.form x u ×
        ((l : Limits) → (sort_notion rights 3).within l y → emit_parts.notion.within l x)
    back (Assign target op value) u h = absurd (omega arith)
    back (SetActive s value) u h = absurd (omega arith)
    back (If s test held) u h = absurd (omega arith)
    back (IfElse s test held otherwise) u h = absurd (omega arith)
    back (Break s) u h = absurd (omega arith)
    back (Emit s slot value) u h =
        let b = then_values (known (λ s. Is s (Reserved word.EMIT)) s)
        (then_values (known TheName slot) (then_values (known (Reads 6) value) (signed (Mark mark.SEMICOLON)))) u
        h.0.1 in
        (b.0, refl, b.1, λ l w. (tt, (tt, (w, tt))))

pub emit_reader : (rights : Rights) → IsTrue rights.emits → IsReader (sort_notion rights 3) (λ l. emit_at l.depth)
unfolding emit_at
emit_reader rights right = made_reader emit_parts.notion (sort_notion rights 3) emit_of emit_parts.run
    (emit_image rights right) emit_parts.law
