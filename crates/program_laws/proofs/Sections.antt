-- The dense, sparse and update blocks, start and stop.
use Rattle.std.proofs.Common.{◌≡◌, ℕ, ◌≤◌, false, List, ◌∷◌, ◌++◌, length, refl, sym, ap, subst, ◌∙◌, append_assoc, arith}
use Rattle.vert_base.specs.declared.text.Span.{Span}
use Rattle.vert_lex.specs.declared.marks.TheConstants as mark
use Rattle.vert_lex.specs.declared.words.TheConstants as word
use Rattle.vert_lex.specs.Text.{Placed}
use Rattle.vert_lex.specs.Tokens.{Kind, Reserved, Mark, Name}
use Rattle.vert_tree.specs.Trees.{Tree, depth, Statements, End, More, block_depth, Declaration, DenseBlock, SparseBlock}
use Rattle.vert_grammar.specs.Grammar.{Form, Limits, Rights, loop_rights, tail_rights, sparse_rights, update_rights, Then, Is, Sign, TheMark, Each, Reads, ReadsDeclaration, ReadsBlock, ReadsDense, ReadsSparse, ReadsUpdate, ReadsStart, ReadsStop, IsShallowDense, IsShallowSparse}
use Rattle.vert_grammar.specs.Reading.{begins, up_to, declaration_at, block_at, dense_at, sparse_at, update_at, start_at, stop_at}
use Rattle.vert_grammar.specs.Signs.{is_word, stop_text}
use Rattle.grammar_laws.specs.Notions.{Mono, Notion, IsReader, IsImage}
use Rattle.grammar_laws.proofs.Lists.{list_notion, all_wider}
use Rattle.grammar_laws.proofs.Laws.{made_reader, up_to_reader}
use Rattle.grammar_laws.proofs.Trees.{free_semicolon, free_brace}
use Rattle.program_laws.proofs.Parts.{Reader, sign, then, sign_then, value_then, keeps, signs, then_map, then_assoc, then_joined, known, signed, then_values, begins_front, opened}
use Rattle.program_laws.proofs.Blocks.{list_of, statement_begins, block_notion, before_brace}
use Rattle.program_laws.proofs.Statements.{loop_reader, tail_reader, sparse_reader, update_reader}
use Rattle.program_laws.proofs.Declarations.{opens_with, reopened, declaration_notion, declaration_reader}

-- ---- what is read
abbrev pub dense_notion : Notion DenseBlock
dense_notion = record {
  form = ReadsDense;
  within = λ l d. IsShallowDense l.depth d × (length d.lets ≤ l.lets);
  shallow = IsShallowDense;
  follow = λ d r. Unit {0};
  wider = λ l m d c h. (
    record {
      test = (let k = c.depth in let q = h.0.test in omega arith);
      lets = all_wider (declaration_notion word.LET) d.lets l m c h.0.lets;
      body = (let k = c.depth in let q = h.0.body in omega arith);
      tail = (let k = c.depth in let q = h.0.tail in omega arith);
    },
    (let k = c.lets in let q = h.1 in omega arith),
  );
  weaker = λ l d h. h.0;
  ahead = λ d a b sh h. tt;
}

abbrev pub sparse_notion : Notion SparseBlock
sparse_notion = record {
  form = ReadsSparse;
  within = λ l d. IsShallowSparse l.depth d × (length d.sends ≤ l.sends);
  shallow = IsShallowSparse;
  follow = λ d r. Unit {0};
  wider = λ l m d c h. (
    record {
      test = (let k = c.depth in let q = h.0.test in omega arith);
      sends = all_wider (declaration_notion word.SEND) d.sends l m c h.0.sends;
      body = (let k = c.depth in let q = h.0.body in omega arith);
    },
    (let k = c.sends in let q = h.1 in omega arith),
  );
  weaker = λ l d h. h.0;
  ahead = λ d a b sh h. tt;
}

abbrev pub update_notion : Notion Statements
update_notion = record {
  form = ReadsUpdate;
  within = λ l x. block_depth x ≤ l.depth;
  shallow = λ b x. block_depth x ≤ b;
  follow = λ x r. Unit {0};
  wider = λ l m x c h. (let k = c.depth in omega arith);
  weaker = λ l x h. h;
  ahead = λ x a b sh h. tt;
}

-- a test, by the form that it is in
abbrev pub test_notion : (Tree → Form) → Notion Tree
test_notion F = record {
  form = F;
  within = λ l x. depth x ≤ l.depth;
  shallow = λ b x. depth x ≤ b;
  follow = λ x r. Unit {0};
  wider = λ l m x c h. (let k = c.depth in omega arith);
  weaker = λ l x h. h;
  ahead = λ x a b sh h. tt;
}

-- ---- blocks before a brace
ends_block : (rights : Rights) (x : Statements) (s : Span) (Q : Form) (v r : List Placed) →
    Then (Is s (Mark mark.RIGHT_BRACE)) Q v → (block_notion rights).follow x (v ++ r)
ends_block rights x s Q v r h = subst (λ l. (block_notion rights).follow x (l ++ r))
    (sym (opened s (Mark mark.RIGHT_BRACE) v h)) (before_brace rights (list_of x) s (h.back ++ r))

ends_last : (rights : Rights) (x : Statements) (s : Span) (v r : List Placed) → Is s (Mark mark.RIGHT_BRACE) v →
    (block_notion rights).follow x (v ++ r)
ends_last rights x s v r h = subst (λ l. (block_notion rights).follow x (l ++ r)) (sym h)
    (before_brace rights (list_of x) s r)

-- no `send` stands at the front of a block and its brace
no_send : (rights : Rights) (x : Statements) (s : Span) (v r : List Placed) →
    Then (ReadsBlock rights x) (Is s (Mark mark.RIGHT_BRACE)) v → begins (is_word word.SEND) (v ++ r) ≡ false
no_send rights End s v r h = rw (h.whole, h.first, h.second) refl
no_send rights (More first others) s v r h =
    let t = statement_begins rights first h.first.front h.first.first in
    begins_front (is_word word.SEND) t.span t.kind v (t.behind ++ (h.first.back ++ h.back)) r
    (h.whole ∙ ap (λ l. l ++ h.back) (h.first.whole ∙ ap (λ l. l ++ h.first.back) t.whole)
    ∙ ap (λ l. record { span = t.span; kind = t.kind } ∷ l) (append_assoc t.behind h.first.back h.back)) ∙ t.no_send

-- ---- lists of declarations
abbrev pub declarations : (keyword : ℕ) (m : Limits → ℕ) (mono : Mono m) → Reader (List Declaration)
declarations keyword m mono = record {
  notion = list_notion (declaration_notion keyword) (is_word keyword) m mono;
  run = λ l. up_to (is_word keyword) (declaration_at keyword l.depth) (m l);
  law = up_to_reader (declaration_notion keyword) (is_word keyword) (λ l. declaration_at keyword l.depth) m mono
      (λ x r. tt) (λ x u r h. opens_with (Reserved keyword) u r h)
      (λ l t pos e. let w = (declaration_reader keyword).word l pos in
      (w.0, w.2.back, reopened (Reserved keyword) t w.1 e w.2, w.3)) (declaration_reader keyword);
}

abbrev a_loop : Reader Statements
a_loop = record { notion = block_notion loop_rights; run = λ m. block_at loop_rights m.depth; law = loop_reader }

abbrev a_tail : Reader Statements
a_tail = record { notion = block_notion tail_rights; run = λ m. block_at tail_rights m.depth; law = tail_reader }

abbrev a_body : Reader Statements
a_body = record { notion = block_notion sparse_rights; run = λ m. block_at sparse_rights m.depth; law = sparse_reader }

abbrev an_update : Reader Statements
an_update = record {
  notion = block_notion update_rights;
  run = λ m. block_at update_rights m.depth;
  law = update_reader;
}

-- ---- dense
abbrev DenseParts : Type 0
DenseParts = Span × (Span × ((Tree × Span) ×
    (List Declaration × (Span × (Span × (Span × (Statements × (Span × (Statements × Span)))))))))

abbrev dense_parts : Reader DenseParts
dense_parts =
    sign_then (Reserved word.DENSE) (sign_then (Reserved word.WHEN) (then (value_then mark.LEFT_BRACE free_brace)
    (then (declarations word.LET (λ l. l.lets) (λ k l c. c.lets))
    (sign_then (Reserved word.FOR) (sign_then (Reserved word.U) (sign_then (Mark mark.LEFT_BRACE)
    (then a_loop (sign_then (Mark mark.RIGHT_BRACE)
    (then a_tail (sign (Mark mark.RIGHT_BRACE)) (λ x y v r h f. ends_last tail_rights x y v r h)))
    (λ x y v r h f. ends_block loop_rights x y.0 _ v r h)))))
    (λ x y v r h f. begins_front (is_word word.LET) y.0 (Reserved word.FOR) v h.back r
    (opened y.0 (Reserved word.FOR) v h)))
    (λ x y v r h f. tt)))

abbrev dense_of : DenseParts → DenseBlock
dense_of x = record { test = x.1.1.0.0; lets = x.1.1.1.0; body = x.1.1.1.1.1.1.1.0; tail = x.1.1.1.1.1.1.1.1.1.0 }

dense_image : IsImage dense_parts.notion dense_notion dense_of
dense_image = record {
  form = λ x u h. form x u h;
  within = λ l x h. (
    record {
      test = h.1.1.0.0;
      lets = h.1.1.1.0.0;
      body = h.1.1.1.1.1.1.1.0;
      tail = h.1.1.1.1.1.1.1.1.1.0;
    },
    h.1.1.1.0.1,
  );
  shallow = λ b x h. record {
    test = h.1.1.0.0;
    lets = h.1.1.1.0;
    body = h.1.1.1.1.1.1.1.0;
    tail = h.1.1.1.1.1.1.1.1.1.0;
  };
  follow = λ x r h. tt;
  back = λ y u h.
      let b = then_values (signed (Reserved word.DENSE))
      (then_values (signed (Reserved word.WHEN))
      (then_values (known (Reads 6) y.test) (then_values (signed (Mark mark.LEFT_BRACE))
      (then_values (known (Each (ReadsDeclaration word.LET)) y.lets)
      (then_values (signed (Reserved word.FOR))
      (then_values (signed (Reserved word.U)) (then_values (signed (Mark mark.LEFT_BRACE))
      (then_values (known (ReadsBlock loop_rights) y.body)
      (then_values (signed (Mark mark.RIGHT_BRACE))
      (then_values (known (ReadsBlock tail_rights) y.tail) (signed (Mark mark.RIGHT_BRACE)))))))))))) u h in
      let x = b.0 in (
        (x.0, (x.1.0, ((x.1.1.0, x.1.1.1.0), x.1.1.1.1))),
        refl,
        then_map (keeps (Is x.0 (Reserved word.DENSE))) (then_map (keeps (Is x.1.0 (Reserved word.WHEN))) then_joined)
            u b.1,
        λ l w. (tt, (tt, ((w.0.test, tt), ((w.0.lets, w.1), (tt, (tt, (tt, (w.0.body, (tt, (w.0.tail, tt)))))))))),
      );
  follow_back = λ x r h. tt;
}
  where
    form : (x : DenseParts) (u : List Placed) → dense_parts.notion.form x u → ReadsDense (dense_of x) u
    form x =
        then_map (signs x.0 (Reserved word.DENSE))
        (then_map (signs x.1.0 (Reserved word.WHEN)) (λ u h.
        then_map (keeps (Reads 6 x.1.1.0.0)) (then_map (signs x.1.1.0.1 (Mark mark.LEFT_BRACE))
        (then_map (keeps (Each (ReadsDeclaration word.LET) x.1.1.1.0))
        (then_map (signs x.1.1.1.1.0 (Reserved word.FOR))
        (then_map (signs x.1.1.1.1.1.0 (Reserved word.U)) (then_map (signs x.1.1.1.1.1.1.0 (Mark mark.LEFT_BRACE))
        (then_map (keeps (ReadsBlock loop_rights x.1.1.1.1.1.1.1.0))
        (then_map (signs x.1.1.1.1.1.1.1.1.0 (Mark mark.RIGHT_BRACE))
        (then_map (keeps (ReadsBlock tail_rights x.1.1.1.1.1.1.1.1.1.0))
        (signs x.1.1.1.1.1.1.1.1.1.1 (Mark mark.RIGHT_BRACE))))))))))
        u (then_assoc u h)))

pub dense_reader : IsReader dense_notion (λ l. dense_at l)
unfolding dense_at
dense_reader = made_reader dense_parts.notion dense_notion dense_of dense_parts.run dense_image dense_parts.law

-- ---- sparse
abbrev SparseParts : Type 0
SparseParts = Span × (Span × ((Tree × Span) × (List Declaration × (Statements × Span))))

abbrev sparse_parts : Reader SparseParts
sparse_parts =
    sign_then (Reserved word.SPARSE) (sign_then (Reserved word.WHEN) (then (value_then mark.LEFT_BRACE free_brace)
    (then (declarations word.SEND (λ l. l.sends) (λ k l c. c.sends))
    (then a_body (sign (Mark mark.RIGHT_BRACE)) (λ x y v r h f. ends_last sparse_rights x y v r h))
    (λ x y v r h f. no_send sparse_rights y.0 y.1 v r h))
    (λ x y v r h f. tt)))

abbrev sparse_of : SparseParts → SparseBlock
sparse_of x = record { test = x.1.1.0.0; sends = x.1.1.1.0; body = x.1.1.1.1.0 }

sparse_image : IsImage sparse_parts.notion sparse_notion sparse_of
sparse_image = record {
  form = λ x u h. form x u h;
  within = λ l x h. (record { test = h.1.1.0.0; sends = h.1.1.1.0.0; body = h.1.1.1.1.0 }, h.1.1.1.0.1);
  shallow = λ b x h. record { test = h.1.1.0.0; sends = h.1.1.1.0; body = h.1.1.1.1.0 };
  follow = λ x r h. tt;
  back = λ y u h.
      let b = then_values (signed (Reserved word.SPARSE))
      (then_values (signed (Reserved word.WHEN))
      (then_values (known (Reads 6) y.test) (then_values (signed (Mark mark.LEFT_BRACE))
      (then_values (known (Each (ReadsDeclaration word.SEND)) y.sends)
      (then_values (known (ReadsBlock sparse_rights) y.body) (signed (Mark mark.RIGHT_BRACE))))))) u h in
      let x = b.0 in (
        (x.0, (x.1.0, ((x.1.1.0, x.1.1.1.0), x.1.1.1.1))),
        refl,
        then_map (keeps (Is x.0 (Reserved word.SPARSE)))
            (then_map (keeps (Is x.1.0 (Reserved word.WHEN))) then_joined) u b.1,
        λ l w. (tt, (tt, ((w.0.test, tt), ((w.0.sends, w.1), (w.0.body, tt))))),
      );
  follow_back = λ x r h. tt;
}
  where
    form : (x : SparseParts) (u : List Placed) → sparse_parts.notion.form x u → ReadsSparse (sparse_of x) u
    form x =
        then_map (signs x.0 (Reserved word.SPARSE))
        (then_map (signs x.1.0 (Reserved word.WHEN)) (λ u h.
        then_map (keeps (Reads 6 x.1.1.0.0)) (then_map (signs x.1.1.0.1 (Mark mark.LEFT_BRACE))
        (then_map (keeps (Each (ReadsDeclaration word.SEND) x.1.1.1.0))
        (then_map (keeps (ReadsBlock sparse_rights x.1.1.1.1.0)) (signs x.1.1.1.1.1 (Mark mark.RIGHT_BRACE)))))
        u (then_assoc u h)))

pub sparse_block_reader : IsReader sparse_notion (λ l. sparse_at l)
unfolding sparse_at
sparse_block_reader = made_reader sparse_parts.notion sparse_notion sparse_of sparse_parts.run sparse_image
    sparse_parts.law

-- ---- update
abbrev UpdateParts : Type 0
UpdateParts = Span × (Span × (Statements × Span))

abbrev update_parts : Reader UpdateParts
update_parts = sign_then (Reserved word.UPDATE)
    (sign_then (Mark mark.LEFT_BRACE) (then an_update (sign (Mark mark.RIGHT_BRACE)) (λ x y v r h f.
    ends_last update_rights x y v r h)))

update_image : IsImage update_parts.notion update_notion (λ x. x.1.1.0)
update_image = record {
  form = λ x. then_map (signs x.0 (Reserved word.UPDATE))
      (then_map (signs x.1.0 (Mark mark.LEFT_BRACE))
      (then_map (keeps (ReadsBlock update_rights x.1.1.0)) (signs x.1.1.1 (Mark mark.RIGHT_BRACE))));
  within = λ l x h. h.1.1.0;
  shallow = λ b x h. h.1.1.0;
  follow = λ x r h. tt;
  back = λ y u h.
      let b = then_values (signed (Reserved word.UPDATE))
      (then_values (signed (Mark mark.LEFT_BRACE))
      (then_values (known (ReadsBlock update_rights) y) (signed (Mark mark.RIGHT_BRACE)))) u h in
      (b.0, refl, b.1, λ l w. (tt, (tt, (w, tt))));
  follow_back = λ x r h. tt;
}

pub update_block_reader : IsReader update_notion (λ l. update_at l.depth)
unfolding update_at
update_block_reader = made_reader update_parts.notion update_notion (λ x. x.1.1.0) update_parts.run update_image
    update_parts.law

-- ---- start and stop
abbrev test_parts : Kind → Reader (Span × (Tree × Span))
test_parts k = sign_then k (value_then mark.SEMICOLON free_semicolon)

test_image : (k : Kind) → IsImage (test_parts k).notion
    (test_notion (λ x. Then (Sign k) (Then (Reads 6 x) (TheMark mark.SEMICOLON)))) (λ x. x.1.0)
test_image k = record {
  form = λ x. then_map (signs x.0 k) (then_map (keeps (Reads 6 x.1.0)) (signs x.1.1 (Mark mark.SEMICOLON)));
  within = λ l x h. h.1.0;
  shallow = λ b x h. h.1.0;
  follow = λ x r h. tt;
  back = λ y u h.
      let b = then_values (signed k) (then_values (known (Reads 6) y) (signed (Mark mark.SEMICOLON))) u h in
      (b.0, refl, b.1, λ l w. (tt, (w, tt)));
  follow_back = λ x r h. tt;
}

pub start_reader : IsReader (test_notion ReadsStart) (λ l. start_at l.depth)
unfolding start_at
start_reader = made_reader (test_parts (Reserved word.START)).notion (test_notion ReadsStart) (λ x. x.1.0)
    (test_parts (Reserved word.START)).run (test_image (Reserved word.START)) (test_parts (Reserved word.START)).law

pub stop_reader : IsReader (test_notion ReadsStop) (λ l. stop_at l.depth)
unfolding stop_at
stop_reader = made_reader (test_parts (Name stop_text)).notion (test_notion ReadsStop) (λ x. x.1.0)
    (test_parts (Name stop_text)).run (test_image (Name stop_text)) (test_parts (Name stop_text)).law
