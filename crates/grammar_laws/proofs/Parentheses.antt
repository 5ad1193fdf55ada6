-- The nodes that begin with one token, and what stands inside parentheses.
use Rattle.std.proofs.Common.{◌≡◌, ℕ, ℤ, pos, zero, suc, pred, max, ◌≤◌, Bool, true, false, cond, List, [], ◌∷◌, ◌++◌, Option, None, Some, Ok, refl, sym, ap, ◌∙◌, arith, inl, inr, ◌⊎◌}
use Rattle.std.proofs.lemmas.List.{append-nil}
use Rattle.vert_base.specs.declared.text.Span.{Span}
use Rattle.vert_lex.specs.declared.marks.TheConstants as mark
use Rattle.vert_lex.specs.declared.words.TheConstants as word
use Rattle.vert_lex.specs.Text.{Placed}
use Rattle.vert_lex.specs.Tokens.{Kind, Reserved, Mark, Number, Name}
use Rattle.vert_tree.specs.declared.expression.Builtin.{Builtin}
use Rattle.vert_tree.specs.declared.expression.Builtin.TheVariants.{Id, Count, Round, InDeg, OutDeg, Active, Weight}
use Rattle.vert_tree.specs.Plain.{nowhere}
use Rattle.vert_tree.specs.Trees.{Named, Tree, Literal, Truth, Word, Variable, Got, Value, OtherField, OtherWord, Draw, Negative, Not, Pair, Choice, Least, Greatest, Group, depth}
use Rattle.vert_grammar.specs.Faults.{Unexpected}
use Rattle.vert_grammar.specs.Grammar.{Form, Then, TheMark, Limits, Reads}
use Rattle.vert_grammar.specs.Reading.{Res, Parser, ◌>>=◌, stop, both, begins, if_begins, unless, single, the_mark, node, is_atom, atom_of, member_of, named_at, other_of, other_at, draw_at, draw_of, grouped, two_of, prefixed, unary, climb, tree_at}
use Rattle.vert_grammar.specs.Signs.{token, is_mark, is_word, is_name, builtin_of, builtin_word, truth_word}
use Rattle.vert_grammar.proofs.Steps.{unary_is}
use Rattle.grammar_laws.specs.Notions.{Covers, deep, SameHead, Notion, Sound, Complete, First, HasWord, Follows, both_notion, free_notion, IsInto, IsNode, SoundWhere, FirstWhere}
use Rattle.grammar_laws.proofs.Readers.{begins_same, both_sound, both_complete, both_first}
use Rattle.grammar_laws.proofs.Signs.{sign_notion, expect_reader}
use Rattle.grammar_laws.proofs.Laws.{into_sound, into_first, recast_sound, recast_first}
use Rattle.grammar_laws.proofs.Either.{either_sound, either_first, unless_notion, unless_sound, unless_complete, unless_first, node_sound, node_first, node_goes}
use Rattle.grammar_laws.proofs.Operators.{layer_of_pos}
use Rattle.grammar_laws.proofs.Trees.{tree_notion, tree_run, ends_no_dot, no_dot_ends, depth_pos, leaf, leaf_tokens, leaf_reads, free_close, free_comma}
use Rattle.grammar_laws.proofs.Atoms.{NoDot, MayEnd, ReadsAtom, atom_reader, named_notion, named_reader, other_notion, other_reader, draw_notion, draw_reader}

pub may_end_same : (x : Tree) (a b : List Placed) → SameHead a b → MayEnd x b → MayEnd x a
may_end_same (Variable s name) a b sh h = begins_same (is_mark mark.DOT) a b sh ∙ h
may_end_same (Negative s inner) a b sh h = begins_same (is_mark mark.DOT) a b sh ∙ h
may_end_same (Not s inner) a b sh h = begins_same (is_mark mark.DOT) a b sh ∙ h
may_end_same _ a b sh h = tt

-- what begins with one token, before the test for a dot
abbrev pub prefix_notion : Notion Tree
prefix_notion = record {
  form = Reads 0;
  within = λ l t. depth t ≤ l.depth;
  shallow = λ b t. depth t ≤ b;
  follow = MayEnd;
  wider = λ l m x c h. (let d = c.depth in omega arith);
  weaker = λ l x h. h;
  ahead = may_end_same;
}

-- ---- nodes
pub negative_node : IsNode (tree_notion 0) prefix_notion (Mark mark.MINUS) Negative
negative_node = record {
  form = λ s x u h. record { front = token s (Mark mark.MINUS) ∷ []; back = u; whole = refl; first = refl; second = h };
  within = λ l b s x h. omega arith;
  shallow = λ b s x h. omega arith;
  follow = λ s x r h. ends_no_dot r h;
}

pub not_node : IsNode (tree_notion 0) prefix_notion (Mark mark.NOT) Not
not_node = record {
  form = λ s x u h. record { front = token s (Mark mark.NOT) ∷ []; back = u; whole = refl; first = refl; second = h };
  within = λ l b s x h. omega arith;
  shallow = λ b s x h. omega arith;
  follow = λ s x r h. ends_no_dot r h;
}

abbrev pub close : Kind
close = Mark mark.RIGHT_PARENTHESIS

abbrev pub comma : Kind
comma = Mark mark.COMMA

abbrev pub opened : Kind
opened = Mark mark.LEFT_PARENTHESIS

abbrev pub group_notion : Notion (Tree × Span)
group_notion = both_notion (tree_notion 6) (sign_notion close)

abbrev pub group_of : Span → Tree × Span → Tree
group_of s x = Group s x.0

pub group_node : IsNode group_notion prefix_notion opened group_of
group_node = record {
  form = λ s x u h.
      record {
        front = token s opened ∷ [];
        back = u;
        whole = refl;
        first = refl;
        second = record {
          front = h.front;
          back = h.back;
          whole = h.whole;
          first = h.first;
          second = (x.1, h.second);
        };
      };
  within = λ l b s x h. (let q = h.0 in omega arith);
  shallow = λ b s x h. (let q = h.0 in omega arith);
  follow = λ s x r h. tt;
}

-- two operands in parentheses, from the comma and from the first operand on
abbrev pub comma_notion : Notion (Span × (Tree × Span))
comma_notion = both_notion (sign_notion comma) group_notion

abbrev pub operands_notion : Notion (Tree × (Span × (Tree × Span)))
operands_notion = both_notion (tree_notion 6) comma_notion

abbrev pub two_notion : Notion (Span × (Tree × (Span × (Tree × Span))))
two_notion = both_notion (sign_notion opened) operands_notion

abbrev pub least_of : Span → Span × (Tree × (Span × (Tree × Span))) → Tree
least_of s x = Least s x.1.0 x.1.1.1.0

abbrev pub greatest_of : Span → Span × (Tree × (Span × (Tree × Span))) → Tree
greatest_of s x = Greatest s x.1.0 x.1.1.1.0

pub two_form : (x : Span × (Tree × (Span × (Tree × Span)))) (u : List Placed) → two_notion.form x u
    → Then (TheMark mark.LEFT_PARENTHESIS)
    (Then (Reads 6 x.1.0) (Then (TheMark mark.COMMA) (Then (Reads 6 x.1.1.1.0) (TheMark mark.RIGHT_PARENTHESIS)))) u
two_form x u h =
    let b = h.second in let c = b.second in let d = c.second in
    record {
      front = h.front;
      back = h.back;
      whole = h.whole;
      first = (x.0, h.first);
      second = record {
        front = b.front;
        back = b.back;
        whole = b.whole;
        first = b.first;
        second = record {
          front = c.front;
          back = c.back;
          whole = c.whole;
          first = (x.1.1.0, c.first);
          second = record {
            front = d.front;
            back = d.back;
            whole = d.whole;
            first = d.first;
            second = (x.1.1.1.1, d.second);
          };
        };
      };
    }

pub least_node : IsNode two_notion prefix_notion (Reserved word.MIN) least_of
least_node = record {
  form = λ s x u h. record {
    front = token s (Reserved word.MIN) ∷ [];
    back = u;
    whole = refl;
    first = refl;
    second = two_form x u h;
  };
  within = λ l b s x h. (let p = h.1.0 in let q = h.1.1.1.0 in omega arith);
  shallow = λ b s x h. (let p = h.1.0 in let q = h.1.1.1.0 in omega arith);
  follow = λ s x r h. tt;
}

pub greatest_node : IsNode two_notion prefix_notion (Reserved word.MAX) greatest_of
greatest_node = record {
  form = λ s x u h. record {
    front = token s (Reserved word.MAX) ∷ [];
    back = u;
    whole = refl;
    first = refl;
    second = two_form x u h;
  };
  within = λ l b s x h. (let p = h.1.0 in let q = h.1.1.1.0 in omega arith);
  shallow = λ b s x h. (let p = h.1.0 in let q = h.1.1.1.0 in omega arith);
  follow = λ s x r h. tt;
}

pub close_follows : Follows (tree_notion 6) (sign_notion close)
close_follows x y v r h f = rw h free_close

pub comma_follows : Follows (tree_notion 6) comma_notion
comma_follows x y v r h f = rw (h.whole, h.first) free_comma

-- ---- the laws of what stands inside parentheses
abbrev pub group_run : Limits → Parser (Tree × Span)
group_run m = grouped (tree_at m.depth)

abbrev pub comma_run : Limits → Parser (Span × (Tree × Span))
comma_run m = both (the_mark mark.COMMA) (group_run m)

abbrev pub operands_run : Limits → Parser (Tree × (Span × (Tree × Span)))
operands_run m = both (tree_at m.depth 6) (comma_run m)

abbrev pub two_run : Limits → Parser (Span × (Tree × (Span × (Tree × Span))))
two_run m = two_of (tree_at m.depth)

module _ (l : Limits) (sound : Sound (tree_notion 6) l (tree_at l.depth 6)) where
  pub group_sound : Sound group_notion l (group_run l)
  group_sound = both_sound (tree_notion 6) (λ x. sign_notion close) l (tree_at l.depth 6) (λ x.
      the_mark mark.RIGHT_PARENTHESIS) sound (λ x. (expect_reader close).sound l)

  pub comma_sound : Sound comma_notion l (comma_run l)
  comma_sound = both_sound (sign_notion comma) (λ x. group_notion) l (the_mark mark.COMMA) (λ x. group_run l)
      ((expect_reader comma).sound l) (λ x. group_sound)

  pub operands_sound : Sound operands_notion l (operands_run l)
  operands_sound = both_sound (tree_notion 6) (λ x. comma_notion) l (tree_at l.depth 6) (λ x. comma_run l) sound (λ x.
      comma_sound)

  pub two_sound : Sound two_notion l (two_run l)
  two_sound = both_sound (sign_notion opened) (λ x. operands_notion) l (the_mark mark.LEFT_PARENTHESIS) (λ x.
      operands_run l) ((expect_reader opened).sound l) (λ x. operands_sound)

module _ (l : Limits) (complete : Complete (tree_notion 6) l (tree_at l.depth 6)) where
  pub group_complete : Complete group_notion l (group_run l)
  group_complete = both_complete (tree_notion 6) (λ x. sign_notion close) l (tree_at l.depth 6) (λ x.
      the_mark mark.RIGHT_PARENTHESIS) close_follows complete (λ x. (expect_reader close).complete l)

  pub comma_complete : Complete comma_notion l (comma_run l)
  comma_complete = both_complete (sign_notion comma) (λ x. group_notion) l (the_mark mark.COMMA) (λ x. group_run l)
      (λ x y v r h f. tt) ((expect_reader comma).complete l) (λ x. group_complete)

  pub operands_complete : Complete operands_notion l (operands_run l)
  operands_complete = both_complete (tree_notion 6) (λ x. comma_notion) l (tree_at l.depth 6) (λ x. comma_run l)
      comma_follows complete (λ x. comma_complete)

  pub two_complete : Complete two_notion l (two_run l)
  two_complete = both_complete (sign_notion opened) (λ x. operands_notion) l (the_mark mark.LEFT_PARENTHESIS) (λ x.
      operands_run l) (λ x y v r h f. tt) ((expect_reader opened).complete l) (λ x. operands_complete)

module _ (l : Limits) (pos : 1 ≤ l.depth) (sound : Sound (tree_notion 6) l (tree_at l.depth 6))
    (complete : (m : Limits) → Covers l m → Complete (tree_notion 6) m (tree_at m.depth 6))
    (first : First (tree_notion 6) (tree_run 6) l) where
  pub group_first : First group_notion group_run l
  group_first =
      both_first (tree_notion 6) (λ x. sign_notion close) l (tree_run 6) (λ x m. the_mark mark.RIGHT_PARENTHESIS)
      close_follows (λ x. (expect_reader close).word l pos) sound complete first (λ x.
      (expect_reader close).first l pos)

  pub group_word : HasWord group_notion l
  group_word = (
    (leaf, nowhere),
    leaf_tokens ++ token nowhere close ∷ [],
    record {
      front = leaf_tokens;
      back = token nowhere close ∷ [];
      whole = refl;
      first = leaf_reads 6;
      second = refl;
    },
    (pos, tt),
  )

  pub comma_word : HasWord comma_notion l
  comma_word =
      let g = group_word in (
        (nowhere, g.0),
        token nowhere comma ∷ g.1,
        record { front = token nowhere comma ∷ []; back = g.1; whole = refl; first = refl; second = g.2 },
        (tt, g.3),
      )

  pub operands_word : HasWord operands_notion l
  operands_word =
      let g = comma_word in (
        (leaf, g.0),
        leaf_tokens ++ g.1,
        record {
          front = leaf_tokens;
          back = g.1;
          whole = refl;
          first = leaf_reads 6;
          second = g.2;
        },
        (pos, g.3),
      )

  pub comma_first : First comma_notion comma_run l
  comma_first =
      both_first (sign_notion comma) (λ x. group_notion) l (λ m. the_mark mark.COMMA) (λ x. group_run) (λ x y v r h f.
      tt) (λ x. group_word) ((expect_reader comma).sound l) (λ m c. (expect_reader comma).complete m)
      ((expect_reader comma).first l pos) (λ x. group_first)

  pub operands_first : First operands_notion operands_run l
  operands_first = both_first (tree_notion 6) (λ x. comma_notion) l (tree_run 6) (λ x. comma_run) comma_follows (λ x.
      comma_word) sound complete first (λ x. comma_first)

  pub two_first : First two_notion two_run l
  two_first =
      both_first (sign_notion opened) (λ x. operands_notion) l (λ m. the_mark mark.LEFT_PARENTHESIS) (λ x.
      operands_run) (λ x y v r h f. tt) (λ x. operands_word) ((expect_reader opened).sound l) (λ m c.
      (expect_reader opened).complete m) ((expect_reader opened).first l pos)
      (λ x. operands_first)
